-- Demand 3, said of a kind. It is proved for every kind at once (proofs/Demand3.antt).
use Rattle.std.specs.Prelude.{ℕ, ◌≤◌, ◌≡◌, List, ◌++◌, ◌↔◌, length, take, drop}
use Rattle.octets.specs.Octets.{put}
use Rattle.kind.specs.Kind.{Reads, Kind}

pub record Demand3 (k : Kind) : Type 0 where
  -- two accepted payloads have one value exactly when they are equal once cut and cleared
  pub same : {s t : List ℕ} {v w : k.Value} {m n : ℕ} → Reads k.reader s v m → Reads k.reader t w n → v ≡ w ↔ k.clear (take m s) ≡ k.clear (take n t)
  -- the written form reads back, all of it used
  pub read_back : {s : List ℕ} {v : k.Value} {n : ℕ} → Reads k.reader s v n → Reads k.reader (k.wire v) v (length (k.wire v))
  -- two values that a reader gives never share written bytes
  pub apart : {s t : List ℕ} {v w : k.Value} {m n : ℕ} → Reads k.reader s v m → Reads k.reader t w n → k.wire v ≡ k.wire w → v ≡ w
  -- written where there is room, a value that was read gives exactly the cut and cleared payload, and no byte behind that changes
  pub stored : {s : List ℕ} {v : k.Value} {n : ℕ} → Reads k.reader s v n → (out : List ℕ) → length (k.wire v) ≤ length out
      → (take (length (k.wire v)) (put out 0 (k.wire v)) ≡ k.clear (take n s)) × (drop (length (k.wire v)) (put out 0 (k.wire v)) ≡ drop (length (k.wire v)) out)

-- no written form of a value that was read is a proper beginning of another's
pub record PrefixFree (k : Kind) : Type 0 where
  pub no_beginning : {s t : List ℕ} {v w : k.Value} {m n : ℕ} (u : List ℕ) → Reads k.reader s v m → Reads k.reader t w n → k.wire w ≡ k.wire v ++ u → v ≡ w
