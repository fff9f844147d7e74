-- Demand 3, once for every kind. No contract cites this file.
use Prim.Native.Nat.{ℕ}
use mathlib.Core.Path.{◌≡◌, ◌∙◌, ap, sym}
use mathlib.Core.List.{List, ◌++◌}
use lib.ListN.{length, take}
use Rattle.octets.proofs.Laws.{put_start, put_rest}
use Rattle.kind.specs.Kind.{Reads, Kind, Local}
use Rattle.kind.specs.Demand3.{Demand3, PrefixFree}

module _ (k : Kind) where
  same_value : {s t : List ℕ} {v w : k.Value} {m n : ℕ} → Reads k.reader s v m → Reads k.reader t w n → v ≡ w → k.clear (take m s) ≡ k.clear (take n t)
  same_value r q e = sym (k.written r) ∙ ap k.wire e ∙ k.written q

  same_bytes : {s t : List ℕ} {v w : k.Value} {m n : ℕ} → Reads k.reader s v m → Reads k.reader t w n → k.clear (take m s) ≡ k.clear (take n t) → v ≡ w
  same_bytes r q e = sym (k.again r).value ∙ ap k.reader.value e ∙ (k.again q).value

  back : {s : List ℕ} {v : k.Value} {n : ℕ} → Reads k.reader s v n → Reads k.reader (k.wire v) v (length (k.wire v))
  back r = rw (k.written r) (k.again r)

  pub demand3 : Demand3 k
  demand3 =
      record {
        same = λ r q. (same_value r q, same_bytes r q);
        read_back = back;
        apart = λ r q e. same_bytes r q (sym (k.written r) ∙ e ∙ k.written q);
        stored = λ {s} {v} r out h. (put_start out (k.wire v) h ∙ k.written r, put_rest out (k.wire v) h);
      }

  module _ (l : Local k) where
    unlike : {s t : List ℕ} {v w : k.Value} {m n : ℕ} (u : List ℕ) → Reads k.reader s v m → Reads k.reader t w n → k.wire w ≡ k.wire v ++ u → v ≡ w
    unlike {v = v} {w = w} u r q e =
        let longer = l.more u (rw e at (back q).bytes) (rw e at (k.short (back q))) (back r) in
        sym longer.value ∙ ap k.reader.value (sym e) ∙ (back q).value

    pub prefix_free : PrefixFree k
    prefix_free = record { no_beginning = unlike }
