-- A type and what follows it, written: what the promises of the two writers say at each return. No contract cites this file.
use Prim.Native.Nat.{ℕ, ◌+◌, ◌≤◌, ◌<◌}
use native.Mathlib.Omega.{arith}
use mathlib.Core.Path.{◌≡◌, refl}
use mathlib.Core.List.{List, [], ◌∷◌}
use lib.ListN.{length}
use borrow.Author.Tests.{le-leb, lt-leb}
use Rattle.answer.specs.declared.Answer.TheVariants.{Done, OutputTooLong, NoRoom}
use Rattle.answer.specs.declared.Written.{Written}
use Rattle.octets.specs.Octets.{put}
use Rattle.octets.proofs.Laws.{ends, then}
use Rattle.kind.specs.Write.{too_long_output, answered, stored}
use Rattle.kind.proofs.Cases.{no_room, all_put}

module _ (k : ℕ) (bs d : List ℕ) where
  -- what the two promises say
  abbrev pub Ends : Written → List ℕ → Type 0
  Ends w o = (w ≡ answered (too_long_output (length (k ∷ bs))) (k ∷ bs) (length d)) × (o ≡ stored (too_long_output (length (k ∷ bs))) d (k ∷ bs))

  pub too_wide : 65534 < length bs → Ends (record { answer = OutputTooLong; len = 0 }) d
  unfolding answered stored
  too_wide h = let g = lt-leb (length (k ∷ bs)) 65535 (omega arith) in (rw g, rw g)

  module _ (h : length bs ≤ 65534) where
    long : length (k ∷ bs) ≡ 1 + length bs
    long = omega arith

    pub short : length d < 1 + length bs → Ends (record { answer = NoRoom (1 + length bs); len = 0 }) d
    unfolding answered stored
    short g = rw (le-leb (length (k ∷ bs)) 65535 (omega arith)) (no_room d (k ∷ bs) (1 + length bs) long g)

    pub done : (d1 d2 : List ℕ) → 1 + length bs ≤ length d → d1 ≡ put d 0 (k ∷ []) → d2 ≡ put d1 1 bs → Ends (record { answer = Done; len = 1 + length bs }) d2
    unfolding answered stored
    done d1 d2 g p q = rw (le-leb (length (k ∷ bs)) 65535 (omega arith)) (all_put d (k ∷ bs) (1 + length bs) long d2 g (then (k ∷ []) 1 p refl (ends q)))

-- of an address, whose length is known
module _ (k n : ℕ) (bs d : List ℕ) (l : length bs ≡ n) (h : n ≤ 65534) where
  pub short_address : length d < 1 + n → Ends k bs d (record { answer = NoRoom (1 + n); len = 0 }) d
  short_address g = rw (← l) (short k bs d (rw l h) (rw l g))

  pub done_address : (d1 d2 : List ℕ) → 1 + n ≤ length d → d1 ≡ put d 0 (k ∷ []) → d2 ≡ put d1 1 bs → Ends k bs d (record { answer = Done; len = 1 + n }) d2
  done_address d1 d2 g p q = rw (← l) (done k bs d (rw l h) d1 d2 (rw l g) p q)
