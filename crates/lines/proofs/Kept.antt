-- Bytes that are moved to the front of their own buffer one after another. No answer cites this file any more.
use Prim.Native.Nat.{ℕ, suc, ◌+◌, ◌-◌, ◌≤◌, ◌<◌}
use native.Mathlib.Nat.{min-le_left, min-le_right, add_comm}
use native.Mathlib.Numerals.{add-one}
use native.Mathlib.Omega.{arith}
use mathlib.Core.Path.{◌≡◌, sym, ap, ◌∙◌}
use mathlib.Core.List.{List, ◌++◌}
use lib.ListN.{length, take, drop, get_or, set}
use lib.Seq.{length-take-le, drop-cons, take-suc, take-length, append_snoc, set_at, get_or-append-add, get_or-take, get_or-drop}
use Rattle.octets.specs.Octets.{field, over, put}
use Rattle.octets.proofs.Laws.{put_fits}
use Rattle.lines.proofs.Laws.{length_there}

-- a buffer with the first i of some bytes at its front
abbrev pub front : List ℕ → List ℕ → ℕ → List ℕ
front s bs i = take i bs ++ drop i s

one_more : (s bs : List ℕ) (i : ℕ) → i < length bs → length bs ≤ length s → set (front s bs i) i (get_or bs i 0) ≡ front s bs (i + 1)
one_more s bs i more room =
    rw (drop-cons s i 0 (omega arith))
    (set_at (take i bs) (get_or s i 0) (drop (suc i) s) (get_or bs i 0) i (length-take-le i bs (omega arith))
    ∙ sym (append_snoc (take i bs) (get_or bs i 0) (drop (suc i) s))
    ∙ sym (rw (add-one, take-suc bs i 0)))

-- a field of the buffer, moved to its front byte by byte
module _ (s b : List ℕ) (from n count i : ℕ) (counted : count ≡ length (field s from n)) (so_far : b ≡ front s (field s from n) i) where
  room : length (field s from n) ≤ length s
  room = omega (arith, length_there s from n, min-le_right n (length s - from))

  -- the next byte still stands where it stood at first
  still_there : i < count → get_or (front s (field s from n) i) (from + i) 0 ≡ get_or (field s from n) i 0
  still_there more =
      let below : i < n = omega (arith, length_there s from n, min-le_left n (length s - from)) in
      let long : length (take i (field s from n)) ≡ i = length-take-le i (field s from n) (omega arith) in
      let place : from + i ≡ length (take i (field s from n)) + from = omega arith in
      rw place (get_or-append-add (take i (field s from n)) (drop i s) from 0)
      ∙ get_or-drop i s from 0
      ∙ ap (λ (k : ℕ). get_or s k 0) (add_comm i from)
      ∙ sym (get_or-take n (drop from s) i 0 below ∙ get_or-drop from s i 0)

  pub moved_on : i < count → set b i (get_or b (from + i) 0) ≡ front s (field s from n) (i + 1)
  moved_on more = rw so_far (rw (still_there more) (one_more s (field s from n) i (omega arith) room))

  -- with all of it there, it is put
  pub moved_all : i ≤ count → count ≤ i → b ≡ put s 0 (field s from n)
  unfolding over
  moved_all most all =
      let end : i ≡ length (field s from n) = omega arith in
      let start : 0 + length (field s from n) ≡ length (field s from n) = omega arith in
      so_far
      ∙ rw end (rw (take-length (field s from n)) (sym (put_fits s 0 (field s from n) (omega (arith, room)) ∙ ap (λ (k : ℕ). field s from n ++ drop k s) start)))
