-- Laws of bytes that are moved to the front of their own buffer. No contract cites this file.
use Rattle.std.proofs.Common.{ℕ, ◌≡◌, ◌+◌, ◌-◌, ◌≤◌, min, List, length, take, drop, sym, ap, ◌∙◌, arith, length-take, length-drop}
use Rattle.std.proofs.lemmas.List.{take_min, drop_min}
use Rattle.std.specs.List.{copy_within}
use Rattle.octets.specs.Octets.{field, over, put}
use Rattle.octets.proofs.Laws.{put_fits}

-- as many as are there
pub length_there : (s : List ℕ) (from n : ℕ) → length (field s from n) ≡ min n (length s - from)
length_there s from n = simp (length-take, length-drop)

-- the bytes from a place on, moved to the front
pub moved : (s : List ℕ) (from n start count : ℕ) → start ≡ min from (length s) → count ≡ min n (length s - start)
    → copy_within s start (start + count) 0 ≡ put s 0 (field s from n)
unfolding over
moved s from n start count e q =
    let long : length (field s from n) ≡ count = omega (arith, length_there s from n) in
    let behind : drop start s ≡ drop from s = ap (λ (k : ℕ). drop k s) e ∙ drop_min from s in
    let most : count ≡ min n (length (drop from s)) = omega (arith, length-drop from s) in
    let bytes : take count (drop start s) ≡ field s from n = rw behind (ap (λ (k : ℕ). take k (drop from s)) most ∙ take_min n (drop from s)) in
    let end : start + count - start ≡ count = omega arith in
    let fits : 0 + length (field s from n) ≤ length s = omega (arith, long) in
    let at : 0 + count ≡ 0 + length (field s from n) = omega (arith, long) in
    rw end (rw bytes (rw at (sym (put_fits s 0 (field s from n) fits))))
