use Prim.Native.Nat.{ℕ, ◌≤◌, ◌<◌}
use native.Mathlib.Omega.{arith}
use mathlib.Core.Path.{◌≡◌, sym}
use mathlib.Core.List.{List, ◌++◌}
use lib.ListN.{length, length-append}
use Rattle.answer.specs.declared.Answer.{Answer}
use Rattle.answer.specs.declared.Values.{Values}
use Rattle.answer.specs.Paper.{number_of, values_of}
use Rattle.octets.specs.Octets.{put}
use Rattle.octets.proofs.Laws.{put_not}
use Rattle.image.specs.Image.{little_endian_bytes, head}
use Rattle.image.proofs.Laws.{length_little_endian_bytes_law, length_head, before}
use Rattle.image.proofs.put_head.Goals as goal

read_back : (d : List ℕ) (a : Answer) (n : ℕ) → length d < 40 → d ≡ put d 0 (head a n)
read_back d a n h = sym (put_not d 0 (head a n) (omega (arith, length_head a n)))

stored : (d d1 d2 d3 d4 d5 : List ℕ) (a : Answer) (n k : ℕ) (v : Values) → 40 ≤ length d → v ≡ values_of a → k ≡ number_of a
    → d1 ≡ put d 32 (little_endian_bytes 8 n)
    → d2 ≡ put d1 24 (little_endian_bytes 8 v.2)
    → d3 ≡ put d2 16 (little_endian_bytes 8 v.1)
    → d4 ≡ put d3 8 (little_endian_bytes 8 v.0)
    → d5 ≡ put d4 0 (little_endian_bytes 8 k)
    → d5 ≡ put d 0 (head a n)
unfolding head
stored d d1 d2 d3 d4 d5 a n k v h e f q1 q2 q3 q4 q5 =
    let l0 = length_little_endian_bytes_law 8 k in
    let l1 = length_little_endian_bytes_law 8 v.0 in
    let l2 = length_little_endian_bytes_law 8 v.1 in
    let l3 = length_little_endian_bytes_law 8 v.2 in
    let l4 = length_little_endian_bytes_law 8 n in
    let r2 = before d d1 d2 24 32 _ _ q1 q2 (omega arith) (omega arith) in
    let r3 = before d d2 d3 16 24 _ _ r2 q3 (omega arith) (omega (arith, length-append (little_endian_bytes 8 v.2) (little_endian_bytes 8 n))) in
    let r4 = before d d3 d4 8 16 _ _ r3 q4 (omega arith) (omega (arith, length-append (little_endian_bytes 8 v.1) (little_endian_bytes 8 v.2 ++ little_endian_bytes 8 n), length-append (little_endian_bytes 8 v.2) (little_endian_bytes 8 n))) in
    let r5 = before d d4 d5 0 8 _ _ r4 q5 (omega arith) (omega (arith, length-append (little_endian_bytes 8 v.0) (little_endian_bytes 8 v.1 ++ (little_endian_bytes 8 v.2 ++ little_endian_bytes 8 n)), length-append (little_endian_bytes 8 v.1) (little_endian_bytes 8 v.2 ++ little_endian_bytes 8 n), length-append (little_endian_bytes 8 v.2) (little_endian_bytes 8 n))) in
    rw (e, f) at r5

pub returns-then-out-lt-HEAD : goal.returns-then-out-lt-HEAD
returns-then-out-lt-HEAD c = search read_back

pub returns : goal.returns
returns c =
    stored _ _ _ _ _ _ _ _ _ _ c.if-out-lt-HEAD.false c.values-values.ensures c.number.ensures c.put_u64.ensures c.put_u64-2.ensures c.put_u64-3.ensures c.put_u64-4.ensures c.put_u64-5.ensures
