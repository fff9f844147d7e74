-- `octets::put_address` meets its contract: by whether there is an address, and by the room.
use Rattle.std.proofs.Common.{◌≡◌, ◌∷◌, [], ℕ, ◌+◌, ◌*◌, ◌<◌, ◌≤◌, List, length, take, set, get_or, arith, rules}
use mathlib.Core.Path.{sym, ap, refl, ◌∙◌}
use native.Mathlib.Numerals.{add-one}
use Rattle.std.proofs.Math.Seq.{take-suc}
use lib.Seq.{length-take-le, take_all}
use borrow.Author.Tests.{leb-true, leb-false}
use Rattle.octets.specs.Octets.{bytes_if, put}
use Rattle.octets.proofs.Laws.{put_nil, put_not, put_set, put_put, length_put}
use Rattle.octets.proofs.put_address.Goals as goal

pub returns-in_default : goal.returns-in_default
unfolding bytes_if
returns-in_default g c = rw c.in_default.is (sym (put_nil _ _))

pub returns-then-not-has_room : goal.returns-then-not-has_room
unfolding bytes_if
returns-then-not-has_room g c =
    let long : length c.in-Some.octets ≡ g.row.N = search rules in
    let lacks : length c.args.out.now < c.args.at + g.row.N = leb-false _ _ (sym c.has_room.ensures ∙ c.if-not-has_room.true) in
    rw c.in-Some.is (sym (put_not _ _ _ (omega (arith, long))))

-- one byte more
byte_put : (d e : List ℕ) (at i : ℕ) (bs : List ℕ) → i < length bs → at + length bs ≤ length d → e ≡ put d at (take i bs) → set e (at + i) (get_or bs i 0) ≡ put d at (take (i + 1) bs)
byte_put d e at i bs h room q =
    let n : length (take i bs) ≡ i = length-take-le i bs (omega arith) in
    let l : length e ≡ length d = ap length q ∙ length_put d at (take i bs) in
    put_set e (at + i) (get_or bs i 0) (omega arith)
    ∙ ap (λ (x : List ℕ). put x (at + i) (get_or bs i 0 ∷ [])) q
    ∙ put_put d at (at + i) (take i bs) (get_or bs i 0 ∷ []) (omega arith) (omega arith)
    ∙ ap (put d at) (sym (rw (← add-one) at (take-suc bs i 0 h)))

-- the same, its place and what is put then as they stand
byte_at : (d e : List ℕ) (at i p n : ℕ) (bs : List ℕ) → p ≡ at + i → n ≡ i + 1 → i < length bs → at + length bs ≤ length d → e ≡ put d at (take i bs) → set e p (get_or bs i 0) ≡ put d at (take n bs)
byte_at d e at i p n bs s m h room q = rw s (rw m (byte_put d e at i bs h room q))

-- four bytes more, each from its place, however that is said
four_put : (d e : List ℕ) (at k s0 s1 s2 s3 : ℕ) (bs : List ℕ) → s0 ≡ 4 * k → s1 ≡ 4 * k + 1 → s2 ≡ 4 * k + 2 → s3 ≡ 4 * k + 3
    → 4 * k + 4 ≤ length bs → at + length bs ≤ length d → e ≡ put d at (take (4 * k) bs)
    → set (set (set (set e (at + 4 * k) (get_or bs s0 0)) (at + 4 * k + 1) (get_or bs s1 0)) (at + 4 * k + 2) (get_or bs s2 0)) (at + 4 * k + 3) (get_or bs s3 0)
    ≡ put d at (take (4 * (k + 1)) bs)
four_put d e at k s0 s1 s2 s3 bs q0 q1 q2 q3 h room q =
    let i = 4 * k in
    let one = byte_at d e at i (at + i) (i + 1) bs refl refl (omega arith) room q in
    let two = byte_at d _ at (i + 1) (at + i + 1) (i + 2) bs (omega arith) (omega arith) (omega arith) room one in
    let three = byte_at d _ at (i + 2) (at + i + 2) (i + 3) bs (omega arith) (omega arith) (omega arith) room two in
    rw q0 (rw q1 (rw q2 (rw q3 (byte_at d _ at (i + 3) (at + i + 3) (4 * (k + 1)) bs (omega arith) (omega arith) (omega arith) room three))))

pub loop-i-init : goal.loop-i-init
loop-i-init g c = sym (put_nil _ _)

pub loop-i-preserved : goal.loop-i-preserved
loop-i-preserved g c =
    let long : length c.in-Some.octets ≡ g.row.N = search rules in
    let room : c.args.at + g.row.N ≤ length c.args.out.now = leb-true _ _ (sym c.has_room.ensures ∙ c.if-not-has_room.false) in
    byte_put _ _ _ _ _ (omega (arith, long)) (omega (arith, long)) c.loop-i.invariant

pub loop-k-init : goal.loop-k-init
loop-k-init g c = sym (put_nil _ _)

pub loop-k-preserved : goal.loop-k-preserved
loop-k-preserved g c =
    let long : length c.in-Some.octets ≡ g.row.N = search rules in
    let room : c.args.at + g.row.N ≤ length c.args.out.now = leb-true _ _ (sym c.has_room.ensures ∙ c.if-not-has_room.false) in
    four_put _ _ _ _ _ _ _ _ _ (omega arith) (omega arith) (omega arith) (omega arith) (omega (arith, long, c.loop-k-test.true)) (omega (arith, long))
    c.loop-k.invariant

pub returns-then-this-ne0 : goal.returns-then-this-ne0
unfolding bytes_if
returns-then-this-ne0 g c =
    let long : length c.in-Some.octets ≡ g.row.N = search rules in
    rw c.in-Some.is (c.loop-i.invariant ∙ ap (put c.args.out.now c.args.at) (take_all _ _ (omega (arith, long))))

pub returns : goal.returns
unfolding bytes_if
returns g c =
    let long : length c.in-Some.octets ≡ g.row.N = search rules in
    rw c.in-Some.is (c.loop-k.invariant ∙ ap (put c.args.out.now c.args.at) (take_all _ _ (omega (arith, long, c.loop-k.auto.k-end, c.loop-k-test.false, c.if-this-ne0.false))))
