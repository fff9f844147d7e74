-- What the steps of the code give, and what the distance is worth. No contract cites this file.
use Rattle.std.proofs.Common.{◌≡◌, ℕ, zero, suc, ◌+◌, ◌-◌, ◌*◌, ◌%◌, ◌<◌, ◌≤◌, Bool, true, false, ltb, leb, ℤ, pos, negsuc, ◌+ℤ◌, ◌-ℤ◌, ◌*ℤ◌, neg_ℤ, sym, refl, ap, ◌∙◌, arith, le→leb, leb→le, w32, SFits, to_z, of_z, ltb-false, ltb-true, le-ltb, lt-ltb, le-leb, leb-false, leb-true, ◌⊎◌, inl, inr}
use lib.IntN.{sub_ℕ, pos-ne-negsuc}
use lib.Signed.{mag}
use mir.ValLaws.{to_z_pos, to_z-of_z}
use borrow.Author.Tests.{lt-leb}
use Rattle.answer.specs.declared.Answer.TheVariants.{Done, NoSequenceNumber}
use Rattle.distance.specs.Distance.{forward, signed, signed_distance, distance, InRange, Leads, Laws}
use Rattle.distance.proofs.Integers.{sub_less, sub_eq, sub_inj, add_sub, up, down, view, times}

-- ---- a number of steps forward, signed
pub near : (f : ℕ) → f < 8388608 → signed (ltb f 8388608) f ≡ pos f
near f h = rw (lt-ltb f 8388608 h)

back : (f : ℕ) → f < 16777216 → pos f -ℤ pos 16777216 ≡ negsuc (16777215 - f)
back f h = let q : 16777216 - suc f ≡ 16777215 - f = omega arith in sub_less f 16777216 h ∙ ap negsuc q

pub far : (f : ℕ) → 8388608 ≤ f → f < 16777216 → signed (ltb f 8388608) f ≡ negsuc (16777215 - f)
far f h g = rw (le-ltb f 8388608 h) (back f g)

-- ---- the code's steps
pub above : (from to : ℕ) → ((16777215 < from) ⊎ ((from ≤ 16777215) × (16777215 < to))) → record { answer = NoSequenceNumber; value = pos 0 } ≡ distance from to
unfolding distance
above from to (inl h) = rw (lt-leb from 16777215 h)
above from to (inr h) = rw (le-leb from 16777215 h.0, lt-leb to 16777215 h.1)

pub above_from : (from to : ℕ) → 16777215 < from → record { answer = NoSequenceNumber; value = pos 0 } ≡ distance from to
above_from from to h = above from to (inl h)

pub above_to : (from to : ℕ) → from ≤ 16777215 → 16777215 < to → record { answer = NoSequenceNumber; value = pos 0 } ≡ distance from to
above_to from to g h = above from to (inr (g, h))

-- a number of steps below the circle, as an i32, and with the circle taken away
steps : (f : ℕ) → f < 16777216 → to_z w32 f ≡ pos f
steps f h = to_z_pos w32 f (omega arith)

pub back_fits : (r : ℕ) → SFits w32 (to_z w32 (r % 16777216) -ℤ pos 16777216)
back_fits r =
    let f = r % 16777216 in
    let e = ap (λ (z : ℤ). z -ℤ pos 16777216) (steps f (omega arith)) ∙ back f (omega arith) in
    record { sfits = rw e (omega arith) }

module _ (from to : ℕ) (g : from ≤ 16777215) (h : to ≤ 16777215) where
  done : (d : ℤ) → d ≡ signed_distance from to → record { answer = Done; value = d } ≡ distance from to
  unfolding distance
  done d e = rw (le-leb from 16777215 g, le-leb to 16777215 h, e)

  -- whatever number of steps leads there around 2 to the 32nd
  module _ (r : ℕ) (fits : r < 4294967296) (wraps : (r + from) % 4294967296 ≡ to) where
    is_forward : r % 16777216 ≡ forward from to
    is_forward = omega arith

    pub done_near : r % 16777216 < 8388608 → record { answer = Done; value = to_z w32 (r % 16777216) } ≡ distance from to
    done_near k = done _ (steps (r % 16777216) (omega arith) ∙ sym (near (r % 16777216) k) ∙ ap (λ (f : ℕ). signed (ltb f 8388608) f) is_forward)

    pub done_far : 8388608 ≤ r % 16777216 → record { answer = Done; value = to_z w32 (of_z w32 (to_z w32 (r % 16777216) -ℤ pos 16777216)) } ≡ distance from to
    done_far k =
        done _
        (to_z-of_z w32 _ (back_fits r)
        ∙ ap (λ (z : ℤ). z -ℤ pos 16777216) (steps (r % 16777216) (omega arith))
        ∙ back (r % 16777216) (omega arith)
        ∙ sym (far (r % 16777216) k (omega arith))
        ∙ ap (λ (f : ℕ). signed (ltb f 8388608) f) is_forward)

  -- the code's number of steps forward: it subtracts around 2 to the 32nd
  abbrev wrapped : ℕ
  wrapped = (to + (4294967296 - from)) % 4294967296

  wrapped_fits : wrapped < 4294967296
  wrapped_fits = omega arith

  wrapped_wraps : (wrapped + from) % 4294967296 ≡ to
  wrapped_wraps = omega arith

  pub wrapped_near : wrapped % 16777216 < 8388608 → record { answer = Done; value = to_z w32 (wrapped % 16777216) } ≡ distance from to
  wrapped_near k = done_near wrapped wrapped_fits wrapped_wraps k

  pub wrapped_far : 8388608 ≤ wrapped % 16777216 → record { answer = Done; value = to_z w32 (of_z w32 (to_z w32 (wrapped % 16777216) -ℤ pos 16777216)) } ≡ distance from to
  wrapped_far k = done_far wrapped wrapped_fits wrapped_wraps k

-- ---- what the distance is worth
in_range : (d : ℤ) → mag d ≤ 8388607 → InRange d
in_range (pos a) h = record { low = record { le = tt }; high = record { le = le→leb a 8388607 h } }
in_range (negsuc a) h = record { low = record { le = le→leb a 8388607 h }; high = record { le = tt } }

mag_range : (d : ℤ) → InRange d → mag d ≤ 8388607
mag_range (pos a) r = leb→le a 8388607 r.high.le
mag_range (negsuc a) r = leb→le a 8388607 r.low.le

-- the equation of integers is one of numbers
module _ (from to : ℕ) (d k : ℤ) where
  left : pos from +ℤ d ≡ sub_ℕ (from + up d) (down d)
  left = ap (λ (z : ℤ). pos from +ℤ z) (view d) ∙ add_sub from (up d) (down d)

  right : pos to +ℤ k *ℤ pos 16777216 ≡ sub_ℕ (to + up k * 16777216) (down k * 16777216)
  right = ap (λ (z : ℤ). pos to +ℤ z) (times k 16777216) ∙ add_sub to (up k * 16777216) (down k * 16777216)

  to_numbers : pos from +ℤ d ≡ pos to +ℤ k *ℤ pos 16777216 → from + up d + down k * 16777216 ≡ to + up k * 16777216 + down d
  to_numbers e = sub_inj (from + up d) (down d) (to + up k * 16777216) (down k * 16777216) (sym left ∙ e ∙ right)

  of_numbers : from + up d + down k * 16777216 ≡ to + up k * 16777216 + down d → pos from +ℤ d ≡ pos to +ℤ k *ℤ pos 16777216
  of_numbers e = left ∙ sub_eq (from + up d) (down d) (to + up k * 16777216) (down k * 16777216) e ∙ sym right

module _ (from to : ℕ) (g : from ≤ 16777215) (h : to ≤ 16777215) where
  abbrev f : ℕ
  f = forward from to

  -- by which half of the circle the steps forward end in
  by_half : (P : ℤ → Type 0) → (f < 8388608 → P (pos f)) → (8388608 ≤ f → f < 16777216 → P (negsuc (16777215 - f))) → P (signed_distance from to)
  by_half P a b = go (ltb f 8388608) refl
    where
      go : (t : Bool) → ltb f 8388608 ≡ t → P (signed_distance from to)
      go true p = let k = ltb-true f 8388608 p in rw (near f k) (a k)
      go false p = let k = ltb-false f 8388608 p in let m : f < 16777216 = omega arith in rw (far f k m) (b k m)

  range : InRange (signed_distance from to)
  range = by_half InRange (λ k. in_range _ (omega arith)) (λ k m. in_range _ (omega arith))

  lead : (d k : ℤ) → from + up d + down k * 16777216 ≡ to + up k * 16777216 + down d → Leads from d to
  lead d k e = record { turns = k; meets = of_numbers from to d k e }

  -- one turn more or less, where the number 0 was passed
  leads : Leads from (signed_distance from to) to
  leads = by_half (λ d. Leads from d to) (λ k. ahead (leb from to) refl) (λ k m. behind (leb from to) refl m)
    where
      ahead : (t : Bool) → leb from to ≡ t → Leads from (pos f) to
      ahead true p = let k = leb-true from to p in lead (pos f) (pos 0) (omega arith)
      ahead false p = let k = leb-false from to p in lead (pos f) (pos 1) (omega arith)

      behind : (t : Bool) → leb from to ≡ t → f < 16777216 → Leads from (negsuc (16777215 - f)) to
      behind true p m = let k = leb-true from to p in lead (negsuc (16777215 - f)) (negsuc 0) (omega arith)
      behind false p m = let k = leb-false from to p in lead (negsuc (16777215 - f)) (pos 0) (omega arith)

  only : (d : ℤ) → InRange d → Leads from d to → d ≡ signed_distance from to
  only (pos a) r l =
      let m = mag_range (pos a) r in
      let k = l.turns in
      let e : from + a + down k * 16777216 ≡ to + up k * 16777216 + 0 = to_numbers from to (pos a) k l.meets in
      let q : f ≡ a = omega arith in
      ap pos (sym q) ∙ sym (near f (omega arith))
  only (negsuc a) r l =
      let m = mag_range (negsuc a) r in
      let k = l.turns in
      let e : from + 0 + down k * 16777216 ≡ to + up k * 16777216 + suc a = to_numbers from to (negsuc a) k l.meets in
      let q : f ≡ 16777215 - a = omega arith in
      let q' : a ≡ 16777215 - f = omega arith in
      ap negsuc q' ∙ sym (far f (omega arith) (omega arith))

  self : signed_distance from from ≡ pos 0
  self = let q : forward from from ≡ 0 = omega arith in rw q

module _ (from to : ℕ) (g : from ≤ 16777215) (h : to ≤ 16777215) where
  abbrev there : ℕ
  there = forward from to

  abbrev again : ℕ
  again = forward to from

  swap : (signed_distance from to ≡ negsuc 8388607 → ⊥) → signed_distance to from ≡ neg_ℤ (signed_distance from to)
  swap apart = by_half from to g h (λ d. (d ≡ negsuc 8388607 → ⊥) → signed_distance to from ≡ neg_ℤ d) (λ k n. forth there refl k) (λ k m n. turned k m n) apart
    where
      forth : (x : ℕ) → there ≡ x → there < 8388608 → signed_distance to from ≡ neg_ℤ (pos there)
      forth zero e k = let q : again ≡ 0 = omega arith in rw (q, e)
      forth (suc x) e k =
          let q : 16777215 - again ≡ x = omega arith in
          far again (omega arith) (omega arith) ∙ ap negsuc q ∙ ap neg_ℤ (ap pos (sym e))

      turned : 8388608 ≤ there → there < 16777216 → (negsuc (16777215 - there) ≡ negsuc 8388607 → ⊥) → signed_distance to from ≡ neg_ℤ (negsuc (16777215 - there))
      turned k m n =
          let z : (there ≡ 8388608 → ⊥) = λ e. n (ap (λ (x : ℕ). negsuc (16777215 - x)) e) in
          let q : again ≡ suc (16777215 - there) = omega (arith, z) in
          near again (omega (arith, z)) ∙ ap pos q

  half : signed_distance from to ≡ negsuc 8388607 → signed_distance to from ≡ negsuc 8388607
  half e = by_half from to g h (λ d. d ≡ negsuc 8388607 → signed_distance to from ≡ negsuc 8388607) (λ k n. absurd (pos-ne-negsuc _ _ n)) (λ k m n. opposite k m n) e
    where
      opposite : 8388608 ≤ there → there < 16777216 → negsuc (16777215 - there) ≡ negsuc 8388607 → signed_distance to from ≡ negsuc 8388607
      opposite k m n =
          let z : 16777215 - there ≡ 8388607 = ap mag n in
          let q : 16777215 - again ≡ 8388607 = omega arith in
          far again (omega arith) (omega arith) ∙ ap negsuc q

  pub laws : Laws from to
  laws = record { range = range from to g h; leads = leads from to g h; only = only from to g h; swap = swap; half = half; self = self from to g h }
