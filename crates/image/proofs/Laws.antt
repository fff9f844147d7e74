-- Laws of images. No contract cites this file.
use Prim.Native.Nat.{ℕ, zero, suc, ◌+◌, ◌-◌, ◌*◌, ◌/◌, ◌≤◌, ◌<◌}
use native.Mathlib.Omega.{arith}
use mathlib.Core.Path.{◌≡◌, refl, sym, ap, ◌∙◌}
use mathlib.Core.Bool.{Bool, true, false, not}
use mathlib.Core.List.{List, [], ◌∷◌, ◌++◌, append-nil}
use lib.ListN.{length, take, drop, get_or, replicate, length-append, length-replicate}
use borrow.Author.Tests.{le-leb, lt-leb, not-true, not-false}
use Rattle.answer.specs.declared.Answer.{Answer}
use Rattle.answer.specs.declared.Written.{Written}
use Rattle.answer.specs.Paper.{number_of, written}
use Rattle.octets.specs.Octets.{if_set, field, put}
use Rattle.octets.proofs.Laws.{put_not, put_nil}
pub use Rattle.octets.proofs.Laws.{before}
use Rattle.std.specs.Prelude.{Option, Some, None, IfSome}
use Rattle.image.specs.Image.{address_bytes, little_endian_bytes, little_endian, head, head_size, refusal_image, report, read_number, read_image, write_number, write_output, write_report}

-- ---- numbers
pub length_little_endian_bytes_law : (w x : ℕ) → length (little_endian_bytes w x) ≡ w
unfolding little_endian_bytes
length_little_endian_bytes_law zero x = refl
length_little_endian_bytes_law (suc w) x = ap suc (length_little_endian_bytes_law w (x / 256))

-- the number of eight bytes
pub eight : (l : List ℕ) → length l ≡ 8 → little_endian l ≡ get_or l 0 0 + 256 * (get_or l 1 0 + 256 * (get_or l 2 0 + 256 * (get_or l 3 0 + 256 * (get_or l 4 0 + 256 * (get_or l 5 0 + 256 * (get_or l 6 0 + 256 * get_or l 7 0))))))
unfolding little_endian
eight (a ∷ b ∷ c ∷ d ∷ e ∷ f ∷ g ∷ h ∷ []) q = omega arith
eight [] q = absurd (omega arith)
eight (a ∷ []) q = absurd (omega arith)
eight (a ∷ b ∷ []) q = absurd (omega arith)
eight (a ∷ b ∷ c ∷ []) q = absurd (omega arith)
eight (a ∷ b ∷ c ∷ d ∷ []) q = absurd (omega arith)
eight (a ∷ b ∷ c ∷ d ∷ e ∷ []) q = absurd (omega arith)
eight (a ∷ b ∷ c ∷ d ∷ e ∷ f ∷ []) q = absurd (omega arith)
eight (a ∷ b ∷ c ∷ d ∷ e ∷ f ∷ g ∷ []) q = absurd (omega arith)
eight (a ∷ b ∷ c ∷ d ∷ e ∷ f ∷ g ∷ h ∷ i ∷ l) q = absurd (omega arith)

-- zeros behind it don't change a number
pub zeros_behind : (bs zs : List ℕ) → little_endian zs ≡ 0 → little_endian (bs ++ zs) ≡ little_endian bs
unfolding little_endian
zeros_behind [] zs e = e
zeros_behind (b ∷ bs) zs e = rw (zeros_behind bs zs e)

pub zeros : (n m : ℕ) → little_endian (drop n (replicate m 0)) ≡ 0
unfolding little_endian
zeros zero zero = refl
zeros (suc n) zero = refl
zeros zero (suc m) = rw (zeros zero m)
zeros (suc n) (suc m) = zeros n m

-- ---- what is read from a part of bytes that is as wide as a flag says, and a field of it
pub part_at : {A : Type 0} (f : List ℕ → A) (m p : List ℕ) (at u w : ℕ) (g : Bool) (r : A) → u ≡ if_set g w → p ≡ take u (drop at m) → r ≡ f p → r ≡ f (field m at (if_set g w))
part_at f m p at u w g r k q e = rw (q, k) at e

pub part_value_law : {A : Type 0} (f : List ℕ → A) (value : A → ℕ) (m p : List ℕ) (at u w : ℕ) (g : Bool) (r : A) → u ≡ if_set g w → p ≡ take u (drop at m) → r ≡ f p → value r ≡ value (f (field m at (if_set g w)))
part_value_law f value m p at u w g r k q e = ap value (part_at f m p at u w g r k q e)

-- ---- how long the parts are
pub length_address_bytes : (n : ℕ) (a : Option (List ℕ)) → IfSome a (λ bs. length bs ≡ n) → length (address_bytes n a) ≡ n
unfolding address_bytes
length_address_bytes n (Some bs) e = e
length_address_bytes n None e = length-replicate n 0

pub length_head : (a : Answer) (n : ℕ) → length (head a n) ≡ 40
unfolding head
length_head a n = simp (length-append, length_little_endian_bytes_law) (omega arith)

-- ---- an image is put from its back to its front: these bytes stand from a place on to its end, and the rest is as it was
pub record Back (d : List ℕ) (size at : ℕ) (ys e : List ℕ) : Type 0 where
  pub room : size ≤ length d
  pub ends : at + length ys ≡ size
  pub is : e ≡ put d at ys

module _ {d d' ys : List ℕ} {size m : ℕ} (b : Back d size m ys d') where
  step : {e : List ℕ} (at : ℕ) (xs : List ℕ) → e ≡ put d' at xs → m ≡ at + length xs → Back d size at (xs ++ ys) e
  step {e} at xs q k =
      let room = b.room in
      let ends = b.ends in
      record { room = room; ends = omega (arith, length-append xs ys); is = before d d' e at m xs ys b.is q k (omega arith) }

  pub then_number : {e : List ℕ} (at x : ℕ) → e ≡ put d' at (little_endian_bytes 8 x) → m ≡ at + 8 → Back d size at (little_endian_bytes 8 x ++ ys) e
  then_number at x q k = step at (little_endian_bytes 8 x) q (omega (arith, length_little_endian_bytes_law 8 x))

  pub then_byte : {e : List ℕ} (at x : ℕ) → e ≡ put d' at (x ∷ []) → m ≡ at + 1 → Back d size at (x ∷ ys) e
  then_byte at x q k = step at (x ∷ []) q k

  pub then_part : {e : List ℕ} (w at : ℕ) (xs : List ℕ) → length xs ≡ w → e ≡ put d' at xs → m ≡ at + w → Back d size at (xs ++ ys) e
  then_part w at xs l q k = step at xs q (omega arith)

  pub then_field : {e : List ℕ} (w at : ℕ) (a : Option (List ℕ)) → IfSome a (λ bs. length bs ≡ w) → e ≡ put d' at (address_bytes w a) → m ≡ at + w → Back d size at (address_bytes w a ++ ys) e
  then_field w at a l q k = then_part w at (address_bytes w a) (length_address_bytes w a l) q k

  pub then_head : {e : List ℕ} (a : Answer) (n : ℕ) → e ≡ put d' 0 (head a n) → m ≡ 40 → e ≡ put d 0 (head a n ++ ys)
  then_head a n q k = (step 0 (head a n) q (omega (arith, length_head a n))).is

-- the last field of an image
pub last_part : {d e : List ℕ} (size w at : ℕ) (xs : List ℕ) → size ≤ length d → length xs ≡ w → at + w ≡ size → e ≡ put d at xs → Back d size at xs e
last_part size w at xs r l k q = record { room = r; ends = omega arith; is = q }

pub last_field : {d e : List ℕ} (size w at : ℕ) (a : Option (List ℕ)) → size ≤ length d → IfSome a (λ bs. length bs ≡ w) → at + w ≡ size → e ≡ put d at (address_bytes w a) → Back d size at (address_bytes w a) e
last_field size w at a r l k q = last_part size w at (address_bytes w a) r (length_address_bytes w a l) k q

-- ---- the image of a refused read
module _ (size : ℕ) (d : List ℕ) (a : Answer) where
  pub refusal_not : length d < size → d ≡ put d 0 (refusal_image size a)
  unfolding refusal_image
  refusal_not h =
      let zs : List ℕ = replicate (size - head_size) 0 in
      sym (put_not d 0 (head a 0 ++ zs) (omega (arith, length-append (head a 0) zs, length_head a 0, length-replicate {A = ℕ} (size - head_size) 0)))

  pub refusal_put : (d' e : List ℕ) → size ≤ length d → d' ≡ put d head_size (replicate (size - head_size) 0) → e ≡ put d' 0 (head a 0) → e ≡ put d 0 (refusal_image size a)
  unfolding refusal_image
  refusal_put d' e h q p = go (size - head_size) refl q
    where
      go : (n : ℕ) → size - head_size ≡ n → d' ≡ put d head_size (replicate n 0) → e ≡ put d 0 (head a 0 ++ replicate n 0)
      go zero k q = rw (append-nil (head a 0)) (p ∙ ap (λ (l : List ℕ). put l 0 (head a 0)) (q ∙ put_nil d head_size))
      go (suc n) k q = before d d' e 0 head_size (head a 0) (replicate (suc n) 0) q p (omega (arith, length_head a 0)) (omega (arith, length-replicate {A = ℕ} (suc n) 0))

-- ---- a read: what is answered and put of what was read is answered and put of what `read` says
pub answers : {R : Type 0} (answer : R → Answer) (image : R → List ℕ) {r s : R} {k : ℕ} {o' : List ℕ} (o : List ℕ) → r ≡ s → (k ≡ number_of (answer r)) × (o' ≡ put o 0 (image r)) → (k ≡ number_of (answer s)) × (o' ≡ put o 0 (image s))
answers answer image o e (p, q) = (p ∙ ap (λ x. number_of (answer x)) e, q ∙ ap (λ x. put o 0 (image x)) e)

-- by whether the lent memory has the image's size
module _ {size : ℕ} (d bs : List ℕ) (a : Answer) where
  pub read_short : length d < size → (8 ≡ read_number size d a) × (d ≡ read_image size d bs)
  unfolding read_number read_image
  read_short h = rw (lt-leb _ _ h) (refl, refl)

  pub read_long : {k : ℕ} {e : List ℕ} → size ≤ length d → (k ≡ number_of a) × (e ≡ put d 0 bs) → (k ≡ read_number size d a) × (e ≡ read_image size d bs)
  unfolding read_number read_image
  read_long h p = rw (le-leb _ _ h) p

-- ---- a write: its number, the output and the report, by whether the image and the report have their bytes
pub write_short : {ok t : Bool} (w : Written) (d e p : List ℕ) → t ≡ ok → not t ≡ true → (8 ≡ write_number ok w) × ((d ≡ write_output ok e d) × (p ≡ write_report ok p w))
unfolding write_number write_output write_report
write_short {ok} {t} w d e p k h = let f : false ≡ ok = sym (not-true t h) ∙ k in rw (← f) (refl, (refl, refl))

pub write_long : {ok t : Bool} {v w : Written} {r : ℕ} {e o q : List ℕ} (d p : List ℕ) → t ≡ ok → not t ≡ false
    → (v ≡ w) × (o ≡ e)
    → (r ≡ number_of v.answer) × (q ≡ put p 0 (report v))
    → (r ≡ write_number ok w) × ((o ≡ write_output ok e d) × (q ≡ write_report ok p w))
unfolding write_number write_output write_report
write_long {ok} {t} d p k h (f, g) (n, m) = let l : true ≡ ok = sym (not-false t h) ∙ k in rw (← l, ← f) (n, (g, m))

-- what is written of a record is written of the one that it equals: `form` is its written form
pub writes_same : {R : Type 0} (form : R → List ℕ) {r s : R} {v : Written} {o : List ℕ} (d : List ℕ) → r ≡ s
    → (v ≡ written (length (form r)) (length d)) × (o ≡ put d 0 (form r))
    → (v ≡ written (length (form s)) (length d)) × (o ≡ put d 0 (form s))
writes_same form d e (p, q) = (p ∙ ap (λ x. written (length (form x)) (length d)) e, q ∙ ap (λ x. put d 0 (form x)) e)
