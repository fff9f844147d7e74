-- What is put into an image is read back from it: numbers, flags, addresses, and so a record. No contract cites this file.
use Prim.Native.Nat.{ℕ, zero, suc, ◌+◌, ◌*◌, ◌/◌, ◌%◌, ◌^◌, ◌≤◌, ◌<◌}
use native.Mathlib.Nat.{add-zero, pow-suc, pow-zero, div-lt_iff_lt-mul, zero-div}
use native.Mathlib.Omega.{arith}
use mathlib.Core.Path.{◌≡◌, refl, sym, ap, ◌∙◌}
use mathlib.Core.Bool.{Bool, true, false}
use mathlib.Core.List.{List, [], ◌∷◌, ◌++◌, append_assoc, append-nil}
use lib.Dec.{eqb, lit<}
use lib.ListN.{length, take, drop, get_or, replicate, length-append, length-replicate}
use lib.Pow.{shr-shr}
use lib.Seq.{take_at, drop_at, drop-drop, get_or-drop}
use borrow.Author.Tests.{le-leb, eqb-true, ne_eqb}
use Rattle.answer.specs.declared.Answer.{Answer}
use Rattle.answer.specs.declared.Answer.TheVariants.{Done}
use Rattle.answer.specs.declared.Written.{Written}
use Rattle.answer.specs.Paper.{written}
use Rattle.kind.specs.Kind.{Kind, Reads}
use Rattle.kind.proofs.Demand3.{demand3}
use Rattle.octets.specs.Octets.{pick, bit, if_set, flag_byte, Bytes, field, big_endian, is_number, address_of, number_of, over, put}
use Rattle.octets.proofs.Laws.{bytes_take, bytes_drop, big_endian_less_law, number_below, number_fits, put_fits}
use Rattle.std.specs.Prelude.{Some, None, is_some, unwrap_or}
use Rattle.image.specs.Image.{address_bytes, little_endian_bytes, little_endian, number_at, head, read_image}
use Rattle.image.proofs.Laws.{length_little_endian_bytes_law, length_head}

-- ---- numbers and flags
little_endian_bytes_back_law : (w x : ℕ) → x < 256 ^ w → little_endian (little_endian_bytes w x) ≡ x
unfolding little_endian_bytes little_endian
little_endian_bytes_back_law zero x h = omega (arith, pow-zero 256)
little_endian_bytes_back_law (suc w) x h =
    let h' : x / 256 < 256 ^ w = (div-lt_iff_lt-mul {k = 256} (lit< tt)).1 (rw pow-suc at h) in
    rw (little_endian_bytes_back_law w (x / 256) h') (omega arith)

-- each flag of a byte
pub flag_back : (fs : List Bool) (k : ℕ) → bit k (flag_byte fs) ≡ get_or fs k false
unfolding flag_byte if_set
flag_back [] k = rw (zero-div (2 ^ k))
flag_back (f ∷ fs) zero = lowest f (flag_byte fs)
  where
    lowest : (f : Bool) (n : ℕ) → bit 0 (if_set f 1 + 2 * n) ≡ f
    lowest true n = let e : (1 + 2 * n) / 1 % 2 ≡ 1 = omega arith in rw e
    lowest false n = let e : (0 + 2 * n) / 1 % 2 ≡ 0 = omega arith in rw e
flag_back (f ∷ fs) (suc k) = rw (shifted f (flag_byte fs)) (flag_back fs k)
  where
    half : (f : Bool) (n : ℕ) → (if_set f 1 + 2 * n) / 2 ≡ n
    half true n = omega arith
    half false n = omega arith

    one_add : (k : ℕ) → suc k ≡ 1 + k
    one_add k = omega arith

    shifted : (f : Bool) (n : ℕ) → (if_set f 1 + 2 * n) / 2 ^ suc k ≡ n / 2 ^ k
    shifted f n =
        ap (λ (j : ℕ). (if_set f 1 + 2 * n) / 2 ^ j) (one_add k)
        ∙ sym (shr-shr (if_set f 1 + 2 * n) 1 k)
        ∙ ap (λ (x : ℕ). x / 2 ^ k) (half f n)

-- numbers that were read fit the bytes that they stood in
pub field_below : (s : List ℕ) (at w m : ℕ) → Bytes s → w ≤ m → big_endian (field s at w) < 256 ^ m
field_below s at w m b h = number_below s at w m _ h (big_endian_less_law (field s at w) (bytes_take w (drop at s) (bytes_drop at s b)))

-- and 0 where they are absent
pub number_below_law : (w : ℕ) (bs : List ℕ) → Bytes bs → 0 < 256 ^ w → unwrap_or (number_of w bs) 0 < 256 ^ w
unfolding number_of
number_below_law w bs b h = go (is_number w bs) refl
  where
    go : (t : Bool) → t ≡ is_number w bs → unwrap_or (pick t (Some (big_endian bs)) None) 0 < 256 ^ w
    go true e = number_fits w bs true e refl _ (big_endian_less_law bs b)
    go false e = h

module _ (bs : List ℕ) (b : Bytes bs) where
  pub u16_below : unwrap_or (number_of 2 bs) 0 < 256 ^ 2
  u16_below = number_below_law 2 bs b (omega arith)

  pub u32_below : unwrap_or (number_of 4 bs) 0 < 256 ^ 4
  u32_below = number_below_law 4 bs b (omega arith)

-- ---- bytes that stand at a place, whatever is behind them
pub record Stands (m : List ℕ) (at : ℕ) (bytes : List ℕ) : Type 0 where
  pub rest : List ℕ
  pub is : drop at m ≡ bytes ++ rest

-- Each law reads what stands at a place, and gives what stands behind it.
module _ {m ys : List ℕ} {at : ℕ} where
  pub part : (xs : List ℕ) (w : ℕ) → length xs ≡ w → Stands m at (xs ++ ys) → (field m at w ≡ xs) × Stands m (at + w) ys
  part xs w l h =
      let e : drop at m ≡ xs ++ (ys ++ h.rest) = h.is ∙ append_assoc xs ys h.rest in (
        ap (take w) e ∙ take_at xs (ys ++ h.rest) w l,
        record { rest = h.rest; is = sym (drop-drop w at m) ∙ ap (drop w) e ∙ drop_at xs (ys ++ h.rest) w l },
      )

  pub byte : {b : ℕ} → Stands m at (b ∷ ys) → (get_or m at 0 ≡ b) × Stands m (at + 1) ys
  byte {b} h =
      let first : get_or m at 0 ≡ b = ap (λ (k : ℕ). get_or m k 0) (sym (add-zero at)) ∙ sym (get_or-drop at m 0 0) ∙ ap (λ (l : List ℕ). get_or l 0 0) h.is in
      (first, (part (b ∷ []) 1 refl h).1)

  -- a number: all of it, and where its low bytes count
  pub number : (x : ℕ) → x < 256 ^ 8 → Stands m at (little_endian_bytes 8 x ++ ys) → (number_at m at ≡ x) × Stands m (at + 8) ys
  number x small h = let (e, next) = part (little_endian_bytes 8 x) 8 (length_little_endian_bytes_law 8 x) h in (ap little_endian e ∙ little_endian_bytes_back_law 8 x small, next)

  pub number32 : (x : ℕ) → x < 256 ^ 4 → Stands m at (little_endian_bytes 8 x ++ ys) → (number_at m at % 4294967296 ≡ x) × Stands m (at + 8) ys
  number32 x small h = let (e, next) = number x (omega arith) h in (rw e (omega arith), next)

  pub number16 : (x : ℕ) → x < 256 ^ 2 → Stands m at (little_endian_bytes 8 x ++ ys) → (number_at m at % 65536 ≡ x) × Stands m (at + 8) ys
  number16 x small h = let (e, next) = number x (omega arith) h in (rw e (omega arith), next)

-- a part that is two itself
pub apart : {m : List ℕ} {at : ℕ} (xs zs ys : List ℕ) → Stands m at ((xs ++ zs) ++ ys) → Stands m at (xs ++ (zs ++ ys))
apart xs zs ys h = record { rest = h.rest; is = h.is ∙ ap (λ (l : List ℕ). l ++ h.rest) (append_assoc xs zs ys) }

-- the last field has nothing behind it
pub last : {m xs : List ℕ} {at : ℕ} → Stands m at xs → Stands m at (xs ++ [])
last {xs = xs} h = record { rest = h.rest; is = h.is ∙ ap (λ (l : List ℕ). l ++ h.rest) (sym (append-nil xs)) }

-- an address as a reader gives it, there or absent
module _ (n : ℕ) (bs : List ℕ) where
  pub length_address : length (address_bytes n (address_of n bs)) ≡ n
  unfolding address_bytes address_of
  length_address = go (eqb (length bs) n) refl
    where
      go : (t : Bool) → eqb (length bs) n ≡ t → length (unwrap_or (pick t (Some bs) None) (replicate n 0)) ≡ n
      go true q = eqb-true (length bs) n q
      go false q = length-replicate n 0

  pub address : {m ys : List ℕ} {at : ℕ} → 0 < n → Stands m at (address_bytes n (address_of n bs) ++ ys)
      → (address_of n (field m at (if_set (is_some (address_of n bs)) n)) ≡ address_of n bs) × Stands m (at + n) ys
  unfolding address_bytes address_of if_set
  address {m} {ys} {at} some h = (go (eqb (length bs) n) refl h, (part (address_bytes n (address_of n bs)) n length_address h).1)
    where
      nothing : eqb 0 n ≡ false
      nothing = ne_eqb 0 n (λ e. absurd (omega arith))

      go : (t : Bool) → eqb (length bs) n ≡ t → Stands m at (unwrap_or (pick t (Some bs) None) (replicate n 0) ++ ys)
          → address_of n (field m at (if_set (is_some (pick t (Some bs) None)) n)) ≡ pick t (Some bs) None
      go true q h = rw ((part {ys = ys} bs n (eqb-true (length bs) n q) h).0, q)
      go false q h = rw nothing

-- ---- a record
-- these bytes, so many, are a record's: wherever they stand behind a head, the record is found
pub record ImageOf {R : Type 0} (size : ℕ) (record_at : List ℕ → R) (bytes : List ℕ) (r : R) : Type 0 where
  pub size_is : length bytes ≡ size
  pub found : (m : List ℕ) → Stands m 40 bytes → record_at m ≡ r

-- of one of two, by a test
pub image_either : {R : Type 0} {size : ℕ} {record_at : List ℕ → R} (bytes : R → List ℕ) (t : Bool) (x y : R)
    → (t ≡ true → ImageOf size record_at (bytes x) x) → (t ≡ false → ImageOf size record_at (bytes y) y)
    → ImageOf size record_at (bytes (pick t x y)) (pick t x y)
image_either bytes true x y f g = f refl
image_either bytes false x y f g = g refl

-- what a read laid stands at the start of the lent memory
stands : (size : ℕ) (d bytes : List ℕ) → length bytes ≡ size → size ≤ length d → Stands (read_image size d bytes) 0 bytes
unfolding read_image over
stands size d bytes l room = record { rest = drop (0 + length bytes) d; is = rw (le-leb size (length d) room) (put_fits d 0 bytes (omega arith)) }

-- and so its record is found there
pub image_left : {R : Type 0} (size : ℕ) {record_at : List ℕ → R} {bytes : List ℕ} {r : R} → ImageOf size record_at bytes r
    → (a : Answer) (n : ℕ) (d : List ℕ) → 40 + size ≤ length d → record_at (read_image (40 + size) d (head a n ++ bytes)) ≡ r
image_left size {bytes = bytes} i a n d room =
    let l : length (head a n ++ bytes) ≡ 40 + size = omega (arith, length-append (head a n) bytes, length_head a n, i.size_is) in
    i.found _ (part (head a n) 40 (length_head a n) (stands (40 + size) d (head a n ++ bytes) l room)).1

-- ---- what a write gives of the memory that a read left, of every kind: `left s d` is what a read of s leaves of d, which has the image's size;
-- from that memory and the texts, which are the payload's, `form` is the written form, `writes` what a write answers, `stores` the output that it leaves
module _ (k : Kind) (size : ℕ) (left form : List ℕ → List ℕ → List ℕ) (writes : List ℕ → List ℕ → List ℕ → Written) (stores : List ℕ → List ℕ → List ℕ → List ℕ) where
  pub record Again : Type 0 where
    -- the form is the cleared payload
    pub written_again : {s : List ℕ} {v : k.Value} {n : ℕ} → Reads k.reader s v n → (d : List ℕ) → size ≤ length d → form (left s d) s ≡ k.clear (take n s)
    -- with room for it the write is done, it stores just that, and no byte behind it changes
    pub stored_again : {s : List ℕ} {v : k.Value} {n : ℕ} → Reads k.reader s v n → (d : List ℕ) → size ≤ length d → (out : List ℕ) → length (k.wire v) ≤ length out
        → (writes (left s d) s out ≡ record { answer = Done; len = length (k.wire v) })
        × (take (length (k.wire v)) (stores (left s d) s out) ≡ k.clear (take n s))
        × (drop (length (k.wire v)) (stores (left s d) s out) ≡ drop (length (k.wire v)) out)

  -- where that form is the value's, and the write writes it
  pub again : ((s : List ℕ) (v : k.Value) (n : ℕ) → Reads k.reader s v n → (d : List ℕ) → size ≤ length d → form (left s d) s ≡ k.wire v)
      → ((s : List ℕ) (v : k.Value) (n : ℕ) → Reads k.reader s v n → (d : List ℕ) → size ≤ length d → (out : List ℕ)
      → (writes (left s d) s out ≡ written (length (form (left s d) s)) (length out)) × (stores (left s d) s out ≡ put out 0 (form (left s d) s)))
      → Again
  again same wrote =
      record {
        written_again = λ r d room. same _ _ _ r d room ∙ k.written r;
        stored_again = λ r d room out h.
            let (p, q) = wrote _ _ _ r d room out in
            let (just, behind) = (demand3 k).stored r out h in
            rw (p, q, same _ _ _ r d room) (rw (le-leb _ _ h), just, behind);
      }
