-- Laws of bytes, numbers and outputs, each over the width, the place or the list. No contract cites this file.
use Prim.Native.Nat.{ℕ, zero, suc, ◌+◌, ◌-◌, ◌*◌, ◌/◌, ◌%◌, ◌^◌, ◌<◌, ◌≤◌}
use native.Mathlib.Nat.{mod-lt, div-add-mod', div-lt_iff_lt-mul, pow-suc, pow-zero, div-one, mod-one, pow-le-pow_right, lt_of_lt_of_le, not-suc-le-zero, suc-add, add-suc, add-zero}
use native.Mathlib.Numerals.{add-one}
use native.Mathlib.Omega.{arith}
use mathlib.Core.Path.{◌≡◌, refl, sym, ap, ap₂, ◌∙◌}
use mathlib.Core.Bool.{Bool, true, false, not, ◌&&◌}
use mathlib.Core.List.{List, [], ◌∷◌, ◌++◌, append-nil, append_assoc}
use lib.Arith.{digits_div, digits_mod, digits_lt}
use lib.ListN.{length, take, drop, get_or, set, length-append, length-take, length-drop, take-append-drop, replicate, length-replicate, drop_of_length-le}
use lib.Seq.{take_at, drop_at, drop-drop, length-take-le, take-set-le, set_split, append_snoc, take-length, take_all, drop-cons, take-take, take-add, take-append_seam, drop-append_seam}
use lib.Pow.{mod-pow-add, shr-shr}
use lib.Dec.{leb, eqb, lit<, ltb}
use borrow.Author.Tests.{le-leb, lt-leb, lt-ltb, leb-true, leb-false, eq-eqb, eqb-false, not-true, not-false}
use borrow.Rule.Slice.PartMut.{mid_of, put_mid}
use Rattle.std.specs.Prelude.{Option, Some, None, IfSome, is_some}
use Rattle.octets.specs.Octets.{pick, bit, if_set, flag_byte, Bytes, field, behind, big_endian, big_endian_bytes, bytes_if, is_number, address_of, number_of, presence, number_if, over, put}

-- ---- flags
pub if_set_le_law : (f : Bool) (n : ℕ) → if_set f n ≤ n
unfolding if_set
if_set_le_law true n = omega arith
if_set_le_law false n = omega arith

-- the width of a part that ends where a field under a flag ends
pub part_width : (at u w : ℕ) (f : Bool) → u ≡ if_set f w → at + u - at ≡ if_set f w
part_width at u w f e = omega arith

-- what a flag that was read says of its byte, and the byte of the flag
pub flag_of : (k b : ℕ) (f t : Bool) → f ≡ bit k b → f ≡ t → t ≡ bit k b
flag_of k b f t d e = sym e ∙ d

pub flag_is : (k b : ℕ) (f t : Bool) → f ≡ bit k b → f ≡ t → bit k b ≡ t
flag_is k b f t d e = sym d ∙ e

-- a flag's weight in its byte, from the byte that it was read from
pub bit_weight : (k b n : ℕ) → if_set (bit k b) n ≡ b / 2 ^ k % 2 * n
unfolding if_set
bit_weight k b n = either (b / 2 ^ k % 2) (mod-lt (b / 2 ^ k) {m = 2} (lit< tt))
  where
    either : (x : ℕ) → x < 2 → if_set (eqb x 1) n ≡ x * n
    either zero h = omega arith
    either (suc zero) h = omega arith
    either (suc (suc x)) h = absurd (omega arith)

pub if_set_times_law : (f : Bool) (n : ℕ) → if_set f n ≡ if_set f 1 * n
unfolding if_set
if_set_times_law true n = omega arith
if_set_times_law false n = omega arith

-- the flags read from k bits of a byte are those bits: bits j and up of b
abbrev pub bits_from : ℕ → ℕ → ℕ → List Bool
bits_from j zero b = []
bits_from j (suc k) b = bit j b ∷ bits_from (suc j) k b

flags_from : (j k b : ℕ) → flag_byte (bits_from j k b) ≡ b / 2 ^ j % 2 ^ k
unfolding flag_byte
flags_from j zero b = sym (mod-one (b / 2 ^ j))
flags_from j (suc k) b =
    let up : b / 2 ^ j / 2 ≡ b / 2 ^ suc j = rw add-one at (shr-shr b j 1) in
    let split : b / 2 ^ j % 2 ^ suc k ≡ b / 2 ^ j / 2 % 2 ^ k * 2 + b / 2 ^ j % 2 = rw add-one at (mod-pow-add (b / 2 ^ j) k 1) in
    rw (bit_weight j b 1, flags_from (suc j) k b, ← up) (omega (arith, split))

pub flags_kept : (k b : ℕ) → flag_byte (bits_from 0 k b) ≡ b % 2 ^ k
flags_kept k b = flags_from 0 k b ∙ ap (λ (x : ℕ). x % 2 ^ k) (div-one b)

-- flags that are off behind the others don't count
pub flags_padded : (fs : List Bool) (k : ℕ) → flag_byte (fs ++ replicate k false) ≡ flag_byte fs
unfolding flag_byte if_set
flags_padded [] zero = refl
flags_padded [] (suc k) = ap (λ (n : ℕ). 0 + 2 * n) (flags_padded [] k)
flags_padded (f ∷ fs) k = ap (λ (n : ℕ). if_set f 1 + 2 * n) (flags_padded fs k)

-- ---- fields
pub field_take : (at w n : ℕ) (s : List ℕ) → at + w ≤ n → field (take n s) at w ≡ field s at w
field_take zero w n s h = take-take w n s (omega arith)
field_take (suc at) w zero s h = absurd (omega arith)
field_take (suc at) w (suc n) [] h = refl
field_take (suc at) w (suc n) (b ∷ s) h = field_take at w n s (omega arith)

pub field_append : (at w : ℕ) (s t : List ℕ) → at + w ≤ length s → field (s ++ t) at w ≡ field s at w
field_append at w s t h = sym (field_take at w (length s) (s ++ t) h) ∙ ap (λ (l : List ℕ). field l at w) (take-append_seam s t)

pub length_field : (at w : ℕ) (s : List ℕ) → at + w ≤ length s → length (field s at w) ≡ w
length_field at w s h = length-take-le w (drop at s) (omega (arith, length-drop at s))

-- a beginning that isn't empty
pub take_first : (w : ℕ) (s : List ℕ) → 0 < length s → take (suc w) s ≡ get_or s 0 0 ∷ field s 1 w
take_first w [] h = absurd (omega arith)
take_first w (b ∷ s) h = refl

-- a beginning of more than the first byte
pub take_head : (w : ℕ) (s : List ℕ) → 0 < length s → take (1 + w) s ≡ get_or s 0 0 ∷ field s 1 w
take_head w s h = ap (λ (k : ℕ). take k s) (one_add w) ∙ take_first w s h
  where
    one_add : (w : ℕ) → 1 + w ≡ suc w
    one_add w = omega arith

-- two fields, one behind the other
pub field_split : (at w m : ℕ) (s : List ℕ) → field s at (w + m) ≡ field s at w ++ field s (at + w) m
field_split at w m s = take-add w m (drop at s) ∙ ap (λ (l : List ℕ). field s at w ++ take m l) (drop-drop w at s)

-- ---- bytes
pub bytes_take : (n : ℕ) (s : List ℕ) → Bytes s → Bytes (take n s)
bytes_take zero s h = tt
bytes_take (suc n) [] h = tt
bytes_take (suc n) (b ∷ s) h = (h.0, bytes_take n s h.1)

pub bytes_drop : (n : ℕ) (s : List ℕ) → Bytes s → Bytes (drop n s)
bytes_drop zero s h = h
bytes_drop (suc n) [] h = tt
bytes_drop (suc n) (b ∷ s) h = bytes_drop n s h.1

-- what a slice's rule says of each element says it of the list
pub bytes_each : (s : List ℕ) → ((i : ℕ) → get_or s i 0 < 256) → Bytes s
bytes_each [] h = tt
bytes_each (b ∷ s) h = (h 0, bytes_each s (λ i. h (suc i)))

-- ---- numbers
pub length_big_endian_bytes_law : (w x : ℕ) → length (big_endian_bytes w x) ≡ w
unfolding big_endian_bytes
length_big_endian_bytes_law zero x = refl
length_big_endian_bytes_law (suc w) x = omega (arith, length-append (big_endian_bytes w (x / 256)) (x % 256 ∷ []), length_big_endian_bytes_law w (x / 256))

pub behind_append : (n : ℕ) (xs ys : List ℕ) → behind n (xs ++ ys) ≡ behind (behind n xs) ys
unfolding behind
behind_append n [] ys = refl
behind_append n (x ∷ xs) ys = behind_append (n * 256 + x) xs ys

-- one byte more, at a place of a list, and all of them
pub behind_step : (n i : ℕ) (bs : List ℕ) → i < length bs → behind (n * 256 + get_or bs i 0) (drop (i + 1) bs) ≡ behind n (drop i bs)
unfolding behind
behind_step n i bs h = rw (add-one i, drop-cons bs i 0 h)

pub behind_end : (n i : ℕ) (bs : List ℕ) → length bs ≤ i → behind n (drop i bs) ≡ n
unfolding behind
behind_end n i bs h = rw (drop_of_length-le bs h)

-- a byte more behind a number of fewer than eight bytes fits 64 bits
pub room : (i n b : ℕ) → i < 8 → n < 256 ^ i → b < 256 → n * 256 + b < 2 ^ 64
room i n b hi hn hb = lt_of_lt_of_le (rw (← pow-suc 256 i) at (digits_lt hn hb)) (pow-le-pow_right {n = 256} (lit< tt) {i = suc i} {j = 8} hi)

-- bytes behind a number that is below 256 ^ k make one below 256 ^ (k + their count)
pub behind_less : (k n : ℕ) (bs : List ℕ) → n < 256 ^ k → Bytes bs → behind n bs < 256 ^ (k + length bs)
unfolding behind
behind_less k n [] h b = rw add-zero h
behind_less k n (x ∷ bs) h b =
    let h' : n * 256 + x < 256 ^ suc k = rw pow-suc (digits_lt h b.0) in
    rw (add-suc, ← suc-add) (behind_less (suc k) (n * 256 + x) bs h' b.1)

pub big_endian_less_law : (bs : List ℕ) → Bytes bs → big_endian bs < 256 ^ length bs
big_endian_less_law bs b = rw zero_add at (behind_less 0 0 bs (omega arith) b)
  where
    zero_add : (n : ℕ) → 0 + n ≡ n
    zero_add n = omega arith

-- the bytes of a number made of bytes are those bytes
bytes_more : (k n x : ℕ) → x < 256 → big_endian_bytes (suc k) (n * 256 + x) ≡ big_endian_bytes k n ++ (x ∷ [])
unfolding big_endian_bytes
bytes_more k n x h = rw (digits_div n h, digits_mod n h)

pub bytes_behind : (k n : ℕ) (bs : List ℕ) → Bytes bs → big_endian_bytes (k + length bs) (behind n bs) ≡ big_endian_bytes k n ++ bs
unfolding behind
bytes_behind k n [] b = rw (add-zero, append-nil)
bytes_behind k n (x ∷ bs) b =
    ap (λ (j : ℕ). big_endian_bytes j (behind (n * 256 + x) bs)) (shift k (length bs))
    ∙ bytes_behind (suc k) (n * 256 + x) bs b.1
    ∙ rw (bytes_more k n x b.0, append_snoc)
  where
    shift : (k m : ℕ) → k + suc m ≡ suc k + m
    shift k m = omega arith

pub bytes_number : (bs : List ℕ) → Bytes bs → big_endian_bytes (length bs) (big_endian bs) ≡ bs
unfolding big_endian_bytes
bytes_number bs b = ap (λ (k : ℕ). big_endian_bytes k (big_endian bs)) (zero_add (length bs)) ∙ bytes_behind 0 0 bs b
  where
    zero_add : (n : ℕ) → n ≡ 0 + n
    zero_add n = omega arith

pub bytes_field : (at w : ℕ) (s : List ℕ) → Bytes s → at + w ≤ length s → big_endian_bytes w (big_endian (field s at w)) ≡ field s at w
bytes_field at w s b h =
    ap (λ (k : ℕ). big_endian_bytes k (big_endian (field s at w))) (sym (length_field at w s h))
    ∙ bytes_number (field s at w) (bytes_take w (drop at s) (bytes_drop at s b))

-- a number that has its bytes is read back from them
pub number_bytes : (w x : ℕ) → x < 256 ^ w → big_endian (big_endian_bytes w x) ≡ x
unfolding behind big_endian_bytes
number_bytes zero x h = omega (arith, pow-zero 256)
number_bytes (suc w) x h =
    let h' : x / 256 < 256 ^ w = (div-lt_iff_lt-mul {k = 256} (lit< tt)).1 (rw pow-suc at h) in
    behind_append 0 (big_endian_bytes w (x / 256)) (x % 256 ∷ []) ∙ rw (number_bytes w (x / 256) h') (div-add-mod' x 256)

-- the digits of four bytes, least significant first
module _ (a b c d x : ℕ) (ha : a < 256) (hb : b < 256) (hc : c < 256) (e : x ≡ a + b * 256 + c * 65536 + d * 16777216) where
  above_one : x ≡ (b + c * 256 + d * 65536) * 256 + a
  above_one = omega arith

  above_two : x ≡ (c + d * 256) * 65536 + (b * 256 + a)
  above_two = omega arith

  above_three : x ≡ d * 16777216 + (c * 65536 + b * 256 + a)
  above_three = omega arith

  digit_one : x % 256 ≡ a
  digit_one = ap (λ (n : ℕ). n % 256) above_one ∙ digits_mod (b + c * 256 + d * 65536) ha

  digit_two : x / 256 % 256 ≡ b
  digit_two =
      let next : b + c * 256 + d * 65536 ≡ (c + d * 256) * 256 + b = omega arith in
      ap (λ (n : ℕ). n % 256) (ap (λ (n : ℕ). n / 256) above_one ∙ digits_div (b + c * 256 + d * 65536) ha ∙ next) ∙ digits_mod (c + d * 256) hb

  digit_three : x / 65536 % 256 ≡ c
  digit_three =
      let small : b * 256 + a < 65536 = omega arith in
      let next : c + d * 256 ≡ d * 256 + c = omega arith in
      ap (λ (n : ℕ). n % 256) (ap (λ (n : ℕ). n / 65536) above_two ∙ digits_div (c + d * 256) small ∙ next) ∙ digits_mod d hc

  digit_four : x / 16777216 ≡ d
  digit_four =
      let small : c * 65536 + b * 256 + a < 16777216 = omega arith in
      ap (λ (n : ℕ). n / 16777216) above_three ∙ digits_div d small

weights : (a b c d : ℕ) → a * 16777216 + b * 65536 + c * 256 + d ≡ ((a * 256 + b) * 256 + c) * 256 + d
weights a b c d = omega arith

-- and with the bytes swapped
pub swapped_four : (a b c d x r : ℕ) → a < 256 → b < 256 → c < 256 → x ≡ a + b * 256 + c * 65536 + d * 16777216
    → r ≡ x % 256 * 16777216 + x / 256 % 256 * 65536 + x / 65536 % 256 * 256 + x / 16777216
    → r ≡ ((a * 256 + b) * 256 + c) * 256 + d
swapped_four a b c d x r ha hb hc e q =
    q ∙ rw (digit_one a b c d x ha hb hc e, digit_two a b c d x ha hb hc e, digit_three a b c d x ha hb hc e, digit_four a b c d x ha hb hc e) (weights a b c d)

-- what `number` gives of four and of eight bytes
pub number_four : (bs : List ℕ) (x : ℕ) → length bs ≡ 4 → x ≡ ((get_or bs 0 0 * 256 + get_or bs 1 0) * 256 + get_or bs 2 0) * 256 + get_or bs 3 0 → x ≡ big_endian bs
unfolding behind
number_four (a ∷ b ∷ c ∷ d ∷ []) x q p = omega (arith, p)
number_four [] x q p = absurd (omega arith)
number_four (a ∷ []) x q p = absurd (omega arith)
number_four (a ∷ b ∷ []) x q p = absurd (omega arith)
number_four (a ∷ b ∷ c ∷ []) x q p = absurd (omega arith)
number_four (a ∷ b ∷ c ∷ d ∷ e ∷ l) x q p = absurd (omega arith)

pub number_eight : (bs : List ℕ) (x y : ℕ) → length bs ≡ 8 → x ≡ ((get_or bs 0 0 * 256 + get_or bs 1 0) * 256 + get_or bs 2 0) * 256 + get_or bs 3 0 → y ≡ ((get_or bs 4 0 * 256 + get_or bs 5 0) * 256 + get_or bs 6 0) * 256 + get_or bs 7 0 → x * 4294967296 + y ≡ big_endian bs
unfolding behind
number_eight (a ∷ b ∷ c ∷ d ∷ e ∷ f ∷ g ∷ h ∷ []) x y q p r = omega (arith, p, r)
number_eight [] x y q p r = absurd (omega arith)
number_eight (a ∷ []) x y q p r = absurd (omega arith)
number_eight (a ∷ b ∷ []) x y q p r = absurd (omega arith)
number_eight (a ∷ b ∷ c ∷ []) x y q p r = absurd (omega arith)
number_eight (a ∷ b ∷ c ∷ d ∷ []) x y q p r = absurd (omega arith)
number_eight (a ∷ b ∷ c ∷ d ∷ e ∷ []) x y q p r = absurd (omega arith)
number_eight (a ∷ b ∷ c ∷ d ∷ e ∷ f ∷ []) x y q p r = absurd (omega arith)
number_eight (a ∷ b ∷ c ∷ d ∷ e ∷ f ∷ g ∷ []) x y q p r = absurd (omega arith)
number_eight (a ∷ b ∷ c ∷ d ∷ e ∷ f ∷ g ∷ h ∷ i ∷ l) x y q p r = absurd (omega arith)

-- and that it is a number of so many bytes
pub number_equals : (bs : List ℕ) (x n : ℕ) → length bs ≡ n → n ≤ 8 → ((i : ℕ) → get_or bs i 0 < 256) → x ≡ big_endian bs
    → (x ≡ pick (leb (length bs) 8) (big_endian bs) 0) × (x < 256 ^ length bs)
number_equals bs x n e h each q =
    (rw (le-leb (length bs) 8 (omega arith)) q, rw q (big_endian_less_law bs (bytes_each bs each)))

-- what `number` gives of a field of at most eight bytes
pub number_field : (s : List ℕ) (at w : ℕ) → w ≤ 8 → pick (leb (length (field s at w)) 8) (big_endian (field s at w)) 0 ≡ big_endian (field s at w)
number_field s at w h = rw (le-leb (length (field s at w)) 8 (omega (arith, length-take w (drop at s))))

-- what `number` gives of a field of at most m bytes fits m bytes
pub number_below : (s : List ℕ) (at w m x : ℕ) → w ≤ m → x < 256 ^ length (field s at w) → x < 256 ^ m
number_below s at w m x h g = lt_of_lt_of_le g (pow-le-pow_right {n = 256} (lit< tt) (omega (arith, length-take w (drop at s))))

-- what `number` gives of a slice from a place on, w bytes long
module _ (s : List ℕ) (at w : ℕ) {p : List ℕ} (e : p ≡ take (at + w - at) (drop at s)) where
  part_is : p ≡ field s at w
  part_is = let z : at + w - at ≡ w = omega arith in e ∙ ap (λ (n : ℕ). take n (drop at s)) z

  pub number_part : {x : ℕ} → w ≤ 8 → x ≡ pick (leb (length p) 8) (big_endian p) 0 → x ≡ big_endian (field s at w)
  number_part h q = q ∙ ap (λ (l : List ℕ). pick (leb (length l) 8) (big_endian l) 0) part_is ∙ number_field s at w h

  pub part_below : {x : ℕ} → x < 256 ^ length p → x < 256 ^ w
  part_below {x} h = number_below s at w w x (omega arith) (rw part_is at h)

-- ---- numbers that may be absent
module _ (w : ℕ) (bs : List ℕ) (t : Bool) (e : t ≡ is_number w bs) (q : t ≡ true) where
  few : length bs ≤ w
  few = go (ltb 0 (length bs)) (leb (length bs) w) refl (sym e ∙ q)
    where
      go : (a b : Bool) → leb (length bs) w ≡ b → a && b ≡ true → length bs ≤ w
      go true true f g = leb-true (length bs) w f
      go true false f g = let z : ◌≡◌ {A = ℕ} 0 1 = cc in absurd (omega arith)
      go false b f g = let z : ◌≡◌ {A = ℕ} 0 1 = cc in absurd (omega arith)

  pub number_fits : (x : ℕ) → x < 256 ^ length bs → x < 256 ^ w
  number_fits x h = lt_of_lt_of_le h (pow-le-pow_right {n = 256} (lit< tt) few)

  pub number_is : (x : ℕ) → w ≤ 8 → x ≡ pick (leb (length bs) 8) (big_endian bs) 0 → x ≡ big_endian bs
  number_is x h p = rw (le-leb (length bs) 8 (omega (arith, few))) at p

-- a number that was read is written as it stood, where its field has its width w or none
module _ (f : Bool) (w : ℕ) (bs : List ℕ) (b : Bytes bs) (h : 0 < w) (e : length bs ≡ if_set f w) where
  number_there : (m : ℕ) → w ≤ m → (g : Bool) → g ≡ f → length bs ≡ if_set g w → is_number m bs ≡ f
  unfolding if_set
  number_there m k true q e = rw (e, lt-ltb 0 w h, le-leb w m k) q
  number_there m k false q e = rw e q

  number_back : (g : Bool) → g ≡ f → length bs ≡ if_set g w → number_if w (presence f (big_endian bs)) ≡ bs
  unfolding number_if presence if_set
  number_back true q e = rw (← q) (ap (λ (k : ℕ). big_endian_bytes k (big_endian bs)) (sym e) ∙ bytes_number bs b)
  number_back false q e = rw (← q) (empty bs e)
    where
      empty : (bs : List ℕ) → length bs ≡ 0 → [] ≡ bs
      empty [] e = refl
      empty (b ∷ bs) e = absurd (omega arith)

  -- of a number that is kept beside its flag
  pub number_again : number_if w (presence f (big_endian bs)) ≡ bs
  number_again = number_back f refl e

  -- of one of two, one that is given and one that is absent
  means_either : {R : Type 0} (given : R → Bool) (value : R → ℕ) (x y : R) → given x ≡ true → value x ≡ big_endian bs → given y ≡ false → (t : Bool) → presence (given (pick t x y)) (value (pick t x y)) ≡ presence t (big_endian bs)
  unfolding presence
  means_either given value x y gx vx gy true = rw (gx, vx)
  means_either given value x y gx vx gy false = rw gy

  -- of one that stands in its record
  pub number_written : (m : ℕ) → w ≤ m → number_if w (number_of m bs) ≡ bs
  unfolding number_of presence
  number_written m k = rw (number_there m k f refl e) number_again

-- how long a number is under a flag, and one that may be absent
pub number_length : (g : Bool) (w x : ℕ) → length (number_if w (presence g x)) ≡ if_set g w
unfolding number_if presence if_set
number_length true w x = length_big_endian_bytes_law w x
number_length false w x = refl

pub length_number_if : (w : ℕ) (o : Option ℕ) → length (number_if w o) ≡ if_set (is_some o) w
unfolding number_if if_set
length_number_if w (Some x) = length_big_endian_bytes_law w x
length_number_if w None = refl

-- ---- addresses
-- how long an address is that may be absent
pub length_bytes_if : (n : ℕ) (o : Option (List ℕ)) → IfSome o (λ bs. length bs ≡ n) → length (bytes_if o) ≡ if_set (is_some o) n
unfolding bytes_if if_set
length_bytes_if n (Some bs) e = e
length_bytes_if n None e = refl

pub given_length : (g : Bool) (n : ℕ) (bs : List ℕ) → length bs ≡ n → length (bytes_if (presence g bs)) ≡ if_set g n
unfolding bytes_if if_set presence
given_length true n bs e = e
given_length false n bs e = refl

-- an address that was read is written as it stood, where its field has its width or none
module _ (f : Bool) (bs : List ℕ) where
  some_or_none : (n : ℕ) → length bs ≡ if_set f (suc n) → (t : Bool) → eqb (length bs) (suc n) ≡ t → pick t bs [] ≡ bs
  unfolding if_set
  some_or_none n e true q = refl
  some_or_none n e false q = sym (empty f bs e q)
    where
      empty : (f : Bool) (bs : List ℕ) → length bs ≡ pick f (suc n) 0 → eqb (length bs) (suc n) ≡ false → bs ≡ []
      empty true bs e q = absurd (eqb-false _ _ q e)
      empty false [] e q = refl
      empty false (b ∷ bs) e q = absurd (omega arith)

  bytes_either : {R : Type 0} (given : R → Bool) (octets : R → List ℕ) (x y : R) (n : ℕ) → given x ≡ true → octets x ≡ bs → given y ≡ false → length bs ≡ if_set f (suc n) → (t : Bool) → eqb (length bs) (suc n) ≡ t
      → bytes_if (presence (given (pick t x y)) (octets (pick t x y))) ≡ bs
  unfolding presence bytes_if
  bytes_either given octets x y n gx ox gy e true q = rw (gx, ox)
  bytes_either given octets x y n gx ox gy e false q = rw gy (some_or_none n e false q)

  pub address_written : (n : ℕ) → 0 < n → length bs ≡ if_set f n → bytes_if (address_of n bs) ≡ bs
  unfolding address_of if_set bytes_if
  address_written zero h e = absurd (omega arith)
  address_written (suc n) h e = go (eqb (length bs) (suc n)) refl
    where
      go : (t : Bool) → eqb (length bs) (suc n) ≡ t → bytes_if (pick t (Some bs) None) ≡ bs
      go true q = refl
      go false q = some_or_none n e false q

-- the bytes of an address that is there
pub address_there : (n : ℕ) (bs : List ℕ) → length bs ≡ n → address_of n bs ≡ Some bs
unfolding address_of
address_there n bs e = rw (eq-eqb (length bs) n e)

-- ---- outputs
pub length_over : (d : List ℕ) (at : ℕ) (bs : List ℕ) → at + length bs ≤ length d → length (over d at bs) ≡ length d
unfolding over
length_over d at bs h = simp (length-append, length-take, length-drop) (omega arith)

-- two runs of bytes, one behind the other, are one run of the joined bytes
over_over : (d : List ℕ) (at m : ℕ) (xs ys : List ℕ) → m ≡ at + length xs → m + length ys ≤ length d → over (over d at xs) m ys ≡ over d at (xs ++ ys)
unfolding over
over_over d at m xs ys e h =
    ap (λ (l : List ℕ). take m l ++ (ys ++ drop (m + length ys) l)) (sym (append_assoc (take at d) xs (drop (at + length xs) d)))
    ∙ ap₂ (λ (u v : List ℕ). u ++ (ys ++ v)) (take_at (take at d ++ xs) (drop (at + length xs) d) m front) back
    ∙ joined (take at d) (drop (at + length (xs ++ ys)) d)
  where
    joined : (p q : List ℕ) → p ++ xs ++ (ys ++ q) ≡ p ++ (xs ++ ys ++ q)
    joined p q = simp append_assoc

    front : length (take at d ++ xs) ≡ m
    front = length-append (take at d) xs ∙ omega (arith, length-take-le at d (omega arith))

    count : at + length xs + length ys ≡ at + length (xs ++ ys)
    count = omega (arith, length-append xs ys)

    back : drop (m + length ys) (take at d ++ xs ++ drop (at + length xs) d) ≡ drop (at + length (xs ++ ys)) d
    back =
        sym (drop-drop (length ys) m (take at d ++ xs ++ drop (at + length xs) d))
        ∙ ap (λ (l : List ℕ). drop (length ys) l) (drop_at (take at d ++ xs) (drop (at + length xs) d) m front)
        ∙ drop-drop (length ys) (at + length xs) d
        ∙ ap (λ (k : ℕ). drop k d) count

pub put_fits : (d : List ℕ) (at : ℕ) (bs : List ℕ) → at + length bs ≤ length d → put d at bs ≡ over d at bs
unfolding put
put_fits d at bs h = rw (le-leb _ _ h)

pub put_not : (d : List ℕ) (at : ℕ) (bs : List ℕ) → length d < at + length bs → put d at bs ≡ d
unfolding put
put_not d at bs h = rw (lt-leb _ _ h)

-- a put changes no length
pub length_put : (d : List ℕ) (at : ℕ) (bs : List ℕ) → length (put d at bs) ≡ length d
unfolding put
length_put d at bs = either (leb (at + length bs) (length d)) (leb-true _ _)
  where
    either : (t : Bool) → (t ≡ true → at + length bs ≤ length d) → length (pick t (over d at bs) d) ≡ length d
    either true h = length_over d at bs (h refl)
    either false h = refl

pub put_put : (d : List ℕ) (at m : ℕ) (xs ys : List ℕ) → m ≡ at + length xs → m + length ys ≤ length d → put (put d at xs) m ys ≡ put d at (xs ++ ys)
put_put d at m xs ys e h =
    let one : at + length xs ≤ length d = omega arith in
    ap (λ (l : List ℕ). put l m ys) (put_fits d at xs one)
    ∙ put_fits (over d at xs) m ys (rw (length_over d at xs one) h)
    ∙ over_over d at m xs ys e h
    ∙ sym (put_fits d at (xs ++ ys) (omega (arith, length-append xs ys)))

-- the same of an output that a call hands over
pub put_behind : (d e : List ℕ) (at m : ℕ) (xs ys : List ℕ) → e ≡ put d at xs → m ≡ at + length xs → m + length ys ≤ length d → put e m ys ≡ put d at (xs ++ ys)
put_behind d e at m xs ys q p h = rw q (put_put d at m xs ys p h)

-- bytes put before those that stand already are one put of the joined bytes
over_before : (d : List ℕ) (at m : ℕ) (xs ys : List ℕ) → m ≡ at + length xs → m + length ys ≤ length d → over (over d m ys) at xs ≡ over d at (xs ++ ys)
unfolding over
over_before d at m xs ys k h =
    ap₂ (λ (u v : List ℕ). u ++ (xs ++ v)) front back
    ∙ ap (λ (l : List ℕ). take at d ++ l) (sym (append_assoc xs ys (drop (m + length ys) d)) ∙ ap (λ (n : ℕ). (xs ++ ys) ++ drop n d) count)
  where
    rest : List ℕ
    rest = ys ++ drop (m + length ys) d

    count : m + length ys ≡ at + length (xs ++ ys)
    count = omega (arith, length-append xs ys)

    split : take m d ≡ take at d ++ take (length xs) (drop at d)
    split = ap (λ (n : ℕ). take n d) k ∙ take-add at (length xs) d

    front : take at (take m d ++ rest) ≡ take at d
    front =
        ap (λ (l : List ℕ). take at l) (ap (λ (l : List ℕ). l ++ rest) split ∙ append_assoc (take at d) (take (length xs) (drop at d)) rest)
        ∙ take_at (take at d) (take (length xs) (drop at d) ++ rest) at (length-take-le at d (omega arith))

    back : drop (at + length xs) (take m d ++ rest) ≡ rest
    back = ap (λ (n : ℕ). drop n (take m d ++ rest)) (sym k) ∙ drop_at (take m d) rest m (length-take-le m d (omega arith))

pub before : (d d' e : List ℕ) (at m : ℕ) (xs ys : List ℕ) → d' ≡ put d m ys → e ≡ put d' at xs → m ≡ at + length xs → m + length ys ≤ length d → e ≡ put d at (xs ++ ys)
before d d' e at m xs ys q p k h =
    let stored : d' ≡ over d m ys = q ∙ put_fits d m ys h in
    let l : length d' ≡ length d = ap length stored ∙ length_over d m ys h in
    p
    ∙ put_fits d' at xs (omega arith)
    ∙ ap (λ (l : List ℕ). over l at xs) stored
    ∙ over_before d at m xs ys k h
    ∙ sym (put_fits d at (xs ++ ys) (omega (arith, length-append xs ys)))

-- Bytes put one behind another from a place on: `Puts d at bs e` leads from the output d to e, and bs are all the bytes, joined.
pub data Puts : List ℕ → ℕ → List ℕ → List ℕ → Type 0 where
  ends : {d e bs : List ℕ} {at : ℕ} → e ≡ put d at bs → Puts d at bs e
  then : {d d' e ys : List ℕ} {at : ℕ} (xs : List ℕ) (m : ℕ) → d' ≡ put d at xs → m ≡ at + length xs → Puts d' m ys e → Puts d at (xs ++ ys) e

-- where there is room, a row of puts is one put of the joined bytes
pub put_row : {d e bs : List ℕ} {at : ℕ} → Puts d at bs e → at + length bs ≤ length d → e ≡ put d at bs
put_row (ends q) h = q
put_row {d} {at = at} (then {d' = d'} {ys = ys} xs m q p r) h =
    let count = length-append xs ys in
    let l : length d' ≡ length d = ap length (q ∙ put_fits d at xs (omega arith)) ∙ length_over d at xs (omega arith) in
    put_row r (omega arith) ∙ put_behind d d' at m xs ys q p (omega arith)

-- bytes that are as many as the front of an output, put there
over_front : (d bytes : List ℕ) → over d 0 bytes ≡ bytes ++ drop (length bytes) d
unfolding over
over_front d bytes = ap (λ (m : ℕ). bytes ++ drop m d) (omega arith)

pub put_front : (d bytes : List ℕ) (n : ℕ) → length bytes ≡ n → n ≤ length d → put (take n d) 0 bytes ++ drop n d ≡ put d 0 bytes
put_front d bytes n long h =
    let l : length (take n d) ≡ n = length-take-le n d h in
    let rest : drop (length bytes) (take n d) ≡ [] = drop_of_length-le (take n d) {i = length bytes} (omega (arith, l)) in
    let front : put (take n d) 0 bytes ≡ bytes = put_fits (take n d) 0 bytes (omega (arith, l)) ∙ over_front (take n d) bytes ∙ ap (λ (x : List ℕ). bytes ++ x) rest ∙ append-nil bytes in
    ap (λ (x : List ℕ). x ++ drop n d) front
    ∙ ap (λ (m : ℕ). bytes ++ drop m d) (sym long)
    ∙ sym (put_fits d 0 bytes (omega arith) ∙ over_front d bytes)

-- a store right behind a run is one byte more of the run
pub over_set : (d : List ℕ) (at n b : ℕ) (bs : List ℕ) → length bs ≡ n → at + n < length d → over (set d (at + n) b) at bs ≡ over d at (bs ++ (b ∷ []))
unfolding over
over_set d at n b bs e h =
    ap₂ (λ (u v : List ℕ). u ++ (bs ++ v)) (take-set-le at d (at + n) b (omega arith)) (ap (λ (k : ℕ). drop (at + k) (set d (at + n) b)) e ∙ rest)
    ∙ ap (λ (v : List ℕ). take at d ++ v)
    (sym (append_snoc bs b (drop (suc (at + n)) d)) ∙ ap (λ (k : ℕ). bs ++ (b ∷ []) ++ drop k d) count)
  where
    count : suc (at + n) ≡ at + length (bs ++ (b ∷ []))
    count = omega (arith, e, length-append bs (b ∷ []))

    rest : drop (at + n) (set d (at + n) b) ≡ b ∷ drop (suc (at + n)) d
    rest = rw (set_split d (at + n) b h) (drop_at (take (at + n) d) (b ∷ drop (suc (at + n)) d) (at + n) (length-take-le (at + n) d (omega arith)))

pub over_nil : (d : List ℕ) (at : ℕ) → over d at [] ≡ d
unfolding over
over_nil d at = rw add-zero (take-append-drop at d)

pub put_nil : (d : List ℕ) (at : ℕ) → put d at [] ≡ d
unfolding put
put_nil d at = either (leb (at + 0) (length d))
  where
    either : (t : Bool) → pick t (over d at []) d ≡ d
    either true = over_nil d at
    either false = refl

-- one store is one byte put
pub put_set : (d : List ℕ) (at b : ℕ) → at < length d → set d at b ≡ put d at (b ∷ [])
put_set d at b h =
    ap (λ (k : ℕ). set d k b) (sym (add-zero at))
    ∙ sym (over_nil (set d (at + 0) b) at)
    ∙ over_set d at 0 b [] refl (omega arith)
    ∙ sym (put_fits d at (b ∷ []) (omega arith))

-- what is left behind w bytes is asked instead of where they end
pub room_left : (room at w : ℕ) → w ≤ room → leb at (room - w) ≡ leb (at + w) room
room_left room at w h = go (leb at (room - w)) refl
  where
    go : (t : Bool) → leb at (room - w) ≡ t → t ≡ leb (at + w) room
    go true e = sym (le-leb (at + w) room (omega (arith, leb-true at (room - w) e)))
    go false e = sym (lt-leb (at + w) room (omega (arith, leb-false at (room - w) e)))

-- what the answer of such a test says
module _ (n room : ℕ) (t : Bool) (e : t ≡ leb n room) where
  pub room_there : not t ≡ false → n ≤ room
  room_there h = leb-true n room (sym e ∙ not-false t h)

  pub room_lacks : not t ≡ true → room < n
  room_lacks h = leb-false n room (sym e ∙ not-true t h)

-- zeros from a place on, up to another: one more is stored, they fit where the second is within the output, and don't where it isn't
pub zeros_step : (d : List ℕ) (i e : ℕ) → i < e → e ≤ length d → over (set d i 0) (i + 1) (replicate (e - (i + 1)) 0) ≡ over d i (replicate (e - i) 0)
zeros_step d i e h r =
    let zs : List ℕ = replicate (e - (i + 1)) 0 in
    let more : e - i ≡ suc (e - (i + 1)) = omega arith in
    ap (λ (l : List ℕ). over l (i + 1) zs) (put_set d i 0 (omega arith) ∙ put_fits d i (0 ∷ []) (omega arith))
    ∙ over_over d i (i + 1) (0 ∷ []) zs refl (omega (arith, length-replicate {A = ℕ} (e - (i + 1)) 0))
    ∙ ap (λ (n : ℕ). over d i (replicate n 0)) (sym more)

pub zeros_all : (d : List ℕ) (at e : ℕ) → e ≤ length d → over d at (replicate (e - at) 0) ≡ put d at (replicate (e - at) 0)
zeros_all d at e h = go (e - at) refl
  where
    go : (n : ℕ) → e - at ≡ n → over d at (replicate n 0) ≡ put d at (replicate n 0)
    go zero q = over_nil d at ∙ sym (put_nil d at)
    go (suc n) q = sym (put_fits d at (replicate (suc n) 0) (omega (arith, length-replicate {A = ℕ} (suc n) 0)))

pub zeros_not : (d : List ℕ) (at e : ℕ) → length d < e → d ≡ put d at (replicate (e - at) 0)
zeros_not d at e h = go (e - at) refl
  where
    go : (n : ℕ) → e - at ≡ n → d ≡ put d at (replicate n 0)
    go zero q = sym (put_nil d at)
    go (suc n) q = sym (put_not d at (replicate (suc n) 0) (omega (arith, length-replicate {A = ℕ} (suc n) 0)))

-- a number's lowest byte stored, the rest is still to be written
pub over_number : (d : List ℕ) (at w x : ℕ) → 0 < w → at + w ≤ length d → over (set d (at + (w - 1)) (x % 256)) at (big_endian_bytes (w - 1) (x / 256)) ≡ over d at (big_endian_bytes w x)
unfolding big_endian_bytes
over_number d at zero x h r = absurd (not-suc-le-zero h)
over_number d at (suc w) x h r =
    rw (less w) (over_set d at w (x % 256) (big_endian_bytes w (x / 256)) (length_big_endian_bytes_law w (x / 256)) (omega arith))
  where
    less : (w : ℕ) → suc w - 1 ≡ w
    less w = omega arith

pub over_none : (d : List ℕ) (at w x : ℕ) → w ≤ 0 → over d at (big_endian_bytes w x) ≡ d
unfolding big_endian_bytes
over_none d at zero x h = over_nil d at
over_none d at (suc w) x h = absurd (not-suc-le-zero h)

-- ---- what `slices::copy` leaves
-- of a whole destination, as long as the source
pub copy_whole : (src dst last : List ℕ) → length src ≡ length dst → last ≡ take (length src) src ++ drop (length src) dst → last ≡ src
copy_whole src dst last e h =
    h ∙ ap₂ (λ (u v : List ℕ). u ++ v) (take-length src) (drop_of_length-le dst {i = length src} (omega arith)) ∙ append-nil src

-- of the part of an output from a place on
pub copy_part : (d : List ℕ) (at : ℕ) (bs last : List ℕ) → at + length bs ≤ length d → last ≡ take (length bs) bs ++ drop (length bs) (mid_of at (length d - at) d) → put_mid at (length d - at) d last ≡ put d at bs
copy_part d at bs last h e =
    ap₂ (λ (u v : List ℕ). take at d ++ (u ++ v)) (e ∙ ap₂ (λ (u v : List ℕ). u ++ v) (take-length bs) middle) (drop_of_length-le (drop at d) {i = length d - at} (omega (arith, length-drop at d)))
    ∙ ap (λ (l : List ℕ). take at d ++ l) (append-nil (bs ++ drop (at + length bs) d))
    ∙ sym (put_fits d at bs h ∙ opened)
  where
    middle : drop (length bs) (mid_of at (length d - at) d) ≡ drop (at + length bs) d
    middle = ap (λ (l : List ℕ). drop (length bs) l) (take_all (length d - at) (drop at d) (omega (arith, length-drop at d))) ∙ drop-drop (length bs) at d

    opened : over d at bs ≡ take at d ++ (bs ++ drop (at + length bs) d)
    opened = unfold over in refl

-- bytes put at the start stand there, and no byte behind them changes
module _ (d bs : List ℕ) (room : length bs ≤ length d) where
  at_start : put d 0 bs ≡ bs ++ drop (0 + length bs) d
  unfolding over
  at_start = put_fits d 0 bs (omega arith)

  pub put_start : take (length bs) (put d 0 bs) ≡ bs
  put_start = rw at_start (take-append_seam bs (drop (0 + length bs) d))

  pub put_rest : drop (length bs) (put d 0 bs) ≡ drop (length bs) d
  put_rest = rw at_start (drop-append_seam bs (drop (0 + length bs) d) ∙ ap (λ (n : ℕ). drop n d) (zero_add (length bs)))
    where
      zero_add : (n : ℕ) → 0 + n ≡ n
      zero_add n = omega arith
