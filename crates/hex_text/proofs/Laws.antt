-- Laws of hex and decimal text. No contract cites this file.
use Prim.Native.Nat.{ℕ, zero, suc, ◌+◌, ◌-◌, ◌*◌, ◌/◌, ◌%◌, ◌^◌, ◌<◌, ◌≤◌, min, max}
use native.Mathlib.Nat.{zero-add, div-add-mod', pow-suc, div-lt_iff_lt-mul, not-suc-le-zero}
use native.Mathlib.Numerals.{add-one}
use native.Mathlib.Omega.{arith}
use Rattle.std.proofs.lemmas.Nat.{le-div}
use Rattle.std.proofs.Math.Nat.{one-le-pow}
use mathlib.Core.Path.{◌≡◌, refl, sym, ap, ◌∙◌}
use mathlib.Core.Bool.{Bool, true, false, ◌&&◌}
use mathlib.Core.List.{List, [], ◌∷◌, ◌++◌, append-nil}
use Rattle.std.specs.Prelude.{Option, None, Some, unwrap_or}
use lib.ListN.{length, take, drop, get_or, set, length-append, length-drop, length-set, take-append-drop, drop_of_length-le}
use lib.Seq.{drop-cons, drop-drop, take-suc-set, append_snoc, drop-set-lt, length-take-le}
use lib.Dec.{leb, ltb, lit<}
use borrow.Author.Tests.{lt-ltb, le-ltb, leb-true, leb-false, ltb-false}
use Rattle.octets.specs.Octets.{pick, Bytes, over, put}
use Rattle.octets.proofs.Laws.{over_nil, over_set, put_set, put_fits, put_behind, put_nil}
use Rattle.hex_text.proofs.Table.{tabled, entry}
use Rattle.hex_text.specs.Hex.{digit, spelled, within, worth, led, pairs, tens, decimal}

-- ---- digits
-- what a character is worth, 256 for one that is no digit
abbrev pub worth_or : ℕ → ℕ
worth_or c = unwrap_or (worth c) 256

-- what a table of these has for a character
pub looked_up : (l : List ℕ) (c : ℕ) → l ≡ tabled worth_or 0 256 → c < 256 → get_or l c 0 ≡ worth_or c
looked_up l c e h = rw e (entry worth_or 256 c h)

-- a digit is worth the number that it stands for
pub worth_digit : (n : ℕ) → n < 16 → worth (digit n) ≡ Some n
unfolding worth digit
worth_digit n h = known (worth (digit n)) (sym (entry (λ (k : ℕ). worth_or (digit k)) 16 n h) ∙ entry (λ (k : ℕ). k) 16 n h)
  where
    known : (o : Option ℕ) → unwrap_or o 256 ≡ n → o ≡ Some n
    known (Some m) e = ap Some e
    known None e = absurd (omega arith)

-- a number below 16, where there is one
abbrev Small : Option ℕ → Type 0
Small None = Unit
Small (Some n) = n < 16

one_range : (low high c n : ℕ) (o : Option ℕ) → (c ≤ high → n < 16) → Small o → Small (pick (within low high c) (Some n) o)
one_range low high c n o f g = go (leb low c) (leb c high) refl
  where
    go : (t u : Bool) → leb c high ≡ u → Small (pick (t && u) (Some n) o)
    go true true e = f (leb-true c high e)
    go true false e = g
    go false u e = g

worth_small : (c : ℕ) → Small (worth c)
unfolding worth
worth_small c =
    one_range 0x30 0x39 c (c - 0x30) _ (λ h. omega arith)
    (one_range 0x41 0x46 c (c - 0x41 + 10) _ (λ h. omega arith)
    (one_range 0x61 0x66 c (c - 0x61 + 10) _ (λ h. omega arith) tt))

worth_most : (c : ℕ) → worth_or c ≤ 256
worth_most c = go (worth c) (worth_small c)
  where
    go : (o : Option ℕ) → Small o → unwrap_or o 256 ≤ 256
    go (Some n) h = omega arith
    go None h = omega arith

pub looked_most : (l : List ℕ) (c : ℕ) → l ≡ tabled worth_or 0 256 → c < 256 → get_or l c 0 ≤ 256
looked_most l c e h = rw (looked_up l c e h) (worth_most c)

-- ---- bytes in hex
pub length_spelled : (bs : List ℕ) → length (spelled bs) ≡ 2 * length bs
unfolding spelled
length_spelled [] = refl
length_spelled (b ∷ bs) = omega (arith, length_spelled bs)

-- what was spelled is read back
pub pairs_spelled : (bs : List ℕ) → Bytes bs → pairs (length bs) (spelled bs) ≡ bs
unfolding pairs spelled led
pairs_spelled [] b = refl
pairs_spelled (x ∷ bs) b =
    rw (worth_digit (x / 16) (omega arith), worth_digit (x % 16) (omega arith), div-add-mod' x 16, pairs_spelled bs b.1)

-- no more are read than asked for, nor than the text has pairs
pub length_pairs : (n : ℕ) (s : List ℕ) → (length (pairs n s) ≤ n) × (2 * length (pairs n s) ≤ length s)
unfolding pairs led
length_pairs zero s = (omega arith, omega arith)
length_pairs (suc n) [] = (omega arith, omega arith)
length_pairs (suc n) (c ∷ []) = (omega arith, omega arith)
length_pairs (suc n) (c ∷ d ∷ s) = go (worth c) (worth d) (length_pairs n s)
  where
    go : (o p : Option ℕ) → (length (pairs n s) ≤ n) × (2 * length (pairs n s) ≤ length s) → (length (led o p (pairs n s)) ≤ suc n) × (2 * length (led o p (pairs n s)) ≤ suc (suc (length s)))
    go (Some h) (Some l) q = (omega arith, omega arith)
    go (Some h) None q = (omega arith, omega arith)
    go None p q = (omega arith, omega arith)

-- what is read is bytes
pub bytes_pairs : (n : ℕ) (s : List ℕ) → Bytes (pairs n s)
unfolding pairs led
bytes_pairs zero s = tt
bytes_pairs (suc n) [] = tt
bytes_pairs (suc n) (c ∷ []) = tt
bytes_pairs (suc n) (c ∷ d ∷ s) = go (worth c) (worth d) (worth_small c) (worth_small d) (bytes_pairs n s)
  where
    go : (o p : Option ℕ) → Small o → Small p → Bytes (pairs n s) → Bytes (led o p (pairs n s))
    go (Some h) (Some l) a b q = (omega arith, q)
    go (Some h) None a b q = tt
    go None p a b q = tt

-- ---- reading pairs, a turn of the loop
-- two worths, 256 for a character that is no digit, make a byte exactly where both are digits
led_good : (o p : Option ℕ) (bs : List ℕ) → unwrap_or o 256 * 16 + unwrap_or p 256 ≤ 255 → led o p bs ≡ (unwrap_or o 256 * 16 + unwrap_or p 256) ∷ bs
unfolding led
led_good (Some h) (Some l) bs q = refl
led_good (Some h) None bs q = absurd (omega arith)
led_good None p bs q = absurd (omega arith)

led_bad : (o p : Option ℕ) (bs : List ℕ) → Small o → Small p → 255 < unwrap_or o 256 * 16 + unwrap_or p 256 → led o p bs ≡ []
unfolding led
led_bad (Some h) (Some l) bs a b q = absurd (omega arith)
led_bad (Some h) None bs a b q = refl
led_bad None p bs a b q = refl

pairs_end : (n : ℕ) (s : List ℕ) → min n (length s / 2) ≡ 0 → pairs n s ≡ []
unfolding pairs
pairs_end zero s h = refl
pairs_end (suc n) [] h = refl
pairs_end (suc n) (c ∷ []) h = refl
pairs_end (suc n) (c ∷ d ∷ s) h = absurd (omega arith)

-- what the loop of `parse` knows after i pairs: they stand at the start of the output, and the others are still to come
pub record Parsed (text d₀ d : List ℕ) (i : ℕ) : Type 0 where
  pub long : length d ≡ length d₀
  pub rest : drop i d ≡ drop i d₀
  pub known : pairs (length d₀) text ≡ take i d ++ pairs (length d₀ - i) (drop (2 * i) text)

-- what `parse` promises of its answer and its output
abbrev pub Ends : List ℕ → List ℕ → List ℕ → ℕ → Type 0
Ends text d₀ d i = (i ≡ length (pairs (length d₀) text)) × ((d ≡ put d₀ 0 (pairs (length d₀) text)) × (i ≤ length d₀))

pub parsed_none : (text d : List ℕ) → Parsed text d d 0
parsed_none text d = record { long = refl; rest = refl; known = ap (λ (k : ℕ). pairs k text) (sub_zero (length d)) }
  where
    sub_zero : (n : ℕ) → n ≡ n - 0
    sub_zero n = omega arith

module _ (text d₀ d : List ℕ) (i : ℕ) (p : Parsed text d₀ d i) where
  -- no pair is to come
  stopped : i ≤ length d₀ → pairs (length d₀ - i) (drop (2 * i) text) ≡ [] → Ends text d₀ d i
  unfolding over
  stopped h e =
      let all : pairs (length d₀) text ≡ take i d = p.known ∙ ap (λ (l : List ℕ). take i d ++ l) e ∙ append-nil (take i d) in
      let l : length (take i d) ≡ i = length-take-le i d (omega (arith, p.long)) in
      (sym (ap length all ∙ l), (rw (all, put_fits d₀ 0 (take i d) (omega arith), l, zero-add i, ← p.rest) (sym (take-append-drop i d)), h))

  pub parsed_all : i ≤ length d₀ → min (length d₀) (length text / 2) ≤ i → Ends text d₀ d i
  parsed_all h e = stopped h (pairs_end (length d₀ - i) (drop (2 * i) text) (omega (arith, length-drop (2 * i) text)))

  module _ (h : i < length d₀) (g : 2 * i + 1 < length text) where
    turn : pairs (length d₀ - i) (drop (2 * i) text) ≡ led (worth (get_or text (2 * i) 0)) (worth (get_or text (2 * i + 1) 0)) (pairs (length d₀ - (i + 1)) (drop (2 * (i + 1)) text))
    unfolding pairs
    turn =
        let n : length d₀ - i ≡ suc (length d₀ - (i + 1)) = omega arith in
        let k : suc (2 * i + 1) ≡ 2 * (i + 1) = omega arith in
        let two : drop (2 * i) text ≡ get_or text (2 * i) 0 ∷ get_or text (2 * i + 1) 0 ∷ drop (2 * (i + 1)) text =
        drop-cons text (2 * i) 0 (omega arith) ∙ ap (λ (l : List ℕ). get_or text (2 * i) 0 ∷ l) (ap (λ (k : ℕ). drop k text) (sym (add-one (2 * i))) ∙ drop-cons text (2 * i + 1) 0 g ∙ ap (λ (k : ℕ). get_or text (2 * i + 1) 0 ∷ drop k text) k) in
        rw (n, two)

    pub parsed_bad : (x y : ℕ) → x ≡ worth_or (get_or text (2 * i) 0) → y ≡ worth_or (get_or text (2 * i + 1) 0) → 255 < x * 16 + y
        → Ends text d₀ d i
    parsed_bad x y ex ey q = stopped (omega arith) (turn ∙ led_bad _ _ _ (worth_small _) (worth_small _) (rw (ex, ey) at q))

    pub parsed_more : (x y : ℕ) → x ≡ worth_or (get_or text (2 * i) 0) → y ≡ worth_or (get_or text (2 * i + 1) 0) → x * 16 + y ≤ 255
        → Parsed text d₀ (set d i (x * 16 + y)) (i + 1)
    parsed_more x y ex ey q =
        let j : i < length d = omega (arith, p.long) in
        let more = pairs (length d₀ - (i + 1)) (drop (2 * (i + 1)) text) in
        let made : pairs (length d₀ - i) (drop (2 * i) text) ≡ (x * 16 + y) ∷ more = rw (turn, ex, ey) (led_good _ _ more (rw (ex, ey) at q)) in
        let stored : take i d ++ ((x * 16 + y) ∷ []) ≡ take (i + 1) (set d i (x * 16 + y)) = rw add-one (sym (take-suc-set d i (x * 16 + y) j)) in
        record {
          long = length-set d i (x * 16 + y) ∙ p.long;
          rest = rw add-one (drop-set-lt (suc i) d i (x * 16 + y) (omega arith)) ∙ next;
          known = p.known
              ∙ ap (λ (l : List ℕ). take i d ++ l) made
              ∙ sym (append_snoc (take i d) (x * 16 + y) more)
              ∙ ap (λ (l : List ℕ). l ++ more) stored;
        }
      where
        next : drop (i + 1) d ≡ drop (i + 1) d₀
        next = sym (drop-drop 1 i d) ∙ ap (λ (l : List ℕ). drop 1 l) p.rest ∙ drop-drop 1 i d₀

-- ---- spelling bytes, a turn of the loop
put_first : (d : List ℕ) (at b : ℕ) (bs : List ℕ) → at + 1 + length bs ≤ length d → put (set d at b) (at + 1) bs ≡ put d at (b ∷ bs)
put_first d at b bs h = put_behind d (set d at b) at (at + 1) (b ∷ []) bs (put_set d at b (omega arith)) refl h

pub spelled_more : (d : List ℕ) (at i x y : ℕ) (bs : List ℕ) → i < length bs → at + 2 * length bs ≤ length d → x ≡ digit (get_or bs i 0 / 16) → y ≡ digit (get_or bs i 0 % 16)
    → put (set (set d (at + 2 * i) x) (at + 2 * i + 1) y) (at + 2 * (i + 1)) (spelled (drop (i + 1) bs)) ≡ put d (at + 2 * i) (spelled (drop i bs))
unfolding spelled
spelled_more d at i x y bs h r ex ey =
    let p = at + 2 * i in
    let rest = spelled (drop (i + 1) bs) in
    let l : length rest ≡ 2 * (length bs - (i + 1)) = length_spelled (drop (i + 1) bs) ∙ ap (λ (k : ℕ). 2 * k) (length-drop (i + 1) bs) in
    let cut : spelled (drop i bs) ≡ x ∷ y ∷ rest = rw (add-one i, drop-cons bs i 0 h, ex, ey) in
    let e : at + 2 * (i + 1) ≡ p + 1 + 1 = omega arith in
    ap (λ (k : ℕ). put (set (set d p x) (p + 1) y) k rest) e
    ∙ put_first (set d p x) (p + 1) y rest (omega (arith, length-set d p x))
    ∙ put_first d p x (y ∷ rest) (omega arith)
    ∙ ap (put d p) (sym cut)

pub spelled_all : (d : List ℕ) (at i : ℕ) (bs : List ℕ) → length bs ≤ i → put d (at + 2 * i) (spelled (drop i bs)) ≡ d
unfolding spelled
spelled_all d at i bs h = ap (λ (l : List ℕ). put d (at + 2 * i) (spelled l)) (drop_of_length-le bs h) ∙ put_nil d (at + 2 * i)

-- ---- numbers in decimal
-- more digits than the number are enough
tens_same : (j k n : ℕ) → n < j → n < k → tens j n ≡ tens k n
unfolding tens
tens_same zero k n p q = absurd (not-suc-le-zero p)
tens_same (suc j) zero n p q = absurd (not-suc-le-zero q)
tens_same (suc j) (suc k) n p q = ap (λ (l : List ℕ). l ++ (digit (n % 10) ∷ [])) (go (ltb n 10) refl (tens_same j k (n / 10)))
  where
    go : (t : Bool) → ltb n 10 ≡ t → (n / 10 < j → n / 10 < k → tens j (n / 10) ≡ tens k (n / 10)) → pick t [] (tens j (n / 10)) ≡ pick t [] (tens k (n / 10))
    go true e f = refl
    go false e f = let g = ltb-false n 10 e in f (omega arith) (omega arith)

pub decimal_last : (n : ℕ) → 10 ≤ n → decimal n ≡ decimal (n / 10) ++ (digit (n % 10) ∷ [])
unfolding decimal tens
decimal_last n h = rw (le-ltb n 10 h) (ap (λ (l : List ℕ). l ++ (digit (n % 10) ∷ [])) (tens_same n (suc (n / 10)) (n / 10) (omega arith) (omega arith)))

pub decimal_one : (n : ℕ) → n < 10 → decimal n ≡ digit n ∷ []
unfolding decimal tens
decimal_one n h = rw (lt-ltb n 10 h) (ap (λ (k : ℕ). digit k ∷ []) (omega arith))

pub length_last : (n : ℕ) → 10 ≤ n → length (decimal n) ≡ length (decimal (n / 10)) + 1
length_last n h = ap length (decimal_last n h) ∙ length-append (decimal (n / 10)) (digit (n % 10) ∷ [])

pub length_one : (n : ℕ) → n < 10 → length (decimal n) ≡ 1
length_one n h = ap length (decimal_one n h)

pub decimal_some : (n : ℕ) → 1 ≤ length (decimal n)
unfolding decimal tens
decimal_some n = omega (arith, length-append (pick (ltb n 10) [] (tens n (n / 10))) (digit (n % 10) ∷ []))

-- a number below 10 ^ k has at most k digits
pub decimal_most : (k n : ℕ) → n < 10 ^ suc k → length (decimal n) ≤ suc k
decimal_most zero n h = omega (arith, length_one n (omega arith))
decimal_most (suc k) n h = go (leb 10 n) refl (decimal_most k (n / 10) ((div-lt_iff_lt-mul {k = 10} (lit< tt)).1 (rw pow-suc at h)))
  where
    go : (t : Bool) → leb 10 n ≡ t → length (decimal (n / 10)) ≤ suc k → length (decimal n) ≤ suc (suc k)
    go true e f = omega (arith, length_last n (leb-true 10 n e))
    go false e f = omega (arith, length_one n (leb-false 10 n e))

-- a number of 10 ^ k or more has more than k digits
pub decimal_least : (k n : ℕ) → 10 ^ k ≤ n → suc k ≤ length (decimal n)
decimal_least zero n h = decimal_some n
decimal_least (suc k) n h =
    let tenth : 10 ^ k ≤ n / 10 = le-div (10 ^ k) n 10 (lit< tt) (rw pow-suc at h) in
    omega (arith, one-le-pow k 10 (lit< tt), length_last n (omega (arith, one-le-pow k 10 (lit< tt))), decimal_least k (n / 10) tenth)

-- a number from 10 ^ k on, and below its tenfold, has one digit more than k; 0 has as many as 1
pub length_power : (n m k : ℕ) → m ≡ max n 1 → 10 ^ k ≤ m → m < 10 * 10 ^ k → k + 1 ≡ length (decimal n)
length_power n m k e p q = sym (go n e)
  where
    digits : length (decimal m) ≡ k + 1
    digits = omega (arith, decimal_least k m p, decimal_most k m (rw (pow-suc 10 k) (omega arith)))

    go : (n : ℕ) → m ≡ max n 1 → length (decimal n) ≡ k + 1
    go zero e = length_one 0 (omega arith) ∙ sym (length_one m (omega arith)) ∙ digits
    go (suc n) e = ap (λ (x : ℕ). length (decimal x)) (omega arith) ∙ digits

-- the digits that are still to be written, where so many are: none, or all of a number's
unfoldable pub still : ℕ → ℕ → List ℕ
still zero n = []
still (suc k) n = decimal n

pub still_all : (n k : ℕ) → k ≡ length (decimal n) → still k n ≡ decimal n
unfolding still
still_all n zero e = absurd (omega (arith, decimal_some n))
still_all n (suc k) e = refl

pub still_none : (d : List ℕ) (at k n : ℕ) → k ≤ 0 → over d at (still k n) ≡ d
unfolding still
still_none d at zero n h = over_nil d at
still_none d at (suc k) n h = absurd (omega arith)

-- of one digit is a number below 10, and of more any other
one_digit : (n : ℕ) → 1 ≡ length (decimal n) → n < 10
one_digit n e = go (leb 10 n) refl
  where
    go : (t : Bool) → leb 10 n ≡ t → n < 10
    go true q = absurd (omega (arith, length_last n (leb-true 10 n q), decimal_some (n / 10)))
    go false q = leb-false 10 n q

more_digits : (k n : ℕ) → suc (suc k) ≡ length (decimal n) → 10 ≤ n
more_digits k n e = go (leb 10 n) refl
  where
    go : (t : Bool) → leb 10 n ≡ t → 10 ≤ n
    go true q = leb-true 10 n q
    go false q = absurd (omega (arith, length_one n (leb-false 10 n q)))

-- the last digit stored, the others are still to be written
pub over_last : (d : List ℕ) (at left n x : ℕ) → 10 ≤ n → left ≡ length (decimal n) → at + left ≤ length d → x ≡ digit (n % 10)
    → over (set d (at + (left - 1)) x) at (decimal (n / 10)) ≡ over d at (decimal n)
over_last d at left n x h e r q =
    let l = length_last n h in
    rw (decimal_last n h, ← q) (over_set d at (left - 1) x (decimal (n / 10)) (omega arith) (omega arith))

-- the first digit stored, all are written
pub over_first : (d : List ℕ) (at n x : ℕ) → n < 10 → at < length d → x ≡ digit n → set d at x ≡ over d at (decimal n)
over_first d at n x h r q = rw (decimal_one n h, ← q) (put_set d at x r ∙ put_fits d at (x ∷ []) (omega arith))

pub still_length : (k n : ℕ) → 0 < k → k ≡ length (still k n) → k - 1 ≡ length (still (k - 1) (n / 10))
unfolding still
still_length zero n h e = absurd (omega arith)
still_length (suc zero) n h e = refl
still_length (suc (suc k)) n h e =
    let m : suc (suc k) - 1 ≡ suc k = omega arith in
    rw m (omega (arith, length_last n (more_digits k n e)))

pub still_more : (d : List ℕ) (at k n x : ℕ) → 0 < k → k ≡ length (still k n) → at + k ≤ length d → x ≡ digit (n % 10)
    → over (set d (at + (k - 1)) x) at (still (k - 1) (n / 10)) ≡ over d at (still k n)
unfolding still
still_more d at zero n x h e r q = absurd (omega arith)
still_more d at (suc zero) n x h e r q =
    let small = one_digit n e in
    let m : n % 10 ≡ n = omega arith in
    let k : at + 0 ≡ at = omega arith in
    rw k (over_nil (set d at x) at) ∙ over_first d at n x small (omega arith) (rw m at q)
still_more d at (suc (suc k)) n x h e r q =
    let m : suc (suc k) - 1 ≡ suc k = omega arith in
    let o : over (set d (at + (suc (suc k) - 1)) x) at (decimal (n / 10)) ≡ over d at (decimal n) = over_last d at (suc (suc k)) n x (more_digits k n e) e r q in
    rw m (rw m at o)
