-- Laws of the good beginning: how the walk goes on, and where it ends.
use mathlib.Core.Path.{◌≡◌, refl, sym, ap, ◌∙◌}
use mathlib.Core.Bool.{Bool, true, false, cond}
use mathlib.Core.List.{List, [], ◌∷◌}
use Prim.Native.Nat.{ℕ, zero, suc, ◌+◌, ◌-◌, ◌≤◌, ◌<◌, max, zero-le}
use native.Mathlib.Nat.{zero-add, le_of_suc-le-suc, not-suc-le-zero}
use native.Mathlib.Omega.{arith}
use borrow.Author.Tests.{eqb-true}
use lib.Bits.{bit_or, or_add_and, and_le_l, and_le_r}
use lib.Dec.{eqb}
use lib.ListN.{length, get_or, take, drop, length-take, length-drop, drop_of_length-le}
use lib.Seq.{drop-drop, get_or-drop, get_or-take}
use Rattle.std.specs.Prelude.{fold}
use Rattle.text.specs.declared.Checked.{Checked}
use Rattle.text.specs.Utf8.{Range, rows, agree, seq_len, walk, good_len, best, bad_len, checked}
use Rattle.text.specs.Steps.{Ascii, Passed}
use Rattle.text.proofs.Agree.{agree_fits}
use Rattle.text.proofs.Table.{sequence_ascii}

-- ---- good_len

seq_fits : (l : List (List Range)) (s : List ℕ) → seq_len l s ≤ length s
unfolding seq_len
seq_fits [] s = zero-le
seq_fits (row ∷ l) s = go (eqb (agree row s) (length row)) refl (seq_fits l s)
  where
    go : (t : Bool) → eqb (agree row s) (length row) ≡ t → seq_len l s ≤ length s → cond t (length row) (seq_len l s) ≤ length s
    go true e h = omega (arith, eqb-true (agree row s) (length row) e, agree_fits row s)
    go false e h = h

walk_none : (k : ℕ) (s : List ℕ) → seq_len rows s ≡ 0 → walk k s ≡ 0
unfolding walk
walk_none zero s e = refl
walk_none (suc k) s e = rw (e, walk_none k s e)

-- As many steps as the text has bytes are enough.
walk_same : (k m : ℕ) (s : List ℕ) → length s ≤ k → length s ≤ m → walk k s ≡ walk m s
unfolding walk
walk_same zero zero s p q = refl
walk_same zero (suc m) s p q = sym (walk_none (suc m) s (omega (arith, seq_fits rows s)))
walk_same (suc k) zero s p q = walk_none (suc k) s (omega (arith, seq_fits rows s))
walk_same (suc k) (suc m) s p q = go (seq_len rows s) refl (walk_same k m (drop (seq_len rows s) s))
  where
    rest : List ℕ
    rest = drop (seq_len rows s) s

    go : (n : ℕ) → seq_len rows s ≡ n → (length rest ≤ k → length rest ≤ m → walk k rest ≡ walk m rest) → walk (suc k) s ≡ walk (suc m) s
    go zero e h = walk_none (suc k) s e ∙ sym (walk_none (suc m) s e)
    go (suc n) e h = ap (λ (x : ℕ). seq_len rows s + x) (h (omega (arith, length-drop (seq_len rows s) s)) (omega (arith, length-drop (seq_len rows s) s)))

pub good_step : (s : List ℕ) → good_len s ≡ seq_len rows s + good_len (drop (seq_len rows s) s)
unfolding good_len walk
good_step s =
    walk_same (length s) (suc (length s)) s (omega arith) (omega arith)
    ∙ ap (λ (x : ℕ). seq_len rows s + x)
    (walk_same (length s) (length (drop (seq_len rows s) s)) (drop (seq_len rows s) s) (omega (arith, length-drop (seq_len rows s) s)) (omega arith))

pub good_none : (s : List ℕ) → seq_len rows s ≡ 0 → good_len s ≡ 0
unfolding good_len
good_none s e = walk_none (length s) s e

walk_fits : (k : ℕ) (s : List ℕ) → walk k s ≤ length s
unfolding walk
walk_fits zero s = zero-le
walk_fits (suc k) s =
    omega (arith, seq_fits rows s, length-drop (seq_len rows s) s, walk_fits k (drop (seq_len rows s) s))

-- What is good lies in the text.
pub good_fits : (s : List ℕ) → good_len s ≤ length s
unfolding good_len
good_fits s = walk_fits (length s) s

-- ---- the walk

pub passed_none : (s : List ℕ) (at : ℕ) → at ≤ length s → Passed s at at
passed_none s at p = record { forward = omega arith; inside = p; same = refl }

pub passed_on : {s : List ℕ} {a b c : ℕ} → Passed s a b → Passed s b c → Passed s a c
passed_on p q = record { forward = omega arith; inside = q.inside; same = p.same ∙ q.same }

-- A sequence is passed whole.
pub passed_length : (s : List ℕ) (at n : ℕ) → at + n ≤ length s → seq_len rows (drop at s) ≡ n → Passed s at (at + n)
passed_length s at n p is =
    let step : good_len (drop at s) ≡ n + good_len (drop n (drop at s)) = rw is at (good_step (drop at s)) in
    record { forward = omega arith; inside = p; same = omega (arith, step, ap good_len (drop-drop n at s)) }

module _ (s : List ℕ) (at n : ℕ) (e : n ≡ seq_len rows (drop at s)) where
  pub inside : n ≤ length s - at
  inside = omega (arith, e, seq_fits rows (drop at s), length-drop at s)

  pub passed_whole : at < length s → Passed s at (at + n)
  passed_whole p = passed_length s at n (omega (arith, inside)) (sym e)

  pub good_ends : n ≡ 0 → good_len (drop at s) ≡ 0
  good_ends z = good_none (drop at s) (sym e ∙ z)

pub good_end : (s : List ℕ) (at : ℕ) → length s ≤ at → good_len (drop at s) ≡ 0
good_end s at p = omega (arith, good_fits (drop at s), length-drop at s)

-- What is passed up to where nothing more is good ends there.
pub ended : (s : List ℕ) (from at : ℕ) → Passed s from at → good_len (drop at s) ≡ 0 → at ≡ from + good_len (drop from s)
ended s from at p z = omega (arith, p.same, z)

pub ended_all : (s : List ℕ) (r : ℕ) → r ≡ 0 + good_len (drop 0 s) → (r ≡ good_len s) × (r ≤ length s)
ended_all s r e = let all : r ≡ good_len s = e ∙ zero-add (good_len s) in (all, omega (arith, all, good_fits s))

pub ended_on : (s : List ℕ) (from at r : ℕ) → Passed s from at → r ≡ at + good_len (drop at s) → r ≡ from + good_len (drop from s)
ended_on s from at r p e = omega (arith, p.same, e)

-- ---- ASCII

pub passed_ascii : (s : List ℕ) (at : ℕ) → at < length s → get_or s at 0 < 0x80 → Passed s at (at + 1)
passed_ascii s at p q = passed_whole s at 1 (sequence_ascii s at p q) p

-- A bitwise or is ASCII only where both bytes are.
pub or_ascii : (a b : ℕ) → bit_or a b < 0x80 → (a < 0x80) × (b < 0x80)
or_ascii a b p = (omega (arith, or_add_and a b, and_le_r a b), omega (arith, or_add_and a b, and_le_l a b))

-- The bitwise or of all bytes is ASCII only where each is.
or_all : (bs : List ℕ) (a : ℕ) → fold bit_or a bs < 0x80 → (a < 0x80) × ((i : ℕ) → i < length bs → get_or bs i 0 < 0x80)
or_all [] a p = (p, λ i q. absurd (not-suc-le-zero q))
or_all (b ∷ bs) a p = go (or_all bs (bit_or a b) p)
  where
    go : (bit_or a b < 0x80) × ((i : ℕ) → i < length bs → get_or bs i 0 < 0x80) → (a < 0x80) × ((i : ℕ) → i < suc (length bs) → get_or (b ∷ bs) i 0 < 0x80)
    go rest = ((or_ascii a b rest.0).0, each)
      where
        each : (i : ℕ) → i < suc (length bs) → get_or (b ∷ bs) i 0 < 0x80
        each zero q = (or_ascii a b rest.0).1
        each (suc i) q = rest.1 i (le_of_suc-le-suc q)

pub ascii_block : (s : List ℕ) (at n : ℕ) → at + n ≤ length s → fold bit_or 0 (take n (drop at s)) < 0x80 → Ascii s at (at + n)
ascii_block s at n p q = record {
  inside = p;
  each = λ i l u.
      let k : i - at < n = omega (arith, l, u) in
      let place : at + (i - at) ≡ i = omega (arith, l) in
      let here = (or_all (take n (drop at s)) 0 q).1 (i - at) (omega (arith, k, length-take n (drop at s), length-drop at s)) in
      rw place at (rw get_or-drop at (rw (get_or-take n (drop at s) (i - at) 0 k) at here));
}

-- ASCII is passed from every place in it on.
pub passed_run : (s : List ℕ) (from until at : ℕ) → Ascii s from until → from ≤ at → at ≤ until → Passed s at until
passed_run s from until at h p q = go (until - at) at p (omega arith)
  where
    go : (n at : ℕ) → from ≤ at → at + n ≡ until → Passed s at until
    go zero at p e = let end : at ≡ until = omega (arith, e) in rw end (passed_none s until h.inside)
    go (suc n) at p e =
        passed_on (passed_ascii s at (omega (arith, h.inside, e)) (h.each at p (omega (arith, e)))) (go n (at + 1) (omega arith) (omega (arith, e)))

-- ---- how a text is broken

module _ (s : List ℕ) (at bad : ℕ) where
  pub nothing_bad : length s ≤ at → bad ≡ cond (eqb 0 0) 0 (max 1 0) → bad ≡ bad_len (drop at s)
  unfolding bad_len best agree rows
  nothing_bad p b = let none : drop at s ≡ [] = drop_of_length-le s p in rw none b

  pub bad_behind : (n : ℕ) → n ≡ best rows (drop at s) → bad ≡ cond (eqb n (length s - at)) 0 (max 1 n) → bad ≡ bad_len (drop at s)
  unfolding bad_len
  bad_behind n e b = rw (← e, length-drop) b

pub checked_of : (s : List ℕ) (good bad : ℕ) → good ≡ good_len s → bad ≡ bad_len (drop good s) → ◌≡◌ {A = Checked} (record { good = good; bad = bad }) (checked s)
unfolding checked
checked_of s good bad g b = rw (← g, b)
