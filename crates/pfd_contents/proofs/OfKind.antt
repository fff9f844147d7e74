-- PFD Contents is a kind. No contract cites this file.
use Prim.Native.Nat.{ℕ, zero, suc, ◌+◌, ◌-◌, ◌≤◌}
use native.Mathlib.Omega.{arith}
use mathlib.Core.Path.{◌≡◌, refl, sym, ap, ap₂, ◌∙◌}
use mathlib.Core.Bool.{Bool, true, false, ◌||◌}
use mathlib.Core.List.{List, [], ◌∷◌, ◌++◌}
use Rattle.std.specs.Prelude.{Option, None, Result, Ok, Err}
use Rattle.answer.specs.declared.Read.{Read}
use lib.Bits.{bit_and, and_mask, and_zero_r}
use lib.Dec.{leb}
use lib.ListN.{length, get_or, take}
use lib.Seq.{length-take-le, take_all}
use borrow.Author.Tests.{le-leb, leb-true}
use Rattle.answer.specs.declared.Answer.TheVariants.{Done, Short, InputTooLong}
use Rattle.octets.specs.Octets.{pick, bit, Bytes, field}
use Rattle.octets.proofs.Laws.{bytes_take}
use Rattle.kind.specs.Kind.{Reads, Kind}
use Rattle.kind.specs.Layout.{clear}
use Rattle.kind.proofs.Laws.{length_clear, bytes_clear, clear_clear, Alike, alike_field}
use Rattle.kind.specs.Demand3.{Demand3}
use Rattle.kind.proofs.Demand3.{demand3}
use Rattle.kind.specs.Write.{◌then◌}
use Rattle.text_fields.specs.Fields.{took, text, list, is_maybe, is_list, text_meaning, list_meaning}
use Rattle.pfd_contents.specs.PfdContents.{◌into◌, refused, read_fields, read, accepted, pfd_of, wire, meaning, tested, Value, reader, write_refusal}
use Rattle.texts.specs.declared.Text.{Text}
use Rattle.text_fields.specs.declared.Fault.{Fault}
use Rattle.text_fields.specs.declared.Step.{Step}
use Rattle.text_fields.specs.declared.TextList.{TextList}
use Rattle.pfd_contents.specs.declared.PfdContents.{PfdContents}
use Rattle.text_fields.specs.declared.Fault.TheVariants.{Past, Garbled}
use Rattle.text_fields.proofs.Meant.{join}
use Rattle.text_fields.proofs.Carry.{Cut, text_kept, list_kept}

-- ---- what an accepted payload has

-- a step that didn't end the reading took something
taking : {A B : Type 0} (x : Result (Step A) Fault) (rest : A → ℕ → Read PfdContents) → (x into rest).answer ≡ Done → ((got : A) (next : ℕ) → x ≡ took got next → (rest got next).answer ≡ Done → B) → B
unfolding refused
taking (Ok step) rest h then-so = then-so step.taken step.next refl h
taking (Err (Past e l)) rest h then-so = let z : ◌≡◌ {A = ℕ} 0 1 = cc in absurd (omega arith)
taking (Err (Garbled p b)) rest h then-so = let z : ◌≡◌ {A = ℕ} 0 1 = cc in absurd (omega arith)

-- eight steps that took something are a reading that is done
replay : (s : List ℕ) (f : ℕ) {x₁ x₂ x₃ x₄ x₅ : Option Text} {x₆ x₇ x₈ : TextList} {n₁ n₂ n₃ n₄ n₅ n₆ n₇ n₈ : ℕ}
    → text s (bit 0 f) 2 ≡ took x₁ n₁
    → text s (bit 1 f) n₁ ≡ took x₂ n₂
    → text s (bit 2 f) n₂ ≡ took x₃ n₃
    → text s (bit 3 f) n₃ ≡ took x₄ n₄
    → text s (bit 4 f) n₄ ≡ took x₅ n₅
    → list s (bit 5 f) (bit 6 f || bit 7 f) n₅ ≡ took x₆ n₆
    → list s (bit 6 f) (bit 7 f) n₆ ≡ took x₇ n₇
    → list s (bit 7 f) false n₇ ≡ took x₈ n₈
    → read_fields s f ≡ accepted n₈ (pfd_of f x₁ x₂ x₃ x₄ x₅ x₆ x₇ x₈)
unfolding read_fields
replay s f e₁ e₂ e₃ e₄ e₅ e₆ e₇ e₈ = simp (e₁, e₂, e₃, e₄, e₅, e₆, e₇, e₈)

-- a reading that is done: how many bytes it used, its record, what that writes, and that a payload cut there is read alike
record Ended (s : List ℕ) (f : ℕ) : Type 0 where
  n : ℕ
  r : PfdContents
  from : 2 ≤ n
  within : n ≤ length s
  reads : read_fields s f ≡ accepted n r
  writes : wire (meaning s r) ≡ f ∷ 0 ∷ field s 2 (n - 2)
  able : tested s r ≡ None
  again : {t : List ℕ} → Cut n s t → (read_fields t f ≡ accepted n r) × (meaning t r ≡ meaning s r)

-- the bytes up to a place, and one part more
module _ (s : List ℕ) (f : ℕ) where
  abbrev Front : List ℕ → ℕ → Type 0
  Front xs a = (2 ≤ a) × (xs ≡ f ∷ 0 ∷ field s 2 (a - 2))

  part : (a b : ℕ) {xs ys : List ℕ} → Front xs a → a ≤ b → ys ≡ field s a (b - a) → Front (xs ++ ys) b
  part a b p h e =
      let d : 2 + (a - 2) ≡ a = omega (arith, p.0) in
      let z : a - 2 + (b - a) ≡ b - 2 = omega (arith, p.0) in (
        omega (arith, p.0),
        ap₂ (λ (u v : List ℕ). u ++ v) p.1 (e ∙ ap (λ (k : ℕ). field s k (b - a)) (sym d))
            ∙ ap (λ (l : List ℕ). f ∷ 0 ∷ l) (join s 2 (a - 2) (b - a) ∙ ap (field s 2) z),
      )

upto : {a b c : ℕ} → a ≤ b → b ≤ c → a ≤ c
upto {a} {b} {c} h k = omega arith

same_place : (a : ℕ) → a ≤ a
same_place a = omega arith

all_able : (s : List ℕ) (r : PfdContents)
    → is_maybe s r.flow_description ≡ true
    → is_maybe s r.url ≡ true
    → is_maybe s r.domain_name ≡ true
    → is_maybe s r.custom_pfd_content ≡ true
    → is_maybe s r.domain_name_protocol ≡ true
    → is_list s r.additional_flow_description ≡ true
    → is_list s r.additional_url ≡ true
    → is_list s r.additional_domain_name_and_protocol ≡ true
    → tested s r ≡ None
unfolding tested ◌then◌
all_able s r e₁ e₂ e₃ e₄ e₅ e₆ e₇ e₈ = rw (e₁, e₂, e₃, e₄, e₅, e₆, e₇, e₈)

all_same : (s t : List ℕ) (r : PfdContents)
    → text_meaning t r.flow_description ≡ text_meaning s r.flow_description
    → text_meaning t r.url ≡ text_meaning s r.url
    → text_meaning t r.domain_name ≡ text_meaning s r.domain_name
    → text_meaning t r.custom_pfd_content ≡ text_meaning s r.custom_pfd_content
    → text_meaning t r.domain_name_protocol ≡ text_meaning s r.domain_name_protocol
    → list_meaning t r.additional_flow_description ≡ list_meaning s r.additional_flow_description
    → list_meaning t r.additional_url ≡ list_meaning s r.additional_url
    → list_meaning t r.additional_domain_name_and_protocol ≡ list_meaning s r.additional_domain_name_and_protocol
    → meaning t r ≡ meaning s r
unfolding meaning
all_same s t r e₁ e₂ e₃ e₄ e₅ e₆ e₇ e₈ = rw (e₁, e₂, e₃, e₄, e₅, e₆, e₇, e₈)

ended : (s : List ℕ) (f : ℕ) → Bytes s → 2 ≤ length s → {x₁ x₂ x₃ x₄ x₅ : Option Text} {x₆ x₇ x₈ : TextList} {n₁ n₂ n₃ n₄ n₅ n₆ n₇ n₈ : ℕ}
    → text s (bit 0 f) 2 ≡ took x₁ n₁
    → text s (bit 1 f) n₁ ≡ took x₂ n₂
    → text s (bit 2 f) n₂ ≡ took x₃ n₃
    → text s (bit 3 f) n₃ ≡ took x₄ n₄
    → text s (bit 4 f) n₄ ≡ took x₅ n₅
    → list s (bit 5 f) (bit 6 f || bit 7 f) n₅ ≡ took x₆ n₆
    → list s (bit 6 f) (bit 7 f) n₆ ≡ took x₇ n₇
    → list s (bit 7 f) false n₇ ≡ took x₈ n₈
    → Ended s f
unfolding wire meaning
ended s f b two {x₁} {x₂} {x₃} {x₄} {x₅} {x₆} {x₇} {x₈} {n₁} {n₂} {n₃} {n₄} {n₅} {n₆} {n₇} {n₈} e₁ e₂ e₃ e₄ e₅ e₆ e₇ e₈ =
    let k₁ = text_kept s b 2 (same_place 2) two (bit 0 f) x₁ n₁ e₁ in
    let o₁ : 2 ≤ n₁ = k₁.onward in
    let k₂ = text_kept s b n₁ o₁ k₁.within (bit 1 f) x₂ n₂ e₂ in
    let o₂ : 2 ≤ n₂ = upto o₁ k₂.onward in
    let k₃ = text_kept s b n₂ o₂ k₂.within (bit 2 f) x₃ n₃ e₃ in
    let o₃ : 2 ≤ n₃ = upto o₂ k₃.onward in
    let k₄ = text_kept s b n₃ o₃ k₃.within (bit 3 f) x₄ n₄ e₄ in
    let o₄ : 2 ≤ n₄ = upto o₃ k₄.onward in
    let k₅ = text_kept s b n₄ o₄ k₄.within (bit 4 f) x₅ n₅ e₅ in
    let o₅ : 2 ≤ n₅ = upto o₄ k₅.onward in
    let k₆ = list_kept s b n₅ o₅ k₅.within (bit 5 f) (bit 6 f || bit 7 f) x₆ n₆ e₆ in
    let o₆ : 2 ≤ n₆ = upto o₅ k₆.onward in
    let k₇ = list_kept s b n₆ o₆ k₆.within (bit 6 f) (bit 7 f) x₇ n₇ e₇ in
    let o₇ : 2 ≤ n₇ = upto o₆ k₇.onward in
    let k₈ = list_kept s b n₇ o₇ k₇.within (bit 7 f) false x₈ n₈ e₈ in
    let o₈ : 2 ≤ n₈ = upto o₇ k₈.onward in
    let w₁ = part s f 2 n₁ {xs = f ∷ 0 ∷ []} (same_place 2, refl) k₁.onward k₁.writes in
    let w₂ = part s f n₁ n₂ w₁ k₂.onward k₂.writes in
    let w₃ = part s f n₂ n₃ w₂ k₃.onward k₃.writes in
    let w₄ = part s f n₃ n₄ w₃ k₄.onward k₄.writes in
    let w₅ = part s f n₄ n₅ w₄ k₅.onward k₅.writes in
    let w₆ = part s f n₅ n₆ w₅ k₆.onward k₆.writes in
    let w₇ = part s f n₆ n₇ w₆ k₇.onward k₇.writes in
    let w₈ = part s f n₇ n₈ w₇ k₈.onward k₈.writes in
    let x = pfd_of f x₁ x₂ x₃ x₄ x₅ x₆ x₇ x₈ in
    record {
      n = n₈;
      r = x;
      from = o₈;
      within = k₈.within;
      reads = replay s f e₁ e₂ e₃ e₄ e₅ e₆ e₇ e₈;
      writes = w₈.1;
      able = all_able s x k₁.able k₂.able k₃.able k₄.able k₅.able k₆.able k₇.able k₈.able;
      again = λ {t} c.
          let m₇ : n₇ ≤ n₈ = k₈.onward in
          let m₆ : n₆ ≤ n₈ = upto k₇.onward m₇ in
          let m₅ : n₅ ≤ n₈ = upto k₆.onward m₆ in
          let m₄ : n₄ ≤ n₈ = upto k₅.onward m₅ in
          let m₃ : n₃ ≤ n₈ = upto k₄.onward m₄ in
          let m₂ : n₂ ≤ n₈ = upto k₃.onward m₃ in
          let m₁ : n₁ ≤ n₈ = upto k₂.onward m₂ in
          let a₁ = k₁.again c m₁ in
          let a₂ = k₂.again c m₂ in
          let a₃ = k₃.again c m₃ in
          let a₄ = k₄.again c m₄ in
          let a₅ = k₅.again c m₅ in
          let a₆ = k₆.again c m₆ in
          let a₇ = k₇.again c m₇ in
          let a₈ = k₈.again c (same_place n₈) in (
            replay t f a₁.0 a₂.0 a₃.0 a₄.0 a₅.0 a₆.0 a₇.0 a₈.0,
            all_same s t x a₁.1 a₂.1 a₃.1 a₄.1 a₅.1 a₆.1 a₇.1 a₈.1,
          );
    }

done_at : (s : List ℕ) (f : ℕ) → Bytes s → 2 ≤ length s → (read_fields s f).answer ≡ Done → Ended s f
unfolding read_fields
done_at s f b two h =
    taking (text s (bit 0 f) 2) _ h (λ x₁ n₁ e₁ h₁.
    taking (text s (bit 1 f) n₁) _ h₁ (λ x₂ n₂ e₂ h₂.
    taking (text s (bit 2 f) n₂) _ h₂ (λ x₃ n₃ e₃ h₃.
    taking (text s (bit 3 f) n₃) _ h₃ (λ x₄ n₄ e₄ h₄.
    taking (text s (bit 4 f) n₄) _ h₄ (λ x₅ n₅ e₅ h₅.
    taking (list s (bit 5 f) (bit 6 f || bit 7 f) n₅) _ h₅ (λ x₆ n₆ e₆ h₆.
    taking (list s (bit 6 f) (bit 7 f) n₆) _ h₆ (λ x₇ n₇ e₇ h₇.
    taking (list s (bit 7 f) false n₇) _ h₇ (λ x₈ n₈ e₈ h₈.
    ended s f b two e₁ e₂ e₃ e₄ e₅ e₆ e₇ e₈))))))))

-- what a test leaves that doesn't refuse
tests : (s : List ℕ) → (read s).answer ≡ Done → (length s ≤ 65535) × (2 ≤ length s) × (read s ≡ read_fields s (get_or s 0 0))
unfolding read refused
tests s h = go (leb (length s) 65535) (leb 2 (length s)) refl refl h
  where
    go : (a c : Bool) → leb (length s) 65535 ≡ a → leb 2 (length s) ≡ c
        → (pick a (pick c (read_fields s (get_or s 0 0)) (refused (Short 0 2 (length s)))) (refused (InputTooLong (length s)))).answer ≡ Done
        → (length s ≤ 65535) × (2 ≤ length s) × (read s ≡ read_fields s (get_or s 0 0))
    go true true p q h = (leb-true _ _ p, leb-true _ _ q, rw (p, q))
    go true false p q h = let z : ◌≡◌ {A = ℕ} 0 1 = cc in absurd (omega arith)
    go false c p q h = let z : ◌≡◌ {A = ℕ} 0 1 = cc in absurd (omega arith)

long_enough_law : (s : List ℕ) → length s ≤ 65535 → 2 ≤ length s → read s ≡ read_fields s (get_or s 0 0)
unfolding read
long_enough_law s h k = rw (le-leb _ _ h, le-leb _ _ k)

-- the flags whole and the spare byte cleared
abbrev kept_bits : List ℕ
kept_bits = 0xFF ∷ 0x00 ∷ []

cleared : (s : List ℕ) (n : ℕ) → Bytes s → 2 ≤ n → n ≤ length s → clear kept_bits (take n s) ≡ get_or s 0 0 ∷ 0 ∷ field s 2 (n - 2)
unfolding clear
cleared [] n b h k = absurd (omega arith)
cleared (f ∷ []) n b h k = absurd (omega arith)
cleared (f ∷ x ∷ s) zero b h k = absurd (omega arith)
cleared (f ∷ x ∷ s) (suc zero) b h k = absurd (omega arith)
cleared (f ∷ x ∷ s) (suc (suc n)) b h k =
    let e : bit_and f 0xFF ≡ f = omega (arith, and_mask f 8, b.0) in
    let g : bit_and x 0x00 ≡ 0 = and_zero_r x in
    let z : suc (suc n) - 2 ≡ n = omega arith in
    rw (e, g, z)

module _ {s : List ℕ} {v : Value} {n : ℕ} (r : Reads reader s v n) where
  pub limits : (length s ≤ 65535) × (2 ≤ length s) × (read s ≡ read_fields s (get_or s 0 0))
  limits = tests s r.done

  end : Ended s (get_or s 0 0)
  end = done_at s (get_or s 0 0) r.bytes limits.1 (rw limits.2 at r.done)

  is_read : read s ≡ accepted end.n end.r
  is_read = limits.2 ∙ end.reads

  is_used : end.n ≡ n
  is_used = ap (λ (x : Read PfdContents). x.used) (sym is_read) ∙ r.used

  is_value : meaning s end.r ≡ v
  is_value = ap (λ (x : Read PfdContents). meaning s x.«record») (sym is_read) ∙ r.value

  from : 2 ≤ n
  from = rw is_used at end.from

  within : n ≤ length s
  within = rw is_used at end.within

  pub rewritten : wire v ≡ clear kept_bits (take n s)
  rewritten =
      ap wire (sym is_value)
      ∙ end.writes
      ∙ ap (λ (k : ℕ). get_or s 0 0 ∷ 0 ∷ field s 2 (k - 2)) is_used
      ∙ sym (cleared s n r.bytes from within)

  -- what was read can be written: neither 5 nor 6 nor 7
  pub writable : write_refusal s (read s).«record» ≡ None
  unfolding write_refusal ◌then◌
  writable =
      let e : (read s).«record» ≡ end.r = ap (λ (x : Read PfdContents). x.«record») is_read in
      let l : length (wire (meaning s end.r)) ≡ n =
      ap length (ap wire is_value ∙ rewritten) ∙ length_clear kept_bits (take n s) ∙ length-take-le n s within in
      let h : n ≤ 65535 = upto within limits.0 in
      rw (e, le-leb _ _ limits.0, end.able, l, le-leb n 65535 h)

  pub read_again : Reads reader (clear kept_bits (take n s)) v (length (clear kept_bits (take n s)))
  read_again =
      let t = clear kept_bits (take n s) in
      let l : length t ≡ n = length_clear kept_bits (take n s) ∙ length-take-le n s within in
      let all : take n t ≡ t = take_all n t (omega arith) in
      let alike : Alike kept_bits n s t = record { left = within; right = omega arith; equal = rw all (clear_clear kept_bits (take n s)) } in
      let cut : Cut end.n s t = rw is_used (record { size = l; within = within; alike = λ at w h k. alike_field alike at w h k }) in
      let first : get_or t 0 0 ≡ get_or s 0 0 = ap (λ (x : List ℕ). get_or x 0 0) (cleared s n r.bytes from within) in
      let short : length t ≤ 65535 = omega (arith, limits.0, within) in
      let two : 2 ≤ length t = omega (arith, from) in
      let same : read t ≡ read s = long_enough_law t short two ∙ ap (read_fields t) first ∙ (end.again cut).0 ∙ sym is_read in
      rw l
      (record {
        bytes = bytes_clear kept_bits (take n s) (bytes_take n s r.bytes);
        done = ap (λ (x : Read PfdContents). x.answer) same ∙ r.done;
        value = ap (λ (x : Read PfdContents). meaning t x.«record») (same ∙ is_read) ∙ (end.again cut).1 ∙ is_value;
        used = ap (λ (x : Read PfdContents). x.used) same ∙ r.used;
      })

abbrev pub kind : Kind
kind =
    record {
      Value = Value;
      reader = reader;
      clear = clear kept_bits;
      wire = wire;
      short = λ r. (limits r).0;
      written = rewritten;
      again = read_again;
    }

-- ---- PFD Contents is a kind: demand 3 holds of it
pub demands : Demand3 kind
demands = demand3 kind
