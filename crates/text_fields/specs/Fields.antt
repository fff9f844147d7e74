-- Text fields and runs of them, as document 01 has them.
use Rattle.std.specs.Prelude.{ℕ, zero, suc, ◌+◌, ◌-◌, Bool, true, false, ◌||◌, ◌&&◌, List, [], ◌∷◌, ◌++◌, ltb, eqb, length, is_some, unwrap_or}
use Rattle.std.specs.Prelude.{Option, None, Some, Result, Ok, Err}
use Rattle.answer.specs.declared.Answer.{Answer}
use Rattle.answer.specs.declared.Answer.TheVariants.{Done, Short, NotUtf8, BadText}
use Rattle.octets.specs.Octets.{pick, field, big_endian, big_endian_bytes}
use Rattle.text.specs.Utf8.{good_len, checked}
use Rattle.texts.specs.Texts.{is_text}
use Rattle.texts.specs.declared.Text.{Text}
use Rattle.kind.specs.Write.{◌then◌, too_long_input}
use Rattle.text_fields.specs.declared.TextList.{TextList}
use Rattle.text_fields.specs.declared.Fault.{Fault}
use Rattle.text_fields.specs.declared.Fault.TheVariants.{Past, Garbled}
use Rattle.text_fields.specs.declared.Step.{Step}
use Rattle.text_fields.specs.declared.fields.Run.{Run}
use Rattle.text_fields.specs.declared.add.ListAdded.{ListAdded}

-- ---- what a text and a list mean

-- a field is a two-byte length and its text: the length that the field at a place states, and the text
abbrev pub length_at : List ℕ → ℕ → ℕ
length_at s at = big_endian (field s at 2)

abbrev pub text_at : List ℕ → ℕ → List ℕ
text_at s at = field s (at + 2) (length_at s at)

-- the texts of so many fields, one behind the other
unfoldable pub texts_from : ℕ → List ℕ → ℕ → List (List ℕ)
texts_from zero s at = []
texts_from (suc k) s at = text_at s at ∷ texts_from k s (at + 2 + length_at s at)

unfoldable pub text_meaning : List ℕ → Option Text → Option (List ℕ)
text_meaning texts None = None
text_meaning texts (Some t) = Some (field texts t.place t.len)

unfoldable pub list_meaning : List ℕ → TextList → List (List ℕ)
list_meaning texts x = texts_from x.count texts x.place

-- ---- their written form

unfoldable pub field_of : List ℕ → List ℕ
field_of t = big_endian_bytes 2 (length t) ++ t

unfoldable pub text_wire : Option (List ℕ) → List ℕ
text_wire None = []
text_wire (Some t) = field_of t

unfoldable pub list_wire : List (List ℕ) → List ℕ
list_wire [] = []
list_wire (t ∷ ts) = field_of t ++ list_wire ts

-- ---- reading

-- a text
abbrev pub text_of : ℕ → ℕ → Option Text
text_of p n = Some (record { place = p; len = n })

-- The text of the field at a place. Fewer than two bytes left: none. A length past the end is a fault, tested before UTF-8. So is a text that isn't UTF-8:
-- where its good beginning ends, and how many bytes there are bad.
unfoldable pub field_at : List ℕ → ℕ → Result (Option Text) Fault
field_at s at =
    pick (ltb (length s) (at + 2)) (Ok None)
    (pick (ltb (length s) (at + 2 + length_at s at)) (Err (Past (at + 2 + length_at s at) (length s)))
    (pick (ltb (good_len (text_at s at)) (length_at s at)) (Err (Garbled (at + 2 + good_len (text_at s at)) (checked (text_at s at)).bad))
    (Ok (text_of (at + 2) (length_at s at)))))

abbrev pub on_field : {A : Type 0} → Result (Option Text) Fault → A → (Text → A) → (Fault → A) → A
on_field (Ok None) absent whole faulty = absent
on_field (Ok (Some t)) absent whole faulty = whole t
on_field (Err x) absent whole faulty = faulty x

-- so many fields, and the place behind the last
abbrev pub run : ℕ → ℕ → Result Run Fault
run count next = Ok (record { count = count; next = next })

-- The fields from a place on while there are any, at most `most`, where `count` stand before it: how many there are then, and the place behind the last.
unfoldable pub entries : ℕ → List ℕ → ℕ → ℕ → Result Run Fault
entries zero s at count = run count at
entries (suc most) s at count = on_field (field_at s at) (run count at) (λ t. entries most s (t.place + t.len) (count + 1)) Err

abbrev pub on_entries : {A : Type 0} → Result Run Fault → (Run → A) → (Fault → A) → A
on_entries (Ok r) whole broken = whole r
on_entries (Err x) whole broken = broken x

-- the records of a run, and of none
abbrev pub no_list : TextList
no_list = record { place = 0; len = 0; count = 0 }

abbrev pub run_of : ℕ → ℕ → ℕ → TextList
run_of from to count = record { place = from; len = to - from; count = count }

-- 1 with field 10 for a length past the end, 4 for a text that isn't UTF-8
abbrev pub answer_of : Fault → Answer
answer_of (Past end len) = Short 10 end len
answer_of (Garbled place bad) = NotUtf8 place bad

-- what a step of a reader takes and the place behind it, where it meets no fault
abbrev pub took : {A : Type 0} → A → ℕ → Result (Step A) Fault
took x at = Ok (record { taken = x; next = at })

-- a text, under its flag
unfoldable pub text : List ℕ → Bool → ℕ → Result (Step (Option Text)) Fault
text s false at = took None at
text s true at = on_field (field_at s at) (took None at) (λ t. took (Some t) (t.place + t.len)) Err

-- a list, under its flag: every field that there is, but only one where a later list is flagged too
unfoldable pub list : List ℕ → Bool → Bool → ℕ → Result (Step TextList) Fault
list s false later at = took no_list at
list s true later at = on_entries (entries (pick later 1 (length s)) s at 0) (λ r. took (run_of at r.next r.count) r.next) Err

-- ---- what can be written

-- a text that is absent, or ends within its slice and is UTF-8
unfoldable pub is_maybe : List ℕ → Option Text → Bool
is_maybe texts None = true
is_maybe texts (Some t) = is_text texts t

-- a list that is empty, or a run of the slice that is just so many good fields and just so many bytes
abbrev pub is_empty : TextList → Bool
is_empty x = eqb x.count 0 && eqb x.len 0

unfoldable pub is_list : List ℕ → TextList → Bool
is_list texts x =
    is_empty x
    || on_entries (entries x.count texts x.place 0) (λ r. eqb r.count x.count && eqb (r.next - x.place) x.len) (λ fault. false)

-- 6 for a field that can't be
abbrev pub bad : ℕ → Bool → Option Answer
bad number good = pick good None (Some (BadText number))

-- ---- adding an entry to a list

-- the place behind the whole good field at a place
unfoldable pub entry_end : List ℕ → ℕ → Option ℕ
entry_end texts at = on_field (field_at texts at) None (λ t. Some (t.place + t.len)) (λ fault. None)

-- directly behind the run, unless the list is empty
unfoldable pub is_behind : TextList → ℕ → Bool
is_behind l at = is_empty l || eqb (l.place + l.len) at

-- 5, then 6: the list so far, and an entry that is there and stands behind it
unfoldable pub add_refusal : ℕ → List ℕ → TextList → ℕ → Option Answer
add_refusal number texts l at = too_long_input (length texts) then bad number (is_list texts l) then bad number (is_some (entry_end texts at) && is_behind l at)

-- the run with the entry
abbrev pub with_entry : List ℕ → TextList → ℕ → TextList
with_entry texts l at =
    let end = unwrap_or (entry_end texts at) 0 in
    pick (is_empty l) (run_of at end 1) (run_of l.place end (l.count + 1))

-- refused, the list is as before
unfoldable pub added_by : Option Answer → TextList → TextList → ListAdded
added_by None new old = record { answer = Done; list = new }
added_by (Some a) new old = record { answer = a; list = old }

unfoldable pub added : ℕ → List ℕ → TextList → ℕ → ListAdded
added number texts l at = added_by (add_refusal number texts l at) (with_entry texts l at) l
