-- What `read` says at each return of a reader, from the tests on the way to it. No contract cites this file.
use Prim.Native.Nat.{ℕ, zero, suc, ◌+◌, ◌-◌, ◌≤◌, ◌<◌}
use native.Mathlib.Omega.{arith}
use mathlib.Core.Path.{◌≡◌, refl, ap, ◌∙◌}
use mathlib.Core.Bool.{Bool, true, false}
use mathlib.Core.List.{List, [], ◌∷◌}
use lib.Dec.{leb, eqb}
use lib.ListN.{length, get_or, drop, take, length-drop}
use lib.Seq.{take_all}
use lib.Bits.{bit_and}
use borrow.Author.Tests.{le-leb, lt-leb, eq-eqb, ne_eqb}
use Rattle.std.specs.Prelude.{Option, Some, None, Result, Ok, Err, IsErrAnd}
use Rattle.std.specs.Option.{ok_or}
use Rattle.std.proofs.Common.{inl, inr, min}
use Rattle.std.proofs.lemmas.Bool.{cases_lt}
use Rattle.std.proofs.lemmas.List.{length-take}
use Rattle.answer.specs.declared.Answer.{Answer}
use Rattle.answer.specs.declared.Answer.TheVariants.{Short, NodeType, NotUtf8, InputTooLong}
use Rattle.answer.specs.declared.Read.{Read}
use Rattle.octets.specs.Octets.{pick, field, address_of}
use Rattle.octets.proofs.Laws.{length_field, address_there}
use Rattle.text.specs.Utf8.{good_len, bad_len, checked}
use Rattle.texts.specs.declared.Text.{Text}
use Rattle.kind.specs.Layout.{clear}
use Rattle.kind.proofs.Laws.{length_clear}
use Rattle.node_id.specs.declared.NodeId.{NodeId}
use Rattle.node_id.specs.NodeId.{of_ipv4, of_ipv6, named, refused, accepted, read_address, read_ipv4, read_ipv6, read_fqdn, by_type, read}
use Rattle.node_id.specs.declared.NodeId.TheVariants.{Fqdn}
use Rattle.node_id.specs.Steps.{outcome, address_behind, name_behind}

-- what the exit of a `?` returns
pub lost : (r : Result (NodeId × ℕ) Answer) (e : Answer) → IsErrAnd r (λ x. x ≡ e) → outcome r ≡ refused e
lost (Ok p) e h = absurd h
lost (Err x) e h = ap refused h

-- ---- an address, of any width
module _ (s : List ℕ) (number width : ℕ) (make : List ℕ → NodeId) where
  pub cut_address : (r : Read NodeId) → length s < suc width → r ≡ refused (Short number (suc width) (length s)) → r ≡ read_address number width make s
  unfolding read_address
  cut_address r h q = rw (lt-leb (suc width) (length s) h) q

  pub whole_address : {a : List ℕ} {x : NodeId} → suc width ≤ length s → a ≡ field s 1 width → x ≡ make a → accepted (suc width) x ≡ read_address number width make s
  unfolding read_address
  whole_address h p q = rw (le-leb (suc width) (length s) h, q, p)

  -- what the step on the way found
  pub found_address : {a : List ℕ} → Ok a ≡ address_behind number width s → accepted (suc width) (make a) ≡ read_address number width make s
  unfolding address_behind read_address
  found_address q = by (leb (suc width) (length s)) _ _ q
    where
      by : (t : Bool) (b : List ℕ) (e : Answer) {a : List ℕ} → Ok a ≡ pick t (Ok b) (Err e) → accepted (suc width) (make a) ≡ pick t (accepted (suc width) (make b)) (refused e)
      by true b e q = cc
      by false b e q = cc

  pub lost_address : {e : Answer} → Err e ≡ address_behind number width s → refused e ≡ read_address number width make s
  unfolding address_behind read_address
  lost_address q = by (leb (suc width) (length s)) _ _ q
    where
      by : (t : Bool) (b : List ℕ) (e : Answer) {a : Answer} → Err a ≡ pick t (Ok b) (Err e) → refused a ≡ pick t (accepted (suc width) (make b)) (refused e)
      by true b e q = cc
      by false b e q = cc

-- the part behind the type is an address where it has as many bytes
pub address_part : (number width : ℕ) (s : List ℕ) → 0 < length s → ok_or (address_of width (take width (drop 1 s))) (Short number (1 + width) (length s)) ≡ address_behind number width s
unfolding address_of address_behind
address_part number width s g =
    let one : 1 + width ≡ suc width = omega arith in
    let d : length (drop 1 s) ≡ length s - 1 = length-drop 1 s in
    let t : length (take width (drop 1 s)) ≡ min width (length (drop 1 s)) = length-take width (drop 1 s) in
    elim (cases_lt width (length s)) [
      | inl h ↦ rw (eq-eqb (length (take width (drop 1 s))) width (omega arith), le-leb (suc width) (length s) (omega arith))
      | inr h ↦ rw (one, ne_eqb (length (take width (drop 1 s))) width (λ e. omega arith), lt-leb (suc width) (length s) (omega arith))
    ]

module _ (s : List ℕ) (x : NodeId) where
  pub whole_ipv4 : (a : List ℕ) → 5 ≤ length s → Some a ≡ address_of 4 (field s 1 4) → x ≡ of_ipv4 a → accepted 5 x ≡ read_ipv4 s
  whole_ipv4 a h p q =
      let e : Some a ≡ Some (field s 1 4) = p ∙ address_there 4 (field s 1 4) (length_field 1 4 s h) in
      whole_address s 1 4 of_ipv4 h (let y : a ≡ field s 1 4 = cc in y) q

  pub whole_ipv6 : (a : List ℕ) → 17 ≤ length s → Some a ≡ address_of 16 (field s 1 16) → x ≡ of_ipv6 a → accepted 17 x ≡ read_ipv6 s
  whole_ipv6 a h p q =
      let e : Some a ≡ Some (field s 1 16) = p ∙ address_there 16 (field s 1 16) (length_field 1 16 s h) in
      whole_address s 2 16 of_ipv6 h (let y : a ≡ field s 1 16 = cc in y) q

-- what the part gave
module _ (s : List ℕ) (number width : ℕ) (make : List ℕ → NodeId) (h : 0 < length s) where
  pub found_part : {a : List ℕ} → Some a ≡ address_of width (take width (drop 1 s)) → accepted (suc width) (make a) ≡ read_address number width make s
  found_part q = found_address s number width make (ap (λ (o : Option (List ℕ)). ok_or o (Short number (1 + width) (length s))) q ∙ address_part number width s h)

  pub lost_part : None ≡ address_of width (take width (drop 1 s)) → refused (Short number (1 + width) (length s)) ≡ read_address number width make s
  lost_part q = lost_address s number width make (ap (λ (o : Option (List ℕ)). ok_or o (Short number (1 + width) (length s))) q ∙ address_part number width s h)

-- ---- a name, of which g bytes are well formed
module _ (s : List ℕ) (h : 0 < length s) (g : ℕ) (e : g ≡ good_len (take (length s - 1) (drop 1 s))) where
  -- the part behind the type is all of it
  behind : take (length s - 1) (drop 1 s) ≡ drop 1 s
  behind = take_all (length s - 1) (drop 1 s) (omega (arith, length-drop 1 s))

  all_behind : g ≡ good_len (drop 1 s)
  all_behind = e ∙ ap good_len behind

  -- the part behind the type has g good bytes, and so many bad ones
  pub garbled : {bad : ℕ} → (g ≡ length (take (length s - 1) (drop 1 s)) → ⊥) → bad ≡ bad_len (drop g (take (length s - 1) (drop 1 s))) → Err (NotUtf8 (1 + g) bad) ≡ name_behind s
  unfolding name_behind checked
  garbled n b =
      let how : bad_len (drop g (take (length s - 1) (drop 1 s))) ≡ bad_len (drop g (drop 1 s)) = ap (λ (l : List ℕ). bad_len (drop g l)) behind in
      rw (b, how, ← all_behind, ne_eqb (1 + g) (length s) (λ f. n (omega (arith, ap length behind, length-drop 1 s))))

  pub whole : g ≡ length (take (length s - 1) (drop 1 s)) → Ok (record { place = 1; len = g }) ≡ name_behind s
  unfolding name_behind
  whole n = rw (← all_behind, eq-eqb (1 + g) (length s) (omega (arith, ap length behind, length-drop 1 s)))

  pub garbled_name : (r : Read NodeId) (bad : ℕ) → (g ≡ length s - 1 → ⊥) → bad ≡ bad_len (drop g (take (length s - 1) (drop 1 s)))
      → r ≡ refused (NotUtf8 (1 + g) bad) → r ≡ read_fqdn s
  unfolding read_fqdn checked
  garbled_name r bad n b q =
      let how : bad ≡ bad_len (drop g (drop 1 s)) = b ∙ ap (λ (l : List ℕ). bad_len (drop g l)) behind in
      rw (← all_behind, ne_eqb (1 + g) (length s) (λ f. n (omega arith)), ← how) q

  pub whole_name : (x : NodeId) → g ≡ length s - 1 → x ≡ named 1 g → accepted (length s) x ≡ read_fqdn s
  unfolding read_fqdn
  whole_name x n q = rw (← all_behind, eq-eqb (1 + g) (length s) (omega arith), q)

-- what the step on the way found
module _ (s : List ℕ) where
  pub found_name : {t : Text} → Ok t ≡ name_behind s → accepted (length s) (Fqdn t) ≡ read_fqdn s
  unfolding name_behind read_fqdn
  found_name q = by (eqb (1 + good_len (drop 1 s)) (length s)) _ _ q
    where
      by : (t : Bool) (x : Text) (e : Answer) {y : Text} → Ok y ≡ pick t (Ok x) (Err e) → accepted (length s) (Fqdn y) ≡ pick t (accepted (length s) (Fqdn x)) (refused e)
      by true x e q = cc
      by false x e q = cc

  pub lost_name : {e : Answer} → Err e ≡ name_behind s → refused e ≡ read_fqdn s
  unfolding name_behind read_fqdn
  lost_name q = by (eqb (1 + good_len (drop 1 s)) (length s)) _ _ q
    where
      by : (t : Bool) (x : Text) (e : Answer) {a : Answer} → Err a ≡ pick t (Ok x) (Err e) → refused a ≡ pick t (accepted (length s) (Fqdn x)) (refused e)
      by true x e q = cc
      by false x e q = cc

-- ---- by the type
pub no_type : (s : List ℕ) (r : Read NodeId) (k : ℕ) → 2 < k → r ≡ refused (NodeType k) → r ≡ by_type k s
unfolding by_type
no_type s r zero g q = absurd (omega arith)
no_type s r (suc zero) g q = absurd (omega arith)
no_type s r (suc (suc zero)) g q = absurd (omega arith)
no_type s r (suc (suc (suc k))) g q = q

-- what stands in the first byte has no part in it
type_apart : (k b c : ℕ) (t : List ℕ) → by_type k (b ∷ t) ≡ by_type k (c ∷ t)
unfolding by_type read_address read_fqdn
type_apart zero b c t = refl
type_apart (suc zero) b c t = refl
type_apart (suc (suc zero)) b c t = refl
type_apart (suc (suc (suc k))) b c t = refl

-- ---- by the length, then by the type
module _ (s : List ℕ) (r : Read NodeId) where
  pub too_long : 65535 < length s → r ≡ refused (InputTooLong (length s)) → r ≡ read s
  unfolding read
  too_long h q = rw (lt-leb _ _ h) q

  module _ (f : length s ≤ 65535) where
    pub empty : length s < 1 → r ≡ refused (Short 0 1 (length s)) → r ≡ read s
    unfolding read
    empty h q = rw (le-leb _ _ f, lt-leb _ _ h) q

    module _ (h : 1 ≤ length s) where
      pub typed : r ≡ by_type (get_or s 0 0) s → r ≡ read s
      unfolding read
      typed q = rw (le-leb _ _ f, le-leb _ _ h) q

      pub of_type : (k : ℕ) → get_or s 0 0 ≡ k → r ≡ by_type k s → r ≡ read s
      of_type k e q = typed (rw e q)

-- ---- the same under a mask of the first byte
module _ (m : ℕ) (s : List ℕ) (r : Read NodeId) where
  long : length (clear (m ∷ []) s) ≡ length s
  long = length_clear (m ∷ []) s

  pub masked_too_long : 65535 < length s → r ≡ refused (InputTooLong (length s)) → r ≡ read (clear (m ∷ []) s)
  masked_too_long h q = too_long (clear (m ∷ []) s) r (omega (arith, long)) (rw long q)

  pub masked_empty : length s ≤ 65535 → length s < 1 → r ≡ refused (Short 0 1 (length s)) → r ≡ read (clear (m ∷ []) s)
  masked_empty f h q = empty (clear (m ∷ []) s) r (omega (arith, long)) (omega (arith, long)) (rw long q)

pub masked_typed : (m : ℕ) (s : List ℕ) (r : Read NodeId) → length s ≤ 65535 → 1 ≤ length s → r ≡ by_type (bit_and (get_or s 0 0) m) s → r ≡ read (clear (m ∷ []) s)
unfolding clear
masked_typed m [] r f h q = absurd (omega arith)
masked_typed m (b ∷ t) r f h q = typed (bit_and b m ∷ t) r f h (q ∙ type_apart (bit_and b m) b (bit_and b m) t)
