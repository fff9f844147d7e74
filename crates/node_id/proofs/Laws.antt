-- What `read` accepts, by the type. No contract cites this file.
use Prim.Native.Nat.{ℕ, zero, suc, ◌+◌, ◌≤◌}
use native.Mathlib.Omega.{arith}
use mathlib.Core.Path.{◌≡◌, refl, sym}
use mathlib.Core.Bool.{Bool, true, false}
use mathlib.Core.List.{List, ◌∷◌}
use Rattle.std.specs.Prelude.{None}
use lib.Dec.{leb, eqb}
use lib.ListN.{length, get_or, drop}
use borrow.Author.Tests.{eq-eqb, leb-true, eqb-true}
use Rattle.answer.specs.declared.Answer.{Answer}
use Rattle.answer.specs.declared.Answer.TheVariants.{Done, Short, NotUtf8, InputTooLong}
use Rattle.octets.specs.Octets.{pick, field}
use Rattle.text.specs.Utf8.{good_len, checked}
use Rattle.node_id.specs.declared.NodeId.{NodeId}
use Rattle.answer.specs.declared.Read.{Read}
use Rattle.node_id.specs.NodeId.{Value, ipv4, ipv6, meaning, wire, textual, of_ipv4, of_ipv6, named, refused, accepted, read_address, read_fqdn, by_type, read}
use Rattle.node_id.proofs.Returns.{whole_address, typed}

-- a type that is an address: its byte, the address's width and its record
pub record Address (k width : ℕ) (make : List ℕ → NodeId) : Type 0 where
  pub number : ℕ
  pub value : List ℕ → Value
  pub reads : (s : List ℕ) → by_type k s ≡ read_address number width make s
  pub means : (texts a : List ℕ) → meaning texts (make a) ≡ value a
  pub writes : (a : List ℕ) → wire (value a) ≡ k ∷ a
  pub able : (texts a : List ℕ) → textual texts (make a) ≡ None

ipv4_type : Address 0 4 of_ipv4
unfolding by_type meaning wire textual
ipv4_type = record { number = 1; value = ipv4; reads = λ s. refl; means = λ t a. refl; writes = λ a. refl; able = λ t a. refl }

ipv6_type : Address 1 16 of_ipv6
unfolding by_type meaning wire textual
ipv6_type = record { number = 2; value = ipv6; reads = λ s. refl; means = λ t a. refl; writes = λ a. refl; able = λ t a. refl }

module _ (s : List ℕ) (fits : length s ≤ 65535) where
  pub whole : {k width : ℕ} {make : List ℕ → NodeId} → Address k width make → suc width ≤ length s → get_or s 0 0 ≡ k → read s ≡ accepted (suc width) (make (field s 1 width))
  whole {width = width} {make = make} a h e =
      sym (typed s _ fits (omega arith) (rw (e, a.reads s) (whole_address s a.number width make h refl refl)))

  pub whole_name : 1 + good_len (drop 1 s) ≡ length s → get_or s 0 0 ≡ 2 → read s ≡ accepted (length s) (named 1 (good_len (drop 1 s)))
  unfolding by_type read_fqdn
  whole_name h e = sym (typed s _ fits (omega arith) (rw (e, eq-eqb _ _ h)))

-- an accepted payload is an address or a name
pub data Form (s : List ℕ) : Type 0 where
  address : {k width : ℕ} {make : List ℕ → NodeId} → Address k width make → suc width ≤ length s → get_or s 0 0 ≡ k → Form s
  name : 1 + good_len (drop 1 s) ≡ length s → get_or s 0 0 ≡ 2 → Form s

-- what a test leaves that doesn't refuse
tested : (t : Bool) (r : Read NodeId) (a : Answer) → (a ≡ Done → ⊥) → (pick t r (refused a)).answer ≡ Done → (t ≡ true) × (r.answer ≡ Done)
unfolding refused
tested true r a n q = (refl, q)
tested false r a n q = absurd (n q)

short_not : (k m n : ℕ) → Short k m n ≡ Done → ⊥
short_not k m n q = let z : ◌≡◌ {A = ℕ} 0 1 = cc in omega arith

long_not : (n : ℕ) → InputTooLong n ≡ Done → ⊥
long_not n q = let z : ◌≡◌ {A = ℕ} 0 1 = cc in omega arith

text_not : (n b : ℕ) → NotUtf8 n b ≡ Done → ⊥
text_not n b q = let z : ◌≡◌ {A = ℕ} 0 1 = cc in omega arith

addressed : (s : List ℕ) (number width : ℕ) (make : List ℕ → NodeId) → (read_address number width make s).answer ≡ Done → suc width ≤ length s
unfolding read_address
addressed s number width make q = leb-true _ _ (tested (leb (suc width) (length s)) (accepted (suc width) (make (field s 1 width))) (Short number (suc width) (length s)) (short_not number (suc width) (length s)) q).0

pub formed : (s : List ℕ) → (read s).answer ≡ Done → (length s ≤ 65535) × Form s
unfolding read by_type read_fqdn refused
formed s q =
    let (p, q1) = tested (leb (length s) 65535) (pick (leb 1 (length s)) (by_type (get_or s 0 0) s) (refused (Short 0 1 (length s)))) (InputTooLong (length s)) (long_not (length s)) q in
    let (p1, q2) = tested (leb 1 (length s)) (by_type (get_or s 0 0) s) (Short 0 1 (length s)) (short_not 0 1 (length s)) q1 in
    (leb-true _ _ p, by (get_or s 0 0) refl q2)
  where
    by : (b : ℕ) → get_or s 0 0 ≡ b → (by_type b s).answer ≡ Done → Form s
    by zero e q = address ipv4_type (addressed s 1 4 of_ipv4 q) e
    by (suc zero) e q = address ipv6_type (addressed s 2 16 of_ipv6 q) e
    by (suc (suc zero)) e q =
        name (eqb-true _ _ (tested (eqb (1 + good_len (drop 1 s)) (length s)) (accepted (length s) (named 1 (good_len (drop 1 s)))) (NotUtf8 (1 + good_len (drop 1 s)) (checked (drop 1 s)).bad) (text_not _ _) q).0) e
    by (suc (suc (suc b))) e q = let z : ◌≡◌ {A = ℕ} 0 1 = cc in absurd (omega arith)
