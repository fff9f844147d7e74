-- `node_id::NodeId::marshal` meets its contract: by the lent slice, then by the kind.
use Prim.Native.Nat.{ℕ, ◌≤◌, ◌<◌}
use mathlib.Core.Path.{◌≡◌}
use mathlib.Core.Bool.{Bool, true, false, not}
use mathlib.Core.List.{List, ◌∷◌}
use lib.ListN.{length}
use borrow.Author.Tests.{le-leb, lt-leb, not-true, not-false}
use Rattle.answer.specs.declared.Answer.TheVariants.{InputTooLong, BadText}
use Rattle.answer.specs.declared.Written.{Written}
use Rattle.texts.specs.declared.Text.{Text}
use Rattle.texts.specs.Texts.{is_text, bytes_of_text}
use Rattle.kind.specs.Write.{◌then◌, too_long_output, answered, stored}
use Rattle.node_id.specs.declared.NodeId.{NodeId}
use Rattle.node_id.specs.declared.NodeId.TheVariants.{Ipv4, Ipv6, Fqdn}
use Rattle.node_id.specs.NodeId.{meaning, wire, textual, write_refusal}
use Rattle.node_id.proofs.NodeId.marshal.Goals as goal

module _ (texts : List ℕ) (r : NodeId) where
  -- what is left of the tests, and the written form: a type and what follows it
  abbrev Left : ℕ → List ℕ → Type 0
  Left k bs = (write_refusal texts r ≡ too_long_output (length (k ∷ bs))) × (wire (meaning texts r) ≡ k ∷ bs)

  module _ (f : length texts ≤ 65535) where
    by_ipv4 : {a : List ℕ} → r ≡ Ipv4 a → Left 0 a
    unfolding write_refusal ◌then◌ textual meaning wire
    by_ipv4 k = (rw (le-leb _ _ f, k), rw k)

    by_ipv6 : {a : List ℕ} → r ≡ Ipv6 a → Left 1 a
    unfolding write_refusal ◌then◌ textual meaning wire
    by_ipv6 k = (rw (le-leb _ _ f, k), rw k)

    by_name : (t : Bool) (bs : List ℕ) {n : Text} → r ≡ Fqdn n → t ≡ is_text texts n → not t ≡ false → bs ≡ bytes_of_text texts n → Left 2 bs
    unfolding write_refusal ◌then◌ textual meaning wire
    by_name t bs k e q p = (rw (le-leb _ _ f, k, ← e, not-false t q, p), rw (k, p))

  module _ (d : List ℕ) where
    -- what the two promises say
    abbrev Ends : Written → List ℕ → Type 0
    Ends w o = (w ≡ answered (write_refusal texts r) (wire (meaning texts r)) (length d)) × (o ≡ stored (write_refusal texts r) d (wire (meaning texts r)))

    long5 : 65535 < length texts → Ends (record { answer = InputTooLong (length texts); len = 0 }) d
    unfolding write_refusal ◌then◌ answered stored
    long5 h = (rw (lt-leb _ _ h), rw (lt-leb _ _ h))

    bad6 : length texts ≤ 65535 → (t : Bool) {n : Text} → r ≡ Fqdn n → t ≡ is_text texts n → not t ≡ true → Ends (record { answer = BadText 10; len = 0 }) d
    unfolding write_refusal ◌then◌ answered stored textual
    bad6 f t k e q = (rw (le-leb _ _ f, k, ← e, not-true t q), rw (le-leb _ _ f, k, ← e, not-true t q))

    wrote : (k : ℕ) (bs : List ℕ) → Left k bs → {w : Written} {e : List ℕ}
        → (w ≡ answered (too_long_output (length (k ∷ bs))) (k ∷ bs) (length d)) × (e ≡ stored (too_long_output (length (k ∷ bs))) d (k ∷ bs)) → Ends w e
    wrote k bs (t, b) (p, q) = (rw (t, b) p, rw (t, b) q)

pub returns-then-n-gt65535 : goal.returns-then-n-gt65535
returns-then-n-gt65535 c = let both = long5 _ _ _ c.if-n-gt65535.true in record { value = both.0; out_after = both.1 }

pub returns-then-not-is_good : goal.returns-then-not-is_good
returns-then-not-is_good c = let both = bad6 _ _ _ c.if-n-gt65535.false _ c.in-Fqdn.is c.is_good.ensures c.if-not-is_good.true-raw in record { value = both.0; out_after = both.1 }

pub returns-in-Ipv4 : goal.returns-in-Ipv4
returns-in-Ipv4 c =
    let f = c.if-n-gt65535.false in let both = wrote _ _ _ _ _ (by_ipv4 _ _ f c.in-Ipv4.is) (c.write_address.ensures.value, c.write_address.ensures.out_after) in record { value = both.0; out_after = both.1 }

pub returns-in-Ipv6 : goal.returns-in-Ipv6
returns-in-Ipv6 c =
    let f = c.if-n-gt65535.false in let both = wrote _ _ _ _ _ (by_ipv6 _ _ f c.in-Ipv6.is) (c.write_address-in-Ipv6.ensures.value, c.write_address-in-Ipv6.ensures.out_after) in record { value = both.0; out_after = both.1 }

pub returns-else-not-is_good : goal.returns-else-not-is_good
returns-else-not-is_good c =
    let f = c.if-n-gt65535.false in let both = wrote _ _ _ _ _ (by_name _ _ f _ _ c.in-Fqdn.is c.is_good.ensures c.if-not-is_good.false-raw c.of.ensures) (c.write_name.ensures.value, c.write_name.ensures.out_after) in record { value = both.0; out_after = both.1 }
