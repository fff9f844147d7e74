-- The high four bits of a Node ID's first byte have no part in its verdict. No contract cites this file.
use Prim.Native.Nat.{ℕ, ◌%◌, ◌<◌}
use mathlib.Core.Path.{◌≡◌, sym, ap, ◌∙◌}
use mathlib.Core.Bool.{true}
use mathlib.Core.List.{List, ◌∷◌}
use lib.Bits.{and_mask}
use lib.ListN.{get_or}
use Rattle.kind.specs.Layout.{clear}
use Rattle.kind.proofs.Laws.{clear_low}
use Rattle.node_id.specs.NodeId as node
use Rattle.strict.specs.Strict.{verdict, node_id}

-- two payloads that differ in these bits alone have one verdict
pub spare : (b c : ℕ) (s : List ℕ) → b % 16 ≡ c % 16 → node_id (b ∷ s) ≡ node_id (c ∷ s)
unfolding clear
spare b c s h = ap (λ (x : ℕ). verdict node.reader (λ v. true) (x ∷ s)) (and_mask b 4 ∙ h ∙ sym (and_mask c 4))

-- where they are 0 it is yes exactly when the reader accepts, as before K4
pub as_before : (s : List ℕ) → get_or s 0 0 < 16 → node_id s ≡ verdict node.reader (λ v. true) s
as_before s h = ap (verdict node.reader (λ v. true)) (clear_low 4 s h)
