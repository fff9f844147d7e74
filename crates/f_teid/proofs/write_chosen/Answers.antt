-- `f_teid::write_chosen` meets its contract: two puts, one behind the other, are one put of the written form.
use Prim.Native.Nat.{ℕ, ◌+◌}
use native.Mathlib.Omega.{arith}
use mathlib.Core.Path.{◌≡◌, refl, ap, ◌∙◌}
use mathlib.Core.Bool.{Bool, true, false}
use mathlib.Core.List.{List, [], ◌∷◌}
use Rattle.std.specs.Bool.{then_some}
use lib.ListN.{length}
use Rattle.octets.specs.Octets.{if_set, flag_byte, number_if, presence, put}
use Rattle.octets.proofs.Laws.{flags_padded, number_length, Puts, ends, then}
use Rattle.kind.proofs.Cases.{no_room, all_put}
use Rattle.f_teid.specs.declared.Fteid.{Fteid}
use Rattle.f_teid.specs.Fteid.{meaning, tail, wire}
use Rattle.f_teid.proofs.write_chosen.Goals as goal

module _ (r : Fteid) (u : ℕ) (ch : r.ch ≡ true) (e : u ≡ if_set r.chid 1) where
  -- the written form, how long it is, and that it is put piece by piece
  formed : wire (meaning r) ≡ flag_byte (r.v4 ∷ r.v6 ∷ true ∷ r.chid ∷ []) ∷ number_if 1 (presence r.chid r.choose_id)
  unfolding wire tail meaning
  formed = rw ch

  long : length (wire (meaning r)) ≡ 1 + u
  long = ap length formed ∙ omega (arith, number_length r.chid 1 r.choose_id)

  row : (f : ℕ) (d d1 d2 : List ℕ) → f ≡ flag_byte (r.v4 ∷ r.v6 ∷ true ∷ r.chid ∷ false ∷ false ∷ false ∷ false ∷ [])
      → d1 ≡ put d 0 (f ∷ [])
      → d2 ≡ put d1 1 (number_if 1 (presence r.chid r.choose_id))
      → Puts d 0 (wire (meaning r)) d2
  row f d d1 d2 g q1 q2 = rw (formed, ← flags_padded (r.v4 ∷ r.v6 ∷ true ∷ r.chid ∷ []) 4, ← g) (then (f ∷ []) 1 q1 refl (ends q2))

-- the choose ID as it is handed to the put
handed : (g : Bool) (x : ℕ) → then_some g x ≡ presence g x
unfolding presence
handed true x = refl
handed false x = refl

pub returns-then-out-end : goal.returns-then-out-end
returns-then-out-end c =
    let all_of_it = no_room _ _ _ (long _ _ c.requires c.if_set-end.ensures.value) c.if-out-end.true in
    record { value = all_of_it.0; out_after = all_of_it.1 }

pub returns : goal.returns
returns c =
    let r = c.args.r in
    let ch = c.requires in
    let e = c.if_set-end.ensures.value in
    let id = rw (c.then_some.ensures, handed r.chid r.choose_id) at c.put_number_if.ensures in
    let all_of_it = all_put _ _ _ (long r _ ch e) _ c.if-out-end.false (row r _ ch e _ _ _ _ c.flag_byte-choose_flags.ensures c.put_byte.ensures id) in
    record { value = all_of_it.0; out_after = all_of_it.1 }
