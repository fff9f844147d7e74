-- The F-TEID builder, as document 01 has it.
use Rattle.std.specs.Prelude.{ℕ, Bool, false, not, ◌&&◌, ◌||◌, List, Option, None, Some, is_some}
use Rattle.std.specs.Option.{unwrap_or}
use Rattle.answer.specs.declared.Answer.TheVariants.{Done, Unbuilt}
use Rattle.answer.specs.declared.Built.{Built}
use Rattle.types.specs.declared.Teid.{Teid}
use Rattle.octets.specs.Octets.{pick}
use Rattle.f_teid.specs.declared.Fteid.{Fteid}
use Rattle.f_teid.specs.declared.FteidBuilder.{FteidBuilder}
use Rattle.f_teid.specs.Fteid.{no_teid, empty}

-- a builder by its fields, in their order
abbrev pub holding : Option Teid → Option (List ℕ) → Option (List ℕ) → Bool → Bool → Option ℕ → FteidBuilder
holding teid a4 a6 c4 c6 id =
    record {
      teid = teid;
      ipv4_address = a4;
      ipv6_address = a6;
      choose_ipv4 = c4;
      choose_ipv6 = c6;
      choose_id = id;
    }

-- all absent and false
abbrev pub fresh : FteidBuilder
fresh = holding None None None false false None

-- a setter changes its own fields and no other
abbrev pub with_teid : FteidBuilder → Teid → FteidBuilder
with_teid b x = holding (Some x) b.ipv4_address b.ipv6_address b.choose_ipv4 b.choose_ipv6 b.choose_id

abbrev pub with_addresses : FteidBuilder → Option (List ℕ) → Option (List ℕ) → FteidBuilder
with_addresses b a4 a6 = holding b.teid a4 a6 b.choose_ipv4 b.choose_ipv6 b.choose_id

abbrev pub with_choices : FteidBuilder → Bool → Bool → FteidBuilder
with_choices b c4 c6 = holding b.teid b.ipv4_address b.ipv6_address c4 c6 b.choose_id

abbrev pub with_choose_id : FteidBuilder → ℕ → FteidBuilder
with_choose_id b id = holding b.teid b.ipv4_address b.ipv6_address b.choose_ipv4 b.choose_ipv6 (Some id)

-- whether there is an address, and whether there is a choice
abbrev pub an_address : FteidBuilder → Bool
an_address b = is_some b.ipv4_address || is_some b.ipv6_address

abbrev pub a_choice : FteidBuilder → Bool
a_choice b = b.choose_ipv4 || b.choose_ipv6

-- the first rule that is broken
unfoldable pub broken : FteidBuilder → Option ℕ
broken b =
    pick (is_some b.ipv4_address && b.choose_ipv4) (Some 1)
    (pick (is_some b.ipv6_address && b.choose_ipv6) (Some 2)
    (pick (not (an_address b || a_choice b)) (Some 3)
    (pick (is_some b.choose_id && not (a_choice b)) (Some 4)
    (pick (not (is_some b.teid || a_choice b)) (Some 5)
    None))))

-- the record of a builder that breaks no rule: with a choice the TEID is 0, and an address of the other family stays
unfoldable pub built_of : FteidBuilder → Fteid
built_of b =
    record {
      v4 = is_some b.ipv4_address || b.choose_ipv4;
      v6 = is_some b.ipv6_address || b.choose_ipv6;
      ch = a_choice b;
      chid = is_some b.choose_id;
      teid = pick (a_choice b) no_teid (unwrap_or b.teid no_teid);
      ipv4_address = b.ipv4_address;
      ipv6_address = b.ipv6_address;
      choose_id = unwrap_or b.choose_id 0;
    }

-- by the rule that is broken
unfoldable pub built_by : FteidBuilder → Option ℕ → Built Fteid
built_by b None = record { answer = Done; «record» = built_of b }
built_by b (Some rule) = record { answer = Unbuilt rule; «record» = empty }

-- what a build answers
unfoldable pub built : FteidBuilder → Built Fteid
built b = built_by b (broken b)
