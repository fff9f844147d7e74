-- `f_teid::FteidBuilder::build` meets its contract: by the rule that is broken.
use mathlib.Core.Path.{◌≡◌, ◌∙◌}
use Rattle.std.specs.Option.{unwrap_or}
use Rattle.octets.specs.Octets.{pick}
use Rattle.f_teid.specs.Fteid.{no_teid}
use Rattle.f_teid.specs.Builder.{built_of, built_by, built}
use Rattle.f_teid.proofs.FteidBuilder.build.Goals.{then-ch, else-ch}
use Rattle.f_teid.proofs.FteidBuilder.build.Goals as goal

pub returns-in-Some : goal.returns-in-Some
unfolding built built_by
returns-in-Some c = rw (c.empty.ensures, ← c.broken.ensures, c.in-Some.is)

pub returns : goal.returns
unfolding built built_by built_of
returns c =
    let teid : c.if-ch.teid ≡ pick c.either-ch.result no_teid (unwrap_or c.args.self.teid no_teid) = elim c.if-ch.branch [
      | then-ch w ↦ rw w.if-ch.true w.teid-is
      | else-ch w ↦ rw w.if-ch.false (w.teid-is ∙ w.unwrap_or-teid.ensures)
    ] in
    rw (
      ← c.broken.ensures,
      c.in_default.is,
      c.either.ensures,
      c.is_some.ensures,
      c.either-2.ensures,
      c.is_some-2.ensures,
      teid,
      c.either-ch.ensures,
      c.is_some-3.ensures,
      c.unwrap_or.ensures,
    )
