-- `pfd_contents::read::read_fields` meets its contract: the row of the eight steps, to the first fault or to its end.
use mathlib.Core.Path.{◌≡◌, sym, ◌∙◌}
use mathlib.Core.Bool.{◌||◌}
use Rattle.std.proofs.lemmas.Result.{err_from_is_err_and}
use Rattle.octets.specs.Octets.{bit}
use Rattle.text_fields.specs.Fields.{list}
use Rattle.pfd_contents.specs.Steps.{eight_steps}
use Rattle.pfd_contents.proofs.Returns.{onward, stopped}
use Rattle.pfd_contents.proofs.read.read_fields.Goals as goal

pub returns-in_err-flow : goal.returns-in_err-flow
unfolding eight_steps
returns-in_err-flow c =
    let p = err_from_is_err_and c.from_residual.result c.from_residual.ensures.1 in
    rw (p.1, p.2) (sym (stopped c.read_text.ensures _ c.in_err-flow.was))

pub returns-in_err-url : goal.returns-in_err-url
unfolding eight_steps
returns-in_err-url c =
    let p = err_from_is_err_and c.from_residual-in_err-url.result c.from_residual-in_err-url.ensures.1 in
    rw (p.1, p.2) (sym (onward c.read_text.ensures _ c.in_ok-flow.was ∙ stopped c.read_text-2.ensures _ c.in_err-url.was))

pub returns-in_err-domain : goal.returns-in_err-domain
unfolding eight_steps
returns-in_err-domain c =
    let p = err_from_is_err_and c.from_residual-in_err-domain.result c.from_residual-in_err-domain.ensures.1 in
    rw (p.1, p.2) (sym (onward c.read_text.ensures _ c.in_ok-flow.was ∙ onward c.read_text-2.ensures _ c.in_ok-url.was ∙ stopped c.read_text-3.ensures _ c.in_err-domain.was))

pub returns-in_err-custom : goal.returns-in_err-custom
unfolding eight_steps
returns-in_err-custom c =
    let p = err_from_is_err_and c.from_residual-in_err-custom.result c.from_residual-in_err-custom.ensures.1 in
    rw (p.1, p.2) (sym (onward c.read_text.ensures _ c.in_ok-flow.was ∙ onward c.read_text-2.ensures _ c.in_ok-url.was ∙ onward c.read_text-3.ensures _ c.in_ok-domain.was ∙ stopped c.read_text-4.ensures _ c.in_err-custom.was))

pub returns-in_err-protocol : goal.returns-in_err-protocol
unfolding eight_steps
returns-in_err-protocol c =
    let p = err_from_is_err_and c.from_residual-in_err-protocol.result c.from_residual-in_err-protocol.ensures.1 in
    rw (p.1, p.2) (sym (onward c.read_text.ensures _ c.in_ok-flow.was ∙ onward c.read_text-2.ensures _ c.in_ok-url.was ∙ onward c.read_text-3.ensures _ c.in_ok-domain.was ∙ onward c.read_text-4.ensures _ c.in_ok-custom.was ∙ stopped c.read_text-5.ensures _ c.in_err-protocol.was))

pub returns-in_err-flows : goal.returns-in_err-flows
unfolding eight_steps
returns-in_err-flows c =
    let flows : c.read.result ≡ list c.args.payload.now (bit 5 c.args.flags) (bit 6 c.args.flags || bit 7 c.args.flags) c.in_ok-protocol.protocol.next = rw (c.either-flows_later.ensures, c.bit-urls_too.ensures, c.bit-names_too.ensures) at c.read.ensures in
    let p = err_from_is_err_and c.from_residual-in_err-flows.result c.from_residual-in_err-flows.ensures.1 in
    rw (p.1, p.2) (sym (onward c.read_text.ensures _ c.in_ok-flow.was ∙ onward c.read_text-2.ensures _ c.in_ok-url.was ∙ onward c.read_text-3.ensures _ c.in_ok-domain.was ∙ onward c.read_text-4.ensures _ c.in_ok-custom.was ∙ onward c.read_text-5.ensures _ c.in_ok-protocol.was ∙ stopped flows _ c.in_err-flows.was))

pub returns-in_err-urls : goal.returns-in_err-urls
unfolding eight_steps
returns-in_err-urls c =
    let flows : c.read.result ≡ list c.args.payload.now (bit 5 c.args.flags) (bit 6 c.args.flags || bit 7 c.args.flags) c.in_ok-protocol.protocol.next = rw (c.either-flows_later.ensures, c.bit-urls_too.ensures, c.bit-names_too.ensures) at c.read.ensures in
    let urls : c.read-2.result ≡ list c.args.payload.now (bit 6 c.args.flags) (bit 7 c.args.flags) c.in_ok-flows.flows.next = rw c.bit-names_too.ensures at c.read-2.ensures in
    let p = err_from_is_err_and c.from_residual-in_err-urls.result c.from_residual-in_err-urls.ensures.1 in
    rw (p.1, p.2) (sym (onward c.read_text.ensures _ c.in_ok-flow.was ∙ onward c.read_text-2.ensures _ c.in_ok-url.was ∙ onward c.read_text-3.ensures _ c.in_ok-domain.was ∙ onward c.read_text-4.ensures _ c.in_ok-custom.was ∙ onward c.read_text-5.ensures _ c.in_ok-protocol.was ∙ onward flows _ c.in_ok-flows.was ∙ stopped urls _ c.in_err-urls.was))

pub returns-in_err-names : goal.returns-in_err-names
unfolding eight_steps
returns-in_err-names c =
    let flows : c.read.result ≡ list c.args.payload.now (bit 5 c.args.flags) (bit 6 c.args.flags || bit 7 c.args.flags) c.in_ok-protocol.protocol.next = rw (c.either-flows_later.ensures, c.bit-urls_too.ensures, c.bit-names_too.ensures) at c.read.ensures in
    let urls : c.read-2.result ≡ list c.args.payload.now (bit 6 c.args.flags) (bit 7 c.args.flags) c.in_ok-flows.flows.next = rw c.bit-names_too.ensures at c.read-2.ensures in
    let p = err_from_is_err_and c.from_residual-in_err-names.result c.from_residual-in_err-names.ensures.1 in
    rw (p.1, p.2) (sym (onward c.read_text.ensures _ c.in_ok-flow.was ∙ onward c.read_text-2.ensures _ c.in_ok-url.was ∙ onward c.read_text-3.ensures _ c.in_ok-domain.was ∙ onward c.read_text-4.ensures _ c.in_ok-custom.was ∙ onward c.read_text-5.ensures _ c.in_ok-protocol.was ∙ onward flows _ c.in_ok-flows.was ∙ onward urls _ c.in_ok-urls.was ∙ stopped c.read-3.ensures _ c.in_err-names.was))

pub returns : goal.returns
unfolding eight_steps
returns c =
    let flows : c.read.result ≡ list c.args.payload.now (bit 5 c.args.flags) (bit 6 c.args.flags || bit 7 c.args.flags) c.in_ok-protocol.protocol.next = rw (c.either-flows_later.ensures, c.bit-urls_too.ensures, c.bit-names_too.ensures) at c.read.ensures in
    let urls : c.read-2.result ≡ list c.args.payload.now (bit 6 c.args.flags) (bit 7 c.args.flags) c.in_ok-flows.flows.next = rw c.bit-names_too.ensures at c.read-2.ensures in
    sym (onward c.read_text.ensures _ c.in_ok-flow.was ∙ onward c.read_text-2.ensures _ c.in_ok-url.was ∙ onward c.read_text-3.ensures _ c.in_ok-domain.was ∙ onward c.read_text-4.ensures _ c.in_ok-custom.was ∙ onward c.read_text-5.ensures _ c.in_ok-protocol.was ∙ onward flows _ c.in_ok-flows.was ∙ onward urls _ c.in_ok-urls.was ∙ onward c.read-3.ensures _ c.in_ok-names.was)
