-- `outer_header_creation::OuterHeaderCreation::sent` meets its contract: field by field.
use mathlib.Core.Path.{◌≡◌}
use Rattle.std.proofs.Common.{rules}
use Prim.Native.Nat.{ℕ}
use mathlib.Core.List.{List}
use mathlib.Core.Bool.{Bool, true, false}
use Rattle.std.specs.Prelude.{Option, None, Some, MatchOption, unwrap_or}
use Rattle.std.specs.Bool.{then_some}
use Rattle.types.specs.declared.Teid.{Teid}
use Rattle.octets.specs.Octets.{pick}
use Rattle.outer_header_creation.specs.declared.SentFields.{SentFields}
use Rattle.outer_header_creation.specs.declared.OuterHeaderCreation.{OuterHeaderCreation}
use Rattle.outer_header_creation.specs.OuterHeaderCreation.{asked}
use Rattle.outer_header_creation.specs.Steps.{sent}
use Rattle.outer_header_creation.proofs.OuterHeaderCreation.sent.Goals as goal

filtered : {A : Type 0} (o r : Option A) (f : Bool) (P : A → Bool → Type 0) → MatchOption o (r ≡ None) (λ x. (b : Bool) × P x b × (r ≡ then_some b x)) → ((x : A) (b : Bool) → P x b → b ≡ f) → r ≡ pick f o None
filtered None r true P q k = q
filtered None r false P q k = q
filtered (Some x) r f P q k = let e = k x q.0 q.1 in let s = q.2 in go f (rw e at s)
  where
    go : (f : Bool) → r ≡ then_some f x → r ≡ pick f (Some x) None
    go true s = s
    go false s = s

each : (r : OuterHeaderCreation) (a : SentFields) (z : Teid) (teid : Option Teid) (a4 a6 : Option (List ℕ)) (w : ℕ) (port ctag stag : Option ℕ)
    → a ≡ asked r.description
    → z ≡ unwrap_or r.teid (record { 0 = 0 })
    → teid ≡ then_some a.teid z
    → a4 ≡ pick a.ipv4 r.ipv4_address None
    → a6 ≡ pick a.ipv6 r.ipv6_address None
    → w ≡ unwrap_or r.port_number 0
    → port ≡ then_some a.port w
    → ctag ≡ pick a.ctag r.ctag None
    → stag ≡ pick a.stag r.stag None
    → record { description = r.description; teid = teid; ipv4_address = a4; ipv6_address = a6; port_number = port; ctag = ctag; stag = stag } ≡ sent r
each r a z teid a4 a6 w port ctag stag q e1 e2 e3 e4 e5 e6 e7 e8 = rw (e2, e1, e3, e4, e6, e5, e7, e8, q)

pub returns : goal.returns
returns c =
    let r = c.args.self in
    let a = c.asked-asked.result in
    let a4 : c.filter.result ≡ pick a.ipv4 r.ipv4_address None = search (rules, filtered) in
    let a6 : c.filter-2.result ≡ pick a.ipv6 r.ipv6_address None = search (rules, filtered) in
    let ctag : c.filter-3.result ≡ pick a.ctag r.ctag None = search (rules, filtered) in
    let stag : c.filter-4.result ≡ pick a.stag r.stag None = search (rules, filtered) in
    each r a _ _ _ _ _ _ _ _ c.asked-asked.ensures c.unwrap_or.ensures c.then_some.ensures a4 a6 c.unwrap_or-2.ensures c.then_some-2.ensures ctag stag
