-- Steps of the reader and the writer. Nothing here is the paper's: promises of functions that readers and writers share cite it.
use Rattle.std.specs.Prelude.{◌+◌, ◌≤◌, None, is_some, unwrap_or}
use Rattle.std.specs.Bool.{then_some}
use Rattle.answer.specs.declared.Answer.{Answer}
use Rattle.answer.specs.declared.Answer.TheVariants.{Done}
use Rattle.octets.specs.Octets.{pick, if_set}
use Rattle.kind.specs.Layout.{Outcome, accepts, refuses}
use Rattle.outer_header_creation.specs.declared.OuterHeaderCreation.{OuterHeaderCreation}
use Rattle.outer_header_creation.specs.declared.SentFields.{SentFields}
use Rattle.outer_header_creation.specs.declared.FieldEnds.{FieldEnds}
use Rattle.outer_header_creation.specs.OuterHeaderCreation.{asked}

-- where each field ends
unfoldable pub ends_of : SentFields → FieldEnds
ends_of a =
    let teid = 2 + if_set a.teid 4 in
    let ipv4 = teid + if_set a.ipv4 4 in
    let ipv6 = ipv4 + if_set a.ipv6 16 in
    let port = ipv6 + if_set a.port 2 in
    let ctag = port + if_set a.ctag 3 in
    let stag = ctag + if_set a.stag 3 in
    record { teid = teid; ipv4 = ipv4; ipv6 = ipv6; port = port; ctag = ctag; stag = stag }

-- each end at or behind the one before
pub record Rising (e : FieldEnds) : Type 0 where
  pub teid : 2 ≤ e.teid
  pub ipv4 : e.teid ≤ e.ipv4
  pub ipv6 : e.ipv4 ≤ e.ipv6
  pub port : e.ipv6 ≤ e.port
  pub ctag : e.port ≤ e.ctag
  pub stag : e.ctag ≤ e.stag
  pub last : e.stag ≤ 34

-- what an outcome answers
abbrev pub answer_of : Outcome → Answer
answer_of (accepts n) = Done
answer_of (refuses a) = a

-- the fields that are given
abbrev pub given : OuterHeaderCreation → SentFields
given r =
    record {
      teid = is_some r.teid;
      ipv4 = is_some r.ipv4_address;
      ipv6 = is_some r.ipv6_address;
      port = is_some r.port_number;
      ctag = is_some r.ctag;
      stag = is_some r.stag;
    }

-- what is written of a record: the fields that its flags ask for, TEID and port also where they are absent, as 0
abbrev pub sent : OuterHeaderCreation → OuterHeaderCreation
sent r =
    let a = asked r.description in
    record {
      description = r.description;
      teid = then_some a.teid (unwrap_or r.teid (record { 0 = 0 }));
      ipv4_address = pick a.ipv4 r.ipv4_address None;
      ipv6_address = pick a.ipv6 r.ipv6_address None;
      port_number = then_some a.port (unwrap_or r.port_number 0);
      ctag = pick a.ctag r.ctag None;
      stag = pick a.stag r.stag None;
    }
