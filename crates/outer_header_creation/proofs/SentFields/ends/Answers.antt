-- `outer_header_creation::SentFields::ends` meets its contract: each end is the one before and the width of a field that is sent.
use Prim.Native.Nat.{ℕ, ◌+◌}
use mathlib.Core.Path.{◌≡◌}
use Rattle.octets.specs.Octets.{if_set}
use Rattle.outer_header_creation.specs.declared.SentFields.{SentFields}
use Rattle.outer_header_creation.specs.Steps.{ends_of}
use Rattle.outer_header_creation.proofs.SentFields.ends.Goals as goal

each : (a : SentFields) (u1 u2 u3 u4 u5 u6 : ℕ)
    → u1 ≡ if_set a.teid 4 → u2 ≡ if_set a.ipv4 4 → u3 ≡ if_set a.ipv6 16 → u4 ≡ if_set a.port 2 → u5 ≡ if_set a.ctag 3 → u6 ≡ if_set a.stag 3
    → record { teid = 2 + u1; ipv4 = 2 + u1 + u2; ipv6 = 2 + u1 + u2 + u3; port = 2 + u1 + u2 + u3 + u4; ctag = 2 + u1 + u2 + u3 + u4 + u5; stag = 2 + u1 + u2 + u3 + u4 + u5 + u6 } ≡ ends_of a
unfolding ends_of
each a u1 u2 u3 u4 u5 u6 e1 e2 e3 e4 e5 e6 = rw (e1, e2, e3, e4, e5, e6)

pub returns-clause-value : goal.returns-clause-value
returns-clause-value c = search each
