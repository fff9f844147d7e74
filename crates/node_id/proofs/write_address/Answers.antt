-- `node_id::write_address` meets its contract: by the room, and two puts are one.
use mathlib.Core.Path.{◌≡◌}
use lib.ListN.{length}
use native.Mathlib.Omega.{arith}
use borrow.Author.Rules.{rules}
use Rattle.octets.specs.Octets.{bytes_if}
use Rattle.node_id.proofs.Writing.{short_address, done_address}
use Rattle.node_id.proofs.write_address.Goals as goal

pub returns-then-out-needed : goal.returns-then-out-needed
returns-then-out-needed g c =
    let long : length c.args.address ≡ g.row.N = search rules in
    let both = short_address _ _ _ _ long (omega arith) (omega arith) in record { value = both.0; out_after = both.1 }

pub returns : goal.returns
unfolding bytes_if
returns g c =
    let long : length c.args.address ≡ g.row.N = search rules in
    let both = done_address _ _ _ _ long (omega arith) _ _ (omega arith) c.put_byte.ensures c.put_address.ensures in record { value = both.0; out_after = both.1 }
