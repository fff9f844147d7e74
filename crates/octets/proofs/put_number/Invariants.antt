-- What is left to write, written now, gives the same output as writing all at first.
use Rattle.std.proofs.Common.{◌≡◌}
use Rattle.octets.specs.Octets.{big_endian_bytes, over}
use Rattle.octets.proofs.put_number.Given as goal

abbrev pub invariant-loop-i : goal.invariant-loop-i
invariant-loop-i l = over l.out l.at (big_endian_bytes l.i l.rest) ≡ over l.initial.out l.at (big_endian_bytes l.w l.x)
