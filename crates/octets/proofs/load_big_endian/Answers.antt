-- `octets::load_big_endian` meets its contract: four bytes, the first of which weighs most.
use native.Mathlib.Omega.{arith}
use Rattle.octets.proofs.load_big_endian.Goals as goal

pub returns : goal.returns
returns c = omega (arith, c.from_be_bytes.ensures)
