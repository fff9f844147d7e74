-- `octets::bit` meets its contract; past bit 7 nothing of a byte is left.
use Prim.Native.Nat.{◌<◌, ◌^◌}
use native.Mathlib.Nat.{div-eq_of_lt, pow-le-pow_right, lt_of_lt_of_le}
use native.Mathlib.Omega.{arith}
use lib.Dec.{lit<}
use borrow.Author.Rules.{rules}
use Rattle.octets.proofs.bit.Goals as goal

pub returns-then-k-gt7 : goal.returns-then-k-gt7
returns-then-k-gt7 c =
    let b = c.args.b in
    let small : b < 2 ^ 8 = search rules in
    let k = c.args.k in
    let less : b < 2 ^ k = lt_of_lt_of_le small (pow-le-pow_right {n = 2} (lit< tt) {i = 8} {j = k} (omega arith)) in
    rw (div-eq_of_lt less)
