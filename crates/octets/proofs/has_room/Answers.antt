-- `octets::has_room` meets its contract: by what is left behind the bytes.
use native.Mathlib.Omega.{arith}
use Prim.Native.Nat.{◌+◌}
use mathlib.Core.Path.{sym}
use borrow.Author.Tests.{lt-leb}
use Rattle.octets.proofs.Laws.{room_left}
use Rattle.octets.proofs.has_room.Goals as goal

pub returns-then-room-w : goal.returns-then-room-w
returns-then-room-w c = let a = c.args in sym (lt-leb (a.at + a.w) a.room (omega (arith, c.if-room-w.true)))

pub returns : goal.returns
returns c = room_left _ _ _ c.if-room-w.false
