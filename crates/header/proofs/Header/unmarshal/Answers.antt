-- `header::Header::unmarshal` meets its contract: at each return, the tests that led there and what the calls handed over.
use Prim.Native.Nat.{ℕ, ◌+◌, ◌-◌, ◌^◌, ◌<◌}
use native.Mathlib.Omega.{arith}
use mathlib.Core.List.{List}
use lib.ListN.{length}
use Rattle.octets.specs.Octets.{field}
use Rattle.octets.proofs.Laws.{number_below}
use Rattle.header.proofs.Laws.{version_read}
use Rattle.header.proofs.Returns.{too_long, no_head, no_first_half, no_second_half, whole}
use Rattle.header.proofs.Header.unmarshal.Goals as goal

-- the two numbers that are narrowed fit
length_fits : (s : List ℕ) (x : ℕ) → x < 256 ^ length (field s 2 2) → x < 65536
length_fits s x h = number_below s 2 2 2 x (omega arith) h

sequence_fits : (s : List ℕ) (at x : ℕ) → x < 256 ^ length (field s at (at + 3 - at)) → x < 4294967296
sequence_fits s at x h = number_below s at (at + 3 - at) 4 x (omega arith) h

pub returns-then-n-gt65535 : goal.returns-then-n-gt65535
returns-then-n-gt65535 c = search too_long

pub returns-then-n-lt-MIN_LEN : goal.returns-then-n-lt-MIN_LEN
returns-then-n-lt-MIN_LEN c = search no_head

pub returns-then-n-end12 : goal.returns-then-n-end12
returns-then-n-end12 c = search no_first_half

pub returns-then-n-end16 : goal.returns-then-n-end16
returns-then-n-end16 c = search no_second_half

pub overflow_cast-result : goal.overflow_cast-result
overflow_cast-result c = record { fits = search length_fits }

pub overflow_cast-result-2 : goal.overflow_cast-result-2
overflow_cast-result-2 c = record { fits = search sequence_fits }

pub returns : goal.returns
returns c = search (whole, version_read, (c.shared_slice_known-4-1.given 0).fits)
