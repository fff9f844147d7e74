-- `ie::record_of` meets its contract: each number is there.
use native.Mathlib.Omega.{arith}
use Rattle.ie.proofs.Envelopes.{number_there, counts_it, vendor_record, other_record}
use Rattle.ie.proofs.record_of.Goals as goal

pub pair-requires : goal.pair-requires
pair-requires c =
    let w = number_there c.args.s.now c.requires c.pair-raw_type.ensures c.is_vendor.ensures c.if-is_vendor.true in
    omega (arith, w)

pub overflow_sub-result : goal.overflow_sub-result
overflow_sub-result c =
    let w = counts_it c.args.s.now c.requires c.pair-raw_type.ensures c.pair-length.ensures c.is_vendor.ensures c.if-is_vendor.true in
    omega (arith, w)

pub returns-then-is_vendor : goal.returns-then-is_vendor
returns-then-is_vendor c = search vendor_record

pub returns : goal.returns
returns c = search other_record
