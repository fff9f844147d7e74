-- `outer_header_creation::record_of` meets its contract: field by field.
use Rattle.outer_header_creation.proofs.Returns.{parts}
use Rattle.outer_header_creation.proofs.record_of.Goals as goal

pub returns : goal.returns
returns c =
    parts _ _ _ _ _ _ _ _ _ c.requires.ends_value c.teid_of.ensures c.address.ensures c.address-2.ensures c.u16_of.ensures c.u32_of.ensures c.u32_of-2.ensures
