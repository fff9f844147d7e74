use Rattle.image.specs.Image.{little_endian_bytes}
use borrow.Author.Rules.{rules}
use Rattle.image.proofs.put_u64.Goals as goal

pub returns : goal.returns
unfolding little_endian_bytes
returns c = search rules
