use Rattle.std.proofs.Common.{rules}
use Rattle.image_file.specs.Image.{image_word}
use Rattle.image_file.proofs.Headers.{header_written}
use Rattle.image_file.proofs.header.header_of.Goals as goal

pub returns : goal.returns
unfolding image_word
returns c = header_written _ _ _ _ _ _ _ c.from.ensures c.from-2.ensures c.put_u64.ensures.replaced c.put_u64-2.ensures.replaced (search rules)
