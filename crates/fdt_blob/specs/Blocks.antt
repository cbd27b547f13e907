-- The blocks that the program keeps.
use Rattle.fdt_blob.specs.declared.blocks.Block.{Block as Kept}
use Rattle.fdt_blob.specs.Blob.{Block}

-- a block by its two numbers
abbrev pub block_view : Kept → Block
block_view b = record { at = b.at; size = b.size }
