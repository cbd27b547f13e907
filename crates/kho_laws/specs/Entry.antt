-- The entry frame: a blob, and zeros behind it.
use Rattle.std.specs.Prelude.{List, ◌++◌, ℕ}
use Rattle.fdt_blob.specs.Trees.{Tree}
use Rattle.fdt_blob.specs.Blob.{Spells}

-- Bytes that spell a tree spell it with any bytes behind them too: their header says where they end.
abbrev pub SpellsWithMore : Type 0
SpellsWithMore = (blob more : List ℕ) (t : Tree) → Spells blob t → Spells (blob ++ more) t
