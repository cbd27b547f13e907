-- What the tool knows of a blob that it opened.
use Rattle.std.specs.Prelude.{ℕ, List, codes}
use Rattle.fdt_blob.specs.declared.reader.OpenError.{OpenError}
use Rattle.fdt_blob.specs.declared.reader.OpenError.TheVariants.{BadFdt, Memory}
use Rattle.fdt_blob.specs.declared.tree.FdtPlace.{FdtPlace}
use Rattle.fdt_blob.specs.declared.tree.FdtPlace.TheVariants.{Header, Reservations, Structure}
use Rattle.fdt_blob.specs.Trees.{Tree}
use Rattle.fdt_blob.specs.Tokens.{Item}
use Rattle.fdt_blob.specs.Places.{Carries}

-- a reader carries a tree
pub record IsOpened (items : List Item) : Type 0 where
  pub whole : Tree
  pub carries : Carries items whole

-- a blob wasn't opened since it breaks a rule, and not for want of memory
abbrev pub IsBad : OpenError → Type 0
IsBad (BadFdt place) = Unit {0}
IsBad Memory = ⊥

-- the line of a refused blob, by the place
abbrev pub refusal_text : FdtPlace → List ℕ
refusal_text Header = codes "refused: header"
refusal_text Reservations = codes "refused: reservations"
refusal_text Structure = codes "refused: structure"
