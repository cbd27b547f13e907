-- What the errors of reading a chain report.
use Rattle.std.specs.Prelude.{ℕ}
use Rattle.phys_frames.specs.Memory.{Memory}
use Rattle.folio_bitmaps.specs.declared.chain.ChainError.{ChainError}
use Rattle.folio_bitmaps.specs.declared.chain.ChainError.TheVariants.{BadChain, Memory as NoRoom}
use Rattle.folio_bitmaps.specs.Chain.{BreaksAt}

-- the first number that breaks a rule; nothing of the frames where memory could not be had
abbrev pub Reports : Memory → ℕ → ChainError → Type 0
Reports m first (BadChain p) = BreaksAt m first p
Reports m first NoRoom = Unit {0}
