use Rattle.fdt_blob.proofs.SpelledBlob.{spelling_spells}
use Rattle.fdt_blob.proofs.laws.law_of_spelling.Goals as goal

pub returns : goal.returns
returns c = spelling_spells
