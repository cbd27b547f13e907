use Rattle.fdt_blob.specs.Nodes.{tree_view}
use Rattle.fdt_blob.proofs.SpelledBlob.{made_spells}
use Rattle.fdt_blob.proofs.writer.write.Goals as goal

pub returns-clause-spells : goal.returns-clause-spells
returns-clause-spells c = made_spells (tree_view c.args.root.now) c.make.result c.requires.valid c.make.ensures
