use Rattle.fdt_blob.proofs.OneTree.{broken, one_place, one_tree, one_tree_at}
use Rattle.fdt_blob.proofs.laws.law_of_reading.Goals as goal

pub returns-clause-one_tree : goal.returns-clause-one_tree
returns-clause-one_tree c = one_tree

pub returns-clause-one_at : goal.returns-clause-one_at
returns-clause-one_at c = one_tree_at

pub returns-clause-broken : goal.returns-clause-broken
returns-clause-broken c = broken

pub returns-clause-one_place : goal.returns-clause-one_place
returns-clause-one_place c = one_place
