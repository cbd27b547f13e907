use Rattle.kho_laws.proofs.TreeAgain.{root_again, luo_again}
use Rattle.kho_laws.proofs.tree.law_of_the_tree.Goals as goal

pub returns-clause-root : goal.returns-clause-root
returns-clause-root c = root_again

pub returns-clause-child : goal.returns-clause-child
returns-clause-child c = luo_again
