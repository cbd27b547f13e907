use Rattle.turns_table.proofs.Sharing.{near}
use Rattle.turns_bench.proofs.measure.Goals as goal

pub agents_of-requires-clause-spare : goal.agents_of-requires-clause-spare
agents_of-requires-clause-spare g c = λ a h. c.in-Ok.ensures.roles a (near a h)
