use Rattle.std.proofs.Common.{sym, subst, arith}
use Rattle.turns_table.specs.Views.{IsMine}
use Rattle.turns_bench.proofs.agent_of.Goals as goal

pub split-requires-clause-spare : goal.split-requires-clause-spare
split-requires-clause-spare c = let few = c.requires.few in c.requires.spare c.args.number (omega arith) (omega arith)

pub split-requires-clause-other : goal.split-requires-clause-other
split-requires-clause-other c = let few = c.requires.few in (255, (λ e. omega arith), subst IsMine (sym (c.requires.spare 255 (omega arith) (omega arith))) tt)
