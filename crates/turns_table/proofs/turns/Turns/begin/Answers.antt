use Rattle.std.proofs.Common.{[], subst}
use Rattle.turns_table.specs.Plays.{Found}
use Rattle.turns_table.specs.Passes.{view}
use Rattle.turns_table.specs.declared.rule.Known.{Known}
use Rattle.turns_table.proofs.Tries.{found_after}
use Rattle.turns_table.proofs.turns.Turns.begin.Goals as goal

pub returns-in-Some-try_begin-clause-found : goal.returns-in-Some-try_begin-clause-found
returns-in-Some-try_begin-clause-found g c = let inv = c.loop.invariant.2 in
    found_after g.T.Chronicle.start g.T.Recorded.history g.T.Chronicle.balanced [] (view c.args.pass.now) (view c.loop.pass).missed c.args.object.0 c.in-Some-try_begin.state
    (subst (λ (v : Known g.row.T.Denot). Found g.T.Chronicle.start g.T.Recorded.history g.T.Chronicle.balanced v c.args.object.0 c.in-Some-try_begin.state) inv.2 c.in-Some-try_begin.ensures.had.2)
