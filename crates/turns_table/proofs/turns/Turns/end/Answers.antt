use Rattle.std.proofs.Common.{◌≡◌, ℕ, Some, sym, subst}
use Rattle.turns_table.specs.Views.{holds, added}
use Rattle.turns_table.specs.Passes.{view, IsNow}
use Rattle.turns_table.proofs.turns.Turns.end.Goals as goal

pub returns-in-Some-clause-entered : goal.returns-in-Some-clause-entered
returns-in-Some-clause-entered g c = rw c.in-Some.is
    (λ x log h r. subst (λ (k : ℕ). IsNow c.args.pass.now c.end_with.new.pass (added k log (g.T.Recorded.history x) c.in-Some.entry (view c.args.pass.now))) c.from-slot.ensures
    (c.end_with.ensures.view x log (subst (λ (k : ℕ). holds (view c.args.pass.now) k ≡ Some x) (sym c.from-slot.ensures) h) r))
