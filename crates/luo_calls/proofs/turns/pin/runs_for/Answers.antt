use Rattle.luo_calls.proofs.PinTurns.{wants}
use Rattle.luo_calls.proofs.turns.pin.runs_for.Goals as goal

pub returns-clause-wanted : goal.returns-clause-wanted
returns-clause-wanted c = wants _ _ _ _ _ c.is_kept-kept.ensures c.facts-facts.ensures.exact c.all_holes-holes.ensures.value c.none_if.ensures
