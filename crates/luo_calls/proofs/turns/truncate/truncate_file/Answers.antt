use Rattle.std.proofs.Common.{refl, [], ◌∷◌, ap, subst}
use Rattle.ho_base.specs.Objects.{file_no}
use Rattle.ho_events.specs.declared.event.Event.TheVariants.{FileTruncate}
use Rattle.machine_core.specs.Agents.{Agent}
use Rattle.luo_calls.proofs.Nested as nested
use Rattle.luo_calls.proofs.Truncates.{refused_deeds, refused_whole}
use Rattle.luo_calls.proofs.turns.truncate.truncate_file.Goals as goal

pub returns-in-Err-clause-sticks : goal.returns-in-Err-clause-sticks
returns-in-Err-clause-sticks g c =
    nested.sticks_first (refused_deeds c.args.file c.args.size) (refused_whole c.args.file c.args.size) _ _ _ _ _ refl (c.in-Err.ensures.sticks (FileTruncate c.args.size) refl refl)

pub returns-in-Err-truncate_held-clause-sticks : goal.returns-in-Err-truncate_held-clause-sticks
returns-in-Err-truncate_held-clause-sticks g c =
    nested.outer_sticks _ _ _ (file_no c.args.file.0) _ (g.R.Reach.shown c.open_memfd.new.reach) _ _ c.in-Ok.ensures.opens c.requires.free
    (nested.sticks_first (refused_deeds c.args.file c.args.size) (refused_whole c.args.file c.args.size) _ _ _ _ _ c.in-Err-truncate_held.ensures.same_at c.in-Err-truncate_held.ensures.sticks)

pub returns-in-Ok-truncate_held-clause-goes : goal.returns-in-Ok-truncate_held-clause-goes
returns-in-Ok-truncate_held-clause-goes g c =
    nested.outer_goes _ _ _ (file_no c.args.file.0) _ (g.R.Reach.shown c.open_memfd.new.reach) _ _ c.in-Ok.ensures.opens c.requires.free c.in-Ok-truncate_held.ensures.goes
