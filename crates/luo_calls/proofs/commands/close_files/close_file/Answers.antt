use Rattle.luo_calls.proofs.ClosedParts.{plain_unpin, part_whole, plain_whole, closed_one}
use Rattle.ho_world.specs.Logs.{deed_at}
use Rattle.ho_world.specs.Acts.{IsFile}
use Rattle.ho_events.specs.declared.event.Event.TheVariants.{FileUnpin}
use Rattle.ho_base.specs.declared.numbers.Kind.TheVariants.{Memfd}
use Rattle.ho_base.specs.Objects.{file_no}
use Rattle.std.proofs.Common.{[], ◌∷◌}
use Rattle.luo_calls.proofs.Chains.{ready_after}
use Rattle.luo_calls.proofs.Nested.{sticks_first, sticks_later}
use Rattle.luo_calls.proofs.commands.close_files.close_file.Goals as goal

pub returns-in-Err-clause-stopped : goal.returns-in-Err-clause-stopped
returns-in-Err-clause-stopped g c =
    sticks_first (plain_unpin c.args.kept) (plain_whole c.args.kept) _ _ _ _ _ c.in-Err.ensures.same_at c.in-Err.ensures.sticks

pub close_rest-requires-clause-ready : goal.close_rest-requires-clause-ready
close_rest-requires-clause-ready g c = ready_after _ _ _ _ _ c.requires.ready c.in-Ok.ensures.goes

pub returns-in-Ok-close_rest-clause-closed : goal.returns-in-Ok-close_rest-clause-closed
returns-in-Ok-close_rest-clause-closed g c =
    closed_one c.args.kept c.in-Ok.unpinned.0 c.in-Ok.unpinned.1 _ _ _ _ _ _ c.in-Ok.ensures.reply c.in-Ok.ensures.goes c.in-Ok-close_rest.ensures.goes

pub returns-in-Err-close_rest-clause-stopped : goal.returns-in-Err-close_rest-clause-stopped
returns-in-Err-close_rest-clause-stopped g c =
    sticks_later (deed_at (file_no c.args.kept.1.0) (IsFile c.args.kept.1 Memfd c.in-Ok.unpinned.0 ∷ []) FileUnpin c.in-Ok.unpinned.1 ∷ []) (part_whole c.args.kept c.in-Ok.unpinned.0 c.in-Ok.unpinned.1 c.in-Ok.ensures.reply) _ _ _ _ _ _ _ c.in-Ok.ensures.goes c.in-Err-close_rest.ensures.sticks
