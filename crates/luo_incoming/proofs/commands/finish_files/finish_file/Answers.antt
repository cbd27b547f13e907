use Rattle.luo_incoming.proofs.Finishes.{finished, finished_one, part_whole, plain_whole}
use Rattle.ho_world.specs.Acts.{single}
use Rattle.ho_events.specs.declared.reply.Reply.TheVariants.{Kept}
use Rattle.luo_calls.proofs.Chains.{ready_after}
use Rattle.luo_calls.proofs.Nested.{sticks_first, sticks_later}
use Rattle.luo_incoming.proofs.commands.finish_files.finish_file.Goals as goal

pub returns-in-Err-clause-stopped : goal.returns-in-Err-clause-stopped
returns-in-Err-clause-stopped g c =
    sticks_first (finished c.args.kept single Kept) (plain_whole c.args.kept) _ _ _ _ _ c.in-Err.ensures.same_at c.in-Err.ensures.sticks

pub finish_rest-requires-clause-ready : goal.finish_rest-requires-clause-ready
finish_rest-requires-clause-ready g c = ready_after _ _ _ _ _ c.requires.ready c.in-Ok.ensures.goes

pub returns-in-Ok-finish_rest-clause-finished : goal.returns-in-Ok-finish_rest-clause-finished
returns-in-Ok-finish_rest-clause-finished g c =
    finished_one c.args.kept c.in-Ok.ended.0 c.in-Ok.ended.1 _ _ _ _ _ _ c.in-Ok.ensures.reply c.in-Ok.ensures.goes c.in-Ok-finish_rest.ensures.goes

pub returns-in-Err-finish_rest-clause-stopped : goal.returns-in-Err-finish_rest-clause-stopped
returns-in-Err-finish_rest-clause-stopped g c =
    sticks_later (finished c.args.kept c.in-Ok.ended.0 c.in-Ok.ended.1) (part_whole c.args.kept c.in-Ok.ended.0 c.in-Ok.ended.1 c.in-Ok.ensures.reply) _ _ _ _ _ _ _ c.in-Ok.ensures.goes c.in-Err-finish_rest.ensures.sticks
