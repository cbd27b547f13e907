use Rattle.ho_world.specs.Logs.{Deed, deed_at, end_with}
use Rattle.ho_events.specs.declared.reply.Reply.TheVariants.{Ok, OkFile, FilesFull}
use Rattle.ho_events.specs.declared.event.Event.TheVariants.{FileInit}
use Rattle.ho_base.specs.declared.numbers.Kind.TheVariants.{Memfd}
use Rattle.std.proofs.Common.{[], ◌∷◌, ◌++◌, refl, ap, ◌∙◌}
use Rattle.ho_base.specs.Objects.{file_no}
use Rattle.std.specs.FinMap as finmap
use Rattle.std.proofs.lemmas.Result.{err_from_is_err_and}
use Rattle.ho_world.specs.Sequences.{Labels}
use Rattle.luo_calls.proofs.Chains.{ready_after, then_goes}
use Rattle.luo_calls.proofs.Memfds as memfds
use Rattle.luo_calls.proofs.Nested as nested
use Rattle.luo_calls.proofs.commands.memfd.memfd_turns.Goals as goal

pub returns-in-Err-clause-sticks : goal.returns-in-Err-clause-sticks
returns-in-Err-clause-sticks g c =
    nested.sticks_first (memfds.asked FilesFull ++ end_with FilesFull ∷ []) (memfds.full_whole c.args.order) _ _ _ _ _ refl (record { same = refl; cause = tt })

pub returns-in_err-file-clause-sticks : goal.returns-in_err-file-clause-sticks
returns-in_err-file-clause-sticks g c =
    let p = err_from_is_err_and c.from_residual.result c.from_residual.ensures.1 in rw (p.1, p.2)
    (nested.sticks_first (memfds.asked FilesFull ++ end_with FilesFull ∷ []) (memfds.full_whole c.args.order) _ _ _ _ _ c.in_err-file.ensures.same_at c.in_err-file.ensures.sticks)

pub init-requires-clause-ready : goal.init-requires-clause-ready
init-requires-clause-ready g c = ready_after _ _ _ _ _ c.requires.ready c.in_ok-file.ensures.goes

pub end_command-requires : goal.end_command-requires
end_command-requires g c =
    record { ready = ready_after _ _ _ _ _ (ready_after _ _ _ _ _ c.requires.ready c.in_ok-file.ensures.goes) c.in_ok-init-in-OkFile.ensures.goes }

pub returns-in_err-end_command-in-OkFile-clause-sticks : goal.returns-in_err-end_command-in-OkFile-clause-sticks
returns-in_err-end_command-in-OkFile-clause-sticks g c =
    let p = err_from_is_err_and c.from_residual-in_err-end_command-in-OkFile.result c.from_residual-in_err-end_command-in-OkFile.ensures.1 in rw (p.1, p.2)
    (nested.sticks_next (memfds.asked (OkFile c.in-OkFile.file) ++ memfds.made_file c.in-OkFile.file c.args.order) (end_with Ok ∷ []) (memfds.made_whole c.args.order c.in-OkFile.file) _ _ _ _ _ _ _
    (then_goes _ _ _ _ _ _ _ _ (memfds.reply_is _ _ _ _ _ _ c.in-OkFile.is c.in_ok-file.ensures.goes) c.in_ok-init-in-OkFile.ensures.goes) c.in_err-end_command-in-OkFile.ensures.same_at c.in_err-end_command-in-OkFile.ensures.sticks)

pub end_command-requires-in-FilesFull : goal.end_command-requires-in-FilesFull
end_command-requires-in-FilesFull g c = record { ready = ready_after _ _ _ _ _ c.requires.ready c.in_ok-file.ensures.goes }

pub returns-in_ok-end_command-in-OkFile-clause-comes : goal.returns-in_ok-end_command-in-OkFile-clause-comes
returns-in_ok-end_command-in-OkFile-clause-comes g c =
    memfds.made c.args.labels.now.bound c.bind.new.self.bound c.args.label c.args.order _ _ _ _ _ _ _ _ c.in-OkFile.file
    (c.bind.ensures.bound ∙ ap (λ (l : Labels). finmap.insert l c.args.label c.in-OkFile.file) c.in_default.ensures.bound)
    (memfds.reply_is _ _ _ _ _ _ c.in-OkFile.is c.in_ok-file.ensures.goes) c.in_ok-init-in-OkFile.ensures.goes c.in_ok-end_command-in-OkFile.ensures.goes

pub returns-in_ok-end_command-in-FilesFull-clause-comes : goal.returns-in_ok-end_command-in-FilesFull-clause-comes
returns-in_ok-end_command-in-FilesFull-clause-comes g c =
    memfds.full c.args.labels.now.bound c.reserve.new.self.bound c.args.label c.args.order _ _ _ _ _ _ c.in_default.ensures.bound
    (memfds.reply_is _ _ _ _ _ _ c.in-FilesFull.is c.in_ok-file.ensures.goes) c.in_ok-end_command-in-FilesFull.ensures.goes

pub returns-in_err-init-in-OkFile-clause-sticks : goal.returns-in_err-init-in-OkFile-clause-sticks
returns-in_err-init-in-OkFile-clause-sticks g c =
    let p = err_from_is_err_and c.from_residual-in_err-init-in-OkFile.result c.from_residual-in_err-init-in-OkFile.ensures.1 in rw (p.1, p.2)
    (nested.sticks_next (memfds.asked (OkFile c.in-OkFile.file)) (memfds.made_file c.in-OkFile.file c.args.order ++ end_with Ok ∷ []) (memfds.made_whole c.args.order c.in-OkFile.file) _ _ _ _ _ _ _
    (memfds.reply_is _ _ _ _ _ _ c.in-OkFile.is c.in_ok-file.ensures.goes) c.in_err-init-in-OkFile.ensures.same_at c.in_err-init-in-OkFile.ensures.sticks)

pub returns-in_err-end_command-in-FilesFull-clause-sticks : goal.returns-in_err-end_command-in-FilesFull-clause-sticks
returns-in_err-end_command-in-FilesFull-clause-sticks g c =
    let p = err_from_is_err_and c.from_residual-in_err-end_command-in-FilesFull.result c.from_residual-in_err-end_command-in-FilesFull.ensures.1 in rw (p.1, p.2)
    (nested.sticks_next (memfds.asked FilesFull) (end_with FilesFull ∷ []) (memfds.full_whole c.args.order) _ _ _ _ _ _ _
    (memfds.reply_is _ _ _ _ _ _ c.in-FilesFull.is c.in_ok-file.ensures.goes) c.in_err-end_command-in-FilesFull.ensures.same_at c.in_err-end_command-in-FilesFull.ensures.sticks)
