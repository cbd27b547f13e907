use Rattle.ho_events.specs.declared.event.Event.TheVariants.{RegFindIn}
use Rattle.ho_events.specs.declared.reply.Reply.TheVariants.{Ok, NoSession}
use Rattle.ho_world.specs.Logs.{end_with}
use Rattle.ho_world.specs.Sequences.{Labels}
use Rattle.std.proofs.Common.{[], ◌∷◌, ◌++◌, refl, ap, subst, ◌∙◌}
use Rattle.std.specs.FinMap as finmap
use Rattle.std.proofs.lemmas.Result.{err_from_is_err_and}
use Rattle.luo_calls.proofs.Chains.{ready_after, then_goes}
use Rattle.luo_calls.proofs.Closes.{same_reply}
use Rattle.luo_calls.proofs.Nested.{sticks_first, sticks_later, sticks_next}
use Rattle.luo_incoming.specs.Retrieving.{IsRetrieved, retrieve_deeds, slot_opened}
use Rattle.luo_incoming.specs.declared.commands.retrieve.Retrieved.TheVariants.{Refused, Taken}
use Rattle.luo_incoming.proofs.Retrieves.{came_as, no_name, no_name_whole, none_opened, refused_told, refused_whole, taken, taken_whole, told_sticks}
use Rattle.luo_incoming.proofs.commands.retrieve.retrieve_turns.Goals as goal

pub returns-in-Err-clause-sticks : goal.returns-in-Err-clause-sticks
returns-in-Err-clause-sticks g c =
    sticks_first (none_opened c.args.name ++ end_with NoSession ∷ []) (no_name_whole c.args.name c.args.token) _ _ _ _ _ refl (record { same = refl; cause = tt })

pub returns-in_err-slot-clause-sticks : goal.returns-in_err-slot-clause-sticks
returns-in_err-slot-clause-sticks g c =
    let p = err_from_is_err_and c.from_residual.result c.from_residual.ensures.1 in rw (p.1, p.2)
    (sticks_first (none_opened c.args.name ++ end_with NoSession ∷ []) (no_name_whole c.args.name c.args.token) _ _ _ _ _ c.in_err-slot.ensures.same_at c.in_err-slot.ensures.sticks)

pub retrieve_in-requires-clause-ready : goal.retrieve_in-requires-clause-ready
retrieve_in-requires-clause-ready g c = ready_after _ _ _ _ _ c.requires.ready c.in_ok-slot.ensures.goes

pub returns-in_err-retrieved-in-OkSlot-clause-sticks : goal.returns-in_err-retrieved-in-OkSlot-clause-sticks
returns-in_err-retrieved-in-OkSlot-clause-sticks g c =
    let p = err_from_is_err_and c.from_residual-in_err-retrieved-in-OkSlot.result c.from_residual-in_err-retrieved-in-OkSlot.ensures.1 in rw (p.1, p.2)
    (sticks_later (slot_opened c.args.name c.in-OkSlot.slot) (λ rest h. h) _ _ _ _ _ _ _
    (same_reply _ _ (RegFindIn c.args.name) _ _ _ _ _ _ c.in-OkSlot.is c.in_ok-slot.ensures.goes) c.in_err-retrieved-in-OkSlot.ensures.sticks)

pub end_command-requires : goal.end_command-requires
end_command-requires g c =
    record { ready = ready_after _ _ _ _ _ (ready_after _ _ _ _ _ c.requires.ready c.in_ok-slot.ensures.goes) c.in_ok-retrieved-in-OkSlot.ensures.goes }

pub end_command-requires-in-NoSession : goal.end_command-requires-in-NoSession
end_command-requires-in-NoSession g c = record { ready = ready_after _ _ _ _ _ c.requires.ready c.in_ok-slot.ensures.goes }

pub returns-in_err-end_command-in-NoSession-clause-sticks : goal.returns-in_err-end_command-in-NoSession-clause-sticks
returns-in_err-end_command-in-NoSession-clause-sticks g c =
    let p = err_from_is_err_and c.from_residual-in_err-end_command-in-NoSession.result c.from_residual-in_err-end_command-in-NoSession.ensures.1 in rw (p.1, p.2)
    (sticks_next (none_opened c.args.name) (end_with NoSession ∷ []) (no_name_whole c.args.name c.args.token) _ _ _ _ _ _ _
    (same_reply _ _ (RegFindIn c.args.name) _ _ _ _ _ _ c.in-NoSession.is c.in_ok-slot.ensures.goes) c.in_err-end_command-in-NoSession.ensures.same_at c.in_err-end_command-in-NoSession.ensures.sticks)

pub returns-in_ok-end_command-in-NoSession-clause-comes : goal.returns-in_ok-end_command-in-NoSession-clause-comes
returns-in_ok-end_command-in-NoSession-clause-comes g c =
    no_name c.args.labels.now.bound c.reserve.new.self.bound c.args.name c.args.token c.args.label _ _ _ _ _ _ c.in_default.ensures.bound
    (same_reply _ _ (RegFindIn c.args.name) _ _ _ _ _ _ c.in-NoSession.is c.in_ok-slot.ensures.goes) c.in_ok-end_command-in-NoSession.ensures.goes

pub returns-in_err-end_command-in-Taken-clause-sticks : goal.returns-in_err-end_command-in-Taken-clause-sticks
returns-in_err-end_command-in-Taken-clause-sticks g c =
    let p = err_from_is_err_and c.from_residual-in_err-end_command-in-Taken.result c.from_residual-in_err-end_command-in-Taken.ensures.1 in rw (p.1, p.2)
    (sticks_next (slot_opened c.args.name c.in-OkSlot.slot ++ retrieve_deeds c.in-OkSlot.slot c.args.name c.args.token (Taken c.in-Taken.file c.in-Taken._order c.in-Taken._handle)) (end_with Ok ∷ []) (taken_whole c.args.name c.args.token c.in-OkSlot.slot c.in-Taken.file c.in-Taken._order c.in-Taken._handle) _ _ _ _ _ _ _
    (then_goes _ _ _ _ _ _ _ _ (same_reply _ _ (RegFindIn c.args.name) _ _ _ _ _ _ c.in-OkSlot.is c.in_ok-slot.ensures.goes) (came_as c.in-OkSlot.slot c.args.name c.args.token _ _ _ _ _ _ c.in-Taken.is c.in_ok-retrieved-in-OkSlot.ensures.goes))
    c.in_err-end_command-in-Taken.ensures.same_at c.in_err-end_command-in-Taken.ensures.sticks)

pub end_refused-requires-clause-ready : goal.end_refused-requires-clause-ready
end_refused-requires-clause-ready g c =
    ready_after _ _ _ _ _ (ready_after _ _ _ _ _ c.requires.ready c.in_ok-slot.ensures.goes) c.in_ok-retrieved-in-OkSlot.ensures.goes

pub returns-in_ok-end_command-in-Taken-clause-comes : goal.returns-in_ok-end_command-in-Taken-clause-comes
returns-in_ok-end_command-in-Taken-clause-comes g c =
    taken c.args.labels.now.bound c.bind.new.self.bound c.args.name c.args.token c.args.label _ _ _ _ _ _ c.in-OkSlot.slot _ _
    (same_reply _ _ (RegFindIn c.args.name) _ _ _ _ _ _ c.in-OkSlot.is c.in_ok-slot.ensures.goes) c.in-Taken.file c.in-Taken._order c.in-Taken._handle
    (c.bind.ensures.bound ∙ ap (λ (l : Labels). finmap.insert l c.args.label c.in-Taken.file) c.in_default.ensures.bound)
    (came_as c.in-OkSlot.slot c.args.name c.args.token _ _ _ _ _ _ c.in-Taken.is c.in_ok-retrieved-in-OkSlot.ensures.goes) c.in_ok-end_command-in-Taken.ensures.goes

pub returns-in-Refused-clause-comes : goal.returns-in-Refused-clause-comes
returns-in-Refused-clause-comes g c =
    refused_told c.args.labels.now.bound c.reserve.new.self.bound c.args.name c.args.token c.args.label _ _ _ _ _ _ c.in-OkSlot.slot _ _
    (same_reply _ _ (RegFindIn c.args.name) _ _ _ _ _ _ c.in-OkSlot.is c.in_ok-slot.ensures.goes) c.in-Refused.reply c.end_refused.result
    (subst IsRetrieved c.in-Refused.is c.in_ok-retrieved-in-OkSlot.ensures.told) c.in_default.ensures.bound
    (came_as c.in-OkSlot.slot c.args.name c.args.token _ _ _ _ _ _ c.in-Refused.is c.in_ok-retrieved-in-OkSlot.ensures.goes) c.end_refused.ensures.told c.end_refused.ensures.goes

pub returns-in-Refused-clause-sticks : goal.returns-in-Refused-clause-sticks
returns-in-Refused-clause-sticks g c =
    told_sticks _ (slot_opened c.args.name c.in-OkSlot.slot ++ retrieve_deeds c.in-OkSlot.slot c.args.name c.args.token (Refused c.in-Refused.reply)) (end_with c.in-Refused.reply ∷ [])
    (refused_whole c.args.name c.args.token c.in-OkSlot.slot c.in-Refused.reply (subst IsRetrieved c.in-Refused.is c.in_ok-retrieved-in-OkSlot.ensures.told)) _ _ _ _ _ _ c.end_refused.result
    (then_goes _ _ _ _ _ _ _ _ (same_reply _ _ (RegFindIn c.args.name) _ _ _ _ _ _ c.in-OkSlot.is c.in_ok-slot.ensures.goes) (came_as c.in-OkSlot.slot c.args.name c.args.token _ _ _ _ _ _ c.in-Refused.is c.in_ok-retrieved-in-OkSlot.ensures.goes))
    c.end_refused.ensures.same_at c.end_refused.ensures.sticks
