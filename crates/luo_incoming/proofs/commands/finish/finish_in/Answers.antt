use Rattle.luo_calls.specs.Closing.{deeds}
use Rattle.luo_incoming.specs.Finishing.{session_ends_in}
use Rattle.ho_world.specs.Sequences.Parts.{finish_part, finish_acts}
use Rattle.std.specs.List.{flat_map}
use Rattle.luo_calls.proofs.Nested.{holds_goes, sticks_before, sticks_later, within_goes}
use Rattle.luo_calls.proofs.Closes.{kept_claimed, kept_claims, under_after}
use Rattle.luo_incoming.proofs.Finishes.{doubled_sticks, ends_finished, finished_whole, parts_whole_in}
use Rattle.std.proofs.Common.{sym, subst, ◌∙◌}
use Rattle.ho_base.specs.Objects.{session_no}
use Rattle.luo_calls.specs.declared.stuck.Stuck.{Stuck}
use Rattle.luo_calls.specs.Doing.{AreRest, SticksAfter}
use Rattle.luo_incoming.specs.Retrieving.{slot_opened}
use Rattle.luo_calls.specs.Opened.{without}
use Rattle.luo_calls.proofs.Chains.{ready_after}
use Rattle.luo_incoming.proofs.commands.finish.finish_in.Goals as goal

pub returns-then-not-are_all_different-clause-stopped : goal.returns-then-not-are_all_different-clause-stopped
returns-then-not-are_all_different-clause-stopped g c =
    doubled_sticks c.args.name c.args.slot _ _ _ _ c.args.held c.files-files.result.now c.of_session-number.ensures c.requires.holds c.files-files.ensures.content (sym c.are_all_different.ensures ∙ c.if-not-are_all_different.true) c.empty_handed.ensures.stuck

pub returns-in-Err-clause-stopped : goal.returns-in-Err-clause-stopped
returns-in-Err-clause-stopped g c =
    let a = g.R.Reach.shown c.args.reach.now in let n = session_no c.args.slot.0 in
    subst (λ (s : Stuck). SticksAfter (AreRest (finish_acts c.args.name) (slot_opened c.args.name c.args.slot)) s c.args.at.now c.finish_files.new.at (without n a) (g.R.Reach.shown c.under-stuck.new.reach)) (sym c.under-stuck.ensures.stuck)
    (sticks_before (session_ends_in c.args.slot c.args.name (kept_claims c.args.slot c.files-files.result.now)) (parts_whole_in c.args.name c.args.slot c.files-files.result.now (sym c.are_all_different.ensures ∙ c.if-not-are_all_different.false)) _ _ _ (without n a) _
    (under_after _ _ _ _ n a _ _ _ c.of_session-number.ensures c.in-Err.ensures.stopped c.requires.holds c.under-stuck.ensures.ended))

pub end_in-requires-clause-ready : goal.end_in-requires-clause-ready
end_in-requires-clause-ready g c = ready_after _ _ _ _ _ c.requires.ready c.in_default.ensures.finished.goes

pub returns-in-Ok-clause-finishes : goal.returns-in-Ok-clause-finishes
returns-in-Ok-clause-finishes g c =
    ends_finished c.args.name c.args.slot _ _ _ _ (g.R.Reach.shown c.finish_files.new.reach) _ c.args.held c.files-files.result.now c.requires.holds c.files-files.ensures.content (sym c.are_all_different.ensures ∙ c.if-not-are_all_different.false) c.in_default.ensures.finished c.in-Ok.ensures.goes

pub returns-in-Err-end_in-clause-stopped : goal.returns-in-Err-end_in-clause-stopped
returns-in-Err-end_in-clause-stopped g c =
    let a = g.R.Reach.shown c.args.reach.now in let n = session_no c.args.slot.0 in
    let a1 = g.R.Reach.shown c.finish_files.new.reach in let closed = c.in_default.ensures.finished in
    subst (λ (s : Stuck). SticksAfter (AreRest (finish_acts c.args.name) (slot_opened c.args.name c.args.slot)) s c.args.at.now c.end_in.new.at (without n a) (g.R.Reach.shown c.end_in.new.reach)) (sym c.empty_handed-in-Err-end_in.ensures.stuck)
    (sticks_later (deeds (flat_map finish_part closed.parts)) (finished_whole c.args.name c.args.slot c.files-files.result.now _ _ a a1 (sym c.are_all_different.ensures ∙ c.if-not-are_all_different.false) closed) _ _ _ _ (without n a) (without n a1) _ (within_goes _ _ _ n a _ closed.goes)
    (c.in-Err-end_in.ensures.sticks (kept_claims c.args.slot c.files-files.result.now) (kept_claimed a1 a1.hands c.args.slot c.args.held c.files-files.result.now (holds_goes _ _ _ n a a1 _ c.requires.holds closed.goes).held c.files-files.ensures.content)))
