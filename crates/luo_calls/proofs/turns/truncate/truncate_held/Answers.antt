use Rattle.std.proofs.Common.{refl, [], ◌∷◌, ap, sym, subst, ◌∙◌}
use Rattle.std.specs.Prelude.{None}
use Rattle.ho_base.specs.Objects.{file_no}
use Rattle.ho_base.specs.declared.numbers.Kind.TheVariants.{Memfd}
use Rattle.machine_core.specs.Agents.{Agent}
use Rattle.luo_calls.specs.Opened.{without}
use Rattle.luo_calls.specs.Stuck.{Sticks}
use Rattle.luo_calls.specs.Truncates.{truncate_read}
use Rattle.luo_calls.specs.declared.stuck.Stuck.{Stuck}
use Rattle.luo_calls.proofs.FileHalts.{memfd_claimed}
use Rattle.luo_calls.proofs.KindTurns as kinds
use Rattle.luo_calls.proofs.Nested as nested
use Rattle.luo_calls.proofs.Sticking.{sticks_any}
use Rattle.luo_calls.proofs.Truncates.{cut_fit, cut_listed, cut_says, truncate_claimed, truncate_replied}
use Rattle.luo_calls.proofs.turns.truncate.truncate_held.Goals as goal

pub returns-in-Err-clause-sticks : goal.returns-in-Err-clause-sticks
returns-in-Err-clause-sticks g c =
    let a = g.R.Reach.shown c.args.reach.now in let n = file_no c.args.file.0 in
    sticks_any _ _ _ _ _ (subst (λ (s : Stuck). Sticks c.args.at.now None s (without n a) (g.R.Reach.shown c.under.new.reach)) (sym c.under.ensures.stuck)
    (nested.under_at _ c.args.at.now _ _ n a _ _ _ c.of_file-number.ensures c.in-Err.ensures.sticks c.requires.holds c.under.ensures.ended))

pub end-requires : goal.end-requires
end-requires g c =
    let t = c.truncate-entry.ensures in let a = g.R.Reach.shown c.args.reach.now in let n = file_no c.args.file.0 in
    kinds.file_can_at _ _ _ _ _ _ [] _ _ _ (nested.reopens c.args.at.now n a _ _ c.requires.holds c.in-Ok.ensures.kept c.in-Ok.ensures.early c.requires.object_room c.in-Ok.ensures.room)
    (nested.free_without n a) _ c.in-Ok.ensures.at t.told _ c.of_file-number.ensures (nested.ready_without n c.args.at.now a c.requires.ready) t.kept t.number t.start t.home t.run

pub returns-clause-goes : goal.returns-clause-goes
returns-clause-goes g c =
    let a = g.R.Reach.shown c.args.reach.now in let b = g.R.Reach.shown c.resume_giving.new.reach in let n = file_no c.args.file.0 in
    kinds.file_turned_at _ _ _ _ _ c.truncate-entry.new.self (truncate_read c.args.file c.args.order c.truncate-entry.result.value) _ _ _ (nested.reopens c.args.at.now n a _ _ c.requires.holds c.in-Ok.ensures.kept c.in-Ok.ensures.early c.requires.object_room c.in-Ok.ensures.room)
    (nested.free_without n a) _ c.in-Ok.ensures.at c.truncate-entry.ensures.told _ c.of_file-number.ensures _
    (truncate_claimed (without n a) b.hands c.args.file c.args.order c.truncate-entry.result.value
    (memfd_claimed (without n a) b.hands c.args.file c.args.object c.args.order (ap (λ (x : Agent). x.hands n) c.in-Ok.ensures.kept ∙ c.requires.holds.held) c.requires.memfd)) c.end.ensures

pub truncate-entry-requires-clause-slip_numbers : goal.truncate-entry-requires-clause-slip_numbers
truncate-entry-requires-clause-slip_numbers g c = cut_listed _ c.args.size _ _ c.in-Ok.ensures.listed (c.index_count.ensures.cut c.args.size)

pub returns-clause-given : goal.returns-clause-given
returns-clause-given g c =
    cut_says _ _ _ c.args.order c.args.size _ _ _ c.requires.holds.found.machine c.in-Ok.ensures.empty c.requires.memfd c.truncate-entry.ensures.exact c.truncate-entry.ensures.given

pub truncate-entry-requires-clause-given : goal.truncate-entry-requires-clause-given
truncate-entry-requires-clause-given g c = cut_fit _ c.args.size _ _ _ c.in-Ok.ensures.spare (c.index_count.ensures.cut c.args.size)

pub returns-clause-reply : goal.returns-clause-reply
returns-clause-reply g c = truncate_replied _ _ c.args.size c.truncate-entry.ensures.exact
