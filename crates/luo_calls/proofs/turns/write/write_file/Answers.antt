use Rattle.std.proofs.Common.{[], ◌∷◌, ◌++◌, ◌≡◌, refl, ap, sym, subst}
use Rattle.ho_base.specs.Objects.{file_no}
use Rattle.ho_events.specs.declared.reply.Reply.TheVariants.{Ok}
use Rattle.ho_world.specs.Logs.{end_with}
use Rattle.ho_world.specs.Sequences.Files.{write_acts}
use Rattle.memfd_file.specs.Files.{FileHas}
use Rattle.luo_calls.specs.Memfds.{wanted_runs}
use Rattle.machine_core.specs.Agents.{Agent}
use Rattle.luo_calls.specs.Doing.{AreWhole, SticksAfter}
use Rattle.luo_calls.specs.Puts.{put_event, put_len}
use Rattle.luo_calls.specs.Wrote.{write_deeds}
use Rattle.luo_calls.specs.declared.stuck.Stuck.{Stuck}
use Rattle.luo_calls.specs.declared.turns.write.Wrote.TheVariants.{Plain}
use Rattle.luo_calls.proofs.Nested as nested
use Rattle.luo_calls.proofs.WriteCommands.{wrote_whole}
use Rattle.luo_calls.proofs.WriteTurns.{holes_fit, outer_comes, outer_stops, put_by_label, put_of_runs, taking_wrote, touches, wants_none}
use Rattle.luo_calls.proofs.turns.write.write_file.Goals as goal

pub returns-in-Err-clause-stopped : goal.returns-in-Err-clause-stopped
returns-in-Err-clause-stopped g c =
    let acts = write_acts c.args.file c.args.off (put_len c.args.put) (put_event c.args.put c.args.off) in
    subst (λ (s : Stuck). SticksAfter (AreWhole acts) s c.args.at.now c.args.at.now (g.R.Reach.shown c.args.reach.now) (g.R.Reach.shown c.open_memfd.new.reach)) (sym c.empty_handed.ensures.stuck)
    (nested.sticks_first (write_deeds c.args.file (put_event c.args.put c.args.off) (Plain Ok) ++ end_with Ok ∷ []) (wrote_whole c.args.file c.args.off (put_len c.args.put) (put_event c.args.put c.args.off) (Plain Ok) tt) _ _ _ _ _ refl
    (c.in-Err.ensures.sticks (put_event c.args.put c.args.off []) (put_by_label c.args.put c.args.off []) (put_of_runs c.args.put c.args.off [])))

pub write_plain-requires-clause-plain : goal.write_plain-requires-clause-plain
write_plain-requires-clause-plain g c =
    wants_none _ c.args.off (put_len c.args.put) _ c.if-wanted-eq0.true
    (subst (λ n. FileHas c.in-Ok.opened.0 (λ f. c.runs_for-wanted.result ≡ wanted_runs f c.args.off n)) c.len-len.ensures c.runs_for-wanted.ensures)

pub write_taking-requires-clause-touched : goal.write_taking-requires-clause-touched
write_taking-requires-clause-touched g c =
    touches _ c.args.off (put_len c.args.put) _ c.if-wanted-eq0.false
    (subst (λ n. FileHas c.in-Ok.opened.0 (λ f. c.runs_for-wanted.result ≡ wanted_runs f c.args.off n)) c.len-len.ensures c.runs_for-wanted.ensures)

pub returns-in-Err-write_plain-clause-stopped : goal.returns-in-Err-write_plain-clause-stopped
returns-in-Err-write_plain-clause-stopped g c =
    let acts = write_acts c.args.file c.args.off (put_len c.args.put) (put_event c.args.put c.args.off) in
    subst (λ (s : Stuck). SticksAfter (AreWhole acts) s c.args.at.now c.write_plain.new.at (g.R.Reach.shown c.args.reach.now) (g.R.Reach.shown c.write_plain.new.reach)) (sym c.empty_handed-in-Err-write_plain.ensures.stuck)
    (nested.outer_sticks _ _ _ (file_no c.args.file.0) _ (g.R.Reach.shown c.open_memfd.new.reach) _ _ c.in-Ok.ensures.opens (ap (λ f. f (file_no c.args.file.0)) c.requires.free)
    (nested.sticks_first (write_deeds c.args.file (put_event c.args.put c.args.off) (Plain Ok) ++ end_with Ok ∷ []) (wrote_whole c.args.file c.args.off (put_len c.args.put) (put_event c.args.put c.args.off) (Plain Ok) tt) _ _ _ _ _ c.in-Err-write_plain.ensures.same_at c.in-Err-write_plain.ensures.sticks))

pub returns-else-wanted-eq0-clause-goes : goal.returns-else-wanted-eq0-clause-goes
returns-else-wanted-eq0-clause-goes g c =
    outer_comes c.args.file (put_event c.args.put c.args.off) _ _ _ (g.R.Reach.shown c.open_memfd.new.reach) _ _ c.write_taking.result c.in-Ok.ensures.opens (ap (λ f. f (file_no c.args.file.0)) c.requires.free) c.write_taking.ensures.goes

pub returns-else-wanted-eq0-clause-stopped : goal.returns-else-wanted-eq0-clause-stopped
returns-else-wanted-eq0-clause-stopped g c =
    outer_stops _ (file_no c.args.file.0) _ _ _ (g.R.Reach.shown c.open_memfd.new.reach) _ _ c.write_taking.result c.in-Ok.ensures.opens (ap (λ f. f (file_no c.args.file.0)) c.requires.free) c.write_taking.ensures.stopped

pub returns-else-wanted-eq0-clause-told : goal.returns-else-wanted-eq0-clause-told
returns-else-wanted-eq0-clause-told g c =
    taking_wrote c.in-Ok.opened.1 c.args.off (put_len c.args.put) c.runs_for-wanted.result c.write_taking.result
    (holes_fit _ c.in-Ok.opened.1 c.args.off (put_len c.args.put) c.runs_for-wanted.result c.in-Ok.ensures.memfd
    (touches _ c.args.off (put_len c.args.put) _ c.if-wanted-eq0.false
    (subst (λ n. FileHas c.in-Ok.opened.0 (λ f. c.runs_for-wanted.result ≡ wanted_runs f c.args.off n)) c.len-len.ensures c.runs_for-wanted.ensures)))
    c.write_taking.ensures.takes
