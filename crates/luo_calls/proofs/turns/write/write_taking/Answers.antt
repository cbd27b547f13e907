use Rattle.luo_calls.proofs.WriteTurns.{taken_so, holes_fit, holes_some, filled_comes, filled_stops, given_home}
use Rattle.luo_calls.specs.declared.turns.write.Wrote.TheVariants.{Filled, Plain, Starved}
use Rattle.luo_calls.specs.Wrote.{write_deeds}
use Rattle.ho_world.specs.Logs.{end_with, Deed, deed_at}
use Rattle.ho_events.specs.declared.reply.Reply.TheVariants.{Ok, Got, NoFrames, NoFramesOf}
use Rattle.std.proofs.Common.{[], ◌∷◌, ◌++◌, IsTrue, ◌≡◌, refl, ap, sym, subst, ◌∙◌, map, length}
use Rattle.luo_calls.specs.Puts.{put_event, put_len}
use Rattle.luo_calls.proofs.WriteCommands.{wrote_whole}
use Rattle.machine_core.specs.Turns.{Goes}
use Rattle.ho_world.specs.Sequences.Files.{fits_range}
use Rattle.ho_events.specs.declared.event.Event.TheVariants.{PoolTake}
use Rattle.ho_base.specs.Objects.{file_no, pool_no}
use Rattle.std.specs.declared.snapshot.Snapshot.{Snapshot}
use Rattle.ho_base.specs.declared.items.Items.{Items}
use Rattle.ho_base.specs.declared.numbers.Pfn.{Pfn}
use Rattle.luo_calls.proofs.Taken.{none_taken, some_taken, some_of}
use Rattle.ho_base.specs.declared.numbers.Kind.TheVariants.{Memfd}
use Rattle.ho_world.specs.Acts.{IsFile}
use Rattle.phys_frames.specs.Memory.{AreOf}
use Rattle.pool_core.specs.PoolLending.{zeroed_run}
use Rattle.machine_core.specs.Agents.{Agent, Anchor}
use Rattle.luo_calls.specs.declared.stuck.Stuck.{Stuck}
use Rattle.luo_calls.specs.Opened.{without}
use Rattle.luo_calls.specs.Stuck.{Sticks, turn}
use Rattle.luo_calls.proofs.Chains.{then_goes, ready_after}
use Rattle.luo_calls.proofs.FileHalts.{memfd_claimed, memfd_small}
use Rattle.luo_calls.proofs.Nested as nested
use Rattle.luo_calls.proofs.turns.write.write_taking.Goals as goal

pub returns-in_default-clause-stopped : goal.returns-in_default-clause-stopped
returns-in_default-clause-stopped g c =
    let a = g.R.Reach.shown c.args.reach.now in let n = file_no c.args.file.0 in
    nested.sticks_first (write_deeds c.args.file (put_event c.args.put c.args.off) (Plain Ok) ++ end_with Ok ∷ []) (wrote_whole c.args.file c.args.off (put_len c.args.put) (put_event c.args.put c.args.off) (Plain Ok) tt) c.args.at.now _ _ (without n a) a refl
    (nested.sticks_held c.args.at.now _ _ n a a _ c.of_file-number.ensures c.requires.holds refl tt)

pub returns-in-Err-clause-stopped : goal.returns-in-Err-clause-stopped
returns-in-Err-clause-stopped g c =
    let a = g.R.Reach.shown c.args.reach.now in let n = file_no c.args.file.0 in
    nested.sticks_first (deed_at pool_no (IsFile c.args.file Memfd c.args.order ∷ []) (PoolTake c.args.order c.args.holes) NoFrames ∷ deed_at (file_no c.args.file.0) (IsFile c.args.file Memfd c.args.order ∷ []) (put_event c.args.put c.args.off []) (NoFramesOf c.args.holes) ∷ end_with NoFrames ∷ []) (wrote_whole c.args.file c.args.off (put_len c.args.put) (put_event c.args.put c.args.off) (Starved c.args.order c.args.holes) (holes_fit _ c.args.order c.args.off (put_len c.args.put) c.args.holes c.requires.memfd c.requires.touched)) c.args.at.now _ _ (without n a) _ c.in-Err.ensures.same_at
    (subst (λ (s : Stuck). Sticks c.args.at.now (turn pool_no (PoolTake c.args.order c.args.holes)) s (without n a) (g.R.Reach.shown c.under-stuck.new.reach)) (sym c.under-stuck.ensures.stuck)
    (nested.under_at _ c.args.at.now _ _ n a _ _ _ c.of_file-number.ensures c.in-Err.ensures.sticks c.requires.holds c.under-stuck.ensures.ended))

pub write_starved-requires-clause-ready : goal.write_starved-requires-clause-ready
write_starved-requires-clause-ready g c =
    let a = g.R.Reach.shown c.args.reach.now in
    let goes = none_taken c.args.order c.args.holes c.args.at.now _ a (g.R.Reach.shown c.take_runs.new.reach) c.in-Ok-take_runs.got c.in-None.is c.in-Ok-take_runs.ensures.got (IsFile c.args.file Memfd c.args.order ∷ []) (memfd_claimed a a.hands c.args.file c.args.object c.args.order c.requires.holds.held c.requires.memfd) in
    ready_after _ _ _ _ _ c.requires.ready goes

pub write_starved-requires-clause-holds : goal.write_starved-requires-clause-holds
write_starved-requires-clause-holds g c =
    let a = g.R.Reach.shown c.args.reach.now in
    let goes = none_taken c.args.order c.args.holes c.args.at.now _ a (g.R.Reach.shown c.take_runs.new.reach) c.in-Ok-take_runs.got c.in-None.is c.in-Ok-take_runs.ensures.got (IsFile c.args.file Memfd c.args.order ∷ []) (memfd_claimed a a.hands c.args.file c.args.object c.args.order c.requires.holds.held c.requires.memfd) in
    nested.holds_goes _ _ _ _ a _ _ c.requires.holds goes

pub returns-in-Ok-write_starved-clause-goes : goal.returns-in-Ok-write_starved-clause-goes
returns-in-Ok-write_starved-clause-goes g c =
    let a = g.R.Reach.shown c.args.reach.now in let n = file_no c.args.file.0 in
    let goes = none_taken c.args.order c.args.holes c.args.at.now _ a (g.R.Reach.shown c.take_runs.new.reach) c.in-Ok-take_runs.got c.in-None.is c.in-Ok-take_runs.ensures.got (IsFile c.args.file Memfd c.args.order ∷ []) (memfd_claimed a a.hands c.args.file c.args.object c.args.order c.requires.holds.held c.requires.memfd) in
    then_goes _ _ _ _ _ (without n a) (without n (g.R.Reach.shown c.take_runs.new.reach)) _ (nested.within_goes _ _ _ n a _ goes) c.in-Ok-write_starved.ensures.goes

pub returns-in-Err-write_starved-clause-stopped : goal.returns-in-Err-write_starved-clause-stopped
returns-in-Err-write_starved-clause-stopped g c =
    let a = g.R.Reach.shown c.args.reach.now in let n = file_no c.args.file.0 in
    let goes = none_taken c.args.order c.args.holes c.args.at.now _ a (g.R.Reach.shown c.take_runs.new.reach) c.in-Ok-take_runs.got c.in-None.is c.in-Ok-take_runs.ensures.got (IsFile c.args.file Memfd c.args.order ∷ []) (memfd_claimed a a.hands c.args.file c.args.object c.args.order c.requires.holds.held c.requires.memfd) in
    nested.sticks_next (deed_at pool_no (IsFile c.args.file Memfd c.args.order ∷ []) (PoolTake c.args.order c.args.holes) NoFrames ∷ []) (deed_at (file_no c.args.file.0) (IsFile c.args.file Memfd c.args.order ∷ []) (put_event c.args.put c.args.off []) (NoFramesOf c.args.holes) ∷ end_with NoFrames ∷ []) (wrote_whole c.args.file c.args.off (put_len c.args.put) (put_event c.args.put c.args.off) (Starved c.args.order c.args.holes) (holes_fit _ c.args.order c.args.off (put_len c.args.put) c.args.holes c.requires.memfd c.requires.touched)) _ _ _ _ (without n a) (without n (g.R.Reach.shown c.take_runs.new.reach)) _ (nested.within_goes _ _ _ n a _ goes) c.in-Err-write_starved.ensures.same_at c.in-Err-write_starved.ensures.sticks

pub write_filled-requires-clause-ready : goal.write_filled-requires-clause-ready
write_filled-requires-clause-ready g c =
    let a = g.R.Reach.shown c.args.reach.now in
    let goes = some_taken c.args.order c.args.holes c.args.at.now _ a (g.R.Reach.shown c.take_runs.new.reach) c.in-Ok-take_runs.got c.in-Some.runs c.in-Some.is c.in-Ok-take_runs.ensures.got (IsFile c.args.file Memfd c.args.order ∷ []) (memfd_claimed a a.hands c.args.file c.args.object c.args.order c.requires.holds.held c.requires.memfd) in
    ready_after _ _ _ _ _ c.requires.ready goes

pub write_filled-requires-clause-holds : goal.write_filled-requires-clause-holds
write_filled-requires-clause-holds g c =
    let a = g.R.Reach.shown c.args.reach.now in
    let goes = some_taken c.args.order c.args.holes c.args.at.now _ a (g.R.Reach.shown c.take_runs.new.reach) c.in-Ok-take_runs.got c.in-Some.runs c.in-Some.is c.in-Ok-take_runs.ensures.got (IsFile c.args.file Memfd c.args.order ∷ []) (memfd_claimed a a.hands c.args.file c.args.object c.args.order c.requires.holds.held c.requires.memfd) in
    nested.holds_goes _ _ _ _ a _ _ c.requires.holds goes

pub write_filled-requires-clause-fills : goal.write_filled-requires-clause-fills
write_filled-requires-clause-fills g c =
    let a = g.R.Reach.shown c.args.reach.now in
    let goes = some_taken c.args.order c.args.holes c.args.at.now _ a (g.R.Reach.shown c.take_runs.new.reach) c.in-Ok-take_runs.got c.in-Some.runs c.in-Some.is c.in-Ok-take_runs.ensures.got (IsFile c.args.file Memfd c.args.order ∷ []) (memfd_claimed a a.hands c.args.file c.args.object c.args.order c.requires.holds.held c.requires.memfd) in
    some_of (λ (r : Snapshot (Items Pfn)). c.take_runs.new.out.items ≡ map (zeroed_run a.anchor.home c.args.order) r.value) _ c.in-Ok-take_runs.got c.in-Some.runs c.in-Some.is c.in-Ok-take_runs.ensures.out ∙ ap (λ (x : Anchor). map (zeroed_run x.home c.args.order) c.in-Some.runs.value) (sym goes.anchor)

pub returns-in-Some-clause-goes : goal.returns-in-Some-clause-goes
returns-in-Some-clause-goes g c =
    let a = g.R.Reach.shown c.args.reach.now in let n = file_no c.args.file.0 in
    let goes = some_taken c.args.order c.args.holes c.args.at.now _ a (g.R.Reach.shown c.take_runs.new.reach) c.in-Ok-take_runs.got c.in-Some.runs c.in-Some.is c.in-Ok-take_runs.ensures.got (IsFile c.args.file Memfd c.args.order ∷ []) (memfd_claimed a a.hands c.args.file c.args.object c.args.order c.requires.holds.held c.requires.memfd) in
    filled_comes c.args.file c.args.order (put_event c.args.put c.args.off) c.args.holes c.in-Some.runs _ _ _ (without n a) (without n (g.R.Reach.shown c.take_runs.new.reach)) _ c.write_filled.result
    (some_of (λ (r : Snapshot (Items Pfn)). length r.value ≡ c.args.holes) _ c.in-Ok-take_runs.got c.in-Some.runs c.in-Some.is c.in-Ok-take_runs.ensures.count)
    (nested.within_goes _ _ _ n a _ goes) c.write_filled.ensures.wrote c.write_filled.ensures.goes

pub returns-in-Some-clause-stopped : goal.returns-in-Some-clause-stopped
returns-in-Some-clause-stopped g c =
    let a = g.R.Reach.shown c.args.reach.now in let n = file_no c.args.file.0 in
    let goes = some_taken c.args.order c.args.holes c.args.at.now _ a (g.R.Reach.shown c.take_runs.new.reach) c.in-Ok-take_runs.got c.in-Some.runs c.in-Some.is c.in-Ok-take_runs.ensures.got (IsFile c.args.file Memfd c.args.order ∷ []) (memfd_claimed a a.hands c.args.file c.args.object c.args.order c.requires.holds.held c.requires.memfd) in
    let count = some_of (λ (r : Snapshot (Items Pfn)). length r.value ≡ c.args.holes) _ c.in-Ok-take_runs.got c.in-Some.runs c.in-Some.is c.in-Ok-take_runs.ensures.count in
    filled_stops _ (deed_at pool_no (IsFile c.args.file Memfd c.args.order ∷ []) (PoolTake c.args.order (length c.in-Some.runs.value)) (Got c.in-Some.runs.value) ∷ [])
    (deed_at (file_no c.args.file.0) (IsFile c.args.file Memfd c.args.order ∷ []) (put_event c.args.put c.args.off c.in-Some.runs.value) Ok ∷ end_with Ok ∷ [])
    (wrote_whole c.args.file c.args.off (put_len c.args.put) (put_event c.args.put c.args.off) (Filled c.args.order c.in-Some.runs) (subst (λ h. IsTrue (fits_range c.args.order c.args.off (put_len c.args.put) h)) (sym count) (holes_fit _ c.args.order c.args.off (put_len c.args.put) c.args.holes c.requires.memfd c.requires.touched)))
    _ _ _ (without n a) (without n (g.R.Reach.shown c.take_runs.new.reach)) _ c.write_filled.result
    (taken_so c.args.file c.args.order c.args.holes c.in-Some.runs.value _ _ _ _ count (nested.within_goes _ _ _ n a _ goes)) c.write_filled.ensures.same_at c.write_filled.ensures.sticks

pub returns-in-Some-clause-given_up : goal.returns-in-Some-clause-given_up
returns-in-Some-clause-given_up g c =
    let a = g.R.Reach.shown c.args.reach.now in
    let goes = some_taken c.args.order c.args.holes c.args.at.now _ a (g.R.Reach.shown c.take_runs.new.reach) c.in-Ok-take_runs.got c.in-Some.runs c.in-Some.is c.in-Ok-take_runs.ensures.got (IsFile c.args.file Memfd c.args.order ∷ []) (memfd_claimed a a.hands c.args.file c.args.object c.args.order c.requires.holds.held c.requires.memfd) in
    given_home _ _ c.write_filled.result (ap (λ (x : Anchor). x.home) goes.anchor) c.write_filled.ensures.given_up

pub take_runs-requires-clause-order : goal.take_runs-requires-clause-order
take_runs-requires-clause-order g c = memfd_small _ _ c.requires.memfd

pub take_runs-requires-clause-some : goal.take_runs-requires-clause-some
take_runs-requires-clause-some g c = holes_some _ _ _ _ c.requires.touched
