use Rattle.std.specs.declared.snapshot.Snapshot.{Snapshot}
use Rattle.std.proofs.Common.{◌≡◌, length, map, [], ◌∷◌, refl, ap, sym, subst, ◌∙◌}
use Rattle.ho_base.specs.Objects.{file_no, pool_no}
use Rattle.ho_base.specs.declared.items.Items.{Items}
use Rattle.ho_base.specs.declared.numbers.Kind.TheVariants.{Memfd}
use Rattle.ho_base.specs.declared.numbers.Pfn.{Pfn}
use Rattle.ho_events.specs.declared.event.Event.TheVariants.{FilePin, PoolTake}
use Rattle.ho_events.specs.declared.reply.Reply.TheVariants.{NoFrames, NoFramesOf, NotFinished, OkRuns}
use Rattle.ho_world.specs.Acts.{IsFile}
use Rattle.ho_world.specs.Logs.{deed_at}
use Rattle.pool_core.specs.PoolLending.{zeroed_run}
use Rattle.machine_core.specs.Agents.{Agent, Anchor}
use Rattle.luo_calls.specs.Doing.{SticksAfter}
use Rattle.luo_calls.specs.Opened.{without}
use Rattle.luo_calls.specs.Pins.{ArePins, pinned_with}
use Rattle.luo_calls.specs.Stuck.{Sticks, turn}
use Rattle.luo_calls.specs.declared.stuck.Stuck.{Stuck}
use Rattle.luo_calls.proofs.Chains.{ready_after, then_goes}
use Rattle.luo_calls.proofs.FileHalts.{memfd_claimed}
use Rattle.luo_calls.proofs.Nested as nested
use Rattle.luo_calls.proofs.PinTurns as pins
use Rattle.luo_calls.proofs.Taken.{none_taken, some_taken, some_of}
use Rattle.luo_calls.proofs.turns.pin.pin_taking.Goals as goal

pub returns-in_default-clause-stopped : goal.returns-in_default-clause-stopped
returns-in_default-clause-stopped g c =
    let a = g.R.Reach.shown c.args.reach.now in let n = file_no c.args.file.0 in
    subst (λ (s : Stuck). SticksAfter (ArePins c.args.file) s c.args.at.now c.args.at.now (without n a) a) (sym c.empty_handed.ensures.stuck)
    (nested.sticks_first (deed_at (file_no c.args.file.0) [] (FilePin []) NotFinished ∷ []) (pins.refused_pins c.args.file) c.args.at.now _ _ (without n a) a refl
    (nested.sticks_held c.args.at.now _ _ n a a _ c.of_file-number.ensures c.requires.holds refl tt))

pub returns-in-Err-clause-stopped : goal.returns-in-Err-clause-stopped
returns-in-Err-clause-stopped g c =
    let a = g.R.Reach.shown c.args.reach.now in let n = file_no c.args.file.0 in
    nested.sticks_first (deed_at pool_no (IsFile c.args.file Memfd c.args.order ∷ []) (PoolTake c.args.order c.args.holes) NoFrames ∷ pinned_with c.args.file c.args.order [] (NoFramesOf c.args.holes) ∷ []) (pins.starved_pins c.args.file c.args.order c.args.holes c.requires.fits) c.args.at.now _ _ (without n a) _ c.in-Err.ensures.same_at
    (subst (λ (s : Stuck). Sticks c.args.at.now (turn pool_no (PoolTake c.args.order c.args.holes)) s (without n a) (g.R.Reach.shown c.under-stuck.new.reach)) (sym c.under-stuck.ensures.stuck)
    (nested.under_at _ c.args.at.now _ _ n a _ _ _ c.of_file-number.ensures c.in-Err.ensures.sticks c.requires.holds c.under-stuck.ensures.ended))

pub pin_plain-requires-clause-ready : goal.pin_plain-requires-clause-ready
pin_plain-requires-clause-ready g c =
    let a = g.R.Reach.shown c.args.reach.now in
    let goes = none_taken c.args.order c.args.holes c.args.at.now _ a (g.R.Reach.shown c.take_runs.new.reach) c.in-Ok-take_runs.got c.in-None.is c.in-Ok-take_runs.ensures.got (IsFile c.args.file Memfd c.args.order ∷ []) (memfd_claimed a a.hands c.args.file c.args.object c.args.order c.requires.holds.held c.requires.memfd) in
    ready_after _ _ _ _ _ c.requires.ready goes

pub pin_plain-requires-clause-holds : goal.pin_plain-requires-clause-holds
pin_plain-requires-clause-holds g c =
    let a = g.R.Reach.shown c.args.reach.now in
    let goes = none_taken c.args.order c.args.holes c.args.at.now _ a (g.R.Reach.shown c.take_runs.new.reach) c.in-Ok-take_runs.got c.in-None.is c.in-Ok-take_runs.ensures.got (IsFile c.args.file Memfd c.args.order ∷ []) (memfd_claimed a a.hands c.args.file c.args.object c.args.order c.requires.holds.held c.requires.memfd) in
    nested.holds_goes _ _ _ _ a _ _ c.requires.holds goes

pub returns-in-Ok-pin_plain-clause-goes : goal.returns-in-Ok-pin_plain-clause-goes
returns-in-Ok-pin_plain-clause-goes g c =
    let a = g.R.Reach.shown c.args.reach.now in let n = file_no c.args.file.0 in
    let goes = none_taken c.args.order c.args.holes c.args.at.now _ a (g.R.Reach.shown c.take_runs.new.reach) c.in-Ok-take_runs.got c.in-None.is c.in-Ok-take_runs.ensures.got (IsFile c.args.file Memfd c.args.order ∷ []) (memfd_claimed a a.hands c.args.file c.args.object c.args.order c.requires.holds.held c.requires.memfd) in
    then_goes _ _ _ _ _ (without n a) (without n (g.R.Reach.shown c.take_runs.new.reach)) _ (nested.within_goes _ _ _ n a _ goes)
    (pins.same_pin _ (IsFile c.args.file Memfd c.args.order ∷ []) _ _ _ _ _ _ _ _ refl (pins.starved_reply _ _ _ c.requires.holes c.in-Ok-pin_plain.ensures.exact) c.in-Ok-pin_plain.ensures.goes)

pub returns-clause-stopped : goal.returns-clause-stopped
returns-clause-stopped g c =
    let a = g.R.Reach.shown c.args.reach.now in let n = file_no c.args.file.0 in
    let goes = none_taken c.args.order c.args.holes c.args.at.now _ a (g.R.Reach.shown c.take_runs.new.reach) c.in-Ok-take_runs.got c.in-None.is c.in-Ok-take_runs.ensures.got (IsFile c.args.file Memfd c.args.order ∷ []) (memfd_claimed a a.hands c.args.file c.args.object c.args.order c.requires.holds.held c.requires.memfd) in
    subst (λ (s : Stuck). SticksAfter (ArePins c.args.file) s c.args.at.now c.pin_plain.new.at (without n a) (g.R.Reach.shown c.pin_plain.new.reach)) (sym c.empty_handed-in-Err-pin_plain.ensures.stuck)
    (nested.sticks_next (deed_at pool_no (IsFile c.args.file Memfd c.args.order ∷ []) (PoolTake c.args.order c.args.holes) NoFrames ∷ []) (pinned_with c.args.file c.args.order [] (NoFramesOf c.args.holes) ∷ []) (pins.starved_pins c.args.file c.args.order c.args.holes c.requires.fits) _ _ _ _ (without n a) (without n (g.R.Reach.shown c.take_runs.new.reach)) _ (nested.within_goes _ _ _ n a _ goes) c.in-Err-pin_plain.ensures.same_at c.in-Err-pin_plain.ensures.sticks)

pub pin_filled-requires-clause-ready : goal.pin_filled-requires-clause-ready
pin_filled-requires-clause-ready g c =
    let a = g.R.Reach.shown c.args.reach.now in
    let goes = some_taken c.args.order c.args.holes c.args.at.now _ a (g.R.Reach.shown c.take_runs.new.reach) c.in-Ok-take_runs.got c.in-Some.runs c.in-Some.is c.in-Ok-take_runs.ensures.got (IsFile c.args.file Memfd c.args.order ∷ []) (memfd_claimed a a.hands c.args.file c.args.object c.args.order c.requires.holds.held c.requires.memfd) in
    ready_after _ _ _ _ _ c.requires.ready goes

pub pin_filled-requires-clause-holds : goal.pin_filled-requires-clause-holds
pin_filled-requires-clause-holds g c =
    let a = g.R.Reach.shown c.args.reach.now in
    let goes = some_taken c.args.order c.args.holes c.args.at.now _ a (g.R.Reach.shown c.take_runs.new.reach) c.in-Ok-take_runs.got c.in-Some.runs c.in-Some.is c.in-Ok-take_runs.ensures.got (IsFile c.args.file Memfd c.args.order ∷ []) (memfd_claimed a a.hands c.args.file c.args.object c.args.order c.requires.holds.held c.requires.memfd) in
    nested.holds_goes _ _ _ _ a _ _ c.requires.holds goes

pub pin_filled-requires-clause-fills : goal.pin_filled-requires-clause-fills
pin_filled-requires-clause-fills g c =
    let a = g.R.Reach.shown c.args.reach.now in
    let goes = some_taken c.args.order c.args.holes c.args.at.now _ a (g.R.Reach.shown c.take_runs.new.reach) c.in-Ok-take_runs.got c.in-Some.runs c.in-Some.is c.in-Ok-take_runs.ensures.got (IsFile c.args.file Memfd c.args.order ∷ []) (memfd_claimed a a.hands c.args.file c.args.object c.args.order c.requires.holds.held c.requires.memfd) in
    some_of (λ (r : Snapshot (Items Pfn)). c.take_runs.new.out.items ≡ map (zeroed_run a.anchor.home c.args.order) r.value) _ c.in-Ok-take_runs.got c.in-Some.runs c.in-Some.is c.in-Ok-take_runs.ensures.out ∙ ap (λ (x : Anchor). map (zeroed_run x.home c.args.order) c.in-Some.runs.value) (sym goes.anchor)

pub returns-in-Some-clause-goes : goal.returns-in-Some-clause-goes
returns-in-Some-clause-goes g c =
    let a = g.R.Reach.shown c.args.reach.now in let n = file_no c.args.file.0 in
    let goes = some_taken c.args.order c.args.holes c.args.at.now _ a (g.R.Reach.shown c.take_runs.new.reach) c.in-Ok-take_runs.got c.in-Some.runs c.in-Some.is c.in-Ok-take_runs.ensures.got (IsFile c.args.file Memfd c.args.order ∷ []) (memfd_claimed a a.hands c.args.file c.args.object c.args.order c.requires.holds.held c.requires.memfd) in
    pins.filled_comes c.args.file c.args.order c.args.holes c.in-Some.runs _ _ _ (without n a) (without n (g.R.Reach.shown c.take_runs.new.reach)) _ c.pin_filled.result
    (some_of (λ (r : Snapshot (Items Pfn)). length r.value ≡ c.args.holes) _ c.in-Ok-take_runs.got c.in-Some.runs c.in-Some.is c.in-Ok-take_runs.ensures.count) (pins.some_holes _ _ c.requires.holes)
    (nested.within_goes _ _ _ n a _ goes) c.pin_filled.ensures.whole c.pin_filled.ensures.goes

pub returns-in-Some-clause-told : goal.returns-in-Some-clause-told
returns-in-Some-clause-told g c =
    pins.filled_told c.args.order c.args.holes c.in-Some.runs c.pin_filled.result
    (some_of (λ (r : Snapshot (Items Pfn)). length r.value ≡ c.args.holes) _ c.in-Ok-take_runs.got c.in-Some.runs c.in-Some.is c.in-Ok-take_runs.ensures.count) c.requires.fits c.pin_filled.ensures.whole c.pin_filled.ensures.few

pub returns-in-Some-clause-stopped : goal.returns-in-Some-clause-stopped
returns-in-Some-clause-stopped g c =
    let a = g.R.Reach.shown c.args.reach.now in let n = file_no c.args.file.0 in
    let goes = some_taken c.args.order c.args.holes c.args.at.now _ a (g.R.Reach.shown c.take_runs.new.reach) c.in-Ok-take_runs.got c.in-Some.runs c.in-Some.is c.in-Ok-take_runs.ensures.got (IsFile c.args.file Memfd c.args.order ∷ []) (memfd_claimed a a.hands c.args.file c.args.object c.args.order c.requires.holds.held c.requires.memfd) in
    let count = some_of (λ (r : Snapshot (Items Pfn)). length r.value ≡ c.args.holes) _ c.in-Ok-take_runs.got c.in-Some.runs c.in-Some.is c.in-Ok-take_runs.ensures.count in
    pins.filled_stops _ (pins.took c.args.file c.args.order c.args.holes c.in-Some.runs.value) (pinned_with c.args.file c.args.order c.in-Some.runs.value (OkRuns []) ∷ [])
    (pins.filled_pins c.args.file c.args.order c.in-Some.runs c.args.holes count (pins.some_holes _ _ c.requires.holes) c.requires.fits)
    _ _ _ (without n a) (without n (g.R.Reach.shown c.take_runs.new.reach)) _ c.pin_filled.result (nested.within_goes _ _ _ n a _ goes) c.pin_filled.ensures.same_at c.pin_filled.ensures.sticks

pub returns-in-Some-clause-given_up : goal.returns-in-Some-clause-given_up
returns-in-Some-clause-given_up g c =
    let a = g.R.Reach.shown c.args.reach.now in
    let goes = some_taken c.args.order c.args.holes c.args.at.now _ a (g.R.Reach.shown c.take_runs.new.reach) c.in-Ok-take_runs.got c.in-Some.runs c.in-Some.is c.in-Ok-take_runs.ensures.got (IsFile c.args.file Memfd c.args.order ∷ []) (memfd_claimed a a.hands c.args.file c.args.object c.args.order c.requires.holds.held c.requires.memfd) in
    pins.given_home _ _ c.pin_filled.result (ap (λ (x : Anchor). x.home) goes.anchor) c.pin_filled.ensures.given_up
