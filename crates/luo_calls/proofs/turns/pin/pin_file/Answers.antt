use Rattle.std.proofs.Common.{◌≡◌, ◌<◌, [], ◌∷◌, refl, true, ap, sym, subst, ◌∙◌, arith}
use Rattle.ho_base.specs.Objects.{file_no}
use Rattle.ho_events.specs.declared.event.Event.TheVariants.{FilePin}
use Rattle.ho_events.specs.declared.reply.Reply.TheVariants.{NotFinished}
use Rattle.ho_world.specs.Logs.{deed_at}
use Rattle.luo_calls.specs.Doing.{SticksAfter}
use Rattle.luo_calls.specs.Pins.{ArePins}
use Rattle.luo_calls.specs.declared.stuck.Stuck.{Stuck}
use Rattle.luo_calls.proofs.Nested as nested
use Rattle.luo_calls.proofs.PinTurns as pins
use Rattle.luo_calls.proofs.turns.pin.pin_file.Goals as goal

pub returns-in-Err-clause-stopped : goal.returns-in-Err-clause-stopped
returns-in-Err-clause-stopped g c =
    subst (λ (s : Stuck). SticksAfter (ArePins c.args.file) s c.args.at.now c.args.at.now (g.R.Reach.shown c.args.reach.now) (g.R.Reach.shown c.open_label.new.reach)) (sym c.empty_handed.ensures.stuck)
    (nested.sticks_first (deed_at (file_no c.args.file.0) [] (FilePin []) NotFinished ∷ []) (pins.refused_pins c.args.file) _ _ _ _ _ refl (c.in-Err.ensures.sticks (FilePin []) refl refl))

pub returns-in-Err-pin_plain-clause-stopped : goal.returns-in-Err-pin_plain-clause-stopped
returns-in-Err-pin_plain-clause-stopped g c =
    subst (λ (s : Stuck). SticksAfter (ArePins c.args.file) s c.args.at.now c.pin_plain.new.at (g.R.Reach.shown c.args.reach.now) (g.R.Reach.shown c.pin_plain.new.reach)) (sym c.empty_handed-in-Err-pin_plain.ensures.stuck)
    (nested.outer_sticks _ _ _ (file_no c.args.file.0) _ (g.R.Reach.shown c.open_label.new.reach) _ _ c.in-Ok.ensures.opens c.requires.free
    (nested.sticks_first (deed_at (file_no c.args.file.0) [] (FilePin []) NotFinished ∷ []) (pins.refused_pins c.args.file) _ _ _ _ _ c.in-Err-pin_plain.ensures.same_at c.in-Err-pin_plain.ensures.sticks))

pub pin_taking-requires-clause-holes : goal.pin_taking-requires-clause-holes
pin_taking-requires-clause-holes g c = pins.has_holes _ _ c.if-wanted-eq0.false c.runs_for-wanted.ensures.wanted

pub pin_taking-requires-clause-fits : goal.pin_taking-requires-clause-fits
pin_taking-requires-clause-fits g c =
    pins.wanted_fits _ _ _ c.in-Ok.ensures.memfd c.runs_for-wanted.ensures.size (pins.has_holes _ _ c.if-wanted-eq0.false c.runs_for-wanted.ensures.wanted)

pub returns-else-wanted-eq0-clause-goes : goal.returns-else-wanted-eq0-clause-goes
returns-else-wanted-eq0-clause-goes g c =
    pins.outer_comes c.args.file _ _ _ (g.R.Reach.shown c.open_label.new.reach) _ _ c.pin_taking.result c.in-Ok.ensures.opens c.requires.free c.pin_taking.ensures.goes

pub returns-else-wanted-eq0-clause-stopped : goal.returns-else-wanted-eq0-clause-stopped
returns-else-wanted-eq0-clause-stopped g c =
    pins.outer_stops _ (file_no c.args.file.0) _ _ _ (g.R.Reach.shown c.open_label.new.reach) _ _ c.pin_taking.result c.in-Ok.ensures.opens c.requires.free c.pin_taking.ensures.stopped

pub returns-in-Ok-pin_plain-clause-goes : goal.returns-in-Ok-pin_plain-clause-goes
returns-in-Ok-pin_plain-clause-goes g c =
    pins.came_plain c.args.file c.in-Ok.opened.1 c.no_runs.result c.in-Ok-pin_plain.reply c.outcome.result _ _ _ _ c.outcome.ensures c.no_runs.ensures
    (nested.outer_goes _ _ _ (file_no c.args.file.0) _ (g.R.Reach.shown c.open_label.new.reach) _ _ c.in-Ok.ensures.opens c.requires.free c.in-Ok-pin_plain.ensures.goes)

pub returns-in-Ok-pin_plain-clause-told : goal.returns-in-Ok-pin_plain-clause-told
returns-in-Ok-pin_plain-clause-told g c =
    pins.plain_pins c.in-Ok.opened.1 c.no_runs.result c.in-Ok-pin_plain.reply c.outcome.result c.outcome.ensures
    (pins.plain_told _ c.in-Ok.opened.1 c.no_runs.result _ c.in-Ok-pin_plain.reply c.no_runs.ensures c.if-wanted-eq0.true c.runs_for-wanted.ensures.wanted c.in-Ok-pin_plain.ensures.few c.in-Ok-pin_plain.ensures.exact)
