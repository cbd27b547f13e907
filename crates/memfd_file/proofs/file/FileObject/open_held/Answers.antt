use Rattle.std.proofs.Common.{◌≡◌, true, false, refl, ap, sym, subst, ◌∙◌}
use Rattle.std.specs.Option.{MatchOption}
use Rattle.std.specs.Prelude.{Some}
use Rattle.ho_events.specs.declared.event.Event.TheVariants.{FileOpenHeld}
use Rattle.ho_events.specs.declared.reply.Reply.TheVariants.{Ok}
use Rattle.memfd_file.specs.Files.{FileHas}
use Rattle.memfd_file.specs.FileShown.{shown}
use Rattle.memfd_file.proofs.FileSteps.{stays_noted, keeps_run, memfd_as, open_held_step_is}
use Rattle.memfd_file.proofs.Told.{has_shown}
use Rattle.memfd_file.proofs.file.FileObject.open_held.Goals as goal

pub invariant_of-self : goal.invariant_of-self
invariant_of-self c =
    let held : (c.in-Some.file.state.hold ≡ true) × (c.in-Some.file.state.opened ≡ false) =
    subst (λ o. MatchOption o ⊥ (λ v. (v.state.hold ≡ true) × (v.state.opened ≡ false))) c.in-Some.is
    (has_shown (shown c.self.inside.start.value) c.self.inside.history.items c.self.inside.home c.self.inside.file (λ f. (f.hold ≡ true) × (f.opened ≡ false)) c.self.invariant
    (subst (λ v. FileHas v (λ f. (f.hold ≡ true) × (f.opened ≡ false))) (sym c.self.view_is) c.requires.held)) in
    stays_noted (shown c.self.inside.start.value) c.self.inside.history.items c.append_plain_turn-entry.new.history.items c.append_plain_turn-entry.result.entry c.self.inside.home c.self.inside.file c.in-Some.file c.set_opened.new.self
    FileOpenHeld FileOpenHeld Ok _ _ _ c.self.invariant c.in-Some.is c.append_plain_turn-entry.ensures.kept c.append_plain_turn-entry.ensures.told refl (open_held_step_is c.in-Some.file.state held.0 held.1 ∙ ap (λ s. Some (Some s)) (sym c.set_opened.ensures.state)) c.set_opened.ensures.home
    (memfd_as c.in-Some.file.state c.set_opened.new.self.state (ap (λ s. s.kind) (sym c.set_opened.ensures.state)) (ap (λ s. s.order) (sym c.set_opened.ensures.state)))

pub returns-clause-run : goal.returns-clause-run
returns-clause-run c = keeps_run (shown c.self.inside.start.value) c.append_plain_turn-entry.new.history.items c.self.inside.home (Some c.set_opened.new.self) (invariant_of-self c)
