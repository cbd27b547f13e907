use Rattle.std.proofs.Common.{◌≡◌, None, subst, sym, ◌∙◌}
use Rattle.memfd_file.specs.FileShown.{shown}
use Rattle.memfd_file.specs.FileValues.{FileIs}
use Rattle.memfd_file.proofs.FileSteps.{absent_shown, init_noted, keeps_run}
use Rattle.memfd_file.proofs.file.FileObject.init.Goals as goal

pub invariant_of-self : goal.invariant_of-self
invariant_of-self c =
    init_noted (shown c.self.inside.start.value) c.self.inside.history.items c.append_turn-entry.new.history.items c.append_turn-entry.result.entry c.self.inside.home c.self.inside.file c.place.new.file c.new-file.result
    c.args.kind c.args.order c.args.size c.from_vec.result _ _ _ c.self.invariant
    (absent_shown (shown c.self.inside.start.value) c.self.inside.history.items c.self.inside.home c.self.inside.file c.self.invariant
    (subst (λ v. FileIs v (λ s. s ≡ None)) (sym c.self.view_is) c.requires.absent))
    c.place.ensures c.requires.kind c.requires.size (c.from_vec.ensures ∙ c.open-own.ensures.own.event_runs_empty) c.requires.order c.new-file.ensures.state c.new-file.ensures.home
    c.append_turn-entry.ensures.kept c.append_turn-entry.ensures.told

pub returns-clause-run : goal.returns-clause-run
returns-clause-run c = keeps_run (shown c.self.inside.start.value) c.append_turn-entry.new.history.items c.self.inside.home c.place.new.file (invariant_of-self c)
