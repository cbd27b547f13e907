use Rattle.std.proofs.Common.{refl, sym, subst}
use Rattle.ho_events.specs.declared.event.Event.TheVariants.{FileRead}
use Rattle.memfd_file.specs.FileShown.{shown, KeepsFile}
use Rattle.memfd_file.proofs.FileSteps.{stays_noted, keeps_run}
use Rattle.memfd_file.proofs.file.FileObject.read.Goals as goal

pub invariant_of-self : goal.invariant_of-self
invariant_of-self c =
    subst (KeepsFile (shown c.self.inside.start.value) c.append_turn.new.history.items c.self.inside.home) (sym c.in-Some.is)
    (stays_noted (shown c.self.inside.start.value) c.self.inside.history.items c.append_turn.new.history.items c.append_turn.result.entry c.self.inside.home c.self.inside.file c.in-Some.file c.in-Some.file
    (FileRead c.args.off c.args.len) (FileRead c.args.off c.args.len) c.read-reply.result _ _ _ c.self.invariant c.in-Some.is c.append_turn.ensures.kept c.append_turn.ensures.told refl c.read-reply.ensures.step refl
    (λ m. m))

pub returns-clause-run : goal.returns-clause-run
returns-clause-run c = keeps_run (shown c.self.inside.start.value) c.append_turn.new.history.items c.self.inside.home c.self.inside.file (invariant_of-self c)
