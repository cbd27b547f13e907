use Rattle.std.proofs.Common.{refl}
use Rattle.std.specs.Prelude.{Some}
use Rattle.ho_events.specs.declared.event.Event.TheVariants.{FileSeek}
use Rattle.memfd_file.specs.FileShown.{shown}
use Rattle.memfd_file.proofs.FileSteps.{stays_noted, keeps_run, seek_keeps}
use Rattle.memfd_file.proofs.file.FileObject.seek.Goals as goal

pub invariant_of-self : goal.invariant_of-self
invariant_of-self c =
    stays_noted (shown c.self.inside.start.value) c.self.inside.history.items c.append_turn.new.history.items c.append_turn.result.entry c.self.inside.home c.self.inside.file c.in-Some.file c.seek-reply.new.self
    (FileSeek c.args.to) (FileSeek c.args.to) c.seek-reply.result _ _ _ c.self.invariant c.in-Some.is c.append_turn.ensures.kept c.append_turn.ensures.told refl c.seek-reply.ensures.step c.seek-reply.ensures.home
    (seek_keeps c.in-Some.file.state c.seek-reply.new.self.state c.args.to c.seek-reply.result c.seek-reply.ensures.step)

pub returns-clause-run : goal.returns-clause-run
returns-clause-run c = keeps_run (shown c.self.inside.start.value) c.append_turn.new.history.items c.self.inside.home (Some c.seek-reply.new.self) (invariant_of-self c)
