use Rattle.std.proofs.Common.{◌≡◌, replicate, ap}
use Rattle.std.specs.Prelude.{Some}
use Rattle.ho_events.specs.declared.event.Event.TheVariants.{FileFill}
use Rattle.memfd_file.specs.FileShown.{shown}
use Rattle.memfd_file.proofs.FileSteps.{stays_noted, keeps_run, write_keeps}
use Rattle.memfd_file.proofs.file.FileObject.fill.Goals as goal

pub invariant_of-self : goal.invariant_of-self
invariant_of-self c =
    let same : FileFill c.args.off c.args.len c.args.byte c.from_vec.result ≡ FileFill c.args.off c.args.len c.args.byte c.fill-reply.new.runs.items =
    ap (λ r. FileFill c.args.off c.args.len c.args.byte r) c.from_vec.ensures in
    stays_noted (shown c.self.inside.start.value) c.self.inside.history.items c.append_turn.new.history.items c.append_turn.result.entry c.self.inside.home c.self.inside.file c.in-Some.file c.fill-reply.new.self
    (FileFill c.args.off c.args.len c.args.byte c.from_vec.result) (FileFill c.args.off c.args.len c.args.byte c.fill-reply.new.runs.items) c.fill-reply.result _ _ _ c.self.invariant c.in-Some.is c.append_turn.ensures.kept c.append_turn.ensures.told same c.fill-reply.ensures.step c.fill-reply.ensures.home
    (write_keeps c.in-Some.file.state c.fill-reply.new.self.state c.args.off (replicate c.args.len c.args.byte) c.fill-reply.new.runs.items c.fill-reply.result c.fill-reply.ensures.step)

pub returns-clause-run : goal.returns-clause-run
returns-clause-run c = keeps_run (shown c.self.inside.start.value) c.append_turn.new.history.items c.self.inside.home (Some c.fill-reply.new.self) (invariant_of-self c)
