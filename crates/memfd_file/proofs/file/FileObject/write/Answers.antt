use Rattle.std.proofs.Common.{◌≡◌, ◌++◌, ap, ◌∙◌}
use Rattle.std.specs.Prelude.{Some}
use Rattle.ho_events.specs.declared.event.Event.TheVariants.{FileWrite}
use Rattle.memfd_file.specs.FileShown.{shown}
use Rattle.memfd_file.proofs.FileSteps.{stays_noted, keeps_run, write_keeps}
use Rattle.memfd_file.proofs.file.FileObject.write.Goals as goal

pub invariant_of-self : goal.invariant_of-self
invariant_of-self c =
    let text : c.from_vec.result ≡ c.args.bytes.now =
    c.from_vec.ensures ∙ (rw c.unwrap.ensures at c.extend_from_slice.ensures.items) ∙ ap (λ b. b ++ c.args.bytes.now) c.open-own.ensures.own.event_bytes_empty in
    let same : FileWrite c.args.off c.from_vec.result c.from_vec-2.result ≡ FileWrite c.args.off c.args.bytes.now c.write-reply.new.runs.items =
    ap (λ t. FileWrite c.args.off t c.from_vec-2.result) text ∙ ap (λ r. FileWrite c.args.off c.args.bytes.now r) c.from_vec-2.ensures in
    stays_noted (shown c.self.inside.start.value) c.self.inside.history.items c.append_turn.new.history.items c.append_turn.result.entry c.self.inside.home c.self.inside.file c.in-Some.file c.write-reply.new.self
    (FileWrite c.args.off c.from_vec.result c.from_vec-2.result) (FileWrite c.args.off c.args.bytes.now c.write-reply.new.runs.items) c.write-reply.result _ _ _ c.self.invariant c.in-Some.is c.append_turn.ensures.kept c.append_turn.ensures.told same c.write-reply.ensures.step c.write-reply.ensures.home
    (write_keeps c.in-Some.file.state c.write-reply.new.self.state c.args.off c.args.bytes.now c.write-reply.new.runs.items c.write-reply.result c.write-reply.ensures.step)

pub returns-clause-run : goal.returns-clause-run
returns-clause-run c = keeps_run (shown c.self.inside.start.value) c.append_turn.new.history.items c.self.inside.home (Some c.write-reply.new.self) (invariant_of-self c)
