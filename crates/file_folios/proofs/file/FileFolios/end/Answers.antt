use Rattle.std.proofs.Common.{ap, sym, subst, ◌∙◌}
use Rattle.file_folios.specs.Slots.{with_folios, AreOut}
use Rattle.file_folios.specs.FileAnswers.{folios_of}
use Rattle.file_folios.proofs.Given.{folios_are}
use Rattle.file_folios.proofs.file.FileFolios.end.Goals as goal

pub returns-clause-home : goal.returns-clause-home
returns-clause-home c =
    c.give_all.ensures.frames
    ∙ ap (with_folios c.args.frames.now) (folios_are c.self.inside.home.value c.self.inside.order c.self.inside.size c.self.inside.slots.items c.self.invariant c.args.self.state
    (ap (λ v. v.state.order) (sym c.self.view_is)) (ap (λ v. v.state.bytes) (sym c.self.view_is)) (ap (λ v. v.state.runs) (sym c.self.view_is))
    ∙ ap (λ h. folios_of c.args.self.state h) (ap (λ v. v.home) c.self.view_is))

pub returns-clause-were_out : goal.returns-clause-were_out
returns-clause-were_out c =
    subst (AreOut c.args.frames.now) (folios_are c.self.inside.home.value c.self.inside.order c.self.inside.size c.self.inside.slots.items c.self.invariant c.args.self.state
    (ap (λ v. v.state.order) (sym c.self.view_is)) (ap (λ v. v.state.bytes) (sym c.self.view_is)) (ap (λ v. v.state.runs) (sym c.self.view_is))
    ∙ ap (λ h. folios_of c.args.self.state h) (ap (λ v. v.home) c.self.view_is)) c.give_all.ensures.were_out
