use Rattle.std.proofs.Common.{◌<◌, ap, sym, subst, ◌∙◌}
use Rattle.std.specs.Prelude.{Option, IfSome}
use Rattle.ho_base.specs.declared.limits.TheConstants.{FILES}
use Rattle.ho_base.specs.declared.numbers.FileNo.{FileNo}
use Rattle.ho_events.specs.ByName.{among}
use Rattle.machine_core.proofs.LabelFiles.{among_within}
use Rattle.machine_core.proofs.labels.Labels.file.Goals as goal

pub returns-clause-within : goal.returns-clause-within
returns-clause-within c =
    subst (λ (r : Option FileNo). IfSome r (λ f. f.0 < FILES)) (sym (c.find.ensures ∙ ap (among c.args.label) c.as_slice.ensures.value))
    (among_within c.args.label c.self.inside.bound.items c.self.invariant)
