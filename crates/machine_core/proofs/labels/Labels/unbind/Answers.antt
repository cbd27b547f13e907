use Rattle.std.proofs.Common.{not, ap, sym, subst, ◌∙◌}
use Rattle.std.specs.FinMap as finmap
use Rattle.ho_events.specs.Lists.{same_bytes}
use Rattle.machine_core.specs.LabelsShown.{LabelsValue, labels_of, AreFiles}
use Rattle.machine_core.proofs.LabelFiles.{files_filter}
use Rattle.machine_core.proofs.LabelMaps.{unbound}
use Rattle.machine_core.proofs.labels.Labels.unbind.Goals as goal

pub returns-clause-bound : goal.returns-clause-bound
returns-clause-bound c =
    ap labels_of c.leave_out.ensures.items
    ∙ unbound c.args.label c.self.inside.bound.items
    ∙ ap (λ (v : LabelsValue). finmap.remove v.bound c.args.label) c.self.view_is

pub invariant_of-self : goal.invariant_of-self
invariant_of-self c =
    subst AreFiles (sym c.leave_out.ensures.items)
    (files_filter (λ e. not (same_bytes e.0 c.args.label)) c.self.inside.bound.items c.self.invariant)
