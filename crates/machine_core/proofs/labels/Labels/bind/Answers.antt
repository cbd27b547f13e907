use Rattle.std.proofs.Common.{◌++◌, ◌∷◌, [], not, filter, ap, sym, subst, ◌∙◌}
use Rattle.std.specs.FinMap as finmap
use Rattle.ho_events.specs.Lists.{same_bytes}
use Rattle.machine_core.specs.LabelsShown.{LabelsValue, labels_of, AreFiles}
use Rattle.machine_core.proofs.LabelFiles.{files_filter, files_push}
use Rattle.machine_core.proofs.LabelMaps.{bound_again}
use Rattle.machine_core.proofs.labels.Labels.bind.Goals as goal

pub returns-clause-bound : goal.returns-clause-bound
returns-clause-bound c =
    ap labels_of (c.push_reserved.ensures.items ∙ ap (λ pairs. pairs ++ (c.args.label, c.args.file) ∷ []) c.leave_out.ensures.items)
    ∙ bound_again c.args.label c.args.file c.self.inside.bound.items
    ∙ ap (λ (v : LabelsValue). finmap.insert v.bound c.args.label c.args.file) c.self.view_is

pub invariant_of-self : goal.invariant_of-self
invariant_of-self c =
    subst AreFiles (sym (c.push_reserved.ensures.items ∙ ap (λ pairs. pairs ++ (c.args.label, c.args.file) ∷ []) c.leave_out.ensures.items))
    (files_push (filter (λ e. not (same_bytes e.0 c.args.label)) c.self.inside.bound.items) c.args.label c.args.file (files_filter (λ e. not (same_bytes e.0 c.args.label)) c.self.inside.bound.items c.self.invariant) c.requires.file)
