use Rattle.std.proofs.Common.{true, false, sym, ap, ◌∙◌}
use Rattle.record_frames.proofs.TreeSteps.{shape_in, no_word, no_chunk, no_shape, no_child, whole_root}
use Rattle.record_frames.proofs.handover.read_root.Goals as goal

pub returns-then-not-is_compatible-clause-read : goal.returns-then-not-is_compatible-clause-read
returns-then-not-is_compatible-clause-read c = λ t at. no_word c.args.frames t (sym (c.is_compatible.ensures t at) ∙ c.if-not-is_compatible.true)

pub returns-in_default-clause-read : goal.returns-in_default-clause-read
returns-in_default-clause-read c =
    λ t at. no_chunk c.args.frames t (sym (c.is_compatible.ensures t at) ∙ c.if-not-is_compatible.false) (sym (c.number_in.ensures t at) ∙ c.in_default.is)

pub returns-in_default-prop-clause-read : goal.returns-in_default-prop-clause-read
returns-in_default-prop-clause-read c =
    λ t at. no_shape c.args.frames t c.in-Some.chunk (sym (c.is_compatible.ensures t at) ∙ c.if-not-is_compatible.false) (sym (c.in-Some.ensures t at))
    (ap (shape_in c.args.frames) (c.in_default-prop.ensures t at))

pub returns-in_default-2-clause-read : goal.returns-in_default-2-clause-read
returns-in_default-2-clause-read c =
    λ t at. no_shape c.args.frames t c.in-Some.chunk (sym (c.is_compatible.ensures t at) ∙ c.if-not-is_compatible.false) (sym (c.in-Some.ensures t at))
    (ap (shape_in c.args.frames) (c.in-Some-prop.ensures t at) ∙ sym c.in_ok-shape.ensures ∙ c.in_default-2.is)

pub returns-in_default-child-clause-read : goal.returns-in_default-child-clause-read
returns-in_default-child-clause-read c =
    λ t at. no_child c.args.frames t c.in-Some.chunk c.in-Some-2.shape (sym (c.is_compatible.ensures t at) ∙ c.if-not-is_compatible.false) (sym (c.in-Some.ensures t at))
    (ap (shape_in c.args.frames) (c.in-Some-prop.ensures t at) ∙ sym c.in_ok-shape.ensures ∙ c.in-Some-2.is) (c.in_default-child.ensures t at)

pub returns-then-has_counts-clause-read : goal.returns-then-has_counts-clause-read
returns-then-has_counts-clause-read c =
    λ t at. let child = c.in-Some-child.ensures t at in (
      child.0,
      child.2,
      whole_root c.args.frames t c.in-Some.chunk c.in-Some-2.shape child.0 true (sym (c.is_compatible.ensures t at) ∙ c.if-not-is_compatible.false) (sym (c.in-Some.ensures t at))
          (ap (shape_in c.args.frames) (c.in-Some-prop.ensures t at) ∙ sym c.in_ok-shape.ensures ∙ c.in-Some-2.is) child.1 (sym (c.has_counts.ensures t at) ∙ c.if-has_counts.true),
    )

pub returns-then-has_counts-clause-node : goal.returns-then-has_counts-clause-node
returns-then-has_counts-clause-node c =
    let child = c.in-Some-child.ensures c.requires.tree c.requires.placed in
    record { tree = child.0; placed = child.2 }

pub returns-else-has_counts-clause-read : goal.returns-else-has_counts-clause-read
returns-else-has_counts-clause-read c =
    λ t at. let child = c.in-Some-child.ensures t at in
    whole_root c.args.frames t c.in-Some.chunk c.in-Some-2.shape child.0 false (sym (c.is_compatible.ensures t at) ∙ c.if-not-is_compatible.false) (sym (c.in-Some.ensures t at))
    (ap (shape_in c.args.frames) (c.in-Some-prop.ensures t at) ∙ sym c.in_ok-shape.ensures ∙ c.in-Some-2.is) child.1 (sym (c.has_counts.ensures t at) ∙ c.if-has_counts.false)
