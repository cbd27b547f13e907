use Rattle.std.proofs.Common.{true, false, sym, ◌∙◌}
use Rattle.record_frames.proofs.TreeSteps.{no_number, no_header, no_bounds, no_luo_word, whole_luo, whole_told}
use Rattle.record_frames.proofs.handover.read_luo.Goals as goal

pub returns-in_err-number : goal.returns-in_err-number
returns-in_err-number c = rw c.from_residual.ensures (λ t at. no_number t (sym (c.number_in.ensures t at) ∙ c.in_err-number.was))

pub returns-in_err-header : goal.returns-in_err-header
returns-in_err-header c =
    rw c.from_residual-in_err-header.ensures (λ t at. no_header t c.in_ok-number.number (sym (c.in_ok-number.ensures t at)) (sym (c.number_in-2.ensures t at) ∙ c.in_err-header.was))

pub returns-in_err-bounds : goal.returns-in_err-bounds
returns-in_err-bounds c =
    rw c.from_residual-in_err-bounds.ensures (λ t at. no_bounds t c.in_ok-number.number c.in_ok-header.header (sym (c.in_ok-number.ensures t at)) (sym (c.in_ok-header.ensures t at))
    (sym (c.bounds_in.ensures t at) ∙ c.in_err-bounds.was))

pub returns-then-not-is_compatible : goal.returns-then-not-is_compatible
returns-then-not-is_compatible c =
    λ t at. no_luo_word t c.in_ok-number.number c.in_ok-header.header c.in_ok-bounds.bounds (sym (c.in_ok-number.ensures t at)) (sym (c.in_ok-header.ensures t at))
    (sym (c.in_ok-bounds.ensures t at)) (sym (c.is_compatible.ensures t at) ∙ c.if-not-is_compatible.true)

pub returns-then-is_whole : goal.returns-then-is_whole
returns-then-is_whole c =
    λ t at. whole_luo t c.in_ok-number.number c.in_ok-header.header c.in_ok-bounds.bounds true (sym (c.in_ok-number.ensures t at)) (sym (c.in_ok-header.ensures t at))
    (sym (c.in_ok-bounds.ensures t at)) (sym (c.is_compatible.ensures t at) ∙ c.if-not-is_compatible.false)
    (whole_told t c.in_ok-number.number c.in_ok-bounds.bounds c.counts-properties.result.1 c.counts-properties.result.0 c.count_given.result true (c.counts-properties.ensures.children t at)
    (c.counts-properties.ensures.properties t at) c.count_given.ensures.value (sym c.is_whole.ensures.exact ∙ c.if-is_whole.true))

pub returns-else-is_whole : goal.returns-else-is_whole
returns-else-is_whole c =
    λ t at. whole_luo t c.in_ok-number.number c.in_ok-header.header c.in_ok-bounds.bounds false (sym (c.in_ok-number.ensures t at)) (sym (c.in_ok-header.ensures t at))
    (sym (c.in_ok-bounds.ensures t at)) (sym (c.is_compatible.ensures t at) ∙ c.if-not-is_compatible.false)
    (whole_told t c.in_ok-number.number c.in_ok-bounds.bounds c.counts-properties.result.1 c.counts-properties.result.0 c.count_given.result false (c.counts-properties.ensures.children t at)
    (c.counts-properties.ensures.properties t at) c.count_given.ensures.value (sym c.is_whole.ensures.exact ∙ c.if-is_whole.false))
