use Rattle.std.proofs.Common.{length, subst, sym, ap, ◌∙◌}
use Rattle.phys_frames.specs.Memory.{page_at}
use Rattle.machine_core.specs.Gathered.{HasMore}
use Rattle.machine_core.proofs.MoreHome.{folio_more, folio_there}
use Rattle.machine_core.proofs.gathering.give_folio.Goals as goal

pub returns-clause-frames : goal.returns-clause-frames
returns-clause-frames c = subst (HasMore c.args.frames.now) (sym c.give.ensures.home) (folio_more c.args.frames.now c.args.folio c.give.ensures.were_out)

pub returns-clause-page : goal.returns-clause-page
returns-clause-page c = λ single.
    ap (λ m. page_at m c.args.folio.first) c.give.ensures.home
    ∙ folio_there c.args.frames.now c.args.folio c.give.ensures.were_out (sym (ap length c.bytes-bytes.ensures.value) ∙ c.bytes-bytes.ensures.len) single
