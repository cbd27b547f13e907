use Rattle.pool_core.proofs.PoolHome.{lodged_home}
use Rattle.pool_core.proofs.frames.table.Table.bring_home.Goals as goal

pub invariant_of-self : goal.invariant_of-self
invariant_of-self c =
    lodged_home c.self.inside.shape c.self.inside.frames c.give.new.self c.self.inside.tags.items c.args.folio c.self.invariant
    c.give.ensures.home c.give.ensures.were_out
    (λ q other. c.law_of_giving.ensures.others c.self.inside.frames c.args.folio q c.give.ensures.were_out other)
