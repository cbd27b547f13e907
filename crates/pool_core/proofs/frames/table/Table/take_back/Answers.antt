use Rattle.std.proofs.Common.{◌≡◌, ◌+◌, sym, subst, set, get_or}
use Rattle.pool_core.specs.PoolTags.{KeepsHome}
use Rattle.pool_core.proofs.PoolHome.{back_keeps}
use Rattle.pool_core.proofs.frames.table.Table.take_back.Goals as goal

pub invariant_of-self : goal.invariant_of-self
invariant_of-self c =
    subst (λ p. KeepsHome c.self.inside.shape c.give.new.self (set c.self.inside.tags.items p.0 0)) (sym c.first-first.ensures.value)
    (back_keeps c.self.inside.shape c.self.inside.frames c.give.new.self c.self.inside.tags.items c.args.folio c.self.invariant
    (subst (λ v. get_or v.tags c.args.folio.first.0 0 ≡ c.args.folio.order.0 + 1) (sym c.self.view_is) c.requires.owned)
    c.give.ensures.home c.give.ensures.were_out
    (c.law_of_giving.ensures.home c.self.inside.frames c.args.folio c.give.ensures.were_out)
    (λ q other. c.law_of_giving.ensures.others c.self.inside.frames c.args.folio q c.give.ensures.were_out other))
