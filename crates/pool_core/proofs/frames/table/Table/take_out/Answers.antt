use Rattle.std.proofs.Common.{sym, subst}
use Rattle.pool_core.specs.PoolTags.{CanLend}
use Rattle.pool_core.proofs.PoolHome.{can_lend_home, lent_keeps}
use Rattle.pool_core.proofs.frames.table.Table.take_out.Goals as goal

pub take-folio-requires-clause-home : goal.take-folio-requires-clause-home
take-folio-requires-clause-home c =
    can_lend_home c.self.inside.shape c.self.inside.frames c.self.inside.frames.home c.self.inside.tags.items c.args.p c.args.order c.self.invariant
    (subst (λ v. CanLend v c.args.order.0 c.args.p.0) (sym c.self.view_is) c.requires.free)

pub invariant_of-self : goal.invariant_of-self
invariant_of-self c =
    let can : CanLend (record { shape = c.self.inside.shape; home = c.self.inside.frames.home; tags = c.self.inside.tags.items }) c.args.order.0 c.args.p.0 =
    subst (λ v. CanLend v c.args.order.0 c.args.p.0) (sym c.self.view_is) c.requires.free in
    lent_keeps c.self.inside.shape c.self.inside.frames c.take-folio.new.self c.self.inside.frames.home c.self.inside.tags.items c.args.p c.args.order c.requires.order c.self.invariant can
    c.take-folio.ensures.out
    (λ q other. c.law_of_taking.ensures.others c.self.inside.frames c.args.p q c.args.order
    (can_lend_home c.self.inside.shape c.self.inside.frames c.self.inside.frames.home c.self.inside.tags.items c.args.p c.args.order c.self.invariant can) other)
