use Rattle.std.proofs.Common.{◌≡◌, ap, sym, ◌∙◌, subst, arith, IsTrue}
use Rattle.std.proofs.lemmas.Grind.{common_steps}
use Rattle.ho_events.specs.Lists.{firsts}
use Rattle.ho_events.specs.Pool.{can_give}
use Rattle.ho_events.specs.declared.event.Event.TheVariants.{PoolGive}
use Rattle.phys_frames.specs.Memory.{first_frames}
use Rattle.pool_core.specs.PoolValues.{PoolValue, PoolIs}
use Rattle.pool_core.proofs.PoolRuns.{give_keeps, keeps_is_run, told_of}
use Rattle.pool_core.proofs.pool.Pool.give.Goals as goal

pub invariant_of-self : goal.invariant_of-self
invariant_of-self c =
    let P : PoolValue → Type 0 = λ p. PoolIs p (λ s. IsTrue (can_give s c.args.order.0 (firsts (first_frames c.args.folios.now.items)))) in
    let listed : c.from_vec.result ≡ first_frames c.args.folios.now.items = grind (arith, common_steps) in
    give_keeps c.self.inside.frames c.give.new.self c.self.inside.start.value.state c.self.inside.history.items c.append_turn-entry.new.history.items c.append_turn-entry.result.entry c.args.order (first_frames c.args.folios.now.items)
    c.self.invariant
    (ap (λ e. e.event) c.append_turn-entry.ensures.told ∙ ap (PoolGive c.args.order) listed) (ap (λ e. e.reply) c.append_turn-entry.ensures.told) c.append_turn-entry.ensures.kept
    (told_of _ _ _ (λ s. IsTrue (can_give s c.args.order.0 (firsts (first_frames c.args.folios.now.items)))) c.self.invariant (subst P (sym c.self.view_is) c.requires.legal)) c.give.ensures.value

pub returns-clause-run : goal.returns-clause-run
returns-clause-run c = keeps_is_run _ _ _ (invariant_of-self c)
