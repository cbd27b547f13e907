use Rattle.std.proofs.Common.{length, ap, ◌∙◌}
use Rattle.ho_events.specs.Slips.{reply_runs}
use Rattle.ho_events.specs.declared.reply.Reply.TheVariants.{Got}
use Rattle.pool_core.proofs.PoolRuns.{take_keeps, taken_count, keeps_is_run}
use Rattle.pool_core.proofs.pool.Pool.take.Goals as goal

pub invariant_of-self : goal.invariant_of-self
invariant_of-self c =
    take_keeps c.self.inside.frames c.take.new.self c.self.inside.start.value.state c.self.inside.history.items c.append_turn-entry.new.history.items c.append_turn-entry.result.entry c.args.order c.args.count c.take.new.runs.items
    c.self.invariant
    (ap (λ e. e.event) c.append_turn-entry.ensures.told) (ap (λ e. e.reply) c.append_turn-entry.ensures.told ∙ ap Got c.from_vec.ensures) c.append_turn-entry.ensures.kept
    c.if-take.ensures.legal c.if-take.ensures.value

pub returns-then-take-clause-count : goal.returns-then-take-clause-count
returns-then-take-clause-count c =
    ap (λ e. length (reply_runs e.reply)) c.append_turn-entry.ensures.told ∙ ap length c.from_vec.ensures
    ∙ taken_count c.self.inside.frames.state c.args.order.0 c.args.count c.take.new.runs.items c.if-take.ensures.legal

pub returns-then-take-clause-run : goal.returns-then-take-clause-run
returns-then-take-clause-run c = keeps_is_run _ _ _ (invariant_of-self c)
