use Rattle.std.proofs.Common.{◌≡◌, ◌+◌, ◌∙◌, sym, subst, ap, true, false}
use Rattle.std.specs.Prelude.{nat_le}
use Rattle.ho_events.specs.Lists.{firsts}
use Rattle.ho_events.specs.Pool.{free_runs, can_take}
use Rattle.pool_core.specs.PoolTags.{with_tags, EachCanLend}
use Rattle.pool_core.specs.PoolFramesValues.{KeepsPoolFrames, with_owned}
use Rattle.pool_core.proofs.PoolSteps.{keeps_taken}
use Rattle.pool_core.proofs.PoolTaken.{enough, taken_legal, taken_value, were_taken, WereTaken}
use Rattle.pool_core.proofs.frames.pool.PoolFrames.take.Goals as goal

pub returns-then-not-take-clause-exact : goal.returns-then-not-take-clause-exact
returns-then-not-take-clause-exact c =
    subst (λ v. false ≡ nat_le c.args.count (free_runs v.state c.args.order.0)) c.self.view_is
    (sym c.if-not-take.true ∙ enough c.self.inside.table c.self.inside.buddy c.self.inside.marks c.args.order.0 c.args.count c.take.result c.self.invariant c.take.ensures.answer.0 c.take.ensures.answer.1)

pub lend_all-requires-clause-free : goal.lend_all-requires-clause-free
lend_all-requires-clause-free c =
    let w : WereTaken c.self.inside.buddy c.take.new.self c.args.order.0 c.args.count c.take.new.out.items = (were_taken c.self.inside.buddy c.take.new.self c.args.order.0 c.args.count c.args.runs.now.items c.take.new.out.items c.if-not-take.ensures.kept c.requires.empty c.if-not-take.ensures.count c.if-not-take.ensures.free c.if-not-take.ensures.apart c.if-not-take.ensures.set) in
    subst (EachCanLend c.self.inside.table c.args.order.0) (sym c.as_slice.ensures.value)
    (keeps_taken c.self.inside.table c.self.inside.buddy c.self.inside.marks c.args.order.0 c.take.new.out.items c.requires.order c.self.invariant w.free w.apart).1

pub invariant_of-self-2 : goal.invariant_of-self-2
invariant_of-self-2 c =
    let w : WereTaken c.self.inside.buddy c.take.new.self c.args.order.0 c.args.count c.take.new.out.items = (were_taken c.self.inside.buddy c.take.new.self c.args.order.0 c.args.count c.args.runs.now.items c.take.new.out.items c.if-not-take.ensures.kept c.requires.empty c.if-not-take.ensures.count c.if-not-take.ensures.free c.if-not-take.ensures.apart c.if-not-take.ensures.set) in
    subst (λ t. KeepsPoolFrames t c.take.new.self c.self.inside.marks) (sym (c.lend_all.ensures.value ∙ ap (λ l. with_tags (c.args.order.0 + 1) l c.self.inside.table) c.as_slice.ensures.value))
    (subst (λ s. KeepsPoolFrames (with_tags (c.args.order.0 + 1) c.take.new.out.items c.self.inside.table) s c.self.inside.marks) (sym w.left)
    (keeps_taken c.self.inside.table c.self.inside.buddy c.self.inside.marks c.args.order.0 c.take.new.out.items c.requires.order c.self.invariant w.free w.apart).0)

pub returns-clause-exact : goal.returns-clause-exact
returns-clause-exact c =
    subst (λ v. true ≡ nat_le c.args.count (free_runs v.state c.args.order.0)) c.self.view_is
    (sym c.if-not-take.false ∙ enough c.self.inside.table c.self.inside.buddy c.self.inside.marks c.args.order.0 c.args.count c.take.result c.self.invariant c.take.ensures.answer.0 c.take.ensures.answer.1)

pub returns-clause-legal : goal.returns-clause-legal
returns-clause-legal c =
    let w : WereTaken c.self.inside.buddy c.take.new.self c.args.order.0 c.args.count c.take.new.out.items = (were_taken c.self.inside.buddy c.take.new.self c.args.order.0 c.args.count c.args.runs.now.items c.take.new.out.items c.if-not-take.ensures.kept c.requires.empty c.if-not-take.ensures.count c.if-not-take.ensures.free c.if-not-take.ensures.apart c.if-not-take.ensures.set) in
    subst (λ v. can_take v.state c.args.order.0 c.args.count (firsts c.take.new.out.items) ≡ true) c.self.view_is
    (taken_legal c.self.inside.table c.self.inside.buddy c.self.inside.marks c.args.order.0 c.args.count c.take.new.out.items c.self.invariant w.len w.free w.apart)

pub returns-clause-value : goal.returns-clause-value
returns-clause-value c =
    let w : WereTaken c.self.inside.buddy c.take.new.self c.args.order.0 c.args.count c.take.new.out.items = (were_taken c.self.inside.buddy c.take.new.self c.args.order.0 c.args.count c.args.runs.now.items c.take.new.out.items c.if-not-take.ensures.kept c.requires.empty c.if-not-take.ensures.count c.if-not-take.ensures.free c.if-not-take.ensures.apart c.if-not-take.ensures.set) in
    taken_value c.self.inside.table c.lend_all.new.self c.self.inside.marks.runs c.args.order.0 c.take.new.out.items c.self.invariant.runs.len
    (keeps_taken c.self.inside.table c.self.inside.buddy c.self.inside.marks c.args.order.0 c.take.new.out.items c.requires.order c.self.invariant w.free w.apart).1
    (c.lend_all.ensures.value ∙ ap (λ l. with_tags (c.args.order.0 + 1) l c.self.inside.table) c.as_slice.ensures.value)
    ∙ ap (with_owned c.args.order.0 c.take.new.out.items) c.self.view_is
