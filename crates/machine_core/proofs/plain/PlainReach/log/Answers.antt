use Rattle.std.proofs.Common.{◌≡◌, [], map, max, subst, sym, ap, ◌∙◌}
use Rattle.std.specs.Prelude.{Some}
use Rattle.ho_events.specs.History.{last_stamp}
use Rattle.ho_world.specs.Logs.{Paired, grown, paired_on}
use Rattle.machine_core.specs.Agents.{begun, no_hands}
use Rattle.machine_core.specs.Kernels.{begun_in, histories_in, KeepsKernel}
use Rattle.machine_core.specs.Plain.{PlainValue, agent_of, anchor_of}
use Rattle.machine_core.specs.contracts.plain.PlainReach.{the_view}
use Rattle.machine_core.proofs.PlainEnds as ends
use Rattle.machine_core.proofs.PlainSteps.{pairs_entries}
use Rattle.machine_core.proofs.plain.PlainReach.log.Goals as goal

pub invariant_of-kernel : goal.invariant_of-kernel
invariant_of-kernel c =
    let free : (agent_of (the_view c.self.inside)).hands ≡ no_hands = ap (λ (v : PlainValue). (agent_of v).hands) c.self.view_is ∙ c.requires.free in
    subst (λ b. KeepsKernel c.self.inside.shape.value c.self.inside.home b c.self.inside.objects.items)
    (sym (c.max-base.ensures ∙ ap (max c.self.inside.base) (c.last_stamp_of.ensures ∙ ap last_stamp c.as_slice.ensures.value)))
    (ends.ends _ _ _ _ _ _ c.self.invariant.0 c.self.invariant.1 free)

pub returns-clause-anchor : goal.returns-clause-anchor
returns-clause-anchor c =
    let base : c.max-base.result ≡ max c.self.inside.base (last_stamp c.self.inside.log.items) = c.max-base.ensures ∙ ap (max c.self.inside.base) (c.last_stamp_of.ensures ∙ ap last_stamp c.as_slice.ensures.value) in
    ap (λ b. ends.with_base b (anchor_of (the_view c.self.inside).kernel)) base
    ∙ ap (λ (v : PlainValue). ends.with_base (max (agent_of v).anchor.base (last_stamp c.self.inside.log.items)) (agent_of v).anchor) c.self.view_is

pub returns-clause-starts : goal.returns-clause-starts
returns-clause-starts c =
    let free : (agent_of (the_view c.self.inside)).hands ≡ no_hands = ap (λ (v : PlainValue). (agent_of v).hands) c.self.view_is ∙ c.requires.free in
    ends.starts_end _ _ _ _ _ _ c.self.invariant.0 c.self.invariant.1 free ∙ ap (λ (v : PlainValue). (agent_of v).starts) c.self.view_is

pub returns-clause-histories : goal.returns-clause-histories
returns-clause-histories c =
    let free : (agent_of (the_view c.self.inside)).hands ≡ no_hands = ap (λ (v : PlainValue). (agent_of v).hands) c.self.view_is ∙ c.requires.free in
    ends.histories_end _ _ _ _ _ _ c.self.invariant.0 c.self.invariant.1 free
    ∙ ap (λ (v : PlainValue). grown (histories_in v.kernel.objects) c.self.inside.log.items) c.self.view_is

pub returns-clause-told : goal.returns-clause-told
returns-clause-told c =
    let free : (agent_of (the_view c.self.inside)).hands ≡ no_hands = ap (λ (v : PlainValue). (agent_of v).hands) c.self.view_is ∙ c.requires.free in
    ap Some (ends.histories_end _ _ _ _ _ _ c.self.invariant.0 c.self.invariant.1 free) ∙ ap (λ (v : PlainValue). (agent_of v).told) c.self.view_is

pub returns-clause-runs : goal.returns-clause-runs
returns-clause-runs c =
    let free : (agent_of (the_view c.self.inside)).hands ≡ no_hands = ap (λ (v : PlainValue). (agent_of v).hands) c.self.view_is ∙ c.requires.free in
    ends.runs_end _ _ _ _ _ _ c.self.invariant.0 c.self.invariant.1 free

pub returns-clause-entries : goal.returns-clause-entries
returns-clause-entries c =
    subst (λ (v : PlainValue). map (λ (p : Paired). p.entry) (agent_of v).log ≡ c.self.inside.log.items) c.self.view_is
    (pairs_entries (begun_in c.self.inside.opening.value.items) (histories_in c.self.inside.opening.value.items) [] c.self.inside.log.items)

pub returns-clause-log : goal.returns-clause-log
returns-clause-log c =
    let free : (agent_of (the_view c.self.inside)).hands ≡ no_hands = ap (λ (v : PlainValue). (agent_of v).hands) c.self.view_is ∙ c.requires.free in
    λ f same.
    subst (λ (v : PlainValue). paired_on (begun (agent_of v)) f [] c.self.inside.log.items ≡ (agent_of v).log) c.self.view_is
    (ap (λ g. paired_on (begun_in c.self.inside.opening.value.items) g [] c.self.inside.log.items)
    (ends.same_histories f (histories_in c.self.inside.opening.value.items) c.self.inside.log.items (same ∙ ends.histories_end _ _ _ _ _ _ c.self.invariant.0 c.self.invariant.1 free)))
