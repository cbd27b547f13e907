use Rattle.std.proofs.Common.{rules, ◌≡◌, ℕ, sym, ap, ◌∙◌, refl, subst}
use Rattle.turns_table.specs.declared.rule.Role.TheVariants.{Has}
use Rattle.turns_table.specs.Views.{role, holds, IsOnly}
use Rattle.turns_table.specs.Passes.{view}
use Rattle.turns_table.proofs.Sharing.{free_again}
use Rattle.turn_tests.proofs.turns.turn.Goals as goal

pub end-requires-2-clause-turn : goal.end-requires-2-clause-turn
end-requires-2-clause-turn g c = let b = c.begin-tally.ensures in let i = c.requires.idle in let of : c.entry-2.result.agent.0 ≡ c.args.agent.0 = ap (λ e. e.agent.0) c.entry-2.ensures in
    let mine : role (view c.begin-tally.new.pass) c.args.agent.0 ≡ Has i.2.0 = b.roles c.args.agent.0 ∙ (ap (λ s. role s.me.0 c.args.agent.0) c.reserve.ensures.seat ∙ i.2.1) in
    (c.begin-tally.result, b.held, refl, (search rules, search rules, (i.2.0, subst (λ (k : ℕ). role (view c.begin-tally.new.pass) k ≡ Has i.2.0) (sym of) mine, tt)))

pub returns-clause-idle : goal.returns-clause-idle
returns-clause-idle g c = let b = c.begin-tally.ensures in let i = c.requires.idle in let same = c.reserve.ensures.seat in let of : c.entry-2.result.agent.0 ≡ c.args.agent.0 = ap (λ e. e.agent.0) c.entry-2.ensures in
    let mine : role (view c.begin-tally.new.pass) c.args.agent.0 ≡ Has i.2.0 = b.roles c.args.agent.0 ∙ (ap (λ s. role s.me.0 c.args.agent.0) c.reserve.ensures.seat ∙ i.2.1) in
    let now = c.end-2.ensures.role c.begin-tally.result i.2.0 b.held (subst (λ (k : ℕ). role (view c.begin-tally.new.pass) k ≡ Has i.2.0) (sym of) mine) in (
      free_again c.args.object.0 (λ k. holds (view c.reserve.new.pass) k) (λ k. holds (view c.begin-tally.new.pass) k) (λ k. holds (view c.end-2.new.pass) k) (λ k. ap (λ s. holds s.me.0 k) same ∙ i.0 k) b.others c.end-2.ensures.others c.end-2.ensures.free,
      subst (λ (k : ℕ). IsOnly (view c.end-2.new.pass) k) of c.end-2.ensures.only,
      (_, ap (λ (k : ℕ). role (view c.end-2.new.pass) k) (sym of) ∙ now),
    )
