use Rattle.std.proofs.Common.{rules, zero, suc, ◌∷◌, [], List, All, sym, subst, arith}
use Rattle.std.proofs.lemmas.List.Elements.{All-append}
use Rattle.turns_bench.specs.declared.agent.Agent.{Agent}
use Rattle.turns_bench.specs.Agents.{IsReady}
use Rattle.turns_bench.proofs.agents_of.Goals as goal

alone : {A : Type 0} (P : A → Type 0) (x : A) → P x → All P (x ∷ [])
alone P x p = elim [ zero ↦ λ d h. p | suc k ↦ λ d h. absurd (omega arith) ]

pub loop-number-preserved : goal.loop-number-preserved
loop-number-preserved c = let i = c.loop-number.invariant in (
  c.agent_of.ensures.table,
  c.in_ok-agent.ensures.spare,
  subst (λ (l : List Agent). All (IsReady c.args.turns.now) l) (sym c.push_reserved.ensures.items)
      (All-append (IsReady c.args.turns.now) c.loop-number.made.items (c.in_ok-agent.agent ∷ []) i.2 (alone (IsReady c.args.turns.now) c.in_ok-agent.agent c.in_ok-agent.ensures.ready)),
  (let n = c.push_reserved.ensures.len in search rules),
  search rules,
)
