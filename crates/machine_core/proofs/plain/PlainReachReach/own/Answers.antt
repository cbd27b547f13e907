use Rattle.std.proofs.Common.{refl, sym, subst, arith}
use Rattle.machine_core.specs.Agents.{EndsCommand, Logged}
use Rattle.machine_core.specs.Plain.{PlainValue, agent_of}
use Rattle.machine_core.specs.contracts.plain.PlainReach.{the_view}
use Rattle.machine_core.proofs.PlainShows as shows
use Rattle.machine_core.proofs.plain.PlainReachReach.own.Goals as goal

pub invariant_of-self : goal.invariant_of-self
invariant_of-self c =
    let can = subst (λ (v : PlainValue). EndsCommand (agent_of v) c.args.entry) (sym c.self.view_is) c.requires in
    (c.self.invariant.0, rw c.push_reserved.ensures.items (shows.own_works (the_view c.self.inside) c.args.entry c.self.invariant.1 can))

pub returns : goal.returns
returns c =
    let can = subst (λ (v : PlainValue). EndsCommand (agent_of v) c.args.entry) (sym c.self.view_is) c.requires in
    let after = the_view (record c.self.inside { log = c.push_reserved.new.self }) in
    subst (λ (v : PlainValue). Logged (agent_of v) c.args.entry (agent_of after)) c.self.view_is
    (shows.own_shows (the_view c.self.inside) c.args.entry c.self.invariant.1 can after refl refl refl c.push_reserved.ensures.items refl
    (omega (arith, c.push_reserved.ensures.len, c.push_reserved.ensures.capacity)))
