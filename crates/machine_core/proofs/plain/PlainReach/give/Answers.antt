use Rattle.std.proofs.Common.{refl, sym, subst, arith}
use Rattle.std.specs.Prelude.{Some, None}
use Rattle.machine_core.specs.Agents.{CanEnd, HasEnded}
use Rattle.machine_core.specs.Plain.{PlainValue, agent_of}
use Rattle.machine_core.specs.contracts.plain.PlainReach.{the_view}
use Rattle.machine_core.proofs.PlainShows as shows
use Rattle.machine_core.proofs.plain.PlainReach.give.Goals as goal

pub put_back-requires-clause-within : goal.put_back-requires-clause-within
put_back-requires-clause-within c =
    let can = subst (λ (v : PlainValue). CanEnd (agent_of v) c.args.object.0 c.args.state None ((agent_of v).hands c.args.object.0)) (sym c.self.view_is) c.requires in
    omega (arith, shows.give_below (the_view c.self.inside) c.args.object.0 c.args.state c.self.invariant.0 c.self.invariant.1 can)

pub put_back-requires-clause-empty : goal.put_back-requires-clause-empty
put_back-requires-clause-empty c =
    let can = subst (λ (v : PlainValue). CanEnd (agent_of v) c.args.object.0 c.args.state None ((agent_of v).hands c.args.object.0)) (sym c.self.view_is) c.requires in
    shows.give_empty (the_view c.self.inside) c.args.object.0 c.args.state c.self.invariant.0 c.self.invariant.1 can

pub invariant_of-self : goal.invariant_of-self
invariant_of-self c =
    let can = subst (λ (v : PlainValue). CanEnd (agent_of v) c.args.object.0 c.args.state None ((agent_of v).hands c.args.object.0)) (sym c.self.view_is) c.requires in
    (c.self.invariant.0, rw c.put_back.ensures.place (shows.give_keeps (the_view c.self.inside) c.args.object.0 c.args.state c.self.invariant.0 c.self.invariant.1 can))

pub returns : goal.returns
returns c =
    let can = subst (λ (v : PlainValue). CanEnd (agent_of v) c.args.object.0 c.args.state None ((agent_of v).hands c.args.object.0)) (sym c.self.view_is) c.requires in
    let after = the_view (record c.self.inside { objects = c.put_back.new.objects; back = Some (c.args.object, c.of.result) }) in
    subst (λ (v : PlainValue). HasEnded (agent_of v) c.args.object.0 None ((agent_of v).hands c.args.object.0) (agent_of after)) c.self.view_is
    (shows.give_shows (the_view c.self.inside) c.args.object.0 c.args.state c.self.invariant.0 c.self.invariant.1 can after refl refl c.put_back.ensures.place refl
    (shows.same_back c.args.object.0 _ _ c.of.ensures) (omega arith))
