use Rattle.std.proofs.Common.{ap, refl, subst, arith, ◌∙◌}
use Rattle.machine_core.specs.Agents.{Found, took}
use Rattle.machine_core.specs.Objects.{known_of}
use Rattle.machine_core.specs.Plain.{PlainValue, agent_of}
use Rattle.machine_core.specs.contracts.plain.PlainReach.{the_view}
use Rattle.machine_core.proofs.PlainShows as shows
use Rattle.machine_core.proofs.plain.PlainReachReach.begin.Goals as goal

pub take_out-requires-clause-within : goal.take_out-requires-clause-within
take_out-requires-clause-within c = omega (arith, shows.begin_below (the_view c.self.inside) c.args.object.0 c.self.invariant.0 c.self.invariant.1 c.requires.there)

pub take_out-requires-clause-there : goal.take_out-requires-clause-there
take_out-requires-clause-there c =
    shows.begin_there (the_view c.self.inside) c.args.object.0 c.self.invariant.0 c.self.invariant.1 c.requires.there
    (ap (λ (v : PlainValue). (agent_of v).hands c.args.object.0) c.self.view_is ∙ c.requires.free)

pub invariant_of-self : goal.invariant_of-self
invariant_of-self c =
    (c.self.invariant.0, rw c.take_out.ensures.place (shows.begin_keeps (the_view c.self.inside) c.args.object.0 c.self.invariant.0 c.self.invariant.1 c.requires.there))

pub returns-clause-found : goal.returns-clause-found
returns-clause-found c =
    subst (λ (v : PlainValue). Found (agent_of v) c.args.object.0 c.take_out.result) c.self.view_is
    (shows.begin_found (the_view c.self.inside) c.args.object.0 c.self.invariant.0 c.self.invariant.1 c.requires.there c.take_out.result c.take_out.ensures.object)

pub returns-clause-taken : goal.returns-clause-taken
returns-clause-taken c =
    shows.begin_shows (the_view c.self.inside) c.args.object.0 c.self.invariant.0 c.self.invariant.1 c.requires.there c.take_out.result c.take_out.ensures.object
    (the_view (record c.self.inside { objects = c.take_out.new.objects })) refl refl c.take_out.ensures.place refl refl refl
    ∙ ap (λ (v : PlainValue). took c.args.object.0 (known_of c.take_out.result) (agent_of v)) c.self.view_is
