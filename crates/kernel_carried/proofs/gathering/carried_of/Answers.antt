use Rattle.std.proofs.Common.{ap, ◌∙◌, ◌+◌, ◌<◌, map, subst, sym, List, ℕ}
use Rattle.std.specs.Prelude.{min}
use Rattle.std.specs.List.{All}
use Rattle.ho_base.specs.declared.limits.TheConstants.{OUT_SLOTS, IN_SLOTS}
use Rattle.ho_world.specs.Frozen.{MOST_UPDATES}
use Rattle.ho_world.specs.World.{World}
use Rattle.registry_core.specs.Outgoing.{with_number}
use Rattle.kernel_carried.specs.Gathered.{Agrees, AreSessionsOf}
use Rattle.kernel_carried.proofs.Carried.{gathered, listed_slots}
use Rattle.kernel_carried.proofs.gathering.carried_of.Goals as goal

pub carried_sessions-requires : goal.carried_sessions-requires
carried_sessions-requires c =
    subst (λ l. All (λ (e : List ℕ × ℕ). e.1 < OUT_SLOTS + IN_SLOTS) (map with_number l)) (sym c.as_slice.ensures.value)
    (listed_slots c.args.kernel.now c.registry.result.now (map with_number c.in_ok-names.names.items) c.registry.ensures c.in_ok-names.ensures.exact c.requires.slots)

pub returns : goal.returns
returns c =
    gathered c.args.kernel.now _ c.registry.result.now (map with_number c.in_ok-names.names.items) c.registry.ensures c.in_ok-names.ensures.exact
    (c.in_ok-same_shape.ensures ∙ c.shape.ensures.value ∙ c.pool.ensures.shape) (c.saturating_add.ensures ∙ ap (λ (n : ℕ). min (n + 1) MOST_UPDATES) c.updates.ensures) c.new.ensures
    (λ w agrees. subst (λ l. AreSessionsOf c.args.kernel.now.objects w (map with_number l) c.in_ok-sessions.sessions) c.as_slice.ensures.value (c.in_ok-sessions.ensures w agrees))
