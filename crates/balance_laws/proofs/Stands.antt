-- Acts that are to come in a world with these parts, taken one by one.
use Rattle.std.proofs.Common.{◌≡◌, ℕ, ◌<◌, List, [], ◌∷◌, subst, ◌∙◌}
use Rattle.std.specs.Prelude.{Option, None, Some}
use Rattle.ho_base.specs.Objects.{pool_no, registry_no, session_no, file_no}
use Rattle.ho_base.specs.declared.limits.TheConstants.{FILES}
use Rattle.ho_base.specs.declared.numbers.FileNo.{FileNo}
use Rattle.ho_base.specs.declared.numbers.SlotNo.{SlotNo}
use Rattle.ho_events.specs.File.{FileState, file_step}
use Rattle.ho_events.specs.Pool.{PoolState, pool_step}
use Rattle.ho_events.specs.Registry.{RegistryState, registry_step}
use Rattle.ho_events.specs.Session.{SessionState, session_step}
use Rattle.ho_events.specs.declared.event.Event.{Event}
use Rattle.ho_events.specs.declared.reply.Reply.{Reply}
use Rattle.ho_world.specs.Acts.{Act, Claim, AllHold, pool, registry, session, file}
use Rattle.ho_world.specs.Balance.{SLOTS}
use Rattle.ho_world.specs.Sequences.{Labels}
use Rattle.ho_world.specs.World.{State, World}
use Rattle.balance_laws.specs.Acted.{Acted, changed}
use Rattle.balance_laws.specs.Parts.{Parts, state_at}
use Rattle.balance_laws.specs.Sound.{AreSound, Sound}
use Rattle.balance_laws.proofs.Acts.{IsOf, set_at, pool_act, registry_act, session_act, file_act}
use Rattle.balance_laws.proofs.Base.{sound_as}

-- from a world with these parts, these acts lead to v
pub record Stands (begun : ℕ → State) (x : Parts) (acts : List Act) (v : World) : Type 0 where
  pub world : World
  pub is : IsOf world x
  pub rest : Acted begun world acts v

-- what an act on a part makes of it, and where the other acts begin
pub record PoolCame (begun : ℕ → State) (x : Parts) (claims : List Claim) (e : Event) (r : Reply) (acts : List Act) (v : World) : Type 0 where
  pub now : PoolState
  pub stepped : pool_step x.pool e r ≡ Some now
  pub claimed : AllHold begun (state_at x) claims
  pub then : Stands begun (record x { pool = now }) acts v

pub record RegistryCame (begun : ℕ → State) (x : Parts) (e : Event) (r : Reply) (acts : List Act) (v : World) : Type 0 where
  pub now : RegistryState
  pub stepped : registry_step x.registry e r ≡ Some now
  pub then : Stands begun (record x { registry = now }) acts v

pub record SessionCame (begun : ℕ → State) (x : Parts) (s : ℕ) (claims : List Claim) (e : Event) (r : Reply) (acts : List Act) (v : World) : Type 0 where
  pub now : SessionState
  pub below : s < SLOTS
  pub stepped : session_step (x.sessions s) e r ≡ Some now
  pub claimed : AllHold begun (state_at x) claims
  pub then : Stands begun (record x { sessions = set_at s now x.sessions }) acts v

pub record FileCame (begun : ℕ → State) (x : Parts) (f : ℕ) (claims : List Claim) (e : Event) (r : Reply) (acts : List Act) (v : World) : Type 0 where
  pub now : Option FileState
  pub below : f < FILES
  pub stepped : file_step (x.files f) e r ≡ Some now
  pub claimed : AllHold begun (state_at x) claims
  pub then : Stands begun (record x { files = set_at f now x.files }) acts v

module _ (begun : ℕ → State) (x : Parts) (v : World) where
  claims_at : (w : World) → IsOf w x → (claims : List Claim) → AllHold begun w.at claims → AllHold begun (state_at x) claims
  claims_at w is claims h = let same : w.at ≡ state_at x = λ j o. is o j in subst (λ at. AllHold begun at claims) same h

  pub pool_came : (claims : List Claim) (e : Event) (r : Reply) (acts : List Act) → Stands begun x (pool claims e r ∷ acts) v → PoolCame begun x claims e r acts v
  unfolding Acted
  pool_came claims e r acts s =
      let c : (p : PoolState) × (pool_step x.pool e r ≡ Some p) × IsOf (changed s.world pool_no s.rest.0) (record x { pool = p }) = pool_act s.world x s.is e r s.rest.0 s.rest.1 in
      record { now = c.0; stepped = c.1; claimed = claims_at s.world s.is claims s.rest.2; then = record { world = changed s.world pool_no s.rest.0; is = c.2; rest = s.rest.3 } }

  pub registry_came : (e : Event) (r : Reply) (acts : List Act) → Stands begun x (registry e r ∷ acts) v → RegistryCame begun x e r acts v
  unfolding Acted
  registry_came e r acts s =
      let c : (g : RegistryState) × (registry_step x.registry e r ≡ Some g) × IsOf (changed s.world registry_no s.rest.0) (record x { registry = g }) = registry_act s.world x s.is e r s.rest.0 s.rest.1 in
      record { now = c.0; stepped = c.1; then = record { world = changed s.world registry_no s.rest.0; is = c.2; rest = s.rest.3 } }

  pub session_came : (n : SlotNo) (claims : List Claim) (e : Event) (r : Reply) (acts : List Act) → ((f : Option FileState) → file_step f e r ≡ None) → Stands begun x (session n claims e r ∷ acts) v → SessionCame begun x n.0 claims e r acts v
  unfolding Acted
  session_came n claims e r acts none s =
      let c : (u : SessionState) × (n.0 < SLOTS) × (session_step (x.sessions n.0) e r ≡ Some u) × IsOf (changed s.world (session_no n.0) s.rest.0) (record x { sessions = set_at n.0 u x.sessions }) =
      session_act s.world x s.is n.0 e r s.rest.0 none s.rest.1 in
      record { now = c.0; below = c.1; stepped = c.2; claimed = claims_at s.world s.is claims s.rest.2; then = record { world = changed s.world (session_no n.0) s.rest.0; is = c.3; rest = s.rest.3 } }

  pub file_came : (f : FileNo) (claims : List Claim) (e : Event) (r : Reply) (acts : List Act) → Stands begun x (file f claims e r ∷ acts) v → FileCame begun x f.0 claims e r acts v
  unfolding Acted
  file_came f claims e r acts s =
      let c : (u : Option FileState) × (f.0 < FILES) × (file_step (x.files f.0) e r ≡ Some u) × IsOf (changed s.world (file_no f.0) s.rest.0) (record x { files = set_at f.0 u x.files }) =
      file_act s.world x s.is f.0 e r s.rest.0 s.rest.1 in
      record { now = c.0; below = c.1; stepped = c.2; claimed = claims_at s.world s.is claims s.rest.2; then = record { world = changed s.world (file_no f.0) s.rest.0; is = c.3; rest = s.rest.3 } }

  -- at the end of the acts
  pub stands_end : (labels : ℕ → Labels) → Stands begun x [] v → AreSound x labels → Sound v labels
  unfolding Acted
  stands_end labels s sound = sound_as v x labels (λ o. s.rest o ∙ s.is o) sound
