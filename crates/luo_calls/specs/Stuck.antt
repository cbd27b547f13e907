-- A turn that can't be taken: why, and the object that is still in hand.
use Rattle.std.specs.Prelude.{◌≡◌, ℕ, ◌≤◌, ◌^◌, List, [], ◌∷◌, Option, None, Some}
use Rattle.ho_base.specs.declared.numbers.ObjectNo.{ObjectNo}
use Rattle.ho_events.specs.declared.entry.Place.{Place}
use Rattle.ho_events.specs.declared.entry.Place.TheVariants as place
use Rattle.ho_events.specs.declared.entry.Place.TheVariants.{Own}
use Rattle.ho_events.specs.declared.event.Event.{Event}
use Rattle.ho_events.specs.declared.slip.At.{At}
use Rattle.ho_events.specs.History.{last_stamp}
use Rattle.ho_world.specs.Logs.{Deed}
use Rattle.machine_core.specs.declared.halt.Halt.{Halt}
use Rattle.machine_core.specs.declared.halt.Halt.TheVariants.{Memory, Broken, Late}
use Rattle.machine_core.specs.declared.object.Object.{Object}
use Rattle.machine_core.specs.Objects.{start_of, history_of, known_of}
use Rattle.machine_core.specs.Agents.{Agent, took, CanEnd, HasEnded}
use Rattle.machine_core.specs.Turns.{IsUnfit}
use Rattle.luo_calls.specs.Opened.{IsThere}
use Rattle.luo_calls.specs.declared.stuck.Stuck.{Stuck}

-- why no turn begins: no memory, or the agent's last stamp is too great
abbrev pub IsAgentCause : Halt → At → Type 0
IsAgentCause Memory at = Unit {0}
IsAgentCause (Broken n) at = ⊥
IsAgentCause (Late t) at = (2 ^ 63 ≤ t) × (t ≡ at.last)

-- an event at an object, for which a turn is taken
abbrev pub Turn : Type 0
Turn = ℕ × Event

abbrev pub turn : ℕ → Event → Option Turn
turn n event = Some (n, event)

-- the turn of the first of the deeds that are due: the end of a command isn't one
abbrev pub turn_at : Place → Event → Option Turn
turn_at Own event = None
turn_at (place.Object n) event = Some (n.0, event)

abbrev pub turn_of : List Deed → Option Turn
turn_of [] = None
turn_of (d ∷ rest) = turn_at d.place d.event

-- the object can't be used for the turn that is due;  where none is told, that never comes
abbrev pub IsUnfitFor : Option Turn → At → ObjectNo → Object → Type 0
IsUnfitFor None at n o = ⊥
IsUnfitFor (Some t) at n o = (t.0 ≡ n.0) × IsUnfit t.1 (Some (start_of o)) (history_of o) at n.0

-- why the turn that is due, on this object, doesn't go on: no memory; it can't be used for it as the command has to; or its
-- last stamp is too great
abbrev pub IsObjectCause : Halt → Option Turn → At → ObjectNo → Object → Type 0
IsObjectCause Memory due at n o = Unit {0}
IsObjectCause (Broken m) due at n o = (m ≡ n) × IsUnfitFor due at n o
IsObjectCause (Late t) due at n o = (2 ^ 63 ≤ t) × (t ≡ last_stamp (history_of o))

-- nothing was taken
pub record SticksBefore (at : At) (halt : Halt) (a a' : Agent) : Type 0 where
  pub same : a' ≡ record a { room = a'.room; back = a'.back }
  pub cause : IsAgentCause halt at

-- the object was taken, and is in hand as it was
pub record SticksAt (at : At) (due : Option Turn) (halt : Halt) (n : ObjectNo) (o : Object) (a a' : Agent) : Type 0 where
  pub found : IsThere a n.0 o
  pub free : a.hands n.0 ≡ None
  pub same : a' ≡ record (took n.0 (known_of o) a) { room = a'.room; back = a'.back }
  pub cause : IsObjectCause halt due at n o

abbrev pub SticksWith : At → Option Turn → Halt → Option (ObjectNo × Object) → Agent → Agent → Type 0
SticksWith at due halt None a a' = SticksBefore at halt a a'
SticksWith at due halt (Some x) a a' = SticksAt at due halt x.0 x.1 a a'

-- the agent did nothing, and the turn that is due can't be taken
abbrev pub Sticks : At → Option Turn → Stuck → Agent → Agent → Type 0
Sticks at due stuck a a' = SticksWith at due stuck.halt stuck.held a a'

-- what is in hand may be given back;  it was given back
abbrev pub CanRelease : Option (ObjectNo × Object) → Agent → Type 0
CanRelease None a = Unit {0}
CanRelease (Some x) a = CanEnd a x.0.0 x.1 None (a.hands x.0.0)

abbrev pub Released : Option (ObjectNo × Object) → Agent → Agent → Type 0
Released None a a' = a' ≡ a
Released (Some x) a a' = HasEnded a x.0.0 None (a.hands x.0.0) a'
