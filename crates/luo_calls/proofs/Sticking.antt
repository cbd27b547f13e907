-- Turns that can't be taken.
use Rattle.std.proofs.Common.{◌≡◌, ℕ, ◌<◌, ◌≤◌, ◌^◌, List, [], ◌∷◌, ◌++◌, refl, sym, ap, subst, ◌∙◌, arith, inl, inr}
use Rattle.std.specs.Prelude.{Option, None, Some}
use Rattle.ho_base.specs.declared.numbers.ObjectNo.{ObjectNo}
use Rattle.ho_events.specs.declared.entry.Entry.{Entry}
use Rattle.ho_events.specs.declared.event.Event.{Event}
use Rattle.ho_events.specs.declared.slip.At.{At}
use Rattle.ho_events.specs.History.{last_stamp}
use Rattle.machine_core.specs.declared.halt.Halt.{Halt}
use Rattle.machine_core.specs.declared.halt.Halt.TheVariants.{Memory, Broken, Late}
use Rattle.machine_core.specs.declared.object.Object.{Object}
use Rattle.machine_core.specs.Objects.{start_of, history_of, known_of, IsOfMachine}
use Rattle.machine_core.specs.Agents.{Agent, Back, Found, took, gave_back, with_at, CanEnd, HasEnded, IsButForRoom}
use Rattle.machine_core.specs.Turns.{Goes, Stops, IsCause, IsBack, IsNext, IsUnfit}
use Rattle.luo_calls.specs.Opened.{Opens}
use Rattle.std.proofs.lemmas.List.{append-nil}
use Rattle.ho_events.specs.declared.command.Command.{Command}
use Rattle.ho_events.specs.declared.entry.Place.{Place}
use Rattle.ho_events.specs.declared.entry.Place.TheVariants as place
use Rattle.ho_events.specs.declared.entry.Place.TheVariants.{Own}
use Rattle.ho_world.specs.Acts.{Sequence}
use Rattle.ho_world.specs.Logs.{Deed}
use Rattle.ho_world.specs.Sequences.{Labels, Outcome, command_acts}
use Rattle.machine_core.specs.Commands.{Halts}
use Rattle.luo_calls.specs.declared.stuck.Stuck.{Stuck}
use Rattle.luo_calls.specs.Doing.{AreWhole, SticksAfter}
use Rattle.luo_calls.proofs.Chains.{then_stops}
use Rattle.luo_calls.specs.Stuck.{IsAgentCause, IsObjectCause, IsUnfitFor, SticksBefore, SticksAt, SticksWith, Sticks, CanRelease, Released, Turn, turn_at, turn_of}
use Rattle.luo_calls.proofs.Opens.{SameButRoom, unchanged, there_room, there_same, known_same}
use Rattle.luo_calls.proofs.Steps.{at_same, put_back, goes_none, ended_none}

-- an object was taken, and got more room perhaps
pub sticks_at : (at : At) (due : Option Turn) (halt : Halt) (n : ObjectNo) (a a0 a1 : Agent) (o o' : Object) → a.hands n.0 ≡ None → a0 ≡ record a { room = a0.room } → a1 ≡ took n.0 (known_of o) a0 → Found a0 n.0 o → SameButRoom o o' → IsObjectCause halt due at n o' → SticksAt at due halt n o' a a1
sticks_at at due halt n a a0 a1 o o' free room took_it found same cause = record {
  found = there_same a n.0 o o' same (there_room a a0 n.0 o room found);
  free = free;
  same = took_it ∙ (λ i. record (room i) { hands = with_at n.0 (Some (sym (known_same o o' same) i)) (room i).hands; room = (ap (λ (x : Agent). x.room) (sym took_it)) i; back = (ap (λ (x : Agent). x.back) (sym took_it)) i });
  cause = cause;
}

-- an open turn that doesn't go on
pub sticks_open : (at : At) (due : Option Turn) (halt : Halt) (n : ObjectNo) (a a1 : Agent) (o : Object) → a.hands n.0 ≡ None → Opens at n.0 a a1 o → IsObjectCause halt due at n o → SticksAt at due halt n o a a1
sticks_open at due halt n a a1 o free opens cause = record { found = opens.found; free = free; same = opens.same; cause = cause }

-- the same by a number that stands for the object's
pub sticks_number : (at : At) (due : Option Turn) (halt : Halt) (number : ObjectNo) (n : ℕ) (a a1 : Agent) (o : Object) → number.0 ≡ n → a.hands n ≡ None → Opens at n a a1 o → IsObjectCause halt due at number o → SticksAt at due halt number o a a1
sticks_number at due halt number n a a1 o is free opens cause =
    sticks_open at due halt number a a1 o (subst (λ k. a.hands k ≡ None) (sym is) free) (subst (λ k. Opens at k a a1 o) (sym is) opens) cause

-- where no turn is told, an object is never broken: so whichever turn is due can't be taken
pub sticks_any : (at : At) (due : Option Turn) (stuck : Stuck) (a a1 : Agent) → Sticks at None stuck a a1 → Sticks at due stuck a a1
sticks_any at due stuck a a1 s = go stuck.halt stuck.held s
  where
    cause_any : (halt : Halt) (n : ObjectNo) (o : Object) → IsObjectCause halt None at n o → IsObjectCause halt due at n o
    cause_any Memory n o c = tt
    cause_any (Broken m) n o c = absurd c.1
    cause_any (Late t) n o c = c

    go : (halt : Halt) (held : Option (ObjectNo × Object)) → SticksWith at None halt held a a1 → SticksWith at due halt held a a1
    go halt None s = s
    go halt (Some x) s = record { found = s.found; free = s.free; same = s.same; cause = cause_any halt x.0 x.1 s.cause }

-- deeds that are due after others don't change the turn; where the others are none, no object is broken
pub sticks_more : (at : At) (due more : List Deed) (stuck : Stuck) (a a1 : Agent) → Sticks at (turn_of due) stuck a a1 → Sticks at (turn_of (due ++ more)) stuck a a1
sticks_more at [] more stuck a a1 s = sticks_any at (turn_of more) stuck a a1 s
sticks_more at (d ∷ due) more stuck a a1 s = s

-- the first of the deeds that are due is at the object
next_is : (due : List Deed) (at : At) (n : ObjectNo) (o : Object) (a : Agent) → a.starts n.0 ≡ Some (start_of o) → IsUnfitFor (turn_of due) at n o → IsNext due n (λ event. IsUnfit event (a.starts n.0) (history_of o) at n.0)
next_is [] at n o a starts c = absurd c
next_is (d ∷ rest) at n o a starts c = go d.place refl c
  where
    go : (p : Place) → d.place ≡ p → IsUnfitFor (turn_at p d.event) at n o → (d.place ≡ place.Object n) × IsUnfit d.event (a.starts n.0) (history_of o) at n.0
    go Own e c = absurd c
    go (place.Object k) e c =
        (e ∙ (λ i. place.Object (record { 0 = c.0 i })), subst (λ s. IsUnfit d.event s (history_of o) at n.0) (sym starts) c.1)

-- what is in hand of a stuck turn may be given back
module _ (at : At) (due : Option Turn) (halt : Halt) (n : ObjectNo) (o : Object) (a a1 : Agent) (s : SticksAt at due halt n o a a1) where
  held_it : a1.hands n.0 ≡ Some (known_of o)
  held_it = ap (λ (x : Agent). x.hands n.0) s.same ∙ at_same n.0 (Some (known_of o)) a.hands

  pub can_release_at : CanEnd a1 n.0 o None (a1.hands n.0)
  can_release_at = subst (λ x. CanEnd a1 n.0 o None x) (sym held_it)
      (record {
        start = ap (λ (x : Agent). x.starts n.0) s.same ∙ s.found.start;
        history = refl;
        machine = subst (λ (x : Agent). IsOfMachine x.anchor.shape x.anchor.home o) (sym s.same) s.found.machine;
      })

  module _ (a2 : Agent) (gave_it : HasEnded a1 n.0 None (a1.hands n.0) a2) where
    gave : IsButForRoom (gave_back n.0 (history_of o) a1) a2
    gave = (ended_none a1 n.0 (known_of o) (a1.hands n.0) a2 held_it gave_it).shows

    goes_at : Goes [] at at a a2
    goes_at = goes_none at a a2
        (ap (λ (x : Agent). x.log) gave.same ∙ ap (λ (x : Agent). x.log) s.same)
        (ap (λ (x : Agent). x.number) gave.same ∙ ap (λ (x : Agent). x.number) s.same)
        (ap (λ (x : Agent). x.anchor) gave.same ∙ ap (λ (x : Agent). x.anchor) s.same)
        (ap (λ (x : Agent). x.starts) gave.same ∙ ap (λ (x : Agent). x.starts) s.same)
        (ap (λ (x : Agent). x.earlier) gave.same ∙ ap (λ (x : Agent). x.earlier) s.same)
        (ap (λ (x : Agent). x.hands) gave.same ∙ ap (λ (x : Agent). with_at n.0 None x.hands) s.same ∙ put_back n.0 (known_of o) a.hands s.free)
        (ap (λ (x : Agent). x.told) gave.same ∙ ap (λ (x : Agent). x.told) s.same)

    back_at : IsBack a2 n.0 (history_of o)
    back_at = ap (λ (x : Agent). x.back) gave.same

    starts_at : a2.starts n.0 ≡ Some (start_of o)
    starts_at = ap (λ (x : Agent). x.starts n.0) gave.same ∙ ap (λ (x : Agent). x.starts n.0) s.same ∙ s.found.start

    cause_at : (deeds : List Deed) (h : Halt) → due ≡ turn_of deeds → IsObjectCause h due at n o → IsCause h deeds at a2
    cause_at deeds Memory is c = tt
    cause_at deeds (Broken m) is c =
        subst (λ (k : ObjectNo). IsCause (Broken k) deeds at a2) (sym c.0)
        (history_of o, back_at, next_is deeds at n o a2 starts_at (subst (λ t. IsUnfitFor t at n o) is c.1))
    cause_at deeds (Late t) is c = (c.0, inr (n.0, (history_of o, back_at, c.1)))

    pub stops_at : (deeds : List Deed) → due ≡ turn_of deeds → Stops halt [] deeds at at a a2
    stops_at deeds is = record { goes = goes_at; cause = cause_at deeds halt is s.cause }

stops_before : (due : List Deed) (at : At) (halt : Halt) (a a1 : Agent) → SticksBefore at halt a a1 → Stops halt [] due at at a a1
stops_before due at halt a a1 s = record {
  goes = goes_none at a a1 (ap (λ (x : Agent). x.log) s.same) (ap (λ (x : Agent). x.number) s.same) (ap (λ (x : Agent). x.anchor) s.same) (ap (λ (x : Agent). x.starts) s.same) (ap (λ (x : Agent). x.earlier) s.same) (ap (λ (x : Agent). x.hands) s.same) (ap (λ (x : Agent). x.told) s.same);
  cause = cause_of halt s.cause;
}
  where
    cause_of : (h : Halt) → IsAgentCause h at → IsCause h due at a1
    cause_of Memory c = tt
    cause_of (Broken m) c = absurd c
    cause_of (Late t) c = (c.0, inl c.1)

-- a stuck turn by itself: what is in hand goes back, and the command stops
pub can_release : (at : At) (due : Option Turn) (halt : Halt) (held : Option (ObjectNo × Object)) (a a1 : Agent) → SticksWith at due halt held a a1 → CanRelease held a1
can_release at due halt None a a1 s = tt
can_release at due halt (Some x) a a1 s = can_release_at at due halt x.0 x.1 a a1 s

stops_stuck : (due : List Deed) (at : At) (halt : Halt) (held : Option (ObjectNo × Object)) (a a1 a2 : Agent) → SticksWith at (turn_of due) halt held a a1 → Released held a1 a2 → Stops halt [] due at at a a2
stops_stuck due at halt None a a1 a2 s r = subst (λ x. Stops halt [] due at at a x) (sym r) (stops_before due at halt a a1 s)
stops_stuck due at halt (Some x) a a1 a2 s r = stops_at at (turn_of due) halt x.0 x.1 a a1 s a2 r due refl

-- a command that sticks: what is in hand goes back, and it halts
pub can_release_after : {W : List Deed → Type 0} → (stuck : Stuck) (at at' : At) (a a1 : Agent) → SticksAfter W stuck at at' a a1 → CanRelease stuck.held a1
can_release_after stuck at at' a a1 s = can_release at' (turn_of s.due) stuck.halt stuck.held s.middle a1 s.sticks

pub halts_after : (labels : Labels) (command : Command) (stuck : Stuck) (halt : Halt) (at at' : At) (a a1 a2 : Agent) → SticksAfter (AreWhole (command_acts labels command)) stuck at at' a a1 → halt ≡ stuck.halt → Released stuck.held a1 a2 → Halts labels labels command halt at at' a a2
halts_after labels command stuck halt at at' a a1 a2 s is r = subst (λ h. Halts labels labels command h at at' a a2) (sym is)
    (record {
      outcome = s.front.outcome;
      sequence = s.front.sequence;
      is_one = s.front.is_one;
      deeds = s.deeds ++ [];
      due = s.due;
      front = ap (λ ds. ds ++ s.due) (append-nil s.deeds) ∙ s.front.deeds_are;
      stops = then_stops stuck.halt s.deeds [] s.due at at' at' a s.middle a2 s.goes (stops_stuck s.due at' stuck.halt stuck.held s.middle a1 a2 s.sticks r);
      labels_stay = refl;
    })

-- the sequences of one table are those of another, by their outcomes
pub whole_by : {X Y : Type 0} → (f : X → Option Sequence) (g : Y → Option Sequence) (h : X → Y) → ((x : X) → g (h x) ≡ f x) → (ds : List Deed) → AreWhole f ds → AreWhole g ds
whole_by f g h same ds w = record { outcome = h w.outcome; sequence = w.sequence; is_one = same w.outcome ∙ w.is_one; deeds_are = w.deeds_are }

-- the same turn is stuck, where more deeds may come
pub sticks_as : {V W : List Deed → Type 0} → ((ds : List Deed) → V ds → W ds) → (stuck : Stuck) (at at' : At) (a a1 : Agent) → SticksAfter V stuck at at' a a1 → SticksAfter W stuck at at' a a1
sticks_as more stuck at at' a a1 s = record { deeds = s.deeds; due = s.due; front = more _ s.front; middle = s.middle; goes = s.goes; sticks = s.sticks }

-- a command by its own table of sequences
pub halts_by : {X : Type 0} → (acts : X → Option Sequence) (h : X → Outcome) (labels : Labels) (command : Command) → ((x : X) → command_acts labels command (h x) ≡ acts x) → (stuck : Stuck) (halt : Halt) (at at' : At) (a a1 a2 : Agent) → SticksAfter (AreWhole acts) stuck at at' a a1 → halt ≡ stuck.halt → Released stuck.held a1 a2 → Halts labels labels command halt at at' a a2
halts_by acts h labels command same stuck halt at at' a a1 a2 s is r =
    halts_after labels command stuck halt at at' a a1 a2 (sticks_as (whole_by acts (command_acts labels command) h same) stuck at at' a a1 s) is r
