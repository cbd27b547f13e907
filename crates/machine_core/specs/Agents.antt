-- An agent, as a reach shows it: who it is, its log, and what it has in hand.
use Rattle.std.specs.Prelude.{◌≡◌, ℕ, ◌+◌, ◌<◌, ◌≤◌, ◌==◌, nat_lt, if◌then◌else◌, IsTrue, List, [], ◌∷◌, ◌++◌, Option, None, Some}
use Rattle.std.specs.List.{list_all}
use Rattle.ho_base.specs.ShapeRule.{Layout}
use Rattle.ho_events.specs.declared.entry.Entry.{Entry}
use Rattle.ho_events.specs.declared.entry.Place.TheVariants as place
use Rattle.ho_world.specs.World.{State}
use Rattle.ho_world.specs.Logs.{Known, Paired}
use Rattle.phys_frames.specs.Homes.{HomeId}
use Rattle.machine_core.specs.declared.object.Object.{Object}
use Rattle.machine_core.specs.Objects.{Start, start_of, history_of, spot_of, spot_at, number_of, IsRunOf, IsOfMachine}

-- the kernel at which an agent works: its number, its update number, its machine's shape, the home of the machine's
-- frames, and the greatest stamp in it as the work began
pub record Anchor : Type 0 where
  pub kernel : ℕ
  pub updates : ℕ
  pub shape : Layout
  pub home : HomeId
  pub base : ℕ

-- an object that was given back without an entry, with its history then
pub record Back : Type 0 where
  pub number : ℕ
  pub history : List Entry

pub record Agent : Type 0 where
  pub number : ℕ
  pub anchor : Anchor
  -- the starts of all objects, by object number
  pub starts : ℕ → Option Start
  -- its entries before the reach began, and since then
  pub earlier : List Paired
  pub log : List Paired
  -- the objects in hand, as they were when they were taken
  pub hands : ℕ → Option Known
  -- the last object that was given back without an entry
  pub back : Option Back
  -- the histories of all objects, where the reach tells them
  pub told : Option (ℕ → List Entry)
  -- for how many more entries the log has room
  pub room : ℕ

-- the states in which the objects began
abbrev pub state_in : Option Start → Option State
state_in None = None
state_in (Some s) = Some s.state

abbrev pub begun : Agent → ℕ → Option State
begun a o = state_in (a.starts o)

-- a function with another value at one number
abbrev pub with_at : {A : Type 0} → ℕ → A → (ℕ → A) → ℕ → A
with_at n x f k = (if k == n then x else f k)

abbrev pub no_hands : ℕ → Option Known
no_hands n = None

-- where histories are told, an object that is taken has the told one
abbrev pub IsTold : Option (ℕ → List Entry) → ℕ → List Entry → Type 0
IsTold None n h = Unit {0}
IsTold (Some f) n h = h ≡ f n

-- what an agent knows of an object that it takes: it is of that number and of its kind, of this kernel, with the start
-- that the reach shows, and its history is a run
pub record Found (a : Agent) (n : ℕ) (o : Object) : Type 0 where
  pub number : number_of o ≡ n
  pub kind : spot_of o ≡ spot_at n
  pub machine : IsOfMachine a.anchor.shape a.anchor.home o
  pub start : a.starts n ≡ Some (start_of o)
  pub run : IsRunOf o
  pub told : IsTold a.told n (history_of o)

-- the agent takes the object n, which is as known
abbrev pub took : ℕ → Known → Agent → Agent
took n k a = record a { hands = with_at n (Some k) a.hands }

-- the object n is given back as it was
abbrev pub gave_back : ℕ → List Entry → Agent → Agent
gave_back n h a = record a { hands = with_at n None a.hands; back = Some (record { number = n; history = h }) }

abbrev pub told_with : ℕ → Entry → Option (ℕ → List Entry) → Option (ℕ → List Entry)
told_with n e None = None
told_with n e (Some f) = Some (with_at n (f n ++ e ∷ []) f)

-- the object n is given back with an entry, which the log has now with what was known
abbrev pub entered : ℕ → Paired → Agent → Agent
entered n p a = record a {
  hands = with_at n None a.hands;
  log = a.log ++ p ∷ [];
  told = told_with n p.entry a.told;
}

-- an entry of the agent's own
abbrev pub logged : Paired → Agent → Agent
logged p a = record a { log = a.log ++ p ∷ [] }

-- one agent is another but for the room of its log, which is at most one entry less
pub record IsButForRoom (a b : Agent) : Type 0 where
  pub same : b ≡ record a { room = b.room }
  pub room : a.room ≤ b.room + 1

-- all that an agent has in hand is known
abbrev pub KnowsHands : Agent → Paired → Type 0
KnowsHands a p = (o : ℕ) (k : Known) → a.hands o ≡ Some k → p.known o ≡ Some k

-- the object n, which was in hand as known, was given back without an entry, or with this one, and the agent is b now
pub record GaveBack (a : Agent) (n : ℕ) (k : Known) (b : Agent) : Type 0 where
  pub shows : IsButForRoom (gave_back n k.history a) b

pub record Entered (a : Agent) (n : ℕ) (k : Known) (e : Entry) (b : Agent) : Type 0 where
  pub pair : Paired
  pub entry : pair.entry ≡ e
  pub before : pair.before ≡ k.history
  pub known : KnowsHands a pair
  pub shows : IsButForRoom (entered n pair a) b

abbrev pub HasEnded : Agent → ℕ → Option Entry → Option Known → Agent → Type 0
HasEnded a n entry None b = ⊥
HasEnded a n None (Some k) b = GaveBack a n k b
HasEnded a n (Some e) (Some k) b = Entered a n k e b

-- the agent's own log has an entry more
pub record Logged (a : Agent) (e : Entry) (b : Agent) : Type 0 where
  pub pair : Paired
  pub entry : pair.entry ≡ e
  pub before : pair.before ≡ []
  pub shows : IsButForRoom (logged pair a) b

-- all entries of a log are stamped before this
abbrev pub AreBelow : ℕ → List Paired → Type 0
AreBelow t log = IsTrue (list_all (λ p. nat_lt p.entry.stamp t) log)

-- an object in hand is given back as it was
pub record GivesBack (a : Agent) (n : ℕ) (k : Known) (state : Object) : Type 0 where
  pub start : a.starts n ≡ Some (start_of state)
  pub history : history_of state ≡ k.history
  pub machine : IsOfMachine a.anchor.shape a.anchor.home state

-- an object in hand is given back with one entry more, which is the agent's and of this kernel
pub record EndsTurn (a : Agent) (n : ℕ) (k : Known) (state : Object) (e : Entry) : Type 0 where
  pub start : a.starts n ≡ Some (start_of state)
  pub history : history_of state ≡ k.history ++ e ∷ []
  pub machine : IsOfMachine a.anchor.shape a.anchor.home state
  pub run : IsRunOf state
  pub place : e.object ≡ place.Object (record { 0 = n })
  pub agent : e.agent.0 ≡ a.number
  pub kernel : e.kernel ≡ a.anchor.kernel
  pub stamp : AreBelow e.stamp (a.earlier ++ a.log)
  pub room : 0 < a.room

-- what may end a turn: the object as it was taken, or with just this entry more
abbrev pub CanEnd : Agent → ℕ → Object → Option Entry → Option Known → Type 0
CanEnd a n state entry None = ⊥
CanEnd a n state None (Some k) = GivesBack a n k state
CanEnd a n state (Some e) (Some k) = EndsTurn a n k state e

-- an entry of the agent's own comes next
pub record EndsCommand (a : Agent) (e : Entry) : Type 0 where
  pub place : e.object ≡ place.Own
  pub agent : e.agent.0 ≡ a.number
  pub kernel : e.kernel ≡ a.anchor.kernel
  pub stamp : AreBelow e.stamp (a.earlier ++ a.log)
  pub room : 0 < a.room
