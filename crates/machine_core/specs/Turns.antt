-- What turns of an agent do, and why a command stops in the middle.
use Rattle.std.specs.Prelude.{◌≡◌, ℕ, ◌<◌, ◌≤◌, ◌^◌, nat_le, Bool, true, false, not, ◌||◌, IsTrue, ◌⊎◌, List, [], ◌∷◌, ◌++◌, map, unwrap_or, Option, None, Some, MatchOption}
use Rattle.std.specs.List.{list_all}
use Rattle.ho_base.specs.declared.limits.TheConstants.{MAX_ORDER}
use Rattle.ho_base.specs.declared.numbers.ObjectNo.{ObjectNo}
use Rattle.ho_events.specs.declared.entry.Entry.{Entry}
use Rattle.ho_events.specs.declared.entry.Place.TheVariants.{Object}
use Rattle.ho_events.specs.declared.event.Event.{Event}
use Rattle.ho_events.specs.declared.event.Event.TheVariants.{FileWrite, FileFill, FileRead, FileTruncate, FileSeek, FileTell, FileCloseFd, FilePin, FileUnpin, FileFinish, SessionClose, SessionFinish}
use Rattle.ho_events.specs.declared.reply.Reply.{Reply}
use Rattle.ho_events.specs.declared.slip.At.{At}
use Rattle.ho_events.specs.History.{on, last_stamp}
use Rattle.ho_events.specs.File.{FileState, is_device}
use Rattle.ho_events.specs.Lists.{are_distinct}
use Rattle.ho_world.specs.World.{run, file_in, session_in}
use Rattle.ho_world.specs.Acts.{references}
use Rattle.ho_world.specs.Logs.{Paired, Deed, deed_at, entry_of, AreDone}
use Rattle.machine_core.specs.declared.halt.Halt.{Halt}
use Rattle.machine_core.specs.declared.halt.Halt.TheVariants.{Memory, Broken, Late}
use Rattle.machine_core.specs.Objects.{Start}
use Rattle.machine_core.specs.Agents.{Agent, begun}

-- a command's place in history is that of the agent: its number and its kernel's, and a last stamp that no entry of
-- the log passes
pub record IsReady (at : At) (a : Agent) : Type 0 where
  pub agent : at.agent.0 ≡ a.number
  pub kernel : at.kernel ≡ a.anchor.kernel
  pub last : IsTrue (list_all (λ p. nat_le p.entry.stamp at.last) (a.earlier ++ a.log))

-- told histories grow by the entries
abbrev pub TellsMore : List Paired → Option (ℕ → List Entry) → Option (ℕ → List Entry) → Type 0
TellsMore made None None = Unit {0}
TellsMore made (Some f) (Some g) = (n : ℕ) → g n ≡ f n ++ on n (map (λ p. p.entry) made)
TellsMore made f g = ⊥

-- the agent does these deeds of its command, and nothing else
pub record Goes (ds : List Deed) (at at' : At) (a a' : Agent) : Type 0 where
  pub made : List Paired
  pub log : a'.log ≡ a.log ++ made
  pub done : AreDone (begun a) at at.last ds made at'.last
  pub at_is : at' ≡ record at { last = at'.last }
  pub number : a'.number ≡ a.number
  pub anchor : a'.anchor ≡ a.anchor
  pub starts : a'.starts ≡ a.starts
  pub earlier : a'.earlier ≡ a.earlier
  pub hands : a'.hands ≡ a.hands
  pub told : TellsMore made a.told a'.told

-- no reply to this event can come after a history
abbrev pub CannotCome : Option Start → List Entry → At → ℕ → Event → Type 0
CannotCome None h at n event = ⊥
CannotCome (Some s) h at n event =
    (reply : Reply) → run s.state (h ++ entry_of at (deed_at n [] event reply) 0 ∷ []) ≡ None

-- the state of a file after a history, and none where no file is there
abbrev pub file_then : Start → List Entry → Option FileState
file_then s h = file_in (unwrap_or (run s.state h) s.state)

-- an event by which a command uses the file that a label has;  one at which a file gets, lists or gives up runs;  one
-- by which a session ends with all its files
abbrev pub is_by_label : Event → Bool
is_by_label (FileWrite off bytes fills) = true
is_by_label (FileFill off len byte fills) = true
is_by_label (FileRead off len) = true
is_by_label (FileTruncate size) = true
is_by_label (FileSeek to) = true
is_by_label FileTell = true
is_by_label FileCloseFd = true
is_by_label (FilePin fills) = true
is_by_label event = false

abbrev pub is_of_runs : Event → Bool
is_of_runs (FileWrite off bytes fills) = true
is_of_runs (FileFill off len byte fills) = true
is_of_runs (FileTruncate size) = true
is_of_runs FileCloseFd = true
is_of_runs (FilePin fills) = true
is_of_runs FileUnpin = true
is_of_runs FileFinish = true
is_of_runs event = false

abbrev pub is_end_of_session : Event → Bool
is_end_of_session (SessionClose name) = true
is_end_of_session (SessionFinish name) = true
is_end_of_session event = false

-- a file that a label has isn't open
abbrev pub IsShut : Option Start → List Entry → Type 0
IsShut None h = ⊥
IsShut (Some s) h = MatchOption (file_then s h) (Unit {0}) (λ f. f.opened ≡ false)

-- a file isn't a memfd of an order that runs may have, which are all that is built so far
abbrev pub IsOther : Option Start → List Entry → Type 0
IsOther None h = ⊥
IsOther (Some s) h = MatchOption (file_then s h) (Unit {0}) (λ f. (is_device f.kind || not (nat_le f.order MAX_ORDER)) ≡ true)

-- a session lists a file twice
abbrev pub IsDoubled : Option Start → List Entry → Type 0
IsDoubled None h = ⊥
IsDoubled (Some s) h = are_distinct (map (λ r. r.file) (references (session_in (unwrap_or (run s.state h) s.state)))) ≡ false

-- After this history the object can't be used for this event as a command has to. It can't make the event, whatever the
-- reply; or the event uses a label's file, which isn't open; or it is one of runs, at a file that is no memfd of an
-- order that runs may have; or it ends a session, which lists a file twice.
abbrev pub IsUnfit : Event → Option Start → List Entry → At → ℕ → Type 0
IsUnfit event start h at n =
    CannotCome start h at n event
    ⊎ (((is_by_label event ≡ true) × IsShut start h)
    ⊎ (((is_of_runs event ≡ true) × IsOther start h) ⊎ ((is_end_of_session event ≡ true) × IsDoubled start h)))

-- the first of the deeds that are due is of the object n, and its event has this property
abbrev pub IsNext : List Deed → ObjectNo → (Event → Type 0) → Type 0
IsNext [] n p = ⊥
IsNext (d ∷ rest) n p = (d.place ≡ Object n) × p d.event

-- the object that was given back last without an entry
abbrev pub IsBack : Agent → ℕ → List Entry → Type 0
IsBack a n h = a.back ≡ Some (record { number = n; history = h })

-- Why a command stops before these deeds, which are due next. Broken: the first of them is of the object that was given
-- back last, which can't be used for it as the command has to. Late: the last stamp of the agent, or of the object that
-- was given back last, is too great.
abbrev pub IsCause : Halt → List Deed → At → Agent → Type 0
IsCause Memory due at a = Unit {0}
IsCause (Broken n) due at a = (h : List Entry) × IsBack a n.0 h × IsNext due n (λ event. IsUnfit event (a.starts n.0) h at n.0)
IsCause (Late t) due at a =
    (2 ^ 63 ≤ t) × ((t ≡ at.last) ⊎ ((n : ℕ) × ((h : List Entry) × IsBack a n h × (t ≡ last_stamp h))))

-- the agent stops, after these deeds of its command and before those that are due
pub record Stops (halt : Halt) (ds due : List Deed) (at at' : At) (a a' : Agent) : Type 0 where
  pub goes : Goes ds at at' a a'
  pub cause : IsCause halt due at' a'
