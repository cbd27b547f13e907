-- The acts of a command: what is asked of which object, with which reply, and what the command reads of objects
-- at that moment.
use Rattle.std.specs.Prelude.{◌≡◌, ℕ, ◌+◌, ◌&&◌, ◌==◌, List, [], ◌∷◌, map, Option, None, Some}
use Rattle.std.specs.FinMap as finmap
use Rattle.ho_base.specs.Objects.{pool_no, registry_no, handler_of, session_no, file_no}
use Rattle.ho_base.specs.declared.numbers.Kind.{Kind}
use Rattle.ho_base.specs.declared.numbers.Order.{Order}
use Rattle.ho_base.specs.declared.numbers.Pfn.{Pfn}
use Rattle.ho_base.specs.declared.numbers.FileNo.{FileNo}
use Rattle.ho_base.specs.declared.numbers.SlotNo.{SlotNo}
use Rattle.ho_events.specs.File.{FileState}
use Rattle.ho_events.specs.Session.{SessionState, Listed, files_of}
use Rattle.ho_events.specs.declared.event.Event.{Event}
use Rattle.ho_events.specs.declared.reply.Reply.{Reply}
use Rattle.ho_world.specs.World.{State, file_in, session_in}

-- a file as its session lists it
pub record Reference : Type 0 where
  pub file : ℕ
  pub handle : ℕ

-- a file's kind and order, where it is there
pub record Sort : Type 0 where
  pub kind : Kind
  pub order : ℕ

-- what a command reads of an object at an act: a file's kind and order; the kind and order that a file had as
-- this kernel began; all files of a session slot, in rising tokens; the file that a session slot lists under a
-- token
pub data Claim : Type 0 where
  IsFile : FileNo → Kind → Order → Claim
  BeganAs : FileNo → Kind → Order → Claim
  HasFiles : SlotNo → List Reference → Claim
  HasToken : SlotNo → ℕ → Reference → Claim

abbrev pub sort_of : Option FileState → Option Sort
sort_of None = None
sort_of (Some f) = Some (record { kind = f.kind; order = f.order })

abbrev pub reference_of : Listed → Reference
reference_of l = record { file = l.file; handle = l.handle }

abbrev pub reference_at : Option Listed → Option Reference
reference_at None = None
reference_at (Some l) = Some (reference_of l)

abbrev pub references : SessionState → List Reference
references s = map reference_of (finmap.values (files_of s))

abbrev pub IsSort : (ℕ → State) → FileNo → Kind → Order → Type 0
IsSort at f kind o = sort_of (file_in (at (file_no f.0))) ≡ Some (record { kind = kind; order = o.0 })

-- a claim is true: `begun` has the states in which the kernel began, `at` those in which the objects are now
abbrev pub Holds : (ℕ → State) → (ℕ → State) → Claim → Type 0
Holds begun at (IsFile f kind o) = IsSort at f kind o
Holds begun at (BeganAs f kind o) = IsSort begun f kind o
Holds begun at (HasFiles s files) = references (session_in (at (session_no s.0))) ≡ files
Holds begun at (HasToken s token r) = reference_at (finmap.get (files_of (session_in (at (session_no s.0)))) token) ≡ Some r

abbrev pub AllHold : (ℕ → State) → (ℕ → State) → List Claim → Type 0
AllHold begun at [] = Unit {0}
AllHold begun at (c ∷ cs) = Holds begun at c × AllHold begun at cs

-- an event on an object, its reply, and what is read at that moment
pub record Act : Type 0 where
  pub object : ℕ
  pub event : Event
  pub reply : Reply
  pub claims : List Claim

-- a whole sequence: the acts, and the reply of the entry that ends the command
pub record Sequence : Type 0 where
  pub acts : List Act
  pub reply : Reply

-- these acts, and then the command ends with this reply
abbrev pub ending : List Act → Reply → Option Sequence
ending acts reply = Some (record { acts = acts; reply = reply })

-- acts on the pool, the registry, a session slot, a file and a handler
abbrev pub pool : List Claim → Event → Reply → Act
pool claims event reply = record { object = pool_no; event = event; reply = reply; claims = claims }

abbrev pub registry : Event → Reply → Act
registry event reply = record { object = registry_no; event = event; reply = reply; claims = [] }

abbrev pub session : SlotNo → List Claim → Event → Reply → Act
session s claims event reply = record { object = session_no s.0; event = event; reply = reply; claims = claims }

abbrev pub file : FileNo → List Claim → Event → Reply → Act
file f claims event reply = record { object = file_no f.0; event = event; reply = reply; claims = claims }

-- the object number of a kind's handler: a memfd has none, and no object has the number that stands for it
abbrev pub handler_number : Option ℕ → ℕ
handler_number None = 65536
handler_number (Some n) = n

abbrev pub handler : Kind → List Claim → Event → Reply → Act
handler kind claims event reply =
    record { object = handler_number (handler_of kind); event = event; reply = reply; claims = claims }

-- an act that comes only where its list of runs isn't empty
abbrev pub unless_empty : List Pfn → Act → List Act
unless_empty [] act = []
unless_empty (r ∷ rs) act = act ∷ []

-- the order of runs of single frames
abbrev pub single : Order
single = record { 0 = 0 }

-- the list of an optional frame
abbrev pub frame_list : Option Pfn → List Pfn
frame_list None = []
frame_list (Some p) = p ∷ []
