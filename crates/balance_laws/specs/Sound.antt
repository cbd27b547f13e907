-- A sound world: what its objects and the agents' labels say of each other where no command is under way and all files
-- are memfds.
use Rattle.std.specs.Prelude.{◌≡◌, ℕ, ◌+◌, ◌%◌, ◌^◌, ◌<◌, ◌≤◌, Bool, true, false, ◌||◌, if◌then◌else◌, List, length, is_some, option_map, Option, None, Some}
use Rattle.std.specs.Ordering.{nat_cmp}
use Rattle.std.specs.FinMap as finmap
use Rattle.std.specs.FinSet as finset
use Rattle.ho_base.specs.ShapeRule.{Layout, in_scratch}
use Rattle.ho_base.specs.declared.limits.TheConstants.{OUT_SLOTS, FILES, FILE_BYTES, MAX_ORDER, SESSION_FILES}
use Rattle.ho_base.specs.declared.numbers.Kind.TheVariants.{Memfd}
use Rattle.ho_events.specs.File.{FileState, index_bytes}
use Rattle.ho_events.specs.Lists.{pieces}
use Rattle.ho_events.specs.Pool.{PoolState, is_owned_run}
use Rattle.ho_events.specs.Registry.{Slots}
use Rattle.ho_events.specs.Session.{SessionState, Listed, Free, In, Out, files_of}
use Rattle.ho_world.specs.Balance.{SLOTS, is_pinned, is_held, is_open}
use Rattle.ho_world.specs.Sequences.{Labels}
use Rattle.ho_world.specs.World.{World}
use Rattle.balance_laws.specs.OneEach.{OneEach}
use Rattle.balance_laws.specs.Parts.{Parts, parts_of, state_at}

-- a run may have this frame: it is not frame 0, it is in the machine, and in no scratch area
pub record IsUsable (shape : Layout) (p : ℕ) : Type 0 where
  pub some : 0 < p
  pub within : p < shape.frames
  pub off : in_scratch shape.scratch p ≡ false

-- a run of order o at most 9 begins at a multiple of its length, and each of its frames is usable
pub record RunFits (shape : Layout) (p o : ℕ) : Type 0 where
  pub order : o ≤ MAX_ORDER
  pub aligned : p % 2 ^ o ≡ 0
  pub usable : (i : ℕ) → i < 2 ^ o → IsUsable shape (p + i)

-- each owned run fits, and no two share a frame
pub record RunsFit (s : PoolState) : Type 0 where
  pub each : (p o : ℕ) → finmap.get s.owned p ≡ Some o → RunFits s.shape p o
  pub apart : (p o q n i j : ℕ) → finmap.get s.owned p ≡ Some o → finmap.get s.owned q ≡ Some n → i < 2 ^ o → j < 2 ^ n → p + i ≡ q + j → p ≡ q

-- whether the run with this first frame and this order is owned
abbrev pub owns : PoolState → ℕ × ℕ → Bool
owns s run = is_owned_run s run.1 run.0

-- the run of a file at an index, with the file's order;  the same of a pinned file alone
abbrev pub run_in : Option FileState → ℕ → Option (ℕ × ℕ)
run_in None i = None
run_in (Some f) i = option_map (λ p. (p, f.order)) (finmap.get f.runs i)

abbrev pub pinned_run : Option FileState → ℕ → Option (ℕ × ℕ)
pinned_run None i = None
pinned_run (Some f) i = (if f.pin then run_in (Some f) i else None)

-- a frame stands in one of the runs of some files
pub record IsCovered (runs : ℕ → ℕ → Option (ℕ × ℕ)) (p : ℕ) : Type 0 where
  pub file : ℕ
  pub index : ℕ
  pub run : ℕ × ℕ
  pub is : runs file index ≡ Some run
  pub offset : ℕ
  pub below : offset < 2 ^ run.1
  pub frame : p ≡ run.0 + offset

-- exactly the frames of these runs are pinned
pub record PinsMatch (s : PoolState) (runs : ℕ → ℕ → Option (ℕ × ℕ)) : Type 0 where
  pub pinned : (p : ℕ) → finset.contains s.pinned p ≡ true → IsCovered runs p
  pub covered : (p : ℕ) → IsCovered runs p → finset.contains s.pinned p ≡ true

-- how many indexes a file has
abbrev pub index_count : FileState → ℕ
index_count f = pieces (length f.bytes) (index_bytes f)

-- a memfd within the limits, with runs at its indexes alone, and at each of them where a session has it; a label or a
-- session has it
pub record FileFits (f : FileState) : Type 0 where
  pub kind : f.kind ≡ Memfd
  pub order : f.order ≤ MAX_ORDER
  pub size : length f.bytes ≤ FILE_BYTES
  pub position : f.position ≤ length f.bytes
  pub below : (i p : ℕ) → finmap.get f.runs i ≡ Some p → i < index_count f
  pub whole : (f.pin || f.hold) ≡ true → (i : ℕ) → i < index_count f → finmap.contains_key f.runs i ≡ true
  pub kept : (f.opened || f.pin || f.hold) ≡ true

-- what an outgoing session lists under a token;  what an incoming one does
abbrev pub listed_out : SessionState → ℕ → Option Listed
listed_out (Out name files) token = finmap.get files token
listed_out s token = None

abbrev pub listed_in : SessionState → ℕ → Option Listed
listed_in (In name opened files) token = finmap.get files token
listed_in s token = None

-- the number of a listed file
abbrev pub number_of : Option Listed → Option ℕ
number_of l = option_map (λ x. x.file) l

-- the name of an outgoing, of a waiting and of an opened session
abbrev pub name_out : SessionState → Option (List ℕ)
name_out (Out name files) = Some name
name_out s = None

abbrev pub name_waiting : SessionState → Option (List ℕ)
name_waiting (In name false files) = Some name
name_waiting s = None

abbrev pub name_opened : SessionState → Option (List ℕ)
name_opened (In name true files) = Some name
name_opened s = None

-- names have exactly the slots whose sessions have these names
pub record NamesMatch (names : Slots) (name_of : ℕ → Option (List ℕ)) : Type 0 where
  pub there : (name : List ℕ) (s : ℕ) → finmap.get names name ≡ Some s → name_of s ≡ Some name
  pub found : (name : List ℕ) (s : ℕ) → name_of s ≡ Some name → finmap.get names name ≡ Some s

-- outgoing sessions stand in the first slots, incoming ones in the others
pub record SlotsFit (sessions : ℕ → SessionState) : Type 0 where
  pub outgoing : (s : ℕ) (name : List ℕ) → name_out (sessions s) ≡ Some name → s < OUT_SLOTS
  pub incoming : (s : ℕ) (name : List ℕ) (opened : Bool) (files : finmap.FinMap nat_cmp Listed) → sessions s ≡ In name opened files → OUT_SLOTS ≤ s
  pub few : (s : ℕ) → finmap.len (files_of (sessions s)) ≤ SESSION_FILES

-- the file that a label of an agent has
abbrev pub file_under : (ℕ → Labels) → ℕ → List ℕ → Option ℕ
file_under labels agent label = option_map (λ f. f.0) (finmap.get (labels agent) label)

-- What holds of the parts. Of the pool and the files: owned runs fit; each owned run is of one file, at one index; pinned
-- are exactly the frames of pinned files; each file fits. Of the sessions and the files: an outgoing session lists exactly
-- the pinned files, an incoming one exactly the held ones, each once; a file that isn't taken yet isn't open; slots and
-- names fit. Of the numbers: a number is in use exactly where its file is there. Of the labels: exactly the open files have
-- one, each of them one.
-- Between two acts of a command a session can still list files that it doesn't have any more: `pinned` and `holding` say
-- which files the outgoing and the incoming sessions list.
pub record SoundBut (x : Parts) (labels : ℕ → Labels) (pinned holding : ℕ → Bool) : Type 0 where
  pub runs : RunsFit x.pool
  pub owned : OneEach (λ f i. run_in (x.files f) i) (owns x.pool)
  pub pins : PinsMatch x.pool (λ f i. pinned_run (x.files f) i)
  pub fit : (f : ℕ) (g : FileState) → x.files f ≡ Some g → FileFits g
  pub listed : OneEach (λ s t. number_of (listed_out (x.sessions s) t)) pinned
  pub held : OneEach (λ s t. number_of (listed_in (x.sessions s) t)) holding
  pub untaken : (s t : ℕ) (l : Listed) → listed_in (x.sessions s) t ≡ Some l → l.taken ≡ false → is_open (x.files l.file) ≡ false
  pub slots : SlotsFit x.sessions
  pub outgoing : NamesMatch x.registry.outgoing (λ s. name_out (x.sessions s))
  pub waiting : NamesMatch x.registry.waiting (λ s. name_waiting (x.sessions s))
  pub opened : NamesMatch x.registry.opened (λ s. name_opened (x.sessions s))
  pub used : (f : ℕ) → finset.contains x.registry.files f ≡ is_some (x.files f)
  pub labeled : OneEach (file_under labels) (λ f. is_open (x.files f))
  pub last_slot : (s : ℕ) → SLOTS ≤ s → x.sessions s ≡ Free
  pub last_file : (f : ℕ) → FILES ≤ f → x.files f ≡ None

-- where no command is under way, the outgoing sessions list the pinned files and the incoming ones the held ones
abbrev pub AreSound : Parts → (ℕ → Labels) → Type 0
AreSound x labels = SoundBut x labels (λ f. is_pinned (x.files f)) (λ f. is_held (x.files f))

-- a sound world: the state at each object number is of its sort, and the parts are sound with the labels of all agents
pub record Sound (w : World) (labels : ℕ → Labels) : Type 0 where
  pub sorts : (o : ℕ) → w.at o ≡ state_at (parts_of w) o
  pub parts : AreSound (parts_of w) labels
