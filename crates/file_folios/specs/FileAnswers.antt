-- What a file over folios answers.
use Rattle.std.specs.Prelude.{◌≡◌, ℕ, ◌+◌, ◌-◌, ◌*◌, ◌^◌, ◌<◌, max, min, not, nat_le, filter, true, false, ◌==◌, ◌&&◌, ◌||◌, nat_lt, if◌then◌else◌, List, [], length, map, take, drop}
use Rattle.std.specs.FinMap as finmap
use Rattle.ho_base.specs.declared.limits.TheConstants.{PAGE_BYTES}
use Rattle.ho_base.specs.declared.numbers.Pfn.{Pfn}
use Rattle.phys_frames.specs.Homes.{HomeId}
use Rattle.phys_frames.specs.Memory.{FolioValue}
use Rattle.ho_events.specs.Lists.{pieces, firsts}
use Rattle.ho_events.specs.File.{FileState, index_bytes, is_too_big, grows_frozen, touched_holes, overwritten, filled, extended, holes, indexes, runs_of, left_runs, cut_runs, is_frozen}
use Rattle.ho_events.specs.declared.reply.Reply.{Reply}
use Rattle.ho_events.specs.declared.reply.Reply.TheVariants.{Ok, OkBytes, PastEnd, NoFramesOf, TooBig, SizeFrozen, OkRuns, NotFinished, AlreadyPinned}
use Rattle.file_folios.specs.Slots.{AreBlank}
use Rattle.file_folios.specs.FileFoliosValues.{FileFoliosValue}
use Rattle.file_folios.specs.declared.facts.Facts.{Facts}

-- the facts of a state
abbrev pub facts_of : FileState → Facts
facts_of f = record {
  kind = f.kind;
  order = record { 0 = f.order };
  size = length f.bytes;
  position = f.position;
  opened = f.opened;
  pin = f.pin;
  hold = f.hold;
}

-- folios that can fill holes of a file: of its home and order, with zeros
abbrev pub AreFillsOf : HomeId → ℕ → List FolioValue → Type 0
AreFillsOf home order folios = AreBlank home (record { 0 = order }) (PAGE_BYTES * 2 ^ order) folios

-- how many more indexes a file needs that reaches to an end
abbrev pub more_indexes : FileState → ℕ → ℕ
more_indexes f end = pieces (max (length f.bytes) end) (index_bytes f) - pieces (length f.bytes) (index_bytes f)

-- how many more indexes a file needs for a range, or a size, up to an end: none where that is refused
abbrev pub wanted_indexes : FileState → ℕ → ℕ
wanted_indexes f end = (if is_too_big end || grows_frozen f end then 0 else more_indexes f end)

-- for how many indexes a file has memory: those below its size, and those that there is room for. What changes the size
-- leaves it as large at least, so the room falls by the new indexes at most
abbrev pub memory_of : FileFoliosValue → ℕ
memory_of f = pieces (length f.state.bytes) (index_bytes f.state) + f.room

-- what a write is answered that has so many folios for the holes: `TooBig` where it ends past the greatest size; else
-- `SizeFrozen` where it would change a size that can't change; else `NoFramesOf` with the number of touched holes where
-- there are some and no folio came; else it is done
abbrev pub write_answer : FileState → ℕ → ℕ → ℕ → Reply
write_answer f off len fills =
    if is_too_big (off + len) then TooBig
    else if grows_frozen f (off + len) then SizeFrozen
    else if fills == 0 && nat_lt 0 (length (touched_holes f off len)) then NoFramesOf (length (touched_holes f off len))
    else Ok

-- what a read is answered: `PastEnd` where the range ends past the size; else its bytes
abbrev pub read_answer : FileState → ℕ → ℕ → Reply
read_answer f off len = if nat_lt (length f.bytes) (off + len) then PastEnd else OkBytes (take len (drop off f.bytes))

-- the folios that a call with this answer takes, and those that it leaves: all or none
abbrev pub fills_used : Reply → List FolioValue → List FolioValue
fills_used Ok folios = folios
fills_used reply folios = []

abbrev pub fills_left : Reply → List FolioValue → List FolioValue
fills_left Ok folios = []
fills_left reply folios = folios

-- the state with bytes written and runs put at the holes that they touch
abbrev pub written_state : FileState → ℕ → List ℕ → List Pfn → FileState
written_state f off new runs = record f {
  bytes = overwritten off new f.bytes;
  runs = filled (touched_holes f off (length new)) (firsts runs) f.runs;
}

-- what a seek is answered: `PastEnd` where the place is past the size
abbrev pub seek_answer : FileState → ℕ → Reply
seek_answer f to = if nat_lt (length f.bytes) to then PastEnd else Ok

-- the folio at an index, by its first frame: its bytes are those of the index, with zeros past the size
abbrev pub folio_at : FileState → HomeId → (ℕ × ℕ) → FolioValue
folio_at f home run = record {
  first = record { 0 = run.1 };
  order = record { 0 = f.order };
  bytes = take (index_bytes f) (drop (run.0 * index_bytes f) (extended (pieces (length f.bytes) (index_bytes f) * index_bytes f) f.bytes));
  home = home;
}

-- all folios of a file, by index
abbrev pub folios_of : FileState → HomeId → List FolioValue
folios_of f home = map (λ run. folio_at f home run) (finmap.entries f.runs)

-- the state with all holes filled, and pinned
abbrev pub pinned_state : FileState → List Pfn → FileState
pinned_state f used = record f { runs = filled (holes f (indexes f)) (firsts used) f.runs; pin = true }

-- what pinning is answered that has so many folios for the holes: `NotFinished` where an incoming session has the file;
-- else `AlreadyPinned` where an outgoing one has it; else `NoFramesOf` with the number of holes where there are some and
-- no folio came; else all runs by index of the file that is pinned
abbrev pub IsPinAnswer : FileState → ℕ → FileState → Reply → Type 0
IsPinAnswer f fills g NotFinished = f.hold ≡ true
IsPinAnswer f fills g AlreadyPinned = (f.hold ≡ false) × (f.pin ≡ true)
IsPinAnswer f fills g (NoFramesOf h) = (f.hold ≡ false) × (f.pin ≡ false) × (fills ≡ 0) × (0 < h) × (h ≡ length (holes f (indexes f)))
IsPinAnswer f fills g (OkRuns runs) = (f.hold ≡ false) × (f.pin ≡ false) × (fills ≡ length (holes f (indexes f))) × (firsts runs ≡ runs_of g)
IsPinAnswer f fills g reply = ⊥

-- the folios that a pin with this answer takes, and those that it leaves: all or none
abbrev pub pin_used : Reply → List FolioValue → List FolioValue
pin_used (OkRuns runs) folios = folios
pin_used reply folios = []

abbrev pub pin_left : Reply → List FolioValue → List FolioValue
pin_left (OkRuns runs) folios = []
pin_left reply folios = folios

-- the state with another size
abbrev pub truncated_state : FileState → ℕ → FileState
truncated_state f size = record f {
  bytes = take size (extended size f.bytes);
  position = min f.position size;
  runs = left_runs f size;
}

-- what a truncate is answered: `TooBig` past the greatest size; else `SizeFrozen` where it would change a size that can't
-- change; else the runs of the indexes past the new size, by index
abbrev pub IsTruncateAnswer : FileState → ℕ → Reply → Type 0
IsTruncateAnswer f size TooBig = is_too_big size ≡ true
IsTruncateAnswer f size SizeFrozen = (is_too_big size ≡ false) × (is_frozen f ≡ true) × ((size == length f.bytes) ≡ false)
IsTruncateAnswer f size (OkRuns runs) = (is_too_big size ≡ false) × ((is_frozen f && not (size == length f.bytes)) ≡ false) × (firsts runs ≡ cut_runs f size)
IsTruncateAnswer f size reply = ⊥

-- the folios of the indexes past a new size, by index
abbrev pub cut_folios : FileState → HomeId → ℕ → List FolioValue
cut_folios f home size = map (λ run. folio_at f home run) (filter (λ e. nat_le (pieces size (index_bytes f)) e.0) (finmap.entries f.runs))

-- the folios that a truncate with this answer gives up
abbrev pub truncate_given : FileState → HomeId → ℕ → Reply → List FolioValue
truncate_given f home size (OkRuns runs) = cut_folios f home size
truncate_given f home size reply = []
