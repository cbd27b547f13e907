-- Folios into which a state is written, and what they hold then.
use Rattle.std.specs.Prelude.{◌≡◌, ℕ, ◌+◌, ◌<◌, ◌≤◌, List, ◌∷◌, ◌++◌, length, map, take, drop, slice_index, slice_index_or, IsTrue}
use Rattle.std.specs.FinSet as set
use Rattle.std.specs.List.{All}
use Rattle.ho_base.specs.BitmapCount.{chunk_frames}
use Rattle.ho_base.specs.declared.limits.TheConstants.{PAGE_BYTES}
use Rattle.fdt_blob.specs.Spelling.{spelling}
use Rattle.folio_bitmaps.specs.Runs.{Run, Marks, IsRun}
use Rattle.folio_bitmaps.specs.Written.{IsWritten, next_first, with_frames}
use Rattle.phys_frames.specs.Memory.{FolioValue, first_frames, with_bytes}
use Rattle.record_frames.specs.Ram.{Ram, Page}
use Rattle.record_frames.specs.Rules.{version_1}
use Rattle.record_frames.specs.Kept.{devices, bound_frames, bound_pages}
use Rattle.record_frames.specs.Carries.{HavePages, Carries}
use Rattle.record_frames.specs.State.{bound_among, state_in}
use Rattle.record_frames.specs.Writing.{files_in, files_of_sessions, frames_of, lists_of_files, pages_in_use, with_pages}
use Rattle.record_frames.specs.declared.carried.Carried.{Carried}
use Rattle.kho_laws.specs.Tree.{handover_tree}
use Rattle.kho_laws.specs.Owners.{is_one_of}
use Rattle.kho_laws.specs.Carrying.{can_be_carried, CanHold}
use Rattle.kho_laws.specs.Marks.{own_runs}

-- how many frames the entry and the records take
abbrev pub front_count : Carried → ℕ
front_count c = 2 + files_of_sessions c.sessions + lists_of_files (files_in c.sessions)

-- the folios of the entry and the records, and those of the chunk frames
abbrev pub fronts : Carried → List FolioValue → List FolioValue
fronts c folios = take (front_count c) folios

abbrev pub chunks : Carried → List FolioValue → List FolioValue
chunks c folios = drop (front_count c) folios

-- This can be written into these folios: it can be carried, they are as many as its entry, its records and the machine's chain of
-- chunk frames take, each has one frame, and these frames can hold what is written.
pub record HasRoom (c : Carried) (folios : List FolioValue) : Type 0 where
  pub can : IsTrue (can_be_carried c)
  pub count : length folios ≡ front_count c + chunk_frames c.shape.frames
  pub orders : All (λ f. f.order.0 ≡ 0) folios
  pub hold : CanHold c (frames_of (fronts c folios)) (frames_of (chunks c folios))

-- just the runs of what is carried itself are marked, on its machine
pub record MarksOwn (c : Carried) (marks : Marks) : Type 0 where
  pub frames : marks.frames ≡ c.shape.frames
  pub runs : (r : Run) → set.contains marks.runs r ≡ is_one_of (own_runs c) r

-- each folio is what it was but for its bytes
abbrev pub OtherBytes : List FolioValue → List FolioValue → Type 0
OtherBytes old new = (i : ℕ) → i < length old → (d : FolioValue) → slice_index_or new i d ≡ with_bytes (slice_index_or old i d) (slice_index_or new i d).bytes

-- the frames of the folios hold their bytes
abbrev pub HoldFolios : Ram → List FolioValue → Type 0
HoldFolios ram folios = All (λ f. ram.page f.first.0 ≡ f.bytes) folios

-- Where the machine's frames hold the bytes of these folios, and the bound records stand in theirs, the frames and the first folio's
-- number carry this.
abbrev pub CarryIt : Carried → List FolioValue → Type 0
CarryIt c folios =
    (ram : Ram) → ram.count ≡ c.shape.frames → HoldFolios ram folios → HavePages ram (bound_pages (map (bound_among c.bounds) devices))
    → Carries ram (slice_index (frames_of folios) 0) (state_in ram c)

-- the blob of the entry frame, where the frames of the entry and the records have these numbers, and the first chunk frame this one
abbrev pub blob_for : Carried → List ℕ → ℕ → List ℕ
blob_for c ats chunk =
    spelling (handover_tree version_1 c.shape chunk
    (record { number = c.number; header = slice_index (drop 1 ats) 0; bounds = bound_frames (map (bound_among c.bounds) devices) }))

-- the pages of the entry and the records in their order of use
abbrev pub front_pages : Carried → List ℕ → ℕ → List Page
front_pages c ats chunk = record { at = slice_index ats 0; bytes = blob_for c ats chunk } ∷ pages_in_use (drop 1 ats) c.sessions

-- what folios hold are bytes
abbrev pub HaveBytes : List FolioValue → Type 0
HaveBytes folios = (i : ℕ) → i < length folios → (d : FolioValue) → (j : ℕ) → slice_index (slice_index_or folios i d).bytes j < 256

-- The folios of the entry and the records hold their pages, and those of the chunk frames the chain, which marks the tracker's runs
-- and each frame of the entry and the records.
pub record AreWritten (c : Carried) (marks : Marks) (fronts chunks fronts_new chunks_new : List FolioValue) : Type 0 where
  pub pages : fronts_new ≡ with_pages fronts (front_pages c (frames_of fronts) (slice_index (frames_of chunks) 0))
  pub members : (r : Run) → IsTrue (set.contains (with_frames marks.runs (first_frames fronts)) r) → IsRun marks.frames r
  pub same : OtherBytes chunks chunks_new
  pub size : length chunks_new ≡ length chunks
  pub fits : length (blob_for c (frames_of fronts) (slice_index (frames_of chunks) 0)) ≤ PAGE_BYTES
  pub bytes : HaveBytes chunks_new
  pub written : (i : ℕ) → i < length chunks → (d : FolioValue) → IsWritten marks.frames (with_frames marks.runs (first_frames fronts)) i (next_first chunks i) (slice_index_or chunks_new i d).bytes

-- what is written carries what it was written for
abbrev pub FoliosCarry : Type 0
FoliosCarry =
    (c : Carried) (marks : Marks) (old fronts_new chunks_new : List FolioValue) → HasRoom c old → MarksOwn c marks
    → AreWritten c marks (fronts c old) (chunks c old) fronts_new chunks_new → CarryIt c (fronts_new ++ chunks_new)
