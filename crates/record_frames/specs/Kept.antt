-- What frames keep, with the numbers of all frames that say it; and the rules that it keeps.
use Rattle.std.specs.Prelude.{ℕ, ◌+◌, Bool, true, false, not, ◌&&◌, ◌==◌, nat_le, List, [], ◌∷◌, ◌++◌, length, map, take, Option, Some, None}
use Rattle.std.specs.List.{list_all, list_any, flat_map}
use Rattle.ho_base.specs.ShapeRule.{Layout}
use Rattle.ho_base.specs.declared.limits.TheConstants.{BOUND_BYTES}
use Rattle.ho_base.specs.declared.numbers.Kind.{Kind}
use Rattle.ho_base.specs.declared.numbers.Kind.TheVariants.{Dev0, Dev1, Dev2, Dev3}
use Rattle.ho_events.specs.Handler.{BoundState}
use Rattle.ho_world.specs.Frozen.{CarriedFile, CarriedSession, Frozen}
use Rattle.record_frames.specs.Ram.{Ram, Page, is_frame, run_bytes}
use Rattle.folio_bitmaps.specs.Chunks.{Element}
use Rattle.record_frames.specs.Sheets.{Sheet, FileRecord, SessionRecord, FileSlot, items_of, numbers_of, kind_number, file_slot, session_slot, map_items, record_numbers, number}
use Rattle.record_frames.specs.Rules.{Version, keeps, is_session_sheet, is_file_sheet, is_list_sheet, is_chunk_sheet, all_apart, is_empty, fits, session_fits, file_fits, element_fits}

-- what frames keep, with the numbers of the frames that say it: the version of the records, the machine's shape, the update
-- number, the entry frame, the chunk frames, the session frames, and for each kind the bound record that it has
pub record Kept : Type 0 where
  pub version : Version
  pub shape : Layout
  pub number : ℕ
  pub entry : ℕ
  pub chain : List (Sheet Element)
  pub records : List (Sheet SessionRecord)
  pub bounds : List (Option BoundState)

-- the sessions; a session's files; a file's runs; all files, session by session
abbrev pub sessions_of : Kept → List SessionRecord
sessions_of k = items_of k.records

abbrev pub files_of : SessionRecord → List FileRecord
files_of s = items_of s.files

abbrev pub runs_of : FileRecord → List ℕ
runs_of f = items_of f.lists

abbrev pub all_files : Kept → List FileRecord
all_files k = flat_map files_of (sessions_of k)

-- the list frames of a file of n frames keep their rules
abbrev pub is_file : ℕ → FileRecord → Bool
is_file n f = keeps (is_list_sheet n f.order (length (runs_of f))) f.lists && list_all fits (runs_of f)

-- the file frames of a session
abbrev pub file_sheets : SessionRecord → List (Sheet FileSlot)
file_sheets s = map_items file_slot s.files

-- the file frames of sessions keep their rules, with so many files before them
abbrev pub are_sessions : Version → ℕ → ℕ → List SessionRecord → Bool
are_sessions v n before [] = true
are_sessions v n before (s ∷ ss) =
    (keeps (is_file_sheet v before (length (files_of s))) (file_sheets s) && (list_all file_fits (items_of (file_sheets s)) && list_all (is_file n) (files_of s)))
    && are_sessions v n (before + length (files_of s)) ss

-- The records keep the rules of a version on n frames: each frame by itself and with the frames before it, and no frame is
-- read twice.
abbrev pub are_records : Version → ℕ → List (Sheet SessionRecord) → Bool
are_records v n records =
    not (is_empty records) && keeps (is_session_sheet v) (map_items session_slot records)
    && list_all session_fits (items_of (map_items session_slot records)) && are_sessions v n 0 (items_of records)
    && list_all (is_frame n) (record_numbers records) && all_apart (record_numbers records)

-- the chain keeps its rules on n frames
abbrev pub is_chain : ℕ → List (Sheet Element) → Bool
is_chain n chain =
    not (is_empty chain) && keeps (is_chunk_sheet n) chain && list_all element_fits (items_of chain)
    && list_all (is_frame n) (numbers_of chain) && all_apart (numbers_of chain)

-- the kinds of device files
abbrev pub devices : List Kind
devices = Dev0 ∷ Dev1 ∷ Dev2 ∷ Dev3 ∷ []

abbrev pub same_kind : Kind → Kind → Bool
same_kind a b = kind_number a == kind_number b

-- there is a file of a kind
abbrev pub has_kind : List FileRecord → Kind → Bool
has_kind files kind = list_any (λ f. same_kind f.kind kind) files

-- a kind has a bound record exactly where it has a file: its frame is one from 1 on, and it isn't too long
abbrev pub is_bound_frame : ℕ → Option BoundState → Bool → Bool
is_bound_frame n None has = not has
is_bound_frame n (Some b) has = has && is_frame n b.frame && nat_le (length b.bytes) BOUND_BYTES

-- there is a bound record exactly for each kind that has a file
abbrev pub are_bounds : ℕ → List FileRecord → List Kind → List (Option BoundState) → Bool
are_bounds n files [] [] = true
are_bounds n files [] (b ∷ bounds) = false
are_bounds n files (kind ∷ kinds) [] = false
are_bounds n files (kind ∷ kinds) (b ∷ bounds) = is_bound_frame n b (has_kind files kind) && are_bounds n files kinds bounds

-- the frames of the bound records
abbrev pub bound_frames : List (Option BoundState) → List (Option ℕ)
bound_frames bounds = map frame_of bounds
  where
    frame_of : Option BoundState → Option ℕ
    frame_of None = None
    frame_of (Some b) = Some b.frame

-- the frames of the bound records with what they begin with
abbrev pub bound_pages : List (Option BoundState) → List Page
bound_pages bounds = flat_map page_of bounds
  where
    page_of : Option BoundState → List Page
    page_of None = []
    page_of (Some b) = record { at = b.frame; bytes = number (length b.bytes) ++ b.bytes } ∷ []

-- a file's bytes are those of its runs in order, cut at its size
abbrev pub carried_file : Ram → FileRecord → CarriedFile
carried_file ram f = record {
  token = f.token;
  kind = f.kind;
  order = f.order;
  bytes = take f.size (flat_map (run_bytes ram f.order) (runs_of f));
  position = f.position;
  handle = f.handle;
  runs = runs_of f;
}

abbrev pub carried_session : Ram → SessionRecord → CarriedSession
carried_session ram s = record { name = s.name; files = map (carried_file ram) (files_of s) }

-- what the frames carry
abbrev pub carried : Ram → Kept → Frozen
carried ram k = record {
  shape = k.shape;
  number = k.number;
  sessions = map (carried_session ram) (sessions_of k);
  bounds = k.bounds;
}
