-- What is written for a state carries it.
use Rattle.std.specs.Prelude.{◌≡◌, ℕ, ◌+◌, ◌≤◌, Bool, ◌&&◌, nat_le, List, ◌++◌, length, map, drop, slice_index, IsTrue}
use Rattle.std.specs.List.{list_all, list_any, flat_map}
use Rattle.ho_base.specs.ShapeRule.{is_layout}
use Rattle.ho_base.specs.declared.limits.TheConstants.{PAGE_BYTES, MAX_ORDER}
use Rattle.ho_base.specs.declared.numbers.Kind.{Kind}
use Rattle.fdt_blob.specs.Spelling.{spelling}
use Rattle.fdt_blob.specs.Trees.{Tree}
use Rattle.folio_bitmaps.specs.Chunks.{Element}
use Rattle.folio_bitmaps.specs.Runs.{Run}
use Rattle.ho_events.specs.Lists.{firsts}
use Rattle.ho_world.specs.Frozen.{MOST_UPDATES}
use Rattle.record_frames.specs.Ram.{Ram, Begins}
use Rattle.record_frames.specs.Sheets.{Sheet, first_of, items_of, numbers_of}
use Rattle.record_frames.specs.Rules.{version_1, is_marked}
use Rattle.record_frames.specs.Handover.{Luo}
use Rattle.record_frames.specs.Kept.{Kept, devices, same_kind, is_bound_frame, bound_frames, bound_pages}
use Rattle.record_frames.specs.Owners.{single, given}
use Rattle.record_frames.specs.Carries.{HavePages, SpellChain, Carries}
use Rattle.record_frames.specs.State.{bound_among, state_in}
use Rattle.record_frames.specs.Writing.{files_in, files_of_sessions, lists_of_files, pages_in_use}
use Rattle.record_frames.specs.Written.{HoldPages, records_in}
use Rattle.record_frames.specs.declared.carried.Carried.{Carried}
use Rattle.record_frames.specs.declared.carried.CarriedFile.{CarriedFile}
use Rattle.kho_laws.specs.Tree.{handover_tree}
use Rattle.kho_laws.specs.Sessions.{are_carried}
use Rattle.kho_laws.specs.Owners.{is_run_of, all_runs_apart, off_scratch, is_one_of}

-- What is kept where this is carried: the first of these frames is the entry frame, the others are those of the records in their
-- order of use, and the chain is this one.
abbrev pub kept_in : Carried → List ℕ → List (Sheet Element) → Kept
kept_in c ats chain = record {
  version = version_1;
  shape = c.shape;
  number = c.number;
  entry = slice_index ats 0;
  chain = chain;
  records = records_in (drop 1 ats) c.sessions;
  bounds = map (bound_among c.bounds) devices;
}

-- what the root's child says of it
abbrev pub luo_in : Kept → Luo
luo_in k = record { number = k.number; header = first_of k.records; bounds = bound_frames k.bounds }

-- the tree that the entry frame spells
abbrev pub tree_in : Kept → Tree
tree_in k = handover_tree k.version k.shape (first_of k.chain) (luo_in k)

-- a kind has a bound record exactly where it has a file
abbrev pub has_its_bound : Carried → Kind → Bool
has_its_bound c kind = is_bound_frame c.shape.frames (bound_among c.bounds kind) (list_any (λ f. same_kind f.kind kind) (files_in c.sessions))

-- This can be carried: the machine's shape is one, the update number may be handed on, the sessions can be carried, and there is a
-- bound record exactly for each kind that has a file.
abbrev pub can_be_carried : Carried → Bool
can_be_carried c =
    is_layout c.shape.frames c.shape.scratch && (nat_le 1 c.number && nat_le c.number MOST_UPDATES) && are_carried c.shape.frames c.sessions
    && list_all (has_its_bound c) devices

-- The frames hold what is kept: the entry frame the blob of the tree, the frames of the records their pages, the chunk frames the
-- chain, and the bound frames the bound records.
pub record HoldKept (ram : Ram) (c : Carried) (ats : List ℕ) (chain : List (Sheet Element)) : Type 0 where
  pub frame : length (ram.page (slice_index ats 0)) ≡ PAGE_BYTES
  pub entry : Begins (ram.page (slice_index ats 0)) (spelling (tree_in (kept_in c ats chain)))
  pub records : HoldPages ram (pages_in_use (drop 1 ats) c.sessions)
  pub chunks : SpellChain ram (first_of chain) chain
  pub bounds : HavePages ram (bound_pages (map (bound_among c.bounds) devices))

-- a file's runs with their order
abbrev pub runs_of_file : CarriedFile → List Run
runs_of_file f = map (λ p. record { first = p; order = f.order.0 }) (firsts f.runs)

-- The runs that have to be marked: each of these frames by itself, the frame of each bound record, and the files' runs.
abbrev pub to_mark : Carried → List ℕ → List Run
to_mark c ats = map single (ats ++ given (bound_frames (map (bound_among c.bounds) devices))) ++ flat_map runs_of_file (files_in c.sessions)

-- Frames can hold what is written for this: the first are the entry frame and those of the records, as many as they need, and the
-- others the chunk frames. Together with the bound frames and the files' runs each is one of the machine's, no two share a frame,
-- and none has a frame of a scratch area.
pub record CanHold (c : Carried) (ats chunks : List ℕ) : Type 0 where
  pub count : length ats ≡ 2 + files_of_sessions c.sessions + lists_of_files (files_in c.sessions)
  pub runs : IsTrue (list_all (is_run_of c.shape.frames) (to_mark c ats ++ map single chunks))
  pub apart : IsTrue (all_runs_apart (to_mark c ats ++ map single chunks))
  pub scratch : IsTrue (list_all (off_scratch c.shape.scratch) (to_mark c ats ++ map single chunks))

-- a chain marks just the runs that have to be marked
abbrev pub MarksJust : Carried → List ℕ → List (Sheet Element) → Type 0
MarksJust c ats chain = (r : Run) → r.order ≤ MAX_ORDER → is_marked (items_of chain) r ≡ is_one_of (to_mark c ats) r

-- Frames carry what was written into them: it can be carried, the frames can hold it and hold it, and the chain marks just what has
-- to be marked. The bytes of the files are those that their runs have.
abbrev pub WrittenCarry : Type 0
WrittenCarry =
    (ram : Ram) (c : Carried) (ats : List ℕ) (chain : List (Sheet Element)) → ram.count ≡ c.shape.frames → IsTrue (can_be_carried c)
    → CanHold c ats (numbers_of chain) → MarksJust c ats chain → HoldKept ram c ats chain → Carries ram (slice_index ats 0) (state_in ram c)
