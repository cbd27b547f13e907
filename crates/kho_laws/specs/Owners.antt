-- Frames that are used side by side, and the owners' rule.
use Rattle.std.specs.Prelude.{◌≡◌, ℕ, ◌+◌, ◌^◌, ◌≤◌, Bool, true, ◌&&◌, ◌||◌, ◌==◌, nat_le, List, [], ◌∷◌, ◌++◌, map, IsTrue}
use Rattle.std.specs.List.{list_all, list_any}
use Rattle.ho_base.specs.ShapeRule.{is_layout, area_end}
use Rattle.ho_base.specs.declared.shape.Area.{Area}
use Rattle.ho_base.specs.declared.limits.TheConstants.{MAX_ORDER}
use Rattle.folio_bitmaps.specs.Runs.{Run}
use Rattle.record_frames.specs.Sheets.{items_of, numbers_of}
use Rattle.record_frames.specs.Rules.{is_run, is_marked}
use Rattle.record_frames.specs.Kept.{Kept}
use Rattle.record_frames.specs.Owners.{single, users, all_owned_well}

-- the runs that are used: those that have to be marked, and the chunk frames
abbrev pub in_use : Kept → List Run
in_use k = users k ++ map single (numbers_of k.chain)

-- a run is one of n frames, of an order that a machine has
abbrev pub is_run_of : ℕ → Run → Bool
is_run_of n r = nat_le r.order MAX_ORDER && is_run n r.order r.first

-- two runs share no frame
abbrev pub apart : Run → Run → Bool
apart a b = nat_le (a.first + 2 ^ a.order) b.first || nat_le (b.first + 2 ^ b.order) a.first

abbrev pub all_runs_apart : List Run → Bool
all_runs_apart [] = true
all_runs_apart (r ∷ rs) = list_all (apart r) rs && all_runs_apart rs

-- a run has no frame of a scratch area
abbrev pub off_scratch : List Area → Run → Bool
off_scratch areas r = list_all (λ a. nat_le (r.first + 2 ^ r.order) a.first.0 || nat_le (area_end a) r.first) areas

-- one of these runs
abbrev pub same_run : Run → Run → Bool
same_run a b = a.first == b.first && a.order == b.order

abbrev pub is_one_of : List Run → Run → Bool
is_one_of runs r = list_any (same_run r) runs

-- What is kept uses frames side by side: the shape is one of a machine, each run that is used is one of n frames, no two of them
-- share a frame, and none has a frame of a scratch area.
pub record SideBySide (n : ℕ) (k : Kept) : Type 0 where
  pub shape : IsTrue (is_layout k.shape.frames k.shape.scratch)
  pub runs : IsTrue (list_all (is_run_of n) (in_use k))
  pub apart : IsTrue (all_runs_apart (in_use k))
  pub scratch : IsTrue (list_all (off_scratch k.shape.scratch) (in_use k))

-- A run of an order that a machine has is marked exactly where it is one of those that have to be.
abbrev pub MarksUsers : Kept → Type 0
MarksUsers k = (r : Run) → r.order ≤ MAX_ORDER → is_marked (items_of k.chain) r ≡ is_one_of (users k) r

-- Where frames are used side by side, and just the runs that have to be marked are, every frame keeps the owners' rule.
abbrev pub OwnersFromMarks : Type 0
OwnersFromMarks = (n : ℕ) (k : Kept) → SideBySide n k → MarksUsers k → IsTrue (all_owned_well n k)
