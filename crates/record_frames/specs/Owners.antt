-- Who uses a frame, and the owners' rule.
use Rattle.std.specs.Prelude.{ℕ, ◌+◌, ◌-◌, ◌%◌, ◌^◌, Bool, true, false, ◌&&◌, ◌==◌, nat_lt, nat_le, nat_eq, if◌then◌else◌, List, [], ◌∷◌, ◌++◌, length, map, filter, Option, Some, None}
use Rattle.std.specs.List.{list_all, flat_map, range_with_len}
use Rattle.ho_base.specs.ShapeRule.{holds}
use Rattle.record_frames.specs.Sheets.{FileRecord, items_of, numbers_of, record_numbers}
use Rattle.folio_bitmaps.specs.Runs.{Run}
use Rattle.record_frames.specs.Rules.{is_marked}
use Rattle.record_frames.specs.Kept.{Kept, all_files, runs_of, bound_frames}

-- a frame by itself
abbrev pub single : ℕ → Run
single p = record { first = p; order = 0 }

-- the values that are there
abbrev pub given : {A : Type 0} → List (Option A) → List A
given [] = []
given (None ∷ xs) = given xs
given (Some x ∷ xs) = x ∷ given xs

-- a file's runs with their order
abbrev pub file_runs : FileRecord → List Run
file_runs f = map (λ p. record { first = p; order = f.order }) (runs_of f)

-- the runs that have to be marked: the entry, the record frames, the bound frames, and the files' runs
abbrev pub users : Kept → List Run
users k = map single (k.entry ∷ (record_numbers k.records ++ given (bound_frames k.bounds))) ++ flat_map file_runs (all_files k)

-- a run holds a frame
abbrev pub run_holds : ℕ → Run → Bool
run_holds p r = nat_le r.first p && nat_lt p (r.first + 2 ^ r.order)

-- the users of a frame that have to be marked, and the number of those that must not be: scratch areas and chunk frames
abbrev pub users_at : Kept → ℕ → List Run
users_at k p = filter (run_holds p) (users k)

abbrev pub unmarked_at : Kept → ℕ → ℕ
unmarked_at k p = length (filter (holds p) k.shape.scratch) + length (filter (nat_eq p) (numbers_of k.chain))

-- the marked runs that hold a frame: at each order there is one run that may be
abbrev pub marked_at : Kept → ℕ → List Run
marked_at k p = filter (is_marked (items_of k.chain)) (map (λ o. record { first = p - p % 2 ^ o; order = o }) (range_with_len 0 10))

-- two lists of runs are the same
abbrev pub same_runs : List Run → List Run → Bool
same_runs [] [] = true
same_runs [] (b ∷ bs) = false
same_runs (a ∷ as') [] = false
same_runs (a ∷ as') (b ∷ bs) = a.first == b.first && a.order == b.order && same_runs as' bs

-- The owners' rule for a frame: it has at most one user, and frame 0 has none. The marked runs that hold it are just the one
-- of a user that has to be marked.
abbrev pub is_owned_well : Kept → ℕ → Bool
is_owned_well k p =
    nat_le (length (users_at k p) + unmarked_at k p) (if p == 0 then 0 else 1) && same_runs (marked_at k p) (users_at k p)

-- the least frame among these for which the rule breaks
abbrev pub first_ill : Kept → List ℕ → Option ℕ
first_ill k [] = None
first_ill k (p ∷ ps) = if is_owned_well k p then first_ill k ps else Some p

-- every frame of n keeps the owners' rule
abbrev pub all_owned_well : ℕ → Kept → Bool
all_owned_well n k = list_all (is_owned_well k) (range_with_len 0 n)
