-- How the outgoing names are listed.
use Rattle.std.specs.Prelude.{ℕ, suc, if◌then◌else◌, List, [], ◌∷◌, Option, None, Some}
use Rattle.std.specs.Ordering.{nat_cmp, is_gt}
use Rattle.std.specs.Cmp.Lexicographic.{slice_cmp}
use Rattle.std.specs.FinMap as finmap
use Rattle.ho_base.specs.declared.numbers.SlotNo.{SlotNo}

-- a name with the number of its slot
abbrev pub with_number : List ℕ × SlotNo → List ℕ × ℕ
with_number e = (e.0, e.1.0)

-- how many names at the front are smaller
unfoldable pub smaller_names : List ℕ → List (List ℕ × SlotNo) → ℕ
smaller_names name [] = 0
smaller_names name (e ∷ es) = if is_gt (slice_cmp nat_cmp name e.0) then suc (smaller_names name es) else 0

-- names with their slots, in rising names, and one more in its place, where it has a slot
abbrev pub with_name : List ℕ → Option SlotNo → List (List ℕ × ℕ) → List (List ℕ × ℕ)
with_name name None es = es
with_name name (Some slot) es = finmap.put (slice_cmp nat_cmp) name slot.0 es
