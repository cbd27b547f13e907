-- The logs that a pass keeps.
use Rattle.std.specs.Prelude.{◌≡◌, ℕ, ◌-◌, zero, suc, List, [], ◌∷◌, Bool, true, false, slice_index_or}
use Rattle.std.specs.List.{filter}
use Rattle.std.specs.Vec.{vec_len, vec_capacity}
use Rattle.std.specs.declared.vec.Vec.{Vec}
use Rattle.std.specs.declared.alloc.Global.{Global}
use Rattle.ho_events.specs.declared.entry.Entry.{Entry}
use Rattle.ho_events.specs.declared.entry.Place.{Place}
use Rattle.ho_events.specs.declared.entry.Place.TheVariants.{Object, Own}
use Rattle.turns_table.specs.Views.{role, entries_in}
use Rattle.turns_table.specs.declared.rule.Known.{Known}
use Rattle.turns_table.specs.declared.rule.Role.{Role}
use Rattle.turns_table.specs.declared.rule.Role.TheVariants.{Absent, Has}

-- the log of an agent number
abbrev pub items_at : List (Vec Entry Global) → ℕ → List Entry
items_at [] a = []
items_at (l ∷ ls) zero = l.items
items_at (l ∷ ls) (suc a) = items_at ls a

-- how many more entries there is room for
abbrev pub room_at : List (Vec Entry Global) → ℕ → ℕ
room_at [] a = 0
room_at (l ∷ ls) zero = vec_capacity l - vec_len l
room_at (l ∷ ls) (suc a) = room_at ls a

-- whether the pass has the number
abbrev pub has_at : List Bool → ℕ → Bool
has_at bs a = slice_index_or bs a false

-- the place is an object
abbrev pub is_object : Place → Bool
is_object (Object o) = true
is_object Own = false

-- all but the agent's own entries
abbrev pub on_objects : List Entry → List Entry
on_objects es = filter (λ e. is_object e.object) es

-- the same as `IsMine`, as a test
abbrev pub is_mine : Role → Bool
is_mine Absent = false
is_mine _ = true

-- the entries on objects of each log
abbrev pub object_logs : List (Vec Entry Global) → List (List Entry)
object_logs [] = []
object_logs (l ∷ ls) = on_objects l.items ∷ object_logs ls

-- the entries of a log that there should not be
abbrev pub stray : Role → List Entry → List Entry
stray (Has log) es = []
stray _ es = es

-- the logs that a pass keeps are those that it knows, with the agents' own entries between them
abbrev pub IsLogged : {T : Type 0} → Known T → List (Vec Entry Global) → List Bool → Type 0
IsLogged v ls bs = (a : ℕ) → (has_at bs a ≡ is_mine (role v a)) × (on_objects (items_at ls a) ≡ entries_in (role v a)) × (stray (role v a) (items_at ls a) ≡ [])
