-- How the parts of the registry show its state.
use Rattle.std.specs.Prelude.{◌≡◌, ℕ, Bool, false, List, [], ◌∷◌, length, slice_index_or, IfSome}
use Rattle.std.specs.Prelude.{Option, Some}
use Rattle.std.specs.List.{IsDistinct}
use Rattle.std.specs.Map.{keys_of}
use Rattle.std.specs.Option.{option_map_or}
use Rattle.std.specs.Ordering.{nat_cmp}
use Rattle.std.specs.Cmp.Lexicographic.{slice_cmp}
use Rattle.std.specs.FinMap as finmap
use Rattle.std.specs.FinSet as finset
use Rattle.ho_base.specs.declared.limits.TheConstants.{OUT_SLOTS, FILES}
use Rattle.ho_base.specs.declared.numbers.SlotNo.{SlotNo}
use Rattle.ho_events.specs.Lists.{same_bytes, upto}
use Rattle.ho_events.specs.Registry.{RegistryState, is_used, Slots as SlotMap}
use Rattle.ho_events.specs.History.{registry_from}
use Rattle.ho_events.specs.declared.entry.Entry.{Entry}
use Rattle.registry_core.specs.NameSlots.{slots_at}
use Rattle.registry_core.specs.Registries.{IsInSlot}
use Rattle.registry_core.specs.declared.parts.Parts.{Parts}
use Rattle.registry_core.specs.declared.parts.Slots.{Slots}

-- what the parts hold: the ready names with their slots, and for each outgoing slot whether it has a name, for each
-- file number whether it is in use
pub record Held : Type 0 where
  pub names : List (List ℕ × Slots)
  pub taken : List Bool
  pub files : List Bool

abbrev pub held_by : Parts → Held
held_by p = record {
  names = p.names.entries;
  taken = p.taken;
  files = p.files;
}

-- a name with its slot, where it has one, before others
abbrev pub with_slot : List ℕ → Option SlotNo → List (List ℕ × ℕ) → List (List ℕ × ℕ)
with_slot name slot others = option_map_or (λ slot. (name, slot.0) ∷ others) slot others

-- the names that have a slot of one kind, with its number
abbrev pub numbered : (Slots → Option SlotNo) → List (List ℕ × Slots) → List (List ℕ × ℕ)
numbered kind [] = []
numbered kind (e ∷ names) = with_slot e.0 (kind e.1) (numbered kind names)

-- the map from names to their slots of one kind;  the set of numbers that flags show;  the set of names
unfoldable pub slots_of : (Slots → Option SlotNo) → List (List ℕ × Slots) → SlotMap
slots_of kind names = finmap.from_entries (numbered kind names)

unfoldable pub numbers_of : List Bool → finset.FinSet nat_cmp
numbers_of used = finset.retain (finset.from_list (upto FILES)) (λ f. slice_index_or used f false)

unfoldable pub names_of : List (List ℕ) → finset.FinSet (slice_cmp nat_cmp)
names_of names = finset.from_list names

-- the outgoing slot, the slot of a waiting and of an opened name
abbrev pub outgoing_slot : Slots → Option SlotNo
outgoing_slot slots = slots.outgoing

abbrev pub waiting_slot : Slots → Option SlotNo
waiting_slot slots = slots.waiting

abbrev pub opened_slot : Slots → Option SlotNo
opened_slot slots = slots.opened

-- the state that the parts show
abbrev pub shown : Held → RegistryState
shown p = record {
  outgoing = slots_of outgoing_slot p.names;
  waiting = slots_of waiting_slot p.names;
  opened = slots_of opened_slot p.names;
  files = numbers_of p.files;
}

-- no two names have one slot
abbrev pub AreApart : SlotMap → Type 0
AreApart slots = (a b : List ℕ) (k : ℕ) → finmap.get slots a ≡ Some k → finmap.get slots b ≡ Some k → a ≡ b

-- each name waits in an incoming slot, if in any, and was opened in one, if in any
abbrev pub AreIncoming : List (List ℕ × Slots) → Type 0
AreIncoming names = (q : List ℕ) → IfSome (slots_at names q).waiting IsInSlot × IfSome (slots_at names q).opened IsInSlot

-- the history is a run from the start to the state that the parts show
pub record KeepsRegistry (start : RegistryState) (history : List Entry) (p : Held) : Type 0 where
  pub replayed : registry_from start history ≡ Some (shown p)
  pub unique : IsDistinct same_bytes (keys_of p.names)
  pub slot_count : length p.taken ≡ OUT_SLOTS
  pub file_count : length p.files ≡ FILES
  pub told : (k : ℕ) → is_used (slots_of outgoing_slot p.names) k ≡ slice_index_or p.taken k false
  pub apart : AreApart (slots_of outgoing_slot p.names)
  pub incoming : AreIncoming p.names
