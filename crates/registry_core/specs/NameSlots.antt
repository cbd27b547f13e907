-- The slots of names.
use Rattle.std.specs.Prelude.{ℕ, ◌+◌, List, [], ◌∷◌}
use Rattle.std.specs.Prelude.{Option, None, Some}
use Rattle.std.specs.Map.{lookup}
use Rattle.std.specs.Option.{unwrap_or}
use Rattle.ho_base.specs.declared.numbers.SlotNo.{SlotNo}
use Rattle.ho_events.specs.Lists.{same_bytes}
use Rattle.registry_core.specs.declared.parts.Slots.{Slots}

-- a name without a slot
abbrev pub no_slots : Slots
no_slots = record { outgoing = None; waiting = None; opened = None }

-- the slots of a name among ready names: none where it isn't ready
abbrev pub slots_at : List (List ℕ × Slots) → List ℕ → Slots
slots_at names name = unwrap_or (lookup (same_bytes name) names) no_slots

-- slots with another outgoing one
abbrev pub with_outgoing : Option SlotNo → Slots → Slots
with_outgoing slot slots = record slots { outgoing = slot }

-- slots of a name that is opened in this one, and waits no longer;  of a name that is opened no longer
abbrev pub opened_in : SlotNo → Slots → Slots
opened_in slot slots = record slots { waiting = None; opened = Some slot }

abbrev pub without_opened : Slots → Slots
without_opened slots = record slots { opened = None }

-- a name that waits in a slot
abbrev pub waits_in : ℕ → Slots
waits_in slot = record { outgoing = None; waiting = Some (record { 0 = slot }); opened = None }

-- names that wait in one slot after the other, from a slot on
abbrev pub waiting_from : ℕ → List (List ℕ) → List (List ℕ × Slots)
waiting_from slot [] = []
waiting_from slot (name ∷ names) = (name, waits_in slot) ∷ waiting_from (slot + 1) names
