-- What the registry answers.
use Rattle.std.specs.Prelude.{ℕ, ◌+◌, ◌<◌, ◌≤◌, List, [], ◌∷◌, IsTrue}
use Rattle.std.specs.Prelude.{Option, None, Some}
use Rattle.std.specs.Cmp.Lexicographic.{slice_cmp}
use Rattle.std.specs.Ordering.{nat_cmp}
use Rattle.std.specs.FinMap as finmap
use Rattle.std.specs.FinSet as finset
use Rattle.ho_base.specs.declared.limits.TheConstants.{OUT_SLOTS, IN_SLOTS, FILES}
use Rattle.ho_base.specs.declared.numbers.SlotNo.{SlotNo}
use Rattle.ho_events.specs.Lists.{upto}
use Rattle.ho_events.specs.Registry.{RegistryState, cold_registry}
use Rattle.ho_events.specs.declared.reply.Reply.{Reply}
use Rattle.ho_events.specs.declared.reply.Reply.TheVariants.{OkFile, OkSlot, FilesFull, NameTaken, SessionsFull, NoSession, AlreadyOpen}

-- what a new name is answered, by its slot where it is outgoing already, and by the least free slot
abbrev pub create_answer : Option ℕ → Option ℕ → Reply
create_answer (Some taken) free = NameTaken
create_answer None None = SessionsFull
create_answer None (Some slot) = OkSlot (record { 0 = slot })

-- what the question for a name's slot is answered
abbrev pub find_answer : Option ℕ → Reply
find_answer None = NoSession
find_answer (Some slot) = OkSlot (record { 0 = slot })

-- what the wish to open a name is answered, by the slot in which it was opened, and by the one in which it waits
abbrev pub open_answer : Option ℕ → Option ℕ → Reply
open_answer (Some opened) waiting = AlreadyOpen
open_answer None None = NoSession
open_answer None (Some slot) = OkSlot (record { 0 = slot })

-- what the wish for a file number is answered, by the least free one
abbrev pub file_answer : Option ℕ → Reply
file_answer None = FilesFull
file_answer (Some f) = OkFile (record { 0 = f })

-- the ready names after a new name was answered: it is one of them once it has a slot
abbrev pub ready_after : List ℕ → Reply → finset.FinSet (slice_cmp nat_cmp) → finset.FinSet (slice_cmp nat_cmp)
ready_after name (OkSlot slot) ready = finset.insert ready name
ready_after name reply ready = ready

-- a name is outgoing
abbrev pub IsOutgoing : List ℕ → RegistryState → Type 0
IsOutgoing name s = IsTrue (finmap.contains_key s.outgoing name)

-- a name was opened
abbrev pub IsOpened : List ℕ → RegistryState → Type 0
IsOpened name s = IsTrue (finmap.contains_key s.opened name)

-- a file number is in use
abbrev pub IsInUse : ℕ → RegistryState → Type 0
IsInUse f s = IsTrue (finset.contains s.files f)

-- a slot that is answered is an outgoing one, and a file number that is answered is one of a kernel's
abbrev pub IsWithin : Reply → Type 0
IsWithin (OkSlot slot) = slot.0 < OUT_SLOTS
IsWithin (OkFile f) = f.0 < FILES
IsWithin reply = Unit {0}

-- a slot is an incoming one;  a slot that is answered is one
abbrev pub IsInSlot : SlotNo → Type 0
IsInSlot slot = (OUT_SLOTS ≤ slot.0) × (slot.0 < OUT_SLOTS + IN_SLOTS)

abbrev pub IsWithinIn : Reply → Type 0
IsWithinIn (OkSlot slot) = IsInSlot slot
IsWithinIn reply = Unit {0}

-- names with one slot after the other, from a slot on
abbrev pub slotted_from : ℕ → List (List ℕ) → List (List ℕ × ℕ)
slotted_from slot [] = []
slotted_from slot (name ∷ names) = (name, slot) ∷ slotted_from (slot + 1) names

-- these names wait in the incoming slots, one after the other, and as many file numbers are in use, from 0 on
abbrev pub waiting_registry : List (List ℕ) → ℕ → RegistryState
waiting_registry names files =
    record cold_registry { waiting = finmap.from_entries (slotted_from OUT_SLOTS names); files = finset.from_list (upto files) }
