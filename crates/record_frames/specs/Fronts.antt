-- Session and file frames as the program reads them: in version 1 each is the only one of its chain.
use Rattle.std.specs.Prelude.{ℕ, ◌+◌, not, ◌&&◌, ◌==◌, nat_lt, nat_le, nat_eq, Bool, if◌then◌else◌, List, [], ◌∷◌, take, drop, Option, Some, None, Result, Ok, Err}
use Rattle.std.specs.List.{list_any}
use Rattle.ho_base.specs.Bytes.{u64_at}
use Rattle.ho_base.specs.declared.limits.TheConstants.{OUT_SLOTS, SESSION_FILES, FILES}
use Rattle.record_frames.specs.Ram.{Ram, is_frame}
use Rattle.record_frames.specs.Sheets.{Sheet, SessionSlot, FileSlot}
use Rattle.record_frames.specs.Rules.{all_rise, bytes_before}
use Rattle.record_frames.specs.Reading.{are_zero, items_at}
use Rattle.record_frames.specs.Slots.{kept_if, session_kept, file_kept}

-- the head of a frame of slots: no frame follows, and what has no meaning is zero
abbrev pub has_head : List ℕ → Bool
has_head page = u64_at page 0 == 0 && are_zero (take 112 (drop 16 page))

abbrev pub names_rise : List SessionSlot → Bool
names_rise slots = all_rise (λ a b. bytes_before a.name b.name) slots

abbrev pub tokens_rise : List FileSlot → Bool
tokens_rise slots = all_rise (λ a b. nat_lt a.token b.token) slots

-- how many slots the file frame of a session with so many files has, after so many files of other sessions
abbrev pub has_slots : ℕ → ℕ → ℕ → Bool
has_slots count before files = count == files && nat_le files SESSION_FILES && nat_le (before + files) FILES

-- the slots of the session frame
unfoldable pub session_front_at : Ram → ℕ → Option (List SessionSlot)
session_front_at ram at =
    if is_frame ram.count at && has_head (ram.page at) && nat_le (u64_at (ram.page at) 8) OUT_SLOTS then
    kept_if names_rise (items_at 128 session_kept (u64_at (ram.page at) 8) (drop 128 (ram.page at)))
    else None

-- the slots of the file frame of a session with so many files, after record frames that were read and so many files
unfoldable pub file_front_at : Ram → ℕ → ℕ → List ℕ → ℕ → Option (List FileSlot)
file_front_at ram before files seen at =
    if is_frame ram.count at && not (list_any (nat_eq at) seen) && has_head (ram.page at) && has_slots (u64_at (ram.page at) 8) before files then
    kept_if tokens_rise (items_at 128 file_kept files (drop 128 (ram.page at)))
    else None

-- a chain of one frame with these items, or this frame as the first that breaks a rule
abbrev pub one_sheet : {E : Type 0} → ℕ → Option (List E) → Result (List (Sheet E)) ℕ
one_sheet at None = Err at
one_sheet at (Some items) = Ok ((record { at = at; items = items }) ∷ [])
