-- What the program reads of slots: a slot that keeps the rules which it keeps by itself.
use Rattle.std.specs.Prelude.{◌≡◌, ℕ, ◌&&◌, Bool, if◌then◌else◌, List, length, drop, Option, Some, None, Result, Ok, Err}
use Rattle.ho_base.specs.NameRule.{is_name}
use Rattle.record_frames.specs.Sheets.{SessionSlot, FileSlot}
use Rattle.record_frames.specs.Rules.{version_1, is_session_slot, is_file_slot}
use Rattle.record_frames.specs.Reading.{also, text_of, are_zero, session_slot_at, file_slot_at}
use Rattle.record_frames.specs.declared.slot_reading.ReadSession.{ReadSession}
use Rattle.record_frames.specs.declared.slot_reading.ReadFile.{ReadFile}

-- a value where a test holds of it
abbrev pub kept_if : {A : Type 0} → (A → Bool) → Option A → Option A
kept_if test o = also o (λ x. if test x then Some x else None)

-- what a function returned, seen by view
abbrev pub Gives : {X Y : Type 0} → (X → Y) → Option X → Option Y → Type 0
Gives view None read = read ≡ None
Gives view (Some x) read = read ≡ Some (view x)

-- the same of a result
abbrev pub Tells : {X Y E : Type 0} → (X → Y) → Result X E → Result Y E → Type 0
Tells view (Ok x) read = read ≡ Ok (view x)
Tells view (Err e) read = read ≡ Err e

-- the name in these bytes, and zeros behind it
unfoldable pub name_in : List ℕ → Option (List ℕ)
name_in bytes =
    if are_zero (drop (length (text_of bytes)) bytes) && is_name (text_of bytes) then Some (text_of bytes) else None

abbrev pub session_view : ReadSession → SessionSlot
session_view s = record { name = s.name; files = s.files; first = s.first }

abbrev pub file_view : ReadFile → FileSlot
file_view f = record {
  token = f.token;
  kind = f.kind;
  order = f.order;
  size = f.size;
  position = f.position;
  handle = f.handle;
  first = f.first;
  folios = f.folios;
}

-- a slot of a session frame that keeps its rules
unfoldable pub session_kept : List ℕ → Option SessionSlot
session_kept bytes = kept_if (is_session_slot version_1) (session_slot_at bytes)

-- a slot of a file frame that keeps its rules
unfoldable pub file_kept : List ℕ → Option FileSlot
file_kept bytes = kept_if is_file_slot (file_slot_at bytes)
