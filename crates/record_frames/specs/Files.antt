-- Files as the program reads them.
use Rattle.std.specs.Prelude.{◌≡◌, ℕ, List, map, Result, Ok, Err}
use Rattle.record_frames.specs.Ram.{Ram}
use Rattle.record_frames.specs.Sheets.{FileRecord}
use Rattle.record_frames.specs.Reading.{file_at, each_item}
use Rattle.record_frames.specs.Slots.{file_view}
use Rattle.record_frames.specs.Lists.{sheet_views}
use Rattle.record_frames.specs.declared.slot_reading.ReadFile.{ReadFile}
use Rattle.record_frames.specs.declared.files.FileRead.{FileRead}

abbrev pub file_record : FileRead → FileRecord
file_record f = record {
  token = f.slot.token;
  kind = f.slot.kind;
  order = f.slot.order;
  size = f.slot.size;
  position = f.slot.position;
  handle = f.slot.handle;
  lists = sheet_views f.lists.items;
}

-- a file was read after some record frames, or the first number that breaks a rule
abbrev pub TellsFile : Ram → List ℕ → List ℕ → ReadFile → Result FileRead ℕ → Type 0
TellsFile ram old new slot (Ok f) = file_at ram old (file_view slot) ≡ Ok (file_record f, new)
TellsFile ram old new slot (Err p) = file_at ram old (file_view slot) ≡ Err p

-- several files were read in turn, or the first number that breaks a rule
abbrev pub ToldFiles : {X : Type 0} → (X → List FileRead) → Ram → List ℕ → List ℕ → List ReadFile → Result X ℕ → Type 0
ToldFiles files ram old new slots (Ok x) = each_item (file_at ram) old (map file_view slots) ≡ Ok (map file_record (files x), new)
ToldFiles files ram old new slots (Err p) = each_item (file_at ram) old (map file_view slots) ≡ Err p
