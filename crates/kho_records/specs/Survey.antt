-- What the frames of an image say, as the program reads them.
use Rattle.std.specs.Prelude.{◌≡◌, ℕ, Bool, ◌&&◌, nat_le, List, ◌∷◌, ◌++◌, map, Result, Ok, Err, IsTrue}
use Rattle.std.specs.List.{list_all, range_with_len}
use Rattle.ho_base.specs.declared.limits.TheConstants.{MAX_ORDER, FILE_BYTES}
use Rattle.ho_events.specs.Lists.{firsts}
use Rattle.fdt_blob.specs.Trees.{Tree}
use Rattle.fdt_blob.specs.Blob.{Spells}
use Rattle.record_frames.specs.Ram.{Ram, is_frame}
use Rattle.record_frames.specs.Sheets.{FileRecord, SessionRecord, numbers_of, record_numbers}
use Rattle.record_frames.specs.Rules.{version_1}
use Rattle.record_frames.specs.Kept.{Kept, sessions_of, files_of}
use Rattle.record_frames.specs.Owners.{first_ill}
use Rattle.record_frames.specs.Carries.{Keep}
use Rattle.record_frames.specs.Reading.{BreakAt, kept_at, owned_well}
use Rattle.record_frames.specs.Bounds.{bound_view}
use Rattle.record_frames.specs.Sessions.{records_view}
use Rattle.record_frames.specs.declared.carried.Carried.{Carried}
use Rattle.record_frames.specs.declared.place.ImagePlace.{ImagePlace}
use Rattle.kho_records.specs.Chunks.{chunk_views}
use Rattle.kho_records.specs.declared.reading.FramesRead.{FramesRead}
use Rattle.kho_records.specs.declared.surveying.SurveyError.{SurveyError}
use Rattle.kho_records.specs.declared.surveying.SurveyError.TheVariants.{BadImage, Memory}

-- what is kept, by the frames that were read
abbrev pub kept_of : ℕ → FramesRead → Kept
kept_of entry f = record {
  version = version_1;
  shape = f.handover.shape;
  number = f.handover.luo.number;
  entry = entry;
  chain = chunk_views f.chunks.items;
  records = records_view f.records;
  bounds = map bound_view f.bounds;
}

-- a file's order, size and position are within their limits
abbrev pub is_within : FileRecord → Bool
is_within f = nat_le f.order MAX_ORDER && nat_le f.size FILE_BYTES && nat_le f.position FILE_BYTES

abbrev pub all_within : List SessionRecord → Bool
all_within sessions = list_all (λ s. list_all is_within (files_of s)) sessions

-- frames were read up to the owners' rule, which decides whether they keep something
pub record AreRead (ram : Ram) (entry : ℕ) (f : FramesRead) : Type 0 where
  pub tree : Tree
  pub within : IsTrue (is_frame ram.count entry)
  pub spelled : Spells (ram.page entry) tree
  pub kept : kept_at ram entry tree ≡ owned_well (kept_of entry f) (first_ill (kept_of entry f) (range_with_len 0 ram.count))
  pub limits : IsTrue (all_within (sessions_of (kept_of entry f)))

-- frames were read up to the owners' rule, or the first place that breaks
abbrev pub TellsFrames : Ram → ℕ → Result FramesRead ImagePlace → Type 0
TellsFrames ram entry (Ok f) = AreRead ram entry f
TellsFrames ram entry (Err p) = BreakAt ram entry p

-- The frames that hold the records themselves: the entry frame, the session, file and list frames in reading order, and then
-- the chunk frames.
pub record HasWorking (ram : Ram) (entry : ℕ) (c : Carried) : Type 0 where
  pub kept : Kept
  pub keep : Keep ram entry kept
  pub working : firsts c.working ≡ entry ∷ (record_numbers kept.records ++ numbers_of kept.chain)

-- a refusal names the first place whose rules break; want of memory says nothing of the frames
abbrev pub IsRefused : Ram → ℕ → SurveyError → Type 0
IsRefused ram entry (BadImage p) = BreakAt ram entry p
IsRefused ram entry Memory = Unit {0}
