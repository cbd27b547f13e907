-- The image of a machine's frames: which bytes are one, and what is read from them.
use Rattle.std.specs.Prelude.{◌≡◌, ℕ, ◌+◌, ◌*◌, ◌^◌, ◌<◌, ◌≤◌, Bool, ◌&&◌, ◌==◌, nat_lt, nat_le, if◌then◌else◌, List, [], ◌∷◌, ◌++◌, length, take, drop, map, get_or, codes, Option, Some, None}
use Rattle.std.specs.Int.{w64, to_le_bytes}
use Rattle.std.specs.List.{All, flat_map}
use Rattle.std.specs.Cmp.Lexicographic.{pointwise}
use Rattle.ho_base.specs.Bytes.{u64_at}
use Rattle.ho_base.specs.declared.limits.TheConstants.{PAGE_BYTES, MIN_FRAMES, MAX_FRAMES}
use Rattle.phys_frames.specs.Pages.{chunks}
use Rattle.image_file.specs.declared.reader.ImageError.{ImageError}
use Rattle.image_file.specs.declared.reader.ImageError.TheVariants.{BadHeader, Short, Extra, Memory}

-- frames in order: a frame's bytes, or none where it is out
abbrev pub Pages : Type 0
Pages = List (Option (List ℕ))

-- the 8 bytes that each image begins with: a word and a line feed
unfoldable pub image_word : List ℕ
image_word = codes "KHOIMG1" ++ 10 ∷ []

-- the 32 bytes before the frames: the word, how many frames there are, the entry frame's number, and 0; each number is 8
-- bytes, the lowest first
unfoldable pub header : ℕ → ℕ → List ℕ
header count entry = image_word ++ to_le_bytes w64 count ++ to_le_bytes w64 entry ++ to_le_bytes w64 0

-- the bytes that a frame gives to an image: its own; one that is out gives none
abbrev pub page_bytes : Option (List ℕ) → List ℕ
page_bytes None = []
page_bytes (Some bytes) = bytes

-- the image of frames and an entry number: the header, and the frames' bytes in order
unfoldable pub image : Pages → ℕ → List ℕ
image pages entry = header (length pages) entry ++ flat_map page_bytes pages

-- the first 8 bytes are the word
unfoldable pub has_word : List ℕ → Bool
has_word bytes = pointwise ◌==◌ (take 8 bytes) image_word

-- how many frames a header says
unfoldable pub count_of : List ℕ → ℕ
count_of bytes = u64_at bytes 8

-- the entry number of a header
unfoldable pub entry_of : List ℕ → ℕ
entry_of bytes = u64_at bytes 16

-- the last number of a header
unfoldable pub last_of : List ℕ → ℕ
last_of bytes = u64_at bytes 24

-- there are 32 bytes, the first 8 are the word, the number of frames is one that a machine has, and the last number is 0
unfoldable pub has_header : List ℕ → Bool
has_header bytes =
    nat_le 32 (length bytes) && has_word bytes && nat_le MIN_FRAMES (count_of bytes) && nat_le (count_of bytes) MAX_FRAMES && last_of bytes == 0

-- how many bytes an image has whose header says so many frames
abbrev pub size_of : ℕ → ℕ
size_of count = 32 + count * PAGE_BYTES

-- there are as many bytes as the header says, and a machine can have so many frames
pub record IsSized (bytes : List ℕ) : Type 0 where
  pub least : MIN_FRAMES ≤ count_of bytes
  pub most : count_of bytes ≤ MAX_FRAMES
  pub exact : length bytes ≡ size_of (count_of bytes)

-- why bytes are no image: the first of the three faults that applies, none for an image
unfoldable pub fault_of : List ℕ → Option ImageError
fault_of bytes =
    if has_header bytes then
    if nat_lt (length bytes) (size_of (count_of bytes)) then Some Short
    else if nat_lt (size_of (count_of bytes)) (length bytes) then Some Extra
    else None
    else Some BadHeader

-- the fault that an error tells: none where the bytes are an image and only memory was wanting
abbrev pub fault_told : ImageError → Option ImageError
fault_told BadHeader = Some BadHeader
fault_told Short = Some Short
fault_told Extra = Some Extra
fault_told Memory = None

-- the frames of an image, all home: behind the header, so many times 4096 bytes
unfoldable pub frames_of : List ℕ → Pages
frames_of bytes = map Some (chunks PAGE_BYTES (count_of bytes) (drop 32 bytes))

-- a frame that is home, with a page of bytes
abbrev pub IsPage : ℕ → Option (List ℕ) → Type 0
IsPage size None = ⊥
IsPage size (Some bytes) = length bytes ≡ size

-- The image of a machine's frames is read back: it has no fault, and the frames and the entry number are those.
abbrev pub ImageIsRead : Type 0
ImageIsRead =
    (pages : Pages) (entry : ℕ) → MIN_FRAMES ≤ length pages → length pages ≤ MAX_FRAMES → All (IsPage PAGE_BYTES) pages → entry < 2 ^ 64
    → (fault_of (image pages entry) ≡ None) × (frames_of (image pages entry) ≡ pages) × (entry_of (image pages entry) ≡ entry)

-- Bytes that have no fault are the image of what is read from them.
abbrev pub ReadIsImage : Type 0
ReadIsImage = (bytes : List ℕ) → ((i : ℕ) → get_or bytes i 0 < 256) → fault_of bytes ≡ None → bytes ≡ image (frames_of bytes) (entry_of bytes)
