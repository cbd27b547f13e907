-- The rules of records and of the chain, each as a test of the front of a chain: of the sheets before a frame, of the items
-- in it, and of the number of the next frame, which is 0 where the frame is the last.
use Rattle.std.specs.Prelude.{ℕ, ◌+◌, ◌-◌, ◌*◌, ◌/◌, ◌%◌, ◌^◌, Bool, true, false, not, ◌&&◌, ◌||◌, ◌==◌, nat_lt, nat_le, nat_eq, List, [], ◌∷◌, ◌++◌, length, drop, slice_index, codes}
use Rattle.std.specs.List.{list_all, list_any}
use Rattle.ho_base.specs.NameRule.{is_name}
use Rattle.ho_base.specs.BitmapCount.{cover}
use Rattle.ho_base.specs.declared.limits.TheConstants.{PAGE_BYTES, MAX_ORDER, FILE_BYTES, DEVICE_BYTES, OUT_SLOTS, SESSION_FILES, FILES}
use Rattle.ho_base.specs.declared.numbers.Kind.{Kind}
use Rattle.ho_base.specs.declared.numbers.Kind.TheVariants.{Memfd, Dev0, Dev1, Dev2, Dev3}
use Rattle.folio_bitmaps.specs.Chunks.{Element}
use Rattle.ho_events.specs.Lists.{pieces}
use Rattle.folio_bitmaps.specs.Runs.{Run}
use Rattle.folio_bitmaps.specs.Bitmaps.{is_set}
use Rattle.record_frames.specs.Sheets.{Sheet, items_of, SessionSlot, FileSlot}

-- what the versions of the records differ in: the two words of the tree, how many sessions, files of one session and files
-- in all there may be, and whether session frames and file frames may be followed by others
pub record Version : Type 0 where
  pub root : List ℕ
  pub luo : List ℕ
  pub sessions : ℕ
  pub session_files : ℕ
  pub files : ℕ
  pub chained : Bool

-- version 1: one session frame, and one file frame for a session
abbrev pub version_1 : Version
version_1 = record {
  root = codes "kho-v1" ++ 0 ∷ [];
  luo = codes "luo-v1" ++ 0 ∷ [];
  sessions = OUT_SLOTS;
  session_files = SESSION_FILES;
  files = FILES;
  chained = false;
}

-- the versions that are read
abbrev pub versions : List Version
versions = version_1 ∷ []

-- how many slots a session frame and a file frame have, how many numbers a list frame and how many elements a chunk frame
abbrev pub SLOTS : ℕ
SLOTS = 31

abbrev pub LISTED : ℕ
LISTED = 510

abbrev pub ELEMENTS : ℕ
ELEMENTS = 7

abbrev pub is_empty : {A : Type 0} → List A → Bool
is_empty [] = true
is_empty (x ∷ xs) = false

-- each stands before the next
abbrev pub all_rise : {A : Type 0} → (A → A → Bool) → List A → Bool
all_rise before [] = true
all_rise before (x ∷ []) = true
all_rise before (x ∷ y ∷ xs) = before x y && all_rise before (y ∷ xs)

-- bytes stand before others in the order of bytes
abbrev pub bytes_before : List ℕ → List ℕ → Bool
bytes_before [] [] = false
bytes_before [] (b ∷ bs) = true
bytes_before (a ∷ as') [] = false
bytes_before (a ∷ as') (b ∷ bs) = nat_lt a b || (a == b && bytes_before as' bs)

-- a frame of session or file slots: only the last of a chain may have room left, and it is the first where frames aren't chained
abbrev pub is_filled : Version → ℕ → ℕ → Bool
is_filled v count next = nat_le count SLOTS && (next == 0 || (v.chained && count == SLOTS))

-- none exactly where there is no first frame
abbrev pub has_first : ℕ → ℕ → Bool
has_first count first = (count == 0 && first == 0) || (nat_lt 0 count && nat_lt 0 first)

-- a session's slot by itself: its name, how many files it has, and whether it has a first file frame
abbrev pub is_session_slot : Version → SessionSlot → Bool
is_session_slot v s = is_name s.name && nat_le s.files v.session_files && has_first s.files s.first

-- A session frame: names rise over the whole chain, and there aren't too many.
abbrev pub is_session_sheet : Version → List (Sheet SessionSlot) → List SessionSlot → ℕ → Bool
is_session_sheet v earlier slots next =
    is_filled v (length slots) next && list_all (is_session_slot v) slots
    && nat_le (length (items_of earlier) + length slots) v.sessions
    && all_rise (λ a b. bytes_before a.name b.name) (items_of earlier ++ slots)

-- what the kind says of order, size and handle
abbrev pub is_of_kind : FileSlot → Kind → Bool
is_of_kind f Memfd = f.handle == 0
is_of_kind f Dev0 = f.order == 0 && nat_lt 0 f.size && nat_le f.size DEVICE_BYTES
is_of_kind f Dev1 = f.order == 0 && nat_lt 0 f.size && nat_le f.size DEVICE_BYTES
is_of_kind f Dev2 = f.order == 0 && nat_lt 0 f.size && nat_le f.size DEVICE_BYTES
is_of_kind f Dev3 = f.order == 0 && nat_lt 0 f.size && nat_le f.size DEVICE_BYTES

-- a file's slot by itself: its limits, as many runs as hold its size, and a first list frame exactly where it has runs
abbrev pub is_file_slot : FileSlot → Bool
is_file_slot f =
    nat_le f.order MAX_ORDER && nat_le f.size FILE_BYTES && nat_le f.position f.size
    && f.folios == pieces f.size (PAGE_BYTES * 2 ^ f.order) && is_of_kind f f.kind && has_first f.folios f.first

-- A file frame of a session with so many files, after `before` files of other sessions: tokens rise over the whole chain,
-- there aren't too many files in the session and in all, and after the last frame there are as many as the session says.
abbrev pub is_file_sheet : Version → ℕ → ℕ → List (Sheet FileSlot) → List FileSlot → ℕ → Bool
is_file_sheet v before files earlier slots next =
    is_filled v (length slots) next && list_all is_file_slot slots
    && nat_le (length (items_of earlier) + length slots) v.session_files
    && nat_le (before + (length (items_of earlier) + length slots)) v.files
    && all_rise (λ a b. nat_lt a.token b.token) (items_of earlier ++ slots)
    && (nat_lt 0 next || length (items_of earlier) + length slots == files)

-- a run of n frames: it is aligned, doesn't begin at frame 0, and ends within the frames
abbrev pub is_run : ℕ → ℕ → ℕ → Bool
is_run n order first = nat_lt 0 first && first % 2 ^ order == 0 && nat_le (first + 2 ^ order) n

-- A list frame of a file with so many runs: only the last may have room left, and after it there are as many as the file says.
abbrev pub is_list_sheet : ℕ → ℕ → ℕ → List (Sheet ℕ) → List ℕ → ℕ → Bool
is_list_sheet n order folios earlier runs next =
    nat_lt 0 (length runs) && nat_le (length runs) LISTED && (next == 0 || length runs == LISTED)
    && list_all (is_run n order) runs && (nat_lt 0 next || length (items_of earlier) + length runs == folios)

-- no bit from bit k on is set
abbrev pub none_from : List ℕ → ℕ → Bool
none_from bits k = nat_le (length bits) (k / 8) || (nat_lt (slice_index bits (k / 8)) (2 ^ (k % 8)) && list_all (nat_eq 0) (drop (k / 8 + 1) bits))

-- the bit of a run is set in an element
abbrev pub marks : Run → Element → Bool
marks r e =
    e.order == r.order && nat_le e.base r.first && nat_lt r.first (e.base + cover r.order)
    && (r.first - e.base) % 2 ^ r.order == 0 && is_set e.bits ((r.first - e.base) / 2 ^ r.order)

-- a run is marked in a chain: its bit is set in one of the elements
abbrev pub is_marked : List Element → Run → Bool
is_marked elements r = list_any (marks r) elements

-- An element: its bitmap stands for runs of its order below n, and no bit is set whose run ends past the frames.
abbrev pub is_element : ℕ → Element → Bool
is_element n e =
    nat_le e.order MAX_ORDER && nat_lt e.base n && e.base % cover e.order == 0 && none_from e.bits ((n - e.base) / 2 ^ e.order)

-- elements stand in order of (order, base)
abbrev pub element_before : Element → Element → Bool
element_before a b = nat_lt a.order b.order || (a.order == b.order && nat_lt a.base b.base)

-- A chunk frame: 1 to 7 elements, which rise over the whole chain by (order, base).
abbrev pub is_chunk_sheet : ℕ → List (Sheet Element) → List Element → ℕ → Bool
is_chunk_sheet n earlier elements next =
    nat_lt 0 (length elements) && nat_le (length elements) ELEMENTS && list_all (is_element n) elements
    && all_rise element_before (items_of earlier ++ elements)

-- a number has 8 bytes, and 512 bytes are a bitmap
abbrev pub fits : ℕ → Bool
fits n = nat_lt n (2 ^ 64)

abbrev pub is_bitmap : List ℕ → Bool
is_bitmap bits = length bits == 512 && list_all (λ b. nat_lt b 256) bits

-- each number of an item has 8 bytes
abbrev pub session_fits : SessionSlot → Bool
session_fits s = is_name s.name && fits s.files && fits s.first

abbrev pub file_fits : FileSlot → Bool
file_fits f =
    fits f.token && fits f.order && fits f.size && fits f.position && fits f.handle && fits f.first && fits f.folios

abbrev pub element_fits : Element → Bool
element_fits e = fits e.base && fits e.order && is_bitmap e.bits

-- A test of fronts holds at each frame of a chain, with the frames before it.
abbrev pub keeps_from : {E : Type 0} → (List (Sheet E) → List E → ℕ → Bool) → List (Sheet E) → List (Sheet E) → Bool
keeps_from test earlier [] = true
keeps_from test earlier (s ∷ []) = test earlier s.items 0
keeps_from test earlier (s ∷ t ∷ sheets) = test earlier s.items t.at && keeps_from test (earlier ++ s ∷ []) (t ∷ sheets)

abbrev pub keeps : {E : Type 0} → (List (Sheet E) → List E → ℕ → Bool) → List (Sheet E) → Bool
keeps test sheets = keeps_from test [] sheets

-- no number stands twice
abbrev pub all_apart : List ℕ → Bool
all_apart [] = true
all_apart (p ∷ ps) = not (list_any (nat_eq p) ps) && all_apart ps
