-- The file frames of sessions that are written.
use Rattle.std.proofs.Common.{◌≡◌, ℕ, zero, suc, ◌+◌, ◌*◌, ◌≤◌, ◌<◌, List, [], ◌∷◌, ◌++◌, length, map, take, drop, replicate, get_or, refl, sym, ap, ◌∙◌, arith}
use Rattle.std.proofs.lemmas.List.{append_assoc, length-append, length-map, length-drop, length-take-le, take_all, take_more, take-take, drop-take, take-append-drop, drop-drop, map-append, flat_map_more}
use Rattle.std.proofs.lemmas.List.Sums.{sum_by-cons, sum_by-append}
use Rattle.std.specs.List.{flat_map}
use Rattle.ho_base.specs.declared.numbers.Pfn.{Pfn}
use Rattle.ho_events.specs.Lists.{firsts, pieces}
use Rattle.phys_frames.specs.Memory.{FolioValue, with_bytes, written}
use Rattle.record_frames.specs.Sheets.{number, sheet_bytes, items_of, file_slot, file_slot_bytes, FileRecord, FileSlot}
use Rattle.record_frames.specs.State.{list_frames}
use Rattle.record_frames.specs.Writing.{holding, parts_from, parts, sheets_in, file_slot_of, file_record, file_records, lists_of_files}
use Rattle.record_frames.specs.declared.carried.CarriedFile.{CarriedFile}
use Rattle.record_frames.proofs.WrittenBytes.{holds_more, holds_page, framed_zeros}
use Rattle.record_frames.proofs.WrittenSheets.{next_is}

-- the items of all parts
take_two : {A : Type 0} (a b : ℕ) (xs : List A) → take a xs ++ take b (drop a xs) ≡ take (a + b) xs
take_two a b xs = (λ j. sym (take-take a (a + b) xs (omega arith)) j ++ sym (drop-take a b xs) j) ∙ take-append-drop a (take (a + b) xs)

items_first : {A : Type 0} (size n : ℕ) (ats : List ℕ) (xs : List A) → length ats ≡ n → items_of (sheets_in ats (parts_from size n xs)) ≡ take (size * n) xs
items_first size zero [] xs e = let none : 0 ≡ size * 0 = omega arith in ap (λ (k : ℕ). take k xs) none
items_first size zero (a ∷ ats) xs e = absurd (omega (arith, e))
items_first size (suc n) [] xs e = absurd (omega (arith, e))
items_first size (suc n) (a ∷ ats) xs e =
    ap (λ l. take size xs ++ l) (items_first size n ats (drop size xs) (omega (arith, e)))
    ∙ take_two size (size * n) xs ∙ ap (λ (k : ℕ). take k xs) (omega arith)

pub items_whole : {A : Type 0} (ats : List ℕ) (xs : List A) → length ats ≡ pieces (length xs) 510 → items_of (sheets_in ats (parts 510 xs)) ≡ xs
items_whole ats xs e = items_first 510 (pieces (length xs) 510) ats xs e ∙ take_all (510 * pieces (length xs) 510) xs (omega arith)

-- the records of one more file
pub records_more : (ats : List ℕ) (xs : List CarriedFile) (f : CarriedFile) → file_records ats (xs ++ f ∷ []) ≡ file_records ats xs ++ file_record (drop (lists_of_files xs) ats) f ∷ []
records_more ats [] f = refl
records_more ats (x ∷ xs) f =
    ap (λ (l : List FileRecord). file_record ats x ∷ l)
    (records_more (drop (list_frames x) ats) xs f
    ∙ ap (λ (l : List ℕ). file_records (drop (list_frames x) ats) xs ++ file_record l f ∷ [])
    (drop-drop (lists_of_files xs) (list_frames x) ats ∙ ap (λ (k : ℕ). drop k ats) (sym (sum_by-cons list_frames x xs))))

pub records_long : (ats : List ℕ) (xs : List CarriedFile) → length (file_records ats xs) ≡ length xs
records_long ats [] = refl
records_long ats (x ∷ xs) = ap suc (records_long (drop (list_frames x) ats) xs)

-- the slot of a record is that of its file
pub slot_is : (ats : List ℕ) (f : CarriedFile) → list_frames f ≤ length ats → file_slot (file_record ats f) ≡ file_slot_of f (get_or (take (list_frames f) ats) 0 0)
slot_is ats f enough =
    let same : length (firsts f.runs) ≡ length f.runs = length-map f.runs (λ (p : Pfn). p.0) in
    let long : length (take (list_frames f) ats) ≡ pieces (length (firsts f.runs)) 510 =
    length-take-le (list_frames f) ats enough ∙ ap (λ (k : ℕ). pieces k 510) (sym same) in
    let first = next_is 16 510 number (pieces (length (firsts f.runs)) 510) (take (list_frames f) ats) (firsts f.runs) long in
    let whole = ap length (items_whole (take (list_frames f) ats) (firsts f.runs) long) ∙ same in
    λ i. record { token = f.token.0; kind = f.kind; order = f.order.0; size = f.size; position = f.position; handle = f.handle; first = first i; folios = whole i }

-- a file frame with its first slots
abbrev pub slots_of : List ℕ → List CarriedFile → List ℕ
slots_of ats files = flat_map file_slot_bytes (map file_slot (file_records ats files))

abbrev pub file_front : ℕ → List ℕ → List CarriedFile → List ℕ
file_front n ats files = ((number 0 ++ number n) ++ replicate 112 0) ++ slots_of ats files

slots_long : (ss : List FileSlot) → length (flat_map file_slot_bytes ss) ≡ 128 * length ss
slots_long [] = refl
slots_long (s ∷ ss) =
    let e = slots_long ss in
    let one : length (file_slot_bytes s) ≡ 128 = refl in
    omega (arith, length-append (file_slot_bytes s) (flat_map file_slot_bytes ss), one, e)

front_long : (n : ℕ) (ats : List ℕ) (xs : List CarriedFile) → length (file_front n ats xs) ≡ 128 + 128 * length xs
front_long n ats xs =
    let head : length ((number 0 ++ number n) ++ replicate {A = ℕ} 112 0) ≡ 128 = refl in
    omega (arith, length-append ((number 0 ++ number n) ++ replicate 112 0) (slots_of ats xs), head, slots_long (map file_slot (file_records ats xs)), length-map (file_records ats xs) file_slot, records_long ats xs)

pub file_begins : (f g : FolioValue) (n : ℕ) (ats : List ℕ) → g ≡ holding f (number 0 ++ number n) → g ≡ holding f (file_front n ats [])
file_begins f g n ats e =
    let head : length (number 0 ++ number n) ≡ 16 = refl in
    e ∙ ap (with_bytes f) (sym (framed_zeros (number 0 ++ number n) 112 (omega (arith, head))))

pub file_size : (f g : FolioValue) (n : ℕ) (ats : List ℕ) (xs : List CarriedFile) → length xs ≤ 31 → g ≡ holding f (file_front n ats xs) → length g.bytes ≡ 4096
file_size f g n ats xs few e = holds_page f g (file_front n ats xs) (omega (arith, front_long n ats xs, few)) e

pub one_file_more : (files : List CarriedFile) (i : ℕ) (x : CarriedFile) → i < length files → x ≡ get_or files i x → take (i + 1) files ≡ take i files ++ x ∷ []
one_file_more files i x lt e = take_more files i x lt ∙ ap (λ (y : CarriedFile). take i files ++ y ∷ []) (sym e)

pub lists_more : (files : List CarriedFile) (i : ℕ) (x : CarriedFile) → i < length files → x ≡ get_or files i x → lists_of_files (take (i + 1) files) ≡ lists_of_files (take i files) + list_frames x
lists_more files i x lt e =
    let a = ap lists_of_files (one_file_more files i x lt e) in
    let b = sum_by-append list_frames (take i files) (x ∷ []) in
    omega (arith, a, b)

pub lists_within : (files : List CarriedFile) (i : ℕ) → lists_of_files (take i files) ≤ lists_of_files files
lists_within files i = omega (arith, sum_by-append list_frames (take i files) (drop i files), ap lists_of_files (take-append-drop i files))

pub file_more : (f g h : FolioValue) (n : ℕ) (ats : List ℕ) (files : List CarriedFile) (i first at : ℕ) (x : CarriedFile) → i < length files → x ≡ get_or files i x → length files ≤ 31 → lists_of_files files ≤ length ats
    → at ≡ lists_of_files (take i files) → first ≡ get_or (take (list_frames x) (drop at ats)) 0 0
    → g ≡ holding f (file_front n ats (take i files)) → h ≡ with_bytes g (written g.bytes (128 + 128 * i) (file_slot_bytes (file_slot_of x first)))
    → h ≡ holding f (file_front n ats (take (i + 1) files))
file_more f g h n ats files i first at x lt e few enough at_is first_is before put =
    let so_far : length (take i files) ≡ i = length-take-le i files (omega (arith, lt)) in
    let long = front_long n ats (take i files) in
    let one : length (file_slot_bytes (file_slot_of x first)) ≡ 128 = refl in
    let room : list_frames x ≤ length (drop (lists_of_files (take i files)) ats) =
    omega (arith, length-drop (lists_of_files (take i files)) ats, lists_more files i x lt e, lists_within files (i + 1), enough) in
    let slot : file_slot_of x first ≡ file_slot (file_record (drop (lists_of_files (take i files)) ats) x) =
    ap (file_slot_of x) (first_is ∙ ap (λ (k : ℕ). get_or (take (list_frames x) (drop k ats)) 0 0) at_is) ∙ sym (slot_is (drop (lists_of_files (take i files)) ats) x room) in
    let slots : slots_of ats (take i files) ++ file_slot_bytes (file_slot_of x first) ≡ slots_of ats (take (i + 1) files) =
    ap (λ (s : FileSlot). slots_of ats (take i files) ++ file_slot_bytes s) slot
    ∙ flat_map_more file_slot_bytes [] (map file_slot (file_records ats (take i files))) (file_slot (file_record (drop (lists_of_files (take i files)) ats) x))
    ∙ ap (flat_map file_slot_bytes) (sym (map-append file_slot (file_records ats (take i files)) (file_record (drop (lists_of_files (take i files)) ats) x ∷ [])))
    ∙ ap (λ (l : List FileRecord). flat_map file_slot_bytes (map file_slot l)) (sym (records_more ats (take i files) x))
    ∙ ap (slots_of ats) (sym (one_file_more files i x lt e)) in
    holds_more f g h (file_front n ats (take i files)) (file_slot_bytes (file_slot_of x first)) (file_front n ats (take (i + 1) files)) (128 + 128 * i)
    (omega (arith, long, so_far)) (omega (arith, one, lt, few)) before put
    (append_assoc ((number 0 ++ number n) ++ replicate 112 0) (slots_of ats (take i files)) (file_slot_bytes (file_slot_of x first))
    ∙ ap (λ (l : List ℕ). ((number 0 ++ number n) ++ replicate 112 0) ++ l) slots)

pub file_done : (f g : FolioValue) (n : ℕ) (ats : List ℕ) (files : List CarriedFile) (i : ℕ) → n ≡ length files → length files ≤ i → g ≡ holding f (file_front n ats (take i files))
    → g ≡ holding f (sheet_bytes 128 file_slot_bytes 0 (map file_slot (file_records ats files)))
file_done f g n ats files i len all e =
    let count : n ≡ length (map file_slot (file_records ats files)) = len ∙ sym (length-map (file_records ats files) file_slot ∙ records_long ats files) in
    e ∙ (λ j. holding f (((number 0 ++ number (count j)) ++ replicate 112 0) ++ slots_of ats (take_all i files all j)))
