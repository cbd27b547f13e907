-- The pages of records in their order of use stand in the frames that are used.
use Rattle.std.proofs.Common.{◌≡◌, ℕ, zero, suc, ◌+◌, ◌≤◌, cond, List, [], ◌∷◌, ◌++◌, length, map, take, drop, refl, sym, ap, ◌∙◌, arith}
use Rattle.std.specs.List.{flat_map}
use Rattle.std.proofs.lemmas.List.{map-append, length-map, length-drop, length-take-le, take_all, take-append-drop}
use Rattle.std.proofs.lemmas.List.Sums.{sum_by-cons}
use Rattle.ho_base.specs.declared.numbers.Pfn.{Pfn}
use Rattle.ho_events.specs.Lists.{firsts, pieces}
use Rattle.record_frames.specs.Ram.{Page}
use Rattle.record_frames.specs.Sheets.{Sheet, numbers_of, chain_pages, list_pages, map_items, number, file_slot, file_slot_bytes}
use Rattle.record_frames.specs.Rules.{is_empty}
use Rattle.record_frames.specs.State.{list_frames}
use Rattle.record_frames.specs.Writing.{parts_from, parts, sheets_in, file_record, file_records, file_sheets_in, session_records, file_frames, file_pages, files_in, files_of_sessions, lists_of_files, lists_of_session, pages_in_use}
use Rattle.record_frames.specs.declared.carried.CarriedFile.{CarriedFile}
use Rattle.record_frames.specs.declared.carried.CarriedSession.{CarriedSession}

abbrev pub numbers : List Page → List ℕ
numbers ps = map (λ p. p.at) ps

numbers_two : (ps qs : List Page) → numbers (ps ++ qs) ≡ numbers ps ++ numbers qs
numbers_two ps qs = map-append (λ (p : Page). p.at) ps qs

-- a front in two parts
take_two : (k m : ℕ) (xs : List ℕ) → take (k + m) xs ≡ take k xs ++ take m (drop k xs)
take_two zero m xs = ap (λ (n : ℕ). take n xs) (omega arith)
take_two (suc k) m [] = none (suc k + m) m
  where
    none : (n m : ℕ) → take {A = ℕ} n [] ≡ take {A = ℕ} m []
    none zero zero = refl
    none zero (suc m) = refl
    none (suc n) zero = refl
    none (suc n) (suc m) = refl
take_two (suc k) m (x ∷ xs) = ap (λ (n : ℕ). take n (x ∷ xs)) (next k m) ∙ ap (λ (l : List ℕ). x ∷ l) (take_two k m xs)
  where
    next : (k m : ℕ) → suc k + m ≡ suc (k + m)
    next k m = omega arith

chain_numbers : {E : Type 0} (head : ℕ) (bytes : E → List ℕ) (sheets : List (Sheet E)) → numbers (chain_pages head bytes sheets) ≡ numbers_of sheets
chain_numbers head bytes [] = refl
chain_numbers head bytes (s ∷ sheets) = ap (λ (l : List ℕ). s.at ∷ l) (chain_numbers head bytes sheets)

-- parts in as many frames
part_numbers : {A : Type 0} (size n : ℕ) (ats : List ℕ) (xs : List A) → length ats ≡ n → numbers_of (sheets_in ats (parts_from size n xs)) ≡ ats
part_numbers size zero [] xs e = refl
part_numbers size zero (a ∷ ats) xs e = absurd (omega (arith, e))
part_numbers size (suc n) [] xs e = refl
part_numbers size (suc n) (a ∷ ats) xs e = ap (λ (l : List ℕ). a ∷ l) (part_numbers size n ats (drop size xs) (omega (arith, e)))

list_numbers : (ats : List ℕ) (f : CarriedFile) → list_frames f ≤ length ats → numbers (list_pages (file_record ats f)) ≡ take (list_frames f) ats
list_numbers ats f enough =
    let k = list_frames f in
    let xs = firsts f.runs in
    let count : k ≡ pieces (length xs) 510 = ap (λ (n : ℕ). pieces n 510) (sym (length-map f.runs (λ (p : Pfn). p.0))) in
    chain_numbers 16 number (sheets_in (take k ats) (parts 510 xs))
    ∙ part_numbers 510 (pieces (length xs) 510) (take k ats) xs (length-take-le k ats enough ∙ count)

-- the list frames of files
lists_numbers : (ats : List ℕ) (fs : List CarriedFile) → lists_of_files fs ≤ length ats → numbers (flat_map list_pages (file_records ats fs)) ≡ take (lists_of_files fs) ats
lists_numbers ats [] enough = refl
lists_numbers ats (f ∷ fs) enough =
    let k = list_frames f in
    let sum : lists_of_files (f ∷ fs) ≡ k + lists_of_files fs = sum_by-cons list_frames f fs in
    let rest = flat_map list_pages (file_records (drop k ats) fs) in
    numbers_two (list_pages (file_record ats f)) rest
    ∙ ap (λ (l : List ℕ). l ++ numbers rest) (list_numbers ats f (omega (arith, sum, enough)))
    ∙ ap (λ (l : List ℕ). take k ats ++ l) (lists_numbers (drop k ats) fs (omega (arith, sum, enough, length-drop k ats)))
    ∙ sym (take_two k (lists_of_files fs) ats) ∙ ap (λ (n : ℕ). take n ats) (sym sum)

-- how many file frames a session with these files has
abbrev frames_for : List CarriedFile → ℕ
frames_for fs = cond (is_empty fs) 0 1

frame_numbers : (ats lists : List ℕ) (fs : List CarriedFile) → frames_for fs ≤ length ats
    → numbers (chain_pages 128 file_slot_bytes (map_items file_slot (file_sheets_in ats (file_records lists fs)))) ≡ take (frames_for fs) ats
frame_numbers ats lists [] enough = refl
frame_numbers [] lists (f ∷ fs) enough = absurd (omega (arith, enough))
frame_numbers (a ∷ ats) lists (f ∷ fs) enough = refl

-- the file frames of sessions
files_numbers : (ats lists : List ℕ) (ss : List CarriedSession) → files_of_sessions ss ≤ length ats → numbers (file_pages (session_records ats lists ss)) ≡ take (files_of_sessions ss) ats
files_numbers ats lists [] enough = refl
files_numbers ats lists (s ∷ ss) enough =
    let k = file_frames s in
    let sum : files_of_sessions (s ∷ ss) ≡ k + files_of_sessions ss = sum_by-cons file_frames s ss in
    let mine = chain_pages 128 file_slot_bytes (map_items file_slot (file_sheets_in ats (file_records lists s.files))) in
    let rest = file_pages (session_records (drop k ats) (drop (lists_of_session s) lists) ss) in
    numbers_two mine rest
    ∙ ap (λ (l : List ℕ). l ++ numbers rest) (frame_numbers ats lists s.files (omega (arith, sum, enough)))
    ∙ ap (λ (l : List ℕ). take k ats ++ l) (files_numbers (drop k ats) (drop (lists_of_session s) lists) ss (omega (arith, sum, enough, length-drop k ats)))
    ∙ sym (take_two k (files_of_sessions ss) ats) ∙ ap (λ (n : ℕ). take n ats) (sym sum)

-- each page stands in the frame that is used for it
pub numbers_in_use : (ats : List ℕ) (ss : List CarriedSession) → length ats ≡ 1 + files_of_sessions ss + lists_of_files (files_in ss) → numbers (pages_in_use ats ss) ≡ ats
unfolding pages_in_use
numbers_in_use [] ss e = absurd (omega (arith, e))
numbers_in_use (a ∷ ats) ss e =
    let k = files_of_sessions ss in
    let m = lists_of_files (files_in ss) in
    let files = file_pages (session_records (take k ats) (drop k ats) ss) in
    let lists = flat_map list_pages (file_records (drop k ats) (files_in ss)) in
    let short : length (take k ats) ≡ k = length-take-le k ats (omega (arith, e)) in
    let left : length (drop k ats) ≡ m = length-drop k ats ∙ omega (arith, e) in
    let front : numbers files ≡ take k ats = files_numbers (take k ats) (drop k ats) ss (omega (arith, short)) ∙ take_all k (take k ats) (omega (arith, short)) in
    let back : numbers lists ≡ drop k ats = lists_numbers (drop k ats) (files_in ss) (omega (arith, left)) ∙ take_all m (drop k ats) (omega (arith, left)) in
    ap (λ (l : List ℕ). a ∷ l)
    (numbers_two files lists ∙ (λ j. front j ++ back j) ∙ take-append-drop k ats)
