-- The list frames of files that are written.
use Rattle.std.proofs.Common.{◌≡◌, ℕ, ◌+◌, ◌-◌, ◌≤◌, ◌<◌, List, [], ◌∷◌, length, take, drop, get_or, refl, sym, ap, ◌∙◌, arith}
use Rattle.std.proofs.lemmas.List.{length-append, length-map, length-drop, length-take-le, take-map, drop-map, flat_map_more}
use Rattle.std.proofs.lemmas.List.Sums.{sum_by-cons}
use Rattle.std.specs.List.{flat_map}
use borrow.Rule.Slice.PartMut.{put_mid}
use Rattle.ho_base.specs.declared.numbers.Pfn.{Pfn}
use Rattle.ho_events.specs.Lists.{firsts, pieces}
use Rattle.phys_frames.specs.Memory.{FolioValue}
use Rattle.record_frames.specs.Sheets.{number, chain_pages, list_pages}
use Rattle.record_frames.specs.State.{list_frames}
use Rattle.record_frames.specs.Writing.{parts, sheets_in, with_pages, frames_of, file_record, file_records, lists_of_files}
use Rattle.record_frames.specs.declared.carried.CarriedFile.{CarriedFile}
use Rattle.record_frames.proofs.WrittenPages.{frames_with_pages, put_more}
use Rattle.record_frames.proofs.WrittenSheets.{chain_long}
use Rattle.record_frames.proofs.WrittenFiles.{records_more, one_file_more, lists_more, lists_within}

-- how many pages the list frames are
pub pages_of_file : (ats : List ℕ) (f : CarriedFile) → list_frames f ≤ length ats → length (list_pages (file_record ats f)) ≡ list_frames f
pages_of_file ats f enough =
    let same : length (firsts f.runs) ≡ length f.runs = length-map f.runs (λ (p : Pfn). p.0) in
    let count : list_frames f ≡ pieces (length (firsts f.runs)) 510 = ap (λ (k : ℕ). pieces k 510) (sym same) in
    chain_long 16 510 number (pieces (length (firsts f.runs)) 510) (take (list_frames f) ats) (firsts f.runs) (length-take-le (list_frames f) ats enough ∙ count) ∙ sym count

pub pages_of_files : (ats : List ℕ) (xs : List CarriedFile) → lists_of_files xs ≤ length ats → length (flat_map list_pages (file_records ats xs)) ≡ lists_of_files xs
pages_of_files ats [] enough = refl
pages_of_files ats (x ∷ xs) enough =
    let sum : lists_of_files (x ∷ xs) ≡ list_frames x + lists_of_files xs = sum_by-cons list_frames x xs in
    let one = pages_of_file ats x (omega (arith, sum, enough)) in
    let rest = pages_of_files (drop (list_frames x) ats) xs (omega (arith, sum, enough, length-drop (list_frames x) ats)) in
    length-append (list_pages (file_record ats x)) (flat_map list_pages (file_records (drop (list_frames x) ats) xs)) ∙ omega (arith, one, rest, sum)

-- the list frames of one more file
pub files_step : (fs gs ys : List FolioValue) (files : List CarriedFile) (i list count : ℕ) (x : CarriedFile) → i < length files → x ≡ get_or files i x → lists_of_files files ≤ length fs
    → gs ≡ with_pages fs (flat_map list_pages (file_records (frames_of fs) (take i files))) → list ≡ lists_of_files (take i files) → count ≡ list_frames x
    → ys ≡ with_pages (take (list + count - list) (drop list gs))
    (chain_pages 16 number (sheets_in (frames_of (take (list + count - list) (drop list gs))) (parts 510 (firsts x.runs))))
    → put_mid list (list + count - list) gs ys ≡ with_pages fs (flat_map list_pages (file_records (frames_of fs) (take (i + 1) files)))
files_step fs gs ys files i list count x lt is enough before list_is count_is done =
    let ats = frames_of fs in
    let ps = flat_map list_pages (file_records ats (take i files)) in
    let many : length ats ≡ length fs = length-map fs (λ (f : FolioValue). f.first.0) in
    let so_far = pages_of_files ats (take i files) (omega (arith, many, enough, lists_within files i)) in
    let wide : list + count - list ≡ list_frames x = omega (arith, count_is) in
    let within : list + list_frames x ≤ length fs = omega (arith, list_is, lists_more files i x lt is, lists_within files (i + 1), enough) in
    let nums : frames_of (take (list + count - list) (drop list gs)) ≡ take (list_frames x) (drop (lists_of_files (take i files)) ats) =
    sym (take-map (λ (f : FolioValue). f.first.0) (list + count - list) (drop list gs))
    ∙ ap (take (list + count - list)) (sym (drop-map (λ (f : FolioValue). f.first.0) list gs) ∙ ap (drop list) (ap frames_of before ∙ frames_with_pages fs ps))
    ∙ (λ j. take (wide j) (drop (list_is j) ats)) in
    let qs = list_pages (file_record (drop (lists_of_files (take i files)) ats) x) in
    let long = pages_of_file (drop (lists_of_files (take i files)) ats) x (omega (arith, length-drop (lists_of_files (take i files)) ats, many, within, list_is)) in
    put_more fs gs ys ps qs list (list + count - list) before (so_far ∙ sym list_is) (omega (arith, within)) (omega (arith, long, wide))
    (done ∙ ap (λ (l : List ℕ). with_pages (take (list + count - list) (drop list gs)) (chain_pages 16 number (sheets_in l (parts 510 (firsts x.runs))))) nums)
    ∙ ap (with_pages fs)
    (flat_map_more list_pages [] (file_records ats (take i files)) (file_record (drop (lists_of_files (take i files)) ats) x)
    ∙ ap (flat_map list_pages) (sym (records_more ats (take i files) x) ∙ ap (file_records ats) (sym (one_file_more files i x lt is))))
