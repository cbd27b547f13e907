-- The records of files that can be carried keep the rules of records.
use Rattle.std.proofs.Common.{◌≡◌, ℕ, zero, suc, ◌+◌, ◌-◌, ◌*◌, ◌%◌, ◌^◌, ◌≤◌, ◌<◌, Bool, true, eqb, List, [], ◌∷◌, ◌++◌, length, map, take, drop, get_or, refl, sym, ap, ◌∙◌, arith}
use Rattle.std.specs.Prelude.{nat_lt, nat_le, ◌&&◌, ◌||◌}
use Rattle.std.specs.List.{list_all}
use Rattle.std.proofs.lemmas.Bool.{ltb-true, lt-ltb, leb-true, le-leb, eq-eqb, and_parts, and_from, or_left, or_right}
use Rattle.std.proofs.lemmas.List.{append-nil, length-append, length-map, length-drop, length-take-le, take_all, take-append-drop}
use Rattle.std.proofs.lemmas.List.Folds.{list_all-append}
use Rattle.std.proofs.lemmas.List.Sums.{sum_by-cons}
use Rattle.ho_base.specs.declared.limits.TheConstants.{PAGE_BYTES, MAX_ORDER, MAX_FRAMES, FILE_BYTES}
use Rattle.ho_base.specs.declared.numbers.Kind.{Kind}
use Rattle.ho_base.specs.declared.numbers.Kind.TheVariants.{Memfd, Dev0, Dev1, Dev2, Dev3}
use Rattle.ho_base.specs.declared.numbers.Pfn.{Pfn}
use Rattle.ho_events.specs.Lists.{firsts, pieces}
use Rattle.record_frames.specs.Ram.{is_frame}
use Rattle.record_frames.specs.Sheets.{Sheet, FileSlot, FileRecord, items_of, file_slot}
use Rattle.record_frames.specs.Rules.{has_first, fits, file_fits, is_of_kind, is_file_slot, is_run, is_list_sheet, keeps_from, all_rise}
use Rattle.record_frames.specs.Kept.{is_file}
use Rattle.record_frames.specs.State.{list_frames}
use Rattle.record_frames.specs.Writing.{parts_from, parts, sheets_in, file_slot_of, file_record, file_records, lists_of_files}
use Rattle.record_frames.specs.declared.carried.CarriedFile.{CarriedFile}
use Rattle.record_frames.proofs.WrittenFiles.{items_whole, slot_is}
use Rattle.kho_laws.specs.Sessions.{is_carried_file}

-- ---- tests of lists

pub all_weaker : {A : Type 0} (P Q : A → Bool) → ((x : A) → P x ≡ true → Q x ≡ true) → (xs : List A) → list_all P xs ≡ true → list_all Q xs ≡ true
all_weaker P Q tell [] h = refl
all_weaker P Q tell (x ∷ xs) h =
    let hs = and_parts (P x) (list_all P xs) h in and_from (Q x) (list_all Q xs) (tell x hs.0) (all_weaker P Q tell xs hs.1)

pub all_cut : {A : Type 0} (P : A → Bool) (k : ℕ) (xs : List A) → list_all P xs ≡ true → (list_all P (take k xs) ≡ true) × (list_all P (drop k xs) ≡ true)
all_cut P k xs h =
    and_parts (list_all P (take k xs)) (list_all P (drop k xs)) (sym (list_all-append P (take k xs) (drop k xs)) ∙ ap (list_all P) (take-append-drop k xs) ∙ h)

items_two : {A : Type 0} (earlier : List (Sheet A)) (s : Sheet A) → length (items_of (earlier ++ s ∷ [])) ≡ length (items_of earlier) + length s.items
items_two [] s = ap length (append-nil s.items) ∙ omega arith
items_two (e ∷ earlier) s =
    length-append e.items (items_of (earlier ++ s ∷ [])) ∙ omega (arith, items_two earlier s, length-append e.items (items_of earlier))

-- ---- list frames

-- a list frame keeps its rules
list_test : (n order folios : ℕ) (earlier : List (Sheet ℕ)) (runs : List ℕ) (next : ℕ) → 0 < length runs → length runs ≤ 510 → (eqb next 0 || eqb (length runs) 510) ≡ true
    → list_all (is_run n order) runs ≡ true → (nat_lt 0 next || eqb (length (items_of earlier) + length runs) folios) ≡ true → is_list_sheet n order folios earlier runs next ≡ true
list_test n order folios earlier runs next some few full are last =
    and_from (nat_lt 0 (length runs) && nat_le (length runs) 510 && (eqb next 0 || eqb (length runs) 510) && list_all (is_run n order) runs)
    (nat_lt 0 next || eqb (length (items_of earlier) + length runs) folios)
    (and_from (nat_lt 0 (length runs) && nat_le (length runs) 510 && (eqb next 0 || eqb (length runs) 510)) (list_all (is_run n order) runs)
    (and_from (nat_lt 0 (length runs) && nat_le (length runs) 510) (eqb next 0 || eqb (length runs) 510)
    (and_from (nat_lt 0 (length runs)) (nat_le (length runs) 510) (lt-ltb 0 (length runs) some) (le-leb (length runs) 510 few)) full) are) last

frame_some : (n p : ℕ) → is_frame n p ≡ true → 0 < p
frame_some n p h = ltb-true 0 p (and_parts (nat_lt 0 p) (nat_lt p n) h).0

pub frame_small : (n p : ℕ) → is_frame n p ≡ true → p < n
frame_small n p h = ltb-true p n (and_parts (nat_lt 0 p) (nat_lt p n) h).1

-- the list frames of runs keep their rules
list_keeps : (n order folios k : ℕ) (earlier : List (Sheet ℕ)) (ats xs : List ℕ) → length ats ≡ k → k ≡ pieces (length xs) 510 → length (items_of earlier) + length xs ≡ folios
    → list_all (is_frame n) ats ≡ true → list_all (is_run n order) xs ≡ true → keeps_from (is_list_sheet n order folios) earlier (sheets_in ats (parts_from 510 k xs)) ≡ true
list_keeps n order folios zero earlier [] xs len count sum frames are = refl
list_keeps n order folios zero earlier (a ∷ ats) xs len count sum frames are = absurd (omega (arith, len))
list_keeps n order folios (suc k) earlier [] xs len count sum frames are = absurd (omega (arith, len))
list_keeps n order folios (suc zero) earlier (a ∷ []) xs len count sum frames are =
    let all : take 510 xs ≡ xs = take_all 510 xs (omega (arith, count)) in
    let long : length (take 510 xs) ≡ length xs = ap length all in
    list_test n order folios earlier (take 510 xs) 0 (omega (arith, long, count)) (omega (arith, long, count)) refl (all_cut (is_run n order) 510 xs are).0
    (or_right (nat_lt 0 0) (eqb (length (items_of earlier) + length (take 510 xs)) folios) (eq-eqb (length (items_of earlier) + length (take 510 xs)) folios (omega (arith, long, sum))))
list_keeps n order folios (suc zero) earlier (a ∷ b ∷ ats) xs len count sum frames are = absurd (omega (arith, len))
list_keeps n order folios (suc (suc k)) earlier (a ∷ []) xs len count sum frames are = absurd (omega (arith, len))
list_keeps n order folios (suc (suc k)) earlier (a ∷ b ∷ ats) xs len count sum frames are =
    let fs = and_parts (is_frame n a) (list_all (is_frame n) (b ∷ ats)) frames in
    let bs = and_parts (is_frame n b) (list_all (is_frame n) ats) fs.1 in
    let cut = all_cut (is_run n order) 510 xs are in
    let long : length (take 510 xs) ≡ 510 = length-take-le 510 xs (omega (arith, count)) in
    let left : length (drop 510 xs) ≡ length xs - 510 = length-drop 510 xs in
    let s : Sheet ℕ = record { at = a; items = take 510 xs } in
    let more = items_two earlier s in
    and_from (is_list_sheet n order folios earlier (take 510 xs) b)
    (keeps_from (is_list_sheet n order folios) (earlier ++ s ∷ []) (sheets_in (b ∷ ats) (parts_from 510 (suc k) (drop 510 xs))))
    (list_test n order folios earlier (take 510 xs) b (omega (arith, long)) (omega (arith, long)) (or_right (eqb b 0) (eqb (length (take 510 xs)) 510) (eq-eqb (length (take 510 xs)) 510 long))
    cut.0 (or_left (nat_lt 0 b) (eqb (length (items_of earlier) + length (take 510 xs)) folios) (lt-ltb 0 b (frame_some n b bs.0))))
    (list_keeps n order folios (suc k) (earlier ++ s ∷ []) (b ∷ ats) (drop 510 xs) (omega (arith, len)) (omega (arith, left, count)) (omega (arith, more, left, long, sum, count)) fs.1 cut.1)

-- ---- first frames

pub first_none : (k : ℕ) (ats : List ℕ) → k ≡ 0 → get_or (take k ats) 0 0 ≡ 0
first_none k ats e = ap (λ (i : ℕ). get_or (take i ats) 0 0) e

pub first_frame : (n k : ℕ) (ats : List ℕ) → 0 < k → k ≤ length ats → list_all (is_frame n) ats ≡ true → is_frame n (get_or (take k ats) 0 0) ≡ true
first_frame n zero ats some le h = absurd (omega (arith, some))
first_frame n (suc k) [] some le h = absurd (omega (arith, le))
first_frame n (suc k) (a ∷ ats) some le h = (and_parts (is_frame n a) (list_all (is_frame n) ats) h).0

pub first_rule : (count first : ℕ) → (count ≡ 0 → first ≡ 0) → (0 < count → 0 < first) → has_first count first ≡ true
first_rule zero first none some =
    or_left (eqb 0 0 && eqb first 0) (nat_lt 0 0 && nat_lt 0 first) (and_from (eqb 0 0) (eqb first 0) refl (eq-eqb first 0 (none refl)))
first_rule (suc count) first none some =
    let more : 0 < suc count = omega arith in
    or_right (eqb (suc count) 0 && eqb first 0) (nat_lt 0 (suc count) && nat_lt 0 first) (and_from (nat_lt 0 (suc count)) (nat_lt 0 first) (lt-ltb 0 (suc count) more) (lt-ltb 0 first (some more)))

-- what the first of k frames is, where there are some exactly for a count
pub first_is : (n k count : ℕ) (ats : List ℕ) → (count ≡ 0 → k ≡ 0) → (0 < count → 0 < k) → k ≤ length ats → list_all (is_frame n) ats ≡ true
    → has_first count (get_or (take k ats) 0 0) ≡ true
first_is n k count ats none some le h =
    first_rule count (get_or (take k ats) 0 0) (λ e. first_none k ats (none e)) (λ lt. frame_some n (get_or (take k ats) 0 0) (first_frame n k ats (some lt) le h))

pub first_fits : (n k : ℕ) (ats : List ℕ) → n ≤ MAX_FRAMES → k ≤ length ats → list_all (is_frame n) ats ≡ true → fits (get_or (take k ats) 0 0) ≡ true
first_fits n zero ats few le h = refl
first_fits n (suc k) ats few le h =
    let p = get_or (take (suc k) ats) 0 0 in
    lt-ltb p (2 ^ 64) (omega (arith, few, frame_small n p (first_frame n (suc k) ats (omega arith) le h)))

-- ---- a file

-- what can be carried, part by part
pub record FileParts (n : ℕ) (f : CarriedFile) : Type 0 where
  pub order : nat_le f.order.0 MAX_ORDER ≡ true
  pub size : nat_le f.size FILE_BYTES ≡ true
  pub position : nat_le f.position f.size ≡ true
  pub pieces_are : eqb (length f.runs) (pieces f.size (PAGE_BYTES * 2 ^ f.order.0)) ≡ true
  pub kind : is_of_kind (file_slot_of f 0) f.kind ≡ true
  pub token : fits f.token.0 ≡ true
  pub handle : fits f.handle ≡ true
  pub few : length f.runs ≤ MAX_FRAMES
  pub runs : list_all (is_run n f.order.0) (firsts f.runs) ≡ true

pub file_parts : (n : ℕ) (f : CarriedFile) → is_carried_file n f ≡ true → FileParts n f
file_parts n f h =
    let a = and_parts _ (list_all (is_run n f.order.0) (firsts f.runs)) h in
    let b = and_parts _ (nat_le (length f.runs) MAX_FRAMES) a.0 in
    let c = and_parts _ (fits f.handle) b.0 in
    let d = and_parts _ (fits f.token.0) c.0 in
    let e = and_parts _ (is_of_kind (file_slot_of f 0) f.kind) d.0 in
    let g = and_parts _ (eqb (length f.runs) (pieces f.size (PAGE_BYTES * 2 ^ f.order.0))) e.0 in
    let i = and_parts _ (nat_le f.position f.size) g.0 in
    let j = and_parts (nat_le f.order.0 MAX_ORDER) (nat_le f.size FILE_BYTES) i.0 in
    record { order = j.0; size = j.1; position = i.1; pieces_are = g.1; kind = e.1; token = d.1; handle = c.1; few = leb-true (length f.runs) MAX_FRAMES b.1; runs = a.1 }

-- the rule of kinds doesn't look at the first list frame
kind_rule : (f : CarriedFile) (a b : ℕ) (k : Kind) → is_of_kind (file_slot_of f a) k ≡ is_of_kind (file_slot_of f b) k
kind_rule f a b Memfd = refl
kind_rule f a b Dev0 = refl
kind_rule f a b Dev1 = refl
kind_rule f a b Dev2 = refl
kind_rule f a b Dev3 = refl

slot_rule : (n : ℕ) (f : CarriedFile) (first : ℕ) → FileParts n f → has_first (length f.runs) first ≡ true → is_file_slot (file_slot_of f first) ≡ true
slot_rule n f first p h =
    let size = nat_le f.size FILE_BYTES in
    let order = nat_le f.order.0 MAX_ORDER in
    let position = nat_le f.position f.size in
    let count = eqb (length f.runs) (pieces f.size (PAGE_BYTES * 2 ^ f.order.0)) in
    let kind = is_of_kind (file_slot_of f first) f.kind in
    and_from (order && size && position && count && kind) (has_first (length f.runs) first)
    (and_from (order && size && position && count) kind
    (and_from (order && size && position) count (and_from (order && size) position (and_from order size p.order p.size) p.position) p.pieces_are)
    (kind_rule f first 0 f.kind ∙ p.kind))
    h

slot_fits : (n : ℕ) (f : CarriedFile) (first : ℕ) → FileParts n f → fits first ≡ true → file_fits (file_slot_of f first) ≡ true
slot_fits n f first p h =
    let size : f.size ≤ FILE_BYTES = leb-true f.size FILE_BYTES p.size in
    let order : f.order.0 ≤ MAX_ORDER = leb-true f.order.0 MAX_ORDER p.order in
    let position : f.position ≤ f.size = leb-true f.position f.size p.position in
    let runs = p.few in
    let o = lt-ltb f.order.0 (2 ^ 64) (omega (arith, order)) in
    let s = lt-ltb f.size (2 ^ 64) (omega (arith, size)) in
    let i = lt-ltb f.position (2 ^ 64) (omega (arith, size, position)) in
    let c = lt-ltb (length f.runs) (2 ^ 64) (omega (arith, runs)) in
    and_from (fits f.token.0 && fits f.order.0 && fits f.size && fits f.position && fits f.handle && fits first) (fits (length f.runs))
    (and_from (fits f.token.0 && fits f.order.0 && fits f.size && fits f.position && fits f.handle) (fits first)
    (and_from (fits f.token.0 && fits f.order.0 && fits f.size && fits f.position) (fits f.handle)
    (and_from (fits f.token.0 && fits f.order.0 && fits f.size) (fits f.position)
    (and_from (fits f.token.0 && fits f.order.0) (fits f.size) (and_from (fits f.token.0) (fits f.order.0) p.token o) s) i) p.handle) h) c

run_fits : (n order p : ℕ) → n ≤ MAX_FRAMES → is_run n order p ≡ true → fits p ≡ true
run_fits n order p few h =
    let a = and_parts (nat_lt 0 p && eqb (p % 2 ^ order) 0) (nat_le (p + 2 ^ order) n) h in
    lt-ltb p (2 ^ 64) (omega (arith, leb-true (p + 2 ^ order) n a.1, few))

-- what holds of the record of a file
pub record FileHolds (n : ℕ) (r : FileRecord) : Type 0 where
  pub slot : is_file_slot (file_slot r) ≡ true
  pub fit : file_fits (file_slot r) ≡ true
  pub lists : is_file n r ≡ true

pub lists_long : (ats : List ℕ) (f : CarriedFile) → list_frames f ≤ length ats → length (take (list_frames f) ats) ≡ pieces (length (firsts f.runs)) 510
lists_long ats f enough =
    let same : length (firsts f.runs) ≡ length f.runs = length-map f.runs (λ (p : Pfn). p.0) in
    length-take-le (list_frames f) ats enough ∙ ap (λ (k : ℕ). pieces k 510) (sym same)

pub file_holds : (n : ℕ) (ats : List ℕ) (f : CarriedFile) → n ≤ MAX_FRAMES → is_carried_file n f ≡ true → list_frames f ≤ length ats → list_all (is_frame n) ats ≡ true
    → FileHolds n (file_record ats f)
file_holds n ats f small can enough frames =
    let p = file_parts n f can in
    let first = get_or (take (list_frames f) ats) 0 0 in
    let slot = slot_is ats f enough in
    let xs = firsts f.runs in
    let long = lists_long ats f enough in
    let whole = items_whole (take (list_frames f) ats) xs long in
    let has = first_is n (list_frames f) (length f.runs) ats (λ e. omega (arith, e)) (λ lt. omega (arith, lt)) enough frames in
    let keep = list_keeps n f.order.0 (length xs) (pieces (length xs) 510) [] (take (list_frames f) ats) xs long refl (omega arith) (all_cut (is_frame n) (list_frames f) ats frames).0 p.runs in
    let folios : length (items_of (sheets_in (take (list_frames f) ats) (parts 510 xs))) ≡ length xs = ap length whole in
    record {
      slot = ap is_file_slot slot ∙ slot_rule n f first p has;
      fit = ap file_fits slot ∙ slot_fits n f first p (first_fits n (list_frames f) ats small enough frames);
      lists = and_from _ (list_all fits (items_of (sheets_in (take (list_frames f) ats) (parts 510 xs))))
          (ap (λ (k : ℕ). keeps_from (is_list_sheet n f.order.0 k) [] (sheets_in (take (list_frames f) ats) (parts 510 xs))) folios ∙ keep)
          (ap (list_all fits) whole ∙ all_weaker (is_run n f.order.0) fits (λ q h. run_fits n f.order.0 q small h) xs p.runs);
    }

-- ---- files

pub record FilesHold (n : ℕ) (rs : List FileRecord) : Type 0 where
  pub slots : list_all is_file_slot (map file_slot rs) ≡ true
  pub fit : list_all file_fits (map file_slot rs) ≡ true
  pub lists : list_all (is_file n) rs ≡ true

pub files_hold : (n : ℕ) (ats : List ℕ) (fs : List CarriedFile) → n ≤ MAX_FRAMES → list_all (is_carried_file n) fs ≡ true → lists_of_files fs ≤ length ats
    → list_all (is_frame n) ats ≡ true → FilesHold n (file_records ats fs)
files_hold n ats [] small can enough frames = record { slots = refl; fit = refl; lists = refl }
files_hold n ats (f ∷ fs) small can enough frames =
    let cs = and_parts (is_carried_file n f) (list_all (is_carried_file n) fs) can in
    let sum : lists_of_files (f ∷ fs) ≡ list_frames f + lists_of_files fs = sum_by-cons list_frames f fs in
    let one = file_holds n ats f small cs.0 (omega (arith, sum, enough)) frames in
    let rest = files_hold n (drop (list_frames f) ats) fs small cs.1 (omega (arith, sum, enough, length-drop (list_frames f) ats)) (all_cut (is_frame n) (list_frames f) ats frames).1 in
    let r = file_record ats f in
    let rs = file_records (drop (list_frames f) ats) fs in
    record {
      slots = and_from (is_file_slot (file_slot r)) (list_all is_file_slot (map file_slot rs)) one.slot rest.slots;
      fit = and_from (file_fits (file_slot r)) (list_all file_fits (map file_slot rs)) one.fit rest.fit;
      lists = and_from (is_file n r) (list_all (is_file n) rs) one.lists rest.lists;
    }

-- tokens rise in the slots as they do in the files
pub tokens_kept : (ats : List ℕ) (fs : List CarriedFile) → all_rise (λ a b. nat_lt a.token.0 b.token.0) fs ≡ true
    → all_rise (λ (a b : FileSlot). nat_lt a.token b.token) (map file_slot (file_records ats fs)) ≡ true
tokens_kept ats [] h = refl
tokens_kept ats (f ∷ []) h = refl
tokens_kept ats (f ∷ g ∷ fs) h =
    let hs = and_parts (nat_lt f.token.0 g.token.0) (all_rise (λ a b. nat_lt a.token.0 b.token.0) (g ∷ fs)) h in
    and_from (nat_lt f.token.0 g.token.0) (all_rise (λ (a b : FileSlot). nat_lt a.token b.token) (map file_slot (file_records (drop (list_frames f) ats) (g ∷ fs)))) hs.0
    (tokens_kept (drop (list_frames f) ats) (g ∷ fs) hs.1)
