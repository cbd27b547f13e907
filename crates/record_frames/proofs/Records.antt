-- Records that keep their rules and stand in the frames are read.
use Rattle.std.proofs.Common.{◌≡◌, ℕ, zero, suc, ◌+◌, ◌^◌, ◌≤◌, Bool, true, false, cond, eqb, ltb, List, [], ◌∷◌, ◌++◌, length, map, Result, Ok, refl, sym, ap, subst, ◌∙◌, append_assoc, arith}
use Rattle.std.specs.Prelude.{nat_lt, nat_le, ◌&&◌, ◌||◌}
use Rattle.std.specs.List.{list_all, flat_map}
use Rattle.std.proofs.lemmas.Bool.{ltb-true, lt-ltb, eqb-true, ne_eqb, and_parts, and_from}
use Rattle.std.proofs.lemmas.List.{append-nil, map-append}
use Rattle.std.proofs.lemmas.List.Folds.{list_all-append}
use Rattle.record_frames.specs.Ram.{Ram, Page, is_frame}
use Rattle.ho_base.specs.NameRule.{is_name}
use Rattle.folio_bitmaps.specs.Chunks.{Element}
use Rattle.record_frames.specs.Sheets.{Sheet, FileRecord, SessionRecord, FileSlot, SessionSlot, items_of, numbers_of, first_of, map_items, chain_pages, number, file_slot, session_slot, file_slot_bytes, session_slot_bytes, element_bytes, list_pages, session_pages, list_numbers, session_numbers, record_numbers}
use Rattle.record_frames.specs.Rules.{Version, keeps_from, keeps, all_apart, has_first, fits, session_fits, file_fits, element_fits, is_bitmap, is_session_slot, is_session_sheet, is_file_slot, is_file_sheet, is_list_sheet, is_chunk_sheet, is_run, is_filled, SLOTS, LISTED, ELEMENTS}
use Rattle.record_frames.specs.Kept.{is_file, file_sheets, are_sessions, files_of, runs_of}
use Rattle.record_frames.specs.Carries.{HavePages, SpellChain, SpellRecords}
use Rattle.record_frames.specs.Reading.{◌>>=◌, Layout, Seen, session_layout, file_layout, list_layout, chunk_layout, each_sheet, chain_at, file_at, session_at, records_at, chunks_at}
use Rattle.record_frames.proofs.Fronts.{Again}
use Rattle.record_frames.proofs.Slots.{FileFits, listed_again, file_slot_again, session_slot_again, element_again}
use Rattle.record_frames.proofs.Apart.{apart_front}
use Rattle.record_frames.proofs.Chains.{Read, is_laid, chain_again, frame_nonzero}
use Rattle.record_frames.proofs.InTurn.{Reads, sheets_read}

-- ---- what each layout reads

file_from : (f : FileSlot) → file_fits f ≡ true → FileFits f
file_from f h =
    let a = and_parts (fits f.token && fits f.order && fits f.size && fits f.position && fits f.handle && fits f.first) (fits f.folios) h in
    let b = and_parts (fits f.token && fits f.order && fits f.size && fits f.position && fits f.handle) (fits f.first) a.0 in
    let c = and_parts (fits f.token && fits f.order && fits f.size && fits f.position) (fits f.handle) b.0 in
    let d = and_parts (fits f.token && fits f.order && fits f.size) (fits f.position) c.0 in
    let e = and_parts (fits f.token && fits f.order) (fits f.size) d.0 in
    let g = and_parts (fits f.token) (fits f.order) e.0 in
    record {
      token = ltb-true f.token (2 ^ 64) g.0;
      order = ltb-true f.order (2 ^ 64) g.1;
      size = ltb-true f.size (2 ^ 64) e.1;
      position = ltb-true f.position (2 ^ 64) d.1;
      handle = ltb-true f.handle (2 ^ 64) c.1;
      first = ltb-true f.first (2 ^ 64) b.1;
      folios = ltb-true f.folios (2 ^ 64) a.1;
    }

list_read : Read list_layout number fits
list_read = record { again = λ n h. listed_again n h; most = omega arith; head = omega arith }

file_read : Read file_layout file_slot_bytes file_fits
file_read = record { again = λ f h. file_slot_again f (file_from f h); most = omega arith; head = omega arith }

session_from : (s : SessionSlot) → session_fits s ≡ true → Again session_layout session_slot_bytes s
session_from s h =
    let a = and_parts (is_name s.name && fits s.files) (fits s.first) h in
    let b = and_parts (is_name s.name) (fits s.files) a.0 in
    session_slot_again s (record { name = b.0; files = ltb-true s.files (2 ^ 64) b.1; first = ltb-true s.first (2 ^ 64) a.1 })

session_read : Read session_layout session_slot_bytes session_fits
session_read = record { again = session_from; most = omega arith; head = omega arith }

chunk_read : Read chunk_layout element_bytes element_fits
chunk_read = record { again = element_from; most = omega arith; head = omega arith }
  where
    element_from : (e : Element) → element_fits e ≡ true → Again chunk_layout element_bytes e
    element_from e h =
        let a = and_parts (fits e.base && fits e.order) (is_bitmap e.bits) h in
        let b = and_parts (fits e.base) (fits e.order) a.0 in
        let c = and_parts (eqb (length e.bits) 512) (list_all (λ x. nat_lt x 256) e.bits) a.1 in
        element_again e (record { base = ltb-true e.base (2 ^ 64) b.0; order = ltb-true e.order (2 ^ 64) b.1; bits = eqb-true (length e.bits) 512 c.0 })

-- ---- what a kept test tells of each sheet

few_in_each : {E : Type 0} (test : List (Sheet E) → List E → ℕ → Bool) (most : ℕ)
    → ((earlier : List (Sheet E)) (items : List E) (next : ℕ) → test earlier items next ≡ true → nat_le (length items) most ≡ true)
    → (earlier sheets : List (Sheet E)) → keeps_from test earlier sheets ≡ true → list_all (λ s. nat_le (length s.items) most) sheets ≡ true
few_in_each test most tell earlier [] h = refl
few_in_each test most tell earlier (s ∷ []) h = and_from (nat_le (length s.items) most) true (tell earlier s.items 0 h) refl
few_in_each test most tell earlier (s ∷ t ∷ ts) h =
    let hs = and_parts (test earlier s.items t.at) (keeps_from test (earlier ++ s ∷ []) (t ∷ ts)) h in
    and_from (nat_le (length s.items) most) (list_all (λ s. nat_le (length s.items) most) (t ∷ ts)) (tell earlier s.items t.at hs.0)
    (few_in_each test most tell (earlier ++ s ∷ []) (t ∷ ts) hs.1)

pub all_from : {E : Type 0} (P : E → Bool) (xs ys : List E) → list_all P xs ≡ true → list_all P ys ≡ true → list_all P (xs ++ ys) ≡ true
all_from P xs ys h g = list_all-append P xs ys ∙ and_from (list_all P xs) (list_all P ys) h g

all_parts : {E : Type 0} (P : E → Bool) (xs ys : List E) → list_all P (xs ++ ys) ≡ true → (list_all P xs ≡ true) × (list_all P ys ≡ true)
all_parts P xs ys h = and_parts (list_all P xs) (list_all P ys) (sym (list_all-append P xs ys) ∙ h)

pub all_items : {E : Type 0} (test : List (Sheet E) → List E → ℕ → Bool) (P : E → Bool)
    → ((earlier : List (Sheet E)) (items : List E) (next : ℕ) → test earlier items next ≡ true → list_all P items ≡ true)
    → (earlier sheets : List (Sheet E)) → keeps_from test earlier sheets ≡ true → list_all P (items_of sheets) ≡ true
all_items test P tell earlier [] h = refl
all_items test P tell earlier (s ∷ []) h = all_from P s.items [] (tell earlier s.items 0 h) refl
all_items test P tell earlier (s ∷ t ∷ ts) h =
    let hs = and_parts (test earlier s.items t.at) (keeps_from test (earlier ++ s ∷ []) (t ∷ ts)) h in
    all_from P s.items (items_of (t ∷ ts)) (tell earlier s.items t.at hs.0) (all_items test P tell (earlier ++ s ∷ []) (t ∷ ts) hs.1)

all_laid : {E : Type 0} (n : ℕ) (l : Layout E) (ok : E → Bool) (sheets : List (Sheet E)) → list_all (λ s. nat_le (length s.items) l.most) sheets ≡ true
    → list_all ok (items_of sheets) ≡ true → list_all (is_frame n) (numbers_of sheets) ≡ true → list_all (is_laid n l ok) sheets ≡ true
all_laid n l ok [] h g f = refl
all_laid n l ok (s ∷ sheets) h g f =
    let hs = and_parts (nat_le (length s.items) l.most) (list_all (λ s. nat_le (length s.items) l.most) sheets) h in
    let gs = all_parts ok s.items (items_of sheets) g in
    let fs = and_parts (is_frame n s.at) (list_all (is_frame n) (numbers_of sheets)) f in
    and_from (is_laid n l ok s) (list_all (is_laid n l ok) sheets)
    (and_from (is_frame n s.at) (nat_le (length s.items) l.most && list_all ok s.items) fs.0 (and_from (nat_le (length s.items) l.most) (list_all ok s.items) hs.0 gs.0))
    (all_laid n l ok sheets hs.1 gs.1 fs.1)

-- ---- a chain that may be missing

counted : (c p : ℕ) → has_first c p ≡ true → eqb p 0 ≡ false → eqb c 0 ≡ false
counted zero p h g = let no : has_first 0 p ≡ false = ap (λ (b : Bool). b || false) g in absurd cc
counted (suc c) p h g = ne_eqb (suc c) 0 (λ e. omega (arith, e))

uncounted : (c : ℕ) → has_first c 0 ≡ true → eqb c 0 ≡ true
uncounted zero h = refl
uncounted (suc c) h =
    let e : eqb (suc c) 0 ≡ false = ne_eqb (suc c) 0 (λ e. omega (arith, e)) in
    let no : has_first (suc c) 0 ≡ false =
    ap (λ (b : Bool). (b && true) || (ltb 0 (suc c) && false)) e ∙ ap (λ (b : Bool). b && false) (lt-ltb 0 (suc c) (omega arith)) in
    absurd cc

chain_or_none : {E : Type 0} (ram : Ram) (l : Layout E) (bytes : E → List ℕ) (ok : E → Bool) (test : List (Sheet E) → List E → ℕ → Bool) (seen : List ℕ)
    → Read l bytes ok → ram.count ≤ 2 ^ 64 → (count : ℕ) (sheets : List (Sheet E)) → has_first count (first_of sheets) ≡ true
    → list_all (is_laid ram.count l ok) sheets ≡ true → keeps test sheets ≡ true → all_apart (seen ++ numbers_of sheets) ≡ true
    → HavePages ram (chain_pages l.head bytes sheets) → cond (eqb count 0) (Ok []) (chain_at ram l test seen (first_of sheets)) ≡ Ok sheets
chain_or_none ram l bytes ok test seen r small count [] first laid holds apart pages =
    ap (λ (b : Bool). cond b (Ok []) (chain_at ram l test seen 0)) (uncounted count first)
chain_or_none ram l bytes ok test seen r small count (s ∷ sheets) first laid holds apart pages =
    let ls = and_parts (is_laid ram.count l ok s) (list_all (is_laid ram.count l ok) sheets) laid in
    let frame = (and_parts (is_frame ram.count s.at) (nat_le (length s.items) l.most && list_all ok s.items) ls.0).0 in
    ap (λ (b : Bool). cond b (Ok []) (chain_at ram l test seen s.at)) (counted count s.at first (frame_nonzero ram.count s.at frame))
    ∙ chain_again ram l bytes ok test seen r small s sheets laid holds apart pages

-- ---- the list frames of a file

list_tell : (n order folios : ℕ) (earlier : List (Sheet ℕ)) (runs : List ℕ) (next : ℕ) → is_list_sheet n order folios earlier runs next ≡ true → nat_le (length runs) LISTED ≡ true
list_tell n order folios earlier runs next h =
    let a = and_parts (nat_lt 0 (length runs) && nat_le (length runs) LISTED && (eqb next 0 || eqb (length runs) LISTED) && list_all (is_run n order) runs)
    (nat_lt 0 next || eqb (length (items_of earlier) + length runs) folios) h in
    let b = and_parts (nat_lt 0 (length runs) && nat_le (length runs) LISTED && (eqb next 0 || eqb (length runs) LISTED)) (list_all (is_run n order) runs) a.0 in
    let c = and_parts (nat_lt 0 (length runs) && nat_le (length runs) LISTED) (eqb next 0 || eqb (length runs) LISTED) b.0 in
    (and_parts (nat_lt 0 (length runs)) (nat_le (length runs) LISTED) c.0).1

pub file_first : (f : FileSlot) → is_file_slot f ≡ true → has_first f.folios f.first ≡ true
file_first f h = (and_parts _ (has_first f.folios f.first) h).1

file_again : (ram : Ram) (seen : List ℕ) (f : FileRecord) → ram.count ≤ 2 ^ 64 → is_file_slot (file_slot f) ≡ true → is_file ram.count f ≡ true
    → list_all (is_frame ram.count) (list_numbers f) ≡ true → all_apart (seen ++ list_numbers f) ≡ true → HavePages ram (list_pages f)
    → file_at ram seen (file_slot f) ≡ Ok (f, seen ++ list_numbers f)
unfolding file_at
file_again ram seen f small slot is frames apart pages =
    let hs = and_parts (keeps (is_list_sheet ram.count f.order (length (runs_of f))) f.lists) (list_all fits (runs_of f)) is in
    let test = is_list_sheet ram.count f.order (length (runs_of f)) in
    let few = few_in_each test LISTED (list_tell ram.count f.order (length (runs_of f))) [] f.lists hs.0 in
    ap (λ (r : Result (List (Sheet ℕ)) ℕ). r >>= λ lists. Ok (
      record {
        token = f.token;
        kind = f.kind;
        order = f.order;
        size = f.size;
        position = f.position;
        handle = f.handle;
        lists = lists;
      },
      seen ++ numbers_of lists,
    ))
    (chain_or_none ram list_layout number fits test seen list_read small (length (runs_of f)) f.lists (file_first (file_slot f) slot)
    (all_laid ram.count list_layout fits f.lists few hs.1 frames) hs.0 apart pages)

-- ---- the files of a session

pub pages_parts : (ram : Ram) (a b : List Page) → HavePages ram (a ++ b) → HavePages ram a × HavePages ram b
pages_parts ram [] b h = (tt, h)
pages_parts ram (p ∷ a) b h = let r = pages_parts ram a b h.1 in ((h.0, r.0), r.1)

files_read : (ram : Ram) → ram.count ≤ 2 ^ 64 → (seen : List ℕ) (fs : List FileRecord) → list_all is_file_slot (map file_slot fs) ≡ true
    → list_all (is_file ram.count) fs ≡ true → list_all (is_frame ram.count) (flat_map list_numbers fs) ≡ true
    → all_apart (seen ++ flat_map list_numbers fs) ≡ true → HavePages ram (flat_map list_pages fs)
    → Reads (file_at ram) file_slot seen fs (seen ++ flat_map list_numbers fs)
files_read ram small seen [] slots are frames apart pages = sym (append-nil seen)
files_read ram small seen (f ∷ fs) slots are frames apart pages =
    let ss = and_parts (is_file_slot (file_slot f)) (list_all is_file_slot (map file_slot fs)) slots in
    let is = and_parts (is_file ram.count f) (list_all (is_file ram.count) fs) are in
    let rs = all_parts (is_frame ram.count) (list_numbers f) (flat_map list_numbers fs) frames in
    let ps = pages_parts ram (list_pages f) (flat_map list_pages fs) pages in
    let together : (seen ++ list_numbers f) ++ flat_map list_numbers fs ≡ seen ++ flat_map list_numbers (f ∷ fs) =
    append_assoc seen (list_numbers f) (flat_map list_numbers fs) in
    let apart' : all_apart ((seen ++ list_numbers f) ++ flat_map list_numbers fs) ≡ true = ap all_apart together ∙ apart in
    let now = file_again ram seen f small ss.0 is.0 rs.0 (apart_front (seen ++ list_numbers f) (flat_map list_numbers fs) apart') ps.0 in
    let rest = files_read ram small (seen ++ list_numbers f) fs ss.1 is.1 rs.1 apart' ps.1 in
    let P : List ℕ → Type 0 = λ end. Reads (file_at ram) file_slot (seen ++ list_numbers f) fs end in
    (seen ++ list_numbers f, now, subst P together rest)

pub items_of_map : {A B : Type 0} (f : A → B) (sheets : List (Sheet A)) → items_of (map_items f sheets) ≡ map f (items_of sheets)
items_of_map f [] = refl
items_of_map f (s ∷ sheets) = ap (λ (x : List _). map f s.items ++ x) (items_of_map f sheets) ∙ sym (map-append f s.items (items_of sheets))

pub numbers_of_map : {A B : Type 0} (f : A → B) (sheets : List (Sheet A)) → numbers_of (map_items f sheets) ≡ numbers_of sheets
numbers_of_map f [] = refl
numbers_of_map f (s ∷ sheets) = ap (λ (x : List ℕ). s.at ∷ x) (numbers_of_map f sheets)

pub first_of_map : {A B : Type 0} (f : A → B) (sheets : List (Sheet A)) → first_of (map_items f sheets) ≡ first_of sheets
first_of_map f [] = refl
first_of_map f (s ∷ sheets) = refl

-- what is read once a session is
abbrev after : Seen → SessionRecord → Seen
after seen s = record {
  numbers = (seen.numbers ++ numbers_of s.files) ++ flat_map list_numbers (files_of s);
  files = seen.files + length (files_of s);
}

filled_tell : (v : Version) (count next : ℕ) → is_filled v count next ≡ true → nat_le count SLOTS ≡ true
filled_tell v count next h = (and_parts (nat_le count SLOTS) _ h).0

pub file_sheet_parts : (v : Version) (before files : ℕ) (earlier : List (Sheet FileSlot)) (slots : List FileSlot) (next : ℕ) → is_file_sheet v before files earlier slots next ≡ true
    → (nat_le (length slots) SLOTS ≡ true) × (list_all is_file_slot slots ≡ true)
file_sheet_parts v before files earlier slots next h =
    let a = and_parts _ _ h in
    let b = and_parts _ _ a.0 in
    let c = and_parts _ _ b.0 in
    let d = and_parts _ _ c.0 in
    let e = and_parts (is_filled v (length slots) next) (list_all is_file_slot slots) d.0 in
    (filled_tell v (length slots) next e.0, e.1)

pub session_sheet_parts : (v : Version) (earlier : List (Sheet SessionSlot)) (slots : List SessionSlot) (next : ℕ) → is_session_sheet v earlier slots next ≡ true
    → (nat_le (length slots) SLOTS ≡ true) × (list_all (is_session_slot v) slots ≡ true)
session_sheet_parts v earlier slots next h =
    let a = and_parts _ _ h in
    let b = and_parts _ _ a.0 in
    let c = and_parts (is_filled v (length slots) next) (list_all (is_session_slot v) slots) b.0 in
    (filled_tell v (length slots) next c.0, c.1)

pub session_first : (v : Version) (s : SessionSlot) → is_session_slot v s ≡ true → has_first s.files s.first ≡ true
session_first v s h = (and_parts _ (has_first s.files s.first) h).1

-- what is read of a session from its file frames
abbrev from_slots : Ram → Seen → SessionSlot → List (Sheet FileSlot) → Result (SessionRecord × Seen) ℕ
from_slots ram seen s slots =
    each_sheet (file_at ram) (seen.numbers ++ numbers_of slots) slots >>= λ files.
    Ok (record { name = s.name; files = files.0 }, record { numbers = files.1; files = seen.files + s.files })

session_again : (v : Version) (ram : Ram) (seen : Seen) (s : SessionRecord) → ram.count ≤ 2 ^ 64 → is_session_slot v (session_slot s) ≡ true
    → keeps (is_file_sheet v seen.files (length (files_of s))) (file_sheets s) ≡ true → list_all file_fits (items_of (file_sheets s)) ≡ true
    → list_all (is_file ram.count) (files_of s) ≡ true → list_all (is_frame ram.count) (session_numbers s) ≡ true
    → all_apart (seen.numbers ++ session_numbers s) ≡ true → HavePages ram (session_pages s)
    → session_at v ram seen (session_slot s) ≡ Ok (s, after seen s)
unfolding session_at
session_again v ram seen s small slot holds fit are frames apart pages =
    let n = length (files_of s) in
    let test = is_file_sheet v seen.files n in
    let few = few_in_each test SLOTS (λ earlier slots next h. (file_sheet_parts v seen.files n earlier slots next h).0) [] (file_sheets s) holds in
    let slots : list_all is_file_slot (map file_slot (files_of s)) ≡ true =
    ap (list_all is_file_slot) (sym (items_of_map file_slot s.files))
    ∙ all_items test is_file_slot (λ earlier slots next h. (file_sheet_parts v seen.files n earlier slots next h).1) [] (file_sheets s) holds in
    let rs = all_parts (is_frame ram.count) (numbers_of s.files) (flat_map list_numbers (files_of s)) frames in
    let ps = pages_parts ram (chain_pages 128 file_slot_bytes (file_sheets s)) (flat_map list_pages (files_of s)) pages in
    let numbers = numbers_of_map file_slot s.files in
    let laid = all_laid ram.count file_layout file_fits (file_sheets s) few fit (ap (list_all (is_frame ram.count)) numbers ∙ rs.0) in
    let apart' : all_apart ((seen.numbers ++ numbers_of s.files) ++ flat_map list_numbers (files_of s)) ≡ true =
    ap all_apart (append_assoc seen.numbers (numbers_of s.files) (flat_map list_numbers (files_of s))) ∙ apart in
    let front : all_apart (seen.numbers ++ numbers_of (file_sheets s)) ≡ true =
    ap (λ (x : List ℕ). all_apart (seen.numbers ++ x)) numbers ∙ apart_front (seen.numbers ++ numbers_of s.files) (flat_map list_numbers (files_of s)) apart' in
    let first : has_first n (first_of (file_sheets s)) ≡ true = ap (has_first n) (first_of_map file_slot s.files) ∙ session_first v (session_slot s) slot in
    let chain = chain_or_none ram file_layout file_slot_bytes file_fits test seen.numbers file_read small n (file_sheets s) first laid holds front ps.0 in
    let read = files_read ram small (seen.numbers ++ numbers_of s.files) (files_of s) slots are rs.1 apart' ps.1 in
    ap (λ (p : ℕ). cond (eqb n 0) (Ok []) (chain_at ram file_layout test seen.numbers p) >>= from_slots ram seen (session_slot s)) (sym (first_of_map file_slot s.files))
    ∙ ap (λ (r : Result (List (Sheet FileSlot)) ℕ). r >>= from_slots ram seen (session_slot s)) chain
    ∙ ap (λ (x : List ℕ). each_sheet (file_at ram) (seen.numbers ++ x) (file_sheets s) >>= λ files. Ok (record { name = s.name; files = files.0 }, record { numbers = files.1; files = seen.files + n })) numbers
    ∙ ap (λ (r : Result (List (Sheet FileRecord) × List ℕ) ℕ). r >>= λ files. Ok (record { name = s.name; files = files.0 }, record { numbers = files.1; files = seen.files + n }))
    (sheets_read (file_at ram) file_slot (seen.numbers ++ numbers_of s.files) s.files ((seen.numbers ++ numbers_of s.files) ++ flat_map list_numbers (files_of s)) read)

-- ---- all sessions

abbrev after_all : Seen → List SessionRecord → Seen
after_all seen [] = seen
after_all seen (s ∷ ss) = after_all (after seen s) ss

sessions_read : (v : Version) (ram : Ram) → ram.count ≤ 2 ^ 64 → (seen : Seen) (ss : List SessionRecord) → list_all (is_session_slot v) (map session_slot ss) ≡ true
    → are_sessions v ram.count seen.files ss ≡ true → list_all (is_frame ram.count) (flat_map session_numbers ss) ≡ true
    → all_apart (seen.numbers ++ flat_map session_numbers ss) ≡ true → HavePages ram (flat_map session_pages ss)
    → Reads (session_at v ram) session_slot seen ss (after_all seen ss)
sessions_read v ram small seen [] slots are frames apart pages = refl
sessions_read v ram small seen (s ∷ ss) slots are frames apart pages =
    let sl = and_parts (is_session_slot v (session_slot s)) (list_all (is_session_slot v) (map session_slot ss)) slots in
    let as' = and_parts _ (are_sessions v ram.count (seen.files + length (files_of s)) ss) are in
    let k = and_parts (keeps (is_file_sheet v seen.files (length (files_of s))) (file_sheets s)) (list_all file_fits (items_of (file_sheets s)) && list_all (is_file ram.count) (files_of s)) as'.0 in
    let fi = and_parts (list_all file_fits (items_of (file_sheets s))) (list_all (is_file ram.count) (files_of s)) k.1 in
    let rs = all_parts (is_frame ram.count) (session_numbers s) (flat_map session_numbers ss) frames in
    let ps = pages_parts ram (session_pages s) (flat_map session_pages ss) pages in
    let apart' : all_apart ((seen.numbers ++ session_numbers s) ++ flat_map session_numbers ss) ≡ true =
    ap all_apart (append_assoc seen.numbers (session_numbers s) (flat_map session_numbers ss)) ∙ apart in
    let now = session_again v ram seen s small sl.0 k.0 fi.0 fi.1 rs.0 (apart_front (seen.numbers ++ session_numbers s) (flat_map session_numbers ss) apart') ps.0 in
    let next : all_apart ((after seen s).numbers ++ flat_map session_numbers ss) ≡ true =
    ap (λ (x : List ℕ). all_apart (x ++ flat_map session_numbers ss)) (append_assoc seen.numbers (numbers_of s.files) (flat_map list_numbers (files_of s))) ∙ apart' in
    (after seen s, now, sessions_read v ram small (after seen s) ss sl.1 as'.1 rs.1 next ps.1)

-- Records that the frames spell are read.
pub records_again : (v : Version) (ram : Ram) (header : ℕ) (records : List (Sheet SessionRecord)) → ram.count ≤ 2 ^ 64 → SpellRecords v ram header records
    → records_at v ram header ≡ Ok records
unfolding records_at
records_again v ram header [] small h = absurd (let no : false ≡ true = h.rules in cc)
records_again v ram header (s ∷ sheets) small h =
    let records = s ∷ sheets in
    let a = and_parts _ (all_apart (record_numbers records)) h.rules in
    let b = and_parts _ (list_all (is_frame ram.count) (record_numbers records)) a.0 in
    let c = and_parts _ (are_sessions v ram.count 0 (items_of records)) b.0 in
    let d = and_parts _ (list_all session_fits (items_of (map_items session_slot records))) c.0 in
    let e = and_parts true (keeps (is_session_sheet v) (map_items session_slot records)) d.0 in
    let test = is_session_sheet v in
    let slots = map_items session_slot records in
    let few = few_in_each test SLOTS (λ earlier items next g. (session_sheet_parts v earlier items next g).0) [] slots e.1 in
    let each : list_all (is_session_slot v) (map session_slot (items_of records)) ≡ true =
    ap (list_all (is_session_slot v)) (sym (items_of_map session_slot records))
    ∙ all_items test (is_session_slot v) (λ earlier items next g. (session_sheet_parts v earlier items next g).1) [] slots e.1 in
    let rs = all_parts (is_frame ram.count) (numbers_of records) (flat_map session_numbers (items_of records)) b.1 in
    let ps = pages_parts ram (chain_pages 128 session_slot_bytes slots) (flat_map session_pages (items_of records)) h.pages in
    let numbers = numbers_of_map session_slot records in
    let laid = all_laid ram.count session_layout session_fits slots few d.1 (ap (list_all (is_frame ram.count)) numbers ∙ rs.0) in
    let front : all_apart (numbers_of slots) ≡ true = ap all_apart numbers ∙ apart_front (numbers_of records) (flat_map session_numbers (items_of records)) a.1 in
    let chain = chain_again ram session_layout session_slot_bytes session_fits test [] session_read small (record { at = s.at; items = map session_slot s.items }) (map_items session_slot sheets) laid e.1 front ps.0 in
    let begin : Seen = record { numbers = numbers_of records; files = 0 } in
    let read = sessions_read v ram small begin (items_of records) each c.1 rs.1 a.1 ps.1 in
    let end = after_all begin (items_of records) in
    ap (λ (p : ℕ). chain_at ram session_layout test [] p >>= λ slots. each_sheet (session_at v ram) (record { numbers = numbers_of slots; files = 0 }) slots >>= λ sessions. Ok sessions.0) (sym h.begins)
    ∙ ap (λ (r : Result (List (Sheet SessionSlot)) ℕ). r >>= λ slots. each_sheet (session_at v ram) (record { numbers = numbers_of slots; files = 0 }) slots >>= λ sessions. Ok sessions.0) chain
    ∙ ap (λ (x : List ℕ). each_sheet (session_at v ram) (record { numbers = x; files = 0 }) slots >>= λ sessions. Ok sessions.0) numbers
    ∙ ap (λ (r : Result (List (Sheet SessionRecord) × Seen) ℕ). r >>= λ sessions. Ok sessions.0) (sheets_read (session_at v ram) session_slot begin records end read)

-- ---- the chain of bitmaps

chunk_tell : (n : ℕ) (earlier : List (Sheet Element)) (elements : List Element) (next : ℕ) → is_chunk_sheet n earlier elements next ≡ true → nat_le (length elements) ELEMENTS ≡ true
chunk_tell n earlier elements next h =
    let a = and_parts _ _ h in
    let b = and_parts _ _ a.0 in
    (and_parts (nat_lt 0 (length elements)) (nat_le (length elements) ELEMENTS) b.0).1

pub chunks_again : (ram : Ram) (first : ℕ) (chain : List (Sheet Element)) → ram.count ≤ 2 ^ 64 → SpellChain ram first chain → chunks_at ram first ≡ Ok chain
unfolding chunks_at
chunks_again ram first [] small h = absurd (let no : false ≡ true = h.rules in cc)
chunks_again ram first (s ∷ sheets) small h =
    let chain = s ∷ sheets in
    let a = and_parts _ (all_apart (numbers_of chain)) h.rules in
    let b = and_parts _ (list_all (is_frame ram.count) (numbers_of chain)) a.0 in
    let c = and_parts _ (list_all element_fits (items_of chain)) b.0 in
    let d = and_parts true (keeps (is_chunk_sheet ram.count) chain) c.0 in
    let few = few_in_each (is_chunk_sheet ram.count) ELEMENTS (chunk_tell ram.count) [] chain d.1 in
    let laid = all_laid ram.count chunk_layout element_fits chain few c.1 b.1 in
    ap (λ (p : ℕ). chain_at ram chunk_layout (is_chunk_sheet ram.count) [] p) (sym h.begins)
    ∙ chain_again ram chunk_layout element_bytes element_fits (is_chunk_sheet ram.count) [] chunk_read small s sheets laid d.1 a.1 h.pages
