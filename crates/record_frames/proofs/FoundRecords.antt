-- Records that are read keep their rules and stand in the frames.
use Rattle.std.proofs.Common.{◌≡◌, ℕ, zero, suc, ◌+◌, Bool, true, false, cond, eqb, List, [], ◌∷◌, ◌++◌, length, Result, Ok, Err, refl, sym, ap, subst, ◌∙◌, append_assoc, arith}
use Rattle.std.specs.Prelude.{nat_le, not, ◌&&◌, ◌||◌}
use Rattle.std.specs.List.{list_all, flat_map}
use Rattle.std.proofs.lemmas.Bool.{eqb-true, ne_eqb, and_parts, and_from}
use Rattle.std.proofs.lemmas.List.{append-nil, length-append, length-map}
use Rattle.std.proofs.lemmas.Grind.{flat_map-append}
use Rattle.ho_base.specs.NameRule.{is_name}
use Rattle.record_frames.specs.Ram.{Ram, Page, is_frame}
use Rattle.record_frames.specs.Sheets.{Sheet, FileRecord, SessionRecord, FileSlot, SessionSlot, items_of, numbers_of, first_of, map_items, chain_pages, number, file_slot, session_slot, file_slot_bytes, session_slot_bytes, list_pages, session_pages, list_numbers, session_numbers, record_numbers}
use Rattle.record_frames.specs.Rules.{Version, keeps_from, keeps, all_apart, is_empty, has_first, fits, session_fits, file_fits, is_session_slot, is_session_sheet, is_file_slot, is_file_sheet, is_list_sheet}
use Rattle.record_frames.specs.Kept.{is_file, file_sheets, are_sessions, files_of}
use Rattle.record_frames.specs.Carries.{HavePages, SpellRecords}
use Rattle.record_frames.specs.Reading.{◌>>=◌, Layout, Seen, session_layout, file_layout, list_layout, sheet_at, chain_from, each_sheet, chain_at, file_at, session_at, records_at}
use Rattle.record_frames.specs.Laws.{Holds}
use Rattle.record_frames.proofs.FoundSlots.{list_finds, file_finds, session_finds, session_numbers_fit}
use Rattle.record_frames.proofs.FoundChains.{Laid, chain_found}
use Rattle.record_frames.proofs.FoundTurns.{bind_ok, Turn, Facts, next_all, sheets_found}
use Rattle.record_frames.proofs.Records.{all_items, all_from, items_of_map, numbers_of_map, first_of_map, file_sheet_parts, session_sheet_parts, file_first, session_first}

list_laid : Laid list_layout number fits
list_laid = record { finds = list_finds; head = omega arith; room = omega arith }

file_laid : Laid file_layout file_slot_bytes file_fits
file_laid = record { finds = file_finds; head = omega arith; room = omega arith }

session_laid : Laid session_layout session_slot_bytes session_numbers_fit
session_laid = record { finds = session_finds; head = omega arith; room = omega arith }

-- ---- a chain that may be missing

-- after the last frame there are as many items as are due
total : {E : Type 0} (test : List (Sheet E) → List E → ℕ → Bool) (want : ℕ)
    → ((earlier : List (Sheet E)) (items : List E) → test earlier items 0 ≡ true → length (items_of earlier) + length items ≡ want)
    → (earlier rest : List (Sheet E)) → is_empty rest ≡ false → keeps_from test earlier rest ≡ true → length (items_of (earlier ++ rest)) ≡ want
total test want tell earlier [] filled h = absurd cc
total {E = E} test want tell earlier (s ∷ []) filled h =
    ap length (flat_map-append (λ (q : Sheet E). q.items) earlier (s ∷ [])) ∙ length-append (items_of earlier) (s.items ++ [])
    ∙ ap (λ (x : List E). length (items_of earlier) + length x) (append-nil s.items) ∙ tell earlier s.items h
total test want tell earlier (s ∷ t ∷ ts) filled h =
    let hs = and_parts (test earlier s.items t.at) (keeps_from test (earlier ++ s ∷ []) (t ∷ ts)) h in
    ap (λ (x : List (Sheet _)). length (items_of x)) (sym (append_assoc earlier (s ∷ []) (t ∷ ts))) ∙ total test want tell (earlier ++ s ∷ []) (t ∷ ts) refl hs.1

pub record MaybeFound {E : Type 0} (ram : Ram) (l : Layout E) (bytes : E → List ℕ) (ok : E → Bool) (test : List (Sheet E) → List E → ℕ → Bool) (seen : List ℕ)
    (first count : ℕ) (sheets : List (Sheet E)) : Type 0 where
  pub begins : first_of sheets ≡ first
  pub total : length (items_of sheets) ≡ count
  pub keep : keeps test sheets ≡ true
  pub each : list_all ok (items_of sheets) ≡ true
  pub frames : list_all (is_frame ram.count) (numbers_of sheets) ≡ true
  pub apart : all_apart (seen ++ numbers_of sheets) ≡ true
  pub pages : HavePages ram (chain_pages l.head bytes sheets)

no_first : (p : ℕ) → has_first 0 p ≡ true → 0 ≡ p
no_first zero h = refl
no_first (suc p) h = let no : has_first 0 (suc p) ≡ false = ap (λ (b : Bool). b || false) (ne_eqb (suc p) 0 (λ e. omega (arith, e))) in absurd cc

abbrev all_read : {E : Type 0} → List (Sheet E) → Result (List (Sheet E)) ℕ
all_read x = Ok x

read_is : {E : Type 0} (x y : List (Sheet E)) → all_read x ≡ all_read y → x ≡ y
read_is x y e = cc

maybe_found : {E : Type 0} (ram : Ram) (l : Layout E) (bytes : E → List ℕ) (ok : E → Bool) (test : List (Sheet E) → List E → ℕ → Bool) (seen : List ℕ) → Laid l bytes ok → Holds ram
    → (first count : ℕ) (sheets : List (Sheet E)) → ((earlier : List (Sheet E)) (items : List E) → test earlier items 0 ≡ true → length (items_of earlier) + length items ≡ count)
    → has_first count first ≡ true → all_apart seen ≡ true → cond (eqb count 0) (Ok []) (chain_at ram l test seen first) ≡ Ok sheets
    → MaybeFound ram l bytes ok test seen first count sheets
unfolding chain_at
maybe_found {E = E} ram l bytes ok test seen laid holds first count sheets tell has apart e = at_test (eqb count 0) refl e
  where
    at_test : (b : Bool) → eqb count 0 ≡ b → cond b (Ok []) (chain_from (sheet_at ram l test seen) ram.count [] first) ≡ Ok sheets → MaybeFound ram l bytes ok test seen first count sheets
    at_test true z e =
        let none : count ≡ 0 = eqb-true count 0 z in
        let H : ℕ → Type 0 = λ c. has_first c first ≡ true in
        let P : List (Sheet E) → Type 0 = λ x. MaybeFound ram l bytes ok test seen first count x in
        subst P (read_is [] sheets e) (record {
          begins = no_first first (subst H none has);
          total = sym none;
          keep = refl;
          each = refl;
          frames = refl;
          apart = ap all_apart (append-nil seen) ∙ apart;
          pages = tt;
        })
    at_test false z e =
        let c = chain_found ram l bytes ok test seen laid holds ram.count [] first sheets (ap all_apart (append-nil seen) ∙ apart) e in
        let P : List (Sheet E) → Type 0 = λ x. MaybeFound ram l bytes ok test seen first count x in
        subst P (sym c.parts) (record {
          begins = c.begins;
          total = total test count tell [] c.rest c.filled c.keeps;
          keep = c.keeps;
          each = c.each;
          frames = c.frames;
          apart = ap (λ (x : List ℕ). all_apart (x ++ numbers_of c.rest)) (sym (append-nil seen)) ∙ c.apart;
          pages = c.pages;
        })

-- ---- a file

list_total : (n order folios : ℕ) (earlier : List (Sheet ℕ)) (runs : List ℕ) → is_list_sheet n order folios earlier runs 0 ≡ true → length (items_of earlier) + length runs ≡ folios
list_total n order folios earlier runs h = eqb-true (length (items_of earlier) + length runs) folios (and_parts _ (eqb (length (items_of earlier) + length runs) folios) h).1

-- the record frames after a file's
abbrev next_file : List ℕ → FileRecord → List ℕ
next_file seen f = seen ++ list_numbers f

pub record FileFact (ram : Ram) (seen : List ℕ) (f : FileRecord) : Type 0 where
  pub is : is_file ram.count f ≡ true
  pub frames : list_all (is_frame ram.count) (list_numbers f) ≡ true
  pub pages : HavePages ram (list_pages f)

abbrev Apart : List ℕ → Type 0
Apart seen = all_apart seen ≡ true

abbrev file_with : FileSlot → List (Sheet ℕ) → FileRecord
file_with slot lists = record { token = slot.token; kind = slot.kind; order = slot.order; size = slot.size; position = slot.position; handle = slot.handle; lists = lists }

abbrev file_answer : FileRecord → List ℕ → Result (FileRecord × List ℕ) ℕ
file_answer f seen = Ok (f, seen)

file_answers : (f g : FileRecord) (s t : List ℕ) → file_answer f s ≡ file_answer g t → (f ≡ g) × (s ≡ t)
file_answers f g s t e = (ap (λ (r : Result (FileRecord × List ℕ) ℕ). fst f r) e, ap (λ (r : Result (FileRecord × List ℕ) ℕ). snd s r) e)
  where
    fst : FileRecord → Result (FileRecord × List ℕ) ℕ → FileRecord
    fst d (Ok p) = p.0
    fst d (Err n) = d

    snd : List ℕ → Result (FileRecord × List ℕ) ℕ → List ℕ
    snd d (Ok p) = p.1
    snd d (Err n) = d

file_found : (ram : Ram) → Holds ram → (seen : List ℕ) (slot : FileSlot) (f : FileRecord) (end : List ℕ) → Apart seen → is_file_slot slot ≡ true → file_at ram seen slot ≡ Ok (f, end)
    → Turn (file_at ram) file_slot is_file_slot next_file Apart (FileFact ram) seen slot f end
unfolding file_at
file_found ram holds seen slot f end apart ok e =
    let test = is_list_sheet ram.count slot.order slot.folios in
    let a = bind_ok (cond (eqb slot.folios 0) (Ok []) (chain_at ram list_layout test seen slot.first)) (λ lists. Ok (file_with slot lists, seen ++ numbers_of lists)) (f, end) e in
    let lists = a.0 in
    let m = maybe_found ram list_layout number fits test seen list_laid holds slot.first slot.folios lists (list_total ram.count slot.order slot.folios) (file_first slot ok) apart a.1 in
    let is = file_answers (file_with slot lists) f (seen ++ numbers_of lists) end a.2 in
    let whole : keeps (is_list_sheet ram.count slot.order (length (items_of lists))) lists ≡ true = ap (λ (c : ℕ). keeps (is_list_sheet ram.count slot.order c) lists) m.total ∙ m.keep in
    let P : FileRecord → Type 0 = λ g. Turn (file_at ram) file_slot is_file_slot next_file Apart (FileFact ram) seen slot g end in
    subst P is.0 (record {
      same = ap (λ (x : ℕ). record { token = slot.token; kind = slot.kind; order = slot.order; size = slot.size; position = slot.position; handle = slot.handle; first = x; folios = length (items_of lists) }) m.begins
          ∙ ap (λ (x : ℕ). record { token = slot.token; kind = slot.kind; order = slot.order; size = slot.size; position = slot.position; handle = slot.handle; first = slot.first; folios = x }) m.total;
      state = sym is.1;
      inv = m.apart;
      fact = record { is = and_from (keeps (is_list_sheet ram.count slot.order (length (items_of lists))) lists) (list_all fits (items_of lists)) whole m.each; frames = m.frames; pages = m.pages };
    })

-- ---- the files of a session

pages_from : (ram : Ram) (a b : List Page) → HavePages ram a → HavePages ram b → HavePages ram (a ++ b)
pages_from ram [] b h g = g
pages_from ram (p ∷ a) b h g = (h.0, pages_from ram a b h.1 g)

next_files : (seen : List ℕ) (fs : List FileRecord) → next_all next_file seen fs ≡ seen ++ flat_map list_numbers fs
next_files seen [] = sym (append-nil seen)
next_files seen (f ∷ fs) = next_files (seen ++ list_numbers f) fs ∙ append_assoc seen (list_numbers f) (flat_map list_numbers fs)

pub record FilesFact (ram : Ram) (fs : List FileRecord) : Type 0 where
  pub are : list_all (is_file ram.count) fs ≡ true
  pub frames : list_all (is_frame ram.count) (flat_map list_numbers fs) ≡ true
  pub pages : HavePages ram (flat_map list_pages fs)

files_fact : (ram : Ram) (seen : List ℕ) (fs : List FileRecord) → Facts next_file (FileFact ram) seen fs → FilesFact ram fs
files_fact ram seen [] h = record { are = refl; frames = refl; pages = tt }
files_fact ram seen (f ∷ fs) h =
    let r = files_fact ram (next_file seen f) fs h.1 in
    record {
      are = and_from (is_file ram.count f) (list_all (is_file ram.count) fs) h.0.is r.are;
      frames = all_from (is_frame ram.count) (list_numbers f) (flat_map list_numbers fs) h.0.frames r.frames;
      pages = pages_from ram (list_pages f) (flat_map list_pages fs) h.0.pages r.pages;
    }

-- ---- a session

abbrev next_session : Seen → SessionRecord → Seen
next_session seen s = record {
  numbers = (seen.numbers ++ numbers_of s.files) ++ flat_map list_numbers (files_of s);
  files = seen.files + length (files_of s);
}

pub record SessionFact (v : Version) (ram : Ram) (seen : Seen) (s : SessionRecord) : Type 0 where
  pub keep : keeps (is_file_sheet v seen.files (length (files_of s))) (file_sheets s) ≡ true
  pub fit : list_all file_fits (items_of (file_sheets s)) ≡ true
  pub files : FilesFact ram (files_of s)
  pub frames : list_all (is_frame ram.count) (numbers_of s.files) ≡ true
  pub pages : HavePages ram (chain_pages 128 file_slot_bytes (file_sheets s))

abbrev SeenApart : Seen → Type 0
SeenApart seen = all_apart seen.numbers ≡ true

file_total : (v : Version) (before files : ℕ) (earlier : List (Sheet FileSlot)) (slots : List FileSlot) → is_file_sheet v before files earlier slots 0 ≡ true
    → length (items_of earlier) + length slots ≡ files
file_total v before files earlier slots h = eqb-true (length (items_of earlier) + length slots) files (and_parts _ (eqb (length (items_of earlier) + length slots) files) h).1

abbrev session_answer : SessionRecord → Seen → Result (SessionRecord × Seen) ℕ
session_answer s seen = Ok (s, seen)

session_answers : (s t : SessionRecord) (a b : Seen) → session_answer s a ≡ session_answer t b → (s ≡ t) × (a ≡ b)
session_answers s t a b e = (ap (λ (r : Result (SessionRecord × Seen) ℕ). fst s r) e, ap (λ (r : Result (SessionRecord × Seen) ℕ). snd a r) e)
  where
    fst : SessionRecord → Result (SessionRecord × Seen) ℕ → SessionRecord
    fst d (Ok p) = p.0
    fst d (Err n) = d

    snd : Seen → Result (SessionRecord × Seen) ℕ → Seen
    snd d (Ok p) = p.1
    snd d (Err n) = d

count_of_map : {A B : Type 0} (f : A → B) (sheets : List (Sheet A)) → length (items_of (map_items f sheets)) ≡ length (items_of sheets)
count_of_map f sheets = ap length (items_of_map f sheets) ∙ length-map (items_of sheets) f

abbrev session_with : SessionSlot → List (Sheet FileRecord) → SessionRecord
session_with slot files = record { name = slot.name; files = files }

session_found : (v : Version) (ram : Ram) → Holds ram → (seen : Seen) (slot : SessionSlot) (s : SessionRecord) (end : Seen) → SeenApart seen → is_session_slot v slot ≡ true
    → session_at v ram seen slot ≡ Ok (s, end) → Turn (session_at v ram) session_slot (is_session_slot v) next_session SeenApart (SessionFact v ram) seen slot s end
unfolding session_at
session_found v ram holds seen slot s end apart ok e =
    let test = is_file_sheet v seen.files slot.files in
    let after = λ (x : List (Sheet FileRecord) × List ℕ). session_answer (session_with slot x.0) (record { numbers = x.1; files = seen.files + slot.files }) in
    let a = bind_ok (cond (eqb slot.files 0) (Ok []) (chain_at ram file_layout test seen.numbers slot.first))
    (λ slots. each_sheet (file_at ram) (seen.numbers ++ numbers_of slots) slots >>= after) (s, end) e in
    let b = bind_ok (each_sheet (file_at ram) (seen.numbers ++ numbers_of a.0) a.0) after (s, end) a.2 in
    let files = b.0.0 in
    let m' = maybe_found ram file_layout file_slot_bytes file_fits test seen.numbers file_laid holds slot.first slot.files a.0 (file_total v seen.files slot.files) (session_first v slot ok) apart a.1 in
    let each = all_items test is_file_slot (λ earlier slots next h. (file_sheet_parts v seen.files slot.files earlier slots next h).1) [] a.0 m'.keep in
    let f = sheets_found (file_at ram) file_slot is_file_slot next_file Apart (FileFact ram) (file_found ram holds) (seen.numbers ++ numbers_of a.0) a.0 files b.0.1 m'.apart each b.1 in
    let M : List (Sheet FileSlot) → Type 0 = λ x. MaybeFound ram file_layout file_slot_bytes file_fits test seen.numbers slot.first slot.files x in
    let m = subst M (sym f.same) m' in
    let n : length (items_of files) ≡ slot.files = sym (count_of_map file_slot files) ∙ m.total in
    let first : first_of files ≡ slot.first = sym (first_of_map file_slot files) ∙ m.begins in
    let numbers : numbers_of a.0 ≡ numbers_of files = ap numbers_of (sym f.same) ∙ numbers_of_map file_slot files in
    let far : next_all next_file (seen.numbers ++ numbers_of a.0) (items_of files) ≡ (seen.numbers ++ numbers_of files) ++ flat_map list_numbers (items_of files) =
    next_files (seen.numbers ++ numbers_of a.0) (items_of files) ∙ ap (λ (x : List ℕ). (seen.numbers ++ x) ++ flat_map list_numbers (items_of files)) numbers in
    let is = session_answers (session_with slot files) s (record { numbers = b.0.1; files = seen.files + slot.files }) end b.2 in
    let P : SessionRecord → Type 0 = λ g. Turn (session_at v ram) session_slot (is_session_slot v) next_session SeenApart (SessionFact v ram) seen slot g end in
    subst P is.0 (record {
      same = ap (λ (x : ℕ). record { name = slot.name; files = x; first = first_of files }) n ∙ ap (λ (x : ℕ). record { name = slot.name; files = slot.files; first = x }) first;
      state = sym is.1 ∙ ap (λ (x : List ℕ). record { numbers = x; files = seen.files + slot.files }) (f.state ∙ far)
          ∙ ap (λ (x : ℕ). record { numbers = (seen.numbers ++ numbers_of files) ++ flat_map list_numbers (items_of files); files = seen.files + x }) (sym n);
      inv = ap all_apart (sym far) ∙ f.inv;
      fact = record {
        keep = ap (λ (x : ℕ). keeps (is_file_sheet v seen.files x) (map_items file_slot files)) n ∙ m.keep;
        fit = m.each;
        files = files_fact ram (seen.numbers ++ numbers_of a.0) (items_of files) f.facts;
        frames = ap (list_all (is_frame ram.count)) (sym (numbers_of_map file_slot files)) ∙ m.frames;
        pages = m.pages;
      };
    })

-- ---- all sessions

next_sessions : (seen : Seen) (ss : List SessionRecord) → (next_all next_session seen ss).numbers ≡ seen.numbers ++ flat_map session_numbers ss
next_sessions seen [] = sym (append-nil seen.numbers)
next_sessions seen (s ∷ ss) =
    next_sessions (next_session seen s) ss
    ∙ ap (λ (x : List ℕ). x ++ flat_map session_numbers ss) (append_assoc seen.numbers (numbers_of s.files) (flat_map list_numbers (files_of s)))
    ∙ append_assoc seen.numbers (session_numbers s) (flat_map session_numbers ss)

pub record SessionsFact (v : Version) (ram : Ram) (before : ℕ) (ss : List SessionRecord) : Type 0 where
  pub are : are_sessions v ram.count before ss ≡ true
  pub frames : list_all (is_frame ram.count) (flat_map session_numbers ss) ≡ true
  pub pages : HavePages ram (flat_map session_pages ss)

sessions_fact : (v : Version) (ram : Ram) (seen : Seen) (ss : List SessionRecord) → Facts next_session (SessionFact v ram) seen ss → SessionsFact v ram seen.files ss
sessions_fact v ram seen [] h = record { are = refl; frames = refl; pages = tt }
sessions_fact v ram seen (s ∷ ss) h =
    let r = sessions_fact v ram (next_session seen s) ss h.1 in
    let f = h.0 in
    record {
      are =
          and_from (keeps (is_file_sheet v seen.files (length (files_of s))) (file_sheets s) && (list_all file_fits (items_of (file_sheets s)) && list_all (is_file ram.count) (files_of s)))
          (are_sessions v ram.count (seen.files + length (files_of s)) ss)
          (and_from (keeps (is_file_sheet v seen.files (length (files_of s))) (file_sheets s)) (list_all file_fits (items_of (file_sheets s)) && list_all (is_file ram.count) (files_of s)) f.keep
          (and_from (list_all file_fits (items_of (file_sheets s))) (list_all (is_file ram.count) (files_of s)) f.fit f.files.are))
          r.are;
      frames = all_from (is_frame ram.count) (session_numbers s) (flat_map session_numbers ss)
          (all_from (is_frame ram.count) (numbers_of s.files) (flat_map list_numbers (files_of s)) f.frames f.files.frames) r.frames;
      pages = pages_from ram (session_pages s) (flat_map session_pages ss)
          (pages_from ram (chain_pages 128 file_slot_bytes (file_sheets s)) (flat_map list_pages (files_of s)) f.pages f.files.pages) r.pages;
    }

named_fit : (v : Version) (slots : List SessionSlot) → list_all (is_session_slot v) slots ≡ true → list_all session_numbers_fit slots ≡ true → list_all session_fits slots ≡ true
named_fit v [] h g = refl
named_fit v (s ∷ slots) h g =
    let hs = and_parts (is_session_slot v s) (list_all (is_session_slot v) slots) h in
    let gs = and_parts (session_numbers_fit s) (list_all session_numbers_fit slots) g in
    let a = and_parts (is_name s.name && nat_le s.files v.session_files) (has_first s.files s.first) hs.0 in
    let b = and_parts (is_name s.name) (nat_le s.files v.session_files) a.0 in
    let c = and_parts (fits s.files) (fits s.first) gs.0 in
    and_from (session_fits s) (list_all session_fits slots)
    (and_from (is_name s.name && fits s.files) (fits s.first) (and_from (is_name s.name) (fits s.files) b.0 c.0) c.1) (named_fit v slots hs.1 gs.1)

-- Records that are read are those that the frames spell.
pub records_found : (v : Version) (ram : Ram) (header : ℕ) (records : List (Sheet SessionRecord)) → Holds ram → records_at v ram header ≡ Ok records → SpellRecords v ram header records
unfolding records_at chain_at
records_found v ram header records holds e =
    let test = is_session_sheet v in
    let sessions = λ (slots : List (Sheet SessionSlot)). each_sheet (session_at v ram) (record { numbers = numbers_of slots; files = 0 }) slots in
    let a = bind_ok (chain_from (sheet_at ram session_layout test []) ram.count [] header) (λ slots. sessions slots >>= λ x. all_read x.0) records e in
    let b = bind_ok (sessions a.0) (λ x. all_read x.0) records a.2 in
    let c' = chain_found ram session_layout session_slot_bytes session_numbers_fit test [] session_laid holds ram.count [] header a.0 refl a.1 in
    let C : List (Sheet SessionSlot) → Type 0 = λ x. (first_of x ≡ header) × (is_empty x ≡ false) × (keeps test x ≡ true) × (list_all session_numbers_fit (items_of x) ≡ true)
    × (list_all (is_frame ram.count) (numbers_of x) ≡ true) × (all_apart (numbers_of x) ≡ true) × HavePages ram (chain_pages 128 session_slot_bytes x) in
    let c0 = subst C (sym c'.parts) (c'.begins, c'.filled, c'.keeps, c'.each, c'.frames, c'.apart, c'.pages) in
    let each = all_items test (is_session_slot v) (λ earlier items next h. (session_sheet_parts v earlier items next h).1) [] a.0 c0.2 in
    let begin : Seen = record { numbers = numbers_of a.0; files = 0 } in
    let f = sheets_found (session_at v ram) session_slot (is_session_slot v) next_session SeenApart (SessionFact v ram) (session_found v ram holds) begin a.0 b.0.0 b.0.1 c0.5 each b.1 in
    let r = b.0.0 in
    let c = subst C (sym f.same) c0 in
    let slots = map_items session_slot r in
    let is = sessions_fact v ram begin (items_of r) f.facts in
    let ids : list_all (is_session_slot v) (items_of slots) ≡ true = ap (λ (x : List (Sheet SessionSlot)). list_all (is_session_slot v) (items_of x)) f.same ∙ each in
    let fit = named_fit v (items_of slots) ids c.3 in
    let numbers : numbers_of slots ≡ numbers_of r = numbers_of_map session_slot r in
    let frames : list_all (is_frame ram.count) (record_numbers r) ≡ true =
    all_from (is_frame ram.count) (numbers_of r) (flat_map session_numbers (items_of r)) (ap (list_all (is_frame ram.count)) (sym numbers) ∙ c.4) is.frames in
    let apart : all_apart (record_numbers r) ≡ true =
    ap (λ (x : List ℕ). all_apart (x ++ flat_map session_numbers (items_of r))) (sym numbers ∙ ap numbers_of f.same) ∙ ap all_apart (sym (next_sessions begin (items_of r))) ∙ f.inv in
    let some : not (is_empty r) ≡ true = ap not (sym (empty_of_map r) ∙ c.1) in
    let P : List (Sheet SessionRecord) → Type 0 = λ x. SpellRecords v ram header x in
    subst P (read_is r records b.2) (record {
      begins = sym (first_of_map session_slot r) ∙ c.0;
      rules =
          and_from (not (is_empty r) && keeps test slots && list_all session_fits (items_of slots) && are_sessions v ram.count 0 (items_of r) && list_all (is_frame ram.count) (record_numbers r)) (all_apart (record_numbers r))
          (and_from (not (is_empty r) && keeps test slots && list_all session_fits (items_of slots) && are_sessions v ram.count 0 (items_of r)) (list_all (is_frame ram.count) (record_numbers r))
          (and_from (not (is_empty r) && keeps test slots && list_all session_fits (items_of slots)) (are_sessions v ram.count 0 (items_of r))
          (and_from (not (is_empty r) && keeps test slots) (list_all session_fits (items_of slots)) (and_from (not (is_empty r)) (keeps test slots) some c.2) fit) is.are) frames) apart;
      pages = pages_from ram (chain_pages 128 session_slot_bytes slots) (flat_map session_pages (items_of r)) c.6 is.pages;
    })
  where
    empty_of_map : (r : List (Sheet SessionRecord)) → is_empty (map_items session_slot r) ≡ is_empty r
    empty_of_map [] = refl
    empty_of_map (s ∷ r) = refl
