-- Files that are read are within their limits, since each stood in a slot that keeps its rules.
use Rattle.std.proofs.Common.{◌≡◌, ℕ, zero, suc, ◌+◌, ◌≤◌, Bool, true, false, cond, eqb, List, [], ◌∷◌, ◌++◌, length, Option, Some, None, Result, Ok, Err, refl, sym, ap, subst, ◌∙◌, arith}
use Rattle.std.specs.Prelude.{not, ◌&&◌, ◌||◌, ◌==◌, nat_lt, nat_le, nat_eq, ◌*◌, ◌^◌}
use Rattle.std.specs.List.{list_all, list_any}
use Rattle.std.proofs.lemmas.Bool.{and_parts, and_from, leb-true, le-leb}
use Rattle.std.proofs.lemmas.List.{append-nil}
use Rattle.std.proofs.lemmas.List.Concat.{flat_map-append}
use Rattle.std.proofs.lemmas.List.Folds.{list_all-append}
use Rattle.ho_base.specs.declared.limits.TheConstants.{PAGE_BYTES, MAX_ORDER, FILE_BYTES}
use Rattle.ho_events.specs.Lists.{pieces}
use Rattle.record_frames.specs.Ram.{Ram, is_frame}
use Rattle.record_frames.specs.Sheets.{Sheet, FileSlot, SessionSlot, FileRecord, SessionRecord, items_of, numbers_of}
use Rattle.record_frames.specs.Rules.{Version, all_rise, is_filled, is_of_kind, has_first, is_file_slot, is_file_sheet, is_list_sheet, is_session_sheet}
use Rattle.record_frames.specs.Kept.{files_of}
use Rattle.record_frames.specs.Reading.{◌>>=◌, also, Front, Layout, Seen, front_at, sheet_at, go_on, chain_from, chain_at, each_item, each_sheet, list_layout, file_layout, session_layout, file_at, session_at, records_at}
use Rattle.kho_records.specs.Survey.{is_within, all_within}

-- a step that went
bind_ok : {A B E : Type 0} (r : Result A E) (f : A → Result B E) (y : B) → (r >>= f) ≡ Ok y → (x : A) × (r ≡ Ok x) × (f x ≡ Ok y)
bind_ok (Ok x) f y e = (x, refl, e)
bind_ok (Err x) f y e = absurd cc

-- ---- a chain: what its test says of items holds of all

module _ {E : Type 0} (ram : Ram) (l : Layout E) (test : List (Sheet E) → List E → ℕ → Bool) (seen : List ℕ) (ok : E → Bool)
    (tell : (earlier : List (Sheet E)) (items : List E) (next : ℕ) → test earlier items next ≡ true → list_all ok items ≡ true) where
  abbrev tested : List (Sheet E) → Front E → Option (Front E)
  tested earlier f = cond (test earlier f.items f.next) (Some f) None

  front_tested : (earlier : List (Sheet E)) (at : ℕ) (f : Front E) → sheet_at ram l test seen earlier at ≡ Some f → test earlier f.items f.next ≡ true
  unfolding sheet_at
  front_tested earlier at f e = at_fresh (is_frame ram.count at && not (list_any (nat_eq at) (seen ++ numbers_of earlier))) e
    where
      at_test : (g : Front E) (b : Bool) → test earlier g.items g.next ≡ b → cond b (Some g) None ≡ Some f → test earlier f.items f.next ≡ true
      at_test g true h e =
          let same : g ≡ f = cc in
          ap (λ (x : Front E). test earlier x.items x.next) (sym same) ∙ h
      at_test g false h e = absurd cc

      at_front : (o : Option (Front E)) → also o (tested earlier) ≡ Some f → test earlier f.items f.next ≡ true
      at_front None e = absurd cc
      at_front (Some g) e = at_test g (test earlier g.items g.next) refl e

      at_fresh : (b : Bool) → cond b (also (front_at l (ram.page at)) (tested earlier)) None ≡ Some f → test earlier f.items f.next ≡ true
      at_fresh true e = at_front (front_at l (ram.page at)) e
      at_fresh false e = absurd cc

  abbrev AllOk : List (Sheet E) → Type 0
  AllOk sheets = list_all ok (items_of sheets) ≡ true

  more_ok : (earlier : List (Sheet E)) (at : ℕ) (f : Front E) → AllOk earlier → list_all ok f.items ≡ true → AllOk (earlier ++ (record { at = at; items = f.items }) ∷ [])
  more_ok earlier at f h g =
      ap (list_all ok) (flat_map-append (λ (s : Sheet E). s.items) earlier ((record { at = at; items = f.items }) ∷ []) ∙ ap (λ (x : List E). items_of earlier ++ x) (append-nil f.items))
      ∙ list_all-append ok (items_of earlier) f.items ∙ and_from (list_all ok (items_of earlier)) (list_all ok f.items) h g

  -- one frame of a chain, with what holds of the rest
  step_ok : (n : ℕ) (earlier : List (Sheet E)) (at : ℕ) (sheets : List (Sheet E)) → AllOk earlier
      → ((now : List (Sheet E)) (next : ℕ) → AllOk now → chain_from (sheet_at ram l test seen) n now next ≡ Ok sheets → AllOk sheets)
      → (o : Option (Front E)) → sheet_at ram l test seen earlier at ≡ o → go_on earlier at (chain_from (sheet_at ram l test seen) n) o ≡ Ok sheets → AllOk sheets
  step_ok n earlier at sheets h rest None e r = absurd cc
  step_ok n earlier at sheets h rest (Some f) e r =
      let now : List (Sheet E) = earlier ++ (record { at = at; items = f.items }) ∷ [] in
      let fine : AllOk now = more_ok earlier at f h (tell earlier f.items f.next (front_tested earlier at f e)) in
      at_next now fine (eqb f.next 0) r
    where
      at_next : (now : List (Sheet E)) → AllOk now → (b : Bool) → cond b (Ok now) (chain_from (sheet_at ram l test seen) n now f.next) ≡ Ok sheets → AllOk sheets
      at_next now fine true r =
          let same : now ≡ sheets = cc in
          subst AllOk same fine
      at_next now fine false r = rest now f.next fine r

  from_ok : (n : ℕ) (earlier : List (Sheet E)) (at : ℕ) (sheets : List (Sheet E)) → AllOk earlier → chain_from (sheet_at ram l test seen) n earlier at ≡ Ok sheets → AllOk sheets
  from_ok zero earlier at sheets h e = absurd cc
  from_ok (suc n) earlier at sheets h e =
      step_ok n earlier at sheets h (λ now next fine r. from_ok n now next sheets fine r) (sheet_at ram l test seen earlier at) refl e

  chain_ok : (at : ℕ) (sheets : List (Sheet E)) → chain_at ram l test seen at ≡ Ok sheets → AllOk sheets
  unfolding chain_at
  chain_ok at sheets e = from_ok ram.count [] at sheets refl e

-- ---- items that are read in turn

module _ {A B S : Type 0} (read : S → A → Result (B × S) ℕ) (ok : A → Bool) (fine : B → Bool)
    (turn : (st : S) (x : A) (y : B) (end : S) → ok x ≡ true → read st x ≡ Ok (y, end) → fine y ≡ true) where
  first_of : List B → Result (List B × S) ℕ → List B
  first_of d (Ok p) = p.0
  first_of d (Err n) = d

  items_ok : (st : S) (xs : List A) (ys : List B) (end : S) → list_all ok xs ≡ true → each_item read st xs ≡ Ok (ys, end) → list_all fine ys ≡ true
  unfolding first_of
  items_ok st [] ys end h e = ap (λ (r : Result (List B × S) ℕ). list_all fine (first_of [] r)) (sym e)
  items_ok st (x ∷ xs) ys end h e =
      let os = and_parts (ok x) (list_all ok xs) h in
      let a = bind_ok (read st x) (λ y. each_item read y.1 xs >>= λ r. Ok (y.0 ∷ r.0, r.1)) (ys, end) e in
      let b = bind_ok (each_item read a.0.1 xs) (λ r. Ok (a.0.0 ∷ r.0, r.1)) (ys, end) a.2 in
      let one : fine a.0.0 ≡ true = turn st x a.0.0 a.0.1 os.0 a.1 in
      let rest : list_all fine b.0.0 ≡ true = items_ok a.0.1 xs b.0.0 b.0.1 os.1 b.1 in
      ap (λ (r : Result (List B × S) ℕ). list_all fine (first_of [] r)) (sym b.2) ∙ and_from (fine a.0.0) (list_all fine b.0.0) one rest

  sheets_of : Result (List (Sheet B) × S) ℕ → List (Sheet B)
  sheets_of (Ok p) = p.0
  sheets_of (Err n) = []

  sheets_ok : (st : S) (xs : List (Sheet A)) (ys : List (Sheet B)) (end : S) → list_all ok (items_of xs) ≡ true → each_sheet read st xs ≡ Ok (ys, end) → list_all fine (items_of ys) ≡ true
  unfolding sheets_of
  sheets_ok st [] ys end h e = ap (λ (r : Result (List (Sheet B) × S) ℕ). list_all fine (items_of (sheets_of r))) (sym e)
  sheets_ok st (s ∷ xs) ys end h e =
      let os = and_parts (list_all ok s.items) (list_all ok (items_of xs)) (sym (list_all-append ok s.items (items_of xs)) ∙ h) in
      let a = bind_ok (each_item read st s.items) (λ items. each_sheet read items.1 xs >>= λ rest. Ok ((record { at = s.at; items = items.0 }) ∷ rest.0, rest.1)) (ys, end) e in
      let b = bind_ok (each_sheet read a.0.1 xs) (λ rest. Ok ((record { at = s.at; items = a.0.0 }) ∷ rest.0, rest.1)) (ys, end) a.2 in
      let one : list_all fine a.0.0 ≡ true = items_ok st s.items a.0.0 a.0.1 os.0 a.1 in
      let rest : list_all fine (items_of b.0.0) ≡ true = sheets_ok a.0.1 xs b.0.0 b.0.1 os.1 b.1 in
      ap (λ (r : Result (List (Sheet B) × S) ℕ). list_all fine (items_of (sheets_of r))) (sym b.2)
      ∙ list_all-append fine a.0.0 (items_of b.0.0) ∙ and_from (list_all fine a.0.0) (list_all fine (items_of b.0.0)) one rest

-- ---- a file

le_trans : (a b c : ℕ) → nat_le a b ≡ true → nat_le b c ≡ true → nat_le a c ≡ true
le_trans a b c h g =
    let low : a ≤ b = leb-true a b h in
    let high : b ≤ c = leb-true b c g in
    le-leb a c (omega (arith, low, high))

abbrev with_lists : FileSlot → List (Sheet ℕ) → FileRecord
with_lists s lists = record { token = s.token; kind = s.kind; order = s.order; size = s.size; position = s.position; handle = s.handle; lists = lists }

slot_within : (s : FileSlot) (lists : List (Sheet ℕ)) → is_file_slot s ≡ true → is_within (with_lists s lists) ≡ true
slot_within s lists h =
    let five = and_parts _ (has_first s.folios s.first) h in
    let four = and_parts _ (is_of_kind s s.kind) five.0 in
    let three = and_parts _ (s.folios == pieces s.size (PAGE_BYTES * 2 ^ s.order)) four.0 in
    let two = and_parts (nat_le s.order MAX_ORDER && nat_le s.size FILE_BYTES) (nat_le s.position s.size) three.0 in
    let one = and_parts (nat_le s.order MAX_ORDER) (nat_le s.size FILE_BYTES) two.0 in
    and_from (nat_le s.order MAX_ORDER && nat_le s.size FILE_BYTES) (nat_le s.position FILE_BYTES) two.0 (le_trans s.position s.size FILE_BYTES two.1 one.1)

file_of : FileRecord → Result (FileRecord × List ℕ) ℕ → FileRecord
file_of d (Ok p) = p.0
file_of d (Err n) = d

file_ok : (ram : Ram) (seen : List ℕ) (s : FileSlot) (f : FileRecord) (end : List ℕ) → is_file_slot s ≡ true → file_at ram seen s ≡ Ok (f, end) → is_within f ≡ true
unfolding file_at file_of
file_ok ram seen s f end h e =
    let a = bind_ok (cond (eqb s.folios 0) (Ok []) (chain_at ram list_layout (is_list_sheet ram.count s.order s.folios) seen s.first)) (λ lists. Ok (with_lists s lists, seen ++ numbers_of lists)) (f, end) e in
    ap (λ (r : Result (FileRecord × List ℕ) ℕ). is_within (file_of f r)) (sym a.2) ∙ slot_within s a.0 h

-- ---- a session

slots_told : (v : Version) (before files : ℕ) (earlier : List (Sheet FileSlot)) (slots : List FileSlot) (next : ℕ) → is_file_sheet v before files earlier slots next ≡ true
    → list_all is_file_slot slots ≡ true
slots_told v before files earlier slots next h =
    let long : ℕ = length (items_of earlier) + length slots in
    let four = and_parts _ (nat_lt 0 next || long == files) h in
    let three = and_parts _ (all_rise (λ (a b : FileSlot). nat_lt a.token b.token) (items_of earlier ++ slots)) four.0 in
    let two = and_parts _ (nat_le (before + long) v.files) three.0 in
    let one = and_parts _ (nat_le long v.session_files) two.0 in
    (and_parts (is_filled v (length slots) next) (list_all is_file_slot slots) one.0).1

abbrev session_within : SessionRecord → Bool
session_within s = list_all is_within (files_of s)

session_of : SessionRecord → Result (SessionRecord × Seen) ℕ → SessionRecord
session_of d (Ok p) = p.0
session_of d (Err n) = d

session_ok : (v : Version) (ram : Ram) (seen : Seen) (s : SessionSlot) (r : SessionRecord) (end : Seen) → true ≡ true → session_at v ram seen s ≡ Ok (r, end) → session_within r ≡ true
unfolding session_at session_of
session_ok v ram seen s r end h e =
    let test = is_file_sheet v seen.files s.files in
    let a = bind_ok (cond (eqb s.files 0) (Ok []) (chain_at ram file_layout test seen.numbers s.first))
    (λ slots. each_sheet (file_at ram) (seen.numbers ++ numbers_of slots) slots >>= λ files. Ok (record { name = s.name; files = files.0 }, record { numbers = files.1; files = seen.files + s.files })) (r, end) e in
    let b = bind_ok (each_sheet (file_at ram) (seen.numbers ++ numbers_of a.0) a.0) (λ files. Ok (record { name = s.name; files = files.0 }, record { numbers = files.1; files = seen.files + s.files })) (r, end) a.2 in
    let slots : list_all is_file_slot (items_of a.0) ≡ true = at_files (eqb s.files 0) a.0 a.1 in
    ap (λ (x : Result (SessionRecord × Seen) ℕ). session_within (session_of r x)) (sym b.2)
    ∙ sheets_ok (file_at ram) is_file_slot is_within (file_ok ram) (seen.numbers ++ numbers_of a.0) a.0 b.0.0 b.0.1 slots b.1
  where
    at_files : (b : Bool) (slots : List (Sheet FileSlot)) → cond b (Ok []) (chain_at ram file_layout (is_file_sheet v seen.files s.files) seen.numbers s.first) ≡ Ok slots
        → list_all is_file_slot (items_of slots) ≡ true
    at_files true slots e =
        let none : [] ≡ slots = cc in
        ap (λ (x : List (Sheet FileSlot)). list_all is_file_slot (items_of x)) (sym none)
    at_files false slots e =
        chain_ok ram file_layout (is_file_sheet v seen.files s.files) seen.numbers is_file_slot (slots_told v seen.files s.files) s.first slots e

-- ---- all records

anything : {A : Type 0} (xs : List A) → list_all (λ x. true) xs ≡ true
anything [] = refl
anything (x ∷ xs) = anything xs

pub records_within : (v : Version) (ram : Ram) (header : ℕ) (records : List (Sheet SessionRecord)) → records_at v ram header ≡ Ok records → all_within (items_of records) ≡ true
unfolding records_at
records_within v ram header records e =
    let a = bind_ok (chain_at ram session_layout (is_session_sheet v) [] header)
    (λ slots. each_sheet (session_at v ram) (record { numbers = numbers_of slots; files = 0 }) slots >>= λ sessions. Ok sessions.0) records e in
    let b = bind_ok (each_sheet (session_at v ram) (record { numbers = numbers_of a.0; files = 0 }) a.0) (λ sessions. Ok sessions.0) records a.2 in
    let same : b.0.0 ≡ records = cc (b.2) in
    ap (λ (x : List (Sheet SessionRecord)). all_within (items_of x)) (sym same)
    ∙ sheets_ok (session_at v ram) (λ x. true) session_within (session_ok v ram) (record { numbers = numbers_of a.0; files = 0 }) a.0 b.0.0 b.0.1 (anything (items_of a.0)) b.1
