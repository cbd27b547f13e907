-- Sessions and records step by step, as the program reads them, and the record frames that are read with them.
use Rattle.std.proofs.Common.{◌≡◌, ℕ, ◌+◌, eqb, Bool, true, false, cond, List, [], ◌∷◌, ◌++◌, length, drop, Option, Some, None, Result, Ok, Err, refl, sym, ap, ◌∙◌, append_assoc}
use Rattle.std.specs.List.{list_any, flat_map}
use Rattle.std.proofs.lemmas.List.{append-nil}
use Rattle.std.specs.Prelude.{not, ◌&&◌, nat_eq}
use Rattle.ho_base.specs.Bytes.{u64_at}
use Rattle.record_frames.specs.Slots.{kept_if, file_kept}
use Rattle.record_frames.specs.Ram.{Ram, is_frame}
use Rattle.record_frames.specs.Sheets.{Sheet, FileSlot, SessionSlot, FileRecord, SessionRecord, items_of, numbers_of, list_numbers, session_numbers}
use Rattle.record_frames.specs.Rules.{version_1, is_file_sheet, is_list_sheet, is_session_sheet}
use Rattle.record_frames.specs.Reading.{◌>>=◌, Seen, file_layout, list_layout, session_layout, items_at, each_item, each_sheet, chain_at, file_at, session_at, records_at}
use Rattle.record_frames.specs.Fronts.{has_head, has_slots, tokens_rise, file_front_at, session_front_at, one_sheet}
use Rattle.record_frames.specs.Sessions.{file_frames as file_sheets}
use Rattle.record_frames.proofs.FoundTurns.{bind_ok}
use Rattle.record_frames.proofs.FileSheet.{file_chain}
use Rattle.record_frames.proofs.OneSheet.{items_long, session_chain}
use Rattle.record_frames.proofs.EachItem.{answered, pairs_are, items_count, items_noted, sheets_noted}

-- ---- how many slots a file frame has

kept_is : (slots : List FileSlot) (test : Bool) (o : Option (List FileSlot)) → cond test (kept_if tokens_rise o) None ≡ Some slots → o ≡ Some slots
kept_is slots false o e = absurd cc
kept_is slots true None e = absurd cc
kept_is slots true (Some xs) e = at_rise (tokens_rise xs) e
  where
    at_rise : (b : Bool) → cond b (Some xs) None ≡ Some slots → Some xs ≡ Some slots
    at_rise true h = h
    at_rise false h = absurd cc

front_count : (ram : Ram) (before files : ℕ) (seen : List ℕ) (at : ℕ) (slots : List FileSlot) → file_front_at ram before files seen at ≡ Some slots → length slots ≡ files
unfolding file_front_at
front_count ram before files seen at slots e =
    items_long 128 file_kept files (drop 128 (ram.page at)) slots
    (kept_is slots (is_frame ram.count at && not (list_any (nat_eq at) seen) && has_head (ram.page at) && has_slots (u64_at (ram.page at) 8) before files)
    (items_at 128 file_kept files (drop 128 (ram.page at))) e)

-- ---- a session

abbrev session_end : Seen → SessionSlot → List (Sheet FileRecord) × List ℕ → Result (SessionRecord × Seen) ℕ
session_end st s files = Ok (record { name = s.name; files = files.0 }, record { numbers = files.1; files = st.files + s.files })

module _ (ram : Ram) (st : Seen) (s : SessionSlot) where
  abbrev after_front : Result (List (Sheet FileSlot)) ℕ → Result (SessionRecord × Seen) ℕ
  after_front r = r >>= λ slots. each_sheet (file_at ram) (st.numbers ++ numbers_of slots) slots >>= session_end st s

  abbrev file_frames : Result (List (Sheet FileSlot)) ℕ
  file_frames = chain_at ram file_layout (is_file_sheet version_1 st.files s.files) st.numbers s.first

  session_steps : session_at version_1 ram st s ≡ after_front (cond (eqb s.files 0) (Ok []) file_frames)
  unfolding session_at
  session_steps = refl

  -- a session without files
  pub no_files : eqb s.files 0 ≡ true → (at : ℕ) (files : List FileRecord) → files ≡ []
      → session_at version_1 ram st s ≡ Ok (record { name = s.name; files = file_sheets at files }, record { numbers = st.numbers; files = st.files + s.files })
  no_files h at files none =
      session_steps ∙ ap (λ (b : Bool). after_front (cond b (Ok []) file_frames)) h
      ∙ ap (λ (l : List ℕ). Ok (record { name = s.name; files = [] }, record { numbers = l; files = st.files + s.files })) (append-nil st.numbers)
      ∙ ap (λ (l : List FileRecord). Ok (record { name = s.name; files = file_sheets at l }, record { numbers = st.numbers; files = st.files + s.files })) (sym none)

  with_files : eqb s.files 0 ≡ false → (o : Option (List FileSlot)) → file_front_at ram st.files s.files st.numbers s.first ≡ o → session_at version_1 ram st s ≡ after_front (one_sheet s.first o)
  with_files h o e =
      session_steps ∙ ap (λ (b : Bool). after_front (cond b (Ok []) file_frames)) h
      ∙ ap after_front (file_chain ram st.files s.files st.numbers s.first ∙ ap (λ (p : Option (List FileSlot)). one_sheet s.first p) e)

  -- its file frame breaks a rule
  pub front_breaks : eqb s.files 0 ≡ false → file_front_at ram st.files s.files st.numbers s.first ≡ None → session_at version_1 ram st s ≡ Err s.first
  front_breaks h e = with_files h None e

  abbrev after_files : Result (List FileRecord × List ℕ) ℕ → Result (SessionRecord × Seen) ℕ
  after_files r = (r >>= λ items. Ok ((record { at = s.first; items = items.0 }) ∷ [], items.1)) >>= session_end st s

  -- its files
  pub files_read : eqb s.files 0 ≡ false → (slots : List FileSlot) → file_front_at ram st.files s.files st.numbers s.first ≡ Some slots → (r : Result (List FileRecord × List ℕ) ℕ)
      → each_item (file_at ram) (st.numbers ++ s.first ∷ []) slots ≡ r → session_at version_1 ram st s ≡ after_files r
  files_read h slots e r read = with_files h (Some slots) e ∙ ap after_files read

  pub files_break : eqb s.files 0 ≡ false → (slots : List FileSlot) → file_front_at ram st.files s.files st.numbers s.first ≡ Some slots → (p : ℕ)
      → each_item (file_at ram) (st.numbers ++ s.first ∷ []) slots ≡ Err p → session_at version_1 ram st s ≡ Err p
  files_break h slots e p read = files_read h slots e (Err p) read

  pub whole_session : eqb s.files 0 ≡ false → (slots : List FileSlot) → file_front_at ram st.files s.files st.numbers s.first ≡ Some slots → (files : List FileRecord) (end : List ℕ)
      → each_item (file_at ram) (st.numbers ++ s.first ∷ []) slots ≡ Ok (files, end)
      → session_at version_1 ram st s ≡ Ok (record { name = s.name; files = file_sheets s.first files }, record { numbers = end; files = st.files + s.files })
  whole_session h slots e files end read =
      let long : length files ≡ s.files = items_count (file_at ram) (st.numbers ++ s.first ∷ []) slots files end read ∙ front_count ram st.files s.files st.numbers s.first slots e in
      files_read h slots e (Ok (files, end)) read
      ∙ ap (λ (l : List (Sheet FileRecord)). Ok (record { name = s.name; files = l }, record { numbers = end; files = st.files + s.files })) (one_frame files (λ z. not_none (sym long ∙ z)))
    where
      not_none : s.files ≡ 0 → ⊥
      not_none z = let no : eqb s.files 0 ≡ true = ap (λ (n : ℕ). eqb n 0) z in absurd cc

      one_frame : (files : List FileRecord) → (length files ≡ 0 → ⊥) → (record { at = s.first; items = files }) ∷ [] ≡ file_sheets s.first files
      one_frame [] some = absurd (some refl)
      one_frame (f ∷ files) some = refl

-- ---- the records

module _ (ram : Ram) (header : ℕ) where
  abbrev begun : List (Sheet SessionSlot) → Seen
  begun slots = record { numbers = numbers_of slots; files = 0 }

  abbrev after_sessions : Result (List (Sheet SessionSlot)) ℕ → Result (List (Sheet SessionRecord)) ℕ
  after_sessions r = r >>= λ slots. each_sheet (session_at version_1 ram) (begun slots) slots >>= λ sessions. Ok sessions.0

  record_steps : records_at version_1 ram header ≡ after_sessions (chain_at ram session_layout (is_session_sheet version_1) [] header)
  unfolding records_at
  record_steps = refl

  from_front : (o : Option (List SessionSlot)) → session_front_at ram header ≡ o → records_at version_1 ram header ≡ after_sessions (one_sheet header o)
  from_front o e = record_steps ∙ ap after_sessions (session_chain ram header ∙ ap (λ (p : Option (List SessionSlot)). one_sheet header p) e)

  pub header_breaks : session_front_at ram header ≡ None → records_at version_1 ram header ≡ Err header
  header_breaks e = from_front None e

  abbrev at_last : Result (List SessionRecord × Seen) ℕ → Result (List (Sheet SessionRecord)) ℕ
  at_last r = (r >>= λ items. answered ((record { at = header; items = items.0 }) ∷ []) items.1) >>= λ sessions. Ok sessions.0

  pub sessions_read : (slots : List SessionSlot) → session_front_at ram header ≡ Some slots → (r : Result (List SessionRecord × Seen) ℕ)
      → each_item (session_at version_1 ram) (record { numbers = header ∷ []; files = 0 }) slots ≡ r → records_at version_1 ram header ≡ at_last r
  sessions_read slots e r read = from_front (Some slots) e ∙ ap at_last read

-- ---- which frames are read

file_noted : (ram : Ram) (st : List ℕ) (slot : FileSlot) (f : FileRecord) (end : List ℕ) → file_at ram st slot ≡ answered f end → end ≡ st ++ list_numbers f
unfolding file_at
file_noted ram st slot f end e =
    let made : List (Sheet ℕ) → FileRecord =
    λ lists. record { token = slot.token; kind = slot.kind; order = slot.order; size = slot.size; position = slot.position; handle = slot.handle; lists = lists } in
    let a = bind_ok (cond (eqb slot.folios 0) (Ok []) (chain_at ram list_layout (is_list_sheet ram.count slot.order slot.folios) st slot.first)) (λ lists. answered (made lists) (st ++ numbers_of lists)) (f, end) e in
    let is = pairs_are (made a.0) f (st ++ numbers_of a.0) end a.2 in
    sym is.1 ∙ ap (λ (g : FileRecord). st ++ list_numbers g) is.0

session_noted : (ram : Ram) (st : Seen) (s : SessionSlot) (r : SessionRecord) (end : Seen) → session_at version_1 ram st s ≡ answered r end → end.numbers ≡ st.numbers ++ session_numbers r
session_noted ram st s r end e =
    let a = bind_ok (cond (eqb s.files 0) (Ok []) (file_frames ram st s)) (λ slots. each_sheet (file_at ram) (st.numbers ++ numbers_of slots) slots >>= session_end st s) (r, end) (sym (session_steps ram st s) ∙ e) in
    let b = bind_ok (each_sheet (file_at ram) (st.numbers ++ numbers_of a.0) a.0) (session_end st s) (r, end) a.2 in
    let noted = sheets_noted (file_at ram) (λ l. l) list_numbers (file_noted ram) (st.numbers ++ numbers_of a.0) a.0 b.0.0 b.0.1 b.1 in
    let made : SessionRecord = record { name = s.name; files = b.0.0 } in
    let is = pairs_are made r (record { numbers = b.0.1; files = st.files + s.files }) end b.2 in
    ap (λ (x : Seen). x.numbers) (sym is.1) ∙ noted.0
    ∙ ap (λ (l : List ℕ). (st.numbers ++ l) ++ flat_map list_numbers (items_of b.0.0)) noted.1
    ∙ append_assoc st.numbers (numbers_of b.0.0) (flat_map list_numbers (items_of b.0.0))
    ∙ ap (λ (x : SessionRecord). st.numbers ++ session_numbers x) is.0

-- the record frames that were read with these sessions
pub sessions_noted : (ram : Ram) (st : Seen) (slots : List SessionSlot) (sessions : List SessionRecord) (end : Seen) → each_item (session_at version_1 ram) st slots ≡ Ok (sessions, end)
    → end.numbers ≡ st.numbers ++ flat_map session_numbers sessions
sessions_noted ram st slots sessions end e = items_noted (session_at version_1 ram) (λ x. x.numbers) session_numbers (session_noted ram) st slots sessions end e
