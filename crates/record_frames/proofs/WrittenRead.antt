-- What is written in the order of use stands there in the order of reading.
use Rattle.std.proofs.Common.{◌≡◌, ℕ, List, [], ◌∷◌, ◌++◌, length, take, drop, refl, sym, ap, subst, ◌∙◌}
use Rattle.std.proofs.lemmas.List.{append-nil, take_at}
use Rattle.std.specs.List.{flat_map, AllByRecursion}
use Rattle.record_frames.specs.Ram.{Ram, Page, Begins}
use Rattle.record_frames.specs.Sheets.{list_pages, session_pages, SessionRecord, FileRecord, items_of, map_items, chain_pages, file_slot, file_slot_bytes}
use Rattle.record_frames.specs.Carries.{HavePages}
use Rattle.record_frames.specs.Writing.{framed, file_sheets_in, session_records, file_records, file_pages, files_in, file_frames, files_of_sessions, lists_of_files, lists_of_session, pages_in_use}
use Rattle.record_frames.specs.Written.{HoldPages, WrittenAreRead}
use Rattle.record_frames.specs.declared.carried.CarriedSession.{CarriedSession}
use Rattle.record_frames.proofs.WrittenSessions.{files_kept}
use Rattle.record_frames.proofs.WrittenInTurn.{flat_map_two, records_two}

-- a fact of each element of two lists
first_of_two : {A : Type 0} (P : A → Type 0) (xs ys : List A) → AllByRecursion P (xs ++ ys) → AllByRecursion P xs
first_of_two P [] ys h = tt
first_of_two P (x ∷ xs) ys h = (h.0, first_of_two P xs ys h.1)

second_of_two : {A : Type 0} (P : A → Type 0) (xs ys : List A) → AllByRecursion P (xs ++ ys) → AllByRecursion P ys
second_of_two P [] ys h = h
second_of_two P (x ∷ xs) ys h = second_of_two P xs ys h.1

of_both : {A : Type 0} (P : A → Type 0) (xs ys : List A) → AllByRecursion P xs → AllByRecursion P ys → AllByRecursion P (xs ++ ys)
of_both P [] ys h k = k
of_both P (x ∷ xs) ys h k = (h.0, of_both P xs ys h.1 k)

-- a frame that holds bytes begins with them
begins_framed : (bytes front : List ℕ) → bytes ≡ framed front → Begins bytes front
unfolding framed
begins_framed bytes front e = ap (take (length front)) e ∙ take_at front _ (length front) refl

pub begin_pages : (ram : Ram) (ps : List Page) → HoldPages ram ps → HavePages ram ps
begin_pages ram [] h = tt
begin_pages ram (p ∷ ps) h = (begins_framed (ram.page p.at) p.bytes h.0, begin_pages ram ps h.1)

-- session by session
in_turn : (ram : Ram) (ats lists : List ℕ) (ss : List CarriedSession) → HavePages ram (file_pages (session_records ats lists ss))
    → HavePages ram (flat_map list_pages (file_records lists (files_in ss))) → HavePages ram (flat_map session_pages (session_records ats lists ss))
in_turn ram ats lists [] files listed = tt
in_turn ram ats lists (s ∷ ss) files listed =
    let P : Page → Type 0 = λ p. Begins (ram.page p.at) p.bytes in
    let rs = file_records lists s.files in
    let mine = chain_pages 128 file_slot_bytes (map_items file_slot (file_sheets_in ats rs)) in
    let others = file_pages (session_records (drop (file_frames s) ats) (drop (lists_of_session s) lists) ss) in
    let lists_mine = flat_map list_pages rs in
    let lists_others = flat_map list_pages (file_records (drop (lists_of_files s.files) lists) (files_in ss)) in
    let split : flat_map list_pages (file_records lists (s.files ++ files_in ss)) ≡ lists_mine ++ lists_others =
    ap (flat_map list_pages) (records_two lists s.files (files_in ss)) ∙ flat_map_two list_pages rs (file_records (drop (lists_of_files s.files) lists) (files_in ss)) in
    let both : HavePages ram (lists_mine ++ lists_others) = subst (λ (ps : List Page). HavePages ram ps) split listed in
    let own : HavePages ram (flat_map list_pages (items_of (file_sheets_in ats rs))) =
    subst (λ (l : List FileRecord). HavePages ram (flat_map list_pages l)) (sym (files_kept ats rs)) (first_of_two P lists_mine lists_others both) in
    of_both P (mine ++ flat_map list_pages (items_of (file_sheets_in ats rs))) (flat_map session_pages (session_records (drop (file_frames s) ats) (drop (lists_of_session s) lists) ss))
    (of_both P mine (flat_map list_pages (items_of (file_sheets_in ats rs))) (first_of_two P mine others files) own)
    (in_turn ram (drop (file_frames s) ats) (drop (lists_of_session s) lists) ss (second_of_two P mine others files) (second_of_two P lists_mine lists_others both))

pub written_are_read : WrittenAreRead
unfolding pages_in_use
written_are_read ram ats sessions h =
    let P : Page → Type 0 = λ p. Begins (ram.page p.at) p.bytes in
    let n = files_of_sessions sessions in
    let fs = take n (drop 1 ats) in
    let ls = drop n (drop 1 ats) in
    let rs = session_records fs ls sessions in
    let rest = begin_pages ram (file_pages rs ++ flat_map list_pages (file_records ls (files_in sessions))) h.1 in (
      begins_framed _ _ h.0,
      subst (λ (l : List SessionRecord). HavePages ram (flat_map session_pages l)) (sym (append-nil rs))
          (in_turn ram fs ls sessions (first_of_two P (file_pages rs) (flat_map list_pages (file_records ls (files_in sessions))) rest)
          (second_of_two P (file_pages rs) (flat_map list_pages (file_records ls (files_in sessions))) rest)),
    )
