-- The records that are written say the sessions that they were written for.
use Rattle.std.proofs.Common.{◌≡◌, ℕ, ◌+◌, ◌≤◌, Bool, List, [], ◌∷◌, ◌++◌, length, map, take, drop, refl, sym, ap, ◌∙◌, arith}
use Rattle.std.specs.Prelude.{◌||◌}
use Rattle.std.specs.List.{list_any, flat_map}
use Rattle.std.proofs.lemmas.List.{length-drop}
use Rattle.std.proofs.lemmas.List.Folds.{list_any-append}
use Rattle.std.proofs.lemmas.List.Sums.{sum_by-cons}
use Rattle.ho_base.specs.declared.numbers.Kind.{Kind}
use Rattle.ho_events.specs.Lists.{firsts}
use Rattle.record_frames.specs.Ram.{Ram, run_bytes}
use Rattle.record_frames.specs.Sheets.{FileRecord}
use Rattle.folio_bitmaps.specs.Runs.{Run}
use Rattle.record_frames.specs.Owners.{file_runs}
use Rattle.record_frames.specs.Kept.{files_of, same_kind, has_kind, carried_file, carried_session}
use Rattle.record_frames.specs.State.{list_frames, file_in, session_in}
use Rattle.record_frames.specs.Writing.{file_record, file_records, session_record, session_records, file_frames, files_in, lists_of_files, lists_of_session, lists_of_sessions}
use Rattle.record_frames.specs.declared.carried.CarriedFile.{CarriedFile}
use Rattle.record_frames.specs.declared.carried.CarriedSession.{CarriedSession}
use Rattle.record_frames.proofs.WrittenFiles.{items_whole}
use Rattle.record_frames.proofs.WrittenSessions.{files_kept}
use Rattle.record_frames.proofs.WrittenInTurn.{flat_map_two}
use Rattle.kho_laws.specs.Carrying.{runs_of_file}
use Rattle.kho_laws.proofs.FileRules.{lists_long}
use Rattle.kho_laws.proofs.SessionRules.{lists_one_more}

-- ---- what is carried

same_file : (ram : Ram) (ats : List ℕ) (f : CarriedFile) → list_frames f ≤ length ats → carried_file ram (file_record ats f) ≡ file_in ram f
same_file ram ats f enough =
    let whole = items_whole (take (list_frames f) ats) (firsts f.runs) (lists_long ats f enough) in
    λ j. record {
      token = f.token.0;
      kind = f.kind;
      order = f.order.0;
      bytes = take f.size (flat_map (run_bytes ram f.order.0) (whole j));
      position = f.position;
      handle = f.handle;
      runs = whole j;
    }

same_files : (ram : Ram) (ats : List ℕ) (fs : List CarriedFile) → lists_of_files fs ≤ length ats → map (carried_file ram) (file_records ats fs) ≡ map (file_in ram) fs
same_files ram ats [] enough = refl
same_files ram ats (f ∷ fs) enough =
    let sum : lists_of_files (f ∷ fs) ≡ list_frames f + lists_of_files fs = sum_by-cons list_frames f fs in
    let one = same_file ram ats f (omega (arith, sum, enough)) in
    let rest = same_files ram (drop (list_frames f) ats) fs (omega (arith, sum, enough, length-drop (list_frames f) ats)) in
    λ j. one j ∷ rest j

pub same_sessions : (ram : Ram) (ats lists : List ℕ) (ss : List CarriedSession) → lists_of_sessions ss ≤ length lists
    → map (carried_session ram) (session_records ats lists ss) ≡ map (session_in ram) ss
same_sessions ram ats lists [] enough = refl
same_sessions ram ats lists (s ∷ ss) enough =
    let sum = lists_one_more s ss in
    let files : map (carried_file ram) (files_of (session_record ats lists s)) ≡ map (file_in ram) s.files =
    ap (map (carried_file ram)) (files_kept ats (file_records lists s.files)) ∙ same_files ram lists s.files (omega (arith, sum, enough)) in
    let rest = same_sessions ram (drop (file_frames s) ats) (drop (lists_of_session s) lists) ss (omega (arith, sum, enough, length-drop (lists_of_session s) lists)) in
    λ j. record { name = s.name; files = files j } ∷ rest j

-- ---- the kinds of the files

files_kind : (kind : Kind) (ats : List ℕ) (fs : List CarriedFile) → has_kind (file_records ats fs) kind ≡ list_any (λ f. same_kind f.kind kind) fs
files_kind kind ats [] = refl
files_kind kind ats (f ∷ fs) = ap (λ (b : Bool). same_kind f.kind kind || b) (files_kind kind (drop (list_frames f) ats) fs)

pub sessions_kind : (kind : Kind) (ats lists : List ℕ) (ss : List CarriedSession)
    → has_kind (flat_map files_of (session_records ats lists ss)) kind ≡ list_any (λ f. same_kind f.kind kind) (files_in ss)
sessions_kind kind ats lists [] = refl
sessions_kind kind ats lists (s ∷ ss) =
    let rest = session_records (drop (file_frames s) ats) (drop (lists_of_session s) lists) ss in
    let mine = files_of (session_record ats lists s) in
    let one : has_kind mine kind ≡ list_any (λ f. same_kind f.kind kind) s.files =
    ap (λ (l : List FileRecord). has_kind l kind) (files_kept ats (file_records lists s.files)) ∙ files_kind kind lists s.files in
    let others = sessions_kind kind (drop (file_frames s) ats) (drop (lists_of_session s) lists) ss in
    list_any-append (λ (f : FileRecord). same_kind f.kind kind) mine (flat_map files_of rest)
    ∙ (λ j. one j || others j)
    ∙ sym (list_any-append (λ (f : CarriedFile). same_kind f.kind kind) s.files (files_in ss))

-- ---- the runs of the files

abbrev run_from : ℕ → ℕ → Run
run_from order p = record { first = p; order = order }

runs_of_files : (ats : List ℕ) (fs : List CarriedFile) → lists_of_files fs ≤ length ats → flat_map file_runs (file_records ats fs) ≡ flat_map runs_of_file fs
runs_of_files ats [] enough = refl
runs_of_files ats (f ∷ fs) enough =
    let sum : lists_of_files (f ∷ fs) ≡ list_frames f + lists_of_files fs = sum_by-cons list_frames f fs in
    let whole = items_whole (take (list_frames f) ats) (firsts f.runs) (lists_long ats f (omega (arith, sum, enough))) in
    let rest = runs_of_files (drop (list_frames f) ats) fs (omega (arith, sum, enough, length-drop (list_frames f) ats)) in
    λ j. map (run_from f.order.0) (whole j) ++ rest j

pub runs_of_sessions : (ats lists : List ℕ) (ss : List CarriedSession) → lists_of_sessions ss ≤ length lists
    → flat_map file_runs (flat_map files_of (session_records ats lists ss)) ≡ flat_map runs_of_file (files_in ss)
runs_of_sessions ats lists [] enough = refl
runs_of_sessions ats lists (s ∷ ss) enough =
    let sum = lists_one_more s ss in
    let others = session_records (drop (file_frames s) ats) (drop (lists_of_session s) lists) ss in
    let mine : flat_map file_runs (files_of (session_record ats lists s)) ≡ flat_map runs_of_file s.files =
    ap (flat_map file_runs) (files_kept ats (file_records lists s.files)) ∙ runs_of_files lists s.files (omega (arith, sum, enough)) in
    let rest = runs_of_sessions (drop (file_frames s) ats) (drop (lists_of_session s) lists) ss (omega (arith, sum, enough, length-drop (lists_of_session s) lists)) in
    flat_map_two file_runs (files_of (session_record ats lists s)) (flat_map files_of others)
    ∙ (λ j. mine j ++ rest j)
    ∙ sym (flat_map_two runs_of_file s.files (files_in ss))
