-- Frames in their order of use are used side by side where those that are kept are, and the other way round.
use Rattle.std.proofs.Common.{◌≡◌, ℕ, ◌+◌, ◌%◌, ◌^◌, ◌≤◌, Bool, true, false, eqb, List, [], ◌∷◌, ◌++◌, length, map, take, drop, get_or, refl, sym, ap, ◌∙◌, arith, append_assoc, inl, inr}
use Rattle.std.specs.Prelude.{nat_lt, nat_le, nat_eq, not, ◌&&◌, ◌||◌}
use Rattle.std.specs.List.{list_all, list_any, flat_map}
use Rattle.std.proofs.lemmas.Bool.{lt-ltb, leb-true, le-leb, lt-leb, eqb-true, eqb-false, cases_lt, and_parts, and_from, or_left, or_right, or_from}
use Rattle.std.proofs.lemmas.List.{append-nil, length-drop, drop_all}
use Rattle.std.proofs.lemmas.List.Folds.{list_all-append, list_any-append}
use Rattle.ho_base.specs.ShapeRule.{is_layout}
use Rattle.ho_base.specs.declared.limits.TheConstants.{MAX_ORDER}
use Rattle.folio_bitmaps.specs.Chunks.{Element}
use Rattle.folio_bitmaps.specs.Runs.{Run}
use Rattle.record_frames.specs.Ram.{is_frame}
use Rattle.record_frames.specs.Sheets.{Sheet, SessionRecord, numbers_of, record_numbers}
use Rattle.record_frames.specs.Rules.{is_run, all_apart}
use Rattle.record_frames.specs.Kept.{devices, bound_frames, files_of}
use Rattle.record_frames.specs.Owners.{single, given, file_runs, users}
use Rattle.record_frames.specs.State.{bound_among}
use Rattle.record_frames.specs.Writing.{session_records, files_in, files_of_sessions, lists_of_files}
use Rattle.record_frames.specs.Written.{records_in}
use Rattle.record_frames.specs.declared.carried.Carried.{Carried}
use Rattle.record_frames.proofs.WrittenRecords.{lists_same}
use Rattle.kho_laws.specs.Sessions.{CanHoldRecords}
use Rattle.kho_laws.specs.Owners.{in_use, is_run_of, apart, all_runs_apart, off_scratch, same_run, is_one_of, SideBySide, MarksUsers}
use Rattle.kho_laws.specs.Carrying.{kept_in, runs_of_file, to_mark, CanHold, MarksJust}
use Rattle.kho_laws.proofs.Occurs.{occurs, occurs_two, occurs_cut, apart_once, once_apart, all_there, there_occurs}
use Rattle.kho_laws.proofs.FileRules.{all_weaker}
use Rattle.kho_laws.proofs.OwnedWell.{behind}
use Rattle.kho_laws.proofs.SessionRules.{records_occur}
use Rattle.kho_laws.proofs.SameState.{runs_of_sessions}

-- ---- frames by themselves

all_singles : (Q : Run → Bool) (xs : List ℕ) → list_all Q (map single xs) ≡ list_all (λ x. Q (single x)) xs
all_singles Q [] = refl
all_singles Q (x ∷ xs) = ap (λ (b : Bool). Q (single x) && b) (all_singles Q xs)

-- two frames share none exactly where their numbers aren't the same
single_apart : (p q : ℕ) → apart (single p) (single q) ≡ not (nat_eq p q)
single_apart p q = at_test (nat_eq p q) refl
  where
    at_test : (b : Bool) → nat_eq p q ≡ b → apart (single p) (single q) ≡ not (nat_eq p q)
    at_test true e =
        let same : p ≡ q = eqb-true p q e in
        or_from (nat_le (p + 1) q) (nat_le (q + 1) p) (lt-leb (p + 1) q (omega (arith, same))) (lt-leb (q + 1) p (omega (arith, same))) ∙ sym (ap not e)
    at_test false e =
        elim (cases_lt p q) [
          | inl lt ↦ or_left (nat_le (p + 1) q) (nat_le (q + 1) p) (le-leb (p + 1) q (omega (arith, lt))) ∙ sym (ap not e)
          | inr le ↦ or_right (nat_le (p + 1) q) (nat_le (q + 1) p) (le-leb (q + 1) p (behind q p le (λ same. eqb-false p q e (sym same)))) ∙ sym (ap not e)
        ]

not_any : (P : ℕ → Bool) (xs : List ℕ) → list_all (λ x. not (P x)) xs ≡ not (list_any P xs)
not_any P [] = refl
not_any P (x ∷ xs) = ap (λ (b : Bool). not (P x) && b) (not_any P xs) ∙ both (P x) (list_any P xs)
  where
    both : (a b : Bool) → (not a && not b) ≡ not (a || b)
    both true b = refl
    both false b = refl

all_same : (P Q : ℕ → Bool) → ((x : ℕ) → P x ≡ Q x) → (xs : List ℕ) → list_all P xs ≡ list_all Q xs
all_same P Q e [] = refl
all_same P Q e (x ∷ xs) = let rest = all_same P Q e xs in λ j. e x j && rest j

singles_apart : (xs : List ℕ) → all_runs_apart (map single xs) ≡ all_apart xs
singles_apart [] = refl
singles_apart (x ∷ xs) =
    let here : list_all (apart (single x)) (map single xs) ≡ not (list_any (nat_eq x) xs) =
    all_singles (apart (single x)) xs ∙ all_same (λ y. apart (single x) (single y)) (λ y. not (nat_eq x y)) (single_apart x) xs ∙ not_any (nat_eq x) xs in
    let rest = singles_apart xs in
    λ j. here j && rest j

-- ---- two lists of runs

both_apart : (as' bs : List Run) → all_runs_apart (as' ++ bs) ≡ true → (all_runs_apart as' ≡ true) × (list_all (λ a. list_all (apart a) bs) as' ≡ true) × (all_runs_apart bs ≡ true)
both_apart [] bs h = (refl, refl, h)
both_apart (a ∷ as') bs h =
    let hs = and_parts (list_all (apart a) (as' ++ bs)) (all_runs_apart (as' ++ bs)) h in
    let two = and_parts (list_all (apart a) as') (list_all (apart a) bs) (sym (list_all-append (apart a) as' bs) ∙ hs.0) in
    let rest = both_apart as' bs hs.1 in (
      and_from (list_all (apart a) as') (all_runs_apart as') two.0 rest.0,
      and_from (list_all (apart a) bs) (list_all (λ a. list_all (apart a) bs) as') two.1 rest.1,
      rest.2,
    )

from_both : (as' bs : List Run) → all_runs_apart as' ≡ true → list_all (λ a. list_all (apart a) bs) as' ≡ true → all_runs_apart bs ≡ true → all_runs_apart (as' ++ bs) ≡ true
from_both [] bs h cross g = g
from_both (a ∷ as') bs h cross g =
    let hs = and_parts (list_all (apart a) as') (all_runs_apart as') h in
    let cs = and_parts (list_all (apart a) bs) (list_all (λ a. list_all (apart a) bs) as') cross in
    and_from (list_all (apart a) (as' ++ bs)) (all_runs_apart (as' ++ bs))
    (list_all-append (apart a) as' bs ∙ and_from (list_all (apart a) as') (list_all (apart a) bs) hs.0 cs.0) (from_both as' bs hs.1 cs.1 g)

-- ---- the same frames in another order

module _ (xs ys : List ℕ) (rest : List Run) (fewer : (p : ℕ) → occurs p ys ≤ occurs p xs) where
  pub others_all : (Q : Run → Bool) → list_all Q (map single xs ++ rest) ≡ true → list_all Q (map single ys ++ rest) ≡ true
  others_all Q h =
      let hs = and_parts (list_all Q (map single xs)) (list_all Q rest) (sym (list_all-append Q (map single xs) rest) ∙ h) in
      list_all-append Q (map single ys) rest
      ∙ and_from (list_all Q (map single ys)) (list_all Q rest)
      (all_singles Q ys ∙ all_there (λ x. Q (single x)) ys xs fewer (sym (all_singles Q xs) ∙ hs.0)) hs.1

  pub others_apart : all_runs_apart (map single xs ++ rest) ≡ true → all_runs_apart (map single ys ++ rest) ≡ true
  others_apart h =
      let parts = both_apart (map single xs) rest h in
      let once : all_apart xs ≡ true = sym (singles_apart xs) ∙ parts.0 in
      from_both (map single ys) rest
      (singles_apart ys ∙ once_apart ys (λ p. omega (arith, fewer p, apart_once p xs once)))
      (all_singles (λ a. list_all (apart a) rest) ys
      ∙ all_there (λ x. list_all (apart (single x)) rest) ys xs fewer (sym (all_singles (λ a. list_all (apart a) rest) xs) ∙ parts.1))
      parts.2

-- a run is one of these frames by themselves
one_single : (r : Run) (xs : List ℕ) → is_one_of (map single xs) r ≡ (list_any (nat_eq r.first) xs && eqb r.order 0)
one_single r [] = refl
one_single r (x ∷ xs) = ap (λ (b : Bool). (eqb r.first x && eqb r.order 0) || b) (one_single r xs) ∙ taken_out (eqb r.first x) (list_any (nat_eq r.first) xs) (eqb r.order 0)
  where
    taken_out : (a b o : Bool) → ((a && o) || (b && o)) ≡ ((a || b) && o)
    taken_out true b true = refl
    taken_out true true false = refl
    taken_out true false false = refl
    taken_out false b o = refl

others_one : (xs ys : List ℕ) (rest : List Run) → ((p : ℕ) → occurs p ys ≡ occurs p xs) → (r : Run) → is_one_of (map single xs ++ rest) r ≡ is_one_of (map single ys ++ rest) r
others_one xs ys rest same r =
    let there : list_any (nat_eq r.first) xs ≡ list_any (nat_eq r.first) ys =
    there_occurs r.first xs ∙ ap (nat_lt 0) (sym (same r.first)) ∙ sym (there_occurs r.first ys) in
    list_any-append (same_run r) (map single xs) rest
    ∙ ap (λ (b : Bool). b || is_one_of rest r) (one_single r xs ∙ ap (λ (b : Bool). b && eqb r.order 0) there ∙ sym (one_single r ys))
    ∙ sym (list_any-append (same_run r) (map single ys) rest)

-- ---- what is kept

-- the frames that are kept, in the order in which they are read
abbrev read_numbers : Carried → List ℕ → List ℕ
read_numbers c ats = get_or ats 0 0 ∷ (record_numbers (records_in (drop 1 ats) c.sessions) ++ given (bound_frames (map (bound_among c.bounds) devices)))

abbrev used_numbers : Carried → List ℕ → List ℕ
used_numbers c ats = ats ++ given (bound_frames (map (bound_among c.bounds) devices))

same_numbers : (c : Carried) (ats : List ℕ) → length ats ≡ 2 + files_of_sessions c.sessions + lists_of_files (files_in c.sessions) → (p : ℕ)
    → occurs p (read_numbers c ats) ≡ occurs p (used_numbers c ats)
same_numbers c [] count p = absurd (omega (arith, count))
same_numbers c (a ∷ []) count p = absurd (omega (arith, count))
same_numbers c (a ∷ b ∷ ats) count p =
    let bounds = given (bound_frames (map (bound_among c.bounds) devices)) in
    let records = record_numbers (records_in (b ∷ ats) c.sessions) in
    let k = files_of_sessions c.sessions in
    let m = lists_of_files (files_in c.sessions) in
    let all = records_occur p b ats c.sessions (omega (arith, count)) in
    let none : drop m (drop k ats) ≡ [] = drop_all m (drop k ats) (omega (arith, count, length-drop k ats)) in
    omega (arith, all, ap (occurs p) none, occurs_two p records bounds, occurs_two p (b ∷ ats) bounds)

-- the runs of the files that are kept
same_runs_used : (c : Carried) (ats : List ℕ) (chain : List (Sheet Element)) → length ats ≡ 2 + files_of_sessions c.sessions + lists_of_files (files_in c.sessions)
    → users (kept_in c ats chain) ≡ map single (read_numbers c ats) ++ flat_map runs_of_file (files_in c.sessions)
same_runs_used c ats chain count =
    let k = files_of_sessions c.sessions in
    let left = drop 1 (drop 1 ats) in
    let rs = session_records (take k left) (drop k left) c.sessions in
    let room = runs_of_sessions (take k left) (drop k left) c.sessions
    (omega (arith, count, length-drop k left, length-drop 1 (drop 1 ats), length-drop 1 ats, lists_same c.sessions)) in
    ap (λ (l : List SessionRecord). map single (read_numbers c ats) ++ flat_map file_runs (flat_map files_of l)) (append-nil rs)
    ∙ ap (λ (l : List Run). map single (read_numbers c ats) ++ l) room

frame_from : (n p : ℕ) → is_run_of n (single p) ≡ true → is_frame n p ≡ true
frame_from n p h =
    let a = and_parts (nat_le 0 MAX_ORDER) (is_run n 0 p) h in
    let b = and_parts (nat_lt 0 p && eqb (p % 2 ^ 0) 0) (nat_le (p + 2 ^ 0) n) a.1 in
    let d = and_parts (nat_lt 0 p) (eqb (p % 2 ^ 0) 0) b.0 in
    let end : p + 1 ≤ n = leb-true (p + 1) n b.1 in
    and_from (nat_lt 0 p) (nat_lt p n) d.0 (lt-ltb p n (omega (arith, end)))

pub can_hold_records : (c : Carried) (ats chunks : List ℕ) → CanHold c ats chunks → CanHoldRecords c.shape.frames (drop 1 ats) c.sessions
can_hold_records c ats chunks hold =
    let n = c.shape.frames in
    let bounds = given (bound_frames (map (bound_among c.bounds) devices)) in
    let runs = flat_map runs_of_file (files_in c.sessions) in
    let count = hold.count in
    let xs = used_numbers c ats in
    let grouped : to_mark c ats ++ map single chunks ≡ map single xs ++ (runs ++ map single chunks) = append_assoc (map single xs) runs (map single chunks) in
    let fewer : (p : ℕ) → occurs p (drop 1 ats) ≤ occurs p xs = λ p. omega (arith, occurs_two p ats bounds, occurs_cut p 1 ats) in
    let each : list_all (λ x. is_run_of n (single x)) xs ≡ true =
    sym (all_singles (is_run_of n) xs)
    ∙ (and_parts (list_all (is_run_of n) (map single xs)) (list_all (is_run_of n) (runs ++ map single chunks))
    (sym (list_all-append (is_run_of n) (map single xs) (runs ++ map single chunks)) ∙ ap (list_all (is_run_of n)) (sym grouped) ∙ hold.runs)).0 in
    let once : all_apart xs ≡ true =
    sym (singles_apart xs) ∙ (both_apart (map single xs) (runs ++ map single chunks) (ap all_runs_apart (sym grouped) ∙ hold.apart)).0 in
    record {
      enough = omega (arith, count, length-drop 1 ats);
      within = all_weaker (λ x. is_run_of n (single x)) (is_frame n) (frame_from n) (drop 1 ats) (all_there (λ x. is_run_of n (single x)) (drop 1 ats) xs fewer each);
      once = once_apart (drop 1 ats) (λ p. omega (arith, fewer p, apart_once p xs once));
    }

-- what is used where this is kept
used_is : (c : Carried) (ats : List ℕ) (chain : List (Sheet Element)) → length ats ≡ 2 + files_of_sessions c.sessions + lists_of_files (files_in c.sessions)
    → map single (read_numbers c ats) ++ (flat_map runs_of_file (files_in c.sessions) ++ map single (numbers_of chain)) ≡ in_use (kept_in c ats chain)
used_is c ats chain count =
    sym (append_assoc (map single (read_numbers c ats)) (flat_map runs_of_file (files_in c.sessions)) (map single (numbers_of chain)))
    ∙ ap (λ (l : List Run). l ++ map single (numbers_of chain)) (sym (same_runs_used c ats chain count))

pub side_by_side : (c : Carried) (ats : List ℕ) (chain : List (Sheet Element)) → is_layout c.shape.frames c.shape.scratch ≡ true → CanHold c ats (numbers_of chain)
    → SideBySide c.shape.frames (kept_in c ats chain)
side_by_side c ats chain shape hold =
    let n = c.shape.frames in
    let chunks = map single (numbers_of chain) in
    let runs = flat_map runs_of_file (files_in c.sessions) in
    let xs = used_numbers c ats in
    let ys = read_numbers c ats in
    let grouped : to_mark c ats ++ chunks ≡ map single xs ++ (runs ++ chunks) = append_assoc (map single xs) runs chunks in
    let fewer : (p : ℕ) → occurs p ys ≤ occurs p xs = λ p. omega (arith, same_numbers c ats hold.count p) in
    let used = used_is c ats chain hold.count in
    let all : (Q : Run → Bool) → list_all Q (to_mark c ats ++ chunks) ≡ true → list_all Q (in_use (kept_in c ats chain)) ≡ true =
    λ Q h. ap (list_all Q) (sym used) ∙ others_all xs ys (runs ++ chunks) fewer Q (ap (list_all Q) (sym grouped) ∙ h) in
    record {
      shape = shape;
      runs = all (is_run_of n) hold.runs;
      apart = ap all_runs_apart (sym used) ∙ others_apart xs ys (runs ++ chunks) fewer (ap all_runs_apart (sym grouped) ∙ hold.apart);
      scratch = all (off_scratch c.shape.scratch) hold.scratch;
    }

pub marks_users : (c : Carried) (ats : List ℕ) (chain : List (Sheet Element)) → CanHold c ats (numbers_of chain) → MarksJust c ats chain → MarksUsers (kept_in c ats chain)
marks_users c ats chain hold marks r small =
    let runs = flat_map runs_of_file (files_in c.sessions) in
    marks r small ∙ others_one (used_numbers c ats) (read_numbers c ats) runs (same_numbers c ats hold.count) r
    ∙ ap (λ (l : List Run). is_one_of l r) (sym (same_runs_used c ats chain hold.count))
