-- The runs of files and sessions that can be carried, and the set of them.
use Rattle.std.proofs.Common.{◌≡◌, ℕ, ◌*◌, ◌^◌, ◌≤◌, Bool, true, false, eqb, List, [], ◌∷◌, ◌++◌, length, map, drop, get_or, refl, sym, ap, ◌∙◌, arith, append_assoc}
use Rattle.std.specs.Prelude.{◌&&◌, ◌||◌, nat_lt, nat_le, IsTrue}
use Rattle.std.specs.FinSet as set
use Rattle.std.specs.List.{list_all, flat_map}
use Rattle.std.proofs.lemmas.Bool.{and_parts, leb-true, eqb-true}
use Rattle.std.proofs.lemmas.List.Folds.{list_any-append, list_all-map}
use Rattle.ho_base.specs.NameRule.{is_name}
use Rattle.ho_base.specs.ShapeRule.{is_layout}
use Rattle.ho_base.specs.declared.limits.TheConstants.{PAGE_BYTES, MAX_ORDER, MAX_FRAMES, FILE_BYTES, OUT_SLOTS, SESSION_FILES, FILES}
use Rattle.ho_base.specs.declared.numbers.Pfn.{Pfn}
use Rattle.ho_events.specs.Lists.{firsts, pieces}
use Rattle.ho_world.specs.Frozen.{MOST_UPDATES}
use Rattle.folio_bitmaps.specs.Runs.{Run, Runs, Marks, IsRun, run_cmp}
use Rattle.folio_bitmaps.proofs.Sets.{run_total, tied}
use Rattle.record_frames.specs.Rules.{is_of_kind, is_run, fits, all_rise, bytes_before}
use Rattle.record_frames.specs.Writing.{file_slot_of, files_in}
use Rattle.record_frames.specs.declared.carried.Carried.{Carried}
use Rattle.record_frames.specs.declared.carried.CarriedFile.{CarriedFile}
use Rattle.record_frames.specs.declared.carried.CarriedSession.{CarriedSession}
use Rattle.kho_laws.specs.Owners.{same_run, is_one_of}
use Rattle.kho_laws.specs.Carrying.{can_be_carried, has_its_bound, runs_of_file}
use Rattle.kho_laws.specs.Sessions.{is_carried_file, is_carried_session, are_carried}
use Rattle.record_frames.specs.Kept.{devices, bound_frames}
use Rattle.record_frames.specs.Owners.{single, given}
use Rattle.record_frames.specs.State.{bound_among}
use Rattle.record_frames.specs.declared.carried.CarriedBound.{CarriedBound}
use Rattle.kho_laws.specs.Marks.{own_runs}
use Rattle.kho_writer.specs.Folios.{MarksOwn}
use Rattle.kho_writer.specs.Marking.{with_runs, with_files, with_sessions}

-- the tests of runs, over the frames as they are kept
pub runs_all : (n order : ℕ) (ps : List Pfn) → list_all (is_run n order) (firsts ps) ≡ list_all (λ p. is_run n order p.0) ps
runs_all n order ps = list_all-map (is_run n order) (λ (p : Pfn). p.0) ps

-- ---- what a file and a session keep

-- its order, and its runs
pub file_keeps : (n : ℕ) (f : CarriedFile) → is_carried_file n f ≡ true → (f.order.0 ≤ MAX_ORDER) × (list_all (is_run n f.order.0) (firsts f.runs) ≡ true)
file_keeps n f h =
    let order = nat_le f.order.0 MAX_ORDER in
    let size = nat_le f.size FILE_BYTES in
    let position = nat_le f.position f.size in
    let count = eqb (length f.runs) (pieces f.size (PAGE_BYTES * 2 ^ f.order.0)) in
    let kind = is_of_kind (file_slot_of f 0) f.kind in
    let token = fits f.token.0 in
    let handle = fits f.handle in
    let few = nat_le (length f.runs) MAX_FRAMES in
    let h8 = and_parts (order && size && position && count && kind && token && handle && few) (list_all (is_run n f.order.0) (firsts f.runs)) h in
    let h7 = and_parts (order && size && position && count && kind && token && handle) few h8.0 in
    let h6 = and_parts (order && size && position && count && kind && token) handle h7.0 in
    let h5 = and_parts (order && size && position && count && kind) token h6.0 in
    let h4 = and_parts (order && size && position && count) kind h5.0 in
    let h3 = and_parts (order && size && position) count h4.0 in
    let h2 = and_parts (order && size) position h3.0 in
    let h1 = and_parts order size h2.0 in
    (leb-true f.order.0 MAX_ORDER h1.0, h8.1)

-- its files
pub session_keeps : (n : ℕ) (s : CarriedSession) → is_carried_session n s ≡ true → list_all (is_carried_file n) s.files ≡ true
session_keeps n s h =
    (and_parts (is_name s.name && nat_le (length s.files) SESSION_FILES && all_rise (λ a b. nat_lt a.token.0 b.token.0) s.files) (list_all (is_carried_file n) s.files) h).1

-- the sessions of what can be carried
pub sessions_keep : (c : Carried) → IsTrue (can_be_carried c) → list_all (is_carried_session c.shape.frames) c.sessions ≡ true
sessions_keep c h =
    let numbers = nat_le 1 c.number && nat_le c.number MOST_UPDATES in
    let h2 = and_parts (is_layout c.shape.frames c.shape.scratch && numbers && are_carried c.shape.frames c.sessions) (list_all (has_its_bound c) devices) h in
    let h1 = and_parts (is_layout c.shape.frames c.shape.scratch && numbers) (are_carried c.shape.frames c.sessions) h2.0 in
    let names = all_rise (λ a b. bytes_before a.name b.name) c.sessions in
    (and_parts (nat_le (length c.sessions) OUT_SLOTS && nat_le (length (files_in c.sessions)) FILES && names) (list_all (is_carried_session c.shape.frames) c.sessions) h1.1).1

-- ---- the set

with_one : (runs : Runs) (q r : Run) → set.contains (set.insert runs q) r ≡ (same_run r q || set.contains runs r)
with_one runs q r =
    set.contains-insert run_total runs q r
    ∙ ap (λ (b : Bool). b || set.contains runs r) (tied r q ∙ turned (eqb r.order q.order) (eqb r.first q.first))
  where
    turned : (a b : Bool) → (a && b) ≡ (b && a)
    turned true true = refl
    turned true false = refl
    turned false true = refl
    turned false false = refl

turned : (a b c : Bool) → (a || (b || c)) ≡ ((b || a) || c)
turned true true c = refl
turned true false c = refl
turned false true c = refl
turned false false c = refl

runs_at : ℕ → List Pfn → List Run
runs_at order ps = map (λ p. record { first = p; order = order }) (firsts ps)

in_runs : (order : ℕ) (runs : Runs) (ps : List Pfn) (r : Run) → set.contains (with_runs order runs ps) r ≡ (is_one_of (map (λ p. record { first = p; order = order }) (firsts ps)) r || set.contains runs r)
unfolding with_runs
in_runs order runs [] r = refl
in_runs order runs (p ∷ ps) r =
    let q : Run = record { first = p.0; order = order } in
    let rest = is_one_of (map (λ x. record { first = x; order = order }) (firsts ps)) r in
    in_runs order (set.insert runs q) ps r ∙ ap (λ (b : Bool). rest || b) (with_one runs q r) ∙ turned rest (same_run r q) (set.contains runs r)

in_files : (runs : Runs) (fs : List CarriedFile) (r : Run) → set.contains (with_files runs fs) r ≡ (is_one_of (flat_map runs_of_file fs) r || set.contains runs r)
unfolding with_files
in_files runs [] r = refl
in_files runs (f ∷ fs) r =
    let own = is_one_of (runs_of_file f) r in
    let rest = is_one_of (flat_map runs_of_file fs) r in
    in_files (with_runs f.order.0 runs f.runs) fs r ∙ ap (λ (b : Bool). rest || b) (in_runs f.order.0 runs f.runs r)
    ∙ turned rest own (set.contains runs r)
    ∙ ap (λ (b : Bool). b || set.contains runs r) (sym (list_any-append (same_run r) (runs_of_file f) (flat_map runs_of_file fs)))

pub flat_append : (xs ys : List CarriedFile) → flat_map runs_of_file (xs ++ ys) ≡ flat_map runs_of_file xs ++ flat_map runs_of_file ys
flat_append [] ys = refl
flat_append (x ∷ xs) ys = ap (λ (l : List Run). runs_of_file x ++ l) (flat_append xs ys) ∙ sym (append_assoc (runs_of_file x) (flat_map runs_of_file xs) (flat_map runs_of_file ys))

pub in_sessions : (runs : Runs) (ss : List CarriedSession) (r : Run)
    → set.contains (with_sessions runs ss) r ≡ (is_one_of (flat_map runs_of_file (files_in ss)) r || set.contains runs r)
unfolding with_sessions
in_sessions runs [] r = refl
in_sessions runs (s ∷ ss) r =
    let own = flat_map runs_of_file s.files in
    let rest = flat_map runs_of_file (files_in ss) in
    in_sessions (with_files runs s.files) ss r ∙ ap (λ (b : Bool). is_one_of rest r || b) (in_files runs s.files r)
    ∙ turned (is_one_of rest r) (is_one_of own r) (set.contains runs r)
    ∙ ap (λ (b : Bool). b || set.contains runs r) (sym (list_any-append (same_run r) own rest) ∙ ap (λ (l : List Run). is_one_of l r) (sym (flat_append s.files (files_in ss))))

own_is : (c : Carried) → c.bounds ≡ [] → own_runs c ≡ flat_map runs_of_file (files_in c.sessions)
own_is c none =
    ap (λ (bs : List CarriedBound). map single (given (bound_frames (map (bound_among bs) devices))) ++ flat_map runs_of_file (files_in c.sessions)) none

or_false : (b : Bool) → (b || false) ≡ b
or_false true = refl
or_false false = refl

-- the runs of the sessions are those of what is carried, where there are no bound records
pub marks_own : (c : Carried) (t : Marks) → c.bounds ≡ [] → t ≡ record { frames = c.shape.frames; runs = with_sessions set.empty c.sessions } → MarksOwn c t
marks_own c t none is = record {
  frames = ap (λ (m : Marks). m.frames) is;
  runs = λ r.
      ap (λ (m : Marks). set.contains m.runs r) is ∙ in_sessions set.empty c.sessions r
      ∙ ap (λ (b : Bool). is_one_of (flat_map runs_of_file (files_in c.sessions)) r || b) (set.contains-empty run_cmp r)
      ∙ or_false (is_one_of (flat_map runs_of_file (files_in c.sessions)) r) ∙ ap (λ (l : List Run). is_one_of l r) (sym (own_is c none));
}
