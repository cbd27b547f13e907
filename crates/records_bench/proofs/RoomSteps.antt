-- Folios that stand in order behind the files' runs have room for what is written.
use Rattle.std.proofs.Common.{◌≡◌, ℕ, ◌+◌, ◌*◌, ◌%◌, ◌^◌, ◌<◌, ◌≤◌, Bool, true, false, cond, eqb, List, [], ◌∷◌, ◌++◌, Option, Some, None, length, map, take, drop, refl, sym, ap, ◌∙◌, arith}
use Rattle.std.specs.Prelude.{◌&&◌, ◌||◌, nat_lt, nat_le, max, if◌then◌else◌, IsTrue}
use Rattle.std.specs.List.{list_all, flat_map, sum_by, All}
use Rattle.std.proofs.lemmas.Bool.{and_parts, and_from, or_left, or_right, leb-true, le-leb, lt-ltb, ltb-true, eq-eqb, eqb-true}
use Rattle.std.proofs.lemmas.List.{append-nil, length-map, length-take-le, map-append, take-append-drop}
use Rattle.std.proofs.lemmas.List.Elements.{All-nil, All-cons}
use Rattle.std.proofs.lemmas.List.Folds.{list_all-append}
use Rattle.std.proofs.lemmas.List.Sums.{sum_by-cons, sum_by-append}
use Rattle.ho_base.specs.BitmapCount.{chunk_frames}
use Rattle.ho_base.specs.ShapeRule.{area_end}
use Rattle.ho_base.specs.declared.shape.Area.{Area}
use Rattle.ho_base.specs.declared.limits.TheConstants.{MAX_ORDER}
use Rattle.ho_base.specs.declared.numbers.Pfn.{Pfn}
use Rattle.ho_events.specs.Lists.{firsts}
use Rattle.phys_frames.specs.Memory.{FolioValue}
use Rattle.folio_bitmaps.specs.Runs.{Run}
use Rattle.record_frames.specs.Handover.{◌>>=◌}
use Rattle.record_frames.specs.Rules.{is_run, is_empty}
use Rattle.record_frames.specs.Kept.{devices, bound_frames}
use Rattle.record_frames.specs.Owners.{single, given}
use Rattle.record_frames.specs.State.{bound_among, list_frames, session_frames}
use Rattle.record_frames.specs.Writing.{frames_of, files_in, file_frames, files_of_sessions, lists_of_files}
use Rattle.record_frames.specs.declared.carried.Carried.{Carried}
use Rattle.record_frames.specs.declared.carried.CarriedBound.{CarriedBound}
use Rattle.record_frames.specs.declared.carried.CarriedFile.{CarriedFile}
use Rattle.record_frames.specs.declared.carried.CarriedSession.{CarriedSession}
use Rattle.kho_laws.specs.Owners.{is_run_of, all_runs_apart, off_scratch}
use Rattle.kho_laws.specs.Sessions.{is_carried_file, is_carried_session}
use Rattle.kho_laws.specs.Carrying.{can_be_carried, runs_of_file, to_mark, CanHold}
use Rattle.kho_laws.proofs.FileRules.{all_weaker}
use Rattle.kho_writer.specs.Folios.{front_count, fronts, chunks, HasRoom}
use Rattle.records_bench.specs.Tests.{past_runs, past_files, past_sessions, past_folios, scratch_end, last_end, EndsWithin}
use Rattle.kho_writer.proofs.MarkSteps.{flat_append, file_keeps, session_keeps, sessions_keep}
use Rattle.records_bench.proofs.Rising.{past, within, within_wider, cross, cross_up, cross_down, join_apart, InOrder, in_order, Cut, cut, past_append, bind_same, none_some}

-- ---- what the tests walk over, as one list of runs

runs_past : (order at : ℕ) (ps : List Pfn) → past_runs order at ps ≡ past at (map (λ p. record { first = p; order = order }) (firsts ps))
unfolding past_runs
runs_past order at [] = refl
runs_past order at (p ∷ ps) = ap (λ (o : Option ℕ). cond (nat_le at p.0) o None) (runs_past order (p.0 + 2 ^ order) ps)

files_past : (at : ℕ) (fs : List CarriedFile) → past_files at fs ≡ past at (flat_map runs_of_file fs)
unfolding past_files
files_past at [] = refl
files_past at (f ∷ fs) =
    bind_same (past_runs f.order.0 at f.runs) (λ end. past_files end fs) (λ end. past end (flat_map runs_of_file fs)) (λ end. files_past end fs)
    ∙ ap (λ (o : Option ℕ). o >>= λ end. past end (flat_map runs_of_file fs)) (runs_past f.order.0 at f.runs)
    ∙ sym (past_append at (runs_of_file f) (flat_map runs_of_file fs))

sessions_past : (at : ℕ) (ss : List CarriedSession) → past_sessions at ss ≡ past at (flat_map runs_of_file (files_in ss))
unfolding past_sessions
sessions_past at [] = refl
sessions_past at (s ∷ ss) =
    let rest = flat_map runs_of_file (files_in ss) in
    bind_same (past_files at s.files) (λ end. past_sessions end ss) (λ end. past end rest) (λ end. sessions_past end ss)
    ∙ ap (λ (o : Option ℕ). o >>= λ end. past end rest) (files_past at s.files)
    ∙ sym (past_append at (flat_map runs_of_file s.files) rest) ∙ ap (past at) (sym (flat_append s.files (files_in ss)))

-- folios of one frame each, in order
record Placed (at end : ℕ) (fs : List FolioValue) : Type 0 where
  orders : All (λ f. f.order.0 ≡ 0) fs
  walk : past at (map single (frames_of fs)) ≡ Some end

folios_past : (at end : ℕ) (fs : List FolioValue) → past_folios at fs ≡ Some end → Placed at end fs
unfolding past_folios
folios_past at end [] h = record { orders = All-nil (λ f. f.order.0 ≡ 0); walk = h }
folios_past at end (f ∷ fs) h =
    at_test (eqb f.order.0 0) (nat_le at f.first.0) refl refl h (λ more. folios_past (f.first.0 + 1) end fs more)
  where
    at_test : (a b : Bool) → eqb f.order.0 0 ≡ a → nat_le at f.first.0 ≡ b → cond (a && b) (past_folios (f.first.0 + 1) fs) None ≡ Some end → (past_folios (f.first.0 + 1) fs ≡ Some end → Placed (f.first.0 + 1) end fs)
        → Placed at end (f ∷ fs)
    at_test false false x y now rest = absurd (none_some end now)
    at_test false true x y now rest = absurd (none_some end now)
    at_test true false x y now rest = absurd (none_some end now)
    at_test true true x y now rest =
        let more = rest now in
        record {
          orders = All-cons (λ (g : FolioValue). g.order.0 ≡ 0) f fs (eqb-true f.order.0 0 x) more.orders;
          walk = ap (λ (b : Bool). cond b (past (f.first.0 + 1) (map single (frames_of fs))) None) y ∙ more.walk;
        }

-- ---- the scratch areas

pub behind_scratch : (areas : List Area) → (list_all (λ a. nat_le (area_end a) (scratch_end areas)) areas ≡ true) × (1 ≤ scratch_end areas)
unfolding scratch_end
behind_scratch [] = (refl, omega arith)
behind_scratch (a ∷ areas) =
    let rest = behind_scratch areas in
    let end = max (area_end a) (scratch_end areas) in (
      and_from (nat_le (area_end a) end) (list_all (λ b. nat_le (area_end b) end) areas) (le-leb (area_end a) end (omega arith))
          (all_weaker (λ b. nat_le (area_end b) (scratch_end areas)) (λ b. nat_le (area_end b) end) (λ b h. let le = leb-true (area_end b) (scratch_end areas) h in le-leb (area_end b) end (omega (arith, le))) areas rest.0),
      omega (arith, rest.1),
    )

pub scratch_some : (areas : List Area) → 1 ≤ scratch_end areas
scratch_some areas = (behind_scratch areas).1

off : (areas : List Area) (from to : ℕ) (r : Run) → list_all (λ a. nat_le (area_end a) from) areas ≡ true → within from to r ≡ true → off_scratch areas r ≡ true
off areas from to r h w =
    let low = leb-true from r.first (and_parts (nat_le from r.first) (nat_le (r.first + 2 ^ r.order) to) w).0 in
    all_weaker (λ a. nat_le (area_end a) from) (λ a. nat_le (r.first + 2 ^ r.order) a.first.0 || nat_le (area_end a) r.first)
    (λ a ha. let le = leb-true (area_end a) from ha in or_right (nat_le (r.first + 2 ^ r.order) a.first.0) (nat_le (area_end a) r.first) (le-leb (area_end a) r.first (omega (arith, le, low)))) areas h

-- ---- runs of the machine

mod_one : (p : ℕ) → p % 1 ≡ 0
mod_one p = omega arith

single_run : (n from p : ℕ) → 1 ≤ from → within from n (single p) ≡ true → is_run_of n (single p) ≡ true
single_run n from p some w =
    let ws = and_parts (nat_le from p) (nat_le (p + 1) n) w in
    let low = leb-true from p ws.0 in
    and_from (nat_lt 0 p && eqb (p % 1) 0) (nat_le (p + 1) n) (and_from (nat_lt 0 p) (eqb (p % 1) 0) (lt-ltb 0 p (omega (arith, some, low))) (eq-eqb (p % 1) 0 (mod_one p))) ws.1

singles_run : (n from : ℕ) (ps : List ℕ) → 1 ≤ from → list_all (within from n) (map single ps) ≡ true → list_all (is_run_of n) (map single ps) ≡ true
singles_run n from [] some h = refl
singles_run n from (p ∷ ps) some h =
    let hs = and_parts (within from n (single p)) (list_all (within from n) (map single ps)) h in
    and_from (is_run_of n (single p)) (list_all (is_run_of n) (map single ps)) (single_run n from p some hs.0) (singles_run n from ps some hs.1)

file_runs_of : (n order : ℕ) (ps : List ℕ) → order ≤ MAX_ORDER → list_all (is_run n order) ps ≡ true → list_all (is_run_of n) (map (λ p. record { first = p; order = order }) ps) ≡ true
file_runs_of n order [] small h = refl
file_runs_of n order (p ∷ ps) small h =
    let hs = and_parts (is_run n order p) (list_all (is_run n order) ps) h in
    and_from (is_run_of n (record { first = p; order = order })) (list_all (is_run_of n) (map (λ p. record { first = p; order = order }) ps))
    (and_from (nat_le order MAX_ORDER) (is_run n order p) (le-leb order MAX_ORDER small) hs.0) (file_runs_of n order ps small hs.1)

files_run : (n : ℕ) (fs : List CarriedFile) → list_all (is_carried_file n) fs ≡ true → list_all (is_run_of n) (flat_map runs_of_file fs) ≡ true
files_run n [] h = refl
files_run n (f ∷ fs) h =
    let hs = and_parts (is_carried_file n f) (list_all (is_carried_file n) fs) h in
    let own = file_keeps n f hs.0 in
    list_all-append (is_run_of n) (runs_of_file f) (flat_map runs_of_file fs)
    ∙ and_from (list_all (is_run_of n) (runs_of_file f)) (list_all (is_run_of n) (flat_map runs_of_file fs)) (file_runs_of n f.order.0 (firsts f.runs) own.0 own.1) (files_run n fs hs.1)

all_files : (n : ℕ) (ss : List CarriedSession) → list_all (is_carried_session n) ss ≡ true → list_all (is_carried_file n) (files_in ss) ≡ true
all_files n [] h = refl
all_files n (s ∷ ss) h =
    let hs = and_parts (is_carried_session n s) (list_all (is_carried_session n) ss) h in
    list_all-append (is_carried_file n) s.files (files_in ss)
    ∙ and_from (list_all (is_carried_file n) s.files) (list_all (is_carried_file n) (files_in ss)) (session_keeps n s hs.0) (all_files n ss hs.1)

-- ---- all together

all_three : (p : Run → Bool) (xs ys zs : List Run) → list_all p xs ≡ true → list_all p ys ≡ true → list_all p zs ≡ true → list_all p ((xs ++ ys) ++ zs) ≡ true
all_three p xs ys zs hx hy hz =
    list_all-append p (xs ++ ys) zs
    ∙ and_from (list_all p (xs ++ ys)) (list_all p zs) (list_all-append p xs ys ∙ and_from (list_all p xs) (list_all p ys) hx hy) hz

marked_is : (c : Carried) (ats : List ℕ) → c.bounds ≡ [] → to_mark c ats ≡ map single ats ++ flat_map runs_of_file (files_in c.sessions)
marked_is c ats none =
    ap (λ (bs : List CarriedBound). map single (ats ++ given (bound_frames (map (bound_among bs) devices))) ++ flat_map runs_of_file (files_in c.sessions)) none
    ∙ ap (λ (l : List ℕ). map single l ++ flat_map runs_of_file (files_in c.sessions)) (append-nil ats)

frames_cut : (c : Carried) (folios : List FolioValue) → frames_of folios ≡ frames_of (fronts c folios) ++ frames_of (chunks c folios)
frames_cut c folios =
    ap frames_of (sym (take-append-drop (front_count c) folios)) ∙ map-append (λ (f : FolioValue). f.first.0) (fronts c folios) (chunks c folios)

-- the runs from a frame on, the entry's and the records' frames behind them, and the chunk frames behind these
module _ (n start a b end : ℕ) (areas : List Area) (runs : List Run) (xs zs : List ℕ)
    (some : 1 ≤ start) (clear : list_all (λ r. nat_le (area_end r) start) areas ≡ true) (fits : end ≤ n) (are : list_all (is_run_of n) runs ≡ true)
    (first : InOrder start a runs) (second : InOrder a b (map single xs)) (third : InOrder b end (map single zs)) where
  wide : (from to : ℕ) → start ≤ from → to ≤ n → (rs : List Run) → list_all (within from to) rs ≡ true → list_all (within start n) rs ≡ true
  wide from to lo hi rs h = all_weaker (within from to) (within start n) (within_wider from to start n lo hi) rs h

  wide_runs : list_all (within start n) runs ≡ true
  wide_runs = wide start a (omega arith) (omega (arith, fits, second.rises, third.rises)) runs first.within

  wide_fronts : list_all (within start n) (map single xs) ≡ true
  wide_fronts = wide a b (omega (arith, first.rises)) (omega (arith, fits, third.rises)) (map single xs) second.within

  wide_chunks : list_all (within start n) (map single zs) ≡ true
  wide_chunks = wide b end (omega (arith, first.rises, second.rises)) fits (map single zs) third.within

  pub three_runs : list_all (is_run_of n) ((map single xs ++ runs) ++ map single zs) ≡ true
  three_runs = all_three (is_run_of n) (map single xs) runs (map single zs) (singles_run n start xs some wide_fronts) are (singles_run n start zs some wide_chunks)

  pub three_off : list_all (off_scratch areas) ((map single xs ++ runs) ++ map single zs) ≡ true
  three_off =
      let each : (rs : List Run) → list_all (within start n) rs ≡ true → list_all (off_scratch areas) rs ≡ true =
      λ rs h. all_weaker (within start n) (off_scratch areas) (λ r w. off areas start n r clear w) rs h in
      all_three (off_scratch areas) (map single xs) runs (map single zs) (each (map single xs) wide_fronts) (each runs wide_runs) (each (map single zs) wide_chunks)

  pub three_apart : all_runs_apart ((map single xs ++ runs) ++ map single zs) ≡ true
  three_apart =
      let front = join_apart (map single xs) runs second.apart first.apart (cross_down a start b (map single xs) runs second.within first.within) in
      let low : list_all (within start b) (map single xs ++ runs) ≡ true =
      list_all-append (within start b) (map single xs) runs
      ∙ and_from (list_all (within start b) (map single xs)) (list_all (within start b) runs)
      (all_weaker (within a b) (within start b) (within_wider a b start b first.rises (omega arith)) (map single xs) second.within)
      (all_weaker (within start a) (within start b) (within_wider start a start b (omega arith) second.rises) runs first.within) in
      join_apart (map single xs ++ runs) (map single zs) front third.apart (cross_up b start end (map single xs ++ runs) (map single zs) low third.within)

fronts_count : (c : Carried) (folios : List FolioValue) → length folios ≡ front_count c + chunk_frames c.shape.frames → length (frames_of (fronts c folios)) ≡ front_count c
fronts_count c folios count = length-map (fronts c folios) (λ (f : FolioValue). f.first.0) ∙ length-take-le (front_count c) folios (omega (arith, count))

hold : (c : Carried) (folios : List FolioValue) (mid end : ℕ) → IsTrue (can_be_carried c) → c.bounds ≡ [] → length folios ≡ front_count c + chunk_frames c.shape.frames
    → past_sessions (scratch_end c.shape.scratch) c.sessions ≡ Some mid → past mid (map single (frames_of folios)) ≡ Some end → end ≤ c.shape.frames
    → CanHold c (frames_of (fronts c folios)) (frames_of (chunks c folios))
hold c folios mid end can none count runs walk fits =
    let xs = frames_of (fronts c folios) in
    let zs = frames_of (chunks c folios) in
    let start = scratch_end c.shape.scratch in
    let own = flat_map runs_of_file (files_in c.sessions) in
    let two = cut mid end (map single xs) (map single zs) (ap (past mid) (sym (ap (map single) (frames_cut c folios) ∙ map-append single xs zs)) ∙ walk) in
    let first = in_order start mid own (sym (sessions_past start c.sessions) ∙ runs) in
    let second = in_order mid two.mid (map single xs) two.front in
    let third = in_order two.mid end (map single zs) two.rest in
    let clear = behind_scratch c.shape.scratch in
    let are = files_run c.shape.frames (files_in c.sessions) (all_files c.shape.frames c.sessions (sessions_keep c can)) in
    let is = marked_is c xs none in
    record {
      count = fronts_count c folios count;
      runs = ap (λ (l : List Run). list_all (is_run_of c.shape.frames) (l ++ map single zs)) is
          ∙ three_runs c.shape.frames start mid two.mid end c.shape.scratch own xs zs clear.1 clear.0 fits are first second third;
      apart = ap (λ (l : List Run). all_runs_apart (l ++ map single zs)) is
          ∙ three_apart c.shape.frames start mid two.mid end c.shape.scratch own xs zs clear.1 clear.0 fits are first second third;
      scratch = ap (λ (l : List Run). list_all (off_scratch c.shape.scratch) (l ++ map single zs)) is
          ∙ three_off c.shape.frames start mid two.mid end c.shape.scratch own xs zs clear.1 clear.0 fits are first second third;
    }

-- how many frames the entry and the records take, session by session
file_frame : (fs : List CarriedFile) → ◌≡◌ {A = ℕ} (if is_empty fs then 0 else 1) (if nat_lt 0 (length fs) then 1 else 0)
file_frame [] = refl
file_frame (f ∷ fs) = ap (λ (b : Bool). cond b 1 0) (sym (lt-ltb 0 (length (f ∷ fs)) (omega arith)))

sessions_take : (ss : List CarriedSession) → files_of_sessions ss + lists_of_files (files_in ss) ≡ sum_by session_frames ss
sessions_take [] = refl
sessions_take (s ∷ ss) =
    omega (arith, sum_by-cons file_frames s ss, sum_by-append list_frames s.files (files_in ss), sum_by-cons session_frames s ss, file_frame s.files, sessions_take ss)

pub front_is : (c : Carried) → front_count c ≡ 2 + sum_by session_frames c.sessions
front_is c = omega (arith, sessions_take c.sessions)

-- what passes the tests has room
pub room : (c : Carried) (folios : List FolioValue) → IsTrue (can_be_carried c) → c.bounds ≡ [] → length folios ≡ front_count c + chunk_frames c.shape.frames
    → EndsWithin c.shape.frames (last_end c folios) → HasRoom c folios
room c folios can none count ends = at_end (past_sessions (scratch_end c.shape.scratch) c.sessions) refl ends
  where
    at_folios : (mid : ℕ) (o : Option ℕ) → past_folios mid folios ≡ o → past_sessions (scratch_end c.shape.scratch) c.sessions ≡ Some mid → EndsWithin c.shape.frames o → HasRoom c folios
    at_folios mid None e is within = absurd within
    at_folios mid (Some end) e is within =
        let placed = folios_past mid end folios e in
        record { can = can; count = count; orders = placed.orders; hold = hold c folios mid end can none count is placed.walk within }

    at_end : (o : Option ℕ) → past_sessions (scratch_end c.shape.scratch) c.sessions ≡ o → EndsWithin c.shape.frames (o >>= λ end. past_folios end folios) → HasRoom c folios
    at_end None e within = absurd within
    at_end (Some mid) e within = at_folios mid (past_folios mid folios) refl e within
