-- The frames of a chain that is written beside what is carried.
use Rattle.std.proofs.Common.{◌≡◌, ℕ, ◌+◌, ◌%◌, ◌^◌, ◌≤◌, ◌<◌, Bool, true, false, eqb, List, [], ◌∷◌, ◌++◌, length, map, get_or, refl, sym, ap, ◌∙◌, arith}
use Rattle.std.specs.Prelude.{nat_lt, nat_le, nat_eq, not, ◌&&◌}
use Rattle.std.specs.List.{list_all, list_any}
use Rattle.std.proofs.lemmas.Bool.{lt-ltb, ltb-true, leb-true, lt-leb, eqb-true, and_parts, and_from, or_from, false≢true}
use Rattle.std.proofs.lemmas.List.Folds.{list_all-append}
use Rattle.ho_base.specs.declared.limits.TheConstants.{MAX_ORDER}
use Rattle.folio_bitmaps.specs.Runs.{Run}
use Rattle.record_frames.specs.Ram.{is_frame}
use Rattle.record_frames.specs.Rules.{is_run, all_apart}
use Rattle.record_frames.specs.Owners.{single}
use Rattle.kho_laws.specs.Owners.{is_run_of, apart, all_runs_apart}

pub frame_from : (n p : ℕ) → is_run_of n (single p) ≡ true → is_frame n p ≡ true
frame_from n p h =
    let a = and_parts (nat_le 0 MAX_ORDER) (is_run n 0 p) h in
    let b = and_parts (nat_lt 0 p && eqb (p % 2 ^ 0) 0) (nat_le (p + 2 ^ 0) n) a.1 in
    let d = and_parts (nat_lt 0 p) (eqb (p % 2 ^ 0) 0) b.0 in
    let end : p + 1 ≤ n = leb-true (p + 1) n b.1 in
    and_from (nat_lt 0 p) (nat_lt p n) d.0 (lt-ltb p n (omega (arith, end)))

frames_from : (n : ℕ) (ps : List ℕ) → list_all (is_run_of n) (map single ps) ≡ true → list_all (is_frame n) ps ≡ true
frames_from n [] h = refl
frames_from n (p ∷ ps) h =
    let hs = and_parts (is_run_of n (single p)) (list_all (is_run_of n) (map single ps)) h in
    and_from (is_frame n p) (list_all (is_frame n) ps) (frame_from n p hs.0) (frames_from n ps hs.1)

-- frames behind other runs
pub frames_behind : (n : ℕ) (rs : List Run) (ps : List ℕ) → list_all (is_run_of n) (rs ++ map single ps) ≡ true → list_all (is_frame n) ps ≡ true
frames_behind n rs ps h = frames_from n ps (and_parts (list_all (is_run_of n) rs) (list_all (is_run_of n) (map single ps)) (sym (list_all-append (is_run_of n) rs (map single ps)) ∙ h)).1

apart_rest : (rs qs : List Run) → all_runs_apart (rs ++ qs) ≡ true → all_runs_apart qs ≡ true
apart_rest [] qs h = h
apart_rest (r ∷ rs) qs h = apart_rest rs qs (and_parts (list_all (apart r) (rs ++ qs)) (all_runs_apart (rs ++ qs)) h).1

-- a frame that is apart from others isn't among them
not_among : (p : ℕ) (ps : List ℕ) → list_all (apart (single p)) (map single ps) ≡ true → list_any (nat_eq p) ps ≡ false
not_among p [] h = refl
not_among p (q ∷ ps) h =
    let hs = and_parts (apart (single p) (single q)) (list_all (apart (single p)) (map single ps)) h in
    or_from (nat_eq p q) (list_any (nat_eq p) ps) (at_test (nat_eq p q) refl hs.0) (not_among p ps hs.1)
  where
    at_test : (b : Bool) → nat_eq p q ≡ b → apart (single p) (single q) ≡ true → nat_eq p q ≡ false
    at_test true e t =
        let same : p ≡ q = eqb-true p q e in
        absurd (false≢true (sym (or_from (nat_le (p + 1) q) (nat_le (q + 1) p) (lt-leb (p + 1) q (omega (arith, same))) (lt-leb (q + 1) p (omega (arith, same)))) ∙ t))
    at_test false e t = e

singles_apart : (ps : List ℕ) → all_runs_apart (map single ps) ≡ true → all_apart ps ≡ true
singles_apart [] h = refl
singles_apart (p ∷ ps) h =
    let hs = and_parts (list_all (apart (single p)) (map single ps)) (all_runs_apart (map single ps)) h in
    and_from (not (list_any (nat_eq p) ps)) (all_apart ps) (ap not (not_among p ps hs.0)) (singles_apart ps hs.1)

pub apart_behind : (rs : List Run) (ps : List ℕ) → all_runs_apart (rs ++ map single ps) ≡ true → all_apart ps ≡ true
apart_behind rs ps h = singles_apart ps (apart_rest rs (map single ps) h)

-- the first frame is one
pub first_frame : (n : ℕ) (ats bs : List ℕ) (rs qs : List Run) → 0 < length ats → list_all (is_run_of n) ((map single (ats ++ bs) ++ rs) ++ qs) ≡ true → is_frame n (get_or ats 0 0) ≡ true
first_frame n [] bs rs qs some h = absurd (omega (arith, some))
first_frame n (a ∷ ats) bs rs qs some h = frame_from n a (and_parts (is_run_of n (single a)) (list_all (is_run_of n) ((map single (ats ++ bs) ++ rs) ++ qs)) h).0

pub frame_below : (n p : ℕ) → is_frame n p ≡ true → p < n
frame_below n p h = ltb-true p n (and_parts (nat_lt 0 p) (nat_lt p n) h).1
