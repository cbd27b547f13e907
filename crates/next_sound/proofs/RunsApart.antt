-- Runs that a machine that is switched on can hand out, as the next pool owns them.
use Rattle.std.proofs.Common.{◌≡◌, ◌⊎◌, inl, inr, ℕ, zero, suc, ◌+◌, ◌%◌, ◌^◌, ◌<◌, ◌≤◌, true, eqb, List, [], ◌∷◌, ◌++◌, map, length, refl, sym, ap, subst, ◌∙◌, arith}
use Rattle.std.specs.Prelude.{Some, not, ◌&&◌, nat_lt, slice_get, slice_index_or}
use Rattle.std.specs.List.{All, AllPairs, AllByRecursion, list_all}
use Rattle.std.specs.FinMap as finmap
use Rattle.std.proofs.lemmas.Bool.{and_parts, cases_lt, eqb-true, ltb-true, not-true}
use Rattle.std.proofs.lemmas.Nat.{pow_pos}
use Rattle.std.proofs.lemmas.List.Elements.{recursion_from_All}
use Rattle.ho_base.specs.ShapeRule.{Layout, in_scratch}
use Rattle.ho_base.specs.declared.numbers.Pfn.{Pfn}
use Rattle.ho_base.specs.declared.numbers.Order.{Order}
use Rattle.ho_events.specs.Pool.{cold_pool, is_free, is_free_run, is_owned, frames_of}
use Rattle.ho_world.specs.Frozen.{CarriedFile, Frozen, carried_files, next_pool}
use Rattle.pool_core.specs.PoolAdopting.{ApartRuns, CanAdopt}
use Rattle.pool_core.proofs.PoolFree.{each_of}
use Rattle.next_laws.specs.Begins.{run_of, runs_with, all_runs, NoBounds}
use Rattle.balance_laws.specs.Carrying.{In, Distinct, NoneShared}
use Rattle.balance_laws.specs.Sound.{IsUsable, RunFits, RunsFit}
use Rattle.balance_laws.proofs.Base.{same_value, not_some}
use Rattle.balance_laws.proofs.NextRuns.{IsOf, at_in}
use Rattle.balance_laws.proofs.NextSound.{of_file}
use Rattle.balance_laws.proofs.Numbering.{get_front, get_rest, below_got}

abbrev PairRun : Type 0
PairRun = Pfn × Order

-- ---- no run is of two files, or twice of one

-- two runs that begin at the same frame share it
same_start : (r s : PairRun) → r.0.0 ≡ s.0.0 → ApartRuns r s → ⊥
same_start r s e (inl h) = let pos : 0 < 2 ^ r.1.0 = pow_pos r.1.0 in omega (arith, pos, e, h)
same_start r s e (inr h) = let pos : 0 < 2 ^ s.1.0 = pow_pos s.1.0 in omega (arith, pos, e, h)

apart_first : (r : PairRun) (rs : List PairRun) → AllPairs ApartRuns (r ∷ rs) → AllByRecursion (ApartRuns r) rs
apart_first r rs h = recursion_from_All (ApartRuns r) rs (λ k d lt. h 0 (suc k) d (omega arith) (omega (arith, lt)))

apart_rest : (r : PairRun) (rs : List PairRun) → AllPairs ApartRuns (r ∷ rs) → AllPairs ApartRuns rs
apart_rest r rs h = λ i j d lt within. h (suc i) (suc j) d (omega (arith, lt)) (omega (arith, within))

-- what is known of all of two lists
both_parts : {A : Type 0} (P : A → Type 0) (xs ys : List A) → AllByRecursion P (xs ++ ys) → AllByRecursion P xs × AllByRecursion P ys
both_parts P [] ys h = (tt, h)
both_parts P (x ∷ xs) ys h = let rest = both_parts P xs ys h.1 in ((h.0, rest.0), rest.1)

-- runs that are apart from a run begin at other frames
other_start : (r : PairRun) (o : ℕ) (ps : List ℕ) → AllByRecursion (ApartRuns r) (map (run_of o) ps) → AllByRecursion (λ y. y ≡ r.0.0 → ⊥) ps
other_start r o [] h = tt
other_start r o (p ∷ ps) h = ((λ e. same_start r (run_of o p) (sym e) h.0), other_start r o ps h.1)

not_there : (r : PairRun) (o : ℕ) (ps : List ℕ) → AllByRecursion (ApartRuns r) (map (run_of o) ps) → In r.0.0 ps → ⊥
not_there r o [] h i = i
not_there r o (p ∷ ps) h (inl e) = same_start r (run_of o p) e h.0
not_there r o (p ∷ ps) h (inr i) = not_there r o ps h.1 i

distinct_runs : (o : ℕ) (ps : List ℕ) (rest : List PairRun) → AllPairs ApartRuns (map (run_of o) ps ++ rest) → Distinct ps
distinct_runs o [] rest h = tt
distinct_runs o (p ∷ ps) rest h =
    let first = apart_first (run_of o p) (map (run_of o) ps ++ rest) h in
    (other_start (run_of o p) o ps (both_parts (ApartRuns (run_of o p)) (map (run_of o) ps) rest first).0, distinct_runs o ps rest (apart_rest (run_of o p) (map (run_of o) ps ++ rest) h))

behind_runs : (o : ℕ) (ps : List ℕ) (rest : List PairRun) → AllPairs ApartRuns (map (run_of o) ps ++ rest) → AllPairs ApartRuns rest
behind_runs o [] rest h = h
behind_runs o (p ∷ ps) rest h = behind_runs o ps rest (apart_rest (run_of o p) (map (run_of o) ps ++ rest) h)

off_rest : (o : ℕ) (ps : List ℕ) (rest : List PairRun) → AllPairs ApartRuns (map (run_of o) ps ++ rest) → (q : ℕ) → In q ps → AllByRecursion (ApartRuns (run_of o q)) rest
off_rest o [] rest h q i = absurd i
off_rest o (p ∷ ps) rest h q (inl e) =
    subst (λ x. AllByRecursion (ApartRuns (run_of o x)) rest) (sym e) (both_parts (ApartRuns (run_of o p)) (map (run_of o) ps) rest (apart_first (run_of o p) (map (run_of o) ps ++ rest) h)).1
off_rest o (p ∷ ps) rest h q (inr i) = off_rest o ps rest (apart_rest (run_of o p) (map (run_of o) ps ++ rest) h) q i

off_files : (o : ℕ) (ps : List ℕ) (ds : List CarriedFile) → ((q : ℕ) → In q ps → AllByRecursion (ApartRuns (run_of o q)) (all_runs ds))
    → AllByRecursion (λ (d : CarriedFile). (q : ℕ) → In q ps → In q d.runs → ⊥) ds
off_files o ps [] h = tt
off_files o ps (d ∷ ds) h = (
  λ q i j. not_there (run_of o q) d.order d.runs (both_parts (ApartRuns (run_of o q)) (runs_with d) (all_runs ds) (h q i)).0 j,
  off_files o ps ds (λ q i. (both_parts (ApartRuns (run_of o q)) (runs_with d) (all_runs ds) (h q i)).1),
)

pub none_shared : (cs : List CarriedFile) → AllPairs ApartRuns (all_runs cs) → NoneShared cs
none_shared [] h = tt
none_shared (c ∷ cs) h = (
  distinct_runs c.order c.runs (all_runs cs) h,
  off_files c.order c.runs cs (off_rest c.order c.runs (all_runs cs) h),
  none_shared cs (behind_runs c.order c.runs (all_runs cs) h),
)

-- ---- runs fit

index_is : {A : Type 0} (xs : List A) (k : ℕ) (x d : A) → slice_get xs k ≡ Some x → slice_index_or xs k d ≡ x
index_is [] k x d e = absurd (not_some x e)
index_is (y ∷ xs) zero x d e = same_value y x e
index_is (y ∷ xs) (suc k) x d e = index_is xs k x d e

run_at : (o : ℕ) (ps : List ℕ) (i p : ℕ) → slice_get ps i ≡ Some p → slice_get (map (run_of o) ps) i ≡ Some (run_of o p)
run_at o [] i p e = absurd (not_some p e)
run_at o (q ∷ ps) zero p e = ap (λ x. Some (run_of o x)) (same_value q p e)
run_at o (q ∷ ps) (suc i) p e = run_at o ps i p e

-- where a file's run stands among all
place_of : (cs : List CarriedFile) (i : ℕ) (c : CarriedFile) (p : ℕ) → slice_get cs i ≡ Some c → In p c.runs → (k : ℕ) × (slice_get (all_runs cs) k ≡ Some (run_of c.order p))
place_of [] i c p e h = absurd (not_some c e)
place_of (d ∷ cs) zero c p e h =
    let same : d ≡ c = same_value d c e in
    let m = at_in c.runs p h in
    (m.0, get_front (runs_with d) (all_runs cs) m.0 (run_of c.order p) (subst (λ (x : CarriedFile). slice_get (runs_with x) m.0 ≡ Some (run_of c.order p)) (sym same) (run_at c.order c.runs m.0 p m.1)))
place_of (d ∷ cs) (suc i) c p e h =
    let m = place_of cs i c p e h in
    (length (runs_with d) + m.0, get_rest (runs_with d) (all_runs cs) m.0 (length (runs_with d) + m.0) refl ∙ m.1)

known_at : {A : Type 0} (P : A → Type 0) (xs : List A) (k : ℕ) (x : A) → All P xs → slice_get xs k ≡ Some x → P x
known_at P xs k x all e = subst P (index_is xs k x x e) (all k x (below_got xs k x e))

pairs_at : {A : Type 0} (R : A → A → Type 0) (xs : List A) (i j : ℕ) (x y : A) → AllPairs R xs → i < j → slice_get xs i ≡ Some x → slice_get xs j ≡ Some y → R x y
pairs_at R xs i j x y all lt e g =
    subst (λ z. R z y) (index_is xs i x x e) (subst (R (slice_index_or xs i x)) (index_is xs j y x g) (all i j x lt (below_got xs j y g)))

-- a run that is free in a machine that is switched on fits it
free_fits : (shape : Layout) (p o : ℕ) → o ≤ 9 → is_free_run (cold_pool shape) o p ≡ true → RunFits shape p o
free_fits shape p o small h =
    let hs = and_parts (eqb (p % 2 ^ o) 0) (list_all (is_free (cold_pool shape)) (frames_of o p)) h in
    record {
      order = small;
      aligned = eqb-true (p % 2 ^ o) 0 hs.0;
      usable = λ i lt. usable (p + i) (each_of (is_free (cold_pool shape)) p (2 ^ o) hs.1 (p + i) (omega arith) (omega (arith, lt)));
    }
  where
    usable : (q : ℕ) → is_free (cold_pool shape) q ≡ true → IsUsable shape q
    usable q free =
        let a = and_parts (nat_lt 0 q && nat_lt q shape.frames && not (in_scratch shape.scratch q)) (not (is_owned (cold_pool shape) q)) free in
        let b = and_parts (nat_lt 0 q && nat_lt q shape.frames) (not (in_scratch shape.scratch q)) a.0 in
        let c = and_parts (nat_lt 0 q) (nat_lt q shape.frames) b.0 in
        record { some = ltb-true 0 q c.0; within = ltb-true q shape.frames c.1; off = not-true (in_scratch shape.scratch q) b.1 }

-- two runs with a frame in common aren't apart
not_both : (p o q n i j : ℕ) → i < 2 ^ o → j < 2 ^ n → p + i ≡ q + j → ApartRuns (run_of o p) (run_of n q) → ⊥
not_both p o q n i j li lj e (inl h) = omega (arith, li, e, h)
not_both p o q n i j li lj e (inr h) = omega (arith, lj, e, h)

module _ (f : Frozen) (none : NoBounds f.bounds) (can : CanAdopt f.shape (all_runs (carried_files f))) where
  -- an owned run is a run of a file
  place : (p o : ℕ) → finmap.get (next_pool f).owned p ≡ Some o → (k : ℕ) × (slice_get (all_runs (carried_files f)) k ≡ Some (run_of o p))
  place p o e =
      let k : IsOf (carried_files f) p o = of_file f none p o e in
      let m = place_of (carried_files f) k.number k.file p k.is k.has in
      (m.0, m.1 ∙ ap (λ n. Some (run_of n p)) (sym k.order))

  pub runs_fit : RunsFit (next_pool f)
  runs_fit = record {
    each = λ p o e.
        (let m = place p o e in
        free_fits f.shape p o (known_at (λ (r : PairRun). r.1.0 ≤ 9) (all_runs (carried_files f)) m.0 (run_of o p) can.orders m.1)
        (known_at (λ (r : PairRun). is_free_run (cold_pool f.shape) r.1.0 r.0.0 ≡ true) (all_runs (carried_files f)) m.0 (run_of o p) can.free m.1));
    apart = λ p o q n i j e g li lj same. apart p o q n i j li lj same (place p o e) (place q n g);
  }
    where
      apart : (p o q n i j : ℕ) → i < 2 ^ o → j < 2 ^ n → p + i ≡ q + j → (k : ℕ) × (slice_get (all_runs (carried_files f)) k ≡ Some (run_of o p)) → (l : ℕ) × (slice_get (all_runs (carried_files f)) l ≡ Some (run_of n q)) → p ≡ q
      apart p o q n i j li lj same a b = by_order (cases_lt a.0 b.0) (cases_lt b.0 a.0)
        where
          by_order : (a.0 < b.0) ⊎ (b.0 ≤ a.0) → (b.0 < a.0) ⊎ (a.0 ≤ b.0) → p ≡ q
          by_order (inl lt) w = absurd (not_both p o q n i j li lj same (pairs_at ApartRuns (all_runs (carried_files f)) a.0 b.0 (run_of o p) (run_of n q) can.apart lt a.1 b.1))
          by_order (inr le) (inl lt) = absurd (not_both q n p o j i lj li (sym same) (pairs_at ApartRuns (all_runs (carried_files f)) b.0 a.0 (run_of n q) (run_of o p) can.apart lt b.1 a.1))
          by_order (inr le) (inr ge) =
              let here : a.0 ≡ b.0 = omega (arith, le, ge) in
              ap (λ (r : PairRun). r.0.0) (same_value (run_of o p) (run_of n q) (sym a.1 ∙ ap (slice_get (all_runs (carried_files f))) here ∙ b.1))
