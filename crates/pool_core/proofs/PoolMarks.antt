-- The marked runs and the pinned frames.
use Rattle.std.proofs.Common.{◌≡◌, ◌≢◌, ℕ, ◌+◌, ◌-◌, ◌%◌, ◌^◌, ◌<◌, ◌≤◌, ◌⊎◌, ◌==◌, ◌&&◌, ◌||◌, not, nat_lt, Bool, true, false, List, [], ◌∷◌, get_or, refl, ap, sym, ◌∙◌, arith, subst, inl, inr, ⊎_elim}
use Rattle.std.specs.List.{list_any, list_all}
use Rattle.std.specs.Ordering.{nat_cmp, eq_by_cmp}
use Rattle.std.specs.Cmp.{nat_cmp_total}
use Rattle.std.specs.FinSet as finset
use Rattle.std.specs.FinMap.{nat_cmp-IsAntisymmetric}
use Rattle.std.proofs.lemmas.Bool.{cases_Bool, or_cases, and_from, and_parts, eq-eqb, eqb-true, lt-ltb, ltb-true, false≢true}
use Rattle.std.proofs.lemmas.Nat.{pow_pos}
use Rattle.buddy_pages.proofs.Powers.{start_only}
use Rattle.buddy_pages.proofs.Frames.{same_bool}
use Rattle.ho_base.specs.ShapeRule.{Layout}
use Rattle.ho_events.specs.Lists.{upto}
use Rattle.ho_events.specs.Pool.{frames_of, run_start, with_frames, without_frames}
use Rattle.folio_bitmaps.specs.Runs.{Run, Runs, Marks, run_cmp}
use Rattle.folio_bitmaps.proofs.Sets.{run_total, run_path, tied_same, tied_itself, any_map}
use Rattle.std.proofs.Math.Nat.{mod-lt, mod-le}
use Rattle.pool_core.specs.PoolTags.{TableValue, AreRuns}
use Rattle.pool_core.specs.PoolFramesValues.{run_over, is_marked, pinned_of, KeepsPoolFrames}
use Rattle.pool_core.proofs.PoolOwned.{same_test}
use Rattle.pool_core.proofs.PoolHeld.{any_upto, some_upto, none_false, same_run, small_order}
use Rattle.pool_core.proofs.PoolHome.{cases_run}
use Rattle.pool_core.proofs.PoolFree.{each_of, of_each, usable_below}

abbrev pub run_by : ℕ → ℕ → Run
run_by o p = record { first = p; order = o }

-- a frame is pinned where it is one of the machine's and a marked run holds it
below_is : (n q : ℕ) → list_any (λ y. y == q) (upto n) ≡ nat_lt q n
below_is n q =
    same_bool (list_any (λ y. y == q) (upto n)) (nat_lt q n)
    (λ h. let some = some_upto (λ y. y == q) n h in let e : some.0 ≡ q = eqb-true some.0 q some.1.1 in lt-ltb q n (omega (arith, some.1.0)))
    (λ h. any_upto (λ y. y == q) n q (ltb-true q n h) (eq-eqb q q refl))

pub pinned_is : (n : ℕ) (marks : Runs) (q : ℕ) → finset.contains (pinned_of n marks) q ≡ (nat_lt q n && is_marked marks q)
unfolding pinned_of
pinned_is n marks q =
    finset.contains-retain (finset.from_list (upto n)) (is_marked marks) q (λ x e. ap (is_marked marks) (sym (nat_cmp-IsAntisymmetric q x e)))
    ∙ ap (λ b. b && is_marked marks q) (finset.contains-from_list_nat (upto n) q ∙ below_is n q)

pub marked_from : (marks : Runs) (o p q : ℕ) → finset.contains marks (run_by o p) ≡ true → p % 2 ^ o ≡ 0 → o < 10 → p ≤ q → q < p + 2 ^ o → is_marked marks q ≡ true
unfolding is_marked
marked_from marks o p q h aligned small from to =
    let start : q - q % 2 ^ o ≡ p = start_only p q (2 ^ o) aligned from to in
    any_upto (λ k. finset.contains marks (run_over k q)) 10 o small (ap (λ x. finset.contains marks (run_by o x)) start ∙ h)

pub marked_some : (marks : Runs) (q : ℕ) → is_marked marks q ≡ true → (o : ℕ) × ((o < 10) × (finset.contains marks (run_over o q) ≡ true))
unfolding is_marked
marked_some marks q h = some_upto (λ k. finset.contains marks (run_over k q)) 10 h

marked_by : (marks : Runs) (q o : ℕ) → o < 10 → finset.contains marks (run_over o q) ≡ true → is_marked marks q ≡ true
unfolding is_marked
marked_by marks q o small h = any_upto (λ k. finset.contains marks (run_over k q)) 10 o small h

-- a frame lies in the run that holds it
over_from : (o q : ℕ) → run_start o q ≤ q
over_from o q = omega (arith, mod-le q (2 ^ o))

over_to : (o q : ℕ) → q < run_start o q + 2 ^ o
over_to o q = omega (arith, mod-lt q (pow_pos o), mod-le q (2 ^ o))

same_over : (o p q k : ℕ) → run_over k q ≡ run_by o p → (p ≤ q) × (q < p + 2 ^ o)
same_over o p q k e =
    let start : run_start k q ≡ p = ap (λ (r : Run). r.first) e in
    let ord : k ≡ o = ap (λ (r : Run). r.order) e in
    let to : q < run_start k q + 2 ^ o = subst (λ (z : ℕ). q < run_start k q + 2 ^ z) ord (over_to k q) in
    let from : run_start k q ≤ q = over_from k q in
    (omega (arith, start, from), omega (arith, start, to))

not_both : (o p q : ℕ) → (q < p) ⊎ (p + 2 ^ o ≤ q) → (p ≤ q) × (q < p + 2 ^ o) → ⊥
not_both o p q (inl l) h = omega (arith, h.0)
not_both o p q (inr l) h = omega (arith, h.1)

-- one more marked run
module _ (marks : Runs) (o p : ℕ) where
  abbrev more : Runs
  more = finset.insert marks (run_by o p)

  more_is : (r : Run) → finset.contains more r ≡ (eq_by_cmp run_cmp r (run_by o p) || finset.contains marks r)
  more_is r = finset.contains-insert run_total marks (run_by o p) r

  more_old : (r : Run) → finset.contains marks r ≡ true → finset.contains more r ≡ true
  more_old r h = more_is r ∙ ap (λ b. eq_by_cmp run_cmp r (run_by o p) || b) h ∙ or_true (eq_by_cmp run_cmp r (run_by o p))
    where
      or_true : (b : Bool) → (b || true) ≡ true
      or_true true = refl
      or_true false = refl

  pub more_new : finset.contains more (run_by o p) ≡ true
  more_new = more_is (run_by o p) ∙ ap (λ b. b || finset.contains marks (run_by o p)) (tied_itself (run_by o p) (run_by o p) refl)

  more_only : (r : Run) → finset.contains more r ≡ true → (r ≡ run_by o p) ⊎ (finset.contains marks r ≡ true)
  more_only r h =
      ⊎_elim (λ (e : eq_by_cmp run_cmp r (run_by o p) ≡ true). inl (tied_same r (run_by o p) e))
      (λ (e : finset.contains marks r ≡ true). inr e)
      (or_cases _ _ (sym (more_is r) ∙ h))

  marked_more_out : (q : ℕ) → (q < p) ⊎ (p + 2 ^ o ≤ q) → is_marked more q ≡ is_marked marks q
  marked_more_out q out = same_bool (is_marked more q) (is_marked marks q)
      (λ h. let some = marked_some more q h in
      ⊎_elim (λ (e : run_over some.0 q ≡ run_by o p). absurd (not_both o p q out (same_over o p q some.0 e)))
      (λ (e : finset.contains marks (run_over some.0 q) ≡ true). marked_by marks q some.0 some.1.0 e)
      (more_only (run_over some.0 q) some.1.1))
      (λ h. let some = marked_some marks q h in marked_by more q some.0 some.1.0 (more_old (run_over some.0 q) some.1.1))

  -- one marked run less
  abbrev fewer : Runs
  fewer = finset.remove marks (run_by o p)

  fewer_is : (r : Run) → finset.contains fewer r ≡ (not (eq_by_cmp run_cmp r (run_by o p)) && finset.contains marks r)
  fewer_is r = finset.contains-remove run_total marks (run_by o p) r

  pub fewer_old : (r : Run) → finset.contains fewer r ≡ true → finset.contains marks r ≡ true
  fewer_old r h = (and_parts _ _ (sym (fewer_is r) ∙ h)).1

  pub fewer_gone : finset.contains fewer (run_by o p) ≡ false
  fewer_gone = fewer_is (run_by o p) ∙ ap (λ b. not b && finset.contains marks (run_by o p)) (tied_itself (run_by o p) (run_by o p) refl)

  pub fewer_other : (r : Run) → r ≢ run_by o p → finset.contains marks r ≡ true → finset.contains fewer r ≡ true
  fewer_other r ne h = fewer_is r ∙ and_from _ _ (ap not (none_false _ (λ e. ne (tied_same r (run_by o p) e)))) h

  marked_fewer_out : (q : ℕ) → (q < p) ⊎ (p + 2 ^ o ≤ q) → is_marked fewer q ≡ is_marked marks q
  marked_fewer_out q out = same_bool (is_marked fewer q) (is_marked marks q)
      (λ h. let some = marked_some fewer q h in marked_by marks q some.0 some.1.0 (fewer_old (run_over some.0 q) some.1.1))
      (λ h. let some = marked_some marks q h in marked_by fewer q some.0 some.1.0 (fewer_other (run_over some.0 q) (λ e. not_both o p q out (same_over o p q some.0 e)) some.1.1))

-- a frame of the run
in_frames : (o p q : ℕ) → p ≤ q → q < p + 2 ^ o → list_any (λ y. y == q) (frames_of o p) ≡ true
in_frames o p q from to =
    any_map (λ y. y == q) (λ i. p + i) (upto (2 ^ o))
    ∙ any_upto (λ i. p + i == q) (2 ^ o) (q - p) (omega arith) (eq-eqb (p + (q - p)) q (omega arith))

out_frames : (o p q : ℕ) → (q < p) ⊎ (p + 2 ^ o ≤ q) → list_any (λ y. y == q) (frames_of o p) ≡ false
out_frames o p q out = none_false _ (λ h.
    let some = some_upto (λ i. p + i == q) (2 ^ o) (sym (any_map (λ y. y == q) (λ i. p + i) (upto (2 ^ o))) ∙ h) in
    let e : p + some.0 ≡ q = eqb-true (p + some.0) q some.1.1 in
    not_both o p q out (omega arith, omega (arith, some.1.0)))

swap_or : (a b c : Bool) → (a || (b || c)) ≡ ((b || a) || c)
swap_or true true c = refl
swap_or true false c = refl
swap_or false true c = refl
swap_or false false c = refl

eq_swap : (x y : ℕ) → (x == y) ≡ (y == x)
eq_swap x y = same_bool (x == y) (y == x) (λ h. eq-eqb y x (sym (eqb-true x y h))) (λ h. eq-eqb x y (sym (eqb-true y x h)))

with_is : (ps : List ℕ) (m : finset.FinSet nat_cmp) (q : ℕ) → finset.contains (with_frames ps m) q ≡ (list_any (λ y. y == q) ps || finset.contains m q)
with_is [] m q = refl
with_is (p ∷ ps) m q =
    with_is ps (finset.insert m p) q
    ∙ ap (λ b. list_any (λ y. y == q) ps || b) (finset.contains-insert nat_cmp_total m p q ∙ ap (λ b. b || finset.contains m q) (same_test p q ∙ eq_swap q p))
    ∙ swap_or (list_any (λ y. y == q) ps) (p == q) (finset.contains m q)

swap_and : (a b c : Bool) → (not a && (not b && c)) ≡ (not (b || a) && c)
swap_and true true c = refl
swap_and true false c = refl
swap_and false true c = refl
swap_and false false c = refl

without_is : (ps : List ℕ) (m : finset.FinSet nat_cmp) (q : ℕ) → finset.contains (without_frames ps m) q ≡ (not (list_any (λ y. y == q) ps) && finset.contains m q)
without_is [] m q = refl
without_is (p ∷ ps) m q =
    without_is ps (finset.remove m p) q
    ∙ ap (λ b. not (list_any (λ y. y == q) ps) && b) (finset.contains-remove nat_cmp_total m p q ∙ ap (λ b. not b && finset.contains m q) (same_test p q ∙ eq_swap q p))
    ∙ swap_and (list_any (λ y. y == q) ps) (p == q) (finset.contains m q)

-- the pinned frames with a run marked
pub pinned_more : (n : ℕ) (marks : Runs) (o p : ℕ) → p % 2 ^ o ≡ 0 → o < 10 → p + 2 ^ o ≤ n → pinned_of n (finset.insert marks (run_by o p)) ≡ with_frames (frames_of o p) (pinned_of n marks)
pinned_more n marks o p aligned small fits =
    finset.same_set nat_cmp_total nat_cmp-IsAntisymmetric (pinned_of n (finset.insert marks (run_by o p))) (with_frames (frames_of o p) (pinned_of n marks))
    (λ q. pinned_is n (finset.insert marks (run_by o p)) q
    ∙ (⊎_elim (λ (i : (p ≤ q) × (q < p + 2 ^ o)).
    and_from _ _ (lt-ltb q n (omega (arith, i.1))) (marked_from (finset.insert marks (run_by o p)) o p q (more_new marks o p) aligned small i.0 i.1)
    ∙ sym (ap (λ b. b || finset.contains (pinned_of n marks) q) (in_frames o p q i.0 i.1)))
    (λ (out : (q < p) ⊎ (p + 2 ^ o ≤ q)).
    ap (λ b. nat_lt q n && b) (marked_more_out marks o p q out) ∙ sym (pinned_is n marks q)
    ∙ sym (ap (λ b. b || finset.contains (pinned_of n marks) q) (out_frames o p q out)))
    (cases_run p q (2 ^ o)))
    ∙ sym (with_is (frames_of o p) (pinned_of n marks) q))

-- marked runs are owned runs, which are apart
module _ (shape : Layout) (tags : List ℕ) (k : AreRuns shape tags) (marks : Runs) (owned : (r : Run) → finset.contains marks r ≡ true → get_or tags r.first 0 ≡ r.order + 1) (o p : ℕ) (is : get_or tags p 0 ≡ o + 1) where
  small : o < 10
  small = small_order tags p o is shape k

  fits : p + 2 ^ o ≤ shape.frames
  fits = omega (arith, usable_below shape (p + 2 ^ o - 1) (k.usable p o (p + 2 ^ o - 1) is (omega (arith, pow_pos o)) (omega (arith, pow_pos o))), pow_pos o)

  pub not_marked : finset.contains marks (run_by o p) ≡ false → (q : ℕ) → p ≤ q → q < p + 2 ^ o → is_marked marks q ≡ false
  not_marked none q from to = none_false (is_marked marks q) (λ h.
      let some = marked_some marks q h in
      let tag : get_or tags (run_start some.0 q) 0 ≡ some.0 + 1 = owned (run_over some.0 q) some.1.1 in
      let same = same_run tags p o is shape k q (run_start some.0 q) some.0 (record { tag = tag; from = over_from some.0 q; to = over_to some.0 q }) from to in
      false≢true (sym none ∙ ap (finset.contains marks) (sym (run_path (run_over some.0 q) (run_by o p) same.1 same.0)) ∙ some.1.1))

  pub all_marked : finset.contains marks (run_by o p) ≡ true → (q : ℕ) → p ≤ q → q < p + 2 ^ o → is_marked marks q ≡ true
  all_marked h q from to = marked_from marks o p q h (k.aligned p o is) small from to

  pinned_all : finset.contains marks (run_by o p) ≡ true → (q : ℕ) → p ≤ q → q < p + 2 ^ o → finset.contains (pinned_of shape.frames marks) q ≡ true
  pinned_all h q from to = pinned_is shape.frames marks q ∙ and_from _ _ (lt-ltb q shape.frames (omega (arith, fits))) (all_marked h q from to)

  pinned_none : finset.contains marks (run_by o p) ≡ false → (q : ℕ) → p ≤ q → q < p + 2 ^ o → finset.contains (pinned_of shape.frames marks) q ≡ false
  pinned_none h q from to = pinned_is shape.frames marks q ∙ ap (λ b. nat_lt q shape.frames && b) (not_marked h q from to) ∙ and_none (nat_lt q shape.frames)
    where
      and_none : (b : Bool) → (b && false) ≡ false
      and_none true = refl
      and_none false = refl

  -- an owned run is pinned as a whole, where it is marked, and not at all, where it isn't
  pub run_pinned : list_all (finset.contains (pinned_of shape.frames marks)) (frames_of o p) ≡ finset.contains marks (run_by o p)
  run_pinned = same_bool _ _
      (λ h. ⊎_elim (λ (t : finset.contains marks (run_by o p) ≡ true). t)
      (λ (f : finset.contains marks (run_by o p) ≡ false).
      absurd (false≢true (sym (pinned_none f p (omega arith) (omega (arith, pow_pos o))) ∙ each_of (finset.contains (pinned_of shape.frames marks)) p (2 ^ o) h p (omega arith) (omega (arith, pow_pos o)))))
      (cases_Bool (finset.contains marks (run_by o p))))
      (λ h. of_each (finset.contains (pinned_of shape.frames marks)) p (2 ^ o) (pinned_all h))

  some_pinned : list_any (finset.contains (pinned_of shape.frames marks)) (frames_of o p) ≡ finset.contains marks (run_by o p)
  some_pinned =
      any_map (finset.contains (pinned_of shape.frames marks)) (λ i. p + i) (upto (2 ^ o))
      ∙ same_bool _ _
      (λ h. let some = some_upto (λ i. finset.contains (pinned_of shape.frames marks) (p + i)) (2 ^ o) h in
      ⊎_elim (λ (t : finset.contains marks (run_by o p) ≡ true). t)
      (λ (f : finset.contains marks (run_by o p) ≡ false).
      absurd (false≢true (sym (pinned_none f (p + some.0) (omega arith) (omega (arith, some.1.0))) ∙ some.1.1)))
      (cases_Bool (finset.contains marks (run_by o p))))
      (λ h. any_upto (λ i. finset.contains (pinned_of shape.frames marks) (p + i)) (2 ^ o) 0 (pow_pos o) (pinned_all h (p + 0) (omega arith) (omega (arith, pow_pos o))))

  pub run_unpinned : not (list_any (finset.contains (pinned_of shape.frames marks)) (frames_of o p)) ≡ not (finset.contains marks (run_by o p))
  run_unpinned = ap not some_pinned

-- the pinned frames with a run not marked any more
pub pinned_fewer : (shape : Layout) (tags : List ℕ) → AreRuns shape tags → (marks : Runs) → ((r : Run) → finset.contains marks r ≡ true → get_or tags r.first 0 ≡ r.order + 1) → (o p : ℕ) → get_or tags p 0 ≡ o + 1 → pinned_of shape.frames (finset.remove marks (run_by o p)) ≡ without_frames (frames_of o p) (pinned_of shape.frames marks)
pinned_fewer shape tags k marks owned o p is =
    let n : ℕ = shape.frames in
    finset.same_set nat_cmp_total nat_cmp-IsAntisymmetric (pinned_of shape.frames (finset.remove marks (run_by o p))) (without_frames (frames_of o p) (pinned_of shape.frames marks))
    (λ q. pinned_is shape.frames (finset.remove marks (run_by o p)) q
    ∙ (⊎_elim (λ (i : (p ≤ q) × (q < p + 2 ^ o)).
    ap (λ b. nat_lt q shape.frames && b) (not_marked shape tags k (finset.remove marks (run_by o p)) (λ r h. owned r (fewer_old marks o p r h)) o p is (fewer_gone marks o p) q i.0 i.1)
    ∙ and_none (nat_lt q shape.frames)
    ∙ sym (ap (λ b. not b && finset.contains (pinned_of shape.frames marks) q) (in_frames o p q i.0 i.1)))
    (λ (out : (q < p) ⊎ (p + 2 ^ o ≤ q)).
    ap (λ b. nat_lt q shape.frames && b) (marked_fewer_out marks o p q out) ∙ sym (pinned_is shape.frames marks q)
    ∙ sym (ap (λ b. not b && finset.contains (pinned_of shape.frames marks) q) (out_frames o p q out)))
    (cases_run p q (2 ^ o)))
    ∙ sym (without_is (frames_of o p) (pinned_of shape.frames marks) q))
  where
    and_none : (b : Bool) → (b && false) ≡ false
    and_none true = refl
    and_none false = refl

-- a set of marks with an owned run more
pub keeps_marked : (t : TableValue) (free : List Bool) (m : Marks) (o p : ℕ) → KeepsPoolFrames t free m → get_or t.tags p 0 ≡ o + 1 → KeepsPoolFrames t free (record m { runs = finset.insert m.runs (run_by o p) })
keeps_marked t free m o p k is = record {
  runs = k.runs;
  set_len = k.set_len;
  free = k.free;
  frames = k.frames;
  marks = λ r h. ⊎_elim
      (λ (e : r ≡ run_by o p). ap (λ (x : Run). get_or t.tags x.first 0) e ∙ is ∙ ap (λ (x : Run). x.order + 1) (sym e))
      (λ (old : finset.contains m.runs r ≡ true). k.marks r old)
      (more_only m.runs o p r h);
}

pub keeps_unmarked : (t : TableValue) (free : List Bool) (m : Marks) (o p : ℕ) → KeepsPoolFrames t free m → KeepsPoolFrames t free (record m { runs = finset.remove m.runs (run_by o p) })
keeps_unmarked t free m o p k = record {
  runs = k.runs;
  set_len = k.set_len;
  free = k.free;
  frames = k.frames;
  marks = λ r h. k.marks r (fewer_old m.runs o p r h);
}
