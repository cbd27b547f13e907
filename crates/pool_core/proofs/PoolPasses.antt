-- Runs of a pool that are given back one after the other.
use Rattle.std.proofs.Common.{◌≡◌, ◌≢◌, ℕ, ◌+◌, ◌^◌, ◌<◌, ◌≤◌, ◌==◌, ◌&&◌, ◌||◌, not, Bool, true, false, cond, List, [], ◌∷◌, ◌++◌, length, get_or, refl, ap, sym, ◌∙◌, arith, subst}
use Rattle.std.specs.Prelude.{Option, None}
use Rattle.std.specs.List.{list_any, list_all}
use Rattle.std.specs.Ordering.{nat_cmp, eq_by_cmp}
use Rattle.std.specs.Cmp.{nat_cmp_total}
use Rattle.std.specs.FinMap as finmap
use Rattle.std.specs.FinSet as finset
use Rattle.std.specs.FinMap.{nat_cmp-IsAntisymmetric}
use Rattle.std.proofs.lemmas.List.Folds.{list_any-append}
use Rattle.std.proofs.lemmas.Bool.{and_from, and_parts, or_parts, not-true, eqb-true, eqb-false, ne_eqb}
use Rattle.std.proofs.lemmas.Nat.{pow_pos}
use Rattle.ho_base.specs.declared.numbers.Pfn.{Pfn}
use Rattle.ho_base.specs.declared.numbers.Order.{Order}
use Rattle.ho_events.specs.Lists.{are_distinct, firsts, is_just}
use Rattle.ho_events.specs.Pool.{PoolState, is_owned_run, is_unpinned_run, can_give, disown}
use Rattle.phys_frames.specs.Memory.{FolioValue, first_frames}
use Rattle.buddy_pages.specs.FreeFrames as buddy
use Rattle.buddy_pages.proofs.Frames.{none_free-from}
use Rattle.folio_bitmaps.specs.Runs.{Runs, Marks}
use Rattle.pool_core.specs.PoolTags.{TableValue, with_tag}
use Rattle.pool_core.specs.PoolFramesValues.{PoolFramesValue, state_of, KeepsPoolFrames, with_disowned}
use Rattle.pool_core.proofs.PoolOwned.{owned_run, same_test}
use Rattle.pool_core.proofs.PoolFree.{usable_later}
use Rattle.pool_core.proofs.PoolSteps.{given_within, given_taken, keeps_fewer}
use Rattle.pool_core.proofs.PoolMarks.{run_by, run_unpinned}
use Rattle.pool_core.proofs.PoolTaken.{pool_of}

pub run_tag : (t : TableValue) (marks : Runs) (o p : ℕ) → is_owned_run (state_of t marks) o p ≡ true → get_or t.tags p 0 ≡ o + 1
run_tag t marks o p h = eqb-true (get_or t.tags p 0) (o + 1) (sym (owned_run t.tags o p) ∙ h)

pub run_tag_of : (t : TableValue) (marks : Runs) (v : PoolFramesValue) (o p : ℕ) → pool_of t marks ≡ v → is_owned_run v.state o p ≡ true → get_or t.tags p 0 ≡ o + 1
run_tag_of t marks v o p e h = run_tag t marks o p (subst (λ (x : PoolFramesValue). is_owned_run x.state o p ≡ true) (sym e) h)

pub unmarked_of : (t : TableValue) (free : List Bool) (m : Marks) (v : PoolFramesValue) (o p : ℕ) → KeepsPoolFrames t free m → pool_of t m.runs ≡ v → get_or t.tags p 0 ≡ o + 1 → is_unpinned_run v.state o p ≡ true → finset.contains m.runs (run_by o p) ≡ false
unmarked_of t free m v o p k e is h =
    not-true _ (sym (run_unpinned t.shape t.tags k.runs m.runs k.marks o p is) ∙ subst (λ (x : PoolFramesValue). is_unpinned_run x.state o p ≡ true) (sym e) h)

-- what the allocator asks of a run that is given back
pub record CanFree (free : List Bool) (p o : ℕ) : Type 0 where
  pub within : p + 2 ^ o ≤ length free
  pub later : 0 < p
  pub taken : buddy.none_free free p (2 ^ o) ≡ true

can_free_at : (t : TableValue) (free : List Bool) (m : Marks) (o p : ℕ) → KeepsPoolFrames t free m → get_or t.tags p 0 ≡ o + 1 → CanFree free p o
can_free_at t free m o p k is = record {
  within = omega (arith, given_within t m.runs o p k.runs is, k.set_len);
  later = usable_later t.shape p (k.runs.usable p o p is (omega arith) (omega (arith, pow_pos o)));
  taken = none_free-from free p (2 ^ o) (record { each = given_taken t m.runs o p k.runs is free k.free k.set_len });
}

pub can_free : (t : TableValue) (free : List Bool) (m : Marks) (p q : Pfn) (o r : Order) → q ≡ p → r ≡ o → KeepsPoolFrames t free m → get_or t.tags p.0 0 ≡ o.0 + 1 → CanFree free q.0 r.0
can_free t free m p q o r e f k is =
    subst (λ (x : Pfn). CanFree free x.0 r.0) (sym e) (subst (λ (x : Order). CanFree free p.0 x.0) (sym f) (can_free_at t free m o.0 p.0 k is))

pub given_keeps : (t u : TableValue) (free given : List Bool) (m : Marks) (p q : Pfn) (o r : Order) → q ≡ p → r ≡ o → KeepsPoolFrames t free m → get_or t.tags p.0 0 ≡ o.0 + 1 → finset.contains m.runs (run_by o.0 p.0) ≡ false → u ≡ with_tag t p.0 0 → given ≡ buddy.with_frames free q.0 (2 ^ r.0) true → KeepsPoolFrames u given m
given_keeps t u free given m p q o r e f k is unmarked new freed =
    subst (λ (x : TableValue). KeepsPoolFrames x given m) (sym new)
    (subst (λ (x : List Bool). KeepsPoolFrames (with_tag t p.0 0) x m) (sym (freed ∙ ap (λ (x : Pfn). buddy.with_frames free x.0 (2 ^ r.0) true) e ∙ ap (λ (x : Order). buddy.with_frames free p.0 (2 ^ x.0) true) f))
    (keeps_fewer t free m o.0 p.0 k is unmarked))

-- the last of different numbers
distinct_last : (xs : List ℕ) (y : ℕ) → are_distinct (xs ++ y ∷ []) ≡ true → (are_distinct xs ≡ true) × (list_any (λ x. x == y) xs ≡ false)
distinct_last [] y h = (refl, refl)
distinct_last (x ∷ xs) y h =
    let both : (not (list_any (λ z. z == x) (xs ++ y ∷ [])) ≡ true) × (are_distinct (xs ++ y ∷ []) ≡ true) = and_parts _ _ h in
    let rest = distinct_last xs y both.1 in
    let none : (list_any (λ z. z == x) xs || (y == x || false)) ≡ false = sym (list_any-append (λ z. z == x) xs (y ∷ [])) ∙ not-true _ both.0 in
    let parts : (list_any (λ z. z == x) xs ≡ false) × ((y == x || false) ≡ false) = or_parts _ _ none in
    let ne : y ≢ x = eqb-false y x (or_parts (y == x) false parts.1).0 in
    (and_from _ _ (ap not parts.0) rest.0, ap (λ b. b || list_any (λ z. z == y) xs) (ne_eqb x y (λ e. ne (sym e))) ∙ rest.1)

all_last : (f : ℕ → Bool) (xs : List ℕ) (y : ℕ) → list_all f (xs ++ y ∷ []) ≡ true → (list_all f xs ≡ true) × (f y ≡ true)
all_last f [] y h = (refl, (and_parts (f y) true h).0)
all_last f (x ∷ xs) y h =
    let both : (f x ≡ true) × (list_all f (xs ++ y ∷ []) ≡ true) = and_parts (f x) (list_all f (xs ++ y ∷ [])) h in
    let rest = all_last f xs y both.1 in
    (and_from (f x) (list_all f xs) both.0 rest.0, rest.1)

-- the state with one owned run less
abbrev less : ℕ → PoolState → PoolState
less p s = record s { owned = finmap.remove s.owned p }

still_owned : (s : PoolState) (o p q : ℕ) → (q == p) ≡ false → is_owned_run (less p s) o q ≡ is_owned_run s o q
still_owned s o p q h = ap (is_just o) (finmap.get-remove nat_cmp_total s.owned p q ∙ ap (λ c. cond c None (finmap.get s.owned q)) (same_test p q ∙ h))

abbrev is_loose : PoolState → ℕ → ℕ → Bool
is_loose s o p = is_owned_run s o p && is_unpinned_run s o p

still_loose : (s : PoolState) (o p : ℕ) (qs : List ℕ) → list_any (λ x. x == p) qs ≡ false → list_all (is_loose s o) qs ≡ true → list_all (is_loose (less p s) o) qs ≡ true
still_loose s o p [] none h = refl
still_loose s o p (q ∷ qs) none h =
    let apart : ((q == p) ≡ false) × (list_any (λ x. x == p) qs ≡ false) = or_parts _ _ none in
    let both : (is_loose s o q ≡ true) × (list_all (is_loose s o) qs ≡ true) = and_parts _ _ h in
    and_from _ _ (ap (λ b. b && is_unpinned_run s o q) (still_owned s o p q apart.0) ∙ both.0) (still_loose s o p qs apart.1 both.1)

disown_last : (xs : List ℕ) (y : ℕ) (m : finmap.FinMap nat_cmp ℕ) → disown (xs ++ y ∷ []) m ≡ disown xs (finmap.remove m y)
disown_last [] y m = refl
disown_last (x ∷ xs) y m =
    disown_last xs y (finmap.remove m x)
    ∙ ap (disown xs) (finmap.same_map nat_cmp_total nat_cmp-IsAntisymmetric (finmap.remove (finmap.remove m x) y) (finmap.remove (finmap.remove m y) x)
    (λ q. finmap.get-remove nat_cmp_total (finmap.remove m x) y q ∙ ap (cond (eq_by_cmp nat_cmp q y) None) (finmap.get-remove nat_cmp_total m x q)
    ∙ swapped (eq_by_cmp nat_cmp q y) (eq_by_cmp nat_cmp q x) (finmap.get m q)
    ∙ sym (finmap.get-remove nat_cmp_total (finmap.remove m y) x q ∙ ap (cond (eq_by_cmp nat_cmp q x) None) (finmap.get-remove nat_cmp_total m y q))))
  where
    swapped : (a b : Bool) (v : Option ℕ) → cond a None (cond b None v) ≡ cond b None (cond a None v)
    swapped true true v = refl
    swapped true false v = refl
    swapped false true v = refl
    swapped false false v = refl

firsts_last : (fs : List FolioValue) (f : FolioValue) → firsts (first_frames (fs ++ f ∷ [])) ≡ firsts (first_frames fs) ++ f.first.0 ∷ []
firsts_last [] f = refl
firsts_last (g ∷ fs) f = ap (λ xs. g.first.0 ∷ xs) (firsts_last fs f)

-- the last folio of a list that can be given, and the others after it was given
module _ (o : ℕ) (v : PoolFramesValue) (f : FolioValue) (rest left : List FolioValue) (so : left ≡ rest ++ f ∷ []) (can : can_give v.state o (firsts (first_frames left)) ≡ true) where
  parts : (are_distinct (firsts (first_frames rest) ++ f.first.0 ∷ []) ≡ true) × (list_all (is_loose v.state o) (firsts (first_frames rest) ++ f.first.0 ∷ []) ≡ true)
  parts = and_parts _ _ (ap (can_give v.state o) (sym (firsts_last rest f)) ∙ ap (λ l. can_give v.state o (firsts (first_frames l))) (sym so) ∙ can)

  last_loose : is_loose v.state o f.first.0 ≡ true
  last_loose = (all_last (is_loose v.state o) (firsts (first_frames rest)) f.first.0 parts.1).1

  pub last_owned : is_owned_run v.state o f.first.0 ≡ true
  last_owned = (and_parts _ _ last_loose).0

  pub last_unpinned : is_unpinned_run v.state o f.first.0 ≡ true
  last_unpinned = (and_parts _ _ last_loose).1

  pub others_can : (w : PoolFramesValue) → w ≡ with_disowned (f.first ∷ []) v → can_give w.state o (firsts (first_frames rest)) ≡ true
  others_can w e =
      let d = distinct_last (firsts (first_frames rest)) f.first.0 parts.0 in
      ap (λ (x : PoolFramesValue). can_give x.state o (firsts (first_frames rest))) e
      ∙ and_from _ _ d.0 (still_loose v.state o f.first.0 (firsts (first_frames rest)) d.1 (all_last (is_loose v.state o) (firsts (first_frames rest)) f.first.0 parts.1).0)

pub give_step : (v w : PoolFramesValue) (f : FolioValue) (rest left : List FolioValue) → w ≡ with_disowned (f.first ∷ []) v → left ≡ rest ++ f ∷ [] → with_disowned (first_frames rest) w ≡ with_disowned (first_frames left) v
give_step v w f rest left e so =
    ap (with_disowned (first_frames rest)) e
    ∙ (λ i. record v { state = record v.state { owned = sym (ap (λ l. disown l v.state.owned) (ap (λ l. firsts (first_frames l)) so ∙ firsts_last rest f) ∙ disown_last (firsts (first_frames rest)) f.first.0 v.state.owned) i } })
