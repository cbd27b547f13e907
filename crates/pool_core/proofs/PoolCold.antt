-- Before any run is owned.
use Rattle.std.proofs.Common.{◌≡◌, ◌≢◌, ℕ, ◌+◌, ◌<◌, ◌≤◌, ◌⊎◌, ◌&&◌, not, nat_lt, Bool, true, false, List, length, get_or, replicate, refl, ap, sym, ◌∙◌, arith, subst, zero, inl, inr, ⊎_elim}
use Rattle.std.specs.Ordering.{nat_cmp}
use Rattle.std.specs.Cmp.{nat_cmp_total}
use Rattle.std.specs.FinMap as finmap
use Rattle.std.specs.FinSet as finset
use Rattle.std.specs.FinMap.{nat_cmp-IsAntisymmetric}
use Rattle.std.proofs.lemmas.Bool.{cases_lt, cases_eq, and_from, lt-ltb, le-ltb, false≢true}
use Rattle.std.proofs.lemmas.List.{length-replicate, get_or-replicate, get_or_past}
use Rattle.std.proofs.lemmas.List.FromFn.{length-map-range_with_len, get_or-map-range_with_len}
use Rattle.ho_base.specs.ShapeRule.{Layout, in_scratch}
use Rattle.ho_events.specs.Lists.{upto}
use Rattle.ho_events.specs.Pool.{cold_pool}
use Rattle.buddy_pages.specs.FreeFrames as buddy
use Rattle.buddy_pages.proofs.Frames.{is_free_run-from, length-with_frames, with_frames_in, with_frames_out}
use Rattle.folio_bitmaps.specs.Runs.{Marks, run_cmp}
use Rattle.phys_frames.specs.Homes.{HomeId}
use Rattle.pool_core.specs.PoolTags.{TableValue, AreRuns, is_held, is_usable, owned_of, order_at}
use Rattle.pool_core.specs.PoolFramesValues.{state_of, pinned_of, is_marked, run_over, KeepsPoolFrames, AreUsable, AreUsableBelow}
use Rattle.pool_core.proofs.PoolOwned.{get_owned}
use Rattle.pool_core.proofs.PoolHeld.{none_false, some_upto, held_some}
use Rattle.pool_core.proofs.PoolFree.{free_is}
use Rattle.pool_core.proofs.PoolTaken.{pool_of}

-- the numbers of frames of which no run is owned
abbrev zeros : ℕ → List ℕ
zeros n = replicate n 0

zero_at : (n q : ℕ) → get_or (zeros n) q 0 ≡ zero
zero_at n q =
    ⊎_elim (λ (l : q < n). get_or-replicate n q 0 0 l)
    (λ (l : n ≤ q). get_or_past (replicate n 0) q 0 (omega (arith, length-replicate {A = ℕ} n 0)))
    (cases_lt q n)

none_owned : (n : ℕ) → owned_of (replicate n 0) ≡ finmap.empty
none_owned n =
    finmap.same_map nat_cmp_total nat_cmp-IsAntisymmetric (owned_of (replicate n 0)) finmap.empty
    (λ q. get_owned (replicate n 0) q ∙ ap order_at (zero_at n q) ∙ sym (finmap.get-empty nat_cmp q))

none_marked : (p : ℕ) → is_marked finset.empty p ≡ false
unfolding is_marked
none_marked p = none_false _ (λ h.
    let some = some_upto (λ o. finset.contains finset.empty (run_over o p)) 10 h in
    false≢true (sym (finset.contains-empty run_cmp (run_over some.0 p)) ∙ some.1.1))

and_none : (a b : Bool) → b ≡ false → (a && b) ≡ false
and_none true b h = h
and_none false b h = refl

none_pinned : (n : ℕ) → pinned_of n finset.empty ≡ finset.empty
unfolding pinned_of
none_pinned n =
    finset.same_set nat_cmp_total nat_cmp-IsAntisymmetric (pinned_of n finset.empty) finset.empty
    (λ q. finset.contains-retain (finset.from_list (upto n)) (is_marked finset.empty) q (λ x e. none_marked x ∙ sym (none_marked q))
    ∙ and_none _ _ (none_marked q) ∙ sym (finset.contains-empty nat_cmp q))

-- the state of a pool that begins cold
pub cold_state : (shape : Layout) (home : HomeId) → state_of (record { shape = shape; home = home; tags = replicate shape.frames 0 }) finset.empty ≡ cold_pool shape
cold_state shape home = λ i. record { shape = shape; owned = none_owned shape.frames i; pinned = none_pinned shape.frames i }

no_run : (n p o : ℕ) → get_or (zeros n) p 0 ≡ o + 1 → ⊥
no_run n p o h = omega (arith, h, zero_at n p)

cold_runs : (shape : Layout) → AreRuns shape (replicate shape.frames 0)
cold_runs shape = record {
  len = length-replicate {A = ℕ} shape.frames 0;
  small = λ p. omega (arith, zero_at shape.frames p);
  aligned = λ p o h. absurd (no_run shape.frames p o h);
  apart = λ p o q h from to. absurd (no_run shape.frames p o h);
  usable = λ p o q h from to. absurd (no_run shape.frames p o h);
}

pub none_held : (n q : ℕ) → is_held (replicate n 0) q ≡ false
none_held n q = none_false _ (λ h. let b = held_some (replicate n 0) q h in no_run n b.start b.order b.block.tag)

and_true : (b : Bool) → (b && true) ≡ b
and_true true = refl
and_true false = refl

abbrev pub cold_table : Layout → HomeId → TableValue
cold_table shape home = record { shape = shape; home = home; tags = replicate shape.frames 0 }

keeps_cold : (shape : Layout) (home : HomeId) (set : List Bool) (n : ℕ) → n ≡ shape.frames → AreUsable shape set → KeepsPoolFrames (cold_table shape home) set (record { frames = n; runs = finset.empty })
keeps_cold shape home set n is u = record {
  runs = cold_runs shape;
  set_len = u.len;
  free = λ p. u.each p ∙ sym (free_is (cold_table shape home) finset.empty p
      ∙ ap (λ b. is_usable shape p && not b) (none_held shape.frames p) ∙ and_true (is_usable shape p));
  frames = is;
  marks = λ r h. absurd (false≢true (sym (finset.contains-empty run_cmp r) ∙ h));
}

pub cold_keeps : (shape : Layout) (home : HomeId) (t : TableValue) (set : List Bool) (m : Marks) (n : ℕ) → t ≡ cold_table shape home → m ≡ record { frames = n; runs = finset.empty } → n ≡ shape.frames → AreUsable shape set → KeepsPoolFrames t set m
cold_keeps shape home t set m n e f is u =
    subst (λ (x : TableValue). KeepsPoolFrames x set m) (sym e) (subst (λ (x : Marks). KeepsPoolFrames (cold_table shape home) set x) (sym f) (keeps_cold shape home set n is u))

pub cold_pool_is : (shape : Layout) (home : HomeId) (t : TableValue) (m : Marks) (n : ℕ) → t ≡ cold_table shape home → m ≡ record { frames = n; runs = finset.empty } → pool_of t m.runs ≡ record { state = cold_pool shape; home = home; marks = finset.empty }
cold_pool_is shape home t m n e f =
    ap (λ (x : TableValue). pool_of x m.runs) e ∙ ap (λ (x : Marks). pool_of (cold_table shape home) x.runs) f
    ∙ (λ i. record { state = cold_state shape home i; home = home; marks = finset.empty })

-- the scratch frames are taken out one after the other
below_all : (n q : ℕ) → buddy.is_free (buddy.all_but_first n) q ≡ (nat_lt 0 q && nat_lt q n)
unfolding buddy.is_free buddy.all_but_first
below_all n q =
    ⊎_elim (λ (l : q < n). get_or-map-range_with_len (nat_lt 0) 0 n q q false l (omega arith) ∙ sym (ap (λ b. nat_lt 0 q && b) (lt-ltb q n l) ∙ and_true (nat_lt 0 q)))
    (λ (l : n ≤ q). get_or_past (buddy.all_but_first n) q false (omega (arith, length-map-range_with_len (nat_lt 0) 0 n)) ∙ sym (and_none (nat_lt 0 q) _ (le-ltb q n l)))
    (cases_lt q n)

length_all : (n : ℕ) → length (buddy.all_but_first n) ≡ n
unfolding buddy.all_but_first
length_all n = length-map-range_with_len (nat_lt 0) 0 n

not_below_one : (q : ℕ) (b : Bool) → 0 < q → not (nat_lt q 1 && b) ≡ true
not_below_one q b h = ap (λ c. not (c && b)) (le-ltb q 1 (omega arith))

below_first : (shape : Layout) → AreUsableBelow shape 1 (buddy.all_but_first shape.frames)
below_first shape = record {
  len = length_all shape.frames;
  each = λ q. below_all shape.frames q ∙ sym (⊎_elim
      (λ (l : q < 1). let z : q ≡ 0 = omega arith in subst (λ (x : ℕ). (nat_lt 0 x && nat_lt x shape.frames && not (nat_lt x 1 && in_scratch shape.scratch x)) ≡ (nat_lt 0 x && nat_lt x shape.frames)) (sym z) refl)
      (λ (l : 1 ≤ q). ap (λ b. nat_lt 0 q && nat_lt q shape.frames && b) (not_below_one q (in_scratch shape.scratch q) (omega arith)) ∙ and_true (nat_lt 0 q && nat_lt q shape.frames))
      (cases_lt q 1));
}

pub first_below : (shape : Layout) (set : List Bool) (n : ℕ) → set ≡ buddy.all_but_first n → n ≡ shape.frames → AreUsableBelow shape 1 set
first_below shape set n e f = subst (AreUsableBelow shape 1) (sym (e ∙ ap buddy.all_but_first f)) (below_first shape)

-- the last number below p + 1 is p
next_same : (p q : ℕ) (b : Bool) → (q ≢ p) ⊎ (b ≡ false) → (nat_lt q (p + 1) && b) ≡ (nat_lt q p && b)
next_same p q b (inl ne) = ap (λ c. c && b) (⊎_elim (λ (l : q < p). lt-ltb q (p + 1) (omega arith) ∙ sym (lt-ltb q p l)) (λ (l : p ≤ q). le-ltb q (p + 1) (omega arith) ∙ sym (le-ltb q p l)) (cases_lt q p))
next_same p q b (inr none) = and_none _ b none ∙ sym (and_none _ b none)

pub scratch_left : (shape : Layout) (p : ℕ) (set : List Bool) → in_scratch shape.scratch p ≡ false → AreUsableBelow shape p set → AreUsableBelow shape (p + 1) set
scratch_left shape p set none u = record {
  len = u.len;
  each = λ q. u.each q ∙ ap (λ b. nat_lt 0 q && nat_lt q shape.frames && not b)
      (sym (next_same p q (in_scratch shape.scratch q) (⊎_elim (λ (e : q ≡ p). inr (ap (in_scratch shape.scratch) e ∙ none)) (λ (ne : q ≢ p). inl ne) (cases_eq q p))));
}

pub can_reserve : (shape : Layout) (p : ℕ) (set : List Bool) → 0 < p → p < shape.frames → AreUsableBelow shape p set → buddy.is_free_run set 0 p ≡ true
can_reserve shape p set later below u = is_free_run-from set 0 p (record {
  aligned = omega arith;
  frames = record {
    each = λ q from to.
        let e : q ≡ p = omega arith in
        u.each q ∙ and_from _ _ (and_from _ _ (lt-ltb 0 q (omega arith)) (lt-ltb q shape.frames (omega arith))) (ap (λ c. not (c && in_scratch shape.scratch q)) (le-ltb q p (omega arith)));
  };
})

pub scratch_out : (shape : Layout) (p : ℕ) (set : List Bool) → p < shape.frames → in_scratch shape.scratch p ≡ true → AreUsableBelow shape p set → AreUsableBelow shape (p + 1) (buddy.with_frames set p 1 false)
scratch_out shape p set below is u = record {
  len = length-with_frames set p 1 false (omega (arith, u.len)) ∙ u.len;
  each = λ q. ⊎_elim
      (λ (e : q ≡ p).
      with_frames_in set p 1 false q (omega (arith, u.len)) (omega arith) (omega arith)
      ∙ sym (and_none _ _ (ap not (and_from _ _ (lt-ltb q (p + 1) (omega arith)) (ap (in_scratch shape.scratch) e ∙ is)))))
      (λ (ne : q ≢ p).
      with_frames_out set p 1 false q (omega (arith, u.len)) (⊎_elim (λ (l : q < p). inl l) (λ (l : p ≤ q). inr (omega arith)) (cases_lt q p))
      ∙ u.each q ∙ ap (λ b. nat_lt 0 q && nat_lt q shape.frames && not b) (sym (next_same p q (in_scratch shape.scratch q) (inl ne))))
      (cases_eq q p);
}

pub all_usable : (shape : Layout) (set : List Bool) (n : ℕ) → shape.frames ≤ n → AreUsableBelow shape n set → AreUsable shape set
unfolding is_usable
all_usable shape set n past u = record {
  len = u.len;
  each = λ q. u.each q ∙ (⊎_elim
      (λ (l : q < shape.frames). ap (λ b. nat_lt 0 q && nat_lt q shape.frames && not (b && in_scratch shape.scratch q)) (lt-ltb q n (omega arith)))
      (λ (l : shape.frames ≤ q). beyond q l)
      (cases_lt q shape.frames));
}
  where
    three : (a b c d : Bool) → b ≡ false → (a && b && c) ≡ (a && b && d)
    three true true c d h = absurd (false≢true (sym h))
    three true false c d h = refl
    three false b c d h = refl

    beyond : (q : ℕ) → shape.frames ≤ q → (nat_lt 0 q && nat_lt q shape.frames && not (nat_lt q n && in_scratch shape.scratch q)) ≡ (nat_lt 0 q && nat_lt q shape.frames && not (in_scratch shape.scratch q))
    beyond q l = three (nat_lt 0 q) (nat_lt q shape.frames) _ _ (le-ltb q shape.frames l)
