-- What a pool's frames keep when a run becomes owned, and when one is owned no more.
use Rattle.std.proofs.Common.{◌≡◌, ◌≢◌, ℕ, ◌+◌, ◌-◌, ◌%◌, ◌^◌, ◌<◌, ◌≤◌, ◌⊎◌, ◌&&◌, not, Bool, true, false, List, [], ◌∷◌, length, get_or, set, refl, ap, sym, ◌∙◌, arith, subst, zero, suc, ⊎_elim}
use Rattle.std.specs.List.{All, AllPairs}
use Rattle.std.specs.FinSet as finset
use Rattle.std.proofs.lemmas.Bool.{cases_eq, and_from, false≢true}
use Rattle.std.proofs.lemmas.Nat.{pow_pos}
use Rattle.std.proofs.lemmas.List.{length-set, get_or-set_other, get_or-set_same}
use Rattle.ho_base.specs.ShapeRule.{Layout}
use Rattle.ho_base.specs.declared.numbers.Pfn.{Pfn}
use Rattle.ho_events.specs.Pool.{is_free, is_free_run}
use Rattle.buddy_pages.specs.FreeFrames as buddy
use Rattle.buddy_pages.proofs.Frames.{same_bool, IsRun-from, length-with_frames, with_frames_in, with_frames_out}
use Rattle.buddy_pages.proofs.Runs.{run_kept}
use Rattle.folio_bitmaps.specs.Runs.{Run, Runs, Marks}
use Rattle.folio_bitmaps.proofs.Sets.{run_path}
use Rattle.pool_core.specs.PoolTags.{TableValue, AreRuns, is_held, is_usable, with_tag, with_tags, CanLend, EachCanLend}
use Rattle.pool_core.specs.PoolFramesValues.{state_of, KeepsPoolFrames}
use Rattle.pool_core.proofs.PoolHeld.{held_kept, held_now, held_only, held_before, held_still, held_gone, run_held, run_below}
use Rattle.pool_core.proofs.PoolHome.{cases_run}
use Rattle.pool_core.proofs.PoolFree.{free_is, free_usable, free_not_held, usable_below, run_frames, run_aligned, run_alike}

-- a frame that no run holds begins none
pub begins_none : (shape : Layout) (tags : List ℕ) (q : ℕ) → AreRuns shape tags → is_held tags q ≡ false → get_or tags q 0 ≡ 0
begins_none shape tags q k free = elim (get_or tags q 0) as (λ n. get_or tags q 0 ≡ n → n ≡ 0) [
  | zero ↦ λ e. refl
  | suc o ↦ λ e. let is : get_or tags q 0 ≡ o + 1 = omega (arith, e) in
      absurd (false≢true (sym free ∙ run_held tags q o is shape k q (omega arith) (omega (arith, pow_pos o))))
] refl

-- one more owned run, of frames that are free
module _ (t : TableValue) (marks : Runs) (o p : ℕ) (small : o ≤ 9) (k : AreRuns t.shape t.tags) (run : is_free_run (state_of t marks) o p ≡ true) where
  free_at : (q : ℕ) → p ≤ q → q < p + 2 ^ o → is_free (state_of t marks) q ≡ true
  free_at = run_frames (state_of t marks) o p run

  aligned : p % 2 ^ o ≡ 0
  aligned = run_aligned (state_of t marks) o p run

  pos : 0 < 2 ^ o
  pos = pow_pos o

  untouched : (q : ℕ) → p ≤ q → q < p + 2 ^ o → is_held t.tags q ≡ false
  untouched q from to = free_not_held t marks q (free_at q from to)

  blank : get_or t.tags p 0 ≡ 0
  blank = begins_none t.shape t.tags p k (untouched p (omega arith) (omega (arith, pos)))

  fits : p + 2 ^ o ≤ t.shape.frames
  fits =
      let u : is_usable t.shape (p + 2 ^ o - 1) ≡ true = free_usable t marks (p + 2 ^ o - 1) (free_at (p + 2 ^ o - 1) (omega (arith, pos)) (omega (arith, pos))) in
      omega (arith, usable_below t.shape (p + 2 ^ o - 1) u, pos)

  inside : p < length t.tags
  inside = omega (arith, fits, pos, k.len)

  pub can_lend : CanLend t o p
  can_lend = record { aligned = aligned; within = fits; blank = blank; each = untouched }

  new_tag : get_or (set t.tags p (o + 1)) p 0 ≡ o + 1
  new_tag = get_or-set_same t.tags p (o + 1) 0 inside

  other : (q r : ℕ) → q ≢ p → get_or (set t.tags p (o + 1)) q 0 ≡ r → get_or t.tags q 0 ≡ r
  other q r ne h = sym (get_or-set_other t.tags p q (o + 1) 0 ne) ∙ h

  its_order : (q r : ℕ) → q ≡ p → get_or (set t.tags p (o + 1)) q 0 ≡ r + 1 → r ≡ o
  its_order q r e h = let z : r + 1 ≡ o + 1 = sym h ∙ ap (λ x. get_or (set t.tags p (o + 1)) x 0) e ∙ new_tag in omega arith

  pub more_runs : AreRuns t.shape (set t.tags p (o + 1))
  more_runs = record {
    len = length-set t.tags p (o + 1) ∙ k.len;
    small = λ q. ⊎_elim
        (λ (e : q ≡ p). let z : get_or (set t.tags p (o + 1)) q 0 ≡ o + 1 = ap (λ x. get_or (set t.tags p (o + 1)) x 0) e ∙ new_tag in omega (arith, small))
        (λ (ne : q ≢ p). subst (λ (x : ℕ). x ≤ 10) (sym (get_or-set_other t.tags p q (o + 1) 0 ne)) (k.small q))
        (cases_eq q p);
    aligned = λ q r h. ⊎_elim
        (λ (e : q ≡ p). let P : ℕ → ℕ → Type 0 = λ a b. a % 2 ^ b ≡ 0 in
        subst (λ (a : ℕ). P a r) (sym e) (subst (λ (b : ℕ). P p b) (sym (its_order q r e h)) aligned))
        (λ (ne : q ≢ p). k.aligned q r (other q (r + 1) ne h))
        (cases_eq q p);
    apart = λ q r x h from to. ⊎_elim
        (λ (e : q ≡ p).
        let ord : r ≡ o = its_order q r e h in
        let below : x < q + 2 ^ o = subst (λ (b : ℕ). x < q + 2 ^ b) ord to in
        let ne : x ≢ p = λ z. absurd (omega arith) in
        get_or-set_other t.tags p x (o + 1) 0 ne ∙ begins_none t.shape t.tags x k (untouched x (omega arith) (omega arith)))
        (λ (ne : q ≢ p).
        let was : get_or t.tags q 0 ≡ r + 1 = other q (r + 1) ne h in
        ⊎_elim (λ (e : x ≡ p).
        let there : p < q + 2 ^ r = subst (λ (z : ℕ). z < q + 2 ^ r) e to in
        let held : is_held t.tags p ≡ true = run_held t.tags q r was t.shape k p (omega arith) there in
        absurd (false≢true (sym (untouched p (omega arith) (omega (arith, pos))) ∙ held)))
        (λ (away : x ≢ p). get_or-set_other t.tags p x (o + 1) 0 away ∙ k.apart q r x was from to)
        (cases_eq x p))
        (cases_eq q p);
    usable = λ q r x h from to. ⊎_elim
        (λ (e : q ≡ p).
        let ord : r ≡ o = its_order q r e h in
        let below : x < q + 2 ^ o = subst (λ (b : ℕ). x < q + 2 ^ b) ord to in
        free_usable t marks x (free_at x (omega arith) (omega arith)))
        (λ (ne : q ≢ p). k.usable q r x (other q (r + 1) ne h) from to)
        (cases_eq q p);
  }

  module _ (free : List Bool) (same : (q : ℕ) → buddy.is_free free q ≡ is_free (state_of t marks) q) (len : length free ≡ t.shape.frames) where
    pub more_free : (q : ℕ) → buddy.is_free (buddy.with_frames free p (2 ^ o) false) q ≡ is_free (state_of (with_tag t p (o + 1)) marks) q
    more_free q =
        ⊎_elim (λ (i : (p ≤ q) × (q < p + 2 ^ o)).
        with_frames_in free p (2 ^ o) false q (omega (arith, fits, len)) i.0 i.1
        ∙ sym (free_is (with_tag t p (o + 1)) marks q
        ∙ ap (λ b. is_usable t.shape q && not b) (held_now t.tags p o inside blank q aligned (omega (arith, small)) i.0 i.1)
        ∙ no_more (is_usable t.shape q)))
        (λ (out : (q < p) ⊎ (p + 2 ^ o ≤ q)).
        with_frames_out free p (2 ^ o) false q (omega (arith, fits, len)) out ∙ same q ∙ free_is t marks q
        ∙ sym (free_is (with_tag t p (o + 1)) marks q
        ∙ ap (λ b. is_usable t.shape q && not b) (same_bool (is_held (set t.tags p (o + 1)) q) (is_held t.tags q) (held_only t.tags p o inside blank q out) (held_kept t.tags p o inside blank q))))
        (cases_run p q (2 ^ o))
      where
        no_more : (b : Bool) → (b && false) ≡ false
        no_more true = refl
        no_more false = refl

  pub more_marks : (m : Runs) → ((r : Run) → finset.contains m r ≡ true → get_or t.tags r.first 0 ≡ r.order + 1) → (r : Run) → finset.contains m r ≡ true → get_or (set t.tags p (o + 1)) r.first 0 ≡ r.order + 1
  more_marks m owned r h =
      let is : get_or t.tags r.first 0 ≡ r.order + 1 = owned r h in
      let ne : r.first ≢ p = λ e. let z : r.order + 1 ≡ 0 = sym is ∙ ap (λ x. get_or t.tags x 0) e ∙ blank in absurd (omega arith) in
      get_or-set_other t.tags p r.first (o + 1) 0 ne ∙ is

-- one more owned run
pub keeps_more : (t : TableValue) (free : List Bool) (m : Marks) (o p : ℕ) → o ≤ 9 → KeepsPoolFrames t free m → is_free_run (state_of t m.runs) o p ≡ true → KeepsPoolFrames (with_tag t p (o + 1)) (buddy.with_frames free p (2 ^ o) false) m
keeps_more t free m o p small k run = record {
  runs = more_runs t m.runs o p small k.runs run;
  set_len = length-with_frames free p (2 ^ o) false (omega (arith, (can_lend t m.runs o p small k.runs run).within, k.set_len)) ∙ k.set_len;
  free = more_free t m.runs o p small k.runs run free k.free k.set_len;
  frames = k.frames;
  marks = more_marks t m.runs o p small k.runs run m.runs k.marks;
}

-- one owned run less, which isn't marked
module _ (t : TableValue) (marks : Runs) (o p : ℕ) (k : AreRuns t.shape t.tags) (is : get_or t.tags p 0 ≡ o + 1) where
  elsewhere : (q r : ℕ) → get_or (set t.tags p 0) q 0 ≡ r + 1 → q ≢ p
  elsewhere q r h e =
      let z : r + 1 ≡ 0 = sym h ∙ ap (λ x. get_or (set t.tags p 0) x 0) e ∙ get_or-set_same t.tags p 0 0 (run_below t.tags p o is) in
      absurd (omega arith)

  before : (q r : ℕ) → get_or (set t.tags p 0) q 0 ≡ r + 1 → get_or t.tags q 0 ≡ r + 1
  before q r h = sym (get_or-set_other t.tags p q 0 0 (elsewhere q r h)) ∙ h

  pub fewer_runs : AreRuns t.shape (set t.tags p 0)
  fewer_runs = record {
    len = length-set t.tags p 0 ∙ k.len;
    small = λ q. ⊎_elim
        (λ (e : q ≡ p). let z : get_or (set t.tags p 0) q 0 ≡ 0 = ap (λ x. get_or (set t.tags p 0) x 0) e ∙ get_or-set_same t.tags p 0 0 (run_below t.tags p o is) in omega arith)
        (λ (ne : q ≢ p). subst (λ (x : ℕ). x ≤ 10) (sym (get_or-set_other t.tags p q 0 0 ne)) (k.small q))
        (cases_eq q p);
    aligned = λ q r h. k.aligned q r (before q r h);
    apart = λ q r x h from to. ⊎_elim
        (λ (e : x ≡ p). ap (λ z. get_or (set t.tags p 0) z 0) e ∙ get_or-set_same t.tags p 0 0 (run_below t.tags p o is))
        (λ (ne : x ≢ p). get_or-set_other t.tags p x 0 0 ne ∙ k.apart q r x (before q r h) from to)
        (cases_eq x p);
    usable = λ q r x h from to. k.usable q r x (before q r h) from to;
  }

  pub given_within : p + 2 ^ o ≤ t.shape.frames
  given_within = omega (arith, usable_below t.shape (p + 2 ^ o - 1) (k.usable p o (p + 2 ^ o - 1) is (omega (arith, pow_pos o)) (omega (arith, pow_pos o))), pow_pos o)

  module _ (free : List Bool) (same : (q : ℕ) → buddy.is_free free q ≡ is_free (state_of t marks) q) (len : length free ≡ t.shape.frames) where
    pub fewer_free : (q : ℕ) → buddy.is_free (buddy.with_frames free p (2 ^ o) true) q ≡ is_free (state_of (with_tag t p 0) marks) q
    fewer_free q =
        ⊎_elim (λ (i : (p ≤ q) × (q < p + 2 ^ o)).
        with_frames_in free p (2 ^ o) true q (omega (arith, given_within, len)) i.0 i.1
        ∙ sym (free_is (with_tag t p 0) marks q
        ∙ and_from _ _ (k.usable p o q is i.0 i.1) (ap not (held_gone t.tags p o is t.shape k q i.0 i.1))))
        (λ (out : (q < p) ⊎ (p + 2 ^ o ≤ q)).
        with_frames_out free p (2 ^ o) true q (omega (arith, given_within, len)) out ∙ same q ∙ free_is t marks q
        ∙ sym (free_is (with_tag t p 0) marks q
        ∙ ap (λ b. is_usable t.shape q && not b) (same_bool (is_held (set t.tags p 0) q) (is_held t.tags q) (held_before t.tags p o is q) (held_still t.tags p o is q out))))
        (cases_run p q (2 ^ o))

    pub given_taken : (q : ℕ) → p ≤ q → q < p + 2 ^ o → buddy.is_free free q ≡ false
    given_taken q from to =
        same q ∙ free_is t marks q ∙ ap (λ b. is_usable t.shape q && not b) (run_held t.tags p o is t.shape k q from to) ∙ no_more (is_usable t.shape q)
      where
        no_more : (b : Bool) → (b && false) ≡ false
        no_more true = refl
        no_more false = refl

pub keeps_fewer : (t : TableValue) (free : List Bool) (m : Marks) (o p : ℕ) → KeepsPoolFrames t free m → get_or t.tags p 0 ≡ o + 1 → finset.contains m.runs (record { first = p; order = o }) ≡ false → KeepsPoolFrames (with_tag t p 0) (buddy.with_frames free p (2 ^ o) true) m
keeps_fewer t free m o p k is unmarked = record {
  runs = fewer_runs t m.runs o p k.runs is;
  set_len = length-with_frames free p (2 ^ o) true (omega (arith, given_within t m.runs o p k.runs is, k.set_len)) ∙ k.set_len;
  free = fewer_free t m.runs o p k.runs is free k.free k.set_len;
  frames = k.frames;
  marks = λ r h.
      let tag : get_or t.tags r.first 0 ≡ r.order + 1 = k.marks r h in
      let ne : r.first ≢ p = λ e.
      let z : r.order + 1 ≡ o + 1 = sym tag ∙ ap (λ x. get_or t.tags x 0) e ∙ is in
      let ord : r.order ≡ o = omega arith in
      absurd (false≢true (sym unmarked ∙ ap (finset.contains m.runs) (sym (run_path r (record { first = p; order = o }) ord e)) ∙ h)) in
      get_or-set_other t.tags p r.first 0 0 ne ∙ tag;
}

-- runs that are wholly free and apart, one after the other
pub keeps_taken : (t : TableValue) (free : List Bool) (m : Marks) (o : ℕ) (ps : List Pfn) → o ≤ 9 → KeepsPoolFrames t free m → All (λ p. buddy.is_free_run free o p.0 ≡ true) ps → AllPairs (buddy.AreApart o) ps → KeepsPoolFrames (with_tags (o + 1) ps t) (buddy.without_runs o free ps) m × EachCanLend t o ps
unfolding with_tags EachCanLend buddy.without_runs
keeps_taken t free m o [] small k all apart = (k, tt)
keeps_taken t free m o (p ∷ ps) small k all apart =
    let first : buddy.is_free_run free o p.0 ≡ true = all 0 p (omega arith) in
    let run : is_free_run (state_of t m.runs) o p.0 ≡ true = sym (run_alike (state_of t m.runs) free k.free o p.0) ∙ first in
    let rest = keeps_taken (with_tag t p.0 (o + 1)) (buddy.with_frames free p.0 (2 ^ o) false) m o ps small
    (keeps_more t free m o p.0 small k run)
    (λ i d l. run_kept free o p.0 (get_or ps i d).0 (IsRun-from free o p.0 first) (differ i d l) ∙ all (suc i) d (omega arith))
    (λ i j d a b. apart (suc i) (suc j) d (omega arith) (omega arith)) in
    (rest.0, (can_lend t m.runs o p.0 small k.runs run, rest.1))
  where
    differ : (i : ℕ) (d : Pfn) → i < length ps → (get_or ps i d).0 ≢ p.0
    differ i d l e =
        ⊎_elim (λ (h : p.0 + 2 ^ o ≤ (get_or ps i d).0). absurd (omega (arith, pow_pos o)))
        (λ (h : (get_or ps i d).0 + 2 ^ o ≤ p.0). absurd (omega (arith, pow_pos o)))
        (apart 0 (suc i) d (omega arith) (omega arith))
