-- What the answers about a pool's frames are.
use Rattle.std.proofs.Common.{◌≡◌, ℕ, ◌+◌, ◌^◌, ◌<◌, ◌≤◌, ◌==◌, ◌&&◌, ◌||◌, not, nat_lt, Bool, true, false, List, [], ◌∷◌, length, get_or, refl, ap, sym, ◌∙◌, arith, subst, suc}
use Rattle.std.specs.Prelude.{nat_le, None}
use Rattle.std.specs.Option.{IsSome}
use Rattle.std.specs.List.{list_any, list_all}
use Rattle.std.specs.Ordering.{nat_cmp}
use Rattle.std.specs.FinSet as finset
use Rattle.std.proofs.lemmas.Bool.{and_from, and_parts, eqb-true, ne_eqb, le-leb, leb-true, lt-ltb, le-ltb}
use Rattle.ho_base.specs.declared.numbers.Pfn.{Pfn}
use Rattle.ho_events.specs.Lists.{are_distinct, firsts, upto}
use Rattle.ho_events.specs.Pool.{PoolState, is_owned, is_owned_run, is_unpinned_run, is_pinned_run, can_give, can_unmark, run_start, frames_of}
use Rattle.phys_frames.specs.Memory.{FolioValue, Memory, IsHome, first_frames}
use Rattle.folio_bitmaps.specs.Runs.{Run, Runs, Marks}
use Rattle.folio_bitmaps.proofs.Sets.{any_map}
use Rattle.pool_core.specs.PoolTags.{TableValue, is_held, is_held_below}
use Rattle.pool_core.specs.PoolFramesValues.{PoolFramesValue, run_over, is_marked, is_marked_below, KeepsPoolFrames, any_pinned, is_loose, is_kept, each_is_loose, each_is_kept, are_different, has_run, are_rising_from}
use Rattle.pool_core.proofs.PoolOwned.{owned_run, owned_frame}
use Rattle.pool_core.proofs.PoolHeld.{last_one, any_upto, none_false}
use Rattle.pool_core.proofs.PoolMarks.{run_by, pinned_is, run_pinned, run_unpinned}
use Rattle.pool_core.proofs.PoolTaken.{pool_of}

or_both : (a b : Bool) → a ≡ false → b ≡ false → (a || b) ≡ false
or_both a b h k = ap (λ x. x || b) h ∙ k

none_next : (f : ℕ → Bool) (n : ℕ) → list_any f (upto n) ≡ false → f n ≡ false → list_any f (upto (n + 1)) ≡ false
none_next f n h k = let e : n + 1 ≡ suc n = omega arith in ap (λ x. list_any f (upto x)) e ∙ last_one f n ∙ or_both _ _ h k

-- the orders of the runs that may hold a frame, one after the other
pub none_holds : (tags : List ℕ) (p : ℕ) → is_held_below tags p 0 ≡ false
unfolding is_held_below upto
none_holds tags p = refl

pub holds_not : (tags : List ℕ) (p n q : ℕ) (b : Bool) → is_held_below tags p n ≡ false → q ≡ run_start n p → b ≡ (get_or tags q 0 == n + 1) → b ≡ false → is_held_below tags p (n + 1) ≡ false
unfolding is_held_below
holds_not tags p n q b h e is none = none_next (λ o. get_or tags (run_start o p) 0 == o + 1) n h (ap (λ x. get_or tags x 0 == n + 1) (sym e) ∙ sym is ∙ none)

pub holds_here : (tags : List ℕ) (p n q : ℕ) (b : Bool) → n < 10 → q ≡ run_start n p → b ≡ (get_or tags q 0 == n + 1) → b ≡ true → true ≡ is_held tags p
unfolding is_held
holds_here tags p n q b small e is holds =
    sym (any_upto (λ o. get_or tags (run_start o p) 0 == o + 1) 10 n small (ap (λ x. get_or tags x 0 == n + 1) (sym e) ∙ sym is ∙ holds))

pub holds_none : (tags : List ℕ) (p n : ℕ) → n ≡ 10 → is_held_below tags p n ≡ false → false ≡ is_held tags p
unfolding is_held is_held_below
holds_none tags p n e h = sym (ap (is_held_below tags p) (sym e) ∙ h)

pub none_marks : (marks : Runs) (p : ℕ) → is_marked_below marks p 0 ≡ false
unfolding is_marked_below upto
none_marks marks p = refl

abbrev run_of : ℕ → ℕ → Run
run_of q o = record { first = q; order = o }

pub marks_not : (marks : Runs) (p n q : ℕ) (b : Bool) → is_marked_below marks p n ≡ false → q ≡ run_start n p → b ≡ finset.contains marks (run_of q n) → b ≡ false → is_marked_below marks p (n + 1) ≡ false
unfolding is_marked_below
marks_not marks p n q b h e is none = none_next (λ o. finset.contains marks (run_over o p)) n h (ap (λ x. finset.contains marks (run_of x n)) (sym e) ∙ sym is ∙ none)

pub marks_here : (marks : Runs) (p n q : ℕ) (b : Bool) → n < 10 → q ≡ run_start n p → b ≡ finset.contains marks (run_of q n) → b ≡ true → true ≡ is_marked marks p
unfolding is_marked
marks_here marks p n q b small e is holds =
    sym (any_upto (λ o. finset.contains marks (run_over o p)) 10 n small (ap (λ x. finset.contains marks (run_of x n)) (sym e) ∙ sym is ∙ holds))

pub marks_none : (marks : Runs) (p n : ℕ) → n ≡ 10 → is_marked_below marks p n ≡ false → false ≡ is_marked marks p
unfolding is_marked is_marked_below
marks_none marks p n e h = sym (ap (is_marked_below marks p) (sym e) ∙ h)

-- runs that rise are different
none_lower : (p y : ℕ) (runs : List Pfn) → y < p → are_rising_from p runs ≡ true → list_any (λ r. r == y) (firsts runs) ≡ false
unfolding are_rising_from
none_lower p y [] below h = refl
none_lower p y (r ∷ runs) below h =
    let both : (nat_le p r.0 ≡ true) × (are_rising_from (r.0 + 1) runs ≡ true) = and_parts _ _ h in
    let le : p ≤ r.0 = leb-true p r.0 both.0 in
    or_both _ _ (ne_eqb r.0 y (λ e. absurd (omega arith))) (none_lower (r.0 + 1) y runs (omega arith) both.1)

rising_distinct : (p : ℕ) (runs : List Pfn) → are_rising_from p runs ≡ true → are_distinct (firsts runs) ≡ true
unfolding are_rising_from
rising_distinct p [] h = refl
rising_distinct p (r ∷ runs) h =
    let both : (nat_le p r.0 ≡ true) × (are_rising_from (r.0 + 1) runs ≡ true) = and_parts _ _ h in
    and_from _ _ (ap not (none_lower (r.0 + 1) r.0 runs (omega arith) both.1)) (rising_distinct (r.0 + 1) runs both.1)

pub rising_differ : (runs : List Pfn) (b : Bool) → b ≡ are_rising_from 0 runs → b ≡ true → true ≡ are_different runs
unfolding are_different
rising_differ runs b is h = sym (rising_distinct 0 runs (sym is ∙ h))

pub rises_not : (p : ℕ) (r : Pfn) (runs : List Pfn) → r.0 < p → are_rising_from p (r ∷ runs) ≡ false
unfolding are_rising_from
rises_not p r runs below = ap (λ b. b && are_rising_from (r.0 + 1) runs) (none_false (nat_le p r.0) (λ h. absurd (omega (arith, leb-true p r.0 h, below))))

pub rises_on : (p : ℕ) (r : Pfn) (runs : List Pfn) → p ≤ r.0 → are_rising_from p (r ∷ runs) ≡ are_rising_from (r.0 + 1) runs
unfolding are_rising_from
rises_on p r runs le = ap (λ b. b && are_rising_from (r.0 + 1) runs) (le-leb p r.0 le)

pub rises_end : (p : ℕ) (runs : List Pfn) → length runs ≡ 0 → are_rising_from p runs ≡ true
unfolding are_rising_from
rises_end p [] h = refl
rises_end p (r ∷ runs) h = absurd (omega arith)

pub folios_end : (p : ℕ) (folios : List FolioValue) → length folios ≡ 0 → are_rising_from p (first_frames folios) ≡ true
unfolding are_rising_from
folios_end p [] h = refl
folios_end p (f ∷ folios) h = absurd (omega arith)

-- a run that stands again behind the first one, or doesn't
any_run : (x : ℕ) (runs : List Pfn) → list_any (λ r. r == x) (firsts runs) ≡ has_run x runs
unfolding has_run
any_run x [] = refl
any_run x (r ∷ runs) = ap (λ b. r.0 == x || b) (any_run x runs)

pub repeats : (r : Pfn) (runs : List Pfn) → has_run r.0 runs ≡ true → are_different (r ∷ runs) ≡ false
unfolding are_different
repeats r runs h = ap (λ b. not b && are_distinct (firsts runs)) (any_run r.0 runs ∙ h)

pub goes_on : (r : Pfn) (runs : List Pfn) → has_run r.0 runs ≡ false → are_different (r ∷ runs) ≡ are_different runs
unfolding are_different
goes_on r runs h = ap (λ b. not b && are_distinct (firsts runs)) (any_run r.0 runs ∙ h)

pub none_repeats : (runs : List Pfn) → length runs ≡ 0 → are_different runs ≡ true
unfolding are_different
none_repeats [] h = refl
none_repeats (r ∷ runs) h = absurd (omega arith)

pub no_folio_repeats : (folios : List FolioValue) → length folios ≡ 0 → are_different (first_frames folios) ≡ true
unfolding are_different
no_folio_repeats [] h = refl
no_folio_repeats (f ∷ folios) h = absurd (omega arith)

-- the two tests of a list of runs
all_loose : (s : PoolState) (o : ℕ) (runs : List Pfn) → each_is_loose s o runs ≡ list_all (λ p. is_owned_run s o p && is_unpinned_run s o p) (firsts runs)
unfolding each_is_loose is_loose
all_loose s o [] = refl
all_loose s o (r ∷ runs) = ap (λ b. is_owned_run s o r.0 && is_unpinned_run s o r.0 && b) (all_loose s o runs)

all_kept : (s : PoolState) (o : ℕ) (runs : List Pfn) → each_is_kept s o runs ≡ list_all (λ p. is_owned_run s o p && is_pinned_run s o p) (firsts runs)
unfolding each_is_kept is_kept
all_kept s o [] = refl
all_kept s o (r ∷ runs) = ap (λ b. is_owned_run s o r.0 && is_pinned_run s o r.0 && b) (all_kept s o runs)

second_test : (a b d e : Bool) → a ≡ d → a ≡ true → b ≡ e → b ≡ (d && e)
second_test a b d e first holds second = second ∙ ap (λ x. x && e) (sym holds ∙ first)

first_test : (a d e : Bool) → a ≡ d → a ≡ false → a ≡ (d && e)
first_test a d e first fails = fails ∙ ap (λ x. x && e) (sym fails ∙ first)

module _ (s : PoolState) (o : ℕ) (runs : List Pfn) (a : Bool) (first : a ≡ are_different runs) where
  pub give_then : (b : Bool) → a ≡ true → b ≡ each_is_loose s o runs → b ≡ can_give s o (firsts runs)
  unfolding are_different
  give_then b holds second = second_test a b (are_distinct (firsts runs)) (list_all (λ p. is_owned_run s o p && is_unpinned_run s o p) (firsts runs)) first holds (second ∙ all_loose s o runs)

  pub give_else : a ≡ false → a ≡ can_give s o (firsts runs)
  unfolding are_different
  give_else fails = first_test a (are_distinct (firsts runs)) (list_all (λ p. is_owned_run s o p && is_unpinned_run s o p) (firsts runs)) first fails

  pub unmark_then : (b : Bool) → a ≡ true → b ≡ each_is_kept s o runs → b ≡ can_unmark s o (firsts runs)
  unfolding are_different
  unmark_then b holds second = second_test a b (are_distinct (firsts runs)) (list_all (λ p. is_owned_run s o p && is_pinned_run s o p) (firsts runs)) first holds (second ∙ all_kept s o runs)

  pub unmark_else : a ≡ false → a ≡ can_unmark s o (firsts runs)
  unfolding are_different
  unmark_else fails = first_test a (are_distinct (firsts runs)) (list_all (λ p. is_owned_run s o p && is_pinned_run s o p) (firsts runs)) first fails

-- one run
module _ (t : TableValue) (free : List Bool) (m : Marks) (v : PoolFramesValue) (k : KeepsPoolFrames t free m) (e : pool_of t m.runs ≡ v) (o p : ℕ) (b : Bool) (is : b ≡ (get_or t.tags p 0 == o + 1)) where
  pub owned_told : b ≡ is_owned_run v.state o p
  owned_told = is ∙ sym (owned_run t.tags o p) ∙ ap (λ (x : PoolFramesValue). is_owned_run x.state o p) e

  pub loose_then : (c : Bool) → b ≡ true → c ≡ finset.contains m.runs (run_by o p) → not c ≡ is_loose v.state o p
  unfolding is_loose
  loose_then c holds marked =
      let tag : get_or t.tags p 0 ≡ o + 1 = eqb-true (get_or t.tags p 0) (o + 1) (sym is ∙ holds) in
      ap not marked ∙ sym (run_unpinned t.shape t.tags k.runs m.runs k.marks o p tag)
      ∙ ap (λ (x : PoolFramesValue). is_unpinned_run x.state o p) e
      ∙ ap (λ x. x && is_unpinned_run v.state o p) (sym holds ∙ owned_told)

  pub loose_else : b ≡ false → b ≡ is_loose v.state o p
  unfolding is_loose
  loose_else fails = first_test b (is_owned_run v.state o p) (is_unpinned_run v.state o p) owned_told fails

  pub kept_then : (c : Bool) → b ≡ true → c ≡ finset.contains m.runs (run_by o p) → c ≡ is_kept v.state o p
  unfolding is_kept
  kept_then c holds marked =
      let tag : get_or t.tags p 0 ≡ o + 1 = eqb-true (get_or t.tags p 0) (o + 1) (sym is ∙ holds) in
      marked ∙ sym (run_pinned t.shape t.tags k.runs m.runs k.marks o p tag)
      ∙ ap (λ (x : PoolFramesValue). is_pinned_run x.state o p) e
      ∙ ap (λ x. x && is_pinned_run v.state o p) (sym holds ∙ owned_told)

  pub kept_else : b ≡ false → b ≡ is_kept v.state o p
  unfolding is_kept
  kept_else fails = first_test b (is_owned_run v.state o p) (is_pinned_run v.state o p) owned_told fails

-- one frame
module _ (t : TableValue) (marks : Runs) (v : PoolFramesValue) (e : pool_of t marks ≡ v) (p : ℕ) (b : Bool) where
  pub held_told : b ≡ is_held t.tags p → b ≡ is_owned v.state p
  held_told is = is ∙ sym (owned_frame t.tags p) ∙ ap (λ (x : PoolFramesValue). is_owned x.state p) e

  pub pins_then : (frames : ℕ) → frames ≡ t.shape.frames → p < frames → b ≡ is_marked marks p → b ≡ finset.contains v.state.pinned p
  pins_then frames n below is =
      is ∙ ap (λ x. x && is_marked marks p) (sym (lt-ltb p t.shape.frames (omega (arith, n, below)))) ∙ sym (pinned_is t.shape.frames marks p)
      ∙ ap (λ (x : PoolFramesValue). finset.contains x.state.pinned p) e

  pub pins_else : (frames : ℕ) → frames ≡ t.shape.frames → frames ≤ p → false ≡ finset.contains v.state.pinned p
  pins_else frames n past =
      ap (λ x. x && is_marked marks p) (sym (le-ltb p t.shape.frames (omega (arith, n, past)))) ∙ sym (pinned_is t.shape.frames marks p)
      ∙ ap (λ (x : PoolFramesValue). finset.contains x.state.pinned p) e

pub test_false : (p n : ℕ) → n ≤ p → nat_lt p n ≡ false
test_false p n past = le-ltb p n past

-- the frames of a run, one after the other
pub none_pinned_yet : (pinned : finset.FinSet nat_cmp) (first : ℕ) → any_pinned pinned first 0 ≡ false
unfolding any_pinned upto
none_pinned_yet pinned first = refl

pub none_pinned_more : (pinned : finset.FinSet nat_cmp) (first n : ℕ) → any_pinned pinned first n ≡ false → finset.contains pinned (first + n) ≡ false → any_pinned pinned first (n + 1) ≡ false
unfolding any_pinned
none_pinned_more pinned first n h k = none_next (λ i. finset.contains pinned (first + i)) n h k

pub found_pinned : (pinned : finset.FinSet nat_cmp) (first n o count : ℕ) → count ≡ 2 ^ o → n < count → finset.contains pinned (first + n) ≡ true → true ≡ list_any (finset.contains pinned) (frames_of o first)
found_pinned pinned first n o count e below h =
    sym (any_map (finset.contains pinned) (λ i. first + i) (upto (2 ^ o))
    ∙ any_upto (λ i. finset.contains pinned (first + i)) (2 ^ o) n (omega (arith, e, below)) h)

pub found_none : (pinned : finset.FinSet nat_cmp) (first o count : ℕ) → count ≡ 2 ^ o → any_pinned pinned first count ≡ false → false ≡ list_any (finset.contains pinned) (frames_of o first)
unfolding any_pinned
found_none pinned first o count e h =
    sym (any_map (finset.contains pinned) (λ i. first + i) (upto (2 ^ o)) ∙ ap (any_pinned pinned first) (sym e) ∙ h)

-- the frames that are given up
pub free_told : (t : TableValue) (marks : Runs) (v : PoolFramesValue) (m : Memory) → pool_of t marks ≡ v → ((p : ℕ) → p < t.shape.frames → is_held t.tags p ≡ false → IsSome (get_or m.pages p None)) → (p : Pfn) → p.0 < v.state.shape.frames → is_owned v.state p.0 ≡ false → IsHome m p
free_told t marks v m e home p below free =
    home p.0 (subst (λ (x : PoolFramesValue). p.0 < x.state.shape.frames) (sym e) below)
    (sym (owned_frame t.tags p.0) ∙ subst (λ (x : PoolFramesValue). is_owned x.state p.0 ≡ false) (sym e) free)
