-- Runs that are taken one after the other.
use Rattle.std.proofs.Common.{◌≡◌, ◌≢◌, ℕ, ◌+◌, ◌^◌, ◌%◌, ◌<◌, ◌≤◌, Bool, true, false, List, [], ◌∷◌, ◌++◌, length, get_or, drop, refl, sym, ◌∙◌, ap, subst, inl, ⊎_elim, arith}
use Rattle.std.specs.List.{All, AllPairs}
use Rattle.std.proofs.lemmas.Bool.{cases_lt, cases_eq, false≢true}
use Rattle.std.proofs.lemmas.List.{length_push, append_assoc, append-nil, drop_at, drop_all}
use Rattle.std.proofs.lemmas.List.Elements.{All-push, All-get_or}
use Rattle.std.proofs.lemmas.List.Quantifiers.{all_pairs_push}
use Rattle.ho_base.specs.declared.numbers.Pfn.{Pfn}
use Rattle.buddy_pages.specs.FreeFrames.{AreApart, appended, is_free, is_free_run, free_runs, with_frames, without_runs, NoRunBelow}
use Rattle.buddy_pages.specs.Blocks.{free_frames, AreBlocks}
use Rattle.buddy_pages.proofs.Powers.{multiple_sum, multiple_near, power_multiple}
use Rattle.buddy_pages.proofs.Frames.{place, IsRun, IsRun-from, is_free_run-from, with_frames_in, with_frames_out}
use Rattle.buddy_pages.proofs.Frames.Place.{inside, outside}
use Rattle.std.proofs.lemmas.Nat.{pow_pos}
use Rattle.buddy_pages.proofs.Take.{first_taken}
use Rattle.buddy_pages.proofs.Runs.{run_fits, run_kept, run_gone, runs_taken}

-- in the middle of taking runs: these were taken from the old free frames, in this order, and all end by `at`
pub record Collecting (old tags : List ℕ) (order taken at : ℕ) (runs : List Pfn) : Type 0 where
  pub blocks : AreBlocks tags
  pub frames : length tags ≡ length old
  pub aligned : at % 2 ^ order ≡ 0
  pub none : NoRunBelow (free_frames tags) order at
  pub left : free_runs (free_frames tags) order + taken ≡ free_runs (free_frames old) order
  pub many : length runs ≡ taken
  pub set : free_frames tags ≡ without_runs order (free_frames old) runs
  pub fewer : (p : ℕ) → is_free (free_frames tags) p ≡ true → is_free (free_frames old) p ≡ true
  pub free : All (λ p. is_free_run (free_frames old) order p.0 ≡ true) runs
  pub later : All (λ p. 0 < p.0) runs
  pub ended : All (λ p. p.0 + 2 ^ order ≤ at) runs
  pub apart : AllPairs (AreApart order) runs

pub collecting_begins : (old : List ℕ) (order from : ℕ) → AreBlocks old → from % 2 ^ order ≡ 0 → NoRunBelow (free_frames old) order from → Collecting old old order 0 from []
unfolding without_runs
collecting_begins old order from k h none =
    record {
      blocks = k;
      frames = refl;
      aligned = h;
      none = none;
      left = omega arith;
      many = refl;
      set = refl;
      fewer = λ p f. f;
      free = λ i d a. absurd (omega arith);
      later = λ i d a. absurd (omega arith);
      ended = λ i d a. absurd (omega arith);
      apart = λ i j d a b. absurd (omega arith);
    }

pub without_runs-push : (o : ℕ) (free : List Bool) (runs : List Pfn) (p : Pfn) → without_runs o free (runs ++ p ∷ []) ≡ with_frames (without_runs o free runs) p.0 (2 ^ o) false
unfolding without_runs
without_runs-push o free [] p = refl
without_runs-push o free (q ∷ runs) p = without_runs-push o (with_frames free q.0 (2 ^ o) false) runs p

-- a frame that is free without a run was free
pub still_free : (free : List Bool) (f c p : ℕ) → f + c ≤ length free → is_free (with_frames free f c false) p ≡ true → is_free free p ≡ true
still_free free f c p fits h =
    elim (place f c p) [
      | inside a b ↦ absurd (false≢true (sym (with_frames_in free f c false p fits a b) ∙ h))
      | outside out ↦ sym (with_frames_out free f c false p fits out) ∙ h
    ]

-- with the first run taken out, no run begins below its end
next_none : (free : List Bool) (order f : ℕ) → IsRun free order f → NoRunBelow free order f → NoRunBelow (with_frames free f (2 ^ order) false) order (f + 2 ^ order)
next_none free order f r none = record {
  none = λ p l run.
      ⊎_elim (λ (e : p ≡ f). false≢true (sym (run_gone free order f r) ∙ subst (λ (z : ℕ). is_free_run (with_frames free f (2 ^ order) false) order z ≡ true) e run))
      (λ (ne : p ≢ f).
      let old : is_free_run free order p ≡ true = sym (run_kept free order f p r ne) ∙ run in
      let i : IsRun free order p = IsRun-from free order p old in
      let le : p ≤ f = multiple_near f p (2 ^ order) r.aligned i.aligned l in
      ⊎_elim (λ (a : p < f). none.none p a old) (λ (a : f ≤ p). ne (omega arith)) (cases_lt p f))
      (cases_eq p f);
}

-- the runs end by a later frame too
ended_later : (o a b : ℕ) (runs : List Pfn) → a ≤ b → All (λ p. p.0 + 2 ^ o ≤ a) runs → All (λ p. p.0 + 2 ^ o ≤ b) runs
ended_later o a b runs le h = λ i d l. let e : (get_or runs i d).0 + 2 ^ o ≤ a = h i d l in omega arith

-- no run begins at frame 0
run_later : (tags : List ℕ) (order p : ℕ) → AreBlocks tags → IsRun (free_frames tags) order p → 0 < p
run_later tags order p k r =
    let pos : 0 < 2 ^ order = pow_pos order in
    ⊎_elim (λ (l : 0 < p). l)
    (λ (l : p ≤ 0). absurd (first_taken tags k (ap (is_free (free_frames tags)) (omega arith) ∙ r.frames.each p (omega arith) (omega arith))))
    (cases_lt 0 p)

-- one more run
pub collecting_goes_on : (old tags new : List ℕ) (order taken at : ℕ) (runs : List Pfn) (p : Pfn) → Collecting old tags order taken at runs
    → is_free_run (free_frames tags) order p.0 ≡ true → NoRunBelow (free_frames tags) order p.0 → at ≤ p.0 → AreBlocks new → length new ≡ length tags
    → free_frames new ≡ with_frames (free_frames tags) p.0 (2 ^ order) false → Collecting old new order (taken + 1) (p.0 + 2 ^ order) (runs ++ p ∷ [])
collecting_goes_on old tags new order taken at runs p c run none from k same is =
    let r : IsRun (free_frames tags) order p.0 = IsRun-from (free_frames tags) order p.0 run in
    let fits : p.0 + 2 ^ order ≤ length (free_frames tags) = run_fits (free_frames tags) order p.0 r in
    let one : free_runs (free_frames new) order + 1 ≡ free_runs (free_frames tags) order = ap (λ z. free_runs z order + 1) is ∙ runs_taken (free_frames tags) order p.0 r in
    let here : is_free_run (free_frames old) order p.0 ≡ true =
    is_free_run-from (free_frames old) order p.0 (record { aligned = r.aligned; frames = record { each = λ q a b. c.fewer q (r.frames.each q a b) } }) in
    record {
      blocks = k;
      frames = same ∙ c.frames;
      aligned = multiple_sum p.0 (2 ^ order) (2 ^ order) r.aligned (power_multiple order order (omega arith));
      none = subst (λ (z : List Bool). NoRunBelow z order (p.0 + 2 ^ order)) (sym is) (next_none (free_frames tags) order p.0 r none);
      left = omega (arith, c.left);
      many = length_push runs p ∙ ap (λ z. z + 1) c.many;
      set = is ∙ ap (λ z. with_frames z p.0 (2 ^ order) false) c.set ∙ sym (without_runs-push order (free_frames old) runs p);
      fewer = λ q f. c.fewer q (still_free (free_frames tags) p.0 (2 ^ order) q fits (ap (λ z. is_free z q) (sym is) ∙ f));
      free = All-push (λ q. is_free_run (free_frames old) order q.0 ≡ true) runs p c.free here;
      later = All-push (λ q. 0 < q.0) runs p c.later (run_later tags order p.0 c.blocks r);
      ended = All-push (λ q. q.0 + 2 ^ order ≤ p.0 + 2 ^ order) runs p (ended_later order at (p.0 + 2 ^ order) runs (omega arith) c.ended) (omega arith);
      apart = all_pairs_push (AreApart order) runs p c.apart
          (λ i d l. inl (let e : (get_or runs i d).0 + 2 ^ order ≤ at = All-get_or (λ q. q.0 + 2 ^ order ≤ at) runs i d l c.ended in omega arith));
    }

-- the runs are behind what `out` had before
pub record Collects (old tags : List ℕ) (order taken at : ℕ) (before now : List Pfn) : Type 0 where
  pub kept : now ≡ before ++ appended before now
  pub runs : Collecting old tags order taken at (appended before now)

pub collects_begins : (old : List ℕ) (order from : ℕ) (before : List Pfn) → AreBlocks old → from % 2 ^ order ≡ 0 → NoRunBelow (free_frames old) order from
    → Collects old old order 0 from before before
collects_begins old order from before k h below =
    let none : appended before before ≡ [] = drop_all (length before) before (omega arith) in
    record {
      kept = sym (append-nil before) ∙ ap (λ z. before ++ z) (sym none);
      runs = subst (λ (z : List Pfn). Collecting old old order 0 from z) (sym none) (collecting_begins old order from k h below);
    }

pub collects_goes_on : (old tags new : List ℕ) (order taken at next first len : ℕ) (before now more : List Pfn) (p : Pfn) → Collects old tags order taken at before now
    → is_free_run (free_frames tags) order first ≡ true → NoRunBelow (free_frames tags) order first → at ≤ first → AreBlocks new → length new ≡ length tags
    → free_frames new ≡ with_frames (free_frames tags) first (2 ^ order) false → len ≡ 2 ^ order → next ≡ first + len → p.0 ≡ first → more ≡ now ++ p ∷ []
    → Collects old new order (taken + 1) next before more
collects_goes_on old tags new order taken at next first len before now more p c run none from k same is l n f m =
    let all : more ≡ before ++ (appended before now ++ p ∷ []) = m ∙ ap (λ z. z ++ p ∷ []) c.kept ∙ append_assoc before (appended before now) (p ∷ []) in
    let behind : appended before more ≡ appended before now ++ p ∷ [] = ap (drop (length before)) all ∙ drop_at before (appended before now ++ p ∷ []) (length before) refl in
    let g : first ≡ p.0 = sym f in
    let end : p.0 + 2 ^ order ≡ next = omega arith in
    record {
      kept = all ∙ ap (λ z. before ++ z) (sym behind);
      runs = subst (λ (z : List Pfn). Collecting old new order (taken + 1) next z) (sym behind)
          (subst (λ (z : ℕ). Collecting old new order (taken + 1) z (appended before now ++ p ∷ [])) end
          (collecting_goes_on old tags new order taken at (appended before now) p c.runs
          (subst (λ (z : ℕ). is_free_run (free_frames tags) order z ≡ true) g run)
          (subst (λ (z : ℕ). NoRunBelow (free_frames tags) order z) g none)
          (omega arith) k same
          (is ∙ ap (λ z. with_frames (free_frames tags) z (2 ^ order) false) g)));
    }
