-- Single frames of a set, and runs of a new one.
use Rattle.std.proofs.Common.{◌≡◌, ◌≢◌, ℕ, zero, suc, ◌+◌, ◌^◌, ◌%◌, ◌<◌, ◌≤◌, Bool, true, false, List, [], ◌∷◌, ◌++◌, length, get_or, set, take, drop, replicate, refl, sym, ◌∙◌, ap, subst, ⊎_elim, arith}
use Rattle.std.specs.List.{All}
use Rattle.std.proofs.Math.Nat.{mod-one}
use Rattle.std.proofs.lemmas.Bool.{cases_eq, lt-ltb, le-ltb}
use Rattle.std.proofs.lemmas.List.{length-set, length-replicate, get_or-replicate, get_or-set_same, get_or-set_other, set_split, take_more}
use Rattle.ho_base.specs.declared.numbers.Pfn.{Pfn}
use Rattle.buddy_pages.specs.FreeFrames.{appended, is_free, is_free_run, none_free, all_but_first, with_frames, without_runs}
use Rattle.buddy_pages.proofs.Frames.{same_set, IsRun-from, is_free_run-from, none_free-from, with_frames_in, length-with_frames}
use Rattle.buddy_pages.proofs.Runs.{run_begins}
use Rattle.buddy_pages.proofs.Collect.{without_runs-push}
use Rattle.buddy_pages.proofs.Fill.{all_at, length-all}

free_at : (free : List Bool) (p : ℕ) → is_free free p ≡ get_or free p false
unfolding is_free
free_at free p = refl

pub with_one : (free : List Bool) (p : ℕ) (b : Bool) → p < length free → with_frames free p (2 ^ 0) b ≡ set free p b
unfolding with_frames
with_one free p b h =
    let e : suc p ≡ p + 1 = omega arith in
    sym (set_split free p b h ∙ ap (λ i. take p free ++ b ∷ drop i free) e)

pub one_run : (free : List Bool) (p : ℕ) → get_or free p false ≡ true → is_free_run free 0 p ≡ true
one_run free p h = is_free_run-from free 0 p (record {
  aligned = mod-one p;
  frames = record { each = λ q a b. let e : p ≡ q = omega arith in subst (λ (z : ℕ). is_free free z ≡ true) e (free_at free p ∙ h) };
})

pub one_taken : (free : List Bool) (p : ℕ) → get_or free p false ≡ false → none_free free p (2 ^ 0) ≡ true
one_taken free p h = none_free-from free p (2 ^ 0)
    (record { each = λ q a b. let e : p ≡ q = omega arith in subst (λ (z : ℕ). is_free free z ≡ false) e (free_at free p ∙ h) })

pos : (p : ℕ) → p ≢ 0 → 0 < p
pos zero ne = absurd (ne refl)
pos (suc p) ne = omega arith

pub all_is : (n : ℕ) → 0 < n → set (replicate n true) 0 false ≡ all_but_first n
all_is n h =
    same_set (set (replicate n true) 0 false) (all_but_first n) (length-set (replicate n true) 0 false ∙ length-replicate n true ∙ sym (length-all n))
    (λ p l.
    let lt : p < n = omega (arith, length-set (replicate n true) 0 false, length-replicate n true) in
    free_at (set (replicate n true) 0 false) p
    ∙ ⊎_elim
    (λ (e : p ≡ 0).
    ap (λ i. get_or (set (replicate n true) 0 false) i false) e
    ∙ get_or-set_same (replicate n true) 0 false false (omega (arith, length-replicate n true))
    ∙ sym (all_at n p lt ∙ le-ltb 0 p (omega arith)))
    (λ (ne : p ≢ 0).
    get_or-set_other (replicate n true) 0 p false false ne ∙ get_or-replicate n p true false lt
    ∙ sym (all_at n p lt ∙ lt-ltb 0 p (pos p ne)))
    (cases_eq p 0))

-- a run of a new set
pub run_of_all : (n o p : ℕ) → 0 < p → p % 2 ^ o ≡ 0 → p + 2 ^ o ≤ n → is_free_run (all_but_first n) o p ≡ true
run_of_all n o p pos h fits = is_free_run-from (all_but_first n) o p (record {
  aligned = h;
  frames = record { each = λ q a b. all_at n q (omega arith) ∙ lt-ltb 0 q (omega arith) };
})

pub taken_again : (free : List Bool) (f c : ℕ) → f + c ≤ length free → none_free (with_frames free f c false) f c ≡ true
taken_again free f c fits = none_free-from (with_frames free f c false) f c (record { each = λ p a b. with_frames_in free f c false p fits a b })

-- one more frame taken out
pub without_more : (free now : List Bool) (runs : List Pfn) (i : ℕ) (d : Pfn) → i < length runs → now ≡ without_runs 0 free (take i runs) → (get_or runs i d).0 < length now
    → set now (get_or runs i d).0 false ≡ without_runs 0 free (take (i + 1) runs)
without_more free now runs i d l h b =
    sym (with_one now (get_or runs i d).0 false b)
    ∙ ap (λ z. with_frames z (get_or runs i d).0 (2 ^ 0) false) h
    ∙ sym (without_runs-push 0 free (take i runs) (get_or runs i d))
    ∙ ap (without_runs 0 free) (sym (take_more runs i d l))

pub without_none : (free : List Bool) → free ≡ without_runs 0 free []
unfolding without_runs
without_none free = refl

-- frames that were free are within the list
pub taken_below : (free list : List Bool) (before now seen : List Pfn) → list ≡ free → before ≡ [] → seen ≡ now → All (λ p. is_free_run free 0 p.0 ≡ true) (appended before now)
    → All (λ p. p.0 < length list) seen
taken_below free list before now seen e b s h = λ i d l.
    let same : appended before now ≡ seen = ap (λ z. appended z now) b ∙ sym s in
    let all : All (λ p. is_free_run free 0 p.0 ≡ true) seen = subst (λ (z : List Pfn). All (λ p. is_free_run free 0 p.0 ≡ true) z) same h in
    let begins : (get_or seen i d).0 < length free = run_begins free 0 (get_or seen i d).0 (IsRun-from free 0 (get_or seen i d).0 (all i d l)) in
    omega (arith, ap length e)

-- the last run of order 9 of 16,384 frames, taken out of a new set
pub last_run : (free : List Bool) → free ≡ all_but_first 16384 → is_free_run free 9 15872 ≡ true
last_run free e = subst (λ (z : List Bool). is_free_run z 9 15872 ≡ true) (sym e) (run_of_all 16384 9 15872 (omega arith) refl (omega arith))

pub last_within : (free old now : List Bool) → free ≡ all_but_first 16384 → old ≡ with_frames free 15872 (2 ^ 9) false → now ≡ old → 16384 ≤ length now
last_within free old now e f g =
    let n : length free ≡ 16384 = ap length e ∙ length-all 16384 in
    let w : length (with_frames free 15872 (2 ^ 9) false) ≡ length free = length-with_frames free 15872 (2 ^ 9) false (omega arith) in
    let l : length now ≡ length (with_frames free 15872 (2 ^ 9) false) = ap length (g ∙ f) in
    omega arith

pub last_taken : (free old now : List Bool) → free ≡ all_but_first 16384 → old ≡ with_frames free 15872 (2 ^ 9) false → now ≡ old → none_free now 15872 (2 ^ 9) ≡ true
last_taken free old now e f g =
    let n : length free ≡ 16384 = ap length e ∙ length-all 16384 in
    subst (λ (z : List Bool). none_free z 15872 (2 ^ 9) ≡ true) (sym (g ∙ f)) (taken_again free 15872 (2 ^ 9) (omega arith))
