-- What callers know of runs that were taken: none of their frames is free until they are given.
use Rattle.std.proofs.Common.{◌≡◌, ◌⊎◌, ℕ, zero, suc, ◌+◌, ◌^◌, ◌<◌, ◌≤◌, Bool, true, false, List, [], ◌∷◌, length, get_or, refl, sym, ◌∙◌, subst, inl, inr, ⊎_elim, arith}
use Rattle.std.specs.List.{All}
use Rattle.ho_base.specs.declared.numbers.Pfn.{Pfn}
use Rattle.buddy_pages.specs.FreeFrames.{is_free_run, none_free, with_frames, without_runs}
use Rattle.buddy_pages.proofs.Frames.{place, AreTaken, AreTaken-from, none_free-from, IsRun-from, length-with_frames, with_frames_in, with_frames_out}
use Rattle.buddy_pages.proofs.Frames.Place.{inside, outside}
use Rattle.buddy_pages.proofs.Runs.{run_fits}

-- what isn't free stays so while others are taken out
stays_taken : (free : List Bool) (f c g d : ℕ) → g + d ≤ length free → AreTaken free f c → AreTaken (with_frames free g d false) f c
stays_taken free f c g d fits none = record {
  each = λ p a b.
      elim (place g d p) [
        | inside from to ↦ with_frames_in free g d false p fits from to
        | outside out ↦ with_frames_out free g d false p fits out ∙ none.each p a b
      ];
}

-- each of the runs lies within the frames
abbrev pub Within : ℕ → ℕ → List Pfn → Type 0
Within o n runs = All (λ p. p.0 + 2 ^ o ≤ n) runs

pub rest_within : (o n : ℕ) (p : Pfn) (runs : List Pfn) → Within o n (p ∷ runs) → Within o n runs
rest_within o n p runs h = λ i d l. h (suc i) d (omega arith)

pub length-without_runs : (o : ℕ) (free : List Bool) (runs : List Pfn) → Within o (length free) runs → length (without_runs o free runs) ≡ length free
unfolding without_runs
length-without_runs o free [] h = refl
length-without_runs o free (p ∷ runs) h =
    let fits : p.0 + 2 ^ o ≤ length free = h 0 p (omega arith) in
    let len : length (with_frames free p.0 (2 ^ o) false) ≡ length free = length-with_frames free p.0 (2 ^ o) false fits in
    length-without_runs o (with_frames free p.0 (2 ^ o) false) runs (subst (λ (z : ℕ). Within o z runs) (sym len) (rest_within o (length free) p runs h)) ∙ len

stay_taken : (o : ℕ) (free : List Bool) (runs : List Pfn) (f c : ℕ) → Within o (length free) runs → AreTaken free f c → AreTaken (without_runs o free runs) f c
unfolding without_runs
stay_taken o free [] f c h none = none
stay_taken o free (p ∷ runs) f c h none =
    let fits : p.0 + 2 ^ o ≤ length free = h 0 p (omega arith) in
    let len : length (with_frames free p.0 (2 ^ o) false) ≡ length free = length-with_frames free p.0 (2 ^ o) false fits in
    stay_taken o (with_frames free p.0 (2 ^ o) false) runs f c (subst (λ (z : ℕ). Within o z runs) (sym len) (rest_within o (length free) p runs h))
    (stays_taken free f c p.0 (2 ^ o) fits none)

are_taken : (o : ℕ) (free : List Bool) (runs : List Pfn) → Within o (length free) runs → (i : ℕ) (d : Pfn) → i < length runs → AreTaken (without_runs o free runs) (get_or runs i d).0 (2 ^ o)
unfolding without_runs
are_taken o free [] h i d l = absurd (omega arith)
are_taken o free (p ∷ runs) h zero d l =
    let fits : p.0 + 2 ^ o ≤ length free = h 0 p (omega arith) in
    let len : length (with_frames free p.0 (2 ^ o) false) ≡ length free = length-with_frames free p.0 (2 ^ o) false fits in
    stay_taken o (with_frames free p.0 (2 ^ o) false) runs p.0 (2 ^ o) (subst (λ (z : ℕ). Within o z runs) (sym len) (rest_within o (length free) p runs h))
    (record { each = λ q a b. with_frames_in free p.0 (2 ^ o) false q fits a b })
are_taken o free (p ∷ runs) h (suc i) d l =
    let fits : p.0 + 2 ^ o ≤ length free = h 0 p (omega arith) in
    let len : length (with_frames free p.0 (2 ^ o) false) ≡ length free = length-with_frames free p.0 (2 ^ o) false fits in
    are_taken o (with_frames free p.0 (2 ^ o) false) runs (subst (λ (z : ℕ). Within o z runs) (sym len) (rest_within o (length free) p runs h)) i d (omega arith)

-- no frame of a run that was taken is free
pub taken_run : (o : ℕ) (free : List Bool) (runs : List Pfn) → Within o (length free) runs → All (λ p. none_free (without_runs o free runs) p.0 (2 ^ o) ≡ true) runs
taken_run o free runs h = λ i d l. none_free-from (without_runs o free runs) (get_or runs i d).0 (2 ^ o) (are_taken o free runs h i d l)

-- giving one run leaves another one taken
pub given_apart : (free : List Bool) (p q c : ℕ) → q + c ≤ length free → (p + c ≤ q) ⊎ (q + c ≤ p) → none_free free p c ≡ true → none_free (with_frames free q c true) p c ≡ true
given_apart free p q c fits apart none =
    let t : AreTaken free p c = AreTaken-from free p c none in
    none_free-from (with_frames free q c true) p c (record {
      each = λ x a b.
          let out : (x < q) ⊎ (q + c ≤ x) = ⊎_elim (λ (l : p + c ≤ q). inl (omega arith)) (λ (l : q + c ≤ p). inr (omega arith)) apart in
          with_frames_out free q c true x fits out ∙ t.each x a b;
    })

-- runs that were wholly free lie within the frames
pub runs_within : (o : ℕ) (free : List Bool) (runs : List Pfn) → All (λ p. is_free_run free o p.0 ≡ true) runs → Within o (length free) runs
runs_within o free runs h = λ i d l. run_fits free o (get_or runs i d).0 (IsRun-from free o (get_or runs i d).0 (h i d l))
