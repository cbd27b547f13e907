-- A frame below which none is free.
use Rattle.std.proofs.Common.{◌≡◌, ℕ, ◌+◌, ◌-◌, ◌^◌, ◌%◌, ◌<◌, ◌≤◌, Bool, true, false, List, [], ◌∷◌, length, sym, ◌∙◌, ap, subst, arith}
use Rattle.std.specs.List.{All}
use Rattle.std.proofs.lemmas.Nat.{pow_pos}
use Rattle.std.proofs.Math.Nat.{mod-one}
use Rattle.ho_base.specs.declared.numbers.Pfn.{Pfn}
use Rattle.buddy_pages.specs.FreeFrames.{is_free, is_free_run, with_frames, without_runs, NoRunBelow}
use Rattle.buddy_pages.proofs.Frames.{IsRun, IsRun-from, is_free_run-from, length-with_frames, with_frames_below}
use Rattle.buddy_pages.proofs.Runs.{run_fits}
use Rattle.buddy_pages.proofs.Collect.{still_free}
use Rattle.buddy_pages.proofs.Taken.{Within, rest_within, runs_within}

-- a free frame begins a run of order 0
frame_run : (free : List Bool) (p : ℕ) → is_free free p ≡ true → is_free_run free 0 p ≡ true
frame_run free p t = is_free_run-from free 0 p (record {
  aligned = mod-one p;
  frames = record { each = λ q a b. let e : p ≡ q = omega arith in subst (λ (z : ℕ). is_free free z ≡ true) e t };
})

run_frame : (free : List Bool) (o p : ℕ) → is_free_run free o p ≡ true → is_free free p ≡ true
run_frame free o p t =
    let r : IsRun free o p = IsRun-from free o p t in
    let pos : 0 < 2 ^ o = pow_pos o in
    r.frames.each p (omega arith) (omega arith)

-- no frame at all is below 0
pub low_begins : (free : List Bool) → NoRunBelow free 0 0
low_begins free = record { none = λ p l t. omega arith }

-- where no frame is free, no run of an order begins
pub low_runs : (free : List Bool) (o low from : ℕ) → from ≡ low - low % 2 ^ o → NoRunBelow free 0 low → NoRunBelow free o from
low_runs free o low from e none = record { none = λ p l t. none.none p (omega arith) (frame_run free p (run_frame free o p t)) }

-- so it stays where the free frames were free before
pub low_fewer : (old new : List Bool) (low : ℕ) → ((p : ℕ) → is_free new p ≡ true → is_free old p ≡ true) → NoRunBelow old 0 low → NoRunBelow new 0 low
low_fewer old new low fewer none = record { none = λ p l t. none.none p l (frame_run old p (fewer p (run_frame new 0 p t))) }

still_free_runs : (o : ℕ) (free : List Bool) (runs : List Pfn) (p : ℕ) → Within o (length free) runs → is_free (without_runs o free runs) p ≡ true → is_free free p ≡ true
unfolding without_runs
still_free_runs o free [] p h t = t
still_free_runs o free (q ∷ runs) p h t =
    let fits : q.0 + 2 ^ o ≤ length free = h 0 q (omega arith) in
    let len : length (with_frames free q.0 (2 ^ o) false) ≡ length free = length-with_frames free q.0 (2 ^ o) false fits in
    still_free free q.0 (2 ^ o) p fits
    (still_free_runs o (with_frames free q.0 (2 ^ o) false) runs p (subst (λ (z : ℕ). Within o z runs) (sym len) (rest_within o (length free) q runs h)) t)

-- one run taken out
pub low_taken : (free new : List Bool) (o q low : ℕ) → is_free_run free o q ≡ true → new ≡ with_frames free q (2 ^ o) false → NoRunBelow free 0 low → NoRunBelow new 0 low
low_taken free new o q low run is none =
    low_fewer free new low
    (λ p t. still_free free q (2 ^ o) p (run_fits free o q (IsRun-from free o q run)) (ap (λ z. is_free z p) (sym is) ∙ t)) none

-- many
pub low_all_taken : (free new : List Bool) (o : ℕ) (runs : List Pfn) (low : ℕ) → All (λ p. is_free_run free o p.0 ≡ true) runs → new ≡ without_runs o free runs
    → NoRunBelow free 0 low → NoRunBelow new 0 low
low_all_taken free new o runs low each is none =
    low_fewer free new low (λ p t. still_free_runs o free runs p (runs_within o free runs each) (ap (λ z. is_free z p) (sym is) ∙ t)) none

-- frames from `first` on given back
pub low_given : (free new : List Bool) (first c low next : ℕ) → first + c ≤ length free → new ≡ with_frames free first c true → next ≤ low → next ≤ first
    → NoRunBelow free 0 low → NoRunBelow new 0 next
low_given free new first c low next fits is a b none = record {
  none = λ p l t.
      none.none p (omega arith)
      (frame_run free p (sym (with_frames_below free first c true p fits (omega arith)) ∙ ap (λ z. is_free z p) (sym is) ∙ run_frame new 0 p t));
}
