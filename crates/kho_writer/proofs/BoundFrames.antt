-- The frames of bound records, found kind by kind.
use Rattle.std.proofs.Common.{◌≡◌, ℕ, zero, suc, ◌+◌, ◌<◌, ◌≤◌, Bool, cond, List, [], ◌∷◌, length, map, drop, get_or, Option, Some, None, refl, sym, ap, ◌∙◌, arith}
use Rattle.std.proofs.lemmas.Bool.{eq-eqb, ne_eqb}
use Rattle.std.proofs.lemmas.List.{drop_all}
use Rattle.ho_base.specs.declared.numbers.Pfn.{Pfn}
use Rattle.ho_base.specs.declared.numbers.Kind.{Kind}
use Rattle.ho_base.specs.declared.numbers.Kind.TheVariants.{Dev0, Dev1, Dev2, Dev3}
use Rattle.ho_events.specs.Handler.{BoundState}
use Rattle.record_frames.specs.Sheets.{kind_number}
use Rattle.record_frames.specs.Kept.{devices, bound_frames}
use Rattle.record_frames.specs.State.{bound_among}
use Rattle.record_frames.specs.declared.carried.CarriedBound.{CarriedBound}
use Rattle.kho_writer.specs.Bounds.{frame_in}
use Rattle.kho_writer.specs.Entry.{number_at}

abbrev bound_of : CarriedBound → BoundState
bound_of b = record { bytes = b.bound; frame = b.frame.0 }

-- the first of a kind is found where it stands
pub found : (bounds : List CarriedBound) (i : ℕ) (b : CarriedBound) (kind : Kind) → i < length bounds → b ≡ get_or bounds i b → kind_number b.kind ≡ kind_number kind
    → bound_among (drop i bounds) kind ≡ Some (bound_of b)
found [] i b kind lt e same = absurd (omega (arith, lt))
found (x ∷ bounds) zero b kind lt e same =
    ap (λ (y : CarriedBound). bound_among (y ∷ bounds) kind) (sym e)
    ∙ ap (λ (t : Bool). cond t (Some (bound_of b)) (bound_among bounds kind)) (eq-eqb (kind_number b.kind) (kind_number kind) same)
found (x ∷ bounds) (suc i) b kind lt e same = found bounds i b kind (omega (arith, lt)) e same

-- one of another kind is passed
pub passed : (bounds : List CarriedBound) (i : ℕ) (b : CarriedBound) (kind : Kind) → i < length bounds → b ≡ get_or bounds i b → (kind_number b.kind ≡ kind_number kind → ⊥)
    → bound_among (drop i bounds) kind ≡ bound_among (drop (i + 1) bounds) kind
passed [] i b kind lt e other = absurd (omega (arith, lt))
passed (x ∷ bounds) zero b kind lt e other =
    ap (λ (y : CarriedBound). bound_among (y ∷ bounds) kind) (sym e)
    ∙ ap (λ (t : Bool). cond t (Some (bound_of b)) (bound_among bounds kind)) (ne_eqb (kind_number b.kind) (kind_number kind) other)
passed (x ∷ bounds) (suc i) b kind lt e other =
    passed bounds i b kind (omega (arith, lt)) e other ∙ ap (λ (n : ℕ). bound_among (drop n (x ∷ bounds)) kind) (next i)
  where
    next : (i : ℕ) → suc (i + 1) ≡ suc i + 1
    next i = omega arith

pub none_left : (bounds : List CarriedBound) (i : ℕ) (kind : Kind) → length bounds ≤ i → bound_among (drop i bounds) kind ≡ None
none_left bounds i kind le = ap (λ (l : List CarriedBound). bound_among l kind) (drop_all i bounds le)

frames_are : (bounds : List (Option BoundState)) → bound_frames bounds ≡ map frame_in bounds
frames_are [] = refl
frames_are (None ∷ bounds) = ap (λ (l : List (Option ℕ)). None ∷ l) (frames_are bounds)
frames_are (Some b ∷ bounds) = ap (λ (l : List (Option ℕ)). Some b.frame ∷ l) (frames_are bounds)

-- those of the four kinds
pub all_four : (bounds : List CarriedBound) (p q r s : Option Pfn) → number_at p ≡ frame_in (bound_among bounds Dev0) → number_at q ≡ frame_in (bound_among bounds Dev1)
    → number_at r ≡ frame_in (bound_among bounds Dev2) → number_at s ≡ frame_in (bound_among bounds Dev3)
    → map number_at (p ∷ q ∷ r ∷ s ∷ []) ≡ bound_frames (map (bound_among bounds) devices)
all_four bounds p q r s a b c d = (λ i. a i ∷ b i ∷ c i ∷ d i ∷ []) ∙ sym (frames_are (map (bound_among bounds) devices))
