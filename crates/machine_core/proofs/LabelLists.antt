-- The labels of all agents, as maps.
use Rattle.std.proofs.Common.{◌≡◌, ℕ, ◌+◌, ◌<◌, List, [], ◌∷◌, ◌++◌, length, map, replicate, refl, ap, subst, arith, slice_index_or, slice_set, zero, suc}
use Rattle.std.specs.FinMap as finmap
use Rattle.ho_world.specs.Sequences.{Labels}
use Rattle.machine_core.specs.LabelsShown.{LabelsValue, bound_in}

pub bound_push : (ls : List LabelsValue) (l : LabelsValue) → map bound_in (ls ++ l ∷ []) ≡ map bound_in ls ++ bound_in l ∷ []
bound_push [] l = refl
bound_push (d ∷ ls) l = ap (λ rest. bound_in d ∷ rest) (bound_push ls l)

pub none_more : (n : ℕ) (x : Labels) → replicate n x ++ x ∷ [] ≡ replicate (n + 1) x
none_more zero x = refl
none_more (suc n) x =
    let more : suc (n + 1) ≡ suc n + 1 = omega arith in
    subst (λ m. x ∷ (replicate n x ++ x ∷ []) ≡ replicate m x) more (ap (λ rest. x ∷ rest) (none_more n x))

pub bound_at : (ls : List LabelsValue) (n : ℕ) (d : LabelsValue) → n < length ls → bound_in (slice_index_or ls n d) ≡ slice_index_or (map bound_in ls) n finmap.empty
bound_at [] n d below = absurd omega (arith, below)
bound_at (l ∷ ls) zero d below = refl
bound_at (l ∷ ls) (suc n) d below = bound_at ls n d (omega (arith, below))

pub bound_set : (ls : List LabelsValue) (n : ℕ) (l : LabelsValue) → map bound_in (slice_set ls n l) ≡ slice_set (map bound_in ls) n (bound_in l)
bound_set [] n l = refl
bound_set (d ∷ ls) zero l = refl
bound_set (d ∷ ls) (suc n) l = ap (λ rest. bound_in d ∷ rest) (bound_set ls n l)

pub same_count : (ls : List LabelsValue) → length (map bound_in ls) ≡ length ls
same_count [] = refl
same_count (l ∷ ls) = ap suc (same_count ls)
