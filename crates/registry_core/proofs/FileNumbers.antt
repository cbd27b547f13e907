-- Flags of file numbers, as sets.
use Rattle.std.proofs.Common.{◌≡◌, ℕ, ◌<◌, ◌≤◌, ◌&&◌, ◌||◌, ◌==◌, ◌-◌, ◌++◌, Bool, true, false, cond, not, nat_lt, List, [], ◌∷◌, length, replicate, slice_index_or, slice_set, refl, ap, sym, ◌∙◌, arith, zero, suc}
use Rattle.std.specs.List.{list_any}
use Rattle.std.specs.Ordering.{nat_cmp, eq_by_cmp}
use Rattle.std.specs.Cmp.{nat_cmp_total}
use Rattle.std.specs.FinSet as finset
use Rattle.std.proofs.lemmas.Grind.{common_steps}
use Rattle.std.proofs.lemmas.Bool.Decides.{nat_tests}
use Rattle.std.proofs.lemmas.List.Folds.{list_any-append}
use Rattle.ho_base.specs.declared.limits.TheConstants.{FILES}
use Rattle.ho_events.specs.Lists.{upto}
use Rattle.ho_events.proofs.Ties.{tied_is}
use Rattle.registry_core.proofs.UsedFlags.{flag_at}
use Rattle.registry_core.specs.RegistryShown.{numbers_of}
use Rattle.registry_core.specs.UsedNumbers.{used_first}

no_flag : (n f : ℕ) → slice_index_or (replicate n false) f false ≡ false
no_flag n f = grind (arith, common_steps)

-- the numbers below n
one_more : (n f : ℕ) → (nat_lt f n || (eq_by_cmp nat_cmp f n || false)) ≡ nat_lt f (suc n)
one_more n f = grind (arith, nat_tests)

none_below : (f : ℕ) → false ≡ nat_lt f 0
none_below f = grind (arith, nat_tests)

below : (n f : ℕ) → list_any (eq_by_cmp nat_cmp f) (upto n) ≡ nat_lt f n
unfolding upto
below zero f = none_below f
below (suc n) f = list_any-append (eq_by_cmp nat_cmp f) (upto n) (n ∷ []) ∙ ap (λ b. b || (eq_by_cmp nat_cmp f n || false)) (below n f) ∙ one_more n f

past : (used : List Bool) (f : ℕ) → length used ≤ f → slice_index_or used f false ≡ false
past used f h = grind (arith, common_steps)

within : (b : Bool) (used : List Bool) (f : ℕ) → nat_lt f FILES ≡ b → length used ≡ FILES → (b && slice_index_or used f false) ≡ slice_index_or used f false
within true used f e count = refl
within false used f e count = sym (past used f (least FILES f (length used) e count))
  where
    least : (n f m : ℕ) → nat_lt f n ≡ false → m ≡ n → m ≤ f
    least n f m e h = grind (arith, nat_tests)

pub numbers_at : (used : List Bool) (f : ℕ) → length used ≡ FILES → finset.contains (numbers_of used) f ≡ slice_index_or used f false
unfolding numbers_of
numbers_at used f count =
    finset.contains-retain (finset.from_list (upto FILES)) (λ f. slice_index_or used f false) f
    (λ x t. ap (λ f. slice_index_or used f false) (sym (finset.nat_cmp-IsAntisymmetric f x t)))
    ∙ ap (λ b. b && slice_index_or used f false) (finset.contains-from_list nat_cmp_total (upto FILES) f ∙ below FILES f)
    ∙ within (nat_lt f FILES) used f refl count

pub numbers_none : (used : List Bool) → used ≡ replicate FILES false → numbers_of used ≡ finset.empty
numbers_none used h =
    finset.same_set nat_cmp_total finset.nat_cmp-IsAntisymmetric _ _
    (λ f. numbers_at used f (ap length h ∙ count FILES) ∙ ap (λ l. slice_index_or l f false) h ∙ no_flag FILES f ∙ sym (finset.contains-empty nat_cmp f))
  where
    count : (n : ℕ) → length (replicate n false) ≡ n
    count n = grind (arith, common_steps)

-- the first numbers are in use
flag_first : (n m f : ℕ) → slice_index_or (replicate n true ++ replicate m false) f false ≡ nat_lt f n
flag_first zero m f = no_flag m f ∙ none_below f
flag_first (suc n) m zero = least n
  where
    least : (n : ℕ) → true ≡ nat_lt 0 (suc n)
    least n = grind (arith, nat_tests)
flag_first (suc n) m (suc f) = flag_first n m f ∙ less_again f n
  where
    less_again : (f n : ℕ) → nat_lt f n ≡ nat_lt (suc f) (suc n)
    less_again f n = grind (arith, nat_tests)

pub count_first : (n count : ℕ) → n ≤ count → length (used_first n count) ≡ count
count_first n count h = grind (arith, common_steps)

pub numbers_first : (used : List Bool) (n : ℕ) → used ≡ used_first n FILES → n ≤ FILES → numbers_of used ≡ finset.from_list (upto n)
numbers_first used n is h =
    finset.same_set nat_cmp_total finset.nat_cmp-IsAntisymmetric _ _
    (λ f. numbers_at used f (ap length is ∙ count_first n FILES h) ∙ ap (λ l. slice_index_or l f false) is ∙ flag_first n (FILES - n) f
    ∙ sym (below n f) ∙ sym (finset.contains-from_list nat_cmp_total (upto n) f))

-- a flag set or cleared
set_or : (b c : Bool) → (b || c) ≡ cond b true c
set_or true c = refl
set_or false c = refl

clear_and : (b c : Bool) → (not b && c) ≡ cond b false c
clear_and true c = refl
clear_and false c = refl

pub length_set : (used : List Bool) (f : ℕ) (v : Bool) (n : ℕ) → length used ≡ n → length (slice_set used f v) ≡ n
length_set used f v n count = grind (arith, common_steps, count)

pub numbers_set : (used : List Bool) (f : ℕ) → length used ≡ FILES → f < FILES → finset.insert (numbers_of used) f ≡ numbers_of (slice_set used f true)
numbers_set used f count less =
    let inside : f < length used = omega (arith, count, less) in
    finset.same_set nat_cmp_total finset.nat_cmp-IsAntisymmetric _ _
    (λ q. finset.contains-insert nat_cmp_total (numbers_of used) f q
    ∙ set_or (eq_by_cmp nat_cmp q f) (finset.contains (numbers_of used) q) ∙ ap (λ b. cond b true (finset.contains (numbers_of used) q)) (tied_is q f)
    ∙ ap (cond (f == q) true) (numbers_at used q count) ∙ sym (numbers_at (slice_set used f true) q (length_set used f true FILES count) ∙ flag_at used f q true inside))

pub numbers_clear : (used : List Bool) (f : ℕ) → length used ≡ FILES → f < FILES → finset.remove (numbers_of used) f ≡ numbers_of (slice_set used f false)
numbers_clear used f count less =
    let inside : f < length used = omega (arith, count, less) in
    finset.same_set nat_cmp_total finset.nat_cmp-IsAntisymmetric _ _
    (λ q. finset.contains-remove nat_cmp_total (numbers_of used) f q
    ∙ clear_and (eq_by_cmp nat_cmp q f) (finset.contains (numbers_of used) q) ∙ ap (λ b. cond b false (finset.contains (numbers_of used) q)) (tied_is q f)
    ∙ ap (cond (f == q) false) (numbers_at used q count) ∙ sym (numbers_at (slice_set used f false) q (length_set used f false FILES count) ∙ flag_at used f q false inside))
