-- The first number that passes a test.
use Rattle.std.proofs.Common.{◌≡◌, ℕ, ◌<◌, Bool, true, false, cond, nat_lt, List, [], ◌∷◌, ◌++◌, zero, suc, refl, ap, sym, ◌∙◌, arith}
use Rattle.std.specs.Prelude.{None, Some}
use Rattle.std.specs.List.{find}
use Rattle.std.proofs.lemmas.Bool.Decides.{nat_tests}
use Rattle.ho_events.specs.Lists.{upto}

module _ {A : Type 0} (p : A → Bool) where
  -- what was found stays found
  found_early : (xs ys : List A) → (x : A) → find p xs ≡ Some x → find p (xs ++ ys) ≡ Some x
  found_early [] ys x h = cc
  found_early (y ∷ xs) ys x h =
      elim (p y) as (λ b. cond b (Some y) (find p xs) ≡ Some x → cond b (Some y) (find p (xs ++ ys)) ≡ Some x) [
        | true ↦ λ e. e
        | false ↦ λ e. found_early xs ys x e
      ] h

  -- where nothing was found, the last one decides
  found_last : (xs : List A) → (y : A) → find p xs ≡ None → find p (xs ++ y ∷ []) ≡ cond (p y) (Some y) None
  found_last [] y h = refl
  found_last (x ∷ xs) y h =
      elim (p x) as (λ b. cond b (Some x) (find p xs) ≡ None → cond b (Some x) (find p (xs ++ y ∷ [])) ≡ cond (p y) (Some y) None) [
        | true ↦ λ e. cc
        | false ↦ λ e. found_last xs y e
      ] h

-- what is found passes
pub first_passes : {A : Type 0} → (p : A → Bool) → (xs : List A) → (x : A) → find p xs ≡ Some x → p x ≡ true
first_passes p [] x h = cc
first_passes p (y ∷ xs) x h =
    elim (p y) as (λ b. p y ≡ b → cond b (Some y) (find p xs) ≡ Some x → p x ≡ true) [
      | true ↦ λ t e. ap p (sym (same y x e)) ∙ t
      | false ↦ λ f e. first_passes p xs x e
    ] refl h
  where
    same : {A : Type 0} (a b : A) → Some a ≡ Some b → a ≡ b
    same a b e = cc

-- tests that agree find the same
pub found_alike : {A : Type 0} → (p q : A → Bool) → ((x : A) → p x ≡ q x) → (xs : List A) → find p xs ≡ find q xs
found_alike p q same [] = refl
found_alike p q same (x ∷ xs) = ap (λ b. cond b (Some x) (find p xs)) (same x) ∙ ap (λ r. cond (q x) (Some x) r) (found_alike p q same xs)

module _ (p : ℕ → Bool) where
  -- none below n passes
  pub first_none : (n : ℕ) → ((k : ℕ) → k < n → p k ≡ false) → find p (upto n) ≡ None
  unfolding upto
  first_none zero fail = refl
  first_none (suc n) fail =
      found_last p (upto n) n (first_none n (λ k h. fail k (omega arith))) ∙ ap (λ b. cond b (Some n) None) (fail n (omega arith))

  -- i passes, and none below it does
  pub first_at : (n i : ℕ) → i < n → p i ≡ true → ((k : ℕ) → k < i → p k ≡ false) → find p (upto n) ≡ Some i
  unfolding upto
  first_at zero i below pass fail = absurd (omega arith)
  first_at (suc n) i below pass fail =
      elim (nat_lt i n) as (λ b. nat_lt i n ≡ b → find p (upto n ++ n ∷ []) ≡ Some i) [
        | true ↦ λ e. found_early p (upto n) (n ∷ []) i (first_at n i (less i n e) pass fail)
        | false ↦ λ e.
            let same : i ≡ n = last i n e below in
            found_last p (upto n) n (first_none n (λ k h. fail k (omega arith)))
            ∙ ap (λ b. cond b (Some n) None) (ap p (sym same) ∙ pass) ∙ ap Some (sym same)
      ] refl
    where
      less : (a b : ℕ) → nat_lt a b ≡ true → a < b
      less a b e = grind (arith, nat_tests)

      last : (a b : ℕ) → nat_lt a b ≡ false → a < suc b → a ≡ b
      last a b e h = grind (arith, nat_tests)
