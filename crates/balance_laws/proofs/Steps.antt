-- What is common to the commands: tests that let a step come, labels that stay, and worlds at the end of acts.
use Rattle.std.proofs.Common.{◌≡◌, ℕ, ◌<◌, Bool, true, false, cond, List, [], ◌∷◌, ◌++◌, zero, suc, refl, sym, ap, subst, ◌∙◌, arith}
use Rattle.std.specs.Prelude.{Option, None, Some, ◌==◌, if◌then◌else◌, find}
use Rattle.std.proofs.lemmas.Bool.{eqb-true}
use Rattle.ho_events.specs.Lists.{only, upto, is_just}
use Rattle.ho_world.specs.Sequences.{Labels}
use Rattle.ho_world.specs.World.{World}
use Rattle.balance_laws.specs.Keeps.{relabeled}
use Rattle.balance_laws.specs.Sound.{Sound}
use Rattle.balance_laws.proofs.Base.{same_value, not_some, clash}

-- what a test lets come
pub only_is : {T : Type 0} (b : Bool) (x y : T) → only b x ≡ Some y → (b ≡ true) × (y ≡ x)
only_is true x y e = (refl, sym (same_value x y e))
only_is false x y e = absurd (not_some y e)

-- what comes out of a test
pub chosen : {T : Type 0} (b : Bool) (o : Option T) (t : T) → (if b then o else None) ≡ Some t → (b ≡ true) × (o ≡ Some t)
chosen true o t e = (refl, e)
chosen false o t e = absurd (not_some t e)

pub just_is : (n : ℕ) (o : Option ℕ) → is_just n o ≡ true → o ≡ Some n
just_is n None h = absurd (clash (sym h))
just_is n (Some x) h = ap Some (eqb-true x n h)

-- the first number below an end that passes a test is below it
module _ (p : ℕ → Bool) (n : ℕ) where
  last_passes : (b : Bool) (k : ℕ) → cond b (Some n) None ≡ Some k → k < suc n
  last_passes true k e = let same : n ≡ k = same_value n k e in omega (arith, same)
  last_passes false k e = absurd (not_some k e)

  none_before : (xs : List ℕ) → find p xs ≡ None → find p (xs ++ n ∷ []) ≡ cond (p n) (Some n) None
  none_before [] e = refl
  none_before (x ∷ xs) e = by_test (p x) refl (λ h. none_before xs h)
    where
      by_test : (b : Bool) → p x ≡ b → (find p xs ≡ None → find p (xs ++ n ∷ []) ≡ cond (p n) (Some n) None) → find p ((x ∷ xs) ++ n ∷ []) ≡ cond (p n) (Some n) None
      by_test true t more = absurd (not_some x (sym e ∙ ap (λ c. cond c (Some x) (find p xs)) t))
      by_test false t more = ap (λ c. cond c (Some x) (find p (xs ++ n ∷ []))) t ∙ more (ap (λ c. cond c (Some x) (find p xs)) (sym t) ∙ e)

  before : (xs : List ℕ) (j : ℕ) → find p xs ≡ Some j → find p (xs ++ n ∷ []) ≡ Some j
  before [] j e = absurd (not_some j e)
  before (x ∷ xs) j e = by_test (p x) refl (λ h. before xs j h)
    where
      by_test : (b : Bool) → p x ≡ b → (find p xs ≡ Some j → find p (xs ++ n ∷ []) ≡ Some j) → find p ((x ∷ xs) ++ n ∷ []) ≡ Some j
      by_test true t more = ap (λ c. cond c (Some x) (find p (xs ++ n ∷ []))) t ∙ ap (λ c. cond c (Some x) (find p xs)) (sym t) ∙ e
      by_test false t more = ap (λ c. cond c (Some x) (find p (xs ++ n ∷ []))) t ∙ more (ap (λ c. cond c (Some x) (find p xs)) (sym t) ∙ e)

  found_last : (k : ℕ) (xs : List ℕ) (o : Option ℕ) → find p xs ≡ o → find p (xs ++ n ∷ []) ≡ Some k → ((j : ℕ) → find p xs ≡ Some j → j < n) → k < suc n
  found_last k xs None e h less = last_passes (p n) k (sym (none_before xs e) ∙ h)
  found_last k xs (Some j) e h less =
      let same : j ≡ k = same_value j k (sym (before xs j e) ∙ h) in
      let low : j < n = less j e in
      omega (arith, same, low)

pub found_below : (p : ℕ → Bool) (n k : ℕ) → find p (upto n) ≡ Some k → k < n
unfolding upto
found_below p zero k h = absurd (not_some k h)
found_below p (suc n) k h = found_last p n k (upto n) (find p (upto n)) refl h (λ j e. found_below p n j e)

-- labels that stay
pub relabel_same : (labels : ℕ → Labels) (a : ℕ) → relabeled labels a (labels a) ≡ labels
relabel_same labels a = λ j b. by_test b (b == a) refl j
  where
    by_test : (b : ℕ) (t : Bool) → (b == a) ≡ t → cond (b == a) (labels a) (labels b) ≡ labels b
    by_test b true e = ap (λ c. cond c (labels a) (labels b)) e ∙ ap labels (sym (eqb-true b a e))
    by_test b false e = ap (λ c. cond c (labels a) (labels b)) e

-- where the command changes no label
pub relabel_kept : (v : World) (labels : ℕ → Labels) (a : ℕ) (b : Bool) → Sound v labels → Sound v (relabeled labels a (if b then labels a else labels a))
relabel_kept v labels a true sound = subst (λ l. Sound v l) (sym (relabel_same labels a)) sound
relabel_kept v labels a false sound = subst (λ l. Sound v l) (sym (relabel_same labels a)) sound

-- where the command was refused
pub relabel_refused : (v : World) (labels : ℕ → Labels) (a : ℕ) (b : Bool) (other : Labels) → b ≡ false → Sound v labels → Sound v (relabeled labels a (if b then other else labels a))
relabel_refused v labels a true other h sound = absurd (clash h)
relabel_refused v labels a false other h sound = subst (λ l. Sound v l) (sym (relabel_same labels a)) sound
