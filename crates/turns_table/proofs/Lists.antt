-- Lists and functions that change at one place.
use Rattle.std.proofs.Common.{◌≡◌, ◌≢◌, ℕ, zero, suc, ◌+◌, ◌<◌, ◌≤◌, ◌⊎◌, List, [], ◌∷◌, ◌++◌, length, map, get_or, set, sym, refl, ap, ◌∙◌, subst, inl, inr, ⊎_elim, arith, cond, eqb, eq-eqb, ne_eqb, Option, Some, Bool, false, take}
use mathlib.Core.Option.{some, some-injective, some-ne-none}
use mathlib.Core.Logic.{dite}
use native.Mathlib.Decide.{ℕ_discrete}
use lib.ListN.{get_elem?}
use Rattle.atomic_table.proofs.Lists.{at_set, set_here, set_else}

-- the function with another value at k
abbrev pub put : {A : Type 0} → (ℕ → A) → ℕ → A → ℕ → A
put f k a i = cond (eqb i k) a (f i)

module _ {A : Type 0} where
  pub put_here : (f : ℕ → A) (k : ℕ) (a : A) (i : ℕ) → i ≡ k → put f k a i ≡ a
  put_here f k a i e = ap (λ b. cond b a (f i)) (eq-eqb i k e)

  pub put_else : (f : ℕ → A) (k : ℕ) (a : A) (i : ℕ) → i ≢ k → put f k a i ≡ f i
  put_else f k a i n = ap (λ b. cond b a (f i)) (ne_eqb i k n)

  pub there : (l : List A) (i : ℕ) (a : A) → get_elem? l i ≡ some a → i < length l
  there [] i a e = absurd (some-ne-none a (sym e))
  there (x ∷ xs) zero a e = omega arith
  there (x ∷ xs) (suc i) a e = omega (arith, there xs i a e)

  pub found : (l : List A) (i : ℕ) → i < length l → (a : A) × (get_elem? l i ≡ some a)
  found [] i h = absurd (omega arith)
  found (x ∷ xs) zero h = (x, refl)
  found (x ∷ xs) (suc i) h = found xs i (omega arith)

  pub same_at : (l : List A) (i : ℕ) (a b : A) → get_elem? l i ≡ some a → get_elem? l i ≡ some b → a ≡ b
  same_at l i a b e f = some-injective a b (sym e ∙ f)

  -- what holds of each element holds of each after one is changed
  pub each_set : (K : ℕ → A → Type 0) (l : List A) (i : ℕ) (w : A) → K i w → ((j : ℕ) (v : A) → j ≢ i → get_elem? l j ≡ some v → K j v)
      → (j : ℕ) (v : A) → get_elem? (set l i w) j ≡ some v → K j v
  each_set K l i w mine others j v e = ⊎_elim
      (λ (t : (j ≡ i) × (w ≡ v)). subst (λ (z : ℕ × A). K z.0 z.1) (λ k. (sym t.0 k, t.1 k)) mine)
      (λ (t : (j ≢ i) × (get_elem? l j ≡ some v)). others j v t.0 t.1)
      (at_set l i j w v e)

  -- an element with this property is still there after one is changed
  pub keep_some : (Q : A → Type 0) (l : List A) (i j : ℕ) (v w : A) → get_elem? l i ≡ some v → (Q v → Q w)
      → (u : A) × (get_elem? l j ≡ some u) × Q u → (u : A) × (get_elem? (set l i w) j ≡ some u) × Q u
  keep_some Q l i j v w at on t = dite (ℕ_discrete j i)
      (λ is. (
        w,
        subst (λ (k : ℕ). get_elem? (set l i w) k ≡ some w) (sym is) (set_here l i w (there l i v at)),
        on (subst Q (same_at l i t.0 v (subst (λ (k : ℕ). get_elem? l k ≡ some t.0) is t.1) at) t.2),
      ))
      (λ apart. (t.0, set_else l i j w apart ∙ t.1, t.2))

  pub at_snoc_here : (l : List A) (a b : A) (j : ℕ) → get_elem? (l ++ a ∷ []) j ≡ some b → (get_elem? l j ≡ some b) ⊎ ((j ≡ length l) × (a ≡ b))
  at_snoc_here [] a b zero e = inr (refl, some-injective a b e)
  at_snoc_here [] a b (suc j) e = absurd (some-ne-none b (sym e))
  at_snoc_here (x ∷ xs) a b zero e = inl e
  at_snoc_here (x ∷ xs) a b (suc j) e = ⊎_elim (λ t. inl t) (λ (t : (j ≡ length xs) × (a ≡ b)). inr (ap suc t.0, t.1)) (at_snoc_here xs a b j e)

  pub set_same : (l : List A) (i : ℕ) (a b : A) → i < length l → get_elem? (set l i a) i ≡ some b → b ≡ a
  set_same l i a b h e = sym (some-injective a b (sym (set_here l i a h) ∙ e))

  pub map_set : {B : Type 0} (f : A → B) (l : List A) (i : ℕ) (a : A) → map f (set l i a) ≡ set (map f l) i (f a)
  map_set f [] i a = refl
  map_set f (x ∷ xs) zero a = refl
  map_set f (x ∷ xs) (suc i) a = ap (λ (r : List _). f x ∷ r) (map_set f xs i a)

  pub map_same : {B : Type 0} (f : A → B) (l : List A) (i : ℕ) (a b : A) → get_elem? l i ≡ some a → f b ≡ f a → map f (set l i b) ≡ map f l
  map_same f [] i a b e same = refl
  map_same f (x ∷ xs) zero a b e same = ap (λ y. y ∷ map f xs) (same ∙ ap f (sym (some-injective x a e)))
  map_same f (x ∷ xs) (suc i) a b e same = ap (λ (r : List _). f x ∷ r) (map_same f xs i a b e same)

  pub snoc_injective : (l : List A) (a b : A) → l ++ a ∷ [] ≡ l ++ b ∷ [] → a ≡ b
  snoc_injective [] a b e = cc
  snoc_injective (x ∷ xs) a b e = let t : xs ++ a ∷ [] ≡ xs ++ b ∷ [] = cc in snoc_injective xs a b t

  -- in a list of full options each is full
  pub full_at : (xs : List A) (ys zs : List (Option A)) (s : Option A) → ys ++ s ∷ zs ≡ map (λ (x : A). Some x) xs → (x : A) × (s ≡ Some x)
  full_at [] [] zs s e = absurd (cc)
  full_at [] (y ∷ ys) zs s e = absurd (cc)
  full_at (x ∷ xs) [] zs s e = let t : s ≡ Some x = cc in (x, t)
  full_at (x ∷ xs) (y ∷ ys) zs s e = let t : ys ++ s ∷ zs ≡ map (λ (x : A). Some x) xs = cc in full_at xs ys zs s t

  pub same_full : (xs ys : List A) → map (λ (x : A). Some x) xs ≡ map (λ (x : A). Some x) ys → xs ≡ ys
  same_full [] [] e = refl
  same_full [] (y ∷ ys) e = absurd (cc)
  same_full (x ∷ xs) [] e = absurd (cc)
  same_full (x ∷ xs) (y ∷ ys) e = let t : Some x ≡ Some y = cc in let h : x ≡ y = cc in let u : map (λ (x : A). Some x) xs ≡ map (λ (x : A). Some x) ys = cc in λ i. h i ∷ same_full xs ys u i

  -- lists that agree at each place are one
  pub same_list : (xs ys : List A) → length xs ≡ length ys → ((i : ℕ) (x : A) → get_elem? ys i ≡ some x → get_elem? xs i ≡ some x) → xs ≡ ys
  same_list [] [] e f = refl
  same_list [] (y ∷ ys) e f = absurd (omega arith)
  same_list (x ∷ xs) [] e f = absurd (omega arith)
  same_list (x ∷ xs) (y ∷ ys) e f = let h : x ≡ y = some-injective x y (f zero y refl) in λ i. h i ∷ same_list xs ys (omega arith) (λ k z t. f (suc k) z t) i

  pub or_map : (f : A → ℕ) (l : List A) (i : ℕ) (a : A) → get_elem? l i ≡ some a → get_or (map f l) i 0 ≡ f a
  or_map f [] i a e = absurd (some-ne-none a (sym e))
  or_map f (x ∷ xs) zero a e = ap f (some-injective x a e)
  or_map f (x ∷ xs) (suc i) a e = or_map f xs i a e

  pub full_there : (l : List A) (i : ℕ) (a : A) → get_elem? (map (λ (x : A). Some x) l) i ≡ some (Some a) → get_elem? l i ≡ some a
  full_there [] i a e = absurd (some-ne-none (Some a) (sym e))
  full_there (x ∷ xs) zero a e = let t : Some x ≡ Some a = some-injective (Some x) (Some a) e in let u : x ≡ a = cc in ap (λ (y : A). some y) u
  full_there (x ∷ xs) (suc i) a e = full_there xs i a e

  pub beyond : (l : List A) (i : ℕ) (d : A) → length l ≤ i → get_or l i d ≡ d
  beyond [] i d h = refl
  beyond (x ∷ xs) zero d h = absurd (omega arith)
  beyond (x ∷ xs) (suc i) d h = beyond xs i d (omega arith)

  snoc_take : (l : List A) (i : ℕ) (a : A) → get_elem? l i ≡ some a → take (suc i) l ≡ take i l ++ a ∷ []
  snoc_take [] i a e = absurd (some-ne-none a (sym e))
  snoc_take (x ∷ xs) zero a e = λ k. some-injective x a e k ∷ []
  snoc_take (x ∷ xs) (suc i) a e = ap (λ (r : List A). x ∷ r) (snoc_take xs i a e)

  pub take_next : (l : List A) (i : ℕ) (a : A) → get_elem? l i ≡ some a → take (i + 1) l ≡ take i l ++ a ∷ []
  take_next l i a e = let t : i + 1 ≡ suc i = omega arith in ap (λ (n : ℕ). take n l) t ∙ snoc_take l i a e

pub unset : (l : List Bool) (i : ℕ) → get_or (set l i false) i false ≡ false
unset [] i = refl
unset (x ∷ xs) zero = refl
unset (x ∷ xs) (suc i) = unset xs i
