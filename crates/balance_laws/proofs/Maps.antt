-- Finite maps at a key that is put or taken out, and at all others.
use Rattle.std.proofs.Common.{◌≡◌, ◌⊎◌, inl, inr, ℕ, Bool, true, false, cond, not, ◌&&◌, ◌||◌, List, refl, sym, ap, ◌∙◌, Ordering, Less, Equal, Greater}
use Rattle.std.specs.Prelude.{None, Some}
use Rattle.std.specs.Ordering.{nat_cmp, eq_by_cmp, is_eq, ordering_reverse}
use Rattle.std.specs.Cmp.{IsTotalOrder}
use Rattle.std.specs.Cmp.Lexicographic.{slice_cmp}
use Rattle.std.proofs.lemmas.Cmp.{nat_cmp_total, nat_list_cmp_total}
use Rattle.std.specs.FinMap as finmap
use Rattle.std.specs.FinMap.{IsAntisymmetric}
use Rattle.std.specs.FinSet as finset
use Rattle.balance_laws.proofs.Base.{clash}

tied : (c : Ordering) → is_eq c ≡ true → c ≡ Equal
tied Less h = absurd cc
tied Equal h = refl
tied Greater h = absurd cc

module _ {K : Type 0} (R : K → K → Ordering) (o : IsTotalOrder R) (anti : IsAntisymmetric R) where
  own_turn : (c : Ordering) → is_eq c ≡ false → c ≡ Equal → ⊥
  own_turn c h e = clash (sym (ap is_eq e) ∙ h)

  pub keys_same : (q k : K) → q ≡ k → eq_by_cmp R q k ≡ true
  keys_same q k e = ap is_eq (ap (R q) (sym e) ∙ itself q)
    where
      itself : (x : K) → R x x ≡ Equal
      itself x = turn (R x x) (o.antisymm x x)
        where
          turn : (c : Ordering) → c ≡ ordering_reverse c → c ≡ Equal
          turn Less h = absurd cc
          turn Equal h = refl
          turn Greater h = absurd cc

  pub keys_apart : (q k : K) → (q ≡ k → ⊥) → eq_by_cmp R q k ≡ false
  keys_apart q k ne = by_test (eq_by_cmp R q k) refl
    where
      by_test : (b : Bool) → eq_by_cmp R q k ≡ b → eq_by_cmp R q k ≡ false
      by_test true e = absurd (ne (anti q k (tied (R q k) e)))
      by_test false e = e

  pub keys_either : (q k : K) → (q ≡ k) ⊎ (q ≡ k → ⊥)
  keys_either q k = by_test (eq_by_cmp R q k) refl
    where
      by_test : (b : Bool) → eq_by_cmp R q k ≡ b → (q ≡ k) ⊎ (q ≡ k → ⊥)
      by_test true e = inl (anti q k (tied (R q k) e))
      by_test false e = inr (λ s. clash (sym (keys_same q k s) ∙ e))

  module _ {X : Type 0} (m : finmap.FinMap R X) where
    put_here : (k : K) (v : X) (q : K) → q ≡ k → finmap.get (finmap.insert m k v) q ≡ Some v
    put_here k v q e = finmap.get-insert o m k v q ∙ ap (λ b. cond b (Some v) (finmap.get m q)) (keys_same q k e)

    put_other : (k : K) (v : X) (q : K) → (q ≡ k → ⊥) → finmap.get (finmap.insert m k v) q ≡ finmap.get m q
    put_other k v q e = finmap.get-insert o m k v q ∙ ap (λ b. cond b (Some v) (finmap.get m q)) (keys_apart q k e)

    cut_here : (k q : K) → q ≡ k → finmap.get (finmap.remove m k) q ≡ None
    cut_here k q e = finmap.get-remove o m k q ∙ ap (λ b. cond b None (finmap.get m q)) (keys_same q k e)

    cut_other : (k q : K) → (q ≡ k → ⊥) → finmap.get (finmap.remove m k) q ≡ finmap.get m q
    cut_other k q e = finmap.get-remove o m k q ∙ ap (λ b. cond b None (finmap.get m q)) (keys_apart q k e)

module _ {X : Type 0} (m : finmap.FinMap nat_cmp X) where
  pub put_at : (k : ℕ) (v : X) (q : ℕ) → q ≡ k → finmap.get (finmap.insert m k v) q ≡ Some v
  put_at = put_here nat_cmp nat_cmp_total finmap.nat_cmp-IsAntisymmetric m

  pub put_off : (k : ℕ) (v : X) (q : ℕ) → (q ≡ k → ⊥) → finmap.get (finmap.insert m k v) q ≡ finmap.get m q
  put_off = put_other nat_cmp nat_cmp_total finmap.nat_cmp-IsAntisymmetric m

  pub cut_at : (k q : ℕ) → q ≡ k → finmap.get (finmap.remove m k) q ≡ None
  cut_at = cut_here nat_cmp nat_cmp_total finmap.nat_cmp-IsAntisymmetric m

  pub cut_off : (k q : ℕ) → (q ≡ k → ⊥) → finmap.get (finmap.remove m k) q ≡ finmap.get m q
  cut_off = cut_other nat_cmp nat_cmp_total finmap.nat_cmp-IsAntisymmetric m

module _ {X : Type 0} (m : finmap.FinMap (slice_cmp nat_cmp) X) where
  pub name_at : (k : List ℕ) (v : X) (q : List ℕ) → q ≡ k → finmap.get (finmap.insert m k v) q ≡ Some v
  name_at = put_here (slice_cmp nat_cmp) nat_list_cmp_total (finmap.slice_cmp-IsAntisymmetric finmap.nat_cmp-IsAntisymmetric) m

  pub name_off : (k : List ℕ) (v : X) (q : List ℕ) → (q ≡ k → ⊥) → finmap.get (finmap.insert m k v) q ≡ finmap.get m q
  name_off = put_other (slice_cmp nat_cmp) nat_list_cmp_total (finmap.slice_cmp-IsAntisymmetric finmap.nat_cmp-IsAntisymmetric) m

  pub name_cut : (k q : List ℕ) → q ≡ k → finmap.get (finmap.remove m k) q ≡ None
  name_cut = cut_here (slice_cmp nat_cmp) nat_list_cmp_total (finmap.slice_cmp-IsAntisymmetric finmap.nat_cmp-IsAntisymmetric) m

  pub name_left : (k q : List ℕ) → (q ≡ k → ⊥) → finmap.get (finmap.remove m k) q ≡ finmap.get m q
  name_left = cut_other (slice_cmp nat_cmp) nat_list_cmp_total (finmap.slice_cmp-IsAntisymmetric finmap.nat_cmp-IsAntisymmetric) m

pub names_either : (q k : List ℕ) → (q ≡ k) ⊎ (q ≡ k → ⊥)
names_either = keys_either (slice_cmp nat_cmp) nat_list_cmp_total (finmap.slice_cmp-IsAntisymmetric finmap.nat_cmp-IsAntisymmetric)

module _ (s : finset.FinSet nat_cmp) where
  pub set_put : (k q : ℕ) → q ≡ k → finset.contains (finset.insert s k) q ≡ true
  set_put k q e = finset.contains-insert nat_cmp_total s k q ∙ ap (λ b. b || finset.contains s q) (keys_same nat_cmp nat_cmp_total finmap.nat_cmp-IsAntisymmetric q k e)

  pub set_kept : (k q : ℕ) → (q ≡ k → ⊥) → finset.contains (finset.insert s k) q ≡ finset.contains s q
  set_kept k q e = finset.contains-insert nat_cmp_total s k q ∙ ap (λ b. b || finset.contains s q) (keys_apart nat_cmp nat_cmp_total finmap.nat_cmp-IsAntisymmetric q k e)

  pub set_cut : (k q : ℕ) → q ≡ k → finset.contains (finset.remove s k) q ≡ false
  set_cut k q e = finset.contains-remove nat_cmp_total s k q ∙ ap (λ b. not b && finset.contains s q) (keys_same nat_cmp nat_cmp_total finmap.nat_cmp-IsAntisymmetric q k e)

  pub set_left : (k q : ℕ) → (q ≡ k → ⊥) → finset.contains (finset.remove s k) q ≡ finset.contains s q
  set_left k q e = finset.contains-remove nat_cmp_total s k q ∙ ap (λ b. not b && finset.contains s q) (keys_apart nat_cmp nat_cmp_total finmap.nat_cmp-IsAntisymmetric q k e)

pub same_key : (a b : ℕ) → eq_by_cmp nat_cmp a b ≡ true → a ≡ b
same_key a b h = finmap.nat_cmp-IsAntisymmetric a b (tied (nat_cmp a b) h)
