-- Values that stand at places: where nothing changes, where one comes, and where some go.
use Rattle.std.proofs.Common.{◌≡◌, ◌⊎◌, inl, inr, ℕ, Bool, true, false, sym, ap, ◌∙◌}
use Rattle.std.specs.Prelude.{Option, None, Some}
use Rattle.ho_events.specs.Pool.{PoolState}
use Rattle.balance_laws.specs.OneEach.{OneEach, Place}
use Rattle.balance_laws.specs.Sound.{PinsMatch, IsCovered}
use Rattle.balance_laws.proofs.Base.{same_value, not_some, clash}

module _ {K L V : Type 0} (at now : K → L → Option V) (has is_now : V → Bool) (each : OneEach at has) where
  pub each_same : ((k : K) (l : L) → now k l ≡ at k l) → ((v : V) → is_now v ≡ has v) → OneEach now is_now
  each_same places values = record {
    there = λ k l v e. values v ∙ each.there k l v (sym (places k l) ∙ e);
    found = λ v h. (let p : Place at v = each.found v (sym (values v) ∙ h) in record { row = p.row; column = p.column; is = places p.row p.column ∙ p.is });
    once = λ k m l n v e g. each.once k m l n v (sym (places k l) ∙ e) (sym (places m n) ∙ g);
  }

  -- those go that aren't there any more
  pub each_less : ((k : K) (l : L) (v : V) → now k l ≡ Some v → (at k l ≡ Some v) × (is_now v ≡ true)) → ((k : K) (l : L) (v : V) → at k l ≡ Some v → is_now v ≡ true → now k l ≡ Some v)
      → ((v : V) → is_now v ≡ true → has v ≡ true) → OneEach now is_now
  each_less stayed stays values = record {
    there = λ k l v e. (stayed k l v e).1;
    found = λ v h. (let p : Place at v = each.found v (values v h) in record { row = p.row; column = p.column; is = stays p.row p.column v p.is h });
    once = λ k m l n v e g. each.once k m l n v (stayed k l v e).0 (stayed m n v g).0;
  }

  -- one more comes at a place where nothing stood
  module _ (row : K) (column : L) (new : V) (blank : at row column ≡ None) (here : now row column ≡ Some new) (others : (k : K) (l : L) → ((k ≡ row) × (l ≡ column)) ⊎ (now k l ≡ at k l))
      (is : is_now new ≡ true) (was : has new ≡ false) (values : (v : V) → (v ≡ new) ⊎ (is_now v ≡ has v)) where
    at_new : (k : K) (l : L) (v : V) → k ≡ row → l ≡ column → now k l ≡ Some v → v ≡ new
    at_new k l v ek el e = same_value v new (sym e ∙ ap (λ x. now x l) ek ∙ ap (now row) el ∙ here)

    -- what stood before is another one
    not_new : (k : K) (l : L) (v : V) → now k l ≡ at k l → now k l ≡ Some v → v ≡ new → ⊥
    not_new k l v same e is_new = clash (sym (each.there k l v (sym same ∙ e)) ∙ ap has is_new ∙ was)

    is_there : (k : K) (l : L) (v : V) → ((k ≡ row) × (l ≡ column)) ⊎ (now k l ≡ at k l) → (v ≡ new) ⊎ (is_now v ≡ has v) → now k l ≡ Some v → is_now v ≡ true
    is_there k l v (inl p) w e = ap is_now (at_new k l v p.0 p.1 e) ∙ is
    is_there k l v (inr p) (inl w) e = absurd (not_new k l v p e w)
    is_there k l v (inr p) (inr w) e = w ∙ each.there k l v (sym p ∙ e)

    old_place : (v : V) (k : K) (l : L) → at k l ≡ Some v → ((k ≡ row) × (l ≡ column)) ⊎ (now k l ≡ at k l) → Place now v
    old_place v k l e (inl p) = absurd (not_some v (sym blank ∙ ap (λ x. at x column) (sym p.0) ∙ ap (at k) (sym p.1) ∙ e))
    old_place v k l e (inr p) = record { row = k; column = l; is = p ∙ e }

    is_found : (v : V) → (v ≡ new) ⊎ (is_now v ≡ has v) → is_now v ≡ true → Place now v
    is_found v (inl w) h = record { row = row; column = column; is = here ∙ ap Some (sym w) }
    is_found v (inr w) h = let p : Place at v = each.found v (sym w ∙ h) in old_place v p.row p.column p.is (others p.row p.column)

    is_once : (k m : K) (l n : L) (v : V) → ((k ≡ row) × (l ≡ column)) ⊎ (now k l ≡ at k l) → ((m ≡ row) × (n ≡ column)) ⊎ (now m n ≡ at m n) → now k l ≡ Some v → now m n ≡ Some v → (k ≡ m) × (l ≡ n)
    is_once k m l n v (inl p) (inl q) e g = (p.0 ∙ sym q.0, p.1 ∙ sym q.1)
    is_once k m l n v (inl p) (inr q) e g = absurd (not_new m n v q g (at_new k l v p.0 p.1 e))
    is_once k m l n v (inr p) (inl q) e g = absurd (not_new k l v p e (at_new m n v q.0 q.1 g))
    is_once k m l n v (inr p) (inr q) e g = each.once k m l n v (sym p ∙ e) (sym q ∙ g)

    pub each_more : OneEach now is_now
    each_more = record {
      there = λ k l v e. is_there k l v (others k l) (values v) e;
      found = λ v h. is_found v (values v) h;
      once = λ k m l n v e g. is_once k m l n v (others k l) (others m n) e g;
    }

-- pinned frames, where the pinned runs stay
pub pins_same : (s : PoolState) (was now : ℕ → ℕ → Option (ℕ × ℕ)) → ((f i : ℕ) → now f i ≡ was f i) → PinsMatch s was → PinsMatch s now
pins_same s was now same pins = record {
  pinned = λ p h. (let c : IsCovered was p = pins.pinned p h in record { file = c.file; index = c.index; run = c.run; is = same c.file c.index ∙ c.is; offset = c.offset; below = c.below; frame = c.frame });
  covered = λ p c. pins.covered p (record { file = c.file; index = c.index; run = c.run; is = sym (same c.file c.index) ∙ c.is; offset = c.offset; below = c.below; frame = c.frame });
}
