-- Names and the sessions of their slots: where nothing changes, where one comes, and where one goes.
use Rattle.std.proofs.Common.{◌≡◌, ◌⊎◌, inl, inr, ℕ, List, sym, ap, ◌∙◌}
use Rattle.std.specs.Prelude.{Option, None, Some}
use Rattle.std.proofs.lemmas.Bool.{cases_eq}
use Rattle.std.specs.FinMap as finmap
use Rattle.ho_events.specs.Registry.{Slots}
use Rattle.balance_laws.specs.Sound.{NamesMatch}
use Rattle.balance_laws.proofs.Base.{same_value, not_some}
use Rattle.balance_laws.proofs.Maps.{name_at, name_off, name_cut, name_left, names_either}

module _ (names : Slots) (was is : ℕ → Option (List ℕ)) (match : NamesMatch names was) where
  pub names_same : ((s : ℕ) → is s ≡ was s) → NamesMatch names is
  names_same same = record {
    there = λ name s e. same s ∙ match.there name s e;
    found = λ name s e. match.found name s (sym (same s) ∙ e);
  }

  module _ (name : List ℕ) (slot : ℕ) (others : (s : ℕ) → (s ≡ slot → ⊥) → is s ≡ was s) where
    -- a new name in a slot without one
    pub names_more : was slot ≡ None → finmap.get names name ≡ None → is slot ≡ Some name → NamesMatch (finmap.insert names name slot) is
    names_more blank new here = record {
      there = λ n s e. there n s (names_either n name) e;
      found = λ n s e. found n s (cases_eq s slot) e;
    }
      where
        there : (n : List ℕ) (s : ℕ) → (n ≡ name) ⊎ (n ≡ name → ⊥) → finmap.get (finmap.insert names name slot) n ≡ Some s → is s ≡ Some n
        there n s (inl p) e =
            let same : slot ≡ s = same_value slot s (sym (name_at names name slot n p) ∙ e) in
            ap is (sym same) ∙ here ∙ ap Some (sym p)
        there n s (inr p) e =
            let old : was s ≡ Some n = match.there n s (sym (name_off names name slot n p) ∙ e) in
            others s (λ same. not_some n (sym blank ∙ ap was (sym same) ∙ old)) ∙ old

        found : (n : List ℕ) (s : ℕ) → (s ≡ slot) ⊎ (s ≡ slot → ⊥) → is s ≡ Some n → finmap.get (finmap.insert names name slot) n ≡ Some s
        found n s (inl p) e =
            let same : n ≡ name = same_value n name (sym e ∙ ap is p ∙ here) in
            name_at names name slot n same ∙ ap Some (sym p)
        found n s (inr p) e =
            let old : finmap.get names n ≡ Some s = match.found n s (sym (others s p) ∙ e) in
            name_off names name slot n (λ same. not_some s (sym new ∙ ap (finmap.get names) (sym same) ∙ old)) ∙ old

    -- a name goes with the session of its slot
    pub names_less : was slot ≡ Some name → is slot ≡ None → NamesMatch (finmap.remove names name) is
    names_less had blank = record {
      there = λ n s e. there n s (names_either n name) e;
      found = λ n s e. found n s (cases_eq s slot) e;
    }
      where
        there : (n : List ℕ) (s : ℕ) → (n ≡ name) ⊎ (n ≡ name → ⊥) → finmap.get (finmap.remove names name) n ≡ Some s → is s ≡ Some n
        there n s (inl p) e = absurd (not_some s (sym (name_cut names name n p) ∙ e))
        there n s (inr p) e =
            let old : was s ≡ Some n = match.there n s (sym (name_left names name n p) ∙ e) in
            others s (λ same. p (same_value n name (sym old ∙ ap was same ∙ had))) ∙ old

        found : (n : List ℕ) (s : ℕ) → (s ≡ slot) ⊎ (s ≡ slot → ⊥) → is s ≡ Some n → finmap.get (finmap.remove names name) n ≡ Some s
        found n s (inl p) e = absurd (not_some n (sym blank ∙ ap is (sym p) ∙ e))
        found n s (inr p) e =
            let old : was s ≡ Some n = sym (others s p) ∙ e in
            let got : finmap.get names n ≡ Some s = match.found n s old in
            name_left names name n (λ same. p (same_value s slot (sym got ∙ ap (finmap.get names) same ∙ match.found name slot had))) ∙ got
