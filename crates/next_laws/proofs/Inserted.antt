-- Entries that are inserted one after the other.
use Rattle.std.proofs.Common.{◌≡◌, Bool, true, false, cond, List, [], ◌∷◌, refl, sym, ap, subst, ◌∙◌, Ordering, T}
use Rattle.std.specs.Prelude.{Option, None, Some}
use Rattle.std.specs.List.{AllByRecursion}
use Rattle.std.proofs.Common.{Less, Equal, Greater}
use Rattle.std.specs.Ordering.{eq_by_cmp, is_eq, is_lt}
use Rattle.std.specs.Cmp.{IsTotalOrder}
use Rattle.std.specs.FinMap as finmap
use Rattle.std.specs.FinMap.{find, is_sorted, IsAntisymmetric}
use Rattle.std.specs.FinMap.Entries.{below_all}
use Rattle.std.proofs.lemmas.Bool.{and_parts}

tied : (c : Ordering) → is_eq c ≡ true → c ≡ Equal
tied Less h = absurd cc
tied Equal h = refl
tied Greater h = absurd cc

lower : (c : Ordering) → is_lt c ≡ true → is_eq c ≡ false
lower Less h = refl
lower Equal h = absurd cc
lower Greater h = absurd cc

abbrev pub or_that : {X : Type 0} → Option X → Option X → Option X
or_that None d = d
or_that (Some x) d = Some x

or_none : {X : Type 0} (o : Option X) → or_that o None ≡ o
or_none None = refl
or_none (Some x) = refl

-- entries that are inserted from the first on
abbrev pub put_all : {K X : Type 0} {R : K → K → Ordering} → List (K × X) → finmap.FinMap R X → finmap.FinMap R X
put_all [] m = m
put_all (e ∷ es) m = put_all es (finmap.insert m e.0 e.1)

-- no two have the same key
abbrev pub Apart : {K X : Type 0} → (K → K → Ordering) → List (K × X) → Type 0
Apart R [] = Unit {0}
Apart R (e ∷ es) = AllByRecursion (λ g. eq_by_cmp R e.0 g.0 ≡ false) es × Apart R es

module _ {K X : Type 0} (R : K → K → Ordering) where
  below_apart : (k : K) (es : List (K × X)) → below_all R k es ≡ true → AllByRecursion (λ g. eq_by_cmp R k g.0 ≡ false) es
  below_apart k [] h = tt
  below_apart k (e ∷ es) h =
      let hs = and_parts (is_lt (R k e.0)) (below_all R k es) h in
      (lower (R k e.0) hs.0, below_apart k es hs.1)

  pub sorted_apart : (es : List (K × X)) → is_sorted R es ≡ true → Apart R es
  sorted_apart [] h = tt
  sorted_apart (e ∷ es) h =
      let hs = and_parts (below_all R e.0 es) (is_sorted R es) h in
      (below_apart e.0 es hs.0, sorted_apart es hs.1)

  none_found : (q : K) (es : List (K × X)) → AllByRecursion (λ g. eq_by_cmp R q g.0 ≡ false) es → find R q es ≡ None
  none_found q [] h = refl
  none_found q (e ∷ es) h = ap (λ b. cond b (Some e.1) (find R q es)) h.0 ∙ none_found q es h.1

module _ {K X : Type 0} {R : K → K → Ordering} (o : IsTotalOrder R) (anti : IsAntisymmetric R) where
  get_all : (es : List (K × X)) (m : finmap.FinMap R X) (q : K) → Apart R es → finmap.get (put_all es m) q ≡ or_that (find R q es) (finmap.get m q)
  get_all [] m q apart = refl
  get_all (e ∷ es) m q apart =
      get_all es (finmap.insert m e.0 e.1) q apart.1
      ∙ ap (λ d. or_that (find R q es) d) (finmap.get-insert o m e.0 e.1 q)
      ∙ at_test (eq_by_cmp R q e.0) refl
    where
      at_test : (b : Bool) → eq_by_cmp R q e.0 ≡ b
          → or_that (find R q es) (cond (eq_by_cmp R q e.0) (Some e.1) (finmap.get m q)) ≡ or_that (find R q (e ∷ es)) (finmap.get m q)
      at_test true h =
          let same : q ≡ e.0 = anti q e.0 (tied (R q e.0) h) in
          let none : find R q es ≡ None = none_found R q es (subst (λ x. AllByRecursion (λ g. eq_by_cmp R x g.0 ≡ false) es) (sym same) apart.0) in
          ap (λ b. or_that (find R q es) (cond b (Some e.1) (finmap.get m q))) h
          ∙ ap (λ d. or_that d (Some e.1)) none
          ∙ ap (λ b. or_that (cond b (Some e.1) (find R q es)) (finmap.get m q)) (sym h)
      at_test false h =
          ap (λ b. or_that (find R q es) (cond b (Some e.1) (finmap.get m q))) h
          ∙ ap (λ b. or_that (cond b (Some e.1) (find R q es)) (finmap.get m q)) (sym h)

  pub from_entries_is : (es : List (K × X)) → Apart R es → finmap.from_entries {R = R} es ≡ put_all es finmap.empty
  from_entries_is es apart =
      finmap.same_map o anti (finmap.from_entries es) (put_all es finmap.empty)
      (λ q. finmap.get-from_entries o es q ∙ sym (or_none (find R q es)) ∙ ap (λ d. or_that (find R q es) d) (sym (finmap.get-empty R q)) ∙ sym (get_all es finmap.empty q apart))

  pub from_sorted_is : (es : List (K × X)) → is_sorted R es ≡ true → finmap.from_sorted {R = R} es ≡ put_all es finmap.empty
  from_sorted_is es h =
      finmap.same_map o anti (finmap.from_sorted es) (put_all es finmap.empty)
      (λ q. finmap.get-from_sorted R es q (subst T (sym h) tt) ∙ sym (or_none (find R q es)) ∙ ap (λ d. or_that (find R q es) d) (sym (finmap.get-empty R q)) ∙ sym (get_all es finmap.empty q (sorted_apart R es h)))
