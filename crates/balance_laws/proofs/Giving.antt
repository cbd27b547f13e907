-- Runs that a file gives up and the pool gets back.
use Rattle.std.proofs.Common.{◌≡◌, ◌⊎◌, inl, inr, ℕ, true, List, [], ◌∷◌, refl, sym, ap, ◌∙◌}
use Rattle.std.specs.Prelude.{Option, None, Some, option_map}
use Rattle.std.specs.Ordering.{nat_cmp}
use Rattle.std.specs.FinMap as finmap
use Rattle.std.proofs.lemmas.Bool.{cases_eq, eq-eqb}
use Rattle.ho_events.specs.File.{FileState}
use Rattle.ho_events.specs.Lists.{is_just}
use Rattle.ho_events.specs.Pool.{PoolState, disown}
use Rattle.balance_laws.specs.OneEach.{OneEach}
use Rattle.balance_laws.specs.Sound.{RunsFit, owns, run_in}
use Rattle.balance_laws.proofs.Acts.{set_at, set_same, set_other}
use Rattle.balance_laws.proofs.Base.{same_value, not_some}
use Rattle.balance_laws.proofs.Each.{each_less}
use Rattle.balance_laws.proofs.Maps.{cut_at, cut_off}
use Rattle.balance_laws.proofs.Members.{In}
use Rattle.balance_laws.proofs.Steps.{just_is}

abbrev Owned : Type 0
Owned = finmap.FinMap nat_cmp ℕ

-- what is owned of runs that are given
pub disown_stayed : (ps : List ℕ) (owned : Owned) (q n : ℕ) → finmap.get (disown ps owned) q ≡ Some n → (finmap.get owned q ≡ Some n) × (In q ps → ⊥)
disown_stayed [] owned q n e = (e, λ i. i)
disown_stayed (p ∷ ps) owned q n e = by_case (cases_eq q p) (disown_stayed ps (finmap.remove owned p) q n e)
  where
    by_case : (q ≡ p) ⊎ (q ≡ p → ⊥) → (finmap.get (finmap.remove owned p) q ≡ Some n) × (In q ps → ⊥) → (finmap.get owned q ≡ Some n) × (In q (p ∷ ps) → ⊥)
    by_case (inl h) m = absurd (not_some n (sym (cut_at owned p q h) ∙ m.0))
    by_case (inr h) m = (sym (cut_off owned p q h) ∙ m.0, neither)
      where
        neither : In q (p ∷ ps) → ⊥
        neither (inl i) = h i
        neither (inr i) = m.1 i

pub disown_stays : (ps : List ℕ) (owned : Owned) (q n : ℕ) → finmap.get owned q ≡ Some n → (In q ps → ⊥) → finmap.get (disown ps owned) q ≡ Some n
disown_stays [] owned q n e out = e
disown_stays (p ∷ ps) owned q n e out = disown_stays ps (finmap.remove owned p) q n (cut_off owned p q (λ h. out (inl h)) ∙ e) (λ i. out (inr i))

-- the pool that doesn't own these runs any more
abbrev pub give_all : PoolState → List ℕ → PoolState
give_all s ps = record s { owned = disown ps s.owned }

pub given_fit : (s : PoolState) (ps : List ℕ) → RunsFit s → RunsFit (give_all s ps)
given_fit s ps fit = record {
  each = λ p o e. fit.each p o (disown_stayed ps s.owned p o e).0;
  apart = λ p o q n i j e g li lj same. fit.apart p o q n i j (disown_stayed ps s.owned p o e).0 (disown_stayed ps s.owned q n g).0 li lj same;
}

-- an owned run, as the pool has it
pub owned_at : (s : PoolState) (v : ℕ × ℕ) → owns s v ≡ true → finmap.get s.owned v.0 ≡ Some v.1
owned_at s v h = just_is v.1 (finmap.get s.owned v.0) h

pub is_owned_at : (s : PoolState) (v : ℕ × ℕ) → finmap.get s.owned v.0 ≡ Some v.1 → owns s v ≡ true
is_owned_at s v e = ap (is_just v.1) e ∙ eq-eqb v.1 v.1 refl

-- what a file gives up: `given` are runs of it that it hasn't any more, and all its other runs stay
pub record GivesUp (g : FileState) (now : Option FileState) (given : List ℕ) : Type 0 where
  pub gone : (p : ℕ) → In p given → (i : ℕ) × (finmap.get g.runs i ≡ Some p) × (run_in now i ≡ None)
  pub old : (i : ℕ) (v : ℕ × ℕ) → run_in now i ≡ Some v → run_in (Some g) i ≡ Some v
  pub stay : (i : ℕ) (v : ℕ × ℕ) → run_in (Some g) i ≡ Some v → (In v.0 given → ⊥) → run_in now i ≡ Some v

module _ (s : PoolState) (files : ℕ → Option FileState) (f : ℕ) (g : FileState) (is : files f ≡ Some g) (now : Option FileState) (given : List ℕ) (gives : GivesUp g now given)
    (each : OneEach (λ k i. run_in (files k) i) (owns s)) where
  abbrev files_now : ℕ → Option FileState
  files_now = set_at f now files

  -- a run that is given is the file's
  its_own : (k i : ℕ) (v : ℕ × ℕ) → run_in (files k) i ≡ Some v → In v.0 given → (j : ℕ) × (k ≡ f) × (i ≡ j) × (run_in now j ≡ None)
  its_own k i v e m =
      let w : (j : ℕ) × (finmap.get g.runs j ≡ Some v.0) × (run_in now j ≡ None) = gives.gone v.0 m in
      let here : run_in (files f) w.0 ≡ Some (v.0, g.order) = ap (λ u. run_in u w.0) is ∙ ap (option_map (λ p. (p, g.order))) w.1 in
      let mine : finmap.get s.owned v.0 ≡ Some g.order = owned_at s (v.0, g.order) (each.there f w.0 (v.0, g.order) here) in
      let its : finmap.get s.owned v.0 ≡ Some v.1 = owned_at s v (each.there k i v e) in
      let order : g.order ≡ v.1 = same_value g.order v.1 (sym mine ∙ its) in
      let both : (k ≡ f) × (i ≡ w.0) = each.once k f i w.0 v e (here ∙ ap (λ n. Some (v.0, n)) order) in
      (w.0, both.0, both.1, w.2)

  left : (k i : ℕ) (v : ℕ × ℕ) → (k ≡ f) ⊎ (k ≡ f → ⊥) → run_in (files_now k) i ≡ Some v → (run_in (files k) i ≡ Some v) × (In v.0 given → ⊥)
  left k i v (inl p) e =
      let seen : run_in now i ≡ Some v = ap (λ u. run_in u i) (sym (set_same f now files k p)) ∙ e in
      let old : run_in (files k) i ≡ Some v = ap (λ n. run_in (files n) i) p ∙ ap (λ u. run_in u i) is ∙ gives.old i v seen in
      (old, λ m. (let w = its_own k i v old m in not_some v (sym w.3 ∙ ap (run_in now) (sym w.2) ∙ seen)))
  left k i v (inr p) e =
      let old : run_in (files k) i ≡ Some v = ap (λ u. run_in u i) (sym (set_other f now files k p)) ∙ e in
      (old, λ m. p (its_own k i v old m).1)

  stays : (k i : ℕ) (v : ℕ × ℕ) → (k ≡ f) ⊎ (k ≡ f → ⊥) → run_in (files k) i ≡ Some v → (In v.0 given → ⊥) → run_in (files_now k) i ≡ Some v
  stays k i v (inl p) e out = ap (λ u. run_in u i) (set_same f now files k p) ∙ gives.stay i v (ap (λ u. run_in u i) (sym is) ∙ ap (λ n. run_in (files n) i) (sym p) ∙ e) out
  stays k i v (inr p) e out = ap (λ u. run_in u i) (set_other f now files k p) ∙ e

  pub given_each : OneEach (λ k i. run_in (files_now k) i) (owns (give_all s given))
  given_each =
      each_less (λ k i. run_in (files k) i) (λ k i. run_in (files_now k) i) (owns s) (owns (give_all s given)) each
      (λ k i v e. (let w = left k i v (cases_eq k f) e in (w.0, is_owned_at (give_all s given) v (disown_stays given s.owned v.0 v.1 (owned_at s v (each.there k i v w.0)) w.1))))
      (λ k i v e h. stays k i v (cases_eq k f) e (disown_stayed given s.owned v.0 v.1 (owned_at (give_all s given) v h)).1)
      (λ v h. is_owned_at s v (disown_stayed given s.owned v.0 v.1 (owned_at (give_all s given) v h)).0)
