-- Runs that a pool takes for the holes of a file: owned runs fit, and each is of one file at one index.
use Rattle.std.proofs.Common.{◌≡◌, ◌⊎◌, inl, inr, ℕ, ◌+◌, ◌-◌, ◌%◌, ◌^◌, ◌<◌, ◌≤◌, true, false, not, ◌&&◌, List, [], ◌∷◌, length, refl, sym, ap, subst, ◌∙◌, arith}
use Rattle.std.specs.Prelude.{Option, None, Some, ◌==◌, nat_lt, option_map}
use Rattle.std.specs.Ordering.{nat_cmp}
use Rattle.std.specs.FinMap as finmap
use Rattle.std.specs.List.{list_all, AllByRecursion}
use Rattle.std.proofs.lemmas.Bool.{and_parts, cases_eq, eqb-true, eq-eqb, ne_eqb, ltb-true, not-true}
use Rattle.std.proofs.lemmas.Nat.{pow_pos}
use Rattle.ho_base.specs.ShapeRule.{in_scratch}
use Rattle.ho_base.specs.declared.limits.TheConstants.{MAX_ORDER}
use Rattle.ho_events.specs.File.{FileState, filled}
use Rattle.ho_events.specs.Lists.{is_just}
use Rattle.ho_events.specs.Pool.{PoolState, run_start, is_owned, is_free, frames_of, is_free_run, own}
use Rattle.balance_laws.specs.OneEach.{OneEach}
use Rattle.balance_laws.specs.Sound.{IsUsable, RunFits, RunsFit, owns, run_in}
use Rattle.balance_laws.proofs.Acts.{set_at, set_same, set_other}
use Rattle.balance_laws.proofs.Base.{same_value, clash}
use Rattle.balance_laws.proofs.Each.{each_same, each_more}
use Rattle.balance_laws.proofs.Maps.{put_at, put_off}
use Rattle.balance_laws.proofs.Numbers.{share_start, start_of, all_upto, any_upto, Others, Distinct}

-- a run that fits and shares no frame with an owned one
pub record RunFree (s : PoolState) (o p : ℕ) : Type 0 where
  pub fits : RunFits s.shape p o
  pub apart : (q n i j : ℕ) → finmap.get s.owned q ≡ Some n → i < 2 ^ o → j < 2 ^ n → p + i ≡ q + j → ⊥

-- the pool's test says so
pub free_is : (s : PoolState) (o p : ℕ) → RunsFit s → o ≤ MAX_ORDER → is_free_run s o p ≡ true → RunFree s o p
free_is s o p fit le h = record {
  fits = record {
    order = le;
    aligned = eqb-true (p % 2 ^ o) 0 hs.0;
    usable = λ i less. usable (p + i) (each i less);
  };
  apart = λ q n i j e li lj same. clash (sym (owned q n i j e lj same) ∙ none (p + i) (each i li));
}
  where
    hs : ((p % 2 ^ o == 0) ≡ true) × (list_all (is_free s) (frames_of o p) ≡ true)
    hs = and_parts (p % 2 ^ o == 0) (list_all (is_free s) (frames_of o p)) h

    each : (i : ℕ) → i < 2 ^ o → is_free s (p + i) ≡ true
    each = all_upto (is_free s) (λ i. p + i) (2 ^ o) hs.1

    usable : (q : ℕ) → is_free s q ≡ true → IsUsable s.shape q
    usable q f =
        let a = and_parts (nat_lt 0 q && nat_lt q s.shape.frames && not (in_scratch s.shape.scratch q)) (not (is_owned s q)) f in
        let b = and_parts (nat_lt 0 q && nat_lt q s.shape.frames) (not (in_scratch s.shape.scratch q)) a.0 in
        let c = and_parts (nat_lt 0 q) (nat_lt q s.shape.frames) b.0 in
        record { some = ltb-true 0 q c.0; within = ltb-true q s.shape.frames c.1; off = not-true (in_scratch s.shape.scratch q) b.1 }

    none : (q : ℕ) → is_free s q ≡ true → is_owned s q ≡ false
    none q f = not-true (is_owned s q) (and_parts (nat_lt 0 q && nat_lt q s.shape.frames && not (in_scratch s.shape.scratch q)) (not (is_owned s q)) f).1

    owned : (q n i j : ℕ) → finmap.get s.owned q ≡ Some n → j < 2 ^ n → p + i ≡ q + j → is_owned s (p + i) ≡ true
    owned q n i j e lj same =
        let fits : RunFits s.shape q n = fit.each q n e in
        let low : n ≤ 9 = fits.order in
        let begins : run_start n (p + i) ≡ q = ap (λ r. r - r % 2 ^ n) same ∙ start_of (2 ^ n) q j fits.aligned lj in
        any_upto (λ n. is_just n (finmap.get s.owned (run_start n (p + i)))) 10 n (omega (arith, low))
        (ap (λ r. is_just n (finmap.get s.owned r)) begins ∙ ap (is_just n) e ∙ eq-eqb n n refl)

-- the pool that owns one run more
abbrev pub own_one : PoolState → ℕ → ℕ → PoolState
own_one s o p = record s { owned = finmap.insert s.owned p o }

module _ (s : PoolState) (o p : ℕ) (free : RunFree s o p) where
  pub not_owned : finmap.get s.owned p ≡ None
  not_owned = by_case (finmap.get s.owned p) refl
    where
      by_case : (v : Option ℕ) → finmap.get s.owned p ≡ v → finmap.get s.owned p ≡ None
      by_case None e = e
      by_case (Some n) e = absurd (free.apart p n 0 0 e (pow_pos o) (pow_pos n) refl)

  pub one_fits : RunsFit s → RunsFit (own_one s o p)
  one_fits fit = record {
    each = λ q n e. each q n (cases_eq q p) e;
    apart = λ q n r m i j e g li lj same. apart q n r m i j (cases_eq q p) (cases_eq r p) e g li lj same;
  }
    where
      each : (q n : ℕ) → (q ≡ p) ⊎ (q ≡ p → ⊥) → finmap.get (finmap.insert s.owned p o) q ≡ Some n → RunFits s.shape q n
      each q n (inl h) e =
          let same : o ≡ n = same_value o n (sym (put_at s.owned p o q h) ∙ e) in
          subst (λ r. RunFits s.shape r n) (sym h) (subst (λ m. RunFits s.shape p m) same free.fits)
      each q n (inr h) e = fit.each q n (sym (put_off s.owned p o q h) ∙ e)

      apart : (q n r m i j : ℕ) → (q ≡ p) ⊎ (q ≡ p → ⊥) → (r ≡ p) ⊎ (r ≡ p → ⊥) → finmap.get (finmap.insert s.owned p o) q ≡ Some n → finmap.get (finmap.insert s.owned p o) r ≡ Some m
          → i < 2 ^ n → j < 2 ^ m → q + i ≡ r + j → q ≡ r
      apart q n r m i j (inl h) (inl k) e g li lj same = h ∙ sym k
      apart q n r m i j (inl h) (inr k) e g li lj same =
          let order : o ≡ n = same_value o n (sym (put_at s.owned p o q h) ∙ e) in
          absurd (free.apart r m i j (sym (put_off s.owned p o r k) ∙ g) (subst (λ x. i < 2 ^ x) (sym order) li) lj (ap (λ x. x + i) (sym h) ∙ same))
      apart q n r m i j (inr h) (inl k) e g li lj same =
          let order : o ≡ m = same_value o m (sym (put_at s.owned p o r k) ∙ g) in
          absurd (free.apart q n j i (sym (put_off s.owned p o q h) ∙ e) (subst (λ x. j < 2 ^ x) (sym order) lj) li (ap (λ x. x + j) (sym k) ∙ sym same))
      apart q n r m i j (inr h) (inr k) e g li lj same = fit.apart q n r m i j (sym (put_off s.owned p o q h) ∙ e) (sym (put_off s.owned p o r k) ∙ g) li lj same

  -- another free run of this order is still free
  pub still_free : (q : ℕ) → RunFree s o q → (q ≡ p → ⊥) → RunFree (own_one s o p) o q
  still_free q other ne = record {
    fits = other.fits;
    apart = λ r n i j e li lj same. apart r n i j (cases_eq r p) e li lj same;
  }
    where
      apart : (r n i j : ℕ) → (r ≡ p) ⊎ (r ≡ p → ⊥) → finmap.get (finmap.insert s.owned p o) r ≡ Some n → i < 2 ^ o → j < 2 ^ n → q + i ≡ r + j → ⊥
      apart r n i j (inl h) e li lj same =
          let order : o ≡ n = same_value o n (sym (put_at s.owned p o r h) ∙ e) in
          ne (share_start (2 ^ o) q p i j other.fits.aligned free.fits.aligned li (subst (λ x. j < 2 ^ x) (sym order) lj) (same ∙ ap (λ x. x + j) h))
      apart r n i j (inr h) e li lj same = other.apart r n i j (sym (put_off s.owned p o r h) ∙ e) li lj same

  -- the run goes to a file at an index where it has none
  module _ (files : ℕ → Option FileState) (f : ℕ) (g : FileState) (is : files f ≡ Some g) (order : g.order ≡ o) (i : ℕ) (hole : finmap.get g.runs i ≡ None) where
    abbrev more : FileState
    more = record g { runs = finmap.insert g.runs i p }

    abbrev with_more : ℕ → Option FileState
    with_more = set_at f (Some more) files

    place : (k l : ℕ) → (k ≡ f) ⊎ (k ≡ f → ⊥) → (l ≡ i) ⊎ (l ≡ i → ⊥) → ((k ≡ f) × (l ≡ i)) ⊎ (run_in (with_more k) l ≡ run_in (files k) l)
    place k l (inl h) (inl e) = inl (h, e)
    place k l (inl h) (inr e) =
        inr (ap (λ v. run_in v l) (set_same f (Some more) files k h) ∙ ap (option_map (λ q. (q, g.order))) (put_off g.runs i p l e) ∙ ap (λ v. run_in v l) (sym is) ∙ ap (λ n. run_in (files n) l) (sym h))
    place k l (inr h) e = inr (ap (λ v. run_in v l) (set_other f (Some more) files k h))

    values : (v : ℕ × ℕ) → (v.0 ≡ p) ⊎ (v.0 ≡ p → ⊥) → (v.1 ≡ o) ⊎ (v.1 ≡ o → ⊥) → (v ≡ (p, o)) ⊎ (owns (own_one s o p) v ≡ owns s v)
    values v (inl h) (inl e) = inl (λ j. (h j, e j))
    values v (inl h) (inr e) =
        inr (ap (is_just v.1) (put_at s.owned p o v.0 h) ∙ ne_eqb o v.1 (λ same. e (sym same)) ∙ ap (is_just v.1) (sym (ap (finmap.get s.owned) h ∙ not_owned)))
    values v (inr h) e = inr (ap (is_just v.1) (put_off s.owned p o v.0 h))

    pub one_each : OneEach (λ k l. run_in (files k) l) (owns s) → OneEach (λ k l. run_in (with_more k) l) (owns (own_one s o p))
    one_each each =
        each_more (λ k l. run_in (files k) l) (λ k l. run_in (with_more k) l) (owns s) (owns (own_one s o p)) each f i (p, o)
        (ap (λ v. run_in v i) is ∙ ap (option_map (λ q. (q, g.order))) hole)
        (ap (λ v. run_in v i) (set_same f (Some more) files f refl) ∙ ap (option_map (λ q. (q, g.order))) (put_at g.runs i p i refl) ∙ ap (λ n. Some (p, n)) order)
        (λ k l. place k l (cases_eq k f) (cases_eq l i))
        (ap (is_just o) (put_at s.owned p o p refl) ∙ eq-eqb o o refl)
        (ap (is_just o) not_owned)
        (λ v. values v (cases_eq v.0 p) (cases_eq v.1 o))

-- ---- several runs

-- each of the places has no run
abbrev pub Holes : finmap.FinMap nat_cmp ℕ → List ℕ → Type 0
Holes runs places = AllByRecursion (λ i. finmap.get runs i ≡ None) places

abbrev pub AllFree : PoolState → ℕ → List ℕ → Type 0
AllFree s o ps = AllByRecursion (λ p. RunFree s o p) ps

holes_left : (runs : finmap.FinMap nat_cmp ℕ) (i p : ℕ) (places : List ℕ) → Others i places → Holes runs places → Holes (finmap.insert runs i p) places
holes_left runs i p [] others holes = tt
holes_left runs i p (k ∷ places) others holes = (put_off runs i p k others.0 ∙ holes.0, holes_left runs i p places others.1 holes.1)

frees_left : (s : PoolState) (o p : ℕ) → RunFree s o p → (ps : List ℕ) → Others p ps → AllFree s o ps → AllFree (own_one s o p) o ps
frees_left s o p free [] others all = tt
frees_left s o p free (q ∷ ps) others all = (still_free s o p free q all.0 others.0, frees_left s o p free ps others.1 all.1)

-- a pool and files that have these runs too
abbrev pub own_all : PoolState → ℕ → List ℕ → PoolState
own_all s o ps = record s { owned = own o ps s.owned }

pub record Filled (s : PoolState) (files : ℕ → Option FileState) (f : ℕ) (g : FileState) (places ps : List ℕ) : Type 0 where
  pub runs : RunsFit (own_all s g.order ps)
  pub owned : OneEach (λ k l. run_in (set_at f (Some (record g { runs = filled places ps g.runs })) files k) l) (owns (own_all s g.order ps))

set_self : {T : Type 0} (k : ℕ) (v : T) (f : ℕ → T) → f k ≡ v → (n : ℕ) → set_at k v f n ≡ f n
set_self k v f e n = by_case (cases_eq n k)
  where
    by_case : (n ≡ k) ⊎ (n ≡ k → ⊥) → set_at k v f n ≡ f n
    by_case (inl h) = set_same k v f n h ∙ sym e ∙ ap f (sym h)
    by_case (inr h) = set_other k v f n h

set_twice : {T : Type 0} (k : ℕ) (u v : T) (f : ℕ → T) (n : ℕ) → set_at k v f n ≡ set_at k v (set_at k u f) n
set_twice k u v f n = by_case (cases_eq n k)
  where
    by_case : (n ≡ k) ⊎ (n ≡ k → ⊥) → set_at k v f n ≡ set_at k v (set_at k u f) n
    by_case (inl h) = set_same k v f n h ∙ sym (set_same k v (set_at k u f) n h)
    by_case (inr h) = set_other k v f n h ∙ sym (set_other k v (set_at k u f) n h ∙ set_other k u f n h)

pub fill_all : (places ps : List ℕ) (s : PoolState) (files : ℕ → Option FileState) (f : ℕ) (g : FileState) → files f ≡ Some g → length ps ≡ length places → Distinct places → Holes g.runs places
    → Distinct ps → AllFree s g.order ps → RunsFit s → OneEach (λ k l. run_in (files k) l) (owns s) → Filled s files f g places ps
fill_all [] [] s files f g is same dp holes dr free fit each = record {
  runs = fit;
  owned = each_same _ _ _ _ each (λ k l. ap (λ v. run_in v l) (set_self f (Some g) files is k)) (λ v. refl);
}
fill_all [] (p ∷ ps) s files f g is same dp holes dr free fit each = absurd (omega (arith, same))
fill_all (i ∷ places) [] s files f g is same dp holes dr free fit each = absurd (omega (arith, same))
fill_all (i ∷ places) (p ∷ ps) s files f g is same dp holes dr free fit each =
    let rest : Filled (own_one s g.order p) (set_at f (Some (record g { runs = finmap.insert g.runs i p })) files) f (record g { runs = finmap.insert g.runs i p }) places ps =
    fill_all places ps (own_one s g.order p) (set_at f (Some (record g { runs = finmap.insert g.runs i p })) files) f (record g { runs = finmap.insert g.runs i p })
    (set_same f (Some (record g { runs = finmap.insert g.runs i p })) files f refl) (omega (arith, same)) dp.1 (holes_left g.runs i p places dp.0 holes.1)
    dr.1 (frees_left s g.order p free.0 ps dr.0 free.1) (one_fits s g.order p free.0 fit) (one_each s g.order p free.0 files f g is refl i holes.0 each) in
    record {
      runs = rest.runs;
      owned = each_same _ _ _ _ rest.owned (λ k l. ap (λ v. run_in v l) (set_twice f (Some (record g { runs = finmap.insert g.runs i p })) (Some (record g { runs = filled places ps (finmap.insert g.runs i p) })) files k)) (λ v. refl);
    }
