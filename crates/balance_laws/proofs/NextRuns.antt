-- Runs of carried files, as the next kernel owns them.
use Rattle.std.proofs.Common.{◌≡◌, ◌⊎◌, inl, inr, ℕ, zero, suc, true, List, [], ◌∷◌, refl, sym, ap, subst, ◌∙◌}
use Rattle.std.specs.Prelude.{Some, is_some, slice_get}
use Rattle.std.specs.Ordering.{nat_cmp}
use Rattle.std.specs.FinMap as finmap
use Rattle.std.specs.List.{AllByRecursion}
use Rattle.std.proofs.lemmas.Bool.{cases_eq}
use Rattle.ho_events.specs.Pool.{own}
use Rattle.ho_world.specs.Frozen.{CarriedFile, own_files}
use Rattle.balance_laws.specs.Carrying.{In, Distinct, NoneShared}
use Rattle.balance_laws.proofs.Base.{same_value, not_some}
use Rattle.balance_laws.proofs.Maps.{put_at, put_off}

abbrev Owned : Type 0
Owned = finmap.FinMap nat_cmp ℕ

-- ---- runs that are owned

own_from : (o : ℕ) (ps : List ℕ) (m : Owned) (p n : ℕ) → finmap.get (own o ps m) p ≡ Some n → (finmap.get m p ≡ Some n) ⊎ (In p ps × (n ≡ o))
own_from o [] m p n e = inl e
own_from o (q ∷ ps) m p n e = at_rest (own_from o ps (finmap.insert m q o) p n e) (cases_eq p q)
  where
    at_rest : (finmap.get (finmap.insert m q o) p ≡ Some n) ⊎ (In p ps × (n ≡ o)) → (p ≡ q) ⊎ (p ≡ q → ⊥) → (finmap.get m p ≡ Some n) ⊎ (In p (q ∷ ps) × (n ≡ o))
    at_rest (inr h) s = inr (inr h.0, h.1)
    at_rest (inl h) (inl s) = inr (inl s, sym (same_value o n (sym (put_at m q o p s) ∙ h)))
    at_rest (inl h) (inr s) = inl (sym (put_off m q o p s) ∙ h)

-- a run is of one of the files
pub record IsOf (cs : List CarriedFile) (p n : ℕ) : Type 0 where
  pub number : ℕ
  pub file : CarriedFile
  pub is : slice_get cs number ≡ Some file
  pub has : In p file.runs
  pub order : n ≡ file.order

pub files_from : (cs : List CarriedFile) (m : Owned) (p n : ℕ) → finmap.get (own_files cs m) p ≡ Some n → (finmap.get m p ≡ Some n) ⊎ IsOf cs p n
files_from [] m p n e = inl e
files_from (c ∷ cs) m p n e = at_rest (files_from cs (own c.order c.runs m) p n e)
  where
    at_first : (finmap.get m p ≡ Some n) ⊎ (In p c.runs × (n ≡ c.order)) → (finmap.get m p ≡ Some n) ⊎ IsOf (c ∷ cs) p n
    at_first (inl h) = inl h
    at_first (inr h) = inr (record { number = 0; file = c; is = refl; has = h.0; order = h.1 })

    at_rest : (finmap.get (own c.order c.runs m) p ≡ Some n) ⊎ IsOf cs p n → (finmap.get m p ≡ Some n) ⊎ IsOf (c ∷ cs) p n
    at_rest (inr k) = inr (record { number = suc k.number; file = k.file; is = k.is; has = k.has; order = k.order })
    at_rest (inl h) = at_first (own_from c.order c.runs m p n h)

some_put : (m : Owned) (q o p : ℕ) → is_some (finmap.get m p) ≡ true → is_some (finmap.get (finmap.insert m q o) p) ≡ true
some_put m q o p h = by_case (cases_eq p q)
  where
    by_case : (p ≡ q) ⊎ (p ≡ q → ⊥) → is_some (finmap.get (finmap.insert m q o) p) ≡ true
    by_case (inl s) = ap is_some (put_at m q o p s)
    by_case (inr s) = ap is_some (put_off m q o p s) ∙ h

some_own : (o : ℕ) (ps : List ℕ) (m : Owned) (p : ℕ) → is_some (finmap.get m p) ≡ true → is_some (finmap.get (own o ps m) p) ≡ true
some_own o [] m p h = h
some_own o (q ∷ ps) m p h = some_own o ps (finmap.insert m q o) p (some_put m q o p h)

own_has : (o : ℕ) (ps : List ℕ) (m : Owned) (p : ℕ) → In p ps → is_some (finmap.get (own o ps m) p) ≡ true
own_has o [] m p i = absurd i
own_has o (q ∷ ps) m p (inl s) = some_own o ps (finmap.insert m q o) p (ap is_some (put_at m q o p s))
own_has o (q ∷ ps) m p (inr i) = own_has o ps (finmap.insert m q o) p i

some_files : (cs : List CarriedFile) (m : Owned) (p : ℕ) → is_some (finmap.get m p) ≡ true → is_some (finmap.get (own_files cs m) p) ≡ true
some_files [] m p h = h
some_files (c ∷ cs) m p h = some_files cs (own c.order c.runs m) p (some_own c.order c.runs m p h)

pub files_has : (cs : List CarriedFile) (m : Owned) (i : ℕ) (c : CarriedFile) (p : ℕ) → slice_get cs i ≡ Some c → In p c.runs → is_some (finmap.get (own_files cs m) p) ≡ true
files_has [] m i c p e h = absurd (not_some c e)
files_has (d ∷ cs) m zero c p e h = some_files cs (own d.order d.runs m) p (own_has d.order d.runs m p (subst (λ (x : CarriedFile). In p x.runs) (sym (same_value d c e)) h))
files_has (d ∷ cs) m (suc i) c p e h = files_has cs (own d.order d.runs m) i c p e h

-- what is known of all, of one at its place
pub all_at : {A : Type 0} (P : A → Type 0) (xs : List A) (i : ℕ) (x : A) → AllByRecursion P xs → slice_get xs i ≡ Some x → P x
all_at P [] i x all e = absurd (not_some x e)
all_at P (y ∷ xs) zero x all e = subst P (same_value y x e) all.0
all_at P (y ∷ xs) (suc i) x all e = all_at P xs i x all.1 e

pub all_in : (P : ℕ → Type 0) (xs : List ℕ) (p : ℕ) → AllByRecursion P xs → In p xs → P p
all_in P [] p all i = absurd i
all_in P (x ∷ xs) p all (inl s) = subst P (sym s) all.0
all_in P (x ∷ xs) p all (inr i) = all_in P xs p all.1 i

pub in_at : (xs : List ℕ) (i p : ℕ) → slice_get xs i ≡ Some p → In p xs
in_at [] i p e = absurd (not_some p e)
in_at (x ∷ xs) zero p e = inl (sym (same_value x p e))
in_at (x ∷ xs) (suc i) p e = inr (in_at xs i p e)

pub at_in : (xs : List ℕ) (p : ℕ) → In p xs → (i : ℕ) × (slice_get xs i ≡ Some p)
at_in [] p i = absurd i
at_in (x ∷ xs) p (inl s) = (0, ap Some (sym s))
at_in (x ∷ xs) p (inr i) = let m = at_in xs p i in (suc m.0, m.1)

-- no run stands at two places
pub once_in : (xs : List ℕ) (i j p : ℕ) → Distinct xs → slice_get xs i ≡ Some p → slice_get xs j ≡ Some p → i ≡ j
once_in [] i j p d e g = absurd (not_some p e)
once_in (x ∷ xs) zero zero p d e g = refl
once_in (x ∷ xs) zero (suc j) p d e g = absurd (all_in (λ y. y ≡ x → ⊥) xs p d.0 (in_at xs j p g) (sym (same_value x p e)))
once_in (x ∷ xs) (suc i) zero p d e g = absurd (all_in (λ y. y ≡ x → ⊥) xs p d.0 (in_at xs i p e) (sym (same_value x p g)))
once_in (x ∷ xs) (suc i) (suc j) p d e g = ap suc (once_in xs i j p d.1 e g)

pub own_once : (cs : List CarriedFile) (i : ℕ) (c : CarriedFile) → NoneShared cs → slice_get cs i ≡ Some c → Distinct c.runs
own_once [] i c n e = absurd (not_some c e)
own_once (d ∷ cs) zero c n e = subst (λ (x : CarriedFile). Distinct x.runs) (same_value d c e) n.0
own_once (d ∷ cs) (suc i) c n e = own_once cs i c n.2 e

pub one_file_of : (cs : List CarriedFile) (i j : ℕ) (c d : CarriedFile) (p : ℕ) → NoneShared cs → slice_get cs i ≡ Some c → slice_get cs j ≡ Some d → In p c.runs → In p d.runs → i ≡ j
one_file_of [] i j c d p n e g ic id = absurd (not_some c e)
one_file_of (x ∷ cs) zero zero c d p n e g ic id = refl
one_file_of (x ∷ cs) zero (suc j) c d p n e g ic id =
    absurd (all_at (λ (y : CarriedFile). (q : ℕ) → In q x.runs → In q y.runs → ⊥) cs j d n.1 g p (subst (λ (y : CarriedFile). In p y.runs) (sym (same_value x c e)) ic) id)
one_file_of (x ∷ cs) (suc i) zero c d p n e g ic id =
    absurd (all_at (λ (y : CarriedFile). (q : ℕ) → In q x.runs → In q y.runs → ⊥) cs i c n.1 e p (subst (λ (y : CarriedFile). In p y.runs) (sym (same_value x d g)) id) ic)
one_file_of (x ∷ cs) (suc i) (suc j) c d p n e g ic id = ap suc (one_file_of cs i j c d p n.2 e g ic id)
