-- A frame that has a user is in no scratch area.
use Rattle.std.proofs.Common.{◌≡◌, ℕ, zero, suc, ◌+◌, ◌≤◌, ◌<◌, Bool, true, false, cond, eqb, List, [], ◌∷◌, length, refl, sym, ap, ◌∙◌, arith, inl, inr}
use Rattle.std.specs.Prelude.{nat_le, nat_eq, ◌||◌}
use Rattle.std.specs.List.{filter, list_all, list_any, range_with_len}
use Rattle.std.proofs.lemmas.Bool.{leb-true, and_parts, cases_lt}
use Rattle.ho_base.specs.ShapeRule.{holds, in_scratch}
use Rattle.record_frames.specs.Sheets.{numbers_of}
use Rattle.record_frames.specs.Kept.{Kept}
use Rattle.record_frames.specs.Owners.{users, run_holds, users_at, unmarked_at, marked_at, same_runs, is_owned_well}

-- what a test holds of in all numbers of a range
pub all_at : (P : ℕ → Bool) (p start len : ℕ) → list_all P (range_with_len start len) ≡ true → start ≤ p → p < start + len → P p ≡ true
all_at P p start zero h lo hi = absurd (omega (arith, lo, hi))
all_at P p start (suc len) h lo hi =
    let hs = and_parts (P start) (list_all P (range_with_len (start + 1) len)) h in
    elim (cases_lt start p) [
      | inl lt ↦ all_at P p (start + 1) len hs.1 (omega (arith, lt)) (omega (arith, hi))
      | inr ge ↦ (let same : start ≡ p = omega (arith, lo, ge) in ap P (sym same) ∙ hs.0)
    ]

-- what is there is counted, and where nothing is counted nothing is there
pub some_counted : {A : Type 0} (P : A → Bool) (xs : List A) → list_any P xs ≡ true → 0 < length (filter P xs)
some_counted P [] h = absurd cc
some_counted P (x ∷ xs) h = at_test (P x) refl (λ g. some_counted P xs g)
  where
    at_test : (b : Bool) → P x ≡ b → (list_any P xs ≡ true → 0 < length (filter P xs)) → 0 < length (filter P (x ∷ xs))
    at_test true e more =
        let one : length (filter P (x ∷ xs)) ≡ suc (length (filter P xs)) = ap (λ (b : Bool). length (cond b (x ∷ filter P xs) (filter P xs))) e in
        omega (arith, one)
    at_test false e more =
        let skip : length (filter P (x ∷ xs)) ≡ length (filter P xs) = ap (λ (b : Bool). length (cond b (x ∷ filter P xs) (filter P xs))) e in
        let rest : list_any P xs ≡ true = ap (λ (b : Bool). b || list_any P xs) (sym e) ∙ h in
        let some = more rest in
        omega (arith, skip, some)

pub none_there : {A : Type 0} (P : A → Bool) (xs : List A) → length (filter P xs) ≡ 0 → list_any P xs ≡ false
none_there P xs h = at_test (list_any P xs) refl
  where
    at_test : (b : Bool) → list_any P xs ≡ b → b ≡ false
    at_test true e = let some = some_counted P xs e in absurd (omega (arith, some, h))
    at_test false e = refl

-- at most one user
pub few : (k : Kept) (p : ℕ) → is_owned_well k p ≡ true → length (users_at k p) + unmarked_at k p ≤ 1
few k p h =
    let a = and_parts (nat_le (length (users_at k p) + unmarked_at k p) (cond (eqb p 0) 0 1)) (same_runs (marked_at k p) (users_at k p)) h in
    at_test (eqb p 0) a.0
  where
    at_test : (b : Bool) → nat_le (length (users_at k p) + unmarked_at k p) (cond b 0 1) ≡ true → length (users_at k p) + unmarked_at k p ≤ 1
    at_test true e = let le = leb-true (length (users_at k p) + unmarked_at k p) 0 e in omega (arith, le)
    at_test false e = leb-true (length (users_at k p) + unmarked_at k p) 1 e

-- a frame that has to be marked
pub user_off : (k : Kept) (p : ℕ) → is_owned_well k p ≡ true → list_any (run_holds p) (users k) ≡ true → in_scratch k.shape.scratch p ≡ false
user_off k p h user =
    let one = few k p h in
    let some = some_counted (run_holds p) (users k) user in
    none_there (holds p) k.shape.scratch (omega (arith, one, some))

-- a chunk frame
pub chunk_off : (k : Kept) (p : ℕ) → is_owned_well k p ≡ true → list_any (nat_eq p) (numbers_of k.chain) ≡ true → in_scratch k.shape.scratch p ≡ false
chunk_off k p h chunk =
    let one = few k p h in
    let some = some_counted (nat_eq p) (numbers_of k.chain) chunk in
    none_there (holds p) k.shape.scratch (omega (arith, one, some))
