-- The owners' rule by what the program keeps is the owners' rule by the lists of users and marked runs.
use Rattle.std.proofs.Common.{◌≡◌, ℕ, zero, suc, ◌+◌, ◌^◌, ◌≤◌, Bool, true, false, cond, List, [], ◌∷◌, ◌++◌, length, map, refl, sym, ap, ◌∙◌, append-nil, append_assoc, arith}
use Rattle.std.specs.Prelude.{not, ◌&&◌, ◌==◌, nat_le, nat_lt, nat_eq, filter}
use Rattle.std.proofs.lemmas.Bool.Decides.{nat_tests}
use Rattle.ho_base.specs.ShapeRule.{holds}
use Rattle.ho_base.specs.declared.shape.Area.{Area}
use Rattle.folio_bitmaps.specs.Runs.{Run}
use Rattle.record_frames.specs.Owners.{run_holds, same_runs}
use Rattle.record_frames.specs.Sheets.{numbers_of}
use Rattle.kho_records.specs.declared.chain.sheet.ChunkSheet.{ChunkSheet}
use Rattle.kho_records.specs.Chunks.{chunk_views}
use Rattle.kho_records.specs.declared.owners.owned.UsedRun.{UsedRun}
use Rattle.kho_records.specs.declared.owners.owner.Owner.{Owner}
use Rattle.kho_records.specs.declared.owners.owner.Owner.TheVariants.{Run as One, Unmarked}
use Rattle.kho_records.specs.Owned.{run_view}
use Rattle.kho_records.specs.Owner.{joined, owner_of, owner_at, with_range, with_user, with_area, with_chunk, with_each, is_right}

-- one run more
pub joined_one : (runs : List Run) (n : ℕ) (r : Run) → joined (owner_of runs n) (One r.first r.order) ≡ owner_of (runs ++ r ∷ []) n
joined_one [] zero r = refl
joined_one [] (suc zero) r = refl
joined_one [] (suc (suc n)) r = refl
joined_one (s ∷ []) zero r = refl
joined_one (s ∷ []) (suc n) r = refl
joined_one (s ∷ t ∷ runs) n r = refl

-- one user more that must not be marked
joined_unmarked : (runs : List Run) (n : ℕ) → joined (owner_of runs n) Unmarked ≡ owner_of runs (suc n)
joined_unmarked [] zero = refl
joined_unmarked [] (suc zero) = refl
joined_unmarked [] (suc (suc n)) = refl
joined_unmarked (s ∷ []) zero = refl
joined_unmarked (s ∷ []) (suc n) = refl
joined_unmarked (s ∷ t ∷ runs) n = refl

range_is : (first end : ℕ) (more : Owner) (p : ℕ) (now : Owner) → with_range first end more p now ≡ cond (nat_le first p && nat_lt p end) (joined now more) now
unfolding with_range
range_is first end more p now = refl

-- the runs that use a frame
users_kept : (us : List UsedRun) (p : ℕ) (runs : List Run) → with_each with_user us p (owner_of runs 0) ≡ owner_of (runs ++ filter (run_holds p) (map run_view us)) 0
users_kept [] p runs = ap (λ (rs : List Run). owner_of rs 0) (sym (append-nil runs))
users_kept (u ∷ us) p runs =
    let r = run_view u in
    let rest = filter (run_holds p) (map run_view us) in
    let step : (b : Bool) → with_each with_user us p (cond b (joined (owner_of runs 0) (One r.first r.order)) (owner_of runs 0)) ≡ owner_of (runs ++ cond b (r ∷ rest) rest) 0 =
    λ b. elim b as (λ b. with_each with_user us p (cond b (joined (owner_of runs 0) (One r.first r.order)) (owner_of runs 0)) ≡ owner_of (runs ++ cond b (r ∷ rest) rest) 0) [
      | true ↦
          ap (λ (o : Owner). with_each with_user us p o) (joined_one runs 0 r) ∙ users_kept us p (runs ++ r ∷ [])
          ∙ ap (λ (rs : List Run). owner_of rs 0) (append_assoc runs (r ∷ []) rest)
      | false ↦ users_kept us p runs
    ] in
    ap (λ (o : Owner). with_each with_user us p o) (range_is u.first.0 (u.first.0 + 2 ^ u.order) (One u.first.0 u.order) p (owner_of runs 0)) ∙ step (run_holds p r)

-- the scratch areas that hold it
areas_kept : (areas : List Area) (p : ℕ) (runs : List Run) (n : ℕ) → with_each with_area areas p (owner_of runs n) ≡ owner_of runs (n + length (filter (holds p) areas))
areas_kept [] p runs n = ap (owner_of runs) (omega arith)
areas_kept (a ∷ areas) p runs n =
    let rest = filter (holds p) areas in
    let step : (b : Bool) → with_each with_area areas p (cond b (joined (owner_of runs n) Unmarked) (owner_of runs n)) ≡ owner_of runs (n + length (cond b (a ∷ rest) rest)) =
    λ b. elim b as (λ b. with_each with_area areas p (cond b (joined (owner_of runs n) Unmarked) (owner_of runs n)) ≡ owner_of runs (n + length (cond b (a ∷ rest) rest))) [
      | true ↦ ap (λ (o : Owner). with_each with_area areas p o) (joined_unmarked runs n) ∙ areas_kept areas p runs (suc n) ∙ ap (owner_of runs) (omega arith)
      | false ↦ areas_kept areas p runs n
    ] in
    ap (λ (o : Owner). with_each with_area areas p o) (range_is a.first.0 (a.first.0 + a.count) Unmarked p (owner_of runs n)) ∙ step (holds p a)

-- the chunk frames that it is
chunks_kept : (chunks : List ChunkSheet) (p : ℕ) (runs : List Run) (n : ℕ)
    → with_each with_chunk chunks p (owner_of runs n) ≡ owner_of runs (n + length (filter (nat_eq p) (numbers_of (chunk_views chunks))))
chunks_kept [] p runs n = ap (owner_of runs) (omega arith)
chunks_kept (c ∷ chunks) p runs n =
    let rest = filter (nat_eq p) (numbers_of (chunk_views chunks)) in
    let step : (b : Bool) → with_each with_chunk chunks p (cond b (joined (owner_of runs n) Unmarked) (owner_of runs n)) ≡ owner_of runs (n + length (cond b (c.at ∷ rest) rest)) =
    λ b. elim b as (λ b. with_each with_chunk chunks p (cond b (joined (owner_of runs n) Unmarked) (owner_of runs n)) ≡ owner_of runs (n + length (cond b (c.at ∷ rest) rest))) [
      | true ↦ ap (λ (o : Owner). with_each with_chunk chunks p o) (joined_unmarked runs n) ∙ chunks_kept chunks p runs (suc n) ∙ ap (owner_of runs) (omega arith)
      | false ↦ chunks_kept chunks p runs n
    ] in
    step (nat_eq p c.at)

-- what the table says of a frame
pub owner_is : (us : List UsedRun) (areas : List Area) (chunks : List ChunkSheet) (p : ℕ)
    → owner_at us areas chunks p
    ≡ owner_of (filter (run_holds p) (map run_view us)) (length (filter (holds p) areas) + length (filter (nat_eq p) (numbers_of (chunk_views chunks))))
unfolding owner_at
owner_is us areas chunks p =
    let runs = filter (run_holds p) (map run_view us) in
    ap (λ (o : Owner). with_each with_chunk chunks p (with_each with_area areas p o)) (users_kept us p [])
    ∙ ap (λ (o : Owner). with_each with_chunk chunks p o) (areas_kept areas p runs 0) ∙ chunks_kept chunks p runs (0 + length (filter (holds p) areas))
    ∙ ap (owner_of runs) (omega arith)

and_false : (b : Bool) → (b && false) ≡ false
and_false true = refl
and_false false = refl

too_many : (k : ℕ) (b c : Bool) → 2 ≤ k → (nat_le k (cond b 0 1) && c) ≡ false
too_many k true c h = let no : nat_le k 0 ≡ false = grind (arith, nat_tests) in ap (λ (t : Bool). t && c) no
too_many k false c h = let no : nat_le k 1 ≡ false = grind (arith, nat_tests) in ap (λ (t : Bool). t && c) no

no_user : (b : Bool) → (nat_le 0 (cond b 0 1) && true) ≡ true
no_user true = refl
no_user false = refl

one_unmarked : (b : Bool) → (nat_le 1 (cond b 0 1) && true) ≡ not b
one_unmarked true = refl
one_unmarked false = refl

one_run : (b x y : Bool) → (nat_le 1 (cond b 0 1) && (x && y && true)) ≡ (not b && x && y)
one_run true x y = refl
one_run false true true = refl
one_run false true false = refl
one_run false false y = refl

-- the rule by what the program keeps of both lists
pub rule_is : (p : ℕ) (runs : List Run) (n : ℕ) (marks : List Run)
    → (nat_le (length runs + n) (cond (p == 0) 0 1) && same_runs marks runs) ≡ is_right p (owner_of runs n) (owner_of marks 0)
rule_is p [] zero [] = no_user (p == 0)
rule_is p [] zero (m ∷ []) = and_false _
rule_is p [] zero (m ∷ l ∷ marks) = and_false _
rule_is p [] (suc zero) [] = one_unmarked (p == 0)
rule_is p [] (suc zero) (m ∷ []) = and_false _
rule_is p [] (suc zero) (m ∷ l ∷ marks) = and_false _
rule_is p [] (suc (suc n)) marks = too_many _ (p == 0) _ (omega arith)
rule_is p (r ∷ []) zero [] = and_false _
rule_is p (r ∷ []) zero (m ∷ []) = one_run (p == 0) (m.first == r.first) (m.order == r.order)
rule_is p (r ∷ []) zero (m ∷ l ∷ marks) =
    ap (λ (b : Bool). nat_le 1 (cond (p == 0) 0 1) && b) (and_false (m.first == r.first && m.order == r.order)) ∙ and_false _
rule_is p (r ∷ []) (suc n) marks = too_many _ (p == 0) _ (omega arith)
rule_is p (r ∷ s ∷ runs) n marks = too_many _ (p == 0) _ (omega arith)
