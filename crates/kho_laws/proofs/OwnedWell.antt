-- Where just the runs that have to be marked are, every frame keeps the owners' rule.
use Rattle.std.proofs.Common.{◌≡◌, ℕ, zero, suc, ◌+◌, ◌-◌, ◌*◌, ◌/◌, ◌%◌, ◌^◌, ◌≤◌, ◌<◌, Bool, true, false, cond, eqb, List, [], ◌∷◌, length, map, refl, sym, ap, ◌∙◌, arith, inl, inr}
use Rattle.std.specs.Prelude.{nat_lt, nat_le, nat_eq, ◌&&◌, ◌||◌}
use Rattle.std.specs.List.{filter, list_all, range_with_len}
use Rattle.std.proofs.lemmas.Bool.{leb-true, eqb-true, eqb-false, lt-ltb, le-leb, le-ltb, lt-leb, eq-eqb, ne_eqb, cases_lt, and_parts, and_from, and_left, and_right}
use Rattle.std.proofs.lemmas.List.{length-append}
use Rattle.std.proofs.lemmas.List.Elements.{filter-append}
use Rattle.std.proofs.lemmas.List.Folds.{list_all-append}
use Rattle.std.proofs.lemmas.Nat.{pow_pos, mod-mul-add, div-add-mod'}
use Rattle.std.proofs.Math.Nat.{mod-lt, mod-le}
use Rattle.ho_base.specs.ShapeRule.{is_layout, is_area, all_apart, apart as areas_apart, area_end, holds, map_fits}
use Rattle.ho_base.specs.declared.shape.Area.{Area}
use Rattle.ho_base.specs.declared.limits.TheConstants.{MAX_ORDER, MIN_FRAMES, MAX_FRAMES, SCRATCH_AREAS}
use Rattle.folio_bitmaps.specs.Runs.{Run}
use Rattle.record_frames.specs.Sheets.{items_of, numbers_of}
use Rattle.record_frames.specs.Rules.{is_run, is_marked}
use Rattle.record_frames.specs.Kept.{Kept}
use Rattle.record_frames.specs.Owners.{single, users, run_holds, users_at, unmarked_at, marked_at, same_runs, is_owned_well}
use Rattle.kho_laws.specs.Owners.{in_use, is_run_of, apart, all_runs_apart, off_scratch, same_run, is_one_of, SideBySide, MarksUsers, OwnersFromMarks}
use Rattle.kho_laws.proofs.FileRules.{all_weaker}
use Rattle.kho_laws.proofs.Apart.{beside, all_beside, within, none_held, one_held, zero_held}

-- ---- runs and areas as intervals

abbrev run_low : Run → ℕ
run_low r = r.first

abbrev run_high : Run → ℕ
run_high r = r.first + 2 ^ r.order

abbrev area_low : Area → ℕ
area_low a = a.first.0

runs_beside : (rs : List Run) → all_runs_apart rs ≡ true → all_beside run_low run_high rs ≡ true
runs_beside [] h = refl
runs_beside (r ∷ rs) h =
    let hs = and_parts (list_all (apart r) rs) (all_runs_apart rs) h in
    and_from (list_all (beside run_low run_high (run_low r) (run_high r)) rs) (all_beside run_low run_high rs) hs.0 (runs_beside rs hs.1)

areas_beside : (areas : List Area) → all_apart areas ≡ true → all_beside area_low area_end areas ≡ true
areas_beside [] h = refl
areas_beside (a ∷ areas) h =
    let hs = and_parts (list_all (areas_apart a) areas) (all_apart areas) h in
    and_from (list_all (beside area_low area_end (area_low a) (area_end a)) areas) (all_beside area_low area_end areas) hs.0 (areas_beside areas hs.1)

-- where a run that is used holds a frame, no area does
off_all : (p : ℕ) (areas : List Area) (rs : List Run) → list_all (off_scratch areas) rs ≡ true → 0 < length (filter (run_holds p) rs) → filter (holds p) areas ≡ []
off_all p areas [] h some = absurd (omega (arith, some))
off_all p areas (r ∷ rs) h some =
    let hs = and_parts (off_scratch areas r) (list_all (off_scratch areas) rs) h in at_test (run_holds p r) refl hs.0 (λ more. off_all p areas rs hs.1 more)
  where
    at_test : (b : Bool) → run_holds p r ≡ b → off_scratch areas r ≡ true → (0 < length (filter (run_holds p) rs) → filter (holds p) areas ≡ []) → filter (holds p) areas ≡ []
    at_test true e off rest = let w = within run_low run_high p r e in none_held area_low area_end p (run_low r) (run_high r) areas w.0 w.1 off
    at_test false e off rest =
        let skip : length (filter (run_holds p) (r ∷ rs)) ≡ length (filter (run_holds p) rs) = ap (λ (b : Bool). length (cond b (r ∷ filter (run_holds p) rs) (filter (run_holds p) rs))) e in
        rest (omega (arith, some, skip))

-- a number that isn't another one is before or behind it
pub behind : (a b : ℕ) → a ≤ b → (a ≡ b → ⊥) → a + 1 ≤ b
behind a b le ne = elim (cases_lt a b) [ inl lt ↦ omega (arith, lt) | inr ge ↦ absurd (ne (omega (arith, le, ge))) ]

-- a frame by itself holds just its number
single_holds : (p x : ℕ) → run_holds p (single x) ≡ nat_eq p x
single_holds p x = at_test (nat_eq p x) refl
  where
    at_test : (b : Bool) → nat_eq p x ≡ b → run_holds p (single x) ≡ b
    at_test true e =
        let same : p ≡ x = eqb-true p x e in
        and_from (nat_le x p) (nat_lt p (x + 1)) (le-leb x p (omega (arith, same))) (lt-ltb p (x + 1) (omega (arith, same)))
    at_test false e =
        elim (cases_lt p x) [
          | inl lt ↦ and_left (nat_le x p) (nat_lt p (x + 1)) (lt-leb x p lt)
          | inr le ↦ and_right (nat_le x p) (nat_lt p (x + 1)) (le-ltb p (x + 1) (behind x p le (λ same. eqb-false p x e (sym same))))
        ]

singles_hold : (p : ℕ) (xs : List ℕ) → length (filter (run_holds p) (map single xs)) ≡ length (filter (nat_eq p) xs)
singles_hold p [] = refl
singles_hold p (x ∷ xs) =
    ap (λ (b : Bool). length (cond b (single x ∷ filter (run_holds p) (map single xs)) (filter (run_holds p) (map single xs)))) (single_holds p x)
    ∙ both (nat_eq p x) (singles_hold p xs)
  where
    both : (b : Bool) → length (filter (run_holds p) (map single xs)) ≡ length (filter (nat_eq p) xs)
        → length (cond b (single x ∷ filter (run_holds p) (map single xs)) (filter (run_holds p) (map single xs))) ≡ length (cond b (x ∷ filter (nat_eq p) xs) (filter (nat_eq p) xs))
    both true rest = ap suc rest
    both false rest = rest

-- ---- the number of users of a frame

shape_parts : (n : ℕ) (areas : List Area) → is_layout n areas ≡ true → (list_all (is_area n) areas ≡ true) × (all_apart areas ≡ true)
shape_parts n areas h =
    let a = and_parts _ (map_fits n areas) h in
    let b = and_parts _ (all_apart areas) a.0 in
    let c = and_parts (nat_le MIN_FRAMES n && nat_le n MAX_FRAMES && nat_lt 0 (length areas) && nat_le (length areas) SCRATCH_AREAS) (list_all (is_area n) areas) b.0 in
    (c.1, b.1)

area_some : (n : ℕ) (a : Area) → is_area n a ≡ true → nat_lt 0 (area_low a) ≡ true
area_some n a h = (and_parts (nat_lt 0 a.count) (nat_lt 0 a.first.0) (and_parts (nat_lt 0 a.count && nat_lt 0 a.first.0) (nat_le (area_end a) n) h).0).1

-- what is known of a run of n frames
pub record RunParts (n : ℕ) (r : Run) : Type 0 where
  pub order : r.order ≤ MAX_ORDER
  pub some : nat_lt 0 r.first ≡ true
  pub aligned : r.first % 2 ^ r.order ≡ 0

run_parts : (n : ℕ) (r : Run) → is_run_of n r ≡ true → RunParts n r
run_parts n r h =
    let a = and_parts (nat_le r.order MAX_ORDER) (is_run n r.order r.first) h in
    let b = and_parts (nat_lt 0 r.first && eqb (r.first % 2 ^ r.order) 0) (nat_le (r.first + 2 ^ r.order) n) a.1 in
    let c = and_parts (nat_lt 0 r.first) (eqb (r.first % 2 ^ r.order) 0) b.0 in
    record { order = leb-true r.order MAX_ORDER a.0; some = c.0; aligned = eqb-true (r.first % 2 ^ r.order) 0 c.1 }

module _ (n : ℕ) (k : Kept) (s : SideBySide n k) where
  areas_ok : (list_all (is_area k.shape.frames) k.shape.scratch ≡ true) × (all_apart k.shape.scratch ≡ true)
  areas_ok = shape_parts k.shape.frames k.shape.scratch s.shape

  counted : (p : ℕ) → length (users_at k p) + length (filter (nat_eq p) (numbers_of k.chain)) ≡ length (filter (run_holds p) (in_use k))
  counted p =
      let two = ap length (filter-append (run_holds p) (users k) (map single (numbers_of k.chain))) in
      let len = length-append (filter (run_holds p) (users k)) (filter (run_holds p) (map single (numbers_of k.chain))) in
      let chain = singles_hold p (numbers_of k.chain) in
      omega (arith, two, len, chain)

  -- at most one
  few : (p : ℕ) → length (users_at k p) + unmarked_at k p ≤ 1
  few p =
      let u = one_held run_low run_high p (in_use k) (runs_beside (in_use k) s.apart) in
      let a = one_held area_low area_end p k.shape.scratch (areas_beside k.shape.scratch areas_ok.1) in
      at_count (length (filter (run_holds p) (in_use k))) refl u a
    where
      at_count : (c : ℕ) → length (filter (run_holds p) (in_use k)) ≡ c → length (filter (run_holds p) (in_use k)) ≤ 1 → length (filter (holds p) k.shape.scratch) ≤ 1
          → length (users_at k p) + unmarked_at k p ≤ 1
      at_count zero e u a = omega (arith, e, a, counted p)
      at_count (suc c) e u a =
          let none : length (filter (holds p) k.shape.scratch) ≡ 0 = ap length (off_all p k.shape.scratch (in_use k) s.scratch (omega (arith, e))) in
          omega (arith, none, u, counted p)

  -- none of frame 0
  none_of_zero : length (users_at k 0) + unmarked_at k 0 ≡ 0
  none_of_zero =
      let runs : list_all (λ r. nat_lt 0 (run_low r)) (in_use k) ≡ true = all_weaker (is_run_of n) (λ r. nat_lt 0 (run_low r)) (λ r h. (run_parts n r h).some) (in_use k) s.runs in
      let areas : list_all (λ a. nat_lt 0 (area_low a)) k.shape.scratch ≡ true =
      all_weaker (is_area k.shape.frames) (λ a. nat_lt 0 (area_low a)) (area_some k.shape.frames) k.shape.scratch areas_ok.0 in
      let u = ap length (zero_held run_low run_high (in_use k) runs) in
      let a = ap length (zero_held area_low area_end k.shape.scratch areas) in
      omega (arith, u, a, counted 0)

  users_few : (p : ℕ) → nat_le (length (users_at k p) + unmarked_at k p) (cond (eqb p 0) 0 1) ≡ true
  users_few zero = le-leb (length (users_at k 0) + unmarked_at k 0) 0 (omega (arith, none_of_zero))
  users_few (suc p) =
      let no : eqb (suc p) 0 ≡ false = ne_eqb (suc p) 0 (λ e. omega (arith, e)) in
      ap (λ (b : Bool). nat_le (length (users_at k (suc p)) + unmarked_at k (suc p)) (cond b 0 1)) no
      ∙ le-leb (length (users_at k (suc p)) + unmarked_at k (suc p)) 1 (few (suc p))

-- ---- the marked runs that hold a frame

-- the run of an order that may hold a frame
abbrev run_for : ℕ → ℕ → Run
run_for p o = record { first = p - p % 2 ^ o; order = o }

holds_it : (p o : ℕ) → run_holds p (run_for p o) ≡ true
holds_it p o =
    let pos : 0 < 2 ^ o = pow_pos o in
    let below : p % 2 ^ o < 2 ^ o = mod-lt p pos in
    let le : p % 2 ^ o ≤ p = mod-le p (2 ^ o) in
    and_from (nat_le (p - p % 2 ^ o) p) (nat_lt p (p - p % 2 ^ o + 2 ^ o)) (le-leb (p - p % 2 ^ o) p (omega (arith, le))) (lt-ltb p (p - p % 2 ^ o + 2 ^ o) (omega (arith, below, le)))

start_is : (a p s : ℕ) → a % s ≡ 0 → a ≤ p → p < a + s → p - p % s ≡ a
start_is a p s h from to =
    let whole : a / s * s ≡ a = omega (arith, div-add-mod' a s, h) in
    let e : a / s * s + (p - a) ≡ p = omega (arith, whole, from) in
    let m : (a / s * s + (p - a)) % s ≡ p - a = mod-mul-add (a / s) s (p - a) (omega (arith, to, from)) in
    let m' : p % s ≡ p - a = ap (λ (x : ℕ). x % s) (sym e) ∙ m in
    omega (arith, m', from)

-- the same run holds the same frames
same_holds : (p : ℕ) (r u : Run) → run_holds p r ≡ true → same_run r u ≡ true → run_holds p u ≡ true
same_holds p r u h e =
    let es = and_parts (eqb r.first u.first) (eqb r.order u.order) e in
    let first : r.first ≡ u.first = eqb-true r.first u.first es.0 in
    let order : r.order ≡ u.order = eqb-true r.order u.order es.1 in
    let path : run_holds p r ≡ run_holds p u = λ j. run_holds p (record { first = first j; order = order j }) in
    sym path ∙ h

-- a run that holds a frame is one of these exactly where it is one of those of them that hold it
among_those : (p : ℕ) (r : Run) → run_holds p r ≡ true → (us : List Run) → is_one_of us r ≡ is_one_of (filter (run_holds p) us) r
among_those p r h [] = refl
among_those p r h (u ∷ us) = at_test (run_holds p u) refl (among_those p r h us)
  where
    kept : (b : Bool) → run_holds p u ≡ b → is_one_of (cond b (u ∷ filter (run_holds p) us) (filter (run_holds p) us)) r ≡ is_one_of (filter (run_holds p) (u ∷ us)) r
    kept b e = ap (λ (b : Bool). is_one_of (cond b (u ∷ filter (run_holds p) us) (filter (run_holds p) us)) r) (sym e)

    other : run_holds p u ≡ false → (b : Bool) → same_run r u ≡ b → (same_run r u || is_one_of us r) ≡ is_one_of us r
    other e true same = absurd (let no : true ≡ false = sym (same_holds p r u h same) ∙ e in cc)
    other e false same = ap (λ (b : Bool). b || is_one_of us r) same

    at_test : (b : Bool) → run_holds p u ≡ b → is_one_of us r ≡ is_one_of (filter (run_holds p) us) r → is_one_of (u ∷ us) r ≡ is_one_of (filter (run_holds p) (u ∷ us)) r
    at_test true e rest = ap (λ (b : Bool). same_run r u || b) rest ∙ kept true e
    at_test false e rest = other e (same_run r u) refl ∙ rest ∙ kept false e

-- one of a list is picked by its number
none_picked : (P : Run → Bool) (g : ℕ → Run) (start len : ℕ) → ((o : ℕ) → start ≤ o → o < start + len → P (g o) ≡ false) → filter P (map g (range_with_len start len)) ≡ []
none_picked P g start zero h = refl
none_picked P g start (suc len) h =
    let rest = map g (range_with_len (start + 1) len) in
    ap (λ (b : Bool). cond b (g start ∷ filter P rest) (filter P rest)) (h start (omega arith) (omega arith))
    ∙ none_picked P g (start + 1) len (λ o lo hi. h o (omega (arith, lo)) (omega (arith, hi)))

one_picked : (P : Run → Bool) (g : ℕ → Run) (c start len : ℕ) → start ≤ c → c < start + len → ((o : ℕ) → start ≤ o → o < start + len → P (g o) ≡ eqb o c)
    → filter P (map g (range_with_len start len)) ≡ g c ∷ []
one_picked P g c start zero lo hi h = absurd (omega (arith, lo, hi))
one_picked P g c start (suc len) lo hi h =
    at_test (eqb start c) refl (λ later. one_picked P g c (start + 1) len later (omega (arith, hi)) (λ o a b. h o (omega (arith, a)) (omega (arith, b))))
  where
    at_test : (b : Bool) → eqb start c ≡ b → (start + 1 ≤ c → filter P (map g (range_with_len (start + 1) len)) ≡ g c ∷ []) → filter P (map g (range_with_len start (suc len))) ≡ g c ∷ []
    at_test true e rest =
        let same : start ≡ c = eqb-true start c e in
        let here : P (g start) ≡ true = h start (omega arith) (omega arith) ∙ e in
        let none = none_picked P g (start + 1) len (λ o a b. h o (omega (arith, a)) (omega (arith, b)) ∙ ne_eqb o c (λ x. omega (arith, x, same, a))) in
        ap (λ (b : Bool). cond b (g start ∷ filter P (map g (range_with_len (start + 1) len))) (filter P (map g (range_with_len (start + 1) len)))) here
        ∙ (λ j. g (same j) ∷ none j)
    at_test false e rest =
        let not_here : P (g start) ≡ false = h start (omega arith) (omega arith) ∙ e in
        ap (λ (b : Bool). cond b (g start ∷ filter P (map g (range_with_len (start + 1) len))) (filter P (map g (range_with_len (start + 1) len)))) not_here
        ∙ rest (behind start c lo (λ same. eqb-false start c e same))

-- the elements that a filter keeps pass the test, and what held of all holds of them
kept_pass : {A : Type 0} (P Q : A → Bool) (xs : List A) → list_all Q xs ≡ true → list_all (λ x. P x && Q x) (filter P xs) ≡ true
kept_pass P Q [] h = refl
kept_pass P Q (x ∷ xs) h = let hs = and_parts (Q x) (list_all Q xs) h in at_test (P x) refl hs.0 (kept_pass P Q xs hs.1)
  where
    at_test : (b : Bool) → P x ≡ b → Q x ≡ true → list_all (λ y. P y && Q y) (filter P xs) ≡ true → list_all (λ y. P y && Q y) (filter P (x ∷ xs)) ≡ true
    at_test true e here rest =
        ap (λ (b : Bool). list_all (λ y. P y && Q y) (cond b (x ∷ filter P xs) (filter P xs))) e
        ∙ and_from (P x && Q x) (list_all (λ y. P y && Q y) (filter P xs)) (and_from (P x) (Q x) e here) rest
    at_test false e here rest = ap (λ (b : Bool). list_all (λ y. P y && Q y) (cond b (x ∷ filter P xs) (filter P xs))) e ∙ rest

module _ (n : ℕ) (k : Kept) (s : SideBySide n k) (m : MarksUsers k) where
  marked_is : (p o : ℕ) → o < 10 → is_marked (items_of k.chain) (run_for p o) ≡ is_one_of (users_at k p) (run_for p o)
  marked_is p o lt = m (run_for p o) (omega (arith, lt)) ∙ among_those p (run_for p o) (holds_it p o) (users k)

  users_ok : list_all (is_run_of n) (users k) ≡ true
  users_ok =
      (and_parts (list_all (is_run_of n) (users k)) (list_all (is_run_of n) (map single (numbers_of k.chain)))
      (sym (list_all-append (is_run_of n) (users k) (map single (numbers_of k.chain))) ∙ s.runs)).0

  -- the marked runs are just the one user
  same_at : (p : ℕ) (us : List Run) → users_at k p ≡ us → length us ≤ 1 → same_runs (marked_at k p) us ≡ true
  same_at p [] e few =
      let none = none_picked (is_marked (items_of k.chain)) (run_for p) 0 10 (λ o a b. marked_is p o (omega (arith, b)) ∙ ap (λ (us : List Run). is_one_of us (run_for p o)) e) in
      ap (λ (l : List Run). same_runs l []) none
  same_at p (u ∷ []) e few =
      let pass : list_all (λ r. run_holds p r && is_run_of n r) (u ∷ []) ≡ true = ap (list_all (λ r. run_holds p r && is_run_of n r)) (sym e) ∙ kept_pass (run_holds p) (is_run_of n) (users k) users_ok in
      let ok = and_parts (run_holds p u) (is_run_of n u) (and_parts (run_holds p u && is_run_of n u) true pass).0 in
      let parts = run_parts n u ok.1 in
      let small = parts.order in
      let w = within run_low run_high p u ok.0 in
      let start : p - p % 2 ^ u.order ≡ u.first = start_is u.first p (2 ^ u.order) parts.aligned w.0 w.1 in
      let here : (o : ℕ) → is_one_of (u ∷ []) (run_for p o) ≡ eqb o u.order = λ o. at_order o u.order u.first p start (eqb o u.order) refl in
      let one = one_picked (is_marked (items_of k.chain)) (run_for p) u.order 0 10 (omega arith) (omega (arith, small))
      (λ o a b. marked_is p o (omega (arith, b)) ∙ ap (λ (us : List Run). is_one_of us (run_for p o)) e ∙ here o) in
      ap (λ (l : List Run). same_runs l (u ∷ [])) one
      ∙ and_from (eqb (p - p % 2 ^ u.order) u.first && eqb u.order u.order) true
      (and_from (eqb (p - p % 2 ^ u.order) u.first) (eqb u.order u.order) (eq-eqb (p - p % 2 ^ u.order) u.first start) (eq-eqb u.order u.order refl)) refl
    where
      at_order : (o c f p : ℕ) → p - p % 2 ^ c ≡ f → (b : Bool) → eqb o c ≡ b → (((eqb (p - p % 2 ^ o) f) && eqb o c) || false) ≡ eqb o c
      at_order o c f p start true e =
          let same : o ≡ c = eqb-true o c e in
          let first : eqb (p - p % 2 ^ o) f ≡ true = eq-eqb (p - p % 2 ^ o) f (ap (λ (x : ℕ). p - p % 2 ^ x) same ∙ start) in
          (λ j. (first j && e j) || false) ∙ sym e
      at_order o c f p start false e = ap (λ (b : Bool). b || false) (and_right (eqb (p - p % 2 ^ o) f) (eqb o c) e) ∙ sym e
  same_at p (u ∷ v ∷ us) e few = absurd (omega (arith, few))

  owned : (p : ℕ) → is_owned_well k p ≡ true
  owned p =
      let one = few n k s p in
      and_from (nat_le (length (users_at k p) + unmarked_at k p) (cond (eqb p 0) 0 1)) (same_runs (marked_at k p) (users_at k p)) (users_few n k s p)
      (same_at p (users_at k p) refl (omega (arith, one)))

  all_owned : (ps : List ℕ) → list_all (is_owned_well k) ps ≡ true
  all_owned [] = refl
  all_owned (p ∷ ps) = and_from (is_owned_well k p) (list_all (is_owned_well k) ps) (owned p) (all_owned ps)

pub owners_kept : OwnersFromMarks
owners_kept n k s m = all_owned n k s m (range_with_len 0 n)
