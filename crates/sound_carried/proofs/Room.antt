-- Free frames of a sound world's pool can hold what is written for what it freezes.
use Rattle.std.proofs.Common.{◌≡◌, ◌⊎◌, inl, inr, ℕ, ◌+◌, ◌-◌, ◌^◌, ◌<◌, ◌≤◌, Bool, true, false, List, [], ◌∷◌, ◌++◌, map, length, refl, sym, ap, subst, ◌∙◌, arith}
use Rattle.std.specs.Prelude.{Some, ◌&&◌, ◌||◌, ◌==◌, nat_lt, nat_le, flat_map, IsTrue}
use Rattle.std.specs.FinMap as finmap
use Rattle.std.specs.List.{AllByRecursion, list_all}
use Rattle.std.proofs.lemmas.Bool.{and_parts, and_from, or_left, or_right, or_parts, le-leb, lt-ltb, ltb-true}
use Rattle.std.proofs.lemmas.Bool.Decides.{nat_tests}
use Rattle.std.proofs.lemmas.List.{append-nil, map-append}
use Rattle.std.proofs.lemmas.Nat.{pow_pos}
use Rattle.ho_base.specs.ShapeRule.{Layout, is_layout, is_area, area_end, holds, in_scratch, map_fits, all_apart as areas_apart}
use Rattle.ho_base.specs.declared.limits.TheConstants.{MAX_ORDER}
use Rattle.ho_base.specs.declared.shape.Area.{Area}
use Rattle.folio_bitmaps.specs.Runs.{Run}
use Rattle.ho_events.specs.Lists.{firsts, are_distinct}
use Rattle.ho_events.specs.Pool.{PoolState, is_free_run, can_take}
use Rattle.ho_world.specs.Frozen.{CarriedFile as FileState, Frozen, carried_files, frozen}
use Rattle.ho_world.specs.Sequences.{Labels}
use Rattle.ho_world.specs.World.{World, pool_at}
use Rattle.record_frames.specs.Kept.{bound_frames}
use Rattle.record_frames.specs.Owners.{single, given}
use Rattle.record_frames.specs.Ram.{Ram}
use Rattle.record_frames.specs.Rules.{is_run}
use Rattle.record_frames.specs.State.{file_in, state_in}
use Rattle.record_frames.specs.Writing.{files_in, files_of_sessions, lists_of_files}
use Rattle.record_frames.specs.declared.carried.Carried.{Carried}
use Rattle.record_frames.specs.declared.carried.CarriedFile.{CarriedFile}
use Rattle.kho_laws.specs.Carrying.{runs_of_file, to_mark, CanHold}
use Rattle.kho_laws.specs.Owners.{apart, is_run_of, all_runs_apart, off_scratch}
use Rattle.balance_laws.specs.Carrying.{In, Distinct, NoneShared}
use Rattle.balance_laws.specs.Sound.{Sound, RunFits, RunsFit}
use Rattle.balance_laws.proofs.Base.{clash}
use Rattle.balance_laws.proofs.Numbers.{Distinct as Different, distinct_is, all_mapped, all_weaker}
use Rattle.balance_laws.proofs.Runs.{RunFree, free_is}
use Rattle.sound_carried.specs.Fitting.{CarriedHasRoom}
use Rattle.sound_carried.proofs.Fits.{all_tests, run_is, shape_is, bounds_are, known, can, files_are}

-- ---- runs that share no frame

abbrev SharesNone : Run → Run → Type 0
SharesNone a b = (i j : ℕ) → i < 2 ^ a.order → j < 2 ^ b.order → a.first + i ≡ b.first + j → ⊥

-- a run ends before the other begins, or behind it
side_by_side : (p q m n : ℕ) → 0 < m → 0 < n → ((i j : ℕ) → i < m → j < n → p + i ≡ q + j → ⊥) → (nat_le (p + m) q || nat_le (q + n) p) ≡ true
side_by_side p q m n some more none = by_test (nat_le (p + m) q) refl (nat_le (q + n) p) refl
  where
    between : q < p + m → p < q + n → (p ≤ q) ⊎ (q ≤ p) → ⊥
    between low high (inl le) = none (q - p) 0 (omega (arith, low, le, some)) more (omega (arith, le))
    between low high (inr le) = none 0 (p - q) some (omega (arith, high, le, more)) (omega (arith, le))

    either : (p q : ℕ) → (p ≤ q) ⊎ (q ≤ p)
    either p q = grind arith

    by_test : (a : Bool) → nat_le (p + m) q ≡ a → (b : Bool) → nat_le (q + n) p ≡ b → (nat_le (p + m) q || nat_le (q + n) p) ≡ true
    by_test true e b f = or_left (nat_le (p + m) q) _ e
    by_test false e true f = or_right (nat_le (p + m) q) _ f
    by_test false e false f =
        let low : q < p + m = grind (arith, nat_tests, e) in
        let high : p < q + n = grind (arith, nat_tests, f) in
        absurd (between low high (either p q))

apart_is : (a b : Run) → SharesNone a b → apart a b ≡ true
apart_is a b none = side_by_side a.first b.first (2 ^ a.order) (2 ^ b.order) (pow_pos a.order) (pow_pos b.order) none

turned : (a b : Run) → SharesNone a b → SharesNone b a
turned a b none i j li lj same = none j i lj li (sym same)

-- each run and every later one
abbrev Spread : List Run → Type 0
Spread [] = Unit {0}
Spread (r ∷ rs) = AllByRecursion (SharesNone r) rs × Spread rs

-- each run of the one list and every run of the other
abbrev Across : List Run → List Run → Type 0
Across xs ys = AllByRecursion (λ x. AllByRecursion (SharesNone x) ys) xs

all_both : {A : Type 0} (P : A → Type 0) (xs ys : List A) → AllByRecursion P xs → AllByRecursion P ys → AllByRecursion P (xs ++ ys)
all_both P [] ys a b = b
all_both P (x ∷ xs) ys a b = (a.0, all_both P xs ys a.1 b)

all_parts : {A : Type 0} (P : A → Type 0) (xs ys : List A) → AllByRecursion P (xs ++ ys) → AllByRecursion P xs × AllByRecursion P ys
all_parts P [] ys h = (tt, h)
all_parts P (x ∷ xs) ys h = let r = all_parts P xs ys h.1 in ((h.0, r.0), r.1)

spread_both : (xs ys : List Run) → Spread xs → Spread ys → Across xs ys → Spread (xs ++ ys)
spread_both [] ys a b across = b
spread_both (x ∷ xs) ys a b across = (all_both (SharesNone x) xs ys a.0 across.0, spread_both xs ys a.1 b across.1)

record Parted (xs ys : List Run) : Type 0 where
  first : Spread xs
  rest : Spread ys
  across : Across xs ys

spread_parts : (xs ys : List Run) → Spread (xs ++ ys) → Parted xs ys
spread_parts [] ys h = record { first = tt; rest = h; across = tt }
spread_parts (x ∷ xs) ys h =
    let r : Parted xs ys = spread_parts xs ys h.1 in
    let s = all_parts (SharesNone x) xs ys h.0 in
    record { first = (s.0, r.first); rest = r.rest; across = (s.1, r.across) }

spread_apart : (rs : List Run) → Spread rs → all_runs_apart rs ≡ true
spread_apart [] h = refl
spread_apart (r ∷ rs) h = and_from (list_all (apart r) rs) (all_runs_apart rs) (all_tests (SharesNone r) (apart r) (λ x none. apart_is r x none) rs h.0) (spread_apart rs h.1)

-- ---- runs that fit

abbrev FitsIn : Layout → Run → Type 0
FitsIn shape r = RunFits shape r.first r.order

run_of : (shape : Layout) (r : Run) → FitsIn shape r → is_run_of shape.frames r ≡ true
run_of shape r fit = and_from (nat_le r.order MAX_ORDER) (is_run shape.frames r.order r.first) (le-leb r.order MAX_ORDER fit.order) (run_is shape r.first r.order fit)

-- a run without a frame of an area
off_one : (p m : ℕ) (a : Area) → 0 < m → 0 < a.count → ((i : ℕ) → i < m → holds (p + i) a ≡ false) → (nat_le (p + m) a.first.0 || nat_le (area_end a) p) ≡ true
off_one p m a some count none =
    side_by_side p a.first.0 m a.count some count
    (λ i j li lj same. clash (sym (held i j lj same) ∙ none i li))
  where
    held : (i j : ℕ) → j < a.count → p + i ≡ a.first.0 + j → holds (p + i) a ≡ true
    held i j lj same = and_from (nat_le a.first.0 (p + i)) (nat_lt (p + i) (area_end a)) (le-leb a.first.0 (p + i) (omega (arith, same))) (lt-ltb (p + i) (area_end a) (omega (arith, same, lj)))

off_all : (n p o : ℕ) (areas : List Area) → list_all (is_area n) areas ≡ true → ((i : ℕ) → i < 2 ^ o → in_scratch areas (p + i) ≡ false) → off_scratch areas (record { first = p; order = o }) ≡ true
off_all n p o [] fit none = refl
off_all n p o (a ∷ areas) fit none =
    let hs = and_parts (is_area n a) (list_all (is_area n) areas) fit in
    let two = and_parts (nat_lt 0 a.count && nat_lt 0 a.first.0) (nat_le (area_end a) n) hs.0 in
    let count : 0 < a.count = ltb-true 0 a.count (and_parts (nat_lt 0 a.count) (nat_lt 0 a.first.0) two.0).0 in
    and_from (nat_le (p + 2 ^ o) a.first.0 || nat_le (area_end a) p) _
    (off_one p (2 ^ o) a (pow_pos o) count (λ i less. (or_parts (holds (p + i) a) (in_scratch areas (p + i)) (none i less)).0))
    (off_all n p o areas hs.1 (λ i less. (or_parts (holds (p + i) a) (in_scratch areas (p + i)) (none i less)).1))

layout_areas : (n : ℕ) (areas : List Area) → is_layout n areas ≡ true → list_all (is_area n) areas ≡ true
layout_areas n areas h =
    let a = and_parts _ (map_fits n areas) h in
    let b = and_parts _ (areas_apart areas) a.0 in
    (and_parts _ (list_all (is_area n) areas) b.0).1

off_of : (shape : Layout) (r : Run) → is_layout shape.frames shape.scratch ≡ true → FitsIn shape r → off_scratch shape.scratch r ≡ true
off_of shape r layout fit = off_all shape.frames r.first r.order shape.scratch (layout_areas shape.frames shape.scratch layout) (λ i less. (fit.usable i less).off)

-- ---- free frames

module _ (s : PoolState) (fit : RunsFit s) where
  all_free : (ps : List ℕ) → list_all (is_free_run s 0) ps ≡ true → AllByRecursion (RunFree s 0) ps
  all_free [] h = tt
  all_free (p ∷ ps) h = let hs = and_parts (is_free_run s 0 p) (list_all (is_free_run s 0) ps) h in (free_is s 0 p fit (omega arith) hs.0, all_free ps hs.1)

  -- different frames share none
  others_apart : (p : ℕ) (ps : List ℕ) → AllByRecursion (λ q. q ≡ p → ⊥) ps → AllByRecursion (SharesNone (single p)) (map single ps)
  others_apart p ps h = all_mapped (λ q. q ≡ p → ⊥) (SharesNone (single p)) single (λ q other i j li lj same. other (omega (arith, li, lj, same))) ps h

  singles_spread : (ps : List ℕ) → are_distinct ps ≡ true → Spread (map single ps)
  singles_spread ps h = spread ps (distinct_is ps h)
    where
      spread : (ps : List ℕ) → Different ps → Spread (map single ps)
      spread [] h = tt
      spread (p ∷ ps) h = (others_apart p ps h.0, spread ps h.1)

  -- owned runs
  abbrev IsOwned : Run → Type 0
  IsOwned r = finmap.get s.owned r.first ≡ Some r.order

  free_apart : (p : ℕ) (r : Run) → RunFree s 0 p → IsOwned r → SharesNone (single p) r
  free_apart p r free owned i j li lj same = free.apart r.first r.order i j owned li lj same

  free_across : (ps : List ℕ) (rs : List Run) → AllByRecursion (RunFree s 0) ps → AllByRecursion IsOwned rs → Across (map single ps) rs
  free_across ps rs free owned =
      all_mapped (RunFree s 0) (λ x. AllByRecursion (SharesNone x) rs) single (λ p f. all_weaker IsOwned (SharesNone (single p)) (λ r o. free_apart p r f o) rs owned) ps free

  owned_across : (ps : List ℕ) (rs : List Run) → AllByRecursion (RunFree s 0) ps → AllByRecursion IsOwned rs → Across rs (map single ps)
  owned_across ps rs free owned =
      all_weaker IsOwned (λ x. AllByRecursion (SharesNone x) (map single ps))
      (λ r o. all_mapped (RunFree s 0) (SharesNone r) single (λ p f. turned (single p) r (free_apart p r f o)) ps free) rs owned

  -- ---- the runs of files

  abbrev at_order : ℕ → ℕ → Run
  at_order o p = record { first = p; order = o }

  abbrev FileOwned : CarriedFile → Type 0
  FileOwned f = AllByRecursion (λ p. finmap.get s.owned p ≡ Some f.order.0) (firsts f.runs)

  files_owned : (fs : List CarriedFile) → AllByRecursion FileOwned fs → AllByRecursion IsOwned (flat_map runs_of_file fs)
  files_owned [] h = tt
  files_owned (f ∷ fs) h =
      all_both IsOwned (runs_of_file f) (flat_map runs_of_file fs) (all_mapped (λ p. finmap.get s.owned p ≡ Some f.order.0) IsOwned (at_order f.order.0) (λ p e. e) (firsts f.runs) h.0) (files_owned fs h.1)

  -- what is known of each number of a list
  in_all : (P : ℕ → Type 0) (xs : List ℕ) → ((p : ℕ) → In p xs → P p) → AllByRecursion P xs
  in_all P [] h = tt
  in_all P (x ∷ xs) h = (h x (inl refl), in_all P xs (λ p i. h p (inr i)))

  all_in : (P : ℕ → Type 0) (xs : List ℕ) → AllByRecursion P xs → (p : ℕ) → In p xs → P p
  all_in P [] h p i = absurd i
  all_in P (x ∷ xs) h p (inl e) = subst P (sym e) h.0
  all_in P (x ∷ xs) h p (inr i) = all_in P xs h.1 p i

  owned_apart : (p o q n : ℕ) → finmap.get s.owned p ≡ Some o → finmap.get s.owned q ≡ Some n → (p ≡ q → ⊥) → SharesNone (at_order o p) (at_order n q)
  owned_apart p o q n a b other i j li lj same = other (fit.apart p o q n i j a b li lj same)

  file_spread : (o : ℕ) (ps : List ℕ) → AllByRecursion (λ p. finmap.get s.owned p ≡ Some o) ps → Distinct ps → Spread (map (at_order o) ps)
  file_spread o [] owned different = tt
  file_spread o (p ∷ ps) owned different =
      (apart_from ps owned.1 different.0, file_spread o ps owned.1 different.1)
    where
      apart_from : (qs : List ℕ) → AllByRecursion (λ q. finmap.get s.owned q ≡ Some o) qs → AllByRecursion (λ q. q ≡ p → ⊥) qs → AllByRecursion (SharesNone (at_order o p)) (map (at_order o) qs)
      apart_from [] a d = tt
      apart_from (q ∷ qs) a d = (owned_apart p o q o owned.0 a.0 (λ e. d.0 (sym e)), apart_from qs a.1 d.1)

  -- a run of a file and those of other files
  module _ (ram : Ram) (f : CarriedFile) (owned : FileOwned f) where
    across_one : (p : ℕ) → In p (firsts f.runs) → (g : CarriedFile) → FileOwned g → ((q : ℕ) → In q (firsts f.runs) → In q (firsts g.runs) → ⊥) → AllByRecursion (SharesNone (at_order f.order.0 p)) (runs_of_file g)
    across_one p i g own none =
        all_mapped (λ q. SharesNone (at_order f.order.0 p) (at_order g.order.0 q)) (SharesNone (at_order f.order.0 p)) (at_order g.order.0) (λ q h. h) (firsts g.runs)
        (in_all (λ q. SharesNone (at_order f.order.0 p) (at_order g.order.0 q)) (firsts g.runs)
        (λ q j. owned_apart p f.order.0 q g.order.0 (all_in (λ p. finmap.get s.owned p ≡ Some f.order.0) (firsts f.runs) owned p i) (all_in (λ p. finmap.get s.owned p ≡ Some g.order.0) (firsts g.runs) own q j)
        (λ same. none p i (subst (λ x. In x (firsts g.runs)) (sym same) j))))

    across_files : (p : ℕ) → In p (firsts f.runs) → (gs : List CarriedFile) → AllByRecursion FileOwned gs
        → AllByRecursion (λ (d : FileState). (q : ℕ) → In q (file_in ram f).runs → In q d.runs → ⊥) (map (file_in ram) gs) → AllByRecursion (SharesNone (at_order f.order.0 p)) (flat_map runs_of_file gs)
    across_files p i [] own none = tt
    across_files p i (g ∷ gs) own none =
        all_both (SharesNone (at_order f.order.0 p)) (runs_of_file g) (flat_map runs_of_file gs) (across_one p i g own.0 none.0) (across_files p i gs own.1 none.1)

  files_spread : (ram : Ram) (fs : List CarriedFile) → AllByRecursion FileOwned fs → NoneShared (map (file_in ram) fs) → Spread (flat_map runs_of_file fs)
  files_spread ram [] owned none = tt
  files_spread ram (f ∷ fs) owned none =
      spread_both (runs_of_file f) (flat_map runs_of_file fs) (file_spread f.order.0 (firsts f.runs) owned.0 none.0) (files_spread ram fs owned.1 none.2)
      (all_mapped (λ p. AllByRecursion (SharesNone (at_order f.order.0 p)) (flat_map runs_of_file fs)) (λ x. AllByRecursion (SharesNone x) (flat_map runs_of_file fs)) (at_order f.order.0) (λ p h. h) (firsts f.runs)
      (in_all (λ p. AllByRecursion (SharesNone (at_order f.order.0 p)) (flat_map runs_of_file fs)) (firsts f.runs) (λ p i. across_files ram f owned.0 p i fs owned.1 none.1)))

-- ---- what has to be marked

module _ (labels : ℕ → Labels) (w : World) (ram : Ram) (c : Carried) (ats chunks : List ℕ) (sound : Sound w labels) (state : state_in ram c ≡ frozen w)
    (layout : IsTrue (is_layout c.shape.frames c.shape.scratch)) (takes : IsTrue (can_take (pool_at w) 0 (length (ats ++ chunks)) (ats ++ chunks))) where
  abbrev s : PoolState
  s = pool_at w

  abbrev fit : RunsFit s
  fit = sound.parts.runs

  abbrev of_files : List Run
  of_files = flat_map runs_of_file (files_in c.sessions)

  marks_are : to_mark c ats ≡ map single ats ++ of_files
  marks_are =
      ap (λ bs. map single (ats ++ given (bound_frames bs)) ++ of_files) (bounds_are labels w ram c sound state) ∙ ap (λ xs. map single xs ++ of_files) (append-nil ats)

  tests : (are_distinct (ats ++ chunks) ≡ true) × (list_all (is_free_run s 0) (ats ++ chunks) ≡ true)
  tests =
      let a = and_parts (length (ats ++ chunks) == length (ats ++ chunks) && are_distinct (ats ++ chunks)) (list_all (is_free_run s 0) (ats ++ chunks)) takes in
      ((and_parts (length (ats ++ chunks) == length (ats ++ chunks)) (are_distinct (ats ++ chunks)) a.0).1, a.1)

  free : AllByRecursion (RunFree s 0) ats × AllByRecursion (RunFree s 0) chunks
  free = all_parts (RunFree s 0) ats chunks (all_free s fit (ats ++ chunks) tests.1)

  parted : Parted (map single ats) (map single chunks)
  parted = spread_parts (map single ats) (map single chunks) (subst Spread (map-append single ats chunks) (singles_spread s fit (ats ++ chunks) tests.0))

  own_files : AllByRecursion (FileOwned s fit) (files_in c.sessions)
  own_files = known labels w ram c sound state (λ (f : FileState). AllByRecursion (λ p. finmap.get s.owned p ≡ Some f.order) f.runs) (can labels w ram c sound state).owned

  owned : AllByRecursion (IsOwned s fit) of_files
  owned = files_owned s fit (files_in c.sessions) own_files

  none_shared : NoneShared (map (file_in ram) (files_in c.sessions))
  none_shared = subst NoneShared (files_are ram c.sessions) (subst (λ (f : Frozen). NoneShared (carried_files f)) (sym state) (can labels w ram c sound state).apart)

  all_spread : Spread ((map single ats ++ of_files) ++ map single chunks)
  all_spread =
      spread_both (map single ats ++ of_files) (map single chunks)
      (spread_both (map single ats) of_files parted.first (files_spread s fit ram (files_in c.sessions) own_files none_shared) (free_across s fit ats of_files free.0 owned))
      parted.rest
      (all_both (λ x. AllByRecursion (SharesNone x) (map single chunks)) (map single ats) of_files parted.across (owned_across s fit chunks of_files free.1 owned))

  single_fits : (ps : List ℕ) → AllByRecursion (RunFree s 0) ps → AllByRecursion (FitsIn s.shape) (map single ps)
  single_fits ps h = all_mapped (RunFree s 0) (FitsIn s.shape) single (λ p f. f.fits) ps h

  all_fit : AllByRecursion (FitsIn s.shape) ((map single ats ++ of_files) ++ map single chunks)
  all_fit =
      all_both (FitsIn s.shape) (map single ats ++ of_files) (map single chunks)
      (all_both (FitsIn s.shape) (map single ats) of_files (single_fits ats free.0) (all_weaker (IsOwned s fit) (FitsIn s.shape) (λ r e. fit.each r.first r.order e) of_files owned))
      (single_fits chunks free.1)

  same_shape : c.shape ≡ s.shape
  same_shape = shape_is labels w ram c sound state

  here : IsTrue (is_layout s.shape.frames s.shape.scratch)
  here = subst (λ (x : Layout). IsTrue (is_layout x.frames x.scratch)) same_shape layout

  abbrev all_runs : List Run
  all_runs = (map single ats ++ of_files) ++ map single chunks

  runs_are : to_mark c ats ++ map single chunks ≡ all_runs
  runs_are = ap (λ rs. rs ++ map single chunks) marks_are

  pub has_room : length ats ≡ 2 + files_of_sessions c.sessions + lists_of_files (files_in c.sessions) → CanHold c ats chunks
  has_room count = record {
    count = count;
    runs =
        ap (λ (x : Layout). list_all (is_run_of x.frames) (to_mark c ats ++ map single chunks)) same_shape ∙ ap (list_all (is_run_of s.shape.frames)) runs_are
        ∙ all_tests (FitsIn s.shape) (is_run_of s.shape.frames) (run_of s.shape) all_runs all_fit;
    apart = ap all_runs_apart runs_are ∙ spread_apart all_runs all_spread;
    scratch =
        ap (λ (x : Layout). list_all (off_scratch x.scratch) (to_mark c ats ++ map single chunks)) same_shape ∙ ap (list_all (off_scratch s.shape.scratch)) runs_are
        ∙ all_tests (FitsIn s.shape) (off_scratch s.shape.scratch) (λ r f. off_of s.shape r here f) all_runs all_fit;
  }

pub carried_has_room : CarriedHasRoom
carried_has_room labels w ram c ats chunks sound state layout count takes = has_room labels w ram c ats chunks sound state layout takes count
