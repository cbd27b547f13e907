-- What is frozen of a sound world is within the limits of what is carried.
use Rattle.std.proofs.Common.{◌≡◌, ℕ, ◌+◌, ◌-◌, ◌*◌, ◌%◌, ◌^◌, ◌<◌, ◌≤◌, Bool, true, false, List, [], ◌∷◌, ◌++◌, map, length, get_or, refl, sym, ap, subst, ◌∙◌, arith, Ordering, Less, Equal, Greater}
use Rattle.std.specs.Prelude.{None, Some, not, min, ◌&&◌, ◌||◌, ◌==◌, nat_lt, nat_le, flat_map, IsTrue}
use Rattle.std.specs.FinMap as finmap
use Rattle.std.specs.List.{AllByRecursion, list_all, list_any}
use Rattle.std.specs.Ordering.{nat_cmp, ordering_then}
use Rattle.std.specs.Cmp.{ranked}
use Rattle.std.specs.Cmp.Lexicographic.{slice_cmp}
use Rattle.std.proofs.Math.Nat.{div-le_of_le-mul}
use Rattle.std.proofs.lemmas.Bool.{and_from, or_left, or_right, le-leb, lt-ltb, eq-eqb}
use Rattle.std.proofs.lemmas.List.{length-map, map-append}
use Rattle.std.proofs.lemmas.Nat.{pow_pos}
use Rattle.ho_base.specs.ShapeRule.{Layout, is_layout}
use Rattle.ho_base.specs.NameRule.{is_name}
use Rattle.ho_base.specs.declared.limits.TheConstants.{PAGE_BYTES, MAX_ORDER, MAX_FRAMES, FILE_BYTES, OUT_SLOTS, SESSION_FILES, FILES}
use Rattle.ho_base.specs.declared.numbers.Kind.{Kind}
use Rattle.ho_base.specs.declared.numbers.Kind.TheVariants.{Memfd, Dev0, Dev1, Dev2, Dev3}
use Rattle.ho_events.specs.Handler.{cold_handler}
use Rattle.ho_events.specs.Lists.{firsts, pieces, upto}
use Rattle.ho_world.specs.Frozen.{CarriedFile as FileState, CarriedSession as SessionState, Frozen, MOST_UPDATES, carried_bounds, bound_of, carried_files, frozen}
use Rattle.ho_world.specs.Sequences.{Labels}
use Rattle.ho_world.specs.World.{World, HandlerIn, handler_in, pool_at}
use Rattle.record_frames.specs.Kept.{devices, same_kind, is_bound_frame}
use Rattle.record_frames.specs.Ram.{Ram}
use Rattle.record_frames.specs.Rules.{all_rise, bytes_before, is_of_kind, is_run, fits}
use Rattle.record_frames.specs.State.{bound_among, file_in, session_in, state_in}
use Rattle.record_frames.specs.Writing.{file_slot_of, files_in}
use Rattle.record_frames.specs.declared.carried.Carried.{Carried}
use Rattle.record_frames.specs.declared.carried.CarriedFile.{CarriedFile}
use Rattle.record_frames.specs.declared.carried.CarriedSession.{CarriedSession}
use Rattle.kho_laws.specs.Carrying.{can_be_carried, has_its_bound}
use Rattle.kho_laws.specs.Sessions.{is_carried_file, is_carried_session, are_carried}
use Rattle.balance_laws.specs.Carrying.{Rise, CarriedFits, CanCarry}
use Rattle.balance_laws.specs.Sound.{Sound, RunFits}
use Rattle.balance_laws.proofs.CarriedAll.{sound_can_carry}
use Rattle.balance_laws.proofs.Numbers.{all_weaker}
use Rattle.sound_carried.specs.Fitting.{IsOfFrames, CarriedIsFit}

-- ---- lists

all_zip : {A : Type 0} (P Q : A → Type 0) (xs : List A) → AllByRecursion P xs → AllByRecursion Q xs → AllByRecursion (λ x. P x × Q x) xs
all_zip P Q [] a b = tt
all_zip P Q (x ∷ xs) a b = ((a.0, b.0), all_zip P Q xs a.1 b.1)

pub all_unmapped : {A B : Type 0} (P : B → Type 0) (f : A → B) (xs : List A) → AllByRecursion P (map f xs) → AllByRecursion (λ x. P (f x)) xs
all_unmapped P f [] h = tt
all_unmapped P f (x ∷ xs) h = (h.0, all_unmapped P f xs h.1)

all_cut : {A : Type 0} (P : A → Type 0) (xs ys : List A) → AllByRecursion P (xs ++ ys) → AllByRecursion P xs × AllByRecursion P ys
all_cut P [] ys h = (tt, h)
all_cut P (x ∷ xs) ys h = let r = all_cut P xs ys h.1 in ((h.0, r.0), r.1)

pub all_tests : {A : Type 0} (P : A → Type 0) (t : A → Bool) → ((x : A) → P x → t x ≡ true) → (xs : List A) → AllByRecursion P xs → list_all t xs ≡ true
all_tests P t is [] h = refl
all_tests P t is (x ∷ xs) h = and_from (t x) (list_all t xs) (is x h.0) (all_tests P t is xs h.1)

-- ---- orders

less_is : (a b : ℕ) → nat_cmp a b ≡ Less → a < b
less_is a b h = ranked a b Less (sym h)

same_is : (a b : ℕ) → nat_cmp a b ≡ Equal → a ≡ b
same_is a b h = ranked a b Equal (sym h)

-- names in the order of maps are names in the order of bytes
pub before_is : (xs ys : List ℕ) → slice_cmp nat_cmp xs ys ≡ Less → bytes_before xs ys ≡ true
before_is [] [] h = absurd cc
before_is [] (y ∷ ys) h = refl
before_is (x ∷ xs) [] h = absurd cc
before_is (x ∷ xs) (y ∷ ys) h = by_order (nat_cmp x y) refl h (λ k. before_is xs ys k)
  where
    by_order : (c : Ordering) → nat_cmp x y ≡ c → ordering_then c (slice_cmp nat_cmp xs ys) ≡ Less → (slice_cmp nat_cmp xs ys ≡ Less → bytes_before xs ys ≡ true) → (nat_lt x y || (x == y && bytes_before xs ys)) ≡ true
    by_order Less is k rest = or_left (nat_lt x y) _ (lt-ltb x y (less_is x y is))
    by_order Equal is k rest = or_right (nat_lt x y) _ (and_from (x == y) (bytes_before xs ys) (eq-eqb x y (same_is x y is)) (rest k))
    by_order Greater is k rest = absurd cc

-- ---- one file

-- a run that fits is one of the machine's
pub run_is : (shape : Layout) (p o : ℕ) → RunFits shape p o → is_run shape.frames o p ≡ true
run_is shape p o fit =
    let some : 0 < 2 ^ o = pow_pos o in
    let first : 0 < p + 0 = (fit.usable 0 some).some in
    let last : p + (2 ^ o - 1) < shape.frames = (fit.usable (2 ^ o - 1) (omega (arith, some))).within in
    and_from (nat_lt 0 p && p % 2 ^ o == 0) (nat_le (p + 2 ^ o) shape.frames) (and_from (nat_lt 0 p) (p % 2 ^ o == 0) (lt-ltb 0 p (omega (arith, first))) (eq-eqb (p % 2 ^ o) 0 fit.aligned))
    (le-leb (p + 2 ^ o) shape.frames (omega (arith, some, last)))

-- a file within its limit has no more runs than a machine has frames
few_runs : (size o : ℕ) → size ≤ FILE_BYTES → pieces size (PAGE_BYTES * 2 ^ o) ≤ MAX_FRAMES
few_runs size o low =
    let some : 0 < 2 ^ o = pow_pos o in
    div-le_of_le-mul (PAGE_BYTES * 2 ^ o) (enough (2 ^ o) some)
  where
    enough : (x : ℕ) → 0 < x → size + (PAGE_BYTES * x - 1) ≤ PAGE_BYTES * x * MAX_FRAMES
    enough x some = omega (arith, some, low)

-- what is known of a file
record IsGood (ram : Ram) (w : World) (f : CarriedFile) : Type 0 where
  fit : CarriedFits (file_in ram f)
  owned : AllByRecursion (λ p. is_run (pool_at w).shape.frames f.order.0 p ≡ true) (firsts f.runs)
  token : f.token.0 < 2 ^ 64
  size : length (file_in ram f).bytes ≡ f.size

memfd_slot : (f : CarriedFile) (k : Kind) → k ≡ Memfd → f.handle ≡ 0 → is_of_kind (file_slot_of f 0) k ≡ true
memfd_slot f k is none = subst (λ k. is_of_kind (file_slot_of f 0) k ≡ true) (sym is) (eq-eqb f.handle 0 none)

file_is : (ram : Ram) (w : World) (f : CarriedFile) → IsGood ram w f → is_carried_file (pool_at w).shape.frames f ≡ true
file_is ram w f good =
    let size : f.size ≤ FILE_BYTES = subst (λ n. n ≤ FILE_BYTES) good.size good.fit.size in
    let position : f.position ≤ f.size = subst (λ n. f.position ≤ n) good.size good.fit.position in
    let runs : length f.runs ≡ pieces f.size (PAGE_BYTES * 2 ^ f.order.0) = sym (length-map f.runs (λ p. p.0)) ∙ good.fit.runs ∙ ap (λ n. pieces n (PAGE_BYTES * 2 ^ f.order.0)) good.size in
    and_from _ (list_all (is_run (pool_at w).shape.frames f.order.0) (firsts f.runs))
    (and_from _ (nat_le (length f.runs) MAX_FRAMES)
    (and_from _ (fits f.handle)
    (and_from _ (fits f.token.0)
    (and_from _ (is_of_kind (file_slot_of f 0) f.kind)
    (and_from _ (length f.runs == pieces f.size (PAGE_BYTES * 2 ^ f.order.0))
    (and_from _ (nat_le f.position f.size) (and_from (nat_le f.order.0 MAX_ORDER) (nat_le f.size FILE_BYTES) (le-leb f.order.0 MAX_ORDER good.fit.order) (le-leb f.size FILE_BYTES size)) (le-leb f.position f.size position))
    (eq-eqb _ _ runs))
    (memfd_slot f f.kind good.fit.kind good.fit.handle))
    (lt-ltb f.token.0 (2 ^ 64) good.token))
    (ap fits good.fit.handle))
    (le-leb (length f.runs) MAX_FRAMES (subst (λ n. n ≤ MAX_FRAMES) (sym runs) (few_runs f.size f.order.0 size))))
    (all_tests (λ p. is_run (pool_at w).shape.frames f.order.0 p ≡ true) (is_run (pool_at w).shape.frames f.order.0) (λ p h. h) (firsts f.runs) good.owned)

-- ---- all files and sessions

module _ (ram : Ram) where
  -- the files of what is carried are those of the state
  pub files_are : (ss : List CarriedSession) → flat_map (λ (s : SessionState). s.files) (map (session_in ram) ss) ≡ map (file_in ram) (files_in ss)
  files_are [] = refl
  files_are (s ∷ ss) = ap (λ fs. map (file_in ram) s.files ++ fs) (files_are ss) ∙ sym (map-append (file_in ram) s.files (files_in ss))

  names_rise : (ss : List CarriedSession) → Rise (slice_cmp nat_cmp) (map (λ (s : SessionState). s.name) (map (session_in ram) ss)) → all_rise (λ (a b : CarriedSession). bytes_before a.name b.name) ss ≡ true
  names_rise [] h = refl
  names_rise (s ∷ []) h = refl
  names_rise (s ∷ t ∷ ss) h = and_from (bytes_before s.name t.name) _ (before_is s.name t.name h.0.0) (names_rise (t ∷ ss) h.1)

  tokens_rise : (fs : List CarriedFile) → Rise nat_cmp (map (λ (f : FileState). f.token) (map (file_in ram) fs)) → all_rise (λ (a b : CarriedFile). nat_lt a.token.0 b.token.0) fs ≡ true
  tokens_rise [] h = refl
  tokens_rise (f ∷ []) h = refl
  tokens_rise (f ∷ g ∷ fs) h = and_from (nat_lt f.token.0 g.token.0) _ (lt-ltb f.token.0 g.token.0 (less_is f.token.0 g.token.0 h.0.0)) (tokens_rise (g ∷ fs) h.1)

  sessions_are : (w : World) (ss : List CarriedSession) → AllByRecursion (λ (s : CarriedSession). IsTrue (is_name s.name)) ss
      → AllByRecursion (λ (s : SessionState). length s.files ≤ SESSION_FILES) (map (session_in ram) ss)
      → AllByRecursion (λ (s : SessionState). Rise nat_cmp (map (λ (f : FileState). f.token) s.files)) (map (session_in ram) ss)
      → AllByRecursion (IsGood ram w) (files_in ss) → list_all (is_carried_session (pool_at w).shape.frames) ss ≡ true
  sessions_are w [] names few tokens good = refl
  sessions_are w (s ∷ ss) names few tokens good =
      let parts = all_cut (IsGood ram w) s.files (files_in ss) good in
      let low : length s.files ≤ SESSION_FILES = subst (λ n. n ≤ SESSION_FILES) (length-map s.files (file_in ram)) few.0 in
      and_from (is_carried_session (pool_at w).shape.frames s) (list_all (is_carried_session (pool_at w).shape.frames) ss)
      (and_from _ (list_all (is_carried_file (pool_at w).shape.frames) s.files)
      (and_from _ (all_rise (λ (a b : CarriedFile). nat_lt a.token.0 b.token.0) s.files)
      (and_from (is_name s.name) (nat_le (length s.files) SESSION_FILES) names.0 (le-leb (length s.files) SESSION_FILES low))
      (tokens_rise s.files tokens.0))
      (all_tests (IsGood ram w) (is_carried_file (pool_at w).shape.frames) (file_is ram w) s.files parts.0))
      (sessions_are w ss names.1 few.1 tokens.1 parts.1)

-- no file is of a kind of device files
none_of : (ram : Ram) (w : World) (kind : Kind) → same_kind Memfd kind ≡ false → (fs : List CarriedFile) → AllByRecursion (IsGood ram w) fs → list_any (λ (f : CarriedFile). same_kind f.kind kind) fs ≡ false
none_of ram w kind other [] good = refl
none_of ram w kind other (f ∷ fs) good =
    ap (λ k. same_kind k kind || list_any (λ (f : CarriedFile). same_kind f.kind kind) fs) good.0.fit.kind
    ∙ ap (λ b. b || list_any (λ (f : CarriedFile). same_kind f.kind kind) fs) other ∙ none_of ram w kind other fs good.1

-- a sound world has no bound record
pub no_bounds : (labels : ℕ → Labels) (w : World) → Sound w labels → carried_bounds w ≡ None ∷ None ∷ None ∷ None ∷ []
unfolding upto
no_bounds labels w sound = λ j. bound 2 (sound.sorts 2) j ∷ bound 3 (sound.sorts 3) j ∷ bound 4 (sound.sorts 4) j ∷ bound 5 (sound.sorts 5) j ∷ []
  where
    bound : (o : ℕ) → w.at o ≡ HandlerIn cold_handler → bound_of (handler_in (w.at o)).outgoing ≡ None
    bound o is = ap (λ s. bound_of (handler_in s).outgoing) is

module _ (labels : ℕ → Labels) (w : World) (ram : Ram) (c : Carried) (sound : Sound w labels) (state : state_in ram c ≡ frozen w) where
  pub can : CanCarry w
  can = sound_can_carry labels w sound

  pub shape_is : c.shape ≡ (pool_at w).shape
  shape_is = ap (λ (f : Frozen). f.shape) state

  -- what is known of all carried files, of those that the program has
  pub known : (P : FileState → Type 0) → AllByRecursion P (carried_files (frozen w)) → AllByRecursion (λ f. P (file_in ram f)) (files_in c.sessions)
  known P h =
      all_unmapped P (file_in ram) (files_in c.sessions)
      (subst (AllByRecursion P) (files_are ram c.sessions) (subst (λ (f : Frozen). AllByRecursion P (carried_files f)) (sym state) h))

  pub bounds_are : map (bound_among c.bounds) devices ≡ None ∷ None ∷ None ∷ None ∷ []
  bounds_are = ap (λ (f : Frozen). f.bounds) state ∙ no_bounds labels w sound

  module _ (of_frames : IsOfFrames ram c) where
    runs_of : (f : CarriedFile) → AllByRecursion (λ p. finmap.get (pool_at w).owned p ≡ Some f.order.0) (firsts f.runs) → AllByRecursion (λ p. is_run (pool_at w).shape.frames f.order.0 p ≡ true) (firsts f.runs)
    runs_of f h =
        all_weaker (λ p. finmap.get (pool_at w).owned p ≡ Some f.order.0) (λ p. is_run (pool_at w).shape.frames f.order.0 p ≡ true)
        (λ p e. run_is (pool_at w).shape p f.order.0 (sound.parts.runs.each p f.order.0 e)) (firsts f.runs) h

    all_good : AllByRecursion (IsGood ram w) (files_in c.sessions)
    all_good =
        gathered (files_in c.sessions) (known CarriedFits can.fit)
        (known (λ (f : FileState). AllByRecursion (λ p. finmap.get (pool_at w).owned p ≡ Some f.order) f.runs) can.owned)
        of_frames.tokens of_frames.sizes
      where
        gathered : (fs : List CarriedFile) → AllByRecursion (λ f. CarriedFits (file_in ram f)) fs
            → AllByRecursion (λ (f : CarriedFile). AllByRecursion (λ p. finmap.get (pool_at w).owned p ≡ Some f.order.0) (firsts f.runs)) fs
            → AllByRecursion (λ (f : CarriedFile). f.token.0 < 2 ^ 64) fs → AllByRecursion (λ (f : CarriedFile). length (file_in ram f).bytes ≡ f.size) fs → AllByRecursion (IsGood ram w) fs
        gathered [] fit owned tokens sizes = tt
        gathered (f ∷ fs) fit owned tokens sizes =
            (record { fit = fit.0; owned = runs_of f owned.0; token = tokens.0; size = sizes.0 }, gathered fs fit.1 owned.1 tokens.1 sizes.1)

    sessions_fit : are_carried c.shape.frames c.sessions ≡ true
    sessions_fit =
        let few : length c.sessions ≤ OUT_SLOTS =
        subst (λ n. n ≤ OUT_SLOTS) (length-map c.sessions (session_in ram)) (subst (λ (f : Frozen). length f.sessions ≤ OUT_SLOTS) (sym state) can.sessions) in
        let files : length (files_in c.sessions) ≤ FILES =
        subst (λ n. n ≤ FILES) (ap length (files_are ram c.sessions) ∙ length-map (files_in c.sessions) (file_in ram)) (subst (λ (f : Frozen). length (carried_files f) ≤ FILES) (sym state) can.files) in
        ap (λ (s : Layout). are_carried s.frames c.sessions) shape_is
        ∙ and_from _ (list_all (is_carried_session (pool_at w).shape.frames) c.sessions)
        (and_from _ (all_rise (λ (a b : CarriedSession). bytes_before a.name b.name) c.sessions)
        (and_from (nat_le (length c.sessions) OUT_SLOTS) (nat_le (length (files_in c.sessions)) FILES) (le-leb (length c.sessions) OUT_SLOTS few) (le-leb (length (files_in c.sessions)) FILES files))
        (names_rise ram c.sessions (subst (λ (f : Frozen). Rise (slice_cmp nat_cmp) (map (λ (s : SessionState). s.name) f.sessions)) (sym state) can.names)))
        (sessions_are ram w c.sessions of_frames.names
        (subst (λ (f : Frozen). AllByRecursion (λ (s : SessionState). length s.files ≤ SESSION_FILES) f.sessions) (sym state) can.few)
        (subst (λ (f : Frozen). AllByRecursion (λ (s : SessionState). Rise nat_cmp (map (λ (f : FileState). f.token) s.files)) f.sessions) (sym state) can.tokens) all_good)

    number_fits : (nat_le 1 c.number && nat_le c.number MOST_UPDATES) ≡ true
    number_fits =
        let is : c.number ≡ min (w.number + 1) MOST_UPDATES = ap (λ (f : Frozen). f.number) state in
        and_from (nat_le 1 c.number) (nat_le c.number MOST_UPDATES) (le-leb 1 c.number (omega (arith, is))) (le-leb c.number MOST_UPDATES (omega (arith, is)))

    no_bound : (kind : Kind) → bound_among c.bounds kind ≡ None → same_kind Memfd kind ≡ false → has_its_bound c kind ≡ true
    no_bound kind none other =
        ap (λ b. is_bound_frame c.shape.frames b (list_any (λ (f : CarriedFile). same_kind f.kind kind) (files_in c.sessions))) none
        ∙ ap not (none_of ram w kind other (files_in c.sessions) all_good)

    bound_at : (i : ℕ) → get_or (map (bound_among c.bounds) devices) i None ≡ get_or (None ∷ None ∷ None ∷ None ∷ []) i None
    bound_at i = ap (λ bs. get_or bs i None) bounds_are

    bounds_fit : list_all (has_its_bound c) devices ≡ true
    bounds_fit =
        and_from (has_its_bound c Dev0) _ (no_bound Dev0 (bound_at 0) refl)
        (and_from (has_its_bound c Dev1) _ (no_bound Dev1 (bound_at 1) refl)
        (and_from (has_its_bound c Dev2) _ (no_bound Dev2 (bound_at 2) refl) (and_from (has_its_bound c Dev3) true (no_bound Dev3 (bound_at 3) refl) refl)))

    pub can_be : IsTrue (can_be_carried c)
    can_be =
        and_from _ (list_all (has_its_bound c) devices)
        (and_from _ (are_carried c.shape.frames c.sessions)
        (and_from (is_layout c.shape.frames c.shape.scratch) (nat_le 1 c.number && nat_le c.number MOST_UPDATES) of_frames.shape number_fits) sessions_fit) bounds_fit

pub carried_is_fit : CarriedIsFit
carried_is_fit labels w ram c sound state of_frames = can_be labels w ram c sound state of_frames
