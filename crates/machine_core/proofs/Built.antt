-- How a kernel is built from the parts that it begins with.
use Rattle.std.proofs.Common.{◌≡◌, ◌≢◌, ℕ, ◌+◌, ◌-◌, ◌<◌, ◌≤◌, Bool, true, false, List, [], ◌∷◌, ◌++◌, length, map, refl, sym, ap, subst, ◌∙◌, arith, slice_index_or, slice_set, get_or-set_same, get_or-set_other, zero, suc, inl, inr, ◌⊎◌}
use Rattle.std.specs.Prelude.{Option, None, Some, nat_lt, if◌then◌else◌}
use Rattle.std.proofs.Math.ListN.{length-set, get_or-eq_default}
use Rattle.std.proofs.lemmas.Bool.Decides.{nat_tests, eqb_tells}
use Rattle.ho_base.specs.ShapeRule.{Layout}
use Rattle.ho_base.specs.declared.limits.TheConstants.{FILES, OUT_SLOTS, IN_SLOTS}
use Rattle.ho_base.specs.Objects.{pool_no, registry_no, session_no, file_no}
use Rattle.ho_events.specs.Pool.{PoolState, cold_pool}
use Rattle.ho_events.specs.Registry.{RegistryState, cold_registry}
use Rattle.ho_events.specs.Handler.{HandlerState, cold_handler}
use Rattle.ho_events.specs.Session.{SessionState, Free}
use Rattle.ho_events.specs.File.{FileState}
use Rattle.ho_events.specs.History.{run_from}
use Rattle.ho_world.specs.World.{State, PoolIn, RegistryIn, SessionIn, FileIn, by_number}
use Rattle.pool_core.specs.PoolValues.{PoolValue}
use Rattle.registry_core.specs.RegistryValues.{RegistryValue}
use Rattle.session_core.specs.SessionValues.{SessionValue}
use Rattle.memfd_file.specs.FileValues.{FileValue}
use Rattle.machine_core.specs.declared.building.Plan.{Plan}
use Rattle.machine_core.specs.declared.object.Object.{Object}
use Rattle.machine_core.specs.declared.object.Object.TheVariants as kind_of
use Rattle.machine_core.specs.Agents.{state_in}
use Rattle.machine_core.specs.Building.{planned, IsNew, IsBuilt, AreBuilt, AreNext, BeginFree, BeginAbsent}
use Rattle.machine_core.specs.Kernels.{object_at, start_in, history_in, starts_in, begun_in, histories_in, IsSlot, IsRunAt, AreUpTo, KeepsKernel, if_built, cold_begun, slot_state, begins_with, AreWaiting, AreHeld}
use Rattle.machine_core.specs.Objects.{Start, Spot, PoolSpot, RegistrySpot, SessionSpot, FileSpot, NoSpot, spot_at, spot_of, object_count}
use Rattle.machine_core.proofs.Standing.{past_none, below_or_past, past}

-- ---- which object begins in which state

spot_session : (n : ℕ) → session_no 0 ≤ n → n < file_no 0 → spot_at n ≡ SessionSpot
spot_session n above below = grind (arith, nat_tests)

spot_file : (n : ℕ) → file_no 0 ≤ n → n < file_no FILES → spot_at n ≡ FileSpot
spot_file n above below = grind (arith, nat_tests)

module _ (pool : PoolState) (registry : RegistryState) (handler : ℕ → HandlerState) (session : ℕ → SessionState) (file : ℕ → Option FileState) where
  at_session : (n : ℕ) → session_no 0 ≤ n → n < file_no 0 → by_number pool registry handler session file n ≡ SessionIn (session (n - session_no 0))
  at_session n above below = grind (arith, nat_tests)

  at_file : (n : ℕ) → file_no 0 ≤ n → n < file_no FILES → by_number pool registry handler session file n ≡ FileIn (file (n - file_no 0))
  at_file n above below = grind (arith, nat_tests)

slot_out : (sessions : List SessionState) (s : ℕ) → s < OUT_SLOTS → slot_state sessions s ≡ Free
slot_out sessions s below = grind (arith, nat_tests)

slot_in : (sessions : List SessionState) (s : ℕ) → OUT_SLOTS ≤ s → slot_state sessions s ≡ slice_index_or sessions (s - OUT_SLOTS) Free
slot_in sessions s above = grind (arith, nat_tests)

abbrev pub starts_of : List SessionValue → List SessionState
starts_of sessions = map (λ (s : SessionValue). s.start) sessions

abbrev pub states_of : List FileValue → List (Option FileState)
states_of files = map (λ (f : FileValue). f.start) files

as_many_starts : (sessions : List SessionValue) → length (starts_of sessions) ≡ length sessions
as_many_starts [] = refl
as_many_starts (s ∷ sessions) = ap suc (as_many_starts sessions)

as_many_states : (files : List FileValue) → length (states_of files) ≡ length files
as_many_states [] = refl
as_many_states (f ∷ files) = ap suc (as_many_states files)

module _ (plan : Plan) where
  planned_session : (n : ℕ) → session_no 0 ≤ n → n < file_no 0 → planned plan n ≡ SessionIn (slot_state (starts_of plan.sessions.value.items) (n - session_no 0))
  planned_session n above below = at_session plan.pool.value.start plan.registry.value.start (λ k. cold_handler) (slot_state (starts_of plan.sessions.value.items)) (λ f. slice_index_or (states_of plan.files.value.items) f None) n above below

  planned_file : (n : ℕ) → file_no 0 ≤ n → n < file_no FILES → planned plan n ≡ FileIn (slice_index_or (states_of plan.files.value.items) (n - file_no 0) None)
  planned_file n above below = at_file plan.pool.value.start plan.registry.value.start (λ k. cold_handler) (slot_state (starts_of plan.sessions.value.items)) (λ f. slice_index_or (states_of plan.files.value.items) f None) n above below

  -- the outgoing slots begin free, and the incoming ones after the last session that is given
  pub free_out : BeginFree plan (session_no 0) (session_no OUT_SLOTS)
  unfolding BeginFree
  free_out n above below = (
    spot_session n above (omega (arith, below)),
    planned_session n above (omega (arith, below)) ∙ ap SessionIn (slot_out (starts_of plan.sessions.value.items) (n - session_no 0) (omega (arith, above, below))),
  )

  pub free_in : (from : ℕ) → session_no OUT_SLOTS + length plan.sessions.value.items ≤ from → BeginFree plan from (file_no 0)
  unfolding BeginFree
  free_in from behind n above below =
      let start : session_no 0 ≤ n = omega (arith, behind, above) in (
        spot_session n start below,
        planned_session n start below
            ∙ ap SessionIn (slot_in (starts_of plan.sessions.value.items) (n - session_no 0) (omega (arith, behind, above))
            ∙ get_or-eq_default (starts_of plan.sessions.value.items) Free (omega (arith, behind, above, as_many_starts plan.sessions.value.items))),
      )

  -- the files after the last that is given begin absent
  pub absent_after : (from : ℕ) → file_no 0 + length plan.files.value.items ≤ from → BeginAbsent plan from (file_no FILES)
  unfolding BeginAbsent
  absent_after from behind n above below =
      let start : file_no 0 ≤ n = omega (arith, behind, above) in (
        spot_file n start below,
        planned_file n start below
            ∙ ap FileIn (get_or-eq_default (states_of plan.files.value.items) None (omega (arith, behind, above, as_many_states plan.files.value.items))),
      )

  -- ---- a place of the kernel that is built: with no object;  the registry;  a session slot;  a file

  pub none_built : (objects : List (Option Object)) → objects ≡ [] → AreBuilt plan objects
  unfolding AreBuilt
  none_built objects none n below = let nothing : length objects ≡ 0 = ap length none in absurd omega (arith, nothing, below)

  pub pool_gap : IsBuilt plan pool_no None
  pool_gap other = absurd (other refl)

  pub handler_gap : (n : ℕ) → spot_at n ≡ NoSpot → IsBuilt plan n None
  handler_gap n none other = none

  pub registry_is : (r : RegistryValue) → r ≡ plan.registry.value → r.history ≡ [] → IsBuilt plan registry_no (Some (kind_of.Registry r))
  registry_is r same none = (
    (λ e. cc),
    record { here = record { number = refl; kind = refl; machine = tt }; state = ap (λ (v : RegistryValue). RegistryIn v.start) same; history = none },
  )

  not_pool : (n : ℕ) (spot : Spot) → spot_at n ≡ spot → spot ≢ PoolSpot → n ≢ pool_no
  not_pool n spot is other e = other (sym is ∙ ap spot_at e)

  session_at : (s : SessionValue) (n : ℕ) → spot_at n ≡ SessionSpot → s.number ≡ n → planned plan n ≡ SessionIn s.start → s.history ≡ [] → IsBuilt plan n (Some (kind_of.Session s))
  session_at s n spot number state none = (
    not_pool n SessionSpot spot (λ e. cc),
    record { here = record { number = number; kind = sym spot; machine = tt }; state = sym state; history = none },
  )

  file_at : (f : FileValue) (n : ℕ) → spot_at n ≡ FileSpot → f.number ≡ n → f.home ≡ plan.pool.value.home → planned plan n ≡ FileIn f.start → f.history ≡ [] → IsBuilt plan n (Some (kind_of.File f))
  file_at f n spot number home state none = (
    not_pool n FileSpot spot (λ e. cc),
    record { here = record { number = number; kind = sym spot; machine = home }; state = sym state; history = none },
  )

  -- a slot that begins free;  a file that begins absent
  pub free_is : (s : SessionValue) (n from to : ℕ) → BeginFree plan from to → from ≤ n → n < to → s.number ≡ n → s.start ≡ Free → s.history ≡ [] → IsBuilt plan n (Some (kind_of.Session s))
  unfolding BeginFree
  free_is s n from to begin above below number start none =
      let here = begin n above below in session_at s n here.0 number (here.1 ∙ ap SessionIn (sym start)) none

  pub absent_is : (f : FileValue) (n from to : ℕ) → BeginAbsent plan from to → from ≤ n → n < to → f.number ≡ n → f.home ≡ plan.pool.value.home → f.start ≡ None → f.history ≡ [] → IsBuilt plan n (Some (kind_of.File f))
  unfolding BeginAbsent
  absent_is f n from to begin above below number home start none =
      let here = begin n above below in file_at f n here.0 number home (here.1 ∙ ap FileIn (sym start)) none

  -- sessions that are given come next, one after the other
  waiting_from : (slot at : ℕ) (sessions : List SessionValue) → at ≡ session_no slot → slot + length sessions ≤ OUT_SLOTS + IN_SLOTS → ((i n : ℕ) → n ≡ slot + i → slice_index_or (starts_of sessions) i Free ≡ slot_state (starts_of plan.sessions.value.items) n) → AreWaiting slot sessions → AreNext plan at (map (λ s. Some (kind_of.Session s)) sessions)
  waiting_from slot at [] is few same w = tt
  waiting_from slot at (s ∷ sessions) is few same w =
      let above : session_no 0 ≤ at = omega (arith, is) in
      let below : at < file_no 0 = omega (arith, is, few) in (
        session_at s at (spot_session at above below) (w.0 ∙ sym is)
            (planned_session at above below ∙ ap SessionIn (sym (same 0 (at - session_no 0) (omega (arith, is))))) w.1,
        waiting_from (slot + 1) (at + 1) sessions (omega (arith, is)) (omega (arith, few)) (λ i n e. same (suc i) n (omega (arith, e))) w.2,
      )

  pub waiting_next : length plan.sessions.value.items ≤ IN_SLOTS → AreWaiting OUT_SLOTS plan.sessions.value.items → AreNext plan (session_no OUT_SLOTS) (map (λ s. Some (kind_of.Session s)) plan.sessions.value.items)
  waiting_next few w =
      waiting_from OUT_SLOTS (session_no OUT_SLOTS) plan.sessions.value.items refl (omega (arith, few))
      (λ i n e. sym (slot_in (starts_of plan.sessions.value.items) n (omega (arith, e)) ∙ ap (λ k. slice_index_or (starts_of plan.sessions.value.items) k Free) (omega (arith, e)))) w

  -- files that are given come next, one after the other
  held_from : (file at : ℕ) (files : List FileValue) → at ≡ file_no file → file + length files ≤ FILES → ((i n : ℕ) → n ≡ file + i → slice_index_or (states_of files) i None ≡ slice_index_or (states_of plan.files.value.items) n None) → AreHeld plan.pool.value.home file files → AreNext plan at (map (λ f. Some (kind_of.File f)) files)
  held_from file at [] is few same h = tt
  held_from file at (f ∷ files) is few same h =
      let above : file_no 0 ≤ at = omega (arith, is) in
      let below : at < file_no FILES = omega (arith, is, few) in (
        file_at f at (spot_file at above below) (h.0 ∙ sym is) h.1
            (planned_file at above below ∙ ap FileIn (sym (same 0 (at - file_no 0) (omega (arith, is))))) h.2,
        held_from (file + 1) (at + 1) files (omega (arith, is)) (omega (arith, few)) (λ i n e. same (suc i) n (omega (arith, e))) h.3,
      )

  pub held_next : length plan.files.value.items ≤ FILES → AreHeld plan.pool.value.home 0 plan.files.value.items → AreNext plan (file_no 0) (map (λ f. Some (kind_of.File f)) plan.files.value.items)
  held_next few h =
      held_from 0 (file_no 0) plan.files.value.items refl (omega (arith, few))
      (λ i n e. ap (λ k. slice_index_or (states_of plan.files.value.items) k None) (omega (arith, e))) h

-- ---- the places with one more

at_end : (xs : List (Option Object)) (x d : Option Object) → slice_index_or (xs ++ x ∷ []) (length xs) d ≡ x
at_end [] x d = refl
at_end (y ∷ xs) x d = at_end xs x d

at_front : (xs : List (Option Object)) (x d : Option Object) (n : ℕ) → n < length xs → slice_index_or (xs ++ x ∷ []) n d ≡ slice_index_or xs n d
at_front [] x d n below = absurd omega (arith, below)
at_front (y ∷ xs) x d zero below = refl
at_front (y ∷ xs) x d (suc n) below = at_front xs x d n (omega (arith, below))

one_more : (xs : List (Option Object)) (x : Option Object) → length (xs ++ x ∷ []) ≡ length xs + 1
one_more [] x = refl
one_more (y ∷ xs) x = omega (arith, one_more xs x)

module _ (plan : Plan) where
  pub built_push : (objects : List (Option Object)) (object : Option Object) → AreBuilt plan objects → IsBuilt plan (length objects) object → AreBuilt plan (objects ++ object ∷ [])
  unfolding AreBuilt
  built_push objects object built is n below =
      elim (eqb_tells n (length objects)) [
        | inl e ↦ subst (λ m. IsBuilt plan m (slice_index_or (objects ++ object ∷ []) m None)) (sym e.1)
            (subst (IsBuilt plan (length objects)) (sym (at_end objects object None)) is)
        | inr e ↦ let front : n < length objects = omega (arith, below, one_more objects object, e.1) in
            subst (IsBuilt plan n) (sym (at_front objects object None n front)) (built n front)
      ]

  -- the pool's own place is empty while the kernel is built
  empty_place : (slot : Option Object) → IsBuilt plan pool_no slot → slot ≡ None
  empty_place None h = refl
  empty_place (Some object) h = absurd (h.0 refl)

  pub pool_place : (objects : List (Option Object)) → AreBuilt plan objects → length objects ≡ object_count → object_at objects pool_no ≡ None
  unfolding AreBuilt
  pool_place objects built count = empty_place _ (built pool_no (omega (arith, count)))

-- ---- the kernel, when the pool is put into its place

real_built : (spot : Spot) (s : State) → spot ≢ NoSpot → if_built spot s ≡ Some s
real_built PoolSpot s h = refl
real_built RegistrySpot s h = refl
real_built SessionSpot s h = refl
real_built FileSpot s h = refl
real_built NoSpot s h = absurd (h refl)

spot_real : (o : Object) → spot_of o ≢ NoSpot
spot_real (kind_of.Pool p) e = cc
spot_real (kind_of.Registry r) e = cc
spot_real (kind_of.Session s) e = cc
spot_real (kind_of.File f) e = cc

run_of_none : (s : Option Start) → IsRunAt s []
unfolding run_from
run_of_none None = tt
run_of_none (Some s) = refl

-- a slot of a kernel that begins
abbrev NewAt : Plan → ℕ → Option Object → Type 0
NewAt plan n None = spot_at n ≡ NoSpot
NewAt plan n (Some o) = IsNew plan n o

module _ (plan : Plan) (n : ℕ) where
  built_slot : (slot : Option Object) → n ≢ pool_no → IsBuilt plan n slot → NewAt plan n slot
  built_slot None other h = h other
  built_slot (Some object) other h = h.1

  new_slot : (slot : Option Object) → NewAt plan n slot → IsSlot plan.pool.value.shape plan.pool.value.home n slot
  new_slot None h = h
  new_slot (Some o) h = h.here

  begun_slot : (slot : Option Object) → NewAt plan n slot → state_in (start_in slot) ≡ if_built (spot_at n) (planned plan n)
  begun_slot None h = sym (ap (λ spot. if_built spot (planned plan n)) h)
  begun_slot (Some o) h = ap Some h.state ∙ sym (real_built (spot_at n) (planned plan n) (λ e. spot_real o (h.here.kind ∙ e)))

  history_slot : (slot : Option Object) → NewAt plan n slot → history_in slot ≡ []
  history_slot None h = refl
  history_slot (Some o) h = h.history

module _ (plan : Plan) (p : PoolValue) (objects : List (Option Object)) (same : plan.pool.value ≡ p) (none : p.history ≡ []) (built : AreBuilt plan objects) (count : length objects ≡ object_count) where
  pool_at : NewAt plan pool_no (Some (kind_of.Pool p))
  pool_at = record {
    here = record { number = refl; kind = refl; machine = (ap (λ (v : PoolValue). v.shape) (sym same), ap (λ (v : PoolValue). v.home) (sym same)) };
    state = ap (λ (v : PoolValue). PoolIn v.start) (sym same);
    history = none;
  }

  abbrev all : List (Option Object)
  all = slice_set objects pool_no (Some (kind_of.Pool p))

  all_count : length all ≡ object_count
  all_count = length-set objects pool_no (Some (kind_of.Pool p)) ∙ count

  each_built : (n : ℕ) → n < object_count → IsBuilt plan n (object_at objects n)
  unfolding AreBuilt
  each_built n below = built n (omega (arith, below, count))

  pool_inside : pool_no < length objects
  pool_inside = omega (arith, count)

  each_from : pool_no < length objects → (n : ℕ) → n < object_count → NewAt plan n (object_at all n)
  each_from within n below = elim (eqb_tells n pool_no) [
    | inl e ↦ subst (λ m. NewAt plan m (object_at all m)) (sym e.1) (rw get_or-set_same pool_at)
    | inr e ↦ let other : n ≢ pool_no = e.1 in rw get_or-set_other (built_slot plan n _ other (each_built n below))
  ]

  each : (n : ℕ) → n < object_count → NewAt plan n (object_at all n)
  each = each_from pool_inside

  pub new_histories : (n : ℕ) → histories_in all n ≡ []
  new_histories n = at (below_or_past n)
    where
      at : (n < object_count) ⊎ (object_count ≤ n) → histories_in all n ≡ []
      at (inl below) = history_slot plan n (object_at all n) (each n below)
      at (inr above) = ap history_in (past all n all_count above)

  new_point : (n : ℕ) → begun_in all n ≡ if_built (spot_at n) (planned plan n)
  new_point n = at (below_or_past n)
    where
      at : (n < object_count) ⊎ (object_count ≤ n) → begun_in all n ≡ if_built (spot_at n) (planned plan n)
      at (inl below) = begun_slot plan n (object_at all n) (each n below)
      at (inr above) = ap (λ x. state_in (start_in x)) (past all n all_count above) ∙ sym (ap (λ spot. if_built spot (planned plan n)) (past_none n above))

  new_states : begun_in all ≡ begins_with plan.pool.value.start plan.registry.value.start (starts_of plan.sessions.value.items) (states_of plan.files.value.items)
  new_states = λ i n. new_point n i

  pub new_begun : (r : RegistryValue) (sessions : List SessionValue) (files : List FileValue) → plan.registry.value ≡ r → plan.sessions.value.items ≡ sessions → plan.files.value.items ≡ files → begun_in all ≡ begins_with p.start r.start (starts_of sessions) (states_of files)
  new_begun r sessions files registry_same sessions_same files_same =
      new_states
      ∙ ap (λ (v : PoolValue). begins_with v.start plan.registry.value.start (starts_of plan.sessions.value.items) (states_of plan.files.value.items)) same
      ∙ ap (λ (v : RegistryValue). begins_with p.start v.start (starts_of plan.sessions.value.items) (states_of plan.files.value.items)) registry_same
      ∙ ap (λ v. begins_with p.start r.start (starts_of v) (states_of plan.files.value.items)) sessions_same
      ∙ ap (λ v. begins_with p.start r.start (starts_of sessions) (states_of v)) files_same

  new_keeps_plan : KeepsKernel plan.pool.value.shape plan.pool.value.home 0 all
  new_keeps_plan = record {
    count = all_count;
    slots = λ n below. new_slot plan n (object_at all n) (each n below);
    runs = λ n. subst (IsRunAt (starts_in all n)) (sym (new_histories n)) (run_of_none (starts_in all n));
    stamps = λ n. subst (AreUpTo 0) (sym (new_histories n)) refl;
  }

  pub new_keeps : KeepsKernel p.shape p.home 0 all
  new_keeps = subst (λ (v : PoolValue). KeepsKernel v.shape v.home 0 all) same new_keeps_plan

-- ---- a cold kernel

state_none : (k : ℕ) → slice_index_or {A = SessionState} [] k Free ≡ Free
state_none k = let past_end : length {A = SessionState} [] ≤ k = omega arith in get_or-eq_default [] Free past_end

slot_none : (s : ℕ) → slot_state [] s ≡ Free
slot_none s = by (nat_lt s OUT_SLOTS)
  where
    by : (b : Bool) → (if b then Free else slice_index_or [] (s - OUT_SLOTS) Free) ≡ Free
    by true = refl
    by false = state_none (s - OUT_SLOTS)

file_none : (f : ℕ) → slice_index_or {A = Option FileState} [] f None ≡ None
file_none f = let past_end : length {A = Option FileState} [] ≤ f = omega arith in get_or-eq_default [] None past_end

pub cold_begins : (shape : Layout) → begins_with (cold_pool shape) cold_registry [] [] ≡ cold_begun shape
cold_begins shape =
    ap (λ session n. if_built (spot_at n) (by_number (cold_pool shape) cold_registry (λ k. cold_handler) session (λ f. slice_index_or [] f None) n)) (λ i s. slot_none s i)
    ∙ ap (λ file n. if_built (spot_at n) (by_number (cold_pool shape) cold_registry (λ k. cold_handler) (λ s. Free) file n)) (λ i f. file_none f i)
