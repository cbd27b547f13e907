-- The objects with which a kernel begins are those of the world that follows.
use Rattle.std.proofs.Common.{◌≡◌, ℕ, zero, suc, ◌+◌, ◌-◌, Bool, true, false, cond, List, [], ◌∷◌, map, length, take, refl, sym, ap, ◌∙◌, subst, arith}
use Rattle.std.specs.Prelude.{◌==◌, nat_lt, Option, Some, None, slice_get, slice_index_or, option_map}
use Rattle.std.specs.FinMap as finmap
use Rattle.std.proofs.lemmas.List.{length-map}
use Rattle.std.proofs.lemmas.List.Sums.{sum_by-cons}
use Rattle.ho_base.specs.Objects.{pool_no, registry_no, handler_no, session_no, file_no}
use Rattle.ho_base.specs.declared.limits.TheConstants.{OUT_SLOTS, FILES}
use Rattle.ho_events.specs.File.{FileState}
use Rattle.ho_events.specs.Handler.{HandlerState, cold_handler}
use Rattle.ho_events.specs.Pool.{PoolState}
use Rattle.ho_events.specs.Registry.{RegistryState}
use Rattle.ho_events.specs.Session.{SessionState, Free, In}
use Rattle.ho_world.specs.Frozen.{CarriedFile as FileOf, CarriedSession as SessionOf, Frozen, carried_files, held, next, next_pool, next_registry, next_handler, next_session, next_file, next_listed, waiting_session, first_number}
use Rattle.ho_world.specs.World.{Nothing, PoolIn, RegistryIn, HandlerIn, SessionIn, FileIn, by_number}
use Rattle.machine_core.specs.Kernels.{if_built, slot_state, begins_with}
use Rattle.machine_core.specs.Objects.{PoolSpot, RegistrySpot, SessionSpot, FileSpot, NoSpot, spot_at}
use Rattle.phys_frames.specs.Memory.{Memory}
use Rattle.pool_core.specs.PoolAdopting.{adopted_pool, adopted_run}
use Rattle.record_frames.specs.Ram.{Ram}
use Rattle.record_frames.specs.Sheeted.{ram_of}
use Rattle.record_frames.specs.State.{file_in, session_in, state_in}
use Rattle.record_frames.specs.declared.carried.Carried.{Carried}
use Rattle.record_frames.specs.declared.carried.CarriedSession.{CarriedSession}
use Rattle.registry_core.specs.Registries.{waiting_registry}
use Rattle.session_core.specs.SessionShown.{TokensRise}
use Rattle.session_core.specs.Sessions.{fresh_incoming}
use Rattle.next_laws.specs.Begins.{are_memfds, PoolIsNext, RegistryIsNext, SessionIsNext}
use Rattle.next_laws.specs.Follows.{CanBegin}
use Rattle.kexec_boot.specs.Files.{plain_in, runs_in, states_with}
use Rattle.kexec_boot.specs.Waiting.{TokensOfAll, waiting_from}
use Rattle.kexec_boot.proofs.CarriedParts.{names_same, listed_same, count_same, files_count, states_same, runs_same, can_wait}

-- ---- states by number

module _ (P P' : PoolState) (R R' : RegistryState) (H H' : HandlerState) (S S' : SessionState) (F F' : Option FileState) (p : P ≡ P') (r : R ≡ R') (s : S ≡ S') (f : F ≡ F') where
  picked : (a b c d e : Bool)
      → if_built (cond a PoolSpot (cond b RegistrySpot (cond c NoSpot (cond d SessionSpot (cond e FileSpot NoSpot)))))
      (cond a (PoolIn P) (cond b (RegistryIn R) (cond c (HandlerIn H) (cond d (SessionIn S) (cond e (FileIn F) Nothing)))))
      ≡ if_built (cond a PoolSpot (cond b RegistrySpot (cond c NoSpot (cond d SessionSpot (cond e FileSpot NoSpot)))))
      (cond a (PoolIn P') (cond b (RegistryIn R') (cond c (HandlerIn H') (cond d (SessionIn S') (cond e (FileIn F') Nothing)))))
  picked true b c d e = ap (λ x. Some (PoolIn x)) p
  picked false true c d e = ap (λ x. Some (RegistryIn x)) r
  picked false false true d e = refl
  picked false false false true e = ap (λ x. Some (SessionIn x)) s
  picked false false false false true = ap (λ x. Some (FileIn x)) f
  picked false false false false false = refl

world_same : (P P' : PoolState) (R R' : RegistryState) (H H' : ℕ → HandlerState) (S S' : ℕ → SessionState) (F F' : ℕ → Option FileState) → P ≡ P' → R ≡ R'
    → ((i : ℕ) → S i ≡ S' i) → ((i : ℕ) → F i ≡ F' i) → (n : ℕ) → if_built (spot_at n) (by_number P R H S F n) ≡ if_built (spot_at n) (by_number P' R' H' S' F' n)
world_same P P' R R' H H' S S' F F' p r s f n =
    picked P P' R R' (H (n - handler_no 0)) (H' (n - handler_no 0)) (S (n - session_no 0)) (S' (n - session_no 0)) (F (n - file_no 0)) (F' (n - file_no 0)) p r (s (n - session_no 0)) (f (n - file_no 0))
    (n == pool_no) (n == registry_no) (nat_lt n (session_no 0)) (nat_lt n (file_no 0)) (nat_lt n (file_no FILES))

-- ---- sessions

abbrev sessions_in : Ram → List CarriedSession → List SessionOf
sessions_in ram ss = map (session_in ram) ss

abbrev waits_from : ℕ → Option SessionOf → SessionState
waits_from n None = Free
waits_from n (Some s) = In s.name false (next_listed n s.files finmap.empty)

waits_at : (ram : Ram) → SessionIsNext → (n : ℕ) (ss : List CarriedSession) (i : ℕ) → TokensOfAll ss
    → slice_index_or (waiting_from n ss) i Free ≡ waits_from (n + first_number (sessions_in ram ss) i) (slice_get (sessions_in ram ss) i)
waits_at ram law n [] zero h = refl
waits_at ram law n [] (suc i) h = refl
waits_at ram law n (s ∷ ss) zero h =
    let same = listed_same ram n s.files in
    let start : n + 0 ≡ n = omega arith in
    ap (fresh_incoming s.name) same
    ∙ law n s.name (map (file_in ram) s.files) (subst TokensRise same (h.0 n))
    ∙ ap (λ (m : ℕ). In s.name false (next_listed m (map (file_in ram) s.files) finmap.empty)) (sym start)
waits_at ram law n (s ∷ ss) (suc i) h =
    let rest = waits_at ram law (n + length s.files) ss i h.1 in
    let len = length-map s.files (file_in ram) in
    let cons : first_number (sessions_in ram (s ∷ ss)) (suc i) ≡ length (map (file_in ram) s.files) + first_number (sessions_in ram ss) i =
    sum_by-cons (λ x. x) (length (map (file_in ram) s.files)) (map (λ (t : SessionOf). length t.files) (take i (sessions_in ram ss))) in
    let more : n + length s.files + first_number (sessions_in ram ss) i ≡ n + first_number (sessions_in ram (s ∷ ss)) (suc i) = omega (arith, len, cons) in
    rest ∙ ap (λ (m : ℕ). waits_from m (slice_get (sessions_in ram ss) i)) more

waiting_is : (f : Frozen) (i : ℕ) (o : Option SessionOf) → waits_from (0 + first_number f.sessions i) o ≡ waiting_session f i o
waiting_is f i None = refl
waiting_is f i (Some s) = let e : 0 + first_number f.sessions i ≡ first_number f.sessions i = omega arith in ap (λ (m : ℕ). In s.name false (next_listed m s.files finmap.empty)) e

slots_same : (ram : Ram) (c : Carried) → SessionIsNext → TokensOfAll c.sessions → (s : ℕ) → slot_state (waiting_from 0 c.sessions) s ≡ next_session (state_in ram c) s
slots_same ram c law tokens s =
    ap (λ (x : SessionState). cond (nat_lt s OUT_SLOTS) Free x)
    (waits_at ram law 0 c.sessions (s - OUT_SLOTS) tokens ∙ waiting_is (state_in ram c) (s - OUT_SLOTS) (slice_get (sessions_in ram c.sessions) (s - OUT_SLOTS)))

-- ---- files

held_at : (cs : List FileOf) (i : ℕ) → slice_index_or (map (λ (c : FileOf). Some (held c)) cs) i None ≡ option_map held (slice_get cs i)
held_at [] zero = refl
held_at [] (suc i) = refl
held_at (c ∷ cs) zero = refl
held_at (c ∷ cs) (suc i) = held_at cs i

files_same : (m : Memory) (c : Carried) → are_memfds (state_in (ram_of m) c) ≡ true → (i : ℕ)
    → slice_index_or (states_with (plain_in c.sessions) (map (adopted_run m) (runs_in c.sessions))) i None ≡ next_file (state_in (ram_of m) c) i
files_same m c memfds i =
    ap (λ l. slice_index_or l i None) (states_same m c.sessions memfds) ∙ held_at (carried_files (state_in (ram_of m) c)) i

-- ---- all objects

pub pool_same : (ram : Ram) (c : Carried) → PoolIsNext → CanBegin (state_in ram c) → adopted_pool c.shape (runs_in c.sessions) ≡ next_pool (state_in ram c)
pool_same ram c law can = ap (adopted_pool c.shape) (runs_same ram c.sessions) ∙ law (state_in ram c) can.bounds

pub registry_same : (ram : Ram) (c : Carried) → RegistryIsNext → CanBegin (state_in ram c)
    → waiting_registry (map (λ (s : CarriedSession). s.name) c.sessions) (length (plain_in c.sessions)) ≡ next_registry (state_in ram c)
registry_same ram c law can =
    (λ j. waiting_registry (sym (names_same ram c.sessions) j) ((files_count c.sessions ∙ sym (count_same ram c.sessions)) j)) ∙ law (state_in ram c) can.distinct

-- the parts with which a kernel begins, and the world that follows
pub next_begun : (m : Memory) (c : Carried) (pool : PoolState) (registry : RegistryState) (sessions : List SessionState) (files : List (Option FileState)) → PoolIsNext → RegistryIsNext → SessionIsNext
    → CanBegin (state_in (ram_of m) c) → are_memfds (state_in (ram_of m) c) ≡ true → pool ≡ adopted_pool c.shape (runs_in c.sessions)
    → registry ≡ waiting_registry (map (λ (s : CarriedSession). s.name) c.sessions) (length (plain_in c.sessions)) → sessions ≡ waiting_from 0 c.sessions
    → files ≡ states_with (plain_in c.sessions) (map (adopted_run m) (runs_in c.sessions))
    → (n : ℕ) → begins_with pool registry sessions files n ≡ if_built (spot_at n) ((next (state_in (ram_of m) c)).at n)
next_begun m c pool registry sessions files pools registries waits can memfds p r s f n =
    let ram = ram_of m in
    let g : Frozen = state_in ram c in
    world_same pool (next_pool g) registry (next_registry g) (λ k. cold_handler) (next_handler g) (slot_state sessions) (next_session g) (λ i. slice_index_or files i None) (next_file g)
    (p ∙ pool_same ram c pools can) (r ∙ registry_same ram c registries can)
    (λ i. ap (λ l. slot_state l i) s ∙ slots_same ram c waits (can_wait ram c can).tokens i)
    (λ i. ap (λ l. slice_index_or l i None) f ∙ files_same m c memfds i) n
