-- How a kernel's frames come home, with what they hold.
use Rattle.std.proofs.Common.{◌≡◌, ℕ, ◌+◌, ◌-◌, ◌*◌, ◌<◌, take, drop, Bool, true, false, List, [], ◌∷◌, length, refl, sym, ap, subst, ◌∙◌, arith, zero, suc, inl, inr, slice_index_or, slice_set, get_or-set_other}
use Rattle.std.specs.Prelude.{Option, None, Some, IsSome, MatchOption, option_map, unwrap_or}
use Rattle.std.specs.List.{All}
use Rattle.std.proofs.lemmas.Bool.Decides.{eqb_tells}
use Rattle.std.proofs.lemmas.List.{get_or_default}
use Rattle.std.proofs.lemmas.Option.{same_Some}
use Rattle.ho_base.specs.Objects.{pool_no}
use Rattle.ho_base.specs.declared.limits.TheConstants.{PAGE_BYTES}
use Rattle.ho_base.specs.declared.numbers.Pfn.{Pfn}
use Rattle.ho_events.specs.File.{FileState}
use Rattle.ho_events.specs.History.{pool_from, registry_from, session_from, file_from}
use Rattle.ho_events.specs.Pool.{PoolState, is_owned}
use Rattle.ho_events.specs.Registry.{RegistryState}
use Rattle.ho_events.specs.Session.{SessionState}
use Rattle.ho_world.specs.World.{PoolIn, RegistryIn, SessionIn, FileIn}
use Rattle.ho_world.proofs.Grow.{file_run, pool_run, registry_run, session_run}
use Rattle.memfd_file.specs.FileValues.{FileValue, FileIs}
use Rattle.file_folios.specs.FileAnswers.{folios_of}
use Rattle.memfd_file.specs.Files.{FileIsOut, with_file_home}
use Rattle.phys_frames.specs.Homes.{HomeId}
use Rattle.phys_frames.specs.Memory.{Memory, FolioValue, AllHome, IsHome, page_at}
use Rattle.pool_core.specs.PoolValues.{PoolValue, PoolIs}
use Rattle.registry_core.specs.RegistryValues.{RegistryValue}
use Rattle.session_core.specs.SessionValues.{SessionValue}
use Rattle.machine_core.specs.declared.object.Object.{Object}
use Rattle.machine_core.specs.declared.object.Object.TheVariants as kind_of
use Rattle.machine_core.specs.Gathered.{HasMore, HoldsFile, HoldsFiles, HoldsRun, BeginsAt, IsFrameOfFile, IsAccounted, piece_of}
use Rattle.machine_core.specs.Kernels.{object_at}
use Rattle.machine_core.specs.Worlds.{state_of, states_in}
use Rattle.machine_core.proofs.MoreHome.{Each, file_runs, folios_more, more_still, run_stays, same_more}

-- what each object and each folio that came home keep of the frames
abbrev pub Held : Option Object → Memory → Type 0
Held x m = HoldsFile m (option_map state_of x)

abbrev pub PageHome : FolioValue → Memory → Type 0
PageHome g m = g.order.0 ≡ 0 → page_at m g.first ≡ Some g.bytes

pub file_stays : (x : Option Object) (a b : Memory) → HasMore a b → Held x a → Held x b
file_stays x a b more h = λ f i first is at. run_stays f.order first (piece_of f i) a b more (h f i first is at)

pub folio_stays : (g : FolioValue) (a b : Memory) → HasMore a b → PageHome g a → PageHome g b
folio_stays g a b more h = λ single. more.kept g.first g.bytes (h single)

-- the states of objects by their kinds
no_registry : (o : Option RegistryState) (s : RegistryState) (f : Option FileState) → unwrap_or (option_map RegistryIn o) (RegistryIn s) ≡ FileIn f → ⊥
no_registry None s f e = cc
no_registry (Some r) s f e = cc

no_session : (o : Option SessionState) (s : SessionState) (f : Option FileState) → unwrap_or (option_map SessionIn o) (SessionIn s) ≡ FileIn f → ⊥
no_session None s f e = cc
no_session (Some r) s f e = cc

pub registry_holds : (m : Memory) (r : RegistryValue) → Held (Some (kind_of.Registry r)) m
registry_holds m r = λ f i first is at. absurd (no_registry (registry_from r.start r.history) r.start (Some f) (sym (ap (λ o. unwrap_or o (RegistryIn r.start)) (registry_run r.start r.history)) ∙ same_Some _ _ is))

pub session_holds : (m : Memory) (s : SessionValue) → Held (Some (kind_of.Session s)) m
session_holds m s = λ f i first is at. absurd (no_session (session_from s.start s.history) s.start (Some f) (sym (ap (λ o. unwrap_or o (SessionIn s.start)) (session_run s.start s.history)) ∙ same_Some _ _ is))

pub nothing_holds : (m : Memory) → Held None m
nothing_holds m = λ f i first is at. absurd cc

file_state : (v : FileValue) (s : Option FileState) → file_from v.start v.history ≡ Some s → state_of (kind_of.File v) ≡ FileIn s
file_state v s e = ap (λ o. unwrap_or o (FileIn v.start)) (file_run v.start v.history ∙ ap (option_map FileIn) e)

pool_state : (v : PoolValue) (s : PoolState) → pool_from v.start v.history ≡ Some s → state_of (kind_of.Pool v) ≡ PoolIn s
pool_state v s e = ap (λ o. unwrap_or o (PoolIn v.start)) (pool_run v.start v.history ∙ ap (option_map PoolIn) e)

-- a file's runs come home
file_in : (a b : Option FileState) → FileIn a ≡ FileIn b → a ≡ b
file_in a b e = cc

more_by : (old : Memory) (home : HomeId) (s : Option FileState) → FileIsOut old home s → HasMore old (with_file_home old home s)
more_by old home None out = same_more old
more_by old home (Some f) out = folios_more old (folios_of f home) out

more_at : (home : HomeId) (o : Option (Option FileState)) (old new : Memory) → MatchOption o ⊥ (λ s. new ≡ with_file_home old home s) → MatchOption o ⊥ (λ s. FileIsOut old home s) → HasMore old new
more_at home None old new came out = absurd came
more_at home (Some s) old new came out = subst (HasMore old) (sym came) (more_by old home s out)

held_at : (v : FileValue) (o : Option (Option FileState)) (old new : Memory) → file_from v.start v.history ≡ o → MatchOption o ⊥ (λ s. new ≡ with_file_home old v.home s) → MatchOption o ⊥ (λ s. FileIsOut old v.home s) → Held (Some (kind_of.File v)) new
held_at v None old new is came out = absurd came
held_at v (Some s) old new is came out = λ f i first same at.
    let file : s ≡ Some f = file_in s (Some f) (sym (file_state v s is) ∙ same_Some _ _ same) in
    subst (λ m. HoldsRun m f.order first (piece_of f i)) (sym (came ∙ ap (with_file_home old v.home) file))
    (file_runs old f v.home i first (subst (FileIsOut old v.home) file out) at)

pub file_more : (v : FileValue) (old new : Memory) → FileIs v (λ s. new ≡ with_file_home old v.home s) → FileIs v (λ s. FileIsOut old v.home s) → HasMore old new
file_more v old new came out = more_at v.home (file_from v.start v.history) old new came out

pub file_holds : (v : FileValue) (old new : Memory) → FileIs v (λ s. new ≡ with_file_home old v.home s) → FileIs v (λ s. FileIsOut old v.home s) → Held (Some (kind_of.File v)) new
file_holds v old new came out = held_at v (file_from v.start v.history) old new refl came out

-- what is home when the pool is taken apart stays so
home_stays : (a b : Memory) (p : Pfn) → HasMore a b → (x : Option (List ℕ)) → page_at a p ≡ x → IsSome x → IsHome b p
home_stays a b p more None is home = absurd cc home
home_stays a b p more (Some bytes) is home = subst IsSome (sym (more.kept p bytes is)) refl

free_by : (o : Option PoolState) (frames : ℕ) (a b : Memory) → HasMore a b → MatchOption o ⊥ (λ s. (p : Pfn) → p.0 < frames → is_owned s p.0 ≡ false → IsHome a p) → MatchOption o ⊥ (λ s. (p : ℕ) → p < frames → is_owned s p ≡ false → IsHome b (record { 0 = p }))
free_by None frames a b more free = absurd free
free_by (Some s) frames a b more free = λ p below not_owned. home_stays a b (record { 0 = p }) more (page_at a (record { 0 = p })) refl (free (record { 0 = p }) below not_owned)

pub free_stays : (pool : PoolValue) (a b c : Memory) → HasMore a b → HasMore b c → PoolIs pool (λ s. (p : Pfn) → p.0 < pool.shape.frames → is_owned s p.0 ≡ false → IsHome a p) → PoolIs pool (λ s. (p : ℕ) → p < pool.shape.frames → is_owned s p ≡ false → IsHome c (record { 0 = p }))
free_stays pool a b c one two free = free_by (pool_from pool.start pool.history) pool.shape.frames a c (more_still a b c one two) free

-- the files of all objects
pub files_of : (objects : List (Option Object)) (m : Memory) → Each Held objects m → HoldsFiles m objects
files_of [] m h n = λ f i first is at. absurd cc
files_of (x ∷ objects) m h zero = h.0
files_of (x ∷ objects) m h (suc n) = files_of objects m h.1 n

-- the files of a kernel are those that it has beside its pool
module _ (objects : List (Option Object)) (pool : PoolValue) (there : object_at objects pool_no ≡ Some (kind_of.Pool pool)) where
  no_pool_file : (o : Option PoolState) (s : PoolState) (f : Option FileState) → unwrap_or (option_map PoolIn o) (PoolIn s) ≡ FileIn f → ⊥
  no_pool_file None s f e = cc
  no_pool_file (Some r) s f e = cc

  at_pool : states_in objects pool_no ≡ Some (state_of (kind_of.Pool pool))
  at_pool = ap (option_map state_of) there

  pool_holds : (m : Memory) → HoldsFile m (states_in objects pool_no)
  pool_holds m = λ f i first is at. absurd (no_pool_file (pool_from pool.start pool.history) pool.start (Some f)
      (sym (ap (λ o. unwrap_or o (PoolIn pool.start)) (pool_run pool.start pool.history)) ∙ same_Some _ _ (sym at_pool ∙ is)))

  pub files_beside : (m : Memory) (left : List (Option Object)) → left ≡ slice_set objects pool_no None → HoldsFiles m left → HoldsFiles m objects
  files_beside m left is h n = elim (eqb_tells n pool_no) [
    | inl e ↦ subst (λ k. HoldsFile m (states_in objects k)) (sym e.1) (pool_holds m)
    | inr e ↦ subst (λ x. HoldsFile m (option_map state_of x)) (ap (λ l. object_at l n) is ∙ get_or-set_other objects pool_no n None None e.1) (h n)
  ]

  -- every frame is home
  module _ (frames : ℕ) (folios : List FolioValue) (m : Memory) (count : length m.pages ≡ frames) (files : HoldsFiles m objects) (pages : All (λ g. page_at m g.first ≡ Some g.bytes) folios) (accounted : IsAccounted frames objects folios) where
    home_by : (x : Option (List ℕ)) (bytes : List ℕ) → x ≡ Some bytes → IsSome x
    home_by None bytes e = absurd cc
    home_by (Some b) bytes e = refl

    of_folio : (p : ℕ) → BeginsAt folios p → IsSome (slice_index_or m.pages p None)
    of_folio p b =
        let page : page_at m b.folio.first ≡ Some b.folio.bytes = subst (λ g. page_at m g.first ≡ Some g.bytes) b.there.2 (pages b.there.0 b.folio b.there.1) in
        home_by (slice_index_or m.pages p None) b.folio.bytes (ap (λ k. slice_index_or m.pages k None) (sym b.first) ∙ page)

    of_file : (p : ℕ) → IsFrameOfFile objects p → IsSome (slice_index_or m.pages p None)
    of_file p b =
        let place : p ≡ b.first + (p - b.first) = omega (arith, b.from) in
        home_by (slice_index_or m.pages p None) (take PAGE_BYTES (drop ((p - b.first) * PAGE_BYTES) (piece_of b.file b.index)))
        (ap (λ k. slice_index_or m.pages k None) place ∙ files b.number b.file b.index b.first b.there b.run (p - b.first) (omega (arith, b.from, b.to)))

    owned_home : (s : PoolState) (p : ℕ) (owned : Bool) → pool_from pool.start pool.history ≡ Some s → is_owned s p ≡ owned → p < frames → (is_owned s p ≡ false → IsSome (slice_index_or m.pages p None)) → IsSome (slice_index_or m.pages p None)
    owned_home s p false is o below free = free o
    owned_home s p true is o below free = elim (accounted s p (at_pool ∙ ap (λ t. Some t) (pool_state pool s is)) below o) [
      | inl b ↦ of_folio p b
      | inr b ↦ of_file p b
    ]

    each_home : (o : Option PoolState) → pool_from pool.start pool.history ≡ o → MatchOption o ⊥ (λ s. (p : ℕ) → p < frames → is_owned s p ≡ false → IsSome (slice_index_or m.pages p None)) → (p : ℕ) → p < frames → IsSome (slice_index_or m.pages p None)
    each_home None is free p below = absurd free
    each_home (Some s) is free p below = owned_home s p (is_owned s p) is refl below (free p below)

    pub all_gathered : PoolIs pool (λ s. (p : ℕ) → p < frames → is_owned s p ≡ false → IsHome m (record { 0 = p })) → AllHome m
    all_gathered free k d below =
        subst IsSome (get_or_default m.pages k None d below) (each_home (pool_from pool.start pool.history) refl free k (omega (arith, count, below)))
