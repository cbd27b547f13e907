-- What the objects of the next kernel are made of.
use Rattle.std.specs.Prelude.{◌≡◌, ℕ, ◌+◌, Bool, true, false, List, [], ◌∷◌, map, length, flat_map, Option, None}
use Rattle.std.specs.List.{IsDistinct, list_all, AllByRecursion}
use Rattle.std.specs.FinMap as finmap
use Rattle.ho_base.specs.declared.numbers.Kind.{Kind}
use Rattle.ho_base.specs.declared.numbers.Kind.TheVariants.{Memfd}
use Rattle.ho_base.specs.declared.numbers.Pfn.{Pfn}
use Rattle.ho_base.specs.declared.numbers.Order.{Order}
use Rattle.ho_base.specs.declared.numbers.Token.{Token}
use Rattle.ho_base.specs.declared.numbers.FileNo.{FileNo}
use Rattle.ho_events.specs.Lists.{same_bytes}
use Rattle.ho_events.specs.Handler.{BoundState}
use Rattle.ho_events.specs.Session.{In}
use Rattle.ho_world.specs.Frozen.{CarriedFile, CarriedSession, Frozen, carried_files, next_pool, next_registry, next_listed}
use Rattle.pool_core.specs.PoolAdopting.{adopted_pool}
use Rattle.registry_core.specs.Registries.{waiting_registry}
use Rattle.session_core.specs.SessionShown.{TokensRise}
use Rattle.session_core.specs.Sessions.{fresh_incoming}

-- a carried file is a memfd
abbrev pub is_memfd : Kind → Bool
is_memfd Memfd = true
is_memfd kind = false

-- every carried file is a memfd
abbrev pub are_memfds : Frozen → Bool
are_memfds f = list_all (λ c. is_memfd c.kind) (carried_files f)

-- the runs of carried files with their orders, file by file
abbrev pub run_of : ℕ → ℕ → Pfn × Order
run_of order p = (record { 0 = p }, record { 0 = order })

abbrev pub runs_with : CarriedFile → List (Pfn × Order)
runs_with c = map (run_of c.order) c.runs

abbrev pub all_runs : List CarriedFile → List (Pfn × Order)
all_runs cs = flat_map runs_with cs

-- there is no bound record
abbrev pub NoBounds : List (Option BoundState) → Type 0
NoBounds bounds = AllByRecursion (λ b. b ≡ None) bounds

-- the names of carried sessions
abbrev pub names_of : List CarriedSession → List (List ℕ)
names_of ss = map (λ s. s.name) ss

-- a session's files with file numbers one after the other, from one on
abbrev pub numbered : ℕ → List CarriedFile → List (Token × FileNo × ℕ)
numbered n [] = []
numbered n (c ∷ cs) = (record { 0 = c.token }, record { 0 = n }, c.handle) ∷ numbered (n + 1) cs

-- The pool of the next kernel owns the runs of all carried files.
abbrev pub PoolIsNext : Type 0
PoolIsNext = (f : Frozen) → NoBounds f.bounds → adopted_pool f.shape (all_runs (carried_files f)) ≡ next_pool f

-- In the registry of the next kernel the carried names wait, and the first file numbers are in use.
abbrev pub RegistryIsNext : Type 0
RegistryIsNext = (f : Frozen) → IsDistinct same_bytes (names_of f.sessions) → waiting_registry (names_of f.sessions) (length (carried_files f)) ≡ next_registry f

-- A session of the next kernel lists its files by token.
abbrev pub SessionIsNext : Type 0
SessionIsNext =
    (n : ℕ) (name : List ℕ) (cs : List CarriedFile) → TokensRise (numbered n cs) → fresh_incoming name (numbered n cs) ≡ In name false (next_listed n cs finmap.empty)
