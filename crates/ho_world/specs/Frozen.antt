-- What a kexec carries, and the world in which the next kernel begins.
use Rattle.std.specs.Prelude.{◌≡◌, ℕ, ◌+◌, ◌-◌, ◌*◌, ◌/◌, ◌^◌, Bool, true, false, ◌&&◌, ◌==◌, nat_lt, min, if◌then◌else◌, List, [], ◌∷◌, ◌++◌, map, length, take, slice_get, option_map, sum, count_by, flat_map, Option, None, Some}
use Rattle.std.specs.Ordering.{nat_cmp}
use Rattle.std.specs.FinMap as finmap
use Rattle.std.specs.FinSet as finset
use Rattle.ho_base.specs.ShapeRule.{Layout}
use Rattle.ho_base.specs.declared.limits.TheConstants.{PAGE_BYTES, OUT_SLOTS}
use Rattle.ho_base.specs.declared.numbers.Kind.{Kind}
use Rattle.ho_base.specs.declared.numbers.Kind.TheVariants.{Memfd, Dev0, Dev1, Dev2, Dev3}
use Rattle.ho_base.specs.declared.numbers.Blob.{Blob}
use Rattle.ho_base.specs.declared.shape.Area.{Area}
use Rattle.ho_events.specs.Lists.{upto, pieces}
use Rattle.ho_events.specs.Pool.{PoolState, own}
use Rattle.ho_events.specs.Registry.{RegistryState, Slots, cold_registry}
use Rattle.ho_events.specs.Handler.{HandlerState, BoundState, Side, cold_handler, no_side}
use Rattle.ho_events.specs.Session.{SessionState, Listed, Free, In, Out, files_of}
use Rattle.ho_events.specs.File.{FileState, filled, is_device, runs_of}
use Rattle.ho_world.specs.World.{World, pool_at, registry_at, handler_at, session_at, file_at, by_number}

-- a file that is carried
pub record CarriedFile : Type 0 where
  pub token : ℕ
  pub kind : Kind
  pub order : ℕ
  pub bytes : List ℕ
  pub position : ℕ
  pub handle : ℕ
  pub runs : List ℕ

-- a session that is carried, its files in rising tokens
pub record CarriedSession : Type 0 where
  pub name : List ℕ
  pub files : List CarriedFile

-- what a kexec carries: sessions in rising names, and for each kind the bound record that it has
pub record Frozen : Type 0 where
  pub shape : Layout
  pub number : ℕ
  pub sessions : List CarriedSession
  pub bounds : List (Option BoundState)

-- the greatest update number of a kernel
abbrev pub MOST_UPDATES : ℕ
MOST_UPDATES = 4294967295

-- a file as a session lists it
abbrev pub file_carried : ℕ → ℕ → Option FileState → CarriedFile
file_carried token handle None = record { token = token; kind = Memfd; order = 0; bytes = []; position = 0; handle = 0; runs = [] }
file_carried token handle (Some f) = record {
  token = token;
  kind = f.kind;
  order = f.order;
  bytes = f.bytes;
  position = f.position;
  handle = (if is_device f.kind then handle else 0);
  runs = runs_of f;
}

abbrev pub listed_carried : World → ℕ × Listed → CarriedFile
listed_carried w e = file_carried e.0 e.1.handle (file_at w e.1.file)

abbrev pub session_carried : World → List ℕ × ℕ → CarriedSession
session_carried w e = record { name = e.0; files = map (listed_carried w) (finmap.entries (files_of (session_at w e.1))) }

-- the sessions that a kexec carries: the outgoing ones, by rising names
abbrev pub carried_sessions : World → List CarriedSession
carried_sessions w = map (session_carried w) (finmap.entries (registry_at w).outgoing)

-- a side's bound record, where it has a file
abbrev pub bound_of : Side → Option BoundState
bound_of side = (if nat_lt 0 side.files then side.bound else None)

-- the bound records that a kexec carries, for each kind: that of the outgoing side
abbrev pub carried_bounds : World → List (Option BoundState)
carried_bounds w = map (λ k. bound_of (handler_at w k).outgoing) (upto 4)

abbrev pub frozen : World → Frozen
frozen w = record {
  shape = (pool_at w).shape;
  number = min (w.number + 1) MOST_UPDATES;
  sessions = carried_sessions w;
  bounds = carried_bounds w;
}

-- all carried files, by (name, token): this is the order of their numbers in the next kernel
abbrev pub carried_files : Frozen → List CarriedFile
carried_files f = flat_map (λ s. s.files) f.sessions

-- a file as the next kernel has it: held, with all its runs
abbrev pub held : CarriedFile → FileState
held c = record {
  kind = c.kind;
  order = c.order;
  bytes = c.bytes;
  position = c.position;
  runs = filled (upto (length c.runs)) c.runs finmap.empty;
  opened = false;
  pin = false;
  hold = true;
}

abbrev pub next_file : Frozen → ℕ → Option FileState
next_file f i = option_map held (slice_get (carried_files f) i)

-- a session's files by token, numbered from n on
abbrev pub next_listed : ℕ → List CarriedFile → finmap.FinMap nat_cmp Listed → finmap.FinMap nat_cmp Listed
next_listed n [] files = files
next_listed n (c ∷ cs) files =
    next_listed (n + 1) cs (finmap.insert files c.token (record { file = n; handle = c.handle; taken = false }))

-- the number of the first file of session i
abbrev pub first_number : List CarriedSession → ℕ → ℕ
first_number sessions i = sum (map (λ s. length s.files) (take i sessions))

abbrev pub waiting_session : Frozen → ℕ → Option CarriedSession → SessionState
waiting_session f i None = Free
waiting_session f i (Some s) = In s.name false (next_listed (first_number f.sessions i) s.files finmap.empty)

-- session i waits in the i-th incoming slot
abbrev pub next_session : Frozen → ℕ → SessionState
next_session f slot =
    if nat_lt slot OUT_SLOTS then Free else waiting_session f (slot - OUT_SLOTS) (slice_get f.sessions (slot - OUT_SLOTS))

abbrev pub next_waiting : ℕ → List CarriedSession → Slots → Slots
next_waiting slot [] names = names
next_waiting slot (s ∷ ss) names = next_waiting (slot + 1) ss (finmap.insert names s.name slot)

abbrev pub numbers_below : ℕ → finset.FinSet nat_cmp → finset.FinSet nat_cmp
numbers_below n set = in_turn (upto n) set
  where
    in_turn : List ℕ → finset.FinSet nat_cmp → finset.FinSet nat_cmp
    in_turn [] set = set
    in_turn (x ∷ xs) set = in_turn xs (finset.insert set x)

abbrev pub next_registry : Frozen → RegistryState
next_registry f = record cold_registry {
  waiting = next_waiting OUT_SLOTS f.sessions finmap.empty;
  files = numbers_below (length (carried_files f)) finset.empty;
}

-- a kind of device files by its number
abbrev pub is_kind : ℕ → Kind → Bool
is_kind k Memfd = false
is_kind k Dev0 = k == 0
is_kind k Dev1 = k == 1
is_kind k Dev2 = k == 2
is_kind k Dev3 = k == 3

abbrev pub incoming_side : ℕ → Option (Option BoundState) → Side
incoming_side n None = no_side
incoming_side n (Some None) = no_side
incoming_side n (Some (Some b)) = record { files = n; bound = Some b }

abbrev pub next_handler : Frozen → ℕ → HandlerState
next_handler f k =
    record cold_handler { incoming = incoming_side (count_by (λ c. is_kind k c.kind) (carried_files f)) (slice_get f.bounds k) }

-- owned are exactly the runs and the bound frames, and nothing is pinned
abbrev pub own_files : List CarriedFile → finmap.FinMap nat_cmp ℕ → finmap.FinMap nat_cmp ℕ
own_files [] owned = owned
own_files (c ∷ cs) owned = own_files cs (own c.order c.runs owned)

abbrev pub own_bounds : List (Option BoundState) → finmap.FinMap nat_cmp ℕ → finmap.FinMap nat_cmp ℕ
own_bounds [] owned = owned
own_bounds (None ∷ bs) owned = own_bounds bs owned
own_bounds (Some b ∷ bs) owned = own_bounds bs (finmap.insert owned b.frame 0)

abbrev pub next_pool : Frozen → PoolState
next_pool f = record {
  shape = f.shape;
  owned = own_bounds f.bounds (own_files (carried_files f) finmap.empty);
  pinned = finset.empty;
}

abbrev pub next : Frozen → World
next f = record {
  number = f.number;
  at = by_number (next_pool f) (next_registry f) (next_handler f) (next_session f) (next_file f);
}

-- the bitmaps of a machine's frames, over all orders
abbrev pub bitmaps : ℕ → ℕ
bitmaps n = sum (map (λ o. pieces n (PAGE_BYTES * 2 ^ o)) (upto 10))

-- how many frames the records take
abbrev pub need : Frozen → ℕ
need f =
    2 + count_by (λ s. nat_lt 0 (length s.files)) f.sessions
    + sum (map (λ c. pieces (length c.runs) 510) (carried_files f))
    + pieces (bitmaps f.shape.frames) 7

-- what the next kernel needs in scratch area 0, and what is there
abbrev pub scratch_need : Layout → Blob → ℕ
scratch_need shape blob = blob.frames

abbrev pub scratch_have : Layout → ℕ
scratch_have shape = area_0 shape.scratch
  where
    area_0 : List Area → ℕ
    area_0 [] = 0
    area_0 (a ∷ areas) = a.count

-- a preserved device file, as its outgoing session lists it
pub record Preserved : Type 0 where
  pub name : List ℕ
  pub token : ℕ
  pub kind : Kind
  pub file : ℕ
  pub handle : ℕ

abbrev pub preserved_as : List ℕ → ℕ × Listed → Option FileState → List Preserved
preserved_as name e None = []
preserved_as name e (Some f) =
    if is_device f.kind then (record { name = name; token = e.0; kind = f.kind; file = e.1.file; handle = e.1.handle }) ∷ [] else []

abbrev pub preserved_in : World → SessionState → List Preserved
preserved_in w Free = []
preserved_in w (Out name files) = flat_map (λ e. preserved_as name e (file_at w e.1.file)) (finmap.entries files)
preserved_in w (In name opened files) = []

-- the preserved device files in order of (slot, token)
abbrev pub preserved_devices : World → List Preserved
preserved_devices w = flat_map (λ s. preserved_in w (session_at w s)) (upto OUT_SLOTS)
