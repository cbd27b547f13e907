-- What of a kernel's objects a kexec carries, as it is gathered from them.
use Rattle.std.specs.Prelude.{◌≡◌, ◌≢◌, ℕ, ◌+◌, ◌^◌, ◌<◌, ◌≤◌, nat_lt, IsTrue, min, List, [], ◌∷◌, length, map, Option, None, Some, MatchOption}
use Rattle.std.specs.FinMap as finmap
use Rattle.std.specs.List.{All, AllByRecursion}
use Rattle.ho_base.specs.NameRule.{is_name}
use Rattle.ho_base.specs.Objects.{pool_no, registry_no, file_no}
use Rattle.ho_base.specs.declared.limits.TheConstants.{FILES, OUT_SLOTS, IN_SLOTS, MAX_ORDER}
use Rattle.ho_base.specs.declared.numbers.Kind.TheVariants.{Memfd}
use Rattle.ho_events.specs.Contents.{Reference, reference_of}
use Rattle.ho_events.specs.File.{FileState, index_bytes}
use Rattle.ho_events.specs.Lists.{firsts, pieces}
use Rattle.ho_events.specs.Registry.{RegistryState}
use Rattle.ho_events.specs.Session.{files_of}
use Rattle.ho_world.specs.World.{State, World, FileIn, RegistryIn, registry_at, session_at, file_at}
use Rattle.ho_world.specs.Frozen.{CarriedFile as FileCarried, file_carried, MOST_UPDATES}
use Rattle.memfd_file.specs.Files.{IsMemfdFile}
use Rattle.machine_core.specs.declared.object.Object as object
use Rattle.machine_core.specs.Gathered.{piece_of}
use Rattle.machine_core.specs.Kernels.{KernelValue}
use Rattle.machine_core.specs.Worlds.{states_in}
use Rattle.record_frames.specs.Ram.{Ram, run_bytes}
use Rattle.record_frames.specs.declared.carried.CarriedFile.{CarriedFile}
use Rattle.record_frames.specs.declared.carried.CarriedSession.{CarriedSession}
use Rattle.record_frames.specs.declared.carried.Carried.{Carried}

-- each object of a world other than the pool is as these objects are now
abbrev pub Agrees : World → List (Option object.Object) → Type 0
Agrees w objects = (n : ℕ) (s : State) → n ≢ pool_no → states_in objects n ≡ Some s → w.at n ≡ s

-- each run of a file holds what the file has at the run's index
abbrev pub HoldsRuns : Ram → Option FileState → Type 0
HoldsRuns ram None = Unit {0}
HoldsRuns ram (Some f) = (i first : ℕ) → finmap.get f.runs i ≡ Some first → run_bytes ram f.order first ≡ piece_of f i

-- the frames hold the bytes of all files of the objects
abbrev pub HoldsFilesIn : Ram → List (Option object.Object) → Type 0
HoldsFilesIn ram objects = (n : ℕ) (s : Option FileState) → states_in objects n ≡ Some (FileIn s) → HoldsRuns ram s

-- what is gathered of a file is what a kexec carries of it, but that its bytes stay in its runs
pub record IsAs (c : CarriedFile) (x : FileCarried) : Type 0 where
  pub token : c.token.0 ≡ x.token
  pub kind : c.kind ≡ x.kind
  pub order : c.order.0 ≡ x.order
  pub size : c.size ≡ length x.bytes
  pub position : c.position ≡ x.position
  pub handle : c.handle ≡ x.handle
  pub runs : firsts c.runs ≡ x.runs

-- a file in this state is carried so under a token: as a kexec carries it; it is a memfd of an order that runs may have, and its token
-- has 8 bytes
pub record IsCarriedAs (token : ℕ) (s : Option FileState) (c : CarriedFile) : Type 0 where
  pub is : (handle : ℕ) → IsAs c (file_carried token handle s)
  pub memfd : c.kind ≡ Memfd
  pub small : c.order.0 ≤ MAX_ORDER
  pub fits : c.token.0 < 2 ^ 64

-- a file that is there has a run at each index of its bytes, and at no other
abbrev pub HasAllRuns : Option FileState → Type 0
HasAllRuns None = Unit {0}
HasAllRuns (Some f) = (i : ℕ) → finmap.contains_key f.runs i ≡ nat_lt i (pieces (length f.bytes) (index_bytes f))

-- a file that a session lists is there among the objects, and is carried so
pub record IsFileOf (objects : List (Option object.Object)) (w : World) (r : Reference) (c : CarriedFile) : Type 0 where
  pub there : states_in objects (file_no r.file) ≡ Some (FileIn (file_at w r.file))
  pub carried : IsCarriedAs r.token (file_at w r.file) c

unfoldable pub AreFilesOf : List (Option object.Object) → World → List Reference → List CarriedFile → Type 0
AreFilesOf objects w [] [] = Unit {0}
AreFilesOf objects w (r ∷ rs) (c ∷ cs) = IsFileOf objects w r c × AreFilesOf objects w rs cs
AreFilesOf objects w rs cs = ⊥

-- the files that a session slot lists, in rising tokens
abbrev pub listed_in : World → ℕ → List Reference
listed_in w slot = map reference_of (finmap.entries (files_of (session_at w slot)))

-- each file that an outgoing session of the world lists has all its runs
abbrev pub ListsWhole : World → Type 0
ListsWhole w = AllByRecursion (λ (e : List ℕ × ℕ). AllByRecursion (λ (r : Reference). HasAllRuns (file_at w r.file)) (listed_in w e.1)) (finmap.entries (registry_at w).outgoing)

-- a session by its name and slot is carried under this name, which is one, with all its files
pub record IsSessionOf (objects : List (Option object.Object)) (w : World) (e : List ℕ × ℕ) (c : CarriedSession) : Type 0 where
  pub name : c.name ≡ e.0
  pub valid : IsTrue (is_name c.name)
  pub files : AreFilesOf objects w (listed_in w e.1) c.files

unfoldable pub AreSessionsOf : List (Option object.Object) → World → List (List ℕ × ℕ) → List CarriedSession → Type 0
AreSessionsOf objects w [] [] = Unit {0}
AreSessionsOf objects w (e ∷ es) (c ∷ cs) = IsSessionOf objects w e c × AreSessionsOf objects w es cs
AreSessionsOf objects w es cs = ⊥

-- what is carried is gathered from a kernel's objects: its machine's shape, the next update number, no bound record, and each
-- outgoing session in rising names
pub record IsGathered (kernel : KernelValue) (c : Carried) : Type 0 where
  pub shape : c.shape ≡ kernel.shape
  pub number : c.number ≡ min (kernel.updates + 1) MOST_UPDATES
  pub bounds : c.bounds ≡ []
  pub sessions : (w : World) → Agrees w kernel.objects → AreSessionsOf kernel.objects w (finmap.entries (registry_at w).outgoing) c.sessions

-- each outgoing name has a slot that is one
abbrev pub HaveSlots : List (Option object.Object) → Type 0
HaveSlots objects = (s : RegistryState) → states_in objects registry_no ≡ Some (RegistryIn s) → All (λ e. e.1 < OUT_SLOTS + IN_SLOTS) (finmap.entries s.outgoing)

-- the state is that of a file, which is a memfd of an order that runs may have where it is there
pub record IsMemfdIn (o : Option State) : Type 0 where
  pub state : Option FileState
  pub is : o ≡ Some (FileIn state)
  pub memfd : MatchOption state (Unit {0}) IsMemfdFile

-- each file of the objects is such a memfd
abbrev pub AreMemfds : List (Option object.Object) → Type 0
AreMemfds objects = (n : ℕ) → n < FILES → IsMemfdIn (states_in objects (file_no n))

-- the first slots of a world list numbers of files
abbrev pub ListFiles : World → ℕ → Type 0
ListFiles w slots = (slot : ℕ) → slot < slots → All (λ (r : Reference). r.file < FILES) (listed_in w slot)
