-- What is gathered from a kernel's objects is what a kexec carries.
use Rattle.std.proofs.Common.{◌≡◌, ℕ, ◌+◌, ◌≤◌, ◌<◌, Bool, cond, List, [], ◌∷◌, ◌++◌, length, map, take, refl, ap, sym, ◌∙◌, arith}
use Rattle.std.specs.Prelude.{Option, None, Some, nat_lt, min, unwrap_or, sum, count_by}
use Rattle.std.specs.FinMap as finmap
use Rattle.std.specs.List.{All, AllByRecursion, flat_map}
use Rattle.std.proofs.lemmas.List.Elements.{All-nil, All-cons, All-append}
use Rattle.std.proofs.lemmas.List.{length-map, map-append}
use Rattle.std.proofs.lemmas.Grind.{common_steps}
use Rattle.ho_base.specs.declared.limits.TheConstants.{MAX_ORDER}
use Rattle.ho_base.specs.declared.numbers.Kind.TheVariants.{Memfd}
use Rattle.ho_events.specs.Contents.{Reference, reference_of}
use Rattle.ho_events.specs.File.{FileState}
use Rattle.ho_events.specs.Handler.{Side}
use Rattle.ho_events.specs.Lists.{upto, pieces}
use Rattle.ho_events.specs.Session.{Listed, files_of}
use Rattle.ho_world.specs.Frozen.{CarriedFile as FileCarried, CarriedSession as SessionCarried, Frozen, MOST_UPDATES, file_carried, listed_carried, session_carried, carried_bounds, carried_files, bound_of, frozen, need, bitmaps}
use Rattle.ho_world.specs.World.{Nothing, World, pool_at, registry_at, handler_at, session_at, file_at}
use Rattle.machine_core.specs.declared.object.Object as object
use Rattle.machine_core.specs.Kernels.{KernelValue}
use Rattle.machine_core.specs.Worlds.{states_in}
use Rattle.record_frames.specs.Kept.{devices}
use Rattle.record_frames.specs.Ram.{Ram, run_bytes}
use Rattle.record_frames.specs.State.{file_in, session_in, state_in, bound_among}
use Rattle.record_frames.specs.declared.carried.Carried.{Carried}
use Rattle.record_frames.specs.declared.carried.CarriedBound.{CarriedBound}
use Rattle.record_frames.specs.declared.carried.CarriedFile.{CarriedFile}
use Rattle.record_frames.specs.declared.carried.CarriedSession.{CarriedSession}
use Rattle.kernel_carried.specs.Gathered.{Agrees, HasAllRuns, HoldsFilesIn, HoldsRuns, IsAs, IsCarriedAs, AreFilesOf, AreSessionsOf, IsGathered, ListsWhole, listed_in}
use Rattle.kernel_carried.proofs.Frames.{whole_bytes}

-- ---- the state

file_is : (ram : Ram) (token handle : ℕ) (s : Option FileState) (c : CarriedFile) → IsCarriedAs token s c → HasAllRuns s → HoldsRuns ram s → file_in ram c ≡ file_carried token handle s
file_is ram token handle s c h runs holds =
    let same : IsAs c (file_carried token handle s) = h.is handle in
    λ i. record {
      token = same.token i;
      kind = same.kind i;
      order = same.order i;
      bytes = ((λ j. take (same.size j) (flat_map (run_bytes ram (same.order j)) (same.runs j))) ∙ bytes s runs holds) i;
      position = same.position i;
      handle = same.handle i;
      runs = same.runs i;
    }
  where
    bytes : (s : Option FileState) → HasAllRuns s → HoldsRuns ram s → take (length (file_carried token handle s).bytes) (flat_map (run_bytes ram (file_carried token handle s).order) (file_carried token handle s).runs) ≡ (file_carried token handle s).bytes
    bytes None runs holds = refl
    bytes (Some f) runs holds = whole_bytes ram f runs holds

abbrev AllWhole : World → List Reference → Type 0
AllWhole w rs = AllByRecursion (λ (r : Reference). HasAllRuns (file_at w r.file)) rs

files_are : (objects : List (Option object.Object)) (w : World) (ram : Ram) → HoldsFilesIn ram objects → (es : List (ℕ × Listed)) (cs : List CarriedFile) → AllWhole w (map reference_of es) → AreFilesOf objects w (map reference_of es) cs → map (file_in ram) cs ≡ map (listed_carried w) es
unfolding AreFilesOf
files_are objects w ram holds [] [] whole h = refl
files_are objects w ram holds [] (c ∷ cs) whole h = absurd h
files_are objects w ram holds (e ∷ es) [] whole h = absurd h
files_are objects w ram holds (e ∷ es) (c ∷ cs) whole h = λ i.
    file_is ram e.0 e.1.handle (file_at w e.1.file) c h.0.carried whole.0 (holds _ _ h.0.there) i ∷ files_are objects w ram holds es cs whole.1 h.1 i

sessions_are : (objects : List (Option object.Object)) (w : World) (ram : Ram) → HoldsFilesIn ram objects → (es : List (List ℕ × ℕ)) (cs : List CarriedSession) → AllByRecursion (λ (e : List ℕ × ℕ). AllWhole w (listed_in w e.1)) es → AreSessionsOf objects w es cs → map (session_in ram) cs ≡ map (session_carried w) es
unfolding AreSessionsOf
sessions_are objects w ram holds [] [] whole h = refl
sessions_are objects w ram holds [] (c ∷ cs) whole h = absurd h
sessions_are objects w ram holds (e ∷ es) [] whole h = absurd h
sessions_are objects w ram holds (e ∷ es) (c ∷ cs) whole h = λ i.
    record { name = h.0.name i; files = files_are objects w ram holds (finmap.entries (files_of (session_at w e.1))) c.files whole.0 h.0.files i }
    ∷ sessions_are objects w ram holds es cs whole.1 h.1 i

none_bound : (side : Side) → side.files ≡ 0 → bound_of side ≡ None
none_bound side h = ap (λ n. cond (nat_lt 0 n) side.bound None) h

no_bounds : (w : World) → ((k : ℕ) → k < 4 → (handler_at w k).outgoing.files ≡ 0) → carried_bounds w ≡ None ∷ None ∷ None ∷ None ∷ []
unfolding upto
no_bounds w h = λ i.
    none_bound (handler_at w 0).outgoing (h 0 (omega arith)) i ∷ none_bound (handler_at w 1).outgoing (h 1 (omega arith)) i
    ∷ none_bound (handler_at w 2).outgoing (h 2 (omega arith)) i ∷ none_bound (handler_at w 3).outgoing (h 3 (omega arith)) i ∷ []

pub carried_is : (kernel : KernelValue) (c : Carried) (w : World) (ram : Ram) → IsGathered kernel c → Agrees w kernel.objects → w.number ≡ kernel.updates → (pool_at w).shape ≡ kernel.shape
    → ((k : ℕ) → k < 4 → (handler_at w k).outgoing.files ≡ 0) → ListsWhole w → HoldsFilesIn ram kernel.objects → state_in ram c ≡ frozen w
carried_is kernel c w ram g agrees number shape handlers whole holds = λ i. record {
  shape = (g.shape ∙ sym shape) i;
  number = (g.number ∙ ap (λ n. min (n + 1) MOST_UPDATES) (sym number)) i;
  sessions = sessions_are kernel.objects w ram holds (finmap.entries (registry_at w).outgoing) c.sessions whole (g.sessions w agrees) i;
  bounds = (ap (λ (bs : List CarriedBound). map (bound_among bs) devices) g.bounds ∙ sym (no_bounds w handlers)) i;
}

-- ---- how many frames the records need: the bytes don't count

-- how many runs each file of each session has
abbrev runs_in : List SessionCarried → List (List ℕ)
runs_in ss = map (λ s. map (λ (c : FileCarried). length c.runs) s.files) ss

one_count : (token handle : ℕ) (s : Option FileState) (c : CarriedFile) (ram : Ram) → IsCarriedAs token s c → length (file_in ram c).runs ≡ length (file_carried token handle s).runs
one_count token handle s c ram h = let same : IsAs c (file_carried token handle s) = h.is handle in ap length same.runs

files_counts : (objects : List (Option object.Object)) (w : World) (ram : Ram) (es : List (ℕ × Listed)) (cs : List CarriedFile) → AreFilesOf objects w (map reference_of es) cs
    → map (λ (c : FileCarried). length c.runs) (map (file_in ram) cs) ≡ map (λ (c : FileCarried). length c.runs) (map (listed_carried w) es)
unfolding AreFilesOf
files_counts objects w ram [] [] h = refl
files_counts objects w ram [] (c ∷ cs) h = absurd h
files_counts objects w ram (e ∷ es) [] h = absurd h
files_counts objects w ram (e ∷ es) (c ∷ cs) h = λ i. one_count e.0 e.1.handle (file_at w e.1.file) c ram h.0.carried i ∷ files_counts objects w ram es cs h.1 i

sessions_counts : (objects : List (Option object.Object)) (w : World) (ram : Ram) (es : List (List ℕ × ℕ)) (cs : List CarriedSession) → AreSessionsOf objects w es cs → runs_in (map (session_in ram) cs) ≡ runs_in (map (session_carried w) es)
unfolding AreSessionsOf
sessions_counts objects w ram [] [] h = refl
sessions_counts objects w ram [] (c ∷ cs) h = absurd h
sessions_counts objects w ram (e ∷ es) [] h = absurd h
sessions_counts objects w ram (e ∷ es) (c ∷ cs) h = λ i. files_counts objects w ram (finmap.entries (files_of (session_at w e.1))) c.files h.0.files i ∷ sessions_counts objects w ram es cs h.1 i

-- the frames by these numbers alone
abbrev need_by : ℕ → List (List ℕ) → ℕ
need_by frames runs =
    2 + count_by (λ (l : List ℕ). nat_lt 0 (length l)) runs + sum (map (λ n. pieces n 510) (flat_map (λ l. l) runs)) + pieces (bitmaps frames) 7

count_map : {A B : Type 0} (p : B → Bool) (f : A → B) (xs : List A) → count_by p (map f xs) ≡ count_by (λ x. p (f x)) xs
count_map p f xs = grind (arith, common_steps)

with_files : (ss : List SessionCarried) → count_by (λ (s : SessionCarried). nat_lt 0 (length s.files)) ss ≡ count_by (λ (l : List ℕ). nat_lt 0 (length l)) (runs_in ss)
with_files ss =
    ap (λ (p : SessionCarried → Bool). count_by p ss) (λ i s. nat_lt 0 (sym (length-map s.files (λ (c : FileCarried). length c.runs)) i))
    ∙ sym (count_map (λ (l : List ℕ). nat_lt 0 (length l)) (λ (s : SessionCarried). map (λ (c : FileCarried). length c.runs) s.files) ss)

map_twice : {A B C : Type 0} (g : B → C) (f : A → B) (xs : List A) → map g (map f xs) ≡ map (λ x. g (f x)) xs
map_twice g f [] = refl
map_twice g f (x ∷ xs) = ap (λ ys. g (f x) ∷ ys) (map_twice g f xs)

all_runs : (ss : List SessionCarried) → map (λ (c : FileCarried). length c.runs) (flat_map (λ (s : SessionCarried). s.files) ss) ≡ flat_map (λ l. l) (runs_in ss)
all_runs [] = refl
all_runs (s ∷ ss) =
    map-append (λ (c : FileCarried). length c.runs) s.files (flat_map (λ (s : SessionCarried). s.files) ss)
    ∙ ap (λ ys. map (λ (c : FileCarried). length c.runs) s.files ++ ys) (all_runs ss)

need_is : (f : Frozen) → need f ≡ need_by f.shape.frames (runs_in f.sessions)
need_is f = λ i.
    2 + with_files f.sessions i
    + sum ((sym (map_twice (λ n. pieces n 510) (λ (c : FileCarried). length c.runs) (carried_files f)) ∙ ap (map (λ n. pieces n 510)) (all_runs f.sessions)) i)
    + pieces (bitmaps f.shape.frames) 7

pub needs_same : (kernel : KernelValue) (c : Carried) (w : World) (ram : Ram) → IsGathered kernel c → Agrees w kernel.objects → (pool_at w).shape ≡ kernel.shape → need (state_in ram c) ≡ need (frozen w)
needs_same kernel c w ram g agrees shape =
    need_is (state_in ram c)
    ∙ (λ i. need_by ((g.shape ∙ sym shape) i).frames (sessions_counts kernel.objects w ram (finmap.entries (registry_at w).outgoing) c.sessions (g.sessions w agrees) i))
    ∙ sym (need_is (frozen w))

-- ---- memfds of orders that runs may have

abbrev pub IsMemfdCarried : FileCarried → Type 0
IsMemfdCarried c = (c.kind ≡ Memfd) × (c.order ≤ MAX_ORDER)

files_memfds : (objects : List (Option object.Object)) (w : World) (ram : Ram) (rs : List Reference) (cs : List CarriedFile) → AreFilesOf objects w rs cs → All IsMemfdCarried (map (file_in ram) cs)
unfolding AreFilesOf
files_memfds objects w ram [] [] h = All-nil IsMemfdCarried
files_memfds objects w ram [] (c ∷ cs) h = absurd h
files_memfds objects w ram (r ∷ rs) [] h = absurd h
files_memfds objects w ram (r ∷ rs) (c ∷ cs) h =
    All-cons IsMemfdCarried (file_in ram c) (map (file_in ram) cs) (h.0.carried.memfd, h.0.carried.small) (files_memfds objects w ram rs cs h.1)

sessions_memfds : (objects : List (Option object.Object)) (w : World) (ram : Ram) (es : List (List ℕ × ℕ)) (cs : List CarriedSession) → AreSessionsOf objects w es cs → All IsMemfdCarried (flat_map (λ (s : SessionCarried). s.files) (map (session_in ram) cs))
unfolding AreSessionsOf
sessions_memfds objects w ram [] [] h = All-nil IsMemfdCarried
sessions_memfds objects w ram [] (c ∷ cs) h = absurd h
sessions_memfds objects w ram (e ∷ es) [] h = absurd h
sessions_memfds objects w ram (e ∷ es) (c ∷ cs) h =
    All-append IsMemfdCarried (map (file_in ram) c.files) (flat_map (λ (s : SessionCarried). s.files) (map (session_in ram) cs)) (files_memfds objects w ram _ c.files h.0.files) (sessions_memfds objects w ram es cs h.1)

-- a world that the objects make
abbrev world_of : List (Option object.Object) → World
world_of objects = record { number = 0; at = λ n. unwrap_or (states_in objects n) Nothing }

agrees_with : (objects : List (Option object.Object)) → Agrees (world_of objects) objects
agrees_with objects = λ n s other is. ap (λ o. unwrap_or o Nothing) is

pub all_memfds : (kernel : KernelValue) (c : Carried) (ram : Ram) → IsGathered kernel c → All IsMemfdCarried (carried_files (state_in ram c))
all_memfds kernel c ram g =
    sessions_memfds kernel.objects (world_of kernel.objects) ram _ c.sessions (g.sessions (world_of kernel.objects) (agrees_with kernel.objects))

-- as they are gathered
abbrev IsSmall : CarriedFile → Type 0
IsSmall c = c.order.0 ≤ MAX_ORDER

files_small : (objects : List (Option object.Object)) (w : World) (rs : List Reference) (cs : List CarriedFile) → AreFilesOf objects w rs cs → All IsSmall cs
unfolding AreFilesOf
files_small objects w [] [] h = All-nil IsSmall
files_small objects w [] (c ∷ cs) h = absurd h
files_small objects w (r ∷ rs) [] h = absurd h
files_small objects w (r ∷ rs) (c ∷ cs) h = All-cons IsSmall c cs h.0.carried.small (files_small objects w rs cs h.1)

sessions_small : (objects : List (Option object.Object)) (w : World) (es : List (List ℕ × ℕ)) (cs : List CarriedSession) → AreSessionsOf objects w es cs → All IsSmall (flat_map (λ (s : CarriedSession). s.files) cs)
unfolding AreSessionsOf
sessions_small objects w [] [] h = All-nil IsSmall
sessions_small objects w [] (c ∷ cs) h = absurd h
sessions_small objects w (e ∷ es) [] h = absurd h
sessions_small objects w (e ∷ es) (c ∷ cs) h =
    All-append IsSmall c.files (flat_map (λ (s : CarriedSession). s.files) cs) (files_small objects w _ c.files h.0.files) (sessions_small objects w es cs h.1)

pub all_small : (kernel : KernelValue) (c : Carried) → IsGathered kernel c → All (λ (f : CarriedFile). f.order.0 ≤ MAX_ORDER) (flat_map (λ (s : CarriedSession). s.files) c.sessions)
all_small kernel c g =
    sessions_small kernel.objects (world_of kernel.objects) _ c.sessions (g.sessions (world_of kernel.objects) (agrees_with kernel.objects))
