-- Balance: what the objects of a world, the agents' labels and the runs that agents have in hand say of each
-- other. A run is in hand where an agent got it from an object and has not yet put it into one.
use Rattle.std.specs.Prelude.{◌≡◌, ℕ, ◌+◌, ◌-◌, ◌^◌, Bool, true, false, not, ◌&&◌, ◌||◌, ◌==◌, nat_lt, nat_le, if◌then◌else◌, List, [], ◌∷◌, ◌++◌, map, filter, sum_by, count_by, is_some, flat_map, IsTrue, Option, None, Some}
use Rattle.std.specs.List.{list_any, list_all}
use Rattle.std.specs.FinMap as finmap
use Rattle.std.specs.FinSet as finset
use Rattle.ho_base.specs.declared.limits.TheConstants.{OUT_SLOTS, IN_SLOTS, FILES, AGENTS}
use Rattle.ho_base.specs.declared.numbers.Pfn.{Pfn}
use Rattle.ho_events.specs.Lists.{upto, firsts, is_just, same_bytes}
use Rattle.ho_events.specs.File.{FileState, runs_of}
use Rattle.ho_events.specs.Handler.{BoundState}
use Rattle.ho_events.specs.Registry.{Slots}
use Rattle.ho_events.specs.Session.{SessionState, Listed, Free, Out, In}
use Rattle.ho_events.specs.declared.entry.Entry.{Entry}
use Rattle.ho_events.specs.declared.event.Event.{Event}
use Rattle.ho_events.specs.declared.event.Event.TheVariants.{PoolTake, PoolGive, FileInit, FileWrite, FileFill, FileTruncate, FileCloseFd, FilePin, FileUnpin, FileFinish, HandlerPreserve, HandlerUnpreserve, HandlerFinish}
use Rattle.ho_events.specs.declared.reply.Reply.{Reply}
use Rattle.ho_events.specs.declared.reply.Reply.TheVariants.{Ok, OkRuns, OkHandle, Gone, Got, Last}
use Rattle.ho_events.specs.History.{by}
use Rattle.ho_world.specs.World.{World, pool_at, registry_at, handler_at, session_at, file_at}
use Rattle.ho_world.specs.Frozen.{is_kind}
use Rattle.ho_world.specs.Entries.{in_kernel}
use Rattle.ho_world.specs.Sequences.{Labels}

-- the runs that an event brings into hand, by their first frames;  those that it puts into an object
abbrev pub gained : Event → Reply → List ℕ
gained (PoolTake o count) (Got runs) = firsts runs
gained (FileTruncate size) (OkRuns given) = firsts given
gained FileCloseFd (Gone runs) = firsts runs
gained FileUnpin (Gone runs) = firsts runs
gained FileFinish (Gone runs) = firsts runs
gained (HandlerUnpreserve f handle) (Last p) = p.0 ∷ []
gained (HandlerFinish f handle) (Last p) = p.0 ∷ []
gained event reply = []

abbrev pub frames_placed : Option Pfn → List ℕ
frames_placed None = []
frames_placed (Some p) = p.0 ∷ []

abbrev pub placed : Event → Reply → List ℕ
placed (PoolGive o runs) Ok = firsts runs
placed (FileInit kind o size runs) Ok = firsts runs
placed (FileWrite off bytes fills) Ok = firsts fills
placed (FileFill off len byte fills) Ok = firsts fills
placed (FilePin fills) (OkRuns runs) = firsts fills
placed (HandlerPreserve f frame) (OkHandle handle bound) = frames_placed frame
placed event reply = []

abbrev pub without : List ℕ → List ℕ → List ℕ
without gone runs = filter (λ p. not (list_any (λ q. p == q) gone)) runs

-- the runs that an agent has in hand after its entries, each once
unfoldable pub in_hand_from : List ℕ → List Entry → List ℕ
in_hand_from hand [] = hand
in_hand_from hand (e ∷ es) = in_hand_from (without (placed e.event e.reply) hand ++ gained e.event e.reply) es

abbrev pub in_hand : List Entry → List ℕ
in_hand es = in_hand_from [] es

abbrev pub one_if : Bool → ℕ
one_if true = 1
one_if false = 0

abbrev pub count_of : ℕ → List ℕ → ℕ
count_of p ps = count_by (λ q. q == p) ps

-- how often a file has the run of order o at frame p;  whether p is the frame of a bound record
abbrev pub runs_at : ℕ → ℕ → Option FileState → ℕ
runs_at p o None = 0
runs_at p o (Some f) = (if f.order == o then count_of p (runs_of f) else 0)

abbrev pub bound_at : ℕ → Option BoundState → ℕ
bound_at p None = 0
bound_at p (Some b) = one_if (b.frame == p)

abbrev pub bounds_at : World → ℕ → ℕ → ℕ
bounds_at w p o =
    if o == 0 then sum_by (λ k. bound_at p (handler_at w k).outgoing.bound + bound_at p (handler_at w k).incoming.bound) (upto 4) else 0

abbrev pub owned_at : World → ℕ → ℕ → ℕ
owned_at w p o = one_if (is_just o (finmap.get (pool_at w).owned p))

-- two runs share no frame
abbrev pub are_apart : ℕ × ℕ → ℕ × ℕ → Bool
are_apart a b = nat_le (a.0 + 2 ^ a.1) b.0 || nat_le (b.0 + 2 ^ b.1) a.0

abbrev pub all_apart : List (ℕ × ℕ) → Bool
all_apart [] = true
all_apart (a ∷ runs) = list_all (are_apart a) runs && all_apart runs

-- what holds at every moment: each owned run is of exactly one file, bound record or hand, every run in hand is
-- owned, and no two owned runs share a frame
pub record OwnsAll (w : World) (hands : List ℕ) : Type 0 where
  pub each : (p o : ℕ) → owned_at w p o ≡ sum_by (λ f. runs_at p o (file_at w f)) (upto FILES) + bounds_at w p o + (if is_just o (finmap.get (pool_at w).owned p) then count_of p hands else 0)
  pub in_hand : IsTrue (list_all (λ p. finmap.contains_key (pool_at w).owned p) hands)
  pub apart : IsTrue (all_apart (finmap.entries (pool_at w).owned))

-- whether a pinned file has the frame in one of its runs
abbrev pub covers : ℕ → ℕ → ℕ → Bool
covers p o first = nat_le first p && nat_lt p (first + 2 ^ o)

abbrev pub pinned_by : ℕ → Option FileState → ℕ
pinned_by p None = 0
pinned_by p (Some f) = (if f.pin then count_by (covers p f.order) (runs_of f) else 0)

-- the files that a session lists, as an outgoing session;  as an incoming one
abbrev pub out_files : SessionState → List Listed
out_files (Out name files) = finmap.values files
out_files s = []

abbrev pub in_files : SessionState → List Listed
in_files (In name opened files) = finmap.values files
in_files s = []

abbrev pub SLOTS : ℕ
SLOTS = OUT_SLOTS + IN_SLOTS

abbrev pub all_out : World → List Listed
all_out w = flat_map (λ s. out_files (session_at w s)) (upto SLOTS)

abbrev pub all_in : World → List Listed
all_in w = flat_map (λ s. in_files (session_at w s)) (upto SLOTS)

abbrev pub listings : ℕ → List Listed → ℕ
listings f files = count_by (λ l. l.file == f) files

abbrev pub is_of_kind : ℕ → Option FileState → Bool
is_of_kind k None = false
is_of_kind k (Some f) = is_kind k f.kind

abbrev pub listings_of_kind : World → ℕ → List Listed → ℕ
listings_of_kind w k files = count_by (λ l. is_of_kind k (file_at w l.file)) files

abbrev pub is_pinned : Option FileState → Bool
is_pinned None = false
is_pinned (Some f) = f.pin

abbrev pub is_held : Option FileState → Bool
is_held None = false
is_held (Some f) = f.hold

abbrev pub is_open : Option FileState → Bool
is_open None = false
is_open (Some f) = f.opened

abbrev pub bound_labels : (ℕ → Labels) → ℕ → ℕ
bound_labels labels f = sum_by (λ a. count_by (λ g. g.0 == f) (finmap.values (labels a))) (upto (AGENTS + 1))

-- the session that a slot has to have, by the names that the registry has for it
abbrev pub names_at : Slots → ℕ → List (List ℕ)
names_at slots s = map (λ e. e.0) (filter (λ e. e.1 == s) (finmap.entries slots))

abbrev pub is_free_slot : SessionState → Bool
is_free_slot Free = true
is_free_slot s = false

abbrev pub is_out_of : SessionState → List ℕ → Bool
is_out_of (Out own files) name = same_bytes own name
is_out_of s name = false

abbrev pub is_in_of : Bool → SessionState → List ℕ → Bool
is_in_of opened (In own now files) name = same_bytes own name && (if opened then now else not now)
is_in_of opened s name = false

abbrev pub is_one : List (List ℕ) → (List ℕ → Bool) → Bool
is_one [] p = false
is_one (name ∷ []) p = p name
is_one (name ∷ other ∷ more) p = false

abbrev pub no_names : List (List ℕ) → Bool
no_names [] = true
no_names (name ∷ more) = false

abbrev pub fits_slot : List (List ℕ) → List (List ℕ) → List (List ℕ) → SessionState → Bool
fits_slot out waiting opened Free = no_names out && no_names waiting && no_names opened
fits_slot out waiting opened (Out name files) = is_one out (same_bytes name) && no_names waiting && no_names opened
fits_slot out waiting opened (In name true files) = is_one opened (same_bytes name) && no_names waiting && no_names out
fits_slot out waiting opened (In name false files) = is_one waiting (same_bytes name) && no_names opened && no_names out

-- a file that is listed and not yet taken isn't open
abbrev pub fits_listed : World → Listed → Bool
fits_listed w l = l.taken || not (is_open (file_at w l.file))

-- the slots of incoming sessions
abbrev pub is_in_slot : ℕ → Bool
is_in_slot s = nat_le OUT_SLOTS s && nat_lt s SLOTS

-- the runs in hand of all agents in kernel k
abbrev pub hands : List Entry → ℕ → List ℕ
hands es k = flat_map (λ a. in_hand (by a (in_kernel k es))) (upto (AGENTS + 1))

-- what holds besides where no command is under way and none has halted:
-- a frame is pinned exactly where a pinned file or an outgoing bound record has it; an outgoing session lists a file
-- exactly where the file is pinned, an incoming one exactly where it is held, each once; a handler's numbers are
-- those of the listed files of its kind; a file number is in use exactly where its file is there; a file is open
-- exactly where one label has it; names stand in slots of their side, and each slot has the session that its names
-- say; a file that isn't taken yet isn't open
pub record Balanced (w : World) (labels : ℕ → Labels) : Type 0 where
  pub pinned : (p : ℕ) → one_if (finset.contains (pool_at w).pinned p) ≡ sum_by (λ f. pinned_by p (file_at w f)) (upto FILES) + sum_by (λ k. bound_at p (handler_at w k).outgoing.bound) (upto 4)
  pub out_listed : (f : ℕ) → listings f (all_out w) ≡ one_if (is_pinned (file_at w f))
  pub in_listed : (f : ℕ) → listings f (all_in w) ≡ one_if (is_held (file_at w f))
  pub outgoing : (k : ℕ) → nat_lt k 4 ≡ true → (handler_at w k).outgoing.files ≡ listings_of_kind w k (all_out w)
  pub incoming : (k : ℕ) → nat_lt k 4 ≡ true → (handler_at w k).incoming.files ≡ listings_of_kind w k (all_in w)
  pub in_use : (f : ℕ) → finset.contains (registry_at w).files f ≡ is_some (file_at w f)
  pub opened : (f : ℕ) → one_if (is_open (file_at w f)) ≡ bound_labels labels f
  pub out_slots : IsTrue (list_all (λ s. nat_lt s OUT_SLOTS) (finmap.values (registry_at w).outgoing))
  pub in_slots : IsTrue (list_all is_in_slot (finmap.values (registry_at w).waiting ++ finmap.values (registry_at w).opened))
  pub slots : (s : ℕ) → nat_lt s SLOTS ≡ true → IsTrue (fits_slot (names_at (registry_at w).outgoing s) (names_at (registry_at w).waiting s) (names_at (registry_at w).opened s) (session_at w s))
  pub untaken : IsTrue (list_all (fits_listed w) (all_in w))
