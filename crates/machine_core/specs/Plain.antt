-- An agent that has a kernel for itself.
use Rattle.std.specs.Prelude.{◌≡◌, ℕ, ◌<◌, nat_le, ◌==◌, if◌then◌else◌, List, [], ◌∷◌, ◌++◌, length, filter, flat_map, Option, None, Some}
use Rattle.std.specs.declared.snapshot.Snapshot.{Snapshot}
use Rattle.ho_base.specs.ShapeRule.{Layout}
use Rattle.ho_base.specs.declared.numbers.ObjectNo.{ObjectNo}
use Rattle.ho_events.specs.History.{on, last_stamp}
use Rattle.ho_events.specs.Lists.{upto}
use Rattle.ho_events.specs.declared.entry.Entry.{Entry}
use Rattle.ho_world.specs.Logs.{Known, Paired, grown, known_all, paired_on}
use Rattle.phys_frames.specs.Homes.{HomeId}
use Rattle.machine_core.specs.declared.object.Object.{Object}
use Rattle.machine_core.specs.Agents.{Anchor, Agent, Back}
use Rattle.machine_core.specs.Kernels.{KernelValue, IsAt, IsRunAt, AreUpTo, object_at, starts_in, begun_in, histories_in}
use Rattle.machine_core.specs.Objects.{Spot, NoSpot, spot_at, object_count, start_of, history_of}

-- an agent at work on a kernel: the kernel as the work began, the objects now, the entries since then, the last object
-- that was given back without an entry, and for how many more entries the log has room
pub record PlainValue : Type 0 where
  pub agent : ℕ
  pub kernel : KernelValue
  pub objects : List (Option Object)
  pub log : List Entry
  pub back : Option (ℕ × Object)
  pub room : ℕ

abbrev pub back_in : Option (ObjectNo × Snapshot Object) → Option (ℕ × Object)
back_in None = None
back_in (Some b) = Some (b.0.0, b.1.value)

abbrev pub back_shown : Option (ℕ × Object) → Option Back
back_shown None = None
back_shown (Some b) = Some (record { number = b.0; history = history_of b.1 })

-- what is known of an object by somebody who sees all objects
abbrev pub known_at : List (Option Object) → List Entry → ℕ → Option Known
known_at opening log n = known_all (begun_in opening) (histories_in opening) log n

-- an object that is not at its place is in hand
abbrev pub hand_of : Spot → Option Object → Option Known → Option Known
hand_of NoSpot o k = None
hand_of spot None k = k
hand_of spot (Some o) k = None

abbrev pub hands_of : List (Option Object) → List (Option Object) → List Entry → ℕ → Option Known
hands_of opening objects log n = hand_of (spot_at n) (object_at objects n) (known_at opening log n)

-- the entries of a history beside what stood before each; nothing is said of what was known
abbrev pub pairs_of : List Entry → List Entry → List Paired
pairs_of seen [] = []
pairs_of seen (e ∷ es) = (record { before = seen; known = λ o. None; entry = e }) ∷ pairs_of (seen ++ e ∷ []) es

-- entries in the order of their stamps
abbrev pub put_in : Paired → List Paired → List Paired
put_in p [] = p ∷ []
put_in p (q ∷ qs) = if nat_le p.entry.stamp q.entry.stamp then p ∷ q ∷ qs else q ∷ put_in p qs

abbrev pub sorted : List Paired → List Paired
sorted [] = []
sorted (p ∷ ps) = put_in p (sorted ps)

-- an agent's entries in the histories of a kernel, in the order of their stamps
unfoldable pub earlier_in : ℕ → (ℕ → List Entry) → List Paired
earlier_in a histories = sorted (filter (λ p. p.entry.agent.0 == a) (flat_map (λ n. pairs_of [] (histories n)) (upto object_count)))

-- the kernel as the anchor of an agent's work on it
abbrev pub anchor_of : KernelValue → Anchor
anchor_of k = record { kernel = k.number; updates = k.updates; shape = k.shape; home = k.home; base = k.base }

-- the agent as its reach shows it
abbrev pub agent_of : PlainValue → Agent
agent_of r = record {
  number = r.agent;
  anchor = anchor_of r.kernel;
  starts = starts_in r.kernel.objects;
  earlier = earlier_in r.agent (histories_in r.kernel.objects);
  log = paired_on (begun_in r.kernel.objects) (histories_in r.kernel.objects) [] r.log;
  hands = hands_of r.kernel.objects r.objects r.log;
  back = back_shown r.back;
  told = Some (grown (histories_in r.kernel.objects) r.log);
  room = r.room;
}

-- an object at work: as at the beginning, but for the entries since then
pub record IsGrown (shape : Layout) (home : HomeId) (opening : List (Option Object)) (log : List Entry) (n : ℕ) (o : Object) : Type 0 where
  pub here : IsAt shape home n o
  pub start : starts_in opening n ≡ Some (start_of o)
  pub history : history_of o ≡ grown (histories_in opening) log n

abbrev pub GrownAt : Layout → HomeId → List (Option Object) → List Entry → ℕ → Option Object → Type 0
GrownAt shape home opening log n None = Unit {0}
GrownAt shape home opening log n (Some o) = IsGrown shape home opening log n o

-- each object that is not in hand is as at the beginning but for the entries since then, which lead on from its
-- history, are on numbers of objects alone, and rise
pub record KeepsWork (shape : Layout) (home : HomeId) (opening objects : List (Option Object)) (log : List Entry) : Type 0 where
  pub count : length objects ≡ object_count
  pub slots : (n : ℕ) → n < object_count → GrownAt shape home opening log n (object_at objects n)
  pub runs : (n : ℕ) → IsRunAt (starts_in opening n) (grown (histories_in opening) log n)
  pub unbuilt : (n : ℕ) → spot_at n ≡ NoSpot → on n log ≡ []
  pub stamps : AreUpTo (last_stamp log) log
