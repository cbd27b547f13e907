-- The rule of the table: what is true between any two steps.
-- A word is twice the number of its object's entries, and one more while a pass holds the object.
use Rattle.std.specs.Prelude.{◌≡◌, ℕ, ◌+◌, ◌*◌, ◌%◌, ◌^◌, ◌<◌, List, [], ◌∷◌, ◌++◌, length, map, slice_index, slice_index_or, Option, Some}
use mathlib.Core.Option.{some}
use lib.ListN.{get_elem?}
use Rattle.atomic_table.specs.Table.{State}
use Rattle.atomic_table.specs.Seated.{TableId}
use Rattle.ho_events.specs.declared.entry.Entry.{Entry}
use Rattle.ho_events.specs.declared.entry.Place.TheVariants.{Object}
use Rattle.turns_table.specs.Logs.{by_agent, on_object, entries_of, StartsWith}
use Rattle.turns_table.specs.Views.{IsMine, role, holds, HasNumber, agents}
use Rattle.turns_table.specs.declared.rule.Known.{Known}
use Rattle.turns_table.specs.declared.rule.Role.{Role}
use Rattle.turns_table.specs.declared.rule.Role.TheVariants.{Absent, Spare, Has}

-- a word and a slot for each object
abbrev pub IsSized : ℕ → TableId → Type 0
IsSized n z = (z.words ≡ n) × (z.slots ≡ n) × (0 < n)

-- x is what the object k, which began as o, has become; its new entries are those of the logs
pub record IsGrown {T S : Type 0} (start : T → S) (history : T → List Entry) (logs : List (List Entry)) (k : ℕ) (o x : T) : Type 0 where
  pub same_start : start x ≡ start o
  pub since : List Entry
  pub grown : history x ≡ history o ++ since
  pub shared : (a : ℕ) → by_agent a since ≡ on_object k (slice_index_or logs a [])

-- an entry of a log: it is of this agent, on an object whose history begins with what stands beside it and then the entry
abbrev pub IsKept : {T : Type 0} → (T → List Entry) → List T → ℕ → List Entry × Entry → Type 0
IsKept {T} history nows a p = (o : _) × (p.1.object ≡ Object o) × (p.1.agent.0 ≡ a) × ((x : T) × (get_elem? nows o.0 ≡ some x) × StartsWith (history x) (p.0 ++ p.1 ∷ []))

module _ {T : Type 0} (history : T → List Entry) (nows : List T) (logs : List (List Entry)) (who : ℕ → ℕ) (seat a : ℕ) where
  -- what stands behind the role of an agent number in the view of a seat
  abbrev pub Backs : Role → Type 0
  Backs Absent = Unit {0}
  Backs Spare = (who a ≡ seat) × (slice_index_or logs a [] ≡ [])
  Backs (Has log) = (who a ≡ seat) × (slice_index_or logs a [] ≡ entries_of log) × ((i : ℕ) (p : List Entry × Entry) → get_elem? log i ≡ some p → IsKept history nows a p)

-- what the rule says of the view of a seat
pub record Knows {T : Type 0} (history : T → List Entry) (opening nows : List T) (logs : List (List Entry)) (words : List ℕ) (owner who : ℕ → ℕ) (seat : ℕ) (v : Known T) : Type 0 where
  -- what it holds is out, with this seat alone, and stands as it was found
  pub held : (k : ℕ) (x : T) → holds v k ≡ Some x → (slice_index words k % 2 ≡ 1) × (owner k ≡ seat) × (get_elem? nows k ≡ some x) × HasNumber v
  -- its numbers are its alone, and their logs are the real ones
  pub numbers : (a : ℕ) → Backs history nows logs who seat a (role v a)
  -- a view that isn't spent knows the objects at the beginning
  pub sized : HasNumber v → (v.opening ≡ opening) × (length v.held ≡ length opening) × (length v.roles ≡ agents)

-- the seat has the object out
abbrev pub IsOut : {T : Type 0} → List (Known T) → ℕ → ℕ → T → Type 0
IsOut {T} views seat k x = (v : Known T) × (get_elem? views seat ≡ some v) × (holds v k ≡ Some x)

-- the seat has the agent number
abbrev pub HasIt : {T : Type 0} → List (Known T) → ℕ → ℕ → Type 0
HasIt {T} views seat a = (v : Known T) × (get_elem? views seat ≡ some v) × IsMine (role v a)

-- The rule, over the objects that the table was made with, and its words, homes and views.
pub record Ruled {T S : Type 0} (start : T → S) (history : T → List Entry) (balanced : List S → List (List Entry) → List (List Entry) → Type 0) (opening : List T) (s : State (Option T) (Known T)) : Type 0 where
  -- the objects at home, or as their holders found them
  pub nows : List T
  -- the seat that has an object which is out
  pub owner : ℕ → ℕ
  -- the one seat that has an agent number
  pub who : ℕ → ℕ
  -- the entries on objects of every agent, by agent number
  pub logs : List (List Entry)
  pub wide : length s.words ≡ length opening
  pub deep : length s.homes ≡ length opening
  pub long : length nows ≡ length opening
  pub many : length logs ≡ agents
  -- each object has its start still, and its new entries are those of the logs
  pub grown : (k : ℕ) (o x : T) → get_elem? opening k ≡ some o → get_elem? nows k ≡ some x → IsGrown start history logs k o x
  -- a word is twice the number of its object's entries, and its parity says whether the object is held
  pub counted : (k : ℕ) (x : T) → get_elem? nows k ≡ some x → slice_index s.words k ≡ (2 * length (history x) + slice_index s.words k % 2) % 2 ^ 64
  -- where a word is even its slot is at home, with the object
  pub home : (k : ℕ) (x : T) → get_elem? nows k ≡ some x → slice_index s.words k % 2 ≡ 0 → get_elem? s.homes k ≡ some (some (Some x))
  -- where it is odd a seat holds the object: its view has the object as it found it
  pub out : (k : ℕ) (x : T) → get_elem? nows k ≡ some x → slice_index s.words k % 2 ≡ 1 → IsOut s.views (owner k) k x
  -- each view is right
  pub seats : (j : ℕ) (v : Known T) → get_elem? s.views j ≡ some v → Knows history opening nows logs s.words owner who j v
  -- each agent number is some seat's
  pub numbers : (a : ℕ) → a < agents → HasIt s.views (who a) a
  -- all starts, histories and logs are balanced
  pub balance : balanced (map start nows) (map history nows) logs
