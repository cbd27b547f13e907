-- What a pass knows.
use Rattle.std.specs.Prelude.{◌≡◌, ◌≢◌, ℕ, ◌+◌, ◌<◌, List, [], ◌∷◌, ◌++◌, length, slice_index_or, slice_set, replicate, Option, Some, None}
use Rattle.ho_events.specs.declared.entry.Entry.{Entry}
use Rattle.turns_table.specs.Logs.{entries_of}
use Rattle.turns_table.specs.declared.rule.Known.{Known}
use Rattle.turns_table.specs.declared.rule.Role.{Role}
use Rattle.turns_table.specs.declared.rule.Role.TheVariants.{Absent, Spare, Has}

-- the number is the pass's own, or the pass may still give it
abbrev pub IsMine : Role → Type 0
IsMine Absent = ⊥
IsMine _ = Unit {0}

-- one of two passes that are joined has the number, or none
abbrev pub merged : Role → Role → Role
merged Absent r = r
merged q _ = q

-- the same for each number
abbrev pub merge : List Role → List Role → List Role
merge [] rs = rs
merge (q ∷ qs) [] = q ∷ qs
merge (q ∷ qs) (r ∷ rs) = merged q r ∷ merge qs rs

-- the entries on objects in the log of a number
abbrev pub entries_in : Role → List Entry
entries_in (Has log) = entries_of log
entries_in _ = []

-- 1 where it isn't absent
abbrev pub weight : Role → ℕ
weight Absent = 0
weight _ = 1

-- how many of them are not absent
abbrev pub numbers : List Role → ℕ
numbers [] = 0
numbers (q ∷ qs) = weight q + numbers qs

-- how many agent numbers there are
unfoldable pub agents : ℕ
agents = 256

module _ {T : Type 0} where
  -- what the pass has to do with an agent number
  abbrev pub role : Known T → ℕ → Role
  role v a = slice_index_or v.roles a Absent

  -- the object as the pass found it, while it holds it
  abbrev pub holds : Known T → ℕ → Option T
  holds v k = slice_index_or v.held k None

  -- the pass has a number, of its own or to give
  abbrev pub HasNumber : Known T → Type 0
  HasNumber v = (a : ℕ) × (a < agents) × IsMine (role v a)

  -- the pass has no other number than a, of its own or to give
  abbrev pub IsOnly : Known T → ℕ → Type 0
  IsOnly v a = (b : ℕ) → b ≢ a → role v b ≡ Absent

  -- a view with these parts
  abbrev pub known : List ℕ → List Role → List (Option T) → List T → Option (ℕ × List Entry) → Known T
  known missed roles held opening last = record { missed = missed; roles = roles; held = held; opening = opening; last = last }

  -- the first pass may give every number, and has found and holds nothing
  abbrev pub first : List T → Known T
  first opening = known [] (replicate agents Spare) (replicate (length opening) None) opening None

  -- a pass that was joined to another knows nothing any more
  abbrev pub spent : Known T
  spent = known [] [] [] [] None

  -- it took the object k, as x
  abbrev pub took : ℕ → T → Known T → Known T
  took k x v = known v.missed v.roles (slice_set v.held k (Some x)) v.opening v.last

  -- it found these objects held, one after another
  abbrev pub missing : List ℕ → Known T → Known T
  missing missed v = known missed v.roles v.held v.opening v.last

  -- it found the object k held once more
  abbrev pub missed_one : ℕ → Known T → Known T
  missed_one k v = known (v.missed ++ k ∷ []) v.roles v.held v.opening v.last

  -- the turn at k has ended with an entry, before which the object had this history
  abbrev pub added : ℕ → List (List Entry × Entry) → List Entry → Entry → Known T → Known T
  added k log before e v = known v.missed (slice_set v.roles e.agent.0 (Has (log ++ (before, e) ∷ []))) (slice_set v.held k None) v.opening v.last

  -- the turn at k has ended without an entry, with this history
  abbrev pub let_go : ℕ → List Entry → Known T → Known T
  let_go k before v = known v.missed v.roles (slice_set v.held k None) v.opening (Some (k, before))

  -- it gave the number a away
  abbrev pub gave : ℕ → Known T → Known T
  gave a v = known v.missed (slice_set v.roles a Absent) v.held v.opening v.last

  -- the new pass that was given the number a
  abbrev pub given : ℕ → Known T → Known T
  given a v = known [] (slice_set (replicate agents Absent) a (Has [])) (replicate (length v.opening) None) v.opening None

  -- it took in the numbers of another pass
  abbrev pub joined : Known T → Known T → Known T
  joined v w = known v.missed (merge v.roles w.roles) v.held v.opening v.last
