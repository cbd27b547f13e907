-- What each step tells.
use Rattle.std.specs.Prelude.{◌≡◌, ℕ, ◌%◌, List, [], ◌∷◌, ◌++◌, slice_index_or, Option, Some, None}
use mathlib.Core.Option.{some}
use lib.ListN.{get_elem?}
use Rattle.atomic_table.specs.Table.{Me, Step, rest}
use Rattle.ho_events.specs.declared.entry.Entry.{Entry}
use Rattle.ho_events.specs.declared.entry.Place.TheVariants.{Object}
use Rattle.turns_table.specs.Logs.{by_agent, on_object, entries_of, StartsWith}
use Rattle.turns_table.specs.Views.{entries_in, role, holds, took, missed_one, added, let_go}
use Rattle.turns_table.specs.declared.rule.Known.{Known}
use Rattle.turns_table.specs.declared.rule.Role.TheVariants.{Has}

-- a seat, as a step sees it
abbrev Sat : Type 0 → Type 0
Sat T = Me (Option T) (Known T)

module _ {T S : Type 0} (start : T → S) (history : T → List Entry) (balanced : List S → List (List Entry) → List (List Entry) → Type 0) where
  -- some starts, histories and logs are balanced with what the pass knows, and with this object
  abbrev pub Agrees : Known T → ℕ → T → Type 0
  Agrees v k x =
      (starts : List S) × (histories logs : List (List Entry)) × balanced starts histories logs × (get_elem? starts k ≡ some (start x)) × (get_elem? histories k ≡ some (history x))
      × ((j : ℕ) (y : T) → holds v j ≡ Some y → (get_elem? starts j ≡ some (start y)) × (get_elem? histories j ≡ some (history y)))
      × ((a : ℕ) (log : List (List Entry × Entry)) → role v a ≡ Has log → slice_index_or logs a [] ≡ entries_of log)

  -- the history begins with what stood beside each entry of the log on the object, and then the entry
  abbrev pub Includes : List (List Entry × Entry) → ℕ → List Entry → Type 0
  Includes log k after = (i : ℕ) (p : List Entry × Entry) → get_elem? log i ≡ some p → (o : _) → p.1.object ≡ Object o → o.0 ≡ k → StartsWith after (p.0 ++ p.1 ∷ [])

  -- what a pass learns of the object k, which it finds as x
  pub record Found (v : Known T) (k : ℕ) (x : T) : Type 0 where
    -- the object at the beginning
    pub was : T
    pub was_at : get_elem? v.opening k ≡ some was
    pub same_start : start x ≡ start was
    -- the entries since then, and of these the pass's own ones exactly as its logs have them
    pub since : List Entry
    pub grown : history x ≡ history was ++ since
    pub own : (a : ℕ) (log : List (List Entry × Entry)) → role v a ≡ Has log → by_agent a since ≡ on_object k (entries_of log)
    -- its history has each entry of the pass at its place
    pub includes : (a : ℕ) (log : List (List Entry × Entry)) → role v a ≡ Has log → Includes log k (history x)
    -- what the pass knows can be part of a balanced whole
    pub agrees : Agrees v k x

  -- what the last pass finds: all new entries of the object are those of the logs
  abbrev pub Settled : Known T → ℕ → T → Type 0
  Settled v k x = (f : Found v k x) × ((a : ℕ) → by_agent a f.since ≡ on_object k (entries_in (role v a)))

  -- a try at a word: where it was even the pass has the object now, and knows what it has become; where it was odd the pass notes that it missed the object
  abbrev pub tried : Step (Option T) → Sat T → ℕ → Sat T → Type 0
  tried st m r n = (r % 2 ≡ 0 → (x : T) × (holds m.0 st.word ≡ None) × (n ≡ (took st.word x m.0, (st.word, Some x) ∷ m.1)) × Found m.0 st.word x) × (r % 2 ≡ 1 → n ≡ (missed_one st.word m.0, m.1))

  -- the end of a turn with an entry: the slot that came first goes home, and the log has the entry
  abbrev pub entered : Step (Option T) → Sat T → ℕ → Sat T → Type 0
  entered st m r n = (x y : T) (log : List (List Entry × Entry)) (e : Entry) → holds m.0 st.word ≡ Some x → m.1 ≡ (st.word, Some y) ∷ rest m.1 → history y ≡ history x ++ e ∷ [] → role m.0 e.agent.0 ≡ Has log
      → n ≡ (added st.word log (history x) e m.0, rest m.1)

  -- the end of a turn without an entry: the slot that came first goes home
  abbrev pub released : Step (Option T) → Sat T → ℕ → Sat T → Type 0
  released st m r n = (x : T) → holds m.0 st.word ≡ Some x → n ≡ (let_go st.word (history x) m.0, rest m.1)
