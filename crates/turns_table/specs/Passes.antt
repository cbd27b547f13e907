-- What a caller knows of a pass.
use Rattle.std.specs.Prelude.{◌≡◌, ℕ, List, None}
use Rattle.ho_events.specs.declared.entry.Entry.{Entry}
use Rattle.turns_table.specs.Kept.{items_at, room_at}
use Rattle.turns_table.specs.Views.{role, holds, IsOnly}
use Rattle.turns_table.specs.declared.rule.Role.TheVariants.{Has}
use Rattle.turns_table.specs.declared.rule.Known.{Known}
use Rattle.turns_table.specs.declared.pass.Pass.{Pass}

module _ {T : Type 0} where
  -- what the pass knows
  abbrev pub view : Pass T → Known T
  view p = p.seat.me.0

  -- the same pass, with this view
  abbrev pub IsNow : Pass T → Pass T → Known T → Type 0
  IsNow p q v = (q.seat.table_id ≡ p.seat.table_id) × (q.seat.id ≡ p.seat.id) × (view q ≡ v)

  -- the pass holds nothing, and the number a is its only one
  abbrev pub IsIdle : Pass T → ℕ → Type 0
  IsIdle p a = ((k : ℕ) → holds (view p) k ≡ None) × IsOnly (view p) a × ((log : List (List Entry × Entry)) × (role (view p) a ≡ Has log))

  -- the whole log of an agent number, with the agent's own entries
  abbrev pub log_of : Pass T → ℕ → List Entry
  log_of p a = items_at p.logs.logs.items a

  -- how many more entries the log of the pass's only number has room for
  abbrev pub room : Pass T → ℕ
  room p = room_at p.logs.logs.items p.logs.number
