-- What a caller knows of the objects.
use Rattle.std.specs.Prelude.{◌≡◌, List}
use Rattle.turns_table.specs.Passes.{view}
use Rattle.turns_table.specs.declared.pass.Pass.{Pass}
use Rattle.turns_table.specs.declared.turns.Turns.{Turns}

module _ {T S : Type 0} where
  -- the objects at the beginning
  abbrev pub opening : Turns T S → List T
  opening t = t.table.shared.key.value.items

  -- the pass is one of these objects', and knows what they were at the beginning
  abbrev pub IsOf : Turns T S → Pass T → Type 0
  IsOf t p = (p.seat.table_id ≡ t.table.shared.table_id) × ((view p).opening ≡ opening t)
