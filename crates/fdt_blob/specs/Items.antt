-- The items that the program keeps.
use Rattle.std.specs.Prelude.{List, map, Option}
use Rattle.std.specs.Option.{option_map}
use Rattle.fdt_blob.specs.declared.items.Item.{Item as Kept}
use Rattle.fdt_blob.specs.declared.items.Item.TheVariants.{Begins, Holds, Ends}
use Rattle.fdt_blob.specs.Tokens.{Item, begins, holds, ends}

-- an item without where it lies in memory
abbrev pub item_view : Kept → Item
item_view (Begins name) = begins name.now
item_view (Holds name value) = holds name.now value.now
item_view Ends = ends

abbrev pub item_views : List Kept → List Item
item_views items = map item_view items

abbrev pub item_view_of : Option Kept → Option Item
item_view_of x = option_map item_view x
