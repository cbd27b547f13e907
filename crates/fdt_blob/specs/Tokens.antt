-- The structure block as tokens (Devicetree Specification, 5.4), and the tokens of a tree.
use Rattle.std.specs.Prelude.{◌≡◌, ℕ, ◌+◌, ◌-◌, ◌%◌, ◌^◌, ◌<◌, Bool, ◌&&◌, nat_lt, nat_le, List, [], ◌∷◌, ◌++◌, length, map, take, drop, replicate, IsTrue, Option, Some, None}
use Rattle.std.specs.Int.{w32, to_be_bytes}
use Rattle.std.specs.List.{list_all, filter_map}
use Rattle.fdt_blob.specs.Trees.{Property, Tree, Trees, node, no_trees, tree}

-- A token with what belongs to it. A property has its name, the name's place in the strings block, and its value.
-- The token END isn't one of them: it stands once, behind all others.
pub data Token : Type 0 where
  begin_node : List ℕ → Token
  property : List ℕ → ℕ → List ℕ → Token
  end_node : Token
  nop : Token

-- a number as four bytes, the highest first
abbrev pub word : ℕ → List ℕ
word n = to_be_bytes w32 n

-- how many bytes lead from n to the next multiple of 4
abbrev pub padding : ℕ → ℕ
padding n = (4 - n % 4) % 4

-- bytes, and zeros up to a multiple of 4
abbrev pub padded : List ℕ → List ℕ
padded bytes = bytes ++ replicate (padding (length bytes)) 0

-- The bytes of a token: BEGIN_NODE 1 with the name, a zero and padding; PROP 3 with the value's length, the
-- name's place, the value and padding; END_NODE 2; NOP 4.
abbrev pub token_bytes : Token → List ℕ
token_bytes (begin_node name) = word 1 ++ padded (name ++ 0 ∷ [])
token_bytes (property name place value) = word 3 ++ (word (length value) ++ (word place ++ padded value))
token_bytes end_node = word 2
token_bytes nop = word 4

-- the token END
abbrev pub end_bytes : List ℕ
end_bytes = word 9

-- a name in a blob has at most 31 bytes, and no zero, since a zero ends it
abbrev pub is_text : List ℕ → Bool
is_text name = nat_le (length name) 31 && list_all (nat_lt 0) name

-- the strings block has a name from a place on, and a zero behind it
abbrev pub HasNameAt : List ℕ → ℕ → List ℕ → Type 0
HasNameAt strings place name = take (length name + 1) (drop place strings) ≡ name ++ 0 ∷ []

-- a property's name stands in the strings block at its place; its length and its place have four bytes
pub record IsProperty (strings name : List ℕ) (place : ℕ) (value : List ℕ) : Type 0 where
  pub text : IsTrue (is_text name)
  pub named : HasNameAt strings place name
  pub place_fits : place < 2 ^ 32
  pub value_fits : length value < 2 ^ 32

-- a token can stand in a blob with this strings block
abbrev pub IsToken : List ℕ → Token → Type 0
IsToken strings (begin_node name) = IsTrue (is_text name)
IsToken strings (property name place value) = IsProperty strings name place value
IsToken strings end_node = Unit {0}
IsToken strings nop = Unit {0}

-- A token without NOP and without the place of a name: what a tree consists of.
pub data Item : Type 0 where
  begins : List ℕ → Item
  holds : List ℕ → List ℕ → Item
  ends : Item

abbrev pub item_of : Token → Option Item
item_of (begin_node name) = Some (begins name)
item_of (property name place value) = Some (holds name value)
item_of end_node = Some ends
item_of nop = None

-- what tokens say, their NOPs left out
abbrev pub items_of : List Token → List Item
items_of tokens = filter_map item_of tokens

abbrev pub property_item : Property → Item
property_item p = holds p.name p.value

-- A node's items: its begin, its properties, its children's items, and its end. So properties stand before children.
abbrev mutual
  pub tree_items : Tree → List Item
  tree_items (node name properties children) = begins name ∷ (map property_item properties ++ (trees_items children ++ ends ∷ []))

  pub trees_items : Trees → List Item
  trees_items no_trees = []
  trees_items (tree t ts) = tree_items t ++ trees_items ts
