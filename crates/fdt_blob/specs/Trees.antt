-- Trees of named nodes with properties, and which of them a blob can carry.
use Rattle.std.specs.Prelude.{ℕ, ◌+◌, ◌-◌, Bool, true, not, ◌&&◌, ◌||◌, ◌==◌, nat_lt, nat_le, nat_eq, List, [], ◌∷◌, length, map, Option, Some, None, if◌then◌else◌}
use Rattle.std.specs.List.{list_all, list_any}
use Rattle.std.specs.Cmp.Lexicographic.{pointwise}

-- a property: its name and its value
pub record Property : Type 0 where
  pub name : List ℕ
  pub value : List ℕ

-- A tree is a node: its name, its properties in order, and the trees below it in order.
mutual
  pub data Tree : Type 0 where
    node : List ℕ → List Property → Trees → Tree

  pub data Trees : Type 0 where
    no_trees : Trees
    tree : Tree → Trees → Trees

-- the parts of a node
abbrev pub name_of : Tree → List ℕ
name_of (node name properties children) = name

abbrev pub properties_of : Tree → List Property
properties_of (node name properties children) = properties

abbrev pub children_of : Tree → Trees
children_of (node name properties children) = children

abbrev pub names_of : Trees → List (List ℕ)
names_of no_trees = []
names_of (tree t ts) = name_of t ∷ names_of ts

abbrev pub count_of : Trees → ℕ
count_of no_trees = 0
count_of (tree t ts) = 1 + count_of ts

-- two names have the same bytes
abbrev pub same_name : List ℕ → List ℕ → Bool
same_name a b = pointwise nat_eq a b

-- the value of the first property with a name
abbrev pub value_in : List ℕ → List Property → Option (List ℕ)
value_in name [] = None
value_in name (p ∷ ps) = if same_name p.name name then Some p.value else value_in name ps

-- the first tree with a name
abbrev pub tree_in : List ℕ → Trees → Option Tree
tree_in name no_trees = None
tree_in name (tree t ts) = if same_name (name_of t) name then Some t else tree_in name ts

-- a digit, a letter, or one of , . _ + -
abbrev pub is_name_byte : ℕ → Bool
is_name_byte b =
    (nat_le 48 b && nat_le b 57) || (nat_le 65 b && nat_le b 90) || (nat_le 97 b && nat_le b 122)
    || b == 44 || b == 46 || b == 95 || b == 43 || b == 45

-- one of these, or ? or #
abbrev pub is_property_byte : ℕ → Bool
is_property_byte b = is_name_byte b || b == 63 || b == 35

-- The name of a node other than the root: 1 to 31 bytes of its set (Devicetree Specification, 2.2.1).
-- It may begin with any of them.
abbrev pub is_node_name : List ℕ → Bool
is_node_name name = nat_le 1 (length name) && nat_le (length name) 31 && list_all is_name_byte name

-- the name of a property: 1 to 31 bytes of its set (Devicetree Specification, 2.2.4)
abbrev pub is_property_name : List ℕ → Bool
is_property_name name = nat_le 1 (length name) && nat_le (length name) 31 && list_all is_property_byte name

-- no name stands twice
abbrev pub all_apart : List (List ℕ) → Bool
all_apart [] = true
all_apart (n ∷ names) = not (list_any (same_name n) names) && all_apart names

abbrev pub names_of_properties : List Property → List (List ℕ)
names_of_properties ps = map (λ p. p.name) ps

-- The names of the properties and of the nodes below a node are within their sets, at every level.
abbrev mutual
  pub has_names : Tree → Bool
  has_names (node name properties children) = list_all is_property_name (names_of_properties properties) && have_names children

  pub have_names : Trees → Bool
  have_names no_trees = true
  have_names (tree t ts) = is_node_name (name_of t) && has_names t && have_names ts

-- No two properties of a node and no two of its children have one name, at every level.
abbrev mutual
  pub has_no_double : Tree → Bool
  has_no_double (node name properties children) = all_apart (names_of_properties properties) && all_apart (names_of children) && have_no_double children

  pub have_no_double : Trees → Bool
  have_no_double no_trees = true
  have_no_double (tree t ts) = has_no_double t && have_no_double ts

-- The tree has at most n levels: the node itself is on the first, its children on the second.
abbrev mutual
  pub within_levels : ℕ → Tree → Bool
  within_levels n (node name properties children) = nat_lt 0 n && all_within_levels (n - 1) children

  pub all_within_levels : ℕ → Trees → Bool
  all_within_levels n no_trees = true
  all_within_levels n (tree t ts) = within_levels n t && all_within_levels n ts

-- the most levels of a tree
abbrev pub most_levels : ℕ
most_levels = 16

abbrev pub is_empty_name : List ℕ → Bool
is_empty_name name = length name == 0

-- The trees of blobs: the root's name is empty, the other names are within their sets, no name stands
-- twice among one node's properties or among its children, and there are at most 16 levels.
abbrev pub is_valid : Tree → Bool
is_valid t = is_empty_name (name_of t) && has_names t && within_levels most_levels t && has_no_double t
