-- Words of the functions that judge and write a tree: slices of nodes and names, and what a step puts behind.
use Rattle.std.specs.Prelude.{◌≡◌, ℕ, ◌<◌, ◌≤◌, List, [], ◌∷◌, ◌++◌, length, Result, Ok, Err}
use Rattle.std.specs.Borrow.{Bor}
use Rattle.std.specs.List.{flat_map}
use Rattle.fdt_blob.specs.declared.tree.Node.{Node}
use Rattle.fdt_blob.specs.declared.writer.WriteError.{WriteError}
use Rattle.fdt_blob.specs.declared.writer.WriteError.TheVariants.{TooBig, Memory}
use Rattle.fdt_blob.specs.Trees.{Tree, Trees, no_trees, tree}
use Rattle.fdt_blob.specs.Nodes.{tree_view}
use Rattle.fdt_blob.specs.Tokens.{Item, token_bytes}
use Rattle.fdt_blob.specs.Spelling.{token_of, names_from, assembled, spelling}

-- the trees of nodes, in order
abbrev pub trees_of : List Node → Trees
trees_of [] = no_trees
trees_of (n ∷ nodes) = tree (tree_view n) (trees_of nodes)

-- the names that are lent
abbrev pub texts : List (Bor (List ℕ)) → List (List ℕ)
texts [] = []
texts (r ∷ rs) = r.now ∷ texts rs

-- the names behind which those of the items are added
unfoldable pub names_after : List (List ℕ) → List Item → List (List ℕ)
names_after names items = names_from names items

-- the bytes of items where the strings block has these names
unfoldable pub items_bytes : List (List ℕ) → List Item → List ℕ
items_bytes names items = flat_map (λ item. token_bytes (token_of names item)) items

-- the parts of a blob in their order
unfoldable pub parts_of : List ℕ → List ℕ → List ℕ
parts_of structure strings = assembled structure strings

-- the blob of a tree
unfoldable pub blob_of : Tree → List ℕ
blob_of t = spelling t

-- why bytes weren't made: they would be more than 4096, or memory ran out
abbrev pub Fails : List ℕ → WriteError → Type 0
Fails bytes TooBig = 4096 < length bytes
Fails bytes Memory = Unit {0}

-- more was put behind the old bytes, or with it they fail
abbrev pub Puts : List ℕ → List ℕ → Result (Unit {0}) WriteError → List ℕ → Type 0
Puts old more (Ok x) new = new ≡ old ++ more
Puts old more (Err e) new = Fails (old ++ more) e

-- these bytes were made, and are at most 4096, or they fail
abbrev pub Makes : {V : Type 0} → (V → List ℕ) → List ℕ → Result V WriteError → Type 0
Makes view bytes (Ok v) = (view v ≡ bytes) × (length bytes ≤ 4096)
Makes view bytes (Err e) = Fails bytes e
