-- Items behind a tree.
use Rattle.std.proofs.Common.{◌≡◌, ℕ, zero, suc, ◌<◌, Bool, false, List, [], ◌∷◌, length, drop, refl, arith}
use Rattle.fdt_blob.specs.declared.items.Item.{Item as Kept}
use Rattle.fdt_blob.specs.Items.{item_view, item_views}
use Rattle.fdt_blob.specs.Tokens.{Item, begins, holds, ends}
use Rattle.fdt_blob.specs.Shape.{goes_on}

-- nothing stands behind the root's end
pub goes_on_closed : (has_child : Bool) (item : Item) (items : List Item) → goes_on 0 has_child (item ∷ items) ≡ false
unfolding goes_on
goes_on_closed has_child (begins name) items = refl
goes_on_closed has_child (holds name value) items = refl
goes_on_closed has_child ends items = refl

-- the same where an item is left
pub goes_on_left : (has_child : Bool) (kept : List Kept) (i : ℕ) → i < length kept → goes_on 0 has_child (item_views (drop i kept)) ≡ false
goes_on_left has_child [] i h = absurd (omega arith)
goes_on_left has_child (x ∷ xs) zero h = goes_on_closed has_child (item_view x) (item_views xs)
goes_on_left has_child (x ∷ xs) (suc i) h = goes_on_left has_child xs i (omega arith)
