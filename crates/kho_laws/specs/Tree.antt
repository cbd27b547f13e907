-- The tree of the entry frame as it is written, and what it says when it is read. Values are numbers of 8 bytes, the highest
-- byte first.
use Rattle.std.specs.Prelude.{◌≡◌, ℕ, nat_le, Bool, true, ◌&&◌, ◌==◌, List, [], ◌∷◌, ◌++◌, length, Option, Some, None, IsTrue}
use Rattle.std.specs.Int.{w64, to_be_bytes}
use Rattle.std.specs.List.{flat_map, list_all}
use Rattle.ho_base.specs.ShapeRule.{Layout, is_layout}
use Rattle.ho_base.specs.declared.shape.Area.{Area}
use Rattle.fdt_blob.specs.Trees.{Property, Tree, node, no_trees, tree}
use Rattle.ho_world.specs.Frozen.{MOST_UPDATES}
use Rattle.record_frames.specs.Rules.{Version, version_1, versions, fits}
use Rattle.record_frames.specs.Handover.{Luo, COMPATIBLE, MEMORY_MAP, SCRATCH, LUO, UPDATE_NUMBER, SESSION_HEADER, BOUND_NAMES, root_of, luo_of}

-- a number as 8 bytes, the highest first
abbrev pub high_first : ℕ → List ℕ
high_first n = to_be_bytes w64 n

abbrev pub property : List ℕ → List ℕ → Property
property name value = record { name = name; value = value }

-- an area: its first frame, and how many frames it has
abbrev pub area_bytes : Area → List ℕ
area_bytes a = high_first a.first.0 ++ high_first a.count

-- the properties of the bound records that there are
abbrev pub bound_properties : List (List ℕ) → List (Option ℕ) → List Property
bound_properties [] frames = []
bound_properties (name ∷ names) [] = []
bound_properties (name ∷ names) (None ∷ frames) = bound_properties names frames
bound_properties (name ∷ names) (Some p ∷ frames) = property name (high_first p) ∷ bound_properties names frames

-- the root's child
abbrev pub luo_tree : Version → Luo → Tree
luo_tree v l =
    node LUO
    (property COMPATIBLE v.luo ∷ property UPDATE_NUMBER (high_first l.number) ∷ property SESSION_HEADER (high_first l.header) ∷ bound_properties BOUND_NAMES l.bounds)
    no_trees

-- the tree that is written
abbrev pub handover_tree : Version → Layout → ℕ → Luo → Tree
handover_tree v shape chunk l =
    node []
    (property COMPATIBLE v.root ∷ property MEMORY_MAP (high_first chunk) ∷ property SCRATCH (flat_map area_bytes shape.scratch) ∷ [])
    (tree (luo_tree v l) no_trees)

-- a frame's number that is there has 8 bytes
abbrev pub bound_fits : Option ℕ → Bool
bound_fits None = true
bound_fits (Some p) = fits p

-- The child can be written: its update number may be handed on, there is a place for each of the four kinds, and each number
-- has 8 bytes.
abbrev pub can_tell : Luo → Bool
can_tell l = nat_le 1 l.number && nat_le l.number MOST_UPDATES && fits l.header && length l.bounds == 4 && list_all bound_fits l.bounds

-- The root of the tree that is written says its version, the shape, the first chunk frame, and the child.
abbrev pub RootAgain : Type 0
RootAgain =
    (shape : Layout) (chunk : ℕ) (l : Luo) → IsTrue (is_layout shape.frames shape.scratch) → IsTrue (fits chunk)
    → root_of versions shape.frames (handover_tree version_1 shape chunk l) ≡ Some (record { version = version_1; shape = shape; chunk = chunk; luo = luo_tree version_1 l })

-- Its child says the update number, the session frame, and the frames of the bound records.
abbrev pub LuoAgain : Type 0
LuoAgain = (l : Luo) → IsTrue (can_tell l) → luo_of version_1 (luo_tree version_1 l) ≡ Some l
