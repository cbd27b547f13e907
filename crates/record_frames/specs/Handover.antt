-- The tree of the entry frame: what it says. Values are numbers of 8 bytes, the highest byte
-- first. Properties are found by their names, so their order doesn't matter; that there are no others is found by counting.
use Rattle.std.specs.Prelude.{ℕ, zero, suc, ◌+◌, ◌/◌, ◌%◌, Bool, ◌&&◌, ◌==◌, nat_le, if◌then◌else◌, List, [], ◌∷◌, length, take, drop, codes, Option, Some, None}
use Rattle.std.specs.Int.{w64, from_be_bytes}
use Rattle.ho_base.specs.ShapeRule.{Layout, is_layout}
use Rattle.ho_base.specs.declared.shape.Area.{Area}
use Rattle.fdt_blob.specs.Trees.{Property, Tree, properties_of, children_of, count_of, value_in, tree_in, same_name}
use Rattle.ho_world.specs.Frozen.{MOST_UPDATES}
use Rattle.record_frames.specs.Rules.{Version}

infixl 10 ◌>>=◌
abbrev pub ◌>>=◌ : {A B : Type 0} → Option A → (A → Option B) → Option B
None >>= f = None
(Some x) >>= f = f x

-- a value where a test holds
abbrev pub only_if : {A : Type 0} → Bool → A → Option A
only_if test x = if test then Some x else None

-- what the root says, and its child
pub record Root : Type 0 where
  pub version : Version
  pub shape : Layout
  pub chunk : ℕ
  pub luo : Tree

-- what the child says: the update number, the session frame, and for each kind the frame of its bound record
pub record Luo : Type 0 where
  pub number : ℕ
  pub header : ℕ
  pub bounds : List (Option ℕ)

-- the names of the tree's properties and of its child
abbrev pub COMPATIBLE : List ℕ
COMPATIBLE = codes "compatible"

abbrev pub MEMORY_MAP : List ℕ
MEMORY_MAP = codes "preserved-memory-map"

abbrev pub SCRATCH : List ℕ
SCRATCH = codes "scratch"

abbrev pub LUO : List ℕ
LUO = codes "luo"

abbrev pub UPDATE_NUMBER : List ℕ
UPDATE_NUMBER = codes "liveupdate-number"

abbrev pub SESSION_HEADER : List ℕ
SESSION_HEADER = codes "session-header"

-- the properties of the bound records, in order of kinds
abbrev pub BOUND_NAMES : List (List ℕ)
BOUND_NAMES = codes "bound-dev0" ∷ codes "bound-dev1" ∷ codes "bound-dev2" ∷ codes "bound-dev3" ∷ []

-- the number that 8 bytes are
abbrev pub number_of : List ℕ → Option ℕ
number_of value = if length value == 8 then Some (from_be_bytes w64 value) else None

-- so many areas, each 16 bytes
abbrev pub areas_of : ℕ → List ℕ → List Area
areas_of zero value = []
areas_of (suc k) value =
    record { first = record { 0 = from_be_bytes w64 (take 8 value) }; count = from_be_bytes w64 (take 8 (drop 8 value)) }
    ∷ areas_of k (drop 16 value)

-- the version that has this word in its root
abbrev pub version_of : List Version → List ℕ → Option Version
version_of [] word = None
version_of (v ∷ vs) word = if same_name v.root word then Some v else version_of vs word

-- the shape that areas make on n frames
abbrev pub shape_of : ℕ → List ℕ → Option Layout
shape_of n value =
    let areas = areas_of (length value / 16) value in
    if length value % 16 == 0 && is_layout n areas then Some (record { frames = n; scratch = areas }) else None

-- what the root of a tree says where there are n frames; none where it breaks a rule
unfoldable pub root_of : List Version → ℕ → Tree → Option Root
root_of versions n t = do
  word ← value_in COMPATIBLE (properties_of t)
  version ← version_of versions word
  map_value ← value_in MEMORY_MAP (properties_of t)
  chunk ← number_of map_value
  areas ← value_in SCRATCH (properties_of t)
  shape ← shape_of n areas
  luo ← tree_in LUO (children_of t)
  only_if (length (properties_of t) == 3 && count_of (children_of t) == 1)
      (record { version = version; shape = shape; chunk = chunk; luo = luo })

-- the frames of the bound records: none where a property is missing; refused where it isn't a number
abbrev pub bounds_of : List (List ℕ) → List Property → Option (List (Option ℕ))
bounds_of [] ps = Some []
bounds_of (name ∷ names) ps = do
  frames ← bounds_of names ps
  with_frame (value_in name ps) frames
  where
    with_frame : Option (List ℕ) → List (Option ℕ) → Option (List (Option ℕ))
    with_frame None frames = Some (None ∷ frames)
    with_frame (Some value) frames = number_of value >>= λ p. Some (Some p ∷ frames)

-- how many kinds have a bound record
abbrev pub count_given : {A : Type 0} → List (Option A) → ℕ
count_given [] = 0
count_given (None ∷ xs) = count_given xs
count_given (Some x ∷ xs) = 1 + count_given xs

-- what the root's child says; none where it breaks a rule
unfoldable pub luo_of : Version → Tree → Option Luo
luo_of v t = do
  word ← value_in COMPATIBLE (properties_of t)
  number_value ← value_in UPDATE_NUMBER (properties_of t)
  number ← number_of number_value
  header_value ← value_in SESSION_HEADER (properties_of t)
  header ← number_of header_value
  bounds ← bounds_of BOUND_NAMES (properties_of t)
  only_if (same_name v.luo word && nat_le 1 number && nat_le number MOST_UPDATES && count_of (children_of t) == 0
      && length (properties_of t) == 3 + count_given bounds)
      (record { number = number; header = header; bounds = bounds })
