-- The tree of the entry frame as the program reads it.
use Rattle.std.specs.Prelude.{◌≡◌, ℕ, ◌+◌, Bool, false, ◌&&◌, ◌==◌, nat_le, List, Option, Some, None}
use Rattle.ho_base.specs.ShapeRule.{is_layout}
use Rattle.ho_base.specs.declared.shape.Area.{Area}
use Rattle.fdt_blob.specs.Trees.{Tree, same_name}
use Rattle.fdt_blob.specs.Tokens.{Item}
use Rattle.fdt_blob.specs.Places.{IsTreeAt}
use Rattle.ho_world.specs.Frozen.{MOST_UPDATES}
use Rattle.record_frames.specs.Rules.{version_1, versions}
use Rattle.record_frames.specs.Handover.{◌>>=◌, Luo, number_of, root_of}
use Rattle.record_frames.specs.declared.handover.RootRead.{RootRead}
use Rattle.record_frames.specs.declared.handover.LuoRead.{LuoRead}

-- a value is there, and is this word
abbrev pub has_word : List ℕ → Option (List ℕ) → Bool
has_word word None = false
has_word word (Some value) = same_name word value

-- the number that a value is, if there is one
abbrev pub number_in : Option (List ℕ) → Option ℕ
number_in None = None
number_in (Some value) = number_of value

-- the frame of a bound record: none where there is no value; refused where the value isn't a number
abbrev pub bound_in : Option (List ℕ) → Option (Option ℕ)
bound_in None = Some None
bound_in (Some value) = number_of value >>= λ p. Some (Some p)

-- an update number that may be handed on, in a node without children and with as many properties as are due
abbrev pub is_whole : ℕ → ℕ → ℕ → ℕ → Bool
is_whole number children properties given =
    nat_le 1 number && nat_le number MOST_UPDATES && children == 0 && properties == 3 + given

-- areas were read; where a number is larger than that of any frame, they make no shape
abbrev pub TellsAreas : {X : Type 0} → (X → List Area) → List Area → Option X → Type 0
TellsAreas items areas None = (n : ℕ) → is_layout n areas ≡ false
TellsAreas items areas (Some x) = items x ≡ areas

-- a root was read on so many frames, with the place of its child; or it breaks a rule
abbrev pub TellsRoot : List Item → ℕ → Tree → Option RootRead → Type 0
TellsRoot items n t None = root_of versions n t ≡ None
TellsRoot items n t (Some r) =
    (luo : Tree) × IsTreeAt items r.luo.0 luo
    × (root_of versions n t ≡ Some (record { version = version_1; shape = r.shape; chunk = r.chunk; luo = luo }))

abbrev pub luo_view : LuoRead → Luo
luo_view l = record { number = l.number; header = l.header; bounds = l.bounds }
