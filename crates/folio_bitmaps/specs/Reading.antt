-- Elements that are read one after another.
use Rattle.std.specs.Prelude.{◌≡◌, ℕ, ◌+◌, ◌*◌, ◌%◌, ◌^◌, ◌<◌, ◌≤◌, true, false, List, [], ◌∷◌}
use Rattle.phys_frames.specs.Pages.{with_run}
use Rattle.ho_base.specs.BitmapCount.{cover}
use Rattle.folio_bitmaps.specs.Bitmaps.{is_set}
use Rattle.folio_bitmaps.specs.Chunks.{Element, IsElement, IsChunk, elements_of, number_of}

-- no bit is set from a place on
abbrev pub NoneFrom : List ℕ → ℕ → Type 0
NoneFrom bits from = (b : ℕ) → from ≤ b → is_set bits b ≡ false

-- there is a bitmap of the order from the base on
abbrev pub HasBitmap : ℕ → ℕ → ℕ → Type 0
HasBitmap n order base = (order ≤ 9) × (base < n) × (base % cover order ≡ 0)

-- the runs of set bits end within n frames
abbrev pub EndWithin : ℕ → ℕ → ℕ → List ℕ → Type 0
EndWithin n order base bits = (b : ℕ) → b < 4096 → is_set bits b ≡ true → base + b * 2 ^ order + 2 ^ order ≤ n

-- an element that keeps the rules and whose number is at least the one that is wanted
pub record Follows (n least : ℕ) (e : Element) : Type 0 where
  pub is : IsElement n e
  pub later : least ≤ number_of n e

-- elements that keep the rules, with rising numbers from the one that is wanted on
abbrev pub Follow : ℕ → ℕ → List Element → Type 0
Follow n least [] = Unit {0}
Follow n least (e ∷ es) = Follows n least e × Follow n (number_of n e + 1) es

-- the least number after them
abbrev pub least_after : ℕ → ℕ → List Element → ℕ
least_after n least [] = least
least_after n least (e ∷ es) = least_after n (number_of n e + 1) es

-- the bytes of all bitmaps with an element's in its place
abbrev pub put : ℕ → List ℕ → Element → List ℕ
put n bytes e = with_run bytes (512 * number_of n e) 512 e.bits

-- the same for elements
abbrev pub puts : ℕ → List ℕ → List Element → List ℕ
puts n bytes [] = bytes
puts n bytes (e ∷ es) = puts n (put n bytes e) es

-- a chunk frame whose elements go on from a number
pub record GoesOn (n least : ℕ) (page : List ℕ) : Type 0 where
  pub shaped : IsChunk page
  pub follow : Follow n least (elements_of page)
