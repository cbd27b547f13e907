-- The frames of a machine that is switched on.
use Rattle.std.proofs.Common.{◌≡◌, ℕ, ◌≤◌, List, length, replicate, refl, sym, ap, subst, ◌∙◌, arith, IsTrue, zero, suc}
use Rattle.std.specs.Prelude.{Option, Some, IsSome}
use Rattle.std.specs.List.{All}
use Rattle.std.proofs.lemmas.Bool.Decides.{nat_tests}
use Rattle.std.proofs.lemmas.List.{length-replicate}
use Rattle.ho_base.specs.ShapeRule.{is_layout}
use Rattle.ho_base.specs.declared.shape.Area.{Area}
use Rattle.ho_base.specs.declared.limits.TheConstants.{MIN_FRAMES, MAX_FRAMES}

-- a shape has enough frames, and not too many
pub layout_least : (n : ℕ) → (areas : List Area) → IsTrue (is_layout n areas) → MIN_FRAMES ≤ n
layout_least n areas h = grind (arith, nat_tests)

pub layout_most : (n : ℕ) → (areas : List Area) → IsTrue (is_layout n areas) → n ≤ MAX_FRAMES
layout_most n areas h = grind (arith, nat_tests)

-- new frames are all home, and as many as were asked for
some_each : (n : ℕ) → (page : List ℕ) → All IsSome (replicate n (Some page))
some_each zero page k d below = absurd omega (arith, below)
some_each (suc n) page zero d below = refl
some_each (suc n) page (suc k) d below = some_each n page k d (omega (arith, below))

pub all_home : (pages : List (Option (List ℕ))) → (n : ℕ) → (page : List ℕ) → pages ≡ replicate n (Some page) → All IsSome pages
all_home pages n page is = subst (λ ps. All IsSome ps) (sym is) (some_each n page)

pub as_many : (pages : List (Option (List ℕ))) → (n : ℕ) → (page : List ℕ) → pages ≡ replicate n (Some page) → n ≡ length pages
as_many pages n page is = sym (ap length is ∙ length-replicate n (Some page))
