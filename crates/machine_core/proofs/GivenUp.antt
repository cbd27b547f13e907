-- How a kernel's objects are given up.
use Rattle.std.proofs.Common.{◌≡◌, ◌≢◌, ℕ, ◌<◌, List, [], ◌∷◌, length, refl, sym, subst, ◌∙◌, arith, slice_index_or, slice_set, get_or-set_same, get_or-set_other, zero, suc, inl, inr}
use Rattle.std.specs.Prelude.{Option, None, Some, IsSome}
use Rattle.std.specs.List.{All}
use Rattle.std.proofs.Math.ListN.{length-set}
use Rattle.std.proofs.lemmas.Bool.Decides.{nat_tests, eqb_tells}
use Rattle.ho_base.specs.ShapeRule.{Layout}
use Rattle.ho_base.specs.Objects.{pool_no}
use Rattle.phys_frames.specs.Homes.{HomeId}
use Rattle.phys_frames.specs.Memory.{FolioValue, AreOf}
use Rattle.machine_core.specs.declared.object.Object.{Object}
use Rattle.machine_core.specs.declared.object.Object.TheVariants as kind_of
use Rattle.machine_core.specs.Kernels.{object_at, IsAt, IsSlot, KeepsKernel, IsLeft}
use Rattle.machine_core.specs.Objects.{PoolSpot, spot_at, object_count}
use Rattle.machine_core.proofs.Standing.{some_slot}

module _ (shape : Layout) (home : HomeId) (base : ℕ) (objects : List (Option Object)) (k : KeepsKernel shape home base objects) where
  pool_below : pool_no < object_count
  pool_below = omega arith

  pub pool_within : pool_no < length objects
  pool_within = omega (arith, k.count)

  -- the pool is at its place
  there : (o : Object) × (object_at objects pool_no ≡ Some o) × IsAt shape home pool_no o
  there = some_slot shape home pool_no (object_at objects pool_no) (k.slots pool_no pool_below) (λ e. cc)

  is_there : (x : Option Object) (o : Object) → x ≡ Some o → IsSome x
  is_there None o e = absurd cc
  is_there (Some y) o e = refl

  pub pool_there : IsSome (object_at objects pool_no)
  pool_there = is_there (object_at objects pool_no) there.0 there.1

  same_object : (a b : Object) → Some a ≡ Some b → a ≡ b
  same_object a b e = cc

  pub is_pool : (o : Object) → object_at objects pool_no ≡ Some o → IsAt shape home pool_no o
  is_pool o e = subst (IsAt shape home pool_no) (same_object there.0 o (sym there.1 ∙ e)) there.2

  -- another place has no pool, and a file of this home
  pool_no_is : (n : ℕ) → spot_at n ≡ PoolSpot → n ≡ pool_no
  pool_no_is n e = grind (arith, nat_tests)

  left_at : (n : ℕ) (slot : Option Object) → n ≢ pool_no → IsSlot shape home n slot → IsLeft home slot
  left_at n None other h = tt
  left_at n (Some (kind_of.Pool p)) other h = other (pool_no_is n (sym h.kind))
  left_at n (Some (kind_of.Registry r)) other h = tt
  left_at n (Some (kind_of.Session s)) other h = tt
  left_at n (Some (kind_of.File f)) other h = h.machine

  any_default : (xs : List (Option Object)) (n : ℕ) (d : Option Object) → n < length xs → slice_index_or xs n d ≡ slice_index_or xs n None
  any_default [] n d below = absurd omega (arith, below)
  any_default (x ∷ xs) zero d below = refl
  any_default (x ∷ xs) (suc n) d below = any_default xs n d (omega (arith, below))

  pub are_left : All (IsLeft home) (slice_set objects pool_no None)
  are_left n d below = subst (IsLeft home) (sym (any_default (slice_set objects pool_no None) n d below)) (point pool_within n (omega (arith, below, length-set objects pool_no None, k.count)))
    where
      point : pool_no < length objects → (n : ℕ) → n < object_count → IsLeft home (object_at (slice_set objects pool_no None) n)
      point within n inside = elim (eqb_tells n pool_no) [
        | inl e ↦ subst (λ m. IsLeft home (object_at (slice_set objects pool_no None) m)) (sym e.1) (rw get_or-set_same tt)
        | inr e ↦ let other : n ≢ pool_no = e.1 in rw get_or-set_other (left_at n (object_at objects n) other (k.slots n inside))
      ]

-- folios of one home, read by place
pub of_home : (home : HomeId) → (folios : List FolioValue) → AreOf home folios → All (λ f. f.home ≡ home) folios
of_home home [] h k d below = absurd omega (arith, below)
of_home home (f ∷ folios) h zero d below = h.0
of_home home (f ∷ folios) h (suc k) d below = of_home home folios h.1 k d (omega (arith, below))
