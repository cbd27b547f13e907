-- Object numbers, their kinds, and what stands at them.
use Rattle.std.proofs.Common.{◌≡◌, ◌≢◌, ℕ, ◌+◌, ◌<◌, ◌≤◌, Bool, true, false, List, refl, sym, ap, ◌∙◌, arith, inl, inr, ◌⊎◌}
use Rattle.std.specs.Prelude.{Option, None, Some, nat_lt}
use Rattle.std.proofs.Math.ListN.{get_or-eq_default}
use Rattle.std.proofs.Common.{length}
use Rattle.std.proofs.lemmas.Bool.Decides.{nat_tests}
use Rattle.ho_base.specs.ShapeRule.{Layout}
use Rattle.ho_base.specs.declared.limits.TheConstants.{OUT_SLOTS, IN_SLOTS, FILES}
use Rattle.ho_base.specs.Objects.{session_no, file_no}
use Rattle.ho_world.specs.World.{State, PoolIn, RegistryIn, SessionIn, FileIn, cold}
use Rattle.ho_events.specs.Session.{Free}
use Rattle.phys_frames.specs.Homes.{HomeId}
use Rattle.machine_core.specs.declared.object.Object.{Object}
use Rattle.machine_core.specs.declared.object.Object.TheVariants as kind_of
use Rattle.machine_core.specs.Kernels.{object_at, start_in, IsAt, IsSlot}
use Rattle.machine_core.specs.Objects.{Start, Spot, PoolSpot, RegistrySpot, SessionSpot, FileSpot, NoSpot, spot_at, spot_of, object_count, number_of, start_of, IsOfMachine}

-- ---- numbers and kinds

pub spot_at_session : (n : ℕ) → n < OUT_SLOTS + IN_SLOTS → spot_at (session_no n) ≡ SessionSpot
spot_at_session n h = grind (arith, nat_tests)

pub spot_at_file : (n : ℕ) → n < FILES → spot_at (file_no n) ≡ FileSpot
spot_at_file n h = grind (arith, nat_tests)

pub cold_session : (shape : Layout) (n : ℕ) → n < OUT_SLOTS + IN_SLOTS → (cold shape).at (session_no n) ≡ SessionIn Free
cold_session shape n h = grind (arith, nat_tests)

pub cold_file : (shape : Layout) (n : ℕ) → n < FILES → (cold shape).at (file_no n) ≡ FileIn None
cold_file shape n h = grind (arith, nat_tests)

pub no_spot_below : (n : ℕ) → spot_at n ≢ NoSpot → n < object_count
no_spot_below n h = grind (arith, nat_tests)

pub past_none : (n : ℕ) → object_count ≤ n → spot_at n ≡ NoSpot
past_none n h = grind (arith, nat_tests)

lt_of : (n m : ℕ) → nat_lt n m ≡ true → n < m
lt_of n m e = grind (arith, nat_tests)

ge_of : (n m : ℕ) → nat_lt n m ≡ false → m ≤ n
ge_of n m e = grind (arith, nat_tests)

pub below_or_past : (n : ℕ) → (n < object_count) ⊎ (object_count ≤ n)
below_or_past n = by (nat_lt n object_count) refl
  where
    by : (b : Bool) → nat_lt n object_count ≡ b → (n < object_count) ⊎ (object_count ≤ n)
    by true e = inl (lt_of n object_count e)
    by false e = inr (ge_of n object_count e)

pub past : (xs : List (Option Object)) (n : ℕ) → length xs ≡ object_count → object_count ≤ n → object_at xs n ≡ None
past xs n count h = get_or-eq_default xs None (omega (arith, count, h))

pub is_real : (s : Spot) → (s ≡ NoSpot) ⊎ (s ≢ NoSpot)
is_real PoolSpot = inr (λ e. cc)
is_real RegistrySpot = inr (λ e. cc)
is_real SessionSpot = inr (λ e. cc)
is_real FileSpot = inr (λ e. cc)
is_real NoSpot = inl refl

-- ---- what stands at a number

number_is : (o : Object) → number_of o ≡ (start_of o).number
number_is (kind_of.Pool p) = refl
number_is (kind_of.Registry r) = refl
number_is (kind_of.Session s) = refl
number_is (kind_of.File f) = refl

spot_in : State → Spot
spot_in (PoolIn s) = PoolSpot
spot_in (RegistryIn s) = RegistrySpot
spot_in (SessionIn s) = SessionSpot
spot_in (FileIn s) = FileSpot
spot_in s = NoSpot

spot_is : (o : Object) → spot_of o ≡ spot_in (start_of o).state
unfolding spot_in
spot_is (kind_of.Pool p) = refl
spot_is (kind_of.Registry r) = refl
spot_is (kind_of.Session s) = refl
spot_is (kind_of.File f) = refl

module _ (shape : Layout) (home : HomeId) (n : ℕ) where
  -- an object with the same start stands at the same number
  same_place : (o state : Object) → start_of o ≡ start_of state → IsOfMachine shape home state → IsAt shape home n o → IsAt shape home n state
  same_place o state e machine h = record {
    number = number_is state ∙ ap (λ (s : Start). s.number) (sym e) ∙ sym (number_is o) ∙ h.number;
    kind = spot_is state ∙ ap (λ (s : Start). spot_in s.state) (sym e) ∙ sym (spot_is o) ∙ h.kind;
    machine = machine;
  }

  pub start_place : (slot : Option Object) (state : Object) → IsSlot shape home n slot → start_in slot ≡ Some (start_of state) → IsOfMachine shape home state → IsAt shape home n state
  start_place None state h e machine = absurd cc
  start_place (Some o) state h e machine = same_place o state (inside e) machine h
    where
      inside : Some (start_of o) ≡ Some (start_of state) → start_of o ≡ start_of state
      inside e = cc

  -- there is no object at a number that has none, and one at each other
  pub no_slot : (slot : Option Object) → IsSlot shape home n slot → spot_at n ≡ NoSpot → slot ≡ None
  no_slot None h e = refl
  no_slot (Some (kind_of.Pool p)) h e = let kind : PoolSpot ≡ NoSpot = h.kind ∙ e in absurd cc
  no_slot (Some (kind_of.Registry r)) h e = let kind : RegistrySpot ≡ NoSpot = h.kind ∙ e in absurd cc
  no_slot (Some (kind_of.Session s)) h e = let kind : SessionSpot ≡ NoSpot = h.kind ∙ e in absurd cc
  no_slot (Some (kind_of.File f)) h e = let kind : FileSpot ≡ NoSpot = h.kind ∙ e in absurd cc

  pub some_slot : (slot : Option Object) → IsSlot shape home n slot → spot_at n ≢ NoSpot → (o : Object) × (slot ≡ Some o) × IsAt shape home n o
  some_slot None h real = absurd (real h)
  some_slot (Some o) h real = (o, refl, h)
