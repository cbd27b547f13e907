-- What a sound world carries is enough for a sound world to begin with it.
use Rattle.std.proofs.Common.{◌≡◌, ℕ, Bool, true, false, List, [], ◌∷◌, refl, sym, ap, ◌∙◌, Less}
use Rattle.std.specs.Prelude.{None, Some}
use Rattle.std.specs.Ordering.{nat_cmp}
use Rattle.std.specs.Cmp.Lexicographic.{slice_cmp}
use Rattle.std.specs.FinMap as finmap
use Rattle.std.specs.List.{AllByRecursion, IsDistinct}
use Rattle.std.proofs.lemmas.Cmp.{nat_list_cmp_total}
use Rattle.ho_events.specs.Handler.{cold_handler}
use Rattle.ho_events.specs.Lists.{same_bytes, upto}
use Rattle.ho_world.specs.Frozen.{CarriedFile, carried_files, carried_bounds, bound_of, frozen, next_pool}
use Rattle.ho_world.specs.Sequences.{Labels}
use Rattle.ho_world.specs.World.{World, HandlerIn, handler_in, pool_at}
use Rattle.balance_laws.specs.Carrying.{Rise, CanCarry, CanFollow}
use Rattle.balance_laws.specs.Sound.{Sound, RunsFit}
use Rattle.balance_laws.proofs.Carried.{not_less}
use Rattle.balance_laws.proofs.CarriedAll.{sound_can_carry}
use Rattle.balance_laws.proofs.Members.{same_list}
use Rattle.balance_laws.proofs.NextRuns.{IsOf, all_at, all_in}
use Rattle.balance_laws.proofs.NextSound.{of_file}

-- names that rise are different
less_apart : (a b : List ℕ) → slice_cmp nat_cmp a b ≡ Less → same_bytes a b ≡ false
less_apart a b h = by_test (same_bytes a b) refl
  where
    by_test : (t : Bool) → same_bytes a b ≡ t → t ≡ false
    by_test true e = absurd (not_less (slice_cmp nat_cmp) nat_list_cmp_total a b h (same_list a b e))
    by_test false e = refl

all_apart : (name : List ℕ) (names : List (List ℕ)) → AllByRecursion (λ n. slice_cmp nat_cmp name n ≡ Less) names → AllByRecursion (λ n. same_bytes name n ≡ false) names
all_apart name [] h = tt
all_apart name (n ∷ names) h = (less_apart name n h.0, all_apart name names h.1)

rise_apart : (names : List (List ℕ)) → Rise (slice_cmp nat_cmp) names → IsDistinct same_bytes names
unfolding IsDistinct
rise_apart [] h = tt
rise_apart (n ∷ names) h = (all_apart n names h.0, rise_apart names h.1)

module _ (labels : ℕ → Labels) (w : World) (sound : Sound w labels) where
  can : CanCarry w
  can = sound_can_carry labels w sound

  no_bounds : AllByRecursion (λ b. b ≡ None) (carried_bounds w)
  unfolding upto
  no_bounds = (bound 2 (sound.sorts 2), (bound 3 (sound.sorts 3), (bound 4 (sound.sorts 4), (bound 5 (sound.sorts 5), tt))))
    where
      bound : (o : ℕ) → w.at o ≡ HandlerIn cold_handler → bound_of (handler_in (w.at o)).outgoing ≡ None
      bound o is = ap (λ s. bound_of (handler_in s).outgoing) is

  was : (p n : ℕ) → finmap.get (next_pool (frozen w)).owned p ≡ Some n → finmap.get (pool_at w).owned p ≡ Some n
  was p n e =
      let k : IsOf (carried_files (frozen w)) p n = of_file (frozen w) no_bounds p n e in
      all_in (λ q. finmap.get (pool_at w).owned q ≡ Some k.file.order) k.file.runs p
      (all_at (λ (d : CarriedFile). AllByRecursion (λ q. finmap.get (pool_at w).owned q ≡ Some d.order) d.runs) (carried_files (frozen w)) k.number k.file can.owned k.is) k.has
      ∙ ap Some (sym k.order)

  runs_next : RunsFit (next_pool (frozen w))
  runs_next = record {
    each = λ p o e. sound.parts.runs.each p o (was p o e);
    apart = λ p o q n i j e g li lj same. sound.parts.runs.apart p o q n i j (was p o e) (was q n g) li lj same;
  }

  pub can_follow : CanFollow (frozen w)
  can_follow = record {
    sessions = can.sessions;
    names = rise_apart _ can.names;
    few = can.few;
    tokens = can.tokens;
    files = can.files;
    fit = can.fit;
    apart = can.apart;
    bounds = no_bounds;
    runs = runs_next;
  }
