-- A machine that is switched on is sound.
use Rattle.std.proofs.Common.{◌≡◌, ℕ, Bool, false, List, refl, sym, ap, ◌∙◌, arith}
use Rattle.std.specs.Prelude.{Option, None, Some, option_map}
use Rattle.std.specs.Ordering.{nat_cmp}
use Rattle.std.specs.Cmp.Lexicographic.{slice_cmp}
use Rattle.std.specs.FinMap as finmap
use Rattle.std.specs.FinSet as finset
use Rattle.ho_base.specs.ShapeRule.{Layout}
use Rattle.ho_base.specs.declared.numbers.FileNo.{FileNo}
use Rattle.ho_events.specs.Lists.{is_just}
use Rattle.ho_events.specs.Pool.{cold_pool}
use Rattle.ho_events.specs.Registry.{cold_registry}
use Rattle.ho_events.specs.Session.{Free, Listed}
use Rattle.balance_laws.specs.Keeps.{ColdIsSound, no_labels}
use Rattle.balance_laws.specs.OneEach.{OneEach}
use Rattle.balance_laws.specs.Parts.{Parts}
use Rattle.balance_laws.specs.Sound.{AreSound}
use Rattle.balance_laws.proofs.Base.{not_some, clash, sound_as}

abbrev start : Layout → Parts
start shape = record { pool = cold_pool shape; registry = cold_registry; sessions = λ s. Free; files = λ f. None }

-- where nothing stands, and nothing is there
pub nothing_each : {K L V : Type 0} (at : K → L → Option V) (has : V → Bool) → ((k : K) (l : L) → at k l ≡ None) → ((v : V) → has v ≡ false) → OneEach at has
nothing_each at has none never = record {
  there = λ k l v e. absurd (not_some v (sym (none k l) ∙ e));
  found = λ v h. absurd (clash (sym h ∙ never v));
  once = λ k m l n v e g. absurd (not_some v (sym (none k l) ∙ e));
}

pub none_in : {X : Type 0} (p : ℕ) (v : X) → finmap.get (finmap.empty {X = X} {R = nat_cmp}) p ≡ Some v → ⊥
none_in p v e = not_some v (sym (finmap.get-empty nat_cmp p) ∙ e)

pub none_named : (name : List ℕ) (s : ℕ) → finmap.get (finmap.empty {X = ℕ} {R = slice_cmp nat_cmp}) name ≡ Some s → ⊥
none_named name s e = not_some s (sym (finmap.get-empty (slice_cmp nat_cmp) name) ∙ e)

starts_sound : (shape : Layout) → AreSound (start shape) no_labels
starts_sound shape = record {
  runs = record {
    each = λ p o e. absurd (none_in p o e);
    apart = λ p o q n i j e g. absurd (none_in p o e);
  };
  owned = nothing_each _ _ (λ f i. refl) (λ v. ap (is_just v.1) (finmap.get-empty nat_cmp v.0));
  pins = record {
    pinned = λ p h. absurd (clash (sym h ∙ finset.contains-empty nat_cmp p));
    covered = λ p c. absurd (not_some c.run c.is);
  };
  fit = λ f g e. absurd (not_some g e);
  listed = nothing_each _ _ (λ s t. refl) (λ v. refl);
  held = nothing_each _ _ (λ s t. refl) (λ v. refl);
  untaken = λ s t l e. absurd (not_some l e);
  slots = record {
    outgoing = λ s name e. absurd (not_some name e);
    incoming = λ s name opened files e. absurd cc;
    few = λ s. omega (arith, finmap.len-empty nat_cmp Listed);
  };
  outgoing = record {
    there = λ name s e. absurd (none_named name s e);
    found = λ name s e. absurd (not_some name e);
  };
  waiting = record {
    there = λ name s e. absurd (none_named name s e);
    found = λ name s e. absurd (not_some name e);
  };
  opened = record {
    there = λ name s e. absurd (none_named name s e);
    found = λ name s e. absurd (not_some name e);
  };
  used = λ f. finset.contains-empty nat_cmp f;
  labeled = nothing_each _ _ (λ a label. ap (option_map (λ (f : FileNo). f.0)) (finmap.get-empty (slice_cmp nat_cmp) label)) (λ v. refl);
  last_slot = λ s h. refl;
  last_file = λ f h. refl;
}

pub cold_is_sound : ColdIsSound
cold_is_sound shape = sound_as _ (start shape) no_labels (λ o. refl) (starts_sound shape)
