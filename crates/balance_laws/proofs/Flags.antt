-- A file that changes, where nothing else that has files changes.
use Rattle.std.proofs.Common.{◌≡◌, ◌⊎◌, inl, inr, ℕ, ◌<◌, refl, sym, ap, subst, ◌∙◌, arith}
use Rattle.std.specs.Prelude.{Option, Some, is_some}
use Rattle.std.proofs.lemmas.Bool.{cases_eq}
use Rattle.ho_base.specs.declared.limits.TheConstants.{FILES}
use Rattle.ho_events.specs.File.{FileState}
use Rattle.ho_events.specs.Pool.{PoolState}
use Rattle.ho_world.specs.Balance.{is_pinned, is_held, is_open}
use Rattle.ho_world.specs.Sequences.{Labels}
use Rattle.balance_laws.specs.OneEach.{OneEach}
use Rattle.balance_laws.specs.Parts.{Parts}
use Rattle.balance_laws.specs.Sound.{AreSound, FileFits, RunsFit, PinsMatch, owns, run_in, pinned_run}
use Rattle.balance_laws.proofs.Acts.{set_at, set_same, set_other, seen_same}
use Rattle.balance_laws.proofs.Base.{same_value}
use Rattle.balance_laws.proofs.Each.{each_same}

-- what is seen of values, where two are seen alike
pub seen_alike : {T X : Type 0} (g : T → X) (k : ℕ) (u v : T) (f : ℕ → T) → g u ≡ g v → (n : ℕ) → g (set_at k u f n) ≡ g (set_at k v f n)
seen_alike g k u v f same n = by_case (cases_eq n k)
  where
    by_case : (n ≡ k) ⊎ (n ≡ k → ⊥) → g (set_at k u f n) ≡ g (set_at k v f n)
    by_case (inl e) = ap g (set_same k u f n e) ∙ same ∙ ap g (sym (set_same k v f n e))
    by_case (inr e) = ap g (set_other k u f n e) ∙ ap g (sym (set_other k v f n e))

pub set_self : {T : Type 0} (k : ℕ) (v : T) (f : ℕ → T) → v ≡ f k → set_at k v f ≡ f
set_self k v f e = λ j n. by_case n (cases_eq n k) j
  where
    by_case : (n : ℕ) → (n ≡ k) ⊎ (n ≡ k → ⊥) → set_at k v f n ≡ f n
    by_case n (inl h) = set_same k v f n h ∙ e ∙ ap f (sym h)
    by_case n (inr h) = set_other k v f n h

-- each file fits, where one is set that does
pub fits_set : (files : ℕ → Option FileState) (f : ℕ) (now : FileState) → ((n : ℕ) (g : FileState) → files n ≡ Some g → FileFits g) → FileFits now → (n : ℕ) (g : FileState) → set_at f (Some now) files n ≡ Some g → FileFits g
fits_set files f now fit fits n g e = by_case (cases_eq n f)
  where
    by_case : (n ≡ f) ⊎ (n ≡ f → ⊥) → FileFits g
    by_case (inl h) = subst FileFits (same_value now g (sym (set_same f (Some now) files n h) ∙ e)) fits
    by_case (inr h) = fit n g (sym (set_other f (Some now) files n h) ∙ e)

module _ (x : Parts) (labels : ℕ → Labels) (sound : AreSound x labels) (f : ℕ) (within : f < FILES) where
  -- a file that stays as it was
  pub file_stays : (now : Option FileState) → now ≡ x.files f → AreSound (record x { files = set_at f now x.files }) labels
  file_stays now e = subst (λ h. AreSound (record x { files = h }) labels) (sym (set_self f now x.files e)) sound

  -- a file with other bytes and runs, whatever becomes of the pool
  module _ (was now : FileState) (is : x.files f ≡ Some was) (pin : now.pin ≡ was.pin) (hold : now.hold ≡ was.hold) (opened : now.opened ≡ was.opened) (fits : FileFits now) (pool : PoolState) where
    abbrev files : ℕ → Option FileState
    files = set_at f (Some now) x.files

    pub seen_of : {X : Type 0} (g : Option FileState → X) → g (Some now) ≡ g (Some was) → (n : ℕ) → g (files n) ≡ g (x.files n)
    seen_of g same = seen_same g f (Some now) x.files (same ∙ ap g (sym is))

    pub flags_same : RunsFit pool → OneEach (λ k i. run_in (files k) i) (owns pool) → PinsMatch pool (λ k i. pinned_run (files k) i) → AreSound (record x { pool = pool; files = files }) labels
    flags_same runs owned pins = record {
      runs = runs;
      owned = owned;
      pins = pins;
      fit = fits_set x.files f now sound.fit fits;
      listed = each_same _ _ _ _ sound.listed (λ s t. refl) (seen_of is_pinned pin);
      held = each_same _ _ _ _ sound.held (λ s t. refl) (seen_of is_held hold);
      untaken = λ s t l e h. seen_of is_open opened l.file ∙ sound.untaken s t l e h;
      slots = sound.slots;
      outgoing = sound.outgoing;
      waiting = sound.waiting;
      opened = sound.opened;
      used = λ n. sound.used n ∙ sym (seen_of is_some refl n);
      labeled = each_same _ _ _ _ sound.labeled (λ a l. refl) (seen_of is_open opened);
      last_slot = sound.last_slot;
      last_file = λ n more. set_other f (Some now) x.files n (λ same. omega (arith, same, more, within)) ∙ sound.last_file n more;
    }
