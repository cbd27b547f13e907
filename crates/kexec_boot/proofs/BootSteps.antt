-- What frames carried before a program was loaded, and what they carry afterwards.
use Rattle.std.proofs.Common.{◌≡◌, ◌≢◌, ℕ, ◌≤◌, Result, Ok, Err, sym, ap, ◌∙◌, subst, arith, inl, inr}
use Rattle.std.specs.Prelude.{IsTrue, IfOk}
use Rattle.ho_base.specs.ShapeRule.{Layout}
use Rattle.ho_base.specs.declared.limits.TheConstants.{MAX_FRAMES}
use Rattle.ho_base.specs.declared.numbers.Blob.{Blob}
use Rattle.ho_world.specs.Frozen.{Frozen}
use Rattle.machine_core.specs.Kernels.{KernelValue}
use Rattle.record_frames.specs.Laws.{OneState, NoState}
use Rattle.record_frames.specs.Ram.{Ram}
use Rattle.record_frames.specs.Carries.{Carries}
use Rattle.record_frames.specs.Sheeted.{ram_of}
use Rattle.record_frames.specs.declared.place.ImagePlace.{ImagePlace}
use Rattle.scratch_area.specs.declared.handoff.Handoff.{Handoff}
use Rattle.next_laws.specs.Scratch.{StayBeside, ScratchIsFree}
use Rattle.next_laws.specs.Begins.{are_memfds}
use Rattle.kexec_boot.specs.Begins.{BeginsAs}
use Rattle.kexec_boot.specs.Loaded.{with_blob}
use Rattle.kexec_boot.specs.Refused.{IsIll, IsUnread, IsBootRefusal}
use Rattle.kexec_boot.specs.declared.reading.BootError.{BootError}
use Rattle.kexec_boot.specs.declared.reading.BootError.TheVariants.{BadImage, Unbuilt, Memory}

module _ (shape : Layout) (old new : Ram) (entry : ℕ) (few : new.count ≤ MAX_FRAMES) (beside : StayBeside shape old new) (scratch : ScratchIsFree) (one : OneState) (none : NoState) where
  back : StayBeside shape new old
  back = record { count = sym beside.count; pages = λ p off. sym (beside.pages p (λ lt. off (omega (arith, lt, beside.count)))) }

  few_before : old.count ≤ MAX_FRAMES
  few_before = omega (arith, few, beside.count)

  carried_back : (g : Frozen) → Carries new entry g → g.shape ≡ shape → Carries old entry g
  carried_back g carries same = scratch new old entry g (subst (λ (s : Layout). StayBeside s new old) (sym same) back) carries

  carried_on : (f : Frozen) → Carries old entry f → f.shape ≡ shape → Carries new entry f
  carried_on f carries same = scratch old new entry f (subst (λ (s : Layout). StayBeside s old new) (sym same) beside) carries

  -- what is carried afterwards was carried before, and nothing else
  only_one : (f g : Frozen) → Carries old entry f → Carries new entry g → g.shape ≡ shape → f ≡ g
  only_one f g before after same = one old entry f g few_before before (carried_back g after same)

  -- where frames are ill afterwards they carried nothing of this shape before
  none_before : (p : ImagePlace) → IsIll shape new entry p → (f : Frozen) → Carries old entry f → f.shape ≢ shape
  none_before p (inl breaks) f before same = none new entry f p few (carried_on f before same) breaks
  none_before p (inr (root, other)) f before same =
      let equal : f ≡ other.state = one new entry f other.state few (carried_on f before same) other.carries in
      other.other (ap (λ (x : Frozen). x.shape) (sym equal) ∙ same)

  pub begins_so : (number : ℕ) (g : Frozen) (r : Result KernelValue BootError) → Carries new entry g → g.shape ≡ shape → IfOk r (BeginsAs number g)
      → IfOk r (λ k. (f : Frozen) → Carries old entry f → BeginsAs number f k)
  begins_so number g (Ok k) after same h = λ f before. subst (λ (x : Frozen). BeginsAs number x k) (sym (only_one f g before after same)) h
  begins_so number g (Err e) after same h = h

module _ (h : Handoff) (blob : Blob) (new : Ram) (few : new.count ≤ MAX_FRAMES) (beside : StayBeside h.shape (ram_of h.frames) new) (loaded : new ≡ with_blob h.shape blob (ram_of h.frames))
    (scratch : ScratchIsFree) (one : OneState) (none : NoState) where
  pub refusal : (e : BootError) → IsUnread h.shape new h.entry.0 e → IsBootRefusal h blob e
  refusal (BadImage p) ill =
      (subst (λ (r : Ram). IsIll h.shape r h.entry.0 p) loaded ill, none_before h.shape (ram_of h.frames) new h.entry.0 few beside scratch one none p ill)
  refusal Unbuilt (g, after, same, devices) =
      λ f before yes. devices (subst (λ (x : Frozen). IsTrue (are_memfds x)) (only_one h.shape (ram_of h.frames) new h.entry.0 few beside scratch one none f g before after same) yes)
  refusal Memory unread = tt
