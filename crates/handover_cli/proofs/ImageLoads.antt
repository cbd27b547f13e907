-- What is true of frames that are loaded from an image is told of the image; and why none are loaded.
use Rattle.std.proofs.Common.{◌≡◌, ◌⊎◌, ℕ, List, ap, sym, subst, inl, inr}
use Rattle.std.specs.Prelude.{Option, None, Some, String, string_bytes}
use Rattle.std.specs.declared.alloc.Global.{Global}
use Rattle.ho_io.specs.Told.{Tells}
use Rattle.ho_world.specs.Frozen.{Frozen}
use Rattle.image_file.specs.Loaded.{IsFaultOf, IsLoaded}
use Rattle.image_file.specs.declared.loader.LoadError.TheVariants.{Image as NoImage}
use Rattle.image_file.specs.declared.reader.ImageError.{ImageError}
use Rattle.image_file.specs.declared.reader.ImageError.TheVariants.{BadHeader, Short, Extra, Memory as NoRoom}
use Rattle.kexec_boot.specs.Images.{BeginsFrom}
use Rattle.machine_core.specs.Kernels.{KernelValue}
use Rattle.next_sound.specs.Follows.{CarriedBeginsSound}
use Rattle.phys_frames.specs.Memory.{Memory}
use Rattle.record_frames.specs.Carries.{Carries}
use Rattle.record_frames.specs.Laws.{Holds}
use Rattle.record_frames.specs.Reading.{BreakAt}
use Rattle.record_frames.specs.Sheeted.{ram_of}
use Rattle.handover_cli.specs.ImageRefusals.{image_line, IsImageRefusal}
use Rattle.handover_cli.specs.Images.{IsReadFrom, ReadsState}
use Rattle.handover_cli.specs.Resumes.{BeginsWith, IsIllFor, IsUnfitFor, IsWordOf, BreaksAt, CarriesDevice}
use Rattle.handover_cli.specs.Run.{TellsState}
use Rattle.handover_cli.specs.declared.resuming.Unfit.{Unfit}
use Rattle.handover_cli.specs.declared.resuming.Unfit.TheVariants.{Fault, Refused, Memory as Starved}

-- the words of a fault that the bytes have refuse them
pub fault_unfit : (told : Option (List ℕ)) (fault : ImageError) (unfit : Unfit) → IsFaultOf told (NoImage fault) → IsWordOf fault unfit → IsUnfitFor told unfit
fault_unfit told fault Fault has word = tt
fault_unfit told fault Starved has word = tt
fault_unfit None fault (Refused words) has word = tt
fault_unfit (Some bytes) BadHeader (Refused words) has word = inl (record { fault = BadHeader; is = has; word = ap image_line word.1 })
fault_unfit (Some bytes) Short (Refused words) has word = inl (record { fault = Short; is = has; word = ap image_line word.1 })
fault_unfit (Some bytes) Extra (Refused words) has word = inl (record { fault = Extra; is = has; word = ap image_line word.1 })
fault_unfit (Some bytes) NoRoom (Refused words) has word = absurd (none_some word.0)
  where
    none_some : None ≡ Some NoRoom → ⊥
    none_some h = cc

-- the same of the words that a call gave
pub told_unfit : (told : Option (List ℕ)) (why : List ℕ) (unfit : Unfit) (words : String Global) → unfit ≡ Refused words → why ≡ string_bytes words → IsUnfitFor told unfit → IsImageRefusal told (image_line why)
told_unfit told why unfit words is same h = subst (λ (y : List ℕ). IsImageRefusal told (image_line y)) (sym same) (subst (IsUnfitFor told) is h)

module _ (told : Option (List ℕ)) (frames : Memory) (entry : ℕ) (loaded : IsLoaded told frames.pages entry) where
  read : IsReadFrom loaded.bytes frames
  read = record { whole = loaded.whole; pages = loaded.pages_are }

  ill_bytes : (why : List ℕ) → BreaksAt (ram_of frames) entry why ⊎ CarriesDevice (ram_of frames) entry why → IsImageRefusal (Some loaded.bytes) (image_line why)
  ill_bytes why (inl h) = inr (inl (record { frames = frames; read = read; place = h.place; breaks = subst (λ (e : ℕ). BreakAt (ram_of frames) e h.place) loaded.entry_is h.breaks; word = ap image_line h.words }))
  ill_bytes why (inr h) = inr (inr (record {
    state = h.state;
    carried = record { frames = frames; read = read; carries = subst (λ (e : ℕ). Carries (ram_of frames) e h.state) loaded.entry_is h.carries };
    device = h.device;
    word = ap image_line h.words;
  }))

  -- a line that refuses all bytes that were left refuses those that are told
  told_refusal : (told : Option (List ℕ)) (bytes line : List ℕ) → Tells told bytes → IsImageRefusal (Some bytes) line → IsImageRefusal told line
  told_refusal None bytes line tells h = tt
  told_refusal (Some t) bytes line tells h = subst (λ (b : List ℕ). IsImageRefusal (Some b) line) (sym tells) h

  pub ill_unfit : (unfit : Unfit) → IsIllFor (ram_of frames) entry unfit → IsUnfitFor told unfit
  ill_unfit (Refused words) h = told_refusal told loaded.bytes (image_line (string_bytes words)) loaded.told (ill_bytes (string_bytes words) h)
  ill_unfit Starved h = tt
  ill_unfit Fault h = tt

  told_state : (told : Option (List ℕ)) (bytes : List ℕ) (state : Frozen) → Tells told bytes → ReadsState state bytes → TellsState told state
  told_state None bytes state tells h = tt
  told_state (Some t) bytes state tells h = subst (ReadsState state) (sym tells) h

  pub begins_with : (kernel : KernelValue) → CarriedBeginsSound → Holds (ram_of frames) → BeginsFrom 0 (ram_of frames) entry kernel → BeginsWith told kernel
  begins_with kernel law holds h = record {
    state = h.state;
    tells = told_state told loaded.bytes h.state loaded.told (record { frames = frames; read = read; carries = subst (λ (e : ℕ). Carries (ram_of frames) e h.state) loaded.entry_is h.carries });
    begins = h.begins;
    sound = law (ram_of frames) entry h.state h.frames holds h.memfds h.carries;
  }
