-- What was written of what is due where a write failed, and what a run answers where nothing fails.
use Rattle.std.specs.Prelude.{◌≡◌, ℕ, ◌<◌, ◌⊎◌, false, List, length, take, Option, Some, None}
use Rattle.ho_io.specs.Told.{behind, IsOneOf}
use Rattle.handover_cli.specs.Refusals.{refusal_of, usage_line, IsAccepted, IsRefusal}
use Rattle.handover_cli.specs.ImageRefusals.{IsImageRefusal}
use Rattle.handover_cli.specs.Images.{Seen}
use Rattle.handover_cli.specs.Run.{Origin, OfScript, OnStart, WroteSoFar, is_fresh, origin_of, with_all_opened}
use Rattle.handover_cli.specs.Words.{RunWords, run_words}
use Rattle.handover_cli.specs.declared.status.Status.{Status}
use Rattle.handover_cli.specs.declared.status.Status.TheVariants.{Done, Script, Image, Memory}

-- the output became longer by a front part of a text, and not by all of it
pub record WroteFront (is_due : List ℕ → Type 0) (out_old out_new : Option (List ℕ)) : Type 0 where
  pub text : List ℕ
  pub due : is_due text
  pub count : ℕ
  pub less : count < length text
  pub written : out_new ≡ behind out_old (take count text)

-- a script that isn't refused was told, and the output became longer by entries that are legal so far
pub record WroteFrontOfHistory (from : Origin) (told : Option (List ℕ)) (images : Option (List ℕ)) (before now : Seen) : Type 0 where
  pub accepted : IsAccepted (is_fresh from) told
  pub wrote : OfScript (is_fresh from) told (OnStart from (λ start blocks. WroteSoFar start blocks images before now))

-- a script that isn't refused was told, and the line of the image's refusal was begun
abbrev pub WroteFrontOfImage : Origin → Option (List ℕ) → Option (List ℕ) → Option (List ℕ) → Type 0
WroteFrontOfImage None told out_old out_new = ⊥
WroteFrontOfImage (Some image) told out_old out_new = IsAccepted false told × WroteFront (IsImageRefusal image) out_old out_new

-- what was written of a script, where a write failed: of the line of its refusal, of that of the image's, or of a history
-- of it
abbrev pub WritesPart : Origin → Option (List ℕ) → Option (List ℕ) → Seen → Seen → Type 0
WritesPart from told images before now =
    WroteFront (IsRefusal (is_fresh from) told) before.out now.out ⊎ WroteFrontOfImage from told before.out now.out
    ⊎ WroteFrontOfHistory from told images before now

-- the same of the script of this name among what a host holds, or for words that fit nothing
abbrev pub WritesPartFor : (List ℕ → Option (List ℕ)) → Option RunWords → Seen → Seen → Type 0
WritesPartFor holds None before now = WroteFront (λ text. text ≡ usage_line) before.out now.out
WritesPartFor holds (Some asked) before now =
    WritesPart (origin_of holds asked) (holds asked.script) asked.images (with_all_opened before asked) now

-- the status that is due for a script that isn't refused: from an image on it is that of a run that is done or that of the
-- image's refusal
abbrev pub IsDueAccepted : Origin → Status → Type 0
IsDueAccepted None status = status ≡ Done
IsDueAccepted (Some image) status = IsOneOf Done Image status

-- the status that is due where a script has this refusal, or none
abbrev pub IsDueWith : Origin → Option (List ℕ) → Status → Type 0
IsDueWith from (Some line) status = status ≡ Script
IsDueWith from None status = IsDueAccepted from status

-- the status that is due for a script of these bytes
abbrev pub IsDue : Origin → List ℕ → Status → Type 0
IsDue from script_bytes status = IsDueWith from (refusal_of (is_fresh from) script_bytes) status

-- Where the words ask to run a script that the host tells, and neither opening and reading nor writing failed, the
-- status is the one that is due, or memory was wanted.
abbrev pub Completes : List (List ℕ) → (List ℕ → Option (List ℕ)) → Type 0 → Type 0 → Status → Type 0
Completes words holds ReadFailed WriteFailed status =
    (asked : RunWords) (script_bytes : List ℕ) → run_words words ≡ Some asked → holds asked.script ≡ Some script_bytes
    → (ReadFailed → ⊥) → (WriteFailed → ⊥) → IsDue (origin_of holds asked) script_bytes status ⊎ (status ≡ Memory)
