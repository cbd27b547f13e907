-- What is due for a script that was read, that is refused, or that is too long.
use Rattle.std.proofs.Common.{◌≡◌, ℕ, ◌+◌, ◌<◌, ◌≤◌, Bool, true, false, nat_lt, List, ◌++◌, length, length-append, refl, ap, sym, ◌∙◌, arith, subst}
use Rattle.std.specs.Prelude.{Option, None, Some, option_map, if◌then◌else◌, Result, Ok, Err}
use Rattle.std.specs.Result.{result_ok, result_err}
use Rattle.std.proofs.lemmas.Bool.Decides.{nat_tests}
use Rattle.ho_base.specs.declared.limits.TheConstants.{SCRIPT_BYTES}
use Rattle.ho_io.specs.Told.{Tells, in_front}
use Rattle.ho_events.specs.Script.{Refusal, script_of, outcome_of, refusal_of as script_refusal}
use Rattle.ho_events.specs.declared.line.Reason.{Reason}
use Rattle.ho_events.specs.declared.script.Script.{Script}
use Rattle.script_text.specs.Errors.{Says}
use Rattle.script_text.specs.declared.ScriptError.{ScriptError}
use Rattle.script_text.specs.declared.ScriptError.TheVariants.{Bad}
use Rattle.handover_cli.specs.Refusals.{refusal_of, refusal_text, too_long_text, IsAccepted, IsRefusal}
use Rattle.handover_cli.specs.Due.{WroteFront}
use Rattle.handover_cli.specs.Run.{Spells}

chosen : {A : Type 0} → (b : Bool) → (x y : A) → b ≡ false → (if b then x else y) ≡ y
chosen false x y h = refl
chosen true x y h = absurd cc

chosen_first : {A : Type 0} → (b : Bool) → (x y : A) → b ≡ true → (if b then x else y) ≡ x
chosen_first true x y h = refl
chosen_first false x y h = absurd cc

within_test : (n m : ℕ) → n ≤ m → nat_lt m n ≡ false
within_test n m h = grind (arith, nat_tests)

past_test : (n m : ℕ) → m < n → nat_lt m n ≡ true
past_test n m h = grind (arith, nat_tests)

no_error : (r : Result Script Refusal) → (script : Script) → result_ok r ≡ Some script → result_err r ≡ None
no_error (Ok s) script h = refl
no_error (Err n) script h = absurd cc

-- the script is fresh, or goes on from an image
module _ (fresh : Bool) where
  -- a script that isn't too long is refused by its first refused line alone
  pub refusal_within : (bytes : List ℕ) → length bytes ≤ SCRIPT_BYTES → refusal_of fresh bytes ≡ option_map refusal_text (script_refusal fresh bytes)
  unfolding refusal_of
  refusal_within bytes h = chosen _ _ _ (within_test (length bytes) SCRIPT_BYTES h)

  -- one that is too long is told so
  pub refusal_past : (bytes : List ℕ) → SCRIPT_BYTES < length bytes → refusal_of fresh bytes ≡ Some too_long_text
  unfolding refusal_of
  refusal_past bytes h = chosen_first _ _ _ (past_test (length bytes) SCRIPT_BYTES h)

  -- a script that is read isn't refused
  pub accepted : (bytes : List ℕ) → length bytes ≤ SCRIPT_BYTES → (script : Script) → script_of fresh bytes ≡ Some script → refusal_of fresh bytes ≡ None
  accepted bytes short script h = refusal_within bytes short ∙ ap (option_map refusal_text) (no_error (outcome_of fresh bytes) script h)

  -- its first refused line is told
  pub refused : (bytes : List ℕ) → length bytes ≤ SCRIPT_BYTES → (r : Refusal) → script_refusal fresh bytes ≡ Some r → refusal_of fresh bytes ≡ Some (refusal_text r)
  refused bytes short r h = refusal_within bytes short ∙ ap (option_map refusal_text) h

  -- a script is too long where more was read than a script may have
  pub too_long_told : (told : Option (List ℕ)) (bytes : List ℕ) (rest : Option (List ℕ)) → told ≡ in_front bytes rest → length bytes ≡ SCRIPT_BYTES + 1
      → IsRefusal fresh told too_long_text
  unfolding in_front
  too_long_told None bytes rest e h = tt
  too_long_told (Some script) bytes None e h = absurd cc
  too_long_told (Some script) bytes (Some rest) e h = refusal_past script (longer (some_same e))
    where
      some_same : Some script ≡ Some (bytes ++ rest) → script ≡ bytes ++ rest
      some_same k = cc

      longer : script ≡ bytes ++ rest → SCRIPT_BYTES < length script
      longer k = omega (arith, ap length k, length-append bytes rest, h)

  -- the line of the refusal of what is told, where all of it was read
  pub told_refused : (told : Option (List ℕ)) (bytes line : List ℕ) → Tells told bytes → refusal_of fresh bytes ≡ Some line → IsRefusal fresh told line
  told_refused None bytes line t h = tt
  told_refused (Some script) bytes line t h = ap (refusal_of fresh) t ∙ h

  pub told_accepted : (told : Option (List ℕ)) (bytes : List ℕ) → Tells told bytes → refusal_of fresh bytes ≡ None → IsAccepted fresh told
  told_accepted None bytes t h = tt
  told_accepted (Some script) bytes t h = ap (refusal_of fresh) t ∙ h

  pub told_spelled : (told : Option (List ℕ)) (bytes : List ℕ) (script : Script) → Tells told bytes → script_of fresh bytes ≡ Some script → Spells fresh told script
  told_spelled None bytes script t h = tt
  told_spelled (Some told) bytes script t h = ap (script_of fresh) t ∙ h

  -- the first refused line of a script that can't be read
  pub refusal_told : (bytes : List ℕ) (error : ScriptError) (line : ℕ) (reason : Reason) → Says (script_refusal fresh bytes) error → error ≡ Bad line reason → script_refusal fresh bytes ≡ Some (record { line = line; why = reason })
  refusal_told bytes error line reason h is = subst (λ e. Says (script_refusal fresh bytes) e) is h

  -- a text that is the line of a refusal
  pub told_due : (told : Option (List ℕ)) (line text : List ℕ) → text ≡ line → IsRefusal fresh told line → IsRefusal fresh told text
  told_due None line text is h = tt
  told_due (Some bytes) line text is h = h ∙ ap (λ xs. Some xs) (sym is)

-- what is due by one rule is due by another that it implies
pub front_by : (first second : List ℕ → Type 0) (old new : Option (List ℕ)) → ((text : List ℕ) → first text → second text)
    → WroteFront first old new → WroteFront second old new
front_by first second old new implies h = record { text = h.text; due = implies h.text h.due; count = h.count; less = h.less; written = h.written }
