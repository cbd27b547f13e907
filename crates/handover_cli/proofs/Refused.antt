-- The line of a refusal, by the word that tells its reason.
use Rattle.std.proofs.Common.{◌≡◌, ◌++◌, ◌<◌, List, ℕ, codes, decimal, ap, ◌∙◌, length, take}
use Rattle.std.specs.Prelude.{Option}
use Rattle.ho_events.specs.declared.line.Reason.{Reason}
use Rattle.ho_io.specs.Told.{behind}
use Rattle.handover_cli.specs.Due.{WroteFront}
use Rattle.handover_cli.specs.Refusals.{line_text, reason_word}

pub line_is : (line : ℕ) (why : Reason) (text word : List ℕ) → text ≡ codes "script refused: line " ++ (decimal line ++ (codes ": " ++ (word ++ codes "\n"))) → word ≡ reason_word why → text ≡ line_text line why
line_is line why text word h is =
    h ∙ ap (λ (w : List ℕ). codes "script refused: line " ++ (decimal line ++ (codes ": " ++ (w ++ codes "\n")))) is

-- a front part of a text that is due
pub front_of : (due text : List ℕ) (old new : Option (List ℕ)) → text ≡ due → (n : ℕ) × ((n < length text) × (new ≡ behind old (take n text))) → WroteFront (λ t. t ≡ due) old new
front_of due text old new is p = record { text = text; due = is; count = p.0; less = p.1.0; written = p.1.1 }
