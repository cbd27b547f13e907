-- What is written of words that fit nothing, and of a script that is refused.
use Rattle.std.specs.Prelude.{◌≡◌, ℕ, Bool, nat_lt, if◌then◌else◌, List, ◌++◌, length, codes, decimal, Option, Some, None, option_map}
use Rattle.ho_base.specs.declared.limits.TheConstants.{SCRIPT_BYTES}
use Rattle.ho_events.specs.Script.{Refusal, refusal_of as script_refusal}
use Rattle.ho_events.specs.declared.line.Reason.{Reason}
use Rattle.ho_events.specs.declared.line.Reason.TheVariants.{Byte, Word, Later, Count, Number, Name, Hex, Kind, Op, Place, Shape, Label, Limit, End}

-- the line that says which words the program takes
abbrev pub usage_line : List ℕ
usage_line = codes "usage: handover run SCRIPT [--images FILE] [--summary TEXT] | resume IMAGE SCRIPT [--images FILE] [--summary TEXT] | audit SCRIPT HISTORY | inspect IMAGE | gen NUMBER\n"

-- the word that tells a reason
abbrev pub reason_word : Reason → List ℕ
reason_word Byte = codes "byte"
reason_word Word = codes "word"
reason_word Later = codes "later"
reason_word Count = codes "count"
reason_word Number = codes "number"
reason_word Name = codes "name"
reason_word Hex = codes "hex"
reason_word Kind = codes "kind"
reason_word Op = codes "op"
reason_word Place = codes "place"
reason_word Shape = codes "shape"
reason_word Label = codes "label"
reason_word Limit = codes "limit"
reason_word End = codes "end"

-- the line that says which line of a script is refused, and why;  that says that a script is too long
abbrev pub line_text : ℕ → Reason → List ℕ
line_text line why =
    codes "script refused: line " ++ (decimal line ++ (codes ": " ++ (reason_word why ++ codes "\n")))

abbrev pub too_long_text : List ℕ
too_long_text = codes "script refused: too long\n"

abbrev pub refusal_text : Refusal → List ℕ
refusal_text r = line_text r.line r.why

-- The line that is due for a script of these bytes, fresh or one that goes on from an image, where it is refused. One that
-- has more bytes than a script may have is too long, and no line of it is told; else its first refused line is, with the
-- first reason for it.
unfoldable pub refusal_of : Bool → List ℕ → Option (List ℕ)
refusal_of fresh script_bytes =
    if nat_lt SCRIPT_BYTES (length script_bytes) then Some too_long_text
    else option_map refusal_text (script_refusal fresh script_bytes)

-- a script isn't refused, where it is told;  this is the line of its refusal, where it is told
abbrev pub IsAccepted : Bool → Option (List ℕ) → Type 0
IsAccepted fresh None = Unit {0}
IsAccepted fresh (Some script_bytes) = refusal_of fresh script_bytes ≡ None

abbrev pub IsRefusal : Bool → Option (List ℕ) → List ℕ → Type 0
IsRefusal fresh None line = Unit {0}
IsRefusal fresh (Some script_bytes) line = refusal_of fresh script_bytes ≡ Some line
