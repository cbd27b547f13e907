-- What the errors of reading a script say.
use Rattle.std.specs.Prelude.{◌≡◌, Option, Some}
use Rattle.ho_events.specs.Script.{Refusal}
use Rattle.script_text.specs.declared.ScriptError.{ScriptError}
use Rattle.script_text.specs.declared.ScriptError.TheVariants.{Bad, Memory}

-- a bad script is given by its first refused line and the reason; out of memory says nothing of the script
abbrev pub Says : Option Refusal → ScriptError → Type 0
Says refusal (Bad line reason) = refusal ≡ Some (record { line = line; why = reason })
Says refusal Memory = Unit {0}
