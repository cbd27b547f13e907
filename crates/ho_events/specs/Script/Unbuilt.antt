-- What isn't built yet: so far a script has rounds of at most one section, and no device files. The next stages shrink
-- these tests; at the end all of them are false everywhere.
use Rattle.std.specs.Prelude.{Bool, true, false, is_some}
use Rattle.ho_events.specs.Script.SoFar.{Reading}
use Rattle.ho_events.specs.declared.line.Line.{Line}
use Rattle.ho_events.specs.declared.line.Line.TheVariants.{Agent}
use Rattle.ho_events.specs.declared.line.Verb.{Verb}
use Rattle.ho_events.specs.declared.line.Verb.TheVariants as verb

-- the first words whose lines aren't built: those of device files and of their planned failures
abbrev pub is_unbuilt_verb : Verb → Bool
is_unbuilt_verb verb.Fail = true
is_unbuilt_verb verb.Device = true
is_unbuilt_verb v = false

-- the open round has a section, so it has a last one
abbrev pub has_any_section : Reading → Bool
has_any_section r = is_some r.section

-- the lines that aren't built: a second agent line of one round
abbrev pub is_unbuilt : Reading → Line → Bool
is_unbuilt r (Agent name) = has_any_section r
is_unbuilt r line = false
