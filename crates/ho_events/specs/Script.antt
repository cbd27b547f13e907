-- Scripts: which bytes spell one, and which line of the others is refused first, and why.
use Rattle.std.specs.Prelude.{◌≡◌, ℕ, ◌+◌, Bool, true, false, not, ◌&&◌, ◌||◌, ◌==◌, nat_lt, nat_le, if◌then◌else◌, List, [], ◌∷◌, ◌++◌, length, Option, Some, None, is_some, is_none, unwrap_or, Result, Ok, Err}
use Rattle.std.specs.List.{list_all, list_any}
use Rattle.std.specs.Result.{result_ok, result_err}
use Rattle.ho_base.specs.ShapeRule.{is_layout}
use Rattle.ho_base.specs.declared.limits.TheConstants.{SCRATCH_AREAS, AGENTS, ROUNDS, KEXECS, COMMANDS, FAILS}
use Rattle.ho_events.specs.Script.Forms.{◌>>=◌}
use Rattle.ho_events.specs.Script.Lines.{line_of_words}
use Rattle.ho_events.specs.Script.SoFar.{Reading, nothing_read, areas_of, blocks_so_far, place_of, label_of, is_bound_by, with_line}
use Rattle.ho_events.specs.Script.Unbuilt.{is_unbuilt}
use Rattle.ho_events.specs.Script.Words.{lines, words, is_skipped, is_script_byte}
use Rattle.ho_events.specs.declared.command.Command.{Command}
use Rattle.ho_events.specs.declared.line.Line.{Line}
use Rattle.ho_events.specs.declared.line.Line.TheVariants.{Machine, Scratch, Fail, Round, Agent, Kexec, Command as Act}
use Rattle.ho_events.specs.declared.line.Reason.{Reason}
use Rattle.ho_events.specs.declared.line.Reason.TheVariants as reason
use Rattle.ho_events.specs.declared.script.AgentWork.{AgentWork}
use Rattle.ho_events.specs.declared.script.Script.{Script}
pub mod Forms
pub mod Lines
pub mod Rules
pub mod SoFar
pub mod Unbuilt
pub mod Words

-- a script of `resume` has no machine and no scratch lines; a fresh one has them at its beginning
abbrev pub lacks_head : Reading → Bool
lacks_head r = r.fresh && is_none r.shape

-- a block stood
abbrev pub has_block : Reading → Bool
has_block r = nat_lt 0 r.rounds || nat_lt 0 r.kexecs

-- the open round has a section of the agent at this place
abbrev pub is_section_of : ℕ → AgentWork → Bool
is_section_of number work = work.agent.0 == number

abbrev pub is_last_section_of : ℕ → Option AgentWork → Bool
is_last_section_of number None = false
is_last_section_of number (Some work) = is_section_of number work

abbrev pub has_section : Reading → Option ℕ → Bool
has_section r None = false
has_section r (Some i) = list_any (is_section_of (i + 1)) r.works || is_last_section_of (i + 1) r.section

-- Places. A fresh script has `machine` first, then 1 to 4 `scratch` lines, then `fail` lines, then blocks; a
-- script of `resume` has `fail` lines, then blocks. A block is a `kexec` line, or a `round` line with agents'
-- sections, each of them an `agent` line and the commands of that agent. A name stands at most once among
-- the agents of one round.
abbrev pub is_misplaced : Reading → Line → Bool
is_misplaced r (Machine n) = not r.fresh || is_some r.frames
is_misplaced r (Scratch area) =
    is_none r.frames || nat_lt 0 (length r.fails) || has_block r || nat_le SCRATCH_AREAS (length (areas_of r.shape))
is_misplaced r (Fail fail) = lacks_head r || has_block r
is_misplaced r Round = lacks_head r
is_misplaced r (Kexec blob) = lacks_head r
is_misplaced r (Agent name) = not r.open_round || has_section r (place_of r.agents name)
is_misplaced r (Act command) = is_none r.section

-- Shape. The frames and the scratch areas so far are a machine's shape.
abbrev pub breaks_shape : Reading → Line → Bool
breaks_shape r (Scratch area) = not (is_layout (unwrap_or r.frames 0) (areas_of r.shape ++ area ∷ []))
breaks_shape r line = false

-- Labels. A label is bound by at most one command of an agent in the whole script.
abbrev pub binds_again : Reading → Line → Bool
binds_again r (Act command) = is_bound_by r.labels r.section (label_of command)
binds_again r line = false

-- Limits. There are at most 15 agents, 64 rounds, 8 kexecs, 4,096 commands and 256 `fail` lines.
abbrev pub is_full : Option ℕ → List (List ℕ) → Bool
is_full place agents = is_none place && nat_le AGENTS (length agents)

abbrev pub passes_limit : Reading → Line → Bool
passes_limit r (Fail fail) = nat_le FAILS (length r.fails)
passes_limit r Round = nat_le ROUNDS r.rounds
passes_limit r (Kexec blob) = nat_le KEXECS r.kexecs
passes_limit r (Agent name) = is_full (place_of r.agents name) r.agents
passes_limit r (Act command) = nat_le COMMANDS r.commands
passes_limit r line = false

-- the reasons for which a line is refused where it stands, in order, each with its test
pub record Test : Type 0 where
  pub why : Reason
  pub applies : Bool

abbrev pub tests : Reading → Line → List Test
tests r line =
    record { why = reason.Place; applies = is_misplaced r line }
    ∷ record { why = reason.Shape; applies = breaks_shape r line }
    ∷ record { why = reason.Label; applies = binds_again r line }
    ∷ record { why = reason.Limit; applies = passes_limit r line }
    ∷ record { why = reason.Later; applies = is_unbuilt r line }
    ∷ []

-- what has been read after a line, or the first reason that applies
abbrev pub unless : {A : Type 0} → List Test → A → Result A Reason
unless [] x = Ok x
unless (t ∷ ts) x = (if t.applies then Err t.why else unless ts x)

unfoldable pub placed : Reading → Line → Result Reading Reason
placed r line = unless (tests r line) (with_line r line)

-- what has been read after a line of these bytes, or why it is refused: a byte of another kind refuses it,
-- then it is skipped or its words refuse it, then its place and the lines before it do
unfoldable pub after_line : Reading → List ℕ → Result Reading Reason
after_line r bytes =
    if not (list_all is_script_byte bytes) then Err reason.Byte
    else if is_skipped (words bytes) then Ok r
    else line_of_words (words bytes) >>= λ line. placed r line

-- the script that was read, once the last line was taken; a fresh one has a scratch line at least
unfoldable pub finished : Reading → Result Script Reason
finished r =
    if lacks_head r then Err reason.End
    else Ok (record { shape = r.shape; fails = r.fails; agents = r.agents; blocks = blocks_so_far r })

-- the first refused line, by its number, and why
pub record Refusal : Type 0 where
  pub line : ℕ
  pub why : Reason

abbrev pub ended : ℕ → Result Script Reason → Result Script Refusal
ended n (Ok script) = Ok script
ended n (Err why) = Err (record { line = n; why = why })

abbrev pub or_refusal : ℕ → Result Reading Reason → (Reading → Result Script Refusal) → Result Script Refusal
or_refusal n (Ok r) next = next r
or_refusal n (Err why) next = Err (record { line = n; why = why })

-- the lines from number n on, one after another: the script, or the first refused line
unfoldable pub script_from : ℕ → Reading → List (List ℕ) → Result Script Refusal
script_from n r [] = ended n (finished r)
script_from n r (line ∷ more) = or_refusal n (after_line r line) (λ next. script_from (n + 1) next more)

-- what some bytes are read as, as a fresh script or as one of `resume`
unfoldable pub outcome_of : Bool → List ℕ → Result Script Refusal
outcome_of fresh bytes = script_from 1 (nothing_read fresh) (lines bytes)

-- the script that some bytes spell;  the first refused line of the others
abbrev pub script_of : Bool → List ℕ → Option Script
script_of fresh bytes = result_ok (outcome_of fresh bytes)

abbrev pub refusal_of : Bool → List ℕ → Option Refusal
refusal_of fresh bytes = result_err (outcome_of fresh bytes)
