-- Which labels commands bind: in a script that is read, each label of an agent is bound by one command at most.
use Rattle.std.specs.Prelude.{◌≡◌, ℕ, Bool, true, false, not, ◌&&◌, nat_le, List, [], ◌∷◌, IsTrue, None, Some}
use Rattle.std.specs.List.{list_all}
use Rattle.std.specs.FinMap as finmap
use Rattle.ho_base.specs.declared.limits.TheConstants.{MAX_ORDER}
use Rattle.ho_events.specs.Script.{script_of}
use Rattle.ho_events.specs.Script.Rules.{sections_of}
use Rattle.ho_events.specs.Script.SoFar.{label_of, is_bound, with_label}
use Rattle.ho_events.specs.declared.command.Command.{Command}
use Rattle.ho_events.specs.declared.command.Command.TheVariants as command
use Rattle.ho_events.specs.declared.script.AgentWork.{AgentWork}
use Rattle.ho_events.specs.declared.script.Script.{Script}
use Rattle.ho_world.specs.Sequences.{Labels}
use Rattle.sound_histories.specs.Kept.{AllMayCome}

-- a command makes no device file, and no memfd of an order that there isn't
abbrev pub makes_memfds : Command → Bool
makes_memfds (command.Memfd label o) = nat_le o.0 MAX_ORDER
makes_memfds (command.Device label kind size) = false
makes_memfds c = true

-- the labels that are bound, each with the number of its agent, once an agent's commands have bound theirs
abbrev pub bound_with : List (ℕ × List ℕ) → ℕ → List Command → List (ℕ × List ℕ)
bound_with bound a [] = bound
bound_with bound a (c ∷ cs) = bound_with (with_label bound a (label_of c)) a cs

-- each of an agent's commands that binds a label binds one that the agent hasn't bound before
abbrev pub bind_once : List (ℕ × List ℕ) → ℕ → List Command → Bool
bind_once bound a [] = true
bind_once bound a (c ∷ cs) = not (is_bound bound a (label_of c)) && bind_once (with_label bound a (label_of c)) a cs

-- the same of sections, one after another
abbrev pub bound_in : List (ℕ × List ℕ) → List AgentWork → List (ℕ × List ℕ)
bound_in bound [] = bound
bound_in bound (work ∷ works) = bound_in (bound_with bound work.agent.0 work.commands) works

abbrev pub sections_bind_once : List (ℕ × List ℕ) → List AgentWork → Bool
sections_bind_once bound [] = true
sections_bind_once bound (work ∷ works) =
    bind_once bound work.agent.0 work.commands && sections_bind_once (bound_with bound work.agent.0 work.commands) works

-- in a script each label of an agent is bound by one command at most
abbrev pub binds_once : Script → Bool
binds_once script = sections_bind_once [] (sections_of script.blocks)

-- an agent has a file under none but these labels of it
abbrev pub HasOnly : Labels → List (ℕ × List ℕ) → ℕ → Type 0
HasOnly labels bound a = (label : List ℕ) → is_bound bound a (Some label) ≡ false → finmap.get labels label ≡ None

-- commands that bind none of the labels that their agent may have, and none of theirs twice, may come one after another
abbrev pub OnceMayCome : Type 0
OnceMayCome =
    (labels : Labels) (bound : List (ℕ × List ℕ)) (a : ℕ) (commands : List Command) → HasOnly labels bound a → IsTrue (list_all makes_memfds commands) → IsTrue (bind_once bound a commands)
    → AllMayCome labels commands

-- each script that is read binds each label of an agent once at most
abbrev pub ReadBindsOnce : Type 0
ReadBindsOnce = (fresh : Bool) (bytes : List ℕ) (script : Script) → script_of fresh bytes ≡ Some script → IsTrue (binds_once script)
