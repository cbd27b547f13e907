-- The commands that are done here, and those that are done elsewhere.
use Rattle.std.proofs.Common.{◌≡◌, ℕ, List, IsTrue, refl}
use Rattle.ho_base.specs.declared.numbers.Token.{Token}
use Rattle.ho_events.specs.Script.Rules.{is_built}
use Rattle.ho_events.specs.declared.command.Command.{Command}
use Rattle.ho_events.specs.declared.command.Command.TheVariants.{Open, Retrieve, Finish}
use Rattle.luo_calls.specs.Done.{is_done_here}
use Rattle.luo_incoming.specs.Done.{is_done}

-- one that isn't on incoming sessions
pub others : (c : Command) → IsTrue (is_done c) → ((name : List ℕ) → c ≡ Open name → ⊥) → ((name : List ℕ) (t : Token) (label : List ℕ) → c ≡ Retrieve name t label → ⊥) → ((name : List ℕ) → c ≡ Finish name → ⊥) → IsTrue (is_done_here c)
others (Open name) done no_open no_retrieve no_finish = absurd (no_open name refl)
others (Retrieve name t label) done no_open no_retrieve no_finish = absurd (no_retrieve name t label refl)
others (Finish name) done no_open no_retrieve no_finish = absurd (no_finish name refl)
others c done no_open no_retrieve no_finish = done

-- every command that a script may have is done here
pub built_done : (c : Command) → IsTrue (is_built c) → IsTrue (is_done c)
built_done (Open name) built = refl
built_done (Retrieve name t label) built = refl
built_done (Finish name) built = refl
built_done c built = built
