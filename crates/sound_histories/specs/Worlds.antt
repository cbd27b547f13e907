-- The worlds to which histories lead, and the acts that entries are.
use Rattle.std.specs.Prelude.{◌≡◌, ℕ, List, ◌++◌, unwrap_or, is_some, IsTrue, Option, Some}
use Rattle.ho_events.specs.declared.entry.Entry.{Entry}
use Rattle.ho_events.specs.declared.slip.At.{At}
use Rattle.ho_world.specs.Acts.{Sequence}
use Rattle.ho_world.specs.Logs.{AreDone, began, deeds_of, grown, paired_on}
use Rattle.ho_world.specs.World.{State, World, run}
use Rattle.balance_laws.specs.Acted.{Acted}

-- the world that began as this one, once each object went through its history
abbrev pub world_on : World → (ℕ → List Entry) → World
world_on w f = record {
  number = w.number;
  at = λ o. unwrap_or (run (w.at o) (f o)) (w.at o);
}

-- the objects that are known began in the states that they have in this world
abbrev pub BeganIn : World → (ℕ → Option State) → Type 0
BeganIn w begun = (o : ℕ) (s : State) → begun o ≡ Some s → w.at o ≡ s

-- each object's history is a run of its steps from its state in this world
abbrev pub AreRuns : World → (ℕ → List Entry) → Type 0
AreRuns w f = (o : ℕ) → IsTrue (is_some (run (w.at o) (f o)))

-- Entries that were done as a whole sequence are its acts, one after another: they lead from the world before these
-- entries to the world after them. `f` has the objects' histories, `seen` the entries that came after these and before
-- the sequence.
abbrev pub EntriesAreActs : Type 0
EntriesAreActs =
    (w : World) (begun : ℕ → Option State) (f : ℕ → List Entry) (at : At) (last last' : ℕ) (s : Sequence) (seen made : List Entry) → BeganIn w begun → AreRuns w (grown f (seen ++ made))
    → AreDone begun at last (deeds_of s) (paired_on begun f seen made) last'
    → Acted (began begun) (world_on w (grown f seen)) s.acts (world_on w (grown f (seen ++ made)))
