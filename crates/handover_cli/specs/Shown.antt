-- What a test shows of a worked history.
use Rattle.std.specs.Prelude.{◌≡◌, ℕ, true, List, Some, None}
use Rattle.ho_events.specs.Text.{text_of}
use Rattle.ho_events.specs.declared.script.Block.{Block}
use Rattle.ho_events.specs.declared.entry.Entry.{Entry}
use Rattle.ho_world.specs.World.{World}
use Rattle.ho_world.specs.Legal.{IsLegal}
use Rattle.handover_cli.specs.Run.{OfScript, OnStart}

-- the text of a legal history of these blocks, from a world on
pub record IsLegalText (start : World) (blocks : List Block) (text : List ℕ) : Type 0 where
  pub entries : List Entry
  pub legal : IsLegal start blocks entries
  pub is : text ≡ text_of entries

-- The first bytes spell a script, and the second are the text of a legal history of it, on a machine of its shape that
-- begins cold.
abbrev pub IsHistoryOf : List ℕ → List ℕ → Type 0
IsHistoryOf script_bytes text = OfScript true (Some script_bytes) (OnStart None (λ start blocks. IsLegalText start blocks text))
