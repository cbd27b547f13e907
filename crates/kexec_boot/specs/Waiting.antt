-- Carried sessions as they wait in the incoming slots.
use Rattle.std.specs.Prelude.{ℕ, ◌+◌, ◌≤◌, List, [], ◌∷◌, length}
use Rattle.ho_base.specs.declared.limits.TheConstants.{IN_SLOTS, FILES}
use Rattle.ho_events.specs.Session.{SessionState}
use Rattle.record_frames.specs.declared.carried.CarriedSession.{CarriedSession}
use Rattle.session_core.specs.SessionShown.{TokensRise}
use Rattle.session_core.specs.Sessions.{fresh_incoming}
use Rattle.kexec_boot.specs.Files.{listed_from}

-- the states of these sessions, whose files have the numbers from one on
abbrev pub waiting_from : ℕ → List CarriedSession → List SessionState
waiting_from n [] = []
waiting_from n (s ∷ ss) = fresh_incoming s.name (listed_from n s.files) ∷ waiting_from (n + length s.files) ss

-- how many files sessions have
abbrev pub files_of : List CarriedSession → ℕ
files_of [] = 0
files_of (s ∷ ss) = length s.files + files_of ss

-- the tokens of each session rise
abbrev pub TokensOfAll : List CarriedSession → Type 0
TokensOfAll [] = Unit {0}
TokensOfAll (s ∷ ss) = ((n : ℕ) → TokensRise (listed_from n s.files)) × TokensOfAll ss

-- There is an incoming slot for each session, and a file number for each file; the tokens of each session rise.
pub record CanWait (ss : List CarriedSession) : Type 0 where
  pub few : length ss ≤ IN_SLOTS
  pub files : files_of ss ≤ FILES
  pub tokens : TokensOfAll ss
