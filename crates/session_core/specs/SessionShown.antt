-- How the parts of a session slot show its state.
use Rattle.std.specs.Prelude.{◌≡◌, ◌<◌, ℕ, Bool, true, false, ◌==◌, not, ◌&&◌, nat_lt, suc, if◌then◌else◌, List, [], ◌∷◌, map, length, IsTrue}
use Rattle.std.specs.Prelude.{Option, None, Some, Result, Err}
use Rattle.std.specs.List.{list_any, All}
use Rattle.std.specs.Ordering.{nat_cmp}
use Rattle.std.specs.FinMap as finmap
use Rattle.ho_base.specs.declared.limits.TheConstants.{FILES}
use Rattle.ho_base.specs.declared.numbers.Token.{Token}
use Rattle.ho_base.specs.declared.numbers.FileNo.{FileNo}
use Rattle.ho_events.specs.Lists.{same_bytes}
use Rattle.ho_events.specs.Session.{SessionState, Free, Out, In, Listed}
use Rattle.ho_events.specs.Contents.{Reference}
use Rattle.ho_events.specs.History.{session_from}
use Rattle.ho_events.specs.declared.entry.Entry.{Entry}
use Rattle.ho_events.specs.declared.reply.Reply.{Reply}
use Rattle.ho_events.specs.declared.reply.Reply.TheVariants.{NoSession}
use Rattle.session_core.specs.Taking.{found_by}
use Rattle.session_core.specs.declared.opening.Incoming.{Incoming}

-- a file by its token, as the state of an outgoing session lists it: it was not taken
abbrev pub listed : Token × FileNo × ℕ → ℕ × Listed
listed f = (f.0.0, record { file = f.1.0; handle = f.2; taken = false })

-- the same file as a sequence reads it
abbrev pub reference : Token × FileNo × ℕ → Reference
reference f = record { token = f.0.0; file = f.1.0; handle = f.2 }

-- the tokens strictly rise
abbrev pub TokensRise : List (Token × FileNo × ℕ) → Type 0
TokensRise files = IsTrue (finmap.is_sorted nat_cmp (map listed files))

-- each of the files has a file number
abbrev pub AreFiles : List (Token × FileNo × ℕ) → Type 0
AreFiles files = All (λ f. f.1.0 < FILES) files

-- one of the files has this token
abbrev pub has_token : ℕ → List (Token × FileNo × ℕ) → Bool
has_token token files = list_any (λ f. f.0.0 == token) files

-- the slot has an incoming session of this name that wasn't opened
abbrev pub is_named_waiting : Option Incoming → List ℕ → Bool
is_named_waiting None name = false
is_named_waiting (Some i) name = not i.opened && same_bytes i.name name

-- the slot has an opened incoming session of this name
abbrev pub is_named_open : Option Incoming → List ℕ → Bool
is_named_open None name = false
is_named_open (Some i) name = i.opened && same_bytes i.name name

-- how many files at the front have other tokens
unfoldable pub before : ℕ → List (Token × FileNo × ℕ) → ℕ
before token [] = 0
before token (f ∷ files) = if f.0.0 == token then 0 else suc (before token files)

-- how many files at the front have smaller tokens
unfoldable pub smaller : ℕ → List (Token × FileNo × ℕ) → ℕ
smaller token [] = 0
smaller token (f ∷ files) = if nat_lt f.0.0 token then suc (smaller token files) else 0

-- the slot has this name
abbrev pub is_named : Option (List ℕ) → List ℕ → Bool
is_named None name = false
is_named (Some own) name = same_bytes own name

-- the files of an incoming session with what tells of each whether it was taken; where nothing tells, it wasn't
unfoldable pub listed_by : List (Token × FileNo × ℕ) → List Bool → List (ℕ × Listed)
listed_by [] taken = []
listed_by (f ∷ files) [] = listed f ∷ listed_by files []
listed_by (f ∷ files) (b ∷ taken) = (f.0.0, record (listed f).1 { taken = b }) ∷ listed_by files taken

-- what is listed under a token
unfoldable pub listed_under : ℕ → List (Token × FileNo × ℕ) → List Bool → Option Listed
listed_under token files taken = finmap.find nat_cmp token (listed_by files taken)

-- what the parts of a slot answer to the question for the file of a token
abbrev pub found_in : Option Incoming → List (Token × FileNo × ℕ) → List ℕ → ℕ → Result (FileNo × ℕ) Reply
found_in None files name token = Err NoSession
found_in (Some i) files name token = found_by (i.opened && same_bytes i.name name) (listed_under token files i.taken.items)

-- an incoming session tells of each file whether it was taken
abbrev pub AreMarked : Option Incoming → List (Token × FileNo × ℕ) → Type 0
AreMarked None files = Unit {0}
AreMarked (Some i) files = length i.taken.items ≡ length files

-- an incoming session after a change: another one of the same name, with this for whether it is open, and these for
-- what was taken
abbrev pub Becomes : Bool → List Bool → Incoming → Option Incoming → Type 0
Becomes opened taken i None = ⊥
Becomes opened taken i (Some j) = (j.name ≡ i.name) × (j.opened ≡ opened) × (j.taken.items ≡ taken)

-- the state of a slot with these files: an incoming session, where there is one; else the outgoing session of this
-- name; else the slot is free
unfoldable pub shown : Option Incoming → Option (List ℕ) → List (Token × FileNo × ℕ) → SessionState
shown (Some i) name files = In i.name i.opened (finmap.from_sorted (listed_by files i.taken.items))
shown None None files = Free
shown None (Some name) files = Out name (finmap.from_sorted (map listed files))

-- a slot has neither an incoming session nor an outgoing one
abbrev pub has_none : Option Incoming → Option (List ℕ) → Bool
has_none (Some i) name = false
has_none None (Some name) = false
has_none None None = true

-- a slot with an incoming session has no outgoing one, and a free slot lists nothing
abbrev pub HasOneSide : Option Incoming → Option (List ℕ) → List (Token × FileNo × ℕ) → Type 0
HasOneSide (Some i) name files = name ≡ None
HasOneSide None None files = files ≡ []
HasOneSide None (Some name) files = Unit {0}

-- the history is a run from the start to the state that the parts show, what is listed are files, and of each file of
-- an incoming session is known whether it was taken
pub record KeepsSession (start : SessionState) (history : List Entry) (incoming : Option Incoming) (name : Option (List ℕ)) (files : List (Token × FileNo × ℕ)) : Type 0 where
  pub replayed : session_from start history ≡ Some (shown incoming name files)
  pub rising : TokensRise files
  pub within : AreFiles files
  pub side : HasOneSide incoming name files
  pub marked : AreMarked incoming files
