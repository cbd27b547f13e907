-- What a session slot answers.
use Rattle.std.specs.Prelude.{◌≡◌, ℕ, Bool, true, false, not, ◌&&◌, nat_le, List, map}
use Rattle.std.specs.Prelude.{Option, None, Some}
use Rattle.std.specs.FinMap as finmap
use Rattle.ho_base.specs.declared.limits.TheConstants.{SESSION_FILES}
use Rattle.ho_base.specs.declared.numbers.FileNo.{FileNo}
use Rattle.ho_base.specs.declared.numbers.Token.{Token}
use Rattle.ho_events.specs.Lists.{same_bytes}
use Rattle.ho_events.specs.Session.{SessionState, Free, Out, In, is_out, files_of}
use Rattle.ho_events.specs.declared.reply.Reply.{Reply}
use Rattle.ho_events.specs.declared.reply.Reply.TheVariants.{Ok, NoSession, SessionFull, TokenTaken, NotFinished, AlreadyPinned, NoFrames, HandlerFailed}
use Rattle.session_core.specs.SessionShown.{listed}

-- the slot is free
abbrev pub IsFree : SessionState → Type 0
IsFree s = s ≡ Free

-- the name of an outgoing session
abbrev pub name_of : SessionState → Option (List ℕ)
name_of Free = None
name_of (Out name files) = Some name
name_of (In name opened files) = None

-- an incoming session that waits to be opened: nothing of it was taken
abbrev pub fresh_incoming : List ℕ → List (Token × FileNo × ℕ) → SessionState
fresh_incoming name files = In name false (finmap.from_sorted (map listed files))

-- the session is incoming with this name, and wasn't opened
abbrev pub waits : SessionState → List ℕ → Bool
waits (In own opened files) name = not opened && same_bytes own name
waits s name = false

-- what stands against adding a file, in the order in which it is asked: it is no outgoing session of the
-- name; it is full; it has the token
abbrev pub refusal_by : Bool → Bool → Bool → Option Reply
refusal_by false full taken = Some NoSession
refusal_by true true taken = Some SessionFull
refusal_by true false true = Some TokenTaken
refusal_by true false false = None

abbrev pub refusal_of : SessionState → List ℕ → ℕ → Option Reply
refusal_of s name token =
    refusal_by (is_out s name) (nat_le SESSION_FILES (finmap.len (files_of s))) (finmap.contains_key (files_of s) token)

-- the replies of a caller that could not preserve the file
abbrev pub is_loss : Reply → Bool
is_loss NotFinished = true
is_loss AlreadyPinned = true
is_loss NoFrames = true
is_loss HandlerFailed = true
is_loss reply = false

-- what adding a file is answered: the session's refusal, else the caller's, else it is added
abbrev pub add_answer : Option Reply → Option Reply → Reply
add_answer (Some refusal) lost = refusal
add_answer None (Some loss) = loss
add_answer None None = Ok

-- what ending an outgoing session is answered
abbrev pub close_answer : Bool → Reply
close_answer true = Ok
close_answer false = NoSession

-- what ending an incoming session is answered: that it is no opened one of the name, else the caller's refusal, else
-- that it is ended
abbrev pub finish_answer : Bool → Option Reply → Reply
finish_answer false lost = NoSession
finish_answer true (Some loss) = loss
finish_answer true None = Ok
