-- A session: free, outgoing or incoming.
use Rattle.std.specs.Prelude.{◌≡◌, ℕ, ◌+◌, Bool, true, false, not, ◌&&◌, ◌==◌, nat_lt, nat_le, if◌then◌else◌, List}
use Rattle.std.specs.Prelude.{Option, None, Some}
use Rattle.std.specs.Ordering.{nat_cmp}
use Rattle.std.specs.FinMap as finmap
use Rattle.ho_base.specs.declared.limits.TheConstants.{SESSION_FILES}
use Rattle.ho_events.specs.Lists.{only, same_bytes}
use Rattle.ho_events.specs.declared.event.Event.{Event}
use Rattle.ho_events.specs.declared.event.Event.TheVariants.{SessionBegin, SessionOpen, SessionAdd, SessionClose, SessionTake, SessionFinish}
use Rattle.ho_events.specs.declared.reply.Reply.{Reply}
use Rattle.ho_events.specs.declared.reply.Reply.TheVariants.{Ok, OkFile, NoSession, SessionFull, TokenTaken, NotFinished, AlreadyPinned, NoFrames, HandlerFailed, NoToken, AlreadyTaken}

-- a file of a session: its number, its handle, and whether it was taken
pub record Listed : Type 0 where
  pub file : ℕ
  pub handle : ℕ
  pub taken : Bool

-- a free slot; an outgoing session with its name and its files by token;
-- an incoming one, opened or not
pub data SessionState : Type 0 where
  Free : SessionState
  Out : List ℕ → finmap.FinMap nat_cmp Listed → SessionState
  In : List ℕ → Bool → finmap.FinMap nat_cmp Listed → SessionState

-- the session is outgoing with this name;  incoming, opened and of this name
abbrev pub is_out : SessionState → List ℕ → Bool
is_out (Out own files) name = same_bytes own name
is_out s name = false

abbrev pub is_in : SessionState → List ℕ → Bool
is_in (In own opened files) name = opened && same_bytes own name
is_in s name = false

-- the session's files by token
abbrev pub files_of : SessionState → finmap.FinMap nat_cmp Listed
files_of Free = finmap.empty
files_of (Out name files) = files
files_of (In name opened files) = files

-- the session with one more file
abbrev pub with_file : SessionState → ℕ → Listed → SessionState
with_file (Out name files) token file = Out name (finmap.insert files token file)
with_file s token file = s

-- the session with the file of a token taken
abbrev pub with_taken : SessionState → ℕ → Listed → SessionState
with_taken (In name opened files) token file = In name opened (finmap.insert files token (record file { taken = true }))
with_taken s token file = s

-- nothing but the caller's own refusal stands against adding a file under this token
abbrev pub admits : SessionState → List ℕ → ℕ → Bool
admits s name token =
    is_out s name && nat_lt (finmap.len (files_of s)) SESSION_FILES && not (finmap.contains_key (files_of s) token)

-- a file is added where the session is outgoing with this name, isn't full and doesn't have the token;
-- a refusal that the caller brings in comes only where the session itself doesn't refuse
abbrev pub add_step : SessionState → List ℕ → ℕ → Listed → Reply → Option SessionState
add_step s name token file NoSession = only (not (is_out s name)) s
add_step s name token file SessionFull = only (is_out s name && nat_le SESSION_FILES (finmap.len (files_of s))) s
add_step s name token file TokenTaken =
    only (is_out s name && nat_lt (finmap.len (files_of s)) SESSION_FILES && finmap.contains_key (files_of s) token) s
add_step s name token file NotFinished = only (admits s name token) s
add_step s name token file AlreadyPinned = only (admits s name token) s
add_step s name token file NoFrames = only (admits s name token) s
add_step s name token file HandlerFailed = only (admits s name token) s
add_step s name token file Ok = only (admits s name token) (with_file s token file)
add_step s name token file reply = None

-- what is asked of a listed file that a caller takes: no such token, taken before, the caller's own
-- refusal, or the file
abbrev pub take_listed : SessionState → ℕ → Option Listed → Reply → Option SessionState
take_listed s token None NoToken = Some s
take_listed s token (Some file) AlreadyTaken = only file.taken s
take_listed s token (Some file) HandlerFailed = only (not file.taken) s
take_listed s token (Some file) (OkFile f) = only (not file.taken && file.file == f.0) (with_taken s token file)
take_listed s token found reply = None

-- a token's file is given once, of an opened session of this name
abbrev pub take_step : SessionState → List ℕ → ℕ → Reply → Option SessionState
take_step s name token NoSession = only (not (is_in s name)) s
take_step s name token reply = (if is_in s name then take_listed s token (finmap.get (files_of s) token) reply else None)

abbrev pub close_step : SessionState → List ℕ → Reply → Option SessionState
close_step s name NoSession = only (not (is_out s name)) s
close_step s name Ok = only (is_out s name) Free
close_step s name reply = None

abbrev pub finish_step : SessionState → List ℕ → Reply → Option SessionState
finish_step s name NoSession = only (not (is_in s name)) s
finish_step s name HandlerFailed = only (is_in s name) s
finish_step s name Ok = only (is_in s name) Free
finish_step s name reply = None

-- only a free slot becomes an outgoing session, and only an incoming one of this name is opened, once
abbrev pub session_step : SessionState → Event → Reply → Option SessionState
session_step Free (SessionBegin name) Ok = Some (Out name finmap.empty)
session_step (In own opened files) (SessionOpen name) Ok =
    only (not opened && same_bytes own name) (In own true files)
session_step s (SessionAdd name token file handle) reply =
    add_step s name token.0 (record { file = file.0; handle = handle; taken = false }) reply
session_step s (SessionClose name) reply = close_step s name reply
session_step s (SessionTake name token) reply = take_step s name token.0 reply
session_step s (SessionFinish name) reply = finish_step s name reply
session_step s event reply = None
