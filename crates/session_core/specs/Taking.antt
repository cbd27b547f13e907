-- What a session slot answers where a file of an incoming session is asked for.
use Rattle.std.specs.Prelude.{ℕ, Bool, true, false, if◌then◌else◌, List, Option, None, Some, Result, Ok, Err}
use Rattle.std.specs.FinMap as finmap
use Rattle.ho_base.specs.declared.numbers.FileNo.{FileNo}
use Rattle.ho_events.specs.Session.{SessionState, Listed, is_in, files_of}
use Rattle.ho_events.specs.declared.reply.Reply.{Reply}
use Rattle.ho_events.specs.declared.reply.Reply.TheVariants.{OkFile, NoSession, NoToken, AlreadyTaken}

-- what the question for the file of a token is answered, in the order in which it is asked: it is no opened incoming
-- session of the name; it doesn't have the token; the file was taken; else the file with its handle
abbrev pub found_by : Bool → Option Listed → Result (FileNo × ℕ) Reply
found_by false found = Err NoSession
found_by true None = Err NoToken
found_by true (Some l) = (if l.taken then Err AlreadyTaken else Ok (record { 0 = l.file }, l.handle))

abbrev pub found_of : SessionState → List ℕ → ℕ → Result (FileNo × ℕ) Reply
found_of s name token = found_by (is_in s name) (finmap.get (files_of s) token)

-- what taking the file of a token is answered: the session's refusal, else the caller's, else the file
abbrev pub take_answer : Result (FileNo × ℕ) Reply → Option Reply → Reply
take_answer (Err refusal) lost = refusal
take_answer (Ok f) (Some loss) = loss
take_answer (Ok f) None = OkFile f.0
