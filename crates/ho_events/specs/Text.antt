-- The text of a history: one line an entry, in the order of the entries.
use Rattle.std.specs.Prelude.{ℕ, ◌-◌, ◌==◌, nat_lt, if◌then◌else◌, List, [], ◌∷◌, ◌++◌, codes, decimal, flat_map}
use Rattle.std.specs.Option.{option_to_list}
use Rattle.hex.specs.Hex.{encode_lower}
use Rattle.ho_base.specs.Objects.{pool_no, registry_no, handler_no, session_no, file_no}
use Rattle.ho_base.specs.declared.numbers.FileNo.{FileNo}
use Rattle.ho_base.specs.declared.numbers.Kind.{Kind}
use Rattle.ho_base.specs.declared.numbers.Kind.TheVariants.{Memfd, Dev0, Dev1, Dev2, Dev3}
use Rattle.ho_base.specs.declared.numbers.Pfn.{Pfn}
use Rattle.ho_base.specs.declared.numbers.SlotNo.{SlotNo}
use Rattle.ho_events.specs.declared.entry.Entry.{Entry}
use Rattle.ho_events.specs.declared.entry.Place.{Place}
use Rattle.ho_events.specs.declared.entry.Place.TheVariants.{Object, Own}
use Rattle.ho_events.specs.declared.event.Event.{Event}
use Rattle.ho_events.specs.declared.event.Event.TheVariants.{PoolTake, PoolGive, PoolMark, PoolUnmark, RegNewFile, RegFreeFile, RegDropName, RegDropIn, RegCreate, RegFindOut, RegFindIn, RegOpen, FileInit, FileWrite, FileFill, FileRead, FileTruncate, FileSeek, FileTell, FileCloseFd, FilePin, FileUnpin, FileOpenHeld, FileFinish, SessionBegin, SessionOpen, SessionAdd, SessionClose, SessionTake, SessionFinish, HandlerPreserve, HandlerUnpreserve, HandlerFinish, HandlerFreeze, HandlerCanFinish, HandlerUnfreeze, HandlerRetrieve, SelfDone}
use Rattle.ho_events.specs.declared.reply.Reply.{Reply}
use Rattle.ho_events.specs.declared.reply.Reply.TheVariants.{Ok, OkFile, OkSlot, OkBytes, OkAt, OkRuns, OkHandle, OkBound, Kept, KeptRuns, Gone, Got, NoFrames, NoFramesOf, Last, Failed, FilesFull, NameTaken, SessionsFull, NoSession, AlreadyOpen, TooBig, SizeFrozen, PastEnd, NotFinished, AlreadyPinned, HandlerFailed, SessionFull, TokenTaken, NoToken, AlreadyTaken, BadFd, ScratchSmall, FreezeFailed}

-- a number of a file, as `f0`;  of a session slot, as `s0`
abbrev pub file_word : FileNo → List ℕ
file_word f = codes "f" ++ decimal f.0

abbrev pub slot_word : SlotNo → List ℕ
slot_word s = codes "s" ++ decimal s.0

-- bytes in lower case hexadecimal;  no bytes are `-`
abbrev pub hex_word : List ℕ → List ℕ
hex_word [] = codes "-"
hex_word (b ∷ bytes) = encode_lower (b ∷ bytes)

-- numbers of frames, with a comma before each
abbrev pub after_commas : List Pfn → List ℕ
after_commas ps = flat_map (λ p. codes "," ++ decimal p.0) ps

-- with a comma before each but the first
abbrev pub separated : List Pfn → List ℕ
separated [] = []
separated (p ∷ ps) = decimal p.0 ++ after_commas ps

-- a list of frames, as `[9,10]`
unfoldable pub runs_word : List Pfn → List ℕ
runs_word ps = codes "[" ++ separated ps ++ codes "]"

abbrev pub kind_word : Kind → List ℕ
kind_word Memfd = codes "memfd"
kind_word Dev0 = codes "dev0"
kind_word Dev1 = codes "dev1"
kind_word Dev2 = codes "dev2"
kind_word Dev3 = codes "dev3"

-- where an event was: `pool`, `reg`, `dev0` to `dev3`, `s0` to `s31`, `f0` to `f255`, or `self`
abbrev pub object_word : ℕ → List ℕ
object_word n =
    if n == pool_no then codes "pool"
    else if n == registry_no then codes "reg"
    else if nat_lt n (session_no 0) then codes "dev" ++ decimal (n - handler_no 0)
    else if nat_lt n (file_no 0) then codes "s" ++ decimal (n - session_no 0)
    else codes "f" ++ decimal (n - file_no 0)

abbrev pub place_word : Place → List ℕ
place_word (Object n) = object_word n.0
place_word Own = codes "self"

-- the words of an event;  names stand as they are
abbrev pub event_words : Event → List (List ℕ)
event_words (PoolTake order count) = codes "take" ∷ decimal order.0 ∷ decimal count ∷ []
event_words (PoolGive order runs) = codes "give" ∷ decimal order.0 ∷ runs_word runs ∷ []
event_words (PoolMark order runs) = codes "mark" ∷ decimal order.0 ∷ runs_word runs ∷ []
event_words (PoolUnmark order runs) = codes "unmark" ∷ decimal order.0 ∷ runs_word runs ∷ []
event_words RegNewFile = codes "new_file" ∷ []
event_words (RegFreeFile file) = codes "free_file" ∷ file_word file ∷ []
event_words (RegDropName name) = codes "drop_name" ∷ name ∷ []
event_words (RegDropIn name) = codes "drop_in" ∷ name ∷ []
event_words (RegCreate name) = codes "create" ∷ name ∷ []
event_words (RegFindOut name) = codes "find_out" ∷ name ∷ []
event_words (RegFindIn name) = codes "find_in" ∷ name ∷ []
event_words (RegOpen name) = codes "open" ∷ name ∷ []
event_words (FileInit kind order size runs) =
    codes "init" ∷ kind_word kind ∷ decimal order.0 ∷ decimal size ∷ runs_word runs ∷ []
event_words (FileWrite off bytes fills) = codes "write" ∷ decimal off ∷ hex_word bytes ∷ runs_word fills ∷ []
event_words (FileFill off len byte fills) =
    codes "fill" ∷ decimal off ∷ decimal len ∷ decimal byte ∷ runs_word fills ∷ []
event_words (FileRead off len) = codes "read" ∷ decimal off ∷ decimal len ∷ []
event_words (FileTruncate size) = codes "truncate" ∷ decimal size ∷ []
event_words (FileSeek pos) = codes "seek" ∷ decimal pos ∷ []
event_words FileTell = codes "tell" ∷ []
event_words FileCloseFd = codes "close_fd" ∷ []
event_words (FilePin fills) = codes "pin" ∷ runs_word fills ∷ []
event_words FileUnpin = codes "unpin" ∷ []
event_words FileOpenHeld = codes "open_held" ∷ []
event_words FileFinish = codes "finish" ∷ []
event_words (SessionBegin name) = codes "begin" ∷ name ∷ []
event_words (SessionOpen name) = codes "open" ∷ name ∷ []
event_words (SessionAdd name token file handle) =
    codes "add" ∷ name ∷ decimal token.0 ∷ file_word file ∷ decimal handle ∷ []
event_words (SessionClose name) = codes "close" ∷ name ∷ []
event_words (SessionTake name token) = codes "take" ∷ name ∷ decimal token.0 ∷ []
event_words (SessionFinish name) = codes "finish" ∷ name ∷ []
event_words (HandlerPreserve file frame) = codes "preserve" ∷ file_word file ∷ runs_word (option_to_list frame) ∷ []
event_words (HandlerUnpreserve file handle) = codes "unpreserve" ∷ file_word file ∷ decimal handle ∷ []
event_words (HandlerFinish file handle) = codes "finish" ∷ file_word file ∷ decimal handle ∷ []
event_words (HandlerFreeze file handle) = codes "freeze" ∷ file_word file ∷ decimal handle ∷ []
event_words (HandlerCanFinish file handle) = codes "can_finish" ∷ file_word file ∷ decimal handle ∷ []
event_words (HandlerUnfreeze file handle) = codes "unfreeze" ∷ file_word file ∷ decimal handle ∷ []
event_words (HandlerRetrieve file handle) = codes "retrieve" ∷ file_word file ∷ decimal handle ∷ []
event_words SelfDone = codes "done" ∷ []

-- the words of a reply;  a position has an `@`, so that it doesn't read as bytes
abbrev pub reply_words : Reply → List (List ℕ)
reply_words Ok = codes "Ok" ∷ []
reply_words (OkFile file) = codes "Ok" ∷ file_word file ∷ []
reply_words (OkSlot slot) = codes "Ok" ∷ slot_word slot ∷ []
reply_words (OkBytes bytes) = codes "Ok" ∷ hex_word bytes ∷ []
reply_words (OkAt pos) = codes "Ok" ∷ (codes "@" ++ decimal pos) ∷ []
reply_words (OkRuns runs) = codes "Ok" ∷ runs_word runs ∷ []
reply_words (OkHandle handle bound) = codes "Ok" ∷ decimal handle ∷ hex_word bound ∷ []
reply_words (OkBound bound) = codes "Ok" ∷ hex_word bound ∷ []
reply_words Kept = codes "Kept" ∷ []
reply_words (KeptRuns runs) = codes "Kept" ∷ runs_word runs ∷ []
reply_words (Gone runs) = codes "Gone" ∷ runs_word runs ∷ []
reply_words (Got runs) = codes "Got" ∷ runs_word runs ∷ []
reply_words NoFrames = codes "NoFrames" ∷ []
reply_words (NoFramesOf wanted) = codes "NoFrames" ∷ decimal wanted ∷ []
reply_words (Last frame) = codes "Last" ∷ runs_word (frame ∷ []) ∷ []
reply_words (Failed faults) = codes "Failed" ∷ decimal faults ∷ []
reply_words FilesFull = codes "FilesFull" ∷ []
reply_words NameTaken = codes "NameTaken" ∷ []
reply_words SessionsFull = codes "SessionsFull" ∷ []
reply_words NoSession = codes "NoSession" ∷ []
reply_words AlreadyOpen = codes "AlreadyOpen" ∷ []
reply_words TooBig = codes "TooBig" ∷ []
reply_words SizeFrozen = codes "SizeFrozen" ∷ []
reply_words PastEnd = codes "PastEnd" ∷ []
reply_words NotFinished = codes "NotFinished" ∷ []
reply_words AlreadyPinned = codes "AlreadyPinned" ∷ []
reply_words HandlerFailed = codes "HandlerFailed" ∷ []
reply_words SessionFull = codes "SessionFull" ∷ []
reply_words TokenTaken = codes "TokenTaken" ∷ []
reply_words NoToken = codes "NoToken" ∷ []
reply_words AlreadyTaken = codes "AlreadyTaken" ∷ []
reply_words BadFd = codes "BadFd" ∷ []
reply_words (ScratchSmall need have) = codes "ScratchSmall" ∷ decimal need ∷ decimal have ∷ []
reply_words (FreezeFailed name token) = codes "FreezeFailed" ∷ name ∷ decimal token.0 ∷ []

-- a blank before each word
abbrev pub spaced : List (List ℕ) → List ℕ
spaced words = flat_map (λ word. codes " " ++ word) words

-- the words of an entry behind its kernel: stamp, agent, command and place, then the event, `=` and the reply
abbrev pub turn_words : Entry → List (List ℕ)
turn_words e = decimal e.stamp ∷ decimal e.agent.0 ∷ decimal e.command ∷ place_word e.object ∷ []

unfoldable pub line_words : Entry → List (List ℕ)
line_words e = turn_words e ++ event_words e.event ++ codes "=" ∷ reply_words e.reply

-- the line of an entry: its words, each but the first behind one blank, and a line feed
unfoldable pub line_of : Entry → List ℕ
line_of e = decimal e.kernel ++ spaced (line_words e) ++ codes "\n"

-- the text of a history: the lines of its entries
abbrev pub text_of : List Entry → List ℕ
text_of es = flat_map line_of es
