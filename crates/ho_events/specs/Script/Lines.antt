-- What a script's line says by its words alone: its first word, their number, and the form and range of
-- each, from left to right.
use Rattle.std.specs.Prelude.{ℕ, ◌-◌, ◌^◌, not, if◌then◌else◌, List, [], ◌∷◌, codes, Option, Some, None, Result, Ok, Err}
use Rattle.ho_base.specs.declared.limits.TheConstants.{MIN_FRAMES, MAX_FRAMES, MAX_ORDER, DEVICE_BYTES, READ_BYTES, KEXECS}
use Rattle.ho_base.specs.declared.numbers.Blob.{Blob}
use Rattle.ho_base.specs.declared.shape.Area.{Area}
use Rattle.ho_events.specs.Lists.{same_bytes}
use Rattle.ho_events.specs.Script.Forms.{◌>>=◌, or_refused, number_within, number_u64, number_u32, name_of, bytes_of, kind_of, op_of}
use Rattle.ho_events.specs.Script.Unbuilt.{is_unbuilt_verb}
use Rattle.ho_events.specs.declared.command.Command.TheVariants as command
use Rattle.ho_events.specs.declared.line.Line.{Line}
use Rattle.ho_events.specs.declared.line.Line.TheVariants as line
use Rattle.ho_events.specs.declared.line.Reason.{Reason}
use Rattle.ho_events.specs.declared.line.Reason.TheVariants as reason
use Rattle.ho_events.specs.declared.line.Verb.{Verb}
use Rattle.ho_events.specs.declared.line.Verb.TheVariants as verb
use Rattle.ho_events.specs.declared.script.Fail.{Fail}

-- the first words: those of a script's own lines, of commands on files, and of commands on sessions
unfoldable pub head_verb : List ℕ → Option Verb
head_verb word =
    if same_bytes word (codes "machine") then Some verb.Machine
    else if same_bytes word (codes "scratch") then Some verb.Scratch
    else if same_bytes word (codes "fail") then Some verb.Fail
    else if same_bytes word (codes "round") then Some verb.Round
    else if same_bytes word (codes "agent") then Some verb.Agent
    else if same_bytes word (codes "kexec") then Some verb.Kexec
    else None

unfoldable pub file_verb : List ℕ → Option Verb
file_verb word =
    if same_bytes word (codes "memfd") then Some verb.Memfd
    else if same_bytes word (codes "device") then Some verb.Device
    else if same_bytes word (codes "write") then Some verb.Write
    else if same_bytes word (codes "fill") then Some verb.Fill
    else if same_bytes word (codes "read") then Some verb.Read
    else if same_bytes word (codes "truncate") then Some verb.Truncate
    else if same_bytes word (codes "seek") then Some verb.Seek
    else if same_bytes word (codes "tell") then Some verb.Tell
    else if same_bytes word (codes "closefd") then Some verb.CloseFd
    else None

unfoldable pub session_verb : List ℕ → Option Verb
session_verb word =
    if same_bytes word (codes "create") then Some verb.Create
    else if same_bytes word (codes "preserve") then Some verb.Preserve
    else if same_bytes word (codes "close") then Some verb.Close
    else if same_bytes word (codes "open") then Some verb.Open
    else if same_bytes word (codes "retrieve") then Some verb.Retrieve
    else if same_bytes word (codes "finish") then Some verb.Finish
    else None

-- the first of three answers, if there is one
abbrev pub first_verb : Option Verb → Option Verb → Option Verb → Result Verb Reason
first_verb (Some v) b c = Ok v
first_verb None (Some v) c = Ok v
first_verb None None (Some v) = Ok v
first_verb None None None = Err reason.Word

unfoldable pub verb_of : List ℕ → Result Verb Reason
verb_of word = first_verb (head_verb word) (file_verb word) (session_verb word)

-- there are exactly no, one, two, three or four words after the first
abbrev pub no_words : List (List ℕ) → Result (Unit {0}) Reason
no_words [] = Ok tt
no_words args = Err reason.Count

abbrev pub one_word : List (List ℕ) → Result (List ℕ) Reason
one_word (a ∷ []) = Ok a
one_word args = Err reason.Count

abbrev pub two_words : List (List ℕ) → Result (List ℕ × List ℕ) Reason
two_words (a ∷ b ∷ []) = Ok (a, b)
two_words args = Err reason.Count

abbrev pub three_words : List (List ℕ) → Result (List ℕ × List ℕ × List ℕ) Reason
three_words (a ∷ b ∷ c ∷ []) = Ok (a, b, c)
three_words args = Err reason.Count

abbrev pub four_words : List (List ℕ) → Result (List ℕ × List ℕ × List ℕ × List ℕ) Reason
four_words (a ∷ b ∷ c ∷ d ∷ []) = Ok (a, b, c, d)
four_words args = Err reason.Count

-- `N`, a name;  `L NUMBER`, a label and a number of 4 bytes;  `N TOKEN L`, a name, a number of 8 bytes and a label
unfoldable pub one_name : List (List ℕ) → Result (List ℕ) Reason
one_name args = one_word args >>= λ w. name_of w

unfoldable pub name_and_number : List (List ℕ) → Result (List ℕ × ℕ) Reason
name_and_number args = two_words args >>= λ w. name_of w.0 >>= λ label. number_u32 w.1 >>= λ n. Ok (label, n)

unfoldable pub name_token_label : List (List ℕ) → Result (List ℕ × ℕ × List ℕ) Reason
name_token_label args = three_words args >>= λ w.
    name_of w.0 >>= λ name. number_u64 w.1 >>= λ token. name_of w.2 >>= λ label. Ok (name, token, label)

-- `machine N` with N from 32 to 16,384
unfoldable pub machine_line : List (List ℕ) → Result Line Reason
machine_line args = one_word args >>= λ w. number_within MIN_FRAMES MAX_FRAMES w >>= λ n. Ok (line.Machine n)

-- `scratch FIRST COUNT` with both from 0 to 16,384
unfoldable pub scratch_line : List (List ℕ) → Result Line Reason
scratch_line args = two_words args >>= λ w.
    number_within 0 MAX_FRAMES w.0 >>= λ first. number_within 0 MAX_FRAMES w.1 >>= λ count.
    let area : Area = record { first = record { 0 = first }; count = count } in Ok (line.Scratch area)

-- `fail KERNEL KIND OP NTH` with KERNEL from 0 to 8 and NTH from 1 to 1,000,000
unfoldable pub fail_line : List (List ℕ) → Result Line Reason
fail_line args = four_words args >>= λ w.
    number_within 0 KEXECS w.0 >>= λ kernel. kind_of w.1 >>= λ kind. op_of w.2 >>= λ op. number_within 1 1000000 w.3 >>= λ nth.
    let fail : Fail = record { kernel = kernel; kind = kind; op = op; nth = nth } in Ok (line.Fail fail)

-- `round`
unfoldable pub round_line : List (List ℕ) → Result Line Reason
round_line args = no_words args >>= λ w. Ok line.Round

-- `agent NAME`
unfoldable pub agent_line : List (List ℕ) → Result Line Reason
agent_line args = one_name args >>= λ name. Ok (line.Agent name)

-- `kexec VERSION FRAMES` with any VERSION of 8 bytes, and FRAMES from 1 to 16,384
unfoldable pub kexec_line : List (List ℕ) → Result Line Reason
kexec_line args = two_words args >>= λ w.
    number_u64 w.0 >>= λ version. number_within 1 MAX_FRAMES w.1 >>= λ frames.
    let blob : Blob = record { version = version; frames = frames } in Ok (line.Kexec blob)

-- `memfd LABEL ORDER` with ORDER from 0 to 9
unfoldable pub memfd_line : List (List ℕ) → Result Line Reason
memfd_line args = two_words args >>= λ w.
    name_of w.0 >>= λ label. number_within 0 MAX_ORDER w.1 >>= λ order.
    Ok (line.Command (command.Memfd label (record { 0 = order })))

-- `device LABEL KIND SIZE` with SIZE from 1 to 4096
unfoldable pub device_line : List (List ℕ) → Result Line Reason
device_line args = three_words args >>= λ w.
    name_of w.0 >>= λ label. kind_of w.1 >>= λ kind. number_within 1 DEVICE_BYTES w.2 >>= λ size.
    Ok (line.Command (command.Device label kind size))

-- `write LABEL OFFSET HEX` with OFFSET from 0 to 4,294,967,295
unfoldable pub write_line : List (List ℕ) → Result Line Reason
write_line args = three_words args >>= λ w.
    name_of w.0 >>= λ label. number_u32 w.1 >>= λ offset. bytes_of w.2 >>= λ bytes.
    Ok (line.Command (command.Write label offset bytes))

-- `fill LABEL OFFSET LEN BYTE` with OFFSET as above, LEN from 1 to 4,294,967,295, BYTE from 0 to 255
unfoldable pub fill_line : List (List ℕ) → Result Line Reason
fill_line args = four_words args >>= λ w.
    name_of w.0 >>= λ label. number_u32 w.1 >>= λ offset. number_within 1 (2 ^ 32 - 1) w.2 >>= λ len. number_within 0 255 w.3 >>= λ byte.
    Ok (line.Command (command.Fill label offset len byte))

-- `read LABEL OFFSET LEN` with LEN from 0 to 4096
unfoldable pub read_line : List (List ℕ) → Result Line Reason
read_line args = three_words args >>= λ w.
    name_of w.0 >>= λ label. number_u32 w.1 >>= λ offset. number_within 0 READ_BYTES w.2 >>= λ len.
    Ok (line.Command (command.Read label offset len))

-- `truncate LABEL SIZE`, `seek LABEL POS`, `tell LABEL`, `closefd LABEL`
unfoldable pub truncate_line : List (List ℕ) → Result Line Reason
truncate_line args = name_and_number args >>= λ w. Ok (line.Command (command.Truncate w.0 w.1))

unfoldable pub seek_line : List (List ℕ) → Result Line Reason
seek_line args = name_and_number args >>= λ w. Ok (line.Command (command.Seek w.0 w.1))

unfoldable pub tell_line : List (List ℕ) → Result Line Reason
tell_line args = one_name args >>= λ label. Ok (line.Command (command.Tell label))

unfoldable pub close_fd_line : List (List ℕ) → Result Line Reason
close_fd_line args = one_name args >>= λ label. Ok (line.Command (command.CloseFd label))

-- `create NAME`, `close NAME`, `open NAME`, `finish NAME`
unfoldable pub create_line : List (List ℕ) → Result Line Reason
create_line args = one_name args >>= λ name. Ok (line.Command (command.Create name))

unfoldable pub close_line : List (List ℕ) → Result Line Reason
close_line args = one_name args >>= λ name. Ok (line.Command (command.Close name))

unfoldable pub open_line : List (List ℕ) → Result Line Reason
open_line args = one_name args >>= λ name. Ok (line.Command (command.Open name))

unfoldable pub finish_line : List (List ℕ) → Result Line Reason
finish_line args = one_name args >>= λ name. Ok (line.Command (command.Finish name))

-- `preserve NAME TOKEN LABEL`, `retrieve NAME TOKEN LABEL`
unfoldable pub preserve_line : List (List ℕ) → Result Line Reason
preserve_line args = name_token_label args >>= λ w. Ok (line.Command (command.Preserve w.0 (record { 0 = w.1 }) w.2))

unfoldable pub retrieve_line : List (List ℕ) → Result Line Reason
retrieve_line args = name_token_label args >>= λ w. Ok (line.Command (command.Retrieve w.0 (record { 0 = w.1 }) w.2))

-- what the words after the first say
unfoldable pub line_with : Verb → List (List ℕ) → Result Line Reason
line_with verb.Machine args = machine_line args
line_with verb.Scratch args = scratch_line args
line_with verb.Fail args = fail_line args
line_with verb.Round args = round_line args
line_with verb.Agent args = agent_line args
line_with verb.Kexec args = kexec_line args
line_with verb.Memfd args = memfd_line args
line_with verb.Device args = device_line args
line_with verb.Write args = write_line args
line_with verb.Fill args = fill_line args
line_with verb.Read args = read_line args
line_with verb.Truncate args = truncate_line args
line_with verb.Seek args = seek_line args
line_with verb.Tell args = tell_line args
line_with verb.CloseFd args = close_fd_line args
line_with verb.Create args = create_line args
line_with verb.Preserve args = preserve_line args
line_with verb.Close args = close_line args
line_with verb.Open args = open_line args
line_with verb.Retrieve args = retrieve_line args
line_with verb.Finish args = finish_line args

-- the line that some words spell, or why they spell none: `word`, `later`, `count`, and the leftmost misfit's form
abbrev pub line_of_words : List (List ℕ) → Result Line Reason
line_of_words [] = Err reason.Word
line_of_words (first ∷ args) = verb_of first >>= λ v. or_refused (not (is_unbuilt_verb v)) v reason.Later >>= λ v. line_with v args
