-- What the words of the command line ask the program to do.
use Rattle.std.specs.Prelude.{ℕ, ◌^◌, Bool, true, false, ◌&&◌, nat_lt, if◌then◌else◌, List, [], ◌∷◌, codes, Option, Some, None}
use Rattle.ho_events.specs.Lists.{only, same_bytes}
use Rattle.ho_events.specs.Script.Forms.{is_number, with_digits}
use Rattle.command_words.specs.Reading.{Given, nothing, after}
use Rattle.command_words.specs.declared.given.Next.{Next}
use Rattle.command_words.specs.declared.given.Next.TheVariants.{ImagesValue, SummaryValue}

-- What is asked: to run a script, or to run one from an image on, each with a file for images and one for the text of the
-- history, where they are given; to check a history of a script; to report an image; or to write the script that the
-- generator makes of a number.
pub data RequestValue : Type 0 where
  to_run : (script : List ℕ) (images summary : Option (List ℕ)) → RequestValue
  to_resume : (image script : List ℕ) (images summary : Option (List ℕ)) → RequestValue
  to_audit : (script history : List ℕ) → RequestValue
  to_inspect : (image : List ℕ) → RequestValue
  to_gen : (number : ℕ) → RequestValue

-- each command takes so many names;  only `run` and `resume` take options
abbrev pub run_of : List (List ℕ) → Option (List ℕ) → Option (List ℕ) → Option RequestValue
run_of (script ∷ []) images summary = Some (to_run script images summary)
run_of names images summary = None

abbrev pub resume_of : List (List ℕ) → Option (List ℕ) → Option (List ℕ) → Option RequestValue
resume_of (image ∷ script ∷ []) images summary = Some (to_resume image script images summary)
resume_of names images summary = None

abbrev pub audit_of : List (List ℕ) → Option (List ℕ) → Option (List ℕ) → Option RequestValue
audit_of (script ∷ history ∷ []) None None = Some (to_audit script history)
audit_of names images summary = None

abbrev pub inspect_of : List (List ℕ) → Option (List ℕ) → Option (List ℕ) → Option RequestValue
inspect_of (image ∷ []) None None = Some (to_inspect image)
inspect_of names images summary = None

-- a number is 1 to 20 decimal digits, and its value is below 2^64
abbrev pub is_number_u64 : List ℕ → Bool
is_number_u64 word = is_number word && nat_lt (with_digits 0 word) (2 ^ 64)

unfoldable pub number_asked : List ℕ → Option RequestValue
number_asked word = only (is_number_u64 word) (to_gen (with_digits 0 word))

abbrev pub gen_of : List (List ℕ) → Option (List ℕ) → Option (List ℕ) → Option RequestValue
gen_of (number ∷ []) None None = number_asked number
gen_of names images summary = None

-- what a command asks for with these names and options
unfoldable pub asked_by : List ℕ → List (List ℕ) → Option (List ℕ) → Option (List ℕ) → Option RequestValue
asked_by command names images summary =
    if same_bytes command (codes "run") then run_of names images summary
    else if same_bytes command (codes "resume") then resume_of names images summary
    else if same_bytes command (codes "audit") then audit_of names images summary
    else if same_bytes command (codes "inspect") then inspect_of names images summary
    else if same_bytes command (codes "gen") then gen_of names images summary
    else None

-- an option's value is still to come
abbrev pub awaits_value : Next → Bool
awaits_value ImagesValue = true
awaits_value SummaryValue = true
awaits_value next = false

-- after all words, none may be missing
abbrev pub asked_after : List ℕ → Option Given → Option RequestValue
asked_after command None = None
asked_after command (Some g) = if awaits_value g.next then None else asked_by command g.names g.images g.summary

-- What the words ask for; none where they fit no command. The first word is the command. After it come names and, in any
-- order, the options `--images FILE` or `--images=FILE` and `--summary TEXT` or `--summary=TEXT`, each once at most. After
-- a word `--` each word is a name. No name and no option's value is empty or begins with `-`.
abbrev pub request_of : List (List ℕ) → Option RequestValue
request_of [] = None
request_of (command ∷ words) = asked_after command (after (Some nothing) words)
