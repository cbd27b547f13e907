-- The words after a command, read one after another: names and options.
use Rattle.std.specs.Prelude.{ℕ, Bool, false, not, ◌&&◌, ◌==◌, nat_lt, if◌then◌else◌, List, [], ◌∷◌, ◌++◌, length, codes, Option, Some, None, is_none}
use Rattle.ho_events.specs.Lists.{only, same_bytes}
use Rattle.command_words.specs.declared.given.Next.{Next}
use Rattle.command_words.specs.declared.given.Next.TheVariants.{Any, ImagesValue, SummaryValue, OnlyNames}

-- What was read so far: the names in their order, the values of the options that stood, and what the next word may be.
pub record Given : Type 0 where
  pub names : List (List ℕ)
  pub images : Option (List ℕ)
  pub summary : Option (List ℕ)
  pub next : Next

-- before the first word
abbrev pub nothing : Given
nothing = record { names = []; images = None; summary = None; next = Any }

-- a word can be a name or an option's value: it isn't empty and doesn't begin with `-`
abbrev pub is_plain : List ℕ → Bool
is_plain [] = false
is_plain (b ∷ bytes) = not (b == 45)

-- one more name;  no command takes more than two
unfoldable pub with_name : Given → List ℕ → Option Given
with_name g word = only (is_plain word && nat_lt (length g.names) 2) (record g { names = g.names ++ word ∷ [] })

-- the value of an option, which stands once at most;  after it any word may come
unfoldable pub with_images : Given → List ℕ → Option Given
with_images g value = only (is_plain value && is_none g.images) (record g { images = Some value; next = Any })

unfoldable pub with_summary : Given → List ℕ → Option Given
with_summary g value = only (is_plain value && is_none g.summary) (record g { summary = Some value; next = Any })

-- what a word has after these bytes, where it begins with them
unfoldable pub rest_after : List ℕ → List ℕ → Option (List ℕ)
rest_after [] word = Some word
rest_after (b ∷ bytes) [] = None
rest_after (b ∷ bytes) (c ∷ word) = if c == b then rest_after bytes word else None

-- an option and its value in one word, or a name
abbrev pub with_joined : Given → List ℕ → Option (List ℕ) → Option (List ℕ) → Option Given
with_joined g word (Some value) summary = with_images g value
with_joined g word None (Some value) = with_summary g value
with_joined g word None None = with_name g word

-- a word where any may come: `--`, after which each word is a name, an option, whose value is the next word or stands in
-- the same one, or a name
unfoldable pub with_any : Given → List ℕ → Option Given
with_any g word =
    if same_bytes word (codes "--") then Some (record g { next = OnlyNames })
    else if same_bytes word (codes "--images") then Some (record g { next = ImagesValue })
    else if same_bytes word (codes "--summary") then Some (record g { next = SummaryValue })
    else with_joined g word (rest_after (codes "--images=") word) (rest_after (codes "--summary=") word)

-- one more word
abbrev pub with_word_at : Next → Given → List ℕ → Option Given
with_word_at Any g word = with_any g word
with_word_at ImagesValue g word = with_images g word
with_word_at SummaryValue g word = with_summary g word
with_word_at OnlyNames g word = with_name g word

abbrev pub then_word : Option Given → List ℕ → Option Given
then_word None word = None
then_word (Some g) word = with_word_at g.next g word

-- all of some words, in their order
unfoldable pub after : Option Given → List (List ℕ) → Option Given
after g [] = g
after g (word ∷ words) = after (then_word g word) words
