-- The words of the command line.
use Rattle.std.specs.Prelude.{ℕ, List, Option, Some, None}
use Rattle.command_words.specs.Requests.{RequestValue, to_run, to_resume, request_of}

-- the script to run, the image that it goes on from where there is one, and the name of the images where they are asked for
pub record RunWords : Type 0 where
  pub script : List ℕ
  pub image : Option (List ℕ)
  pub images : Option (List ℕ)

abbrev pub run_asked : List ℕ → Option (List ℕ) → Option (List ℕ) → RunWords
run_asked script image images = record { script = script; image = image; images = images }

-- so far the program runs scripts, also from an image on, and writes the text of the history to its output
abbrev pub run_of : Option RequestValue → Option RunWords
run_of (Some (to_run script images None)) = Some (run_asked script None images)
run_of (Some (to_resume image script images None)) = Some (run_asked script (Some image) images)
run_of request = None

abbrev pub run_words : List (List ℕ) → Option RunWords
run_words words = run_of (request_of words)
