-- Words that are put behind a text, one after the other.
use Rattle.std.specs.Prelude.{ℕ, List, [], ◌∷◌, ◌++◌, codes}

-- the text with a blank and one more word
unfoldable pub put : List ℕ → List ℕ → List ℕ
put out word = out ++ (codes " " ++ word)

-- the text with more words, a blank before each
abbrev pub puts : List ℕ → List (List ℕ) → List ℕ
puts out [] = out
puts out (word ∷ words) = puts (put out word) words
