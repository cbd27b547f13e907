-- Words that are read one after another.
use Rattle.std.proofs.Common.{◌≡◌, ℕ, List, [], ◌∷◌, length, map, Option, Some, None, refl, sym, ◌∙◌, arith}
use Rattle.command_words.specs.Reading.{Given, after, then_word}

-- no word, and one word more
pub no_words : (g : Option Given) → after g [] ≡ g
unfolding after
no_words g = refl

pub one_word : (g : Option Given) (word : List ℕ) (words : List (List ℕ)) → after g (word ∷ words) ≡ after (then_word g word) words
unfolding after
one_word g word words = refl

-- what was refused stays refused
pub none_stays : (words : List (List ℕ)) → after None words ≡ None
none_stays [] = no_words None
none_stays (word ∷ words) = one_word None word words ∙ none_stays words

-- where no word is left, what was read is all
pub no_word_left : {A : Type 0} (g : Given) (bytes_of : A → List ℕ) (words : List A) → length words ≡ 0 → Some g ≡ after (Some g) (map bytes_of words)
no_word_left g bytes_of [] none = sym (no_words (Some g))
no_word_left g bytes_of (word ∷ words) none = absurd (omega arith)
