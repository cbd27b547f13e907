-- Words put one after the other are the line, and lines one after the other the text.
use Rattle.std.proofs.Common.{◌≡◌, ℕ, List, [], ◌∷◌, ◌++◌, codes, decimal, refl, sym, ◌∙◌, ap, append_assoc, arith}
use Rattle.std.proofs.lemmas.Grind.{flat_map-append, common_steps}
use Rattle.ho_events.specs.declared.entry.Entry.{Entry}
use Rattle.ho_events.specs.Appended.{put, puts}
use Rattle.ho_events.specs.Text.{spaced, line_of, line_words, turn_words, event_words, reply_words, text_of}

-- the text of entries and then of others is the one text and then the other
pub text_append : (xs ys : List Entry) → text_of (xs ++ ys) ≡ text_of xs ++ text_of ys
text_append xs ys = flat_map-append line_of xs ys

-- words put in two parts
pub puts_append : (out : List ℕ) (xs ys : List (List ℕ)) → puts out (xs ++ ys) ≡ puts (puts out xs) ys
puts_append out [] ys = refl
puts_append out (x ∷ xs) ys = puts_append (put out x) xs ys

-- a word put behind a text, and more behind it
put_is : (out word rest : List ℕ) → put out word ++ rest ≡ out ++ ((codes " " ++ word) ++ rest)
unfolding put
put_is out word rest = append_assoc out (codes " " ++ word) rest

-- words put behind a text are the text and then the words, a blank before each
pub puts_is : (out : List ℕ) (words : List (List ℕ)) → puts out words ≡ out ++ spaced words
puts_is out [] = grind (arith, common_steps)
puts_is out (word ∷ words) = puts_is (put out word) words ∙ put_is out word (spaced words)

-- the parts of a line put one after the other, and what closes it
joined : (out kernel : List ℕ) (turn event : List (List ℕ)) (word : List ℕ) (reply : List (List ℕ)) (close : List ℕ)
    → puts (put (puts (puts (out ++ kernel) turn) event) word) reply ++ close
    ≡ out ++ (kernel ++ spaced (turn ++ event ++ word ∷ reply) ++ close)
joined out kernel turn event word reply close =
    let first : List ℕ = out ++ kernel in
    let words : List (List ℕ) = turn ++ event ++ word ∷ reply in
    let one : puts first words ≡ puts (put (puts (puts first turn) event) word) reply =
    puts_append first (turn ++ event) (word ∷ reply) ∙ ap (λ o. puts (put o word) reply) (puts_append first turn event) in
    let all : puts (put (puts (puts first turn) event) word) reply ≡ out ++ (kernel ++ spaced words) =
    sym one ∙ puts_is first words ∙ append_assoc out kernel (spaced words) in
    ap (λ o. o ++ close) all ∙ append_assoc out (kernel ++ spaced words) close

-- a line's parts put behind a text are the text and then the line
pub line_is : (out : List ℕ) (e : Entry)
    → puts (put (puts (puts (out ++ decimal e.kernel) (turn_words e)) (event_words e.event)) (codes "=")) (reply_words e.reply)
    ++ codes "\n" ≡ out ++ line_of e
unfolding line_of line_words
line_is out e = joined out (decimal e.kernel) (turn_words e) (event_words e.event) (codes "=") (reply_words e.reply) (codes "\n")
