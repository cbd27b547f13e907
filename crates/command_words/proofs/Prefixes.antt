-- What a word has after some bytes.
use Rattle.std.proofs.Common.{◌≡◌, ◌≢◌, ℕ, ◌==◌, Bool, true, false, List, [], ◌∷◌, ◌++◌, Option, Some, None, option_map, refl, sym, ap, ◌∙◌, arith}
use Rattle.std.specs.Prelude.{MatchOption}
use Rattle.std.specs.Borrow.{Bor}
use Rattle.std.specs.Str.Pattern.{FindsTextPrefix, StripsPrefix}
use Rattle.std.proofs.lemmas.Bool.Decides.{nat_tests}
use Rattle.command_words.specs.Reading.{rest_after}

-- one byte that is the same, and one that isn't
same_first : (b c : ℕ) (bytes word : List ℕ) → (c == b) ≡ true → rest_after (b ∷ bytes) (c ∷ word) ≡ rest_after bytes word
unfolding rest_after
same_first b c bytes word same = rw same refl

other_first : (b c : ℕ) (bytes word : List ℕ) → (c == b) ≡ false → rest_after (b ∷ bytes) (c ∷ word) ≡ None
unfolding rest_after
other_first b c bytes word other = rw other refl

same_number : (b : ℕ) → (b == b) ≡ true
same_number b = grind (arith, nat_tests)

are_equal : (b c : ℕ) → (c == b) ≡ true → c ≡ b
are_equal b c same = grind (arith, nat_tests)

-- a word that is these bytes and a rest
rest_there : (bytes rest : List ℕ) → rest_after bytes (bytes ++ rest) ≡ Some rest
unfolding rest_after
rest_there [] rest = refl
rest_there (b ∷ bytes) rest = same_first b b bytes (bytes ++ rest) (same_number b) ∙ rest_there bytes rest

-- a word that isn't these bytes and any rest
no_rest_by : (b c : ℕ) (bytes word : List ℕ) (same : Bool) → (c == b) ≡ same
    → ((c == b) ≡ true → rest_after bytes word ≡ None) → rest_after (b ∷ bytes) (c ∷ word) ≡ None
no_rest_by b c bytes word true same further = same_first b c bytes word same ∙ further same
no_rest_by b c bytes word false other further = other_first b c bytes word other

no_rest : (bytes word : List ℕ) → ((rest : List ℕ) → word ≢ bytes ++ rest) → rest_after bytes word ≡ None
unfolding rest_after
no_rest [] word h = absurd (h word refl)
no_rest (b ∷ bytes) [] h = refl
no_rest (b ∷ bytes) (c ∷ word) h =
    no_rest_by b c bytes word (c == b) refl
    (λ same. no_rest bytes word (λ rest is. h rest (ap (λ n. n ∷ word) (are_equal b c same) ∙ ap (λ w. b ∷ w) is)))

-- what `strip_prefix` gives
pub stripped : (bytes word : List ℕ) (r : Option (Bor (List ℕ)))
    → MatchOption r (FindsTextPrefix bytes word None) (λ x. StripsPrefix (FindsTextPrefix bytes) word x.now)
    → option_map (λ t. t.now) r ≡ rest_after bytes word
stripped bytes word None h = sym (no_rest bytes word h)
stripped bytes word (Some x) h =
    let is : word ≡ bytes ++ x.now = rw h.2 h.1.1 in
    sym (ap (rest_after bytes) is ∙ rest_there bytes x.now)
