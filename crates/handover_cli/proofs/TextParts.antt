-- The text of entries: texts one after another, and a front part of a text, which ends in the middle of a line.
use Rattle.std.proofs.Common.{◌≡◌, ℕ, ◌+◌, ◌-◌, ◌<◌, ◌≤◌, Bool, nat_lt, true, false, List, [], ◌∷◌, ◌++◌, length, length-append, take, refl, sym, ap, ◌∙◌, arith, append_assoc}
use Rattle.std.specs.Prelude.{Option, None, Some, codes, decimal}
use Rattle.std.proofs.lemmas.Bool.Decides.{nat_tests}
use Rattle.std.proofs.lemmas.List.{append-nil, take-append-le}
use Rattle.std.proofs.Math.Seq.{take-append-add}
use Rattle.ho_events.specs.Text.{line_of, line_words, spaced, text_of}
use Rattle.ho_events.specs.declared.entry.Entry.{Entry}
use Rattle.ho_io.specs.Told.{behind}

-- texts behind each other
pub behind_twice : (out : Option (List ℕ)) (xs ys : List ℕ) → behind (behind out xs) ys ≡ behind out (xs ++ ys)
unfolding behind
behind_twice None xs ys = refl
behind_twice (Some told) xs ys = ap (λ zs. Some zs) (append_assoc told xs ys)

pub behind_nothing : (out : Option (List ℕ)) → out ≡ behind out []
unfolding behind
behind_nothing None = refl
behind_nothing (Some told) = ap (λ zs. Some zs) (sym (append-nil told))

pub text_parts : (xs ys : List Entry) → text_of (xs ++ ys) ≡ text_of xs ++ text_of ys
text_parts [] ys = refl
text_parts (x ∷ xs) ys = ap (λ zs. line_of x ++ zs) (text_parts xs ys) ∙ sym (append_assoc (line_of x) (text_of xs) (text_of ys))

-- a line has a line feed at least
pub line_is_long : (e : Entry) → 0 < length (line_of e)
unfolding line_of
line_is_long e = with_feed (decimal e.kernel) (spaced (line_words e))
  where
    with_feed : (xs ys : List ℕ) → 0 < length ((xs ++ ys) ++ codes "\n")
    with_feed xs ys =
        let more = length-append (xs ++ ys) (codes "\n") in
        let feed : length (codes "\n") ≡ 1 = refl in
        omega (arith, more, feed)

-- a front part of the text of entries ends in the middle of a line
pub record Cut (es : List Entry) (n : ℕ) : Type 0 where
  pub front : List Entry
  pub next : Entry
  pub rest : List Entry
  pub count : ℕ
  pub parts : es ≡ front ++ next ∷ rest
  pub less : count < length (line_of next)
  pub taken : take n (text_of es) ≡ text_of front ++ take count (line_of next)

take_past : (n : ℕ) (xs ys : List ℕ) → length xs ≤ n → take n (xs ++ ys) ≡ xs ++ take (n - length xs) ys
take_past n xs ys h =
    let whole : n ≡ length xs + (n - length xs) = omega (arith, h) in
    ap (λ m. take m (xs ++ ys)) whole ∙ take-append-add xs ys (n - length xs)

pub cut : (es : List Entry) (n : ℕ) → n < length (text_of es) → Cut es n
cut [] n h = absurd omega (arith, h)
cut (e ∷ es) n h = at (nat_lt n (length (line_of e))) refl (cut es (n - length (line_of e)))
  where
    is_less : (x y : ℕ) → nat_lt x y ≡ true → x < y
    is_less x y h = grind (arith, nat_tests)

    not_less : (x y : ℕ) → nat_lt x y ≡ false → y ≤ x
    not_less x y h = grind (arith, nat_tests)

    at : (c : Bool) → nat_lt n (length (line_of e)) ≡ c → (n - length (line_of e) < length (text_of es) → Cut es (n - length (line_of e))) → Cut (e ∷ es) n
    at true is next =
        let low : n < length (line_of e) = is_less n (length (line_of e)) is in
        record {
          front = [];
          next = e;
          rest = es;
          count = n;
          parts = refl;
          less = low;
          taken = take-append-le n (line_of e) (text_of es) (omega (arith, low));
        }
    at false is next =
        let past : length (line_of e) ≤ n = not_less n (length (line_of e)) is in
        let c : Cut es (n - length (line_of e)) = next (omega (arith, past, h, length-append (line_of e) (text_of es))) in
        record {
          front = e ∷ c.front;
          next = c.next;
          rest = c.rest;
          count = c.count;
          parts = ap (λ xs. e ∷ xs) c.parts;
          less = c.less;
          taken = take_past n (line_of e) (text_of es) past ∙ ap (λ xs. line_of e ++ xs) c.taken ∙ sym (append_assoc (line_of e) (text_of c.front) (take c.count (line_of c.next)));
        }
