-- What is read at the front of some bytes stands there, and what stands there is read.
use Rattle.std.proofs.Common.{◌≡◌, ℕ, zero, suc, ◌+◌, ◌-◌, ◌^◌, ◌<◌, ◌≤◌, Bool, true, false, cond, ltb, eqb, List, [], ◌∷◌, ◌++◌, length, get_or, take, drop, replicate, Option, Some, None, refl, sym, ap, subst, ◌∙◌, append_assoc, arith, inl, inr}
use Rattle.std.specs.Prelude.{nat_eq, nat_lt, nat_le}
use Rattle.std.specs.Int.{w32, from_be_bytes}
use Rattle.std.specs.List.{list_all}
use Rattle.std.proofs.lemmas.Bool.{cases_lt, ltb-false, le-ltb, lt-ltb, ltb-true, eqb-true, ne_eqb, leb-true, le-leb, cond-false, and_parts, and_from}
use Rattle.std.proofs.lemmas.List.{take_at, drop_at, take-append-drop, length-append, length-take, get_or-take, get_or_past, length-replicate}
use Rattle.std.proofs.lemmas.Nat.{be_bytes_4, from_be_bytes-to_be_bytes_4}
use Rattle.std.proofs.Math.Seq.{take-append-add}
use Rattle.fdt_blob.specs.Tokens.{word, is_text}
use Rattle.fdt_blob.specs.Reading.{◌>>=◌, number_at, part_at, behind_zeros, before_zero, text_at}

abbrev pub IsBytes : List ℕ → Type 0
IsBytes bytes = (i : ℕ) → get_or bytes i 0 < 256

pub IsBytes-behind : (front rest : List ℕ) → IsBytes (front ++ rest) → IsBytes rest
IsBytes-behind [] rest h = h
IsBytes-behind (x ∷ front) rest h = IsBytes-behind front rest (λ i. h (suc i))

IsBytes-take : (n : ℕ) (bytes : List ℕ) → IsBytes bytes → IsBytes (take n bytes)
IsBytes-take n bytes h i =
    elim (cases_lt i n) [
      | inl lt ↦ rw (get_or-take n bytes i 0 lt) (h i)
      | inr le ↦ rw (get_or_past (take n bytes) i 0 (omega (arith, length-take n bytes))) (omega arith)
    ]

-- the value of a step that did not fail
pub bind_some : {A B : Type 0} (o : Option A) (f : A → Option B) (y : B) → (o >>= f) ≡ Some y → (x : A) × (o ≡ Some x) × (f x ≡ Some y)
bind_some None f y e = absurd cc
bind_some (Some x) f y e = (x, refl, e)

-- a test that did not fail, and one that did not hold
pub guard_some : {A : Type 0} (b : Bool) (x y : A) → cond b None (Some x) ≡ Some y → (b ≡ false) × (x ≡ y)
guard_some true x y e = absurd cc
guard_some false x y e = (refl, cc)

pub then_some : {A : Type 0} (b : Bool) (x y : A) → cond b (Some x) None ≡ Some y → (b ≡ true) × (x ≡ y)
then_some true x y e = (refl, cc)
then_some false x y e = absurd cc

-- ---- numbers

pub number_takes : (bytes : List ℕ) (n : ℕ) (rest : List ℕ) → IsBytes bytes → number_at bytes ≡ Some (n, rest) → (bytes ≡ word n ++ rest) × (n < 2 ^ 32)
number_takes bytes n rest fits e =
    let g = guard_some (ltb (length bytes) 4) (from_be_bytes w32 (take 4 bytes), drop 4 bytes) (n, rest) e in
    let long : 4 ≤ length bytes = ltb-false _ _ g.0 in
    let n-is : from_be_bytes w32 (take 4 bytes) ≡ n = ap (λ (p : ℕ × List ℕ). p.0) g.1 in
    let rest-is : drop 4 bytes ≡ rest = ap (λ (p : ℕ × List ℕ). p.1) g.1 in
    let four = IsBytes-take 4 bytes fits in
    let front : word n ≡ take 4 bytes = be_bytes_4 (take 4 bytes) n (omega (arith, length-take 4 bytes)) four (sym n-is) in
    let below : from_be_bytes w32 (take 4 bytes) < 2 ^ 32 = omega (arith, four 0, four 1, four 2, four 3) in
    (sym (take-append-drop 4 bytes) ∙ ap (λ (x : List ℕ). x ++ drop 4 bytes) (sym front) ∙ ap (λ (x : List ℕ). word n ++ x) rest-is, omega arith)

number_front : (front rest : List ℕ) → length front ≡ 4 → number_at (front ++ rest) ≡ Some (from_be_bytes w32 front, rest)
number_front front rest len =
    let long : ltb (length (front ++ rest)) 4 ≡ false = le-ltb _ _ (omega (arith, length-append front rest)) in
    cond-false (ltb (length (front ++ rest)) 4) None (Some (from_be_bytes w32 (take 4 (front ++ rest)), drop 4 (front ++ rest))) long
    ∙ ap (λ (x : List ℕ). Some (from_be_bytes w32 x, drop 4 (front ++ rest))) (take_at front rest 4 len)
    ∙ ap (λ (x : List ℕ). Some (from_be_bytes w32 front, x)) (drop_at front rest 4 len)

pub number_again : (n : ℕ) (rest : List ℕ) → n < 2 ^ 32 → number_at (word n ++ rest) ≡ Some (n, rest)
number_again n rest lt = number_front (word n) rest refl ∙ ap (λ (k : ℕ). Some (k, rest)) (from_be_bytes-to_be_bytes_4 n lt)

-- ---- parts

pub part_takes : (n : ℕ) (bytes part rest : List ℕ) → part_at n bytes ≡ Some (part, rest) → (bytes ≡ part ++ rest) × (length part ≡ n)
part_takes n bytes part rest e =
    let g = guard_some (ltb (length bytes) n) (take n bytes, drop n bytes) (part, rest) e in
    let long : n ≤ length bytes = ltb-false _ _ g.0 in
    let part-is : take n bytes ≡ part = ap (λ (p : List ℕ × List ℕ). p.0) g.1 in
    let rest-is : drop n bytes ≡ rest = ap (λ (p : List ℕ × List ℕ). p.1) g.1 in
    (sym (take-append-drop n bytes) ∙ ap (λ (x : List ℕ). x ++ drop n bytes) part-is ∙ ap (λ (x : List ℕ). part ++ x) rest-is, ap length (sym part-is) ∙ (omega (arith, length-take n bytes)))

pub part_again : (part rest : List ℕ) (n : ℕ) → length part ≡ n → part_at n (part ++ rest) ≡ Some (part, rest)
part_again part rest n len =
    let long : ltb (length (part ++ rest)) n ≡ false = le-ltb _ _ (omega (arith, length-append part rest)) in
    rw (long, take_at part rest n len, drop_at part rest n len) refl

-- ---- zeros

pub zeros_are : (zeros : List ℕ) → list_all (nat_eq 0) zeros ≡ true → zeros ≡ replicate (length zeros) 0
zeros_are [] h = refl
zeros_are (x ∷ zeros) h =
    let p = and_parts (nat_eq 0 x) (list_all (nat_eq 0) zeros) h in
    let zero-is : 0 ≡ x = eqb-true 0 x p.0 in
    ap (λ (y : ℕ). y ∷ zeros) (sym zero-is) ∙ ap (λ (ys : List ℕ). 0 ∷ ys) (zeros_are zeros p.1)

pub all_zeros : (n : ℕ) → list_all (nat_eq 0) (replicate n 0) ≡ true
all_zeros zero = refl
all_zeros (suc n) = all_zeros n

pub zeros_take : (n : ℕ) (bytes rest : List ℕ) → behind_zeros n bytes ≡ Some rest → bytes ≡ replicate n 0 ++ rest
unfolding behind_zeros
zeros_take n bytes rest e =
    let b = bind_some (part_at n bytes) (λ zeros. cond (list_all (nat_eq 0) zeros.0) (Some zeros.1) None) rest e in
    let t = part_takes n bytes b.0.0 b.0.1 b.1 in
    let g = then_some (list_all (nat_eq 0) b.0.0) b.0.1 rest b.2 in
    t.0 ∙ ap (λ (x : List ℕ). x ++ b.0.1) (zeros_are b.0.0 g.0 ∙ ap (λ (k : ℕ). replicate k 0) t.1) ∙ ap (λ (x : List ℕ). replicate n 0 ++ x) g.1

pub zeros_again : (n : ℕ) (rest : List ℕ) → behind_zeros n (replicate n 0 ++ rest) ≡ Some rest
unfolding behind_zeros
zeros_again n rest =
    rw (part_again (replicate n 0) rest n (length-replicate n 0), all_zeros n) refl

-- ---- names

some_is : {A : Type 0} (x y : A) → Some x ≡ Some y → x ≡ y
some_is x y e = cc

pub before_zero_takes : (bytes text : List ℕ) → before_zero bytes ≡ Some text → (more : List ℕ) × (bytes ≡ text ++ 0 ∷ more) × (list_all (nat_lt 0) text ≡ true)
before_zero_takes [] text e = absurd cc
before_zero_takes (zero ∷ bytes) text e =
    subst (λ (t : List ℕ). (more : List ℕ) × (0 ∷ bytes ≡ t ++ 0 ∷ more) × (list_all (nat_lt 0) t ≡ true)) (some_is [] text e) (bytes, refl, refl)
before_zero_takes (suc b ∷ bytes) text e =
    let other : eqb (suc b) 0 ≡ false = ne_eqb (suc b) 0 (λ (h : suc b ≡ 0). omega arith) in
    let f = bind_some (before_zero bytes) (λ (t : List ℕ). Some (suc b ∷ t)) text (sym (cond-false (eqb (suc b) 0) (Some []) (before_zero bytes >>= λ (t : List ℕ). Some (suc b ∷ t)) other) ∙ e) in
    let r = before_zero_takes bytes f.0 f.1 in
    let positive : nat_lt 0 (suc b) ≡ true = lt-ltb 0 (suc b) (omega arith) in
    subst (λ (t : List ℕ). (more : List ℕ) × (suc b ∷ bytes ≡ t ++ 0 ∷ more) × (list_all (nat_lt 0) t ≡ true)) (some_is (suc b ∷ f.0) text f.2)
    (r.0, ap (λ (x : List ℕ). suc b ∷ x) r.1, and_from (nat_lt 0 (suc b)) (list_all (nat_lt 0) f.0) positive r.2)

pub before_zero_again : (text more : List ℕ) → list_all (nat_lt 0) text ≡ true → before_zero (text ++ 0 ∷ more) ≡ Some text
before_zero_again [] more h = refl
before_zero_again (x ∷ text) more h =
    let p = and_parts (nat_lt 0 x) (list_all (nat_lt 0) text) h in
    let positive : 0 < x = ltb-true 0 x p.0 in
    let other : eqb x 0 ≡ false = ne_eqb x 0 (λ (e : x ≡ 0). omega arith) in
    cond-false (eqb x 0) (Some []) (before_zero (text ++ 0 ∷ more) >>= λ (t : List ℕ). Some (x ∷ t)) other
    ∙ ap (λ (o : Option (List ℕ)). o >>= λ (t : List ℕ). Some (x ∷ t)) (before_zero_again text more p.1)

-- ---- a name with a zero behind it, near the front

take_near : (m n : ℕ) (bytes : List ℕ) → m ≤ n → take m (take n bytes) ≡ take m bytes
take_near zero n bytes le = refl
take_near (suc m) zero bytes le = absurd (omega arith)
take_near (suc m) (suc n) [] le = refl
take_near (suc m) (suc n) (x ∷ bytes) le = ap (λ (xs : List ℕ). x ∷ xs) (take_near m n bytes (omega arith))

pub text_takes : (bytes text : List ℕ) → text_at bytes ≡ Some text → (is_text text ≡ true) × (take (length text + 1) bytes ≡ text ++ 0 ∷ [])
unfolding text_at
text_takes bytes text e =
    let t = before_zero_takes (take 32 bytes) text e in
    let len : length (take 32 bytes) ≡ length (text ++ 0 ∷ t.0) = ap length t.1 in
    let near : length text + 1 ≤ 32 = omega (arith, len, length-take 32 bytes, length-append text (0 ∷ t.0)) in
    let split : text ++ 0 ∷ t.0 ≡ (text ++ 0 ∷ []) ++ t.0 = sym (append_assoc text (0 ∷ []) t.0) in (
      and_from (nat_le (length text) 31) (list_all (nat_lt 0) text) (le-leb _ _ (omega arith)) t.2,
      sym (take_near (length text + 1) 32 bytes near) ∙ ap (take (length text + 1)) (t.1 ∙ split) ∙ take_at (text ++ 0 ∷ []) t.0 (length text + 1) (length-append text (0 ∷ [])),
    )

pub text_again : (bytes text : List ℕ) → is_text text ≡ true → take (length text + 1) bytes ≡ text ++ 0 ∷ [] → text_at bytes ≡ Some text
unfolding text_at
text_again bytes text is e =
    let p = and_parts (nat_le (length text) 31) (list_all (nat_lt 0) text) is in
    let short : length text ≤ 31 = leb-true _ _ p.0 in
    let rest = drop (length text + 1) bytes in
    let whole : bytes ≡ text ++ 0 ∷ rest = sym (take-append-drop (length text + 1) bytes) ∙ ap (λ (x : List ℕ). x ++ rest) e ∙ append_assoc text (0 ∷ []) rest in
    let one_more : (text ++ 0 ∷ []) ++ rest ≡ bytes = append_assoc text (0 ∷ []) rest ∙ sym whole in
    let len : length (text ++ 0 ∷ []) ≡ length text + 1 = length-append text (0 ∷ []) in
    let sum : 32 ≡ length (text ++ 0 ∷ []) + (31 - length text) = omega arith in
    let near : take 32 bytes ≡ text ++ 0 ∷ take (31 - length text) rest =
    ap (λ (x : List ℕ). take 32 x) (sym one_more) ∙ ap (λ (k : ℕ). take k ((text ++ 0 ∷ []) ++ rest)) sum ∙ take-append-add (text ++ 0 ∷ []) rest (31 - length text)
    ∙ append_assoc text (0 ∷ []) (take (31 - length text) rest) in
    ap before_zero near ∙ before_zero_again text (take (31 - length text) rest) p.1
