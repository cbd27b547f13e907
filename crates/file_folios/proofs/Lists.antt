-- Parts of lists, and bytes written into them.
use Rattle.std.proofs.Common.{◌≡◌, ℕ, zero, suc, ◌+◌, ◌≤◌, List, [], ◌∷◌, ◌++◌, length, take, drop, replicate, refl, ap, sym, ◌∙◌, arith, append_assoc, length-append}
use Rattle.std.proofs.lemmas.List.{take-append-le, drop-append-le, append-nil, drop-drop, take_at, length-take, length-drop, replicate-append-replicate}
use Rattle.phys_frames.specs.Memory.{written}

pub take_right : {A : Type 0} → (xs ys : List A) (n : ℕ) → take (length xs + n) (xs ++ ys) ≡ xs ++ take n ys
take_right [] ys n = let e : 0 + n ≡ n = omega arith in rw e refl
take_right (x ∷ xs) ys n = let e : suc (length xs) + n ≡ suc (length xs + n) = omega arith in rw e (ap (λ r. x ∷ r) (take_right xs ys n))

pub drop_right : {A : Type 0} → (xs ys : List A) (n : ℕ) → drop (length xs + n) (xs ++ ys) ≡ drop n ys
drop_right [] ys n = let e : 0 + n ≡ n = omega arith in rw e refl
drop_right (x ∷ xs) ys n = let e : suc (length xs) + n ≡ suc (length xs + n) = omega arith in rw e (drop_right xs ys n)

regroup : (a b c d : List ℕ) → a ++ (b ++ (c ++ d)) ≡ (a ++ (b ++ c)) ++ d
regroup a b c d = simp append_assoc

pub written_left : (xs ys : List ℕ) (at : ℕ) (a : List ℕ) → at + length a ≤ length xs → written (xs ++ ys) at a ≡ written xs at a ++ ys
written_left xs ys at a h =
    ap (λ t. t ++ (a ++ drop (at + length a) (xs ++ ys))) (take-append-le at xs ys (omega arith))
    ∙ ap (λ d. take at xs ++ (a ++ d)) (drop-append-le (at + length a) xs ys h)
    ∙ regroup (take at xs) a (drop (at + length a) xs) ys

pub written_right : (xs ys : List ℕ) (n at : ℕ) (a : List ℕ) → length xs ≡ n → written (xs ++ ys) (n + at) a ≡ xs ++ written ys at a
written_right xs ys n at a long =
    ap (λ m. written (xs ++ ys) (m + at) a) (sym long)
    ∙ ap (λ t. t ++ (a ++ drop (length xs + at + length a) (xs ++ ys))) (take_right xs ys at)
    ∙ ap (λ m. (xs ++ take at ys) ++ (a ++ drop m (xs ++ ys))) (omega arith)
    ∙ ap (λ d. (xs ++ take at ys) ++ (a ++ d)) (drop_right xs ys (at + length a))
    ∙ append_assoc xs (take at ys) (a ++ drop (at + length a) ys)

pub written_long : (xs : List ℕ) (at : ℕ) (a : List ℕ) → at + length a ≤ length xs → length (written xs at a) ≡ length xs
written_long xs at a h = simp (length-append, length-take, length-drop) (omega arith)

pub written_none : (xs : List ℕ) (at : ℕ) → xs ≡ written xs at []
written_none xs at = sym (ap (λ n. take at xs ++ drop n xs) (omega arith) ∙ take_drop at xs)
  where
    take_drop : (n : ℕ) (ys : List ℕ) → take n ys ++ drop n ys ≡ ys
    take_drop zero ys = refl
    take_drop (suc n) [] = refl
    take_drop (suc n) (y ∷ ys) = ap (λ r. y ∷ r) (take_drop n ys)

-- bytes written right after others
pub written_on : (xs : List ℕ) (at : ℕ) (a b : List ℕ) → at + length a ≤ length xs → written (written xs at a) (at + length a) b ≡ written xs at (a ++ b)
written_on xs at a b h =
    let front : List ℕ = take at xs ++ a in
    let back : List ℕ = drop (at + length a) xs in
    let short : length (take at xs) ≡ at = length-take at xs ∙ omega arith in
    let long : length front ≡ at + length a = length-append (take at xs) a ∙ ap (λ n. n + length a) short in
    ap (λ w. written w (at + length a) b) (sym (append_assoc (take at xs) a back))
    ∙ ap (λ t. t ++ (b ++ drop (at + length a + length b) (front ++ back))) (take_at front back (at + length a) long)
    ∙ ap (λ n. front ++ (b ++ drop (n + length b) (front ++ back))) (sym long)
    ∙ ap (λ d. front ++ (b ++ d)) (drop_right front back (length b))
    ∙ ap (λ d. front ++ (b ++ d)) (drop-drop (length b) (at + length a) xs)
    ∙ ap (λ n. front ++ (b ++ drop n xs)) (omega (arith, length-append a b))
    ∙ whole (take at xs) a b (drop (at + length (a ++ b)) xs)
  where
    whole : (p q r s : List ℕ) → (p ++ q) ++ (r ++ s) ≡ p ++ ((q ++ r) ++ s)
    whole p q r s = simp append_assoc

take_none : {A : Type 0} → (n : ℕ) → ◌≡◌ {A = List A} (take n []) []
take_none zero = refl
take_none (suc n) = refl

pub next_range : (xs : List ℕ) (n m : ℕ) → take n xs ++ take m (drop n xs) ≡ take (n + m) xs
next_range xs zero m = ap (λ k. take k xs) (omega arith)
next_range [] (suc n) m = take_none m ∙ sym (take_none (suc n + m))
next_range (x ∷ xs) (suc n) m = let e : suc n + m ≡ suc (n + m) = omega arith in rw e (ap (λ r. x ∷ r) (next_range xs n m))

-- one more of the same at the end
pub one_more : {A : Type 0} → (xs : List A) (x : A) (k : ℕ) → (xs ++ replicate k x) ++ x ∷ [] ≡ xs ++ replicate (k + 1) x
one_more xs x k = append_assoc xs (replicate k x) (x ∷ []) ∙ ap (λ r. xs ++ r) (replicate-append-replicate k 1 x)

pub as_many : {A : Type 0} → (xs : List A) (x : A) (k : ℕ) → k ≡ 0 → xs ++ replicate k x ≡ xs
as_many xs x k h = ap (λ n. xs ++ replicate n x) h ∙ append-nil xs
