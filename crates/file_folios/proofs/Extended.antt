-- Bytes with zeros past them.
use Rattle.std.proofs.Common.{◌≡◌, ℕ, zero, suc, ◌+◌, ◌-◌, ◌*◌, ◌<◌, ◌≤◌, max, List, [], ◌∷◌, ◌++◌, length, take, drop, replicate, refl, ap, sym, ◌∙◌, arith, append_assoc, length-append}
use Rattle.std.proofs.lemmas.List.{length-take, length-drop, length-replicate, take-replicate, drop-replicate, take_at, replicate-append-replicate}
use Rattle.std.proofs.Math.Nat.{div-lt_iff_lt-mul, le-div_iff_mul-le, div-mul-le_self, lt-div-mul-add}
use Rattle.phys_frames.specs.Memory.{written}
use Rattle.ho_events.specs.Lists.{pieces}
use Rattle.ho_events.specs.File.{extended, overwritten}

-- how many pieces
pub pieces_enough : (n p : ℕ) → 0 < p → n ≤ pieces n p * p
pieces_enough n p h = omega (arith, lt-div-mul-add {a = n + (p - 1)} {b = p} h)

pub pieces_tight : (n p : ℕ) → 0 < p → pieces n p * p < n + p
pieces_tight n p h = omega (arith, div-mul-le_self (n + (p - 1)) p)

pub pieces_rise : (m n p : ℕ) → 0 < p → m ≤ n → pieces m p ≤ pieces n p
pieces_rise m n p h le = (le-div_iff_mul-le h).1 (omega (arith, div-mul-le_self (m + (p - 1)) p))

pub pieces_least : (n c p : ℕ) → 0 < p → n ≤ c * p → pieces n p ≤ c
pieces_least n c p h le =
    let lt : n + (p - 1) < (c + 1) * p = omega arith in
    omega (arith, (div-lt_iff_lt-mul {k = p} {x = n + (p - 1)} {y = c + 1} h).1 lt)

-- the front and the rest of two lists in a row
pub take_append : {A : Type 0} → (n : ℕ) → (xs ys : List A) → take n (xs ++ ys) ≡ take n xs ++ take (n - length xs) ys
take_append zero xs ys = let e : 0 - length xs ≡ 0 = omega arith in rw e refl
take_append (suc n) [] ys = let e : suc n - 0 ≡ suc n = omega arith in rw e refl
take_append (suc n) (x ∷ xs) ys =
    let e : suc n - suc (length xs) ≡ n - length xs = omega arith in
    rw e (ap (λ rest. x ∷ rest) (take_append n xs ys))

pub drop_append : {A : Type 0} → (n : ℕ) → (xs ys : List A) → drop n (xs ++ ys) ≡ drop n xs ++ drop (n - length xs) ys
drop_append zero xs ys = let e : 0 - length xs ≡ 0 = omega arith in rw e refl
drop_append (suc n) [] ys = let e : suc n - 0 ≡ suc n = omega arith in rw e refl
drop_append (suc n) (x ∷ xs) ys =
    let e : suc n - suc (length xs) ≡ n - length xs = omega arith in
    rw e (drop_append n xs ys)

padded_front : (off k : ℕ) → (b : List ℕ) → off - length b ≤ k → take off (b ++ replicate k 0) ≡ take off b ++ replicate (off - length b) 0
padded_front off k b h = take_append off b (replicate k 0) ∙ ap (λ r. take off b ++ r) (take-replicate (off - length b) k 0 h)

padded_rest : (end k : ℕ) → (b : List ℕ) → drop end (b ++ replicate k 0) ≡ drop end b ++ replicate (k - (end - length b)) 0
padded_rest end k b = drop_append end b (replicate k 0) ∙ ap (λ r. drop end b ++ r) (drop-replicate (end - length b) k 0)

parts : (off : ℕ) → (new b : List ℕ) → overwritten off new b ≡ (take off b ++ replicate (off - length b) 0) ++ new ++ drop (off + length new) b
parts off new b = let h : off - length b ≤ off - length b = omega arith in
    ap (λ front. front ++ new ++ drop (off + length new) b) (padded_front off (off - length b) b h)

parts_length : (off : ℕ) → (new b : List ℕ) → length ((take off b ++ replicate (off - length b) 0) ++ new ++ drop (off + length new) b) ≡ max (length b) (off + length new)
parts_length off new b = simp (length-append, length-take, length-replicate, length-drop) (omega arith)

pub overwritten_length : (off : ℕ) → (new b : List ℕ) → length (overwritten off new b) ≡ max (length b) (off + length new)
overwritten_length off new b = ap length (parts off new b) ∙ parts_length off new b

regroup : (a b c d : List ℕ) → a ++ (b ++ (c ++ d)) ≡ (a ++ b ++ c) ++ d
regroup a b c d = simp append_assoc

-- bytes written into bytes with zeros past them
pub extended_written : (n off : ℕ) → (new b : List ℕ) → length b ≤ n → off + length new ≤ n → written (extended n b) off new ≡ extended n (overwritten off new b)
extended_written n off new b hb hn =
    let front : off - length b ≤ n - length b = omega arith in
    let head : List ℕ = take off b ++ replicate (off - length b) 0 in
    let all : List ℕ = head ++ new ++ drop (off + length new) b in
    let long : length all ≡ max (length b) (off + length new) = parts_length off new b in
    let rest : (n - length b) - ((off + length new) - length b) ≡ n - length all = omega arith in
    ap (λ f. f ++ (new ++ drop (off + length new) (b ++ replicate (n - length b) 0))) (padded_front off (n - length b) b front)
    ∙ ap (λ d. head ++ (new ++ d)) (padded_rest (off + length new) (n - length b) b)
    ∙ ap (λ k. head ++ (new ++ (drop (off + length new) b ++ replicate k 0))) rest
    ∙ regroup head new (drop (off + length new) b) (replicate (n - length all) 0)
    ∙ ap (λ o. o ++ replicate (n - length o) 0) (sym (parts off new b))

pub extended_more : (n k : ℕ) → (b : List ℕ) → length b ≤ n → extended n b ++ replicate k 0 ≡ extended (n + k) b
extended_more n k b h =
    append_assoc b (replicate (n - length b) 0) (replicate k 0) ∙ ap (λ r. b ++ r) (replicate-append-replicate (n - length b) k 0)
    ∙ ap (λ m. b ++ replicate m 0) (omega arith)

pub extended_front : (m n : ℕ) → (b : List ℕ) → length b ≡ n → take n (extended m b) ≡ b
extended_front m n b h = take_at b (replicate (m - length b) 0) n h

-- the first bytes, which may reach past the end
pub extended_take : (k n : ℕ) → (b : List ℕ) → k ≤ n → take k (extended n b) ≡ take k (extended k b)
extended_take k n b h = padded_front k (n - length b) b (omega arith) ∙ sym (padded_front k (k - length b) b (omega arith))

pub extended_length : (n : ℕ) → (b : List ℕ) → length b ≤ n → length (extended n b) ≡ n
extended_length n b h = simp (length-append, length-replicate) (omega arith)
