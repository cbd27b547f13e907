-- Overwritten bytes: the new ones in their range, and the old ones before and after it.
use Rattle.std.proofs.Common.{◌≡◌, ℕ, ◌+◌, ◌-◌, ◌<◌, ◌≤◌, List, [], ◌∷◌, ◌++◌, length, take, drop, replicate, refl, ap, sym, ◌∙◌, arith, zero, suc, length-append, get_or}
use Rattle.std.proofs.lemmas.List.{get_or_append_left, get_or-append-add, get_or-append_right, get_or-take, get_or-drop, length-take, length-replicate}
use Rattle.ho_events.specs.File.{extended, overwritten}

-- zeros past the end change no byte
zeros_at : (k i : ℕ) → ◌≡◌ {A = ℕ} (get_or (replicate k 0) i 0) 0
zeros_at zero i = refl
zeros_at (suc k) zero = refl
zeros_at (suc k) (suc i) = zeros_at k i

padded_at : (b : List ℕ) (k i : ℕ) → get_or (b ++ replicate k 0) i 0 ≡ get_or b i 0
padded_at [] k i = zeros_at k i
padded_at (x ∷ b) k zero = refl
padded_at (x ∷ b) k (suc i) = padded_at b k i

head_length : (off : ℕ) (b : List ℕ) → length (take off (extended off b)) ≡ off
head_length off b = simp (length-take, length-append, length-replicate) (omega arith)

front_length : (off : ℕ) (new b : List ℕ) → length (take off (extended off b) ++ new) ≡ off + length new
front_length off new b = length-append (take off (extended off b)) new ∙ ap (λ n. n + length new) (head_length off b)

pub overwritten_within : (off i : ℕ) (new b : List ℕ) → i < length new → get_or (overwritten off new b) (off + i) 0 ≡ get_or new i 0
overwritten_within off i new b h =
    let head : List ℕ = take off (extended off b) in
    let long : length (head ++ new) ≡ off + length new = front_length off new b in
    let within : off + i < length (head ++ new) = omega arith in
    get_or_append_left (head ++ new) (drop (off + length new) b) 0 (off + i) within
    ∙ ap (λ n. get_or (head ++ new) (n + i) 0) (sym (head_length off b))
    ∙ get_or-append-add head new i 0

pub overwritten_before : (off i : ℕ) (new b : List ℕ) → i < off → get_or (overwritten off new b) i 0 ≡ get_or b i 0
overwritten_before off i new b h =
    let head : List ℕ = take off (extended off b) in
    let long : length (head ++ new) ≡ off + length new = front_length off new b in
    let short : length head ≡ off = head_length off b in
    let within : i < length (head ++ new) = omega arith in
    let inside : i < length head = omega arith in
    get_or_append_left (head ++ new) (drop (off + length new) b) 0 i within
    ∙ get_or_append_left head new 0 i inside
    ∙ get_or-take off (extended off b) i 0 h
    ∙ padded_at b (off - length b) i

pub overwritten_after : (off i : ℕ) (new b : List ℕ) → off + length new ≤ i → get_or (overwritten off new b) i 0 ≡ get_or b i 0
overwritten_after off i new b h =
    let back : (off + length new) + (i - (off + length new)) ≡ i = omega arith in
    get_or-append_right (take off (extended off b) ++ new) (drop (off + length new) b) (off + length new) i 0 (front_length off new b) h
    ∙ get_or-drop (off + length new) b (i - (off + length new)) 0
    ∙ ap (λ n. get_or b n 0) back
