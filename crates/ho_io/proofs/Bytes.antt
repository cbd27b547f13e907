-- What writing and reading in pieces comes to.
use Rattle.std.proofs.Common.{◌≡◌, ℕ, ◌+◌, ◌≤◌, List, [], ◌++◌, length, take, drop, refl, sym, ap, ◌∙◌, append_assoc, append-nil, ◌-◌, subst, length-drop, Option, Some, None, is_some, arith}
use Rattle.std.proofs.Math.Seq.{take-add, take-length}
use Rattle.std.proofs.lemmas.List.{take_rest, take-append-drop, drop-drop}
use Rattle.ho_io.specs.Told.{behind, in_front, Tells}

-- nothing behind it changes nothing
pub behind_none : (told : Option (List ℕ)) → told ≡ behind told []
unfolding behind
behind_none None = refl
behind_none (Some told) = ap Some (sym (append-nil told))

-- two pieces in turn are one piece
pub behind_twice : (told : Option (List ℕ)) (a b : List ℕ) → behind (behind told a) b ≡ behind told (a ++ b)
unfolding behind
behind_twice None a b = refl
behind_twice (Some told) a b = ap Some (append_assoc told a b)

-- before the first piece
pub behind_start : (told : Option (List ℕ)) (bytes : List ℕ) → told ≡ behind told (take 0 bytes)
behind_start told bytes = behind_none told

-- one more piece of the bytes
pub behind_more : (first before now : Option (List ℕ)) (bytes : List ℕ) (at n : ℕ)
    → before ≡ behind first (take at bytes) → now ≡ behind before (take n (take (length bytes - at) (drop at bytes))) → now ≡ behind first (take (at + n) bytes)
behind_more first before now bytes at n e h =
    h ∙ ap (λ xs. behind before (take n xs)) (take_rest bytes at) ∙ ap (λ o. behind o (take n (drop at bytes))) e
    ∙ behind_twice first (take at bytes) (take n (drop at bytes)) ∙ ap (behind first) (sym (take-add at n bytes))

-- a piece of the rest ends within the bytes
pub piece_within : (bytes : List ℕ) (at n : ℕ) → n ≤ length (take (length bytes - at) (drop at bytes)) → at ≤ length bytes → at + n ≤ length bytes
piece_within bytes at n h k =
    let inside : n ≤ length (drop at bytes) = subst (λ xs. n ≤ length xs) (take_rest bytes at) h in
    omega (arith, length-drop at bytes)

-- all pieces
pub behind_whole : (first now : Option (List ℕ)) (bytes : List ℕ) (at : ℕ)
    → now ≡ behind first (take at bytes) → at ≤ length bytes → length bytes ≤ at → now ≡ behind first bytes
behind_whole first now bytes at e h k =
    let same : at ≡ length bytes = omega arith in
    e ∙ ap (λ i. behind first (take i bytes)) same ∙ ap (behind first) (take-length bytes)

-- nothing in front of it changes nothing
pub in_front_none : (told : Option (List ℕ)) → told ≡ in_front [] told
unfolding in_front
in_front_none None = refl
in_front_none (Some told) = refl

-- one more piece was taken off the front
pub in_front_more : (first before now : Option (List ℕ)) (bytes piece : List ℕ)
    → first ≡ in_front bytes before → before ≡ in_front piece now → first ≡ in_front (bytes ++ piece) now
unfolding in_front
in_front_more first before None bytes piece e h = e ∙ ap (in_front bytes) h
in_front_more first before (Some now) bytes piece e h = e ∙ ap (in_front bytes) h ∙ ap Some (sym (append_assoc bytes piece now))

-- what was taken off the front is all, where nothing is left
pub in_front_all : (first now : Option (List ℕ)) (bytes : List ℕ) → first ≡ in_front bytes now → Tells now [] → Tells first bytes
unfolding in_front
in_front_all None now bytes e h = tt
in_front_all (Some first) None bytes e h = absurd cc
in_front_all (Some first) (Some now) bytes e h = let f : Some first ≡ Some (bytes ++ now) = e in let g : first ≡ bytes ++ now = cc in g ∙ ap (λ xs. bytes ++ xs) h ∙ append-nil bytes

-- taking bytes off the front doesn't change whether it tells
pub in_front_told : (first now : Option (List ℕ)) (bytes : List ℕ) → first ≡ in_front bytes now → is_some now ≡ is_some first
unfolding in_front
in_front_told first None bytes e = sym (ap is_some e)
in_front_told first (Some now) bytes e = sym (ap is_some e)

-- a piece of no byte was written
pub nothing_written : (before now : Option (List ℕ)) (bytes : List ℕ) (n : ℕ) → n ≡ 0 → now ≡ behind before (take n bytes) → now ≡ before
nothing_written before now bytes n z e = e ∙ ap (λ i. behind before (take i bytes)) z ∙ sym (behind_none before)

-- a piece of no byte was taken
pub nothing_taken : (before now : Option (List ℕ)) (bytes : List ℕ) (n : ℕ) → n ≡ 0 → before ≡ in_front (take n bytes) now → now ≡ before
nothing_taken before now bytes n z e = sym (e ∙ ap (λ i. in_front (take i bytes) now) z ∙ sym (in_front_none now))

-- nothing is left after a read of no byte
pub ended : (before now : Option (List ℕ)) → now ≡ before → Tells before [] → Tells now []
ended before now e h = subst (λ o. Tells o []) (sym e) h

-- what is left in memory is the piece that was copied and what is left behind it
pub next_piece : (bytes buf : List ℕ) (at n : ℕ) → take n buf ≡ take n (drop at bytes) → drop at bytes ≡ take n buf ++ drop (at + n) bytes
next_piece bytes buf at n e =
    sym (take-append-drop n (drop at bytes)) ∙ ap (λ xs. xs ++ drop n (drop at bytes)) (sym e) ∙ ap (λ xs. take n buf ++ xs) (drop-drop n at bytes)

-- the same of what is told
pub next_told : (left now bytes buf : List ℕ) (at n : ℕ)
    → left ≡ drop at bytes → now ≡ drop (at + n) bytes → take n buf ≡ take n (drop at bytes) → Some left ≡ in_front (take n buf) (Some now)
unfolding in_front
next_told left now bytes buf at n e h c = ap Some (e ∙ next_piece bytes buf at n c ∙ ap (λ xs. take n buf ++ xs) (sym h))

-- as many bytes as there are
pub take_whole : (bytes : List ℕ) (n : ℕ) → n ≡ length bytes → take n bytes ≡ bytes
take_whole bytes n e = ap (λ i. take i bytes) e ∙ take-length bytes
