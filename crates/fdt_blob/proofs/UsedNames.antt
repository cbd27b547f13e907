-- The names of the one spelling: each that is used stands in the strings block at its place.
use Rattle.std.proofs.Common.{◌≡◌, ℕ, ◌+◌, ◌≤◌, Bool, true, false, cond, List, [], ◌∷◌, ◌++◌, length, take, drop, refl, sym, ap, subst, ◌∙◌, ⊎_elim, arith, length-append}
use Rattle.std.specs.Prelude.{◌||◌, nat_eq}
use Rattle.std.specs.List.{list_any, AllByRecursion}
use Rattle.std.proofs.lemmas.Bool.{and_parts, and_from, or_cases, eqb-true, eq-eqb, true≢false}
use Rattle.std.proofs.lemmas.List.{take_at, drop_at, drop-drop, length_push}
use Rattle.std.proofs.lemmas.List.Folds.{list_any-append}
use Rattle.std.proofs.Math.Bool.{or-true}
use Rattle.fdt_blob.specs.Trees.{same_name}
use Rattle.fdt_blob.specs.Tokens.{Item, begins, holds, ends, HasNameAt}
use Rattle.fdt_blob.specs.Spelling.{with_name, names_from, strings_of, place_in}

cons_is : (x y : ℕ) (xs ys : List ℕ) → x ≡ y → xs ≡ ys → x ∷ xs ≡ y ∷ ys
cons_is x y xs ys p q = cc

same_is : (a b : List ℕ) → same_name a b ≡ true → a ≡ b
same_is [] [] h = refl
same_is [] (y ∷ ys) h = absurd (true≢false (sym h))
same_is (x ∷ xs) [] h = absurd (true≢false (sym h))
same_is (x ∷ xs) (y ∷ ys) h =
    let p = and_parts (nat_eq x y) (same_name xs ys) h in
    cons_is x y xs ys (eqb-true x y p.0) (same_is xs ys p.1)

pub same_itself : (a : List ℕ) → same_name a a ≡ true
same_itself [] = refl
same_itself (x ∷ xs) = and_from (nat_eq x x) (same_name xs xs) (eq-eqb x x refl) (same_itself xs)

-- a name is among others
abbrev pub Has : List (List ℕ) → List ℕ → Type 0
Has names name = list_any (same_name name) names ≡ true

or_first : (x y : Bool) → x ≡ true → (x || y) ≡ true
or_first x y h = ap (λ b. b || y) h

or_second : (x y : Bool) → y ≡ true → (x || y) ≡ true
or_second x y h = ap (λ b. x || b) h ∙ or-true x

-- ---- what is added stays, and is there

has_push : (names : List (List ℕ)) (name : List ℕ) → Has (names ++ name ∷ []) name
has_push names name =
    list_any-append (same_name name) names (name ∷ [])
    ∙ or_second (list_any (same_name name) names) (same_name name name || false) (or_first (same_name name name) false (same_itself name))

has_more : (names more : List (List ℕ)) (name : List ℕ) → Has names name → Has (names ++ more) name
has_more names more name h = list_any-append (same_name name) names more ∙ or_first (list_any (same_name name) names) (list_any (same_name name) more) h

added : (names : List (List ℕ)) (name : List ℕ) (b : Bool) → list_any (same_name name) names ≡ b → Has (cond b names (names ++ name ∷ [])) name
added names name true h = h
added names name false h = has_push names name

has_added : (names : List (List ℕ)) (name : List ℕ) → Has (with_name names name) name
has_added names name = added names name (list_any (same_name name) names) refl

stays : (names : List (List ℕ)) (name other : List ℕ) (b : Bool) → Has names other → Has (cond b names (names ++ name ∷ [])) other
stays names name other true h = h
stays names name other false h = has_more names (name ∷ []) other h

has_still : (items : List Item) (names : List (List ℕ)) (name : List ℕ) → Has names name → Has (names_from names items) name
has_still [] names name h = h
has_still (begins other ∷ items) names name h = has_still items names name h
has_still (holds other value ∷ items) names name h =
    has_still items (with_name names other) name (stays names other name (list_any (same_name other) names) h)
has_still (ends ∷ items) names name h = has_still items names name h

-- a property's name is among these
abbrev pub IsUsed : List (List ℕ) → Item → Type 0
IsUsed names (begins name) = Unit {0}
IsUsed names (holds name value) = Has names name
IsUsed names ends = Unit {0}

pub all_used : (items : List Item) (names : List (List ℕ)) → AllByRecursion (IsUsed (names_from names items)) items
all_used [] names = tt
all_used (begins name ∷ items) names = (tt, all_used items names)
all_used (holds name value ∷ items) names = (has_still items (with_name names name) name (has_added names name), all_used items (with_name names name))
all_used (ends ∷ items) names = (tt, all_used items names)

-- ---- places

behind : (n : List ℕ) (rest : List ℕ) (p : ℕ) → drop (length n + 1 + p) ((n ++ 0 ∷ []) ++ rest) ≡ drop p rest
behind n rest p =
    sym (drop-drop p (length n + 1) ((n ++ 0 ∷ []) ++ rest)) ∙ ap (drop p) (drop_at (n ++ 0 ∷ []) rest (length n + 1) (length_push n 0))

among_rest : (n : List ℕ) (ns : List (List ℕ)) (name : List ℕ) → same_name n name ≡ false → Has (n ∷ ns) name → Has ns name
among_rest n ns name other h =
    ⊎_elim (λ (e : same_name name n ≡ true). absurd (true≢false (sym (ap (λ m. same_name m name) (sym (same_is name n e)) ∙ same_itself name) ∙ other)))
    (λ (e : list_any (same_name name) ns ≡ true). e)
    (or_cases (same_name name n) (list_any (same_name name) ns) h)

found : (n : List ℕ) (ns : List (List ℕ)) (name : List ℕ) (b : Bool) → same_name n name ≡ b → (same_name n name ≡ false → HasNameAt (strings_of ns) (place_in ns name) name)
    → HasNameAt (strings_of (n ∷ ns)) (cond b 0 (length n + 1 + place_in ns name)) name
found n ns name true is rest =
    let P : List ℕ → Type 0 = λ m. take (length name + 1) ((m ++ 0 ∷ []) ++ strings_of ns) ≡ name ++ 0 ∷ [] in
    subst P (sym (same_is n name is)) (take_at (name ++ 0 ∷ []) (strings_of ns) (length name + 1) (length_push name 0))
found n ns name false is rest = ap (take (length name + 1)) (behind n (strings_of ns) (place_in ns name)) ∙ rest is

pub name_stands : (names : List (List ℕ)) (name : List ℕ) → Has names name → HasNameAt (strings_of names) (place_in names name) name
name_stands [] name h = absurd (true≢false (sym h))
name_stands (n ∷ ns) name h = found n ns name (same_name n name) refl (λ other. name_stands ns name (among_rest n ns name other h))

within : (n : List ℕ) (ns : List (List ℕ)) (name : List ℕ) (b : Bool) → place_in ns name ≤ length (strings_of ns) → cond b 0 (length n + 1 + place_in ns name) ≤ length (strings_of (n ∷ ns))
within n ns name true h = omega arith
within n ns name false h = omega (arith, h, length-append (n ++ 0 ∷ []) (strings_of ns), length_push n 0)

pub place_within : (names : List (List ℕ)) (name : List ℕ) → place_in names name ≤ length (strings_of names)
place_within [] name = omega arith
place_within (n ∷ ns) name = within n ns name (same_name n name) (place_within ns name)
