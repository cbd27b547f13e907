-- Items of a frame that are read one by one.
use Rattle.std.proofs.Common.{◌≡◌, ℕ, suc, ◌+◌, ◌-◌, ◌*◌, ◌<◌, List, [], ◌∷◌, ◌++◌, take, drop, map, Option, Some, None, refl, sym, ap, ◌∙◌, arith, append_assoc}
use Rattle.std.proofs.lemmas.List.{append-nil, drop-drop, map-append}
use Rattle.record_frames.specs.Reading.{also, items_at}

module _ {R E : Type 0} (view : R → E) (size : ℕ) (item : List ℕ → Option E) (k : ℕ) (bytes : List ℕ) where
  -- the items before number i are read, and the rest follows
  abbrev pub IsRead : ℕ → List R → Type 0
  IsRead i xs = items_at size item k bytes ≡ also (items_at size item (k - i) (drop (size * i) bytes)) (λ rest. Some (map view xs ++ rest))

  abbrev piece : ℕ → List ℕ
  piece i = take size (drop (size * i) bytes)

  abbrev after : ℕ → Option (List E)
  after i = items_at size item (k - (i + 1)) (drop (size * (i + 1)) bytes)

  step : (i : ℕ) → i < k → items_at size item (k - i) (drop (size * i) bytes) ≡ also (item (piece i)) (λ x. also (after i) (λ xs. Some (x ∷ xs)))
  step i lt =
      let one : k - i ≡ suc (k - (i + 1)) = omega (arith, lt) in
      let next : size * i + size ≡ size * (i + 1) = mul_next size i in
      ap (λ (n : ℕ). items_at size item n (drop (size * i) bytes)) one
      ∙ ap (λ (l : List ℕ). also (item (piece i)) (λ x. also (items_at size item (k - (i + 1)) l) (λ xs. Some (x ∷ xs))))
      (drop-drop size (size * i) bytes ∙ ap (λ (n : ℕ). drop n bytes) next)
    where
      mul_next : (s i : ℕ) → s * i + s ≡ s * (i + 1)
      mul_next s i = grind arith

  pub begins : (xs : List R) → xs ≡ [] → IsRead 0 xs
  begins xs e =
      let all : k - 0 ≡ k = omega arith in
      let none : size * 0 ≡ 0 = grind arith in
      same (items_at size item k bytes)
      ∙ ap (λ (n : ℕ). also (items_at size item n bytes) (λ rest. Some rest)) (sym all)
      ∙ ap (λ (n : ℕ). also (items_at size item (k - 0) (drop n bytes)) (λ rest. Some rest)) (sym none)
      ∙ ap (λ (l : List R). also (items_at size item (k - 0) (drop (size * 0) bytes)) (λ rest. Some (map view l ++ rest))) (sym e)
    where
      same : (o : Option (List E)) → o ≡ also o (λ rest. Some rest)
      same None = refl
      same (Some x) = refl

  pub more : (i : ℕ) (xs new : List R) (x : R) → IsRead i xs → i < k → item (piece i) ≡ Some (view x) → new ≡ xs ++ x ∷ [] → IsRead (i + 1) new
  more i xs new x h lt e push =
      h ∙ ap (λ (o : Option (List E)). also o (λ rest. Some (map view xs ++ rest)))
      (step i lt ∙ ap (λ (o : Option E). also o (λ y. also (after i) (λ ys. Some (y ∷ ys)))) e)
      ∙ twice (after i)
      ∙ ap (λ (l : List E). also (after i) (λ rest. Some (l ++ rest))) (sym (ap (map view) push ∙ map-append view xs (x ∷ [])))
    where
      twice : (o : Option (List E)) → also (also o (λ ys. Some (view x ∷ ys))) (λ rest. Some (map view xs ++ rest)) ≡ also o (λ rest. Some ((map view xs ++ view x ∷ []) ++ rest))
      twice None = refl
      twice (Some rest) = ap (λ (l : List E). Some l) (sym (append_assoc (map view xs) (view x ∷ []) rest))

  pub refused : (i : ℕ) (xs : List R) → IsRead i xs → i < k → item (piece i) ≡ None → items_at size item k bytes ≡ None
  refused i xs h lt e =
      h ∙ ap (λ (o : Option (List E)). also o (λ rest. Some (map view xs ++ rest)))
      (step i lt ∙ ap (λ (o : Option E). also o (λ y. also (after i) (λ ys. Some (y ∷ ys)))) e)

  pub ended : (i : ℕ) (xs : List R) → IsRead i xs → i ≡ k → items_at size item k bytes ≡ Some (map view xs)
  ended i xs h e =
      let none : k - i ≡ 0 = omega (arith, e) in
      h ∙ ap (λ (n : ℕ). also (items_at size item n (drop (size * i) bytes)) (λ rest. Some (map view xs ++ rest))) none
      ∙ ap (λ (l : List E). Some l) (append-nil (map view xs))
