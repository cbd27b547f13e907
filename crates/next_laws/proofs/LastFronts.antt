-- What a test of fronts says of all items of a chain.
use Rattle.std.proofs.Common.{◌≡◌, ℕ, Bool, true, List, [], ◌∷◌, ◌++◌, map, refl, sym, ap, subst, ◌∙◌, append_assoc}
use Rattle.std.specs.List.{list_all}
use Rattle.std.proofs.lemmas.Bool.{and_parts, and_from}
use Rattle.std.proofs.lemmas.List.{append-nil, map-append}
use Rattle.std.proofs.lemmas.List.Folds.{list_all-append}
use Rattle.std.proofs.lemmas.Grind.{flat_map-append}
use Rattle.record_frames.specs.Sheets.{Sheet, items_of, map_items}
use Rattle.record_frames.specs.Rules.{keeps_from, keeps}

-- the items of sheets with something else for each
pub items_map : {A B : Type 0} (f : A → B) (sheets : List (Sheet A)) → items_of (map_items f sheets) ≡ map f (items_of sheets)
items_map f [] = refl
items_map f (s ∷ sheets) =
    ap (λ l. map f s.items ++ l) (items_map f sheets) ∙ sym (map-append f s.items (items_of sheets))

-- what the test of the last frame says of all items
module _ {E : Type 0} (test : List (Sheet E) → List E → ℕ → Bool) (Q : List E → Type 0)
    (tell : (earlier : List (Sheet E)) (items : List E) (next : ℕ) → test earlier items next ≡ true → Q (items_of earlier ++ items)) where
  last_from : (earlier : List (Sheet E)) (s : Sheet E) (sheets : List (Sheet E)) → keeps_from test earlier (s ∷ sheets) ≡ true → Q (items_of earlier ++ items_of (s ∷ sheets))
  last_from earlier s [] h = subst (λ l. Q (items_of earlier ++ l)) (sym (append-nil s.items)) (tell earlier s.items 0 h)
  last_from earlier s (t ∷ sheets) h =
      let hs = and_parts (test earlier s.items t.at) (keeps_from test (earlier ++ s ∷ []) (t ∷ sheets)) h in
      let rest = last_from (earlier ++ s ∷ []) t sheets hs.1 in
      let front : items_of (earlier ++ s ∷ []) ≡ items_of earlier ++ s.items =
      flat_map-append (λ (x : Sheet E). x.items) earlier (s ∷ []) ∙ ap (λ l. items_of earlier ++ l) (append-nil s.items) in
      subst Q (ap (λ l. l ++ items_of (t ∷ sheets)) front ∙ append_assoc (items_of earlier) s.items (items_of (t ∷ sheets))) rest

  pub last_says : (sheets : List (Sheet E)) → Q [] → keeps test sheets ≡ true → Q (items_of sheets)
  last_says [] none h = none
  last_says (s ∷ sheets) none h = last_from [] s sheets h

-- what each test says of the items in its frame
module _ {E : Type 0} (test : List (Sheet E) → List E → ℕ → Bool) (ok : E → Bool)
    (tell : (earlier : List (Sheet E)) (items : List E) (next : ℕ) → test earlier items next ≡ true → list_all ok items ≡ true) where
  each_from : (earlier : List (Sheet E)) (sheets : List (Sheet E)) → keeps_from test earlier sheets ≡ true → list_all ok (items_of sheets) ≡ true
  each_from earlier [] h = refl
  each_from earlier (s ∷ []) h = ap (list_all ok) (append-nil s.items) ∙ tell earlier s.items 0 h
  each_from earlier (s ∷ t ∷ sheets) h =
      let hs = and_parts (test earlier s.items t.at) (keeps_from test (earlier ++ s ∷ []) (t ∷ sheets)) h in
      list_all-append ok s.items (items_of (t ∷ sheets))
      ∙ and_from (list_all ok s.items) (list_all ok (items_of (t ∷ sheets))) (tell earlier s.items t.at hs.0) (each_from (earlier ++ s ∷ []) (t ∷ sheets) hs.1)

  pub each_says : (sheets : List (Sheet E)) → keeps test sheets ≡ true → list_all ok (items_of sheets) ≡ true
  each_says sheets h = each_from [] sheets h
