-- Items that are read in turn, each with what was read before it.
use Rattle.std.proofs.Common.{◌≡◌, ℕ, suc, ◌+◌, ◌<◌, ◌≤◌, List, [], ◌∷◌, ◌++◌, length, get_or, drop, map, Result, Ok, Err, refl, sym, ap, ◌∙◌, append_assoc}
use Rattle.std.specs.List.{flat_map}
use Rattle.std.proofs.lemmas.List.{append-nil, drop_more, drop_all, map-append}
use Rattle.std.proofs.lemmas.Grind.{flat_map-append}
use Rattle.record_frames.specs.Sheets.{Sheet, items_of, numbers_of}
use Rattle.record_frames.specs.Reading.{◌>>=◌, each_item, each_sheet}
use Rattle.record_frames.proofs.FoundTurns.{bind_ok}

-- ---- the loop that reads them

module _ {R A F B S : Type 0} (read : S → A → Result (B × S) ℕ) (old : S) (slot : R → A) (made : F → B) (xs : List R) where
  -- what was read, and what is read of the rest
  abbrev joined : List F → Result (List B × S) ℕ → Result (List B × S) ℕ
  joined done r = r >>= λ y. Ok (map made done ++ y.0, y.1)

  abbrev rest_at : S → ℕ → Result (List B × S) ℕ
  rest_at seen i = each_item read seen (map slot (drop i xs))

  -- the items before number i are read
  pub record AreRead (i : ℕ) (done : List F) (seen : S) : Type 0 where
    pub is : each_item read old (map slot xs) ≡ joined done (rest_at seen i)

  pub begins : (done : List F) (seen : S) → done ≡ [] → seen ≡ old → AreRead 0 done seen
  begins done seen e s = record {
    is =
        same (each_item read old (map slot xs)) ∙ ap (λ (l : List F). joined l (each_item read old (map slot xs))) (sym e)
        ∙ ap (λ (t : S). joined done (each_item read t (map slot xs))) (sym s);
  }
    where
      same : (r : Result (List B × S) ℕ) → r ≡ joined [] r
      same (Ok y) = refl
      same (Err p) = refl

  abbrev one_more : List F → ℕ → Result (B × S) ℕ → Result (List B × S) ℕ
  one_more done i r = joined done (r >>= λ y. rest_at y.1 (i + 1) >>= λ ys. Ok (y.0 ∷ ys.0, ys.1))

  -- the next item
  next : (i : ℕ) (done : List F) (seen : S) (x d : R) → AreRead i done seen → i < length xs → x ≡ get_or xs i d
      → each_item read old (map slot xs) ≡ one_more done i (read seen (slot x))
  next i done seen x d h lt e =
      h.is ∙ ap (λ (l : List R). joined done (each_item read seen (map slot l))) (drop_more xs i d lt)
      ∙ ap (λ (a : R). one_more done i (read seen (slot a))) (sym e)

  abbrev found : B → S → Result (B × S) ℕ
  found b s = Ok (b, s)

  abbrev missed : ℕ → Result (B × S) ℕ
  missed p = Err p

  pub more : (i : ℕ) (done new : List F) (seen after : S) (x d : R) (f : F) → AreRead i done seen → i < length xs → x ≡ get_or xs i d
      → read seen (slot x) ≡ found (made f) after → new ≡ done ++ f ∷ [] → AreRead (i + 1) new after
  more i done new seen after x d f h lt e r push = record {
    is =
        next i done seen x d h lt e ∙ ap (one_more done i) r ∙ twice (rest_at after (i + 1))
        ∙ ap (λ (l : List B). rest_at after (i + 1) >>= λ y. Ok (l ++ y.0, y.1)) (sym (ap (map made) push ∙ map-append made done (f ∷ [])));
  }
    where
      twice : (r : Result (List B × S) ℕ) → joined done (r >>= λ ys. Ok (made f ∷ ys.0, ys.1)) ≡ (r >>= λ y. Ok ((map made done ++ made f ∷ []) ++ y.0, y.1))
      twice (Ok ys) = ap (λ (l : List B). Ok (l, ys.1)) (sym (append_assoc (map made done) (made f ∷ []) ys.0))
      twice (Err p) = refl

  pub refused : (i : ℕ) (done : List F) (seen : S) (x d : R) (p : ℕ) → AreRead i done seen → i < length xs → x ≡ get_or xs i d → read seen (slot x) ≡ missed p
      → each_item read old (map slot xs) ≡ Err p
  refused i done seen x d p h lt e r = next i done seen x d h lt e ∙ ap (one_more done i) r

  pub ended : (i : ℕ) (done : List F) (seen : S) → AreRead i done seen → length xs ≤ i → each_item read old (map slot xs) ≡ Ok (map made done, seen)
  ended i done seen h le =
      h.is ∙ ap (λ (l : List R). joined done (each_item read seen (map slot l))) (drop_all i xs le)
      ∙ ap (λ (l : List B). Ok (l, seen)) (append-nil (map made done))

-- ---- which frames are read with them

abbrev pub answered : {X Y : Type 0} → X → Y → Result (X × Y) ℕ
answered x y = Ok (x, y)

pub pairs_are : {X Y : Type 0} (a c : X) (b d : Y) → answered a b ≡ answered c d → (a ≡ c) × (b ≡ d)
pairs_are {X = X} {Y = Y} a c b d e = (ap (λ (r : Result (X × Y) ℕ). fst a r) e, ap (λ (r : Result (X × Y) ℕ). snd b r) e)
  where
    fst : X → Result (X × Y) ℕ → X
    fst d (Ok p) = p.0
    fst d (Err n) = d

    snd : Y → Result (X × Y) ℕ → Y
    snd d (Ok p) = p.1
    snd d (Err n) = d

module _ {A B S : Type 0} (read : S → A → Result (B × S) ℕ) (noted : S → List ℕ) (part : B → List ℕ)
    (each : (st : S) (x : A) (y : B) (end : S) → read st x ≡ answered y end → noted end ≡ noted st ++ part y) where
  abbrev rest_items : List A → B × S → Result (List B × S) ℕ
  rest_items xs y = each_item read y.1 xs >>= λ r. Ok (y.0 ∷ r.0, r.1)

  abbrev rest_sheets : ℕ → List (Sheet A) → List B × S → Result (List (Sheet B) × S) ℕ
  rest_sheets at sheets items = each_sheet read items.1 sheets >>= λ rest. Ok ((record { at = at; items = items.0 }) ∷ rest.0, rest.1)

  pub items_noted : (st : S) (xs : List A) (ys : List B) (end : S) → each_item read st xs ≡ answered ys end → noted end ≡ noted st ++ flat_map part ys
  items_noted st [] ys end e =
      let is = pairs_are [] ys st end e in
      ap noted (sym is.1) ∙ sym (append-nil (noted st)) ∙ ap (λ (l : List B). noted st ++ flat_map part l) is.0
  items_noted st (x ∷ xs) ys end e =
      let a = bind_ok (read st x) (rest_items xs) (ys, end) e in
      let b = bind_ok (each_item read a.0.1 xs) (λ r. Ok (a.0.0 ∷ r.0, r.1)) (ys, end) a.2 in
      let is = pairs_are (a.0.0 ∷ b.0.0) ys b.0.1 end b.2 in
      ap noted (sym is.1) ∙ items_noted a.0.1 xs b.0.0 b.0.1 b.1
      ∙ ap (λ (l : List ℕ). l ++ flat_map part b.0.0) (each st x a.0.0 a.0.1 a.1)
      ∙ append_assoc (noted st) (part a.0.0) (flat_map part b.0.0)
      ∙ ap (λ (l : List B). noted st ++ flat_map part l) is.0

  pub sheets_noted : (st : S) (xs : List (Sheet A)) (ys : List (Sheet B)) (end : S) → each_sheet read st xs ≡ answered ys end
      → (noted end ≡ noted st ++ flat_map part (items_of ys)) × (numbers_of xs ≡ numbers_of ys)
  sheets_noted st [] ys end e =
      let is = pairs_are [] ys st end e in (
        ap noted (sym is.1) ∙ sym (append-nil (noted st)) ∙ ap (λ (l : List (Sheet B)). noted st ++ flat_map part (items_of l)) is.0,
        ap (λ (l : List (Sheet B)). numbers_of l) is.0,
      )
  sheets_noted st (s ∷ xs) ys end e =
      let a = bind_ok (each_item read st s.items) (rest_sheets s.at xs) (ys, end) e in
      let b = bind_ok (each_sheet read a.0.1 xs) (λ rest. Ok ((record { at = s.at; items = a.0.0 }) ∷ rest.0, rest.1)) (ys, end) a.2 in
      let now : Sheet B = record { at = s.at; items = a.0.0 } in
      let is = pairs_are (now ∷ b.0.0) ys b.0.1 end b.2 in
      let more = sheets_noted a.0.1 xs b.0.0 b.0.1 b.1 in (
        ap noted (sym is.1) ∙ more.0
            ∙ ap (λ (l : List ℕ). l ++ flat_map part (items_of b.0.0)) (items_noted st s.items a.0.0 a.0.1 a.1)
            ∙ append_assoc (noted st) (flat_map part a.0.0) (flat_map part (items_of b.0.0))
            ∙ ap (λ (l : List ℕ). noted st ++ l) (sym (flat_map-append part a.0.0 (items_of b.0.0)))
            ∙ ap (λ (l : List (Sheet B)). noted st ++ flat_map part (items_of l)) is.0,
        ap (λ (l : List ℕ). s.at ∷ l) more.1 ∙ ap (λ (l : List (Sheet B)). numbers_of l) is.0,
      )

-- as many are read
pub items_count : {A B S : Type 0} (read : S → A → Result (B × S) ℕ) (st : S) (xs : List A) (ys : List B) (end : S) → each_item read st xs ≡ answered ys end → length ys ≡ length xs
items_count {B = B} read st [] ys end e = ap (λ (l : List B). length l) (sym (pairs_are [] ys st end e).0)
items_count {B = B} read st (x ∷ xs) ys end e =
    let a = bind_ok (read st x) (λ y. each_item read y.1 xs >>= λ r. Ok (y.0 ∷ r.0, r.1)) (ys, end) e in
    let b = bind_ok (each_item read a.0.1 xs) (λ r. Ok (a.0.0 ∷ r.0, r.1)) (ys, end) a.2 in
    let is = pairs_are (a.0.0 ∷ b.0.0) ys b.0.1 end b.2 in
    ap (λ (l : List B). length l) (sym is.0) ∙ ap suc (items_count read a.0.1 xs b.0.0 b.0.1 b.1)
