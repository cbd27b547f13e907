-- Items that were read one after the other, with what is known of each.
use Rattle.std.proofs.Common.{◌≡◌, ℕ, List, [], ◌∷◌, ◌++◌, map, Bool, true, Result, Ok, Err, refl, sym, ap, subst, ◌∙◌}
use Rattle.std.specs.List.{list_all}
use Rattle.std.proofs.lemmas.Bool.{and_parts}
use Rattle.std.proofs.lemmas.List.Folds.{list_all-append}
use Rattle.record_frames.specs.Sheets.{Sheet, items_of, map_items}
use Rattle.record_frames.specs.Reading.{◌>>=◌, each_item, each_sheet}

pub bind_ok : {A B E : Type 0} (r : Result A E) (f : A → Result B E) (y : B) → (r >>= f) ≡ Ok y → (x : A) × (r ≡ Ok x) × (f x ≡ Ok y)
bind_ok (Ok x) f y e = (x, refl, e)
bind_ok (Err x) f y e = absurd cc

-- what holds of a state, what is known of an item that was read in a state, and the state after it
pub record Turn {A B S : Type 0} (read : S → A → Result (B × S) ℕ) (slot : B → A) (ok : A → Bool) (next : S → B → S) (Inv : S → Type 0) (Fact : S → B → Type 0) (st : S) (x : A) (y : B) (end : S) : Type 0 where
  pub same : slot y ≡ x
  pub state : end ≡ next st y
  pub inv : Inv (next st y)
  pub fact : Fact st y

abbrev pub next_all : {B S : Type 0} → (S → B → S) → S → List B → S
next_all next st [] = st
next_all next st (y ∷ ys) = next_all next (next st y) ys

abbrev pub Facts : {B S : Type 0} → (S → B → S) → (S → B → Type 0) → S → List B → Type 0
Facts next Fact st [] = Unit {0}
Facts next Fact st (y ∷ ys) = Fact st y × Facts next Fact (next st y) ys

pub record Turns {A B S : Type 0} (slot : B → A) (next : S → B → S) (Inv : S → Type 0) (Fact : S → B → Type 0) (st : S) (xs : List A) (ys : List B) (end : S) : Type 0 where
  pub same : map slot ys ≡ xs
  pub state : end ≡ next_all next st ys
  pub inv : Inv (next_all next st ys)
  pub facts : Facts next Fact st ys

pub record Sheeted {A B S : Type 0} (slot : B → A) (next : S → B → S) (Inv : S → Type 0) (Fact : S → B → Type 0) (st : S) (xs : List (Sheet A)) (ys : List (Sheet B)) (end : S) : Type 0 where
  pub same : map_items slot ys ≡ xs
  pub state : end ≡ next_all next st (items_of ys)
  pub inv : Inv (next_all next st (items_of ys))
  pub facts : Facts next Fact st (items_of ys)

abbrev answer : {B S : Type 0} → List B → S → Result (List B × S) ℕ
answer ys st = Ok (ys, st)

items_are : {B S : Type 0} (xs ys : List B) (st end : S) → answer xs st ≡ answer ys end → (xs ≡ ys) × (st ≡ end)
items_are {B = B} {S = S} xs ys st end e = (ap (λ (r : Result (List B × S) ℕ). fst xs r) e, ap (λ (r : Result (List B × S) ℕ). snd st r) e)
  where
    fst : List B → Result (List B × S) ℕ → List B
    fst d (Ok p) = p.0
    fst d (Err n) = d

    snd : S → Result (List B × S) ℕ → S
    snd d (Ok p) = p.1
    snd d (Err n) = d

next_append : {B S : Type 0} (next : S → B → S) (st : S) (xs ys : List B) → next_all next st (xs ++ ys) ≡ next_all next (next_all next st xs) ys
next_append next st [] ys = refl
next_append next st (x ∷ xs) ys = next_append next (next st x) xs ys

facts_append : {B S : Type 0} (next : S → B → S) (Fact : S → B → Type 0) (st : S) (xs ys : List B) → Facts next Fact st xs → Facts next Fact (next_all next st xs) ys → Facts next Fact st (xs ++ ys)
facts_append next Fact st [] ys h g = g
facts_append next Fact st (x ∷ xs) ys h g = (h.0, facts_append next Fact (next st x) xs ys h.1 g)

pub turns_found : {A B S : Type 0} (read : S → A → Result (B × S) ℕ) (slot : B → A) (ok : A → Bool) (next : S → B → S) (Inv : S → Type 0) (Fact : S → B → Type 0)
    → ((st : S) (x : A) (y : B) (end : S) → Inv st → ok x ≡ true → read st x ≡ Ok (y, end) → Turn read slot ok next Inv Fact st x y end)
    → (st : S) (xs : List A) (ys : List B) (end : S) → Inv st → list_all ok xs ≡ true → each_item read st xs ≡ Ok (ys, end) → Turns slot next Inv Fact st xs ys end
turns_found {A = A} {B = B} {S = S} read slot ok next Inv Fact found st [] ys end inv oks e =
    let is = items_are [] ys st end e in
    let P : List B → Type 0 = λ l. Turns slot next Inv Fact st [] l end in
    subst P is.0 (record { same = refl; state = sym is.1; inv = inv; facts = tt })
turns_found {A = A} {B = B} {S = S} read slot ok next Inv Fact found st (x ∷ xs) ys end inv oks e =
    let os = and_parts (ok x) (list_all ok xs) oks in
    let a = bind_ok (read st x) (λ y. each_item read y.1 xs >>= λ r. Ok (y.0 ∷ r.0, r.1)) (ys, end) e in
    let b = bind_ok (each_item read a.0.1 xs) (λ r. Ok (a.0.0 ∷ r.0, r.1)) (ys, end) a.2 in
    let t = found st x a.0.0 a.0.1 inv os.0 a.1 in
    let I : S → Type 0 = λ s. Inv s in
    let E : S → Type 0 = λ s. each_item read s xs ≡ Ok (b.0.0, b.0.1) in
    let r = turns_found read slot ok next Inv Fact found (next st a.0.0) xs b.0.0 b.0.1 t.inv os.1 (subst E t.state b.1) in
    let is = items_are (a.0.0 ∷ b.0.0) ys b.0.1 end b.2 in
    let P : List B → Type 0 = λ l. Turns slot next Inv Fact st (x ∷ xs) l end in
    subst P is.0 (record {
      same = ap (λ (h : A). h ∷ map slot b.0.0) t.same ∙ ap (λ (l : List A). x ∷ l) r.same;
      state = sym is.1 ∙ r.state;
      inv = r.inv;
      facts = (t.fact, r.facts);
    })

pub sheets_found : {A B S : Type 0} (read : S → A → Result (B × S) ℕ) (slot : B → A) (ok : A → Bool) (next : S → B → S) (Inv : S → Type 0) (Fact : S → B → Type 0)
    → ((st : S) (x : A) (y : B) (end : S) → Inv st → ok x ≡ true → read st x ≡ Ok (y, end) → Turn read slot ok next Inv Fact st x y end)
    → (st : S) (xs : List (Sheet A)) (ys : List (Sheet B)) (end : S) → Inv st → list_all ok (items_of xs) ≡ true → each_sheet read st xs ≡ Ok (ys, end)
    → Sheeted slot next Inv Fact st xs ys end
sheets_found {A = A} {B = B} {S = S} read slot ok next Inv Fact found st [] ys end inv oks e =
    let is = items_are [] ys st end e in
    let P : List (Sheet B) → Type 0 = λ l. Sheeted slot next Inv Fact st [] l end in
    subst P is.0 (record { same = refl; state = sym is.1; inv = inv; facts = tt })
sheets_found {A = A} {B = B} {S = S} read slot ok next Inv Fact found st (s ∷ xs) ys end inv oks e =
    let os = and_parts (list_all ok s.items) (list_all ok (items_of xs)) (sym (list_all-append ok s.items (items_of xs)) ∙ oks) in
    let a = bind_ok (each_item read st s.items) (λ items. each_sheet read items.1 xs >>= λ rest. Ok ((record { at = s.at; items = items.0 }) ∷ rest.0, rest.1)) (ys, end) e in
    let b = bind_ok (each_sheet read a.0.1 xs) (λ rest. Ok ((record { at = s.at; items = a.0.0 }) ∷ rest.0, rest.1)) (ys, end) a.2 in
    let t = turns_found read slot ok next Inv Fact found st s.items a.0.0 a.0.1 inv os.0 a.1 in
    let E : S → Type 0 = λ x. each_sheet read x xs ≡ Ok (b.0.0, b.0.1) in
    let r = sheets_found read slot ok next Inv Fact found (next_all next st a.0.0) xs b.0.0 b.0.1 t.inv os.1 (subst E t.state b.1) in
    let now : Sheet B = record { at = s.at; items = a.0.0 } in
    let is = items_are (now ∷ b.0.0) ys b.0.1 end b.2 in
    let P : List (Sheet B) → Type 0 = λ l. Sheeted slot next Inv Fact st (s ∷ xs) l end in
    let joined = next_append next st a.0.0 (items_of b.0.0) in
    let I : S → Type 0 = λ x. Inv x in
    subst P is.0 (record {
      same = ap (λ (l : List A). (record { at = s.at; items = l }) ∷ map_items slot b.0.0) t.same ∙ ap (λ (l : List (Sheet A)). s ∷ l) r.same;
      state = sym is.1 ∙ r.state ∙ sym joined;
      inv = subst I (sym joined) r.inv;
      facts = facts_append next Fact st a.0.0 (items_of b.0.0) t.facts r.facts;
    })
