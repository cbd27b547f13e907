-- Items that are read one after the other.
use Rattle.std.proofs.Common.{◌≡◌, ℕ, List, [], ◌∷◌, ◌++◌, map, Result, Ok, refl, ap, ◌∙◌}
use Rattle.record_frames.specs.Sheets.{Sheet, items_of, map_items}
use Rattle.record_frames.specs.Reading.{◌>>=◌, each_item, each_sheet}

-- each of the items is read from its slot, from a state to the next
abbrev pub Reads : {A B S : Type 0} → (S → A → Result (B × S) ℕ) → (B → A) → S → List B → S → Type 0
Reads read slot st [] end = st ≡ end
Reads {A = A} {B = B} {S = S} read slot st (y ∷ ys) end = (mid : S) × (read st (slot y) ≡ Ok (y, mid)) × Reads read slot mid ys end

-- the rest after the first item, and after the items of a sheet
abbrev rest_items : {A B S : Type 0} → (S → A → Result (B × S) ℕ) → (B → A) → List B → B × S → Result (List B × S) ℕ
rest_items read slot ys y = each_item read y.1 (map slot ys) >>= λ r. Ok (y.0 ∷ r.0, r.1)

abbrev rest_sheets : {A B S : Type 0} → (S → A → Result (B × S) ℕ) → (B → A) → ℕ → List (Sheet B) → List B × S → Result (List (Sheet B) × S) ℕ
rest_sheets read slot at sheets items =
    each_sheet read items.1 (map_items slot sheets) >>= λ rest. Ok ((record { at = at; items = items.0 }) ∷ rest.0, rest.1)

items_read : {A B S : Type 0} (read : S → A → Result (B × S) ℕ) (slot : B → A) (st : S) (ys : List B) (end : S) → Reads read slot st ys end
    → each_item read st (map slot ys) ≡ Ok (ys, end)
items_read read slot st [] end h = ap (λ (x : _). Ok ([], x)) h
items_read {A = A} {B = B} {S = S} read slot st (y ∷ ys) end h =
    ap (λ (r : Result (B × S) ℕ). r >>= rest_items read slot ys) h.1
    ∙ ap (λ (r : Result (List B × S) ℕ). r >>= λ x. Ok (y ∷ x.0, x.1)) (items_read read slot h.0 ys end h.2)

pub record Split {A B S : Type 0} (read : S → A → Result (B × S) ℕ) (slot : B → A) (st : S) (xs ys : List B) (end : S) : Type 0 where
  pub mid : S
  pub front : Reads read slot st xs mid
  pub rest : Reads read slot mid ys end

split : {A B S : Type 0} (read : S → A → Result (B × S) ℕ) (slot : B → A) (st : S) (xs ys : List B) (end : S) → Reads read slot st (xs ++ ys) end → Split read slot st xs ys end
split read slot st [] ys end h = record { mid = st; front = refl; rest = h }
split read slot st (x ∷ xs) ys end h =
    let r = split read slot h.0 xs ys end h.2 in
    record { mid = r.mid; front = (h.0, h.1, r.front); rest = r.rest }

pub sheets_read : {A B S : Type 0} (read : S → A → Result (B × S) ℕ) (slot : B → A) (st : S) (sheets : List (Sheet B)) (end : S) → Reads read slot st (items_of sheets) end
    → each_sheet read st (map_items slot sheets) ≡ Ok (sheets, end)
sheets_read read slot st [] end h = ap (λ (x : _). Ok ([], x)) h
sheets_read {A = A} {B = B} {S = S} read slot st (s ∷ sheets) end h =
    let p = split read slot st s.items (items_of sheets) end h in
    ap (λ (r : Result (List B × S) ℕ). r >>= rest_sheets read slot s.at sheets) (items_read read slot st s.items p.mid p.front)
    ∙ ap (λ (r : Result (List (Sheet B) × S) ℕ). r >>= λ x. Ok (s ∷ x.0, x.1)) (sheets_read read slot p.mid sheets end p.rest)
