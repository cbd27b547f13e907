-- The marked runs that hold a frame, order by order.
use Rattle.std.proofs.Common.{◌≡◌, ℕ, ◌+◌, ◌-◌, ◌%◌, ◌^◌, Bool, true, false, cond, List, [], ◌∷◌, ◌++◌, map, refl, sym, ap, ◌∙◌, append-nil, arith}
use Rattle.std.specs.Prelude.{◌||◌, filter}
use Rattle.std.specs.List.{list_any, range_with_len}
use Rattle.std.proofs.lemmas.List.Folds.{list_any-append}
use Rattle.std.proofs.lemmas.List.FromFn.{filter_of_map_range_with_len_more}
use Rattle.folio_bitmaps.specs.Runs.{Run}
use Rattle.folio_bitmaps.specs.Chunks.{Element}
use Rattle.record_frames.specs.Rules.{is_marked}
use Rattle.record_frames.specs.Sheets.{items_of}
use Rattle.kho_records.specs.declared.chain.sheet.ChunkSheet.{ChunkSheet}
use Rattle.kho_records.specs.Chunks.{element_view, chunk_views}
use Rattle.kho_records.specs.declared.owners.owner.Owner.{Owner}
use Rattle.kho_records.specs.declared.owners.owner.Owner.TheVariants.{Run as One}
use Rattle.kho_records.specs.Owner.{holder, joined, owner_of, marked_below}
use Rattle.kho_records.proofs.Rule.{joined_one}

any_map : {A B : Type 0} → (p : B → Bool) (f : A → B) (xs : List A) → list_any p (map f xs) ≡ list_any (λ x. p (f x)) xs
any_map p f [] = refl
any_map p f (x ∷ xs) = ap (λ (b : Bool). p (f x) || b) (any_map p f xs)

-- a test of the elements of all chunk frames, frame by frame
pub any_in_sheets : (p : Element → Bool) (chunks : List ChunkSheet) → list_any p (items_of (chunk_views chunks)) ≡ list_any (λ c. list_any (λ e. p (element_view e)) c.items.items) chunks
any_in_sheets p [] = refl
any_in_sheets p (c ∷ chunks) =
    list_any-append p (map element_view c.items.items) (items_of (chunk_views chunks))
    ∙ ap (λ (b : Bool). b || list_any p (items_of (chunk_views chunks))) (any_map p element_view c.items.items)
    ∙ ap (λ (b : Bool). list_any (λ e. p (element_view e)) c.items.items || b) (any_in_sheets p chunks)

-- the marked runs below the next order
pub marked_more : (elements : List Element) (p n first : ℕ) (now after : Owner) → now ≡ owner_of (marked_below elements p n) 0 → first ≡ p - p % 2 ^ n
    → after ≡ cond (is_marked elements (record { first = first; order = n })) (joined now (One first n)) now
    → after ≡ owner_of (marked_below elements p (n + 1)) 0
unfolding marked_below
marked_more elements p n first now after h at e =
    let run : ℕ → Run = holder p in
    let below = filter (is_marked elements) (map run (range_with_len 0 n)) in
    let more : filter (is_marked elements) (map run (range_with_len 0 (n + 1))) ≡ below ++ cond (is_marked elements (run n)) (run n ∷ []) [] =
    filter_of_map_range_with_len_more (is_marked elements) run 0 n n (omega arith) in
    let step : (b : Bool) → cond b (joined (owner_of below 0) (One (run n).first n)) (owner_of below 0) ≡ owner_of (below ++ cond b (run n ∷ []) []) 0 =
    λ b. elim b as (λ b. cond b (joined (owner_of below 0) (One (run n).first n)) (owner_of below 0) ≡ owner_of (below ++ cond b (run n ∷ []) []) 0) [
      | true ↦ joined_one below 0 (run n)
      | false ↦ ap (λ (rs : List Run). owner_of rs 0) (sym (append-nil below))
    ] in
    e ∙ ap (λ (q : ℕ). cond (is_marked elements (record { first = q; order = n })) (joined now (One q n)) now) at
    ∙ ap (λ (o : Owner). cond (is_marked elements (run n)) (joined o (One (run n).first n)) o) h ∙ step (is_marked elements (run n))
    ∙ ap (λ (rs : List Run). owner_of rs 0) (sym more)
