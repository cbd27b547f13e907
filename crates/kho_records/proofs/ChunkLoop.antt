-- The loop over chunk frames.
use Rattle.std.proofs.Common.{◌≡◌, ℕ, ◌-◌, ◌<◌, true, List, [], ◌∷◌, ◌++◌, Option, Some, None, Ok, Err, refl, sym, ap, ◌∙◌}
use Rattle.std.proofs.lemmas.List.{append-nil, map-append}
use Rattle.std.proofs.lemmas.List.Concat.{flat_map-append}
use Rattle.std.proofs.lemmas.Bool.{ne_eqb}
use Rattle.folio_bitmaps.specs.Chunks.{Element}
use Rattle.record_frames.specs.Ram.{Ram}
use Rattle.record_frames.specs.Sheets.{Sheet, items_of, numbers_of}
use Rattle.record_frames.specs.Rules.{is_chunk_sheet}
use Rattle.record_frames.specs.Reading.{Front, sheet_at, chain_at, chain_from, chunk_layout, chunks_at}
use Rattle.record_frames.proofs.ChainSteps.{step_none, step_last, step_more}
use Rattle.kho_records.specs.Chunks.{elements_view, chunk_view, chunk_views}
use Rattle.kho_records.specs.Fronts.{rise_behind, last_place, chunk_front_at, front_view}
use Rattle.kho_records.specs.declared.chain.sheet.ElementRead.{ElementRead}
use Rattle.kho_records.specs.declared.chain.sheet.ChunkSheet.{ChunkSheet}
use Rattle.kho_records.specs.declared.chain.order.ElementPlace.{ElementPlace}
use Rattle.kho_records.specs.declared.chain.front.ChunkFront.{ChunkFront}
use Rattle.kho_records.proofs.Rising.{last_append, rise_on}
use Rattle.kho_records.proofs.Fronts.{front_of_chain}

-- the frames whose chain is read
module _ (ram : Ram) where
  abbrev pub read : List (Sheet Element) → ℕ → Option (Front Element)
  read = sheet_at ram chunk_layout (is_chunk_sheet ram.count) []

  -- what is read with the frames so far is what the chain reads
  pub record Reads (first fuel at : ℕ) (place : Option ElementPlace) (seen : List ℕ) (sheets : List ChunkSheet) : Type 0 where
    pub rest : chain_from read fuel (chunk_views sheets) at ≡ chain_from read ram.count [] first
    pub last : place ≡ last_place None (items_of (chunk_views sheets))
    pub risen : rise_behind None (items_of (chunk_views sheets)) ≡ true
    pub noted : seen ≡ numbers_of (chunk_views sheets)

  whole : (first : ℕ) → chunks_at ram first ≡ chain_from read ram.count [] first
  unfolding chunks_at chain_at
  whole first = refl

  as_read : (first fuel at : ℕ) (place : Option ElementPlace) (seen : List ℕ) (sheets : List ChunkSheet) (r : Option (Front Element)) → Reads first fuel at place seen sheets
      → chunk_front_at ram place seen at ≡ r → read (chunk_views sheets) at ≡ r
  as_read first fuel at place seen sheets r h e =
      front_of_chain ram place [] (chunk_views sheets) at h.last h.risen
      ∙ ap (λ (l : List ℕ). chunk_front_at ram place l at) (sym h.noted) ∙ e

  pub breaks : (first fuel at : ℕ) (place : Option ElementPlace) (seen : List ℕ) (sheets : List ChunkSheet) → Reads first fuel at place seen sheets → 0 < fuel
      → chunk_front_at ram place seen at ≡ None → chunks_at ram first ≡ Err at
  breaks first fuel at place seen sheets h lt e =
      whole first ∙ sym h.rest ∙ step_none read fuel (chunk_views sheets) at lt (as_read first fuel at place seen sheets None h e)

  pub runs_out : (first fuel at : ℕ) (place : Option ElementPlace) (seen : List ℕ) (sheets : List ChunkSheet) → Reads first fuel at place seen sheets → fuel ≡ 0
      → chunks_at ram first ≡ Err at
  runs_out first fuel at place seen sheets h e = whole first ∙ sym h.rest ∙ ap (λ (n : ℕ). chain_from read n (chunk_views sheets) at) e

  -- the sheets with one more
  views_push : (sheets new : List ChunkSheet) (s : ChunkSheet) → new ≡ sheets ++ s ∷ [] → chunk_views new ≡ chunk_views sheets ++ chunk_view s ∷ []
  views_push sheets new s e = ap chunk_views e ∙ map-append chunk_view sheets (s ∷ [])

  items_push : (sheets new : List ChunkSheet) (s : ChunkSheet) → new ≡ sheets ++ s ∷ []
      → items_of (chunk_views new) ≡ items_of (chunk_views sheets) ++ elements_view s.items.items
  items_push sheets new s e =
      ap (λ (l : List (Sheet Element)). items_of l) (views_push sheets new s e)
      ∙ flat_map-append (λ (x : Sheet Element). x.items) (chunk_views sheets) (chunk_view s ∷ [])
      ∙ ap (λ (l : List Element). items_of (chunk_views sheets) ++ l) (append-nil (elements_view s.items.items))

  numbers_push : (sheets new : List ChunkSheet) (s : ChunkSheet) → new ≡ sheets ++ s ∷ [] → numbers_of (chunk_views new) ≡ numbers_of (chunk_views sheets) ++ s.at ∷ []
  numbers_push sheets new s e =
      ap (λ (l : List (Sheet Element)). numbers_of l) (views_push sheets new s e)
      ∙ map-append (λ (x : Sheet Element). x.at) (chunk_views sheets) (chunk_view s ∷ [])

  pub ends : (first fuel at : ℕ) (place : Option ElementPlace) (seen : List ℕ) (sheets new : List ChunkSheet) (s : ChunkSheet) (f : ChunkFront) → Reads first fuel at place seen sheets → 0 < fuel
      → chunk_front_at ram place seen at ≡ Some (front_view f) → s.at ≡ at → s.items.items ≡ f.items.items → f.next ≡ 0 → new ≡ sheets ++ s ∷ []
      → chunks_at ram first ≡ Ok (chunk_views new)
  ends first fuel at place seen sheets new s f h lt e same items last push =
      let now : read (chunk_views sheets) at ≡ Some (record { next = 0; items = elements_view f.items.items }) =
      as_read first fuel at place seen sheets (Some (front_view f)) h e ∙ ap (λ (n : ℕ). Some (record { next = n; items = elements_view f.items.items })) last in
      let pushed : chunk_views sheets ++ (record { at = at; items = elements_view f.items.items }) ∷ [] ≡ chunk_views new =
      ap (λ (p : ℕ). chunk_views sheets ++ (record { at = p; items = elements_view f.items.items }) ∷ []) (sym same)
      ∙ ap (λ (l : List ElementRead). chunk_views sheets ++ (record { at = s.at; items = elements_view l }) ∷ []) (sym items) ∙ sym (views_push sheets new s push) in
      whole first ∙ sym h.rest ∙ step_last read fuel (chunk_views sheets) at (elements_view f.items.items) lt now ∙ ap (λ (l : List (Sheet Element)). Ok l) pushed

  pub goes_on : (first fuel less at : ℕ) (place next_place : Option ElementPlace) (seen next_seen : List ℕ) (sheets new : List ChunkSheet) (s : ChunkSheet) (f : ChunkFront)
      → Reads first fuel at place seen sheets → 0 < fuel → less ≡ fuel - 1 → chunk_front_at ram place seen at ≡ Some (front_view f) → rise_behind place (elements_view f.items.items) ≡ true
      → next_place ≡ last_place place (elements_view f.items.items) → s.at ≡ at → s.items.items ≡ f.items.items → (f.next ≡ 0 → ⊥)
      → next_seen ≡ seen ++ at ∷ [] → new ≡ sheets ++ s ∷ [] → Reads first less f.next next_place next_seen new
  goes_on first fuel less at place next_place seen next_seen sheets new s f h lt down e rise moved same items more note push =
      let now = as_read first fuel at place seen sheets (Some (front_view f)) h e in
      let pushed : chunk_views new ≡ chunk_views sheets ++ (record { at = at; items = elements_view f.items.items }) ∷ [] =
      views_push sheets new s push ∙ ap (λ (p : ℕ). chunk_views sheets ++ (record { at = p; items = elements_view s.items.items }) ∷ []) same
      ∙ ap (λ (l : List ElementRead). chunk_views sheets ++ (record { at = at; items = elements_view l }) ∷ []) items in
      let all : items_of (chunk_views new) ≡ items_of (chunk_views sheets) ++ elements_view f.items.items =
      items_push sheets new s push ∙ ap (λ (l : List ElementRead). items_of (chunk_views sheets) ++ elements_view l) items in
      record {
        rest = ap (λ (n : ℕ). chain_from read n (chunk_views new) f.next) down
            ∙ ap (λ (l : List (Sheet Element)). chain_from read (fuel - 1) l f.next) pushed
            ∙ sym (step_more read fuel (chunk_views sheets) at f.next (elements_view f.items.items) lt (ne_eqb f.next 0 more) now) ∙ h.rest;
        last = moved ∙ ap (λ (p : Option ElementPlace). last_place p (elements_view f.items.items)) h.last
            ∙ sym (ap (λ (l : List Element). last_place None l) all ∙ last_append None (items_of (chunk_views sheets)) (elements_view f.items.items));
        risen = ap (λ (l : List Element). rise_behind None l) all ∙ rise_on place (items_of (chunk_views sheets)) (elements_view f.items.items) h.last h.risen rise;
        noted = note ∙ ap (λ (l : List ℕ). l ++ at ∷ []) h.noted
            ∙ sym (numbers_push sheets new s push ∙ ap (λ (p : ℕ). numbers_of (chunk_views sheets) ++ p ∷ []) same);
      }
