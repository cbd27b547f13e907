-- The loop over list frames.
use Rattle.std.proofs.Common.{◌≡◌, ℕ, ◌+◌, ◌-◌, ◌<◌, List, [], ◌∷◌, ◌++◌, length, Option, Some, None, Ok, Err, refl, sym, ap, ◌∙◌, append_assoc}
use Rattle.std.proofs.lemmas.List.{append-nil, map-append, length-append, length-map}
use Rattle.std.proofs.lemmas.List.Concat.{flat_map-append}
use Rattle.std.proofs.lemmas.Bool.{ne_eqb}
use Rattle.ho_base.specs.declared.numbers.Pfn.{Pfn}
use Rattle.ho_events.specs.Lists.{firsts}
use Rattle.record_frames.specs.Ram.{Ram}
use Rattle.record_frames.specs.Sheets.{Sheet, items_of, numbers_of}
use Rattle.record_frames.specs.Rules.{is_list_sheet}
use Rattle.record_frames.specs.Reading.{Front, sheet_at, chain_at, chain_from, list_layout}
use Rattle.record_frames.specs.Sheeted.{list_front_at}
use Rattle.record_frames.specs.Lists.{front_view, sheet_view, sheet_views}
use Rattle.record_frames.specs.declared.lists.ListSheet.{ListSheet}
use Rattle.record_frames.specs.declared.lists.ListFront.{ListFront}
use Rattle.record_frames.proofs.ChainSteps.{step_none, step_last, step_more}
use Rattle.record_frames.proofs.ListFronts.{front_of_chain}

-- the frames and the file whose lists are read, and the record frames before them
module _ (ram : Ram) (order folios : ℕ) (old : List ℕ) where
  abbrev pub read : List (Sheet ℕ) → ℕ → Option (Front ℕ)
  read = sheet_at ram list_layout (is_list_sheet ram.count order folios) old

  -- what is read with the frames so far is what the chain reads
  pub record Reads (first fuel before at : ℕ) (seen : List ℕ) (sheets : List ListSheet) : Type 0 where
    pub rest : chain_from read fuel (sheet_views sheets) at ≡ chain_from read ram.count [] first
    pub runs : before ≡ length (items_of (sheet_views sheets))
    pub noted : seen ≡ old ++ numbers_of (sheet_views sheets)

  whole : (first : ℕ) → chain_at ram list_layout (is_list_sheet ram.count order folios) old first ≡ chain_from read ram.count [] first
  unfolding chain_at
  whole first = refl

  as_read : (first fuel before at : ℕ) (seen : List ℕ) (sheets : List ListSheet) (r : Option (Front ℕ)) → Reads first fuel before at seen sheets
      → list_front_at ram order folios before seen at ≡ r → read (sheet_views sheets) at ≡ r
  as_read first fuel before at seen sheets r h e =
      front_of_chain ram order folios old (sheet_views sheets) at
      ∙ ap (λ (n : ℕ). list_front_at ram order folios n (old ++ numbers_of (sheet_views sheets)) at) (sym h.runs)
      ∙ ap (λ (l : List ℕ). list_front_at ram order folios before l at) (sym h.noted) ∙ e

  pub begins : (first fuel : ℕ) (seen : List ℕ) (sheets : List ListSheet) → fuel ≡ ram.count → seen ≡ old → sheets ≡ [] → Reads first fuel 0 first seen sheets
  begins first fuel seen sheets e s none = record {
    rest = ap (λ (n : ℕ). chain_from read n (sheet_views sheets) first) e ∙ ap (λ (l : List ListSheet). chain_from read ram.count (sheet_views l) first) none;
    runs = sym (ap (λ (l : List ListSheet). length (items_of (sheet_views l))) none);
    noted = s ∙ sym (append-nil old) ∙ ap (λ (l : List ListSheet). old ++ numbers_of (sheet_views l)) (sym none);
  }

  pub breaks : (first fuel before at : ℕ) (seen : List ℕ) (sheets : List ListSheet) → Reads first fuel before at seen sheets → 0 < fuel
      → list_front_at ram order folios before seen at ≡ None → chain_at ram list_layout (is_list_sheet ram.count order folios) old first ≡ Err at
  breaks first fuel before at seen sheets h lt e =
      whole first ∙ sym h.rest ∙ step_none read fuel (sheet_views sheets) at lt (as_read first fuel before at seen sheets None h e)

  pub runs_out : (first fuel before at : ℕ) (seen : List ℕ) (sheets : List ListSheet) → Reads first fuel before at seen sheets → fuel ≡ 0
      → chain_at ram list_layout (is_list_sheet ram.count order folios) old first ≡ Err at
  runs_out first fuel before at seen sheets h e = whole first ∙ sym h.rest ∙ ap (λ (n : ℕ). chain_from read n (sheet_views sheets) at) e

  -- the sheets with one more
  views_push : (sheets new : List ListSheet) (s : ListSheet) → new ≡ sheets ++ s ∷ [] → sheet_views new ≡ sheet_views sheets ++ sheet_view s ∷ []
  views_push sheets new s e = ap sheet_views e ∙ map-append sheet_view sheets (s ∷ [])

  pub noted_push : (at : ℕ) (seen next_seen : List ℕ) (sheets new : List ListSheet) (s : ListSheet) → seen ≡ old ++ numbers_of (sheet_views sheets) → s.at ≡ at
      → next_seen ≡ seen ++ at ∷ [] → new ≡ sheets ++ s ∷ [] → next_seen ≡ old ++ numbers_of (sheet_views new)
  noted_push at seen next_seen sheets new s h same e push =
      e ∙ ap (λ (l : List ℕ). l ++ at ∷ []) h ∙ append_assoc old (numbers_of (sheet_views sheets)) (at ∷ [])
      ∙ ap (λ (p : ℕ). old ++ (numbers_of (sheet_views sheets) ++ p ∷ [])) (sym same)
      ∙ ap (λ (l : List ℕ). old ++ l) (sym (ap numbers_of (views_push sheets new s push) ∙ map-append (λ (x : Sheet ℕ). x.at) (sheet_views sheets) (sheet_view s ∷ [])))

  pub ends : (first fuel before at : ℕ) (seen : List ℕ) (sheets new : List ListSheet) (s : ListSheet) (f : ListFront) → Reads first fuel before at seen sheets → 0 < fuel
      → list_front_at ram order folios before seen at ≡ Some (front_view f) → s.at ≡ at → s.runs.items ≡ f.runs.items → f.next ≡ 0 → new ≡ sheets ++ s ∷ []
      → chain_at ram list_layout (is_list_sheet ram.count order folios) old first ≡ Ok (sheet_views new)
  ends first fuel before at seen sheets new s f h lt e same runs last push =
      let now : read (sheet_views sheets) at ≡ Some (record { next = 0; items = firsts f.runs.items }) =
      as_read first fuel before at seen sheets (Some (front_view f)) h e ∙ ap (λ (n : ℕ). Some (record { next = n; items = firsts f.runs.items })) last in
      let pushed : sheet_views sheets ++ (record { at = at; items = firsts f.runs.items }) ∷ [] ≡ sheet_views new =
      ap (λ (p : ℕ). sheet_views sheets ++ (record { at = p; items = firsts f.runs.items }) ∷ []) (sym same)
      ∙ ap (λ (l : List Pfn). sheet_views sheets ++ (record { at = s.at; items = firsts l }) ∷ []) (sym runs) ∙ sym (views_push sheets new s push) in
      whole first ∙ sym h.rest ∙ step_last read fuel (sheet_views sheets) at (firsts f.runs.items) lt now ∙ ap (λ (l : List (Sheet ℕ)). Ok l) pushed

  pub goes_on : (first fuel less before at : ℕ) (seen next_seen : List ℕ) (sheets new : List ListSheet) (s : ListSheet) (f : ListFront) → Reads first fuel before at seen sheets → 0 < fuel
      → less ≡ fuel - 1 → list_front_at ram order folios before seen at ≡ Some (front_view f) → s.at ≡ at → s.runs.items ≡ f.runs.items → (f.next ≡ 0 → ⊥)
      → next_seen ≡ seen ++ at ∷ [] → new ≡ sheets ++ s ∷ [] → Reads first less (before + length f.runs.items) f.next next_seen new
  goes_on first fuel less before at seen next_seen sheets new s f h lt down e same runs more note push =
      let now = as_read first fuel before at seen sheets (Some (front_view f)) h e in
      let pushed : sheet_views new ≡ sheet_views sheets ++ (record { at = at; items = firsts f.runs.items }) ∷ [] =
      views_push sheets new s push ∙ ap (λ (p : ℕ). sheet_views sheets ++ (record { at = p; items = firsts s.runs.items }) ∷ []) same
      ∙ ap (λ (l : List Pfn). sheet_views sheets ++ (record { at = at; items = firsts l }) ∷ []) runs in
      record {
        rest = ap (λ (n : ℕ). chain_from read n (sheet_views new) f.next) down
            ∙ ap (λ (l : List (Sheet ℕ)). chain_from read (fuel - 1) l f.next) pushed
            ∙ sym (step_more read fuel (sheet_views sheets) at f.next (firsts f.runs.items) lt (ne_eqb f.next 0 more) now) ∙ h.rest;
        runs = ap (λ (n : ℕ). n + length f.runs.items) h.runs
            ∙ sym (ap (λ (l : List (Sheet ℕ)). length (items_of l)) pushed
            ∙ ap length (flat_map-append (λ (x : Sheet ℕ). x.items) (sheet_views sheets) ((record { at = at; items = firsts f.runs.items }) ∷ []))
            ∙ length-append (items_of (sheet_views sheets)) (firsts f.runs.items ++ [])
            ∙ ap (λ (l : List ℕ). length (items_of (sheet_views sheets)) + length l) (append-nil (firsts f.runs.items))
            ∙ ap (λ (n : ℕ). length (items_of (sheet_views sheets)) + n) (length-map f.runs.items (λ (p : Pfn). p.0)));
        noted = noted_push at seen next_seen sheets new s h.noted same note push;
      }
