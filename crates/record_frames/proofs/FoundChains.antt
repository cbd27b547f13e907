-- A chain that is read keeps its rules and stands in the frames.
use Rattle.std.proofs.Common.{◌≡◌, ℕ, zero, suc, ◌+◌, ◌≤◌, Bool, true, false, cond, eqb, List, [], ◌∷◌, ◌++◌, Option, Some, None, Result, Ok, refl, sym, ap, subst, ◌∙◌, append_assoc, arith}
use Rattle.std.specs.Prelude.{nat_eq, not, ◌&&◌, ◌||◌}
use Rattle.std.specs.List.{list_all, list_any}
use Rattle.std.proofs.lemmas.Bool.{eqb-true, eqb-false, ne_eqb, and_parts, and_from, not-true}
use Rattle.std.proofs.lemmas.List.{map-append}
use Rattle.std.proofs.lemmas.List.Folds.{list_all-append}
use Rattle.record_frames.specs.Ram.{Ram, Begins, is_frame}
use Rattle.folio_bitmaps.specs.Chunks.{Element}
use Rattle.record_frames.specs.Sheets.{Sheet, items_of, numbers_of, first_of, sheet_bytes, chain_pages, element_bytes}
use Rattle.record_frames.specs.Rules.{keeps_from, keeps, all_apart, is_empty, is_chunk_sheet, element_fits}
use Rattle.record_frames.specs.Carries.{HavePages, SpellChain}
use Rattle.record_frames.specs.Reading.{Front, Layout, also, go_on, sheet_at, front_at, chain_from, chain_at, chunks_at, chunk_layout}
use Rattle.record_frames.specs.Laws.{Holds}
use Rattle.record_frames.proofs.Chains.{frame_below}
use Rattle.record_frames.proofs.Found.{Finds, long, FrontFound, front_found, also_some, if_some, then_some}
use Rattle.record_frames.proofs.FoundSlots.{chunk_finds}

-- a layout whose items are found, and whose frames fit a page
pub record Laid {E : Type 0} (l : Layout E) (bytes : E → List ℕ) (ok : E → Bool) : Type 0 where
  pub finds : Finds l bytes ok
  pub head : 16 ≤ l.head
  pub room : l.head + long l.size l.most ≤ 4096

or_none : (p : ℕ) (xs ys : List ℕ) → list_any (nat_eq p) xs ≡ false → list_any (nat_eq p) ys ≡ false → list_any (nat_eq p) (xs ++ ys) ≡ false
or_none p [] ys h g = g
or_none p (x ∷ xs) ys h g = at_test (nat_eq p x) (λ k. or_none p xs ys k g) h
  where
    at_test : (b : Bool) → (list_any (nat_eq p) xs ≡ false → list_any (nat_eq p) (xs ++ ys) ≡ false) → (b || list_any (nat_eq p) xs) ≡ false → (b || list_any (nat_eq p) (xs ++ ys)) ≡ false
    at_test true more h = absurd cc
    at_test false more h = more h

apart_more : (xs : List ℕ) (y : ℕ) → all_apart xs ≡ true → list_any (nat_eq y) xs ≡ false → all_apart (xs ++ y ∷ []) ≡ true
apart_more [] y h g = refl
apart_more (x ∷ xs) y h g =
    let hs = and_parts (not (list_any (nat_eq x) xs)) (all_apart xs) h in
    let d = differ (nat_eq y x) refl g in
    and_from (not (list_any (nat_eq x) (xs ++ y ∷ []))) (all_apart (xs ++ y ∷ []))
    (ap not (or_none x xs (y ∷ []) (not-true (list_any (nat_eq x) xs) hs.0) (ap (λ (b : Bool). b || false) d.0))) (apart_more xs y hs.1 d.1)
  where
    differ : (b : Bool) → nat_eq y x ≡ b → (b || list_any (nat_eq y) xs) ≡ false → (nat_eq x y ≡ false) × (list_any (nat_eq y) xs ≡ false)
    differ true e g = absurd cc
    differ false e g = (ne_eqb x y (λ s. eqb-false y x e (sym s)), g)

pub record ChainFound {E : Type 0} (ram : Ram) (l : Layout E) (bytes : E → List ℕ) (ok : E → Bool) (test : List (Sheet E) → List E → ℕ → Bool) (seen : List ℕ)
    (earlier : List (Sheet E)) (at : ℕ) (whole : List (Sheet E)) : Type 0 where
  pub rest : List (Sheet E)
  pub parts : whole ≡ earlier ++ rest
  pub begins : first_of rest ≡ at
  pub filled : is_empty rest ≡ false
  pub keeps : keeps_from test earlier rest ≡ true
  pub each : list_all ok (items_of rest) ≡ true
  pub frames : list_all (is_frame ram.count) (numbers_of rest) ≡ true
  pub apart : all_apart ((seen ++ numbers_of earlier) ++ numbers_of rest) ≡ true
  pub pages : HavePages ram (chain_pages l.head bytes rest)

pub record SheetFound {E : Type 0} (ram : Ram) (l : Layout E) (bytes : E → List ℕ) (ok : E → Bool) (test : List (Sheet E) → List E → ℕ → Bool) (seen : List ℕ)
    (earlier : List (Sheet E)) (at : ℕ) (f : Front E) : Type 0 where
  pub frame : is_frame ram.count at ≡ true
  pub new : list_any (nat_eq at) (seen ++ numbers_of earlier) ≡ false
  pub front : FrontFound l bytes ok (ram.page at) f
  pub holds : test earlier f.items f.next ≡ true

sheet_found : {E : Type 0} (ram : Ram) (l : Layout E) (bytes : E → List ℕ) (ok : E → Bool) (test : List (Sheet E) → List E → ℕ → Bool) (seen : List ℕ) → Laid l bytes ok → Holds ram
    → (earlier : List (Sheet E)) (at : ℕ) (f : Front E) → sheet_at ram l test seen earlier at ≡ Some f → SheetFound ram l bytes ok test seen earlier at f
unfolding sheet_at
sheet_found {E = E} ram l bytes ok test seen laid holds earlier at f e =
    let a = if_some (is_frame ram.count at && not (list_any (nat_eq at) (seen ++ numbers_of earlier))) (also (front_at l (ram.page at)) (λ g. cond (test earlier g.items g.next) (Some g) None)) f e in
    let b = and_parts (is_frame ram.count at) (not (list_any (nat_eq at) (seen ++ numbers_of earlier))) a.0 in
    let c = also_some (front_at l (ram.page at)) (λ g. cond (test earlier g.items g.next) (Some g) None) f a.1 in
    let d = then_some (test earlier c.0.items c.0.next) c.0 f c.2 in
    let F : Front E → Type 0 = λ g. FrontFound l bytes ok (ram.page at) g in
    let T : Front E → Type 0 = λ g. test earlier g.items g.next ≡ true in
    record {
      frame = b.0;
      new = not-true (list_any (nat_eq at) (seen ++ numbers_of earlier)) b.1;
      front = subst F d.1 (front_found l bytes ok laid.finds laid.head (ram.page at) c.0 (holds.bytes at (frame_below ram.count at b.0)) (omega (arith, laid.room, holds.size at (frame_below ram.count at b.0))) c.1);
      holds = subst T d.1 d.0;
    }

all_with : {E : Type 0} (P : E → Bool) (xs ys : List E) → list_all P xs ≡ true → list_all P ys ≡ true → list_all P (xs ++ ys) ≡ true
all_with P xs ys h g = list_all-append P xs ys ∙ and_from (list_all P xs) (list_all P ys) h g

-- the facts of a sheet and those of the chain after it
with_sheet : {E : Type 0} (ram : Ram) (l : Layout E) (bytes : E → List ℕ) (ok : E → Bool) (test : List (Sheet E) → List E → ℕ → Bool) (seen : List ℕ) (earlier : List (Sheet E)) (at : ℕ)
    (f : Front E) (whole : List (Sheet E)) → SheetFound ram l bytes ok test seen earlier at f
    → ChainFound ram l bytes ok test seen (earlier ++ (record { at = at; items = f.items }) ∷ []) f.next whole → ChainFound ram l bytes ok test seen earlier at whole
with_sheet {E = E} ram l bytes ok test seen earlier at f whole s c = by_rest c.rest refl
  where
    by_rest : (rest : List (Sheet E)) → c.rest ≡ rest → ChainFound ram l bytes ok test seen earlier at whole
    by_rest [] e = let no : true ≡ false = ap is_empty (sym e) ∙ c.filled in absurd cc
    by_rest (t ∷ ts) e =
        let now : Sheet E = record { at = at; items = f.items } in
        let next : t.at ≡ f.next = ap first_of (sym e) ∙ c.begins in
        let K : List (Sheet E) → Type 0 = λ r. keeps_from test (earlier ++ now ∷ []) r ≡ true in
        let P : List (Sheet E) → Type 0 = λ r. HavePages ram (chain_pages l.head bytes r) in
        let B : ℕ → Type 0 = λ n. Begins (ram.page at) (sheet_bytes l.head bytes n f.items) in
        let numbers : (seen ++ numbers_of (earlier ++ now ∷ [])) ++ numbers_of (t ∷ ts) ≡ (seen ++ numbers_of earlier) ++ numbers_of (now ∷ t ∷ ts) =
        ap (λ (x : List ℕ). (seen ++ x) ++ numbers_of (t ∷ ts)) (map-append (λ q. q.at) earlier (now ∷ []))
        ∙ ap (λ (x : List ℕ). x ++ numbers_of (t ∷ ts)) (sym (append_assoc seen (numbers_of earlier) (at ∷ [])))
        ∙ append_assoc (seen ++ numbers_of earlier) (at ∷ []) (numbers_of (t ∷ ts)) in
        record {
          rest = now ∷ t ∷ ts;
          parts = c.parts ∙ ap (λ (x : List (Sheet E)). earlier ++ now ∷ [] ++ x) e ∙ append_assoc earlier (now ∷ []) (t ∷ ts);
          begins = refl;
          filled = refl;
          keeps = and_from (test earlier f.items t.at) (keeps_from test (earlier ++ now ∷ []) (t ∷ ts)) (ap (test earlier f.items) next ∙ s.holds) (subst K e c.keeps);
          each = all_with ok f.items (items_of (t ∷ ts)) s.front.each (ap (λ (x : List (Sheet E)). list_all ok (items_of x)) (sym e) ∙ c.each);
          frames = and_from (is_frame ram.count at) (list_all (is_frame ram.count) (numbers_of (t ∷ ts))) s.frame (ap (λ (x : List (Sheet E)). list_all (is_frame ram.count) (numbers_of x)) (sym e) ∙ c.frames);
          apart = ap all_apart (sym numbers) ∙ ap (λ (x : List (Sheet E)). all_apart ((seen ++ numbers_of (earlier ++ now ∷ [])) ++ numbers_of x)) (sym e) ∙ c.apart;
          pages = (subst B (sym next) s.front.begins, subst P e c.pages);
        }

abbrev all_read : {E : Type 0} → List (Sheet E) → Result (List (Sheet E)) ℕ
all_read x = Ok x

whole_is : {E : Type 0} (x y : List (Sheet E)) → all_read x ≡ all_read y → x ≡ y
whole_is x y e = cc

pub chain_found : {E : Type 0} (ram : Ram) (l : Layout E) (bytes : E → List ℕ) (ok : E → Bool) (test : List (Sheet E) → List E → ℕ → Bool) (seen : List ℕ) → Laid l bytes ok → Holds ram
    → (fuel : ℕ) (earlier : List (Sheet E)) (at : ℕ) (whole : List (Sheet E)) → all_apart (seen ++ numbers_of earlier) ≡ true
    → chain_from (sheet_at ram l test seen) fuel earlier at ≡ Ok whole → ChainFound ram l bytes ok test seen earlier at whole
chain_found ram l bytes ok test seen laid holds zero earlier at whole apart e = absurd cc
chain_found {E = E} ram l bytes ok test seen laid holds (suc fuel) earlier at whole apart e =
    by_front (λ before p fresh g. chain_found ram l bytes ok test seen laid holds fuel before p whole fresh g) (sheet_at ram l test seen earlier at) refl e
  where
    numbers_more : (f : Front E) → SheetFound ram l bytes ok test seen earlier at f → all_apart (seen ++ numbers_of (earlier ++ (record { at = at; items = f.items }) ∷ [])) ≡ true
    numbers_more f s =
        ap (λ (x : List ℕ). all_apart (seen ++ x)) (map-append (λ q. q.at) earlier ((record { at = at; items = f.items }) ∷ []))
        ∙ ap all_apart (sym (append_assoc seen (numbers_of earlier) (at ∷ []))) ∙ apart_more (seen ++ numbers_of earlier) at apart s.new

    by_next : ((before : List (Sheet E)) (p : ℕ) → all_apart (seen ++ numbers_of before) ≡ true → chain_from (sheet_at ram l test seen) fuel before p ≡ Ok whole → ChainFound ram l bytes ok test seen before p whole) → (f : Front E) → SheetFound ram l bytes ok test seen earlier at f → (b : Bool) → eqb f.next 0 ≡ b
        → cond b (Ok (earlier ++ (record { at = at; items = f.items }) ∷ [])) (chain_from (sheet_at ram l test seen) fuel (earlier ++ (record { at = at; items = f.items }) ∷ []) f.next) ≡ Ok whole
        → ChainFound ram l bytes ok test seen earlier at whole
    by_next more f s true b e =
        let last : f.next ≡ 0 = eqb-true f.next 0 b in
        let B : ℕ → Type 0 = λ n. Begins (ram.page at) (sheet_bytes l.head bytes n f.items) in
        record {
          rest = (record { at = at; items = f.items }) ∷ [];
          parts = sym (whole_is (earlier ++ (record { at = at; items = f.items }) ∷ []) whole e);
          begins = refl;
          filled = refl;
          keeps = ap (test earlier f.items) (sym last) ∙ s.holds;
          each = all_with ok f.items [] s.front.each refl;
          frames = and_from (is_frame ram.count at) true s.frame refl;
          apart = apart_more (seen ++ numbers_of earlier) at apart s.new;
          pages = (subst B last s.front.begins, tt);
        }
    by_next more f s false b e =
        with_sheet ram l bytes ok test seen earlier at f whole s
        (more (earlier ++ (record { at = at; items = f.items }) ∷ []) f.next (numbers_more f s) e)

    by_front : ((before : List (Sheet E)) (p : ℕ) → all_apart (seen ++ numbers_of before) ≡ true → chain_from (sheet_at ram l test seen) fuel before p ≡ Ok whole → ChainFound ram l bytes ok test seen before p whole) → (o : Option (Front E)) → sheet_at ram l test seen earlier at ≡ o → go_on earlier at (chain_from (sheet_at ram l test seen) fuel) o ≡ Ok whole
        → ChainFound ram l bytes ok test seen earlier at whole
    by_front more None h e = absurd cc
    by_front more (Some f) h e = by_next more f (sheet_found ram l bytes ok test seen laid holds earlier at f h) (eqb f.next 0) refl e

chunk_laid : Laid chunk_layout element_bytes element_fits
chunk_laid = record { finds = chunk_finds; head = omega arith; room = omega arith }

pub chunks_found : (ram : Ram) (first : ℕ) (chain : List (Sheet Element)) → Holds ram → chunks_at ram first ≡ Ok chain → SpellChain ram first chain
unfolding chunks_at chain_at
chunks_found ram first chain holds e =
    let c = chain_found ram chunk_layout element_bytes element_fits (is_chunk_sheet ram.count) [] chunk_laid holds ram.count [] first chain refl e in
    let P : List (Sheet Element) → Type 0 = λ x. SpellChain ram first x in
    subst P (sym c.parts) (record {
      begins = c.begins;
      rules =
          and_from (not (is_empty c.rest) && keeps (is_chunk_sheet ram.count) c.rest && list_all element_fits (items_of c.rest) && list_all (is_frame ram.count) (numbers_of c.rest)) (all_apart (numbers_of c.rest))
          (and_from (not (is_empty c.rest) && keeps (is_chunk_sheet ram.count) c.rest && list_all element_fits (items_of c.rest)) (list_all (is_frame ram.count) (numbers_of c.rest))
          (and_from (not (is_empty c.rest) && keeps (is_chunk_sheet ram.count) c.rest) (list_all element_fits (items_of c.rest))
          (and_from (not (is_empty c.rest)) (keeps (is_chunk_sheet ram.count) c.rest) (ap not c.filled) c.keeps) c.each) c.frames) c.apart;
      pages = c.pages;
    })
