-- A chain that keeps its rules and stands in the frames is read.
use Rattle.std.proofs.Common.{◌≡◌, ℕ, zero, suc, ◌^◌, ◌<◌, ◌≤◌, Bool, true, false, cond, eqb, List, [], ◌∷◌, ◌++◌, length, Option, Some, None, Ok, refl, sym, ap, ◌∙◌, append_assoc, arith}
use Rattle.std.specs.Prelude.{nat_eq, nat_lt, nat_le, not, ◌&&◌}
use Rattle.std.specs.List.{list_all, list_any}
use Rattle.std.proofs.lemmas.Bool.{leb-true, ltb-true, lt-ltb, ne_eqb, and_parts, and_from}
use Rattle.std.proofs.lemmas.List.{map-append, length-map}
use Rattle.record_frames.specs.Ram.{Ram, Begins, is_frame}
use Rattle.record_frames.specs.Sheets.{Sheet, numbers_of, sheet_bytes, chain_pages}
use Rattle.record_frames.specs.Rules.{keeps_from, keeps, all_apart}
use Rattle.record_frames.specs.Carries.{HavePages}
use Rattle.record_frames.specs.Reading.{Front, Layout, also, go_on, sheet_at, front_at, chain_from, chain_at}
use Rattle.record_frames.proofs.Fronts.{Again, front_again}
use Rattle.record_frames.proofs.Apart.{apart_behind, apart_rest, few_apart}

-- what a layout's items and their bytes are
pub record Read {E : Type 0} (l : Layout E) (bytes : E → List ℕ) (ok : E → Bool) : Type 0 where
  pub again : (x : E) → ok x ≡ true → Again l bytes x
  pub most : l.most < 2 ^ 64
  pub head : 16 ≤ l.head

-- a sheet's number names a frame of n, and it has items as the layout has them
abbrev pub is_laid : {E : Type 0} → ℕ → Layout E → (E → Bool) → Sheet E → Bool
is_laid n l ok s = is_frame n s.at && (nat_le (length s.items) l.most && list_all ok s.items)

pub frame_nonzero : (n p : ℕ) → is_frame n p ≡ true → eqb p 0 ≡ false
frame_nonzero n p h =
    let up = ltb-true 0 p (and_parts (nat_lt 0 p) (nat_lt p n) h).0 in
    ne_eqb p 0 (λ e. omega (arith, up, e))

pub frame_below : (n p : ℕ) → is_frame n p ≡ true → p < n
frame_below n p h = ltb-true p n (and_parts (nat_lt 0 p) (nat_lt p n) h).1

sheet_again : {E : Type 0} (ram : Ram) (l : Layout E) (bytes : E → List ℕ) (ok : E → Bool) (test : List (Sheet E) → List E → ℕ → Bool) (seen : List ℕ)
    → Read l bytes ok → (earlier : List (Sheet E)) (s : Sheet E) (next : ℕ) → next < 2 ^ 64 → is_laid ram.count l ok s ≡ true → test earlier s.items next ≡ true
    → list_any (nat_eq s.at) (seen ++ numbers_of earlier) ≡ false → Begins (ram.page s.at) (sheet_bytes l.head bytes next s.items)
    → sheet_at ram l test seen earlier s.at ≡ Some (record { next = next; items = s.items })
unfolding sheet_at
sheet_again ram l bytes ok test seen r earlier s next fits laid holds new begins =
    let ls = and_parts (is_frame ram.count s.at) (nat_le (length s.items) l.most && list_all ok s.items) laid in
    let is = and_parts (nat_le (length s.items) l.most) (list_all ok s.items) ls.1 in
    let front = front_again l bytes ok r.again next s.items (ram.page s.at) fits (leb-true (length s.items) l.most is.0) r.most r.head is.1 begins in
    ap (λ (b : Bool). cond b (also (front_at l (ram.page s.at)) (λ f. cond (test earlier f.items f.next) (Some f) None)) None)
    (and_from (is_frame ram.count s.at) (not (list_any (nat_eq s.at) (seen ++ numbers_of earlier))) ls.0 (ap not new))
    ∙ ap (λ (o : Option (Front _)). also o (λ f. cond (test earlier f.items f.next) (Some f) None)) front
    ∙ ap (λ (b : Bool). cond b (Some (record { next = next; items = s.items })) None) holds

-- the numbers so far, with one more
more_numbers : {E : Type 0} (seen : List ℕ) (earlier : List (Sheet E)) (s : Sheet E) (rest : List ℕ)
    → (seen ++ numbers_of earlier) ++ s.at ∷ rest ≡ (seen ++ numbers_of (earlier ++ s ∷ [])) ++ rest
more_numbers seen earlier s rest =
    sym (ap (λ (x : List ℕ). (seen ++ x) ++ rest) (map-append (λ t. t.at) earlier (s ∷ []))
    ∙ ap (λ (x : List ℕ). x ++ rest) (sym (append_assoc seen (numbers_of earlier) (s.at ∷ [])))
    ∙ append_assoc (seen ++ numbers_of earlier) (s.at ∷ []) rest)

chain_behind : {E : Type 0} (ram : Ram) (l : Layout E) (bytes : E → List ℕ) (ok : E → Bool) (test : List (Sheet E) → List E → ℕ → Bool) (seen : List ℕ)
    → Read l bytes ok → ram.count ≤ 2 ^ 64 → (fuel : ℕ) (earlier : List (Sheet E)) (s : Sheet E) (sheets : List (Sheet E)) → length sheets < fuel
    → list_all (is_laid ram.count l ok) (s ∷ sheets) ≡ true → keeps_from test earlier (s ∷ sheets) ≡ true
    → all_apart ((seen ++ numbers_of earlier) ++ numbers_of (s ∷ sheets)) ≡ true → HavePages ram (chain_pages l.head bytes (s ∷ sheets))
    → chain_from (sheet_at ram l test seen) fuel earlier s.at ≡ Ok (earlier ++ s ∷ sheets)
chain_behind ram l bytes ok test seen r small zero earlier s sheets long laid holds apart pages = absurd (omega (arith, long))
chain_behind ram l bytes ok test seen r small (suc fuel) earlier s [] long laid holds apart pages =
    let read = sheet_at ram l test seen in
    let now = sheet_again ram l bytes ok test seen r earlier s 0 (omega arith) (and_parts (is_laid ram.count l ok s) true laid).0 holds
    (apart_behind (seen ++ numbers_of earlier) s.at [] apart) pages.0 in
    ap (λ (o : Option (Front _)). go_on earlier s.at (chain_from read fuel) o) now
chain_behind ram l bytes ok test seen r small (suc fuel) earlier s (t ∷ ts) long laid holds apart pages =
    let read = sheet_at ram l test seen in
    let ls = and_parts (is_laid ram.count l ok s) (list_all (is_laid ram.count l ok) (t ∷ ts)) laid in
    let ts' = and_parts (is_laid ram.count l ok t) (list_all (is_laid ram.count l ok) ts) ls.1 in
    let frame = (and_parts (is_frame ram.count t.at) (nat_le (length t.items) l.most && list_all ok t.items) ts'.0).0 in
    let hs = and_parts (test earlier s.items t.at) (keeps_from test (earlier ++ s ∷ []) (t ∷ ts)) holds in
    let now = sheet_again ram l bytes ok test seen r earlier s t.at (omega (arith, small, frame_below ram.count t.at frame)) ls.0 hs.0
    (apart_behind (seen ++ numbers_of earlier) s.at (numbers_of (t ∷ ts)) apart) pages.0 in
    let rest = chain_behind ram l bytes ok test seen r small fuel (earlier ++ s ∷ []) t ts (omega (arith, long)) ls.1 hs.1
    (ap all_apart (sym (more_numbers seen earlier s (numbers_of (t ∷ ts)))) ∙ apart) pages.1 in
    ap (λ (o : Option (Front _)). go_on earlier s.at (chain_from read fuel) o) now
    ∙ ap (λ (b : Bool). cond b (Ok (earlier ++ s ∷ [])) (chain_from read fuel (earlier ++ s ∷ []) t.at)) (frame_nonzero ram.count t.at frame)
    ∙ rest
    ∙ ap (λ (x : List (Sheet _)). Ok x) (append_assoc earlier (s ∷ []) (t ∷ ts))

laid_below : {E : Type 0} (n : ℕ) (l : Layout E) (ok : E → Bool) (sheets : List (Sheet E)) → list_all (is_laid n l ok) sheets ≡ true → list_all (λ x. nat_lt x n) (numbers_of sheets) ≡ true
laid_below n l ok [] h = refl
laid_below n l ok (s ∷ sheets) h =
    let hs = and_parts (is_laid n l ok s) (list_all (is_laid n l ok) sheets) h in
    let frame = (and_parts (is_frame n s.at) (nat_le (length s.items) l.most && list_all ok s.items) hs.0).0 in
    and_from (nat_lt s.at n) (list_all (λ x. nat_lt x n) (numbers_of sheets)) (lt-ltb s.at n (frame_below n s.at frame)) (laid_below n l ok sheets hs.1)

pub chain_again : {E : Type 0} (ram : Ram) (l : Layout E) (bytes : E → List ℕ) (ok : E → Bool) (test : List (Sheet E) → List E → ℕ → Bool) (seen : List ℕ)
    → Read l bytes ok → ram.count ≤ 2 ^ 64 → (s : Sheet E) (sheets : List (Sheet E))
    → list_all (is_laid ram.count l ok) (s ∷ sheets) ≡ true → keeps test (s ∷ sheets) ≡ true
    → all_apart (seen ++ numbers_of (s ∷ sheets)) ≡ true → HavePages ram (chain_pages l.head bytes (s ∷ sheets))
    → chain_at ram l test seen s.at ≡ Ok (s ∷ sheets)
unfolding chain_at
chain_again {E = E} ram l bytes ok test seen r small s sheets laid holds apart pages =
    let few = few_apart ram.count (numbers_of (s ∷ sheets)) (apart_rest seen (numbers_of (s ∷ sheets)) apart) (laid_below ram.count l ok (s ∷ sheets) laid) in
    let len : length (numbers_of (s ∷ sheets)) ≡ length (s ∷ sheets) = length-map (s ∷ sheets) (λ (t : Sheet E). t.at) in
    chain_behind ram l bytes ok test seen r small ram.count [] s sheets (omega (arith, few, len)) laid holds
    (ap (λ (x : List ℕ). all_apart (x ++ numbers_of (s ∷ sheets))) (empty_behind seen) ∙ apart) pages
  where
    empty_behind : (xs : List ℕ) → xs ++ [] ≡ xs
    empty_behind [] = refl
    empty_behind (x ∷ xs) = ap (λ (y : List ℕ). x ∷ y) (empty_behind xs)
