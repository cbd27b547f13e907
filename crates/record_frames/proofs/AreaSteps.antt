-- Areas that are read one by one, and the shape that they make.
use Rattle.std.proofs.Common.{◌≡◌, ℕ, suc, ◌+◌, ◌-◌, ◌*◌, ◌%◌, ◌/◌, ◌<◌, ◌≤◌, eqb, Bool, true, false, cond, List, [], ◌∷◌, ◌++◌, length, take, drop, Option, Some, None, refl, sym, ap, ◌∙◌, arith, append_assoc}
use Rattle.std.specs.Prelude.{◌&&◌, nat_lt, nat_le}
use Rattle.std.specs.Int.{w64, from_be_bytes}
use Rattle.std.specs.List.{list_all}
use Rattle.std.proofs.lemmas.List.{drop-drop}
use Rattle.std.proofs.lemmas.List.Folds.{list_all-append}
use Rattle.std.proofs.lemmas.Bool.{leb-true, ne_eqb}
use Rattle.std.proofs.lemmas.Bool.Decides.{nat_tests}
use Rattle.ho_base.specs.ShapeRule.{Layout, area_end, is_area, all_apart, map_fits, is_layout}
use Rattle.ho_base.specs.declared.shape.Area.{Area}
use Rattle.ho_base.specs.declared.limits.TheConstants.{MIN_FRAMES, MAX_FRAMES, SCRATCH_AREAS}
use Rattle.record_frames.specs.Handover.{areas_of, shape_of}

abbrev be_at : ℕ → List ℕ → ℕ
be_at i bytes = from_be_bytes w64 (take 8 (drop i bytes))

abbrev pub area_with : ℕ → ℕ → Area
area_with first count = record { first = record { 0 = first }; count = count }

-- the areas from a place on
pub areas_step : (k i first count : ℕ) (bytes : List ℕ) → i < k → first ≡ be_at (16 * i) bytes → count ≡ be_at (16 * i + 8) bytes
    → areas_of (k - i) (drop (16 * i) bytes) ≡ area_with first count ∷ areas_of (k - (i + 1)) (drop (16 * (i + 1)) bytes)
areas_step k i first count bytes lt f n =
    let one : k - i ≡ suc (k - (i + 1)) = omega (arith, lt) in
    let next : 16 * i + 16 ≡ 16 * (i + 1) = omega arith in
    let rest = areas_of (k - (i + 1)) (drop (16 * (i + 1)) bytes) in
    ap (λ (m : ℕ). areas_of m (drop (16 * i) bytes)) one
    ∙ ap (λ (l : List ℕ). area_with (be_at (16 * i) bytes) (from_be_bytes w64 (take 8 l)) ∷ areas_of (k - (i + 1)) (drop 16 (drop (16 * i) bytes))) (drop-drop 8 (16 * i) bytes)
    ∙ ap (λ (l : List ℕ). area_with (be_at (16 * i) bytes) (be_at (16 * i + 8) bytes) ∷ areas_of (k - (i + 1)) l) (drop-drop 16 (16 * i) bytes ∙ ap (λ (m : ℕ). drop m bytes) next)
    ∙ ap (λ (x : ℕ). area_with x (be_at (16 * i + 8) bytes) ∷ rest) (sym f)
    ∙ ap (λ (x : ℕ). area_with first x ∷ rest) (sym n)

abbrev pub AreRead : ℕ → List ℕ → ℕ → List Area → Type 0
AreRead k bytes i areas = areas ++ areas_of (k - i) (drop (16 * i) bytes) ≡ areas_of k bytes

pub areas_more : (k i first count : ℕ) (bytes : List ℕ) (areas new : List Area) → AreRead k bytes i areas → i < k → first ≡ be_at (16 * i) bytes → count ≡ be_at (16 * i + 8) bytes
    → new ≡ areas ++ area_with first count ∷ [] → AreRead k bytes (i + 1) new
areas_more k i first count bytes areas new h lt f n push =
    let rest = areas_of (k - (i + 1)) (drop (16 * (i + 1)) bytes) in
    ap (λ (l : List Area). l ++ rest) push ∙ append_assoc areas (area_with first count ∷ []) rest
    ∙ ap (λ (l : List Area). areas ++ l) (sym (areas_step k i first count bytes lt f n)) ∙ h

-- ---- an area that ends past all frames

last_no : (b : Bool) → (b && false) ≡ false
last_no true = refl
last_no false = refl

past : (x n : ℕ) → n < x → nat_le x n ≡ false
past x n h = grind (arith, nat_tests)

cut : (a b c d e f g : Bool) → (b ≡ true → e ≡ false) → (a && b && c && d && e && f && g) ≡ false
cut false b c d e f g h = refl
cut true false c d e f g h = refl
cut true true false d e f g h = refl
cut true true true false e f g h = refl
cut true true true true e f g h = ap (λ (x : Bool). x && f && g) (h refl)

large_area : (n : ℕ) (xs : List Area) (a : Area) (ys : List Area) → MAX_FRAMES < area_end a → is_layout n (xs ++ a ∷ ys) ≡ false
large_area n xs a ys h =
    let areas = xs ++ a ∷ ys in
    cut (nat_le MIN_FRAMES n) (nat_le n MAX_FRAMES) (nat_lt 0 (length areas)) (nat_le (length areas) SCRATCH_AREAS) (list_all (is_area n) areas) (all_apart areas) (map_fits n areas)
    (λ few.
    let le : n ≤ MAX_FRAMES = leb-true n MAX_FRAMES few in
    list_all-append (is_area n) xs (a ∷ ys)
    ∙ ap (λ (b : Bool). list_all (is_area n) xs && ((nat_lt 0 a.count && nat_lt 0 a.first.0 && b) && list_all (is_area n) ys)) (past (area_end a) n (omega (arith, le, h)))
    ∙ ap (λ (b : Bool). list_all (is_area n) xs && (b && list_all (is_area n) ys)) (last_no (nat_lt 0 a.count && nat_lt 0 a.first.0))
    ∙ last_no (list_all (is_area n) xs))

pub areas_large : (k i first count : ℕ) (bytes : List ℕ) (areas : List Area) → AreRead k bytes i areas → i < k → first ≡ be_at (16 * i) bytes → count ≡ be_at (16 * i + 8) bytes
    → MAX_FRAMES < first + count → (n : ℕ) → is_layout n (areas_of k bytes) ≡ false
areas_large k i first count bytes areas h lt f c large n =
    let rest = areas_of (k - (i + 1)) (drop (16 * (i + 1)) bytes) in
    ap (is_layout n) (sym h ∙ ap (λ (l : List Area). areas ++ l) (areas_step k i first count bytes lt f c)) ∙ large_area n areas (area_with first count) rest large

-- ---- the shape

abbrev shape_with : ℕ → List Area → Option Layout
shape_with n areas = Some (record { frames = n; scratch = areas })

pub shape_odd : (n : ℕ) (value : List ℕ) → (length value % 16 ≡ 0 → ⊥) → shape_of n value ≡ None
shape_odd n value h =
    let areas = areas_of (length value / 16) value in
    ap (λ (b : Bool). cond (b && is_layout n areas) (shape_with n areas) None) (ne_eqb (length value % 16) 0 h)

pub shape_read : (n : ℕ) (value : List ℕ) (areas : List Area) (b : Bool) → length value % 16 ≡ 0 → areas ≡ areas_of (length value / 16) value → is_layout n areas ≡ b
    → shape_of n value ≡ cond b (shape_with n areas) None
shape_read n value areas b h is e =
    let all = areas_of (length value / 16) value in
    ap (λ (m : ℕ). cond (eqb m 0 && is_layout n all) (shape_with n all) None) h
    ∙ ap (λ (l : List Area). cond (true && is_layout n l) (shape_with n l) None) (sym is)
    ∙ ap (λ (x : Bool). cond x (shape_with n areas) None) e
