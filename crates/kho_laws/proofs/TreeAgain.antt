-- The tree that is written is read as it was meant.
use Rattle.std.proofs.Common.{◌≡◌, ℕ, ◌*◌, ◌/◌, ◌%◌, ◌^◌, ◌≤◌, Bool, true, List, [], ◌∷◌, length, Option, Some, None, refl, sym, ap, ◌∙◌, arith}
use Rattle.std.specs.Prelude.{◌&&◌, ◌==◌, nat_le, nat_lt}
use Rattle.std.specs.Int.{w64, to_be_bytes, from_be_bytes}
use Rattle.std.specs.List.{flat_map, list_all}
use Rattle.std.proofs.lemmas.Bool.{ltb-true, lt-ltb, leb-true, eqb-true, and_parts}
use Rattle.std.proofs.lemmas.List.{length-append}
use Rattle.std.proofs.lemmas.Nat.{from_be_bytes-to_be_bytes_8}
use Rattle.ho_base.specs.ShapeRule.{Layout, area_end, is_area, all_apart, map_fits, is_layout}
use Rattle.ho_base.specs.declared.shape.Area.{Area}
use Rattle.ho_base.specs.declared.limits.TheConstants.{MIN_FRAMES, MAX_FRAMES, SCRATCH_AREAS}
use Rattle.ho_world.specs.Frozen.{MOST_UPDATES}
use Rattle.record_frames.specs.Rules.{version_1, fits}
use Rattle.record_frames.specs.Handover.{◌>>=◌, only_if, Luo, areas_of, shape_of, root_of, luo_of}
use Rattle.record_frames.proofs.AreaSteps.{shape_read}
use Rattle.kho_laws.specs.Tree.{area_bytes, luo_tree, bound_fits, RootAgain, LuoAgain}

-- a number from its 8 bytes
abbrev round : ℕ → ℕ
round n = from_be_bytes w64 (to_be_bytes w64 n)

round_is : (n : ℕ) → fits n ≡ true → round n ≡ n
round_is n h = from_be_bytes-to_be_bytes_8 n (ltb-true n (2 ^ 64) h)

-- ---- the areas

areas_again : (n : ℕ) → n ≤ MAX_FRAMES → (areas : List Area) → list_all (is_area n) areas ≡ true → areas_of (length areas) (flat_map area_bytes areas) ≡ areas
areas_again n few [] h = refl
areas_again n few (a ∷ areas) h =
    let hs = and_parts (is_area n a) (list_all (is_area n) areas) h in
    let p = and_parts (nat_lt 0 a.count && nat_lt 0 a.first.0) (nat_le (area_end a) n) hs.0 in
    let end : area_end a ≤ n = leb-true (area_end a) n p.1 in
    let first = from_be_bytes-to_be_bytes_8 a.first.0 (omega (arith, end, few)) in
    let count = from_be_bytes-to_be_bytes_8 a.count (omega (arith, end, few)) in
    let rest = areas_again n few areas hs.1 in
    λ j. record { first = record { 0 = first j }; count = count j } ∷ rest j

area_bytes_long : (areas : List Area) → length (flat_map area_bytes areas) ≡ 16 * length areas
area_bytes_long [] = refl
area_bytes_long (a ∷ areas) =
    let one : length (area_bytes a) ≡ 16 = refl in
    let rest = area_bytes_long areas in
    length-append (area_bytes a) (flat_map area_bytes areas) ∙ omega (arith, one, rest)

-- what the rule of shapes says of the areas
pub legal_areas : (n : ℕ) (areas : List Area) → is_layout n areas ≡ true → (n ≤ MAX_FRAMES) × (list_all (is_area n) areas ≡ true)
legal_areas n areas h =
    let a = and_parts _ (map_fits n areas) h in
    let b = and_parts _ (all_apart areas) a.0 in
    let c = and_parts (nat_le MIN_FRAMES n && nat_le n MAX_FRAMES && nat_lt 0 (length areas) && nat_le (length areas) SCRATCH_AREAS) (list_all (is_area n) areas) b.0 in
    let d = and_parts (nat_le MIN_FRAMES n && nat_le n MAX_FRAMES && nat_lt 0 (length areas)) (nat_le (length areas) SCRATCH_AREAS) c.0 in
    let e = and_parts (nat_le MIN_FRAMES n && nat_le n MAX_FRAMES) (nat_lt 0 (length areas)) d.0 in
    let f = and_parts (nat_le MIN_FRAMES n) (nat_le n MAX_FRAMES) e.0 in
    (leb-true n MAX_FRAMES f.1, c.1)

shape_again : (shape : Layout) → is_layout shape.frames shape.scratch ≡ true → shape_of shape.frames (flat_map area_bytes shape.scratch) ≡ Some shape
shape_again shape legal =
    let value = flat_map area_bytes shape.scratch in
    let known = legal_areas shape.frames shape.scratch legal in
    let long = area_bytes_long shape.scratch in
    let many : length value / 16 ≡ length shape.scratch = omega (arith, long) in
    let whole : length value % 16 ≡ 0 = omega (arith, long) in
    let areas = areas_again shape.frames known.0 shape.scratch known.1 in
    shape_read shape.frames value shape.scratch true whole (sym areas ∙ ap (λ (k : ℕ). areas_of k value) (sym many)) legal

-- ---- the root

pub root_again : RootAgain
unfolding root_of
root_again shape chunk l legal small =
    let n = shape.frames in
    let value = flat_map area_bytes shape.scratch in
    ap (λ (k : ℕ). shape_of n value >>= λ s. Some (record { version = version_1; shape = s; chunk = k; luo = luo_tree version_1 l })) (round_is chunk small)
    ∙ ap (λ (o : Option Layout). o >>= λ s. Some (record { version = version_1; shape = s; chunk = chunk; luo = luo_tree version_1 l })) (shape_again shape legal)

-- ---- the child

abbrev bound_round : Option ℕ → Option ℕ
bound_round None = None
bound_round (Some p) = Some (round p)

-- the child from its numbers
abbrev told : ℕ → ℕ → List (Option ℕ) → Option Luo
told n h bounds = only_if (true && nat_le 1 n && nat_le n MOST_UPDATES && true && true) (record { number = n; header = h; bounds = bounds })

abbrev luo_with : ℕ → ℕ → Option ℕ → Option ℕ → Option ℕ → Option ℕ → Luo
luo_with n h a b c d = record { number = n; header = h; bounds = a ∷ b ∷ c ∷ d ∷ [] }

luo_is : (n h : ℕ) (a b c d : Option ℕ) → luo_of version_1 (luo_tree version_1 (luo_with n h a b c d)) ≡ told (round n) (round h) (bound_round a ∷ bound_round b ∷ bound_round c ∷ bound_round d ∷ [])
unfolding luo_of
luo_is n h None None None None = refl
luo_is n h None None None (Some s) = refl
luo_is n h None None (Some r) None = refl
luo_is n h None None (Some r) (Some s) = refl
luo_is n h None (Some q) None None = refl
luo_is n h None (Some q) None (Some s) = refl
luo_is n h None (Some q) (Some r) None = refl
luo_is n h None (Some q) (Some r) (Some s) = refl
luo_is n h (Some p) None None None = refl
luo_is n h (Some p) None None (Some s) = refl
luo_is n h (Some p) None (Some r) None = refl
luo_is n h (Some p) None (Some r) (Some s) = refl
luo_is n h (Some p) (Some q) None None = refl
luo_is n h (Some p) (Some q) None (Some s) = refl
luo_is n h (Some p) (Some q) (Some r) None = refl
luo_is n h (Some p) (Some q) (Some r) (Some s) = refl

bound_again : (b : Option ℕ) → bound_fits b ≡ true → bound_round b ≡ b
bound_again None h = refl
bound_again (Some p) h = ap (λ (x : ℕ). Some x) (round_is p h)

can_be_told : (n h : ℕ) (bounds : List (Option ℕ)) → nat_le 1 n ≡ true → nat_le n MOST_UPDATES ≡ true → told n h bounds ≡ Some (record { number = n; header = h; bounds = bounds })
can_be_told n h bounds some few =
    ap (λ (t : Bool). only_if (t && nat_le n MOST_UPDATES && true && true) (record { number = n; header = h; bounds = bounds })) some
    ∙ ap (λ (t : Bool). only_if (t && true && true) (record { number = n; header = h; bounds = bounds })) few

with_bounds : (n h : ℕ) (bounds : List (Option ℕ)) → fits n ≡ true → fits h ≡ true → nat_le 1 n ≡ true → nat_le n MOST_UPDATES ≡ true → length bounds ≡ 4 → list_all bound_fits bounds ≡ true
    → luo_of version_1 (luo_tree version_1 (record { number = n; header = h; bounds = bounds })) ≡ Some (record { number = n; header = h; bounds = bounds })
with_bounds n h [] nf hf some few four fit = absurd (omega (arith, four))
with_bounds n h (a ∷ []) nf hf some few four fit = absurd (omega (arith, four))
with_bounds n h (a ∷ b ∷ []) nf hf some few four fit = absurd (omega (arith, four))
with_bounds n h (a ∷ b ∷ c ∷ []) nf hf some few four fit = absurd (omega (arith, four))
with_bounds n h (a ∷ b ∷ c ∷ d ∷ []) nf hf some few four fit =
    let as' = and_parts (bound_fits a) (list_all bound_fits (b ∷ c ∷ d ∷ [])) fit in
    let bs = and_parts (bound_fits b) (list_all bound_fits (c ∷ d ∷ [])) as'.1 in
    let cs = and_parts (bound_fits c) (list_all bound_fits (d ∷ [])) bs.1 in
    let ds = and_parts (bound_fits d) true cs.1 in
    luo_is n h a b c d
    ∙ (λ j. told (round_is n nf j) (round_is h hf j) (bound_again a as'.0 j ∷ bound_again b bs.0 j ∷ bound_again c cs.0 j ∷ bound_again d ds.0 j ∷ []))
    ∙ can_be_told n h (a ∷ b ∷ c ∷ d ∷ []) some few
with_bounds n h (a ∷ b ∷ c ∷ d ∷ e ∷ bounds) nf hf some few four fit = absurd (omega (arith, four))

pub luo_again : LuoAgain
luo_again l h =
    let a = and_parts _ (list_all bound_fits l.bounds) h in
    let b = and_parts _ (length l.bounds == 4) a.0 in
    let c = and_parts (nat_le 1 l.number && nat_le l.number MOST_UPDATES) (fits l.header) b.0 in
    let d = and_parts (nat_le 1 l.number) (nat_le l.number MOST_UPDATES) c.0 in
    let few : l.number ≤ MOST_UPDATES = leb-true l.number MOST_UPDATES d.1 in
    let small : fits l.number ≡ true = lt-ltb l.number (2 ^ 64) (omega (arith, few)) in
    with_bounds l.number l.header l.bounds small c.1 d.0 d.1 (eqb-true (length l.bounds) 4 b.1) a.1
