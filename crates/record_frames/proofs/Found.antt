-- What is read from a frame stands there.
use Rattle.std.proofs.Common.{◌≡◌, ℕ, zero, suc, ◌+◌, ◌-◌, ◌^◌, ◌<◌, ◌≤◌, Bool, true, false, cond, List, [], ◌∷◌, ◌++◌, length, get_or, take, drop, Option, Some, None, refl, sym, ap, subst, ◌∙◌, append_assoc, arith, inl, inr}
use Rattle.std.specs.Prelude.{nat_eq, nat_le, ◌&&◌}
use Rattle.std.specs.List.{list_all, flat_map}
use Rattle.std.proofs.lemmas.Bool.{leb-true, eqb-true, cases_lt, and_parts, and_from}
use Rattle.std.proofs.lemmas.List.{take-append-drop, length-take, get_or-take, get_or_past}
use Rattle.std.proofs.lemmas.Nat.{le_bytes_8}
use Rattle.std.proofs.Math.Seq.{take-append_seam}
use Rattle.ho_base.specs.Bytes.{u64_at}
use Rattle.record_frames.specs.Ram.{Begins}
use Rattle.record_frames.specs.Sheets.{number, zeros, sheet_bytes}
use Rattle.record_frames.specs.Reading.{Front, Layout, also, are_zero, items_at, front_at}

abbrev pub IsBytes : List ℕ → Type 0
IsBytes bytes = (i : ℕ) → get_or bytes i 0 < 256

pub IsBytes-drop : (n : ℕ) (bytes : List ℕ) → IsBytes bytes → IsBytes (drop n bytes)
IsBytes-drop zero bytes h = h
IsBytes-drop (suc n) [] h = h
IsBytes-drop (suc n) (x ∷ bytes) h = IsBytes-drop n bytes (λ i. h (suc i))

pub IsBytes-take : (n : ℕ) (bytes : List ℕ) → IsBytes bytes → IsBytes (take n bytes)
IsBytes-take n bytes h i =
    elim (cases_lt i n) [
      | inl lt ↦ rw (get_or-take n bytes i 0 lt) (h i)
      | inr le ↦ rw (get_or_past (take n bytes) i 0 (omega (arith, length-take n bytes))) (omega arith)
    ]

pub length_drop : (n : ℕ) (bytes : List ℕ) → length (drop n bytes) ≡ length bytes - n
length_drop zero bytes = omega arith
length_drop (suc n) [] = omega arith
length_drop (suc n) (x ∷ bytes) = length_drop n bytes ∙ omega arith

pub length_taken : (n : ℕ) (bytes : List ℕ) → n ≤ length bytes → length (take n bytes) ≡ n
length_taken n bytes h = omega (arith, length-take n bytes, h)

drop_none : (n : ℕ) → drop {A = ℕ} n [] ≡ []
drop_none zero = refl
drop_none (suc n) = refl

pub drop_more : (n m : ℕ) (bytes : List ℕ) → drop m (drop n bytes) ≡ drop (n + m) bytes
drop_more zero m bytes = ap (λ (k : ℕ). drop k bytes) (none m)
  where
    none : (m : ℕ) → m ≡ 0 + m
    none m = omega arith
drop_more (suc n) m [] = drop_none m ∙ sym (drop_none (suc n + m))
drop_more (suc n) m (x ∷ bytes) = drop_more n m bytes ∙ ap (λ (k : ℕ). drop k (x ∷ bytes)) (next n m)
  where
    next : (n m : ℕ) → suc (n + m) ≡ suc n + m
    next n m = omega arith

-- zeros, as many as there are
pub zeros_found : (bytes : List ℕ) → are_zero bytes ≡ true → bytes ≡ zeros (length bytes)
zeros_found [] h = refl
zeros_found (b ∷ bytes) h =
    let hs = and_parts (nat_eq 0 b) (are_zero bytes) h in
    ap (λ (x : ℕ). x ∷ bytes) (sym (eqb-true 0 b hs.0)) ∙ ap (λ (x : List ℕ). 0 ∷ x) (zeros_found bytes hs.1)

-- 8 bytes are those of the number that they spell, which is below 2^64
pub number_found : (bytes : List ℕ) (at : ℕ) → IsBytes bytes → at + 8 ≤ length bytes → number (u64_at bytes at) ≡ take 8 (drop at bytes)
number_found bytes at h long =
    let eight = drop at bytes in
    le_bytes_8 (take 8 eight) (u64_at bytes at) (length_taken 8 eight (omega (arith, length_drop at bytes, long))) (IsBytes-take 8 eight (IsBytes-drop at bytes h)) refl

pub number_fits : (bytes : List ℕ) (at : ℕ) → IsBytes bytes → u64_at bytes at < 2 ^ 64
number_fits bytes at h =
    let b = IsBytes-take 8 (drop at bytes) (IsBytes-drop at bytes h) in
    omega (arith, b 0, b 1, b 2, b 3, b 4, b 5, b 6, b 7)

-- what is read of an item is in its bytes
pub record Finds {E : Type 0} (l : Layout E) (bytes : E → List ℕ) (ok : E → Bool) : Type 0 where
  pub found : (b : List ℕ) (x : E) → length b ≡ l.size → IsBytes b → l.item b ≡ Some x → (bytes x ≡ b) × (ok x ≡ true)

pub also_some : {A B : Type 0} (o : Option A) (f : A → Option B) (y : B) → also o f ≡ Some y → (x : A) × (o ≡ Some x) × (f x ≡ Some y)
also_some None f y e = absurd cc
also_some (Some x) f y e = (x, refl, e)

pub then_some : {A : Type 0} (b : Bool) (x y : A) → cond b (Some x) None ≡ Some y → (b ≡ true) × (x ≡ y)
then_some true x y e = (refl, cc)
then_some false x y e = absurd cc

pub if_some : {A : Type 0} (b : Bool) (o : Option A) (y : A) → cond b o None ≡ Some y → (b ≡ true) × (o ≡ Some y)
if_some true o y e = (refl, e)
if_some false o y e = absurd cc

pub some_is : {A : Type 0} (x y : A) → Some x ≡ Some y → x ≡ y
some_is x y e = cc

-- so many items have so many bytes
abbrev pub long : ℕ → ℕ → ℕ
long size zero = 0
long size (suc k) = size + long size k

pub long_le : (size k m : ℕ) → k ≤ m → long size k ≤ long size m
long_le size zero m h = omega arith
long_le size (suc k) zero h = absurd (omega (arith, h))
long_le size (suc k) (suc m) h = omega (arith, long_le size k m (omega (arith, h)))

pub record ItemsFound {E : Type 0} (bytes : E → List ℕ) (ok : E → Bool) (b : List ℕ) (count : ℕ) (items : List E) : Type 0 where
  pub rest : List ℕ
  pub parts : b ≡ flat_map bytes items ++ rest
  pub each : list_all ok items ≡ true
  pub counted : length items ≡ count

pub items_found : {E : Type 0} (l : Layout E) (bytes : E → List ℕ) (ok : E → Bool) → Finds l bytes ok → (count : ℕ) (b : List ℕ) (items : List E) → IsBytes b → long l.size count ≤ length b
    → items_at l.size l.item count b ≡ Some items → ItemsFound bytes ok b count items
items_found l bytes ok finds zero b [] h room e = record { rest = b; parts = refl; each = refl; counted = refl }
items_found l bytes ok finds zero b (x ∷ xs) h room e = absurd cc
items_found {E = E} l bytes ok finds (suc k) b items h room e =
    let one = also_some (l.item (take l.size b)) (λ x. also (items_at l.size l.item k (drop l.size b)) (λ xs. Some (x ∷ xs))) items e in
    let more = also_some (items_at l.size l.item k (drop l.size b)) (λ xs. Some (one.0 ∷ xs)) items one.2 in
    let f = finds.found (take l.size b) one.0 (length_taken l.size b (omega (arith, room))) (IsBytes-take l.size b h) one.1 in
    let r = items_found l bytes ok finds k (drop l.size b) more.0 (IsBytes-drop l.size b h) (omega (arith, room, length_drop l.size b)) more.1 in
    let whole : b ≡ flat_map bytes (one.0 ∷ more.0) ++ r.rest =
    sym (take-append-drop l.size b) ∙ ap (λ (x : List ℕ). x ++ drop l.size b) (sym f.0) ∙ ap (λ (x : List ℕ). bytes one.0 ++ x) r.parts
    ∙ sym (append_assoc (bytes one.0) (flat_map bytes more.0) r.rest) in
    let P : List E → Type 0 = λ xs. ItemsFound bytes ok b (suc k) xs in
    subst P (some_is (one.0 ∷ more.0) items more.2)
    (record { rest = r.rest; parts = whole; each = and_from (ok one.0) (list_all ok more.0) f.1 r.each; counted = ap suc r.counted })

pub record FrontFound {E : Type 0} (l : Layout E) (bytes : E → List ℕ) (ok : E → Bool) (page : List ℕ) (f : Front E) : Type 0 where
  pub begins : Begins page (sheet_bytes l.head bytes f.next f.items)
  pub each : list_all ok f.items ≡ true
  pub few : nat_le (length f.items) l.most ≡ true
  pub fits : f.next < 2 ^ 64

pub front_found : {E : Type 0} (l : Layout E) (bytes : E → List ℕ) (ok : E → Bool) → Finds l bytes ok → 16 ≤ l.head → (page : List ℕ) (f : Front E) → IsBytes page
    → l.head + long l.size l.most ≤ length page → front_at l page ≡ Some f → FrontFound l bytes ok page f
unfolding front_at
front_found {E = E} l bytes ok finds head page f h room e =
    let count = u64_at page 8 in
    let next = u64_at page 0 in
    let test = if_some (nat_le count l.most && are_zero (take (l.head - 16) (drop 16 page))) (also (items_at l.size l.item count (drop l.head page)) (λ items. Some (record { next = next; items = items }))) f e in
    let ts = and_parts (nat_le count l.most) (are_zero (take (l.head - 16) (drop 16 page))) test.0 in
    let got = also_some (items_at l.size l.item count (drop l.head page)) (λ items. Some (record { next = next; items = items })) f test.1 in
    let items = got.0 in
    let enough = long_le l.size count l.most (leb-true count l.most ts.0) in
    let r = items_found l bytes ok finds count (drop l.head page) items (IsBytes-drop l.head page h) (omega (arith, enough, room, length_drop l.head page)) got.1 in
    let pad : zeros (l.head - 16) ≡ take (l.head - 16) (drop 16 page) =
    ap zeros (sym (length_taken (l.head - 16) (drop 16 page) (omega (arith, length_drop 16 page, room, head)))) ∙ sym (zeros_found (take (l.head - 16) (drop 16 page)) ts.1) in
    let first : number next ≡ take 8 page = number_found page 0 h (omega (arith, room, head)) in
    let second : number (length items) ≡ take 8 (drop 8 page) = ap number r.counted ∙ number_found page 8 h (omega (arith, room, head)) in
    let at_head : drop (l.head - 16) (drop 16 page) ≡ drop l.head page = drop_more 16 (l.head - 16) page ∙ ap (λ (k : ℕ). drop k page) (omega (arith, head)) in
    let a = number next in
    let b = number (length items) in
    let z = zeros (l.head - 16) in
    let all = flat_map bytes items in
    let whole : a ++ b ++ z ++ all ++ r.rest ≡ page =
    append_assoc (a ++ b ++ z) all r.rest ∙ ap (λ (x : List ℕ). a ++ b ++ z ++ x) (sym r.parts) ∙ append_assoc (a ++ b) z (drop l.head page)
    ∙ ap (λ (x : List ℕ). a ++ b ++ (z ++ x)) (sym at_head)
    ∙ ap (λ (x : List ℕ). a ++ b ++ (x ++ drop (l.head - 16) (drop 16 page))) pad
    ∙ ap (λ (x : List ℕ). a ++ b ++ x) (take-append-drop (l.head - 16) (drop 16 page))
    ∙ append_assoc a b (drop 16 page)
    ∙ ap (λ (x : List ℕ). a ++ (x ++ drop 16 page)) second
    ∙ ap (λ (x : List ℕ). a ++ (take 8 (drop 8 page) ++ x)) (sym (drop_more 8 8 page))
    ∙ ap (λ (x : List ℕ). a ++ x) (take-append-drop 8 (drop 8 page))
    ∙ ap (λ (x : List ℕ). x ++ drop 8 page) first
    ∙ take-append-drop 8 page in
    let begins : Begins page (sheet_bytes l.head bytes next items) =
    ap (λ (x : List ℕ). take (length (sheet_bytes l.head bytes next items)) x) (sym whole) ∙ take-append_seam (sheet_bytes l.head bytes next items) r.rest in
    let P : Front E → Type 0 = λ g. FrontFound l bytes ok page g in
    subst P (some_is (record { next = next; items = items }) f got.2)
    (record { begins = begins; each = r.each; few = ap (λ (k : ℕ). nat_le k l.most) r.counted ∙ ts.0; fits = number_fits page 0 h })
