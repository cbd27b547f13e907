-- The numbers of carried files, and the slots of carried sessions, in the next kernel.
use Rattle.std.proofs.Common.{◌≡◌, ◌⊎◌, inl, inr, ℕ, zero, suc, ◌+◌, ◌-◌, ◌<◌, ◌≤◌, true, false, List, [], ◌∷◌, ◌++◌, map, length, take, fold, refl, sym, ap, ◌∙◌, arith, Less}
use Rattle.std.specs.Prelude.{◌==◌, Some, slice_get, flat_map}
use Rattle.std.specs.Ordering.{nat_cmp}
use Rattle.std.specs.FinMap as finmap
use Rattle.std.specs.List.{AllByRecursion, IsDistinct}
use Rattle.std.proofs.lemmas.Bool.{cases_eq, cases_lt, and_from, eq-eqb}
use Rattle.std.proofs.lemmas.Cmp.{nat_cmp_total}
use Rattle.ho_events.specs.Lists.{same_bytes}
use Rattle.ho_events.specs.Registry.{Slots}
use Rattle.ho_events.specs.Session.{Listed}
use Rattle.ho_world.specs.Frozen.{CarriedFile, CarriedSession, next_listed, next_waiting, first_number}
use Rattle.balance_laws.specs.Carrying.{Rise}
use Rattle.balance_laws.specs.Sound.{number_of}
use Rattle.balance_laws.proofs.Base.{same_value, not_some, clash}
use Rattle.balance_laws.proofs.Carried.{not_less}
use Rattle.balance_laws.proofs.Maps.{put_at, put_off, name_at, name_off, names_either}

abbrev tokens_of : List CarriedFile → List ℕ
tokens_of cs = map (λ (c : CarriedFile). c.token) cs

-- where a token stands among files numbered from n on
record IsNumbered (n : ℕ) (cs : List CarriedFile) (t v : ℕ) : Type 0 where
  place : ℕ
  file : CarriedFile
  is : slice_get cs place ≡ Some file
  token : file.token ≡ t
  number : v ≡ n + place

later : (n : ℕ) (c : CarriedFile) (cs : List CarriedFile) (t v : ℕ) → IsNumbered (n + 1) cs t v → IsNumbered n (c ∷ cs) t v
later n c cs t v k = record { place = suc k.place; file = k.file; is = k.is; token = k.token; number = (let e = k.number in omega (arith, e)) }

-- what is listed is numbered
listed_numbered : (n : ℕ) (cs : List CarriedFile) (m : finmap.FinMap nat_cmp Listed) (t v : ℕ) → number_of (finmap.get (next_listed n cs m) t) ≡ Some v → (number_of (finmap.get m t) ≡ Some v) ⊎ IsNumbered n cs t v
listed_numbered n [] m t v e = inl e
listed_numbered n (c ∷ cs) m t v e = at_rest (listed_numbered (n + 1) cs (finmap.insert m c.token (record { file = n; handle = c.handle; taken = false })) t v e) (cases_eq t c.token)
  where
    at_rest : (number_of (finmap.get (finmap.insert m c.token (record { file = n; handle = c.handle; taken = false })) t) ≡ Some v) ⊎ IsNumbered (n + 1) cs t v → (t ≡ c.token) ⊎ (t ≡ c.token → ⊥)
        → (number_of (finmap.get m t) ≡ Some v) ⊎ IsNumbered n (c ∷ cs) t v
    at_rest (inr k) w = inr (later n c cs t v k)
    at_rest (inl h) (inl s) =
        let same : n ≡ v = same_value n v (sym (ap number_of (put_at m c.token (record { file = n; handle = c.handle; taken = false }) t s)) ∙ h) in
        inr (record { place = 0; file = c; is = refl; token = sym s; number = omega (arith, same) })
    at_rest (inl h) (inr s) = inl (ap number_of (sym (put_off m c.token (record { file = n; handle = c.handle; taken = false }) t s)) ∙ h)

-- a token that isn't among the files
listed_other : (n : ℕ) (cs : List CarriedFile) (m : finmap.FinMap nat_cmp Listed) (t : ℕ) → AllByRecursion (λ k. k ≡ t → ⊥) (tokens_of cs) → finmap.get (next_listed n cs m) t ≡ finmap.get m t
listed_other n [] m t out = refl
listed_other n (c ∷ cs) m t out = listed_other (n + 1) cs (finmap.insert m c.token (record { file = n; handle = c.handle; taken = false })) t out.1 ∙ put_off m c.token (record { file = n; handle = c.handle; taken = false }) t (λ s. out.0 (sym s))

rise_out : (t : ℕ) (ks : List ℕ) → AllByRecursion (λ k. nat_cmp t k ≡ Less) ks → AllByRecursion (λ k. k ≡ t → ⊥) ks
rise_out t [] h = tt
rise_out t (k ∷ ks) h = (λ s. not_less nat_cmp nat_cmp_total t k h.0 (sym s), rise_out t ks h.1)

-- each file is listed under its token
listed_at : (n : ℕ) (cs : List CarriedFile) (m : finmap.FinMap nat_cmp Listed) (i : ℕ) (c : CarriedFile) → Rise nat_cmp (tokens_of cs) → slice_get cs i ≡ Some c → number_of (finmap.get (next_listed n cs m) c.token) ≡ Some (n + i)
listed_at n [] m i c rise e = absurd (not_some c e)
listed_at n (d ∷ cs) m zero c rise e =
    let same : d ≡ c = same_value d c e in
    let none : n ≡ n + 0 = omega arith in
    ap (λ (x : CarriedFile). number_of (finmap.get (next_listed n (d ∷ cs) m) x.token)) (sym same)
    ∙ ap number_of (listed_other (n + 1) cs (finmap.insert m d.token (record { file = n; handle = d.handle; taken = false })) d.token (rise_out d.token (tokens_of cs) rise.0) ∙ put_at m d.token (record { file = n; handle = d.handle; taken = false }) d.token refl)
    ∙ ap Some none
listed_at n (d ∷ cs) m (suc i) c rise e =
    let more : n + 1 + i ≡ n + suc i = omega arith in
    listed_at (n + 1) cs (finmap.insert m d.token (record { file = n; handle = d.handle; taken = false })) i c rise.1 e ∙ ap Some more

-- ---- sessions one after another

abbrev pub files_of_all : List CarriedSession → List CarriedFile
files_of_all ss = flat_map (λ (s : CarriedSession). s.files) ss

-- a place among all files, from session and place in it
pub record IsPlaced (ss : List CarriedSession) (v : ℕ) : Type 0 where
  pub session : ℕ
  pub is : CarriedSession
  pub there : slice_get ss session ≡ Some is
  pub place : ℕ
  pub file : CarriedFile
  pub has : slice_get is.files place ≡ Some file
  pub number : v ≡ first_number ss session + place

sum_from : (a : ℕ) (xs : List ℕ) → fold ◌+◌ a xs ≡ a + fold ◌+◌ 0 xs
sum_from a [] = omega arith
sum_from a (x ∷ xs) =
    let one : fold ◌+◌ (a + x) xs ≡ a + x + fold ◌+◌ 0 xs = sum_from (a + x) xs in
    let two : fold ◌+◌ (0 + x) xs ≡ 0 + x + fold ◌+◌ 0 xs = sum_from (0 + x) xs in
    omega (arith, one, two)

first_more : (t : CarriedSession) (ss : List CarriedSession) (k : ℕ) → first_number (t ∷ ss) (suc k) ≡ length t.files + first_number ss k
first_more t ss k = let e : fold ◌+◌ (0 + length t.files) (map (λ (s : CarriedSession). length s.files) (take k ss)) ≡ 0 + length t.files + first_number ss k = sum_from (0 + length t.files) (map (λ (s : CarriedSession). length s.files) (take k ss)) in omega (arith, e)

pub get_front : {A : Type 0} (xs ys : List A) (i : ℕ) (x : A) → slice_get xs i ≡ Some x → slice_get (xs ++ ys) i ≡ Some x
get_front [] ys i x e = absurd (not_some x e)
get_front (y ∷ xs) ys zero x e = e
get_front (y ∷ xs) ys (suc i) x e = get_front xs ys i x e

pub get_rest : {A : Type 0} (xs ys : List A) (i n : ℕ) → n ≡ length xs + i → slice_get (xs ++ ys) n ≡ slice_get ys i
get_rest [] ys i n e = ap (slice_get ys) (let same : n ≡ i = omega (arith, e) in same)
get_rest (x ∷ xs) ys i zero e = absurd (omega (arith, e))
get_rest (x ∷ xs) ys i (suc n) e = get_rest xs ys i n (omega (arith, e))

pub get_below : {A : Type 0} (xs : List A) (i : ℕ) → i < length xs → (x : A) × (slice_get xs i ≡ Some x)
get_below [] i less = absurd (omega (arith, less))
get_below (x ∷ xs) zero less = (x, refl)
get_below (x ∷ xs) (suc i) less = get_below xs i (omega (arith, less))

pub below_got : {A : Type 0} (xs : List A) (i : ℕ) (x : A) → slice_get xs i ≡ Some x → i < length xs
below_got [] i x e = absurd (not_some x e)
below_got (y ∷ xs) zero x e = omega arith
below_got (y ∷ xs) (suc i) x e = let less : i < length xs = below_got xs i x e in omega (arith, less)

-- the number says which file it is
pub placed_file : (ss : List CarriedSession) (v : ℕ) → (p : IsPlaced ss v) → slice_get (files_of_all ss) v ≡ Some p.file
placed_file ss v p = at_session ss p.session v p.is p.place p.file p.there p.has p.number
  where
    at_session : (ss : List CarriedSession) (k v : ℕ) (s : CarriedSession) (i : ℕ) (c : CarriedFile) → slice_get ss k ≡ Some s → slice_get s.files i ≡ Some c → v ≡ first_number ss k + i → slice_get (files_of_all ss) v ≡ Some c
    at_session [] k v s i c e h n = absurd (not_some s e)
    at_session (t ∷ ss) zero v s i c e h n =
        let same : t ≡ s = same_value t s e in
        let here : v ≡ i = omega (arith, n) in
        get_front t.files (files_of_all ss) v c (ap (λ (x : CarriedSession). slice_get x.files v) same ∙ ap (slice_get s.files) here ∙ h)
    at_session (t ∷ ss) (suc k) v s i c e h n =
        let parts : first_number (t ∷ ss) (suc k) ≡ length t.files + first_number ss k = first_more t ss k in
        let rest : v ≡ length t.files + (first_number ss k + i) = omega (arith, n, parts) in
        get_rest t.files (files_of_all ss) (first_number ss k + i) v rest ∙ at_session ss k (first_number ss k + i) s i c e h refl

pub length_both : {A : Type 0} (xs ys : List A) → length (xs ++ ys) ≡ length xs + length ys
length_both [] ys = omega arith
length_both (x ∷ xs) ys = let e : length (xs ++ ys) ≡ length xs + length ys = length_both xs ys in omega (arith, e)

-- each number below the end stands for a place
pub number_placed : (ss : List CarriedSession) (v : ℕ) → v < length (files_of_all ss) → IsPlaced ss v
number_placed [] v less = absurd (omega (arith, less))
number_placed (t ∷ ss) v less = by_order (cases_lt v (length t.files)) (λ h. number_placed ss (v - length t.files) h)
  where
    by_order : (v < length t.files) ⊎ (length t.files ≤ v) → (v - length t.files < length (files_of_all ss) → IsPlaced ss (v - length t.files)) → IsPlaced (t ∷ ss) v
    by_order (inl l) more = let g = get_below t.files v l in record { session = 0; is = t; there = refl; place = v; file = g.0; has = g.1; number = omega arith }
    by_order (inr l) more =
        let all : length (t.files ++ files_of_all ss) ≡ length t.files + length (files_of_all ss) = length_both t.files (files_of_all ss) in
        let p : IsPlaced ss (v - length t.files) = more (omega (arith, l, less, all)) in
        let parts : first_number (t ∷ ss) (suc p.session) ≡ length t.files + first_number ss p.session = first_more t ss (p.session) in
        let n = p.number in
        record { session = suc p.session; is = p.is; there = p.there; place = p.place; file = p.file; has = p.has; number = omega (arith, l, n, parts) }

-- and for one alone
pub placed_once : (ss : List CarriedSession) (k l i j : ℕ) (s t : CarriedSession) → slice_get ss k ≡ Some s → slice_get ss l ≡ Some t → i < length s.files → j < length t.files → first_number ss k + i ≡ first_number ss l + j → (k ≡ l) × (i ≡ j)
placed_once [] k l i j s t e g li lj n = absurd (not_some s e)
placed_once (u ∷ ss) zero zero i j s t e g li lj n = (refl, omega (arith, n))
placed_once (u ∷ ss) zero (suc l) i j s t e g li lj n =
    let same : length u.files ≡ length s.files = ap (λ (x : CarriedSession). length x.files) (same_value u s e) in
    let parts : first_number (u ∷ ss) (suc l) ≡ length u.files + first_number ss l = first_more u ss l in
    absurd (omega (arith, same, parts, n, li))
placed_once (u ∷ ss) (suc k) zero i j s t e g li lj n =
    let same : length u.files ≡ length t.files = ap (λ (x : CarriedSession). length x.files) (same_value u t g) in
    let parts : first_number (u ∷ ss) (suc k) ≡ length u.files + first_number ss k = first_more u ss k in
    absurd (omega (arith, same, parts, n, lj))
placed_once (u ∷ ss) (suc k) (suc l) i j s t e g li lj n =
    let a : first_number (u ∷ ss) (suc k) ≡ length u.files + first_number ss k = first_more u ss k in
    let b : first_number (u ∷ ss) (suc l) ≡ length u.files + first_number ss l = first_more u ss l in
    let m = placed_once ss k l i j s t e g li lj (omega (arith, a, b, n)) in
    let up : k ≡ l = m.0 in
    (omega (arith, up), m.1)

-- ---- names with their slots

abbrev pub names_of_all : List CarriedSession → List (List ℕ)
names_of_all ss = map (λ (s : CarriedSession). s.name) ss

pub waiting_named : (k : ℕ) (ss : List CarriedSession) (m : Slots) (name : List ℕ) (s : ℕ) → finmap.get (next_waiting k ss m) name ≡ Some s
    → (finmap.get m name ≡ Some s) ⊎ ((i : ℕ) × (c : CarriedSession) × (slice_get ss i ≡ Some c) × (c.name ≡ name) × (s ≡ k + i))
waiting_named k [] m name s e = inl e
waiting_named k (c ∷ ss) m name s e = at_rest (waiting_named (k + 1) ss (finmap.insert m c.name k) name s e) (names_either name c.name)
  where
    at_rest : (finmap.get (finmap.insert m c.name k) name ≡ Some s) ⊎ ((i : ℕ) × (d : CarriedSession) × (slice_get ss i ≡ Some d) × (d.name ≡ name) × (s ≡ k + 1 + i)) → (name ≡ c.name) ⊎ (name ≡ c.name → ⊥)
        → (finmap.get m name ≡ Some s) ⊎ ((i : ℕ) × (d : CarriedSession) × (slice_get (c ∷ ss) i ≡ Some d) × (d.name ≡ name) × (s ≡ k + i))
    at_rest (inr h) w = inr (suc h.0, h.1, h.2, h.3, (let e = h.4 in omega (arith, e)))
    at_rest (inl h) (inl p) = let same : k ≡ s = same_value k s (sym (name_at m c.name k name p) ∙ h) in inr (0, c, refl, sym p, omega (arith, same))
    at_rest (inl h) (inr p) = inl (sym (name_off m c.name k name p) ∙ h)

same_self : (name : List ℕ) → same_bytes name name ≡ true
same_self [] = refl
same_self (x ∷ name) = and_from (x == x) (same_bytes name name) (eq-eqb x x refl) (same_self name)

-- names that a test tells apart are different ones
not_same : (a b : List ℕ) → same_bytes a b ≡ false → a ≡ b → ⊥
not_same a b h e = clash (sym (same_self a) ∙ ap (same_bytes a) e ∙ h)

waiting_other : (k : ℕ) (ss : List CarriedSession) (m : Slots) (name : List ℕ) → AllByRecursion (λ n. same_bytes name n ≡ false) (names_of_all ss) → finmap.get (next_waiting k ss m) name ≡ finmap.get m name
waiting_other k [] m name out = refl
waiting_other k (c ∷ ss) m name out = waiting_other (k + 1) ss (finmap.insert m c.name k) name out.1 ∙ name_off m c.name k name (not_same name c.name out.0)

pub waiting_at : (k : ℕ) (ss : List CarriedSession) (m : Slots) (i : ℕ) (c : CarriedSession) → IsDistinct same_bytes (names_of_all ss) → slice_get ss i ≡ Some c → finmap.get (next_waiting k ss m) c.name ≡ Some (k + i)
unfolding IsDistinct
waiting_at k [] m i c apart e = absurd (not_some c e)
waiting_at k (d ∷ ss) m zero c apart e =
    let same : d ≡ c = same_value d c e in
    let none : k ≡ k + 0 = omega arith in
    ap (λ (x : CarriedSession). finmap.get (next_waiting k (d ∷ ss) m) x.name) (sym same) ∙ waiting_other (k + 1) ss (finmap.insert m d.name k) d.name apart.0 ∙ name_at m d.name k d.name refl ∙ ap Some none
waiting_at k (d ∷ ss) m (suc i) c apart e =
    let more : k + 1 + i ≡ k + suc i = omega arith in
    waiting_at (k + 1) ss (finmap.insert m d.name k) i c apart.1 e ∙ ap Some more

pub listed_numbered_from : (n : ℕ) (cs : List CarriedFile) (t v : ℕ) → number_of (finmap.get (next_listed n cs finmap.empty) t) ≡ Some v → (i : ℕ) × (c : CarriedFile) × (slice_get cs i ≡ Some c) × (c.token ≡ t) × (v ≡ n + i)
listed_numbered_from n cs t v e = at (listed_numbered n cs finmap.empty t v e)
  where
    at : (number_of (finmap.get (finmap.empty {X = Listed} {R = nat_cmp}) t) ≡ Some v) ⊎ IsNumbered n cs t v → (i : ℕ) × (c : CarriedFile) × (slice_get cs i ≡ Some c) × (c.token ≡ t) × (v ≡ n + i)
    at (inl h) = absurd (not_some v (sym (ap number_of (finmap.get-empty nat_cmp t)) ∙ h))
    at (inr k) = (k.place, k.file, k.is, k.token, k.number)

pub listed_number_at : (n : ℕ) (cs : List CarriedFile) (i : ℕ) (c : CarriedFile) → Rise nat_cmp (tokens_of cs) → slice_get cs i ≡ Some c → number_of (finmap.get (next_listed n cs finmap.empty) c.token) ≡ Some (n + i)
listed_number_at n cs i c rise e = listed_at n cs finmap.empty i c rise e
