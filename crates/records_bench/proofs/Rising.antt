-- Runs that stand in order share no frame.
use Rattle.std.proofs.Common.{◌≡◌, ℕ, ◌+◌, ◌^◌, ◌≤◌, Bool, true, false, cond, List, [], ◌∷◌, ◌++◌, Option, Some, None, refl, sym, ap, ◌∙◌, arith}
use Rattle.std.specs.Prelude.{◌&&◌, ◌||◌, nat_le, if◌then◌else◌}
use Rattle.std.specs.List.{list_all}
use Rattle.std.proofs.lemmas.Bool.{and_parts, and_from, or_left, or_right, leb-true, le-leb}
use Rattle.std.proofs.lemmas.List.Folds.{list_all-append}
use Rattle.folio_bitmaps.specs.Runs.{Run}
use Rattle.record_frames.specs.Handover.{◌>>=◌}
use Rattle.kho_laws.specs.Owners.{apart, all_runs_apart}
use Rattle.kho_laws.proofs.FileRules.{all_weaker}

-- the frame behind the last of runs that stand in order from a frame on
abbrev pub past : ℕ → List Run → Option ℕ
past at [] = Some at
past at (r ∷ rs) = if nat_le at r.first then past (r.first + 2 ^ r.order) rs else None

-- a run stands from a frame on, and ends at another one or before it
abbrev pub within : ℕ → ℕ → Run → Bool
within from to r = nat_le from r.first && nat_le (r.first + 2 ^ r.order) to

pub within_wider : (from to low high : ℕ) → low ≤ from → to ≤ high → (r : Run) → within from to r ≡ true → within low high r ≡ true
within_wider from to low high lo hi r h =
    let hs = and_parts (nat_le from r.first) (nat_le (r.first + 2 ^ r.order) to) h in
    let a = leb-true from r.first hs.0 in
    let b = leb-true (r.first + 2 ^ r.order) to hs.1 in
    and_from (nat_le low r.first) (nat_le (r.first + 2 ^ r.order) high) (le-leb low r.first (omega (arith, a, lo))) (le-leb (r.first + 2 ^ r.order) high (omega (arith, b, hi)))

-- one that ends before another begins is apart from it, and the other from it
before_apart : (a b : Run) (at low high : ℕ) → within low at a ≡ true → within at high b ≡ true → apart a b ≡ true
before_apart a b at low high ha hb =
    let x = leb-true (a.first + 2 ^ a.order) at (and_parts (nat_le low a.first) (nat_le (a.first + 2 ^ a.order) at) ha).1 in
    let y = leb-true at b.first (and_parts (nat_le at b.first) (nat_le (b.first + 2 ^ b.order) high) hb).0 in
    or_left (nat_le (a.first + 2 ^ a.order) b.first) (nat_le (b.first + 2 ^ b.order) a.first) (le-leb (a.first + 2 ^ a.order) b.first (omega (arith, x, y)))

behind_apart : (a b : Run) (at low high : ℕ) → within low at a ≡ true → within at high b ≡ true → apart b a ≡ true
behind_apart a b at low high ha hb =
    let x = leb-true (a.first + 2 ^ a.order) at (and_parts (nat_le low a.first) (nat_le (a.first + 2 ^ a.order) at) ha).1 in
    let y = leb-true at b.first (and_parts (nat_le at b.first) (nat_le (b.first + 2 ^ b.order) high) hb).0 in
    or_right (nat_le (b.first + 2 ^ b.order) a.first) (nat_le (a.first + 2 ^ a.order) b.first) (le-leb (a.first + 2 ^ a.order) b.first (omega (arith, x, y)))

-- each of some runs is apart from each of others
abbrev pub cross : List Run → List Run → Bool
cross xs ys = list_all (λ x. list_all (apart x) ys) xs

pub cross_up : (at low high : ℕ) (xs ys : List Run) → list_all (within low at) xs ≡ true → list_all (within at high) ys ≡ true → cross xs ys ≡ true
cross_up at low high [] ys hx hy = refl
cross_up at low high (x ∷ xs) ys hx hy =
    let hs = and_parts (within low at x) (list_all (within low at) xs) hx in
    and_from (list_all (apart x) ys) (cross xs ys) (all_weaker (within at high) (apart x) (λ y. before_apart x y at low high hs.0) ys hy) (cross_up at low high xs ys hs.1 hy)

pub cross_down : (at low high : ℕ) (xs ys : List Run) → list_all (within at high) xs ≡ true → list_all (within low at) ys ≡ true → cross xs ys ≡ true
cross_down at low high [] ys hx hy = refl
cross_down at low high (x ∷ xs) ys hx hy =
    let hs = and_parts (within at high x) (list_all (within at high) xs) hx in
    and_from (list_all (apart x) ys) (cross xs ys) (all_weaker (within low at) (apart x) (λ y h. behind_apart y x at low high h hs.0) ys hy) (cross_down at low high xs ys hs.1 hy)

pub join_apart : (xs ys : List Run) → all_runs_apart xs ≡ true → all_runs_apart ys ≡ true → cross xs ys ≡ true → all_runs_apart (xs ++ ys) ≡ true
join_apart [] ys hx hy h = hy
join_apart (x ∷ xs) ys hx hy h =
    let own = and_parts (list_all (apart x) xs) (all_runs_apart xs) hx in
    let others = and_parts (list_all (apart x) ys) (cross xs ys) h in
    and_from (list_all (apart x) (xs ++ ys)) (all_runs_apart (xs ++ ys))
    (list_all-append (apart x) xs ys ∙ and_from (list_all (apart x) xs) (list_all (apart x) ys) own.0 others.0) (join_apart xs ys own.1 hy others.1)

-- what is known of runs that stand in order
pub record InOrder (at end : ℕ) (rs : List Run) : Type 0 where
  pub rises : at ≤ end
  pub within : list_all (within at end) rs ≡ true
  pub apart : all_runs_apart rs ≡ true

pub none_some : (end : ℕ) → None ≡ Some end → ⊥
none_some end h = absurd cc

some_same : (a b : ℕ) → Some a ≡ Some b → a ≡ b
some_same a b h = ap (λ (o : Option ℕ). value o) h
  where
    value : Option ℕ → ℕ
    value None = 0
    value (Some x) = x

pub in_order : (at end : ℕ) (rs : List Run) → past at rs ≡ Some end → InOrder at end rs
in_order at end [] h = record { rises = omega (arith, some_same at end h); within = refl; apart = refl }
in_order at end (r ∷ rs) h = at_test (nat_le at r.first) refl h (λ more. in_order (r.first + 2 ^ r.order) end rs more)
  where
    at_test : (b : Bool) → nat_le at r.first ≡ b → cond b (past (r.first + 2 ^ r.order) rs) None ≡ Some end → (past (r.first + 2 ^ r.order) rs ≡ Some end → InOrder (r.first + 2 ^ r.order) end rs)
        → InOrder at end (r ∷ rs)
    at_test false e now rest = absurd (none_some end now)
    at_test true e now rest =
        let more = rest now in
        let low = leb-true at r.first e in
        let behind = r.first + 2 ^ r.order in
        let up : behind ≤ end = more.rises in
        record {
          rises = omega (arith, low, up);
          within = and_from (within at end r) (list_all (within at end) rs) (and_from (nat_le at r.first) (nat_le behind end) e (le-leb behind end up))
              (all_weaker (within behind end) (within at end) (within_wider behind end at end (omega (arith, low)) (omega arith)) rs more.within);
          apart = and_from (list_all (apart r) rs) (all_runs_apart rs)
              (all_weaker (within behind end) (apart r) (λ y hy. before_apart r y behind r.first end (and_from (nat_le r.first r.first) (nat_le behind behind) (le-leb r.first r.first (omega arith)) (le-leb behind behind (omega arith))) hy) rs more.within) more.apart;
        }

-- in order where others stand before them
pub record Cut (at end : ℕ) (xs ys : List Run) : Type 0 where
  pub mid : ℕ
  pub front : past at xs ≡ Some mid
  pub rest : past mid ys ≡ Some end

pub cut : (at end : ℕ) (xs ys : List Run) → past at (xs ++ ys) ≡ Some end → Cut at end xs ys
cut at end [] ys h = record { mid = at; front = refl; rest = h }
cut at end (x ∷ xs) ys h = at_test (nat_le at x.first) refl h (λ more. cut (x.first + 2 ^ x.order) end xs ys more)
  where
    at_test : (b : Bool) → nat_le at x.first ≡ b → cond b (past (x.first + 2 ^ x.order) (xs ++ ys)) None ≡ Some end → (past (x.first + 2 ^ x.order) (xs ++ ys) ≡ Some end → Cut (x.first + 2 ^ x.order) end xs ys)
        → Cut at end (x ∷ xs) ys
    at_test false e now rest = absurd (none_some end now)
    at_test true e now rest =
        let more = rest now in
        record {
          mid = more.mid;
          front = ap (λ (b : Bool). cond b (past (x.first + 2 ^ x.order) xs) None) e ∙ more.front;
          rest = more.rest;
        }

pub past_append : (at : ℕ) (xs ys : List Run) → past at (xs ++ ys) ≡ (past at xs >>= λ end. past end ys)
past_append at [] ys = refl
past_append at (x ∷ xs) ys = ap (λ (o : Option ℕ). cond (nat_le at x.first) o None) (past_append (x.first + 2 ^ x.order) xs ys) ∙ both (nat_le at x.first)
  where
    both : (b : Bool) → cond b (past (x.first + 2 ^ x.order) xs >>= λ end. past end ys) None ≡ (cond b (past (x.first + 2 ^ x.order) xs) None >>= λ end. past end ys)
    both true = refl
    both false = refl

pub bind_same : (o : Option ℕ) (f g : ℕ → Option ℕ) → ((n : ℕ) → f n ≡ g n) → (o >>= f) ≡ (o >>= g)
bind_same None f g same = refl
bind_same (Some n) f g same = same n
