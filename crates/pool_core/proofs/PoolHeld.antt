-- Which frames owned runs hold, after a run was taken and after one was given back.
use Rattle.std.proofs.Common.{◌≡◌, ◌≢◌, ℕ, ◌+◌, ◌-◌, ◌%◌, ◌^◌, ◌<◌, ◌≤◌, ◌⊎◌, ◌==◌, ◌||◌, Bool, true, false, List, [], ◌∷◌, length, get_or, set, refl, ap, sym, ◌∙◌, arith, subst, zero, suc, ⊎_elim}
use Rattle.std.specs.List.{list_any}
use Rattle.std.proofs.lemmas.List.Folds.{list_any-append}
use Rattle.std.proofs.lemmas.Bool.{cases_eq, cases_order, or_cases, eqb-true, eq-eqb, false≢true}
use Rattle.std.proofs.lemmas.List.{get_or-set_other, get_or-set_same}
use Rattle.std.proofs.lemmas.Nat.{pow_pos}
use Rattle.std.proofs.Math.Nat.{mod-lt, mod-le}
use Rattle.buddy_pages.proofs.Powers.{start_only, start_multiple}
use Rattle.buddy_pages.proofs.Covered.{InBlock, tag_below}
use Rattle.ho_base.specs.ShapeRule.{Layout}
use Rattle.ho_events.specs.Lists.{upto}
use Rattle.ho_events.specs.Pool.{run_start}
use Rattle.pool_core.specs.PoolTags.{is_held, AreRuns}

-- a test of the orders below a bound
or_right : (b c : Bool) → c ≡ true → (b || c) ≡ true
or_right true c e = refl
or_right false c e = e

or_left : (b c : Bool) → b ≡ true → (b || c) ≡ true
or_left b c e = ap (λ x. x || c) e

or_none : (b : Bool) → (b || false) ≡ b
or_none true = refl
or_none false = refl

pub last_one : (f : ℕ → Bool) (n : ℕ) → list_any f (upto (suc n)) ≡ (list_any f (upto n) || f n)
unfolding upto
last_one f n = list_any-append f (upto n) (n ∷ []) ∙ ap (λ b. list_any f (upto n) || b) (or_none (f n))

pub any_upto : (f : ℕ → Bool) (n i : ℕ) → i < n → f i ≡ true → list_any f (upto n) ≡ true
any_upto f zero i h e = absurd (omega arith)
any_upto f (suc n) i h e =
    last_one f n
    ∙ (⊎_elim (λ (s : i ≡ n). or_right (list_any f (upto n)) (f n) (ap f (sym s) ∙ e))
    (λ (ne : i ≢ n). or_left (list_any f (upto n)) (f n) (any_upto f n i (omega arith) e))
    (cases_eq i n))

pub some_upto : (f : ℕ → Bool) (n : ℕ) → list_any f (upto n) ≡ true → (i : ℕ) × ((i < n) × (f i ≡ true))
unfolding upto
some_upto f zero h = absurd (false≢true h)
some_upto f (suc n) h =
    ⊎_elim (λ (e : list_any f (upto n) ≡ true). let r = some_upto f n e in (r.0, (omega (arith, r.1.0), r.1.1)))
    (λ (e : f n ≡ true). (n, (omega arith, e)))
    (or_cases (list_any f (upto n)) (f n) (sym (last_one f n) ∙ h))

pub none_false : (b : Bool) → (b ≡ true → ⊥) → b ≡ false
none_false true h = absurd (h refl)
none_false false h = refl

-- a run that holds a frame
pub record HeldBy (tags : List ℕ) (q : ℕ) : Type 0 where
  pub start : ℕ
  pub order : ℕ
  pub small : order < 10
  pub aligned : start % 2 ^ order ≡ 0
  pub block : InBlock tags q start order

pub held_some : (tags : List ℕ) (q : ℕ) → is_held tags q ≡ true → HeldBy tags q
unfolding is_held
held_some tags q h =
    let some = some_upto (λ o. get_or tags (run_start o q) 0 == o + 1) 10 h in
    let pos : 0 < 2 ^ some.0 = pow_pos some.0 in
    let below : q % 2 ^ some.0 < 2 ^ some.0 = mod-lt q pos in
    let le : q % 2 ^ some.0 ≤ q = mod-le q (2 ^ some.0) in
    record {
      start = run_start some.0 q;
      order = some.0;
      small = some.1.0;
      aligned = start_multiple q (2 ^ some.0);
      block = record { tag = eqb-true (get_or tags (run_start some.0 q) 0) (some.0 + 1) some.1.1; from = omega arith; to = omega arith };
    }

pub held_from : (tags : List ℕ) (q a o : ℕ) → InBlock tags q a o → a % 2 ^ o ≡ 0 → o < 10 → is_held tags q ≡ true
unfolding is_held
held_from tags q a o b h small =
    let start : q - q % 2 ^ o ≡ a = start_only a q (2 ^ o) h b.from b.to in
    any_upto (λ k. get_or tags (run_start k q) 0 == k + 1) 10 o small (eq-eqb (get_or tags (run_start o q) 0) (o + 1) (ap (λ z. get_or tags z 0) start ∙ b.tag))

pub held_by : (tags : List ℕ) (q : ℕ) → HeldBy tags q → is_held tags q ≡ true
held_by tags q h = held_from tags q h.start h.order h.block h.aligned h.small

-- a run that begins elsewhere is there with another number at p, and was there before
block_other : (tags : List ℕ) (p n q a o : ℕ) → a ≢ p → InBlock tags q a o → InBlock (set tags p n) q a o
block_other tags p n q a o ne b = record { tag = get_or-set_other tags p a n 0 ne ∙ b.tag; from = b.from; to = b.to }

block_before : (tags : List ℕ) (p n q a o : ℕ) → a ≢ p → InBlock (set tags p n) q a o → InBlock tags q a o
block_before tags p n q a o ne b = record { tag = sym (get_or-set_other tags p a n 0 ne) ∙ b.tag; from = b.from; to = b.to }

moved : (tags : List ℕ) (a p n m : ℕ) → a ≡ p → get_or tags a 0 ≡ n → get_or tags p 0 ≡ m → n ≡ m
moved tags a p n m e h k = sym h ∙ ap (λ z. get_or tags z 0) e ∙ k

-- one more run, where none began
module _ (tags : List ℕ) (p o : ℕ) (within : p < length tags) (blank : get_or tags p 0 ≡ 0) where
  new_tag : get_or (set tags p (o + 1)) p 0 ≡ o + 1
  new_tag = get_or-set_same tags p (o + 1) 0 within

  pub held_kept : (q : ℕ) → is_held tags q ≡ true → is_held (set tags p (o + 1)) q ≡ true
  held_kept q h =
      let b : HeldBy tags q = held_some tags q h in
      held_from (set tags p (o + 1)) q b.start b.order
      (block_other tags p (o + 1) q b.start b.order (λ e. let z : b.order + 1 ≡ 0 = moved tags b.start p (b.order + 1) 0 e b.block.tag blank in absurd (omega arith)) b.block)
      b.aligned b.small

  pub held_now : (q : ℕ) → p % 2 ^ o ≡ 0 → o < 10 → p ≤ q → q < p + 2 ^ o → is_held (set tags p (o + 1)) q ≡ true
  held_now q h small from to = held_from (set tags p (o + 1)) q p o (record { tag = new_tag; from = from; to = to }) h small

  pub held_only : (q : ℕ) → (q < p) ⊎ (p + 2 ^ o ≤ q) → is_held (set tags p (o + 1)) q ≡ true → is_held tags q ≡ true
  held_only q out h =
      let b : HeldBy (set tags p (o + 1)) q = held_some (set tags p (o + 1)) q h in
      ⊎_elim (λ (e : b.start ≡ p).
      let z : b.order + 1 ≡ o + 1 = moved (set tags p (o + 1)) b.start p (b.order + 1) (o + 1) e b.block.tag new_tag in
      let same : b.order ≡ o = omega arith in
      let to : q < b.start + 2 ^ o = subst (λ (n : ℕ). q < b.start + 2 ^ n) same b.block.to in
      let from : b.start ≤ q = b.block.from in
      absurd (⊎_elim (λ (l : q < p). let f : ⊥ = omega arith in f) (λ (l : p + 2 ^ o ≤ q). let f : ⊥ = omega arith in f) out))
      (λ (ne : b.start ≢ p). held_from tags q b.start b.order (block_before tags p (o + 1) q b.start b.order ne b.block) b.aligned b.small)
      (cases_eq b.start p)

-- one run less
module _ (tags : List ℕ) (p o : ℕ) (is : get_or tags p 0 ≡ o + 1) where
  pub run_below : p < length tags
  run_below = tag_below tags p o is

  gone_tag : get_or (set tags p 0) p 0 ≡ 0
  gone_tag = get_or-set_same tags p 0 0 run_below

  elsewhere : (a r : ℕ) → get_or (set tags p 0) a 0 ≡ r + 1 → a ≢ p
  elsewhere a r h e = let z : r + 1 ≡ 0 = moved (set tags p 0) a p (r + 1) 0 e h gone_tag in absurd (omega arith)

  pub held_before : (q : ℕ) → is_held (set tags p 0) q ≡ true → is_held tags q ≡ true
  held_before q h =
      let b : HeldBy (set tags p 0) q = held_some (set tags p 0) q h in
      held_from tags q b.start b.order (block_before tags p 0 q b.start b.order (elsewhere b.start b.order b.block.tag) b.block) b.aligned b.small

  pub held_still : (q : ℕ) → (q < p) ⊎ (p + 2 ^ o ≤ q) → is_held tags q ≡ true → is_held (set tags p 0) q ≡ true
  held_still q out h =
      let b : HeldBy tags q = held_some tags q h in
      ⊎_elim (λ (e : b.start ≡ p).
      let z : b.order + 1 ≡ o + 1 = moved tags b.start p (b.order + 1) (o + 1) e b.block.tag is in
      let same : b.order ≡ o = omega arith in
      let to : q < b.start + 2 ^ o = subst (λ (n : ℕ). q < b.start + 2 ^ n) same b.block.to in
      let from : b.start ≤ q = b.block.from in
      absurd (⊎_elim (λ (l : q < p). let f : ⊥ = omega arith in f) (λ (l : p + 2 ^ o ≤ q). let f : ⊥ = omega arith in f) out))
      (λ (ne : b.start ≢ p). held_from (set tags p 0) q b.start b.order (block_other tags p 0 q b.start b.order ne b.block) b.aligned b.small)
      (cases_eq b.start p)

  -- a frame lies in one owned run at most
  module _ (shape : Layout) (k : AreRuns shape tags) where
    pub small_order : o < 10
    small_order = let s : get_or tags p 0 ≤ 10 = k.small p in let t : get_or tags p 0 ≡ o + 1 = is in omega arith

    pub run_held : (q : ℕ) → p ≤ q → q < p + 2 ^ o → is_held tags q ≡ true
    run_held q from to = held_from tags q p o (record { tag = is; from = from; to = to }) (k.aligned p o is) small_order

    pub same_run : (q a r : ℕ) → InBlock tags q a r → p ≤ q → q < p + 2 ^ o → (a ≡ p) × (r ≡ o)
    same_run q a r x from to =
        let s : get_or tags a 0 ≡ r + 1 = x.tag in
        let t : get_or tags p 0 ≡ o + 1 = is in
        ⊎_elim (λ (e : a ≡ p). let z : r + 1 ≡ o + 1 = moved tags a p (r + 1) (o + 1) e s t in (e, omega arith))
        (λ (ne : (a < p) ⊎ (p < a)).
        ⊎_elim (λ (l : a < p). let z : get_or tags p 0 ≡ 0 = k.apart a r p s l (omega (arith, x.to, from)) in absurd (omega arith))
        (λ (l : p < a). let z : get_or tags a 0 ≡ 0 = k.apart p o a t l (omega (arith, to, x.from)) in absurd (omega arith))
        ne)
        (cases_order a p)

    pub held_gone : (q : ℕ) → p ≤ q → q < p + 2 ^ o → is_held (set tags p 0) q ≡ false
    held_gone q from to = none_false (is_held (set tags p 0) q)
        (λ h.
        let b : HeldBy (set tags p 0) q = held_some (set tags p 0) q h in
        let ne : b.start ≢ p = elsewhere b.start b.order b.block.tag in
        ne (same_run q b.start b.order (block_before tags p 0 q b.start b.order ne b.block) from to).0)
