-- Slots that go out and come back.
use Rattle.std.proofs.Common.{◌≡◌, ◌≢◌, ℕ, ◌+◌, ◌<◌, List, [], ◌∷◌, ◌++◌, length, get_or, set, sym, refl, ap, ◌∙◌, arith, Option, Some, None, get_or-set_same, get_or-set_other, cond, ◌==◌, eq-eqb, ne_eqb}
use mathlib.Core.Logic.{dite}
use native.Mathlib.Decide.{ℕ_discrete}
use Rattle.turns_table.specs.Slots.{pulled, times, full, one_if, IsOutFor}

module _ {S : Type 0} where
  times_append : (k : ℕ) (xs ys : List (ℕ × S)) → times k (xs ++ ys) ≡ times k xs + times k ys
  times_append k [] ys = omega arith
  times_append k (x ∷ xs) ys = omega (arith, times_append k xs ys)

hit : {A : Type 0} (j k : ℕ) (a b : A) → j ≡ k → cond (j == k) a b ≡ a
hit j k a b e = ap (λ t. cond t a b) (eq-eqb j k e)

miss : {A : Type 0} (j k : ℕ) (a b : A) → j ≢ k → cond (j == k) a b ≡ b
miss j k a b e = ap (λ t. cond t a b) (ne_eqb j k e)

module _ {T : Type 0} where
  full_append : (xs ys : List (ℕ × Option T)) → full (xs ++ ys) ≡ full xs + full ys
  full_append [] ys = omega arith
  full_append (x ∷ xs) ys = omega (arith, full_append xs ys)

  none_if : (y : Option T) → one_if y ≡ 0 → y ≡ None
  none_if None e = refl
  none_if (Some x) e = absurd (omega arith)

  -- the slot k comes first, and the others are as they were
  pulled_is : (k : ℕ) (passed xs : List (ℕ × Option T)) → 0 < times k xs → (y : Option T) × (ds : List (ℕ × Option T)) × (pulled k passed xs ≡ (k, y) ∷ ds)
      × ((j : ℕ) → times j ((k, y) ∷ ds) ≡ times j xs + times j passed) × (full ((k, y) ∷ ds) ≡ full xs + full passed)
  pulled_is k passed [] some_k = absurd (omega arith)
  pulled_is k passed (x ∷ xs) some_k = dite (ℕ_discrete x.0 k)
      (λ e. (
        x.1,
        xs ++ passed,
        hit x.0 k (x ∷ xs ++ passed) (pulled k (passed ++ x ∷ []) xs) e ∙ (λ i. (e i, x.1) ∷ xs ++ passed),
        (λ j. let t = times_append j xs passed in let same : ◌≡◌ {A = ℕ} (cond (k == j) 1 0) (cond (x.0 == j) 1 0) = ap (λ (n : ℕ). cond (n == j) 1 0) (sym e) in omega arith),
        (let t = full_append xs passed in omega arith),
      ))
      (λ n. let none : ◌≡◌ {A = ℕ} (cond (x.0 == k) 1 0) 0 = miss x.0 k 1 0 n in let t = pulled_is k (passed ++ x ∷ []) xs (omega arith) in (
        t.0,
        t.1,
        miss x.0 k (x ∷ xs ++ passed) (pulled k (passed ++ x ∷ []) xs) n ∙ t.2,
        (λ j. let a = t.3 j in let b = times_append j passed (x ∷ []) in omega arith),
        (let a = t.4 in let b = full_append passed (x ∷ []) in omega arith),
      ))

  -- a seat that holds k finds its slot, empty, and the others after it
  pub brings : (held : List (Option T)) (cs : List (ℕ × Option T)) (k : ℕ) (x : T) → IsOutFor held cs → get_or held k None ≡ Some x
      → (ds : List (ℕ × Option T)) × (pulled k [] cs ≡ (k, None) ∷ ds) × (k < length held → IsOutFor (set held k None) ds)
  brings held cs k x out holds = let at_k : times k cs ≡ 1 = out.1 k ∙ ap (one_if {T = T}) holds in let t = pulled_is k [] cs (omega arith) in let full_is = t.4 in let no = out.0 in
      let none : t.0 ≡ None = none_if t.0 (omega arith) in (
        t.1,
        t.2 ∙ (λ i. (k, none i) ∷ t.1),
        (λ near. (
          omega arith,
          (λ j. let a = t.3 j in let b = out.1 j in dite (ℕ_discrete j k)
              (λ e. let c : ◌≡◌ {A = ℕ} (cond (k == j) 1 0) 1 = hit k j 1 0 (sym e) in
              let d : get_or (set held k None) j None ≡ None = ap (λ (n : ℕ). get_or (set held k None) n None) e ∙ get_or-set_same held k None None near in let f = ap (one_if {T = T}) d in
              let g = ap (λ (n : ℕ). times n cs) e in omega arith)
              (λ n. let c : ◌≡◌ {A = ℕ} (cond (k == j) 1 0) 0 = miss k j 1 0 (λ e. n (sym e)) in
              let d = ap (one_if {T = T}) (get_or-set_other held k j None None n) in omega arith)),
        )),
      )

  -- a slot that is taken and emptied
  pub goes_out : (held : List (Option T)) (cs : List (ℕ × Option T)) (k : ℕ) (x : T) → IsOutFor held cs → get_or held k None ≡ None → k < length held → IsOutFor (set held k (Some x)) ((k, None) ∷ cs)
  goes_out held cs k x out free near = (
    (let z = out.0 in omega arith),
    (λ j. let b = out.1 j in dite (ℕ_discrete j k)
        (λ e. let c : ◌≡◌ {A = ℕ} (cond (k == j) 1 0) 1 = hit k j 1 0 (sym e) in
        let d : get_or (set held k (Some x)) j None ≡ Some x = ap (λ (n : ℕ). get_or (set held k (Some x)) n None) e ∙ get_or-set_same held k (Some x) None near in let f = ap (one_if {T = T}) d in
        let g = ap (one_if {T = T}) (ap (λ (n : ℕ). get_or held n None) e ∙ free) in omega arith)
        (λ n. let c : ◌≡◌ {A = ℕ} (cond (k == j) 1 0) 0 = miss k j 1 0 (λ e. n (sym e)) in
        let d = ap (one_if {T = T}) (get_or-set_other held k j (Some x) None n) in omega arith)),
  )

  -- who holds nothing has no slot
  pub none_out : (held : List (Option T)) (cs : List (ℕ × Option T)) → IsOutFor held cs → ((k : ℕ) → get_or held k None ≡ None) → cs ≡ []
  none_out held [] out free = refl
  none_out held (c ∷ cs) out free = let a = out.1 c.0 in let b = ap (one_if {T = T}) (free c.0) in let h : ◌≡◌ {A = ℕ} (cond (c.0 == c.0) 1 0) 1 = hit c.0 c.0 1 0 refl in absurd (omega arith)
