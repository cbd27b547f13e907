-- A round whose logs are stamped is stamped as a merged list.
use Rattle.std.proofs.Common.{◌≡◌, ℕ, ◌+◌, ◌<◌, ◌≤◌, Bool, true, false, not, ◌&&◌, ◌||◌, ◌==◌, nat_lt, List, [], ◌∷◌, ◌++◌, filter, refl, sym, ap, subst, ◌∙◌, arith, IsTrue, append_assoc, cond, max, count_by, fold}
use Rattle.std.specs.Prelude.{Option, Some}
use Rattle.std.specs.List.{list_all}
use Rattle.std.proofs.lemmas.Bool.Decides.{nat_tests}
use Rattle.std.proofs.lemmas.List.{append-nil}
use Rattle.ho_events.specs.declared.entry.Entry.{Entry}
use Rattle.ho_events.specs.declared.entry.Place.{Place}
use Rattle.ho_events.specs.declared.entry.Place.TheVariants.{Object, Own}
use Rattle.ho_events.specs.declared.script.Block.{Block}
use Rattle.ho_events.specs.History.{on, is_on, by, greatest_stamp, at_place}
use Rattle.ho_world.specs.Entries.{in_kernel, all_pairs, ends_kernel}
use Rattle.ho_world.specs.Legal.{is_below, block_of, kernel_due, counted_to, earlier_here, is_stamped, stamp_due}
use Rattle.ho_world.specs.Readings.{are_stamped}
use Rattle.ho_world.specs.Threads.{HadBefore, IsStampedAt, IsStampedLog, rises, is_in_round, IsStampedRound}
use Rattle.ho_world.proofs.Fronts.{and_both, and_left, and_right, all_front, all_rest, all_follow, filter_front, filter_parts, filter_in, pairs_before, eq_same, eq_test, eq_true}
use Rattle.ho_world.proofs.Merged.{same_front}

pub greatest_parts : (xs ys : List Entry) → greatest_stamp (xs ++ ys) ≡ max (greatest_stamp xs) (greatest_stamp ys)
unfolding greatest_stamp
greatest_parts [] ys = omega arith
greatest_parts (x ∷ xs) ys = omega (arith, greatest_parts xs ys)

-- a part's greatest stamp is no greater
part_greatest : (p : Entry → Bool) (es : List Entry) → greatest_stamp (filter p es) ≤ greatest_stamp es
unfolding greatest_stamp
part_greatest p [] = omega arith
part_greatest p (e ∷ es) =
    elim (p e) as (λ b. greatest_stamp (cond b (e ∷ filter p es) (filter p es)) ≤ greatest_stamp (e ∷ es)) [
      | true ↦ omega (arith, part_greatest p es)
      | false ↦ omega (arith, part_greatest p es)
    ]

greatest_last : (e : Entry) → greatest_stamp (e ∷ []) ≡ e.stamp
unfolding greatest_stamp
greatest_last e = omega arith

greatest_none : greatest_stamp [] ≡ 0
unfolding greatest_stamp
greatest_none = refl

-- all items pass
all_pass : (p : Entry → Bool) (es : List Entry) → IsTrue (list_all p es) → filter p es ≡ es
all_pass p [] h = refl
all_pass p (e ∷ es) h = filter_in p e es (and_left (p e) _ h) ∙ ap (λ xs. e ∷ xs) (all_pass p es (and_right (p e) _ h))

-- after some entries of a stamped log, an entry is stamped by the greatest of its agent's stamps
above : (histories : ℕ → List Entry) (last : ℕ) (e : Entry) (place : Place) → IsStampedAt histories last e place → last < e.stamp
above histories last e Own h = omega (arith, h)
above histories last e (Object n) h = omega (arith, h.1)

log_at : (histories : ℕ → List Entry) (last : ℕ) (front : List Entry) (e : Entry) (rest : List Entry) → IsStampedLog histories last (front ++ e ∷ rest) → IsStampedAt histories (max last (greatest_stamp front)) e e.object
unfolding greatest_stamp
log_at histories last [] e rest h =
    let same : last ≡ max last 0 = omega arith in
    subst (λ t. IsStampedAt histories t e e.object) same h.0
log_at histories last (x ∷ front) e rest h =
    let up : last < x.stamp = above histories last x x.object h.0 in
    let same : max x.stamp (greatest_stamp front) ≡ max last (max x.stamp (greatest_stamp front)) = omega (arith, up) in
    subst (λ t. IsStampedAt histories t e e.object) same (log_at histories x.stamp front e rest h.1)

stamped_front : (blocks : List Block) (seen es : List Entry) → ((before : List Entry) (e : Entry) (rest : List Entry) → es ≡ before ++ e ∷ rest → IsTrue (is_stamped blocks (seen ++ before) e)) → IsTrue (are_stamped blocks seen es)
unfolding are_stamped
stamped_front blocks seen [] h = refl
stamped_front blocks seen (e ∷ es) h =
    and_both (is_stamped blocks seen e) _ (subst (λ s. IsTrue (is_stamped blocks s e)) (append-nil seen) (h [] e es refl))
    (stamped_front blocks (seen ++ e ∷ []) es
    (λ before x rest is. subst (λ s. IsTrue (is_stamped blocks s x)) (sym (append_assoc seen (e ∷ []) before)) (h (e ∷ before) x rest (ap (λ zs. e ∷ zs) is))))

abbrev counted : (Entry → Bool) → ℕ → Entry → ℕ
counted p n x = n + cond (p x) 1 0

not_counted : (b : Bool) (n : ℕ) → IsTrue (not b) → n + cond b 1 0 ≡ n
not_counted true n h = absurd cc
not_counted false n h = omega arith

count_none : (p : Entry → Bool) (n : ℕ) (ys : List Entry) → IsTrue (list_all (λ y. not (p y)) ys) → fold (counted p) n ys ≡ n
count_none p n [] h = refl
count_none p n (y ∷ ys) h =
    ap (λ m. fold (counted p) m ys) (not_counted (p y) n (and_left (not (p y)) _ h)) ∙ count_none p n ys (and_right (not (p y)) _ h)

count_from : (p : Entry → Bool) (n : ℕ) (xs ys : List Entry) → IsTrue (list_all (λ y. not (p y)) ys) → fold (counted p) n (xs ++ ys) ≡ fold (counted p) n xs
count_from p n [] ys h = count_none p n ys h
count_from p n (x ∷ xs) ys h = count_from p (counted p n x) xs ys h

count_parts : (p : Entry → Bool) (xs ys : List Entry) → IsTrue (list_all (λ y. not (p y)) ys) → count_by p (xs ++ ys) ≡ count_by p xs
count_parts p xs ys h = count_from p 0 xs ys h

module _ (blocks : List Block) (k b : ℕ) (es before : List Entry) (e : Entry) (rest : List Entry) (r : IsStampedRound blocks k b es (before ++ e ∷ rest)) where
  abbrev base : ℕ
  base = greatest_stamp (in_kernel k es)

  of_kernel : (d : Entry) → IsTrue (is_in_round blocks k b d) → IsTrue (d.kernel == k)
  of_kernel d h = and_left (d.kernel == k) _ h

  front_here : IsTrue (list_all (is_in_round blocks k b) before)
  front_here = all_front (is_in_round blocks k b) before (e ∷ rest) r.here

  own_here : IsTrue (is_in_round blocks k b e)
  own_here = and_left (is_in_round blocks k b e) _ (all_rest (is_in_round blocks k b) before (e ∷ rest) r.here)

  kernel_same : e.kernel ≡ k
  kernel_same = eq_true e.kernel k (of_kernel e own_here)

  kernel_is : e.kernel ≡ kernel_due (es ++ before)
  kernel_is =
      kernel_same
      ∙ sym (count_parts ends_kernel es before (all_follow (is_in_round blocks k b) (λ d. not (ends_kernel d)) before (λ d h. and_right (d.kernel == k) _ h) front_here) ∙ r.kernel)

  here_is : in_kernel k (es ++ before) ≡ in_kernel k es ++ before
  unfolding in_kernel
  here_is =
      filter_parts (λ d. d.kernel == k) es before
      ∙ ap (λ xs. filter (λ d. d.kernel == k) es ++ xs) (all_pass (λ d. d.kernel == k) before (all_follow (is_in_round blocks k b) (λ d. d.kernel == k) before of_kernel front_here))

  -- the block's beginning
  not_below : (q : Bool) (o : Option ℕ) → o ≡ Some b → IsTrue (not (q && is_below b o))
  not_below q o is = subst (λ p. IsTrue (not (q && is_below b p))) (sym is) (self q b)
    where
      self : (q : Bool) (c : ℕ) → IsTrue (not (q && nat_lt c c))
      self false c = refl
      self true c = grind (arith, nat_tests)

  all_of_block : (xs ys : List Entry) → before ≡ xs ++ ys → IsTrue (list_all (λ d. not (d.kernel == k && is_below b (block_of blocks d))) ys)
  all_of_block xs [] is = refl
  all_of_block xs (y ∷ ys) is =
      let place : before ++ e ∷ rest ≡ xs ++ y ∷ (ys ++ e ∷ rest) = ap (λ zs. zs ++ e ∷ rest) is ∙ append_assoc xs (y ∷ ys) (e ∷ rest) in
      let next : before ≡ (xs ++ y ∷ []) ++ ys = is ∙ sym (append_assoc xs (y ∷ []) ys) in
      and_both (not (y.kernel == k && is_below b (block_of blocks y))) _ (not_below (y.kernel == k) (block_of blocks y) (r.of_block xs y (ys ++ e ∷ rest) place)) (all_of_block (xs ++ y ∷ []) ys next)

  both_tests : (xs : List Entry) → IsTrue (list_all (λ d. is_below b (block_of blocks d)) xs) → filter (λ d. d.kernel == k && is_below b (block_of blocks d)) xs ≡ filter (λ d. d.kernel == k) xs
  both_tests [] h = refl
  both_tests (x ∷ xs) h =
      ap (λ t. cond t (x ∷ filter (λ d. d.kernel == k && is_below b (block_of blocks d)) xs) (filter (λ d. d.kernel == k && is_below b (block_of blocks d)) xs))
      (and_true (x.kernel == k) _ (and_left (is_below b (block_of blocks x)) _ h))
      ∙ ap (λ ys. cond (x.kernel == k) (x ∷ ys) ys) (both_tests xs (and_right (is_below b (block_of blocks x)) _ h))
    where
      and_true : (p q : Bool) → IsTrue q → (p && q) ≡ p
      and_true true q h = h
      and_true false q h = refl

  earlier_is : earlier_here blocks k b (es ++ before) ≡ in_kernel k es
  unfolding earlier_here in_kernel
  earlier_is =
      filter_front (λ d. d.kernel == k && is_below b (block_of blocks d)) es before (all_of_block [] before refl)
      ∙ both_tests es r.earlier

  -- the agent's part
  by_is : by e.agent.0 (before ++ e ∷ rest) ≡ by e.agent.0 before ++ e ∷ by e.agent.0 rest
  unfolding by
  by_is =
      filter_parts (λ d. d.agent.0 == e.agent.0) before (e ∷ rest)
      ∙ ap (λ xs. filter (λ d. d.agent.0 == e.agent.0) before ++ xs) (filter_in (λ d. d.agent.0 == e.agent.0) e rest (eq_same e.agent.0))

  stamped_own : IsStampedAt r.histories (max base (greatest_stamp (by e.agent.0 before))) e e.object
  stamped_own =
      log_at r.histories base (by e.agent.0 before) e (by e.agent.0 rest)
      (subst (λ xs. IsStampedLog r.histories base xs) by_is (r.logs e.agent.0))

  by_here : greatest_stamp (by e.agent.0 (in_kernel k es ++ before)) ≡ max (greatest_stamp (by e.agent.0 (in_kernel k es))) (greatest_stamp (by e.agent.0 before))
  unfolding by
  by_here = ap greatest_stamp (filter_parts (λ d. d.agent.0 == e.agent.0) (in_kernel k es) before) ∙ greatest_parts _ _

  by_base : greatest_stamp (by e.agent.0 (in_kernel k es)) ≤ base
  unfolding by
  by_base = part_greatest (λ d. d.agent.0 == e.agent.0) (in_kernel k es)

  -- the object's part: the history that the agent saw is what stands before the entry
  history_is : (n : ℕ) → IsTrue (is_on n e.object) → r.histories n ≡ on n (in_kernel k es ++ before) ++ e ∷ on n rest
  unfolding on
  history_is n own =
      r.are_histories n
      ∙ ap (λ xs. filter (λ d. is_on n d.object) (in_kernel k es) ++ xs)
      (filter_parts (λ d. is_on n d.object) before (e ∷ rest) ∙ ap (λ xs. filter (λ d. is_on n d.object) before ++ xs) (filter_in (λ d. is_on n d.object) e rest own))
      ∙ sym (append_assoc (filter (λ d. is_on n d.object) (in_kernel k es)) (filter (λ d. is_on n d.object) before) _)
      ∙ ap (λ xs. xs ++ e ∷ filter (λ d. is_on n d.object) rest) (sym (filter_parts (λ d. is_on n d.object) (in_kernel k es) before))

  saw : (n : ℕ) → IsTrue (is_on n e.object) → (h : HadBefore (r.histories n) e) → h.before ≡ on n (in_kernel k es ++ before)
  saw n own h =
      same_front e h.before h.more (on n (in_kernel k es ++ before)) (on n rest)
      (pairs_before rises h.before e h.more (subst (λ xs. IsTrue (all_pairs rises xs)) h.split (r.rising n)))
      (pairs_before rises (on n (in_kernel k es ++ before)) e (on n rest) (subst (λ xs. IsTrue (all_pairs rises xs)) (history_is n own) (r.rising n)))
      (sym h.split ∙ history_is n own)

  object_stamp : (place : Place) → e.object ≡ place → IsStampedAt r.histories (max base (greatest_stamp (by e.agent.0 before))) e place
      → e.stamp ≡ 1 + max (max base (greatest_stamp (by e.agent.0 before))) (greatest_stamp (at_place place (in_kernel k es ++ before)))
  object_stamp Own is h = let none : greatest_stamp [] ≡ 0 = greatest_none in omega (arith, h, none)
  object_stamp (Object n) is h =
      let seen : h.0.stamp ≡ greatest_stamp (on n.0 (in_kernel k es ++ before)) = h.0.last ∙ ap greatest_stamp (saw n.0 (ap (is_on n.0) is ∙ eq_same n.0) h.0) in
      h.1 ∙ ap (λ t. 1 + max (max base (greatest_stamp (by e.agent.0 before))) t) seen

  pub is_stamped_here : IsTrue (is_stamped blocks (es ++ before) e)
  unfolding is_stamped
  is_stamped_here =
      let block : block_of blocks e ≡ Some b = r.of_block before e rest refl in
      let counted : counted_to blocks (es ++ before) (block_of blocks e) ≡ b = ap (counted_to blocks (es ++ before)) block in
      let first : greatest_stamp (earlier_here blocks e.kernel (counted_to blocks (es ++ before) (block_of blocks e)) (es ++ before)) ≡ base =
      ap (λ c. greatest_stamp (earlier_here blocks e.kernel c (es ++ before))) counted
      ∙ ap (λ j. greatest_stamp (earlier_here blocks j b (es ++ before))) kernel_same ∙ ap greatest_stamp earlier_is in
      let here : in_kernel e.kernel (es ++ before) ≡ in_kernel k es ++ before = ap (λ j. in_kernel j (es ++ before)) kernel_same ∙ here_is in
      let second : greatest_stamp (by e.agent.0 (in_kernel e.kernel (es ++ before))) ≡ max (greatest_stamp (by e.agent.0 (in_kernel k es))) (greatest_stamp (by e.agent.0 before)) =
      ap (λ xs. greatest_stamp (by e.agent.0 xs)) here ∙ by_here in
      let third : greatest_stamp (at_place e.object (in_kernel e.kernel (es ++ before))) ≡ greatest_stamp (at_place e.object (in_kernel k es ++ before)) =
      ap (λ xs. greatest_stamp (at_place e.object xs)) here in
      let stamp : e.stamp ≡ 1 + max (max base (greatest_stamp (by e.agent.0 before))) (greatest_stamp (at_place e.object (in_kernel k es ++ before))) = object_stamp e.object refl stamped_own in
      let low : greatest_stamp (by e.agent.0 (in_kernel k es)) ≤ base = by_base in
      let all : e.stamp ≡ stamp_due blocks (es ++ before) e = total _ _ _ _ _ _ _ first second third stamp low in
      and_both (e.kernel == kernel_due (es ++ before)) _ (eq_test e.kernel (kernel_due (es ++ before)) kernel_is) (eq_test e.stamp (stamp_due blocks (es ++ before) e) all)
    where
      total : (s x y z own old o : ℕ) {w : ℕ} → x ≡ w → y ≡ max old own → z ≡ o → s ≡ 1 + max (max w own) o → old ≤ w → s ≡ 1 + max (max x y) z
      total s x y z own old o p q t u v = omega (arith, p, q, t, u, v)

-- the stamps of a round are due
pub round_is_stamped : (blocks : List Block) (k b : ℕ) (es merged : List Entry) → IsStampedRound blocks k b es merged → IsTrue (are_stamped blocks es merged)
round_is_stamped blocks k b es merged r =
    stamped_front blocks es merged (λ before e rest is. is_stamped_here blocks k b es before e rest (subst (IsStampedRound blocks k b es) is r))
