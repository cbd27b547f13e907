-- The readings of a list make it a legal history.
use Rattle.std.proofs.Common.{◌≡◌, ℕ, ◌+◌, ◌<◌, ◌≤◌, Bool, true, false, not, ◌&&◌, ◌||◌, ◌==◌, nat_lt, nat_le, List, [], ◌∷◌, ◌++◌, length, filter, refl, sym, ap, subst, ◌∙◌, arith, IsTrue, append_assoc, is_some, is_none, zero, suc}
use Rattle.std.specs.Prelude.{Option, None, Some}
use Rattle.std.specs.List.{list_all, list_any}
use Rattle.std.proofs.lemmas.Bool.Decides.{nat_tests}
use Rattle.std.proofs.lemmas.List.{append-nil}
use Rattle.ho_events.specs.History.{on, is_on}
use Rattle.ho_events.specs.declared.entry.Entry.{Entry}
use Rattle.ho_events.specs.declared.entry.Place.{Place}
use Rattle.ho_events.specs.declared.entry.Place.TheVariants.{Object, Own}
use Rattle.ho_events.specs.declared.reply.Reply.{Reply}
use Rattle.ho_events.specs.declared.script.Block.{Block}
use Rattle.ho_world.specs.World.{World, run, after, step}
use Rattle.ho_world.specs.Frozen.{frozen, next}
use Rattle.ho_world.specs.Entries.{in_kernel, is_of, is_own, is_end_of, has_done, comes_before, beginning, Line, lines, lines_from, lines_of, all_pairs}
use Rattle.ho_world.specs.Acts.{Act}
use Rattle.ho_world.specs.Tasks.{Due, due_of}
use Rattle.ho_world.specs.Sequences.{sequence}
use Rattle.ho_world.specs.Legal.{is_stamped, is_due, due_block, is_block_due, is_possible, can_come, block_of, block_in, is_below, earlier_here, labeling_from, nothing_bound, is_earlier_of, labels_before, world_before, Fits, Begins, KeepsSequenceAt, MayCome, AllMayCome}
use Rattle.ho_world.specs.Readings.{are_stamped, is_known, no_earlier, stands_before, IsDone, IsDoneAt, Readings, ReadingsAreLegal}
use Rattle.ho_world.proofs.DueBlock.{due_block_is, ended_is}
use Rattle.ho_world.proofs.Fronts.{any_kept_false, and_both, and_left, and_right, or_left, or_right, all_front, all_rest, all_follow, filter_front, filter_parts, filter_in, any_front, any_filter, any_line, all_upto, pairs_before, pairs_after, run_front, lines_parts, eq_true, eq_same, lt_not, eq_not, eq_test}

-- numbers and tests

kernel_le : (a b : ℕ) (c : Bool) → IsTrue (nat_lt a b || (a == b && c)) → a ≤ b
kernel_le a b true h = grind (arith, nat_tests)
kernel_le a b false h = grind (arith, nat_tests)

not_false : (b : Bool) → b ≡ false → IsTrue (not b)
not_false true h = absurd cc
not_false false h = refl

not_and : (b c : Bool) → c ≡ false → IsTrue (not (b && c))
not_and true c h = not_false c h
not_and false c h = refl

and_false : (b c : Bool) → c ≡ false → (b && c) ≡ false
and_false true c h = h
and_false false c h = refl

not_first : (b c : Bool) → b ≡ false → IsTrue (not (b && c))
not_first true c h = absurd cc
not_first false c h = refl

-- an agent's later command isn't an earlier one;  isn't that one
turn_not : (b : Bool) (x a m n : ℕ) → IsTrue (not (a == x) || nat_le n m) → IsTrue (not ((b && x == a) && nat_lt m n))
turn_not false x a m n h = refl
turn_not true x a m n h = grind (arith, nat_tests)

of_not : (own : Bool) (x a m n i : ℕ) → i < n → IsTrue (not (a == x) || nat_le n m) → IsTrue (not ((x == a && m == i) && own))
of_not false x a m n i less h = not_and (x == a && m == i) false refl
of_not true x a m n i less h = grind (arith, nat_tests)

block_not : (q : Bool) (b : ℕ) (o : Option ℕ) → IsTrue (no_earlier (Some b) o) → IsTrue (not (q && is_below b o))
block_not q b None h = not_and q false refl
block_not q b (Some c) h = not_and q _ (later h)
  where
    later : IsTrue (nat_le b c) → nat_lt c b ≡ false
    later h = grind (arith, nat_tests)

-- lines that fit a sequence

no_tail : {T : Type 0} (xs ys : List T) → xs ++ ys ≡ [] → xs ≡ []
no_tail [] ys h = refl
no_tail (x ∷ xs) ys h = absurd cc

pub fits_front : (start : World) (xs ys : List Line) (acts : List Act) (reply : Reply) → Fits start (xs ++ ys) acts reply → Fits start xs acts reply
fits_front start [] ys acts reply h = tt
fits_front start (x ∷ xs) ys [] reply h = (h.0, no_tail xs ys h.1)
fits_front start (x ∷ xs) ys (act ∷ acts) reply h = (h.0, fits_front start xs ys acts reply h.1)

-- a whole sequence has its end
pub fits_end : (start : World) (ls : List Line) (acts : List Act) (reply : Reply) → Fits start ls acts reply → length ls ≡ suc (length acts) → IsTrue (list_any (λ l. is_own l.entry.object) ls)
fits_end start [] acts reply h long = absurd (omega (arith, long))
fits_end start (l ∷ ls) [] reply h long = or_left (is_own l.entry.object) _ (ap is_own h.0.object)
fits_end start (l ∷ ls) (act ∷ acts) reply h long = or_right (is_own l.entry.object) _ (fits_end start ls acts reply h.1 (omega (arith, long)))

not_own : (o : Place) (n : ℕ) → o ≡ Object (record { 0 = n }) → is_own o ≡ false
not_own o n e = ap is_own e

skip : (b c : Bool) → b ≡ false → c ≡ false → (b || c) ≡ false
skip b c e f = ap (λ x. x || c) e ∙ f

not_nil : {T : Type 0} (xs : List T) (y : T) (ys : List T) → xs ++ y ∷ ys ≡ [] → ⊥
not_nil [] y ys h = cc
not_nil (x ∷ xs) y ys h = cc

-- before another line of its command there is no end
pub no_end_before : (start : World) (xs : List Line) (l : Line) (ys : List Line) (acts : List Act) (reply : Reply) → Fits start (xs ++ l ∷ ys) acts reply → list_any (λ m. is_own m.entry.object) xs ≡ false
no_end_before start [] l ys acts reply h = refl
no_end_before start (x ∷ xs) l ys [] reply h = absurd (not_nil xs l ys h.1)
no_end_before start (x ∷ xs) l ys (act ∷ acts) reply h =
    skip (is_own x.entry.object) _ (not_own x.entry.object act.object h.0.object) (no_end_before start xs l ys acts reply h.1)

-- what stands before an entry

stamped_at : (blocks : List Block) (seen before : List Entry) (e : Entry) (rest : List Entry) → IsTrue (are_stamped blocks seen (before ++ e ∷ rest)) → IsTrue (is_stamped blocks (seen ++ before) e)
unfolding are_stamped
stamped_at blocks seen [] e rest h = subst (λ s. IsTrue (is_stamped blocks s e)) (sym (append-nil seen)) (and_left (is_stamped blocks seen e) _ h)
stamped_at blocks seen (x ∷ xs) e rest h =
    subst (λ s. IsTrue (is_stamped blocks s e)) (append_assoc seen (x ∷ []) xs)
    (stamped_at blocks (seen ++ x ∷ []) xs e rest (and_right (is_stamped blocks seen x) _ h))

same_beginning : (start : World) (es fs : List Entry) (k : ℕ) → ((j : ℕ) → j < k → in_kernel j es ≡ in_kernel j fs) → beginning start es k ≡ beginning start fs k
unfolding beginning
same_beginning start es fs zero same = refl
same_beginning start es fs (suc k) same =
    ap (λ w. next (frozen (after w (in_kernel k es)))) (same_beginning start es fs k (λ j h. same j (omega (arith, h))))
    ∙ ap (λ here. next (frozen (after (beginning start fs k) here))) (same k (omega arith))

-- what the judgement of one entry needs of its list
pub record Judged (start : World) (blocks : List Block) (es : List Entry) (e : Entry) : Type 0 where
  pub stamped : IsTrue (are_stamped blocks [] es)
  pub in_order : IsTrue (all_pairs (stands_before blocks) es)
  pub known : IsTrue (is_known blocks e)
  pub objects : (o : ℕ) → IsTrue (is_some (run ((beginning start es e.kernel).at o) (on o (in_kernel e.kernel es))))
  pub own : IsDoneAt start blocks es e.agent.0 e.command (due_of blocks e.agent.0 e.command)
  pub lower : (m : ℕ) → m < e.command → IsDoneAt start blocks es e.agent.0 m (due_of blocks e.agent.0 m)
  pub sooner : (d : Due) → due_of blocks e.agent.0 e.command ≡ Some d → (a m : ℕ) (c : Due) → due_of blocks a m ≡ Some c → c.block < d.block → IsDone start blocks es a m c

module _ (start : World) (blocks : List Block) (before : List Entry) (e : Entry) (rest : List Entry) where
  abbrev all : List Entry
  all = before ++ e ∷ rest

  abbrev Later : Type 0
  Later = IsTrue (list_all (stands_before blocks e) rest)

  comes : (d : Entry) → IsTrue (stands_before blocks e d) → IsTrue (comes_before e d)
  comes d h = and_left (comes_before e d) _ (and_left (comes_before e d && no_earlier (block_of blocks e) (block_of blocks d)) _ h)

  in_block : (d : Entry) → IsTrue (stands_before blocks e d) → IsTrue (no_earlier (block_of blocks e) (block_of blocks d))
  in_block d h = and_right (comes_before e d) _ (and_left (comes_before e d && no_earlier (block_of blocks e) (block_of blocks d)) _ h)

  in_turn : (d : Entry) → IsTrue (stands_before blocks e d) → IsTrue (not (e.agent.0 == d.agent.0) || nat_le e.command d.command)
  in_turn d h = and_right (comes_before e d && no_earlier (block_of blocks e) (block_of blocks d)) _ h

  kernel_front : (j : ℕ) → j < e.kernel → Later → in_kernel j all ≡ in_kernel j before
  unfolding in_kernel
  kernel_front j less h =
      filter_front (λ d. d.kernel == j) before (e ∷ rest)
      (and_both (not (e.kernel == j)) _ (not_false _ (eq_not e.kernel j less))
      (all_follow (stands_before blocks e) (λ d. not (d.kernel == j)) rest other h))
    where
      other : (d : Entry) → IsTrue (stands_before blocks e d) → IsTrue (not (d.kernel == j))
      other d s =
          let above : e.kernel ≤ d.kernel = kernel_le e.kernel d.kernel _ (comes d s) in
          not_false _ (eq_not d.kernel j (omega (arith, less, above)))

  beginning_front : Later → beginning start all e.kernel ≡ beginning start before e.kernel
  beginning_front h = same_beginning start all before e.kernel (λ j less. kernel_front j less h)

  -- its object can make it
  here_parts : in_kernel e.kernel all ≡ in_kernel e.kernel before ++ e ∷ in_kernel e.kernel rest
  unfolding in_kernel
  here_parts =
      filter_parts (λ d. d.kernel == e.kernel) before (e ∷ rest)
      ∙ ap (λ es. filter (λ d. d.kernel == e.kernel) before ++ es) (filter_in (λ d. d.kernel == e.kernel) e rest (eq_same e.kernel))

  on_parts : (o : ℕ) → IsTrue (is_on o e.object) → on o (in_kernel e.kernel all) ≡ (on o (in_kernel e.kernel before) ++ e ∷ []) ++ on o (in_kernel e.kernel rest)
  unfolding on
  on_parts o h =
      ap (λ es. filter (λ d. is_on o d.object) es) here_parts
      ∙ filter_parts (λ d. is_on o d.object) (in_kernel e.kernel before) (e ∷ in_kernel e.kernel rest)
      ∙ ap (λ es. filter (λ d. is_on o d.object) (in_kernel e.kernel before) ++ es) (filter_in (λ d. is_on o d.object) e (in_kernel e.kernel rest) h)
      ∙ sym (append_assoc (filter (λ d. is_on o d.object) (in_kernel e.kernel before)) (e ∷ []) _)

  comes_on : (o : ℕ) → IsTrue (is_on o e.object) → Later → IsTrue (is_some (run ((beginning start all e.kernel).at o) (on o (in_kernel e.kernel all)))) → IsTrue (is_some (run ((beginning start before e.kernel).at o) (on o (in_kernel e.kernel before) ++ e ∷ [])))
  comes_on o h later ran =
      run_front step (Some ((beginning start before e.kernel).at o)) (on o (in_kernel e.kernel before) ++ e ∷ []) (on o (in_kernel e.kernel rest))
      (subst (λ es. IsTrue (is_some (run ((beginning start before e.kernel).at o) es))) (on_parts o h)
      (subst (λ w. IsTrue (is_some (run (w.at o) (on o (in_kernel e.kernel all))))) (beginning_front later) ran))

  can_come_at : (place : Place) → e.object ≡ place → Later → ((o : ℕ) → IsTrue (is_some (run ((beginning start all e.kernel).at o) (on o (in_kernel e.kernel all))))) → IsTrue (can_come (beginning start before e.kernel) (in_kernel e.kernel before) place e)
  can_come_at (Object n) is later ran = comes_on n.0 (ap (is_on n.0) is ∙ eq_same n.0) later (ran n.0)
  can_come_at Own is later ran = refl

  -- its command's entries begin a sequence
  labels_front : Later → labels_before blocks e.kernel e.agent.0 e.command all ≡ labels_before blocks e.kernel e.agent.0 e.command before
  unfolding labels_before
  labels_front h =
      ap (λ es. (labeling_from blocks nothing_bound es).labels)
      (filter_front (is_earlier_of e.kernel e.agent.0 e.command) before (e ∷ rest)
      (and_both (not (is_earlier_of e.kernel e.agent.0 e.command e)) _ (not_and (e.kernel == e.kernel && e.agent.0 == e.agent.0) _ (lt_not e.command e.command (omega arith)))
      (all_follow (stands_before blocks e) (λ d. not (is_earlier_of e.kernel e.agent.0 e.command d)) rest
      (λ d s. turn_not (d.kernel == e.kernel) d.agent.0 e.agent.0 d.command e.command (in_turn d s)) h)))

  earlier_front : (b : ℕ) → block_of blocks e ≡ Some b → Later → earlier_here blocks e.kernel b all ≡ earlier_here blocks e.kernel b before
  unfolding earlier_here
  earlier_front b is h =
      filter_front (λ d. d.kernel == e.kernel && is_below b (block_of blocks d)) before (e ∷ rest)
      (and_both (not (e.kernel == e.kernel && is_below b (block_of blocks e))) _
      (not_and (e.kernel == e.kernel) _ (ap (is_below b) is ∙ lt_not b b (omega arith)))
      (all_follow (stands_before blocks e) (λ d. not (d.kernel == e.kernel && is_below b (block_of blocks d))) rest
      (λ d s. block_not (d.kernel == e.kernel) b (block_of blocks d) (subst (λ o. IsTrue (no_earlier o (block_of blocks d))) is (in_block d s))) h))

  world_front : (b : ℕ) → block_of blocks e ≡ Some b → Later → world_before start blocks e.kernel b all ≡ world_before start blocks e.kernel b before
  world_front b is h =
      ap (λ w. after w (earlier_here blocks e.kernel b all)) (beginning_front h)
      ∙ ap (λ es. after (beginning start before e.kernel) es) (earlier_front b is h)

  abbrev own_line : Line
  own_line = record { before = before; entry = e }

  lines_all : lines all ≡ lines (before ++ e ∷ []) ++ lines_from (before ++ e ∷ []) rest
  lines_all = ap lines (sym (append_assoc before (e ∷ []) rest)) ∙ lines_parts [] (before ++ e ∷ []) rest

  told_all : (a n : ℕ) → lines_of a n (lines all) ≡ lines_of a n (lines (before ++ e ∷ [])) ++ lines_of a n (lines_from (before ++ e ∷ []) rest)
  unfolding lines_of
  told_all a n = ap (λ ls. filter (λ l. is_of a n l.entry) ls) lines_all ∙ filter_parts (λ l. is_of a n l.entry) (lines (before ++ e ∷ [])) (lines_from (before ++ e ∷ []) rest)

  told_own : lines_of e.agent.0 e.command (lines (before ++ e ∷ [])) ≡ lines_of e.agent.0 e.command (lines before) ++ own_line ∷ []
  unfolding lines_of lines_from
  told_own =
      ap (λ ls. filter (λ l. is_of e.agent.0 e.command l.entry) ls) (lines_parts [] before (e ∷ []))
      ∙ filter_parts (λ l. is_of e.agent.0 e.command l.entry) (lines before) (own_line ∷ [])
      ∙ ap (λ ls. filter (λ l. is_of e.agent.0 e.command l.entry) (lines before) ++ ls)
      (filter_in (λ l. is_of e.agent.0 e.command l.entry) own_line [] (and_both (e.agent.0 == e.agent.0) _ (eq_same e.agent.0) (eq_same e.command)))

  kernel_own : (k : ℕ) → IsTrue (list_all (λ l. l.entry.kernel == k) (lines_of e.agent.0 e.command (lines all))) → k ≡ e.kernel
  kernel_own k h =
      let p : Line → Bool = λ l. l.entry.kernel == k in
      let front : IsTrue (list_all p (lines_of e.agent.0 e.command (lines before) ++ own_line ∷ [])) =
      subst (λ ls. IsTrue (list_all p ls)) told_own
      (all_front p _ (lines_of e.agent.0 e.command (lines_from (before ++ e ∷ []) rest)) (subst (λ ls. IsTrue (list_all p ls)) (told_all e.agent.0 e.command) h)) in
      sym (eq_true e.kernel k (and_left (e.kernel == k) true (all_rest p (lines_of e.agent.0 e.command (lines before)) (own_line ∷ []) front)))

  -- an earlier command that has a whole sequence is done before
  done_front : (m : ℕ) → m < e.command → Later → has_done e.agent.0 m all ≡ has_done e.agent.0 m before
  unfolding has_done
  done_front m less h =
      any_front (is_end_of e.agent.0 m) before (e ∷ rest)
      (and_both (not (is_end_of e.agent.0 m e)) _ (not_first (is_of e.agent.0 m e) (is_own e.object) (and_false (e.agent.0 == e.agent.0) _ (eq_not e.command m less)))
      (all_follow (stands_before blocks e) (λ d. not (is_end_of e.agent.0 m d)) rest
      (λ d s. of_not (is_own d.object) d.agent.0 e.agent.0 d.command e.command m less (in_turn d s)) h))

  has_end : (a m : ℕ) → IsTrue (list_any (λ l. is_own l.entry.object) (lines_of a m (lines all))) → IsTrue (has_done a m all)
  unfolding has_done lines_of
  has_end a m h = sym (any_line (is_end_of a m) [] all) ∙ any_filter (λ l. is_of a m l.entry) (λ l. is_own l.entry.object) (lines all) h

  earlier_done_at : (m : ℕ) → m < e.command → Later → (o : Option Due) → IsDoneAt start blocks all e.agent.0 m o → IsTrue (is_none o || has_done e.agent.0 m before)
  earlier_done_at m less later None h = refl
  earlier_done_at m less later (Some d) h =
      sym (done_front m less later) ∙ has_end e.agent.0 m (fits_end start _ h.whole.acts.acts h.whole.acts.reply h.whole.fits h.whole.all)

  begins_at : (d : Due) → block_of blocks e ≡ Some d.block → Later → IsDone start blocks all e.agent.0 e.command d
      → Begins start (labels_before blocks e.kernel e.agent.0 e.command before) (world_before start blocks e.kernel d.block before) d.task (lines_of e.agent.0 e.command (lines (before ++ e ∷ [])))
  begins_at d is later h =
      let same : h.kernel ≡ e.kernel = kernel_own h.kernel h.here in
      let labels : labels_before blocks h.kernel e.agent.0 e.command all ≡ labels_before blocks e.kernel e.agent.0 e.command before =
      ap (λ k. labels_before blocks k e.agent.0 e.command all) same ∙ labels_front later in
      let world : world_before start blocks h.kernel d.block all ≡ world_before start blocks e.kernel d.block before =
      ap (λ k. world_before start blocks k d.block all) same ∙ world_front d.block is later in
      record {
        outcome = h.whole.outcome;
        acts = h.whole.acts;
        is_one = ap (λ l. sequence l (world_before start blocks e.kernel d.block before) d.task h.whole.outcome) (sym labels)
            ∙ ap (λ w. sequence (labels_before blocks h.kernel e.agent.0 e.command all) w d.task h.whole.outcome) (sym world)
            ∙ h.whole.is_one;
        fits = fits_front start _ (lines_of e.agent.0 e.command (lines_from (before ++ e ∷ []) rest)) h.whole.acts.acts h.whole.acts.reply
            (subst (λ ls. Fits start ls h.whole.acts.acts h.whole.acts.reply) (told_all e.agent.0 e.command) h.whole.fits);
      }

  -- the entry's command isn't done before it, and all tasks of earlier blocks are
  not_done : (d : Due) → IsDone start blocks all e.agent.0 e.command d → has_done e.agent.0 e.command before ≡ false
  unfolding has_done lines_of
  not_done d h =
      let parts : lines_of e.agent.0 e.command (lines all) ≡ lines_of e.agent.0 e.command (lines before) ++ own_line ∷ lines_of e.agent.0 e.command (lines_from (before ++ e ∷ []) rest) =
      told_all e.agent.0 e.command ∙ ap (λ ls. ls ++ lines_of e.agent.0 e.command (lines_from (before ++ e ∷ []) rest)) told_own
      ∙ append_assoc (lines_of e.agent.0 e.command (lines before)) (own_line ∷ []) _ in
      sym (any_line (is_end_of e.agent.0 e.command) [] before)
      ∙ any_kept_false (λ l. is_of e.agent.0 e.command l.entry) (λ l. is_own l.entry.object) (lines before)
      (no_end_before start (lines_of e.agent.0 e.command (lines before)) own_line _ h.whole.acts.acts h.whole.acts.reply
      (subst (λ ls. Fits start ls h.whole.acts.acts h.whole.acts.reply) parts h.whole.fits))

  earlier_task_done : (b : ℕ) → block_of blocks e ≡ Some b → Later → (a m : ℕ) (d : Due) → due_of blocks a m ≡ Some d → d.block < b → IsDone start blocks all a m d → has_done a m before ≡ true
  unfolding has_done
  earlier_task_done b is later a m d due less h =
      sym (any_front (is_end_of a m) before (e ∷ rest)
      (and_both (not (is_end_of a m e)) _ (other e (ap (λ o. no_earlier (Some b) o) is ∙ same_block b))
      (all_follow (stands_before blocks e) (λ x. not (is_end_of a m x)) rest (λ x s. other x (subst (λ o. IsTrue (no_earlier o (block_of blocks x))) is (in_block x s))) later)))
      ∙ has_end a m (fits_end start _ h.whole.acts.acts h.whole.acts.reply h.whole.fits h.whole.all)
    where
      same_block : (c : ℕ) → IsTrue (no_earlier (Some c) (Some c))
      same_block c = grind (arith, nat_tests)

      lower : (c : ℕ) → c < b → IsTrue (nat_le b c) → ⊥
      lower c less h = grind (arith, nat_tests)

      whose : (x : Entry) → IsTrue (is_end_of a m x) → block_of blocks x ≡ Some d.block
      whose x t =
          let own : IsTrue (is_of a m x) = and_left (is_of a m x) (is_own x.object) t in
          let agent : x.agent.0 ≡ a = eq_true x.agent.0 a (and_left (x.agent.0 == a) _ own) in
          let number : x.command ≡ m = eq_true x.command m (and_right (x.agent.0 == a) _ own) in
          ap (λ i. block_in (due_of blocks i x.command)) agent ∙ ap (λ i. block_in (due_of blocks a i)) number ∙ ap block_in due

      other : (x : Entry) → IsTrue (no_earlier (Some b) (block_of blocks x)) → IsTrue (not (is_end_of a m x))
      other x h =
          elim (is_end_of a m x) as (λ t. is_end_of a m x ≡ t → IsTrue (not t)) [
            | true ↦ λ t. absurd (lower d.block less (subst (λ o. IsTrue (no_earlier (Some b) o)) (whose x t) h))
            | false ↦ λ t. refl
          ] refl

  block_due_at : Judged start blocks all e → Later → (o : Option Due) → due_of blocks e.agent.0 e.command ≡ o → IsDoneAt start blocks all e.agent.0 e.command o → IsTrue (is_block_due (due_block blocks before) (block_in o))
  block_due_at r later None is h = refl
  block_due_at r later (Some d) is h =
      eq_test d.block (due_block blocks before)
      (sym (due_block_is before e.agent.0 e.command d 0 1 blocks is (not_done d h)
      (λ a m c due less. earlier_task_done d.block (ap block_in is) later a m c due less (r.sooner d is a m c due less))))

  keeps_4_at : Judged start blocks all e → Later → (o : Option Due) → due_of blocks e.agent.0 e.command ≡ o → IsTrue (is_some o) → IsDoneAt start blocks all e.agent.0 e.command o → KeepsSequenceAt start blocks before e o
  keeps_4_at r later None is some h = absurd cc
  keeps_4_at r later (Some d) is some h = (
    all_upto (λ m. is_none (due_of blocks e.agent.0 m) || has_done e.agent.0 m before) e.command
        (λ m less. earlier_done_at m less later (due_of blocks e.agent.0 m) (r.lower m less)),
    begins_at d (ap block_in is) later h,
  )

  pub may_come : Judged start blocks all e → MayCome start blocks before e
  unfolding is_due is_possible
  may_come r =
      let later : Later = pairs_after (stands_before blocks) before e rest r.in_order in
      let earlier : IsTrue (list_all (λ d. stands_before blocks d e) before) = pairs_before (stands_before blocks) before e rest r.in_order in
      let first : (d : Entry) → IsTrue (stands_before blocks d e) → IsTrue (comes_before d e) =
      λ d h. and_left (comes_before d e) _ (and_left (comes_before d e && no_earlier (block_of blocks d) (block_of blocks e)) _ h) in
      record {
        is_due = and_both (is_stamped blocks before e && list_all (λ d. comes_before d e) before) _
            (and_both (is_stamped blocks before e) _ (stamped_at blocks [] before e rest r.stamped)
            (all_follow (λ d. stands_before blocks d e) (λ d. comes_before d e) before first earlier))
            (block_due_at r later (due_of blocks e.agent.0 e.command) refl r.own);
        is_possible = can_come_at e.object refl later r.objects;
        keeps_sequence = keeps_4_at r later (due_of blocks e.agent.0 e.command) refl r.known r.own;
      }

-- every entry after those seen may come
pub all_may_come : (start : World) (blocks : List Block) (seen es : List Entry) → ((before : List Entry) (e : Entry) (rest : List Entry) → seen ++ es ≡ before ++ e ∷ rest → Judged start blocks (before ++ e ∷ rest) e) → AllMayCome start blocks seen es
unfolding AllMayCome
all_may_come start blocks seen [] r = tt
all_may_come start blocks seen (e ∷ es) r = (
  may_come start blocks seen e es (r seen e es refl),
  all_may_come start blocks (seen ++ e ∷ []) es (λ before x rest is. r before x rest (sym (append_assoc seen (e ∷ []) es) ∙ is)),
)

judged : (start : World) (blocks : List Block) (before : List Entry) (e : Entry) (rest : List Entry) → Readings start blocks (before ++ e ∷ rest) → Judged start blocks (before ++ e ∷ rest) e
judged start blocks before e rest r = record {
  stamped = r.stamped;
  in_order = r.in_order;
  known = and_left (is_known blocks e) _ (all_rest (is_known blocks) before (e ∷ rest) r.known);
  objects = r.objects e.kernel;
  own = r.agents e.agent.0 e.command;
  lower = λ m less. r.agents e.agent.0 m;
  sooner = λ d is a m c due less. subst (IsDoneAt start blocks (before ++ e ∷ rest) a m) due (r.agents a m);
}

-- a task that has its whole sequence is done
all_done : (start : World) (blocks : List Block) (es : List Entry) (a m : ℕ) (d : Due) → IsDone start blocks es a m d → has_done a m es ≡ true
unfolding has_done lines_of
all_done start blocks es a m d h =
    sym (any_line (is_end_of a m) [] es)
    ∙ any_filter (λ l. is_of a m l.entry) (λ l. is_own l.entry.object) (lines es) (fits_end start _ h.whole.acts.acts h.whole.acts.reply h.whole.fits h.whole.all)

-- the readings make a legal history
pub readings_are_legal : ReadingsAreLegal
readings_are_legal start blocks es r =
    let all : (a m : ℕ) (d : Due) → due_of blocks a m ≡ Some d → has_done a m es ≡ true =
    λ a m d due. all_done start blocks es a m d (subst (IsDoneAt start blocks es a m) due (r.agents a m)) in
    let last : 0 + length blocks ≡ length blocks = omega arith in
    record { so_far = all_may_come start blocks [] es (λ before e rest is. judged start blocks before e rest (subst (Readings start blocks) is r)); ended = ended_is es 0 1 blocks all ∙ last }
