-- What one agent did alone in a round takes the history through one block more.
use Rattle.std.proofs.Common.{◌≡◌, ◌≢◌, ℕ, ◌+◌, ◌<◌, ◌≤◌, Bool, true, false, not, ◌&&◌, ◌||◌, ◌==◌, nat_lt, nat_le, List, [], ◌∷◌, ◌++◌, length, filter, refl, sym, ap, subst, ◌∙◌, arith, IsTrue, cond, unwrap_or, suc}
use Rattle.std.specs.Prelude.{Option, Some}
use Rattle.std.specs.List.{list_all}
use Rattle.std.proofs.lemmas.Bool.Decides.{nat_tests}
use Rattle.ho_events.specs.History.{on, greatest_stamp}
use Rattle.ho_events.specs.declared.entry.Entry.{Entry}
use Rattle.ho_events.specs.declared.script.AgentWork.{AgentWork}
use Rattle.ho_events.specs.declared.script.Block.{Block}
use Rattle.ho_events.specs.declared.slip.At.{At}
use Rattle.ho_world.specs.Alone.{IsRoundOf, first_at, IsAlone, GivesRound, AloneIsNext}
use Rattle.ho_world.specs.Entries.{in_kernel, is_of, is_own, is_ok, lines, lines_from, lines_of}
use Rattle.ho_world.specs.Legal.{block_of, is_below, Labeling, labeling_from, nothing_bound, is_earlier_of, labels_before, labels_now, world_before, Fits, IsWhole}
use Rattle.ho_world.specs.Readings.{are_stamped, IsDone}
use Rattle.ho_world.specs.Sequences.{Labels, sequence}
use Rattle.ho_world.specs.Tasks.{Ask, Due, due_of}
use Rattle.ho_world.specs.Threads.{is_in_round}
use Rattle.ho_world.specs.Through.{HasRisingNumbers, is_here, IsDoneBy, IsThrough}
use Rattle.ho_world.specs.World.{State, World}
use Rattle.ho_world.proofs.AloneActs.{all_pass, kernel_here, chunk_fits}
use Rattle.ho_world.proofs.AloneChunks.{is_later, Chunk, went_chunk, chunk_at, chunk_own, front_mine, told}
use Rattle.ho_world.proofs.AloneDue.{mine_agent, mine_block, mine_here, round_in_order, earlier_number, earlier_entry, round_follows}
use Rattle.ho_world.proofs.AloneLabels.{labeling_parts, went_labels}
use Rattle.ho_world.proofs.AloneStamped.{alone_stamped}
use Rattle.ho_world.proofs.AloneStamps.{is_of_at, is_mine, Stamps, stamps_above, stamps_last, went_stamps, went_mine, went_goes}
use Rattle.ho_world.proofs.Fronts.{and_both, and_left, and_right, all_append, all_rest, all_follow, all_line, filter_front, filter_parts, eq_true}
use Rattle.ho_world.proofs.Stamped.{greatest_parts}
use Rattle.ho_world.proofs.Went.{Went, went}

-- two tests that say the same of all items
same_filter : (r p q : Entry → Bool) (xs : List Entry) → ((x : Entry) → IsTrue (r x) → p x ≡ q x) → IsTrue (list_all r xs) → filter p xs ≡ filter q xs
same_filter r p q [] same h = refl
same_filter r p q (x ∷ xs) same h =
    ap (λ c. cond c (x ∷ filter p xs) (filter p xs)) (same x (and_left (r x) _ h)) ∙ ap (λ ys. cond (q x) (x ∷ ys) ys) (same_filter r p q xs same (and_right (r x) _ h))

all_at : (p : Entry → Bool) (es before : List Entry) (e : Entry) (rest : List Entry) → es ≡ before ++ e ∷ rest → IsTrue (list_all p es) → IsTrue (p e)
all_at p es before e rest is h = and_left (p e) _ (all_rest p before (e ∷ rest) (subst (λ xs. IsTrue (list_all p xs)) is h))

same_value : {T : Type 0} (x y : T) → Some x ≡ Some y → x ≡ y
same_value x y e = ap (λ o. unwrap_or o x) e

module _ (start : World) (blocks : List Block) (es new : List Entry) (b k : ℕ) (work : AgentWork) (begun : ℕ → Option State) (labels later : Labels)
    (numbers : HasRisingNumbers blocks) (r : IsRoundOf blocks b work) (t : IsThrough start blocks es b k) (alone : IsAlone start blocks es new k work begun labels later) where
  abbrev histories : ℕ → List Entry
  histories o = on o (in_kernel k es)

  abbrev first : At
  first = first_at k work es

  abbrev base : ℕ
  base = greatest_stamp (in_kernel k es)

  abbrev mine : Entry → Bool
  mine e = is_mine first (length work.commands) e

  all_went : Went begun histories work.commands labels first (length work.commands) later new alone.last
  all_went = went begun histories work.commands labels first (length work.commands) later new alone.last alone.done

  all_stamps : Stamps histories base [] new alone.last.last
  all_stamps = went_stamps begun histories work.commands labels first (length work.commands) later new alone.last all_went

  all_mine : IsTrue (list_all mine new)
  all_mine = went_mine begun histories work.commands labels first (length work.commands) later new alone.last all_went

  all_here : IsTrue (list_all (is_here blocks b k) new)
  all_here = all_follow mine (is_here blocks b k) new (λ e h. mine_here blocks b work r k es e h) all_mine

  of_kernel : (e : Entry) → IsTrue (mine e) → IsTrue (e.kernel == k)
  of_kernel e h = and_left (e.kernel == k) _ (and_left (e.kernel == k && e.agent.0 == work.agent.0) _ h)

  all_kernel : IsTrue (list_all (λ e. e.kernel == k) new)
  all_kernel = all_follow mine (λ e. e.kernel == k) new of_kernel all_mine

  -- stamps
  in_round : (e : Entry) → IsTrue (mine e) → IsTrue (is_in_round blocks k b e)
  in_round e h = and_both (e.kernel == k) _ (of_kernel e h) (no_kexec e.agent.0 (is_own e.object) (is_ok e.reply) (eq_true e.agent.0 work.agent.0 (mine_agent blocks b work r k es e h)))
    where
      above : 0 < work.agent.0
      above = alone.agent

      not_zero : (x : ℕ) → x ≡ work.agent.0 → (x == 0) ≡ false
      not_zero x is = let up : 0 < work.agent.0 = above in grind (arith, nat_tests)

      no_kexec : (x : ℕ) (p q : Bool) → x ≡ work.agent.0 → IsTrue (not ((x == 0 && p) && q))
      no_kexec x p q is = ap (λ c. not ((c && p) && q)) (not_zero x is)

  new_stamped : IsTrue (are_stamped blocks es new)
  new_stamped =
      alone_stamped blocks k b work.agent.0 es new alone.last.last alone.kernel t.stamped t.below
      (all_follow mine (is_in_round blocks k b) new in_round all_mine)
      (all_follow mine (λ e. e.agent.0 == work.agent.0) new (λ e h. mine_agent blocks b work r k es e h) all_mine)
      (λ before e rest is. mine_block blocks b work r k es e (all_at mine new before e rest is all_mine))
      all_stamps

  last_is : alone.last.last ≡ greatest_stamp (in_kernel k (es ++ new))
  last_is =
      stamps_last histories base alone.last.last [] new all_stamps ∙ sym (greatest_parts (in_kernel k es) new)
      ∙ ap greatest_stamp (sym (kernel_here start k es new all_kernel))

  -- labels
  abbrev own_part : ℕ → List Entry → List Entry
  own_part a xs = filter (λ d. d.kernel == k && d.agent.0 == a) xs

  abbrev begin : Labeling
  begin = labeling_from blocks nothing_bound (own_part work.agent.0 es)

  begins : begin.labels ≡ labels
  unfolding labels_now
  begins = sym alone.labels_are

  later_is : later ≡ labels_now blocks k work.agent.0 (es ++ new)
  unfolding labels_now
  later_is = sym
      (ap (λ xs. (labeling_from blocks nothing_bound xs).labels)
      (filter_parts (λ d. d.kernel == k && d.agent.0 == work.agent.0) es new
      ∙ ap (λ xs. own_part work.agent.0 es ++ xs) (all_pass (λ d. d.kernel == k && d.agent.0 == work.agent.0) new (all_follow mine (λ d. d.kernel == k && d.agent.0 == work.agent.0) new (λ e h. and_left (e.kernel == k && e.agent.0 == work.agent.0) _ h) all_mine)))
      ∙ ap (λ (l : Labeling). l.labels) (labeling_parts blocks nothing_bound (own_part work.agent.0 es) new)
      ∙ went_labels blocks begun histories work.commands labels first b begin begins r.due (length work.commands) later new alone.last all_went)

  others_stay : (a : ℕ) → a ≢ work.agent.0 → labels_now blocks k a (es ++ new) ≡ labels_now blocks k a es
  unfolding labels_now
  others_stay a other =
      ap (λ xs. (labeling_from blocks nothing_bound xs).labels)
      (filter_front (λ d. d.kernel == k && d.agent.0 == a) es new (all_follow mine (λ d. not (d.kernel == k && d.agent.0 == a)) new (λ e h. not_its (e.kernel == k) e.agent.0 (eq_true e.agent.0 work.agent.0 (mine_agent blocks b work r k es e h))) all_mine))
    where
      no : (x : ℕ) → x ≡ work.agent.0 → (x == a) ≡ false
      no x is = grind (arith, nat_tests, other)

      not_its : (p : Bool) (x : ℕ) → x ≡ work.agent.0 → IsTrue (not (p && x == a))
      not_its false x is = refl
      not_its true x is = ap (λ c. not c) (no x is)

  -- one command
  module _ (i : ℕ) (less : i < length work.commands) (c : Chunk begun histories work.commands labels first new i) where
    number_low : work.first ≤ work.first + i
    number_low = omega arith

    number_high : work.first + i < work.first + length work.commands
    number_high = omega (arith, less)

    none_before : IsTrue (list_all (λ e. not (is_of work.agent.0 (work.first + i) e)) es)
    none_before = all_follow (λ d. is_below b (block_of blocks d)) (λ e. not (is_of work.agent.0 (work.first + i) e)) es (λ d h. other d h (d.agent.0 == work.agent.0) refl) t.below
      where
        not_that : (x y : ℕ) → x < y → IsTrue (not (x == y))
        not_that x y h = grind (arith, nat_tests)

        other : (d : Entry) → IsTrue (is_below b (block_of blocks d)) → (q : Bool) → (d.agent.0 == work.agent.0) ≡ q → IsTrue (not (q && d.command == work.first + i))
        other d h false is = refl
        other d h true is = not_that d.command (work.first + i) (earlier_entry blocks b work r k es numbers d (work.first + i) h (eq_true d.agent.0 work.agent.0 is) number_low number_high)

    earlier_es : filter (is_earlier_of k work.agent.0 (work.first + i)) es ≡ own_part work.agent.0 es
    earlier_es = same_filter (λ d. is_below b (block_of blocks d)) (is_earlier_of k work.agent.0 (work.first + i)) (λ d. d.kernel == k && d.agent.0 == work.agent.0) es (λ d h. same d h (d.kernel == k) (d.agent.0 == work.agent.0) refl) t.below
      where
        is_less : (x y : ℕ) → x < y → IsTrue (nat_lt x y)
        is_less x y h = grind (arith, nat_tests)

        same : (d : Entry) → IsTrue (is_below b (block_of blocks d)) → (p q : Bool) → (d.agent.0 == work.agent.0) ≡ q → (p && q && nat_lt d.command (work.first + i)) ≡ (p && q)
        same d h false q is = refl
        same d h true false is = refl
        same d h true true is = is_less d.command (work.first + i) (earlier_entry blocks b work r k es numbers d (work.first + i) h (eq_true d.agent.0 work.agent.0 is) number_low number_high)

    earlier_new : filter (is_earlier_of k work.agent.0 (work.first + i)) new ≡ c.front
    earlier_new =
        ap (filter (is_earlier_of k work.agent.0 (work.first + i))) c.parts
        ∙ filter_front (is_earlier_of k work.agent.0 (work.first + i)) c.front (c.chunk ++ c.back)
        (all_append (λ e. not (is_earlier_of k work.agent.0 (work.first + i) e)) c.chunk c.back
        (all_follow (is_of_at c.at) (λ e. not (is_earlier_of k work.agent.0 (work.first + i) e)) c.chunk
        (λ e h. not_now (e.kernel == k && e.agent.0 == work.agent.0) e.command c.at.command (work.first + i) (chunk_at begun histories work.commands labels first new i c).command (and_right (e.kernel == c.at.kernel && e.agent.0 == c.at.agent.0) _ h))
        (chunk_own begun histories work.commands labels first new i c))
        (all_follow (is_later (work.first + i)) (λ e. not (is_earlier_of k work.agent.0 (work.first + i) e)) c.back (λ e h. not_then (e.kernel == k && e.agent.0 == work.agent.0) (work.first + i) e.command h) c.later))
        ∙ all_pass (is_earlier_of k work.agent.0 (work.first + i)) c.front
        (all_follow (is_mine first i) (is_earlier_of k work.agent.0 (work.first + i)) c.front
        (λ e h. and_both (e.kernel == k && e.agent.0 == work.agent.0) _ (and_left (e.kernel == k && e.agent.0 == work.agent.0) _ h) (and_right (nat_le work.first e.command) _ (and_right (e.kernel == k && e.agent.0 == work.agent.0) _ h)))
        (front_mine begun histories work.commands labels first new i c))
      where
        not_now : (q : Bool) (m n g : ℕ) → n ≡ g → IsTrue (m == n) → IsTrue (not (q && nat_lt m g))
        not_now false m n g is h = refl
        not_now true m n g is h = grind (arith, nat_tests)

        not_then : (q : Bool) (g m : ℕ) → IsTrue (nat_lt g m) → IsTrue (not (q && nat_lt m g))
        not_then false g m h = refl
        not_then true g m h = grind (arith, nat_tests)

    labels_then : labels_before blocks k work.agent.0 (work.first + i) (es ++ new) ≡ c.labels
    unfolding labels_before
    labels_then =
        ap (λ xs. (labeling_from blocks nothing_bound xs).labels)
        (filter_parts (is_earlier_of k work.agent.0 (work.first + i)) es new ∙ ap (λ xs. xs ++ filter (is_earlier_of k work.agent.0 (work.first + i)) new) earlier_es ∙ ap (λ xs. own_part work.agent.0 es ++ xs) earlier_new)
        ∙ ap (λ (l : Labeling). l.labels) (labeling_parts blocks nothing_bound (own_part work.agent.0 es) c.front)
        ∙ went_labels blocks begun histories work.commands labels first b begin begins r.due i c.labels c.front c.at c.before

    told_here : lines_of work.agent.0 (work.first + i) (lines (es ++ new)) ≡ lines_from (es ++ c.front) c.chunk
    told_here = told begun histories work.commands labels first new i c es work.agent.0 (work.first + i) refl refl none_before

    front_kernel : IsTrue (list_all (λ e. e.kernel == k) c.front)
    front_kernel = all_follow (is_mine first i) (λ e. e.kernel == k) c.front (λ e h. and_left (e.kernel == k) _ (and_left (e.kernel == k && e.agent.0 == work.agent.0) _ h)) (front_mine begun histories work.commands labels first new i c)

    fits : Fits start (lines_from (es ++ c.front) c.chunk) c.acts.acts c.acts.reply × (length (lines_from (es ++ c.front) c.chunk) ≡ suc (length c.acts.acts))
    fits = chunk_fits start k es begun alone.begun_is c.at (chunk_at begun histories work.commands labels first new i c).kernel c.at.last c.acts.acts c.acts.reply c.front c.chunk c.last front_kernel c.done

    lines_here : IsTrue (list_all (λ l. l.entry.kernel == k) (lines_from (es ++ c.front) c.chunk))
    lines_here =
        all_line (λ e. e.kernel == k) (es ++ c.front) c.chunk
        ∙ all_follow (is_of_at c.at) (λ e. e.kernel == k) c.chunk
        (λ e h. ap (λ j. e.kernel == j) (sym (chunk_at begun histories work.commands labels first new i c).kernel) ∙ and_left (e.kernel == c.at.kernel) _ (and_left (e.kernel == c.at.kernel && e.agent.0 == c.at.agent.0) _ h))
        (chunk_own begun histories work.commands labels first new i c)

    command_done : IsDone start blocks (es ++ new) work.agent.0 (work.first + i) (record { block = b; task = Ask c.command })
    command_done = record {
      kernel = k;
      here = subst (λ ls. IsTrue (list_all (λ l. l.entry.kernel == k) ls)) (sym told_here) lines_here;
      whole = subst (λ ls. IsWhole start (labels_before blocks k work.agent.0 (work.first + i) (es ++ new)) (world_before start blocks k b (es ++ new)) (Ask c.command) ls) (sym told_here) (record {
        outcome = c.outcome;
        acts = c.acts;
        is_one = ap (λ l. sequence l (world_before start blocks k b (es ++ new)) (Ask c.command) c.outcome) labels_then ∙ c.is_one;
        fits = fits.0;
        all = fits.1;
      });
    }

    done_by : IsDoneBy start blocks (es ++ new) work.agent.0 (work.first + i) (record { block = b; task = Ask c.command }) k
    unfolding command_done
    done_by = record { is_done = command_done; by_then = omega arith }

  all_done : (a n : ℕ) (d : Due) → due_of blocks a n ≡ Some d → d.block ≡ b → IsDoneBy start blocks (es ++ new) a n d k
  all_done a n d due block =
      let place = r.place a n d due block in
      let c : Chunk begun histories work.commands labels first new place.0 = went_chunk begun histories work.commands labels first (length work.commands) place.0 place.2 later new alone.last all_went in
      let agent : a ≡ work.agent.0 = r.alone a n d due block in
      let task : record { block = b; task = Ask c.command } ≡ d =
      same_value (record { block = b; task = Ask c.command }) d
      (sym (r.due place.0 c.command c.command_is) ∙ ap (λ x. due_of blocks x (work.first + place.0)) (sym agent) ∙ ap (λ m. due_of blocks a m) (sym place.1) ∙ due) in
      subst (λ x. IsDoneBy start blocks (es ++ new) x n d k) (sym agent)
      (subst (λ m. IsDoneBy start blocks (es ++ new) work.agent.0 m d k) (sym place.1)
      (subst (λ e. IsDoneBy start blocks (es ++ new) work.agent.0 (work.first + place.0) e k) task (done_by place.0 place.2 c)))

  all_later : (a n : ℕ) (d : Due) → due_of blocks a n ≡ Some d → d.block < b → IsTrue (list_all (λ e. not (e.agent.0 == a) || nat_lt n e.command) new)
  all_later a n d due below = all_follow mine (λ e. not (e.agent.0 == a) || nat_lt n e.command) new (λ e h. after e h (e.agent.0 == a) refl) all_mine
    where
      is_less : (x y : ℕ) → x < y → IsTrue (nat_lt x y)
      is_less x y h = grind (arith, nat_tests)

      less_than : (x y : ℕ) → IsTrue (nat_lt x y) → x < y
      less_than x y h = grind (arith, nat_tests)

      at_most : (x y : ℕ) → IsTrue (nat_le x y) → x ≤ y
      at_most x y h = grind (arith, nat_tests)

      after : (e : Entry) → IsTrue (mine e) → (q : Bool) → (e.agent.0 == a) ≡ q → IsTrue (not q || nat_lt n e.command)
      after e h false is = refl
      after e h true is =
          let range : IsTrue (nat_le work.first e.command && nat_lt e.command (work.first + length work.commands)) = and_right (e.kernel == k && e.agent.0 == work.agent.0) _ h in
          let agent : a ≡ work.agent.0 = sym (eq_true e.agent.0 a is) ∙ eq_true e.agent.0 work.agent.0 (mine_agent blocks b work r k es e h) in
          is_less n e.command
          (earlier_number blocks b work r k es numbers n e.command d (ap (λ x. due_of blocks x n) (sym agent) ∙ due) below
          (at_most work.first e.command (and_left (nat_le work.first e.command) _ range))
          (less_than e.command (work.first + length work.commands) (and_right (nat_le work.first e.command) _ range)))

  pub gives_round : GivesRound start blocks es new b k work later alone.last.last
  gives_round = record {
    next = record {
      here = all_here;
      stamped = new_stamped;
      in_order = round_in_order blocks b work r k es new all_mine (went_goes begun histories work.commands labels first (length work.commands) later new alone.last all_went);
      following = round_follows blocks b work r k es numbers new t.below t.kernels all_mine (stamps_above histories base alone.last.last [] new all_stamps base (omega arith));
      objects = alone.objects;
      agents = all_done;
      later = all_later;
    };
    labels = later_is;
    others = others_stay;
    stamp = last_is;
  }

pub alone_is_next : AloneIsNext
alone_is_next start blocks es new b k work begun labels later numbers r t alone = gives_round start blocks es new b k work begun labels later numbers r t alone
