-- What agent 0 did of a kexec takes the history through one block more.
use Rattle.std.proofs.Common.{◌≡◌, ℕ, ◌<◌, Bool, true, false, not, ◌&&◌, ◌||◌, ◌==◌, nat_lt, max, List, [], ◌∷◌, ◌++◌, length, filter, refl, sym, ap, subst, ◌∙◌, arith, IsTrue, cond, suc}
use Rattle.std.specs.Prelude.{Option, Some}
use Rattle.std.specs.List.{list_all}
use Rattle.std.proofs.lemmas.Bool.Decides.{nat_tests}
use Rattle.std.proofs.lemmas.List.{append-nil}
use Rattle.ho_base.specs.declared.numbers.Blob.{Blob}
use Rattle.ho_events.specs.History.{on, greatest_stamp}
use Rattle.ho_events.specs.declared.entry.Entry.{Entry}
use Rattle.ho_events.specs.declared.reply.Reply.{Reply}
use Rattle.ho_events.specs.declared.reply.Reply.TheVariants.{NoFrames}
use Rattle.ho_events.specs.declared.script.Block.{Block}
use Rattle.ho_events.specs.declared.slip.At.{At}
use Rattle.ho_world.specs.Entries.{in_kernel, beginning, is_of, is_own, is_ok, Line, lines, lines_from, lines_of, all_pairs}
use Rattle.ho_world.specs.Legal.{block_of, is_below, earlier_here, label_entry, Labeling, labeling_from, nothing_bound, labels_before, labels_now, world_before, Fits, IsWhole, after_task}
use Rattle.ho_world.specs.Logs.{end_with, entry_of, deeds_of}
use Rattle.ho_world.specs.Readings.{are_stamped, IsDone}
use Rattle.ho_world.specs.Sequences.{KexecCame, sequence}
use Rattle.ho_world.specs.Tasks.{Reboot, Due, due_of}
use Rattle.ho_world.specs.Threads.{is_in_round, rises}
use Rattle.ho_world.specs.Through.{HasRisingNumbers, is_here, IsDoneBy, IsThrough}
use Rattle.ho_world.specs.World.{State, World, after}
use Rattle.ho_world.proofs.AloneActs.{all_pass, kernel_here, same_beginning, chunk_fits}
use Rattle.ho_world.proofs.AloneLabels.{labeling_parts}
use Rattle.ho_world.proofs.AloneStamped.{alone_stamped}
use Rattle.ho_world.proofs.AloneStamps.{Stamps, is_of_at, chunk_of, stamps_above, stamps_last}
use Rattle.ho_world.proofs.Fronts.{and_both, and_left, and_right, all_append, all_front, all_rest, all_follow, all_line, filter_front, filter_parts, lines_parts, eq_true, eq_test}
use Rattle.ho_world.proofs.Rises.{is_greatest}
use Rattle.ho_world.proofs.Stamped.{greatest_parts}
use Rattle.kexec_laws.specs.Kexecs.{IsKexecOf, IsKexeced, GivesKexec, KexecIsNext}
use Rattle.kexec_laws.proofs.KexecEntries.{Ended, ended, same_stamped, stamped_parts, stamped_front, stamped_rest, stamped_one, one_stamped}
use Rattle.kexec_laws.proofs.KexecPlaces.{its_kernel, its_agent, its_number, its_due, its_block, its_place, its_own, in_order, earlier_number, earlier_entry, kexec_follows}

-- entries before a block, all of them earlier ones
both_tests : (blocks : List Block) (b k : ℕ) (xs : List Entry) → IsTrue (list_all (λ d. is_below b (block_of blocks d)) xs) → filter (λ d. d.kernel == k && is_below b (block_of blocks d)) xs ≡ filter (λ d. d.kernel == k) xs
both_tests blocks b k [] h = refl
both_tests blocks b k (x ∷ xs) h =
    ap (λ t. cond t (x ∷ filter (λ d. d.kernel == k && is_below b (block_of blocks d)) xs) (filter (λ d. d.kernel == k && is_below b (block_of blocks d)) xs))
    (and_true (x.kernel == k) _ (and_left (is_below b (block_of blocks x)) _ h))
    ∙ ap (λ ys. cond (x.kernel == k) (x ∷ ys) ys) (both_tests blocks b k xs (and_right (is_below b (block_of blocks x)) _ h))
  where
    and_true : (p q : Bool) → IsTrue q → (p && q) ≡ p
    and_true true q h = h
    and_true false q h = refl

not_below : (q : Bool) (b : ℕ) (o : Option ℕ) → o ≡ Some b → IsTrue (not (q && is_below b o))
not_below q b o is = subst (λ p. IsTrue (not (q && is_below b p))) (sym is) (self q b)
  where
    self : (q : Bool) (c : ℕ) → IsTrue (not (q && nat_lt c c))
    self false c = refl
    self true c = grind (arith, nat_tests)

-- stamped entries rise
stamps_rise : (f : ℕ → List Entry) (last last' : ℕ) (seen es : List Entry) → Stamps f last seen es last' → IsTrue (all_pairs rises es)
unfolding Stamps all_pairs
stamps_rise f last last' seen [] h = refl
stamps_rise f last last' seen (e ∷ es) h =
    and_both (list_all (rises e) es) _ (stamps_above f e.stamp last' (seen ++ e ∷ []) es h.1 e.stamp (omega arith)) (stamps_rise f e.stamp last' (seen ++ e ∷ []) es h.1)

-- the labels after entries of reboots are those before them
abbrev is_reboot : List Block → Blob → ℕ → Entry → Type 0
is_reboot blocks blob b e = due_of blocks e.agent.0 e.command ≡ Some (record { block = b; task = Reboot blob })

module _ (start : World) (blocks : List Block) (es new : List Entry) (b k : ℕ) (blob : Blob) (at : At) (begun : ℕ → Option State)
    (numbers : HasRisingNumbers blocks) (r : IsKexecOf blocks b blob at.command) (t : IsThrough start blocks es b k) (did : IsKexeced start es new k blob at begun) where
  abbrev histories : ℕ → List Entry
  histories o = on o (in_kernel k es)

  abbrev base : ℕ
  base = greatest_stamp (in_kernel k es)

  abbrev reply : Reply
  reply = did.acts.reply

  abbrev own_end : Reply → ℕ → List Entry
  own_end other stamp = entry_of at (end_with other) stamp ∷ []

  pub parted : Ended histories at at.last reply [] new did.last
  parted = ended begun histories at did.acts.acts reply at.last [] new did.last did.done

  all_stamps : Stamps histories base [] new did.last
  all_stamps =
      subst (λ n. Stamps histories n [] new did.last) did.begins_at
      (subst (λ xs. Stamps histories at.last [] xs did.last) (sym parted.parts) (parted.again reply))

  pub all_own : IsTrue (list_all (is_of_at at) new)
  all_own = chunk_of begun histories at at.last (deeds_of did.acts) [] new did.last did.done

  pub all_kernel : IsTrue (list_all (λ e. e.kernel == k) new)
  all_kernel = all_follow (is_of_at at) (λ e. e.kernel == k) new (λ e h. eq_test e.kernel k (its_kernel blocks b blob at r did.of_agent e h ∙ did.of_kernel)) all_own

  all_here : IsTrue (list_all (is_here blocks b k) new)
  all_here = all_follow (is_of_at at) (is_here blocks b k) new (λ e h. its_place blocks b blob at r did.of_agent k did.of_kernel e h) all_own

  -- stamps: with another reply at the end, the entries end no kernel
  abbrev others : List Entry
  others = parted.front ++ own_end NoFrames parted.stamp

  pub front_own : IsTrue (list_all (is_of_at at) parted.front)
  front_own = all_front (is_of_at at) parted.front (own_end reply parted.stamp) (subst (λ xs. IsTrue (list_all (is_of_at at) xs)) parted.parts all_own)

  end_own : (stamp : ℕ) → IsTrue (is_of_at at (entry_of at (end_with NoFrames) stamp))
  end_own stamp =
      and_both (at.kernel == at.kernel && at.agent.0 == at.agent.0) _
      (and_both (at.kernel == at.kernel) _ (eq_test at.kernel at.kernel refl) (eq_test at.agent.0 at.agent.0 refl)) (eq_test at.command at.command refl)

  others_own : IsTrue (list_all (is_of_at at) others)
  others_own = all_append (is_of_at at) parted.front (own_end NoFrames parted.stamp) front_own (and_both (is_of_at at (entry_of at (end_with NoFrames) parted.stamp)) true (end_own parted.stamp) refl)

  not_end : (p q r : Bool) → IsTrue (not q) → IsTrue (not ((p && q) && r))
  not_end true true r h = absurd cc
  not_end true false r h = refl
  not_end false q r h = refl

  no_ok : (p q : Bool) → IsTrue (not ((p && q) && false))
  no_ok true true = refl
  no_ok true false = refl
  no_ok false q = refl

  front_in_round : IsTrue (list_all (is_in_round blocks k b) parted.front)
  front_in_round = both parted.front front_own parted.objects
    where
      both : (xs : List Entry) → IsTrue (list_all (is_of_at at) xs) → IsTrue (list_all (λ e. not (is_own e.object)) xs) → IsTrue (list_all (is_in_round blocks k b) xs)
      both [] h g = refl
      both (x ∷ xs) h g =
          and_both (is_in_round blocks k b x) _
          (and_both (x.kernel == k) _ (eq_test x.kernel k (its_kernel blocks b blob at r did.of_agent x (and_left (is_of_at at x) _ h) ∙ did.of_kernel))
          (not_end (x.agent.0 == 0) (is_own x.object) (is_ok x.reply) (and_left (not (is_own x.object)) _ g)))
          (both xs (and_right (is_of_at at x) _ h) (and_right (not (is_own x.object)) _ g))

  others_in_round : IsTrue (list_all (is_in_round blocks k b) others)
  others_in_round =
      all_append (is_in_round blocks k b) parted.front (own_end NoFrames parted.stamp) front_in_round
      (and_both (is_in_round blocks k b (entry_of at (end_with NoFrames) parted.stamp)) true
      (and_both (at.kernel == k) _ (eq_test at.kernel k did.of_kernel) (no_ok (at.agent.0 == 0) true)) refl)

  others_agent : IsTrue (list_all (λ e. e.agent.0 == 0) others)
  others_agent = all_follow (is_of_at at) (λ e. e.agent.0 == 0) others (λ e h. eq_test e.agent.0 0 (its_agent blocks b blob at r did.of_agent e h)) others_own

  others_block : (before : List Entry) (e : Entry) (rest : List Entry) → others ≡ before ++ e ∷ rest → block_of blocks e ≡ Some b
  others_block before e rest is =
      its_block blocks b blob at r did.of_agent e (and_left (is_of_at at e) _ (all_rest (is_of_at at) before (e ∷ rest) (subst (λ xs. IsTrue (list_all (is_of_at at) xs)) is others_own)))

  others_stamped : IsTrue (are_stamped blocks es others)
  others_stamped =
      alone_stamped blocks k b 0 es others did.last did.kernel t.stamped t.below others_in_round others_agent others_block
      (subst (λ n. Stamps histories n [] others did.last) did.begins_at (parted.again NoFrames))

  new_stamped : IsTrue (are_stamped blocks es new)
  new_stamped =
      subst (λ xs. IsTrue (are_stamped blocks es xs)) (sym parted.parts)
      (stamped_parts blocks es parted.front (own_end reply parted.stamp)
      (stamped_front blocks es parted.front (own_end NoFrames parted.stamp) others_stamped)
      (stamped_one blocks (es ++ parted.front) (entry_of at (end_with reply) parted.stamp)
      (subst (λ c. IsTrue c) (same_stamped blocks (es ++ parted.front) at NoFrames reply parted.stamp)
      (one_stamped blocks (es ++ parted.front) (entry_of at (end_with NoFrames) parted.stamp)
      (stamped_rest blocks es parted.front (own_end NoFrames parted.stamp) others_stamped)))))

  pub kernel_now : in_kernel k (es ++ new) ≡ in_kernel k es ++ new
  kernel_now = kernel_here start k es new all_kernel

  pub begins_now : beginning start (es ++ new) k ≡ beginning start es k
  begins_now = same_beginning start k es new all_kernel

  greatest_now : greatest_stamp (in_kernel k (es ++ new)) ≡ max base (greatest_stamp new)
  greatest_now = ap greatest_stamp kernel_now ∙ greatest_parts (in_kernel k es) new

  -- labels
  no_label : (l : Labeling) (e : Entry) → is_reboot blocks blob b e → (label_entry blocks l e).labels ≡ l.labels
  no_label l e is =
      ap (λ d. cond (is_own e.object && is_ok e.reply) (after_task l d) l.labels) is ∙ either (is_own e.object && is_ok e.reply)
    where
      either : (c : Bool) → cond c l.labels l.labels ≡ l.labels
      either true = refl
      either false = refl

  no_labels : (l : Labeling) (p : Entry → Bool) (xs : List Entry) → IsTrue (list_all (is_of_at at) xs) → (labeling_from blocks l (filter p xs)).labels ≡ l.labels
  unfolding labeling_from
  no_labels l p [] h = refl
  no_labels l p (x ∷ xs) h =
      by_test (p x) (λ m. no_labels m p xs (and_right (is_of_at at x) _ h))
    where
      by_test : (c : Bool) → ((m : Labeling) → (labeling_from blocks m (filter p xs)).labels ≡ m.labels) → (labeling_from blocks l (cond c (x ∷ filter p xs) (filter p xs))).labels ≡ l.labels
      by_test false more = more l
      by_test true more = more (label_entry blocks l x) ∙ no_label l x (its_due blocks b blob at r did.of_agent x (and_left (is_of_at at x) _ h))

  labels_stay : (a : ℕ) → labels_now blocks k a (es ++ new) ≡ labels_now blocks k a es
  unfolding labels_now
  labels_stay a =
      ap (λ xs. (labeling_from blocks nothing_bound xs).labels) (filter_parts (λ d. d.kernel == k && d.agent.0 == a) es new)
      ∙ ap (λ (l : Labeling). l.labels) (labeling_parts blocks nothing_bound (filter (λ d. d.kernel == k && d.agent.0 == a) es) (filter (λ d. d.kernel == k && d.agent.0 == a) new))
      ∙ no_labels (labeling_from blocks nothing_bound (filter (λ d. d.kernel == k && d.agent.0 == a) es)) (λ d. d.kernel == k && d.agent.0 == a) new all_own

  -- the task
  none_before : IsTrue (list_all (λ e. not (is_of 0 at.command e)) es)
  none_before = all_follow (λ d. is_below b (block_of blocks d)) (λ e. not (is_of 0 at.command e)) es (λ d h. other d h (d.agent.0 == 0) refl) t.below
    where
      not_that : (x y : ℕ) → x < y → IsTrue (not (x == y))
      not_that x y h = grind (arith, nat_tests)

      other : (d : Entry) → IsTrue (is_below b (block_of blocks d)) → (q : Bool) → (d.agent.0 == 0) ≡ q → IsTrue (not (q && d.command == at.command))
      other d h false is = refl
      other d h true is = not_that d.command at.command (earlier_entry blocks b blob at r did.of_agent numbers d h (eq_true d.agent.0 0 is))

  told : lines_of 0 at.command (lines (es ++ new)) ≡ lines_from (es ++ []) new
  unfolding lines_of
  told =
      ap (filter own) (lines_parts [] es new) ∙ filter_parts own (lines es) (lines_from es new)
      ∙ ap (λ ls. ls ++ filter own (lines_from es new)) (filter_front own [] (lines es) (all_line (λ e. not (is_of 0 at.command e)) [] es ∙ none_before))
      ∙ all_pass own (lines_from es new) (all_line (is_of 0 at.command) es new ∙ all_follow (is_of_at at) (is_of 0 at.command) new (λ e h. its_own blocks b blob at r did.of_agent e h) all_own)
      ∙ ap (λ s. lines_from s new) (sym (append-nil es))
    where
      own : Line → Bool
      own l = is_of 0 at.command l.entry

  world_is : world_before start blocks k b (es ++ new) ≡ after (beginning start es k) (in_kernel k es)
  unfolding earlier_here in_kernel
  world_is =
      ap (λ (w : World). after w (earlier_here blocks k b (es ++ new))) begins_now
      ∙ ap (λ xs. after (beginning start es k) xs)
      (filter_front (λ d. d.kernel == k && is_below b (block_of blocks d)) es new (all_follow (is_of_at at) (λ d. not (d.kernel == k && is_below b (block_of blocks d))) new (λ e h. not_below (e.kernel == k) b (block_of blocks e) (its_block blocks b blob at r did.of_agent e h)) all_own)
      ∙ both_tests blocks b k es t.below)

  fits : Fits start (lines_from (es ++ []) new) did.acts.acts reply × (length (lines_from (es ++ []) new) ≡ suc (length did.acts.acts))
  fits = chunk_fits start k es begun did.begun_is at did.of_kernel at.last did.acts.acts reply [] new did.last refl did.done

  lines_here : IsTrue (list_all (λ l. l.entry.kernel == k) (lines_from (es ++ []) new))
  lines_here = all_line (λ e. e.kernel == k) (es ++ []) new ∙ all_kernel

  task_done : IsDone start blocks (es ++ new) 0 at.command (record { block = b; task = Reboot blob })
  task_done = record {
    kernel = k;
    here = subst (λ ls. IsTrue (list_all (λ l. l.entry.kernel == k) ls)) (sym told) lines_here;
    whole = subst (λ ls. IsWhole start (labels_before blocks k 0 at.command (es ++ new)) (world_before start blocks k b (es ++ new)) (Reboot blob) ls) (sym told) (record {
      outcome = KexecCame did.outcome;
      acts = did.acts;
      is_one = ap (λ (w : World). sequence (labels_before blocks k 0 at.command (es ++ new)) w (Reboot blob) (KexecCame did.outcome)) world_is ∙ did.is_one;
      fits = fits.0;
      all = fits.1;
    });
  }

  done_by : IsDoneBy start blocks (es ++ new) 0 at.command (record { block = b; task = Reboot blob }) k
  unfolding task_done
  done_by = record { is_done = task_done; by_then = omega arith }

  all_done : (a n : ℕ) (d : Due) → due_of blocks a n ≡ Some d → d.block ≡ b → IsDoneBy start blocks (es ++ new) a n d k
  all_done a n d due block =
      let own = r.alone a n d due block in
      let task : record { block = b; task = Reboot blob } ≡ d =
      same_value (record { block = b; task = Reboot blob }) d (sym r.due ∙ ap (λ x. due_of blocks x at.command) (sym own.0) ∙ ap (λ m. due_of blocks a m) (sym own.1) ∙ due) in
      subst (λ x. IsDoneBy start blocks (es ++ new) x n d k) (sym own.0)
      (subst (λ m. IsDoneBy start blocks (es ++ new) 0 m d k) (sym own.1)
      (subst (λ e. IsDoneBy start blocks (es ++ new) 0 at.command e k) task done_by))
    where
      same_value : (x y : Due) → Some x ≡ Some y → x ≡ y
      same_value x y e = cc

  all_later : (a n : ℕ) (d : Due) → due_of blocks a n ≡ Some d → d.block < b → IsTrue (list_all (λ e. not (e.agent.0 == a) || nat_lt n e.command) new)
  all_later a n d due below = all_follow (is_of_at at) (λ e. not (e.agent.0 == a) || nat_lt n e.command) new (λ e h. later e h (e.agent.0 == a) refl) all_own
    where
      is_less : (x y c : ℕ) → x < c → y ≡ c → IsTrue (nat_lt x y)
      is_less x y c h is = grind (arith, nat_tests)

      later : (e : Entry) → IsTrue (is_of_at at e) → (q : Bool) → (e.agent.0 == a) ≡ q → IsTrue (not q || nat_lt n e.command)
      later e h false is = refl
      later e h true is =
          let agent : a ≡ 0 = sym (eq_true e.agent.0 a is) ∙ its_agent blocks b blob at r did.of_agent e h in
          is_less n e.command at.command (earlier_number blocks b blob at r did.of_agent numbers n d (ap (λ x. due_of blocks x n) (sym agent) ∙ due) below) (its_number blocks b blob at r did.of_agent e h)

  pub gives_kexec : GivesKexec start blocks es new b k did.last
  gives_kexec = record {
    next = record {
      here = all_here;
      stamped = new_stamped;
      in_order = in_order blocks b blob at r did.of_agent histories base did.last [] new all_stamps all_own;
      following = kexec_follows blocks b blob at r did.of_agent numbers k did.of_kernel es new t.below t.kernels all_own (stamps_above histories base did.last [] new all_stamps base (omega arith));
      objects = did.objects;
      agents = all_done;
      later = all_later;
    };
    labels = labels_stay;
    stamp = stamps_last histories base did.last [] new all_stamps ∙ sym greatest_now;
    base = greatest_now ∙ ap (λ n. max base n) (sym (is_greatest new (stamps_rise histories base did.last [] new all_stamps)));
    begins = begins_now;
    here = kernel_now;
  }

pub kexec_is_next : KexecIsNext
kexec_is_next start blocks es new b k blob at begun numbers r t did = gives_kexec start blocks es new b k blob at begun numbers r t did
