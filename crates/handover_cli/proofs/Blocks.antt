-- A block more: what one agent did alone, or that nobody worked, takes the history and the kernel on.
use Rattle.std.proofs.Common.{◌≡◌, ◌≢◌, ℕ, ◌+◌, ◌<◌, Bool, true, false, not, ◌&&◌, ◌==◌, max, nat_lt, List, [], ◌∷◌, ◌++◌, length, fold, cond, refl, sym, ap, subst, ◌∙◌, arith, IsTrue, is_some, zero, suc, take}
use Rattle.std.specs.Prelude.{Option, Some, count_by, slice_get}
use Rattle.std.specs.List.{list_all}
use Rattle.std.proofs.lemmas.Bool.Decides.{nat_tests}
use Rattle.std.proofs.lemmas.List.{append-nil}
use Rattle.ho_events.specs.History.{on, greatest_stamp, last_stamp}
use Rattle.ho_events.specs.declared.entry.Entry.{Entry}
use Rattle.ho_events.specs.declared.script.AgentWork.{AgentWork}
use Rattle.ho_events.specs.declared.script.Block.{Block}
use Rattle.ho_events.specs.declared.script.Block.TheVariants.{Round, Kexec}
use Rattle.ho_events.specs.declared.slip.At.{At}
use Rattle.ho_world.specs.World.{World, run, after, handler_at}
use Rattle.ho_world.specs.Alone.{IsRoundOf, first_at, IsAlone, GivesRound}
use Rattle.ho_world.specs.Entries.{in_kernel, beginning, world_of, is_own, is_ok, ends_kernel, all_pairs}
use Rattle.ho_world.specs.Legal.{kernel_due, labels_now}
use Rattle.ho_world.specs.Logs.{HasDone, paired_on}
use Rattle.ho_world.specs.Sequences.{Labels}
use Rattle.ho_world.specs.Through.{HasRisingNumbers, IsThrough, IsNext}
use Rattle.ho_world.proofs.AloneActs.{kernel_here}
use Rattle.ho_world.proofs.AloneNext.{alone_is_next}
use Rattle.ho_world.proofs.AloneStamps.{is_mine, goes_before, went_mine, went_goes}
use Rattle.ho_world.proofs.Fronts.{and_both, and_left, and_right, all_follow, eq_true, filter_front}
use Rattle.ho_world.proofs.Grow.{begins_same}
use Rattle.ho_world.proofs.Rises.{on_parts, is_greatest}
use Rattle.ho_world.proofs.Rounds.{idle_is_next}
use Rattle.ho_world.proofs.Stamped.{greatest_parts}
use Rattle.ho_world.proofs.Step.{one_more}
use Rattle.ho_world.proofs.Went.{Went, went}
use Rattle.machine_core.specs.Agents.{state_in}
use Rattle.machine_core.specs.Objects.{Start}
use Rattle.machine_core.specs.Kernels.{KernelValue, object_at, starts_in, begun_in, histories_in}
use Rattle.handover_cli.specs.Rounds.{WorkedAlone, IsAfter, labels_at, begins_at}
use Rattle.handover_cli.specs.Works.{CanDo, CanRun, DidBlock, FollowsAs, due_after}
use Rattle.handover_cli.proofs.KernelWorlds.{no_history, ran}
use Rattle.handover_cli.proofs.KexecBlocks.{GoesOn, kexec_through, kexec_done, kexec_here, kexec_some, kexec_sound, kexec_world, world_before, world_now}
use Rattle.ho_events.specs.Script.Rules.{sections_of}
use Rattle.sound_histories.specs.Binding.{HasOnly, bound_in}
use Rattle.sound_histories.specs.Scripts.{AreSoundBlocks, StandsSound}
use Rattle.sound_histories.proofs.Standing.{round_stands}
use Rattle.machine_core.specs.Worlds.{IsWorldOf}
use Rattle.kexec_laws.specs.Kexecs.{kexec_number}
use Rattle.ho_base.specs.Objects.{handler_no}

-- entries that end no kernel count for none
abbrev counted : (Entry → Bool) → ℕ → Entry → ℕ
counted p n x = n + cond (p x) 1 0

not_counted : (b : Bool) (n : ℕ) → IsTrue (not b) → n + cond b 1 0 ≡ n
not_counted true n h = absurd cc
not_counted false n h = omega arith

count_none : (p : Entry → Bool) (n : ℕ) (ys : List Entry) → IsTrue (list_all (λ y. not (p y)) ys) → fold (counted p) n ys ≡ n
count_none p n [] h = refl
count_none p n (y ∷ ys) h =
    ap (λ m. fold (counted p) m ys) (not_counted (p y) n (and_left (not (p y)) _ h)) ∙ count_none p n ys (and_right (not (p y)) _ h)

count_from : (p : Entry → Bool) (n : ℕ) (xs ys : List Entry) → IsTrue (list_all (λ y. not (p y)) ys) → fold (counted p) n (xs ++ ys) ≡ fold (counted p) n xs
count_from p n [] ys h = count_none p n ys h
count_from p n (x ∷ xs) ys h = count_from p (counted p n x) xs ys h

count_parts : (p : Entry → Bool) (xs ys : List Entry) → IsTrue (list_all (λ y. not (p y)) ys) → count_by p (xs ++ ys) ≡ count_by p xs
count_parts p xs ys h = count_from p 0 xs ys h

-- stamps rise where entries go in order
abbrev rises : Entry → Entry → Bool
rises d e = nat_lt d.stamp e.stamp

all_weaker : (x : Entry) (ys : List Entry) → IsTrue (list_all (goes_before x) ys) → IsTrue (list_all (rises x) ys)
all_weaker x ys h = all_follow (goes_before x) (rises x) ys (λ y t. and_left (nat_lt x.stamp y.stamp) _ t) h

pairs_weaker : (xs : List Entry) → IsTrue (all_pairs goes_before xs) → IsTrue (all_pairs rises xs)
unfolding all_pairs
pairs_weaker [] h = refl
pairs_weaker (x ∷ xs) h =
    and_both (list_all (rises x) xs) _ (all_weaker x xs (and_left (list_all (goes_before x) xs) _ h)) (pairs_weaker xs (and_right (list_all (goes_before x) xs) _ h))

module _ (start : World) (blocks : List Block) (es new : List Entry) (b k : ℕ) (kernel kernel' : KernelValue) (work : AgentWork)
    (numbers : HasRisingNumbers blocks) (r : IsRoundOf blocks b work) (t : IsThrough start blocks es b k) (above : 0 < work.agent.0)
    (here : IsAfter start blocks es k kernel) (w : WorkedAlone kernel work kernel' new) where
  abbrev first : At
  first = first_at k work es

  abbrev histories : ℕ → List Entry
  histories o = on o (in_kernel k es)

  abbrev before : Labels
  before = labels_at kernel work.agent.0

  abbrev later : Labels
  later = labels_at kernel' work.agent.0

  abbrev many : ℕ
  many = length work.commands

  first_is : begins_at kernel work ≡ first
  first_is =
      let with_kernel : ℕ → At = λ n. record { kernel = n; agent = work.agent; command = work.first; last = kernel.base } in
      let with_last : ℕ → At = λ l. record { kernel = k; agent = work.agent; command = work.first; last = l } in
      ap with_kernel here.number ∙ ap with_last here.base

  done : HasDone (begun_in kernel.objects) work.commands before first many later (paired_on (begun_in kernel.objects) histories [] new) w.did.last
  done =
      subst (λ (f : ℕ → List Entry). HasDone (begun_in kernel.objects) work.commands before first many later (paired_on (begun_in kernel.objects) f [] new) w.did.last) here.histories
      (subst (λ (a : At). HasDone (begun_in kernel.objects) work.commands before a many later (paired_on (begun_in kernel.objects) (histories_in kernel.objects) [] new) w.did.last) first_is w.did.done)

  all_went : Went (begun_in kernel.objects) histories work.commands before first many later new w.did.last
  all_went = went (begun_in kernel.objects) histories work.commands before first many later new w.did.last done

  all_mine : IsTrue (list_all (is_mine first many) new)
  all_mine = went_mine (begun_in kernel.objects) histories work.commands before first many later new w.did.last all_went

  all_go : IsTrue (all_pairs goes_before new)
  all_go = went_goes (begun_in kernel.objects) histories work.commands before first many later new w.did.last all_went

  of_kernel : (e : Entry) → IsTrue (is_mine first many e) → IsTrue (e.kernel == k)
  of_kernel e h = and_left (e.kernel == k) _ (and_left (e.kernel == k && e.agent.0 == work.agent.0) _ h)

  of_agent : (e : Entry) → IsTrue (is_mine first many e) → IsTrue (e.agent.0 == work.agent.0)
  of_agent e h = and_right (e.kernel == k) _ (and_left (e.kernel == k && e.agent.0 == work.agent.0) _ h)

  pub all_here : IsTrue (list_all (λ e. e.kernel == k) new)
  all_here = all_follow (is_mine first many) (λ e. e.kernel == k) new of_kernel all_mine

  kernel_now : in_kernel k (es ++ new) ≡ in_kernel k es ++ new
  kernel_now = kernel_here start k es new all_here

  -- each object's history
  all_on : (o : ℕ) → histories_in kernel'.objects o ≡ on o (in_kernel k es ++ new)
  all_on o =
      ap (λ (f : ℕ → List Entry). f o) w.histories
      ∙ ap (λ (f : ℕ → List Entry). f o ++ on o new) here.histories
      ∙ sym (on_parts o (in_kernel k es) new)

  runs : (o : ℕ) → IsTrue (is_some (run ((beginning start es k).at o) (on o (in_kernel k es ++ new))))
  runs o =
      subst (λ h. IsTrue (is_some (run ((beginning start es k).at o) h))) (all_on o)
      (ran ((beginning start es k).at o) (starts_in kernel'.objects o) (histories_in kernel'.objects o)
      (λ x is. here.begun o x (ap (λ (f : ℕ → Option Start). state_in (f o)) (sym w.starts) ∙ is))
      (λ none. no_history (object_at kernel'.objects o) none)
      (w.runs o))

  alone : IsAlone start blocks es new k work (begun_in kernel.objects) before later
  alone = record {
    kernel = here.due;
    agent = above;
    begun_is = here.begun;
    labels_are = here.labels work.agent.0;
    last = w.did.last;
    done = done;
    objects = runs;
  }

  gives : GivesRound start blocks es new b k work later w.did.last.last
  unfolding alone
  gives = alone_is_next start blocks es new b k work (begun_in kernel.objects) before later numbers r t alone

  pub worked_next : IsNext start blocks es new b k
  worked_next = gives.next

  -- the world stays sound
  pub worked_sound : AreSoundBlocks blocks → StandsSound start blocks es b k → StandsSound start blocks (es ++ new) (b + 1) k
  worked_sound sound s = round_stands start blocks es new b k work (begun_in kernel.objects) before later sound numbers r t alone s

  -- the kernel stays, as no entry is agent 0's
  no_end : (e : Entry) → IsTrue (is_mine first many e) → IsTrue (not (ends_kernel e))
  no_end e h = other e.agent.0 (is_own e.object) (is_ok e.reply) (eq_true e.agent.0 work.agent.0 (of_agent e h))
    where
      not_zero : (x : ℕ) → x ≡ work.agent.0 → (x == 0) ≡ false
      not_zero x is = let up : 0 < work.agent.0 = above in grind (arith, nat_tests)

      other : (x : ℕ) (p q : Bool) → x ≡ work.agent.0 → IsTrue (not ((x == 0 && p) && q))
      other x p q is = ap (λ c. not ((c && p) && q)) (not_zero x is)

  due_now : kernel_due (es ++ new) ≡ k
  due_now = count_parts ends_kernel es new (all_follow (is_mine first many) (λ e. not (ends_kernel e)) new no_end all_mine) ∙ here.due

  not_kernel : (m j : ℕ) → j < k → IsTrue (m == k) → IsTrue (not (m == j))
  not_kernel m j less h = grind (arith, nat_tests)

  kernels_before : (j : ℕ) → j < k → in_kernel j (es ++ new) ≡ in_kernel j es
  unfolding in_kernel
  kernels_before j less = filter_front (λ e. e.kernel == j) es new (all_follow (λ e. e.kernel == k) (λ e. not (e.kernel == j)) new (λ e h. not_kernel e.kernel j less h) all_here)

  begins_now : beginning start (es ++ new) k ≡ beginning start es k
  begins_now = begins_same start (es ++ new) es k kernels_before

  base_now : kernel'.base ≡ greatest_stamp (in_kernel k (es ++ new))
  base_now =
      w.base ∙ ap (λ n. max n (last_stamp new)) here.base
      ∙ ap (λ n. max (greatest_stamp (in_kernel k es)) n) (is_greatest new (pairs_weaker new all_go))
      ∙ sym (greatest_parts (in_kernel k es) new) ∙ ap greatest_stamp (sym kernel_now)

  labels_after : (a : ℕ) → labels_at kernel' a ≡ labels_now blocks k a (es ++ new)
  labels_after a = at a (a == work.agent.0) refl
    where
      differ : (x y : ℕ) → (x == y) ≡ false → x ≢ y
      differ x y h e = absurd grind (arith, nat_tests)

      at : (n : ℕ) (c : Bool) → (n == work.agent.0) ≡ c → labels_at kernel' n ≡ labels_now blocks k n (es ++ new)
      at n true is = subst (λ m. labels_at kernel' m ≡ labels_now blocks k m (es ++ new)) (sym (eq_true n work.agent.0 is)) gives.labels
      at n false is =
          let other : n ≢ work.agent.0 = differ n work.agent.0 is in
          w.others n other ∙ here.labels n ∙ sym (gives.others n other)

  pub worked_after : IsAfter start blocks (es ++ new) k kernel'
  worked_after = record {
    number = w.number ∙ here.number;
    updates = w.updates ∙ here.updates ∙ ap (λ (x : World). x.number) (sym begins_now);
    due = due_now;
    begun = λ o s is. ap (λ (x : World). x.at o) begins_now ∙ here.begun o s (ap (λ (f : ℕ → Option Start). state_in (f o)) (sym w.starts) ∙ is);
    histories = λ i o. point o i;
    base = base_now;
    labels = labels_after;
    lists = w.lists ∙ here.lists;
    handlers = λ n less. ap (λ (x : World). (handler_at x n).outgoing.files) begins_now ∙ here.handlers n less;
    unbuilt = λ n less. ap (λ (f : ℕ → Option Start). state_in (f (handler_no n))) w.starts ∙ here.unbuilt n less;
  }
    where
      point : (o : ℕ) → histories_in kernel'.objects o ≡ on o (in_kernel k (es ++ new))
      point o = all_on o ∙ ap (on o) (sym kernel_now)

-- a block that was done: the history goes through it
pub block_through : (start : World) (blocks : List Block) (es new : List Entry) (b : ℕ) (kernel old : KernelValue) (block : Block) (ended : Bool)
    → CanRun blocks → slice_get blocks b ≡ Some block → CanDo block → IsThrough start blocks es b kernel.number → IsAfter start blocks es kernel.number kernel → DidBlock (kexec_number blocks b) block kernel old new ended
    → IsThrough start blocks (es ++ new) (b + 1) (due_after ended old.number)
block_through start blocks es new b kernel old (Round []) ended runs is can t here did =
    let same : kernel.number ≡ due_after ended old.number = ap (λ (k : KernelValue). k.number) (sym did.0.0) ∙ ap (λ e. due_after e old.number) (sym did.1) in
    subst (λ k. IsThrough start blocks (es ++ new) (b + 1) k) same
    (one_more start blocks es new b kernel.number t (subst (λ xs. IsNext start blocks es xs b kernel.number) (sym did.0.1) (idle_is_next start blocks es b kernel.number is t)))
block_through start blocks es new b kernel old (Round (work ∷ [])) ended runs is can t here did =
    let same : kernel.number ≡ due_after ended old.number = sym did.0.number ∙ ap (λ e. due_after e old.number) (sym did.1) in
    subst (λ k. IsThrough start blocks (es ++ new) (b + 1) k) same
    (one_more start blocks es new b kernel.number t (worked_next start blocks es new b kernel.number kernel old work runs.rising (runs.rounds b work can.above is) t can.above here did.0))
block_through start blocks es new b kernel old (Round (work ∷ more ∷ works)) ended runs is can t here did = absurd can
block_through start blocks es new b kernel old (Kexec blob) ended runs is can t here did =
    kexec_through start blocks es new b kernel old (kexec_number blocks b) blob ended runs.rising (runs.kexecs b blob is) t here did

-- a kernel that didn't end follows itself
runs_on : (ended : Bool) (old kernel' : KernelValue) → ended ≡ false → FollowsAs ended old kernel' → kernel' ≡ old
runs_on false old kernel' e follows = follows
runs_on true old kernel' e follows = absurd cc

-- and the kernel that follows is as the longer history says
pub block_done : (start : World) (blocks : List Block) (es new : List Entry) (b : ℕ) (kernel old kernel' : KernelValue) (block : Block) (ended : Bool)
    → CanRun blocks → slice_get blocks b ≡ Some block → CanDo block → IsThrough start blocks es b kernel.number → IsAfter start blocks es kernel.number kernel → DidBlock (kexec_number blocks b) block kernel old new ended → FollowsAs ended old kernel'
    → GoesOn start blocks es new b block kernel kernel'
block_done start blocks es new b kernel old kernel' (Round []) ended runs is can t here did follows =
    let whole : kernel' ≡ kernel = runs_on ended old kernel' did.1 follows ∙ did.0.0 in
    let same : kernel'.number ≡ kernel.number = ap (λ (k : KernelValue). k.number) whole in
    record {
      through = subst (λ (k : KernelValue). IsThrough start blocks (es ++ new) (b + 1) k.number) (sym whole)
          (one_more start blocks es new b kernel.number t (subst (λ xs. IsNext start blocks es xs b kernel.number) (sym did.0.1) (idle_is_next start blocks es b kernel.number is t)));
      after = subst (λ xs. IsAfter start blocks xs kernel'.number kernel') (sym (append-nil es) ∙ ap (λ xs. es ++ xs) (sym did.0.1)) (subst (λ (k : KernelValue). IsAfter start blocks es k.number k) (sym whole) here);
      few = omega (arith, same);
    }
block_done start blocks es new b kernel old kernel' (Round (work ∷ [])) ended runs is can t here did follows =
    let round : IsRoundOf blocks b work = runs.rounds b work can.above is in
    let whole : kernel' ≡ old = runs_on ended old kernel' did.1 follows in
    let same : old.number ≡ kernel.number = did.0.number in
    let number_same : kernel'.number ≡ kernel.number = ap (λ (k : KernelValue). k.number) whole ∙ same in
    record {
      through = subst (λ k. IsThrough start blocks (es ++ new) (b + 1) k) (sym number_same)
          (one_more start blocks es new b kernel.number t (worked_next start blocks es new b kernel.number kernel old work runs.rising round t can.above here did.0));
      after = subst (λ (k : KernelValue). IsAfter start blocks (es ++ new) k.number k) (sym whole)
          (subst (λ k. IsAfter start blocks (es ++ new) k old) (sym same) (worked_after start blocks es new b kernel.number kernel old work runs.rising round t can.above here did.0));
      few = omega (arith, number_same);
    }
block_done start blocks es new b kernel old kernel' (Round (work ∷ more ∷ works)) ended runs is can t here did follows = absurd can
block_done start blocks es new b kernel old kernel' (Kexec blob) ended runs is can t here did follows =
    kexec_done start blocks es new b kernel old kernel' (kexec_number blocks b) blob ended runs.rising (runs.kexecs b blob is) t here did follows

-- the world of the kernel as the block's entries left it
pub block_world : (start : World) (blocks : List Block) (es new : List Entry) (b : ℕ) (kernel old : KernelValue) (block : Block) (ended : Bool)
    → CanRun blocks → slice_get blocks b ≡ Some block → CanDo block → IsThrough start blocks es b kernel.number → IsAfter start blocks es kernel.number kernel → DidBlock (kexec_number blocks b) block kernel old new ended
    → (w : World) × IsWorldOf old w
block_world start blocks es new b kernel old (Round []) ended runs is can t here did =
    (world_of start es kernel.number, subst (λ (k : KernelValue). IsWorldOf k (world_of start es kernel.number)) (sym did.0.0) (world_before start blocks es kernel.number kernel here))
block_world start blocks es new b kernel old (Round (work ∷ [])) ended runs is can t here did = (
  world_of start (es ++ new) kernel.number,
  world_before start blocks (es ++ new) kernel.number old (worked_after start blocks es new b kernel.number kernel old work runs.rising (runs.rounds b work can.above is) t can.above here did.0),
)
block_world start blocks es new b kernel old (Round (work ∷ more ∷ works)) ended runs is can t here did = absurd can
block_world start blocks es new b kernel old (Kexec blob) ended runs is can t here did = (
  after (beginning start es kernel.number) (in_kernel kernel.number es ++ new),
  world_now start blocks es new b kernel old (kexec_number blocks b) blob did.outcome runs.rising (runs.kexecs b blob is) t here did.still did.did,
)

-- the number of the kernel stays in a block
pub block_number : (n : ℕ) (kernel old : KernelValue) (new : List Entry) (block : Block) (ended : Bool) → CanDo block → DidBlock n block kernel old new ended → old.number ≡ kernel.number
block_number n kernel old new (Round []) ended can did = ap (λ (k : KernelValue). k.number) did.0.0
block_number n kernel old new (Round (work ∷ [])) ended can did = did.0.number
block_number n kernel old new (Round (work ∷ more ∷ works)) ended can did = absurd can
block_number n kernel old new (Kexec blob) ended can did = did.still.number

-- all entries of a block are the kernel's
pub block_here : (start : World) (blocks : List Block) (es new : List Entry) (b : ℕ) (kernel old : KernelValue) (block : Block) (ended : Bool)
    → CanRun blocks → slice_get blocks b ≡ Some block → CanDo block → IsThrough start blocks es b kernel.number → IsAfter start blocks es kernel.number kernel → DidBlock (kexec_number blocks b) block kernel old new ended
    → IsTrue (list_all (λ e. e.kernel == kernel.number) new)
block_here start blocks es new b kernel old (Round []) ended runs is can t here did = subst (λ xs. IsTrue (list_all (λ e. e.kernel == kernel.number) xs)) (sym did.0.1) refl
block_here start blocks es new b kernel old (Round (work ∷ [])) ended runs is can t here did =
    all_here start blocks es new b kernel.number kernel old work runs.rising (runs.rounds b work can.above is) t can.above here did.0
block_here start blocks es new b kernel old (Round (work ∷ more ∷ works)) ended runs is can t here did = absurd can
block_here start blocks es new b kernel old (Kexec blob) ended runs is can t here did =
    kexec_here start blocks es new b kernel old (kexec_number blocks b) blob did.outcome runs.rising (runs.kexecs b blob is) t here did.still did.did

-- the world of the kernel that a block ended
pub ended_world : (start : World) (blocks : List Block) (es new : List Entry) (b : ℕ) (kernel old : KernelValue) (block : Block) (ended : Bool)
    → CanRun blocks → slice_get blocks b ≡ Some block → CanDo block → IsThrough start blocks es b kernel.number → IsAfter start blocks es kernel.number kernel → DidBlock (kexec_number blocks b) block kernel old new ended
    → ended ≡ true → IsWorldOf old (world_of start (es ++ new) kernel.number)
ended_world start blocks es new b kernel old (Round works) ended runs is can t here did ending = absurd (not_both ended did.1 ending)
  where
    not_both : (c : Bool) → c ≡ false → c ≡ true → ⊥
    not_both c e f = cc
ended_world start blocks es new b kernel old (Kexec blob) ended runs is can t here did ending =
    kexec_world start blocks es new b kernel old (kexec_number blocks b) blob did.outcome runs.rising (runs.kexecs b blob is) t here did.still did.did

-- a block that ended a kernel has entries
pub ended_some : (start : World) (blocks : List Block) (es new : List Entry) (b : ℕ) (kernel old : KernelValue) (block : Block) (ended : Bool)
    → CanRun blocks → slice_get blocks b ≡ Some block → IsThrough start blocks es b kernel.number → IsAfter start blocks es kernel.number kernel → DidBlock (kexec_number blocks b) block kernel old new ended
    → ended ≡ true → 0 < length new
ended_some start blocks es new b kernel old (Round works) ended runs is t here did ending = absurd (not_both ended did.1 ending)
  where
    not_both : (c : Bool) → c ≡ false → c ≡ true → ⊥
    not_both c e f = cc
ended_some start blocks es new b kernel old (Kexec blob) ended runs is t here did ending =
    kexec_some start blocks es new b kernel old (kexec_number blocks b) blob did.outcome runs.rising (runs.kexecs b blob is) t here did.still did.did (did.ending ∙ ending)

-- a round of no agent
sections_stay : (blocks : List Block) (b : ℕ) → slice_get blocks b ≡ Some (Round []) → sections_of (take (suc b) blocks) ≡ sections_of (take b blocks)
sections_stay [] b is = absurd cc
sections_stay (x ∷ blocks) zero is = subst (λ y. sections_of (y ∷ []) ≡ []) (sym (same x (Round []) is)) refl
  where
    same : (x y : Block) → Some x ≡ Some y → x ≡ y
    same x y e = cc
sections_stay (Round works ∷ blocks) (suc b) is = ap (λ ws. works ++ ws) (sections_stay blocks b is)
sections_stay (Kexec blob ∷ blocks) (suc b) is = sections_stay blocks b is

idle_stands : (start : World) (blocks : List Block) (es : List Entry) (b k : ℕ) → slice_get blocks b ≡ Some (Round []) → StandsSound start blocks es b k → StandsSound start blocks (es ++ []) (b + 1) k
idle_stands start blocks es b k is s =
    subst (λ xs. StandsSound start blocks xs (b + 1) k) (sym (append-nil es))
    (record { sound = s.sound; bound = λ a. subst (λ ws. HasOnly (labels_now blocks k a es) (bound_in [] ws) a) (sym (ap (λ n. sections_of (take n blocks)) (next b) ∙ sections_stay blocks b is)) (s.bound a) })
  where
    next : (n : ℕ) → n + 1 ≡ suc n
    next n = omega arith

-- the world in which the kernel runs that is due stays sound
pub block_sound : (start : World) (blocks : List Block) (es new : List Entry) (b : ℕ) (kernel old : KernelValue) (block : Block) (ended : Bool)
    → CanRun blocks → slice_get blocks b ≡ Some block → CanDo block → IsThrough start blocks es b kernel.number → IsAfter start blocks es kernel.number kernel → DidBlock (kexec_number blocks b) block kernel old new ended
    → StandsSound start blocks es b kernel.number → StandsSound start blocks (es ++ new) (b + 1) (due_after ended old.number)
block_sound start blocks es new b kernel old (Round []) ended runs is can t here did s =
    let same : kernel.number ≡ due_after ended old.number = ap (λ (k : KernelValue). k.number) (sym did.0.0) ∙ ap (λ e. due_after e old.number) (sym did.1) in
    subst (λ k. StandsSound start blocks (es ++ new) (b + 1) k) same
    (subst (λ xs. StandsSound start blocks (es ++ xs) (b + 1) kernel.number) (sym did.0.1) (idle_stands start blocks es b kernel.number is s))
block_sound start blocks es new b kernel old (Round (work ∷ [])) ended runs is can t here did s =
    let same : kernel.number ≡ due_after ended old.number = sym did.0.number ∙ ap (λ e. due_after e old.number) (sym did.1) in
    subst (λ k. StandsSound start blocks (es ++ new) (b + 1) k) same
    (worked_sound start blocks es new b kernel.number kernel old work runs.rising (runs.rounds b work can.above is) t can.above here did.0 runs.sound s)
block_sound start blocks es new b kernel old (Round (work ∷ more ∷ works)) ended runs is can t here did s = absurd can
block_sound start blocks es new b kernel old (Kexec blob) ended runs is can t here did s =
    kexec_sound start blocks es new b kernel old (kexec_number blocks b) blob ended runs.rising (runs.kexecs b blob is) t here did s
