-- What stays when a history grows, and the forms in which the program has the readings' parts.
use Rattle.std.proofs.Common.{◌≡◌, ℕ, ◌+◌, ◌-◌, ◌<◌, ◌≤◌, Bool, true, false, not, ◌&&◌, ◌||◌, ◌==◌, nat_lt, nat_le, List, [], ◌∷◌, ◌++◌, filter, refl, sym, ap, subst, ◌∙◌, arith, IsTrue, zero, suc}
use Rattle.std.specs.Prelude.{Option, None, Some, option_map, slice_get, if◌then◌else◌}
use Rattle.std.specs.List.{list_all}
use Rattle.std.proofs.lemmas.Bool.Decides.{nat_tests}
use Rattle.ho_events.specs.History.{run_from}
use Rattle.ho_events.specs.Pool.{PoolState, pool_step}
use Rattle.ho_events.specs.Registry.{RegistryState, registry_step}
use Rattle.ho_events.specs.Handler.{HandlerState, handler_step}
use Rattle.ho_events.specs.Session.{SessionState, session_step}
use Rattle.ho_events.specs.File.{FileState, file_step}
use Rattle.ho_events.specs.declared.command.Command.{Command}
use Rattle.ho_events.specs.declared.entry.Entry.{Entry}
use Rattle.ho_events.specs.declared.event.Event.{Event}
use Rattle.ho_events.specs.declared.reply.Reply.{Reply}
use Rattle.ho_events.specs.declared.script.AgentWork.{AgentWork}
use Rattle.ho_events.specs.declared.script.Block.{Block}
use Rattle.ho_events.specs.declared.script.Block.TheVariants.{Round, Kexec}
use Rattle.ho_world.specs.World.{State, PoolIn, RegistryIn, HandlerIn, SessionIn, FileIn, World, run, after, step}
use Rattle.ho_world.specs.Frozen.{frozen, next}
use Rattle.ho_world.specs.Entries.{in_kernel, is_of, beginning, lines, lines_from, lines_of}
use Rattle.ho_world.specs.Tasks.{Task, Ask, Reboot, Due, due_from, or_else, command_in, command_among, asked_in}
use Rattle.ho_world.specs.Legal.{block_of, is_below, earlier_here, labeling_from, nothing_bound, is_earlier_of, labels_before, world_before, IsWhole}
use Rattle.ho_world.specs.Readings.{IsDone, IsDoneAt}
use Rattle.ho_world.specs.Work.{CommandsDone, WorksDone, BlocksDone, is_following, is_not_below}
use Rattle.ho_world.proofs.Fronts.{and_left, and_right, all_follow, filter_front, lines_parts, eq_true, all_line, le_true}

-- an object's own run is the run of its state in the world

module _ {S : Type 0} (own : S → Event → Reply → Option S) (into : S → State) (same : (s : S) (ev : Event) (re : Reply) → step (into s) ev re ≡ option_map into (own s ev re)) where
  none_runs : (es : List Entry) → run_from step None es ≡ option_map into (run_from own None es)
  unfolding run_from
  none_runs [] = refl
  none_runs (e ∷ es) = none_runs es

  next_runs : (o : Option S) (es : List Entry) → ((s : S) → run_from step (Some (into s)) es ≡ option_map into (run_from own (Some s) es)) → run_from step (option_map into o) es ≡ option_map into (run_from own o es)
  next_runs None es f = none_runs es
  next_runs (Some s) es f = f s

  pub lifted : (s : S) (es : List Entry) → run (into s) es ≡ option_map into (run_from own (Some s) es)
  unfolding run_from
  lifted s [] = refl
  lifted s (e ∷ es) = ap (λ o. run_from step o es) (same s e.event e.reply) ∙ next_runs (own s e.event e.reply) es (λ t. lifted t es)

pub file_run : (s : Option FileState) (es : List Entry) → run (FileIn s) es ≡ option_map FileIn (run_from file_step (Some s) es)
file_run s es = lifted file_step FileIn (λ t ev re. refl) s es

pub pool_run : (s : PoolState) (es : List Entry) → run (PoolIn s) es ≡ option_map PoolIn (run_from pool_step (Some s) es)
pool_run s es = lifted pool_step PoolIn (λ t ev re. refl) s es

pub registry_run : (s : RegistryState) (es : List Entry) → run (RegistryIn s) es ≡ option_map RegistryIn (run_from registry_step (Some s) es)
registry_run s es = lifted registry_step RegistryIn (λ t ev re. refl) s es

pub handler_run : (s : HandlerState) (es : List Entry) → run (HandlerIn s) es ≡ option_map HandlerIn (run_from handler_step (Some s) es)
handler_run s es = lifted handler_step HandlerIn (λ t ev re. refl) s es

pub session_run : (s : SessionState) (es : List Entry) → run (SessionIn s) es ≡ option_map SessionIn (run_from session_step (Some s) es)
session_run s es = lifted session_step SessionIn (λ t ev re. refl) s es

-- the runner's form of the agents' reading

module _ (start : World) (blocks : List Block) (es : List Entry) where
  either_done : (a n : ℕ) (o p : Option Due) → IsDoneAt start blocks es a n o → IsDoneAt start blocks es a n p → IsDoneAt start blocks es a n (or_else o p)
  either_done a n None p h k = k
  either_done a n (Some d) p h k = h

  asked_done : (a n b : ℕ) (o p : Option Command) → IsDoneAt start blocks es a n (asked_in b o) → IsDoneAt start blocks es a n (asked_in b p) → IsDoneAt start blocks es a n (asked_in b (or_else o p))
  asked_done a n b None p h k = k
  asked_done a n b (Some c) p h k = h

  at_place : (b a n i : ℕ) (cs : List Command) → CommandsDone start blocks es b a n cs → IsDoneAt start blocks es a (n + i) (asked_in b (slice_get cs i))
  at_place b a n i [] h = tt
  at_place b a n zero (c ∷ cs) h =
      let same : n ≡ n + 0 = omega arith in
      subst (λ m. IsDone start blocks es a m (record { block = b; task = Ask c })) same h.0
  at_place b a n (suc i) (c ∷ cs) h =
      let same : (n + 1) + i ≡ n + suc i = omega arith in
      subst (λ m. IsDoneAt start blocks es a m (asked_in b (slice_get cs i))) same (at_place b a (n + 1) i cs h.1)

  in_work : (b n : ℕ) (work : AgentWork) (t : Bool) → nat_le work.first n ≡ t → CommandsDone start blocks es b work.agent.0 work.first work.commands → IsDoneAt start blocks es work.agent.0 n (asked_in b (if t then slice_get work.commands (n - work.first) else None))
  in_work b n work false is h = tt
  in_work b n work true is h =
      let below : work.first ≤ n = le_true work.first n is in
      let same : work.first + (n - work.first) ≡ n = omega (arith, below) in
      subst (λ m. IsDoneAt start blocks es work.agent.0 m (asked_in b (slice_get work.commands (n - work.first)))) same (at_place b work.agent.0 work.first (n - work.first) work.commands h)

  of_agent : (b a n : ℕ) (work : AgentWork) (t : Bool) → (work.agent.0 == a) ≡ t → CommandsDone start blocks es b work.agent.0 work.first work.commands → IsDoneAt start blocks es a n (asked_in b (if t then command_in work n else None))
  of_agent b a n work false is h = tt
  of_agent b a n work true is h =
      subst (λ x. IsDoneAt start blocks es x n (asked_in b (command_in work n))) (eq_true work.agent.0 a is) (in_work b n work (nat_le work.first n) refl h)

  in_works : (b a n : ℕ) (works : List AgentWork) → WorksDone start blocks es b works → IsDoneAt start blocks es a n (asked_in b (command_among works a n))
  in_works b a n [] h = tt
  in_works b a n (work ∷ works) h =
      asked_done a n b (if work.agent.0 == a then command_in work n else None) (command_among works a n)
      (of_agent b a n work (work.agent.0 == a) refl h.0) (in_works b a n works h.1)

  same_claimant : (a n k b : ℕ) (blob : Task) (t : Bool) (other : Option Due) → (a == 0 && n == k) ≡ t → IsDone start blocks es 0 k (record { block = b; task = blob }) → IsDoneAt start blocks es a n other
      → IsDoneAt start blocks es a n (if t then Some (record { block = b; task = blob }) else other)
  same_claimant a n k b blob false other is h rest = rest
  same_claimant a n k b blob true other is h rest =
      let agent : a ≡ 0 = eq_true a 0 (and_left (a == 0) (n == k) is) in
      let number : n ≡ k = eq_true n k (and_right (a == 0) (n == k) is) in
      subst (λ x. IsDone start blocks es x n (record { block = b; task = blob })) (sym agent)
      (subst (λ m. IsDone start blocks es 0 m (record { block = b; task = blob })) (sym number) h)

  pub blocks_done : (b k : ℕ) (more : List Block) (a n : ℕ) → BlocksDone start blocks es b k more → IsDoneAt start blocks es a n (due_from b k more a n)
  unfolding BlocksDone due_from
  blocks_done b k [] a n h = tt
  blocks_done b k (Round works ∷ more) a n h =
      either_done a n (asked_in b (command_among works a n)) (due_from (b + 1) k more a n) (in_works b a n works h.0) (blocks_done (b + 1) k more a n h.1)
  blocks_done b k (Kexec blob ∷ more) a n h =
      same_claimant a n k b (Reboot blob) (a == 0 && n == k) (due_from (b + 1) (k + 1) more a n) refl h.0 (blocks_done (b + 1) (k + 1) more a n h.1)

-- a command that is done stays done when the history grows

not_eq_above : (j k m : ℕ) → j < k → IsTrue (nat_le k m) → (m == j) ≡ false
not_eq_above j k m less h = grind (arith, nat_tests)

no_turn : (b : Bool) (x a m n : ℕ) → IsTrue (not (x == a) || nat_lt n m) → IsTrue (not ((b && x == a) && nat_lt m n))
no_turn false x a m n h = refl
no_turn true x a m n h = grind (arith, nat_tests)

not_of : (x a m n : ℕ) → IsTrue (not (x == a) || nat_lt n m) → IsTrue (not (x == a && m == n))
not_of x a m n h = grind (arith, nat_tests)

not_here : (b : ℕ) (o : Option ℕ) (q : Bool) → IsTrue (is_not_below b o) → IsTrue (not (q && is_below b o))
not_here b o false h = refl
not_here b None true h = refl
not_here b (Some c) true h = grind (arith, nat_tests)

not_that : (b : Bool) → b ≡ false → IsTrue (not b)
not_that true h = absurd cc
not_that false h = refl

pub begins_same : (start : World) (es fs : List Entry) (k : ℕ) → ((j : ℕ) → j < k → in_kernel j es ≡ in_kernel j fs) → beginning start es k ≡ beginning start fs k
unfolding beginning
begins_same start es fs zero same = refl
begins_same start es fs (suc k) same =
    ap (λ w. next (frozen (after w (in_kernel k es)))) (begins_same start es fs k (λ j h. same j (omega (arith, h))))
    ∙ ap (λ here. next (frozen (after (beginning start fs k) here))) (same k (omega arith))

module _ (start : World) (blocks : List Block) (es new : List Entry) (a n : ℕ) (d : Due) (kernel : ℕ) (following : IsTrue (list_all (is_following blocks kernel a n d.block) new)) where
  kernel_of : (e : Entry) → IsTrue (is_following blocks kernel a n d.block e) → IsTrue (nat_le kernel e.kernel)
  kernel_of e h = and_left (nat_le kernel e.kernel) _ (and_left (nat_le kernel e.kernel && (not (e.agent.0 == a) || nat_lt n e.command)) _ h)

  turn_of : (e : Entry) → IsTrue (is_following blocks kernel a n d.block e) → IsTrue (not (e.agent.0 == a) || nat_lt n e.command)
  turn_of e h = and_right (nat_le kernel e.kernel) _ (and_left (nat_le kernel e.kernel && (not (e.agent.0 == a) || nat_lt n e.command)) _ h)

  block_at : (e : Entry) → IsTrue (is_following blocks kernel a n d.block e) → IsTrue (is_not_below d.block (block_of blocks e))
  block_at e h = and_right (nat_le kernel e.kernel && (not (e.agent.0 == a) || nat_lt n e.command)) _ h

  kernels_stay : (j : ℕ) → j < kernel → in_kernel j (es ++ new) ≡ in_kernel j es
  unfolding in_kernel
  kernels_stay j less =
      filter_front (λ e. e.kernel == j) es new (all_follow (is_following blocks kernel a n d.block) (λ e. not (e.kernel == j)) new (λ e h. not_that _ (not_eq_above j kernel e.kernel less (kernel_of e h))) following)

  beginning_stays : beginning start (es ++ new) kernel ≡ beginning start es kernel
  beginning_stays = begins_same start (es ++ new) es kernel kernels_stay

  labels_stay : labels_before blocks kernel a n (es ++ new) ≡ labels_before blocks kernel a n es
  unfolding labels_before
  labels_stay =
      ap (λ fs. (labeling_from blocks nothing_bound fs).labels)
      (filter_front (is_earlier_of kernel a n) es new (all_follow (is_following blocks kernel a n d.block) (λ e. not (is_earlier_of kernel a n e)) new (λ e h. no_turn (e.kernel == kernel) e.agent.0 a e.command n (turn_of e h)) following))

  earlier_stay : earlier_here blocks kernel d.block (es ++ new) ≡ earlier_here blocks kernel d.block es
  unfolding earlier_here
  earlier_stay =
      filter_front (λ e. e.kernel == kernel && is_below d.block (block_of blocks e)) es new
      (all_follow (is_following blocks kernel a n d.block) (λ e. not (e.kernel == kernel && is_below d.block (block_of blocks e))) new (λ e h. not_here d.block (block_of blocks e) (e.kernel == kernel) (block_at e h)) following)

  world_stays : world_before start blocks kernel d.block (es ++ new) ≡ world_before start blocks kernel d.block es
  world_stays = ap (λ w. after w (earlier_here blocks kernel d.block (es ++ new))) beginning_stays ∙ ap (λ fs. after (beginning start es kernel) fs) earlier_stay

  none_told : IsTrue (list_all (λ l. not (is_of a n l.entry)) (lines_from es new))
  none_told = all_line (λ e. not (is_of a n e)) es new ∙ all_follow (is_following blocks kernel a n d.block) (λ e. not (is_of a n e)) new (λ e h. not_of e.agent.0 a e.command n (turn_of e h)) following

  told_stays : lines_of a n (lines (es ++ new)) ≡ lines_of a n (lines es)
  unfolding lines_of
  told_stays = ap (λ ls. filter (λ l. is_of a n l.entry) ls) (lines_parts [] es new) ∙ filter_front (λ l. is_of a n l.entry) (lines es) (lines_from es new) none_told

  whole_stays : IsWhole start (labels_before blocks kernel a n es) (world_before start blocks kernel d.block es) d.task (lines_of a n (lines es))
      → IsWhole start (labels_before blocks kernel a n (es ++ new)) (world_before start blocks kernel d.block (es ++ new)) d.task (lines_of a n (lines (es ++ new)))
  whole_stays h =
      subst (λ ls. IsWhole start (labels_before blocks kernel a n (es ++ new)) (world_before start blocks kernel d.block (es ++ new)) d.task ls) (sym told_stays)
      (subst (λ w. IsWhole start (labels_before blocks kernel a n (es ++ new)) w d.task (lines_of a n (lines es))) (sym world_stays)
      (subst (λ l. IsWhole start l (world_before start blocks kernel d.block es) d.task (lines_of a n (lines es))) (sym labels_stay) h))

-- what comes after a command that is done leaves it done
pub done_stays : (start : World) (blocks : List Block) (es new : List Entry) (a n : ℕ) (d : Due) (h : IsDone start blocks es a n d) → IsTrue (list_all (is_following blocks h.kernel a n d.block) new) → IsDone start blocks (es ++ new) a n d
done_stays start blocks es new a n d h following = record {
  kernel = h.kernel;
  here = subst (λ ls. IsTrue (list_all (λ l. l.entry.kernel == h.kernel) ls)) (sym (told_stays start blocks es new a n d h.kernel following)) h.here;
  whole = whole_stays start blocks es new a n d h.kernel following h.whole;
}

pub done_stays_kernel : (start : World) (blocks : List Block) (es new : List Entry) (a n : ℕ) (d : Due) (h : IsDone start blocks es a n d) (following : IsTrue (list_all (is_following blocks h.kernel a n d.block) new)) → (done_stays start blocks es new a n d h following).kernel ≡ h.kernel
unfolding done_stays
done_stays_kernel start blocks es new a n d h following = refl
