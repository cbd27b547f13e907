-- What an agent did alone, as the kernel shows it afterwards.
use Rattle.std.proofs.Common.{◌≡◌, ◌≢◌, ℕ, ◌<◌, max, nat_le, List, [], ◌++◌, length, map, ap, sym, ◌∙◌, subst, IsTrue, slice_index_or, slice_set, get_or-set_same, get_or-set_other}
use Rattle.std.specs.Prelude.{Option, Some}
use Rattle.std.specs.FinMap as finmap
use Rattle.std.specs.List.{list_all}
use Rattle.std.proofs.lemmas.List.{append-nil, length-set}
use Rattle.ho_events.specs.History.{on, last_stamp}
use Rattle.ho_events.specs.declared.command.Command.{Command}
use Rattle.ho_events.specs.declared.entry.Entry.{Entry}
use Rattle.ho_events.specs.declared.script.AgentWork.{AgentWork}
use Rattle.ho_events.specs.declared.slip.At.{At}
use Rattle.ho_world.specs.World.{State}
use Rattle.ho_world.specs.Logs.{Paired, grown, paired_on}
use Rattle.ho_world.specs.Sequences.{Labels}
use Rattle.machine_core.specs.Agents.{Agent, begun, state_in}
use Rattle.machine_core.specs.Objects.{Start}
use Rattle.machine_core.specs.Kernels.{KernelValue, IsRunAt, starts_in, begun_in, histories_in}
use Rattle.machine_core.specs.Plain.{anchor_of}
use Rattle.machine_core.specs.Turns.{TellsMore}
use Rattle.handover_cli.specs.Rounds.{SameAgent, DidAll, labels_at, begins_at, WorkedAlone}
use Rattle.handover_cli.proofs.Rounds.{begun_same}

-- no entry of a fresh log is stamped after the kernel's greatest stamp
pub none_later : (earlier log : List Paired) (t u : ℕ) → IsTrue (list_all (λ p. nat_le p.entry.stamp t) earlier) → log ≡ [] → t ≡ u → IsTrue (list_all (λ p. nat_le p.entry.stamp u) (earlier ++ log))
none_later earlier log t u h none same =
    subst (λ n. IsTrue (list_all (λ p. nat_le p.entry.stamp n) (earlier ++ log))) same
    (subst (λ ps. IsTrue (list_all (λ p. nat_le p.entry.stamp t) ps)) (sym (append-nil earlier) ∙ ap (λ ps. earlier ++ ps) (sym none)) h)

-- where the work begins
pub at_same : (kernel : KernelValue) (work : AgentWork) (n b : ℕ) → n ≡ kernel.number → b ≡ kernel.base → record { kernel = n; agent = work.agent; command = work.first; last = b } ≡ begins_at kernel work
at_same kernel work n b same last =
    let first : ℕ → At = λ x. record { kernel = x; agent = work.agent; command = work.first; last = b } in
    let next : ℕ → At = λ x. record { kernel = kernel.number; agent = work.agent; command = work.first; last = x } in
    ap first same ∙ ap next last

-- the labels of one agent were taken out of a kernel, and others put in
pub labels_set : (kernel k1 k2 : KernelValue) (agent : ℕ) (all taken put : List Labels) (later : Labels) → k2 ≡ record k1 { labels = put } → put ≡ slice_set taken agent later → taken ≡ slice_set all agent finmap.empty → all ≡ kernel.labels
    → k2 ≡ record k1 { labels = slice_set (slice_set kernel.labels agent finmap.empty) agent later }
labels_set kernel k1 k2 agent all taken put later back first second third =
    let with : List Labels → KernelValue = λ ls. record k1 { labels = ls } in
    let put_in : List Labels → List Labels = λ ls. slice_set ls agent later in
    let took : List Labels → List Labels = λ ls. slice_set ls agent finmap.empty in
    back ∙ ap with (first ∙ ap put_in (second ∙ ap took third))

-- told histories of a kernel before and after
told_grown : (f g : ℕ → List Entry) (log : List Paired) (entries : List Entry) (t u : Option (ℕ → List Entry)) → t ≡ Some f → u ≡ Some g → map (λ p. p.entry) log ≡ entries → TellsMore log t u → g ≡ grown f entries
told_grown f g log entries t u before after same h = λ i n. point n i
  where
    both : TellsMore log (Some f) (Some g)
    both = subst (λ v. TellsMore log (Some f) v) after (subst (λ v. TellsMore log v u) before h)

    point : (n : ℕ) → g n ≡ grown f entries n
    point n = both n ∙ ap (λ es. f n ++ on n es) same

module _ (kernel k0 k1 k2 : KernelValue) (work : AgentWork) (a a' : Agent) (entries : List Entry) (commands : List Command) (labels later : Labels) (at : At)
    (out : k0 ≡ record kernel { labels = [] })
    (anchor : a.anchor ≡ anchor_of k0)
    (starts : a.starts ≡ starts_in k0.objects)
    (told : a.told ≡ Some (histories_in k0.objects))
    (same : SameAgent a a')
    (tells : TellsMore a'.log a.told a'.told)
    (did : DidAll (begun a) commands labels at later a'.log)
    (all : commands ≡ work.commands)
    (anchor' : anchor_of k1 ≡ record a'.anchor { base = max a'.anchor.base (last_stamp entries) })
    (starts' : starts_in k1.objects ≡ a'.starts)
    (told' : Some (histories_in k1.objects) ≡ a'.told)
    (runs : (n : ℕ) → IsRunAt (starts_in k1.objects n) (histories_in k1.objects n))
    (made : map (λ p. p.entry) a'.log ≡ entries)
    (log : (f : ℕ → List Entry) → grown f entries ≡ histories_in k1.objects → paired_on (begun a') f [] entries ≡ a'.log)
    (at_is : at ≡ begins_at kernel work)
    (labels_are : labels ≡ labels_at kernel work.agent.0)
    (within : work.agent.0 < length kernel.labels)
    (back : k2 ≡ record k1 { labels = slice_set (slice_set kernel.labels work.agent.0 finmap.empty) work.agent.0 later }) where
  same_objects : k0.objects ≡ kernel.objects
  same_objects = ap (λ (k : KernelValue). k.objects) out

  objects_back : k2.objects ≡ k1.objects
  objects_back = ap (λ (k : KernelValue). k.objects) back

  histories_are : histories_in k1.objects ≡ grown (histories_in kernel.objects) entries
  histories_are =
      told_grown (histories_in k0.objects) (histories_in k1.objects) a'.log entries a.told a'.told told (sym told') made tells
      ∙ ap (λ os. grown (histories_in os) entries) same_objects

  starts_are : starts_in k1.objects ≡ starts_in kernel.objects
  starts_are = starts' ∙ same.starts ∙ starts ∙ ap starts_in same_objects

  begun_is : begun a ≡ begun_in kernel.objects
  begun_is =
      let states : (ℕ → Option Start) → ℕ → Option State = λ u o. state_in (u o) in
      ap states (starts ∙ ap starts_in same_objects)

  log_is : a'.log ≡ paired_on (begun_in kernel.objects) (histories_in kernel.objects) [] entries
  log_is = sym (log (histories_in kernel.objects) (sym histories_are)) ∙ ap (λ b. paired_on b (histories_in kernel.objects) [] entries) (begun_same a a' same.starts ∙ begun_is)

  lists : List Labels
  lists = slice_set (slice_set kernel.labels work.agent.0 finmap.empty) work.agent.0 later

  labels_back : k2.labels ≡ slice_set (slice_set kernel.labels work.agent.0 finmap.empty) work.agent.0 later
  labels_back = ap (λ (k : KernelValue). k.labels) back

  base_is : k1.base ≡ max kernel.base (last_stamp entries)
  base_is =
      ap (λ c. c.base) anchor'
      ∙ ap (λ c. max c.base (last_stamp entries)) (same.anchor ∙ anchor)
      ∙ ap (λ (k : KernelValue). max k.base (last_stamp entries)) out

  number_is : k1.number ≡ kernel.number
  number_is = ap (λ c. c.kernel) anchor' ∙ ap (λ c. c.kernel) (same.anchor ∙ anchor) ∙ ap (λ (k : KernelValue). k.number) out

  count_first : length (slice_set kernel.labels work.agent.0 finmap.empty) ≡ length kernel.labels
  count_first = length-set kernel.labels work.agent.0 finmap.empty

  later_is : labels_at k2 work.agent.0 ≡ later
  later_is =
      ap (λ ls. slice_index_or ls work.agent.0 finmap.empty) labels_back
      ∙ get_or-set_same (slice_set kernel.labels work.agent.0 finmap.empty) work.agent.0 later finmap.empty (subst (λ n. work.agent.0 < n) (sym count_first) within)

  others_are : (n : ℕ) → n ≢ work.agent.0 → labels_at k2 n ≡ labels_at kernel n
  others_are n other =
      ap (λ ls. slice_index_or ls n finmap.empty) labels_back
      ∙ get_or-set_other (slice_set kernel.labels work.agent.0 finmap.empty) work.agent.0 n later finmap.empty other
      ∙ get_or-set_other kernel.labels work.agent.0 n finmap.empty finmap.empty other

  updates_is : k1.updates ≡ kernel.updates
  updates_is = ap (λ c. c.updates) anchor' ∙ ap (λ c. c.updates) (same.anchor ∙ anchor) ∙ ap (λ (k : KernelValue). k.updates) out

  pub worked_alone : WorkedAlone kernel work k2 entries
  worked_alone = record {
    number = ap (λ (k : KernelValue). k.number) back ∙ number_is;
    updates = ap (λ (k : KernelValue). k.updates) back ∙ updates_is;
    starts = ap starts_in objects_back ∙ starts_are;
    histories = ap histories_in objects_back ∙ histories_are;
    runs = λ n. subst (λ os. IsRunAt (starts_in os n) (histories_in os n)) (sym objects_back) (runs n);
    base = ap (λ (k : KernelValue). k.base) back ∙ base_is;
    others = others_are;
    lists = ap length labels_back ∙ length-set (slice_set kernel.labels work.agent.0 finmap.empty) work.agent.0 later ∙ count_first;
    did = did_all;
  }
    where
      did_1 : DidAll (begun_in kernel.objects) work.commands labels at later a'.log
      did_1 = subst (λ (b : ℕ → Option State). DidAll b work.commands labels at later a'.log) begun_is (subst (λ cs. DidAll (begun a) cs labels at later a'.log) all did)

      did_2 : DidAll (begun_in kernel.objects) work.commands labels at later (paired_on (begun_in kernel.objects) (histories_in kernel.objects) [] entries)
      did_2 = subst (λ ps. DidAll (begun_in kernel.objects) work.commands labels at later ps) log_is did_1

      did_3 : DidAll (begun_in kernel.objects) work.commands (labels_at kernel work.agent.0) (begins_at kernel work) later (paired_on (begun_in kernel.objects) (histories_in kernel.objects) [] entries)
      did_3 =
          subst (λ (t : At). DidAll (begun_in kernel.objects) work.commands (labels_at kernel work.agent.0) t later (paired_on (begun_in kernel.objects) (histories_in kernel.objects) [] entries)) at_is
          (subst (λ l. DidAll (begun_in kernel.objects) work.commands l at later (paired_on (begun_in kernel.objects) (histories_in kernel.objects) [] entries)) labels_are did_2)

      did_all : DidAll (begun_in kernel.objects) work.commands (labels_at kernel work.agent.0) (begins_at kernel work) (labels_at k2 work.agent.0) (paired_on (begun_in kernel.objects) (histories_in kernel.objects) [] entries)
      did_all = subst (λ l. DidAll (begun_in kernel.objects) work.commands (labels_at kernel work.agent.0) (begins_at kernel work) l (paired_on (begun_in kernel.objects) (histories_in kernel.objects) [] entries)) (sym later_is) did_3
