-- A kexec that was done takes the history and the kernel on: the same kernel runs on, or the next one begins.
use Rattle.std.proofs.Common.{◌≡◌, ℕ, ◌+◌, ◌<◌, ◌≤◌, ◌==◌, Bool, true, false, max, List, [], ◌∷◌, ◌++◌, length, slice_index_or, refl, sym, ap, subst, ◌∙◌, arith, IsTrue, is_some}
use Rattle.std.specs.Prelude.{Option}
use Rattle.std.specs.List.{list_all}
use Rattle.std.proofs.lemmas.List.{append-nil}
use Rattle.std.specs.FinMap as finmap
use Rattle.ho_base.specs.Objects.{handler_no}
use Rattle.ho_base.specs.declared.numbers.Blob.{Blob}
use Rattle.ho_events.specs.History.{on, greatest_stamp, last_stamp}
use Rattle.ho_events.specs.Script.Rules.{kexecs_in}
use Rattle.ho_events.specs.declared.entry.Entry.{Entry}
use Rattle.ho_events.specs.declared.script.Block.{Block}
use Rattle.ho_events.specs.declared.script.Block.TheVariants.{Kexec}
use Rattle.ho_events.specs.declared.slip.At.{At}
use Rattle.ho_world.specs.Entries.{in_kernel, beginning, world_of, is_ok}
use Rattle.ho_world.specs.Frozen.{Frozen, frozen, next}
use Rattle.ho_world.specs.Logs.{AreDone, deeds_of, paired_on}
use Rattle.ho_world.specs.Sequences.Kexecs.{KexecOutcome}
use Rattle.ho_world.specs.Through.{HasRisingNumbers, IsThrough, is_here}
use Rattle.ho_world.specs.Legal.{kernel_due}
use Rattle.ho_world.proofs.Fronts.{all_follow, and_left}
use Rattle.ho_world.specs.World.{State, World, run, after, handler_at}
use Rattle.ho_world.proofs.Rises.{on_parts}
use Rattle.kexec_laws.specs.Kexecs.{IsKexecOf, IsKexeced, GivesKexec, RunsOn, BeginsNext, ends}
use Rattle.kexec_laws.proofs.KexecAfter.{runs_on, begins_next}
use Rattle.kexec_laws.proofs.KexecNext.{gives_kexec}
use Rattle.kexec_laws.proofs.KexecReplies.{only_ends_are_ok}
use Rattle.machine_core.specs.Agents.{state_in}
use Rattle.machine_core.specs.Kernels.{KernelValue, begun_in, histories_in, starts_in, object_at}
use Rattle.machine_core.specs.LabelsShown.{agent_count}
use Rattle.machine_core.specs.Objects.{Start, spot_at}
use Rattle.machine_core.specs.Worlds.{IsWorldOf}
use Rattle.kexec_boot.specs.Begins.{BeginsAs}
use Rattle.freeze_path.specs.Freezes.{IsStill, DidKexec}
use Rattle.handover_cli.specs.Rounds.{IsAfter}
use Rattle.handover_cli.specs.Works.{FollowsAs, Kexeced, due_after, kexec_at}
use Rattle.sound_histories.specs.Scripts.{StandsSound}
use Rattle.sound_histories.proofs.Standing.{refused_stands, ended_stands}
use Rattle.handover_cli.proofs.KernelWorlds.{no_history, ran, world_is, built_is, no_handler, next_quiet, all_same, how_many}

-- a block that was done: the history goes through it, and the kernel is as the longer history says; at most a kexec made
-- its number greater
pub record GoesOn (start : World) (blocks : List Block) (es new : List Entry) (b : ℕ) (block : Block) (kernel kernel' : KernelValue) : Type 0 where
  pub through : IsThrough start blocks (es ++ new) (b + 1) kernel'.number
  pub after : IsAfter start blocks (es ++ new) kernel'.number kernel'
  pub few : kernel'.number ≤ kernel.number + kexecs_in (block ∷ [])

-- the world of a kernel that is as entries say
pub world_before : (start : World) (blocks : List Block) (es : List Entry) (k : ℕ) (kernel : KernelValue) → IsAfter start blocks es k kernel → IsWorldOf kernel (world_of start es k)
world_before start blocks es k kernel here =
    world_is (beginning start es k) kernel (in_kernel k es) here.updates here.begun (λ o. ap (λ (f : ℕ → List Entry). f o) here.histories) here.handlers here.unbuilt

none_on : (o : ℕ) → on o [] ≡ []
unfolding on
none_on o = refl

none_stamped : greatest_stamp [] ≡ 0
unfolding greatest_stamp
none_stamped = refl

module _ (start : World) (blocks : List Block) (es new : List Entry) (b : ℕ) (kernel old : KernelValue) (number : ℕ) (blob : Blob) (outcome : KexecOutcome)
    (numbers : HasRisingNumbers blocks) (r : IsKexecOf blocks b blob number) (t : IsThrough start blocks es b kernel.number) (here : IsAfter start blocks es kernel.number kernel)
    (still : IsStill kernel old new) (did : DidKexec kernel (kexec_at kernel number) blob outcome new) where
  abbrev k : ℕ
  k = kernel.number

  abbrev at : At
  at = kexec_at kernel number

  abbrev begun : ℕ → Option State
  begun = begun_in kernel.objects

  abbrev began : World
  began = beginning start es k

  -- each object's history
  all_on : (o : ℕ) → histories_in old.objects o ≡ on o (in_kernel k es ++ new)
  all_on o =
      ap (λ (f : ℕ → List Entry). f o) still.histories
      ∙ ap (λ (f : ℕ → List Entry). f o ++ on o new) here.histories
      ∙ sym (on_parts o (in_kernel k es) new)

  starts_at : (o : ℕ) → begun_in old.objects o ≡ begun o
  starts_at o = ap (λ (f : ℕ → Option Start). state_in (f o)) still.starts

  all_run : (o : ℕ) → IsTrue (is_some (run (began.at o) (on o (in_kernel k es ++ new))))
  all_run o =
      subst (λ h. IsTrue (is_some (run (began.at o) h))) (all_on o)
      (ran (began.at o) (starts_in old.objects o) (histories_in old.objects o)
      (λ x is. here.begun o x (sym (starts_at o) ∙ is))
      (λ none. no_history (object_at old.objects o) none)
      (still.runs o))

  -- the world that was frozen is that of the kernel after all entries
  pub world_now : IsWorldOf old (after began (in_kernel k es ++ new))
  world_now =
      world_is began old (in_kernel k es ++ new) (still.updates ∙ here.updates) (λ o s is. here.begun o s (sym (starts_at o) ∙ is)) all_on here.handlers
      (λ n less. starts_at (handler_no n) ∙ here.unbuilt n less)

  pub kexeced : IsKexeced start es new k blob at begun
  kexeced = record {
    kernel = here.due;
    of_kernel = refl;
    of_agent = refl;
    begins_at = here.base;
    begun_is = here.begun;
    outcome = outcome;
    acts = did.sequence;
    is_one = did.is_one (world_of start es k) (world_before start blocks es k kernel here);
    last = did.last;
    done = subst (λ (f : ℕ → List Entry). AreDone begun at at.last (deeds_of did.sequence) (paired_on begun f [] new) did.last) here.histories did.done;
    objects = all_run;
  }

  gives : GivesKexec start blocks es new b k did.last
  unfolding kexeced
  gives = gives_kexec start blocks es new b k blob at begun numbers r t kexeced

  -- all entries are the kernel's
  pub kexec_here : IsTrue (list_all (λ e. e.kernel == k) new)
  kexec_here = all_follow (is_here blocks b k) (λ e. e.kernel == k) new (λ e h. and_left (e.kernel == k) _ h) gives.next.here

  -- the kernel's world is that of all its entries
  pub kexec_world : IsWorldOf old (world_of start (es ++ new) k)
  unfolding kexeced
  kexec_world =
      subst (IsWorldOf old)
      (ap (λ w. after w (in_kernel k es ++ new)) (sym gives.begins) ∙ ap (after (beginning start (es ++ new) k)) (sym gives.here))
      world_now

  answered : is_ok did.sequence.reply ≡ ends outcome
  answered = only_ends_are_ok (world_of start es k) blob outcome did.sequence (did.is_one (world_of start es k) (world_before start blocks es k kernel here))

  -- the world stays sound, or the next kernel's is
  pub refused_is_sound : ends outcome ≡ false → StandsSound start blocks es b k → StandsSound start blocks (es ++ new) (b + 1) k
  unfolding kexeced
  refused_is_sound refused s = refused_stands start blocks es new b k blob at begun numbers r t kexeced (answered ∙ refused) s

  pub ended_is_sound : ends outcome ≡ true → StandsSound start blocks es b k → StandsSound start blocks (es ++ new) (b + 1) (k + 1)
  unfolding kexeced
  ended_is_sound ending s = ended_stands start blocks es new b k blob at begun numbers r t kexeced (answered ∙ ending) s

  -- a refused kexec
  pub rebooted_after : ends outcome ≡ false → IsThrough start blocks (es ++ new) (b + 1) old.number × IsAfter start blocks (es ++ new) old.number old
  unfolding kexeced
  rebooted_after refused =
      let on_runs : RunsOn start blocks es new b k = runs_on start blocks es new b k blob at begun numbers r t kexeced (answered ∙ refused) in (
        subst (λ n. IsThrough start blocks (es ++ new) (b + 1) n) (sym still.number) on_runs.through,
        subst (λ n. IsAfter start blocks (es ++ new) n old) (sym still.number) (record {
          number = still.number;
          updates = still.updates ∙ here.updates ∙ ap (λ (w : World). w.number) (sym gives.begins);
          due = on_runs.due;
          begun = λ o s is. ap (λ (w : World). w.at o) gives.begins ∙ here.begun o s (sym (starts_at o) ∙ is);
          histories = λ i o. told o i;
          base = still.base ∙ ap (λ n. max n (last_stamp new)) here.base ∙ sym gives.base;
          labels = λ a. ap (λ ls. slice_index_or ls a finmap.empty) still.labels ∙ here.labels a ∙ sym (gives.labels a);
          lists = ap length still.labels ∙ here.lists;
          handlers = λ n less. ap (λ (w : World). (handler_at w n).outgoing.files) gives.begins ∙ here.handlers n less;
          unbuilt = λ n less. starts_at (handler_no n) ∙ here.unbuilt n less;
        }),
      )
    where
      told : (o : ℕ) → histories_in old.objects o ≡ on o (in_kernel k (es ++ new))
      told o = all_on o ∙ ap (on o) (sym gives.here)

  -- the next kernel is due, whether it began or not
  pub next_due : ends outcome ≡ true → BeginsNext start blocks es new b k
  unfolding kexeced
  next_due ended = begins_next start blocks es new b k blob at begun numbers r t kexeced (answered ∙ ended)

  -- a kexec that ends a kernel has entries
  pub kexec_some : ends outcome ≡ true → 0 < length new
  kexec_some ended = at new refl
    where
      later : kernel_due (es ++ new) ≡ k + 1
      later = (next_due ended).due

      at : (xs : List Entry) → new ≡ xs → 0 < length xs
      at [] none =
          let due : kernel_due es ≡ k = here.due in
          let same : kernel_due es ≡ k + 1 = ap kernel_due (sym (append-nil es) ∙ ap (λ ys. es ++ ys) (sym none)) ∙ later in
          absurd omega (arith, due, same)
      at (x ∷ xs) some = omega arith

  -- the next kernel
  pub next_after : (kernel' : KernelValue) → ends outcome ≡ true → ((w : World) → IsWorldOf old w → BeginsAs (old.number + 1) (frozen w) kernel')
      → IsThrough start blocks (es ++ new) (b + 1) kernel'.number × IsAfter start blocks (es ++ new) kernel'.number kernel'
  next_after kernel' ended begins =
      let now : BeginsNext start blocks es new b k = next_due ended in
      let f : Frozen = frozen (after began (in_kernel k es ++ new)) in
      let made : BeginsAs (old.number + 1) (frozen (after began (in_kernel k es ++ new))) kernel' = begins (after began (in_kernel k es ++ new)) world_now in
      let same : kernel'.number ≡ k + 1 = made.number ∙ ap (λ n. n + 1) still.number in (
        subst (λ n. IsThrough start blocks (es ++ new) (b + 1) n) (sym same) now.through,
        subst (λ n. IsAfter start blocks (es ++ new) n kernel') (sym same) (record {
          number = same;
          updates = made.updates ∙ ap (λ (w : World). w.number) (sym now.begins);
          due = now.due;
          begun = λ o s is. ap (λ (w : World). w.at o) now.begins ∙ built_is (spot_at o) ((next f).at o) s (sym (made.begun o) ∙ is);
          histories = λ i o. told now made o i;
          base = made.base ∙ sym none_stamped ∙ ap greatest_stamp (sym now.none);
          labels = λ a. ap (λ ls. slice_index_or ls a finmap.empty) made.labels ∙ all_same agent_count a finmap.empty ∙ sym (now.labels a);
          lists = ap length made.labels ∙ how_many agent_count finmap.empty;
          handlers = λ n less. ap (λ (w : World). (handler_at w n).outgoing.files) now.begins ∙ next_quiet f n less;
          unbuilt = λ n less. made.begun (handler_no n) ∙ no_handler n less ((next f).at (handler_no n));
        }),
      )
    where
      told : BeginsNext start blocks es new b k → BeginsAs (old.number + 1) (frozen (after began (in_kernel k es ++ new))) kernel' → (o : ℕ) → histories_in kernel'.objects o ≡ on o (in_kernel (k + 1) (es ++ new))
      told now made o = made.histories o ∙ sym (none_on o) ∙ ap (on o) (sym now.none)

-- a kexec block: the history goes through it
pub kexec_through : (start : World) (blocks : List Block) (es new : List Entry) (b : ℕ) (kernel old : KernelValue) (number : ℕ) (blob : Blob) (ended : Bool)
    → HasRisingNumbers blocks → IsKexecOf blocks b blob number → IsThrough start blocks es b kernel.number → IsAfter start blocks es kernel.number kernel → Kexeced number blob kernel old new ended
    → IsThrough start blocks (es ++ new) (b + 1) (due_after ended old.number)
kexec_through start blocks es new b kernel old number blob false numbers r t here did =
    (rebooted_after start blocks es new b kernel old number blob did.outcome numbers r t here did.still did.did did.ending).0
kexec_through start blocks es new b kernel old number blob true numbers r t here did =
    let now : BeginsNext start blocks es new b kernel.number = next_due start blocks es new b kernel old number blob did.outcome numbers r t here did.still did.did did.ending in
    subst (λ k. IsThrough start blocks (es ++ new) (b + 1) (k + 1)) (sym did.still.number) now.through

-- and the kernel that follows is as the longer history says
pub kexec_done : (start : World) (blocks : List Block) (es new : List Entry) (b : ℕ) (kernel old kernel' : KernelValue) (number : ℕ) (blob : Blob) (ended : Bool)
    → HasRisingNumbers blocks → IsKexecOf blocks b blob number → IsThrough start blocks es b kernel.number → IsAfter start blocks es kernel.number kernel → Kexeced number blob kernel old new ended → FollowsAs ended old kernel'
    → GoesOn start blocks es new b (Kexec blob) kernel kernel'
kexec_done start blocks es new b kernel old kernel' number blob false numbers r t here did follows =
    let both = rebooted_after start blocks es new b kernel old number blob did.outcome numbers r t here did.still did.did did.ending in
    let same : kernel'.number ≡ kernel.number = ap (λ (x : KernelValue). x.number) follows ∙ did.still.number in
    record {
      through = subst (λ (x : KernelValue). IsThrough start blocks (es ++ new) (b + 1) x.number) (sym follows) both.0;
      after = subst (λ (x : KernelValue). IsAfter start blocks (es ++ new) x.number x) (sym follows) both.1;
      few = omega (arith, same);
    }
kexec_done start blocks es new b kernel old kernel' number blob true numbers r t here did follows =
    let both = next_after start blocks es new b kernel old number blob did.outcome numbers r t here did.still did.did kernel' did.ending follows in
    let next : kernel'.number ≡ old.number + 1 = (follows _ (world_now start blocks es new b kernel old number blob did.outcome numbers r t here did.still did.did)).number in
    let same : old.number ≡ kernel.number = did.still.number in
    record {
      through = both.0;
      after = both.1;
      few = omega (arith, next, same);
    }

-- the world in which the kernel runs that is due
pub kexec_sound : (start : World) (blocks : List Block) (es new : List Entry) (b : ℕ) (kernel old : KernelValue) (number : ℕ) (blob : Blob) (ended : Bool)
    → HasRisingNumbers blocks → IsKexecOf blocks b blob number → IsThrough start blocks es b kernel.number → IsAfter start blocks es kernel.number kernel → Kexeced number blob kernel old new ended
    → StandsSound start blocks es b kernel.number → StandsSound start blocks (es ++ new) (b + 1) (due_after ended old.number)
kexec_sound start blocks es new b kernel old number blob false numbers r t here did s =
    subst (λ k. StandsSound start blocks (es ++ new) (b + 1) k) (sym did.still.number)
    (refused_is_sound start blocks es new b kernel old number blob did.outcome numbers r t here did.still did.did did.ending s)
kexec_sound start blocks es new b kernel old number blob true numbers r t here did s =
    subst (λ k. StandsSound start blocks (es ++ new) (b + 1) (k + 1)) (sym did.still.number)
    (ended_is_sound start blocks es new b kernel old number blob did.outcome numbers r t here did.still did.did did.ending s)
