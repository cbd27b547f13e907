-- Each block keeps the world sound in which the kernel runs.
use Rattle.std.proofs.Common.{◌≡◌, ◌≢◌, ℕ, ◌+◌, Bool, true, false, cond, ◌==◌, List, [], ◌++◌, length, is_some, refl, sym, ap, subst, ◌∙◌, IsTrue}
use Rattle.std.specs.List.{list_all}
use Rattle.std.proofs.lemmas.Bool.{eqb-true, eqb-false}
use Rattle.ho_events.specs.History.{on, run_from}
use Rattle.ho_events.specs.declared.entry.Entry.{Entry}
use Rattle.ho_events.specs.declared.script.Block.{Block}
use Rattle.ho_world.specs.Alone.{GivesRound, first_at}
use Rattle.ho_world.specs.Entries.{in_kernel, beginning, world_of}
use Rattle.ho_world.specs.Frozen.{frozen, next}
use Rattle.ho_world.specs.Legal.{labels_now}
use Rattle.ho_world.specs.Logs.{HasDone, grown, paired_on}
use Rattle.ho_world.specs.Sequences.{Labels}
use Rattle.ho_world.specs.Through.{is_here}
use Rattle.ho_world.specs.World.{World, run, after}
use Rattle.ho_world.proofs.AloneActs.{kernel_here, same_beginning}
use Rattle.ho_world.proofs.AloneNext.{alone_is_next}
use Rattle.ho_world.proofs.Fronts.{and_left, all_follow}
use Rattle.ho_world.proofs.Rises.{on_parts}
use Rattle.kexec_laws.specs.Kexecs.{GivesKexec, BeginsNext}
use Rattle.kexec_laws.proofs.KexecNext.{gives_kexec}
use Rattle.kexec_laws.proofs.KexecAfter.{kexec_begins_next}
use Rattle.balance_laws.specs.Keeps.{no_labels, relabeled}
use Rattle.balance_laws.specs.Sound.{Sound}
use Rattle.sound_histories.specs.Blocks.{RoundKeeps, RefusedBlockKeeps, EndedBlockKeeps}
use Rattle.sound_histories.specs.Kept.{AllMayCome}
use Rattle.sound_histories.specs.Worlds.{world_on, AreRuns}
use Rattle.sound_histories.proofs.Works.{work_keeps}
use Rattle.sound_histories.proofs.Kexecs.{kexec_keeps, kexec_begins_sound}

-- the entries of kernel k after others
module _ (start : World) (es new : List Entry) (k : ℕ) where
  abbrev base : World
  base = beginning start es k

  abbrev histories : ℕ → List Entry
  histories o = on o (in_kernel k es)

  longer : (λ o. on o (in_kernel k es ++ new)) ≡ grown histories new
  longer = λ i o. on_parts o (in_kernel k es) new i

  runs_on : ((o : ℕ) → IsTrue (is_some (run (base.at o) (on o (in_kernel k es ++ new))))) → AreRuns base (grown histories new)
  runs_on objects = subst (λ g. AreRuns base g) longer objects

  world_same : beginning start (es ++ new) k ≡ base → in_kernel k (es ++ new) ≡ in_kernel k es ++ new → world_of start (es ++ new) k ≡ world_on base (grown histories new)
  world_same begins here = ap (λ (w : World). after w (in_kernel k (es ++ new))) begins ∙ ap (λ xs. after base xs) here ∙ ap (world_on base) longer

-- labels of all agents, of which one agent's alone have changed
changed_labels : (labels now : ℕ → Labels) (a : ℕ) (later : Labels) → later ≡ now a → ((x : ℕ) → x ≢ a → now x ≡ labels x) → relabeled labels a later ≡ now
changed_labels labels now a later own others = λ i x. by_test x (x == a) refl i
  where
    by_test : (x : ℕ) (t : Bool) → (x == a) ≡ t → cond (x == a) later (labels x) ≡ now x
    by_test x true e = ap (λ c. cond c later (labels x)) e ∙ own ∙ ap now (sym (eqb-true x a e))
    by_test x false e = ap (λ c. cond c later (labels x)) e ∙ sym (others x (eqb-false x a e))

of_kernel : (blocks : List Block) (b k : ℕ) (e : Entry) → IsTrue (is_here blocks b k e) → IsTrue (e.kernel == k)
of_kernel blocks b k e h = and_left (e.kernel == k) _ h

pub round_keeps : RoundKeeps
round_keeps start blocks es new b k work begun labels later numbers r t alone may sound =
    let g : GivesRound start blocks es new b k work later alone.last.last = alone_is_next start blocks es new b k work begun labels later numbers r t alone in
    let own : IsTrue (list_all (λ e. e.kernel == k) new) = all_follow (is_here blocks b k) (λ e. e.kernel == k) new (λ e h. of_kernel blocks b k e h) g.next.here in
    let done : HasDone begun work.commands (labels_now blocks k work.agent.0 es) (first_at k work es) (length work.commands) later (paired_on begun (histories start es new k) [] new) alone.last =
    subst (λ l. HasDone begun work.commands l (first_at k work es) (length work.commands) later (paired_on begun (histories start es new k) [] new) alone.last) alone.labels_are alone.done in
    subst (λ (w : World). Sound w (λ a. labels_now blocks k a (es ++ new))) (sym (world_same start es new k (same_beginning start k es new own) (kernel_here start k es new own)))
    (subst (λ l. Sound (world_on (base start es new k) (grown (histories start es new k) new)) l)
    (changed_labels (λ a. labels_now blocks k a es) (λ a. labels_now blocks k a (es ++ new)) work.agent.0 later g.labels g.others)
    (work_keeps (base start es new k) begun (histories start es new k) (λ a. labels_now blocks k a es) work.agent.0 work.commands (first_at k work es) alone.last (length work.commands) later new
    alone.begun_is (runs_on start es new k alone.objects) sound (subst (λ l. AllMayCome l work.commands) alone.labels_are may) done))

pub refused_block_keeps : RefusedBlockKeeps
refused_block_keeps start blocks es new b k blob at begun numbers r t did refused sound =
    let g : GivesKexec start blocks es new b k did.last = gives_kexec start blocks es new b k blob at begun numbers r t did in
    let same : (λ a. labels_now blocks k a es) ≡ (λ a. labels_now blocks k a (es ++ new)) = λ i a. sym (g.labels a) i in
    subst (λ (w : World). Sound w (λ a. labels_now blocks k a (es ++ new))) (sym (world_same start es new k g.begins g.here))
    (subst (λ l. Sound (world_on (base start es new k) (grown (histories start es new k) new)) l) same
    (kexec_keeps (base start es new k) begun (histories start es new k) (λ a. labels_now blocks k a es) at at.last did.last blob did.outcome did.acts new
    did.begun_is (runs_on start es new k did.objects) sound did.is_one did.done refused))

-- no entry changes nothing
no_entry : (w : World) → after w [] ≡ w
unfolding on run_from
no_entry w = refl

no_entries : (w : World) (es : List Entry) → es ≡ [] → after w es ≡ w
no_entries w es none = ap (after w) none ∙ no_entry w

pub ended_block_keeps : EndedBlockKeeps
ended_block_keeps start blocks es new b k blob at begun numbers r t did ok sound =
    let n : BeginsNext start blocks es new b k = kexec_begins_next start blocks es new b k blob at begun numbers r t did ok in
    let none : no_labels ≡ (λ a. labels_now blocks (k + 1) a (es ++ new)) = λ i a. sym (n.labels a) i in
    let next_is : next (frozen (world_on (base start es new k) (grown (histories start es new k) new))) ≡ world_of start (es ++ new) (k + 1) =
    sym (no_entries (beginning start (es ++ new) (k + 1)) (in_kernel (k + 1) (es ++ new)) n.none ∙ n.begins ∙ ap (λ g. next (frozen (world_on (base start es new k) g))) (longer start es new k)) in
    subst (λ (w : World). Sound w (λ a. labels_now blocks (k + 1) a (es ++ new))) next_is
    (subst (λ l. Sound (next (frozen (world_on (base start es new k) (grown (histories start es new k) new)))) l) none
    (kexec_begins_sound (base start es new k) begun (histories start es new k) (λ a. labels_now blocks k a es) at at.last did.last blob did.outcome did.acts new
    did.begun_is (runs_on start es new k did.objects) sound did.is_one did.done ok))
