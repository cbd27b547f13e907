-- After a kexec: the same kernel runs on where it was refused, and the next one begins where it was answered Ok.
use Rattle.std.proofs.Common.{◌≡◌, ℕ, ◌+◌, Bool, true, false, not, ◌&&◌, ◌==◌, nat_le, List, [], ◌∷◌, ◌++◌, fold, refl, ap, ◌∙◌, arith, IsTrue, cond, suc}
use Rattle.std.specs.Prelude.{Option}
use Rattle.std.specs.FinMap as finmap
use Rattle.std.specs.List.{list_all}
use Rattle.std.proofs.lemmas.Bool.Decides.{nat_tests}
use Rattle.ho_base.specs.declared.numbers.Blob.{Blob}
use Rattle.ho_events.specs.declared.entry.Entry.{Entry}
use Rattle.ho_events.specs.declared.script.Block.{Block}
use Rattle.ho_events.specs.declared.slip.At.{At}
use Rattle.ho_world.specs.World.{State, World, after}
use Rattle.ho_world.specs.Frozen.{frozen, next}
use Rattle.ho_world.specs.Entries.{in_kernel, beginning, is_own, is_ok, ends_kernel}
use Rattle.ho_world.specs.Legal.{kernel_due, labeling_from, nothing_bound, labels_now}
use Rattle.ho_world.specs.Logs.{end_with, entry_of}
use Rattle.ho_world.specs.Through.{HasRisingNumbers, IsDoneBy, IsThrough}
use Rattle.ho_world.proofs.Fronts.{and_left, and_right, all_follow, filter_front}
use Rattle.ho_world.proofs.Step.{one_more}
use Rattle.kexec_laws.specs.Kexecs.{IsKexecOf, IsKexeced, GivesKexec, RunsOn, BeginsNext, RefusedKexecRunsOn, KexecBeginsNext}
use Rattle.kexec_laws.proofs.KexecEntries.{Ended}
use Rattle.kexec_laws.proofs.KexecNext.{parted, gives_kexec}

-- how many entries end a kernel
abbrev counted : ℕ → Entry → ℕ
counted n x = n + cond (ends_kernel x) 1 0

not_counted : (b : Bool) (n : ℕ) → IsTrue (not b) → n + cond b 1 0 ≡ n
not_counted true n h = absurd cc
not_counted false n h = omega arith

count_none : (n : ℕ) (ys : List Entry) → IsTrue (list_all (λ y. not (ends_kernel y)) ys) → fold counted n ys ≡ n
count_none n [] h = refl
count_none n (y ∷ ys) h =
    ap (λ m. fold counted m ys) (not_counted (ends_kernel y) n (and_left (not (ends_kernel y)) _ h)) ∙ count_none n ys (and_right (not (ends_kernel y)) _ h)

count_from : (n : ℕ) (xs ys : List Entry) → fold counted n (xs ++ ys) ≡ fold counted (fold counted n xs) ys
count_from n [] ys = refl
count_from n (x ∷ xs) ys = count_from (counted n x) xs ys

-- entries without an end of a kernel, and one more
due_more : (es front : List Entry) (e : Entry) → IsTrue (list_all (λ y. not (ends_kernel y)) front) → kernel_due (es ++ (front ++ e ∷ [])) ≡ counted (kernel_due es) e
due_more es front e h =
    count_from 0 es (front ++ e ∷ []) ∙ count_from (kernel_due es) front (e ∷ []) ∙ ap (λ n. counted n e) (count_none (kernel_due es) front h)

no_ends : (xs : List Entry) → IsTrue (list_all (λ e. not (is_own e.object)) xs) → IsTrue (list_all (λ e. not (ends_kernel e)) xs)
no_ends xs h = all_follow (λ e. not (is_own e.object)) (λ e. not (ends_kernel e)) xs (λ e t. not_end (e.agent.0 == 0) (is_own e.object) (is_ok e.reply) t) h
  where
    not_end : (p q r : Bool) → IsTrue (not q) → IsTrue (not ((p && q) && r))
    not_end true true r h = absurd cc
    not_end true false r h = refl
    not_end false q r h = refl

-- what holds by kernel k holds by the next one
through_raised : (start : World) (blocks : List Block) (es : List Entry) (b k : ℕ) → IsThrough start blocks es b k → IsThrough start blocks es b (k + 1)
through_raised start blocks es b k t = record {
  below = t.below;
  kernels = all_follow (λ d. nat_le d.kernel k) (λ d. nat_le d.kernel (k + 1)) es (λ d h. up d.kernel k h) t.kernels;
  stamped = t.stamped;
  in_order = t.in_order;
  objects = t.objects;
  agents = λ a n d due less. (let old : IsDoneBy start blocks es a n d k = t.agents a n d due less in let low = old.by_then in record { is_done = old.is_done; by_then = omega (arith, low) });
}
  where
    up : (m n : ℕ) → IsTrue (nat_le m n) → IsTrue (nat_le m (n + 1))
    up m n h = grind (arith, nat_tests)

none_above : (k : ℕ) (es : List Entry) → IsTrue (list_all (λ d. nat_le d.kernel k) es) → in_kernel (k + 1) es ≡ []
unfolding in_kernel
none_above k es h = filter_front (λ e. e.kernel == k + 1) [] es (all_follow (λ d. nat_le d.kernel k) (λ e. not (e.kernel == k + 1)) es (λ e t. not_next e.kernel k t) h)
  where
    not_next : (m n : ℕ) → IsTrue (nat_le m n) → IsTrue (not (m == n + 1))
    not_next m n h = grind (arith, nat_tests)

none_bound : (blocks : List Block) (k a : ℕ) (es : List Entry) → IsTrue (list_all (λ d. nat_le d.kernel k) es) → labels_now blocks (k + 1) a es ≡ finmap.empty
unfolding labels_now labeling_from
none_bound blocks k a es h =
    ap (λ xs. (labeling_from blocks nothing_bound xs).labels)
    (filter_front (λ e. e.kernel == k + 1 && e.agent.0 == a) [] es (all_follow (λ d. nat_le d.kernel k) (λ e. not (e.kernel == k + 1 && e.agent.0 == a)) es (λ e t. not_next e.kernel k (e.agent.0 == a) t) h))
  where
    not_next : (m n : ℕ) (q : Bool) → IsTrue (nat_le m n) → IsTrue (not (m == n + 1 && q))
    not_next m n true h = grind (arith, nat_tests)
    not_next m n false h = grind (arith, nat_tests)

begins_more : (start : World) (es : List Entry) (k : ℕ) → beginning start es (k + 1) ≡ next (frozen (after (beginning start es k) (in_kernel k es)))
unfolding beginning
begins_more start es k =
    let same : k + 1 ≡ suc k = omega arith in
    ap (beginning start es) same

module _ (start : World) (blocks : List Block) (es new : List Entry) (b k : ℕ) (blob : Blob) (at : At) (begun : ℕ → Option State)
    (numbers : HasRisingNumbers blocks) (r : IsKexecOf blocks b blob at.command) (t : IsThrough start blocks es b k) (did : IsKexeced start es new k blob at begun) where
  gives : GivesKexec start blocks es new b k did.last
  gives = gives_kexec start blocks es new b k blob at begun numbers r t did

  through_now : IsThrough start blocks (es ++ new) (b + 1) k
  through_now = one_more start blocks es new b k t gives.next

  due_now : kernel_due (es ++ new) ≡ k + cond (is_ok did.acts.reply) 1 0
  due_now =
      let p : Ended _ at at.last did.acts.reply [] new did.last = parted start blocks es new b k blob at begun numbers r t did in
      ap (λ xs. kernel_due (es ++ xs)) p.parts
      ∙ due_more es p.front (entry_of at (end_with did.acts.reply) p.stamp) (no_ends p.front p.objects)
      ∙ ap (λ n. n + cond ((at.agent.0 == 0 && true) && is_ok did.acts.reply) 1 0) did.kernel
      ∙ ap (λ a. k + cond ((a == 0 && true) && is_ok did.acts.reply) 1 0) did.of_agent

  pub runs_on : is_ok did.acts.reply ≡ false → RunsOn start blocks es new b k
  runs_on refused = record {
    due = due_now ∙ ap (λ c. k + cond c 1 0) refused ∙ no_more k;
    through = through_now;
  }
    where
      no_more : (n : ℕ) → n + 0 ≡ n
      no_more n = omega arith

  pub begins_next : IsTrue (is_ok did.acts.reply) → BeginsNext start blocks es new b k
  begins_next answered = record {
    due = due_now ∙ ap (λ c. k + cond c 1 0) answered;
    through = through_raised start blocks (es ++ new) (b + 1) k through_now;
    begins =
        begins_more start (es ++ new) k ∙ ap (λ (w : World). next (frozen (after w (in_kernel k (es ++ new))))) gives.begins
        ∙ ap (λ xs. next (frozen (after (beginning start es k) xs))) gives.here;
    none = none_above k (es ++ new) through_now.kernels;
    labels = λ a. none_bound blocks k a (es ++ new) through_now.kernels;
  }

pub refused_kexec_runs_on : RefusedKexecRunsOn
refused_kexec_runs_on start blocks es new b k blob at begun numbers r t did refused = runs_on start blocks es new b k blob at begun numbers r t did refused

pub kexec_begins_next : KexecBeginsNext
kexec_begins_next start blocks es new b k blob at begun numbers r t did answered = begins_next start blocks es new b k blob at begun numbers r t did answered
