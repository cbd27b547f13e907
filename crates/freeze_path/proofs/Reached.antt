-- A kernel after what agent 0 did on it by itself.
use Rattle.std.proofs.Common.{◌≡◌, ℕ, ◌+◌, ◌<◌, ◌≤◌, nat_le, max, List, [], ◌∷◌, ◌++◌, map, refl, ap, sym, ◌∙◌, subst, arith, IsTrue, ◌^◌}
use Rattle.std.specs.Prelude.{Option, None, Some, Bool, true, false}
use Rattle.std.specs.Bool.{MatchBool}
use Rattle.std.specs.List.{list_all}
use Rattle.std.proofs.lemmas.Bool.{and_parts, leb-true}
use Rattle.std.proofs.lemmas.List.{append-nil}
use Rattle.ho_base.specs.Objects.{pool_no}
use Rattle.ho_events.specs.declared.entry.Entry.{Entry}
use Rattle.ho_events.specs.declared.reply.Reply.{Reply}
use Rattle.ho_events.specs.declared.slip.At.{At}
use Rattle.ho_events.specs.History.{on, last_stamp, last_stamp_from}
use Rattle.ho_world.specs.Logs.{Deed, Paired, end_with, AreDone, grown, paired_on}
use Rattle.ho_world.specs.Sequences.{Labels}
use Rattle.ho_world.specs.World.{State}
use Rattle.machine_core.specs.Agents.{Agent, Anchor, begun, state_in}
use Rattle.machine_core.specs.Kernels.{KernelValue, starts_in, begun_in, histories_in, IsRunAt, AreUpTo}
use Rattle.machine_core.specs.Plain.{anchor_of}
use Rattle.machine_core.specs.Turns.{IsReady, TellsMore, Goes}
use Rattle.freeze_path.specs.Freezes.{IsStill}
use Rattle.freeze_path.specs.Ready.{DidDeeds, IsToldEarly, TookFrames, TookOn, EndedFirst, got_deeds, few_deeds}
use Rattle.freeze_path.specs.declared.taking.Took.{Took}
use Rattle.freeze_path.specs.declared.taking.Took.TheVariants as took
use Rattle.luo_calls.proofs.Steps.{goes_none}

-- no earlier entry is stamped later
pub begins_ready : (kernel k1 : KernelValue) (at : At) (a : Agent) (n : ℕ) → k1 ≡ record kernel { labels = [] } → a.anchor ≡ anchor_of k1 → a.log ≡ [] → at.agent.0 ≡ n → a.number ≡ n → at.kernel ≡ kernel.number → at.last ≡ kernel.base
    → IsTrue (list_all (λ p. nat_le p.entry.stamp k1.base) a.earlier) → IsReady at a
begins_ready kernel k1 at a n is anchored empty agent number number_is last none = record {
  agent = agent ∙ sym number;
  kernel = number_is ∙ sym (ap (λ (x : Anchor). x.kernel) anchored ∙ ap (λ (k : KernelValue). k.number) is);
  last =
      subst (λ (l : List Paired). IsTrue (list_all (λ p. nat_le p.entry.stamp at.last) l)) (sym (append-nil a.earlier) ∙ ap (λ (l : List Paired). a.earlier ++ l) (sym empty))
      (subst (λ (t : ℕ). IsTrue (list_all (λ p. nat_le p.entry.stamp t) a.earlier)) (ap (λ (k : KernelValue). k.base) is ∙ sym last) none);
}

told_after : (made : List Paired) (f : ℕ → List Entry) (g t : Option (ℕ → List Entry)) (h : ℕ → List Entry) → t ≡ Some f → TellsMore made t g → Some h ≡ g → (n : ℕ) → h n ≡ f n ++ on n (map (λ p. p.entry) made)
told_after made f None t h is tells same n = absurd (no_none (h) same)
  where
    no_none : (h : ℕ → List Entry) → Some h ≡ None → ⊥
    no_none h e = absurd cc
told_after made f (Some g) t h is tells same n =
    let more : TellsMore made (Some f) (Some g) = subst (λ x. TellsMore made x (Some g)) is tells in
    ap (λ k. k n) (same_of h g same) ∙ more n
  where
    or_this : (ℕ → List Entry) → Option (ℕ → List Entry) → ℕ → List Entry
    or_this d None = d
    or_this d (Some x) = x

    same_of : (h g : ℕ → List Entry) → ◌≡◌ {A = Option (ℕ → List Entry)} (Some h) (Some g) → h ≡ g
    same_of h g e = ap (or_this h) e

last_from : (t b : ℕ) (es : List Entry) → t ≤ b → IsTrue (list_all (λ e. nat_le e.stamp b) es) → last_stamp_from t es ≤ b
unfolding last_stamp_from
last_from t b [] low h = low
last_from t b (e ∷ es) low h =
    let hs = and_parts (nat_le e.stamp b) (list_all (λ (e : Entry). nat_le e.stamp b) es) h in last_from e.stamp b es (leb-true e.stamp b hs.0) hs.1

-- the pool's last stamp isn't too great for two entries more, where the greatest one isn't
pub told_early : (kernel k1 : KernelValue) (base : ℕ) (told : Option (ℕ → List Entry)) → k1 ≡ record kernel { labels = [] } → told ≡ Some (histories_in k1.objects) → base ≡ kernel.base
    → ((n : ℕ) → AreUpTo base (histories_in kernel.objects n)) → kernel.base + 1 < 2 ^ 63 → IsToldEarly told
told_early kernel k1 base told is t b up early =
    let low : last_stamp (histories_in k1.objects pool_no) ≤ base =
    subst (λ (k : KernelValue). last_stamp (histories_in k.objects pool_no) ≤ base) (sym is) (last_from 0 base (histories_in kernel.objects pool_no) (omega arith) (up pool_no)) in
    subst IsToldEarly (sym t) (omega (arith, low, b, early))

-- agent 0 worked by itself on the kernel, whose labels were taken out before and put in afterwards
pub record Ran (kernel k1 k2 k3 : KernelValue) (a a' : Agent) (es : List Entry) (labels : List Labels) : Type 0 where
  pub emptied : k1 ≡ record kernel { labels = [] }
  pub labelled : labels ≡ kernel.labels
  pub anchored : a.anchor ≡ anchor_of k1
  pub started : a.starts ≡ starts_in k1.objects
  pub told : a.told ≡ Some (histories_in k1.objects)
  pub empty : a.log ≡ []
  pub anchor : anchor_of k2 ≡ record a'.anchor { base = max a'.anchor.base (last_stamp es) }
  pub starts : starts_in k2.objects ≡ a'.starts
  pub told_now : Some (histories_in k2.objects) ≡ a'.told
  pub runs : (n : ℕ) → IsRunAt (starts_in k2.objects n) (histories_in k2.objects n)
  pub entries : map (λ p. p.entry) a'.log ≡ es
  pub log : (f : ℕ → List Entry) → grown f es ≡ histories_in k2.objects → paired_on (begun a') f [] es ≡ a'.log
  pub filled : k3 ≡ record k2 { labels = labels }

module _ (kernel k1 k2 k3 : KernelValue) (a a' : Agent) (es : List Entry) (ds : List Deed) (at at' : At) (labels : List Labels) (ran : Ran kernel k1 k2 k3 a a' es labels) (goes : Goes ds at at' a a') where
  logged : a'.log ≡ goes.made
  logged = goes.log ∙ ap (λ l. l ++ goes.made) ran.empty

  made_is : map (λ p. p.entry) goes.made ≡ es
  made_is = ap (map (λ p. p.entry)) (sym logged) ∙ ran.entries

  anchor_is : anchor_of k2 ≡ record (anchor_of kernel) { base = max kernel.base (last_stamp es) }
  anchor_is = ran.anchor ∙ ap (λ (x : Anchor). record x { base = max x.base (last_stamp es) }) (goes.anchor ∙ ran.anchored ∙ ap anchor_of ran.emptied)

  starts_are : starts_in k2.objects ≡ starts_in kernel.objects
  starts_are = ran.starts ∙ goes.starts ∙ ran.started ∙ ap (λ (k : KernelValue). starts_in k.objects) ran.emptied

  histories_are : histories_in k2.objects ≡ grown (histories_in kernel.objects) es
  histories_are = λ i n.
      (told_after goes.made (histories_in k1.objects) a'.told a.told (histories_in k2.objects) ran.told goes.told ran.told_now n
      ∙ (λ j. histories_in (ran.emptied j).objects n ++ on n (made_is j))) i

  pub still : IsStill kernel k3 es
  still = record {
    number = ap (λ (k : KernelValue). k.number) ran.filled ∙ ap (λ (x : Anchor). x.kernel) anchor_is;
    updates = ap (λ (k : KernelValue). k.updates) ran.filled ∙ ap (λ (x : Anchor). x.updates) anchor_is;
    shape = ap (λ (k : KernelValue). k.shape) ran.filled ∙ ap (λ (x : Anchor). x.shape) anchor_is;
    home = ap (λ (k : KernelValue). k.home) ran.filled ∙ ap (λ (x : Anchor). x.home) anchor_is;
    labels = ap (λ (k : KernelValue). k.labels) ran.filled ∙ ran.labelled;
    starts = ap (λ (k : KernelValue). starts_in k.objects) ran.filled ∙ starts_are;
    histories = ap (λ (k : KernelValue). histories_in k.objects) ran.filled ∙ histories_are;
    runs = λ n. subst (λ (k : KernelValue). IsRunAt (starts_in k.objects n) (histories_in k.objects n)) (sym ran.filled) (ran.runs n);
    base = ap (λ (k : KernelValue). k.base) ran.filled ∙ ap (λ (x : Anchor). x.base) anchor_is;
  }

  begun_is : begun a' ≡ begun_in kernel.objects
  begun_is = λ i o. state_in ((goes.starts ∙ ran.started ∙ ap (λ (k : KernelValue). starts_in k.objects) ran.emptied) i o)

  first_begun : begun a ≡ begun_in kernel.objects
  first_begun = λ i o. state_in ((ran.started ∙ ap (λ (k : KernelValue). starts_in k.objects) ran.emptied) i o)

  pub did : DidDeeds kernel at ds es
  did = record {
    last = at'.last;
    done =
        subst (λ (ps : List Paired). AreDone (begun_in kernel.objects) at at.last ds ps at'.last)
        (sym logged ∙ sym (ran.log (histories_in kernel.objects) (sym histories_are)) ∙ ap (λ (b : ℕ → Option State). paired_on b (histories_in kernel.objects) [] es) begun_is)
        (subst (λ (b : ℕ → Option State). AreDone b at at.last ds goes.made at'.last) first_begun goes.done);
  }

none_made : (ds : List Deed) → ds ≡ [] → (b : ℕ → Option State) (at : At) (last last' : ℕ) (ps : List Paired) → AreDone b at last ds ps last' → ps ≡ []
unfolding AreDone
none_made [] e b at last last' [] h = refl
none_made [] e b at last last' (p ∷ ps) h = absurd h
none_made (d ∷ ds) e b at last last' ps h = absurd cc

-- nothing was done
pub no_entries : (a a' : Agent) (at at' : At) (es : List Entry) → a.log ≡ [] → Goes [] at at' a a' → map (λ p. p.entry) a'.log ≡ es → es ≡ []
no_entries a a' at at' es empty goes entries =
    sym entries ∙ ap (map (λ p. p.entry)) (goes.log ∙ (λ i. empty i ++ none_made [] refl (begun a) at at.last at'.last goes.made goes.done i))

-- ---- how the turns of a kexec came out

pub hands_stay : (count : ℕ) (at : At) (a a' : Agent) (t : Took) → TookFrames count at a a' t → a'.hands ≡ a.hands
hands_stay count at a a' (took.Got runs) h = h.1.hands
hands_stay count at a a' took.TooFew h = h.1.hands
hands_stay count at a a' took.Memory h = h.hands

pub took_on : (kernel k1 k2 k3 : KernelValue) (a a' : Agent) (es : List Entry) (labels : List Labels) (count : ℕ) (at : At) (t : Took) → Ran kernel k1 k2 k3 a a' es labels → TookFrames count at a a' t → TookOn kernel at count es t
took_on kernel k1 k2 k3 a a' es labels count at (took.Got runs) ran h = did kernel k1 k2 k3 a a' es (got_deeds count runs.value) at h.0 labels ran h.1
took_on kernel k1 k2 k3 a a' es labels count at took.TooFew ran h = did kernel k1 k2 k3 a a' es (few_deeds count) at h.0 labels ran h.1
took_on kernel k1 k2 k3 a a' es labels count at took.Memory ran h = no_entries a a' at at es ran.empty h ran.entries

pub took_still : (kernel k1 k2 k3 : KernelValue) (a a' : Agent) (es : List Entry) (labels : List Labels) (count : ℕ) (at : At) (t : Took) → Ran kernel k1 k2 k3 a a' es labels → TookFrames count at a a' t → IsStill kernel k3 es
took_still kernel k1 k2 k3 a a' es labels count at (took.Got runs) ran h = still kernel k1 k2 k3 a a' es (got_deeds count runs.value) at h.0 labels ran h.1
took_still kernel k1 k2 k3 a a' es labels count at took.TooFew ran h = still kernel k1 k2 k3 a a' es (few_deeds count) at h.0 labels ran h.1
took_still kernel k1 k2 k3 a a' es labels count at took.Memory ran h = still kernel k1 k2 k3 a a' es [] at at labels ran h

pub ended_hands : (b : Bool) (reply : Reply) (at : At) (a a' : Agent) → EndedFirst b reply at a a' → a'.hands ≡ a.hands
ended_hands true reply at a a' h = h.1.hands
ended_hands false reply at a a' h = h.hands

pub ended_on : (kernel k1 k2 k3 : KernelValue) (a a' : Agent) (es : List Entry) (labels : List Labels) (at : At) (b : Bool) (reply : Reply) → Ran kernel k1 k2 k3 a a' es labels → EndedFirst b reply at a a' → MatchBool b (DidDeeds kernel at (end_with reply ∷ []) es) (es ≡ [])
ended_on kernel k1 k2 k3 a a' es labels at true reply ran h = did kernel k1 k2 k3 a a' es (end_with reply ∷ []) at h.0 labels ran h.1
ended_on kernel k1 k2 k3 a a' es labels at false reply ran h = no_entries a a' at at es ran.empty h ran.entries

pub ended_still : (kernel k1 k2 k3 : KernelValue) (a a' : Agent) (es : List Entry) (labels : List Labels) (at : At) (b : Bool) (reply : Reply) → Ran kernel k1 k2 k3 a a' es labels → EndedFirst b reply at a a' → IsStill kernel k3 es
ended_still kernel k1 k2 k3 a a' es labels at true reply ran h = still kernel k1 k2 k3 a a' es (end_with reply ∷ []) at h.0 labels ran h.1
ended_still kernel k1 k2 k3 a a' es labels at false reply ran h = still kernel k1 k2 k3 a a' es [] at at labels ran h

pub nothing_done : (at : At) (a : Agent) → Goes [] at at a a
nothing_done at a = goes_none at a a refl refl refl refl refl refl refl

pub untouched_still : (kernel k1 k2 k3 : KernelValue) (a : Agent) (es : List Entry) (labels : List Labels) (at : At) → Ran kernel k1 k2 k3 a a es labels → IsStill kernel k3 es
untouched_still kernel k1 k2 k3 a es labels at ran = still kernel k1 k2 k3 a a es [] at at labels ran (nothing_done at a)
