-- What the pool can't do, and what is known while it is in hand.
use Rattle.std.proofs.Common.{inl, ◌≡◌, ◌≢◌, ℕ, Bool, true, false, ◌==◌, List, [], ◌++◌, refl, sym, ap, subst, ◌∙◌, arith, IsTrue, cond, if◌then◌else◌}
use Rattle.std.specs.Prelude.{Option, None, Some, MatchOption}
use Rattle.std.proofs.lemmas.Bool.Decides.{nat_tests}
use Rattle.ho_base.specs.Objects.{pool_no}
use Rattle.ho_base.specs.declared.numbers.Order.{Order}
use Rattle.ho_base.specs.declared.numbers.Pfn.{Pfn}
use Rattle.ho_events.specs.Lists.{firsts}
use Rattle.ho_events.specs.declared.event.Event.{Event}
use Rattle.ho_events.specs.declared.event.Event.TheVariants.{PoolGive, PoolMark, PoolUnmark}
use Rattle.ho_events.specs.declared.reply.Reply.{Reply}
use Rattle.ho_events.specs.declared.reply.Reply.TheVariants.{Ok}
use Rattle.ho_events.specs.declared.slip.At.{At}
use Rattle.ho_events.specs.Pool.{PoolState, pool_step, can_give, can_unmark}
use Rattle.ho_world.specs.Acts.{Claim}
use Rattle.ho_world.specs.Logs.{Known, AreClaimed}
use Rattle.pool_core.specs.PoolValues.{PoolValue}
use Rattle.machine_core.specs.declared.halt.Halt.TheVariants.{Broken}
use Rattle.machine_core.specs.declared.object.Object.{Object}
use Rattle.machine_core.specs.declared.object.Object.TheVariants.{Pool}
use Rattle.machine_core.specs.Objects.{start_of, known_of}
use Rattle.machine_core.specs.Agents.{Agent, with_at, begun}
use Rattle.machine_core.specs.Turns.{CannotCome}
use Rattle.luo_calls.specs.Opened.{Opens}
use Rattle.luo_calls.specs.declared.stuck.Stuck.{Stuck}
use Rattle.luo_calls.specs.Stuck.{Sticks, SticksWith, turn}
use Rattle.luo_calls.proofs.Sticking.{sticks_open}
use Rattle.luo_calls.proofs.Steps.{all_claimed_more}

no_give : (s : PoolState) (o : Order) (runs : List Pfn) → can_give s o.0 (firsts runs) ≡ false → (reply : Reply) → pool_step s (PoolGive o runs) reply ≡ None
no_give s o runs h Ok = rw h refl
no_give s o runs h reply = refl

no_mark : (s : PoolState) (o : Order) (runs : List Pfn) → can_give s o.0 (firsts runs) ≡ false → (reply : Reply) → pool_step s (PoolMark o runs) reply ≡ None
no_mark s o runs h Ok = rw h refl
no_mark s o runs h reply = refl

no_unmark : (s : PoolState) (o : Order) (runs : List Pfn) → can_unmark s o.0 (firsts runs) ≡ false → (reply : Reply) → pool_step s (PoolUnmark o runs) reply ≡ None
no_unmark s o runs h Ok = rw h refl
no_unmark s o runs h reply = refl

pub cannot_give : (x : Option PoolState) (o : Order) (runs : List Pfn) (b : Bool) → b ≡ false → MatchOption x ⊥ (λ s. b ≡ can_give s o.0 (firsts runs)) → MatchOption x (Unit {0}) (λ s. (reply : Reply) → pool_step s (PoolGive o runs) reply ≡ None)
cannot_give None o runs b e h = tt
cannot_give (Some s) o runs b e h = no_give s o runs (sym h ∙ e)

pub cannot_mark : (x : Option PoolState) (o : Order) (runs : List Pfn) (b : Bool) → b ≡ false → MatchOption x ⊥ (λ s. b ≡ can_give s o.0 (firsts runs)) → MatchOption x (Unit {0}) (λ s. (reply : Reply) → pool_step s (PoolMark o runs) reply ≡ None)
cannot_mark None o runs b e h = tt
cannot_mark (Some s) o runs b e h = no_mark s o runs (sym h ∙ e)

pub cannot_unmark : (x : Option PoolState) (o : Order) (runs : List Pfn) (b : Bool) → b ≡ false → MatchOption x ⊥ (λ s. b ≡ can_unmark s o.0 (firsts runs)) → MatchOption x (Unit {0}) (λ s. (reply : Reply) → pool_step s (PoolUnmark o runs) reply ≡ None)
cannot_unmark None o runs b e h = tt
cannot_unmark (Some s) o runs b e h = no_unmark s o runs (sym h ∙ e)

-- the pool, in hand for an open turn, can't make the event that is due
pub broken_pool_sticks : (at : At) (a a1 : Agent) (p : PoolValue) (stuck : Stuck) → a.hands pool_no ≡ None → Opens at pool_no a a1 (Pool p) → (event : Event) → CannotCome (Some (start_of (Pool p))) p.history at pool_no event → stuck.halt ≡ Broken (record { 0 = pool_no }) → stuck.held ≡ Some (record { 0 = pool_no }, Pool p) → Sticks at (turn pool_no event) stuck a a1
broken_pool_sticks at a a1 p stuck free opens event cannot halt held =
    subst (λ h. SticksWith at (turn pool_no event) h stuck.held a a1) (sym halt)
    (subst (λ x. SticksWith at (turn pool_no event) (Broken (record { 0 = pool_no })) x a a1) (sym held)
    (sticks_open at (turn pool_no event) (Broken (record { 0 = pool_no })) (record { 0 = pool_no }) a a1 (Pool p) free opens (refl, (refl, inl cannot))))

-- what is known of the objects in hand is known while one more is in hand
pub hands_more : (f : ℕ → Option Known) (n : ℕ) (k : Known) → f n ≡ None → (o : ℕ) (j : Known) → f o ≡ Some j → with_at n (Some k) f o ≡ Some j
hands_more f n k free o j is = point (o == n) refl
  where
    same : (o == n) ≡ true → o ≡ n
    same t = grind (arith, nat_tests)

    point : (b : Bool) → (o == n) ≡ b → with_at n (Some k) f o ≡ Some j
    point true t = absurd (clash (sym is ∙ ap f (same t) ∙ free))
      where
        clash : Some j ≡ None → ⊥
        clash e = absurd cc
    point false t = ap (λ b. cond b (Some k) (f o)) t ∙ is

pub claimed_open : (at : At) (n : ℕ) (a a1 : Agent) (o : Object) (claims : List Claim) → Opens at n a a1 o → a.hands n ≡ None → AreClaimed (begun a) a.hands claims → AreClaimed (begun a) a1.hands claims
claimed_open at n a a1 o claims opens free h =
    subst (λ f. AreClaimed (begun a) f claims) (sym (ap (λ (x : Agent). x.hands) opens.same))
    (all_claimed_more (begun a) a.hands (with_at n (Some (known_of o)) a.hands) claims (hands_more a.hands n (known_of o) free) h)
