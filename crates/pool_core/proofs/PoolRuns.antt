-- How the pool's history goes on with the state of its frames.
use Rattle.std.proofs.Common.{◌≡◌, ℕ, nat_le, Bool, true, false, List, [], ◌∷◌, ◌++◌, length, refl, ap, sym, ◌∙◌, subst, IsTrue, is_some, ◌&&◌, ◌==◌}
use Rattle.std.specs.Prelude.{Some}
use Rattle.std.specs.Option.{MatchOption}
use Rattle.std.proofs.lemmas.Bool.{lt-ltb, leb-false, and_parts, eqb-true}
use Rattle.std.proofs.lemmas.List.{length-map}
use Rattle.ho_base.specs.declared.numbers.Pfn.{Pfn}
use Rattle.ho_base.specs.declared.numbers.Order.{Order}
use Rattle.ho_events.specs.Lists.{only, firsts, are_distinct}
use Rattle.ho_events.specs.Pool.{PoolState, pool_step, can_take, can_give, can_unmark, free_runs}
use Rattle.ho_events.specs.History.{run_from, then_entry, pool_from}
use Rattle.ho_events.specs.declared.entry.Entry.{Entry}
use Rattle.ho_events.specs.declared.event.Event.{Event}
use Rattle.ho_events.specs.declared.event.Event.TheVariants.{PoolTake, PoolGive, PoolMark, PoolUnmark}
use Rattle.ho_events.specs.declared.reply.Reply.{Reply}
use Rattle.ho_events.specs.declared.reply.Reply.TheVariants.{Ok, Got, NoFrames}
use Rattle.ho_events.proofs.Runs.{run_push}
use Rattle.pool_core.specs.PoolFramesValues.{PoolFramesValue, with_owned, with_disowned, with_pinned, with_unpinned}
use Rattle.std.specs.Prelude.{map}
use Rattle.std.specs.List.{All}
use Rattle.std.proofs.lemmas.List.Elements.{All-map}
use Rattle.phys_frames.specs.Homes.{HomeId}
use Rattle.pool_core.specs.PoolLending.{zeroed_run}
use Rattle.pool_core.specs.PoolValues.{KeepsPool}

-- a history with no entries leads to the state that it begins with
pub begins : (s start : PoolState) (es : List Entry) → es ≡ [] → start ≡ s → KeepsPool s start es
unfolding run_from
begins s start es none same = record { run = ap (pool_from start) none ∙ ap Some same }

-- a history that leads to a state is a run
pub keeps_is_run : (s start : PoolState) (es : List Entry) → KeepsPool s start es → IsTrue (is_some (pool_from start es))
keeps_is_run s start es k = ap is_some k.run

-- what is told of the state where the history leads holds of the one that is kept
pub told_of : (s start : PoolState) (es : List Entry) (P : PoolState → Type 0) → KeepsPool s start es → MatchOption (pool_from start es) ⊥ P → P s
told_of s start es P k told = subst (λ o. MatchOption o ⊥ P) k.run told

-- a history that leads to a state goes on by an entry that is a step from there
goes_on : (s u start : PoolState) (es more : List Entry) (e : Entry) (event : Event) (reply : Reply) → KeepsPool s start es → e.event ≡ event → e.reply ≡ reply → more ≡ es ++ e ∷ []
    → pool_step s event reply ≡ Some u → KeepsPool u start more
goes_on s u start es more e event reply k is_event is_reply is step = record {
  run = ap (pool_from start) is ∙ run_push pool_step (Some start) es e ∙ ap (λ o. then_entry pool_step o e) k.run
      ∙ (λ j. pool_step s (is_event j) (is_reply j)) ∙ step;
}

only_so : (b : Bool) (s : PoolState) → b ≡ true → only b s ≡ Some s
only_so b s h = ap (λ c. only c s) h

-- the turns, by what the frames say of them
pub take_keeps : (v u : PoolFramesValue) (start : PoolState) (es more : List Entry) (e : Entry) (o : Order) (count : ℕ) (runs : List Pfn)
    → KeepsPool v.state start es → e.event ≡ PoolTake o count → e.reply ≡ Got runs → more ≡ es ++ e ∷ []
    → IsTrue (can_take v.state o.0 count (firsts runs)) → u ≡ with_owned o.0 runs v → KeepsPool u.state start more
take_keeps v u start es more e o count runs k is_event is_reply is can so =
    goes_on v.state u.state start es more e (PoolTake o count) (Got runs) k is_event is_reply is (only_so _ _ can ∙ ap (λ w. Some w.state) (sym so))

pub none_keeps : (v u : PoolFramesValue) (start : PoolState) (es more : List Entry) (e : Entry) (o : Order) (count : ℕ)
    → KeepsPool v.state start es → e.event ≡ PoolTake o count → e.reply ≡ NoFrames → more ≡ es ++ e ∷ []
    → nat_le count (free_runs v.state o.0) ≡ false → u ≡ v → KeepsPool u.state start more
none_keeps v u start es more e o count k is_event is_reply is few so =
    goes_on v.state u.state start es more e (PoolTake o count) NoFrames k is_event is_reply is
    (only_so _ _ (lt-ltb (free_runs v.state o.0) count (leb-false count (free_runs v.state o.0) few)) ∙ ap (λ w. Some w.state) (sym so))

pub give_keeps : (v u : PoolFramesValue) (start : PoolState) (es more : List Entry) (e : Entry) (o : Order) (runs : List Pfn)
    → KeepsPool v.state start es → e.event ≡ PoolGive o runs → e.reply ≡ Ok → more ≡ es ++ e ∷ []
    → IsTrue (can_give v.state o.0 (firsts runs)) → u ≡ with_disowned runs v → KeepsPool u.state start more
give_keeps v u start es more e o runs k is_event is_reply is can so =
    goes_on v.state u.state start es more e (PoolGive o runs) Ok k is_event is_reply is (only_so _ _ can ∙ ap (λ w. Some w.state) (sym so))

pub mark_keeps : (v u : PoolFramesValue) (start : PoolState) (es more : List Entry) (e : Entry) (o : Order) (runs : List Pfn)
    → KeepsPool v.state start es → e.event ≡ PoolMark o runs → e.reply ≡ Ok → more ≡ es ++ e ∷ []
    → IsTrue (can_give v.state o.0 (firsts runs)) → u ≡ with_pinned o.0 runs v → KeepsPool u.state start more
mark_keeps v u start es more e o runs k is_event is_reply is can so =
    goes_on v.state u.state start es more e (PoolMark o runs) Ok k is_event is_reply is (only_so _ _ can ∙ ap (λ w. Some w.state) (sym so))

pub unmark_keeps : (v u : PoolFramesValue) (start : PoolState) (es more : List Entry) (e : Entry) (o : Order) (runs : List Pfn)
    → KeepsPool v.state start es → e.event ≡ PoolUnmark o runs → e.reply ≡ Ok → more ≡ es ++ e ∷ []
    → IsTrue (can_unmark v.state o.0 (firsts runs)) → u ≡ with_unpinned o.0 runs v → KeepsPool u.state start more
unmark_keeps v u start es more e o runs k is_event is_reply is can so =
    goes_on v.state u.state start es more e (PoolUnmark o runs) Ok k is_event is_reply is (only_so _ _ can ∙ ap (λ w. Some w.state) (sym so))

-- as many runs are taken as were asked for
pub taken_count : (s : PoolState) (o count : ℕ) (runs : List Pfn) → IsTrue (can_take s o count (firsts runs)) → length runs ≡ count
taken_count s o count runs can =
    let a = and_parts (length (firsts runs) == count && are_distinct (firsts runs)) _ can in
    let b = and_parts (length (firsts runs) == count) (are_distinct (firsts runs)) a.0 in
    sym (length-map runs (λ r. r.0)) ∙ eqb-true _ _ b.0

-- the folios of runs that were taken are at the home and of the order
pub zeroed_at_home : (home : HomeId) (order : Order) (runs : List Pfn) → All (λ f. f.home ≡ home) (map (zeroed_run home order) runs)
unfolding zeroed_run
zeroed_at_home home order runs = All-map (λ f. f.home ≡ home) (zeroed_run home order) runs (λ k d h. refl)

pub zeroed_of_order : (home : HomeId) (order : Order) (runs : List Pfn) → All (λ f. f.order ≡ order) (map (zeroed_run home order) runs)
unfolding zeroed_run
zeroed_of_order home order runs = All-map (λ f. f.order ≡ order) (zeroed_run home order) runs (λ k d h. refl)
