-- The pool: which runs of frames are owned, and which frames are pinned.
use Rattle.std.specs.Prelude.{◌≡◌, ℕ, ◌+◌, ◌-◌, ◌*◌, ◌/◌, ◌%◌, ◌^◌, Bool, true, false, not, ◌&&◌, ◌==◌, nat_lt, nat_le, List, [], ◌∷◌, ◌++◌, map, length, count_by}
use Rattle.std.specs.Prelude.{Option, None, Some}
use Rattle.std.specs.List.{list_any, list_all}
use Rattle.std.specs.Ordering.{nat_cmp}
use Rattle.std.specs.FinMap as finmap
use Rattle.std.specs.FinSet as finset
use Rattle.ho_base.specs.declared.numbers.Pfn.{Pfn}
use Rattle.ho_base.specs.ShapeRule.{Layout, in_scratch}
use Rattle.ho_events.specs.Lists.{only, upto, are_distinct, firsts, is_just}
use Rattle.ho_events.specs.declared.event.Event.{Event}
use Rattle.ho_events.specs.declared.event.Event.TheVariants.{PoolTake, PoolGive, PoolMark, PoolUnmark}
use Rattle.ho_events.specs.declared.reply.Reply.{Reply}
use Rattle.ho_events.specs.declared.reply.Reply.TheVariants.{Ok, Got, NoFrames}

-- the machine's shape; the owned runs, from the first frame to the order; the pinned frames
pub record PoolState : Type 0 where
  pub shape : Layout
  pub owned : finmap.FinMap nat_cmp ℕ
  pub pinned : finset.FinSet nat_cmp

-- nothing is owned, and nothing is pinned
abbrev pub cold_pool : Layout → PoolState
cold_pool shape = record { shape = shape; owned = finmap.empty; pinned = finset.empty }

-- the frame at which the run of an order begins that holds frame p
abbrev pub run_start : ℕ → ℕ → ℕ
run_start o p = p - p % 2 ^ o

-- an owned run of some order holds the frame
abbrev pub is_owned : PoolState → ℕ → Bool
is_owned s p = list_any (λ o. is_just o (finmap.get s.owned (run_start o p))) (upto 10)

-- a frame is free where it is none of: frame 0, past the last frame, in a scratch area, owned
abbrev pub is_free : PoolState → ℕ → Bool
is_free s p = nat_lt 0 p && nat_lt p s.shape.frames && not (in_scratch s.shape.scratch p) && not (is_owned s p)

-- the frames of a run
abbrev pub frames_of : ℕ → ℕ → List ℕ
frames_of o p = map (λ i. p + i) (upto (2 ^ o))

-- a run begins at a multiple of its length, and all its frames are free
abbrev pub is_free_run : PoolState → ℕ → ℕ → Bool
is_free_run s o p = p % 2 ^ o == 0 && list_all (is_free s) (frames_of o p)

-- how many aligned runs of an order are wholly free
abbrev pub free_runs : PoolState → ℕ → ℕ
free_runs s o = count_by (λ k. is_free_run s o (k * 2 ^ o)) (upto (s.shape.frames / 2 ^ o))

-- the run is owned at this order
abbrev pub is_owned_run : PoolState → ℕ → ℕ → Bool
is_owned_run s o p = is_just o (finmap.get s.owned p)

-- no frame of the run is pinned;  each frame of the run is
abbrev pub is_unpinned_run : PoolState → ℕ → ℕ → Bool
is_unpinned_run s o p = not (list_any (finset.contains s.pinned) (frames_of o p))

abbrev pub is_pinned_run : PoolState → ℕ → ℕ → Bool
is_pinned_run s o p = list_all (finset.contains s.pinned) (frames_of o p)

-- the owned runs with these too;  without these
abbrev pub own : ℕ → List ℕ → finmap.FinMap nat_cmp ℕ → finmap.FinMap nat_cmp ℕ
own o [] owned = owned
own o (p ∷ ps) owned = own o ps (finmap.insert owned p o)

abbrev pub disown : List ℕ → finmap.FinMap nat_cmp ℕ → finmap.FinMap nat_cmp ℕ
disown [] owned = owned
disown (p ∷ ps) owned = disown ps (finmap.remove owned p)

-- a set with more frames;  with fewer
abbrev pub with_frames : List ℕ → finset.FinSet nat_cmp → finset.FinSet nat_cmp
with_frames [] set = set
with_frames (p ∷ ps) set = with_frames ps (finset.insert set p)

abbrev pub without_frames : List ℕ → finset.FinSet nat_cmp → finset.FinSet nat_cmp
without_frames [] set = set
without_frames (p ∷ ps) set = without_frames ps (finset.remove set p)

-- the pinned frames with those of more runs;  with those of fewer
abbrev pub pin_runs : ℕ → List ℕ → finset.FinSet nat_cmp → finset.FinSet nat_cmp
pin_runs o [] pinned = pinned
pin_runs o (p ∷ ps) pinned = pin_runs o ps (with_frames (frames_of o p) pinned)

abbrev pub unpin_runs : ℕ → List ℕ → finset.FinSet nat_cmp → finset.FinSet nat_cmp
unpin_runs o [] pinned = pinned
unpin_runs o (p ∷ ps) pinned = unpin_runs o ps (without_frames (frames_of o p) pinned)

-- these are as many different runs as were asked for, and each is wholly free
abbrev pub can_take : PoolState → ℕ → ℕ → List ℕ → Bool
can_take s o count ps = length ps == count && are_distinct ps && list_all (is_free_run s o) ps

-- these are different runs, each owned at this order and not pinned
abbrev pub can_give : PoolState → ℕ → List ℕ → Bool
can_give s o ps = are_distinct ps && list_all (λ p. is_owned_run s o p && is_unpinned_run s o p) ps

-- these are different runs, each owned at this order and pinned
abbrev pub can_unmark : PoolState → ℕ → List ℕ → Bool
can_unmark s o ps = are_distinct ps && list_all (λ p. is_owned_run s o p && is_pinned_run s o p) ps

-- `take` gives any runs that are wholly free, and `NoFrames` exactly where there are too few;
-- `give` ends the ownership of runs that aren't pinned; `mark` pins owned runs, and `unmark` lets them go
abbrev pub pool_step : PoolState → Event → Reply → Option PoolState
pool_step s (PoolTake o count) (Got runs) =
    only (can_take s o.0 count (firsts runs)) (record s { owned = own o.0 (firsts runs) s.owned })
pool_step s (PoolTake o count) NoFrames = only (nat_lt (free_runs s o.0) count) s
pool_step s (PoolGive o runs) Ok = only (can_give s o.0 (firsts runs)) (record s { owned = disown (firsts runs) s.owned })
pool_step s (PoolMark o runs) Ok =
    only (can_give s o.0 (firsts runs)) (record s { pinned = pin_runs o.0 (firsts runs) s.pinned })
pool_step s (PoolUnmark o runs) Ok =
    only (can_unmark s o.0 (firsts runs)) (record s { pinned = unpin_runs o.0 (firsts runs) s.pinned })
pool_step s event reply = None
