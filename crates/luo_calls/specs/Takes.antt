-- What a take of runs comes to.
use Rattle.std.specs.Prelude.{ℕ, List, [], ◌∷◌, Option, MatchOption}
use Rattle.std.specs.declared.snapshot.Snapshot.{Snapshot}
use Rattle.ho_base.specs.Objects.{pool_no}
use Rattle.ho_base.specs.declared.items.Items.{Items}
use Rattle.ho_base.specs.declared.numbers.Order.{Order}
use Rattle.ho_base.specs.declared.numbers.Pfn.{Pfn}
use Rattle.ho_events.specs.declared.event.Event.TheVariants.{PoolTake}
use Rattle.ho_events.specs.declared.reply.Reply.{Reply}
use Rattle.ho_events.specs.declared.reply.Reply.TheVariants.{Got, NoFrames}
use Rattle.ho_events.specs.declared.slip.At.{At}
use Rattle.ho_world.specs.Acts.{Claim}
use Rattle.ho_world.specs.Logs.{deed_at, AreClaimed}
use Rattle.machine_core.specs.Agents.{Agent, begun}
use Rattle.machine_core.specs.Turns.{Goes}

-- the take of so many runs is answered so, and whatever is known of the objects in hand may be read at it
abbrev pub TookWith : Order → ℕ → At → At → Agent → Agent → Reply → Type 0
TookWith order count at at' a a' reply =
    (claims : List Claim) → AreClaimed (begun a) a.hands claims → Goes (deed_at pool_no claims (PoolTake order count) reply ∷ []) at at' a a'

-- the runs were taken, or too few are free
abbrev pub TookRuns : Order → ℕ → At → At → Agent → Agent → Option (Snapshot (Items Pfn)) → Type 0
TookRuns order count at at' a a' got = MatchOption got (TookWith order count at at' a a' NoFrames) (λ runs. TookWith order count at at' a a' (Got runs.value))
