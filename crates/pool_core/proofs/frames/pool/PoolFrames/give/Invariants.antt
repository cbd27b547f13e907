use Rattle.std.proofs.Common.{◌≡◌, vec_len, true}
use Rattle.std.specs.List.{All}
use Rattle.ho_events.specs.Lists.{firsts}
use Rattle.ho_events.specs.Pool.{can_give}
use Rattle.phys_frames.specs.Memory.{first_frames}
use Rattle.pool_core.specs.PoolFramesValues.{with_disowned}
use Rattle.pool_core.proofs.frames.pool.PoolFrames.give.Given as goal

-- the folios that are left lead from here to what all lead to from the first
abbrev pub invariant-loop-folio : goal.invariant-loop-folio
invariant-loop-folio l =
    (with_disowned (first_frames l.folios.items) l.self ≡ with_disowned (first_frames l.initial.folios.items) l.initial.self)
    × (can_give l.self.state l.fn.order.0 (firsts (first_frames l.folios.items)) ≡ true)
    × (l.self.home ≡ l.initial.self.home)
    × All (λ f. f.home ≡ l.initial.self.home) l.folios.items
    × All (λ f. f.order ≡ l.fn.order) l.folios.items

abbrev pub decreases-loop-folio : goal.decreases-loop-folio
decreases-loop-folio l = vec_len l.folios
