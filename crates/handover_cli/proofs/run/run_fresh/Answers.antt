-- A fresh script begins on a machine of its shape that is switched on, and where there is none nothing is written.
use Rattle.std.proofs.Common.{refl}
use Rattle.ho_world.specs.World.{cold}
use Rattle.handover_cli.proofs.Begins.{cold_begins}
use Rattle.handover_cli.proofs.ImagesMade.{no_asks}
use Rattle.handover_cli.proofs.Starts.{on_start}
use Rattle.handover_cli.proofs.Written.{none_written}
use Rattle.handover_cli.proofs.run.run_fresh.Goals as goal

pub run_blocks-requires-clause-begins : goal.run_blocks-requires-clause-begins
run_blocks-requires-clause-begins g c =
    let of = c.in-Ok.ensures in
    (cold c.in-Some.shape, cold_begins c.in-Some.shape c.as_slice.result.now c.in-Ok.kernel of.number of.begun of.histories of.labels of.base of.updates)

pub returns-in-Ok-clause-legal : goal.returns-in-Ok-clause-legal
returns-in-Ok-clause-legal g c = λ h.
    let of = c.in-Ok.ensures in
    on_start _ _ _ (cold c.in-Some.shape) c.as_slice.result.now (c.in-Some.shape, c.in-Some.is, refl) c.as_slice.ensures
    (c.run_blocks.ensures.legal h (cold c.in-Some.shape) (cold_begins c.in-Some.shape c.as_slice.result.now c.in-Ok.kernel of.number of.begun of.histories of.labels of.base of.updates))

pub returns-in-Ok-clause-memory : goal.returns-in-Ok-clause-memory
returns-in-Ok-clause-memory g c = λ h.
    let of = c.in-Ok.ensures in
    on_start _ _ _ (cold c.in-Some.shape) c.as_slice.result.now (c.in-Some.shape, c.in-Some.is, refl) c.as_slice.ensures
    (c.run_blocks.ensures.memory h (cold c.in-Some.shape) (cold_begins c.in-Some.shape c.as_slice.result.now c.in-Ok.kernel of.number of.begun of.histories of.labels of.base of.updates))

pub returns-in-Ok-clause-part : goal.returns-in-Ok-clause-part
returns-in-Ok-clause-part g c = λ h.
    let of = c.in-Ok.ensures in
    on_start _ _ _ (cold c.in-Some.shape) c.as_slice.result.now (c.in-Some.shape, c.in-Some.is, refl) c.as_slice.ensures
    (c.run_blocks.ensures.part h (cold c.in-Some.shape) (cold_begins c.in-Some.shape c.as_slice.result.now c.in-Ok.kernel of.number of.begun of.histories of.labels of.base of.updates))

pub returns-clause-memory : goal.returns-clause-memory
returns-clause-memory g c = λ _. record { start = cold c.in-Some.shape; begins = (c.in-Some.shape, c.in-Some.is, refl); holds = none_written _ _ _ _ }

pub returns-clause-asked : goal.returns-clause-asked
returns-clause-asked g c = no_asks _ _
