use Rattle.std.proofs.Common.{refl}
use Rattle.records_bench.proofs.RoomSteps.{room}
use Rattle.records_bench.proofs.room.has_room.Goals as goal

pub returns : goal.returns
returns c = λ h.
    room c.args.carried.now c.args.folios.now (c.if-not-can_carry.ensures.can refl) (c.if-not-can_carry.ensures.bounds refl) (c.if-not-has_count.ensures refl)
    (c.are_in_order.ensures h)
