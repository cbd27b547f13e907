use Rattle.std.proofs.Common.{◌≡◌, ◌<◌}
use Rattle.frame_tests.proofs.buddies.frames_merge_back_in_any_order.Given as goal

abbrev pub invariant-loop : goal.invariant-loop
invariant-loop g l = record { same : l.free.items ≡ l.buddy; small : l.frame < 64 }
