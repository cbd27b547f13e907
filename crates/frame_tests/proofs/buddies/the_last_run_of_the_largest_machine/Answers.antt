use Rattle.std.proofs.Common.{rules}
use Rattle.frame_tests.proofs.Single.{last_run, last_within, last_taken}
use Rattle.frame_tests.proofs.buddies.the_last_run_of_the_largest_machine.Goals as goal

pub reserve-requires-clause-run : goal.reserve-requires-clause-run
reserve-requires-clause-run g c = last_run c.in_ok-buddy.buddy c.in_ok-buddy.ensures

pub give-requires-clause-within : goal.give-requires-clause-within
give-requires-clause-within g c = last_within c.in_ok-buddy.buddy c.reserve.new.self c.take.new.self c.in_ok-buddy.ensures c.reserve.ensures (search rules)

pub give-requires-clause-taken : goal.give-requires-clause-taken
give-requires-clause-taken g c = last_taken c.in_ok-buddy.buddy c.reserve.new.self c.take.new.self c.in_ok-buddy.ensures c.reserve.ensures (search rules)
