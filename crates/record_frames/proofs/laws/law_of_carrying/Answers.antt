use Rattle.record_frames.proofs.Once.{one_state, no_state, one_place}
use Rattle.record_frames.proofs.laws.law_of_carrying.Goals as goal

pub returns-clause-one_state : goal.returns-clause-one_state
returns-clause-one_state c = one_state (record { one = c.law_of_reading.ensures.one_tree; none = c.law_of_reading.ensures.broken; first = c.law_of_reading.ensures.one_place })

pub returns-clause-no_state : goal.returns-clause-no_state
returns-clause-no_state c = no_state (record { one = c.law_of_reading.ensures.one_tree; none = c.law_of_reading.ensures.broken; first = c.law_of_reading.ensures.one_place })

pub returns-clause-one_place : goal.returns-clause-one_place
returns-clause-one_place c = one_place (record { one = c.law_of_reading.ensures.one_tree; none = c.law_of_reading.ensures.broken; first = c.law_of_reading.ensures.one_place })
