use Rattle.sound_histories.proofs.Chains as laws
use Rattle.sound_histories.proofs.entries_are_acts.Goals as goal

pub returns : goal.returns
returns c = laws.entries_are_acts
