-- Each line keeps one kernel and one agent.
use Rattle.script_text.proofs.Single.{single_script}
use Rattle.script_text.proofs.is_read_single.Goals as goal

pub returns : goal.returns
returns c = single_script
