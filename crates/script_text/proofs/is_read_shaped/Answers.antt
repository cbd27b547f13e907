-- A shape comes with scratch lines alone.
use Rattle.script_text.proofs.Shaped.{shaped_script}
use Rattle.script_text.proofs.is_read_shaped.Goals as goal

pub returns : goal.returns
returns c = shaped_script
