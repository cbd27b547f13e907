use Rattle.balance_laws.proofs.EachCommand as laws
use Rattle.balance_laws.proofs.each_command_keeps.Goals as goal

pub returns : goal.returns
returns c = laws.each_keeps
