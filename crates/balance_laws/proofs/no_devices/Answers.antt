use Rattle.balance_laws.proofs.Refusing as laws
use Rattle.balance_laws.proofs.no_devices.Goals as goal

pub returns : goal.returns
returns c = laws.no_devices
