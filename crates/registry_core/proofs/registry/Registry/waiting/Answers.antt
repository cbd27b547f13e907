use Rattle.std.proofs.Common.{arith}
use Rattle.registry_core.proofs.WaitingNames.{waiting_keeps, waiting_shown, waiting_keys}
use Rattle.registry_core.proofs.registry.Registry.waiting.Goals as goal

pub invariant_of-result : goal.invariant_of-result
invariant_of-result c =
    rw (c.of.ensures, c.new.ensures.items)
    (waiting_keeps c.args.names.now _ c.in_ok-names.ensures.entries _ _ c.args.files c.in_ok-names.ensures.unique c.in_ok-taken.ensures c.in_ok-files.ensures c.requires.within
    (omega (arith, c.requires.few)))

pub returns-clause-start : goal.returns-clause-start
returns-clause-start c = rw c.of.ensures (waiting_shown c.args.names.now _ c.in_ok-names.ensures.entries c.in_ok-taken.taken _ c.args.files c.in_ok-files.ensures c.requires.within)

pub returns-clause-ready : goal.returns-clause-ready
returns-clause-ready c = waiting_keys c.args.names.now _ c.in_ok-names.ensures.entries
