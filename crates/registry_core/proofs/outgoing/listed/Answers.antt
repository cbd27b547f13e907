use Rattle.std.proofs.Common.{ap, sym, ◌∙◌, arith}
use Rattle.std.specs.Prelude.{option_map}
use Rattle.std.specs.Map.Iter.{deref_pair}
use Rattle.registry_core.proofs.OutgoingNames.{none_listed, listed_new, listed_more}
use Rattle.registry_core.proofs.outgoing.listed.Goals as goal

pub loop-i-init : goal.loop-i-init
loop-i-init c = (omega (arith, c.len-i.ensures.len), none_listed c.args.names.now.entries _ _ c.len-i.ensures.len c.new-listed.ensures.items, c.len-i.ensures.unique)

pub put_name-requires : goal.put_name-requires
put_name-requires c = record {
  new = listed_new c.args.names.now.entries _ _ (omega (arith, c.loop-i-test.true)) _ (sym c.get_index.ensures.entry ∙ ap (option_map deref_pair) c.unwrap.ensures) _ c.loop-i.invariant.1 c.loop-i.invariant.2;
}

pub loop-i-preserved : goal.loop-i-preserved
loop-i-preserved c = (
  omega (arith, c.loop-i.invariant.0),
  listed_more c.args.names.now.entries _ _ (omega (arith, c.loop-i-test.true)) _ (sym c.get_index.ensures.entry ∙ ap (option_map deref_pair) c.unwrap.ensures) _ c.loop-i.invariant.1 _ c.in_ok-put_name.ensures,
  c.loop-i.invariant.2,
)
