use Rattle.std.proofs.Common.{◌≡◌, map, ap, sym, refl, ◌∙◌}
use Rattle.std.specs.List.{insert}
use Rattle.registry_core.proofs.OutgoingNames.{put_there}
use Rattle.registry_core.specs.Outgoing.{smaller_names, with_number}
use Rattle.registry_core.proofs.outgoing.put_name.Goals as goal

pub returns : goal.returns
returns c =
    let items : c.insert.new.self.items ≡ insert c.args.listed.now.items (smaller_names c.args.name c.args.listed.now.items) (c.args.name, c.in-Some.slot) =
    c.insert.ensures.items ∙ rw (c.unwrap.ensures, c.place_of-at.ensures.place, c.as_slice.ensures.value, c.reserve.ensures.items) refl in
    rw c.in-Some.is (ap (map with_number) items ∙ sym (put_there c.args.name c.in-Some.slot c.args.listed.now.items c.requires.new))
