use Rattle.std.proofs.Common.{ap, ◌∙◌, slice_index_or}
use Rattle.ho_events.specs.Lists.{same_bytes}
use Rattle.indexmap.proofs.CallerLemmas.{insert_entry-new}
use Rattle.indexmap.specs.IndexMap.{spare, insert_entry}
use Rattle.registry_core.proofs.WaitingNames.{slotted_more, next_new}
use Rattle.registry_core.specs.NameSlots.{waits_in}
use Rattle.registry_core.proofs.carried.slots_of.Goals as goal

pub loop-name-preserved : goal.loop-name-preserved
loop-name-preserved c =
    let names = c.args.names.now in
    let i = c.loop-name.name-index in
    let es = c.loop-name.slotted.entries in
    let slots = waits_in c.loop-name.slot in
    let name = c.name-item.result in
    let new = next_new names i c.loop-name.slot (spare c.loop-name.slotted) es name c.loop-name.invariant c.requires.distinct c.loop-name-test.true in
    slotted_more names i c.loop-name.slot (spare c.loop-name.slotted) es name c.loop-name.invariant c.requires.distinct c.loop-name-test.true
    c.insert.new.self.entries (spare c.insert.new.self)
    ((rw c.unwrap.ensures at c.insert.ensures.entries) ∙ ap (λ n. insert_entry same_bytes es n slots) c.name-item.is ∙ insert_entry-new same_bytes c.loop-name.slotted (slice_index_or names i name) slots new)
    c.insert.ensures.unique c.insert.ensures.spare
