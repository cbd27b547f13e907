use Rattle.std.proofs.Common.{◌≡◌, ◌+◌, ◌^◌, ◌<◌, length, get_or, rules}
use Rattle.buddy_pages.proofs.Counted.{counted_put, count_put_fits}
use Rattle.buddy_pages.proofs.page_map.PageMap.put.Goals as goal

pub overflow_add-self : goal.overflow_add-self
overflow_add-self c =
    let is : get_or c.self.inside.tags.items c.args.frame 0 ≡ 0 = search rules in
    let lt : c.args.frame < length c.self.inside.tags.items = search rules in
    let fits : get_or c.self.inside.blocks c.args.order 0 + 1 < 2 ^ 32 = count_put_fits c.self.inside.tags.items c.self.inside.blocks c.args.frame c.args.order c.self.invariant lt c.requires.order is in
    search rules

pub invariant_of-self : goal.invariant_of-self
invariant_of-self c =
    let is : get_or c.self.inside.tags.items c.args.frame 0 ≡ 0 = search rules in
    let lt : c.args.frame < length c.self.inside.tags.items = search rules in
    counted_put c.self.inside.tags.items c.self.inside.blocks c.args.frame c.args.order c.self.invariant lt c.requires.order is
