use Rattle.std.proofs.Common.{◌≡◌, ◌+◌, ◌<◌, length, get_or, rules}
use Rattle.buddy_pages.proofs.Counted.{counted_clear, count_clear_pos}
use Rattle.buddy_pages.proofs.Covered.{tag_below}
use Rattle.buddy_pages.proofs.page_map.PageMap.clear.Goals as goal

pub overflow_sub-self : goal.overflow_sub-self
overflow_sub-self c =
    let is : get_or c.self.inside.tags.items c.args.frame 0 ≡ c.args.order + 1 = search rules in
    let lt : c.args.frame < length c.self.inside.tags.items = tag_below c.self.inside.tags.items c.args.frame c.args.order is in
    count_clear_pos c.self.inside.tags.items c.self.inside.blocks c.args.frame c.args.order c.self.invariant lt c.requires.order is

pub invariant_of-self : goal.invariant_of-self
invariant_of-self c =
    let is : get_or c.self.inside.tags.items c.args.frame 0 ≡ c.args.order + 1 = search rules in
    let lt : c.args.frame < length c.self.inside.tags.items = tag_below c.self.inside.tags.items c.args.frame c.args.order is in
    counted_clear c.self.inside.tags.items c.self.inside.blocks c.args.frame c.args.order c.self.invariant lt c.requires.order is
