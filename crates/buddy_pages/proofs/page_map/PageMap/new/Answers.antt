use Rattle.std.proofs.Common.{◌≡◌, ◌^◌, ◌<◌, List, ℕ, replicate, subst, sym, rules}
use Rattle.buddy_pages.specs.Blocks.{IsCounted}
use Rattle.buddy_pages.proofs.Counted.{counted_none}
use Rattle.buddy_pages.proofs.page_map.PageMap.new.Goals as goal

pub invariant_of-result : goal.invariant_of-result
invariant_of-result c =
    let is : c.in_ok-tags.tags.items ≡ replicate c.args.frames 0 = search rules in
    let few : c.args.frames < 2 ^ 32 = search rules in
    subst (λ (z : List ℕ). IsCounted z (replicate 10 0)) (sym is) (counted_none c.args.frames few)
