use Rattle.std.proofs.Common.{◌≡◌, length, get_or, ap, arith}
use Rattle.kho_records.proofs.Shown.{bounds_all}
use Rattle.kho_records.proofs.carrying.carried_bounds.Goals as goal

pub returns : goal.returns
returns c =
    let four : length c.args.given.now ≡ 4 = omega arith in
    bounds_all c.args.given.now (get_or c.args.given.now 0 c.index-given-0.result) (get_or c.args.given.now 1 c.index-given-1.result) (get_or c.args.given.now 2 c.index-given-2.result)
    (get_or c.args.given.now 3 c.index-given-3.result) c.new-bounds.result.items c.add_bound.new.bounds.items c.add_bound-2.new.bounds.items c.add_bound-3.new.bounds.items
    c.add_bound-4.new.bounds.items c.from_vec.result four (ap (get_or c.args.given.now 0) c.index-given-0.is) (ap (get_or c.args.given.now 1) c.index-given-1.is)
    (ap (get_or c.args.given.now 2) c.index-given-2.is) (ap (get_or c.args.given.now 3) c.index-given-3.is) c.new-bounds.ensures.items c.in_ok-add_bound.ensures c.in_ok-add_bound-2.ensures
    c.in_ok-add_bound-3.ensures c.in_ok-add_bound-4.ensures c.from_vec.ensures
