use Rattle.std.proofs.Common.{◌≡◌, ◌+◌, ◌*◌, ◌≤◌, length, rules, arith}
use Rattle.ho_base.specs.declared.limits.TheConstants.{PAGE_BYTES}
use Rattle.image_file.specs.Loaded.{IsMiscount, IsOver}
use Rattle.image_file.proofs.Loading.{loaded_none, loaded_more, loaded_all, cut_first, over_first}
use Rattle.image_file.proofs.Wrote.{on_ok, if_err}
use Rattle.image_file.proofs.loader.load_pages.Goals as goal

pub loop-done-init : goal.loop-done-init
loop-done-init g c = record { within = omega arith; so_far = loaded_none _ _ _ c.requires.pages; counts = omega arith }

pub returns-in-Err-clause-refused : goal.returns-in-Err-clause-refused
returns-in-Err-clause-refused g c =
    let within : c.loop-done.done + c.min-many.result ≤ c.args.count = omega (arith, c.loop-done-test.true, c.min-many.ensures) in
    cut_first _ _ c.min-many.result _ _ _ c.in-Err.error c.loop-done.invariant.so_far within c.in-Err.ensures.cut

pub loop-done-preserved : goal.loop-done-preserved
loop-done-preserved g c =
    let many = c.min-many.result in
    let within : c.loop-done.done + many ≤ c.args.count = omega (arith, c.loop-done-test.true, c.min-many.ensures) in
    let size : length c.load_block.new.block ≡ many * PAGE_BYTES = search rules in
    record {
      within = within;
      so_far = loaded_more _ _ _ _ _ _ c.loop-done.frames.pages c.load_block.new.frames.pages c.load_block.new.block c.loop-done.invariant.so_far within size c.in-Ok.ensures.taken c.in-Ok.ensures.filled;
      counts = omega (arith, c.loop-done.invariant.counts, c.in-Ok.ensures.counts);
    }

pub returns-clause-all : goal.returns-clause-all
returns-clause-all g c =
    let past : c.args.count ≤ c.loop-done.done = omega (arith, c.loop-done-test.false) in
    on_ok c.see_end.result (loaded_all _ _ _ _ c.loop-done.frames.pages c.loop-done.invariant.so_far past) c.see_end.ensures.end

pub returns-clause-refused : goal.returns-clause-refused
returns-clause-refused g c =
    let all : c.loop-done.done ≡ c.args.count = omega (arith, c.loop-done-test.false, c.loop-done.invariant.within) in
    if_err (IsOver (g.S.Source.left c.loop-done.src)) (IsMiscount (g.S.Source.left c.args.src.now) (c.args.count * PAGE_BYTES))
    (λ e h. over_first _ _ _ _ c.loop-done.frames.pages e c.loop-done.invariant.so_far all h) c.see_end.result c.see_end.ensures.over
