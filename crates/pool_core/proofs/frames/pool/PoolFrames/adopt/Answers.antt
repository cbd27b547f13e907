use Rattle.std.proofs.Common.{◌++◌, ◌∙◌, ap}
use Rattle.pool_core.proofs.PoolAdopts.{all_out, all_reserve, all_begin, adopt_home, adopt_keeps, adopt_value, adopted_each}
use Rattle.pool_core.proofs.frames.pool.PoolFrames.adopt.Goals as goal

pub take_all-requires-clause-home : goal.take_all-requires-clause-home
take_all-requires-clause-home c = all_out c.args.shape c.args.frames c.in-Ok.buddy c.in-Ok-new.marks c.count-n.result c.in-Ok-no_tags.tags.items c.args.runs.now c.requires.home c.requires.count c.count-n.ensures.value c.count-n.ensures.home c.in-Ok-new.ensures c.in-Ok-no_tags.ensures c.in-Ok.ensures c.requires.free

pub reserve_all-requires : goal.reserve_all-requires
reserve_all-requires c = all_reserve c.args.shape c.args.frames c.in-Ok.buddy c.in-Ok-new.marks c.count-n.result c.in-Ok-no_tags.tags.items c.args.runs.now c.requires.home c.requires.count c.count-n.ensures.value c.count-n.ensures.home c.in-Ok-new.ensures c.in-Ok-no_tags.ensures c.in-Ok.ensures c.requires.free

pub tag_all-requires : goal.tag_all-requires
tag_all-requires c = all_begin c.args.shape c.args.frames c.in-Ok.buddy c.in-Ok-new.marks c.count-n.result c.in-Ok-no_tags.tags.items c.args.runs.now c.requires.home c.requires.count c.count-n.ensures.value c.count-n.ensures.home c.in-Ok-new.ensures c.in-Ok-no_tags.ensures c.in-Ok.ensures c.requires.free

pub invariant_of-result : goal.invariant_of-result
invariant_of-result c = adopt_home c.args.shape c.args.frames c.in-Ok.buddy c.in-Ok-new.marks c.count-n.result c.in-Ok-no_tags.tags.items c.args.runs.now c.requires.home c.requires.count c.count-n.ensures.value c.count-n.ensures.home c.in-Ok-new.ensures c.in-Ok-no_tags.ensures c.in-Ok.ensures c.requires.free c.take_all.new.frames c.reserve_all.new.buddy c.tag_all.new.tags.items c.take_all.ensures.frames c.reserve_all.ensures c.tag_all.ensures

pub invariant_of-result-2 : goal.invariant_of-result-2
invariant_of-result-2 c = adopt_keeps c.args.shape c.args.frames c.in-Ok.buddy c.in-Ok-new.marks c.count-n.result c.in-Ok-no_tags.tags.items c.args.runs.now c.requires.home c.requires.count c.count-n.ensures.value c.count-n.ensures.home c.in-Ok-new.ensures c.in-Ok-no_tags.ensures c.in-Ok.ensures c.requires.free c.take_all.new.frames c.reserve_all.new.buddy c.tag_all.new.tags.items c.take_all.ensures.frames c.reserve_all.ensures c.tag_all.ensures

pub returns-clause-value : goal.returns-clause-value
returns-clause-value c = adopt_value c.args.shape c.args.frames c.in-Ok.buddy c.in-Ok-new.marks c.count-n.result c.in-Ok-no_tags.tags.items c.args.runs.now c.requires.home c.requires.count c.count-n.ensures.value c.count-n.ensures.home c.in-Ok-new.ensures c.in-Ok-no_tags.ensures c.in-Ok.ensures c.requires.free c.take_all.new.frames c.reserve_all.new.buddy c.tag_all.new.tags.items c.take_all.ensures.frames c.reserve_all.ensures c.tag_all.ensures

pub returns-clause-folios : goal.returns-clause-folios
returns-clause-folios c =
    c.take_all.ensures.folios
    ∙ ap (λ fs. c.args.out.now.items ++ fs) (adopted_each c.args.frames c.args.runs.now (all_out c.args.shape c.args.frames c.in-Ok.buddy c.in-Ok-new.marks c.count-n.result c.in-Ok-no_tags.tags.items c.args.runs.now c.requires.home c.requires.count c.count-n.ensures.value c.count-n.ensures.home c.in-Ok-new.ensures c.in-Ok-no_tags.ensures c.in-Ok.ensures c.requires.free) c.requires.free.apart)
