use Rattle.std.proofs.Common.{◌≡◌, length, arith}
use Rattle.machine_core.proofs.Gathered.{PageHome, folio_stays}
use Rattle.machine_core.proofs.MoreHome.{one_came, all_came, each_at, all_but_last}
use Rattle.machine_core.proofs.gathering.give_folios.Goals as goal

pub loop-folio-preserved : goal.loop-folio-preserved
loop-folio-preserved c = (
  one_came PageHome folio_stays c.args.folios.items c.loop-folio.folios.items c.pop.new.self.items c.in-Some.folio c.args.frames.now c.loop-folio.frames c.give_folio.new.frames
      c.in-Some.ensures.items c.loop-folio.invariant.0 c.give_folio.ensures.frames c.give_folio.ensures.page,
  all_but_last (λ f. f.home ≡ c.args.frames.now.home) c.loop-folio.folios.items c.pop.new.self.items c.in-Some.folio c.in-Some.ensures.items c.loop-folio.invariant.1,
)

pub returns-clause-pages : goal.returns-clause-pages
returns-clause-pages c =
    let none : length c.loop-folio.folios.items ≡ 0 = omega (arith, c.in_default.ensures.cases.0, c.loop-folio.folios.ok) in
    each_at PageHome c.args.folios.items c.loop-folio.frames (all_came PageHome c.args.folios.items c.loop-folio.folios.items c.args.frames.now c.loop-folio.frames none c.loop-folio.invariant.0)
