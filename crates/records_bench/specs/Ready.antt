-- A state that can be written.
use Rattle.std.specs.Prelude.{IsTrue}
use Rattle.kho_laws.specs.Carrying.{can_be_carried}
use Rattle.kho_writer.specs.Folios.{MarksOwn}
use Rattle.records_bench.specs.declared.writing.Work.{Work}

-- it can be carried, and the tracker has its marks
pub record IsReady (w : Work) : Type 0 where
  pub can : IsTrue (can_be_carried w.carried)
  pub marks : MarksOwn w.carried w.tracker
