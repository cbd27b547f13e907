use Rattle.std.proofs.Common.{rules, arith}
use Rattle.std.proofs.lemmas.Grind.{common_steps}
use Rattle.ho_io.proofs.Bytes.{take_whole}
use Rattle.ho_io.specs.Told.{with_item, behind, told_with, with_sink}
use Rattle.ho_io.proofs.mem_host.MemHostHost.TheImpl.Goals as goal

pub open-tells : goal.open-tells
unfolding with_item
open-tells c = search rules

pub put-tells : goal.put-tells
unfolding behind
put-tells c = grind (arith, common_steps, take_whole)

pub make-tells : goal.make-tells
unfolding with_item told_with
make-tells c = search rules

pub shut_src-tells : goal.shut_src-tells
shut_src-tells c = search rules

pub shut_dst-tells : goal.shut_dst-tells
unfolding with_sink
shut_dst-tells c = search rules
