use Rattle.std.proofs.Common.{List, map, sym, subst}
use Rattle.std.specs.List.{IsDistinct}
use Rattle.ho_events.specs.Lists.{same_bytes}
use Rattle.record_frames.specs.Sheeted.{ram_of}
use Rattle.record_frames.specs.declared.carried.CarriedSession.{CarriedSession}
use Rattle.kexec_boot.specs.Waiting.{CanWait}
use Rattle.kexec_boot.proofs.CarriedParts.{can_wait, names_same}
use Rattle.kexec_boot.proofs.boots.begin.Goals as goal

pub make-requires-clause-wait : goal.make-requires-clause-wait
make-requires-clause-wait c = subst CanWait (sym c.as_slice.ensures) (can_wait (ram_of c.args.frames) c.args.carried c.requires.can)

pub make-requires-clause-distinct : goal.make-requires-clause-distinct
make-requires-clause-distinct c =
    subst (λ (ss : List CarriedSession). IsDistinct same_bytes (map (λ s. s.name) ss)) (sym c.as_slice.ensures)
    (subst (IsDistinct same_bytes) (names_same (ram_of c.args.frames) c.args.carried.sessions) c.requires.can.distinct)
