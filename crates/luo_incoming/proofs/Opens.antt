-- The sequences of `open`.
use Rattle.std.proofs.Common.{ℕ, List, [], ◌∷◌, ◌++◌, refl}
use Rattle.ho_base.specs.Objects.{registry_no, session_no}
use Rattle.ho_base.specs.declared.numbers.SlotNo.{SlotNo}
use Rattle.ho_events.specs.declared.command.Command.TheVariants as command
use Rattle.ho_events.specs.declared.event.Event.TheVariants.{RegOpen, SessionOpen}
use Rattle.ho_events.specs.declared.reply.Reply.{Reply}
use Rattle.ho_events.specs.declared.reply.Reply.TheVariants.{Ok, OkSlot, AlreadyOpen, NoSession}
use Rattle.ho_events.specs.declared.slip.At.{At}
use Rattle.ho_world.specs.Acts.{registry, session}
use Rattle.ho_world.specs.Logs.{Deed, deed_at, end_with}
use Rattle.ho_world.specs.Sequences.{Labels, OpenCame}
use Rattle.ho_world.specs.Sequences.Sessions.{OpenedIn, OpenRefused, open_acts}
use Rattle.machine_core.specs.Agents.{Agent}
use Rattle.machine_core.specs.Commands.{Comes}
use Rattle.machine_core.specs.Turns.{Goes}
use Rattle.luo_calls.specs.Doing.{AreWhole}
use Rattle.luo_calls.proofs.Chains.{then_goes}

-- the turn on the registry, and the one on the slot
abbrev pub asked : List ℕ → Reply → List Deed
asked name x = deed_at registry_no [] (RegOpen name) x ∷ []

abbrev pub opened_up : SlotNo → List ℕ → List Deed
opened_up slot name = deed_at (session_no slot.0) [] (SessionOpen name) Ok ∷ []

module _ (labels : Labels) (name : List ℕ) (at at1 at2 : At) (a a1 a2 : Agent) where
  pub refused_twice : Goes (asked name AlreadyOpen) at at1 a a1 → Goes (end_with AlreadyOpen ∷ []) at1 at2 a1 a2 → Comes labels labels (command.Open name) AlreadyOpen at at2 a a2
  refused_twice h k = record {
    outcome = OpenCame (OpenRefused AlreadyOpen);
    sequence = record { acts = registry (RegOpen name) AlreadyOpen ∷ []; reply = AlreadyOpen };
    is_one = refl;
    reply_is = refl;
    goes = then_goes _ _ at at1 at2 a a1 a2 h k;
    labels_are = refl;
  }

  pub refused_none : Goes (asked name NoSession) at at1 a a1 → Goes (end_with NoSession ∷ []) at1 at2 a1 a2 → Comes labels labels (command.Open name) NoSession at at2 a a2
  refused_none h k = record {
    outcome = OpenCame (OpenRefused NoSession);
    sequence = record { acts = registry (RegOpen name) NoSession ∷ []; reply = NoSession };
    is_one = refl;
    reply_is = refl;
    goes = then_goes _ _ at at1 at2 a a1 a2 h k;
    labels_are = refl;
  }

  pub opened : (at3 : At) (a3 : Agent) (slot : SlotNo) → Goes (asked name (OkSlot slot)) at at1 a a1 → Goes (opened_up slot name) at1 at2 a1 a2 → Goes (end_with Ok ∷ []) at2 at3 a2 a3 → Comes labels labels (command.Open name) Ok at at3 a a3
  opened at3 a3 slot h k l = record {
    outcome = OpenCame (OpenedIn slot);
    sequence = record { acts = registry (RegOpen name) (OkSlot slot) ∷ session slot [] (SessionOpen name) Ok ∷ []; reply = Ok };
    is_one = refl;
    reply_is = refl;
    goes = then_goes _ _ at at2 at3 a a2 a3 (then_goes _ _ at at1 at2 a a1 a2 h k) l;
    labels_are = refl;
  }

-- the deeds of its whole sequences
pub twice_whole : (name : List ℕ) → AreWhole (open_acts name) (asked name AlreadyOpen ++ end_with AlreadyOpen ∷ [])
twice_whole name = record {
  outcome = OpenRefused AlreadyOpen;
  sequence = record { acts = registry (RegOpen name) AlreadyOpen ∷ []; reply = AlreadyOpen };
  is_one = refl;
  deeds_are = refl;
}

pub none_whole : (name : List ℕ) → AreWhole (open_acts name) (asked name NoSession ++ end_with NoSession ∷ [])
none_whole name = record {
  outcome = OpenRefused NoSession;
  sequence = record { acts = registry (RegOpen name) NoSession ∷ []; reply = NoSession };
  is_one = refl;
  deeds_are = refl;
}

pub opened_whole : (name : List ℕ) (slot : SlotNo) → AreWhole (open_acts name) (asked name (OkSlot slot) ++ (opened_up slot name ++ end_with Ok ∷ []))
opened_whole name slot = record {
  outcome = OpenedIn slot;
  sequence = record { acts = registry (RegOpen name) (OkSlot slot) ∷ session slot [] (SessionOpen name) Ok ∷ []; reply = Ok };
  is_one = refl;
  deeds_are = refl;
}
