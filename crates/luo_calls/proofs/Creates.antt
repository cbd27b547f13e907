-- The sequences of `create`.
use Rattle.std.proofs.Common.{◌≡◌, ℕ, List, [], ◌∷◌, ◌++◌, refl, subst}
use Rattle.ho_base.specs.Objects.{registry_no, session_no}
use Rattle.ho_base.specs.declared.numbers.SlotNo.{SlotNo}
use Rattle.ho_events.specs.declared.command.Command.TheVariants as command
use Rattle.ho_events.specs.declared.event.Event.TheVariants.{RegCreate, SessionBegin}
use Rattle.ho_events.specs.declared.reply.Reply.{Reply}
use Rattle.ho_events.specs.declared.reply.Reply.TheVariants.{Ok, OkSlot, NameTaken, SessionsFull}
use Rattle.ho_events.specs.declared.slip.At.{At}
use Rattle.ho_world.specs.Acts.{registry, session}
use Rattle.ho_world.specs.Logs.{Deed, deed_at, end_with}
use Rattle.ho_world.specs.Sequences.{Labels, CreateCame}
use Rattle.ho_world.specs.Sequences.Sessions.{Created, CreateRefused, create_acts}
use Rattle.machine_core.specs.Agents.{Agent}
use Rattle.machine_core.specs.Commands.{Comes}
use Rattle.machine_core.specs.Turns.{Goes}
use Rattle.luo_calls.specs.Doing.{AreWhole}
use Rattle.luo_calls.proofs.Chains.{then_goes}

module _ (labels : Labels) (name : List ℕ) (at at1 at2 : At) (a a1 a2 : Agent) where
  pub taken : Goes (deed_at registry_no [] (RegCreate name) NameTaken ∷ []) at at1 a a1 → Goes (end_with NameTaken ∷ []) at1 at2 a1 a2 → Comes labels labels (command.Create name) NameTaken at at2 a a2
  taken h k = record {
    outcome = CreateCame (CreateRefused NameTaken);
    sequence = record { acts = registry (RegCreate name) NameTaken ∷ []; reply = NameTaken };
    is_one = refl;
    reply_is = refl;
    goes = then_goes _ _ at at1 at2 a a1 a2 h k;
    labels_are = refl;
  }

  pub full : Goes (deed_at registry_no [] (RegCreate name) SessionsFull ∷ []) at at1 a a1 → Goes (end_with SessionsFull ∷ []) at1 at2 a1 a2 → Comes labels labels (command.Create name) SessionsFull at at2 a a2
  full h k = record {
    outcome = CreateCame (CreateRefused SessionsFull);
    sequence = record { acts = registry (RegCreate name) SessionsFull ∷ []; reply = SessionsFull };
    is_one = refl;
    reply_is = refl;
    goes = then_goes _ _ at at1 at2 a a1 a2 h k;
    labels_are = refl;
  }

  pub created : (at3 : At) (a3 : Agent) (slot : SlotNo) → Goes (deed_at registry_no [] (RegCreate name) (OkSlot slot) ∷ []) at at1 a a1 → Goes (deed_at (session_no slot.0) [] (SessionBegin name) Ok ∷ []) at1 at2 a1 a2 → Goes (end_with Ok ∷ []) at2 at3 a2 a3 → Comes labels labels (command.Create name) Ok at at3 a a3
  created at3 a3 slot h k l = record {
    outcome = CreateCame (Created slot);
    sequence = record { acts = registry (RegCreate name) (OkSlot slot) ∷ session slot [] (SessionBegin name) Ok ∷ []; reply = Ok };
    is_one = refl;
    reply_is = refl;
    goes = then_goes _ _ at at2 at3 a a2 a3 (then_goes _ _ at at1 at2 a a1 a2 h k) l;
    labels_are = refl;
  }

-- the turn on the registry, and the one on the slot
abbrev pub asked : List ℕ → Reply → List Deed
asked name x = deed_at registry_no [] (RegCreate name) x ∷ []

abbrev pub begun_out : SlotNo → List ℕ → List Deed
begun_out slot name = deed_at (session_no slot.0) [] (SessionBegin name) Ok ∷ []

-- the deeds of its whole sequences
pub taken_whole : (name : List ℕ) → AreWhole (create_acts name) (deed_at registry_no [] (RegCreate name) NameTaken ∷ end_with NameTaken ∷ [])
taken_whole name = record {
  outcome = CreateRefused NameTaken;
  sequence = record { acts = registry (RegCreate name) NameTaken ∷ []; reply = NameTaken };
  is_one = refl;
  deeds_are = refl;
}

pub full_whole : (name : List ℕ) → AreWhole (create_acts name) (deed_at registry_no [] (RegCreate name) SessionsFull ∷ end_with SessionsFull ∷ [])
full_whole name = record {
  outcome = CreateRefused SessionsFull;
  sequence = record { acts = registry (RegCreate name) SessionsFull ∷ []; reply = SessionsFull };
  is_one = refl;
  deeds_are = refl;
}

pub created_whole : (name : List ℕ) (slot : SlotNo) → AreWhole (create_acts name) (deed_at registry_no [] (RegCreate name) (OkSlot slot) ∷ deed_at (session_no slot.0) [] (SessionBegin name) Ok ∷ end_with Ok ∷ [])
created_whole name slot = record {
  outcome = Created slot;
  sequence = record { acts = registry (RegCreate name) (OkSlot slot) ∷ session slot [] (SessionBegin name) Ok ∷ []; reply = Ok };
  is_one = refl;
  deeds_are = refl;
}

pub reply_is : (name : List ℕ) (r q : Reply) (at at' : At) (a a' : Agent) → r ≡ q → Goes (deed_at registry_no [] (RegCreate name) r ∷ []) at at' a a' → Goes (deed_at registry_no [] (RegCreate name) q ∷ []) at at' a a'
reply_is name r q at at' a a' e h = subst (λ (x : Reply). Goes (deed_at registry_no [] (RegCreate name) x ∷ []) at at' a a') e h
