-- The sequences of `memfd`.
use Rattle.std.proofs.Common.{◌≡◌, ℕ, List, [], ◌∷◌, refl, subst}
use Rattle.std.specs.FinMap as finmap
use Rattle.ho_base.specs.Objects.{registry_no, file_no}
use Rattle.ho_base.specs.declared.numbers.FileNo.{FileNo}
use Rattle.ho_base.specs.declared.numbers.Kind.TheVariants.{Memfd}
use Rattle.ho_base.specs.declared.numbers.Order.{Order}
use Rattle.ho_events.specs.declared.command.Command.TheVariants as command
use Rattle.ho_events.specs.declared.event.Event.TheVariants.{RegNewFile, FileInit}
use Rattle.ho_events.specs.declared.reply.Reply.{Reply}
use Rattle.ho_events.specs.declared.reply.Reply.TheVariants.{Ok, OkFile, FilesFull}
use Rattle.ho_events.specs.declared.slip.At.{At}
use Rattle.ho_world.specs.Acts.{registry, file}
use Rattle.ho_world.specs.Logs.{Deed, deed_at, end_with}
use Rattle.ho_world.specs.Sequences.{Labels, MemfdCame}
use Rattle.ho_world.specs.Sequences.Files.{NoNumber, Made, memfd_acts}
use Rattle.machine_core.specs.Agents.{Agent}
use Rattle.machine_core.specs.Commands.{Comes}
use Rattle.machine_core.specs.Turns.{Goes}
use Rattle.luo_calls.specs.Doing.{AreWhole}
use Rattle.luo_calls.proofs.Chains.{then_goes}

module _ (labels labels' : Labels) (label : List ℕ) (order : Order) (at at1 at2 : At) (a a1 a2 : Agent) where
  -- every file number is in use
  pub full : labels' ≡ labels → Goes (deed_at registry_no [] RegNewFile FilesFull ∷ []) at at1 a a1 → Goes (end_with FilesFull ∷ []) at1 at2 a1 a2 → Comes labels labels' (command.Memfd label order) FilesFull at at2 a a2
  full same h k = record {
    outcome = MemfdCame NoNumber;
    sequence = record { acts = registry RegNewFile FilesFull ∷ []; reply = FilesFull };
    is_one = refl;
    reply_is = refl;
    goes = then_goes _ _ at at1 at2 a a1 a2 h k;
    labels_are = same;
  }

  -- the file is made, and the label is bound to it
  pub made : (at3 : At) (a3 : Agent) (f : FileNo) → labels' ≡ finmap.insert labels label f → Goes (deed_at registry_no [] RegNewFile (OkFile f) ∷ []) at at1 a a1 → Goes (deed_at (file_no f.0) [] (FileInit Memfd order 0 []) Ok ∷ []) at1 at2 a1 a2 → Goes (end_with Ok ∷ []) at2 at3 a2 a3 → Comes labels labels' (command.Memfd label order) Ok at at3 a a3
  made at3 a3 f bound h k l = record {
    outcome = MemfdCame (Made f);
    sequence = record { acts = registry RegNewFile (OkFile f) ∷ file f [] (FileInit Memfd order 0 []) Ok ∷ []; reply = Ok };
    is_one = refl;
    reply_is = refl;
    goes = then_goes _ _ at at2 at3 a a2 a3 (then_goes _ _ at at1 at2 a a1 a2 h k) l;
    labels_are = bound;
  }

-- the turn on the registry, and the one on the file
abbrev pub asked : Reply → List Deed
asked x = deed_at registry_no [] RegNewFile x ∷ []

abbrev pub made_file : FileNo → Order → List Deed
made_file f order = deed_at (file_no f.0) [] (FileInit Memfd order 0 []) Ok ∷ []

-- the deeds of its whole sequences
pub full_whole : (order : Order) → AreWhole (memfd_acts order) (deed_at registry_no [] RegNewFile FilesFull ∷ end_with FilesFull ∷ [])
full_whole order = record {
  outcome = NoNumber;
  sequence = record { acts = registry RegNewFile FilesFull ∷ []; reply = FilesFull };
  is_one = refl;
  deeds_are = refl;
}

pub made_whole : (order : Order) (f : FileNo) → AreWhole (memfd_acts order) (deed_at registry_no [] RegNewFile (OkFile f) ∷ deed_at (file_no f.0) [] (FileInit Memfd order 0 []) Ok ∷ end_with Ok ∷ [])
made_whole order f = record {
  outcome = Made f;
  sequence = record { acts = registry RegNewFile (OkFile f) ∷ file f [] (FileInit Memfd order 0 []) Ok ∷ []; reply = Ok };
  is_one = refl;
  deeds_are = refl;
}

-- the reply by its variant
pub reply_is : (r q : Reply) (at at' : At) (a a' : Agent) → r ≡ q → Goes (deed_at registry_no [] RegNewFile r ∷ []) at at' a a' → Goes (deed_at registry_no [] RegNewFile q ∷ []) at at' a a'
reply_is r q at at' a a' e h = subst (λ (x : Reply). Goes (deed_at registry_no [] RegNewFile x ∷ []) at at' a a') e h
