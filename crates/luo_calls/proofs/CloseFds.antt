-- The sequences of `closefd`.
use Rattle.std.proofs.Common.{◌≡◌, ℕ, List, [], ◌∷◌, ◌++◌, refl, sym, ap, subst, ◌∙◌, append_assoc}
use Rattle.std.specs.Prelude.{None, Some}
use Rattle.std.specs.FinMap as finmap
use Rattle.std.proofs.lemmas.List.{map-append}
use Rattle.ho_base.specs.Objects.{file_no, registry_no}
use Rattle.ho_base.specs.declared.numbers.FileNo.{FileNo}
use Rattle.ho_base.specs.declared.numbers.Kind.TheVariants.{Memfd}
use Rattle.ho_base.specs.declared.numbers.Order.{Order}
use Rattle.ho_base.specs.declared.numbers.Pfn.{Pfn}
use Rattle.ho_events.specs.declared.command.Command.TheVariants as command
use Rattle.ho_events.specs.declared.event.Event.TheVariants.{FileCloseFd, RegFreeFile}
use Rattle.ho_events.specs.declared.reply.Reply.{Reply}
use Rattle.ho_events.specs.declared.reply.Reply.TheVariants.{Ok, BadFd, Kept, Gone}
use Rattle.ho_events.specs.declared.slip.At.{At}
use Rattle.ho_world.specs.Acts.{IsFile, file, registry}
use Rattle.ho_world.specs.Logs.{Deed, deed_at, deed_of, end_with}
use Rattle.ho_world.specs.Sequences.{Labels, NoFile, CloseFdCame, on_label, closed_fd, command_acts}
use Rattle.ho_world.specs.Sequences.Files.{LabelKept, LabelGone, close_fd_acts}
use Rattle.machine_core.specs.Agents.{Agent}
use Rattle.machine_core.specs.Commands.{Comes}
use Rattle.machine_core.specs.Turns.{Goes}
use Rattle.luo_calls.specs.Closing.{deeds, given_back}
use Rattle.luo_calls.specs.ClosingFds.{ClosesLabel, after_close_fd, read_of}
use Rattle.luo_calls.specs.Doing.{AreWhole}
use Rattle.luo_calls.specs.Replies.{IsCloseFdReply}
use Rattle.luo_calls.proofs.Chains.{then_goes}

-- ---- the turns after the file's

-- the deeds after a file is gone
abbrev pub freed : FileNo → List Deed
freed f = deed_at registry_no [] (RegFreeFile f) Ok ∷ []

pub gone_deeds : (f : FileNo) (o : Order) (runs : List Pfn) → deeds (after_close_fd f o (Gone runs)) ++ end_with Ok ∷ [] ≡ deeds (given_back o runs) ++ (freed f ++ end_with Ok ∷ [])
gone_deeds f o runs =
    ap (λ ds. ds ++ end_with Ok ∷ []) (map-append deed_of (given_back o runs) (registry (RegFreeFile f) Ok ∷ []))
    ∙ append_assoc (deeds (given_back o runs)) (freed f) (end_with Ok ∷ [])

-- the same, seen from the end of the command
pub gone_deeds_end : (f : FileNo) (o : Order) (runs : List Pfn) → (deeds (given_back o runs) ++ freed f) ++ end_with Ok ∷ [] ≡ deeds (after_close_fd f o (Gone runs)) ++ end_with Ok ∷ []
gone_deeds_end f o runs = append_assoc (deeds (given_back o runs)) (freed f) (end_with Ok ∷ []) ∙ sym (gone_deeds f o runs)

-- the folios go back, and the number, and the command ends
pub gone_ends : (f : FileNo) (o : Order) (runs : List Pfn) (at at1 at2 at3 : At) (a a1 a2 a3 : Agent) → Goes (deeds (given_back o runs)) at at1 a a1 → Goes (freed f) at1 at2 a1 a2 → Goes (end_with Ok ∷ []) at2 at3 a2 a3 → Goes (deeds (after_close_fd f o (Gone runs)) ++ end_with Ok ∷ []) at at3 a a3
gone_ends f o runs at at1 at2 at3 a a1 a2 a3 g h k =
    subst (λ ds. Goes ds at at3 a a3) (sym (gone_deeds f o runs))
    (then_goes _ _ at at1 at3 a a1 a3 g (then_goes _ _ at1 at2 at3 a1 a2 a3 h k))

-- ---- the whole command

-- the deeds of a label that ends while something else has its file
abbrev pub kept_deeds : FileNo → List Deed
kept_deeds f = deed_at (file_no f.0) [] FileCloseFd Kept ∷ end_with Ok ∷ []

pub kept_whole : (f : FileNo) → AreWhole (close_fd_acts f) (kept_deeds f)
kept_whole f = record {
  outcome = LabelKept;
  sequence = record { acts = file f [] FileCloseFd Kept ∷ []; reply = Ok };
  is_one = refl;
  deeds_are = refl;
}

-- the deeds of its end, by what the file answered
pub closing_whole : (f : FileNo) (o : Order) (reply : Reply) → IsCloseFdReply reply → (ds : List Deed) → ds ≡ deeds (after_close_fd f o reply) ++ end_with Ok ∷ [] → AreWhole (close_fd_acts f) (deed_at (file_no f.0) (read_of f o reply) FileCloseFd reply ∷ ds)
closing_whole f o Kept is ds same = record {
  outcome = LabelKept;
  sequence = record { acts = file f [] FileCloseFd Kept ∷ []; reply = Ok };
  is_one = refl;
  deeds_are = ap (λ xs. deed_at (file_no f.0) [] FileCloseFd Kept ∷ xs) same;
}
closing_whole f o (Gone runs) is ds same = record {
  outcome = LabelGone Memfd o runs;
  sequence = record { acts = file f (IsFile f Memfd o ∷ []) FileCloseFd (Gone runs) ∷ after_close_fd f o (Gone runs); reply = Ok };
  is_one = refl;
  deeds_are = ap (λ xs. deed_at (file_no f.0) (IsFile f Memfd o ∷ []) FileCloseFd (Gone runs) ∷ xs) same;
}
closing_whole f o reply is ds same = absurd is

pub closes : (f : FileNo) (o : Order) (reply : Reply) (at at1 at2 : At) (a a1 a2 : Agent) → IsCloseFdReply reply → Goes (deed_at (file_no f.0) (read_of f o reply) FileCloseFd reply ∷ []) at at1 a a1 → Goes (deeds (after_close_fd f o reply) ++ end_with Ok ∷ []) at1 at2 a1 a2 → ClosesLabel f at at2 a a2
closes f o Kept at at1 at2 a a1 a2 is g h = record {
  outcome = LabelKept;
  acts = file f [] FileCloseFd Kept ∷ [];
  is_one = refl;
  goes = then_goes _ _ at at1 at2 a a1 a2 g h;
}
closes f o (Gone runs) at at1 at2 a a1 a2 is g h = record {
  outcome = LabelGone Memfd o runs;
  acts = file f (IsFile f Memfd o ∷ []) FileCloseFd (Gone runs) ∷ after_close_fd f o (Gone runs);
  is_one = refl;
  goes = then_goes _ _ at at1 at2 a a1 a2 g h;
}
closes f o reply at at1 at2 a a1 a2 is g h = absurd is

module _ (labels labels' : Labels) (label : List ℕ) (at at1 : At) (a a1 : Agent) where
  -- no file has the label
  pub no_file : labels' ≡ labels → None ≡ finmap.get labels label → Goes (end_with BadFd ∷ []) at at1 a a1 → Comes labels labels' (command.CloseFd label) BadFd at at1 a a1
  no_file same none h = record {
    outcome = NoFile;
    sequence = record { acts = []; reply = BadFd };
    is_one = ap (λ f. on_label f closed_fd NoFile) (sym none);
    reply_is = refl;
    goes = h;
    labels_are = same;
  }

  -- the label ended
  pub ended : (f : FileNo) → labels' ≡ finmap.remove labels label → Some f ≡ finmap.get labels label → ClosesLabel f at at1 a a1 → Comes labels labels' (command.CloseFd label) Ok at at1 a a1
  ended f removed found h = record {
    outcome = CloseFdCame h.outcome;
    sequence = record { acts = h.acts; reply = Ok };
    is_one = ap (λ o. on_label o closed_fd (CloseFdCame h.outcome)) (sym found) ∙ h.is_one;
    reply_is = refl;
    goes = h.goes;
    labels_are = removed;
  }

module _ (labels : Labels) (label : List ℕ) where
  -- the deeds of its whole sequences
  pub no_file_whole : None ≡ finmap.get labels label → AreWhole (command_acts labels (command.CloseFd label)) (end_with BadFd ∷ [])
  no_file_whole none = record {
    outcome = NoFile;
    sequence = record { acts = []; reply = BadFd };
    is_one = ap (λ f. on_label f closed_fd NoFile) (sym none);
    deeds_are = refl;
  }

  pub of_file : (f : FileNo) → Some f ≡ finmap.get labels label → (ds : List Deed) → AreWhole (close_fd_acts f) ds → AreWhole (command_acts labels (command.CloseFd label)) ds
  of_file f found ds w = record {
    outcome = CloseFdCame w.outcome;
    sequence = w.sequence;
    is_one = ap (λ o. on_label o closed_fd (CloseFdCame w.outcome)) (sym found) ∙ w.is_one;
    deeds_are = w.deeds_are;
  }
