-- The sequences of `read`, `seek` and `tell`.
use Rattle.std.proofs.Common.{◌≡◌, ℕ, Bool, true, false, List, [], ◌∷◌, refl, sym, ap, subst, ◌∙◌, if◌then◌else◌}
use Rattle.std.specs.Prelude.{None, Some}
use Rattle.std.specs.FinMap as finmap
use Rattle.ho_base.specs.Objects.{file_no}
use Rattle.ho_base.specs.declared.numbers.FileNo.{FileNo}
use Rattle.ho_events.specs.declared.reply.Reply.{Reply}
use Rattle.ho_events.specs.declared.reply.Reply.TheVariants.{BadFd}
use Rattle.ho_events.specs.declared.slip.At.{At}
use Rattle.ho_world.specs.Entries.{is_ok}
use Rattle.ho_world.specs.Acts.{Sequence, ending, file}
use Rattle.ho_world.specs.Logs.{Deed, deed_at, end_with, labels_after}
use Rattle.ho_world.specs.Sequences.{Labels, Outcome, NoFile, ReadCame, on_label, answered, command_acts}
use Rattle.machine_core.specs.Agents.{Agent}
use Rattle.machine_core.specs.Commands.{Comes}
use Rattle.machine_core.specs.Turns.{Goes, is_by_label}
use Rattle.luo_calls.specs.Doing.{AreWhole}
use Rattle.luo_calls.specs.Queries.{query_command, query_event}
use Rattle.luo_calls.specs.declared.turns.query.Query.{Query}
use Rattle.luo_calls.specs.declared.turns.query.Query.TheVariants.{Read, Seek, Tell}
use Rattle.luo_calls.proofs.Chains.{then_goes}

-- whatever is answered, the labels stay
stay : (ok : Bool) (labels : Labels) → labels ≡ (if ok then labels else labels)
stay true labels = refl
stay false labels = refl

-- a query uses a label's file
pub query_by_label : (query : Query) → is_by_label (query_event query) ≡ true
query_by_label (Read off len) = refl
query_by_label (Seek to) = refl
query_by_label Tell = refl

-- the turn on the file
abbrev pub asked_so : FileNo → Query → Reply → List Deed
asked_so f query x = deed_at (file_no f.0) [] (query_event query) x ∷ []

module _ (labels : Labels) (label : List ℕ) where
  -- these commands have the sequences of their events, and bind no label
  sequences : (query : Query) (x : Outcome) → command_acts labels (query_command label query) x ≡ on_label (finmap.get labels label) (answered (query_event query)) x
  sequences (Read off len) x = refl
  sequences (Seek to) x = refl
  sequences Tell x = refl

  labels_stay : (query : Query) (s : Sequence) → labels ≡ labels_after labels (query_command label query) s
  labels_stay (Read off len) s = stay (is_ok s.reply) labels
  labels_stay (Seek to) s = stay (is_ok s.reply) labels
  labels_stay Tell s = stay (is_ok s.reply) labels

  module _ (query : Query) (none : None ≡ finmap.get labels label) where
    no_file_is : command_acts labels (query_command label query) NoFile ≡ ending [] BadFd
    no_file_is = sequences query NoFile ∙ ap (λ f. on_label f (answered (query_event query)) NoFile) (sym none)

    -- no file has the label
    pub no_file : (at at1 : At) (a a1 : Agent) → Goes (end_with BadFd ∷ []) at at1 a a1 → Comes labels labels (query_command label query) BadFd at at1 a a1
    no_file at at1 a a1 h = record {
      outcome = NoFile;
      sequence = record { acts = []; reply = BadFd };
      is_one = no_file_is;
      reply_is = refl;
      goes = h;
      labels_are = labels_stay query (record { acts = []; reply = BadFd });
    }

    pub no_file_whole : AreWhole (command_acts labels (query_command label query)) (end_with BadFd ∷ [])
    no_file_whole = record { outcome = NoFile; sequence = record { acts = []; reply = BadFd }; is_one = no_file_is; deeds_are = refl }

  module _ (query : Query) (f : FileNo) (found : Some f ≡ finmap.get labels label) where
    came_is : (reply : Reply) → command_acts labels (query_command label query) (ReadCame reply) ≡ ending (file f [] (query_event query) reply ∷ []) reply
    came_is reply = sequences query (ReadCame reply) ∙ ap (λ o. on_label o (answered (query_event query)) (ReadCame reply)) (sym found)

    -- the turn on the file, and the command's end with the same reply
    pub came : (reply told : Reply) (at at1 at2 : At) (a a1 a2 : Agent) → told ≡ reply → Goes (asked_so f query reply) at at1 a a1 → Goes (end_with reply ∷ []) at1 at2 a1 a2 → Comes labels labels (query_command label query) told at at2 a a2
    came reply told at at1 at2 a a1 a2 is h k = record {
      outcome = ReadCame reply;
      sequence = record { acts = file f [] (query_event query) reply ∷ []; reply = reply };
      is_one = came_is reply;
      reply_is = sym is;
      goes = then_goes _ _ at at1 at2 a a1 a2 h k;
      labels_are = labels_stay query (record { acts = file f [] (query_event query) reply ∷ []; reply = reply });
    }

    -- the deeds of its whole sequences
    pub came_whole : (reply : Reply) → AreWhole (command_acts labels (query_command label query)) (deed_at (file_no f.0) [] (query_event query) reply ∷ end_with reply ∷ [])
    came_whole reply = record {
      outcome = ReadCame reply;
      sequence = record { acts = file f [] (query_event query) reply ∷ []; reply = reply };
      is_one = came_is reply;
      deeds_are = refl;
    }
