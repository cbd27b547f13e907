-- The sequences of `write` and `fill`.
use Rattle.std.proofs.Common.{◌≡◌, ℕ, Bool, true, false, List, [], ◌∷◌, ◌++◌, length, refl, sym, ap, subst, ◌∙◌, IsTrue, if◌then◌else◌}
use Rattle.std.specs.Prelude.{None, Some}
use Rattle.std.specs.FinMap as finmap
use Rattle.std.specs.declared.snapshot.Snapshot.{Snapshot}
use Rattle.ho_base.specs.declared.items.Items.{Items}
use Rattle.ho_base.specs.declared.numbers.FileNo.{FileNo}
use Rattle.ho_base.specs.declared.numbers.Kind.TheVariants.{Memfd}
use Rattle.ho_base.specs.declared.numbers.Order.{Order}
use Rattle.ho_base.specs.declared.numbers.Pfn.{Pfn}
use Rattle.ho_events.specs.declared.event.Event.{Event}
use Rattle.ho_events.specs.declared.event.Event.TheVariants.{PoolTake}
use Rattle.ho_events.specs.declared.reply.Reply.{Reply}
use Rattle.ho_events.specs.declared.reply.Reply.TheVariants.{Ok, Got, NoFrames, NoFramesOf, SizeFrozen, TooBig, BadFd}
use Rattle.ho_events.specs.declared.slip.At.{At}
use Rattle.ho_world.specs.Acts.{Act, IsFile, Sequence, ending, pool, file}
use Rattle.ho_world.specs.Entries.{is_ok}
use Rattle.ho_world.specs.Logs.{Deed, deeds_of, end_with, labels_after}
use Rattle.ho_world.specs.Sequences.{Labels, Outcome, NoFile, WriteCame, on_label, written, command_acts}
use Rattle.ho_world.specs.Sequences.Files.{WriteOutcome, WriteRefused, Starved, WrittenOver, Written, fits_range, write_acts}
use Rattle.machine_core.specs.Agents.{Agent}
use Rattle.machine_core.specs.Commands.{Comes}
use Rattle.machine_core.specs.Turns.{Goes}
use Rattle.luo_calls.specs.Doing.{AreWhole}
use Rattle.luo_calls.specs.Memfds.{IsPlainReply}
use Rattle.luo_calls.specs.Puts.{put_command, put_event, put_len}
use Rattle.luo_calls.specs.Wrote.{write_deeds, IsWrote, answer_of}
use Rattle.luo_calls.specs.declared.turns.put.Put.{Put}
use Rattle.luo_calls.specs.declared.turns.put.Put.TheVariants.{Bytes, Same}
use Rattle.luo_calls.specs.declared.turns.write.Wrote.{Wrote}
use Rattle.luo_calls.specs.declared.turns.write.Wrote.TheVariants.{Plain, Filled}
use Rattle.luo_calls.specs.declared.turns.write.Wrote.TheVariants as wrote
use Rattle.luo_calls.proofs.Chains.{then_goes}
use Rattle.luo_calls.proofs.Sticking.{whole_by}

-- a test that holds
tested : {A : Type 0} (b : Bool) (x y : A) → IsTrue b → (if b then x else y) ≡ x
tested true x y h = refl
tested false x y h = absurd cc

-- whatever is answered, the labels stay
stay : (ok : Bool) (labels : Labels) → labels ≡ (if ok then labels else labels)
stay true labels = refl
stay false labels = refl

-- ---- a write of a file that came out so

abbrev outcome_of : Wrote → WriteOutcome
outcome_of (Plain TooBig) = WriteRefused TooBig
outcome_of (Plain SizeFrozen) = WriteRefused SizeFrozen
outcome_of (Plain reply) = WrittenOver
outcome_of (wrote.Starved o n) = Starved o n
outcome_of (Filled o runs) = Written o runs.value

module _ (f : FileNo) (off len : ℕ) (event : List Pfn → Event) where
  abbrev acts_of : Wrote → List Act
  acts_of (Plain reply) = file f [] (event []) reply ∷ []
  acts_of (wrote.Starved o n) = pool (IsFile f Memfd o ∷ []) (PoolTake o n) NoFrames ∷ file f (IsFile f Memfd o ∷ []) (event []) (NoFramesOf n) ∷ []
  acts_of (Filled o runs) =
      pool (IsFile f Memfd o ∷ []) (PoolTake o (length runs.value)) (Got runs.value)
      ∷ file f (IsFile f Memfd o ∷ []) (event runs.value) Ok ∷ []

  plain_acts : (reply : Reply) → IsPlainReply reply → write_acts f off len event (outcome_of (Plain reply)) ≡ ending (acts_of (Plain reply)) (answer_of (Plain reply))
  plain_acts TooBig is = refl
  plain_acts SizeFrozen is = refl
  plain_acts Ok is = refl
  plain_acts reply is = absurd is

  acts_are : (w : Wrote) → IsWrote off len w → write_acts f off len event (outcome_of w) ≡ ending (acts_of w) (answer_of w)
  acts_are (Plain reply) is = plain_acts reply is
  acts_are (wrote.Starved o n) is = tested (fits_range o off len n) _ _ is
  acts_are (Filled o runs) is = tested (fits_range o off len (length runs.value)) _ _ is

  -- its deeds, and the end of the command, are a whole sequence
  deeds_are : (w : Wrote) → write_deeds f event w ++ end_with (answer_of w) ∷ [] ≡ deeds_of (record { acts = acts_of w; reply = answer_of w })
  deeds_are (Plain reply) = refl
  deeds_are (wrote.Starved o n) = refl
  deeds_are (Filled o runs) = refl

  pub wrote_whole : (w : Wrote) → IsWrote off len w → AreWhole (write_acts f off len event) (write_deeds f event w ++ end_with (answer_of w) ∷ [])
  wrote_whole w is = record {
    outcome = outcome_of w;
    sequence = record { acts = acts_of w; reply = answer_of w };
    is_one = acts_are w is;
    deeds_are = deeds_are w;
  }

-- ---- the whole command

module _ (labels : Labels) (label : List ℕ) (off : ℕ) where
  -- a `write` and a `fill` have the sequences of what they put, and bind no label
  sequences : (put : Put) (x : Outcome) → command_acts labels (put_command label off put) x ≡ on_label (finmap.get labels label) (written off (put_len put) (put_event put off)) x
  sequences (Bytes bytes) x = refl
  sequences (Same len byte) x = refl

  labels_stay : (put : Put) (s : Sequence) → labels ≡ labels_after labels (put_command label off put) s
  labels_stay (Bytes bytes) s = stay (is_ok s.reply) labels
  labels_stay (Same len byte) s = stay (is_ok s.reply) labels

  module _ (put : Put) (none : None ≡ finmap.get labels label) where
    no_file_is : command_acts labels (put_command label off put) NoFile ≡ ending [] BadFd
    no_file_is = sequences put NoFile ∙ ap (λ f. on_label f (written off (put_len put) (put_event put off)) NoFile) (sym none)

    -- no file has the label
    pub no_file : (at at1 : At) (a a1 : Agent) → Goes (end_with BadFd ∷ []) at at1 a a1 → Comes labels labels (put_command label off put) BadFd at at1 a a1
    no_file at at1 a a1 h = record {
      outcome = NoFile;
      sequence = record { acts = []; reply = BadFd };
      is_one = no_file_is;
      reply_is = refl;
      goes = h;
      labels_are = labels_stay put (record { acts = []; reply = BadFd });
    }

    pub no_file_whole : AreWhole (command_acts labels (put_command label off put)) (end_with BadFd ∷ [])
    no_file_whole = record { outcome = NoFile; sequence = record { acts = []; reply = BadFd }; is_one = no_file_is; deeds_are = refl }

  module _ (put : Put) (f : FileNo) (found : Some f ≡ finmap.get labels label) where
    came_is : (x : WriteOutcome) → command_acts labels (put_command label off put) (WriteCame x) ≡ write_acts f off (put_len put) (put_event put off) x
    came_is x = sequences put (WriteCame x) ∙ ap (λ o. on_label o (written off (put_len put) (put_event put off)) (WriteCame x)) (sym found)

    -- the sequences of a write of the label's file are those of the command
    pub of_file : (ds : List Deed) → AreWhole (write_acts f off (put_len put) (put_event put off)) ds → AreWhole (command_acts labels (put_command label off put)) ds
    of_file = whole_by (write_acts f off (put_len put) (put_event put off)) (command_acts labels (put_command label off put)) WriteCame came_is

    -- the turns on the file, and the command's end
    came : (at at1 at2 : At) (a a1 a2 : Agent) (w : Wrote) → IsWrote off (put_len put) w → Goes (write_deeds f (put_event put off) w) at at1 a a1 → Goes (end_with (answer_of w) ∷ []) at1 at2 a1 a2 → Comes labels labels (put_command label off put) (answer_of w) at at2 a a2
    came at at1 at2 a a1 a2 w is h k = record {
      outcome = WriteCame (outcome_of w);
      sequence = record { acts = acts_of f off (put_len put) (put_event put off) w; reply = answer_of w };
      is_one = came_is (outcome_of w) ∙ acts_are f off (put_len put) (put_event put off) w is;
      reply_is = refl;
      goes = subst (λ ds. Goes ds at at2 a a2) (deeds_are f off (put_len put) (put_event put off) w) (then_goes _ _ at at1 at2 a a1 a2 h k);
      labels_are = labels_stay put (record { acts = acts_of f off (put_len put) (put_event put off) w; reply = answer_of w });
    }

    -- the same by the reply that the command ended with, and the one that it is answered
    pub answered : (at at1 at2 : At) (a a1 a2 : Agent) (w : Wrote) (r q : Reply) → r ≡ answer_of w → q ≡ answer_of w → IsWrote off (put_len put) w → Goes (write_deeds f (put_event put off) w) at at1 a a1 → Goes (end_with r ∷ []) at1 at2 a1 a2 → Comes labels labels (put_command label off put) q at at2 a a2
    answered at at1 at2 a a1 a2 w r q is same told h k =
        subst (λ (x : Reply). Comes labels labels (put_command label off put) x at at2 a a2) (sym same)
        (came at at1 at2 a a1 a2 w told h (subst (λ (x : Reply). Goes (end_with x ∷ []) at1 at2 a1 a2) is k))
