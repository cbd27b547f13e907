-- What a `truncate` comes to.
use Rattle.std.proofs.Common.{◌≡◌, ℕ, ◌+◌, ◌<◌, ◌≤◌, ◌^◌, Bool, true, false, List, [], ◌∷◌, ◌++◌, length, refl, sym, ap, subst, ◌∙◌, arith, if◌then◌else◌, nat_le, filter}
use Rattle.std.specs.Prelude.{Option, None, Some, MatchOption, option_map, Result, IfOk, IfErr, OnErr, OnOk}
use Rattle.std.specs.Prelude as result
use Rattle.std.specs.FinMap as finmap
use Rattle.std.specs.List.{All, AllByRecursion}
use Rattle.std.proofs.lemmas.List.{length-map}
use Rattle.std.proofs.lemmas.List.Elements.{All-from_recursion}
use Rattle.ho_base.specs.Objects.{file_no}
use Rattle.ho_base.specs.declared.numbers.FileNo.{FileNo}
use Rattle.ho_base.specs.declared.numbers.Kind.TheVariants.{Memfd}
use Rattle.ho_base.specs.declared.numbers.Order.{Order}
use Rattle.ho_base.specs.declared.numbers.Pfn.{Pfn}
use Rattle.ho_events.specs.File.{FileState, cut_runs, index_bytes}
use Rattle.ho_events.specs.Lists.{pieces}
use Rattle.ho_events.specs.Slips.{reply_runs}
use Rattle.ho_events.specs.declared.command.Command.TheVariants as command
use Rattle.ho_events.specs.declared.event.Event.TheVariants.{FileTruncate}
use Rattle.ho_events.specs.declared.reply.Reply.{Reply}
use Rattle.ho_events.specs.declared.reply.Reply.TheVariants.{Ok, OkRuns, SizeFrozen, TooBig, BadFd}
use Rattle.ho_events.specs.declared.slip.At.{At}
use Rattle.ho_world.specs.Acts.{Act, IsFile, Sequence, ending, file}
use Rattle.ho_world.specs.Entries.{is_ok}
use Rattle.ho_world.specs.Logs.{Deed, deed_at, end_with, labels_after, AreClaimed, Known}
use Rattle.ho_world.specs.Sequences.{Labels, NoFile, TruncateCame, on_label, truncated, command_acts}
use Rattle.ho_world.specs.Sequences.Files.{TruncateOutcome, TruncateRefused, Truncated, truncate_acts}
use Rattle.phys_frames.specs.Homes.{HomeId}
use Rattle.phys_frames.specs.Memory.{AreOf, FolioValue, first_frames}
use Rattle.file_folios.specs.FileAnswers.{IsTruncateAnswer, facts_of, truncate_given}
use Rattle.machine_core.specs.Agents.{Agent, begun}
use Rattle.machine_core.specs.Commands.{Comes}
use Rattle.machine_core.specs.Turns.{Goes}
use Rattle.luo_calls.specs.Closing.{deeds, given_back}
use Rattle.luo_calls.specs.Doing.{AreWhole, SticksAfter}
use Rattle.luo_calls.specs.Memfds.{IsMemfd}
use Rattle.luo_calls.specs.Truncates.{IsCutOff, IsTruncateReply, after_truncate, truncate_answer, truncate_read}
use Rattle.luo_calls.specs.declared.stuck.Stopped.{Stopped}
use Rattle.luo_calls.proofs.Chains.{then_goes}
use Rattle.luo_calls.proofs.Folios.{at_runs_begin, at_runs_home, at_runs_order}
use Rattle.luo_calls.proofs.Nested.{sticks_first, sticks_later, sticks_next}
use Rattle.luo_calls.proofs.Sticking.{sticks_as, sticks_more, whole_by}
use Rattle.luo_calls.specs.Stuck.{Sticks, turn_of}
use Rattle.luo_calls.specs.declared.stuck.Stuck.{Stuck}

-- ---- what a file answers, and which folios it gives up

replied : (f : FileState) (size : ℕ) (v : Reply) → IsTruncateAnswer f size v → IsTruncateReply v
replied f size TooBig h = tt
replied f size SizeFrozen h = tt
replied f size (OkRuns runs) h = tt
replied f size v h = absurd h

pub truncate_replied : (x : Option (Option FileState)) (v : Reply) (size : ℕ) → MatchOption x ⊥ (λ s. MatchOption s ⊥ (λ f. IsTruncateAnswer f size v)) → IsTruncateReply v
truncate_replied None v size h = absurd h
truncate_replied (Some None) v size h = absurd h
truncate_replied (Some (Some f)) v size h = replied f size v h

cut_is : (f : FileState) (home : HomeId) (o : Order) (size : ℕ) (v : Reply) → f.order ≡ o.0 → IsTruncateAnswer f size v → IsCutOff home o v (truncate_given f home size v)
cut_is f home o size TooBig same h = refl
cut_is f home o size SizeFrozen same h = refl
cut_is f home o size (OkRuns runs) same h =
    let es = filter (λ (e : ℕ × ℕ). nat_le (pieces size (index_bytes f)) e.0) (finmap.entries f.runs) in
    (at_runs_begin f home es runs h.2, at_runs_home f home es, at_runs_order f home o es same)
cut_is f home o size v same h = absurd h

pub cut_says : (x : Option (Option FileState)) (home own : HomeId) (o : Order) (size : ℕ) (v : Reply) (old new : List FolioValue) → own ≡ home → old ≡ [] → MatchOption x ⊥ (λ s. IsMemfd (option_map facts_of s) o) → MatchOption x ⊥ (λ s. MatchOption s ⊥ (λ f. IsTruncateAnswer f size v)) → MatchOption x ⊥ (λ s. MatchOption s ⊥ (λ f. new ≡ old ++ truncate_given f own size v)) → IsCutOff home o v new
cut_says None home own o size v old new same empty m h g = absurd h
cut_says (Some None) home own o size v old new same empty m h g = absurd h
cut_says (Some (Some f)) home own o size v old new same empty m h g =
    subst (λ (place : HomeId). IsCutOff place o v new) same
    (subst (IsCutOff own o v) (sym (g ∙ ap (λ front. front ++ truncate_given f own size v) empty)) (cut_is f own o size v (ap (λ (x : Order). x.0) m.1) h))

-- where the file is read at the reply, its kind and order are known
pub truncate_claimed : (a : Agent) (hands : ℕ → Option Known) (f : FileNo) (o : Order) (reply : Reply) → AreClaimed (begun a) hands (IsFile f Memfd o ∷ []) → AreClaimed (begun a) hands (truncate_read f o reply)
truncate_claimed a hands f o (OkRuns runs) h = h
truncate_claimed a hands f o reply h = tt

-- the folios that were given up may go back: they are of this home and order, and begin at the runs that are reported
none_of : (o : Order) (folios : List FolioValue) → folios ≡ [] → All (λ (f : FolioValue). f.order ≡ o) folios
none_of o folios is = subst (All (λ (f : FolioValue). f.order ≡ o)) (sym is) (All-from_recursion (λ (f : FolioValue). f.order ≡ o) [] tt)

pub cut_off_home : (home : HomeId) (o : Order) (reply : Reply) (folios : List FolioValue) → IsTruncateReply reply → IsCutOff home o reply folios → AreOf home folios
cut_off_home home o TooBig folios is h = subst (AreOf home) (sym h) tt
cut_off_home home o SizeFrozen folios is h = subst (AreOf home) (sym h) tt
cut_off_home home o (OkRuns runs) folios is h = h.1
cut_off_home home o reply folios is h = absurd is

pub cut_off_order : (home : HomeId) (o : Order) (reply : Reply) (folios : List FolioValue) → IsTruncateReply reply → IsCutOff home o reply folios → All (λ (f : FolioValue). f.order ≡ o) folios
cut_off_order home o TooBig folios is h = none_of o folios h
cut_off_order home o SizeFrozen folios is h = none_of o folios h
cut_off_order home o (OkRuns runs) folios is h = h.2
cut_off_order home o reply folios is h = absurd is

pub cut_off_acts : (home : HomeId) (o : Order) (reply : Reply) (folios : List FolioValue) → IsTruncateReply reply → IsCutOff home o reply folios → given_back o (first_frames folios) ≡ after_truncate o reply
cut_off_acts home o TooBig folios is h = ap (λ fs. given_back o (first_frames fs)) h
cut_off_acts home o SizeFrozen folios is h = ap (λ fs. given_back o (first_frames fs)) h
cut_off_acts home o (OkRuns runs) folios is h = ap (given_back o) h.0
cut_off_acts home o reply folios is h = absurd is

pub cut_off_few : (home : HomeId) (o : Order) (reply : Reply) (folios : List FolioValue) → IsTruncateReply reply → IsCutOff home o reply folios → length (reply_runs reply) < 2 ^ 32 → length folios < 2 ^ 32
cut_off_few home o TooBig folios is h few = subst (λ (fs : List FolioValue). length fs < 2 ^ 32) (sym h) few
cut_off_few home o SizeFrozen folios is h few = subst (λ (fs : List FolioValue). length fs < 2 ^ 32) (sym h) few
cut_off_few home o (OkRuns runs) folios is h few =
    subst (λ n. n < 2 ^ 32) (ap length (sym h.0) ∙ length-map folios (λ (f : FolioValue). f.first)) few
cut_off_few home o reply folios is h few = absurd is

-- there is room for what a new size gives up where there is room for all indexes
pub cut_fit : (s : Option (Option FileState)) (size have count room : ℕ) → have + count ≤ room → MatchOption s ⊥ (λ t. MatchOption t ⊥ (λ f. length (cut_runs f size) ≤ count)) → MatchOption s ⊥ (λ t. MatchOption t ⊥ (λ f. have + length (cut_runs f size) ≤ room))
cut_fit None size have count room fits h = absurd h
cut_fit (Some None) size have count room fits h = absurd h
cut_fit (Some (Some f)) size have count room fits h = omega (arith, fits, h)

pub cut_listed : (s : Option (Option FileState)) (size count room : ℕ) → room ≡ count → MatchOption s ⊥ (λ t. MatchOption t ⊥ (λ f. length (cut_runs f size) ≤ count)) → MatchOption s ⊥ (λ t. MatchOption t ⊥ (λ f. length (cut_runs f size) ≤ room))
cut_listed None size count room fits h = absurd h
cut_listed (Some None) size count room fits h = absurd h
cut_listed (Some (Some f)) size count room fits h = omega (arith, fits, h)

-- ---- the turn on the file, and what follows

-- the deeds of a refused size
abbrev pub refused_deeds : FileNo → ℕ → List Deed
refused_deeds f size = deed_at (file_no f.0) [] (FileTruncate size) TooBig ∷ end_with TooBig ∷ []

abbrev outcome_of : Order → Reply → TruncateOutcome
outcome_of o (OkRuns runs) = Truncated Memfd o runs
outcome_of o reply = TruncateRefused reply

abbrev acts_of : FileNo → Order → ℕ → Reply → List Act
acts_of f o size reply = file f (truncate_read f o reply) (FileTruncate size) reply ∷ after_truncate o reply

acts_are : (f : FileNo) (o : Order) (size : ℕ) (reply : Reply) → IsTruncateReply reply → truncate_acts f size (outcome_of o reply) ≡ ending (acts_of f o size reply) (truncate_answer reply)
acts_are f o size TooBig is = refl
acts_are f o size SizeFrozen is = refl
acts_are f o size (OkRuns runs) is = refl
acts_are f o size reply is = absurd is

-- the turn, and what follows it, are a whole sequence
pub truncate_whole : (f : FileNo) (o : Order) (size : ℕ) (reply : Reply) → IsTruncateReply reply → (ds : List Deed) → ds ≡ deeds (after_truncate o reply) ++ end_with (truncate_answer reply) ∷ [] → AreWhole (truncate_acts f size) (deed_at (file_no f.0) (truncate_read f o reply) (FileTruncate size) reply ∷ ds)
truncate_whole f o size reply is ds same = record {
  outcome = outcome_of o reply;
  sequence = record { acts = acts_of f o size reply; reply = truncate_answer reply };
  is_one = acts_are f o size reply is;
  deeds_are = ap (λ xs. deed_at (file_no f.0) (truncate_read f o reply) (FileTruncate size) reply ∷ xs) same;
}

pub refused_whole : (f : FileNo) (size : ℕ) → AreWhole (truncate_acts f size) (refused_deeds f size)
refused_whole f size = record { outcome = TruncateRefused TooBig; sequence = record { acts = file f [] (FileTruncate size) TooBig ∷ []; reply = TooBig }; is_one = refl; deeds_are = refl }

-- ---- the rest: what was given up goes back, and the command ends

module _ (home : HomeId) (o : Order) (reply : Reply) (folios : List FolioValue) (is : IsTruncateReply reply) (cut : IsCutOff home o reply folios) where
  rest_is : deeds (given_back o (first_frames folios)) ++ end_with (truncate_answer reply) ∷ [] ≡ deeds (after_truncate o reply) ++ end_with (truncate_answer reply) ∷ []
  rest_is = ap (λ acts. deeds acts ++ end_with (truncate_answer reply) ∷ []) (cut_off_acts home o reply folios is cut)

  pub rest_goes : {X : Type 0} → (at at1 at2 : At) (a a1 a2 : Agent) (r : Result X Stopped) → Goes (deeds (given_back o (first_frames folios))) at at1 a a1 → OnOk r (Goes (end_with (truncate_answer reply) ∷ []) at1 at2 a1 a2) → OnOk r (Goes (deeds (after_truncate o reply) ++ end_with (truncate_answer reply) ∷ []) at at2 a a2)
  rest_goes at at1 at2 a a1 a2 (result.Ok x) h k = subst (λ ds. Goes ds at at2 a a2) rest_is (then_goes _ _ at at1 at2 a a1 a2 h k)
  rest_goes at at1 at2 a a1 a2 (result.Err s) h k = tt

  pub rest_sticks : {X : Type 0} → (at at1 at2 : At) (a a1 a2 : Agent) (r : Result X Stopped) → Goes (deeds (given_back o (first_frames folios))) at at1 a a1 → OnErr r (at2 ≡ at1) → IfErr r (λ s. Sticks at1 None s.stuck a1 a2) → IfErr r (λ s. SticksAfter (λ ds. ds ≡ deeds (after_truncate o reply) ++ end_with (truncate_answer reply) ∷ []) s.stuck at at2 a a2)
  rest_sticks at at1 at2 a a1 a2 (result.Ok x) h same k = tt
  rest_sticks at at1 at2 a a1 a2 (result.Err s) h same k =
      sticks_next (deeds (given_back o (first_frames folios))) (end_with (truncate_answer reply) ∷ []) rest_is at at1 at2 s.stuck a a1 a2 h same k

  pub give_sticks : (at at1 : At) (stuck : Stuck) (a a1 : Agent) → at1 ≡ at → Sticks at (turn_of (deeds (given_back o (first_frames folios)))) stuck a a1 → SticksAfter (λ ds. ds ≡ deeds (after_truncate o reply) ++ end_with (truncate_answer reply) ∷ []) stuck at at1 a a1
  give_sticks at at1 stuck a a1 same k =
      sticks_first (deeds (given_back o (first_frames folios)) ++ end_with (truncate_answer reply) ∷ []) rest_is at at1 stuck a a1 same (sticks_more at (deeds (given_back o (first_frames folios))) _ stuck a a1 k)

-- ---- the whole command

-- whatever is answered, the labels stay
stay : (ok : Bool) (labels : Labels) → labels ≡ (if ok then labels else labels)
stay true labels = refl
stay false labels = refl

module _ (labels : Labels) (label : List ℕ) (size : ℕ) where
  labels_stay : (s : Sequence) → labels ≡ labels_after labels (command.Truncate label size) s
  labels_stay s = stay (is_ok s.reply) labels

  module _ (none : None ≡ finmap.get labels label) where
    no_file_is : command_acts labels (command.Truncate label size) NoFile ≡ ending [] BadFd
    no_file_is = ap (λ f. on_label f (truncated size) NoFile) (sym none)

    -- no file has the label
    pub no_file : (at at1 : At) (a a1 : Agent) → Goes (end_with BadFd ∷ []) at at1 a a1 → Comes labels labels (command.Truncate label size) BadFd at at1 a a1
    no_file at at1 a a1 h = record {
      outcome = NoFile;
      sequence = record { acts = []; reply = BadFd };
      is_one = no_file_is;
      reply_is = refl;
      goes = h;
      labels_are = labels_stay (record { acts = []; reply = BadFd });
    }

    pub no_file_whole : AreWhole (command_acts labels (command.Truncate label size)) (end_with BadFd ∷ [])
    no_file_whole = record { outcome = NoFile; sequence = record { acts = []; reply = BadFd }; is_one = no_file_is; deeds_are = refl }

  module _ (f : FileNo) (found : Some f ≡ finmap.get labels label) where
    came_is : (x : TruncateOutcome) → command_acts labels (command.Truncate label size) (TruncateCame x) ≡ truncate_acts f size x
    came_is x = ap (λ o. on_label o (truncated size) (TruncateCame x)) (sym found)

    -- the sequences of a truncate of the label's file are those of the command
    pub of_file : (ds : List Deed) → AreWhole (truncate_acts f size) ds → AreWhole (command_acts labels (command.Truncate label size)) ds
    of_file = whole_by (truncate_acts f size) (command_acts labels (command.Truncate label size)) TruncateCame came_is

    pub came : (o : Order) (reply answer : Reply) (at at1 at2 : At) (a a1 a2 : Agent) → IsTruncateReply reply → answer ≡ truncate_answer reply → Goes (deed_at (file_no f.0) (truncate_read f o reply) (FileTruncate size) reply ∷ []) at at1 a a1 → Goes (deeds (after_truncate o reply) ++ end_with (truncate_answer reply) ∷ []) at1 at2 a1 a2 → Comes labels labels (command.Truncate label size) answer at at2 a a2
    came o reply answer at at1 at2 a a1 a2 is so h k = record {
      outcome = TruncateCame (outcome_of o reply);
      sequence = record { acts = acts_of f o size reply; reply = truncate_answer reply };
      is_one = came_is (outcome_of o reply) ∙ acts_are f o size reply is;
      reply_is = sym so;
      goes = then_goes _ _ at at1 at2 a a1 a2 h k;
      labels_are = labels_stay (record { acts = acts_of f o size reply; reply = truncate_answer reply });
    }

    -- the same by how the rest of the command came out
    pub ended : (o : Order) (reply : Reply) (at at1 at2 : At) (a a1 a2 : Agent) (r : Result Reply Stopped) → IsTruncateReply reply → IfOk r (λ answer. answer ≡ truncate_answer reply) → Goes (deed_at (file_no f.0) (truncate_read f o reply) (FileTruncate size) reply ∷ []) at at1 a a1 → OnOk r (Goes (deeds (after_truncate o reply) ++ end_with (truncate_answer reply) ∷ []) at1 at2 a1 a2) → IfOk r (λ answer. Comes labels labels (command.Truncate label size) answer at at2 a a2)
    ended o reply at at1 at2 a a1 a2 (result.Ok answer) is so h k = came o reply answer at at1 at2 a a1 a2 is so h k
    ended o reply at at1 at2 a a1 a2 (result.Err s) is so h k = tt

    pub stops : (o : Order) (reply : Reply) (at at1 at2 : At) (a a1 a2 : Agent) (r : Result Reply Stopped) → IsTruncateReply reply → Goes (deed_at (file_no f.0) (truncate_read f o reply) (FileTruncate size) reply ∷ []) at at1 a a1 → IfErr r (λ s. SticksAfter (λ ds. ds ≡ deeds (after_truncate o reply) ++ end_with (truncate_answer reply) ∷ []) s.stuck at1 at2 a1 a2) → IfErr r (λ s. SticksAfter (AreWhole (command_acts labels (command.Truncate label size))) s.stuck at at2 a a2)
    stops o reply at at1 at2 a a1 a2 (result.Ok answer) is h k = tt
    stops o reply at at1 at2 a a1 a2 (result.Err s) is h k =
        sticks_as of_file s.stuck at at2 a a2
        (sticks_later (deed_at (file_no f.0) (truncate_read f o reply) (FileTruncate size) reply ∷ []) (truncate_whole f o size reply is) at at1 at2 s.stuck a a1 a2 h k)
