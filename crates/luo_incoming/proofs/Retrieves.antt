-- The turns of a `retrieve`, and its sequences.
use Rattle.std.proofs.Common.{◌≡◌, ℕ, Bool, true, false, cond, List, [], ◌∷◌, ◌++◌, refl, sym, ap, subst, ◌∙◌}
use Rattle.std.specs.Prelude as result
use Rattle.std.specs.Prelude.{Option, None, Some, MatchOption, Result, IfOk, IfErr, OnOk, OnErr}
use Rattle.std.specs.FinMap as finmap
use Rattle.ho_base.specs.Objects.{registry_no, file_no, session_no}
use Rattle.ho_base.specs.declared.numbers.FileNo.{FileNo}
use Rattle.ho_base.specs.declared.numbers.Kind.TheVariants.{Memfd}
use Rattle.ho_base.specs.declared.numbers.Order.{Order}
use Rattle.ho_base.specs.declared.numbers.SlotNo.{SlotNo}
use Rattle.ho_base.specs.declared.numbers.Token.{Token}
use Rattle.ho_events.specs.History.{session_from}
use Rattle.ho_events.specs.Session.{SessionState, Listed, files_of, is_in}
use Rattle.ho_events.specs.declared.command.Command.TheVariants as command
use Rattle.ho_events.specs.declared.event.Event.TheVariants.{FileOpenHeld, RegFindIn, SessionTake}
use Rattle.ho_events.specs.declared.reply.Reply.{Reply}
use Rattle.ho_events.specs.declared.reply.Reply.TheVariants.{Ok, OkFile, OkSlot, AlreadyTaken, NoSession, NoToken}
use Rattle.ho_events.specs.declared.slip.At.{At}
use Rattle.ho_world.specs.Acts.{HasToken, IsFile, file, reference_at, registry, session}
use Rattle.ho_world.specs.Logs.{AreClaimed, Deed, HoldsOf, Known, deed_at, end_with, known_state}
use Rattle.ho_world.specs.Sequences.{Labels, RetrieveCame}
use Rattle.ho_world.specs.Sequences.Sessions.{MemfdTaken, NotGiven, NotOpened, listed, retrieve_acts}
use Rattle.ho_world.specs.World.{session_in}
use Rattle.ho_world.proofs.Grow.{session_run}
use Rattle.session_core.specs.SessionValues.{SessionIs, SessionValue}
use Rattle.session_core.specs.Taking.{found_by, found_of, take_answer}
use Rattle.machine_core.specs.declared.object.Object.{Object}
use Rattle.machine_core.specs.declared.object.Object.TheVariants.{Session}
use Rattle.machine_core.specs.Agents.{Agent, begun}
use Rattle.machine_core.specs.Commands.{Comes}
use Rattle.machine_core.specs.Objects.{known_of}
use Rattle.machine_core.specs.Turns.{Goes}
use Rattle.luo_calls.specs.Doing.{AreRest, AreWhole, SticksAfter}
use Rattle.luo_calls.specs.Opened.{Opens, without}
use Rattle.luo_calls.specs.Stuck.{Sticks, turn_of}
use Rattle.luo_calls.specs.declared.stuck.Stuck.{Stuck}
use Rattle.luo_calls.proofs.Chains.{then_goes}
use Rattle.luo_calls.proofs.Nested.{outer_goes, outer_sticks, sticks_next}
use Rattle.luo_incoming.specs.Replies.{IsTakeRefusal}
use Rattle.luo_incoming.specs.Retrieving.{retrieve_deeds, slot_opened}
use Rattle.luo_incoming.specs.declared.commands.retrieve.Retrieved.{Retrieved}
use Rattle.luo_incoming.specs.declared.commands.retrieve.Retrieved.TheVariants.{Refused, Taken}

-- ---- what the session answers

-- a session that refuses answers one of its refusals
refused_by : (b : Bool) (found : Option Listed) (r : Reply) → found_by b found ≡ result.Err r → IsTakeRefusal (take_answer (found_by b found) None)
refused_by false found r h = tt
refused_by true None r h = tt
refused_by true (Some l) r h = at l.taken h
  where
    out : Bool → Result (FileNo × ℕ) Reply
    out t = cond t (result.Err AlreadyTaken) (result.Ok (record { 0 = l.file }, l.handle))

    at : (t : Bool) → out t ≡ result.Err r → IsTakeRefusal (take_answer (out t) None)
    at true k = tt
    at false k = absurd cc

pub refused_answer : (h : Option SessionState) (name : List ℕ) (token : ℕ) (x : Result (FileNo × ℕ) Reply) (r v : Reply) → x ≡ result.Err r → MatchOption h ⊥ (λ s. x ≡ found_of s name token) → MatchOption h ⊥ (λ s. v ≡ take_answer (found_of s name token) None) → IsTakeRefusal v
refused_answer None name token x r v is e a = absurd e
refused_answer (Some s) name token x r v is e a = subst IsTakeRefusal (sym a) (refused_by _ _ r (sym e ∙ is))

-- one that has the file gives it
pub given_answer : (h : Option SessionState) (name : List ℕ) (token : ℕ) (f : FileNo × ℕ) (v : Reply) → MatchOption h ⊥ (λ s. found_of s name token ≡ result.Ok f) → MatchOption h ⊥ (λ s. v ≡ take_answer (found_of s name token) None) → v ≡ OkFile f.0
given_answer None name token f v e a = absurd e
given_answer (Some s) name token f v e a = a ∙ ap (λ x. take_answer x None) e

-- what was found, by what it is
pub found_is : (h : Option SessionState) (name : List ℕ) (token : ℕ) (x : Result (FileNo × ℕ) Reply) (f : FileNo × ℕ) → x ≡ result.Ok f → MatchOption h ⊥ (λ s. x ≡ found_of s name token) → MatchOption h ⊥ (λ s. found_of s name token ≡ result.Ok f)
found_is None name token x f is e = absurd e
found_is (Some s) name token x f is e = sym e ∙ is

-- ---- what it lists

listed_by : (b : Bool) (found : Option Listed) (f : FileNo) (handle : ℕ) → found_by b found ≡ result.Ok (f, handle) → reference_at found ≡ Some (listed f handle)
listed_by false found f handle h = absurd cc
listed_by true None f handle h = absurd cc
listed_by true (Some l) f handle h = at l.taken h
  where
    out : Bool → Result (FileNo × ℕ) Reply
    out t = cond t (result.Err AlreadyTaken) (result.Ok (record { 0 = l.file }, l.handle))

    given : Result (FileNo × ℕ) Reply → FileNo × ℕ
    given (result.Ok x) = x
    given (result.Err r) = (f, handle)

    at : (t : Bool) → out t ≡ result.Ok (f, handle) → reference_at (Some l) ≡ Some (listed f handle)
    at true k = absurd cc
    at false k = ap (λ (x : FileNo × ℕ). Some (record { file = x.0.0; handle = x.1 })) (ap given k)

pub token_claimed : (a : Agent) (hands : ℕ → Option Known) (slot : SlotNo) (v : SessionValue) (name : List ℕ) (token : ℕ) (f : FileNo) (handle : ℕ) → hands (session_no slot.0) ≡ Some (known_of (Session v)) → SessionIs v (λ s. found_of s name token ≡ result.Ok (f, handle)) → AreClaimed (begun a) hands (HasToken slot token (listed f handle) ∷ [])
token_claimed a hands slot v name token f handle held found =
    (subst (λ k. HoldsOf k (HasToken slot token (listed f handle))) (sym held) (go (session_from v.start v.history) refl found), tt)
  where
    leads : (s : SessionState) → session_from v.start v.history ≡ Some s → session_in (known_state (known_of (Session v))) ≡ s
    leads s e = rw (session_run v.start v.history, e) refl

    go : (x : Option SessionState) → session_from v.start v.history ≡ x → MatchOption x ⊥ (λ s. found_of s name token ≡ result.Ok (f, handle)) → reference_at (finmap.get (files_of (session_in (known_state (known_of (Session v))))) token) ≡ Some (listed f handle)
    go None e m = absurd m
    go (Some s) e m = ap (λ (t : SessionState). reference_at (finmap.get (files_of t) token)) (leads s e) ∙ listed_by (is_in s name) (finmap.get (files_of s) token) f handle m

-- ---- deeds

-- the file was opened, and then it was taken
pub taken_goes : (s : SlotNo) (name : List ℕ) (t : Token) (f : FileNo) (o : Order) (handle : ℕ) (r : Reply) (at at1 at2 : At) (b b1 b2 : Agent) → r ≡ OkFile f → Goes (deed_at (file_no f.0) (IsFile f Memfd o ∷ []) FileOpenHeld Ok ∷ []) at at1 b b1 → Goes (deed_at (session_no s.0) (HasToken s t.0 (listed f handle) ∷ []) (SessionTake name t) r ∷ []) at1 at2 b1 b2 → Goes (retrieve_deeds s name t (Taken f o handle)) at at2 b b2
taken_goes s name t f o handle r at at1 at2 b b1 b2 is h k =
    then_goes _ _ at at1 at2 b b1 b2 h
    (subst (λ (x : Reply). Goes (deed_at (session_no s.0) (HasToken s t.0 (listed f handle) ∷ []) (SessionTake name t) x ∷ []) at1 at2 b1 b2) is k)

-- the same, seen from before the session was taken
pub outer_comes : (s : SlotNo) (name : List ℕ) (t : Token) (n : ℕ) (at at1 : At) (a a1 a2 : Agent) (o : Object) (r : Result Retrieved Stuck) → Opens at n a a1 o → a.hands n ≡ None → IfOk r (λ x. Goes (retrieve_deeds s name t x) at at1 (without n a1) a2) → IfOk r (λ x. Goes (retrieve_deeds s name t x) at at1 a a2)
outer_comes s name t n at at1 a a1 a2 o (result.Ok x) opens free h = outer_goes _ at at1 n a a1 a2 o opens free h
outer_comes s name t n at at1 a a1 a2 o (result.Err stuck) opens free h = tt

pub outer_stops : (W : List Deed → Type 0) (n : ℕ) (at at1 : At) (a a1 a2 : Agent) (o : Object) (r : Result Retrieved Stuck) → Opens at n a a1 o → a.hands n ≡ None → IfErr r (λ stuck. SticksAfter W stuck at at1 (without n a1) a2) → IfErr r (λ stuck. SticksAfter W stuck at at1 a a2)
outer_stops W n at at1 a a1 a2 o (result.Ok x) opens free h = tt
outer_stops W n at at1 a a1 a2 o (result.Err stuck) opens free h = outer_sticks at at1 stuck n a a1 a2 o opens free h

-- ---- sequences

-- no name was opened
abbrev pub none_opened : List ℕ → List Deed
none_opened name = deed_at registry_no [] (RegFindIn name) NoSession ∷ []

-- the deeds of its whole sequences, once the slot was found
module _ (name : List ℕ) (token : Token) where
  pub no_name_whole : AreWhole (retrieve_acts name token) (none_opened name ++ end_with NoSession ∷ [])
  no_name_whole = record {
    outcome = NotOpened;
    sequence = record { acts = registry (RegFindIn name) NoSession ∷ []; reply = NoSession };
    is_one = refl;
    deeds_are = refl;
  }

  module _ (slot : SlotNo) where
    pub refused_whole : (x : Reply) → IsTakeRefusal x → AreRest (retrieve_acts name token) (slot_opened name slot) (deed_at (session_no slot.0) [] (SessionTake name token) x ∷ end_with x ∷ [])
    refused_whole NoSession is = record { outcome = NotGiven slot NoSession; sequence = record { acts = registry (RegFindIn name) (OkSlot slot) ∷ session slot [] (SessionTake name token) NoSession ∷ []; reply = NoSession }; is_one = refl; deeds_are = refl }
    refused_whole NoToken is = record { outcome = NotGiven slot NoToken; sequence = record { acts = registry (RegFindIn name) (OkSlot slot) ∷ session slot [] (SessionTake name token) NoToken ∷ []; reply = NoToken }; is_one = refl; deeds_are = refl }
    refused_whole AlreadyTaken is = record { outcome = NotGiven slot AlreadyTaken; sequence = record { acts = registry (RegFindIn name) (OkSlot slot) ∷ session slot [] (SessionTake name token) AlreadyTaken ∷ []; reply = AlreadyTaken }; is_one = refl; deeds_are = refl }
    refused_whole x is = absurd is

    pub taken_whole : (f : FileNo) (o : Order) (handle : ℕ) → AreRest (retrieve_acts name token) (slot_opened name slot) (retrieve_deeds slot name token (Taken f o handle) ++ end_with Ok ∷ [])
    taken_whole f o handle = record {
      outcome = MemfdTaken slot f o handle;
      sequence = record {
        acts =
            registry (RegFindIn name) (OkSlot slot) ∷ file f (IsFile f Memfd o ∷ []) FileOpenHeld Ok
            ∷ session slot (HasToken slot token.0 (listed f handle) ∷ []) (SessionTake name token) (OkFile f) ∷ [];
        reply = Ok;
      };
      is_one = refl;
      deeds_are = refl;
    }

-- those of the command
module _ (labels labels' : Labels) (name : List ℕ) (token : Token) (label : List ℕ) (at at1 at2 : At) (a a1 a2 : Agent) where
  -- no session of the name is opened
  pub no_name : labels' ≡ labels → Goes (none_opened name) at at1 a a1 → Goes (end_with NoSession ∷ []) at1 at2 a1 a2 → Comes labels labels' (command.Retrieve name token label) NoSession at at2 a a2
  no_name same h k = record {
    outcome = RetrieveCame NotOpened;
    sequence = record { acts = registry (RegFindIn name) NoSession ∷ []; reply = NoSession };
    is_one = refl;
    reply_is = refl;
    goes = then_goes _ _ at at1 at2 a a1 a2 h k;
    labels_are = same;
  }

  module _ (slot : SlotNo) (at3 : At) (a3 : Agent) (found : Goes (slot_opened name slot) at at1 a a1) where
    -- the session refuses, and the labels stay
    pub refused : (x : Reply) → IsTakeRefusal x → labels' ≡ labels → Goes (retrieve_deeds slot name token (Refused x)) at1 at2 a1 a2 → Goes (end_with x ∷ []) at2 at3 a2 a3 → Comes labels labels' (command.Retrieve name token label) x at at3 a a3
    refused NoSession is same h k = record { outcome = RetrieveCame (NotGiven slot NoSession); sequence = record { acts = registry (RegFindIn name) (OkSlot slot) ∷ session slot [] (SessionTake name token) NoSession ∷ []; reply = NoSession }; is_one = refl; reply_is = refl; goes = then_goes _ _ at at2 at3 a a2 a3 (then_goes _ _ at at1 at2 a a1 a2 found h) k; labels_are = same }
    refused NoToken is same h k = record { outcome = RetrieveCame (NotGiven slot NoToken); sequence = record { acts = registry (RegFindIn name) (OkSlot slot) ∷ session slot [] (SessionTake name token) NoToken ∷ []; reply = NoToken }; is_one = refl; reply_is = refl; goes = then_goes _ _ at at2 at3 a a2 a3 (then_goes _ _ at at1 at2 a a1 a2 found h) k; labels_are = same }
    refused AlreadyTaken is same h k = record { outcome = RetrieveCame (NotGiven slot AlreadyTaken); sequence = record { acts = registry (RegFindIn name) (OkSlot slot) ∷ session slot [] (SessionTake name token) AlreadyTaken ∷ []; reply = AlreadyTaken }; is_one = refl; reply_is = refl; goes = then_goes _ _ at at2 at3 a a2 a3 (then_goes _ _ at at1 at2 a a1 a2 found h) k; labels_are = same }
    refused x is same h k = absurd is

    -- the file was taken, and the label is bound to it
    pub taken : (f : FileNo) (o : Order) (handle : ℕ) → labels' ≡ finmap.insert labels label f → Goes (retrieve_deeds slot name token (Taken f o handle)) at1 at2 a1 a2 → Goes (end_with Ok ∷ []) at2 at3 a2 a3 → Comes labels labels' (command.Retrieve name token label) Ok at at3 a a3
    taken f o handle bound h k = record {
      outcome = RetrieveCame (MemfdTaken slot f o handle);
      sequence = record {
        acts =
            registry (RegFindIn name) (OkSlot slot) ∷ file f (IsFile f Memfd o ∷ []) FileOpenHeld Ok
            ∷ session slot (HasToken slot token.0 (listed f handle) ∷ []) (SessionTake name token) (OkFile f) ∷ [];
        reply = Ok;
      };
      is_one = refl;
      reply_is = refl;
      goes = then_goes _ _ at at2 at3 a a2 a3 (then_goes _ _ at at1 at2 a a1 a2 found h) k;
      labels_are = bound;
    }

    -- the session refuses, by how the command's end came out
    pub refused_told : (x : Reply) (r : Result Reply Stuck) → IsTakeRefusal x → labels' ≡ labels → Goes (retrieve_deeds slot name token (Refused x)) at1 at2 a1 a2 → IfOk r (λ told. told ≡ x) → OnOk r (Goes (end_with x ∷ []) at2 at3 a2 a3) → IfOk r (λ reply. Comes labels labels' (command.Retrieve name token label) reply at at3 a a3)
    refused_told x (result.Ok y) is same h told k = subst (λ (z : Reply). Comes labels labels' (command.Retrieve name token label) z at at3 a a3) (sym told) (refused x is same h k)
    refused_told x (result.Err stuck) is same h told k = tt

-- the same deeds, by how they came out
pub came_as : (slot : SlotNo) (name : List ℕ) (token : Token) (p q : Retrieved) (at at' : At) (a a' : Agent) → p ≡ q → Goes (retrieve_deeds slot name token p) at at' a a' → Goes (retrieve_deeds slot name token q) at at' a a'
came_as slot name token p q at at' a a' is h = subst (λ (x : Retrieved). Goes (retrieve_deeds slot name token x) at at' a a') is h

-- the command can't be ended
pub told_sticks : (W : List Deed → Type 0) (ds due : List Deed) → W (ds ++ due) → (at at1 at2 : At) (a a1 a2 : Agent) (r : Result Reply Stuck) → Goes ds at at1 a a1 → OnErr r (at2 ≡ at1) → IfErr r (λ stuck. Sticks at1 (turn_of due) stuck a1 a2) → IfErr r (λ stuck. SticksAfter W stuck at at2 a a2)
told_sticks W ds due front at at1 at2 a a1 a2 (result.Ok x) h same s = tt
told_sticks W ds due front at at1 at2 a a1 a2 (result.Err stuck) h same s = sticks_next ds due front at at1 at2 stuck a a1 a2 h same s
