-- The turns of a `preserve`, and its sequences.
use Rattle.std.proofs.Common.{◌≡◌, ℕ, ◌<◌, Bool, true, false, IsTrue, List, [], ◌∷◌, ◌++◌, length, map, refl, sym, ap, subst, ◌∙◌, append_assoc, arith, cond}
use Rattle.std.specs.Prelude.{Option, None, Some, MatchOption, Result, IfOk, IfErr, OnOk, OnErr}
use Rattle.std.specs.Prelude as result
use Rattle.std.specs.FinMap as finmap
use Rattle.std.specs.declared.snapshot.Snapshot.{Snapshot}
use Rattle.ho_base.specs.declared.items.Items.{Items}
use Rattle.ho_base.specs.Objects.{registry_no, file_no, session_no}
use Rattle.ho_base.specs.declared.numbers.FileNo.{FileNo}
use Rattle.ho_base.specs.declared.numbers.Kind.TheVariants.{Memfd}
use Rattle.ho_base.specs.declared.numbers.Order.{Order}
use Rattle.ho_base.specs.declared.numbers.Pfn.{Pfn}
use Rattle.ho_base.specs.declared.numbers.SlotNo.{SlotNo}
use Rattle.ho_base.specs.declared.numbers.Token.{Token}
use Rattle.ho_events.specs.Session.{SessionState}
use Rattle.ho_events.specs.declared.command.Command.TheVariants as command
use Rattle.ho_events.specs.declared.event.Event.{Event}
use Rattle.ho_events.specs.declared.event.Event.TheVariants.{FilePin, PoolMark, PoolTake, RegFindOut, SessionAdd}
use Rattle.ho_events.specs.declared.reply.Reply.{Reply}
use Rattle.ho_events.specs.declared.reply.Reply.TheVariants.{Ok, OkRuns, OkSlot, NoFrames, NoFramesOf, NoSession, NotFinished, AlreadyPinned, BadFd, SessionFull, TokenTaken}
use Rattle.ho_events.specs.declared.slip.At.{At}
use Rattle.ho_world.specs.Acts.{Act, Claim, IsFile, Sequence, ending, pool, registry, session, file, unless_empty}
use Rattle.ho_world.specs.Entries.{is_ok}
use Rattle.ho_world.specs.Logs.{Paired, Deed, deed_at, deed_of, end_with, AreDone}
use Rattle.ho_world.specs.Sequences.{Labels, NoFile, Outcome, PreserveCame, command_acts, on_label, preserved}
use Rattle.ho_world.specs.Sequences.Files.{fits_file}
use Rattle.ho_world.specs.Sequences.Preserving as preserving
use Rattle.ho_world.specs.Sequences.Preserving.{PreserveOutcome, is_pin_refusal, is_session_refusal, no_or_fits, preserve_acts, take_holes}
use Rattle.ho_world.specs.World.{State}
use Rattle.session_core.specs.Sessions.{add_answer, is_loss, refusal_by, refusal_of}
use Rattle.machine_core.specs.declared.object.Object.{Object}
use Rattle.machine_core.specs.Agents.{Agent}
use Rattle.machine_core.specs.Commands.{Comes}
use Rattle.machine_core.specs.Turns.{Goes}
use Rattle.luo_calls.specs.Doing.{AreRest, AreWhole, SticksAfter, slot_found}
use Rattle.luo_calls.specs.Opened.{Opens, without}
use Rattle.luo_calls.specs.Pins.{ArePins, IsPin, pin_deeds, pinned_with}
use Rattle.luo_calls.specs.Preserved.{added, after_pin, marked, pin_reply, preserve_deeds, reply_to, IsEnd, IsPreserved, PreservesSlot}
use Rattle.luo_calls.specs.Stuck.{Sticks, turn, turn_of}
use Rattle.luo_calls.specs.declared.commands.preserve.Preserved.{Preserved}
use Rattle.luo_calls.specs.declared.commands.preserve.Preserved.TheVariants.{NotAdmitted, Tried}
use Rattle.luo_calls.specs.declared.stuck.Stopped.{Stopped}
use Rattle.luo_calls.specs.declared.stuck.Stuck.{Stuck}
use Rattle.luo_calls.specs.declared.turns.pin.Pin.{Pin}
use Rattle.luo_calls.specs.declared.turns.pin.Pin.TheVariants as pin
use Rattle.luo_calls.specs.declared.turns.pin.Pin.TheVariants.{Refused, Whole}
use Rattle.luo_calls.proofs.Chains.{then_goes}
use Rattle.luo_calls.proofs.Nested.{outer_goes, outer_sticks, sticks_before, sticks_front, sticks_later}
use Rattle.luo_calls.proofs.Steps.{goes_none}
use Rattle.luo_calls.proofs.Sticking.{whole_by}

-- ---- what is answered

-- a session that admits the file adds it, or answers what the caller brings in
pub admitted_answer : (h : Option SessionState) (name : List ℕ) (token : ℕ) (lost : Option Reply) (v : Reply) → MatchOption h ⊥ (λ s. refusal_of s name token ≡ None) → MatchOption h ⊥ (λ s. v ≡ add_answer (refusal_of s name token) lost) → v ≡ add_answer None lost
admitted_answer None name token lost v r a = absurd r
admitted_answer (Some s) name token lost v r a = a ∙ ap (λ o. add_answer o lost) r

-- a session that refuses it answers so
refused_by : (out full taken : Bool) (r : Reply) → Some r ≡ refusal_by out full taken → IsTrue (is_session_refusal (add_answer (refusal_by out full taken) None))
refused_by false full taken r e = refl
refused_by true true taken r e = refl
refused_by true false true r e = refl
refused_by true false false r e = absurd cc

pub refused_answer : (h : Option SessionState) (name : List ℕ) (token : ℕ) (o : Option Reply) (r v : Reply) → o ≡ Some r → MatchOption h ⊥ (λ s. o ≡ refusal_of s name token) → MatchOption h ⊥ (λ s. v ≡ add_answer (refusal_of s name token) None) → IsTrue (is_session_refusal v)
refused_answer None name token o r v is e a = absurd e
refused_answer (Some s) name token o r v is e a = subst (λ w. IsTrue (is_session_refusal w)) (sym a) (refused_by _ _ _ r (sym is ∙ e))

-- what the file's pin refuses is a loss
pub pin_loss : (r : Reply) → IsTrue (is_pin_refusal r) → IsTrue (is_loss r)
pin_loss NotFinished h = refl
pin_loss AlreadyPinned h = refl
pin_loss r h = absurd cc

-- ---- deeds

-- the same reply
pub replied : (n : ℕ) (claims : List Claim) (event : Event) (r q : Reply) (at at' : At) (a a' : Agent) → r ≡ q → Goes (deed_at n claims event r ∷ []) at at' a a' → Goes (deed_at n claims event q ∷ []) at at' a a'
replied n claims event r q at at' a a' e h = subst (λ (x : Reply). Goes (deed_at n claims event x ∷ []) at at' a a') e h

-- no run is marked
pub none_marked : (o : Order) (runs : List Pfn) (at : At) (a : Agent) → length runs < 1 → Goes (marked o runs) at at a a
none_marked o [] at a few = goes_none at a a refl refl refl refl refl refl refl
none_marked o (r ∷ rs) at a few = absurd (omega (arith, few))

-- what is read at a deed needn't be said
less_done : (f : ℕ → Option State) (at : At) (last n : ℕ) (claims : List Claim) (event : Event) (reply : Reply) (ps : List Paired) (last' : ℕ) → AreDone f at last (deed_at n claims event reply ∷ []) ps last' → AreDone f at last (deed_at n [] event reply ∷ []) ps last'
unfolding AreDone
less_done f at last n claims event reply [] last' h = absurd h
less_done f at last n claims event reply (p ∷ ps) last' h = (h.0, h.1, h.2, tt, h.4)

pub unread : (n : ℕ) (claims : List Claim) (event : Event) (reply : Reply) (at at' : At) (a a' : Agent) → Goes (deed_at n claims event reply ∷ []) at at' a a' → Goes (deed_at n [] event reply ∷ []) at at' a a'
unread n claims event reply at at' a a' g = record {
  made = g.made;
  log = g.log;
  done = less_done _ at at.last n claims event reply g.made at'.last g.done;
  at_is = g.at_is;
  number = g.number;
  anchor = g.anchor;
  starts = g.starts;
  earlier = g.earlier;
  hands = g.hands;
  told = g.told;
}

-- ---- the turns on the session and the file

pub same_runs : (o : Order) (runs rs : List Pfn) (at at' : At) (a a' : Agent) → runs ≡ rs → Goes (marked o runs) at at' a a' → Goes (marked o rs) at at' a a'
same_runs o runs rs at at' a a' e h = subst (λ xs. Goes (marked o xs) at at' a a') e h

-- the same, seen from before the session was taken
pub outer_comes : (s : SlotNo) (name : List ℕ) (t : Token) (f : FileNo) (n : ℕ) (at at1 : At) (a a1 a2 : Agent) (o : Object) (r : Result Preserved Stopped) → Opens at n a a1 o → a.hands n ≡ None → IfOk r (λ p. Goes (preserve_deeds s name t f p) at at1 (without n a1) a2) → IfOk r (λ p. Goes (preserve_deeds s name t f p) at at1 a a2)
outer_comes s name t f n at at1 a a1 a2 o (result.Ok p) opens free h = outer_goes _ at at1 n a a1 a2 o opens free h
outer_comes s name t f n at at1 a a1 a2 o (result.Err x) opens free h = tt

pub outer_stops : (W : List Deed → Type 0) (n : ℕ) (at at1 : At) (a a1 a2 : Agent) (o : Object) (r : Result Preserved Stopped) → Opens at n a a1 o → a.hands n ≡ None → IfErr r (λ x. SticksAfter W x.stuck at at1 (without n a1) a2) → IfErr r (λ x. SticksAfter W x.stuck at at1 a a2)
outer_stops W n at at1 a a1 a2 o (result.Ok p) opens free h = tt
outer_stops W n at at1 a a1 a2 o (result.Err x) opens free h = outer_sticks at at1 x.stuck n a a1 a2 o opens free h

-- ---- sequences

-- the labels stay, whatever the reply
stay : (labels : Labels) (b : Bool) → labels ≡ cond b labels labels
stay labels true = refl
stay labels false = refl

abbrev refused_acts : List ℕ → Token → FileNo → SlotNo → Reply → Sequence
refused_acts name t f s x = record { acts = registry (RegFindOut name) (OkSlot s) ∷ session s [] (SessionAdd name t f 0) x ∷ []; reply = x }

abbrev lost_acts : List ℕ → Token → FileNo → SlotNo → Reply → Sequence
lost_acts name t f s x = record { acts = registry (RegFindOut name) (OkSlot s) ∷ file f [] (FilePin []) x ∷ session s [] (SessionAdd name t f 0) x ∷ []; reply = x }

abbrev starved_acts : List ℕ → Token → FileNo → SlotNo → Order → ℕ → Sequence
starved_acts name t f s o h = record {
  acts =
      registry (RegFindOut name) (OkSlot s) ∷ pool (IsFile f Memfd o ∷ []) (PoolTake o h) NoFrames
      ∷ file f (IsFile f Memfd o ∷ []) (FilePin []) (NoFramesOf h) ∷ session s [] (SessionAdd name t f 0) NoFrames ∷ [];
  reply = NoFrames;
}

abbrev pinned_acts : List ℕ → Token → FileNo → SlotNo → Order → List Pfn → List Pfn → Sequence
pinned_acts name t f s o fills runs = record {
  acts =
      registry (RegFindOut name) (OkSlot s)
      ∷ (take_holes f o fills
      ++ file f (IsFile f Memfd o ∷ []) (FilePin fills) (OkRuns runs)
      ∷ (unless_empty runs (pool [] (PoolMark o runs) Ok) ++ session s [] (SessionAdd name t f 0) Ok ∷ []));
  reply = Ok;
}

-- no slot has the name
abbrev pub no_slot : List ℕ → List Deed
no_slot name = deed_at registry_no [] (RegFindOut name) NoSession ∷ []

-- a whole sequence, from the question for the slot on, that ends so
pub record Ends (name : List ℕ) (token : Token) (f : FileNo) (slot : SlotNo) (ds : List Deed) (x : Reply) : Type 0 where
  pub outcome : PreserveOutcome
  pub acts : List Act
  pub is_one : preserve_acts name token f outcome ≡ ending (registry (RegFindOut name) (OkSlot slot) ∷ acts) x
  pub deeds_are : ds ++ end_with x ∷ [] ≡ map deed_of acts ++ end_with x ∷ []

-- the deeds of its whole sequences, once the slot was found
module _ (name : List ℕ) (token : Token) (f : FileNo) where
  pub no_name_whole : AreWhole (preserve_acts name token f) (deed_at registry_no [] (RegFindOut name) NoSession ∷ end_with NoSession ∷ [])
  no_name_whole = record {
    outcome = preserving.NoName;
    sequence = record { acts = registry (RegFindOut name) NoSession ∷ []; reply = NoSession };
    is_one = refl;
    deeds_are = refl;
  }

  module _ (slot : SlotNo) where
    refused_ends : (x : Reply) → IsTrue (is_session_refusal x) → Ends name token f slot (added slot name token f x) x
    refused_ends x is = record {
      outcome = preserving.NotAdmitted slot x;
      acts = session slot [] (SessionAdd name token f 0) x ∷ [];
      is_one = ap (λ b. cond b (Some (refused_acts name token f slot x)) None) is;
      deeds_are = refl;
    }

    lost_ends : (x : Reply) → IsTrue (is_pin_refusal x) → Ends name token f slot (pin_deeds f (Refused x) ++ after_pin slot name token f (Refused x)) x
    lost_ends x is = record {
      outcome = preserving.NotPinned slot x;
      acts = file f [] (FilePin []) x ∷ session slot [] (SessionAdd name token f 0) x ∷ [];
      is_one = ap (λ b. cond b (Some (lost_acts name token f slot x)) None) is;
      deeds_are = refl;
    }

    starved_ends : (o : Order) (h : ℕ) → IsTrue (fits_file o h) → Ends name token f slot (pin_deeds f (pin.Starved o h) ++ after_pin slot name token f (pin.Starved o h)) NoFrames
    starved_ends o h fits = record {
      outcome = preserving.HolesStarved slot o h;
      acts =
          pool (IsFile f Memfd o ∷ []) (PoolTake o h) NoFrames
          ∷ file f (IsFile f Memfd o ∷ []) (FilePin []) (NoFramesOf h) ∷ session slot [] (SessionAdd name token f 0) NoFrames ∷ [];
      is_one = ap (λ b. cond b (Some (starved_acts name token f slot o h)) None) fits;
      deeds_are = refl;
    }

    pinned_deeds : (o : Order) (fills runs : List Pfn) →
        ((map deed_of (take_holes f o fills) ++ pinned_with f o fills (OkRuns runs) ∷ []) ++ (marked o runs ++ added slot name token f Ok)) ++ end_with Ok ∷ []
        ≡ map deed_of (take_holes f o fills ++ file f (IsFile f Memfd o ∷ []) (FilePin fills) (OkRuns runs) ∷ (unless_empty runs (pool [] (PoolMark o runs) Ok) ++ session slot [] (SessionAdd name token f 0) Ok ∷ [])) ++ end_with Ok ∷ []
    pinned_deeds o [] [] = refl
    pinned_deeds o [] (r ∷ rs) = refl
    pinned_deeds o (p ∷ ps) [] = refl
    pinned_deeds o (p ∷ ps) (r ∷ rs) = refl

    pinned_ends : (o : Order) (fills : Snapshot (Items Pfn)) (runs : List Pfn) → IsTrue (no_or_fits o fills.value) → Ends name token f slot (pin_deeds f (Whole o fills runs) ++ after_pin slot name token f (Whole o fills runs)) Ok
    pinned_ends o fills runs fits = record {
      outcome = preserving.Pinned slot o fills.value runs;
      acts =
          take_holes f o fills.value
          ++ file f (IsFile f Memfd o ∷ []) (FilePin fills.value) (OkRuns runs)
          ∷ (unless_empty runs (pool [] (PoolMark o runs) Ok) ++ session slot [] (SessionAdd name token f 0) Ok ∷ []);
      is_one = ap (λ b. cond b (Some (pinned_acts name token f slot o fills.value runs)) None) fits;
      deeds_are = pinned_deeds o fills.value runs;
    }

    tried_ends : (p : Pin) → IsPin p → Ends name token f slot (pin_deeds f p ++ after_pin slot name token f p) (pin_reply p)
    tried_ends (Refused x) is = lost_ends x is
    tried_ends (pin.Starved o h) is = starved_ends o h is
    tried_ends (Whole o fills runs) is = pinned_ends o fills runs is.0

    pub came_ends : (p : Preserved) → IsPreserved p → Ends name token f slot (preserve_deeds slot name token f p) (reply_to p)
    came_ends (NotAdmitted x) is = refused_ends x is
    came_ends (Tried p) is = tried_ends p is

    ends_whole : (ds : List Deed) (x : Reply) → Ends name token f slot ds x → AreRest (preserve_acts name token f) (slot_found name slot) (ds ++ end_with x ∷ [])
    ends_whole ds x e = record {
      outcome = e.outcome;
      sequence = record { acts = registry (RegFindOut name) (OkSlot slot) ∷ e.acts; reply = x };
      is_one = e.is_one;
      deeds_are = ap (λ rest. slot_found name slot ++ rest) e.deeds_are;
    }

    pub came_whole : (p : Preserved) → IsPreserved p → AreRest (preserve_acts name token f) (slot_found name slot) (preserve_deeds slot name token f p ++ end_with (reply_to p) ∷ [])
    came_whole p is = ends_whole _ _ (came_ends p is)

    pub refused_whole : (x : Reply) → IsTrue (is_session_refusal x) → AreRest (preserve_acts name token f) (slot_found name slot) (added slot name token f x ++ end_with x ∷ [])
    refused_whole x is = came_whole (NotAdmitted x) is

    -- what may come after a pin, and what comes after one that came out so
    pub pins_whole : (ds : List Deed) → ArePins f ds → (more : List Deed) × AreRest (preserve_acts name token f) (slot_found name slot) (ds ++ more)
    pins_whole ds p = (
      after_pin slot name token f p.outcome ++ end_with (pin_reply p.outcome) ∷ [],
      subst (λ xs. AreRest (preserve_acts name token f) (slot_found name slot) (xs ++ (after_pin slot name token f p.outcome ++ end_with (pin_reply p.outcome) ∷ []))) (sym p.deeds_are)
          (subst (AreRest (preserve_acts name token f) (slot_found name slot)) (append_assoc (pin_deeds f p.outcome) (after_pin slot name token f p.outcome) (end_with (pin_reply p.outcome) ∷ [])) (came_whole (Tried p.outcome) p.fits)),
    )

    pub after_whole : (p : Pin) → IsPin p → (ds : List Deed) → ds ≡ after_pin slot name token f p → AreRest (preserve_acts name token f) (slot_found name slot) (pin_deeds f p ++ (ds ++ end_with (pin_reply p) ∷ []))
    unfolding pins_whole
    after_whole p is ds same =
        subst (λ xs. AreRest (preserve_acts name token f) (slot_found name slot) (pin_deeds f p ++ (xs ++ end_with (pin_reply p) ∷ []))) (sym same)
        (pins_whole (pin_deeds f p) (record { outcome = p; fits = is; deeds_are = refl })).1

-- those of the command
module _ (labels : Labels) (name : List ℕ) (token : Token) (label : List ℕ) where
  pub no_file_whole : finmap.get labels label ≡ None → AreWhole (command_acts labels (command.Preserve name token label)) (end_with BadFd ∷ [])
  no_file_whole none = record {
    outcome = NoFile;
    sequence = record { acts = []; reply = BadFd };
    is_one = ap (λ o. on_label o (preserved name token) NoFile) none;
    deeds_are = refl;
  }

  pub of_file : (f : FileNo) → finmap.get labels label ≡ Some f → (ds : List Deed) → AreWhole (preserve_acts name token f) ds → AreWhole (command_acts labels (command.Preserve name token label)) ds
  of_file f bound =
      whole_by (preserve_acts name token f) (command_acts labels (command.Preserve name token label)) PreserveCame
      (λ x. ap (λ o. on_label o (preserved name token) (PreserveCame x)) bound)

-- ---- the turns after the slot was found

-- a pin can't be made
pub pin_stops : (name : List ℕ) (token : Token) (f : FileNo) (slot : SlotNo) (at at1 : At) (stuck : Stuck) (a a1 : Agent) → SticksAfter (ArePins f) stuck at at1 a a1 → SticksAfter (AreRest (preserve_acts name token f) (slot_found name slot)) stuck at at1 a a1
pin_stops name token f slot at at1 stuck a a1 s =
    sticks_front {V = ArePins f} {W = AreRest (preserve_acts name token f) (slot_found name slot)} (pins_whole name token f slot) at at1 stuck a a1 s

-- what follows a pin can't be done
pub after_stops : (name : List ℕ) (token : Token) (f : FileNo) (slot : SlotNo) (p : Pin) (at at1 at2 : At) (stuck : Stuck) (a a1 a2 : Agent) → IsPin p → Goes (pin_deeds f p) at at1 a a1 → SticksAfter (λ ds. ds ≡ after_pin slot name token f p) stuck at1 at2 a1 a2 → SticksAfter (AreRest (preserve_acts name token f) (slot_found name slot)) stuck at at2 a a2
after_stops name token f slot p at at1 at2 stuck a a1 a2 is g s =
    sticks_later {V = λ ds. AreRest (preserve_acts name token f) (slot_found name slot) (pin_deeds f p ++ ds)} {W = AreRest (preserve_acts name token f) (slot_found name slot)} (pin_deeds f p) (λ rest h. h) at at1 at2 stuck a a1 a2 g
    (sticks_before {V = λ ds. ds ≡ after_pin slot name token f p} {W = λ ds. AreRest (preserve_acts name token f) (slot_found name slot) (pin_deeds f p ++ ds)} (end_with (pin_reply p) ∷ []) (after_whole name token f slot p is) at1 at2 stuck a1 a2 s)

pub tried_goes : (name : List ℕ) (token : Token) (f : FileNo) (slot : SlotNo) (p q : Pin) (at at1 at2 : At) (a a1 a2 : Agent) → q ≡ p → Goes (pin_deeds f p) at at1 a a1 → Goes (after_pin slot name token f p) at1 at2 a1 a2 → Goes (preserve_deeds slot name token f (Tried q)) at at2 a a2
tried_goes name token f slot p q at at1 at2 a a1 a2 same h k =
    subst (λ (x : Pin). Goes (preserve_deeds slot name token f (Tried x)) at at2 a a2) (sym same) (then_goes _ _ at at1 at2 a a1 a2 h k)

-- the last reply
pub is_end : (p : Preserved) → IsPreserved p → IsEnd (reply_to p)
is_end (NotAdmitted x) is = refused_end x is
  where
    refused_end : (x : Reply) → IsTrue (is_session_refusal x) → IsEnd x
    refused_end NoSession is = tt
    refused_end SessionFull is = tt
    refused_end TokenTaken is = tt
    refused_end x is = absurd cc
is_end (Tried p) is = tried_end p is
  where
    lost_end : (x : Reply) → IsTrue (is_pin_refusal x) → IsEnd x
    lost_end NotFinished is = tt
    lost_end AlreadyPinned is = tt
    lost_end x is = absurd cc

    tried_end : (p : Pin) → IsPin p → IsEnd (pin_reply p)
    tried_end (Refused x) is = lost_end x is
    tried_end (pin.Starved o h) is = tt
    tried_end (Whole o fills runs) is = tt

pub came_slot : (name : List ℕ) (token : Token) (f : FileNo) (slot : SlotNo) (p : Preserved) (x y : Reply) (at at1 at2 : At) (a a1 a2 : Agent) → x ≡ reply_to p → y ≡ x → IsPreserved p → Goes (preserve_deeds slot name token f p) at at1 a a1 → Goes (end_with x ∷ []) at1 at2 a1 a2 → PreservesSlot name token f slot y at at2 a a2
came_slot name token f slot p x y at at1 at2 a a1 a2 is told fits h k =
    subst (λ (z : Reply). PreservesSlot name token f slot z at at2 a a2) (sym (told ∙ is))
    (let e : Ends name token f slot (preserve_deeds slot name token f p) (reply_to p) = came_ends name token f slot p fits in
    record {
      outcome = e.outcome;
      acts = e.acts;
      is_one = e.is_one;
      goes = subst (λ ds. Goes ds at at2 a a2) e.deeds_are (then_goes _ _ at at1 at2 a a1 a2 h (subst (λ (z : Reply). Goes (end_with z ∷ []) at1 at2 a1 a2) is k));
    })

-- ---- the whole command

module _ (labels : Labels) (name : List ℕ) (token : Token) (label : List ℕ) (at at1 : At) (a a1 : Agent) where
  -- no file has the label
  pub no_file : finmap.get labels label ≡ None → Goes (end_with BadFd ∷ []) at at1 a a1 → Comes labels labels (command.Preserve name token label) BadFd at at1 a a1
  no_file none h = record {
    outcome = NoFile;
    sequence = record { acts = []; reply = BadFd };
    is_one = ap (λ o. on_label o (preserved name token) NoFile) none;
    reply_is = refl;
    goes = h;
    labels_are = refl;
  }

  module _ (at2 : At) (a2 : Agent) (f : FileNo) (bound : finmap.get labels label ≡ Some f) where
    acts_of : (x : Outcome) → command_acts labels (command.Preserve name token label) x ≡ preserved name token f x
    acts_of x = ap (λ o. on_label o (preserved name token) x) bound

    -- no session has the name
    pub no_name : Goes (deed_at registry_no [] (RegFindOut name) NoSession ∷ []) at at1 a a1 → Goes (end_with NoSession ∷ []) at1 at2 a1 a2 → Comes labels labels (command.Preserve name token label) NoSession at at2 a a2
    no_name h k = record {
      outcome = PreserveCame preserving.NoName;
      sequence = record { acts = registry (RegFindOut name) NoSession ∷ []; reply = NoSession };
      is_one = acts_of (PreserveCame preserving.NoName);
      reply_is = refl;
      goes = then_goes _ _ at at1 at2 a a1 a2 h k;
      labels_are = refl;
    }

    -- the slot was found, and the command ended
    came_in : (slot : SlotNo) (reply : Reply) → Goes (slot_found name slot) at at1 a a1 → PreservesSlot name token f slot reply at1 at2 a1 a2 → Comes labels labels (command.Preserve name token label) reply at at2 a a2
    came_in slot reply found h = record {
      outcome = PreserveCame h.outcome;
      sequence = record { acts = registry (RegFindOut name) (OkSlot slot) ∷ h.acts; reply = reply };
      is_one = acts_of (PreserveCame h.outcome) ∙ h.is_one;
      reply_is = refl;
      goes = then_goes _ _ at at1 at2 a a1 a2 found h.goes;
      labels_are = stay labels (is_ok reply);
    }

    pub came_if : (slot : SlotNo) (r : Result Reply Stopped) → Goes (slot_found name slot) at at1 a a1 → IfOk r (λ reply. PreservesSlot name token f slot reply at1 at2 a1 a2) → IfOk r (λ reply. Comes labels labels (command.Preserve name token label) reply at at2 a a2)
    came_if slot (result.Ok reply) found h = came_in slot reply found h
    came_if slot (result.Err x) found h = tt

    pub stops_if : (slot : SlotNo) (r : Result Reply Stopped) → Goes (slot_found name slot) at at1 a a1 → IfErr r (λ x. SticksAfter (AreRest (preserve_acts name token f) (slot_found name slot)) x.stuck at1 at2 a1 a2) → IfErr r (λ x. SticksAfter (AreWhole (command_acts labels (command.Preserve name token label))) x.stuck at at2 a a2)
    stops_if slot (result.Ok reply) found h = tt
    stops_if slot (result.Err x) found h =
        sticks_later {V = AreRest (preserve_acts name token f) (slot_found name slot)} {W = AreWhole (command_acts labels (command.Preserve name token label))} (slot_found name slot)
        (λ rest. of_file labels name token label f bound (slot_found name slot ++ rest)) at at1 at2 x.stuck a a1 a2 found h
