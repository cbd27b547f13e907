-- How the turns of a `close` make its sequence.
use Rattle.std.proofs.Common.{◌≡◌, cond, ℕ, ◌+◌, ◌==◌, Bool, true, false, List, [], ◌∷◌, ◌++◌, map, refl, sym, ap, subst, ◌∙◌, append_assoc, inr}
use Rattle.std.specs.Prelude as result
use Rattle.std.specs.Prelude.{Option, None, Some, MatchOption, Result, IfOk, IfErr, OnErr}
use Rattle.std.specs.List.{flat_map}
use Rattle.std.specs.FinMap as finmap
use Rattle.std.proofs.lemmas.List.{map-append}
use Rattle.ho_base.specs.Objects.{registry_no, session_no}
use Rattle.ho_base.specs.declared.numbers.ObjectNo.{ObjectNo}
use Rattle.ho_base.specs.declared.numbers.SlotNo.{SlotNo}
use Rattle.ho_events.specs.Lists.{are_distinct}
use Rattle.ho_events.specs.Session.{SessionState, Listed, files_of, is_out}
use Rattle.ho_events.specs.History.{session_from}
use Rattle.ho_events.specs.Contents as contents
use Rattle.ho_events.specs.declared.command.Command.TheVariants as command
use Rattle.ho_events.specs.declared.event.Event.{Event}
use Rattle.ho_events.specs.declared.event.Event.TheVariants.{RegDropName, RegFindOut, SessionClose}
use Rattle.ho_events.specs.declared.reply.Reply.{Reply}
use Rattle.ho_events.specs.declared.reply.Reply.TheVariants.{Ok, OkSlot, NoSession}
use Rattle.ho_events.specs.declared.slip.At.{At}
use Rattle.ho_world.specs.Acts.{Act, Claim, HasFiles, Reference, reference_of, references, file, registry, session}
use Rattle.ho_world.specs.Entries.{is_ok}
use Rattle.ho_world.specs.Logs.{Deed, AreClaimed, HoldsOf, Known, deed_at, deed_of, end_with, known_state}
use Rattle.ho_world.specs.Sequences.{Labels, CloseCame}
use Rattle.ho_world.specs.Sequences.Parts.{Part, Closed, NoSuchName, NotOut, close_acts, close_part, have_distinct_files, part_reference}
use Rattle.ho_world.specs.World.{session_in}
use Rattle.ho_world.proofs.Grow.{session_run}
use Rattle.session_core.specs.SessionShown.{reference}
use Rattle.session_core.specs.SessionValues.{SessionIs, SessionValue}
use Rattle.session_core.specs.Sessions.{close_answer}
use Rattle.machine_core.specs.declared.halt.Halt.TheVariants.{Memory, Broken}
use Rattle.machine_core.specs.declared.object.Object.{Object}
use Rattle.machine_core.specs.declared.object.Object.TheVariants.{Session}
use Rattle.machine_core.specs.Agents.{Agent, HasEnded, begun, with_at}
use Rattle.machine_core.specs.Commands.{Comes}
use Rattle.machine_core.specs.Objects.{known_of, start_of}
use Rattle.machine_core.specs.Turns.{Goes, IsDoubled}
use Rattle.luo_calls.specs.Closing.{ArePartsOf, ClosesSlot, HasClosed, Kept, deeds, have_own_numbers, kept_reference, session_ends}
use Rattle.luo_calls.specs.Doing.{AreRest, AreWhole, SticksAfter, slot_found}
use Rattle.luo_calls.specs.Opened.{Holds, Opens, without}
use Rattle.luo_calls.specs.Stuck.{Sticks, turn, turn_of}
use Rattle.luo_calls.specs.declared.stuck.Stopped.{Stopped}
use Rattle.luo_calls.specs.declared.stuck.Stuck.{Stuck}
use Rattle.luo_calls.proofs.Chains.{then_goes}
use Rattle.luo_calls.proofs.Nested.{holds_goes, outer_goes, outer_sticks, sticks_first, sticks_held, sticks_later, under_at, within_goes}

-- ---- what may be taken

-- what isn't in hand isn't where an object goes back
pub still_free : (m n : ℕ) (f : ℕ → Option Known) → f m ≡ None → with_at n None f m ≡ None
still_free m n f is = go (m == n) refl
  where
    go : (b : Bool) → (m == n) ≡ b → with_at n None f m ≡ None
    go true e = rw e refl
    go false e = rw e is

-- ---- the session's files, as its history tells them

-- a file of a sequence but for its token
abbrev without_token : contents.Reference → Reference
without_token r = record { file = r.file; handle = r.handle }

entries_references : (es : List (ℕ × Listed)) → map reference_of (map (λ e. e.1) es) ≡ map without_token (map contents.reference_of es)
entries_references [] = refl
entries_references (e ∷ es) = ap (λ rs. reference_of e.1 ∷ rs) (entries_references es)

kept_references : (files : List Kept) → map without_token (map reference files) ≡ map kept_reference files
kept_references [] = refl
kept_references (f ∷ files) = ap (λ rs. kept_reference f ∷ rs) (kept_references files)

same_files : (xs ys : List contents.Reference) → contents.OfFiles xs ≡ contents.OfFiles ys → xs ≡ ys
same_files xs ys h = cc

content_is : (x : Option SessionState) (files : List Kept) → contents.session_content x ≡ contents.OfFiles (map reference files) → MatchOption x ⊥ (λ s. references s ≡ map kept_reference files)
content_is None files h = cc
content_is (Some s) files h = entries_references (finmap.entries (files_of s)) ∙ ap (map without_token) (same_files _ _ h) ∙ kept_references files

abbrev pub Tells : SessionValue → List Kept → Type 0
Tells v files = contents.session_content (session_from v.start v.history) ≡ contents.OfFiles (map reference files)

pub lists : (v : SessionValue) (files : List Kept) → Tells v files → references (session_in (known_state (known_of (Session v)))) ≡ map kept_reference files
lists v files h = go (session_from v.start v.history) refl (content_is _ files h)
  where
    leads : (s : SessionState) → session_from v.start v.history ≡ Some s → session_in (known_state (known_of (Session v))) ≡ s
    leads s e = rw (session_run v.start v.history, e) refl

    go : (x : Option SessionState) → session_from v.start v.history ≡ x → MatchOption x ⊥ (λ s. references s ≡ map kept_reference files) → references (session_in (known_state (known_of (Session v)))) ≡ map kept_reference files
    go None e m = absurd m
    go (Some s) e m = ap references (leads s e) ∙ m

file_numbers : (files : List Kept) → map (λ r. r.file) (map kept_reference files) ≡ map (λ f. f.1.0) files
file_numbers [] = refl
file_numbers (f ∷ files) = ap (λ ns. f.1.0 ∷ ns) (file_numbers files)

part_numbers : (parts : List Part) → map (λ r. r.file) (map part_reference parts) ≡ map (λ c. c.number.0) parts
part_numbers [] = refl
part_numbers (c ∷ parts) = ap (λ ns. c.number.0 ∷ ns) (part_numbers parts)

pub distinct_parts : (files : List Kept) (parts : List Part) → have_own_numbers files ≡ true → map part_reference parts ≡ map kept_reference files → have_distinct_files parts ≡ true
unfolding have_own_numbers
distinct_parts files parts own listed = ap are_distinct (sym (part_numbers parts) ∙ ap (map (λ r. r.file)) listed ∙ file_numbers files) ∙ own

-- the deeds of the whole sequences of a `close`: no session of the name; the slot's session is another one
pub no_name_whole : (name : List ℕ) → AreWhole (close_acts name) (deed_at registry_no [] (RegFindOut name) NoSession ∷ end_with NoSession ∷ [])
no_name_whole name = record {
  outcome = NoSuchName;
  sequence = record { acts = registry (RegFindOut name) NoSession ∷ []; reply = NoSession };
  is_one = refl;
  deeds_are = refl;
}

abbrev pub other_deeds : List ℕ → SlotNo → List Deed
other_deeds name slot = deed_at (session_no slot.0) [] (SessionClose name) NoSession ∷ end_with NoSession ∷ []

pub other_whole : (name : List ℕ) (slot : SlotNo) → AreRest (close_acts name) (slot_found name slot) (other_deeds name slot)
other_whole name slot = record {
  outcome = NotOut slot;
  sequence = record { acts = registry (RegFindOut name) (OkSlot slot) ∷ session slot [] (SessionClose name) NoSession ∷ []; reply = NoSession };
  is_one = refl;
  deeds_are = refl;
}

-- all files' parts are done, and the session ends
pub out_whole : (name : List ℕ) (slot : SlotNo) (files : List Kept) → have_own_numbers files ≡ true → (parts : List Part) → map part_reference parts ≡ map kept_reference files → AreRest (close_acts name) (slot_found name slot) (deeds (flat_map close_part parts) ++ session_ends slot name (HasFiles slot (map part_reference parts) ∷ []))
out_whole name slot files own parts listed = record {
  outcome = Closed slot parts;
  sequence = record { acts = registry (RegFindOut name) (OkSlot slot) ∷ (flat_map close_part parts ++ ends); reply = Ok };
  is_one = rw (distinct_parts files parts own listed) refl;
  deeds_are =
      ap (λ ds. deed_at registry_no [] (RegFindOut name) (OkSlot slot) ∷ ds)
      (sym (ap (λ ds. ds ++ end_with Ok ∷ []) (map-append deed_of (flat_map close_part parts) ends) ∙ append_assoc (deeds (flat_map close_part parts)) (deeds ends) (end_with Ok ∷ [])));
}
  where
    ends : List Act
    ends = session slot (HasFiles slot (map part_reference parts) ∷ []) (SessionClose name) Ok ∷ registry (RegDropName name) Ok ∷ []

-- the parts of the files, and then the session's end
abbrev pub kept_claims : SlotNo → List Kept → List Claim
kept_claims slot files = HasFiles slot (map kept_reference files) ∷ []

pub parts_whole : (name : List ℕ) (slot : SlotNo) (files : List Kept) → have_own_numbers files ≡ true → (ds : List Deed) → ArePartsOf files ds → AreRest (close_acts name) (slot_found name slot) (ds ++ session_ends slot name (kept_claims slot files))
parts_whole name slot files own ds p =
    subst (λ (xs : List Deed). AreRest (close_acts name) (slot_found name slot) (xs ++ session_ends slot name (kept_claims slot files))) (sym p.deeds_are)
    (subst (λ (rs : List Reference). AreRest (close_acts name) (slot_found name slot) (deeds (flat_map close_part p.parts) ++ session_ends slot name (HasFiles slot rs ∷ []))) p.listed
    (out_whole name slot files own p.parts p.listed))

-- the same, the parts by what was done
pub closed_whole : (name : List ℕ) (slot : SlotNo) (files : List Kept) (at at1 : At) (a a1 : Agent) → have_own_numbers files ≡ true → (c : HasClosed files at at1 a a1) → (ds : List Deed) → ds ≡ session_ends slot name (kept_claims slot files) → AreRest (close_acts name) (slot_found name slot) (deeds (flat_map close_part c.parts) ++ ds)
closed_whole name slot files at at1 a a1 own c ds same =
    subst (λ (xs : List Deed). AreRest (close_acts name) (slot_found name slot) (deeds (flat_map close_part c.parts) ++ xs)) (sym same)
    (parts_whole name slot files own _ (record { parts = c.parts; listed = c.listed; deeds_are = refl }))

pub kept_claimed : (a : Agent) (hands : ℕ → Option Known) (slot : SlotNo) (v : SessionValue) (files : List Kept) → hands (session_no slot.0) ≡ Some (known_of (Session v)) → Tells v files → AreClaimed (begun a) hands (kept_claims slot files)
kept_claimed a hands slot v files held told = (subst (λ k. HoldsOf k (HasFiles slot (map kept_reference files))) (sym held) (lists v files told), tt)

-- the session lists a file twice
pub is_doubled : (v : SessionValue) (files : List Kept) → Tells v files → have_own_numbers files ≡ false → IsDoubled (Some (start_of (Session v))) v.history
unfolding have_own_numbers
is_doubled v files told h = ap are_distinct (ap (map (λ r. r.file)) (lists v files told) ∙ file_numbers files) ∙ h

-- its files are known, while it is in hand
pub files_claimed : (a : Agent) (hands : ℕ → Option Known) (slot : SlotNo) (v : SessionValue) (files : List Kept) (parts : List Part) → hands (session_no slot.0) ≡ Some (known_of (Session v)) → Tells v files → map part_reference parts ≡ map kept_reference files → AreClaimed (begun a) hands (HasFiles slot (map part_reference parts) ∷ [])
files_claimed a hands slot v files parts held told listed =
    (subst (λ k. HoldsOf k (HasFiles slot (map part_reference parts))) (sym held) (lists v files told ∙ sym listed), tt)

-- it can't be closed so
pub doubled_sticks : (name : List ℕ) (slot : SlotNo) (at : At) (stuck : Stuck) (number : ObjectNo) (a : Agent) (v : SessionValue) (files : List Kept) → number.0 ≡ session_no slot.0 → Holds (session_no slot.0) a (Session v) → Tells v files → have_own_numbers files ≡ false → stuck ≡ record { halt = Broken number; held = Some (number, Session v) } → SticksAfter (AreRest (close_acts name) (slot_found name slot)) stuck at at (without (session_no slot.0) a) a
doubled_sticks name slot at stuck number a v files is h told own stuck_is =
    let n = session_no slot.0 in
    sticks_first (other_deeds name slot) (other_whole name slot) at at stuck (without n a) a refl
    (subst (λ (s : Stuck). Sticks at (turn n (SessionClose name)) s (without n a) a) (sym stuck_is)
    (sticks_held at (Broken number) number n a a (Session v) is h refl (refl, (sym is, inr (inr (inr (refl, is_doubled v files told own)))))))

-- ---- what the session's end is answered

ok_at : (x : Option SessionState) (name : List ℕ) (b : Bool) (reply : Reply) → MatchOption x ⊥ (λ s. is_out s name ≡ b) → MatchOption x ⊥ (λ s. reply ≡ close_answer (is_out s name)) → reply ≡ close_answer b
ok_at None name b reply out h = absurd out
ok_at (Some s) name b reply out h = h ∙ ap close_answer out

-- the same deed, by its reply
pub same_reply : (n : ℕ) (claims : List Claim) (event : Event) (r q : Reply) (at at' : At) (a a' : Agent) → r ≡ q → Goes (deed_at n claims event r ∷ []) at at' a a' → Goes (deed_at n claims event q ∷ []) at at' a a'
same_reply n claims event r q at at' a a' e h = subst (λ (x : Reply). Goes (deed_at n claims event x ∷ []) at at' a a') e h

pub answered_as : (v : SessionValue) (name : List ℕ) (b : Bool) (reply : Reply) → SessionIs v (λ s. is_out s name ≡ b) → SessionIs v (λ s. reply ≡ close_answer (is_out s name)) → reply ≡ close_answer b
answered_as v name b reply out h = ok_at (session_from v.start v.history) name b reply out h

-- ---- turns that can't be taken

-- there is no memory, and nothing was done
pub no_memory : {W : List Deed → Type 0} → (due : List Deed) → W due → (at : At) (stuck : Stuck) (a : Agent) → stuck ≡ record { halt = Memory; held = None } → SticksAfter W stuck at at a a
no_memory due front at stuck a is =
    sticks_first due front at at stuck a a refl (subst (λ (s : Stuck). Sticks at (turn_of due) s a a) (sym is) (record { same = refl; cause = tt }))

pub stuck_at_once : {X : Type 0} → (W : List Deed → Type 0) (due : List Deed) → W due → (at at1 : At) (a a1 : Agent) (r : Result X Stuck) → OnErr r (at1 ≡ at) → IfErr r (λ stuck. Sticks at (turn_of due) stuck a a1) → IfErr r (λ stuck. SticksAfter W stuck at at1 a a1)
stuck_at_once W due front at at1 a a1 (result.Ok x) same s = tt
stuck_at_once W due front at at1 a a1 (result.Err stuck) same s = sticks_first due front at at1 stuck a a1 same s

-- no slot has the name
abbrev pub no_slot : List ℕ → List Deed
no_slot name = deed_at registry_no [] (RegFindOut name) NoSession ∷ []

-- ---- a session that stays in hand while its files go

pub under_after : {W : List Deed → Type 0} → (at at1 : At) (stuck : Stuck) (m n : ℕ) (a a1 a2 : Agent) (o : Object) → m ≡ n → SticksAfter W stuck at at1 a a1 → Holds n a o → HasEnded a1 m None (a1.hands m) a2 → SticksAfter W stuck at at1 (without n a) a2
under_after at at1 stuck m n a a1 a2 o is s h gave = record {
  deeds = s.deeds;
  due = s.due;
  front = s.front;
  middle = without n s.middle;
  goes = within_goes s.deeds at at1 n a s.middle s.goes;
  sticks = under_at _ at1 stuck m n s.middle a1 a2 o is s.sticks (holds_goes s.deeds at at1 n a s.middle o h s.goes) gave;
}

pub outer_closes : (name : List ℕ) (slot : SlotNo) (reply : Reply) (at at1 : At) (n : ℕ) (a a1 a2 : Agent) (o : Object) → Opens at n a a1 o → a.hands n ≡ None → ClosesSlot name slot reply at at1 (without n a1) a2 → ClosesSlot name slot reply at at1 a a2
outer_closes name slot reply at at1 n a a1 a2 o opens free h = record {
  outcome = h.outcome;
  acts = h.acts;
  is_one = h.is_one;
  goes = outer_goes _ at at1 n a a1 a2 o opens free h.goes;
}

-- ---- the sequences

module _ (name : List ℕ) (slot : SlotNo) (at at1 at2 : At) (a a1 a2 : Agent) where
  pub other_closes : Goes (deed_at (session_no slot.0) [] (SessionClose name) NoSession ∷ []) at at1 a a1 → Goes (end_with NoSession ∷ []) at1 at2 a1 a2 → ClosesSlot name slot NoSession at at2 a a2
  other_closes g h = record {
    outcome = NotOut slot;
    acts = session slot [] (SessionClose name) NoSession ∷ [];
    is_one = refl;
    goes = then_goes _ _ at at1 at2 a a1 a2 g h;
  }

  pub out_closes : (files : List Kept) (c : HasClosed files at at1 a a1) → have_own_numbers files ≡ true → Goes (deed_at (session_no slot.0) (HasFiles slot (map part_reference c.parts) ∷ []) (SessionClose name) Ok ∷ deed_at registry_no [] (RegDropName name) Ok ∷ end_with Ok ∷ []) at1 at2 a1 a2 → ClosesSlot name slot Ok at at2 a a2
  out_closes files c own h = record {
    outcome = Closed slot c.parts;
    acts = flat_map close_part c.parts ++ ends;
    is_one = rw (distinct_parts files c.parts own c.listed) refl;
    goes =
        subst (λ ds. Goes ds at at2 a a2)
        (sym (ap (λ ds. ds ++ end_with Ok ∷ []) (map-append deed_of (flat_map close_part c.parts) ends) ∙ append_assoc (deeds (flat_map close_part c.parts)) (deeds ends) (end_with Ok ∷ [])))
        (then_goes _ _ at at1 at2 a a1 a2 c.goes h);
  }
    where
      ends : List Act
      ends = session slot (HasFiles slot (map part_reference c.parts) ∷ []) (SessionClose name) Ok ∷ registry (RegDropName name) Ok ∷ []

  pub slot_comes : (labels : Labels) (reply : Reply) → Goes (deed_at registry_no [] (RegFindOut name) (OkSlot slot) ∷ []) at at1 a a1 → ClosesSlot name slot reply at1 at2 a1 a2 → Comes labels labels (command.Close name) reply at at2 a a2
  slot_comes labels reply g h = record {
    outcome = CloseCame h.outcome;
    sequence = record { acts = registry (RegFindOut name) (OkSlot slot) ∷ h.acts; reply = reply };
    is_one = h.is_one;
    reply_is = refl;
    goes = then_goes _ _ at at1 at2 a a1 a2 g h.goes;
    labels_are = either (is_ok reply);
  }
    where
      either : (b : Bool) → labels ≡ cond b labels labels
      either true = refl
      either false = refl

-- no session of the name
module _ (name : List ℕ) (at at1 at2 : At) (a a1 a2 : Agent) where
  pub none_comes : (labels : Labels) → Goes (deed_at registry_no [] (RegFindOut name) NoSession ∷ []) at at1 a a1 → Goes (end_with NoSession ∷ []) at1 at2 a1 a2 → Comes labels labels (command.Close name) NoSession at at2 a a2
  none_comes labels g h = record {
    outcome = CloseCame NoSuchName;
    sequence = record { acts = registry (RegFindOut name) NoSession ∷ []; reply = NoSession };
    is_one = refl;
    reply_is = refl;
    goes = then_goes _ _ at at1 at2 a a1 a2 g h;
    labels_are = refl;
  }

-- the parts, while an object is in hand
closed_within : (files : List Kept) (at at1 : At) (n : ℕ) (a a1 : Agent) → HasClosed files at at1 a a1 → HasClosed files at at1 (without n a) (without n a1)
closed_within files at at1 n a a1 h = record { parts = h.parts; listed = h.listed; goes = within_goes _ at at1 n a a1 h.goes }

-- the files' parts, and then the end of the session in hand
pub ends_closed : (name : List ℕ) (slot : SlotNo) (at at1 at2 : At) (a a1 a2 : Agent) (v : SessionValue) (files : List Kept) → Holds (session_no slot.0) a (Session v) → Tells v files → have_own_numbers files ≡ true → HasClosed files at at1 a a1 → ((claims : List Claim) → AreClaimed (begun a1) a1.hands claims → Goes (deed_at (session_no slot.0) claims (SessionClose name) Ok ∷ deed_at registry_no [] (RegDropName name) Ok ∷ end_with Ok ∷ []) at1 at2 (without (session_no slot.0) a1) a2) → ClosesSlot name slot Ok at at2 (without (session_no slot.0) a) a2
unfolding closed_within
ends_closed name slot at at1 at2 a a1 a2 v files h told own c goes =
    let n = session_no slot.0 in
    let held = holds_goes _ at at1 n a a1 (Session v) h c.goes in
    out_closes name slot at at1 at2 (without n a) (without n a1) a2 files (closed_within files at at1 n a a1 c) own
    (goes (HasFiles slot (map part_reference c.parts) ∷ []) (files_claimed a1 a1.hands slot v files c.parts held.held told c.listed))

-- ---- the same, whether the turns were taken or not

pub outer_closes_if : (name : List ℕ) (slot : SlotNo) (at at1 : At) (n : ℕ) (a a1 a2 : Agent) (o : Object) (r : Result Reply Stopped) → Opens at n a a1 o → a.hands n ≡ None → IfOk r (λ reply. ClosesSlot name slot reply at at1 (without n a1) a2) → IfOk r (λ reply. ClosesSlot name slot reply at at1 a a2)
outer_closes_if name slot at at1 n a a1 a2 o (result.Ok reply) opens free h = outer_closes name slot reply at at1 n a a1 a2 o opens free h
outer_closes_if name slot at at1 n a a1 a2 o (result.Err s) opens free h = tt

pub outer_stops_if : (W : List Deed → Type 0) (at at1 : At) (n : ℕ) (a a1 a2 : Agent) (o : Object) (r : Result Reply Stopped) → Opens at n a a1 o → a.hands n ≡ None → IfErr r (λ s. SticksAfter W s.stuck at at1 (without n a1) a2) → IfErr r (λ s. SticksAfter W s.stuck at at1 a a2)
outer_stops_if W at at1 n a a1 a2 o (result.Ok reply) opens free h = tt
outer_stops_if W at at1 n a a1 a2 o (result.Err s) opens free h = outer_sticks at at1 s.stuck n a a1 a2 o opens free h

pub slot_comes_if : (name : List ℕ) (slot : SlotNo) (at at1 at2 : At) (a a1 a2 : Agent) (r : Result Reply Stopped) → Goes (deed_at registry_no [] (RegFindOut name) (OkSlot slot) ∷ []) at at1 a a1 → IfOk r (λ reply. ClosesSlot name slot reply at1 at2 a1 a2) → IfOk r (λ reply. (labels : Labels) → Comes labels labels (command.Close name) reply at at2 a a2)
slot_comes_if name slot at at1 at2 a a1 a2 (result.Ok reply) g h = λ labels. slot_comes name slot at at1 at2 a a1 a2 labels reply g h
slot_comes_if name slot at at1 at2 a a1 a2 (result.Err s) g h = tt

pub slot_stops_if : (V W : List Deed → Type 0) (ds : List Deed) → ((rest : List Deed) → V rest → W (ds ++ rest)) → (at at1 at2 : At) (a a1 a2 : Agent) (r : Result Reply Stopped) → Goes ds at at1 a a1 → IfErr r (λ s. SticksAfter V s.stuck at1 at2 a1 a2) → IfErr r (λ s. SticksAfter W s.stuck at at2 a a2)
slot_stops_if V W ds on at at1 at2 a a1 a2 (result.Ok reply) g h = tt
slot_stops_if V W ds on at at1 at2 a a1 a2 (result.Err s) g h = sticks_later ds on at at1 at2 s.stuck a a1 a2 g h
