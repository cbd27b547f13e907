-- How the turns of a `finish` make its sequence.
use Rattle.std.proofs.Common.{◌≡◌, cond, ℕ, ◌+◌, ◌<◌, Bool, true, false, List, [], ◌∷◌, ◌++◌, length, get_or, take, drop, map, refl, sym, ap, subst, ◌∙◌, append_assoc, inr}
use Rattle.std.specs.Prelude as result
use Rattle.std.specs.Prelude.{Option, None, Some, MatchOption, Result, IfOk, IfErr}
use Rattle.std.specs.List.{flat_map}
use Rattle.std.proofs.lemmas.List.{append-nil, map-append, take_more, take-append-drop}
use Rattle.std.proofs.lemmas.List.Concat.{flat_map-append}
use Rattle.ho_base.specs.Objects.{registry_no, session_no, file_no}
use Rattle.ho_base.specs.declared.numbers.FileNo.{FileNo}
use Rattle.ho_base.specs.declared.numbers.Kind.TheVariants.{Memfd}
use Rattle.ho_base.specs.declared.numbers.ObjectNo.{ObjectNo}
use Rattle.ho_base.specs.declared.numbers.Order.{Order}
use Rattle.ho_base.specs.declared.numbers.Pfn.{Pfn}
use Rattle.ho_base.specs.declared.numbers.SlotNo.{SlotNo}
use Rattle.ho_events.specs.File.{is_device}
use Rattle.ho_events.specs.Session.{SessionState, is_in}
use Rattle.ho_events.specs.History.{session_from}
use Rattle.ho_events.specs.declared.command.Command.TheVariants as command
use Rattle.ho_events.specs.declared.event.Event.TheVariants.{FileFinish, RegDropIn, RegFindIn, RegFreeFile, SessionFinish}
use Rattle.ho_events.specs.declared.reply.Reply.{Reply}
use Rattle.ho_events.specs.declared.reply.Reply.TheVariants.{Ok, OkSlot, NoSession, Kept as StillKept, Gone}
use Rattle.ho_events.specs.declared.slip.At.{At}
use Rattle.ho_world.specs.Acts.{Act, Claim, IsFile, HasFiles, Reference, file, registry, session, single}
use Rattle.ho_world.specs.Entries.{is_ok}
use Rattle.ho_world.specs.Logs.{Deed, AreClaimed, deed_at, deed_of, end_with}
use Rattle.ho_world.specs.Sequences.{Labels, FinishCame}
use Rattle.ho_world.specs.Sequences.Parts.{Part, Ended, NotFound, NotIn, can_finish, devices, finish_acts, finish_part, part_reference}
use Rattle.phys_frames.specs.Memory.{FolioValue, first_frames}
use Rattle.session_core.specs.SessionValues.{SessionIs, SessionValue}
use Rattle.session_core.specs.Sessions.{finish_answer}
use Rattle.machine_core.specs.declared.halt.Halt.TheVariants.{Broken}
use Rattle.machine_core.specs.declared.object.Object.{Object}
use Rattle.machine_core.specs.declared.object.Object.TheVariants.{Session}
use Rattle.machine_core.specs.Agents.{Agent, begun}
use Rattle.machine_core.specs.Commands.{Comes}
use Rattle.machine_core.specs.Turns.{Goes}
use Rattle.luo_calls.specs.Closing.{Kept, deeds, given_back, have_own_numbers, kept_reference}
use Rattle.luo_calls.specs.Doing.{AreRest, AreWhole, SticksAfter}
use Rattle.luo_calls.specs.Opened.{Holds, Opens, without}
use Rattle.luo_calls.specs.Stuck.{Sticks, turn}
use Rattle.luo_calls.specs.declared.stuck.Stopped.{Stopped}
use Rattle.luo_calls.specs.declared.stuck.Stuck.{Stuck}
use Rattle.luo_calls.proofs.Chains.{then_goes}
use Rattle.luo_calls.proofs.Closes.{Tells, distinct_parts, files_claimed, is_doubled, kept_claims}
use Rattle.luo_calls.proofs.Nested.{goes_nowhere, holds_goes, outer_goes, sticks_before, sticks_first, sticks_held, sticks_later, within_goes}
use Rattle.luo_incoming.specs.Finishing.{AreFinishesOf, FinishesSlot, HasFinished, after_finish, session_ends_in}
use Rattle.luo_incoming.specs.Replies.{IsFinishReply}
use Rattle.luo_incoming.specs.Retrieving.{slot_opened}

-- ---- a file that is gone

-- its folios go back, and its number
pub gone_deeds : (f : FileNo) (o : Order) (runs : List Pfn) → deeds (after_finish f o (Gone runs)) ≡ deeds (given_back o runs) ++ deed_at registry_no [] (RegFreeFile f) Ok ∷ []
gone_deeds f o runs = map-append deed_of (given_back o runs) (registry (RegFreeFile f) Ok ∷ [])

pub gone_goes : (f : FileNo) (o : Order) (runs : List Pfn) (folios : List FolioValue) (at at1 at2 : At) (a a1 a2 : Agent) → first_frames folios ≡ runs → Goes (deeds (given_back o (first_frames folios))) at at1 a a1 → Goes (deed_at registry_no [] (RegFreeFile f) Ok ∷ []) at1 at2 a1 a2 → Goes (deeds (after_finish f o (Gone runs))) at at2 a a2
gone_goes f o runs folios at at1 at2 a a1 a2 same k l =
    subst (λ ds. Goes ds at at2 a a2) (sym (gone_deeds f o runs))
    (then_goes _ _ at at1 at2 a a1 a2 (subst (λ rs. Goes (deeds (given_back o rs)) at at1 a a1) same k) l)

-- ---- the part of a file

part_of : Kept → Order → List Pfn → Bool → Part
part_of f o runs gone = record { number = f.1; handle = f.2; kind = Memfd; order = o; runs = runs; last = None; gone = gone }

kept_acts : (f : Kept) (o : Order) → flat_map finish_part (part_of f o [] false ∷ []) ≡ file f.1 (IsFile f.1 Memfd o ∷ []) FileFinish StillKept ∷ []
unfolding part_of
kept_acts f o = refl

gone_acts : (f : Kept) (o : Order) (runs : List Pfn) → flat_map finish_part (part_of f o runs true ∷ []) ≡ file f.1 (IsFile f.1 Memfd o ∷ []) FileFinish (Gone runs) ∷ after_finish f.1 o (Gone runs)
unfolding part_of
gone_acts f o runs = append-nil (file f.1 (IsFile f.1 Memfd o ∷ []) FileFinish (Gone runs) ∷ after_finish f.1 o (Gone runs))

-- what a file's hold's end was, as a deed
abbrev pub finished : Kept → Order → Reply → List Deed
finished f o reply = deed_at (file_no f.1.0) (IsFile f.1 Memfd o ∷ []) FileFinish reply ∷ []

pub finished_one : (f : Kept) (o : Order) (reply : Reply) (at at1 at2 : At) (a a1 a2 : Agent) → IsFinishReply reply → Goes (finished f o reply) at at1 a a1 → Goes (deeds (after_finish f.1 o reply)) at1 at2 a1 a2 → HasFinished (f ∷ []) at at2 a a2
unfolding part_of
finished_one f o StillKept at at1 at2 a a1 a2 u g h = record {
  parts = part_of f o [] false ∷ [];
  listed = refl;
  plain = refl;
  goes = subst (λ acts. Goes (deeds acts) at at2 a a2) (sym (kept_acts f o)) (then_goes _ _ at at1 at2 a a1 a2 g h);
}
finished_one f o (Gone runs) at at1 at2 a a1 a2 u g h = record {
  parts = part_of f o runs true ∷ [];
  listed = refl;
  plain = refl;
  goes = subst (λ acts. Goes (deeds acts) at at2 a a2) (sym (gone_acts f o runs)) (then_goes _ _ at at1 at2 a a1 a2 g h);
}
finished_one f o reply at at1 at2 a a1 a2 u g h = absurd u

-- the deeds of its part, by what its hold's end was answered
pub part_whole : (f : Kept) (o : Order) (reply : Reply) → IsFinishReply reply → (ds : List Deed) → ds ≡ deeds (after_finish f.1 o reply) → AreFinishesOf (f ∷ []) (finished f o reply ++ ds)
unfolding part_of
part_whole f o StillKept is ds same = record {
  parts = part_of f o [] false ∷ [];
  listed = refl;
  plain = refl;
  deeds_are = ap (λ xs. finished f o StillKept ++ xs) same ∙ ap deeds (sym (kept_acts f o));
}
part_whole f o (Gone runs) is ds same = record {
  parts = part_of f o runs true ∷ [];
  listed = refl;
  plain = refl;
  deeds_are = ap (λ xs. finished f o (Gone runs) ++ xs) same ∙ ap deeds (sym (gone_acts f o runs));
}
part_whole f o reply is ds same = absurd is

-- ---- the parts of files

pub finished_none : (at : At) (a : Agent) → HasFinished [] at at a a
finished_none at a = record { parts = []; listed = refl; plain = refl; goes = goes_nowhere at a }

deeds_both : (ps qs : List Part) → deeds (flat_map finish_part (ps ++ qs)) ≡ deeds (flat_map finish_part ps) ++ deeds (flat_map finish_part qs)
deeds_both ps qs = ap deeds (flat_map-append finish_part ps qs) ∙ map-append deed_of (flat_map finish_part ps) (flat_map finish_part qs)

-- no device file among both
plain_both : (ps qs : List Part) → devices ps ≡ [] → devices qs ≡ [] → devices (ps ++ qs) ≡ []
plain_both [] qs h k = k
plain_both (p ∷ ps) qs h k = go (is_device p.kind) refl h (plain_both ps qs)
  where
    go : (b : Bool) → is_device p.kind ≡ b → cond b (p ∷ devices ps) (devices ps) ≡ [] → (devices ps ≡ [] → devices qs ≡ [] → devices (ps ++ qs) ≡ []) → devices (p ∷ ps ++ qs) ≡ []
    go true e m rest = absurd cc
    go false e m rest = ap (λ b. cond b (p ∷ devices (ps ++ qs)) (devices (ps ++ qs))) e ∙ rest m k

listed_both : (ps qs : List Part) (fs gs : List Kept) → map part_reference ps ≡ map kept_reference fs → map part_reference qs ≡ map kept_reference gs → map part_reference (ps ++ qs) ≡ map kept_reference (fs ++ gs)
listed_both ps qs fs gs h k = map-append part_reference ps qs ∙ (λ i. h i ++ k i) ∙ sym (map-append kept_reference fs gs)

pub finished_both : (fs gs : List Kept) (at at1 at2 : At) (a a1 a2 : Agent) → HasFinished fs at at1 a a1 → HasFinished gs at1 at2 a1 a2 → HasFinished (fs ++ gs) at at2 a a2
finished_both fs gs at at1 at2 a a1 a2 h k = record {
  parts = h.parts ++ k.parts;
  listed = listed_both h.parts k.parts fs gs h.listed k.listed;
  plain = plain_both h.parts k.parts h.plain k.plain;
  goes = subst (λ ds. Goes ds at at2 a a2) (sym (deeds_both h.parts k.parts)) (then_goes _ _ at at1 at2 a a1 a2 h.goes k.goes);
}

pub parts_both : (fs gs : List Kept) (xs ys : List Deed) → AreFinishesOf fs xs → AreFinishesOf gs ys → AreFinishesOf (fs ++ gs) (xs ++ ys)
parts_both fs gs xs ys h k = record {
  parts = h.parts ++ k.parts;
  listed = listed_both h.parts k.parts fs gs h.listed k.listed;
  plain = plain_both h.parts k.parts h.plain k.plain;
  deeds_are = (λ i. h.deeds_are i ++ k.deeds_are i) ∙ sym (deeds_both h.parts k.parts);
}

-- a file whose hold ended and that is kept: one of the ways in which its part may come out
abbrev pub plain_part : Kept → Part
plain_part f = record { number = f.1; handle = f.2; kind = Memfd; order = single; runs = []; last = None; gone = false }

plain_listed : (files : List Kept) → map part_reference (map plain_part files) ≡ map kept_reference files
plain_listed [] = refl
plain_listed (f ∷ files) = ap (λ rs. kept_reference f ∷ rs) (plain_listed files)

none_devices : (files : List Kept) → devices (map plain_part files) ≡ []
none_devices [] = refl
none_devices (f ∷ files) = none_devices files

abbrev pub plain_deeds : List Kept → List Deed
plain_deeds files = deeds (flat_map finish_part (map plain_part files))

-- the deeds of the part of a file whose hold didn't end yet
pub plain_whole : (f : Kept) → AreFinishesOf (f ∷ []) (finished f single StillKept)
plain_whole f = record { parts = plain_part f ∷ []; listed = refl; plain = refl; deeds_are = refl }

plain_parts : (files : List Kept) → AreFinishesOf files (plain_deeds files)
plain_parts files = record { parts = map plain_part files; listed = plain_listed files; plain = none_devices files; deeds_are = refl }

-- some files' parts are done, and one more is under way
pub parts_around : (files : List Kept) (i : ℕ) (d : Kept) (at at1 : At) (a a1 : Agent) → i < length files → (c : HasFinished (take i files) at at1 a a1) → (ds : List Deed) → AreFinishesOf (get_or files i d ∷ []) ds → AreFinishesOf files (deeds (flat_map finish_part c.parts) ++ (ds ++ plain_deeds (drop (i + 1) files)))
parts_around files i d at at1 a a1 less c ds k =
    subst (λ (fs : List Kept). AreFinishesOf fs (deeds (flat_map finish_part c.parts) ++ (ds ++ plain_deeds (drop (i + 1) files)))) split
    (parts_both (take i files) (get_or files i d ∷ drop (i + 1) files) (deeds (flat_map finish_part c.parts)) (ds ++ plain_deeds (drop (i + 1) files))
    (record { parts = c.parts; listed = c.listed; plain = c.plain; deeds_are = refl })
    (parts_both (get_or files i d ∷ []) (drop (i + 1) files) ds (plain_deeds (drop (i + 1) files)) k (plain_parts (drop (i + 1) files))))
  where
    split : take i files ++ get_or files i d ∷ drop (i + 1) files ≡ files
    split =
        sym (append_assoc (take i files) (get_or files i d ∷ []) (drop (i + 1) files))
        ∙ ap (λ xs. xs ++ drop (i + 1) files) (sym (take_more files i d less)) ∙ take-append-drop (i + 1) files

-- a part that is under way is stuck
pub loop_sticks : (files : List Kept) (i : ℕ) (d : Kept) (at at1 at2 : At) (stuck : Stuck) (a a1 a2 : Agent) → i < length files → HasFinished (take i files) at at1 a a1 → SticksAfter (AreFinishesOf (get_or files i d ∷ [])) stuck at1 at2 a1 a2 → SticksAfter (AreFinishesOf files) stuck at at2 a a2
loop_sticks files i d at at1 at2 stuck a a1 a2 less c s =
    sticks_later {V = λ ds. AreFinishesOf files (deeds (flat_map finish_part c.parts) ++ ds)} {W = AreFinishesOf files} (deeds (flat_map finish_part c.parts)) (λ rest h. h) at at1 at2 stuck a a1 a2 c.goes
    (sticks_before {V = AreFinishesOf (get_or files i d ∷ [])} {W = λ ds. AreFinishesOf files (deeds (flat_map finish_part c.parts) ++ ds)} (plain_deeds (drop (i + 1) files)) (parts_around files i d at at1 a a1 less c) at1 at2 stuck a1 a2 s)

pub finished_more : (files : List Kept) (i : ℕ) (d : Kept) (at at1 at2 : At) (a a1 a2 : Agent) → i < length files → HasFinished (take i files) at at1 a a1 → HasFinished (get_or files i d ∷ []) at1 at2 a1 a2 → HasFinished (take (i + 1) files) at at2 a a2
finished_more files i d at at1 at2 a a1 a2 less h k =
    subst (λ fs. HasFinished fs at at2 a a2) (sym (take_more files i d less)) (finished_both (take i files) (get_or files i d ∷ []) at at1 at2 a a1 a2 h k)

pub finished_within : (files : List Kept) (at at1 : At) (n : ℕ) (a a1 : Agent) → HasFinished files at at1 a a1 → HasFinished files at at1 (without n a) (without n a1)
finished_within files at at1 n a a1 h = record { parts = h.parts; listed = h.listed; plain = h.plain; goes = within_goes _ at at1 n a a1 h.goes }

-- ---- the deeds of the whole sequences

-- no session of the name is opened;  the slot's session is another one
pub no_name_whole : (name : List ℕ) → AreWhole (finish_acts name) (deed_at registry_no [] (RegFindIn name) NoSession ∷ end_with NoSession ∷ [])
no_name_whole name = record {
  outcome = NotFound;
  sequence = record { acts = registry (RegFindIn name) NoSession ∷ []; reply = NoSession };
  is_one = refl;
  deeds_are = refl;
}

abbrev pub other_deeds : List ℕ → SlotNo → List Deed
other_deeds name slot = deed_at (session_no slot.0) [] (SessionFinish name) NoSession ∷ end_with NoSession ∷ []

pub other_whole : (name : List ℕ) (slot : SlotNo) → AreRest (finish_acts name) (slot_opened name slot) (other_deeds name slot)
other_whole name slot = record {
  outcome = NotIn slot;
  sequence = record { acts = registry (RegFindIn name) (OkSlot slot) ∷ session slot [] (SessionFinish name) NoSession ∷ []; reply = NoSession };
  is_one = refl;
  deeds_are = refl;
}

-- the acts after the question for the slot where the session ends
abbrev end_acts : List ℕ → SlotNo → List Part → List Act
end_acts name slot parts = session slot (HasFiles slot (map part_reference parts) ∷ []) (SessionFinish name) Ok ∷ registry (RegDropIn name) Ok ∷ []

abbrev in_acts : List ℕ → SlotNo → List Part → List Act
in_acts name slot parts = flat_map finish_part parts ++ end_acts name slot parts

-- they are those of the sequence: no file is a device file
ends_so : (name : List ℕ) (slot : SlotNo) (files : List Kept) (parts : List Part) → have_own_numbers files ≡ true → map part_reference parts ≡ map kept_reference files → devices parts ≡ [] → finish_acts name (Ended slot parts) ≡ Some (record { acts = registry (RegFindIn name) (OkSlot slot) ∷ in_acts name slot parts; reply = Ok })
ends_so name slot files parts own listed plain =
    rw (distinct_parts files parts own listed)
    (ap (λ (ps : List Part). Some (record { acts = registry (RegFindIn name) (OkSlot slot) ∷ (map (can_finish Ok) ps ++ in_acts name slot parts); reply = Ok })) plain)

in_deeds : (name : List ℕ) (slot : SlotNo) (parts : List Part) → deeds (in_acts name slot parts) ++ end_with Ok ∷ [] ≡ deeds (flat_map finish_part parts) ++ session_ends_in slot name (HasFiles slot (map part_reference parts) ∷ [])
in_deeds name slot parts =
    ap (λ ds. ds ++ end_with Ok ∷ []) (map-append deed_of (flat_map finish_part parts) (end_acts name slot parts))
    ∙ append_assoc (deeds (flat_map finish_part parts)) (deeds (end_acts name slot parts)) (end_with Ok ∷ [])

-- all files' parts are done, and the session ends
pub in_whole : (name : List ℕ) (slot : SlotNo) (files : List Kept) → have_own_numbers files ≡ true → (parts : List Part) → map part_reference parts ≡ map kept_reference files → devices parts ≡ [] → AreRest (finish_acts name) (slot_opened name slot) (deeds (flat_map finish_part parts) ++ session_ends_in slot name (HasFiles slot (map part_reference parts) ∷ []))
in_whole name slot files own parts listed plain = record {
  outcome = Ended slot parts;
  sequence = record { acts = registry (RegFindIn name) (OkSlot slot) ∷ in_acts name slot parts; reply = Ok };
  is_one = ends_so name slot files parts own listed plain;
  deeds_are = ap (λ ds. deed_at registry_no [] (RegFindIn name) (OkSlot slot) ∷ ds) (sym (in_deeds name slot parts));
}

-- the parts of the files, and then the session's end
pub parts_whole_in : (name : List ℕ) (slot : SlotNo) (files : List Kept) → have_own_numbers files ≡ true → (ds : List Deed) → AreFinishesOf files ds → AreRest (finish_acts name) (slot_opened name slot) (ds ++ session_ends_in slot name (kept_claims slot files))
parts_whole_in name slot files own ds p =
    subst (λ (xs : List Deed). AreRest (finish_acts name) (slot_opened name slot) (xs ++ session_ends_in slot name (kept_claims slot files))) (sym p.deeds_are)
    (subst (λ (rs : List Reference). AreRest (finish_acts name) (slot_opened name slot) (deeds (flat_map finish_part p.parts) ++ session_ends_in slot name (HasFiles slot rs ∷ []))) p.listed
    (in_whole name slot files own p.parts p.listed p.plain))

-- the same, the parts by what was done
pub finished_whole : (name : List ℕ) (slot : SlotNo) (files : List Kept) (at at1 : At) (a a1 : Agent) → have_own_numbers files ≡ true → (c : HasFinished files at at1 a a1) → (ds : List Deed) → ds ≡ session_ends_in slot name (kept_claims slot files) → AreRest (finish_acts name) (slot_opened name slot) (deeds (flat_map finish_part c.parts) ++ ds)
finished_whole name slot files at at1 a a1 own c ds same =
    subst (λ (xs : List Deed). AreRest (finish_acts name) (slot_opened name slot) (deeds (flat_map finish_part c.parts) ++ xs)) (sym same)
    (parts_whole_in name slot files own _ (record { parts = c.parts; listed = c.listed; plain = c.plain; deeds_are = refl }))

-- a session that lists a file twice can't be finished so
pub doubled_sticks : (name : List ℕ) (slot : SlotNo) (at : At) (stuck : Stuck) (number : ObjectNo) (a : Agent) (v : SessionValue) (files : List Kept) → number.0 ≡ session_no slot.0 → Holds (session_no slot.0) a (Session v) → Tells v files → have_own_numbers files ≡ false → stuck ≡ record { halt = Broken number; held = Some (number, Session v) } → SticksAfter (AreRest (finish_acts name) (slot_opened name slot)) stuck at at (without (session_no slot.0) a) a
doubled_sticks name slot at stuck number a v files is h told own stuck_is =
    let n = session_no slot.0 in
    sticks_first (other_deeds name slot) (other_whole name slot) at at stuck (without n a) a refl
    (subst (λ (s : Stuck). Sticks at (turn n (SessionFinish name)) s (without n a) a) (sym stuck_is)
    (sticks_held at (Broken number) number n a a (Session v) is h refl (refl, (sym is, inr (inr (inr (refl, is_doubled v files told own)))))))

-- ---- what the session's end is answered

ok_at : (x : Option SessionState) (name : List ℕ) (b : Bool) (reply : Reply) → MatchOption x ⊥ (λ s. is_in s name ≡ b) → MatchOption x ⊥ (λ s. reply ≡ finish_answer (is_in s name) None) → reply ≡ finish_answer b None
ok_at None name b reply opened h = absurd opened
ok_at (Some s) name b reply opened h = h ∙ ap (λ x. finish_answer x None) opened

pub answered_as : (v : SessionValue) (name : List ℕ) (b : Bool) (reply : Reply) → SessionIs v (λ s. is_in s name ≡ b) → SessionIs v (λ s. reply ≡ finish_answer (is_in s name) None) → reply ≡ finish_answer b None
answered_as v name b reply opened h = ok_at (session_from v.start v.history) name b reply opened h

-- ---- the sequences

-- no slot has the name
abbrev pub no_slot : List ℕ → List Deed
no_slot name = deed_at registry_no [] (RegFindIn name) NoSession ∷ []

module _ (name : List ℕ) (slot : SlotNo) (at at1 at2 : At) (a a1 a2 : Agent) where
  pub other_finishes : Goes (deed_at (session_no slot.0) [] (SessionFinish name) NoSession ∷ []) at at1 a a1 → Goes (end_with NoSession ∷ []) at1 at2 a1 a2 → FinishesSlot name slot NoSession at at2 a a2
  other_finishes g h = record {
    outcome = NotIn slot;
    acts = session slot [] (SessionFinish name) NoSession ∷ [];
    is_one = refl;
    goes = then_goes _ _ at at1 at2 a a1 a2 g h;
  }

  pub in_finishes : (files : List Kept) (c : HasFinished files at at1 a a1) → have_own_numbers files ≡ true → Goes (session_ends_in slot name (HasFiles slot (map part_reference c.parts) ∷ [])) at1 at2 a1 a2 → FinishesSlot name slot Ok at at2 a a2
  in_finishes files c own h = record {
    outcome = Ended slot c.parts;
    acts = in_acts name slot c.parts;
    is_one = ends_so name slot files c.parts own c.listed c.plain;
    goes = subst (λ ds. Goes ds at at2 a a2) (sym (in_deeds name slot c.parts)) (then_goes _ _ at at1 at2 a a1 a2 c.goes h);
  }

  pub slot_comes : (labels : Labels) (reply : Reply) → Goes (slot_opened name slot) at at1 a a1 → FinishesSlot name slot reply at1 at2 a1 a2 → Comes labels labels (command.Finish name) reply at at2 a a2
  slot_comes labels reply g h = record {
    outcome = FinishCame h.outcome;
    sequence = record { acts = registry (RegFindIn name) (OkSlot slot) ∷ h.acts; reply = reply };
    is_one = h.is_one;
    reply_is = refl;
    goes = then_goes _ _ at at1 at2 a a1 a2 g h.goes;
    labels_are = either (is_ok reply);
  }
    where
      either : (b : Bool) → labels ≡ cond b labels labels
      either true = refl
      either false = refl

-- no session of the name
module _ (name : List ℕ) (at at1 at2 : At) (a a1 a2 : Agent) where
  pub none_comes : (labels : Labels) → Goes (no_slot name) at at1 a a1 → Goes (end_with NoSession ∷ []) at1 at2 a1 a2 → Comes labels labels (command.Finish name) NoSession at at2 a a2
  none_comes labels g h = record {
    outcome = FinishCame NotFound;
    sequence = record { acts = registry (RegFindIn name) NoSession ∷ []; reply = NoSession };
    is_one = refl;
    reply_is = refl;
    goes = then_goes _ _ at at1 at2 a a1 a2 g h;
    labels_are = refl;
  }

-- the files' parts, and then the end of the session in hand
pub ends_finished : (name : List ℕ) (slot : SlotNo) (at at1 at2 : At) (a a1 a2 : Agent) (v : SessionValue) (files : List Kept) → Holds (session_no slot.0) a (Session v) → Tells v files → have_own_numbers files ≡ true → HasFinished files at at1 a a1 → ((claims : List Claim) → AreClaimed (begun a1) a1.hands claims → Goes (session_ends_in slot name claims) at1 at2 (without (session_no slot.0) a1) a2) → FinishesSlot name slot Ok at at2 (without (session_no slot.0) a) a2
unfolding finished_within
ends_finished name slot at at1 at2 a a1 a2 v files h told own c goes =
    let n = session_no slot.0 in
    let held = holds_goes _ at at1 n a a1 (Session v) h c.goes in
    in_finishes name slot at at1 at2 (without n a) (without n a1) a2 files (finished_within files at at1 n a a1 c) own
    (goes (HasFiles slot (map part_reference c.parts) ∷ []) (files_claimed a1 a1.hands slot v files c.parts held.held told c.listed))

-- ---- the same, whether the turns were taken or not

outer_finishes : (name : List ℕ) (slot : SlotNo) (reply : Reply) (at at1 : At) (n : ℕ) (a a1 a2 : Agent) (o : Object) → Opens at n a a1 o → a.hands n ≡ None → FinishesSlot name slot reply at at1 (without n a1) a2 → FinishesSlot name slot reply at at1 a a2
outer_finishes name slot reply at at1 n a a1 a2 o opens free h = record {
  outcome = h.outcome;
  acts = h.acts;
  is_one = h.is_one;
  goes = outer_goes _ at at1 n a a1 a2 o opens free h.goes;
}

pub outer_finishes_if : (name : List ℕ) (slot : SlotNo) (at at1 : At) (n : ℕ) (a a1 a2 : Agent) (o : Object) (r : Result Reply Stopped) → Opens at n a a1 o → a.hands n ≡ None → IfOk r (λ reply. FinishesSlot name slot reply at at1 (without n a1) a2) → IfOk r (λ reply. FinishesSlot name slot reply at at1 a a2)
outer_finishes_if name slot at at1 n a a1 a2 o (result.Ok reply) opens free h = outer_finishes name slot reply at at1 n a a1 a2 o opens free h
outer_finishes_if name slot at at1 n a a1 a2 o (result.Err s) opens free h = tt

pub slot_comes_if : (name : List ℕ) (slot : SlotNo) (at at1 at2 : At) (a a1 a2 : Agent) (r : Result Reply Stopped) → Goes (slot_opened name slot) at at1 a a1 → IfOk r (λ reply. FinishesSlot name slot reply at1 at2 a1 a2) → IfOk r (λ reply. (labels : Labels) → Comes labels labels (command.Finish name) reply at at2 a a2)
slot_comes_if name slot at at1 at2 a a1 a2 (result.Ok reply) g h = λ labels. slot_comes name slot at at1 at2 a a1 a2 labels reply g h
slot_comes_if name slot at at1 at2 a a1 a2 (result.Err s) g h = tt
