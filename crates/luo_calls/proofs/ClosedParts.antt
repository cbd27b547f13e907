-- The parts of the files of a session that is closed: what is done with each file, and all of them one after another.
use Rattle.std.proofs.Common.{◌≡◌, ℕ, ◌+◌, ◌<◌, ◌==◌, ◌||◌, ◌&&◌, not, Bool, true, false, List, [], ◌∷◌, ◌++◌, length, get_or, take, drop, map, refl, sym, ap, subst, ◌∙◌, arith, append_assoc}
use Rattle.std.specs.Prelude.{None}
use Rattle.std.specs.List.{list_any, flat_map}
use Rattle.std.proofs.lemmas.List.{append-nil, map-append, take_more, take-append-drop}
use Rattle.std.proofs.lemmas.List.Concat.{flat_map-append}
use Rattle.ho_base.specs.Objects.{pool_no, registry_no, file_no}
use Rattle.ho_base.specs.declared.numbers.FileNo.{FileNo}
use Rattle.ho_base.specs.declared.numbers.Kind.TheVariants.{Memfd}
use Rattle.ho_base.specs.declared.numbers.Order.{Order}
use Rattle.ho_base.specs.declared.numbers.Pfn.{Pfn}
use Rattle.ho_events.specs.Lists.{are_distinct}
use Rattle.ho_events.specs.declared.event.Event.TheVariants.{FileUnpin, PoolGive, PoolUnmark, RegFreeFile}
use Rattle.ho_events.specs.declared.reply.Reply.{Reply}
use Rattle.ho_events.specs.declared.reply.Reply.TheVariants.{Ok, KeptRuns, Gone}
use Rattle.ho_events.specs.declared.slip.At.{At}
use Rattle.ho_world.specs.Acts.{IsFile, file, registry, single}
use Rattle.ho_world.specs.Logs.{Deed, deed_at, deed_of}
use Rattle.ho_world.specs.Sequences.Parts.{Part, close_part, part_reference}
use Rattle.phys_frames.specs.Memory.{FolioValue, first_frames}
use Rattle.machine_core.specs.Agents.{Agent}
use Rattle.machine_core.specs.Turns.{Goes}
use Rattle.luo_calls.specs.Closing.{ArePartsOf, HasClosed, Kept, after_unpin, deeds, given_back, has_number, have_own_numbers, kept_reference, unmarked}
use Rattle.luo_calls.specs.Doing.{SticksAfter}
use Rattle.luo_calls.specs.Replies.{IsUnpinReply}
use Rattle.luo_calls.specs.Stuck.{Sticks, turn, turn_of}
use Rattle.luo_calls.specs.declared.stuck.Stuck.{Stuck}
use Rattle.luo_calls.proofs.Chains.{then_goes}
use Rattle.luo_calls.proofs.Nested.{goes_nowhere, sticks_before, sticks_later}

-- ---- whether a file stands twice

numbers_any : (n : ℕ) (files : List Kept) → list_any (λ y. y == n) (map (λ f. f.1.0) files) ≡ has_number n files
unfolding has_number
numbers_any n [] = refl
numbers_any n (f ∷ files) = ap (λ b. f.1.0 == n || b) (numbers_any n files)

pub repeats : (f : Kept) (files : List Kept) → has_number f.1.0 files ≡ true → have_own_numbers (f ∷ files) ≡ false
unfolding have_own_numbers
repeats f files h = ap (λ b. not b && are_distinct (map (λ g. g.1.0) files)) (numbers_any f.1.0 files ∙ h)

pub goes_on : (f : Kept) (files : List Kept) → has_number f.1.0 files ≡ false → have_own_numbers (f ∷ files) ≡ have_own_numbers files
unfolding have_own_numbers
goes_on f files h = ap (λ b. not b && are_distinct (map (λ g. g.1.0) files)) (numbers_any f.1.0 files ∙ h)

pub none_repeats : (files : List Kept) → length files ≡ 0 → have_own_numbers files ≡ true
unfolding have_own_numbers
none_repeats [] h = refl
none_repeats (f ∷ files) h = absurd (omega arith)

-- ---- runs and folios, where there are some

pub none_unmarked : (o : Order) (runs : List Pfn) (at : At) (a : Agent) → length runs ≡ 0 → Goes (deeds (unmarked o runs)) at at a a
none_unmarked o [] at a h = goes_nowhere at a
none_unmarked o (r ∷ runs) at a h = absurd (omega (arith, h))

pub none_given : (o : Order) (folios : List FolioValue) (at : At) (a : Agent) → length folios ≡ 0 → Goes (deeds (given_back o (first_frames folios))) at at a a
none_given o [] at a h = goes_nowhere at a
none_given o (f ∷ folios) at a h = absurd (omega (arith, h))

pub gone_goes : (f : FileNo) (o : Order) (runs : List Pfn) (folios : List FolioValue) (at at1 at2 at3 : At) (a a1 a2 a3 : Agent) → first_frames folios ≡ runs → Goes (deeds (unmarked o runs)) at at1 a a1 → Goes (deeds (given_back o (first_frames folios))) at1 at2 a1 a2 → Goes (deed_at registry_no [] (RegFreeFile f) Ok ∷ []) at2 at3 a2 a3 → Goes (deeds (after_unpin f o (Gone runs))) at at3 a a3
gone_goes f o runs folios at at1 at2 at3 a a1 a2 a3 same h k l =
    subst (λ ds. Goes ds at at3 a a3)
    (sym (map-append deed_of (unmarked o runs) (given_back o runs ++ registry (RegFreeFile f) Ok ∷ []) ∙ ap (λ ds. deeds (unmarked o runs) ++ ds) (map-append deed_of (given_back o runs) (registry (RegFreeFile f) Ok ∷ []))))
    (then_goes _ _ at at1 at3 a a1 a3 h (then_goes _ _ at1 at2 at3 a1 a2 a3 (subst (λ rs. Goes (deeds (given_back o rs)) at1 at2 a1 a2) same k) l))

-- ---- the part of a file

part_of : Kept → Order → List Pfn → Bool → Part
part_of f o runs gone = record { number = f.1; handle = f.2; kind = Memfd; order = o; runs = runs; last = None; gone = gone }

kept_acts : (f : Kept) (o : Order) (runs : List Pfn) → flat_map close_part (part_of f o runs false ∷ []) ≡ file f.1 (IsFile f.1 Memfd o ∷ []) FileUnpin (KeptRuns runs) ∷ unmarked o runs
unfolding part_of
kept_acts f o runs = ap (λ rest. file f.1 (IsFile f.1 Memfd o ∷ []) FileUnpin (KeptRuns runs) ∷ rest) (append-nil (unmarked o runs ++ []) ∙ append-nil (unmarked o runs))

gone_acts : (f : Kept) (o : Order) (runs : List Pfn) → flat_map close_part (part_of f o runs true ∷ []) ≡ file f.1 (IsFile f.1 Memfd o ∷ []) FileUnpin (Gone runs) ∷ after_unpin f.1 o (Gone runs)
unfolding part_of
gone_acts f o runs = append-nil (file f.1 (IsFile f.1 Memfd o ∷ []) FileUnpin (Gone runs) ∷ after_unpin f.1 o (Gone runs))

pub closed_one : (f : Kept) (o : Order) (reply : Reply) (at at1 at2 : At) (a a1 a2 : Agent) → IsUnpinReply reply → Goes (deed_at (file_no f.1.0) (IsFile f.1 Memfd o ∷ []) FileUnpin reply ∷ []) at at1 a a1 → Goes (deeds (after_unpin f.1 o reply)) at1 at2 a1 a2 → HasClosed (f ∷ []) at at2 a a2
unfolding part_of
closed_one f o (KeptRuns runs) at at1 at2 a a1 a2 u g h = record {
  parts = part_of f o runs false ∷ [];
  listed = refl;
  goes = subst (λ acts. Goes (deeds acts) at at2 a a2) (sym (kept_acts f o runs)) (then_goes _ _ at at1 at2 a a1 a2 g h);
}
closed_one f o (Gone runs) at at1 at2 a a1 a2 u g h = record {
  parts = part_of f o runs true ∷ [];
  listed = refl;
  goes = subst (λ acts. Goes (deeds acts) at at2 a a2) (sym (gone_acts f o runs)) (then_goes _ _ at at1 at2 a a1 a2 g h);
}
closed_one f o reply at at1 at2 a a1 a2 u g h = absurd u

-- ---- the parts of files

pub closed_none : (at : At) (a : Agent) → HasClosed [] at at a a
closed_none at a = record { parts = []; listed = refl; goes = goes_nowhere at a }

pub closed_both : (fs gs : List Kept) (at at1 at2 : At) (a a1 a2 : Agent) → HasClosed fs at at1 a a1 → HasClosed gs at1 at2 a1 a2 → HasClosed (fs ++ gs) at at2 a a2
closed_both fs gs at at1 at2 a a1 a2 h k = record {
  parts = h.parts ++ k.parts;
  listed = map-append part_reference h.parts k.parts ∙ (λ i. h.listed i ++ k.listed i) ∙ sym (map-append kept_reference fs gs);
  goes =
      subst (λ ds. Goes ds at at2 a a2)
      (sym (ap deeds (flat_map-append close_part h.parts k.parts) ∙ map-append deed_of (flat_map close_part h.parts) (flat_map close_part k.parts)))
      (then_goes _ _ at at1 at2 a a1 a2 h.goes k.goes);
}

-- a file that was unpinned and is kept, without a run: one of the ways in which its part may come out
abbrev pub plain_part : Kept → Part
plain_part f = record { number = f.1; handle = f.2; kind = Memfd; order = single; runs = []; last = None; gone = false }

plain_listed : (files : List Kept) → map part_reference (map plain_part files) ≡ map kept_reference files
plain_listed [] = refl
plain_listed (f ∷ files) = ap (λ rs. kept_reference f ∷ rs) (plain_listed files)

abbrev pub plain_deeds : List Kept → List Deed
plain_deeds files = deeds (flat_map close_part (map plain_part files))

abbrev pub plain_unpin : Kept → List Deed
plain_unpin f = deed_at (file_no f.1.0) (IsFile f.1 Memfd single ∷ []) FileUnpin (KeptRuns []) ∷ []

-- the deeds of the part of a file that wasn't unpinned yet
pub plain_whole : (f : Kept) → ArePartsOf (f ∷ []) (plain_unpin f)
plain_whole f = record { parts = plain_part f ∷ []; listed = refl; deeds_are = refl }

-- the deeds of its part, by what its unpin was answered
pub part_whole : (f : Kept) (o : Order) (reply : Reply) → IsUnpinReply reply → (ds : List Deed) → ds ≡ deeds (after_unpin f.1 o reply) → ArePartsOf (f ∷ []) (deed_at (file_no f.1.0) (IsFile f.1 Memfd o ∷ []) FileUnpin reply ∷ ds)
unfolding part_of
part_whole f o (KeptRuns runs) is ds same = record {
  parts = part_of f o runs false ∷ [];
  listed = refl;
  deeds_are = ap (λ xs. deed_at (file_no f.1.0) (IsFile f.1 Memfd o ∷ []) FileUnpin (KeptRuns runs) ∷ xs) same ∙ ap deeds (sym (kept_acts f o runs));
}
part_whole f o (Gone runs) is ds same = record {
  parts = part_of f o runs true ∷ [];
  listed = refl;
  deeds_are = ap (λ xs. deed_at (file_no f.1.0) (IsFile f.1 Memfd o ∷ []) FileUnpin (Gone runs) ∷ xs) same ∙ ap deeds (sym (gone_acts f o runs));
}
part_whole f o reply is ds same = absurd is

-- the parts of files, one after another
deeds_both : (ps qs : List Part) → deeds (flat_map close_part (ps ++ qs)) ≡ deeds (flat_map close_part ps) ++ deeds (flat_map close_part qs)
deeds_both ps qs = ap deeds (flat_map-append close_part ps qs) ∙ map-append deed_of (flat_map close_part ps) (flat_map close_part qs)

pub parts_both : (fs gs : List Kept) (xs ys : List Deed) → ArePartsOf fs xs → ArePartsOf gs ys → ArePartsOf (fs ++ gs) (xs ++ ys)
parts_both fs gs xs ys h k = record {
  parts = h.parts ++ k.parts;
  listed = map-append part_reference h.parts k.parts ∙ (λ i. h.listed i ++ k.listed i) ∙ sym (map-append kept_reference fs gs);
  deeds_are = (λ i. h.deeds_are i ++ k.deeds_are i) ∙ sym (deeds_both h.parts k.parts);
}

plain_parts : (files : List Kept) → ArePartsOf files (plain_deeds files)
plain_parts files = record { parts = map plain_part files; listed = plain_listed files; deeds_are = refl }

-- some files' parts are done, and one more is under way
pub parts_around : (files : List Kept) (i : ℕ) (d : Kept) (at at1 : At) (a a1 : Agent) → i < length files → (c : HasClosed (take i files) at at1 a a1) → (ds : List Deed) → ArePartsOf (get_or files i d ∷ []) ds → ArePartsOf files (deeds (flat_map close_part c.parts) ++ (ds ++ plain_deeds (drop (i + 1) files)))
parts_around files i d at at1 a a1 less c ds k =
    subst (λ (fs : List Kept). ArePartsOf fs (deeds (flat_map close_part c.parts) ++ (ds ++ plain_deeds (drop (i + 1) files)))) split
    (parts_both (take i files) (get_or files i d ∷ drop (i + 1) files) (deeds (flat_map close_part c.parts)) (ds ++ plain_deeds (drop (i + 1) files))
    (record { parts = c.parts; listed = c.listed; deeds_are = refl })
    (parts_both (get_or files i d ∷ []) (drop (i + 1) files) ds (plain_deeds (drop (i + 1) files)) k (plain_parts (drop (i + 1) files))))
  where
    split : take i files ++ get_or files i d ∷ drop (i + 1) files ≡ files
    split =
        sym (append_assoc (take i files) (get_or files i d ∷ []) (drop (i + 1) files))
        ∙ ap (λ xs. xs ++ drop (i + 1) files) (sym (take_more files i d less)) ∙ take-append-drop (i + 1) files

-- a part that is under way is stuck
pub loop_sticks : (files : List Kept) (i : ℕ) (d : Kept) (at at1 at2 : At) (stuck : Stuck) (a a1 a2 : Agent) → i < length files → HasClosed (take i files) at at1 a a1 → SticksAfter (ArePartsOf (get_or files i d ∷ [])) stuck at1 at2 a1 a2 → SticksAfter (ArePartsOf files) stuck at at2 a a2
loop_sticks files i d at at1 at2 stuck a a1 a2 less c s =
    sticks_later {V = λ ds. ArePartsOf files (deeds (flat_map close_part c.parts) ++ ds)} {W = ArePartsOf files} (deeds (flat_map close_part c.parts)) (λ rest h. h) at at1 at2 stuck a a1 a2 c.goes
    (sticks_before {V = ArePartsOf (get_or files i d ∷ [])} {W = λ ds. ArePartsOf files (deeds (flat_map close_part c.parts) ++ ds)} (plain_deeds (drop (i + 1) files)) (parts_around files i d at at1 a a1 less c) at1 at2 stuck a1 a2 s)

pub closed_more : (files : List Kept) (i : ℕ) (d : Kept) (at at1 at2 : At) (a a1 a2 : Agent) → i < length files → HasClosed (take i files) at at1 a a1 → HasClosed (get_or files i d ∷ []) at1 at2 a1 a2 → HasClosed (take (i + 1) files) at at2 a a2
closed_more files i d at at1 at2 a a1 a2 less h k =
    subst (λ fs. HasClosed fs at at2 a a2) (sym (take_more files i d less)) (closed_both (take i files) (get_or files i d ∷ []) at at1 at2 a a1 a2 h k)

-- ---- after the unpin

-- after the unmark, the give of a file that is gone, or its number's end, can't be taken
pub after_unmark : (f : FileNo) (o : Order) (runs : List Pfn) → deeds (after_unpin f o (Gone runs)) ≡ deeds (unmarked o runs) ++ (deeds (given_back o runs) ++ deed_at registry_no [] (RegFreeFile f) Ok ∷ [])
after_unmark f o runs =
    map-append deed_of (unmarked o runs) (given_back o runs ++ registry (RegFreeFile f) Ok ∷ [])
    ∙ ap (λ ds. deeds (unmarked o runs) ++ ds) (map-append deed_of (given_back o runs) (registry (RegFreeFile f) Ok ∷ []))

pub after_give : (f : FileNo) (o : Order) (runs : List Pfn) → deeds (after_unpin f o (Gone runs)) ≡ (deeds (unmarked o runs) ++ deeds (given_back o runs)) ++ deed_at registry_no [] (RegFreeFile f) Ok ∷ []
after_give f o runs = after_unmark f o runs ∙ sym (append_assoc (deeds (unmarked o runs)) (deeds (given_back o runs)) (deed_at registry_no [] (RegFreeFile f) Ok ∷ []))

-- the same runs
pub same_given_sticks : (o : Order) (rs runs : List Pfn) (at : At) (stuck : Stuck) (a a1 : Agent) → rs ≡ runs → Sticks at (turn_of (deeds (given_back o rs))) stuck a a1 → Sticks at (turn_of (deeds (given_back o runs))) stuck a a1
same_given_sticks o rs runs at stuck a a1 e s = subst (λ xs. Sticks at (turn_of (deeds (given_back o xs))) stuck a a1) e s

pub same_given_goes : (o : Order) (rs runs : List Pfn) (at at1 : At) (a a1 : Agent) → rs ≡ runs → Goes (deeds (given_back o rs)) at at1 a a1 → Goes (deeds (given_back o runs)) at at1 a a1
same_given_goes o rs runs at at1 a a1 e g = subst (λ xs. Goes (deeds (given_back o xs)) at at1 a a1) e g

-- a turn on runs, where there are some
pub unmark_turn : (o : Order) (runs : List Pfn) (at : At) (stuck : Stuck) (a a1 : Agent) → 0 < length runs → Sticks at (turn pool_no (PoolUnmark o runs)) stuck a a1 → Sticks at (turn_of (deeds (unmarked o runs))) stuck a a1
unmark_turn o [] at stuck a a1 some s = absurd (omega (arith, some))
unmark_turn o (r ∷ runs) at stuck a a1 some s = s

pub give_turn : (o : Order) (runs : List Pfn) (at : At) (stuck : Stuck) (a a1 : Agent) → 0 < length runs → Sticks at (turn pool_no (PoolGive o runs)) stuck a a1 → Sticks at (turn_of (deeds (given_back o runs))) stuck a a1
give_turn o [] at stuck a a1 some s = absurd (omega (arith, some))
give_turn o (r ∷ runs) at stuck a a1 some s = s
