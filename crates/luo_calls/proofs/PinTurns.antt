-- What the turns of a pin come to.
use Rattle.std.proofs.Common.{◌≡◌, ℕ, suc, ◌+◌, ◌-◌, ◌*◌, ◌/◌, ◌^◌, ◌<◌, ◌≤◌, Bool, true, false, not, ◌&&◌, ◌||◌, ◌==◌, nat_lt, nat_le, List, [], ◌∷◌, ◌++◌, length, map, refl, sym, ap, subst, ◌∙◌, arith, IsTrue, le_trans, if◌then◌else◌}
use Rattle.std.proofs.Math.Nat.{mul_comm, mul-div-le}
use Rattle.std.proofs.lemmas.Nat.{le-div, pow_pos}
use Rattle.std.proofs.lemmas.Bool.Decides.{nat_tests}
use Rattle.std.specs.Prelude as result
use Rattle.std.specs.Prelude.{Option, None, Some, IsSome, MatchOption, option_map, Result, IfOk, IfErr, OnErr}
use Rattle.std.specs.declared.snapshot.Snapshot.{Snapshot}
use Rattle.ho_base.specs.Objects.{file_no, pool_no}
use Rattle.ho_base.specs.declared.items.Items.{Items}
use Rattle.ho_base.specs.declared.limits.TheConstants.{FILE_BYTES, MAX_ORDER, PAGE_BYTES}
use Rattle.ho_base.specs.declared.numbers.FileNo.{FileNo}
use Rattle.ho_base.specs.declared.numbers.Kind.TheVariants.{Memfd}
use Rattle.ho_base.specs.declared.numbers.Order.{Order}
use Rattle.ho_base.specs.declared.numbers.Pfn.{Pfn}
use Rattle.ho_events.specs.File.{FileState, holes, index_bytes, indexes}
use Rattle.ho_events.specs.Lists.{pieces}
use Rattle.ho_events.specs.declared.event.Event.TheVariants.{FilePin, PoolTake}
use Rattle.ho_events.specs.declared.reply.Reply.{Reply}
use Rattle.ho_events.specs.declared.reply.Reply.TheVariants.{AlreadyPinned, Got, NoFrames, NoFramesOf, NotFinished, OkRuns}
use Rattle.ho_events.specs.declared.slip.At.{At}
use Rattle.ho_events.specs.Slips.{reply_runs}
use Rattle.ho_world.specs.Acts.{Claim, IsFile}
use Rattle.ho_world.specs.Logs.{Deed, deed_at, deed_of}
use Rattle.ho_world.specs.Sequences.Files.{fits_file}
use Rattle.ho_world.specs.Sequences.Preserving.{is_pin_refusal, no_or_fits, take_holes}
use Rattle.phys_frames.specs.Homes.{HomeId}
use Rattle.phys_frames.specs.Memory.{AreOf, FolioValue, first_frames}
use Rattle.pool_core.specs.PoolLending.{zeroed_run}
use Rattle.file_folios.specs.FileAnswers.{AreFillsOf, IsPinAnswer, facts_of, pin_left, pin_used}
use Rattle.file_folios.specs.declared.facts.Facts.{Facts}
use Rattle.machine_core.specs.declared.object.Object.{Object}
use Rattle.machine_core.specs.Agents.{Agent}
use Rattle.machine_core.specs.Turns.{Goes}
use Rattle.luo_calls.specs.Doing.{SticksAfter}
use Rattle.luo_calls.specs.Memfds.{IsMemfd}
use Rattle.luo_calls.specs.Opened.{Opens, without}
use Rattle.luo_calls.specs.Pins.{ArePins, HasHoles, IsPin, came_to, is_kept_by, pin_deeds, pinned_with, runs_in, wanted_pins}
use Rattle.luo_calls.specs.Stuck.{Sticks, turn_of}
use Rattle.luo_calls.specs.declared.stuck.Stopped.{Stopped}
use Rattle.luo_calls.specs.declared.turns.pin.Pin.{Pin}
use Rattle.luo_calls.specs.declared.turns.pin.Pin.TheVariants.{Refused, Starved, Whole}
use Rattle.luo_calls.proofs.Chains.{then_goes}
use Rattle.luo_calls.proofs.Folios.{runs_begin, runs_fill}
use Rattle.luo_calls.proofs.Nested.{outer_goes, outer_sticks, sticks_next}
use Rattle.luo_calls.proofs.Preserves.{unread}
use Rattle.luo_calls.proofs.Counts.{filtered, long_upto}

-- a file in hand, of which a fact holds
abbrev pub Has : Option (Option FileState) → (FileState → Type 0) → Type 0
Has x P = MatchOption x ⊥ (λ s. MatchOption s ⊥ P)

-- a reply without runs is a refusal
pub other_reply : (o : Order) (fills : Snapshot (Items Pfn)) (reply : Reply) → ((runs : List Pfn) → reply ≡ OkRuns runs → ⊥) → came_to o fills reply ≡ Refused reply
other_reply o fills (OkRuns runs) h = absurd (h runs refl)
other_reply o fills reply h = refl

-- ---- the turn of the file

-- the answer, without the state that the file has then
abbrev pub Answers : ℕ → Reply → FileState → Type 0
Answers n r f = (g : FileState) × IsPinAnswer f n g r

pub answered : (x y : Option (Option FileState)) (n : ℕ) (r : Reply) → Has x (λ f. Has y (λ g. IsPinAnswer f n g r)) → Has x (Answers n r)
answered None y n r h = absurd h
answered (Some None) y n r h = absurd h
answered (Some (Some f)) None n r h = absurd h
answered (Some (Some f)) (Some None) n r h = absurd h
answered (Some (Some f)) (Some (Some g)) n r h = (g, h)

-- the same runs and reply
pub same_pin : (n : ℕ) (claims : List Claim) (runs runs' : List Pfn) (reply reply' : Reply) (at at' : At) (a a' : Agent) → runs ≡ runs' → reply ≡ reply' → Goes (deed_at n claims (FilePin runs) reply ∷ []) at at' a a' → Goes (deed_at n claims (FilePin runs') reply' ∷ []) at at' a a'
same_pin n claims runs runs' reply reply' at at' a a' same replied h =
    subst (λ (r : Reply). Goes (deed_at n claims (FilePin runs') r ∷ []) at at' a a') replied
    (subst (λ (rs : List Pfn). Goes (deed_at n claims (FilePin rs) reply ∷ []) at at' a a') same h)

-- there is room for the runs of all indexes
pub indexes_fit : (x : Option (Option FileState)) (count room : ℕ) → room ≡ count → Has x (λ f. count ≡ pieces (length f.bytes) (index_bytes f)) → Has x (λ f. pieces (length f.bytes) (index_bytes f) ≤ room)
indexes_fit None count room same h = absurd h
indexes_fit (Some None) count room same h = absurd h
indexes_fit (Some (Some f)) count room same h = let e : room ≡ pieces (length f.bytes) (index_bytes f) = same ∙ h in omega (arith, e)

-- ---- a pin that takes no run

none_used : (reply : Reply) → pin_used reply [] ≡ []
none_used (OkRuns runs) = refl
none_used reply = refl

none_left : (reply : Reply) → pin_left reply [] ≡ []
none_left (OkRuns runs) = refl
none_left reply = refl

pub no_used : (reply : Reply) (fills : List FolioValue) → fills ≡ [] → first_frames (pin_used reply fills) ≡ []
no_used reply fills e = ap (λ x. first_frames (pin_used reply x)) e ∙ ap first_frames (none_used reply)

pub no_left : (reply : Reply) (fills : List FolioValue) → fills ≡ [] → pin_left reply fills ≡ []
no_left reply fills e = ap (pin_left reply) e ∙ none_left reply

pub no_fills : (x : Option (Option FileState)) (o : Order) (home : HomeId) (fills : List FolioValue) → fills ≡ [] → MatchOption x ⊥ (λ s. IsMemfd (option_map facts_of s) o) → Has x (λ f. AreFillsOf home f.order fills)
no_fills None o home fills e m = absurd m
no_fills (Some None) o home fills e m = absurd m
no_fills (Some (Some f)) o home fills e m = subst (AreFillsOf home f.order) (sym e) tt

pub with_none : (x : Option (Option FileState)) (n : ℕ) (r : Reply) → n ≡ 0 → Has x (Answers n r) → Has x (Answers 0 r)
with_none x n r e h = subst (λ m. Has x (Answers m r)) e h

no_clash : {A : Type 0} → (b : Bool) → b ≡ true → b ≡ false → A
no_clash true e h = absurd cc
no_clash false e h = absurd cc

-- too few runs are free
starved_is : (f g : FileState) (count : ℕ) (r : Reply) → HasHoles f count → IsPinAnswer f 0 g r → r ≡ NoFramesOf count
starved_is f g count NotFinished t h = no_clash f.hold h t.unheld
starved_is f g count AlreadyPinned t h = no_clash f.pin h.1 t.unpinned
starved_is f g count (NoFramesOf k) t h = ap NoFramesOf (h.4 ∙ sym t.count_is)
starved_is f g count (OkRuns runs) t h =
    let none : 0 ≡ length (holes f (indexes f)) = h.2 in let some : 0 < count = t.some in let is : count ≡ length (holes f (indexes f)) = t.count_is in absurd (omega (arith, none, some, is))
starved_is f g count r t h = absurd h

pub starved_reply : (x : Option (Option FileState)) (count : ℕ) (r : Reply) → Has x (λ f. HasHoles f count) → Has x (Answers 0 r) → r ≡ NoFramesOf count
starved_reply None count r t h = absurd h
starved_reply (Some None) count r t h = absurd h
starved_reply (Some (Some f)) count r t h = starved_is f h.0 count r t h.1

-- ---- a pin with runs for the holes

pub filled_fills : (x : Option (Option FileState)) (o : Order) (own home : HomeId) (runs : List Pfn) (fills : List FolioValue) → own ≡ home → fills ≡ map (zeroed_run home o) runs → MatchOption x ⊥ (λ s. IsMemfd (option_map facts_of s) o) → Has x (λ f. AreFillsOf own f.order fills)
filled_fills None o own home runs fills same e m = absurd m
filled_fills (Some None) o own home runs fills same e m = absurd m
filled_fills (Some (Some f)) o own home runs fills same e m =
    subst (λ (h : HomeId). AreFillsOf h f.order fills) (sym same)
    (subst (λ n. AreFillsOf home n fills) (sym (ap (λ (x : Order). x.0) m.1)) (subst (AreFillsOf home o.0) (sym e) (runs_fill home o runs)))

pub counted : (x : Option (Option FileState)) (n : ℕ) → Has x (λ f. HasHoles f n) → 0 < n → Has x (λ f. n ≡ length (holes f (indexes f)))
counted None n t h = absurd t
counted (Some None) n t h = absurd t
counted (Some (Some f)) n t h = t.count_is

whole_is : (f g : FileState) (n : ℕ) (r : Reply) → HasHoles f n → IsPinAnswer f n g r → r ≡ OkRuns (reply_runs r)
whole_is f g n NotFinished t h = no_clash f.hold h t.unheld
whole_is f g n AlreadyPinned t h = no_clash f.pin h.1 t.unpinned
whole_is f g n (NoFramesOf k) t h = let none : n ≡ 0 = h.2 in let some : 0 < n = t.some in absurd (omega (arith, none, some))
whole_is f g n (OkRuns runs) t h = refl
whole_is f g n r t h = absurd h

pub whole_reply : (x : Option (Option FileState)) (n : ℕ) (r : Reply) → Has x (λ f. HasHoles f n) → Has x (Answers n r) → r ≡ OkRuns (reply_runs r)
whole_reply None n r t h = absurd h
whole_reply (Some None) n r t h = absurd h
whole_reply (Some (Some f)) n r t h = whole_is f h.0 n r t h.1

pub all_left : (reply : Reply) (fills : List FolioValue) → reply ≡ OkRuns (reply_runs reply) → pin_left reply fills ≡ []
all_left reply fills is = ap (λ (r : Reply). pin_left r fills) is

pub filled_runs : (home : HomeId) (o : Order) (runs : List Pfn) (fills : List FolioValue) (reply : Reply) → fills ≡ map (zeroed_run home o) runs → reply ≡ OkRuns (reply_runs reply) → first_frames (pin_used reply fills) ≡ runs
filled_runs home o runs fills reply same is = ap (λ (r : Reply). first_frames (pin_used r fills)) is ∙ ap first_frames same ∙ runs_begin home o runs

-- what it came to
pub whole_came : (o : Order) (fills : Snapshot (Items Pfn)) (reply : Reply) (p : Pin) → p ≡ came_to o fills reply → reply ≡ OkRuns (reply_runs reply) → p ≡ Whole o fills (runs_in p)
whole_came o fills reply p is same = whole ∙ ap (Whole o fills) (sym (ap runs_in whole))
  where
    whole : p ≡ Whole o fills (reply_runs reply)
    whole = is ∙ ap (came_to o fills) same

pub runs_came : (o : Order) (fills : Snapshot (Items Pfn)) (reply : Reply) (p : Pin) → p ≡ came_to o fills reply → reply ≡ OkRuns (reply_runs reply) → runs_in p ≡ reply_runs reply
runs_came o fills reply p is same = ap runs_in (is ∙ ap (came_to o fills) same)

pub few_came : (o : Order) (fills : Snapshot (Items Pfn)) (reply : Reply) (p : Pin) (n : ℕ) → p ≡ came_to o fills reply → reply ≡ OkRuns (reply_runs reply) → length (reply_runs reply) < n → length (runs_in p) < n
few_came o fills reply p n is same few = subst (λ (rs : List Pfn). length rs < n) (sym (runs_came o fills reply p is same)) few

-- ---- the take and the pin, one after the other

-- the take of runs for so many holes, of which there are some
took_holes : (f : FileNo) (o : Order) (runs : List Pfn) (n : ℕ) → length runs ≡ n → 0 < n → map deed_of (take_holes f o runs) ≡ deed_at pool_no (IsFile f Memfd o ∷ []) (PoolTake o n) (Got runs) ∷ []
took_holes f o [] n count some = absurd (omega (arith, count, some))
took_holes f o (r ∷ runs) n count some = ap (λ m. deed_at pool_no (IsFile f Memfd o ∷ []) (PoolTake o m) (Got (r ∷ runs)) ∷ []) count

runs_fit : (o : Order) (runs : List Pfn) (n : ℕ) → length runs ≡ n → IsTrue (fits_file o n) → IsTrue (no_or_fits o runs)
runs_fit o [] n count fits = refl
runs_fit o (r ∷ runs) n count fits = subst (λ m. IsTrue (fits_file o m)) (sym count) fits

-- the deeds of a pin whose holes were filled
whole_deeds : (f : FileNo) (o : Order) (fills : Snapshot (Items Pfn)) (runs : List Pfn) (n : ℕ) → length fills.value ≡ n → 0 < n → pin_deeds f (Whole o fills runs) ≡ deed_at pool_no (IsFile f Memfd o ∷ []) (PoolTake o n) (Got fills.value) ∷ pinned_with f o fills.value (OkRuns runs) ∷ []
whole_deeds f o fills runs n count some = ap (λ ds. ds ++ pinned_with f o fills.value (OkRuns runs) ∷ []) (took_holes f o fills.value n count some)

abbrev pub took : FileNo → Order → ℕ → List Pfn → List Deed
took f o n runs = deed_at pool_no (IsFile f Memfd o ∷ []) (PoolTake o n) (Got runs) ∷ []

pub filled_comes : (f : FileNo) (o : Order) (n : ℕ) (fills : Snapshot (Items Pfn)) (at at1 at2 : At) (b b1 b2 : Agent) (r : Result Pin Stopped) → length fills.value ≡ n → 0 < n → Goes (took f o n fills.value) at at1 b b1 → IfOk r (λ p. p ≡ Whole o fills (runs_in p)) → IfOk r (λ p. Goes (pinned_with f o fills.value (OkRuns (runs_in p)) ∷ []) at1 at2 b1 b2) → IfOk r (λ p. Goes (pin_deeds f p) at at2 b b2)
filled_comes f o n fills at at1 at2 b b1 b2 (result.Ok p) count some h is k =
    subst (λ (x : Pin). Goes (pin_deeds f x) at at2 b b2) (sym is)
    (subst (λ ds. Goes ds at at2 b b2) (sym (whole_deeds f o fills (runs_in p) n count some)) (then_goes _ _ at at1 at2 b b1 b2 h k))
filled_comes f o n fills at at1 at2 b b1 b2 (result.Err s) count some h is k = tt

pub filled_told : (o : Order) (n : ℕ) (fills : Snapshot (Items Pfn)) (r : Result Pin Stopped) → length fills.value ≡ n → IsTrue (fits_file o n) → IfOk r (λ p. p ≡ Whole o fills (runs_in p)) → IfOk r (λ p. length (runs_in p) < 2 ^ 32) → IfOk r IsPin
filled_told o n fills (result.Ok p) count fits is few = subst IsPin (sym is) (runs_fit o fills.value n count fits, few)
filled_told o n fills (result.Err s) count fits is few = tt

-- the ways in which a turn may be stuck
pub refused_pins : (f : FileNo) → ArePins f (deed_at (file_no f.0) [] (FilePin []) NotFinished ∷ [])
refused_pins f = record { outcome = Refused NotFinished; fits = refl; deeds_are = refl }

pub starved_pins : (f : FileNo) (o : Order) (n : ℕ) → IsTrue (fits_file o n) → ArePins f (deed_at pool_no (IsFile f Memfd o ∷ []) (PoolTake o n) NoFrames ∷ pinned_with f o [] (NoFramesOf n) ∷ [])
starved_pins f o n fits = record { outcome = Starved o n; fits = fits; deeds_are = refl }

pub filled_pins : (f : FileNo) (o : Order) (fills : Snapshot (Items Pfn)) (n : ℕ) → length fills.value ≡ n → 0 < n → IsTrue (fits_file o n) → ArePins f (took f o n fills.value ++ pinned_with f o fills.value (OkRuns []) ∷ [])
filled_pins f o fills n count some fits = record {
  outcome = Whole o fills [];
  fits = (runs_fit o fills.value n count fits, omega arith);
  deeds_are = sym (whole_deeds f o fills [] n count some);
}

pub filled_stops : (W : List Deed → Type 0) (ds due : List Deed) → W (ds ++ due) → (at at1 at2 : At) (b b1 b2 : Agent) (r : Result Pin Stopped) → Goes ds at at1 b b1 → OnErr r (at2 ≡ at1) → IfErr r (λ s. Sticks at1 (turn_of due) s.stuck b1 b2) → IfErr r (λ s. SticksAfter W s.stuck at at2 b b2)
filled_stops W ds due front at at1 at2 b b1 b2 (result.Ok p) h same s = tt
filled_stops W ds due front at at1 at2 b b1 b2 (result.Err x) h same s = sticks_next ds due front at at1 at2 x.stuck b b1 b2 h same s

-- ---- how many holes a file may have

few_holes : (f : FileState) → length (holes f (indexes f)) ≤ pieces (length f.bytes) (index_bytes f)
few_holes f =
    let less : length (holes f (indexes f)) ≤ length (indexes f) = filtered _ (indexes f) in
    let long : length (indexes f) ≡ pieces (length f.bytes) (index_bytes f) = long_upto _ in
    omega (arith, less, long)

more_pieces : (m n size : ℕ) → 0 < size → m ≤ n → pieces m size ≤ pieces n size
more_pieces m n size some less =
    le-div (pieces m size) (n + (size - 1)) size some
    (subst (λ k. k ≤ n + (size - 1)) (mul_comm size (pieces m size)) (le_trans (mul-div-le (m + (size - 1)) size) (omega (arith, less))))

some_bytes : (o : ℕ) → 0 < PAGE_BYTES * 2 ^ o
some_bytes o = let pos : 0 < 2 ^ o = pow_pos o in omega (arith, pos)

file_fits : (f : FileState) (o : Order) (n : ℕ) → f.order ≡ o.0 → length f.bytes ≤ FILE_BYTES → n ≡ length (holes f (indexes f)) → 0 < n → IsTrue (fits_file o n)
file_fits f o n same within count some = rw (sym same, first, second) refl
  where
    first : nat_lt 0 n ≡ true
    first = grind (arith, nat_tests)

    second : nat_le n (pieces FILE_BYTES (PAGE_BYTES * 2 ^ f.order)) ≡ true
    second =
        let few : length (holes f (indexes f)) ≤ pieces (length f.bytes) (PAGE_BYTES * 2 ^ f.order) = few_holes f in
        let more : pieces (length f.bytes) (PAGE_BYTES * 2 ^ f.order) ≤ pieces FILE_BYTES (PAGE_BYTES * 2 ^ f.order) = more_pieces (length f.bytes) FILE_BYTES (PAGE_BYTES * 2 ^ f.order) (some_bytes f.order) within in
        grind (arith, nat_tests)

-- ---- whether runs are taken

pub wants : (x : Option (Option FileState)) (facts : Option Facts) (b : Bool) (n r : ℕ) → b ≡ is_kept_by facts → MatchOption x ⊥ (λ s. facts ≡ option_map facts_of s) → Has x (λ f. n ≡ length (holes f (indexes f))) → r ≡ (if b then 0 else n) → Has x (λ f. r ≡ wanted_pins f)
wants None facts b n r kept told count is = absurd count
wants (Some None) facts b n r kept told count is = absurd count
wants (Some (Some f)) facts b n r kept told count is =
    is ∙ ap (λ k. if k then 0 else n) (kept ∙ ap is_kept_by told) ∙ ap (λ k. if f.pin || f.hold then 0 else k) count

-- where some are wanted no session has the file, and it has holes
wanted_holes : (f : FileState) (pin hold : Bool) (n : ℕ) → f.pin ≡ pin → f.hold ≡ hold → (n ≡ 0 → ⊥) → n ≡ (if pin || hold then 0 else length (holes f (indexes f))) → HasHoles f n
wanted_holes f true hold n p q some is = absurd (some is)
wanted_holes f false true n p q some is = absurd (some is)
wanted_holes f false false n p q some is = record { unpinned = p; unheld = q; count_is = is; some = positive n some }
  where
    positive : (n : ℕ) → (n ≡ 0 → ⊥) → 0 < n
    positive n h = grind (arith)

pub has_holes : (x : Option (Option FileState)) (n : ℕ) → (n ≡ 0 → ⊥) → Has x (λ f. n ≡ wanted_pins f) → Has x (λ f. HasHoles f n)
has_holes None n some h = absurd h
has_holes (Some None) n some h = absurd h
has_holes (Some (Some f)) n some h = wanted_holes f f.pin f.hold n refl refl some h

pub wanted_fits : (x : Option (Option FileState)) (o : Order) (n : ℕ) → MatchOption x ⊥ (λ s. IsMemfd (option_map facts_of s) o) → Has x (λ f. length f.bytes ≤ FILE_BYTES) → Has x (λ f. HasHoles f n) → IsTrue (fits_file o n)
wanted_fits None o n m within h = absurd m
wanted_fits (Some None) o n m within h = absurd m
wanted_fits (Some (Some f)) o n m within h = file_fits f o n (ap (λ (x : Order). x.0) m.1) within h.count_is h.some

-- where none are wanted, there are no holes or a session has the file
clash : (pin hold : Bool) (n k : ℕ) → pin ≡ false → hold ≡ false → 0 ≡ (if pin || hold then 0 else n) → 0 < k → k ≡ n → ⊥
clash false false n k p q e some is = omega (arith, e, some, is)
clash true hold n k p q e some is = absurd cc
clash false true n k p q e some is = absurd cc

plain_is : (f g : FileState) (o : Order) (none : Snapshot (Items Pfn)) (r : Reply) → none.value ≡ [] → 0 ≡ wanted_pins f → length (reply_runs r) < 2 ^ 32 → IsPinAnswer f 0 g r → IsPin (came_to o none r)
plain_is f g o none NotFinished empty wanted few h = refl
plain_is f g o none AlreadyPinned empty wanted few h = refl
plain_is f g o none (NoFramesOf k) empty wanted few h = absurd (clash f.pin f.hold (length (holes f (indexes f))) k h.1 h.0 wanted h.3 h.4)
plain_is f g o none (OkRuns runs) empty wanted few h = (subst (λ (rs : List Pfn). IsTrue (no_or_fits o rs)) (sym empty) refl, few)
plain_is f g o none r empty wanted few h = absurd h

pub plain_told : (x : Option (Option FileState)) (o : Order) (none : Snapshot (Items Pfn)) (n : ℕ) (r : Reply) → none.value ≡ [] → n ≡ 0 → Has x (λ f. n ≡ wanted_pins f) → length (reply_runs r) < 2 ^ 32 → Has x (Answers 0 r) → IsPin (came_to o none r)
plain_told None o none n r empty zero wanted few h = absurd h
plain_told (Some None) o none n r empty zero wanted few h = absurd h
plain_told (Some (Some f)) o none n r empty zero wanted few h = plain_is f h.0 o none r empty (sym zero ∙ wanted) few h.1

pub plain_pins : (o : Order) (none : Snapshot (Items Pfn)) (r : Reply) (p : Pin) → p ≡ came_to o none r → IsPin (came_to o none r) → IsPin p
plain_pins o none r p is h = subst IsPin (sym is) h

-- the deeds of a pin that took no run
pub plain_goes : (f : FileNo) (o : Order) (none : Snapshot (Items Pfn)) (r : Reply) (at at1 : At) (a a1 : Agent) → none.value ≡ [] → Goes (pinned_with f o [] r ∷ []) at at1 a a1 → Goes (pin_deeds f (came_to o none r)) at at1 a a1
plain_goes f o none (OkRuns runs) at at1 a a1 empty h =
    subst (λ (rs : List Pfn). Goes (map deed_of (take_holes f o rs) ++ pinned_with f o rs (OkRuns runs) ∷ []) at at1 a a1) (sym empty) h
plain_goes f o none r at at1 a a1 empty h = unread (file_no f.0) (IsFile f Memfd o ∷ []) (FilePin []) r at at1 a a1 h

-- ---- a pin, seen from before the file was taken

pub some_holes : (x : Option (Option FileState)) (n : ℕ) → Has x (λ f. HasHoles f n) → 0 < n
some_holes None n h = absurd h
some_holes (Some None) n h = absurd h
some_holes (Some (Some f)) n h = h.some

pub given_home : (h k : HomeId) (r : Result Pin Stopped) → k ≡ h → IfErr r (λ s. AreOf k s.folios.items) → IfErr r (λ s. AreOf h s.folios.items)
given_home h k (result.Ok p) e g = tt
given_home h k (result.Err s) e g = subst (λ x. AreOf x s.folios.items) e g

pub outer_comes : (file : FileNo) (at at1 : At) (a a1 a2 : Agent) (o : Object) (r : Result Pin Stopped) → Opens at (file_no file.0) a a1 o → a.hands (file_no file.0) ≡ None → IfOk r (λ p. Goes (pin_deeds file p) at at1 (without (file_no file.0) a1) a2) → IfOk r (λ p. Goes (pin_deeds file p) at at1 a a2)
outer_comes file at at1 a a1 a2 o (result.Ok p) opens free h = outer_goes _ at at1 (file_no file.0) a a1 a2 o opens free h
outer_comes file at at1 a a1 a2 o (result.Err s) opens free h = tt

pub outer_stops : (W : List Deed → Type 0) (n : ℕ) (at at1 : At) (a a1 a2 : Agent) (o : Object) (r : Result Pin Stopped) → Opens at n a a1 o → a.hands n ≡ None → IfErr r (λ s. SticksAfter W s.stuck at at1 (without n a1) a2) → IfErr r (λ s. SticksAfter W s.stuck at at1 a a2)
outer_stops W n at at1 a a1 a2 o (result.Ok p) opens free h = tt
outer_stops W n at at1 a a1 a2 o (result.Err s) opens free h = outer_sticks at at1 s.stuck n a a1 a2 o opens free h

-- what a pin came to that took no run
pub came_plain : (file : FileNo) (o : Order) (none : Snapshot (Items Pfn)) (r : Reply) (p : Pin) (at at1 : At) (a a1 : Agent) → p ≡ came_to o none r → none.value ≡ [] → Goes (pinned_with file o [] r ∷ []) at at1 a a1 → Goes (pin_deeds file p) at at1 a a1
came_plain file o none r p at at1 a a1 is empty h = subst (λ (x : Pin). Goes (pin_deeds file x) at at1 a a1) (sym is) (plain_goes file o none r at at1 a a1 empty h)
