-- What the turns of a `write` or a `fill` come to.
use Rattle.std.proofs.Common.{◌≡◌, ℕ, ◌+◌, ◌-◌, ◌*◌, ◌/◌, ◌^◌, ◌<◌, ◌≤◌, Bool, true, false, ◌&&◌, ◌||◌, ◌==◌, nat_lt, nat_le, List, [], ◌∷◌, ◌++◌, length, map, filter, refl, sym, ap, subst, ◌∙◌, arith, IsTrue, if◌then◌else◌, zero, suc, cond}
use Rattle.std.specs.Prelude.{Option, None, Some, IsSome, MatchOption, option_map, Result, IfOk, IfErr, OnOk, OnErr}
use Rattle.std.specs.Prelude as result
use Rattle.std.specs.declared.snapshot.Snapshot.{Snapshot}
use Rattle.std.proofs.lemmas.Bool.Decides.{nat_tests}
use Rattle.std.proofs.lemmas.List.{length-append, length-map}
use Rattle.ho_base.specs.Objects.{pool_no, file_no}
use Rattle.ho_base.specs.declared.items.Items.{Items}
use Rattle.ho_base.specs.declared.limits.TheConstants.{PAGE_BYTES, FILE_BYTES}
use Rattle.ho_base.specs.declared.numbers.FileNo.{FileNo}
use Rattle.ho_base.specs.declared.numbers.Kind.TheVariants.{Memfd}
use Rattle.ho_base.specs.declared.numbers.Order.{Order}
use Rattle.ho_base.specs.declared.numbers.Pfn.{Pfn}
use Rattle.ho_events.specs.File.{FileState, grows_frozen, is_too_big, touched_holes, holes, touched, index_bytes}
use Rattle.ho_events.specs.Lists.{upto, pieces}
use Rattle.ho_events.specs.declared.event.Event.{Event}
use Rattle.ho_events.specs.declared.event.Event.TheVariants.{PoolTake}
use Rattle.ho_events.specs.declared.reply.Reply.{Reply}
use Rattle.ho_events.specs.declared.reply.Reply.TheVariants.{Ok, SizeFrozen, TooBig, NoFramesOf, Got}
use Rattle.ho_events.specs.declared.slip.At.{At}
use Rattle.ho_world.specs.Acts.{Claim, IsFile}
use Rattle.ho_world.specs.Logs.{deed_at, Deed}
use Rattle.ho_world.specs.Sequences.Files.{fits_range}
use Rattle.phys_frames.specs.Homes.{HomeId}
use Rattle.phys_frames.specs.Memory.{AreOf, FolioValue, first_frames}
use Rattle.pool_core.specs.PoolLending.{zeroed_run}
use Rattle.file_folios.specs.FileAnswers.{AreFillsOf, facts_of, write_answer, fills_used, fills_left}
use Rattle.machine_core.specs.declared.object.Object.{Object}
use Rattle.machine_core.specs.Agents.{Agent}
use Rattle.machine_core.specs.Turns.{Goes, is_by_label, is_of_runs}
use Rattle.luo_calls.specs.Doing.{SticksAfter}
use Rattle.luo_calls.specs.Memfds.{IsMemfd, IsPlainReply, TouchesHoles, wanted_runs}
use Rattle.luo_calls.specs.Opened.{Opens, without}
use Rattle.luo_calls.specs.Puts.{put_event}
use Rattle.luo_calls.specs.Stuck.{Sticks, turn_of}
use Rattle.luo_calls.specs.Wrote.{write_deeds, IsTaking, IsWrote}
use Rattle.luo_calls.specs.declared.stuck.Stopped.{Stopped}
use Rattle.luo_calls.specs.declared.turns.put.Put.{Put}
use Rattle.luo_calls.specs.declared.turns.put.Put.TheVariants.{Bytes, Same}
use Rattle.luo_calls.specs.declared.turns.write.Wrote.{Wrote}
use Rattle.luo_calls.specs.declared.turns.write.Wrote.TheVariants.{Plain, Starved, Filled}
use Rattle.luo_calls.proofs.Chains.{then_goes}
use Rattle.luo_calls.proofs.Folios.{runs_fill, runs_begin}
use Rattle.luo_calls.proofs.Nested.{outer_goes, outer_sticks, sticks_next}
use Rattle.luo_calls.proofs.Counts.{filtered, long_upto}

-- bytes are put by an event that uses a label's file, at which it may get runs
pub put_by_label : (put : Put) (off : ℕ) (fills : List Pfn) → is_by_label (put_event put off fills) ≡ true
put_by_label (Bytes bytes) off fills = refl
put_by_label (Same len byte) off fills = refl

pub put_of_runs : (put : Put) (off : ℕ) (fills : List Pfn) → is_of_runs (put_event put off fills) ≡ true
put_of_runs (Bytes bytes) off fills = refl
put_of_runs (Same len byte) off fills = refl

-- the same runs
pub same_write : (n : ℕ) (event : List Pfn → Event) (claims : List Claim) (runs runs' : List Pfn) (reply reply' : Reply) (at at' : At) (a a' : Agent) → runs ≡ runs' → reply ≡ reply' → Goes (deed_at n claims (event runs) reply ∷ []) at at' a a' → Goes (deed_at n claims (event runs') reply' ∷ []) at at' a a'
same_write n event claims runs runs' reply reply' at at' a a' same replied h =
    subst (λ r. Goes (deed_at n claims (event runs') r ∷ []) at at' a a') replied
    (subst (λ r. Goes (deed_at n claims (event r) reply ∷ []) at at' a a') same h)

-- ---- how many runs a write wants

fitting_end : (end : ℕ) → end ≤ FILE_BYTES → is_too_big end ≡ false
fitting_end end less = grind (arith, nat_tests)

fitting : (end : ℕ) → is_too_big end ≡ false → end ≤ FILE_BYTES
fitting end is = grind (arith, nat_tests)

some_holes : (n : ℕ) → (n ≡ 0 → ⊥) → 0 < n
some_holes n h = grind (arith)

-- where some are wanted, the write isn't refused
module _ (f : FileState) (off len holes : ℕ) (some : 0 < holes) where
  none : holes ≡ 0 → ⊥
  none e = grind (arith, some, e)

  touches_so : (big frozen : Bool) → is_too_big (off + len) ≡ big → grows_frozen f (off + len) ≡ frozen → holes ≡ (if big || frozen then 0 else length (touched_holes f off len)) → TouchesHoles f off len holes
  touches_so true frozen b g e = absurd (none e)
  touches_so false true b g e = absurd (none e)
  touches_so false false b g e = record { within = fitting (off + len) b; unfrozen = g; count = e; some = some }

pub touches : (x : Option (Option FileState)) (off len holes : ℕ) → (holes ≡ 0 → ⊥) → MatchOption x ⊥ (λ s. MatchOption s ⊥ (λ f. holes ≡ wanted_runs f off len)) → MatchOption x ⊥ (λ s. MatchOption s ⊥ (λ f. TouchesHoles f off len holes))
touches None off len holes some h = absurd h
touches (Some None) off len holes some h = absurd h
touches (Some (Some f)) off len holes some h = touches_so f off len holes (some_holes holes some) (is_too_big (off + len)) (grows_frozen f (off + len)) refl refl h

pub wants_none : (x : Option (Option FileState)) (off len n : ℕ) → n ≡ 0 → MatchOption x ⊥ (λ s. MatchOption s ⊥ (λ f. n ≡ wanted_runs f off len)) → MatchOption x ⊥ (λ s. MatchOption s ⊥ (λ f. wanted_runs f off len ≡ 0))
wants_none None off len n none h = absurd h
wants_none (Some None) off len n none h = absurd h
wants_none (Some (Some f)) off len n none h = sym h ∙ none

-- ---- a write that takes no run

none_used : (reply : Reply) → fills_used reply [] ≡ []
none_used Ok = refl
none_used reply = refl

pub no_fills : (reply : Reply) (fills : List FolioValue) → fills ≡ [] → first_frames (fills_used reply fills) ≡ []
no_fills reply fills e = ap (λ x. first_frames (fills_used reply x)) e ∙ ap first_frames (none_used reply)

-- nothing fills no hole
pub nothing_fills : (x : Option (Option FileState)) (home : HomeId) (fills : List FolioValue) → fills ≡ [] → MatchOption x ⊥ IsSome → MatchOption x ⊥ (λ s. MatchOption s ⊥ (λ f. AreFillsOf home f.order fills))
nothing_fills None home fills e is = absurd is
nothing_fills (Some None) home fills e is = absurd cc
nothing_fills (Some (Some f)) home fills e is = subst (AreFillsOf home f.order) (sym e) tt

plain_answer : (big frozen : Bool) (h : ℕ) → (if big || frozen then 0 else h) ≡ 0 → IsPlainReply (if big then TooBig else if frozen then SizeFrozen else if 0 == 0 && nat_lt 0 h then NoFramesOf h else Ok)
plain_answer true frozen h e = tt
plain_answer false true h e = tt
plain_answer false false h e = subst (λ k. IsPlainReply (if 0 == 0 && nat_lt 0 k then NoFramesOf k else Ok)) (sym e) tt

pub plain_reply : (x : Option (Option FileState)) (reply : Reply) (off len n : ℕ) → n ≡ 0 → MatchOption x ⊥ (λ s. MatchOption s ⊥ (λ f. reply ≡ write_answer f off len n)) → MatchOption x ⊥ (λ s. MatchOption s ⊥ (λ f. wanted_runs f off len ≡ 0)) → IsPlainReply reply
plain_reply None reply off len n e h p = absurd h
plain_reply (Some None) reply off len n e h p = absurd h
plain_reply (Some (Some f)) reply off len n e h p =
    subst IsPlainReply (sym (h ∙ ap (write_answer f off len) e)) (plain_answer (is_too_big (off + len)) (grows_frozen f (off + len)) (length (touched_holes f off len)) p)

-- ---- a write that needs runs for its holes

starved_answer : (big frozen : Bool) (h : ℕ) → big ≡ false → frozen ≡ false → 0 < h → (if big then TooBig else if frozen then SizeFrozen else if 0 == 0 && nat_lt 0 h then NoFramesOf h else Ok) ≡ NoFramesOf h
starved_answer big frozen h b e some = rw (b, e) (rw (positive h some) refl)
  where
    positive : (h : ℕ) → 0 < h → nat_lt 0 h ≡ true
    positive h some = grind (arith, nat_tests)

filled_answer : (big frozen : Bool) (n h : ℕ) → big ≡ false → frozen ≡ false → 0 < n → (if big then TooBig else if frozen then SizeFrozen else if n == 0 && nat_lt 0 h then NoFramesOf h else Ok) ≡ Ok
filled_answer big frozen n h b e some = rw (b, e) (rw (not_none n some) refl)
  where
    not_none : (n : ℕ) → 0 < n → (n == 0) ≡ false
    not_none n h = grind (arith, nat_tests)

pub starved_reply : (x : Option (Option FileState)) (reply : Reply) (off len n holes : ℕ) → n ≡ 0 → MatchOption x ⊥ (λ s. MatchOption s ⊥ (λ f. reply ≡ write_answer f off len n)) → MatchOption x ⊥ (λ s. MatchOption s ⊥ (λ f. TouchesHoles f off len holes)) → reply ≡ NoFramesOf holes
starved_reply None reply off len n holes e h t = absurd h
starved_reply (Some None) reply off len n holes e h t = absurd h
starved_reply (Some (Some f)) reply off len n holes e h t =
    h ∙ ap (write_answer f off len) e
    ∙ starved_answer (is_too_big (off + len)) (grows_frozen f (off + len)) (length (touched_holes f off len)) (fitting_end (off + len) t.within) t.unfrozen (subst (λ k. 0 < k) t.count t.some)
    ∙ ap NoFramesOf (sym t.count)

pub filled_reply : (x : Option (Option FileState)) (reply : Reply) (off len n : ℕ) → MatchOption x ⊥ (λ s. MatchOption s ⊥ (λ f. reply ≡ write_answer f off len n)) → MatchOption x ⊥ (λ s. MatchOption s ⊥ (λ f. TouchesHoles f off len n)) → reply ≡ Ok
filled_reply None reply off len n h t = absurd h
filled_reply (Some None) reply off len n h t = absurd h
filled_reply (Some (Some f)) reply off len n h t =
    h ∙ filled_answer (is_too_big (off + len)) (grows_frozen f (off + len)) n (length (touched_holes f off len)) (fitting_end (off + len) t.within) t.unfrozen t.some

pub counted : (x : Option (Option FileState)) (off len n : ℕ) → MatchOption x ⊥ (λ s. MatchOption s ⊥ (λ f. TouchesHoles f off len n)) → 0 < n → MatchOption x ⊥ (λ s. MatchOption s ⊥ (λ f. n ≡ length (touched_holes f off len)))
counted None off len n t h = absurd t
counted (Some None) off len n t h = absurd t
counted (Some (Some f)) off len n t h = t.count

pub holes_some : (x : Option (Option FileState)) (off len n : ℕ) → MatchOption x ⊥ (λ s. MatchOption s ⊥ (λ f. TouchesHoles f off len n)) → 0 < n
holes_some None off len n t = absurd t
holes_some (Some None) off len n t = absurd t
holes_some (Some (Some f)) off len n t = t.some

-- the folios of taken runs fill the holes of a memfd of their order
pub taken_fill : (x : Option (Option FileState)) (home : HomeId) (o : Order) (runs : List Pfn) (fills : List FolioValue) → fills ≡ map (zeroed_run home o) runs → MatchOption x ⊥ (λ s. IsMemfd (option_map facts_of s) o) → MatchOption x ⊥ (λ s. MatchOption s ⊥ (λ f. AreFillsOf home f.order fills))
taken_fill None home o runs fills e m = absurd m
taken_fill (Some None) home o runs fills e m = absurd m
taken_fill (Some (Some f)) home o runs fills e m =
    subst (AreFillsOf home f.order) (sym e) (subst (λ n. AreFillsOf home n (map (zeroed_run home o) runs)) (sym (ap (λ (x : Order). x.0) m.1)) (runs_fill home o runs))

pub filled_runs : (home : HomeId) (o : Order) (runs : List Pfn) (fills : List FolioValue) (reply : Reply) → fills ≡ map (zeroed_run home o) runs → reply ≡ Ok → first_frames (fills_used reply fills) ≡ runs
filled_runs home o runs fills reply same ok = ap (λ r. first_frames (fills_used r fills)) ok ∙ ap first_frames same ∙ runs_begin home o runs

pub all_left : (reply : Reply) (fills : List FolioValue) → reply ≡ Ok → fills_left reply fills ≡ []
all_left reply fills ok = ap (λ r. fills_left r fills) ok

-- the take and the write, one after the other
pub filled_goes : (file : FileNo) (o : Order) (event : List Pfn → Event) (holes : ℕ) (runs : Snapshot (Items Pfn)) (at at1 at2 : At) (b b1 b2 : Agent) → length runs.value ≡ holes → Goes (deed_at pool_no (IsFile file Memfd o ∷ []) (PoolTake o holes) (Got runs.value) ∷ []) at at1 b b1 → Goes (deed_at (file_no file.0) (IsFile file Memfd o ∷ []) (event runs.value) Ok ∷ []) at1 at2 b1 b2 → Goes (write_deeds file event (Filled o runs)) at at2 b b2
filled_goes file o event holes runs at at1 at2 b b1 b2 count h k =
    then_goes _ _ at at1 at2 b b1 b2 (subst (λ m. Goes (deed_at pool_no (IsFile file Memfd o ∷ []) (PoolTake o m) (Got runs.value) ∷ []) at at1 b b1) (sym count) h) k

pub taken_so : (file : FileNo) (o : Order) (holes : ℕ) (runs : List Pfn) (at at1 : At) (b b1 : Agent) → length runs ≡ holes → Goes (deed_at pool_no (IsFile file Memfd o ∷ []) (PoolTake o holes) (Got runs) ∷ []) at at1 b b1 → Goes (deed_at pool_no (IsFile file Memfd o ∷ []) (PoolTake o (length runs)) (Got runs) ∷ []) at at1 b b1
taken_so file o holes runs at at1 b b1 count h = subst (λ m. Goes (deed_at pool_no (IsFile file Memfd o ∷ []) (PoolTake o m) (Got runs) ∷ []) at at1 b b1) (sym count) h

pub filled_comes : (file : FileNo) (o : Order) (event : List Pfn → Event) (holes : ℕ) (runs : Snapshot (Items Pfn)) (at at1 at2 : At) (b b1 b2 : Agent) (r : Result Wrote Stopped) → length runs.value ≡ holes → Goes (deed_at pool_no (IsFile file Memfd o ∷ []) (PoolTake o holes) (Got runs.value) ∷ []) at at1 b b1 → IfOk r (λ w. w ≡ Filled o runs) → OnOk r (Goes (deed_at (file_no file.0) (IsFile file Memfd o ∷ []) (event runs.value) Ok ∷ []) at1 at2 b1 b2) → IfOk r (λ w. Goes (write_deeds file event w) at at2 b b2)
filled_comes file o event holes runs at at1 at2 b b1 b2 (result.Ok w) count h is k =
    subst (λ (x : Wrote). Goes (write_deeds file event x) at at2 b b2) (sym is) (filled_goes file o event holes runs at at1 at2 b b1 b2 count h k)
filled_comes file o event holes runs at at1 at2 b b1 b2 (result.Err s) count h is k = tt

-- a write whose runs were taken can't be ended
pub filled_stops : (W : List Deed → Type 0) (ds due : List Deed) → W (ds ++ due) → (at at1 at2 : At) (b b1 b2 : Agent) (r : Result Wrote Stopped) → Goes ds at at1 b b1 → OnErr r (at2 ≡ at1) → IfErr r (λ s. Sticks at1 (turn_of due) s.stuck b1 b2) → IfErr r (λ s. SticksAfter W s.stuck at at2 b b2)
filled_stops W ds due front at at1 at2 b b1 b2 (result.Ok w) h same s = tt
filled_stops W ds due front at at1 at2 b b1 b2 (result.Err x) h same s = sticks_next ds due front at at1 at2 x.stuck b b1 b2 h same s

pub given_home : (h k : HomeId) (r : Result Wrote Stopped) → k ≡ h → IfErr r (λ s. AreOf k s.folios.items) → IfErr r (λ s. AreOf h s.folios.items)
given_home h k (result.Ok w) e g = tt
given_home h k (result.Err s) e g = subst (λ x. AreOf x s.folios.items) e g

-- ---- a write, seen from before the file was taken

pub outer_comes : (file : FileNo) (event : List Pfn → Event) (at at1 : At) (a a1 a2 : Agent) (o : Object) (r : Result Wrote Stopped) → Opens at (file_no file.0) a a1 o → a.hands (file_no file.0) ≡ None → IfOk r (λ w. Goes (write_deeds file event w) at at1 (without (file_no file.0) a1) a2) → IfOk r (λ w. Goes (write_deeds file event w) at at1 a a2)
outer_comes file event at at1 a a1 a2 o (result.Ok w) opens free h = outer_goes _ at at1 (file_no file.0) a a1 a2 o opens free h
outer_comes file event at at1 a a1 a2 o (result.Err s) opens free h = tt

pub outer_stops : (W : List Deed → Type 0) (n : ℕ) (at at1 : At) (a a1 a2 : Agent) (o : Object) (r : Result Wrote Stopped) → Opens at n a a1 o → a.hands n ≡ None → IfErr r (λ s. SticksAfter W s.stuck at at1 (without n a1) a2) → IfErr r (λ s. SticksAfter W s.stuck at at1 a a2)
outer_stops W n at at1 a a1 a2 o (result.Ok w) opens free h = tt
outer_stops W n at at1 a a1 a2 o (result.Err s) opens free h = outer_sticks at at1 s.stuck n a a1 a2 o opens free h

-- ---- how many holes a range may touch

few_touched : (f : FileState) (off len : ℕ) → length (touched_holes f off len) ≤ pieces (off + len) (index_bytes f) - off / index_bytes f
few_touched f off len = go (len == 0)
  where
    all : length (holes f (touched f off len)) ≤ pieces (off + len) (index_bytes f) - off / index_bytes f
    all =
        let less : length (holes f (touched f off len)) ≤ length (touched f off len) = filtered _ (touched f off len) in
        let long : length (touched f off len) ≡ pieces (off + len) (index_bytes f) - off / index_bytes f = length-map (upto (pieces (off + len) (index_bytes f) - off / index_bytes f)) (λ i. off / index_bytes f + i) ∙ long_upto _ in
        omega (arith, less, long)

    go : (b : Bool) → length (cond b [] (holes f (touched f off len))) ≤ pieces (off + len) (index_bytes f) - off / index_bytes f
    go true = omega arith
    go false = all

-- a memfd of this order may touch so many holes
taking_fits : (f : FileState) (o : Order) (off len h : ℕ) → f.order ≡ o.0 → TouchesHoles f off len h → IsTrue (fits_range o off len h)
taking_fits f o off len h same t = rw (sym same, first t.some, second t.within, third t.count) refl
  where
    first : 0 < h → nat_lt 0 h ≡ true
    first some = grind (arith, nat_tests)

    second : off + len ≤ FILE_BYTES → nat_le (off + len) FILE_BYTES ≡ true
    second within = grind (arith, nat_tests)

    third : h ≡ length (touched_holes f off len) → nat_le h (pieces (off + len) (PAGE_BYTES * 2 ^ f.order) - off / (PAGE_BYTES * 2 ^ f.order)) ≡ true
    third count = let less : length (touched_holes f off len) ≤ pieces (off + len) (index_bytes f) - off / index_bytes f = few_touched f off len in grind (arith, nat_tests)

-- a memfd in hand may touch so many holes
pub holes_fit : (x : Option (Option FileState)) (o : Order) (off len holes : ℕ) → MatchOption x ⊥ (λ s. IsMemfd (option_map facts_of s) o) → MatchOption x ⊥ (λ s. MatchOption s ⊥ (λ f. TouchesHoles f off len holes)) → IsTrue (fits_range o off len holes)
holes_fit None o off len holes m t = absurd m
holes_fit (Some None) o off len holes m t = absurd t
holes_fit (Some (Some f)) o off len holes m t = taking_fits f o off len holes (ap (λ (x : Order). x.0) m.1) t

-- so a write that took or wanted runs for them came out as one may
pub taking_wrote : (o : Order) (off len holes : ℕ) (r : Result Wrote Stopped) → IsTrue (fits_range o off len holes) → IfOk r (IsTaking o holes) → IfOk r (IsWrote off len)
taking_wrote o off len holes (result.Err s) fits h = tt
taking_wrote o off len holes (result.Ok (Plain reply)) fits h = absurd h
taking_wrote o off len holes (result.Ok (Starved p k)) fits h =
    subst (λ q. IsTrue (fits_range q off len k)) (sym h.0) (subst (λ n. IsTrue (fits_range o off len n)) (sym h.1) fits)
taking_wrote o off len holes (result.Ok (Filled p runs)) fits h =
    subst (λ q. IsTrue (fits_range q off len (length runs.value))) (sym h.0) (subst (λ n. IsTrue (fits_range o off len n)) (sym h.1) fits)
