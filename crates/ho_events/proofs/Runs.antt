-- How runs, stamps and parts of a history grow by one entry.
use Rattle.std.proofs.Common.{◌≡◌, ℕ, ◌+◌, ◌-◌, ◌<◌, ◌≤◌, Bool, true, false, List, [], ◌∷◌, ◌++◌, length, get_or, refl, ap, sym, ◌∙◌, arith, slice_index_or, max, zero, suc, append_assoc}
use Rattle.std.specs.Prelude.{Option, None, Some}
use Rattle.std.proofs.lemmas.Grind.{common_steps}
use Rattle.std.proofs.lemmas.List.{append-nil}
use Rattle.ho_events.specs.History.{then_entry, run_from, on, is_on, last_stamp_from}
use Rattle.ho_events.specs.declared.entry.Entry.{Entry}
use Rattle.ho_events.specs.declared.event.Event.{Event}
use Rattle.ho_events.specs.declared.reply.Reply.{Reply}

-- a run that is one entry longer takes one more step
pub run_push : {S : Type 0} → (step : S → Event → Reply → Option S) → (s : Option S) → (es : List Entry) → (e : Entry) → run_from step s (es ++ e ∷ []) ≡ then_entry step (run_from step s es) e
unfolding run_from
run_push step s [] e = refl
run_push step s (d ∷ es) e = run_push step (then_entry step s d) es e

-- the last stamp is that of the entry that came last
pub last_stamp_push : (t : ℕ) → (es : List Entry) → (e : Entry) → last_stamp_from t (es ++ e ∷ []) ≡ e.stamp
unfolding last_stamp_from
last_stamp_push t [] e = refl
last_stamp_push t (d ∷ es) e = last_stamp_push d.stamp es e

-- the last stamp is that of the entry at the last place
last_place : (t : ℕ) → (e : Entry) → (es : List Entry) → (d : Entry) → last_stamp_from t (e ∷ es) ≡ (slice_index_or (e ∷ es) (length es) d).stamp
unfolding last_stamp_from
last_place t e [] d = refl
last_place t e (f ∷ es) d = last_place e.stamp f es d

pub last_stamp_at : (t : ℕ) → (es : List Entry) → (d : Entry) → 0 < length es → last_stamp_from t es ≡ (slice_index_or es (length es - 1) d).stamp
last_stamp_at t [] d h = absurd (omega arith)
last_stamp_at t (e ∷ es) d h =
    let last : length (e ∷ es) - 1 ≡ length es = omega arith in
    last_place t e es d ∙ ap (λ n. (slice_index_or (e ∷ es) n d).stamp) (sym last)

pub last_stamp_none : (t : ℕ) → (es : List Entry) → length es ≡ 0 → last_stamp_from t es ≡ t
unfolding last_stamp_from
last_stamp_none t [] h = refl
last_stamp_none t (e ∷ es) h = absurd (omega arith)

-- an entry on the object is the last one of its history;  another one isn't in it
pub on_push : (o : ℕ) → (es : List Entry) → (e : Entry) → is_on o e.object ≡ true → on o (es ++ e ∷ []) ≡ on o es ++ e ∷ []
unfolding on
on_push o es e h = grind (arith, common_steps)

pub on_skip : (o : ℕ) → (es : List Entry) → (e : Entry) → is_on o e.object ≡ false → on o (es ++ e ∷ []) ≡ on o es
unfolding on
on_skip o es e h = grind (arith, common_steps)
