-- Entries that were done as a whole sequence are its acts, one after another, from the world before them to the one after
-- them.
use Rattle.std.proofs.Common.{◌≡◌, ℕ, Bool, true, false, cond, ◌==◌, List, [], ◌∷◌, ◌++◌, map, is_some, refl, sym, ap, subst, ◌∙◌, IsTrue, append_assoc, unwrap_or}
use Rattle.std.specs.Prelude.{Option, None, Some, option_map}
use Rattle.std.specs.FinMap as finmap
use Rattle.std.proofs.lemmas.Bool.{eqb-true, eq-eqb}
use Rattle.std.proofs.lemmas.List.{append-nil}
use Rattle.ho_base.specs.Objects.{session_no, file_no}
use Rattle.ho_base.specs.declared.numbers.FileNo.{FileNo}
use Rattle.ho_base.specs.declared.numbers.Kind.{Kind}
use Rattle.ho_base.specs.declared.numbers.Order.{Order}
use Rattle.ho_base.specs.declared.numbers.SlotNo.{SlotNo}
use Rattle.ho_events.specs.History.{on, is_on, run_from, then_entry}
use Rattle.ho_events.specs.Session.{files_of}
use Rattle.ho_events.specs.declared.entry.Entry.{Entry}
use Rattle.ho_events.specs.declared.entry.Place.TheVariants.{Object}
use Rattle.ho_events.specs.declared.reply.Reply.{Reply}
use Rattle.ho_events.specs.declared.slip.At.{At}
use Rattle.ho_world.specs.Acts.{Act, Claim, IsFile, BeganAs, HasFiles, HasToken, Reference, sort_of, references, reference_at, Holds, AllHold}
use Rattle.ho_world.specs.Logs.{Known, HoldsOf, IsClaimed, AreClaimed, AreDone, began, deed_of, end_with, grown, known_all, paired_on}
use Rattle.ho_world.specs.World.{State, World, file_in, session_in, step, run}
use Rattle.ho_world.proofs.Fronts.{run_parts, run_front}
use Rattle.ho_world.proofs.Rises.{on_parts}
use Rattle.balance_laws.specs.Acted.{Acted, changed}
use Rattle.sound_histories.specs.Worlds.{BeganIn, AreRuns, EntriesAreActs}

-- the step of an entry with which a run goes on
goes_on : (r : Option State) (start : State) (e : Entry) → IsTrue (is_some (then_entry step r e)) → (s : State) × (step (unwrap_or r start) e.event e.reply ≡ Some s) × (then_entry step r e ≡ Some s)
goes_on None start e h = absurd cc
goes_on (Some t) start e h = some_of (step t e.event e.reply) h
  where
    some_of : (o : Option State) → IsTrue (is_some o) → (s : State) × (o ≡ Some s) × (o ≡ Some s)
    some_of None h = absurd cc
    some_of (Some s) h = (s, refl, refl)

-- one entry on an object;  on another one, and at the end of a command
on_this : (o : ℕ) (e : Entry) → IsTrue (is_on o e.object) → on o (e ∷ []) ≡ e ∷ []
unfolding on
on_this o e h = ap (λ b. cond b (e ∷ []) []) h

on_none : (o : ℕ) (e : Entry) → is_on o e.object ≡ false → on o (e ∷ []) ≡ []
unfolding on
on_none o e h = ap (λ b. cond b (e ∷ []) []) h

module _ (w : World) (begun : ℕ → Option State) (began_in : BeganIn w begun) (f : ℕ → List Entry) where
  abbrev pub now : List Entry → ℕ → State
  now seen o = unwrap_or (run (w.at o) (grown f seen o)) (w.at o)

  -- histories in two parts
  grown_parts : (seen new : List Entry) (o : ℕ) → grown f (seen ++ new) o ≡ grown f seen o ++ on o new
  grown_parts seen new o = ap (λ es. f o ++ es) (on_parts o seen new) ∙ sym (append_assoc (f o) (on o seen) (on o new))

  pub runs_front : (seen new : List Entry) → AreRuns w (grown f (seen ++ new)) → AreRuns w (grown f seen)
  runs_front seen new runs o =
      run_front step (Some (w.at o)) (grown f seen o) (on o new) (subst (λ es. IsTrue (is_some (run (w.at o) es))) (grown_parts seen new o) (runs o))

  -- an entry that isn't on an object changes nothing of it
  unchanged : (seen : List Entry) (e : Entry) (o : ℕ) → is_on o e.object ≡ false → now (seen ++ e ∷ []) o ≡ now seen o
  unchanged seen e o off =
      ap (λ es. unwrap_or (run (w.at o) es) (w.at o)) (grown_parts seen (e ∷ []) o ∙ ap (λ es. grown f seen o ++ es) (on_none o e off) ∙ append-nil (grown f seen o))

  module _ (seen : List Entry) (e : Entry) (n : ℕ) (place : e.object ≡ Object (record { 0 = n })) where
    is_here : IsTrue (is_on n e.object)
    is_here = ap (is_on n) place ∙ eq-eqb n n refl

    one_more : run (w.at n) (grown f (seen ++ e ∷ []) n) ≡ then_entry step (run (w.at n) (grown f seen n)) e
    unfolding run_from
    one_more =
        ap (run (w.at n)) (grown_parts seen (e ∷ []) n ∙ ap (λ es. grown f seen n ++ es) (on_this n e is_here))
        ∙ run_parts step (Some (w.at n)) (grown f seen n) (e ∷ [])

    abbrev Stepped : Type 0
    Stepped = (s : State) × (step (now seen n) e.event e.reply ≡ Some s) × (now (seen ++ e ∷ []) n ≡ s)

    stepped : AreRuns w (grown f (seen ++ e ∷ [])) → Stepped
    stepped runs =
        let g : (s : State) × (step (now seen n) e.event e.reply ≡ Some s) × (then_entry step (run (w.at n) (grown f seen n)) e ≡ Some s) =
        goes_on (run (w.at n) (grown f seen n)) (w.at n) e (subst (λ r. IsTrue (is_some r)) one_more (runs n)) in
        (g.0, g.1, ap (λ r. unwrap_or r (w.at n)) (one_more ∙ g.2))

    -- a world that was as the entries before this one say, with the entry's object changed
    moved : (x : World) → ((o : ℕ) → x.at o ≡ now seen o) → (s : State) → now (seen ++ e ∷ []) n ≡ s → (o : ℕ) → (changed x n s).at o ≡ now (seen ++ e ∷ []) o
    moved x is s came o = by_test (o == n) refl
      where
        off : (b : Bool) → (n == o) ≡ b → (o == n) ≡ false → (n == o) ≡ false
        off true h other = h ∙ sym (eq-eqb o n (sym (eqb-true n o h))) ∙ other
        off false h other = h

        by_test : (b : Bool) → (o == n) ≡ b → cond (o == n) s (x.at o) ≡ now (seen ++ e ∷ []) o
        by_test true h = ap (λ b. cond b s (x.at o)) h ∙ sym came ∙ ap (now (seen ++ e ∷ [])) (sym (eqb-true o n h))
        by_test false h = ap (λ b. cond b s (x.at o)) h ∙ is o ∙ sym (unchanged seen e o (ap (is_on o) place ∙ off (n == o) refl h))

  -- what is claimed of what is known is true in the world
  module _ (seen : List Entry) where
    abbrev known : Option State → ℕ → Option Known
    known s o = option_map (λ x. record { start = x; history = grown f seen o }) s

    file_claim : (g : FileNo) (kind : Kind) (order : Order) (s : Option State) → begun (file_no g.0) ≡ s → HoldsOf (known s (file_no g.0)) (IsFile g kind order) → Holds (began begun) (now seen) (IsFile g kind order)
    file_claim g kind order None is h = absurd h
    file_claim g kind order (Some s) is h =
        ap (λ x. sort_of (file_in (unwrap_or (run x (grown f seen (file_no g.0))) x))) (began_in (file_no g.0) s is) ∙ h

    files_claim : (slot : SlotNo) (files : List Reference) (s : Option State) → begun (session_no slot.0) ≡ s → HoldsOf (known s (session_no slot.0)) (HasFiles slot files) → Holds (began begun) (now seen) (HasFiles slot files)
    files_claim slot files None is h = absurd h
    files_claim slot files (Some s) is h =
        ap (λ x. references (session_in (unwrap_or (run x (grown f seen (session_no slot.0))) x))) (began_in (session_no slot.0) s is) ∙ h

    token_claim : (slot : SlotNo) (token : ℕ) (r : Reference) (s : Option State) → begun (session_no slot.0) ≡ s → HoldsOf (known s (session_no slot.0)) (HasToken slot token r) → Holds (began begun) (now seen) (HasToken slot token r)
    token_claim slot token r None is h = absurd h
    token_claim slot token r (Some s) is h =
        ap (λ x. reference_at (finmap.get (files_of (session_in (unwrap_or (run x (grown f seen (session_no slot.0))) x))) token)) (began_in (session_no slot.0) s is) ∙ h

    claim_holds : (c : Claim) → IsClaimed begun (known_all begun f seen) c → Holds (began begun) (now seen) c
    claim_holds (IsFile g kind order) h = file_claim g kind order (begun (file_no g.0)) refl h
    claim_holds (BeganAs g kind order) h = h
    claim_holds (HasFiles slot files) h = files_claim slot files (begun (session_no slot.0)) refl h
    claim_holds (HasToken slot token r) h = token_claim slot token r (begun (session_no slot.0)) refl h

    claims_hold : (cs : List Claim) → AreClaimed begun (known_all begun f seen) cs → AllHold (began begun) (now seen) cs
    claims_hold [] h = tt
    claims_hold (c ∷ cs) h = (claim_holds c h.0, claims_hold cs h.1)

  claims_in : (x : World) (seen : List Entry) → ((o : ℕ) → x.at o ≡ now seen o) → (cs : List Claim) → AreClaimed begun (known_all begun f seen) cs → AllHold (began begun) x.at cs
  claims_in x seen is cs h = let same : x.at ≡ now seen = λ i o. is o i in subst (λ at. AllHold (began begun) at cs) (sym same) (claims_hold seen cs h)

  pub chain : (at : At) (acts : List Act) (reply : Reply) (last : ℕ) (seen made : List Entry) (last' : ℕ) (x v : World)
      → ((o : ℕ) → x.at o ≡ now seen o) → ((o : ℕ) → v.at o ≡ now (seen ++ made) o) → AreRuns w (grown f (seen ++ made))
      → AreDone begun at last (map deed_of acts ++ end_with reply ∷ []) (paired_on begun f seen made) last' → Acted (began begun) x acts v
  unfolding AreDone paired_on Acted
  chain at [] reply last seen [] last' x v is ends runs h = absurd h
  chain at [] reply last seen (e ∷ []) last' x v is ends runs h = λ o. ends o ∙ unchanged seen e o (ap (λ (y : Entry). is_on o y.object) h.0) ∙ sym (is o)
  chain at [] reply last seen (e ∷ d ∷ made) last' x v is ends runs h = absurd h.4
  chain at (act ∷ acts) reply last seen [] last' x v is ends runs h = absurd h
  chain at (act ∷ acts) reply last seen (e ∷ made) last' x v is ends runs h =
      let place : e.object ≡ Object (record { 0 = act.object }) = ap (λ (y : Entry). y.object) h.0 in
      let same : (seen ++ e ∷ []) ++ made ≡ seen ++ (e ∷ made) = append_assoc seen (e ∷ []) made in
      let all : AreRuns w (grown f ((seen ++ e ∷ []) ++ made)) = subst (λ es. AreRuns w (grown f es)) (sym same) runs in
      let g : Stepped seen e act.object place = stepped seen e act.object place (runs_front (seen ++ e ∷ []) made all) in (
        g.0,
        ap (λ s. step s act.event act.reply) (is act.object)
            ∙ ap (λ y. step (now seen act.object) y act.reply) (sym (ap (λ (y : Entry). y.event) h.0))
            ∙ ap (λ y. step (now seen act.object) e.event y) (sym (ap (λ (y : Entry). y.reply) h.0)) ∙ g.1,
        claims_in x seen is act.claims h.3,
        chain at acts reply e.stamp (seen ++ e ∷ []) made last' (changed x act.object g.0) v (moved seen e act.object place x is g.0 g.2) (λ o. ends o ∙ ap (λ es. now es o) (sym same)) all h.4,
      )

pub entries_are_acts : EntriesAreActs
entries_are_acts w begun f at last last' s seen made began_in runs done =
    chain w begun began_in f at s.acts s.reply last seen made last' _ _ (λ o. refl) (λ o. refl) runs done
