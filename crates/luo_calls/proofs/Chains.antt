-- Deeds one after another.
use Rattle.std.proofs.Common.{◌≡◌, ℕ, ◌+◌, ◌<◌, ◌≤◌, ◌^◌, Bool, true, false, nat_le, nat_lt, max, List, [], ◌∷◌, ◌++◌, refl, sym, ap, subst, ◌∙◌, arith, IsTrue, map, append_assoc}
use Rattle.std.specs.Prelude.{Option, None, Some}
use Rattle.std.specs.List.{list_all, filter}
use Rattle.std.proofs.lemmas.Bool.Decides.{nat_tests}
use Rattle.std.proofs.lemmas.Grind.{common_steps}
use Rattle.ho_events.specs.declared.entry.Entry.{Entry}
use Rattle.ho_events.specs.declared.slip.At.{At}
use Rattle.ho_events.specs.History.{on, last_stamp}
use Rattle.ho_world.specs.Logs.{Paired, Deed, entry_of, AreDone}
use Rattle.ho_world.specs.World.{State}
use Rattle.ho_world.proofs.Fronts.{and_both, and_left, and_right, le_true}
use Rattle.machine_core.specs.declared.halt.Halt.{Halt}
use Rattle.machine_core.specs.Agents.{Agent, begun, state_in}
use Rattle.machine_core.specs.Turns.{IsReady, TellsMore, Goes, Stops}

done_append : (f : ℕ → Option State) (at : At) (last : ℕ) (ds ds' : List Deed) (ps ps' : List Paired) (mid last' : ℕ) → AreDone f at last ds ps mid → AreDone f at mid ds' ps' last' → AreDone f at last (ds ++ ds') (ps ++ ps') last'
unfolding AreDone
done_append f at last [] ds' [] ps' mid last' h k = subst (λ m. AreDone f at m ds' ps' last') h k
done_append f at last [] ds' (p ∷ ps) ps' mid last' h k = absurd h
done_append f at last (d ∷ ds) ds' [] ps' mid last' h k = absurd h
done_append f at last (d ∷ ds) ds' (p ∷ ps) ps' mid last' h k = (h.0, h.1, h.2, h.3, done_append f at p.entry.stamp ds ds' ps ps' mid last' h.4 k)

done_last : (f : ℕ → Option State) (at : At) (x last : ℕ) (ds : List Deed) (ps : List Paired) (last' : ℕ) → AreDone f (record at { last = x }) last ds ps last' → AreDone f at last ds ps last'
unfolding AreDone
done_last f at x last [] [] last' h = h
done_last f at x last [] (p ∷ ps) last' h = absurd h
done_last f at x last (d ∷ ds) [] last' h = absurd h
done_last f at x last (d ∷ ds) (p ∷ ps) last' h = (h.0, h.1, h.2, h.3, done_last f at x p.entry.stamp ds ps last' h.4)

-- stamps rise
rises : (f : ℕ → Option State) (at : At) (last : ℕ) (ds : List Deed) (ps : List Paired) (last' : ℕ) → AreDone f at last ds ps last' → last ≤ last'
unfolding AreDone
rises f at last [] [] last' h = omega (arith, h)
rises f at last [] (p ∷ ps) last' h = absurd h
rises f at last (d ∷ ds) [] last' h = absurd h
rises f at last (d ∷ ds) (p ∷ ps) last' h =
    let up : p.entry.stamp ≤ last' = rises f at p.entry.stamp ds ps last' h.4 in
    let is : p.entry.stamp ≡ 1 + max last (last_stamp p.before) = ap (λ (e : Entry). e.stamp) h.0 in omega (arith, up, is)

le_test : (x t : ℕ) → x ≤ t → IsTrue (nat_le x t)
le_test x t h = grind (arith, nat_tests)

made_below : (f : ℕ → Option State) (at : At) (last : ℕ) (ds : List Deed) (ps : List Paired) (last' : ℕ) → AreDone f at last ds ps last' → IsTrue (list_all (λ p. nat_le p.entry.stamp last') ps)
unfolding AreDone
made_below f at last [] [] last' h = refl
made_below f at last [] (p ∷ ps) last' h = absurd h
made_below f at last (d ∷ ds) [] last' h = absurd h
made_below f at last (d ∷ ds) (p ∷ ps) last' h =
    and_both (nat_le p.entry.stamp last') _ (le_test p.entry.stamp last' (rises f at p.entry.stamp ds ps last' h.4)) (made_below f at p.entry.stamp ds ps last' h.4)

all_below : (s t : ℕ) → s ≤ t → (ps qs : List Paired) → IsTrue (list_all (λ p. nat_le p.entry.stamp s) ps) → IsTrue (list_all (λ p. nat_le p.entry.stamp t) qs) → IsTrue (list_all (λ p. nat_le p.entry.stamp t) (ps ++ qs))
all_below s t up [] qs h k = k
all_below s t up (p ∷ ps) qs h k =
    let low : p.entry.stamp ≤ s = le_true p.entry.stamp s (and_left (nat_le p.entry.stamp s) _ h) in
    and_both (nat_le p.entry.stamp t) _ (le_test p.entry.stamp t (omega (arith, low, up))) (all_below s t up ps qs (and_right (nat_le p.entry.stamp s) _ h) k)

-- after deeds the agent is ready for more
pub ready_after : (ds : List Deed) (at at' : At) (a a' : Agent) → IsReady at a → Goes ds at at' a a' → IsReady at' a'
ready_after ds at at' a a' r h = record {
  agent = ap (λ (t : At). t.agent.0) h.at_is ∙ r.agent ∙ sym h.number;
  kernel = ap (λ (t : At). t.kernel) h.at_is ∙ r.kernel ∙ sym (ap (λ x. x.kernel) h.anchor);
  last =
      subst (λ l. IsTrue (list_all (λ p. nat_le p.entry.stamp at'.last) l)) (append_assoc a.earlier a.log h.made ∙ sym ((λ i. h.earlier i ++ h.log i)))
      (all_below at.last at'.last (rises (begun a) at at.last ds h.made at'.last h.done) (a.earlier ++ a.log) h.made r.last (made_below (begun a) at at.last ds h.made at'.last h.done));
}

entries_append : (ps qs : List Paired) → map (λ p. p.entry) (ps ++ qs) ≡ map (λ p. p.entry) ps ++ map (λ p. p.entry) qs
entries_append [] qs = refl
entries_append (p ∷ ps) qs = ap (λ es. p.entry ∷ es) (entries_append ps qs)

pub on_append : (n : ℕ) (es fs : List Entry) → on n (es ++ fs) ≡ on n es ++ on n fs
unfolding on
on_append n es fs = grind (arith, common_steps)

tells_append : (ps qs : List Paired) (f g h : Option (ℕ → List Entry)) → TellsMore ps f g → TellsMore qs g h → TellsMore (ps ++ qs) f h
tells_append ps qs None None None p q = tt
tells_append ps qs (Some f) (Some g) (Some h) p q = λ n.
    q n ∙ ap (λ xs. xs ++ on n (map (λ p. p.entry) qs)) (p n) ∙ append_assoc (f n) _ _
    ∙ ap (λ xs. f n ++ xs) (sym (on_append n (map (λ p. p.entry) ps) (map (λ p. p.entry) qs)) ∙ ap (on n) (sym (entries_append ps qs)))
tells_append ps qs None None (Some h) p q = absurd q
tells_append ps qs None (Some g) h p q = absurd p
tells_append ps qs (Some f) None h p q = absurd p
tells_append ps qs (Some f) (Some g) None p q = absurd q

pub then_goes : (ds ds' : List Deed) (at at1 at2 : At) (a a1 a2 : Agent) → Goes ds at at1 a a1 → Goes ds' at1 at2 a1 a2 → Goes (ds ++ ds') at at2 a a2
then_goes ds ds' at at1 at2 a a1 a2 h k = record {
  made = h.made ++ k.made;
  log = k.log ∙ ap (λ l. l ++ k.made) h.log ∙ append_assoc a.log h.made k.made;
  done =
      done_append (begun a) at at.last ds ds' h.made k.made at1.last at2.last h.done
      (done_last (begun a) at at1.last at1.last ds' k.made at2.last
      (subst (λ (t : At). AreDone (begun a) t at1.last ds' k.made at2.last) h.at_is
      (subst (λ s. AreDone (λ o. state_in (s o)) at1 at1.last ds' k.made at2.last) h.starts k.done)));
  at_is = k.at_is ∙ ap (λ (t : At). with_last at2.last t) h.at_is;
  number = k.number ∙ h.number;
  anchor = k.anchor ∙ h.anchor;
  starts = k.starts ∙ h.starts;
  earlier = k.earlier ∙ h.earlier;
  hands = k.hands ∙ h.hands;
  told = tells_append h.made k.made a.told a1.told a2.told h.told k.told;
}
  where
    with_last : ℕ → At → At
    with_last n t = record t { last = n }

pub then_stops : (halt : Halt) (ds ds' due : List Deed) (at at1 at2 : At) (a a1 a2 : Agent) → Goes ds at at1 a a1 → Stops halt ds' due at1 at2 a1 a2 → Stops halt (ds ++ ds') due at at2 a a2
then_stops halt ds ds' due at at1 at2 a a1 a2 h k = record { goes = then_goes ds ds' at at1 at2 a a1 a2 h k.goes; cause = k.cause }
