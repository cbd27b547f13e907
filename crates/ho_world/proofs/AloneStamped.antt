-- The stamps of what one agent did alone are those that are due.
use Rattle.std.proofs.Common.{◌≡◌, ◌≢◌, ℕ, ◌+◌, ◌<◌, Bool, true, false, ◌==◌, max, List, [], ◌∷◌, ◌++◌, refl, sym, ap, subst, ◌∙◌, arith, IsTrue, append_assoc, inl, inr, cond}
use Rattle.std.specs.Prelude.{Some}
use Rattle.std.specs.List.{list_all}
use Rattle.std.proofs.lemmas.Bool.Decides.{nat_tests, eqb_tells}
use Rattle.std.proofs.lemmas.List.{append-nil}
use Rattle.ho_base.specs.declared.numbers.ObjectNo.{ObjectNo}
use Rattle.ho_events.specs.declared.entry.Entry.{Entry}
use Rattle.ho_events.specs.declared.entry.Place.{Place}
use Rattle.ho_events.specs.declared.entry.Place.TheVariants.{Object, Own}
use Rattle.ho_events.specs.declared.script.Block.{Block}
use Rattle.ho_events.specs.History.{on, is_on, by, greatest_stamp, last_stamp, last_stamp_from}
use Rattle.ho_world.specs.Entries.{in_kernel, all_pairs}
use Rattle.ho_world.specs.Legal.{kernel_due, block_of, is_below}
use Rattle.ho_world.specs.Readings.{are_stamped}
use Rattle.ho_world.specs.Threads.{HadBefore, IsStampedAt, IsStampedLog, rises, is_in_round}
use Rattle.ho_world.specs.Logs.{grown, before_at}
use Rattle.ho_world.proofs.AloneStamps.{Stamps}
use Rattle.ho_world.proofs.Fronts.{and_left, and_right, eq_true}
use Rattle.ho_world.proofs.Rises.{is_greatest, rise_more, on_more, on_same, on_parts, object_rises}
use Rattle.ho_world.proofs.Stamped.{round_is_stamped}

same_number : (n : ℕ) → IsTrue (n == n)
same_number n = grind (arith, nat_tests)

other_number : (n q : ℕ) → q ≢ n → (n == q) ≡ false
other_number n q other = grind (arith, nat_tests)

module _ (f : ℕ → List Entry) where
  its_own : (seen : List Entry) (e : Entry) (m : ObjectNo) → e.object ≡ Object m → grown f (seen ++ e ∷ []) m.0 ≡ grown f seen m.0 ++ e ∷ []
  its_own seen e m is =
      ap (λ xs. f m.0 ++ xs) (on_more m.0 seen e (ap (is_on m.0) is ∙ same_number m.0)) ∙ sym (append_assoc (f m.0) (on m.0 seen) (e ∷ []))

  others : (seen : List Entry) (e : Entry) (n : ℕ) → is_on n e.object ≡ false → grown f (seen ++ e ∷ []) n ≡ grown f seen n
  others seen e n is = ap (λ xs. f n ++ xs) (on_same n seen e is)

  -- one entry more, stamped after its object's history
  histories_rise : (seen : List Entry) (e : Entry) (last : ℕ) → e.stamp ≡ 1 + max last (last_stamp (before_at f seen e.object)) → ((n : ℕ) → IsTrue (all_pairs rises (grown f seen n))) → (n : ℕ) → IsTrue (all_pairs rises (grown f (seen ++ e ∷ []) n))
  histories_rise seen e last stamp rising n = at_place e.object refl
    where
      at_place : (x : Place) → e.object ≡ x → IsTrue (all_pairs rises (grown f (seen ++ e ∷ []) n))
      at_place Own is = subst (λ xs. IsTrue (all_pairs rises xs)) (sym (others seen e n (ap (is_on n) is))) (rising n)
      at_place (Object m) is = elim (eqb_tells n m.0) [
        | inl t ↦
            let stamped : e.stamp ≡ 1 + max last (last_stamp (grown f seen m.0)) = stamp ∙ ap (λ x. 1 + max last (last_stamp (before_at f seen x))) is in
            let most : last_stamp (grown f seen m.0) ≡ greatest_stamp (grown f seen m.0) = is_greatest (grown f seen m.0) (rising m.0) in
            let up : greatest_stamp (grown f seen m.0) < e.stamp = omega (arith, stamped, most) in
            subst (λ k. IsTrue (all_pairs rises (grown f (seen ++ e ∷ []) k))) (sym t.1)
            (subst (λ xs. IsTrue (all_pairs rises xs)) (sym (its_own seen e m is)) (rise_more (grown f seen m.0) e (rising m.0) up))
        | inr t ↦
            subst (λ xs. IsTrue (all_pairs rises xs)) (sym (others seen e n (ap (is_on n) is ∙ other_number m.0 n t.1))) (rising n)
      ]

  had_before : (seen : List Entry) (e : Entry) (es : List Entry) (m : ObjectNo) → e.object ≡ Object m → IsTrue (all_pairs rises (grown f seen m.0)) → HadBefore (grown f (seen ++ e ∷ es) m.0) e
  had_before seen e es m is rising = record {
    before = grown f seen m.0;
    more = on m.0 es;
    split =
        ap (λ xs. grown f xs m.0) (sym (append_assoc seen (e ∷ []) es)) ∙ ap (λ xs. f m.0 ++ xs) (on_parts m.0 (seen ++ e ∷ []) es)
        ∙ sym (append_assoc (f m.0) (on m.0 (seen ++ e ∷ [])) (on m.0 es)) ∙ ap (λ xs. xs ++ on m.0 es) (its_own seen e m is)
        ∙ append_assoc (grown f seen m.0) (e ∷ []) (on m.0 es);
    stamp = last_stamp (grown f seen m.0);
    last = is_greatest (grown f seen m.0) rising;
  }

  had_stamp : (seen : List Entry) (e : Entry) (es : List Entry) (m : ObjectNo) (is : e.object ≡ Object m) (rising : IsTrue (all_pairs rises (grown f seen m.0))) → (had_before seen e es m is rising).stamp ≡ last_stamp (grown f seen m.0)
  unfolding had_before
  had_stamp seen e es m is rising = refl

  stamped_at : (seen : List Entry) (e : Entry) (es : List Entry) (last : ℕ) (x : Place) → e.object ≡ x → e.stamp ≡ 1 + max last (last_stamp (before_at f seen x)) → ((n : ℕ) → IsTrue (all_pairs rises (grown f seen n))) → IsStampedAt (grown f (seen ++ e ∷ es)) last e x
  unfolding last_stamp_from
  stamped_at seen e es last Own is stamp rising = omega (arith, stamp)
  stamped_at seen e es last (Object m) is stamp rising =
      (had_before seen e es m is (rising m.0), stamp ∙ ap (λ t. 1 + max last t) (sym (had_stamp seen e es m is (rising m.0))))

  stamped_log : (last : ℕ) (seen es : List Entry) (last' : ℕ) → Stamps f last seen es last' → ((n : ℕ) → IsTrue (all_pairs rises (grown f seen n))) → IsStampedLog (grown f (seen ++ es)) last es × ((n : ℕ) → IsTrue (all_pairs rises (grown f (seen ++ es) n)))
  unfolding Stamps
  stamped_log last seen [] last' h rising = (tt, λ n. subst (λ xs. IsTrue (all_pairs rises (grown f xs n))) (sym (append-nil seen)) (rising n))
  stamped_log last seen (e ∷ es) last' h rising =
      let rest = stamped_log e.stamp (seen ++ e ∷ []) es last' h.1 (histories_rise seen e last h.0 rising) in
      let all : (seen ++ e ∷ []) ++ es ≡ seen ++ e ∷ es = append_assoc seen (e ∷ []) es in (
        (stamped_at seen e es last e.object refl h.0 rising, subst (λ xs. IsStampedLog (grown f xs) e.stamp es) all rest.0),
        λ n. subst (λ xs. IsTrue (all_pairs rises (grown f xs n))) all (rest.1 n),
      )

  grown_none : (n : ℕ) → grown f [] n ≡ f n
  unfolding on
  grown_none n = append-nil (f n)

-- all entries are of one agent
by_one : (x a : ℕ) (b : Bool) (es : List Entry) → (x == a) ≡ b → IsTrue (list_all (λ e. e.agent.0 == x) es) → by a es ≡ cond b es []
unfolding by
by_one x a true [] is h = refl
by_one x a false [] is h = refl
by_one x a true (e ∷ es) is h =
    ap (λ c. cond c (e ∷ by a es) (by a es)) (ap (λ y. y == a) (eq_true e.agent.0 x (and_left (e.agent.0 == x) _ h)) ∙ is)
    ∙ ap (λ xs. e ∷ xs) (by_one x a true es is (and_right (e.agent.0 == x) _ h))
by_one x a false (e ∷ es) is h =
    ap (λ c. cond c (e ∷ by a es) (by a es)) (ap (λ y. y == a) (eq_true e.agent.0 x (and_left (e.agent.0 == x) _ h)) ∙ is)
    ∙ by_one x a false es is (and_right (e.agent.0 == x) _ h)

-- entries of one agent that are stamped after the histories of these entries
pub alone_stamped : (blocks : List Block) (k b a : ℕ) (es new : List Entry) (last : ℕ) → kernel_due es ≡ k → IsTrue (are_stamped blocks [] es) → IsTrue (list_all (λ d. is_below b (block_of blocks d)) es)
    → IsTrue (list_all (is_in_round blocks k b) new) → IsTrue (list_all (λ e. e.agent.0 == a) new) → ((before : List Entry) (e : Entry) (rest : List Entry) → new ≡ before ++ e ∷ rest → block_of blocks e ≡ Some b)
    → Stamps (λ o. on o (in_kernel k es)) (greatest_stamp (in_kernel k es)) [] new last → IsTrue (are_stamped blocks es new)
alone_stamped blocks k b a es new last due stamped earlier here own of_block h = round_is_stamped blocks k b es new (record {
  kernel = due;
  earlier = earlier;
  here = here;
  of_block = of_block;
  histories = grown f new;
  are_histories = λ n. refl;
  rising = told.1;
  logs = λ x. one x (a == x) refl;
})
  where
    f : ℕ → List Entry
    f o = on o (in_kernel k es)

    told : IsStampedLog (grown f ([] ++ new)) (greatest_stamp (in_kernel k es)) new × ((n : ℕ) → IsTrue (all_pairs rises (grown f ([] ++ new) n)))
    told = stamped_log f (greatest_stamp (in_kernel k es)) [] new last h (λ n. subst (λ xs. IsTrue (all_pairs rises xs)) (sym (grown_none f n)) (object_rises blocks es k n stamped))

    one : (x : ℕ) (c : Bool) → (a == x) ≡ c → IsStampedLog (grown f new) (greatest_stamp (in_kernel k es)) (by x new)
    one x true is = subst (λ l. IsStampedLog (grown f new) (greatest_stamp (in_kernel k es)) l) (sym (by_one a x true new is own)) told.0
    one x false is = subst (λ l. IsStampedLog (grown f new) (greatest_stamp (in_kernel k es)) l) (sym (by_one a x false new is own)) tt
