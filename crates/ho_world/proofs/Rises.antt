-- Lists whose stamps rise.
use Rattle.std.proofs.Common.{◌≡◌, ℕ, ◌+◌, ◌<◌, Bool, true, false, ◌==◌, nat_lt, max, List, [], ◌∷◌, ◌++◌, filter, refl, sym, ap, subst, ◌∙◌, arith, IsTrue, append_assoc, cond}
use Rattle.std.specs.List.{list_all}
use Rattle.std.proofs.lemmas.Bool.Decides.{nat_tests}
use Rattle.std.proofs.lemmas.List.{append-nil}
use Rattle.ho_events.specs.declared.entry.Entry.{Entry}
use Rattle.ho_events.specs.declared.entry.Place.{Place}
use Rattle.ho_events.specs.declared.entry.Place.TheVariants.{Object, Own}
use Rattle.ho_events.specs.declared.script.Block.{Block}
use Rattle.ho_events.specs.History.{on, is_on, at_place, greatest_stamp, last_stamp, last_stamp_from}
use Rattle.ho_world.specs.Entries.{in_kernel, all_pairs}
use Rattle.ho_world.specs.Legal.{kernel_due, is_stamped, stamp_due}
use Rattle.ho_world.specs.Readings.{are_stamped}
use Rattle.ho_world.specs.Threads.{rises}
use Rattle.ho_world.proofs.Fronts.{and_both, and_left, and_right, filter_parts, filter_in, eq_true}

pub less_test : (x t : ℕ) → x < t → IsTrue (nat_lt x t)
less_test x t h = grind (arith, nat_tests)

pub less_true : (x t : ℕ) → IsTrue (nat_lt x t) → x < t
less_true x t h = grind (arith, nat_tests)

-- in a list whose stamps rise, the last stamp is the greatest
last_greatest : (x : Entry) (xs : List Entry) → IsTrue (all_pairs rises (x ∷ xs)) → last_stamp_from x.stamp xs ≡ max x.stamp (greatest_stamp xs)
unfolding last_stamp_from greatest_stamp all_pairs
last_greatest x [] h = omega arith
last_greatest x (y ∷ ys) h =
    let rest : IsTrue (all_pairs rises (y ∷ ys)) = and_right (list_all (rises x) (y ∷ ys)) _ h in
    let up : x.stamp < y.stamp = less_true x.stamp y.stamp (and_left (nat_lt x.stamp y.stamp) _ (and_left (list_all (rises x) (y ∷ ys)) _ h)) in
    let same : last_stamp_from y.stamp ys ≡ max y.stamp (greatest_stamp ys) = last_greatest y ys rest in
    omega (arith, up, same)

pub is_greatest : (xs : List Entry) → IsTrue (all_pairs rises xs) → last_stamp xs ≡ greatest_stamp xs
unfolding last_stamp_from greatest_stamp
is_greatest [] h = refl
is_greatest (x ∷ xs) h = last_greatest x xs h

all_under : (xs : List Entry) (t : ℕ) → greatest_stamp xs < t → (e : Entry) → e.stamp ≡ t → IsTrue (list_all (λ d. rises d e) xs)
unfolding greatest_stamp
all_under [] t h e is = refl
all_under (x ∷ xs) t h e is =
    let here : x.stamp < e.stamp = omega (arith, h, is) in
    let rest : greatest_stamp xs < t = omega (arith, h) in
    and_both (nat_lt x.stamp e.stamp) _ (less_test x.stamp e.stamp here) (all_under xs t rest e is)

all_end : (x : Entry) (xs : List Entry) (e : Entry) → IsTrue (list_all (rises x) xs) → IsTrue (rises x e) → IsTrue (list_all (rises x) (xs ++ e ∷ []))
all_end x [] e h k = and_both (rises x e) true k refl
all_end x (y ∷ ys) e h k = and_both (rises x y) _ (and_left (rises x y) _ h) (all_end x ys e (and_right (rises x y) _ h) k)

rise_push : (xs : List Entry) (e : Entry) → IsTrue (all_pairs rises xs) → IsTrue (list_all (λ d. rises d e) xs) → IsTrue (all_pairs rises (xs ++ e ∷ []))
unfolding all_pairs
rise_push [] e h k = refl
rise_push (x ∷ xs) e h k =
    and_both (list_all (rises x) (xs ++ e ∷ [])) _ (all_end x xs e (and_left (list_all (rises x) xs) _ h) (and_left (rises x e) _ k))
    (rise_push xs e (and_right (list_all (rises x) xs) _ h) (and_right (rises x e) _ k))

-- one entry more, with a greater stamp
pub rise_more : (xs : List Entry) (e : Entry) → IsTrue (all_pairs rises xs) → greatest_stamp xs < e.stamp → IsTrue (all_pairs rises (xs ++ e ∷ []))
rise_more xs e h above = rise_push xs e h (all_under xs e.stamp above e refl)

-- one entry more, on this object, in an object's own log, on another one
pub on_more : (n : ℕ) (es : List Entry) (e : Entry) → IsTrue (is_on n e.object) → on n (es ++ e ∷ []) ≡ on n es ++ e ∷ []
unfolding on
on_more n es e h = filter_parts (λ d. is_on n d.object) es (e ∷ []) ∙ ap (λ xs. filter (λ d. is_on n d.object) es ++ xs) (filter_in (λ d. is_on n d.object) e [] h)

pub on_same : (n : ℕ) (es : List Entry) (e : Entry) → is_on n e.object ≡ false → on n (es ++ e ∷ []) ≡ on n es
unfolding on
on_same n es e h =
    filter_parts (λ d. is_on n d.object) es (e ∷ []) ∙ ap (λ c. filter (λ d. is_on n d.object) es ++ cond c (e ∷ []) []) h
    ∙ append-nil (filter (λ d. is_on n d.object) es)

pub on_parts : (n : ℕ) (es fs : List Entry) → on n (es ++ fs) ≡ on n es ++ on n fs
unfolding on
on_parts n es fs = filter_parts (λ d. is_on n d.object) es fs

-- in a stamped list the stamps on each object rise, kernel by kernel
module _ (blocks : List Block) (k n : ℕ) where
  abbrev here : List Entry → List Entry
  here es = on n (in_kernel k es)

  kernel_more : (es : List Entry) (e : Entry) (b : Bool) → (e.kernel == k) ≡ b → in_kernel k (es ++ e ∷ []) ≡ in_kernel k es ++ cond b (e ∷ []) []
  unfolding in_kernel
  kernel_more es e b is = filter_parts (λ d. d.kernel == k) es (e ∷ []) ∙ ap (λ c. filter (λ d. d.kernel == k) es ++ cond c (e ∷ []) []) is

  above : (seen : List Entry) (e : Entry) → IsTrue (is_stamped blocks seen e) → e.kernel ≡ k → (x : Place) → e.object ≡ x → IsTrue (is_on n x) → greatest_stamp (here seen) < e.stamp
  unfolding is_stamped
  above seen e h kernel Own is own = absurd cc
  above seen e h kernel (Object m) is own =
      let stamp : e.stamp ≡ stamp_due blocks seen e = eq_true e.stamp (stamp_due blocks seen e) (and_right (e.kernel == kernel_due seen) _ h) in
      let number : m.0 ≡ n = eq_true m.0 n own in
      let last : greatest_stamp (at_place e.object (in_kernel e.kernel seen)) ≡ greatest_stamp (here seen) =
      ap (λ y. greatest_stamp (at_place y (in_kernel e.kernel seen))) is ∙ ap (λ j. greatest_stamp (on m.0 (in_kernel j seen))) kernel
      ∙ ap (λ i. greatest_stamp (on i (in_kernel k seen))) number in
      last_part e.stamp _ _ _ _ stamp last
    where
      last_part : (s x y z o : ℕ) → s ≡ 1 + max (max x y) z → z ≡ o → o < s
      last_part s x y z o p q = omega (arith, p, q)

  rising_on : (seen es : List Entry) → IsTrue (are_stamped blocks seen es) → IsTrue (all_pairs rises (here seen)) → IsTrue (all_pairs rises (here (seen ++ es)))
  unfolding are_stamped
  rising_on seen [] h r = subst (λ xs. IsTrue (all_pairs rises (here xs))) (sym (append-nil seen)) r
  rising_on seen (e ∷ es) h r =
      subst (λ xs. IsTrue (all_pairs rises (here xs))) (append_assoc seen (e ∷ []) es)
      (rising_on (seen ++ e ∷ []) es (and_right (is_stamped blocks seen e) _ h) (by_kernel (e.kernel == k) refl))
    where
      by_place : (b : Bool) → is_on n e.object ≡ b → (e.kernel == k) ≡ true → IsTrue (all_pairs rises (here (seen ++ e ∷ [])))
      by_place true is own =
          subst (λ xs. IsTrue (all_pairs rises xs)) (sym (ap (on n) (kernel_more seen e true own) ∙ on_more n (in_kernel k seen) e is))
          (rise_more (here seen) e r (above seen e (and_left (is_stamped blocks seen e) _ h) (eq_true e.kernel k own) e.object refl is))
      by_place false is own =
          subst (λ xs. IsTrue (all_pairs rises xs)) (sym (ap (on n) (kernel_more seen e true own) ∙ on_same n (in_kernel k seen) e is)) r

      by_kernel : (b : Bool) → (e.kernel == k) ≡ b → IsTrue (all_pairs rises (here (seen ++ e ∷ [])))
      by_kernel true is = by_place (is_on n e.object) refl is
      by_kernel false is =
          subst (λ xs. IsTrue (all_pairs rises xs)) (sym (ap (on n) (kernel_more seen e false is ∙ append-nil (in_kernel k seen)))) r

pub object_rises : (blocks : List Block) (es : List Entry) (k n : ℕ) → IsTrue (are_stamped blocks [] es) → IsTrue (all_pairs rises (on n (in_kernel k es)))
unfolding all_pairs in_kernel on
object_rises blocks es k n h = rising_on blocks k n [] es h refl
