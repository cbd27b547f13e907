-- Commands that bind labels which their agent doesn't have may come one after another.
use Rattle.std.proofs.Common.{◌≡◌, ◌⊎◌, inl, inr, ℕ, ◌≤◌, Bool, true, false, not, cond, ◌&&◌, ◌||◌, ◌==◌, nat_le, List, [], ◌∷◌, ◌++◌, refl, sym, ap, ◌∙◌, arith, IsTrue}
use Rattle.std.specs.Prelude.{Option, None, Some}
use Rattle.std.specs.List.{list_any}
use Rattle.std.specs.FinMap as finmap
use Rattle.std.proofs.lemmas.Bool.{eq-eqb}
use Rattle.std.proofs.lemmas.Bool.Decides.{nat_tests}
use Rattle.ho_base.specs.declared.limits.TheConstants.{MAX_ORDER}
use Rattle.ho_base.specs.declared.numbers.FileNo.{FileNo}
use Rattle.ho_events.specs.Lists.{same_bytes}
use Rattle.ho_events.specs.Script.SoFar.{label_of, same_label, is_bound, with_label}
use Rattle.ho_events.specs.declared.command.Command.{Command}
use Rattle.ho_events.specs.declared.command.Command.TheVariants as command
use Rattle.ho_world.specs.Acts.{Sequence}
use Rattle.ho_world.specs.Entries.{is_ok}
use Rattle.ho_world.specs.Legal.{bound_to, after_task}
use Rattle.ho_world.specs.Logs.{found_among, labels_after}
use Rattle.ho_world.specs.Sequences.{Labels}
use Rattle.ho_world.specs.Tasks.{Ask}
use Rattle.ho_world.proofs.Fronts.{and_left, and_right}
use Rattle.balance_laws.specs.Keeps.{MayCome}
use Rattle.balance_laws.proofs.Base.{clash}
use Rattle.balance_laws.proofs.Maps.{name_off, name_cut, name_left, names_either}
use Rattle.sound_histories.specs.Binding.{makes_memfds, HasOnly, OnceMayCome}
use Rattle.sound_histories.specs.Kept.{AllMayCome}

pub same_self : (xs : List ℕ) → same_bytes xs xs ≡ true
same_self [] = refl
same_self (x ∷ xs) = ap (λ b. b && same_bytes xs xs) (eq-eqb x x refl) ∙ same_self xs

pub any_parts : {T : Type 0} (p : T → Bool) (xs ys : List T) → list_any p (xs ++ ys) ≡ (list_any p xs || list_any p ys)
any_parts p [] ys = refl
any_parts p (x ∷ xs) ys = ap (λ b. p x || b) (any_parts p xs ys) ∙ grouped (p x) (list_any p xs) (list_any p ys)
  where
    grouped : (a b c : Bool) → (a || (b || c)) ≡ ((a || b) || c)
    grouped true b c = refl
    grouped false b c = refl

neither : (p q : Bool) → (p || q) ≡ false → (p ≡ false) × (q ≡ false)
neither true q h = absurd (clash h)
neither false q h = (refl, h)

pub not_true : (b : Bool) → IsTrue (not b) → b ≡ false
not_true true h = absurd (clash (sym h))
not_true false h = refl

-- a label that isn't bound once another one is bound
module _ (bound : List (ℕ × List ℕ)) (a : ℕ) (label q : List ℕ) (free : is_bound (bound ++ (a, label) ∷ []) a (Some q) ≡ false) where
  both_free : (is_bound bound a (Some q) ≡ false) × (list_any (same_label (a, q)) ((a, label) ∷ []) ≡ false)
  both_free = neither _ _ (sym (any_parts (same_label (a, q)) bound ((a, label) ∷ [])) ∙ free)

  other : q ≡ label → ⊥
  other e =
      clash (sym (ap (λ b. b && same_bytes q q) (eq-eqb a a refl) ∙ same_self q) ∙ ap (λ l. a == a && same_bytes q l) e ∙ (neither _ _ both_free.1).0)

-- no label more is in use where one more is bound
pub still_only : (labels : Labels) (bound : List (ℕ × List ℕ)) (a : ℕ) (label : Option (List ℕ)) → HasOnly labels bound a → HasOnly labels (with_label bound a label) a
still_only labels bound a None only q free = only q free
still_only labels bound a (Some label) only q free = only q (both_free bound a label q free).0

-- a label that is bound, where a file was found
put_only : (labels : Labels) (bound : List (ℕ × List ℕ)) (a : ℕ) (label : List ℕ) (found : Option FileNo) → HasOnly labels bound a → HasOnly (bound_to labels label found) (bound ++ (a, label) ∷ []) a
put_only labels bound a label None only q free = only q (both_free bound a label q free).0
put_only labels bound a label (Some f) only q free = name_off labels label f q (other bound a label q free) ∙ only q (both_free bound a label q free).0

-- a label that is let go
cut_only : (labels : Labels) (bound : List (ℕ × List ℕ)) (a : ℕ) (label : List ℕ) → HasOnly labels bound a → HasOnly (finmap.remove labels label) bound a
cut_only labels bound a label only q free = by_case (names_either q label)
  where
    by_case : (q ≡ label) ⊎ (q ≡ label → ⊥) → finmap.get (finmap.remove labels label) q ≡ None
    by_case (inl e) = name_cut labels label q e
    by_case (inr e) = name_left labels label q e ∙ only q free

-- the labels that a command leaves which is answered Ok
ok_only : (labels : Labels) (bound : List (ℕ × List ℕ)) (a : ℕ) (found : Option FileNo) (c : Command) → HasOnly labels bound a
    → HasOnly (after_task (record { labels = labels; found = found }) (Some (record { block = 0; task = Ask c }))) (with_label bound a (label_of c)) a
ok_only labels bound a found (command.Memfd label o) only = put_only labels bound a label found only
ok_only labels bound a found (command.Device label kind size) only = put_only labels bound a label found only
ok_only labels bound a found (command.Write label off bytes) only = only
ok_only labels bound a found (command.Fill label off len byte) only = only
ok_only labels bound a found (command.Read label off len) only = only
ok_only labels bound a found (command.Truncate label size) only = only
ok_only labels bound a found (command.Seek label to) only = only
ok_only labels bound a found (command.Tell label) only = only
ok_only labels bound a found (command.CloseFd label) only = cut_only labels bound a label only
ok_only labels bound a found (command.Create name) only = only
ok_only labels bound a found (command.Preserve name t label) only = only
ok_only labels bound a found (command.Close name) only = only
ok_only labels bound a found (command.Open name) only = only
ok_only labels bound a found (command.Retrieve name t label) only = put_only labels bound a label found only
ok_only labels bound a found (command.Finish name) only = only

pub after_only : (labels : Labels) (bound : List (ℕ × List ℕ)) (a : ℕ) (c : Command) (s : Sequence) → HasOnly labels bound a → HasOnly (labels_after labels c s) (with_label bound a (label_of c)) a
after_only labels bound a c s only =
    by_reply (is_ok s.reply) _ (ok_only labels bound a (found_among None s.acts) c only)
  where
    by_reply : (b : Bool) (now : Labels) → HasOnly now (with_label bound a (label_of c)) a → HasOnly (cond b now labels) (with_label bound a (label_of c)) a
    by_reply true now h = h
    by_reply false now h = still_only labels bound a (label_of c) only

-- what a command asks of its agent's labels
one_may : (labels : Labels) (bound : List (ℕ × List ℕ)) (a : ℕ) (c : Command) → HasOnly labels bound a → IsTrue (makes_memfds c) → is_bound bound a (label_of c) ≡ false → MayCome labels c
one_may labels bound a (command.Memfd label o) only fit free = (only label free, order o.0 fit)
  where
    order : (n : ℕ) → IsTrue (nat_le n MAX_ORDER) → n ≤ MAX_ORDER
    order n h = grind (arith, nat_tests, h)
one_may labels bound a (command.Device label kind size) only fit free = absurd (clash (sym fit))
one_may labels bound a (command.Write label off bytes) only fit free = tt
one_may labels bound a (command.Fill label off len byte) only fit free = tt
one_may labels bound a (command.Read label off len) only fit free = tt
one_may labels bound a (command.Truncate label size) only fit free = tt
one_may labels bound a (command.Seek label to) only fit free = tt
one_may labels bound a (command.Tell label) only fit free = tt
one_may labels bound a (command.CloseFd label) only fit free = tt
one_may labels bound a (command.Create name) only fit free = tt
one_may labels bound a (command.Preserve name t label) only fit free = tt
one_may labels bound a (command.Close name) only fit free = tt
one_may labels bound a (command.Open name) only fit free = tt
one_may labels bound a (command.Retrieve name t label) only fit free = only label free
one_may labels bound a (command.Finish name) only fit free = tt

pub once_may_come : OnceMayCome
unfolding AllMayCome
once_may_come labels bound a [] only fit once = tt
once_may_come labels bound a (c ∷ cs) only fit once = (
  one_may labels bound a c only (and_left (makes_memfds c) _ fit) (not_true _ (and_left (not (is_bound bound a (label_of c))) _ once)),
  λ outcome s one. once_may_come (labels_after labels c s) (with_label bound a (label_of c)) a cs (after_only labels bound a c s only)
      (and_right (makes_memfds c) _ fit) (and_right (not (is_bound bound a (label_of c))) _ once),
)
