-- Parts of a list that its front alone decides.
use Rattle.std.proofs.Common.{◌≡◌, ℕ, ◌+◌, ◌<◌, ◌≤◌, Bool, true, false, not, ◌&&◌, ◌||◌, ◌==◌, nat_lt, nat_le, List, [], ◌∷◌, ◌++◌, filter, refl, sym, ap, ◌∙◌, arith, IsTrue, append_assoc, is_some, zero, suc}
use Rattle.std.specs.Prelude.{Option, None, Some, cond}
use Rattle.std.specs.List.{list_all, list_any}
use Rattle.std.proofs.lemmas.Bool.Decides.{nat_tests}
use Rattle.std.proofs.lemmas.List.{append-nil}
use Rattle.ho_events.specs.History.{run_from, then_entry}
use Rattle.ho_events.specs.Lists.{upto}
use Rattle.ho_events.specs.declared.entry.Entry.{Entry}
use Rattle.ho_events.specs.declared.event.Event.{Event}
use Rattle.ho_events.specs.declared.reply.Reply.{Reply}
use Rattle.ho_world.specs.Entries.{all_pairs, lines_from}

pub and_both : (b c : Bool) → IsTrue b → IsTrue c → IsTrue (b && c)
and_both true c h k = k
and_both false c h k = absurd cc

pub and_left : (b c : Bool) → IsTrue (b && c) → IsTrue b
and_left true c h = refl
and_left false c h = absurd cc

pub and_right : (b c : Bool) → IsTrue (b && c) → IsTrue c
and_right true c h = h
and_right false c h = absurd cc

or_false : (b c : Bool) → IsTrue (not b) → (b || c) ≡ c
or_false true c h = absurd cc
or_false false c h = refl

or_none : (b : Bool) → (b || false) ≡ b
or_none true = refl
or_none false = refl

pub or_left : (b c : Bool) → IsTrue b → IsTrue (b || c)
or_left true c h = refl
or_left false c h = absurd cc

pub or_right : (b c : Bool) → IsTrue c → IsTrue (b || c)
or_right true c h = refl
or_right false c h = h

module _ {T : Type 0} where
  -- a test of all items of two lists
  pub all_append : (p : T → Bool) (xs ys : List T) → IsTrue (list_all p xs) → IsTrue (list_all p ys) → IsTrue (list_all p (xs ++ ys))
  all_append p [] ys h k = k
  all_append p (x ∷ xs) ys h k = and_both (p x) _ (and_left (p x) _ h) (all_append p xs ys (and_right (p x) _ h) k)

  pub all_front : (p : T → Bool) (xs ys : List T) → IsTrue (list_all p (xs ++ ys)) → IsTrue (list_all p xs)
  all_front p [] ys h = refl
  all_front p (x ∷ xs) ys h = and_both (p x) _ (and_left (p x) _ h) (all_front p xs ys (and_right (p x) _ h))

  pub all_rest : (p : T → Bool) (xs ys : List T) → IsTrue (list_all p (xs ++ ys)) → IsTrue (list_all p ys)
  all_rest p [] ys h = h
  all_rest p (x ∷ xs) ys h = all_rest p xs ys (and_right (p x) _ h)

  -- what follows for each item
  pub all_follow : (p q : T → Bool) (xs : List T) → ((x : T) → IsTrue (p x) → IsTrue (q x)) → IsTrue (list_all p xs) → IsTrue (list_all q xs)
  all_follow p q [] f h = refl
  all_follow p q (x ∷ xs) f h = and_both (q x) _ (f x (and_left (p x) _ h)) (all_follow p q xs f (and_right (p x) _ h))

  dropped : (p : T → Bool) (x : T) (xs : List T) (b : Bool) → p x ≡ b → IsTrue (not b) → filter p (x ∷ xs) ≡ filter p xs
  dropped p x xs true e h = absurd cc
  dropped p x xs false e h = ap (λ c. cond c (x ∷ filter p xs) (filter p xs)) e

  none_pass : (p : T → Bool) (ys : List T) → IsTrue (list_all (λ y. not (p y)) ys) → filter p ys ≡ []
  none_pass p [] h = refl
  none_pass p (y ∷ ys) h = dropped p y ys (p y) refl (and_left (not (p y)) _ h) ∙ none_pass p ys (and_right (not (p y)) _ h)

  cond_append : (b : Bool) (x : T) (xs ys : List T) → cond b (x ∷ (xs ++ ys)) (xs ++ ys) ≡ cond b (x ∷ xs) xs ++ ys
  cond_append true x xs ys = refl
  cond_append false x xs ys = refl

  pub filter_parts : (p : T → Bool) (xs ys : List T) → filter p (xs ++ ys) ≡ filter p xs ++ filter p ys
  filter_parts p [] ys = refl
  filter_parts p (x ∷ xs) ys = ap (λ zs. cond (p x) (x ∷ zs) zs) (filter_parts p xs ys) ∙ cond_append (p x) x (filter p xs) (filter p ys)

  -- the rest passes no test, so the front alone decides
  pub filter_front : (p : T → Bool) (xs ys : List T) → IsTrue (list_all (λ y. not (p y)) ys) → filter p (xs ++ ys) ≡ filter p xs
  filter_front p xs ys h = filter_parts p xs ys ∙ ap (λ zs. filter p xs ++ zs) (none_pass p ys h) ∙ append-nil (filter p xs)

  pub filter_in : (p : T → Bool) (x : T) (xs : List T) → IsTrue (p x) → filter p (x ∷ xs) ≡ x ∷ filter p xs
  filter_in p x xs h = ap (λ c. cond c (x ∷ filter p xs) (filter p xs)) h

  pub none_any : (p : T → Bool) (ys : List T) → IsTrue (list_all (λ y. not (p y)) ys) → list_any p ys ≡ false
  none_any p [] h = refl
  none_any p (y ∷ ys) h = or_false (p y) _ (and_left (not (p y)) _ h) ∙ none_any p ys (and_right (not (p y)) _ h)

  pub any_front : (p : T → Bool) (xs ys : List T) → IsTrue (list_all (λ y. not (p y)) ys) → list_any p (xs ++ ys) ≡ list_any p xs
  any_front p [] ys h = none_any p ys h
  any_front p (x ∷ xs) ys h = ap (λ b. p x || b) (any_front p xs ys h)

  any_kept : (p q : T → Bool) (x : T) (xs : List T) (b : Bool) → p x ≡ b → (IsTrue (list_any q (filter p xs)) → IsTrue (list_any (λ y. p y && q y) xs)) → IsTrue (list_any q (cond b (x ∷ filter p xs) (filter p xs))) → IsTrue (list_any (λ y. p y && q y) (x ∷ xs))
  any_kept p q x xs false e f h = or_right (p x && q x) _ (f h)
  any_kept p q x xs true e f h =
      elim (q x) as (λ r. q x ≡ r → IsTrue (r || list_any q (filter p xs)) → IsTrue (list_any (λ y. p y && q y) (x ∷ xs))) [
        | true ↦ λ qx h. or_left (p x && q x) _ (and_both (p x) (q x) e qx)
        | false ↦ λ qx h. or_right (p x && q x) _ (f h)
      ] refl h

  pub any_filter : (p q : T → Bool) (xs : List T) → IsTrue (list_any q (filter p xs)) → IsTrue (list_any (λ y. p y && q y) xs)
  any_filter p q [] h = h
  any_filter p q (x ∷ xs) h = any_kept p q x xs (p x) refl (any_filter p q xs) h

  kept_false : (p q : T → Bool) (x : T) (xs : List T) (b : Bool) → p x ≡ b → (list_any q (filter p xs) ≡ false → list_any (λ y. p y && q y) xs ≡ false) → list_any q (cond b (x ∷ filter p xs) (filter p xs)) ≡ false → list_any (λ y. p y && q y) (x ∷ xs) ≡ false
  kept_false p q x xs false e f h = ap (λ b. (b && q x) || list_any (λ y. p y && q y) xs) e ∙ f h
  kept_false p q x xs true e f h = ap (λ b. (b && q x) || list_any (λ y. p y && q y) xs) e ∙ neither (q x) _ _ h f
    where
      neither : (b c d : Bool) → (b || c) ≡ false → (c ≡ false → d ≡ false) → (b || d) ≡ false
      neither true c d h g = absurd cc
      neither false c d h g = g h

  pub any_kept_false : (p q : T → Bool) (xs : List T) → list_any q (filter p xs) ≡ false → list_any (λ y. p y && q y) xs ≡ false
  any_kept_false p q [] h = refl
  any_kept_false p q (x ∷ xs) h = kept_false p q x xs (p x) refl (any_kept_false p q xs) h

-- each entry is related to the later ones
pub pairs_before : (r : Entry → Entry → Bool) (xs : List Entry) (e : Entry) (ys : List Entry) → IsTrue (all_pairs r (xs ++ e ∷ ys)) → IsTrue (list_all (λ d. r d e) xs)
unfolding all_pairs
pairs_before r [] e ys h = refl
pairs_before r (x ∷ xs) e ys h =
    and_both (r x e) _ (and_left (r x e) _ (all_rest (r x) xs (e ∷ ys) (and_left (list_all (r x) (xs ++ e ∷ ys)) _ h)))
    (pairs_before r xs e ys (and_right (list_all (r x) (xs ++ e ∷ ys)) _ h))

pub pairs_after : (r : Entry → Entry → Bool) (xs : List Entry) (e : Entry) (ys : List Entry) → IsTrue (all_pairs r (xs ++ e ∷ ys)) → IsTrue (list_all (r e) ys)
unfolding all_pairs
pairs_after r [] e ys h = and_left (list_all (r e) ys) _ h
pairs_after r (x ∷ xs) e ys h = pairs_after r xs e ys (and_right (list_all (r x) (xs ++ e ∷ ys)) _ h)

-- a run that comes to its end comes through its front
module _ {S : Type 0} (step : S → Event → Reply → Option S) where
  pub run_parts : (s : Option S) (xs ys : List Entry) → run_from step s (xs ++ ys) ≡ run_from step (run_from step s xs) ys
  unfolding run_from
  run_parts s [] ys = refl
  run_parts s (x ∷ xs) ys = run_parts (then_entry step s x) xs ys

  lost : (ys : List Entry) → run_from step None ys ≡ None
  unfolding run_from
  lost [] = refl
  lost (y ∷ ys) = lost ys

  not_lost : (s : Option S) (ys : List Entry) → IsTrue (is_some (run_from step s ys)) → IsTrue (is_some s)
  not_lost None ys h = sym (ap is_some (lost ys)) ∙ h
  not_lost (Some s) ys h = refl

  pub run_front : (s : Option S) (xs ys : List Entry) → IsTrue (is_some (run_from step s (xs ++ ys))) → IsTrue (is_some (run_from step s xs))
  run_front s xs ys h = not_lost (run_from step s xs) ys (ap is_some (sym (run_parts s xs ys)) ∙ h)

-- lines
pub lines_parts : (seen xs ys : List Entry) → lines_from seen (xs ++ ys) ≡ lines_from seen xs ++ lines_from (seen ++ xs) ys
unfolding lines_from
lines_parts seen [] ys = ap (λ s. lines_from s ys) (sym (append-nil seen))
lines_parts seen (x ∷ xs) ys =
    ap (λ ls. (record { before = seen; entry = x }) ∷ ls)
    (lines_parts (seen ++ x ∷ []) xs ys ∙ ap (λ s. lines_from (seen ++ x ∷ []) xs ++ lines_from s ys) (append_assoc seen (x ∷ []) xs))

-- a test of the lines' entries is a test of the entries
pub any_line : (p : Entry → Bool) (seen es : List Entry) → list_any (λ l. p l.entry) (lines_from seen es) ≡ list_any p es
unfolding lines_from
any_line p seen [] = refl
any_line p seen (e ∷ es) = ap (λ b. p e || b) (any_line p (seen ++ e ∷ []) es)

pub all_line : (p : Entry → Bool) (seen es : List Entry) → list_all (λ l. p l.entry) (lines_from seen es) ≡ list_all p es
unfolding lines_from
all_line p seen [] = refl
all_line p seen (e ∷ es) = ap (λ b. p e && b) (all_line p (seen ++ e ∷ []) es)

-- a test of the numbers below n
pub all_upto : (p : ℕ → Bool) (n : ℕ) → ((m : ℕ) → m < n → IsTrue (p m)) → IsTrue (list_all p (upto n))
unfolding upto
all_upto p zero f = refl
all_upto p (suc n) f = all_append p (upto n) (n ∷ []) (all_upto p n (λ m h. f m (omega (arith, h)))) (and_both (p n) true (f n (omega arith)) refl)

-- tests of numbers
pub eq_true : (a b : ℕ) → IsTrue (a == b) → a ≡ b
eq_true a b h = grind (arith, nat_tests)

pub eq_test : (a b : ℕ) → a ≡ b → IsTrue (a == b)
eq_test a b h = grind (arith, nat_tests)

pub le_true : (a b : ℕ) → IsTrue (nat_le a b) → a ≤ b
le_true a b h = grind (arith, nat_tests)

pub eq_same : (a : ℕ) → (a == a) ≡ true
eq_same a = eq_test a a refl

pub lt_not : (a b : ℕ) → b ≤ a → nat_lt a b ≡ false
lt_not a b h = grind (arith, nat_tests)

pub eq_not : (a b : ℕ) → b < a → (a == b) ≡ false
eq_not a b h = grind (arith, nat_tests)
