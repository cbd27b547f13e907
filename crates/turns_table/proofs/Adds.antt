-- One more entry, in a history and in a log.
use Rattle.std.proofs.Common.{◌≡◌, ◌≢◌, ℕ, ◌<◌, List, [], ◌∷◌, ◌++◌, length, get_or, set, sym, ap, ◌∙◌, subst, Bool, true, false, append_assoc, get_or-set_same, get_or-set_other, eq-eqb, ne_eqb}
use Rattle.std.specs.Prelude.{◌==◌}
use Rattle.std.specs.List.{filter}
use Rattle.std.proofs.lemmas.List.Elements.{filter-append}
use Rattle.std.proofs.lemmas.List.{append-nil}
use mathlib.Core.Logic.{dite}
use native.Mathlib.Decide.{ℕ_discrete}
use Rattle.ho_events.specs.declared.entry.Entry.{Entry}
use Rattle.turns_table.specs.Logs.{is_on, by_agent, on_object, StartsWith}

pub later : (a b c : List Entry) → StartsWith b a → StartsWith c b → StartsWith c a
later a b c t u = (t.0 ++ u.0, u.1 ∙ (ap (λ (l : List Entry). l ++ u.0) t.1 ∙ append_assoc a t.0 u.0))

pub one_in : (p : Entry → Bool) (e : Entry) → p e ≡ true → filter p (e ∷ []) ≡ e ∷ []
one_in p e h = simp h

pub one_out : (p : Entry → Bool) (e : Entry) → p e ≡ false → filter p (e ∷ []) ≡ []
one_out p e h = simp h

module _ (logs : List (List Entry)) (e : Entry) where
  abbrev a : ℕ
  a = e.agent.0

  -- the logs with the entry
  abbrev pub with_entry : List (List Entry)
  with_entry = set logs a (get_or logs a [] ++ e ∷ [])

  pub log_here : a < length logs → get_or with_entry a [] ≡ get_or logs a [] ++ e ∷ []
  log_here h = get_or-set_same logs a (get_or logs a [] ++ e ∷ []) [] h

  pub log_else : (b : ℕ) → b ≢ a → get_or with_entry b [] ≡ get_or logs b []
  log_else b apart = get_or-set_other logs a b (get_or logs a [] ++ e ∷ []) [] apart

  log_at : a < length logs → (b : ℕ) → b ≡ a → get_or with_entry b [] ≡ get_or logs b [] ++ e ∷ []
  log_at h b is = subst (λ (c : ℕ). get_or with_entry c [] ≡ get_or logs c [] ++ e ∷ []) (sym is) (log_here h)

  -- the entry is on this object
  pub shares_it : (i : ℕ) (since : List Entry) → a < length logs → is_on i e.object ≡ true → ((b : ℕ) → by_agent b since ≡ on_object i (get_or logs b [])) → (b : ℕ)
      → by_agent b (since ++ e ∷ []) ≡ on_object i (get_or with_entry b [])
  shares_it i since h on old b = let p : Entry → Bool = λ u. u.agent.0 == b in let q : Entry → Bool = λ u. is_on i u.object in let l : List Entry = get_or logs b [] in dite (ℕ_discrete b a)
      (λ is. let mine : p e ≡ true = eq-eqb a b (sym is) in
      filter-append p since (e ∷ []) ∙ ((λ j. old b j ++ one_in p e mine j) ∙ ((λ j. filter q l ++ sym (one_in q e on) j) ∙ (sym (filter-append q l (e ∷ [])) ∙ ap (on_object i) (sym (log_at h b is))))))
      (λ apart. let other : p e ≡ false = ne_eqb a b (λ t. apart (sym t)) in
      filter-append p since (e ∷ []) ∙ ((λ j. old b j ++ one_out p e other j) ∙ (append-nil (filter q l) ∙ ap (on_object i) (sym (log_else b apart)))))

  -- the entry is on another object
  pub shares_not : (i : ℕ) (since : List Entry) → a < length logs → is_on i e.object ≡ false → ((b : ℕ) → by_agent b since ≡ on_object i (get_or logs b [])) → (b : ℕ)
      → by_agent b since ≡ on_object i (get_or with_entry b [])
  shares_not i since h off old b = let q : Entry → Bool = λ u. is_on i u.object in let l : List Entry = get_or logs b [] in dite (ℕ_discrete b a)
      (λ is. old b ∙ (sym (append-nil (filter q l)) ∙ ((λ j. filter q l ++ sym (one_out q e off) j) ∙ (sym (filter-append q l (e ∷ [])) ∙ ap (on_object i) (sym (log_at h b is))))))
      (λ apart. old b ∙ ap (on_object i) (sym (log_else b apart)))
