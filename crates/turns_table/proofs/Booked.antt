-- The logs that a pass keeps stay those that it knows.
use Rattle.std.proofs.Common.{◌≡◌, ◌≢◌, ℕ, suc, ◌<◌, ◌≤◌, List, [], ◌∷◌, ◌++◌, length, replicate, sym, refl, ap, ◌∙◌, subst, arith, Bool, true, false, cond, get_or-set_same, get_or-set_other}
use Rattle.std.specs.declared.vec.Vec.{Vec}
use Rattle.std.specs.declared.alloc.Global.{Global}
use Rattle.std.proofs.lemmas.List.{length-replicate, map-append, append-nil}
use Rattle.std.proofs.lemmas.List.Elements.{filter-append}
use mathlib.Core.Logic.{dite}
use native.Mathlib.Decide.{ℕ_discrete, dec_le}
use Rattle.ho_events.specs.declared.entry.Entry.{Entry}
use Rattle.ho_events.specs.declared.entry.Place.TheVariants.{Object, Own}
use Rattle.turns_table.specs.Logs.{entries_of}
use Rattle.turns_table.specs.Kept.{items_at, has_at, is_mine, is_object, on_objects, stray, IsLogged}
use Rattle.turns_table.specs.Views.{IsMine, IsOnly, merged, entries_in, role, agents, first, added, let_go, gave, given, joined}
use Rattle.turns_table.specs.declared.rule.Known.{Known}
use Rattle.turns_table.specs.declared.rule.Role.{Role}
use Rattle.turns_table.specs.declared.rule.Role.TheVariants.{Absent, Spare, Has}
use Rattle.turns_table.proofs.Splits.{blank, role_merge}
use Rattle.turns_table.proofs.Adds.{one_in, one_out}
use Rattle.turns_table.proofs.Opens.{same_or}
use Rattle.turns_table.proofs.Lists.{beyond}
use Rattle.turns_table.proofs.Shelves.{has_beyond, at_true, at_false}

abbrev Log : Type 0
Log = Vec Entry Global

-- the three facts of one number
abbrev Fits1 : Role → Bool → List Entry → Type 0
Fits1 q b es = (b ≡ is_mine q) × (on_objects es ≡ entries_in q) × (stray q es ≡ [])

fits_merged : (q r : Role) (b c : Bool) (es ds : List Entry) → Fits1 q b es → Fits1 r c ds → Fits1 (merged q r) (cond b true c) (cond b es ds)
fits_merged Absent r b c es ds f g = (at_false b true c f.0 ∙ g.0, ap on_objects (at_false b es ds f.0) ∙ g.1, ap (stray r) (at_false b es ds f.0) ∙ g.2)
fits_merged Spare r b c es ds f g = (at_true b true c f.0, ap on_objects (at_true b es ds f.0) ∙ f.1, at_true b es ds f.0 ∙ f.2)
fits_merged (Has log) r b c es ds f g = (at_true b true c f.0, ap on_objects (at_true b es ds f.0) ∙ f.1, refl)

module _ {T : Type 0} where
  pub logged_at : (v v' : Known T) (ls : List Log) (bs : List Bool) → v' ≡ v → IsLogged v ls bs → IsLogged v' ls bs
  logged_at v v' ls bs e k = subst (λ (z : Known T). IsLogged z ls bs) (sym e) k

  pub logged_same : (v : Known T) (ls ls' : List Log) (bs : List Bool) → IsLogged v ls bs → ((b : ℕ) → items_at ls' b ≡ items_at ls b) → IsLogged v ls' bs
  logged_same v ls ls' bs h same b = subst (λ (es : List Entry). Fits1 (role v b) (has_at bs b) es) (sym (same b)) (h b)

  pub logged_let_go : (v : Known T) (k : ℕ) (before : List Entry) (ls : List Log) (bs : List Bool) → IsLogged v ls bs → IsLogged (let_go k before v) ls bs
  logged_let_go v k before ls bs h = h

  pub logged_added : (v : Known T) (k : ℕ) (log : List (List Entry × Entry)) (before : List Entry) (e : Entry) (o : _) (ls ls' : List Log) (bs : List Bool) → IsLogged v ls bs → role v e.agent.0 ≡ Has log → length v.roles ≡ agents → e.agent.0 < agents → e.object ≡ Object o
      → items_at ls' e.agent.0 ≡ items_at ls e.agent.0 ++ e ∷ [] → ((b : ℕ) → b ≢ e.agent.0 → items_at ls' b ≡ items_at ls b) → IsLogged (added k log before e v) ls' bs
  logged_added v k log before e o ls ls' bs h has wide near on here others b = let a : ℕ = e.agent.0 in let q : Role = Has (log ++ (before, e) ∷ []) in let w : Known T = added k log before e v in dite (ℕ_discrete b a)
      (λ is. let role_a : role w a ≡ q = get_or-set_same v.roles a q Absent (subst (λ (n : ℕ). a < n) (sym wide) near) in let old = h a in
      let t : Fits1 q (has_at bs a) (items_at ls' a) = (
        old.0 ∙ ap is_mine has,
        ap on_objects here ∙ (filter-append (λ (u : Entry). is_object u.object) (items_at ls a) (e ∷ []) ∙ ((λ i. (old.1 ∙ ap entries_in has) i ++ one_in (λ (u : Entry). is_object u.object) e (ap is_object on) i) ∙ sym (map-append (λ (p : List Entry × Entry). p.1) log ((before, e) ∷ [])))),
        refl,
      ) in subst (λ (j : ℕ). Fits1 (role w j) (has_at bs j) (items_at ls' j)) (sym is) (subst (λ (r : Role). Fits1 r (has_at bs a) (items_at ls' a)) (sym role_a) t))
      (λ apart. let role_b : role w b ≡ role v b = get_or-set_other v.roles a b q Absent apart in
      subst (λ (z : Role × List Entry). Fits1 z.0 (has_at bs b) z.1) (λ i. (sym role_b i, sym (others b apart) i)) (h b))

  pub logged_own : (v : Known T) (log : List (List Entry × Entry)) (e : Entry) (ls ls' : List Log) (bs : List Bool) → IsLogged v ls bs → role v e.agent.0 ≡ Has log → e.object ≡ Own
      → items_at ls' e.agent.0 ≡ items_at ls e.agent.0 ++ e ∷ [] → ((b : ℕ) → b ≢ e.agent.0 → items_at ls' b ≡ items_at ls b) → IsLogged v ls' bs
  logged_own v log e ls ls' bs h has own here others b = let a : ℕ = e.agent.0 in dite (ℕ_discrete b a)
      (λ is. let old = h a in
      let t : Fits1 (Has log) (has_at bs a) (items_at ls' a) = (
        old.0 ∙ ap is_mine has,
        ap on_objects here ∙ (filter-append (λ (u : Entry). is_object u.object) (items_at ls a) (e ∷ []) ∙ ((λ i. (old.1 ∙ ap entries_in has) i ++ one_out (λ (u : Entry). is_object u.object) e (ap is_object own) i) ∙ append-nil (entries_of log))),
        refl,
      ) in subst (λ (j : ℕ). Fits1 (role v j) (has_at bs j) (items_at ls' j)) (sym is) (subst (λ (r : Role). Fits1 r (has_at bs a) (items_at ls' a)) (sym has) t))
      (λ apart. subst (λ (es : List Entry). Fits1 (role v b) (has_at bs b) es) (sym (others b apart)) (h b))

  pub logged_gave : (v : Known T) (a : ℕ) (ls : List Log) (bs bs' : List Bool) → IsLogged v ls bs → role v a ≡ Spare → length v.roles ≡ agents → a < agents → has_at bs' a ≡ false → ((b : ℕ) → b ≢ a → has_at bs' b ≡ has_at bs b) → IsLogged (gave a v) ls bs'
  logged_gave v a ls bs bs' h spare wide near off others b = let w : Known T = gave a v in dite (ℕ_discrete b a)
      (λ is. let role_a : role w a ≡ Absent = get_or-set_same v.roles a Absent Absent (subst (λ (n : ℕ). a < n) (sym wide) near) in let old = subst (λ (r : Role). Fits1 r (has_at bs a) (items_at ls a)) spare (h a) in
      subst (λ (j : ℕ). Fits1 (role w j) (has_at bs' j) (items_at ls j)) (sym is) (subst (λ (r : Role). Fits1 r (has_at bs' a) (items_at ls a)) (sym role_a) (off, old.1, old.2)))
      (λ apart. let role_b : role w b ≡ role v b = get_or-set_other v.roles a b Absent Absent apart in
      subst (λ (z : Role × Bool). Fits1 z.0 z.1 (items_at ls b)) (λ i. (sym role_b i, sym (others b apart) i)) (h b))

  pub logged_given : (v : Known T) (a : ℕ) (ls : List Log) (bs : List Bool) → a < agents → ((b : ℕ) → items_at ls b ≡ []) → has_at bs a ≡ true → ((b : ℕ) → b ≢ a → has_at bs b ≡ false) → IsLogged (given a v) ls bs
  logged_given v a ls bs near bare on others b = let w : Known T = given a v in dite (ℕ_discrete b a)
      (λ is. let role_a : role w a ≡ Has [] = get_or-set_same (replicate agents Absent) a (Has []) Absent (subst (λ (n : ℕ). a < n) (sym (length-replicate agents Absent)) near) in
      subst (λ (j : ℕ). Fits1 (role w j) (has_at bs j) (items_at ls j)) (sym is) (subst (λ (r : Role). Fits1 r (has_at bs a) (items_at ls a)) (sym role_a) (on, ap on_objects (bare a), refl)))
      (λ apart. let role_b : role w b ≡ Absent = get_or-set_other (replicate agents Absent) a b (Has []) Absent apart ∙ blank agents Absent b in
      subst (λ (r : Role). Fits1 r (has_at bs b) (items_at ls b)) (sym role_b) (others b apart, ap on_objects (bare b), bare b))

  pub logged_joined : (v u : Known T) (ls ms ls' : List Log) (bs cs bs' : List Bool) → IsLogged v ls bs → IsLogged u ms cs → ((a : ℕ) → items_at ls' a ≡ cond (has_at bs a) (items_at ls a) (items_at ms a)) → ((a : ℕ) → has_at bs' a ≡ cond (has_at bs a) true (has_at cs a))
      → IsLogged (joined v u) ls' bs'
  logged_joined v u ls ms ls' bs cs bs' h g items has a =
      subst (λ (z : Role × Bool × List Entry). Fits1 z.0 z.1 z.2) (λ i. (sym (role_merge v.roles u.roles a) i, sym (has a) i, sym (items a) i)) (fits_merged (role v a) (role u a) (has_at bs a) (has_at cs a) (items_at ls a) (items_at ms a) (h a) (g a))

  pub logged_first : (xs : List T) (ls : List Log) (bs : List Bool) → length bs ≡ agents → ((a : ℕ) → (a < agents → has_at bs a ≡ true) × (items_at ls a ≡ [])) → IsLogged (first xs) ls bs
  logged_first xs ls bs wide h a = dite (dec_lt a)
      (λ near. subst (λ (r : Role). Fits1 r (has_at bs a) (items_at ls a)) (sym (same_or agents Spare Absent a near)) ((h a).0 near, ap on_objects (h a).1, (h a).1))
      (λ far. subst (λ (r : Role). Fits1 r (has_at bs a) (items_at ls a)) (sym (beyond (replicate agents Spare) a Absent (subst (λ (n : ℕ). n ≤ a) (sym (length-replicate agents Spare)) (omega arith)))) (has_beyond bs a (omega arith), ap on_objects (h a).1, (h a).1))
    where
      dec_lt : (i : ℕ) → Dec (i < agents)
      dec_lt i = dec_le (suc i) agents

-- the number that a pass notes stays one that it has
pub numbered_at : (bs bs' : List Bool) (k k' : ℕ) → bs' ≡ bs → k' ≡ k → has_at bs k ≡ true → has_at bs' k' ≡ true
numbered_at bs bs' k k' e f h = subst (λ (z : List Bool × ℕ). has_at z.0 z.1 ≡ true) (λ i. (sym e i, sym f i)) h

pub numbered_joined : (bs cs bs' : List Bool) (k k' : ℕ) → ((a : ℕ) → has_at bs' a ≡ cond (has_at bs a) true (has_at cs a)) → k' ≡ k → has_at bs k ≡ true → has_at bs' k' ≡ true
numbered_joined bs cs bs' k k' has f h = subst (λ (n : ℕ). has_at bs' n ≡ true) (sym f) (has k ∙ at_true (has_at bs k) true (has_at cs k) h)

-- a role is absent exactly where the flag is off
pub is_mine_true : (q : Role) → IsMine q → is_mine q ≡ true
is_mine_true Absent m = absurd m
is_mine_true Spare m = refl
is_mine_true (Has log) m = refl

pub has_mine : {T : Type 0} (v : Known T) (ls : List Log) (bs : List Bool) (a : ℕ) → IsLogged v ls bs → IsMine (role v a) → has_at bs a ≡ true
has_mine v ls bs a h mine = (h a).0 ∙ is_mine_true (role v a) mine

-- the number that a pass notes is the only one
pub only_is : {T : Type 0} (v : Known T) (ls : List Log) (bs : List Bool) (k a : ℕ) → IsLogged v ls bs → has_at bs k ≡ true → IsOnly v a → k ≡ a
only_is v ls bs k a h on only = dite (ℕ_discrete k a)
    (λ e. e)
    (λ n. let off : true ≡ false = sym on ∙ ((h k).0 ∙ ap is_mine (only k n)) in absurd (cc))
