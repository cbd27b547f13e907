-- A pass stays sound.
use Rattle.std.proofs.Common.{◌≡◌, ◌≢◌, ℕ, zero, suc, ◌<◌, List, [], ◌∷◌, ◌++◌, length, get_or, set, replicate, sym, refl, ap, ◌∙◌, subst, arith, Option, Some, None, length-set, get_or-set_same, get_or-set_other}
use Rattle.std.proofs.lemmas.List.{length-replicate}
use Rattle.atomic_table.specs.Table.{Me, rest}
use Rattle.ho_events.specs.declared.entry.Entry.{Entry}
use Rattle.turns_table.specs.Slots.{pulled, one_if, IsOutFor, IsSound}
use Rattle.turns_table.specs.Views.{IsMine, merge, first, role, holds, HasNumber, agents, took, missed_one, added, let_go, gave, given, joined}
use Rattle.turns_table.specs.declared.rule.Known.{Known}
use Rattle.turns_table.specs.declared.rule.Role.{Role}
use Rattle.turns_table.specs.declared.rule.Role.TheVariants.{Absent, Spare, Has}
use Rattle.turns_table.proofs.Outs.{brings, goes_out}
use Rattle.turns_table.proofs.Numbers.{counts, has_number}
use Rattle.turns_table.proofs.Opens.{same_or, agents_is}
use Rattle.turns_table.proofs.Splits.{blank, role_merge, length-merge, mine_left}

module _ {T : Type 0} where
  -- who holds an object has room for it
  held_near : (l : List (Option T)) (k : ℕ) (x : T) → get_or l k None ≡ Some x → k < length l
  held_near [] k x e = absurd (cc)
  held_near (y ∷ ys) zero x e = omega arith
  held_near (y ∷ ys) (suc k) x e = omega (arith, held_near ys k x e)

  pub in_range : (n : ℕ) (m : Me (Option T) (Known T)) (k : ℕ) (x : T) → IsSound n m → holds m.0 k ≡ Some x → k < n
  in_range n m k x sound holding = subst (λ (l : ℕ). k < l) sound.2 (held_near m.0.held k x holding)

  pub number_of : (n : ℕ) (m : Me (Option T) (Known T)) → IsSound n m → HasNumber m.0
  number_of n m sound = has_number m.0 sound.1 sound.4

  -- the slot k has been brought to the front, and filled
  pub handed : (n : ℕ) (m m1 m2 : Me (Option T) (Known T)) (k : ℕ) (x y : T) → IsSound n m → holds m.0 k ≡ Some x → ◌≡◌ {A = Me (Option T) (Known T)} m1 (m.0, pulled k [] m.1)
      → (ds : List (ℕ × Option T)) × (m1.1 ≡ (k, None) ∷ rest m1.1) × IsOutFor (set m.0.held k None) ds × (◌≡◌ {A = Me (Option T) (Known T)} m2 (m1.0, (k, Some y) ∷ rest m1.1) → ◌≡◌ {A = Me (Option T) (Known T)} m2 (m.0, (k, Some y) ∷ ds))
  handed n m m1 m2 k x y sound holding e1 = let b = brings m.0.held m.1 k x sound.0 holding in let bare : m1.1 ≡ (k, None) ∷ b.0 = ap (λ (z : Me (Option T) (Known T)). z.1) e1 ∙ b.1 in (
    b.0,
    bare ∙ ap (λ (l : List (ℕ × Option T)). (k, None) ∷ rest l) (sym bare),
    b.2 (held_near m.0.held k x holding),
    λ e2. e2 ∙ (λ i. (ap (λ (z : Me (Option T) (Known T)). z.0) e1 i, (k, Some y) ∷ rest (bare i))),
  )

  pub sound_took : (n : ℕ) (m : Me (Option T) (Known T)) (k : ℕ) (x : T) → IsSound n m → holds m.0 k ≡ None → k < n → IsSound n (took k x m.0, (k, None) ∷ m.1)
  sound_took n m k x sound free near = (goes_out m.0.held m.1 k x sound.0 free (subst (λ (l : ℕ). k < l) (sym sound.2) near), sound.1, length-set m.0.held k (Some x) ∙ sound.2, sound.3, sound.4)

  pub sound_missed : (n : ℕ) (m : Me (Option T) (Known T)) (k : ℕ) → IsSound n m → IsSound n (missed_one k m.0, m.1)
  sound_missed n m k sound = sound

  pub sound_added : (n : ℕ) (m : Me (Option T) (Known T)) (k : ℕ) (log : List (List Entry × Entry)) (before : List Entry) (e : Entry) (ds : List (ℕ × Option T)) → IsSound n m → IsOutFor (set m.0.held k None) ds → e.agent.0 < agents
      → IsSound n (added k log before e m.0, ds)
  sound_added n m k log before e ds sound out near = let q : Role = Has (log ++ (before, e) ∷ []) in (
    out,
    length-set m.0.roles e.agent.0 q ∙ sound.1,
    length-set m.0.held k None ∙ sound.2,
    sound.3,
    counts (set m.0.roles e.agent.0 q) e.agent.0 (subst IsMine (sym (get_or-set_same m.0.roles e.agent.0 q Absent (subst (λ (l : ℕ). e.agent.0 < l) (sym sound.1) near))) tt),
  )

  pub sound_let_go : (n : ℕ) (m : Me (Option T) (Known T)) (k : ℕ) (before : List Entry) (ds : List (ℕ × Option T)) → IsSound n m → IsOutFor (set m.0.held k None) ds → IsSound n (let_go k before m.0, ds)
  sound_let_go n m k before ds sound out = (out, sound.1, length-set m.0.held k None ∙ sound.2, sound.3, sound.4)

  pub front_is : (k : ℕ) (a b : Option T) (cs ds : List (ℕ × Option T)) → ◌≡◌ {A = List (ℕ × Option T)} ((k, a) ∷ cs) ((k, b) ∷ ds) → b ≡ a
  front_is k a b cs ds e = let p : ◌≡◌ {A = ℕ × Option T} (k, a) (k, b) = cc in sym (ap (λ (u : ℕ × Option T). u.1) p)

  pub front : (m m2 : Me (Option T) (Known T)) (k : ℕ) (y : T) (ds : List (ℕ × Option T)) → ◌≡◌ {A = Me (Option T) (Known T)} m2 (m.0, (k, Some y) ∷ ds) → m2.1 ≡ (k, Some y) ∷ rest m2.1
  front m m2 k y ds e = let bare : m2.1 ≡ (k, Some y) ∷ ds = ap (λ (z : Me (Option T) (Known T)). z.1) e in bare ∙ ap (λ (l : List (ℕ × Option T)). (k, Some y) ∷ rest l) (sym bare)

  -- what the last step made of the view
  pub finished : (f : Known T → Known T) (m m2 n : Me (Option T) (Known T)) (k : ℕ) (y : T) (ds : List (ℕ × Option T)) → ◌≡◌ {A = Me (Option T) (Known T)} m2 (m.0, (k, Some y) ∷ ds) → ◌≡◌ {A = Me (Option T) (Known T)} n (f m2.0, rest m2.1)
      → ◌≡◌ {A = Me (Option T) (Known T)} n (f m.0, ds)
  finished f m m2 n k y ds e last = last ∙ (λ i. (f (ap (λ (z : Me (Option T) (Known T)). z.0) e i), rest (ap (λ (z : Me (Option T) (Known T)). z.1) e i)))

  pub sound_at : (n n' : ℕ) (m m' : Me (Option T) (Known T)) → n' ≡ n → ◌≡◌ {A = Me (Option T) (Known T)} m' m → IsSound n m → IsSound n' m'
  sound_at n n' m m' e f sound = subst (λ (z : ℕ × Me (Option T) (Known T)). IsSound z.0 z.1) (λ i. (sym e i, sym f i)) sound

  pub sound_gave : (n : ℕ) (m : Me (Option T) (Known T)) (a b : ℕ) → IsSound n m → b ≢ a → IsMine (role m.0 b) → IsSound n (gave a m.0, m.1)
  sound_gave n m a b sound apart mine = (sound.0, length-set m.0.roles a Absent ∙ sound.1, sound.2, sound.3, counts (set m.0.roles a Absent) b (subst IsMine (sym (get_or-set_other m.0.roles a b Absent Absent apart)) mine))

  pub sound_given : (n : ℕ) (m : Me (Option T) (Known T)) (a : ℕ) → IsSound n m → a < agents → IsSound n (given a m.0, [])
  sound_given n m a sound near = (
    (refl, λ k. ap (one_if {T = T}) (sym (blank (length m.0.opening) None k))),
    length-set (replicate agents Absent) a (Has []) ∙ length-replicate agents Absent,
    length-replicate (length m.0.opening) None ∙ sound.3,
    sound.3,
    counts (set (replicate agents Absent) a (Has [])) a (subst IsMine (sym (get_or-set_same (replicate agents Absent) a (Has []) Absent (subst (λ (l : ℕ). a < l) (sym (length-replicate agents Absent)) near))) tt),
  )

  pub sound_joined : (n k : ℕ) (m u : Me (Option T) (Known T)) → IsSound n m → IsSound k u → IsSound n (joined m.0 u.0, m.1)
  sound_joined n k m u sound sound_u = let number = number_of n m sound in (
    sound.0,
    length-merge m.0.roles u.0.roles (sound.1 ∙ sym sound_u.1) ∙ sound_u.1,
    sound.2,
    sound.3,
    counts (merge m.0.roles u.0.roles) number.0 (subst IsMine (sym (role_merge m.0.roles u.0.roles number.0)) (mine_left (role m.0 number.0) (role u.0 number.0) number.2)),
  )

  pub sound_first : (xs : List T) → IsSound (length xs) (first xs, [])
  sound_first xs = (
    (refl, λ k. ap (one_if {T = T}) (sym (blank (length xs) None k))),
    length-replicate agents Spare,
    length-replicate (length xs) None,
    refl,
    counts (replicate agents Spare) 0 (subst IsMine (sym (same_or agents Spare Absent 0 (let n = agents_is in omega arith))) tt),
  )

  pub wide_of : (n : ℕ) (m : Me (Option T) (Known T)) → IsSound n m → length m.0.roles ≡ agents
  wide_of n m sound = sound.1

  pub took_holds : (n : ℕ) (m : Me (Option T) (Known T)) (k : ℕ) (x : T) → IsSound n m → k < n → holds (took k x m.0) k ≡ Some x
  took_holds n m k x sound near = get_or-set_same m.0.held k (Some x) None (subst (λ (l : ℕ). k < l) (sym sound.2) near)

  pub none_there : (l : List (Option T)) (k : ℕ) → get_or (set l k None) k None ≡ None
  none_there [] k = refl
  none_there (x ∷ xs) zero = refl
  none_there (x ∷ xs) (suc k) = none_there xs k

  pub added_role : (n : ℕ) (m : Me (Option T) (Known T)) (k : ℕ) (log : List (List Entry × Entry)) (before : List Entry) (e : Entry) → IsSound n m → e.agent.0 < agents → role (added k log before e m.0) e.agent.0 ≡ Has (log ++ (before, e) ∷ [])
  added_role n m k log before e sound near = get_or-set_same m.0.roles e.agent.0 (Has (log ++ (before, e) ∷ [])) Absent (subst (λ (l : ℕ). e.agent.0 < l) (sym sound.1) near)
