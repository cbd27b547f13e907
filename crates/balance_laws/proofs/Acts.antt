-- What an act makes of the parts of a world.
use Rattle.std.proofs.Common.{◌≡◌, ◌⊎◌, inl, inr, ℕ, ◌-◌, ◌<◌, ◌≤◌, Bool, true, false, cond, ◌==◌, nat_lt, refl, sym, ap, ◌∙◌, arith}
use Rattle.std.specs.Prelude.{Option, None, Some, option_map, if◌then◌else◌}
use Rattle.std.proofs.lemmas.Bool.{cases_eq, eqb-true, eqb-false, eq-eqb, ne_eqb}
use Rattle.std.proofs.lemmas.Bool.Decides.{nat_tests}
use Rattle.ho_base.specs.Objects.{pool_no, registry_no, session_no, file_no}
use Rattle.ho_base.specs.declared.limits.TheConstants.{FILES}
use Rattle.ho_events.specs.File.{FileState, file_step}
use Rattle.ho_events.specs.Pool.{PoolState, pool_step}
use Rattle.ho_events.specs.Registry.{RegistryState, registry_step}
use Rattle.ho_events.specs.Session.{SessionState, session_step}
use Rattle.ho_events.specs.declared.event.Event.{Event}
use Rattle.ho_events.specs.declared.reply.Reply.{Reply}
use Rattle.ho_world.specs.Balance.{SLOTS}
use Rattle.ho_world.specs.World.{State, PoolIn, RegistryIn, SessionIn, FileIn, World, step}
use Rattle.balance_laws.specs.Acted.{changed}
use Rattle.balance_laws.specs.Parts.{Parts, state_at}
use Rattle.balance_laws.proofs.Base.{same_value, not_some, at_session, at_file, at_past}

-- a function with another value at one number
abbrev pub set_at : {T : Type 0} → ℕ → T → (ℕ → T) → ℕ → T
set_at k v f n = (if n == k then v else f n)

pub set_same : {T : Type 0} (k : ℕ) (v : T) (f : ℕ → T) (n : ℕ) → n ≡ k → set_at k v f n ≡ v
set_same k v f n e = ap (λ b. cond b v (f n)) (eq-eqb n k e)

pub set_other : {T : Type 0} (k : ℕ) (v : T) (f : ℕ → T) (n : ℕ) → (n ≡ k → ⊥) → set_at k v f n ≡ f n
set_other k v f n e = ap (λ b. cond b v (f n)) (ne_eqb n k e)

-- what is seen of values, where one is set that is seen as the one before
pub seen_same : {T X : Type 0} (g : T → X) (k : ℕ) (v : T) (f : ℕ → T) → g v ≡ g (f k) → (n : ℕ) → g (set_at k v f n) ≡ g (f n)
seen_same g k v f same n = by_case (cases_eq n k)
  where
    by_case : (n ≡ k) ⊎ (n ≡ k → ⊥) → g (set_at k v f n) ≡ g (f n)
    by_case (inl e) = ap g (set_same k v f n e) ∙ same ∙ ap (λ i. g (f i)) (sym e)
    by_case (inr e) = ap g (set_other k v f n e)

-- the objects of a world are in the states of these parts
abbrev pub IsOf : World → Parts → Type 0
IsOf w x = (o : ℕ) → w.at o ≡ state_at x o

-- what comes out of a part
pub came : {S : Type 0} (into : S → State) (o : Option S) (t : State) → option_map into o ≡ Some t → (x : S) × (o ≡ Some x) × (t ≡ into x)
came into None t e = absurd (not_some t e)
came into (Some x) t e = (x, refl, sym (same_value (into x) t e))

module _ (w : World) (x : Parts) (is : IsOf w x) where
  -- a world with another state at one object is as other parts say, which differ there alone
  changed_is : (y : Parts) (n : ℕ) (t : State) → t ≡ state_at y n → ((o : ℕ) → (o ≡ n → ⊥) → state_at x o ≡ state_at y o) → IsOf (changed w n t) y
  changed_is y n t here others o = by_test (o == n) refl
    where
      by_test : (b : Bool) → (o == n) ≡ b → cond (o == n) t (w.at o) ≡ state_at y o
      by_test true e = ap (λ b. cond b t (w.at o)) e ∙ here ∙ ap (state_at y) (sym (eqb-true o n e))
      by_test false e = ap (λ b. cond b t (w.at o)) e ∙ is o ∙ others o (eqb-false o n e)

  pub pool_act : (e : Event) (r : Reply) (t : State) → step (w.at pool_no) e r ≡ Some t
      → (p : PoolState) × (pool_step x.pool e r ≡ Some p) × IsOf (changed w pool_no t) (record x { pool = p })
  pool_act e r t h =
      let c : (p : PoolState) × (pool_step x.pool e r ≡ Some p) × (t ≡ PoolIn p) = came PoolIn _ t (ap (λ s. step s e r) (sym (is pool_no)) ∙ h) in
      (c.0, c.1, changed_is (record x { pool = c.0 }) pool_no t c.2 (λ o ne. other o c.0 ne))
    where
      other : (o : ℕ) (p : PoolState) → (o ≡ 0 → ⊥) → state_at x o ≡ state_at (record x { pool = p }) o
      other o p ne = let no : (o == 0) ≡ false = ne_eqb o 0 ne in rw no refl

  pub registry_act : (e : Event) (r : Reply) (t : State) → step (w.at registry_no) e r ≡ Some t
      → (g : RegistryState) × (registry_step x.registry e r ≡ Some g) × IsOf (changed w registry_no t) (record x { registry = g })
  registry_act e r t h =
      let c : (g : RegistryState) × (registry_step x.registry e r ≡ Some g) × (t ≡ RegistryIn g) = came RegistryIn _ t (ap (λ s. step s e r) (sym (is registry_no)) ∙ h) in
      (c.0, c.1, changed_is (record x { registry = c.0 }) registry_no t c.2 (λ o ne. other o c.0 ne))
    where
      other : (o : ℕ) (g : RegistryState) → (o ≡ 1 → ⊥) → state_at x o ≡ state_at (record x { registry = g }) o
      other o g ne = let no : (o == 1) ≡ false = ne_eqb o 1 ne in rw no refl

  no_step : (n : ℕ) (e : Event) (r : Reply) (t : State) → ((f : Option FileState) → file_step f e r ≡ None) → file_no 0 ≤ n → step (state_at x n) e r ≡ Some t → ⊥
  no_step n e r t none above h = by_order (nat_lt n (file_no FILES)) refl
    where
      by_order : (b : Bool) → nat_lt n (file_no FILES) ≡ b → ⊥
      by_order true lt =
          let less : n < file_no FILES = grind (arith, nat_tests, lt) in
          not_some t (sym (ap (λ s. step s e r) (at_file x n above less) ∙ ap (option_map FileIn) (none (x.files (n - file_no 0)))) ∙ h)
      by_order false lt =
          let more : file_no FILES ≤ n = grind (arith, nat_tests, lt) in
          not_some t (sym (ap (λ s. step s e r) (at_past x n more)) ∙ h)

  pub session_act : (s : ℕ) (e : Event) (r : Reply) (t : State) → ((f : Option FileState) → file_step f e r ≡ None) → step (w.at (session_no s)) e r ≡ Some t
      → (v : SessionState) × (s < SLOTS) × (session_step (x.sessions s) e r ≡ Some v) × IsOf (changed w (session_no s) t) (record x { sessions = set_at s v x.sessions })
  session_act s e r t none h = by_order (nat_lt s SLOTS) refl
    where
      moved : step (state_at x (session_no s)) e r ≡ Some t
      moved = ap (λ s. step s e r) (sym (is (session_no s))) ∙ h

      other : (v : SessionState) (o : ℕ) → (o ≡ session_no s → ⊥) → state_at x o ≡ state_at (record x { sessions = set_at s v x.sessions }) o
      other v o ne = grind (arith, nat_tests, ne)

      by_order : (b : Bool) → nat_lt s SLOTS ≡ b
          → (v : SessionState) × (s < SLOTS) × (session_step (x.sessions s) e r ≡ Some v) × IsOf (changed w (session_no s) t) (record x { sessions = set_at s v x.sessions })
      by_order true lt =
          let less : s < SLOTS = grind (arith, nat_tests, lt) in
          let same : session_no s - session_no 0 ≡ s = omega arith in
          let c : (v : SessionState) × (session_step (x.sessions s) e r ≡ Some v) × (t ≡ SessionIn v) =
          came SessionIn _ t (ap (λ s. step s e r) (sym (at_session x (session_no s) (omega arith) (omega (arith, less)) ∙ ap (λ i. SessionIn (x.sessions i)) same)) ∙ moved) in (
            c.0,
            less,
            c.1,
            changed_is (record x { sessions = set_at s c.0 x.sessions }) (session_no s) t
                (c.2 ∙ sym (at_session (record x { sessions = set_at s c.0 x.sessions }) (session_no s) (omega arith) (omega (arith, less)) ∙ ap SessionIn (set_same s c.0 x.sessions _ same)))
                (other c.0),
          )
      by_order false lt =
          let more : SLOTS ≤ s = grind (arith, nat_tests, lt) in
          absurd (no_step (session_no s) e r t none (omega (arith, more)) moved)

  pub file_act : (f : ℕ) (e : Event) (r : Reply) (t : State) → step (w.at (file_no f)) e r ≡ Some t
      → (v : Option FileState) × (f < FILES) × (file_step (x.files f) e r ≡ Some v) × IsOf (changed w (file_no f) t) (record x { files = set_at f v x.files })
  file_act f e r t h = by_order (nat_lt f FILES) refl
    where
      moved : step (state_at x (file_no f)) e r ≡ Some t
      moved = ap (λ s. step s e r) (sym (is (file_no f))) ∙ h

      other : (v : Option FileState) (o : ℕ) → (o ≡ file_no f → ⊥) → state_at x o ≡ state_at (record x { files = set_at f v x.files }) o
      other v o ne = grind (arith, nat_tests, ne)

      by_order : (b : Bool) → nat_lt f FILES ≡ b
          → (v : Option FileState) × (f < FILES) × (file_step (x.files f) e r ≡ Some v) × IsOf (changed w (file_no f) t) (record x { files = set_at f v x.files })
      by_order true lt =
          let less : f < FILES = grind (arith, nat_tests, lt) in
          let same : file_no f - file_no 0 ≡ f = omega arith in
          let c : (v : Option FileState) × (file_step (x.files f) e r ≡ Some v) × (t ≡ FileIn v) =
          came FileIn _ t (ap (λ s. step s e r) (sym (at_file x (file_no f) (omega arith) (omega (arith, less)) ∙ ap (λ i. FileIn (x.files i)) same)) ∙ moved) in (
            c.0,
            less,
            c.1,
            changed_is (record x { files = set_at f c.0 x.files }) (file_no f) t
                (c.2 ∙ sym (at_file (record x { files = set_at f c.0 x.files }) (file_no f) (omega arith) (omega (arith, less)) ∙ ap FileIn (set_same f c.0 x.files _ same)))
                (other c.0),
          )
      by_order false lt =
          let more : FILES ≤ f = grind (arith, nat_tests, lt) in
          absurd (not_some t (sym (ap (λ s. step s e r) (at_past x (file_no f) (omega (arith, more)))) ∙ moved))
