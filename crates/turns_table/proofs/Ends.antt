-- An end keeps the rule.
use Rattle.std.proofs.Common.{◌≡◌, ◌≢◌, ℕ, ◌+◌, ◌-◌, ◌*◌, ◌%◌, ◌^◌, ◌<◌, List, [], ◌∷◌, ◌++◌, length, map, get_or, set, sym, refl, ap, ◌∙◌, subst, arith, true, false, Option, Some, None, length-set, get_or-set_same, get_or-set_other, append_assoc, length-append, eq-eqb, ne_eqb, ⊎_elim}
use Rattle.std.proofs.lemmas.List.{append-nil, map-append}
use mathlib.Core.Logic.{dite}
use mathlib.Core.Option.{some, none}
use native.Mathlib.Decide.{ℕ_discrete}
use lib.ListN.{get_elem?}
use Rattle.atomic_table.specs.Table.{State, Me, step, gives, Allows}
use Rattle.atomic_table.proofs.Lists.{set_here, set_else, at_map, at_snoc}
use Rattle.ho_events.specs.declared.entry.Entry.{Entry}
use Rattle.ho_events.specs.declared.entry.Place.TheVariants.{Object}
use Rattle.turns_table.specs.Logs.{is_on, entries_of, StartsWith}
use Rattle.turns_table.specs.Views.{IsMine, role, holds, agents, added, let_go}
use Rattle.turns_table.specs.Rule.{Ruled, Knows, Backs, IsGrown, IsKept}
use Rattle.turns_table.specs.Plays.{entered, released}
use Rattle.turns_table.specs.declared.rule.Known.{Known}
use Rattle.turns_table.specs.declared.rule.Role.{Role}
use Rattle.turns_table.specs.declared.rule.Role.TheVariants.{Absent, Spare, Has}
use Rattle.turns_table.proofs.Lists.{there, same_at, each_set, keep_some, set_same, map_set, map_same, snoc_injective}
use Rattle.turns_table.proofs.Adds.{later, with_entry, log_here, log_else, shares_it, shares_not}

module _ {T S : Type 0} (start : T → S) (history : T → List Entry) (balanced : List S → List (List Entry) → List (List Entry) → Type 0) (opening : List T) where
  abbrev St : Type 0
  St = State (Option T) (Known T)

  abbrev M : Type 0
  M = Me (Option T) (Known T)

  abbrev R : St → Type 0
  R s = Ruled start history balanced opening s

  -- what stands beside an entry still begins the object's history
  stays : (nows : List T) (k : ℕ) (x y : T) → get_elem? nows k ≡ some x → StartsWith (history y) (history x) → (b : ℕ) (p : List Entry × Entry) → IsKept history nows b p → IsKept history (set nows k y) b p
  stays nows k x y is more b p t = (
    t.0,
    t.1,
    t.2,
    dite (ℕ_discrete t.0.0 k)
        (λ e. let same : t.3.0 ≡ x = same_at nows k t.3.0 x (subst (λ (j : ℕ). get_elem? nows j ≡ some t.3.0) e t.3.1) is in
        (y, subst (λ (j : ℕ). get_elem? (set nows k y) j ≡ some y) (sym e) (set_here nows k y (there nows k x is)), later (p.0 ++ p.1 ∷ []) (history x) (history y) (subst (λ (z : T). StartsWith (history z) (p.0 ++ p.1 ∷ [])) same t.3.2) more))
        (λ apart. (t.3.0, set_else nows k t.0.0 y apart ∙ t.3.1, t.3.2)),
  )

  -- a role whose log did not change
  backs_on : (nows : List T) (logs logs' : List (List Entry)) (who : ℕ → ℕ) (k : ℕ) (x y : T) → get_elem? nows k ≡ some x → StartsWith (history y) (history x) → (j b : ℕ) (q : Role) → get_or logs' b [] ≡ get_or logs b []
      → Backs history nows logs who j b q → Backs history (set nows k y) logs' who j b q
  backs_on nows logs logs' who k x y is more j b Absent same t = tt
  backs_on nows logs logs' who k x y is more j b Spare same t = (t.0, same ∙ t.1)
  backs_on nows logs logs' who k x y is more j b (Has log) same t = (t.0, same ∙ t.1, λ i p at. stays nows k x y is more b p (t.2 i p at))

  -- a role of a number that another seat has
  backs_none : (nows nows' : List T) (logs logs' : List (List Entry)) (who : ℕ → ℕ) (j b : ℕ) (q : Role) → who b ≢ j → Backs history nows logs who j b q → Backs history nows' logs' who j b q
  backs_none nows nows' logs logs' who j b Absent other t = tt
  backs_none nows nows' logs logs' who j b Spare other t = absurd (other t.0)
  backs_none nows nows' logs logs' who j b (Has log) other t = absurd (other t.0)

  -- the object k comes home as y, and the view becomes w
  returned : (s : St) (r : R s) (id : ℕ) (v w : Known T) (k : ℕ) (x y : T) (m : ℕ) (logs : List (List Entry)) → get_elem? s.views id ≡ some v → holds v k ≡ Some x
      → w.held ≡ set v.held k None → w.opening ≡ v.opening → length w.roles ≡ length v.roles → StartsWith (history y) (history x) → m % 2 ≡ 0 → m ≡ (2 * length (history y)) % 2 ^ 64 → length logs ≡ agents
      → ((i : ℕ) (o z : T) → get_elem? opening i ≡ some o → get_elem? (set r.nows k y) i ≡ some z → IsGrown start history logs i o z)
      → ((b : ℕ) → IsMine (role v b) → IsMine (role w b))
      → ((b : ℕ) → Backs history (set r.nows k y) logs r.who id b (role w b))
      → ((j : ℕ) (u : Known T) → j ≢ id → get_elem? s.views j ≡ some u → (b : ℕ) → Backs history (set r.nows k y) logs r.who j b (role u b))
      → balanced (map start (set r.nows k y)) (map history (set r.nows k y)) logs
      → R record { words = set s.words k m; homes = set s.homes k (some (Some y)); views = set s.views id w }
  returned s r id v w k x y m logs at holding held same_opening roles more even count many grown on backs others balance =
      let kn = r.seats id v at in let mine = kn.held k x holding in let number = mine.3 in let sized = kn.sized number in let is = mine.2 in let near = there r.nows k x is in let long = r.long in let wide = r.wide in let deep = r.deep in
      let words : List ℕ = set s.words k m in let nows : List T = set r.nows k y in
      let here : get_or words k 0 ≡ m = get_or-set_same s.words k m 0 (omega arith) in
      let here_i : (i : ℕ) → i ≡ k → get_or words i 0 ≡ m = λ i e. ap (λ (j : ℕ). get_or words j 0) e ∙ here in
      let else_ : (i : ℕ) → i ≢ k → get_or words i 0 ≡ get_or s.words i 0 = λ i apart. get_or-set_other s.words k i m 0 apart in
      let seen_i : (i b : ℕ) → i ≢ k → get_or words i 0 % 2 ≡ b → get_or s.words i 0 % 2 ≡ b = λ i b apart e. ap (λ (z : ℕ). z % 2) (sym (else_ i apart)) ∙ e in
      let the_y : (i : ℕ) (z : T) → i ≡ k → get_elem? nows i ≡ some z → z ≡ y = λ i z e at_i. set_same r.nows k y z near (subst (λ (j : ℕ). get_elem? nows j ≡ some z) e at_i) in
      let old_i : (i : ℕ) (z : T) → i ≢ k → get_elem? nows i ≡ some z → get_elem? r.nows i ≡ some z = λ i z apart at_i. sym (set_else r.nows k i y apart) ∙ at_i in
      let held_k : holds w k ≡ None = ap (λ (l : List (Option T)). get_or l k None) held ∙ get_or-set_same v.held k None None (omega arith) in
      let held_i : (i : ℕ) → i ≢ k → holds w i ≡ holds v i = λ i apart. ap (λ (l : List (Option T)). get_or l i None) held ∙ get_or-set_other v.held k i None None apart in
      record {
        nows = nows;
        owner = r.owner;
        who = r.who;
        logs = logs;
        wide = length-set s.words k m ∙ wide;
        deep = length-set s.homes k (some (Some y)) ∙ deep;
        long = length-set r.nows k y ∙ long;
        many = many;
        grown = grown;
        counted = λ i z at_i. dite (ℕ_discrete i k)
            (λ e. let w_is = here_i i e in let l_is = ap (λ (u : T). length (history u)) (the_y i z e at_i) in omega arith)
            (λ apart. subst (λ (c : ℕ). c ≡ (2 * length (history z) + c % 2) % 2 ^ 64) (sym (else_ i apart)) (r.counted i z (old_i i z apart at_i)));
        home = λ i z at_i even_i. dite (ℕ_discrete i k)
            (λ e. subst (λ (u : ℕ × T). get_elem? (set s.homes k (some (Some y))) u.0 ≡ some (some (Some u.1))) (λ j. (sym e j, sym (the_y i z e at_i) j)) (set_here s.homes k (some (Some y)) (omega arith)))
            (λ apart. set_else s.homes k i (some (Some y)) apart ∙ r.home i z (old_i i z apart at_i) (seen_i i 0 apart even_i));
        out = λ i z at_i odd_i. dite (ℕ_discrete i k)
            (λ e. let w_is = here_i i e in absurd (omega arith))
            (λ apart. keep_some (λ (u : Known T). holds u i ≡ Some z) s.views id (r.owner i) v w at (λ h. held_i i apart ∙ h) (r.out i z (old_i i z apart at_i) (seen_i i 1 apart odd_i)));
        seats = each_set (Knows history opening nows logs words r.owner r.who) s.views id w
            record {
              held = λ i z h. dite (ℕ_discrete i k)
                  (λ e. let none : None ≡ Some z = sym held_k ∙ (ap (λ (j : ℕ). holds w j) (sym e) ∙ h) in absurd (cc))
                  (λ apart. let t = kn.held i z (sym (held_i i apart) ∙ h) in let w_is = else_ i apart in let odd = t.0 in
                  (omega arith, t.1, set_else r.nows k i y apart ∙ t.2, (number.0, number.1, on number.0 number.2)));
              numbers = backs;
              sized = λ _. (same_opening ∙ sized.0, ap (λ (l : List (Option T)). length l) held ∙ (length-set v.held k None ∙ sized.1), roles ∙ sized.2);
            }
            (λ j u apart_j at_j. let kj = r.seats j u at_j in record {
              held = λ i z h. let t = kj.held i z h in dite (ℕ_discrete i k)
                  (λ e. absurd (apart_j (sym t.1 ∙ (ap r.owner e ∙ mine.1))))
                  (λ apart. let w_is = else_ i apart in let odd = t.0 in (omega arith, t.1, set_else r.nows k i y apart ∙ t.2, t.3));
              numbers = others j u apart_j at_j;
              sized = kj.sized;
            });
        numbers = λ a lt. keep_some (λ (u : Known T). IsMine (role u a)) s.views id (r.who a) v w at (on a) (r.numbers a lt);
        balance = balance;
      }

  head_is : (k : ℕ) (y z : T) (cs ds : List (ℕ × Option T)) → ◌≡◌ {A = List (ℕ × Option T)} ((k, Some y) ∷ cs) ((k, Some z) ∷ ds) → y ≡ z
  head_is k y z cs ds e = let p : ◌≡◌ {A = ℕ × Option T} (k, Some y) (k, Some z) = cc in let q : Some y ≡ Some z = ap (λ (u : ℕ × Option T). u.1) p in cc

  on_is : (e : Entry) (o : _) (k : ℕ) → e.object ≡ Object o → o.0 ≡ k → is_on k e.object ≡ true
  on_is e o k on is = ap (is_on k) on ∙ eq-eqb o.0 k is

  off_is : (e : Entry) (o : _) (k i : ℕ) → e.object ≡ Object o → o.0 ≡ k → i ≢ k → is_on i e.object ≡ false
  off_is e o k i on is apart = ap (is_on i) on ∙ ne_eqb o.0 i (λ t. apart (sym t ∙ is))

  module _ (fits : List Entry → S → List Entry → Entry → Type 0)
      (keeps : (starts : List S) (histories logs : List (List Entry)) (k : ℕ) (at : S) (before : List Entry) (e : Entry) → balanced starts histories logs → get_elem? starts k ≡ some at → get_elem? histories k ≡ some before
      → (o : _) → e.object ≡ Object o → o.0 ≡ k → e.agent.0 < length logs → fits (get_or logs e.agent.0 []) at before e → balanced starts (set histories k (before ++ e ∷ [])) (with_entry logs e)) where
    -- the facts of an end with an entry
    abbrev pub Ending : Known T → ℕ → T → T → List (List Entry × Entry) → Entry → Type 0
    Ending v k x y log e = (holds v k ≡ Some x) × (start y ≡ start x) × (history y ≡ history x ++ e ∷ []) × ((o : _) × (e.object ≡ Object o) × (o.0 ≡ k)) × (role v e.agent.0 ≡ Has log) × (e.agent.0 < agents) × fits (entries_of log) (start x) (history x) e

    enters_it : (s : St) (r : R s) (id : ℕ) (v : Known T) (k : ℕ) (x y : T) (log : List (List Entry × Entry)) (e : Entry) (m : ℕ) → get_elem? s.views id ≡ some v → Ending v k x y log e → m ≡ (get_or s.words k 0 + 1) % 2 ^ 64
        → R record { words = set s.words k m; homes = set s.homes k (some (Some y)); views = set s.views id (added k log (history x) e v) }
    enters_it s r id v k x y log e m at g m_is =
        let a : ℕ = e.agent.0 in let w : Known T = added k log (history x) e v in let kn = r.seats id v at in let mine = kn.held k x g.0 in let odd = mine.0 in let is = mine.2 in let sized = kn.sized mine.3 in
        let more : StartsWith (history y) (history x) = (e ∷ [], g.2) in let count = r.counted k x is in let long_y : length (history y) ≡ length (history x) + 1 = ap (λ (l : List Entry). length l) g.2 ∙ length-append (history x) (e ∷ []) in
        let log' : List (List Entry × Entry) = log ++ (history x, e) ∷ [] in let near_a : a < length r.logs = subst (λ (n : ℕ). a < n) (sym r.many) g.5 in
        let backs_a : Backs history r.nows r.logs r.who id a (Has log) = subst (Backs history r.nows r.logs r.who id a) g.4 (kn.numbers a) in
        let role_a : role w a ≡ Has log' = get_or-set_same v.roles a (Has log') Absent (subst (λ (n : ℕ). a < n) (sym sized.2) g.5) in
        let role_b : (b : ℕ) → b ≢ a → role w b ≡ role v b = λ b apart. get_or-set_other v.roles a b (Has log') Absent apart in
        returned s r id v w k x y m (with_entry r.logs e) at g.0 refl refl (length-set v.roles a (Has log')) more (omega arith) (omega arith) (length-set r.logs a (get_or r.logs a [] ++ e ∷ []) ∙ r.many)
        (λ i o z at_o at_z. dite (ℕ_discrete i k)
        (λ t. let z_is : z ≡ y = set_same r.nows k y z (there r.nows k x is) (subst (λ (j : ℕ). get_elem? (set r.nows k y) j ≡ some z) t at_z) in let gr = r.grown k o x (subst (λ (j : ℕ). get_elem? opening j ≡ some o) t at_o) is in
        subst (λ (u : ℕ × T). IsGrown start history (with_entry r.logs e) u.0 o u.1) (λ j. (sym t j, sym z_is j)) record {
          same_start = g.1 ∙ gr.same_start;
          since = gr.since ++ e ∷ [];
          grown = g.2 ∙ (ap (λ (l : List Entry). l ++ e ∷ []) gr.grown ∙ append_assoc (history o) gr.since (e ∷ []));
          shared = shares_it r.logs e k gr.since near_a (on_is e g.3.0 k g.3.1 g.3.2) gr.shared;
        })
        (λ apart. let gr = r.grown i o z at_o (sym (set_else r.nows k i y apart) ∙ at_z) in record {
          same_start = gr.same_start;
          since = gr.since;
          grown = gr.grown;
          shared = shares_not r.logs e i gr.since near_a (off_is e g.3.0 k i g.3.1 g.3.2 apart) gr.shared;
        }))
        (λ b mine_b. dite (ℕ_discrete b a) (λ t. subst IsMine (sym (ap (role w) t ∙ role_a)) tt) (λ apart. subst IsMine (sym (role_b b apart)) mine_b))
        (λ b. dite (ℕ_discrete b a)
        (λ t. subst (λ (c : ℕ). Backs history (set r.nows k y) (with_entry r.logs e) r.who id c (role w c)) (sym t) (subst (Backs history (set r.nows k y) (with_entry r.logs e) r.who id a) (sym role_a) (
          backs_a.0,
          log_here r.logs e near_a ∙ (ap (λ (l : List Entry). l ++ e ∷ []) backs_a.1 ∙ sym (map-append (λ (p : List Entry × Entry). p.1) log ((history x, e) ∷ []))),
          λ i p at_p. ⊎_elim
              (λ (old : get_elem? log i ≡ some p). stays r.nows k x y is more a p (backs_a.2 i p old))
              (λ (same : ◌≡◌ {A = List Entry × Entry} (history x, e) p). subst (IsKept history (set r.nows k y) a) same
              (g.3.0, g.3.1, refl, (y, subst (λ (j : ℕ). get_elem? (set r.nows k y) j ≡ some y) (sym g.3.2) (set_here r.nows k y (there r.nows k x is)), ([], g.2 ∙ sym (append-nil (history x ++ e ∷ []))))))
              (at_snoc log (history x, e) p i at_p),
        )))
        (λ apart. subst (Backs history (set r.nows k y) (with_entry r.logs e) r.who id b) (sym (role_b b apart)) (backs_on r.nows r.logs (with_entry r.logs e) r.who k x y is more id b (role v b) (log_else r.logs e b apart) (kn.numbers b))))
        (λ j u apart_j at_j b. dite (ℕ_discrete b a)
        (λ t. backs_none r.nows (set r.nows k y) r.logs (with_entry r.logs e) r.who j b (role u b) (λ same. apart_j (sym same ∙ (ap r.who t ∙ backs_a.0))) ((r.seats j u at_j).numbers b))
        (λ apart. backs_on r.nows r.logs (with_entry r.logs e) r.who k x y is more j b (role u b) (log_else r.logs e b apart) ((r.seats j u at_j).numbers b)))
        (subst (λ (z : List S × List (List Entry)). balanced z.0 z.1 (with_entry r.logs e)) (λ j. (sym (map_same start r.nows k x y is g.1) j, sym (map_set history r.nows k y ∙ ap (set (map history r.nows) k) g.2) j))
        (keeps (map start r.nows) (map history r.nows) r.logs k (start x) (history x) e r.balance (at_map start r.nows k x is) (at_map history r.nows k x is) g.3.0 g.3.1 g.3.2 near_a (subst (λ (l : List Entry). fits l (start x) (history x) e) (sym backs_a.1) g.6)))

    pub enters : (slots id k : ℕ) (me : M) (v : Known T) (cs : List (ℕ × Option T)) (x y : T) (log : List (List Entry × Entry)) (e : Entry) → ◌≡◌ {A = M} me (v, (k, Some y) ∷ cs) → Ending v k x y log e
        → Allows (Ruled start history balanced opening) slots id me k (λ n. (n + 1) % 2 ^ 64) (entered start history balanced (step slots k 1 0 none) me)
    enters slots id k me v cs x y log e me_is g = subst (λ (z : M). Allows (Ruled start history balanced opening) slots id z k (λ n. (n + 1) % 2 ^ 64) (entered start history balanced (step slots k 1 0 none) z)) (sym me_is)
        (λ s r _ at _. (
          added k log (history x) e v,
          gives,
          tt,
          enters_it s r id v k x y log e ((get_or s.words k 0 + 1) % 2 ^ 64) at g refl,
          λ x' y' log' e' h c hy role'.
              let x_is : x ≡ x' = let q : Some x ≡ Some x' = sym g.0 ∙ h in cc in
              let y_is : y ≡ y' = head_is k y y' cs cs c in
              let e_is : e ≡ e' = snoc_injective (history x) e e' (sym g.2 ∙ (ap history y_is ∙ (hy ∙ ap (λ (z : T). history z ++ e' ∷ []) (sym x_is)))) in
              let log_is : log ≡ log' = let q : Has log ≡ Has log' = sym g.4 ∙ (ap (λ (u : Entry). role v u.agent.0) e_is ∙ role') in cc in
              λ j. (added k (log_is j) (history (x_is j)) (e_is j) v, cs),
        ))

  releases_it : (s : St) (r : R s) (id : ℕ) (v : Known T) (k : ℕ) (x y : T) (m : ℕ) → get_elem? s.views id ≡ some v → holds v k ≡ Some x → start y ≡ start x → history y ≡ history x → m ≡ (get_or s.words k 0 + (2 ^ 64 - 1)) % 2 ^ 64
      → R record { words = set s.words k m; homes = set s.homes k (some (Some y)); views = set s.views id (let_go k (history x) v) }
  releases_it s r id v k x y m at holding same_start same_history m_is =
      let w : Known T = let_go k (history x) v in let kn = r.seats id v at in let mine = kn.held k x holding in let odd = mine.0 in let is = mine.2 in
      let more : StartsWith (history y) (history x) = ([], same_history ∙ sym (append-nil (history x))) in let count = r.counted k x is in let long_y : length (history y) ≡ length (history x) = ap (λ (l : List Entry). length l) same_history in
      returned s r id v w k x y m r.logs at holding refl refl refl more (omega arith) (omega arith) r.many
      (λ i o z at_o at_z. dite (ℕ_discrete i k)
      (λ t. let z_is : z ≡ y = set_same r.nows k y z (there r.nows k x is) (subst (λ (j : ℕ). get_elem? (set r.nows k y) j ≡ some z) t at_z) in let gr = r.grown k o x (subst (λ (j : ℕ). get_elem? opening j ≡ some o) t at_o) is in
      subst (λ (u : ℕ × T). IsGrown start history r.logs u.0 o u.1) (λ j. (sym t j, sym z_is j)) record { same_start = same_start ∙ gr.same_start; since = gr.since; grown = same_history ∙ gr.grown; shared = gr.shared })
      (λ apart. r.grown i o z at_o (sym (set_else r.nows k i y apart) ∙ at_z)))
      (λ b q. q)
      (λ b. backs_on r.nows r.logs r.logs r.who k x y is more id b (role v b) refl (kn.numbers b))
      (λ j u apart_j at_j b. backs_on r.nows r.logs r.logs r.who k x y is more j b (role u b) refl ((r.seats j u at_j).numbers b))
      (subst (λ (z : List S × List (List Entry)). balanced z.0 z.1 r.logs) (λ j. (sym (map_same start r.nows k x y is same_start) j, sym (map_same history r.nows k x y is same_history) j)) r.balance)

  pub releases : (slots id k : ℕ) (me : M) (v : Known T) (cs : List (ℕ × Option T)) (x y : T) → ◌≡◌ {A = M} me (v, (k, Some y) ∷ cs) → holds v k ≡ Some x → start y ≡ start x → history y ≡ history x
      → Allows (Ruled start history balanced opening) slots id me k (λ n. (n + (2 ^ 64 - 1)) % 2 ^ 64) (released start history balanced (step slots k 1 0 none) me)
  releases slots id k me v cs x y me_is holding same_start same_history = subst (λ (z : M). Allows (Ruled start history balanced opening) slots id z k (λ n. (n + (2 ^ 64 - 1)) % 2 ^ 64) (released start history balanced (step slots k 1 0 none) z)) (sym me_is)
      (λ s r _ at _. (
        let_go k (history x) v,
        gives,
        tt,
        releases_it s r id v k x y ((get_or s.words k 0 + (2 ^ 64 - 1)) % 2 ^ 64) at holding same_start same_history refl,
        λ x' h. let x_is : x ≡ x' = let q : Some x ≡ Some x' = sym holding ∙ h in cc in λ j. (let_go k (history (x_is j)) v, cs),
      ))
