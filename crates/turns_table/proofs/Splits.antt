-- A number passes to a new pass, and passes are joined.
use Rattle.std.proofs.Common.{◌≡◌, ◌≢◌, ⊎_elim, ℕ, zero, suc, ◌<◌, List, [], ◌∷◌, ◌++◌, length, get_or, set, replicate, sym, refl, ap, ◌∙◌, subst, arith, Option, Some, None, length-set, get_or-set_same, get_or-set_other, cond, eqb, eq-eqb, ne_eqb}
use Rattle.std.proofs.lemmas.List.{length-replicate}
use mathlib.Core.Logic.{dite}
use mathlib.Core.Option.{some, some-ne-none}
use native.Mathlib.Decide.{ℕ_discrete}
use lib.ListN.{get_elem?}
use Rattle.atomic_table.specs.Table.{State, Splits, Joins}
use Rattle.atomic_table.proofs.Lists.{set_here, set_else, at_longer, at_last}
use Rattle.ho_events.specs.declared.entry.Entry.{Entry}
use Rattle.turns_table.specs.Views.{IsMine, merged, merge, role, holds, HasNumber, agents, gave, given, joined, spent}
use Rattle.turns_table.specs.Rule.{Ruled, Knows, Backs, HasIt}
use Rattle.turns_table.specs.declared.rule.Known.{Known}
use Rattle.turns_table.specs.declared.rule.Role.{Role}
use Rattle.turns_table.specs.declared.rule.Role.TheVariants.{Absent, Spare, Has}
use Rattle.turns_table.proofs.Lists.{put, put_here, put_else, there, same_at, each_set, keep_some, at_snoc_here}

pub blank : {A : Type 0} (n : ℕ) (d : A) (i : ℕ) → get_or (replicate n d) i d ≡ d
blank zero d i = refl
blank (suc n) d zero = refl
blank (suc n) d (suc i) = blank n d i

merged_absent : (q : Role) → merged q Absent ≡ q
merged_absent Absent = refl
merged_absent Spare = refl
merged_absent (Has log) = refl

pub role_merge : (qs rs : List Role) (a : ℕ) → get_or (merge qs rs) a Absent ≡ merged (get_or qs a Absent) (get_or rs a Absent)
role_merge [] rs a = refl
role_merge (q ∷ qs) [] zero = sym (merged_absent q)
role_merge (q ∷ qs) [] (suc a) = sym (merged_absent (get_or qs a Absent))
role_merge (q ∷ qs) (r ∷ rs) zero = refl
role_merge (q ∷ qs) (r ∷ rs) (suc a) = role_merge qs rs a

pub length-merge : (qs rs : List Role) → length qs ≡ length rs → length (merge qs rs) ≡ length rs
length-merge [] rs e = refl
length-merge (q ∷ qs) [] e = e
length-merge (q ∷ qs) (r ∷ rs) e = ap suc (length-merge qs rs (omega arith))

pub mine_left : (q r : Role) → IsMine q → IsMine (merged q r)
mine_left Absent r m = absurd m
mine_left Spare r m = tt
mine_left (Has log) r m = tt

pub mine_right : (q r : Role) → IsMine r → IsMine (merged q r)
mine_right Absent r m = m
mine_right Spare r m = tt
mine_right (Has log) r m = tt

module _ {T S : Type 0} (start : T → S) (history : T → List Entry) (balanced : List S → List (List Entry) → List (List Entry) → Type 0) (opening : List T) where
  abbrev St : Type 0
  St = State (Option T) (Known T)

  abbrev R : St → Type 0
  R s = Ruled start history balanced opening s

  -- who has a number, from a role that is not absent
  pub owner_of : (nows : List T) (logs : List (List Entry)) (who : ℕ → ℕ) (j b : ℕ) (q : Role) → IsMine q → Backs history nows logs who j b q → who b ≡ j
  owner_of nows logs who j b Absent m t = absurd m
  owner_of nows logs who j b Spare m t = t.0
  owner_of nows logs who j b (Has log) m t = t.0

  -- the same role with another seat, or after others changed theirs
  backs_move : (nows : List T) (logs : List (List Entry)) (who who' : ℕ → ℕ) (j j' b : ℕ) (q : Role) → (who b ≡ j → who' b ≡ j') → Backs history nows logs who j b q → Backs history nows logs who' j' b q
  backs_move nows logs who who' j j' b Absent move t = tt
  backs_move nows logs who who' j j' b Spare move t = (move t.0, t.1)
  backs_move nows logs who who' j j' b (Has log) move t = (move t.0, t.1, t.2)

  pub splits : (id a b : ℕ) (v : Known T) → role v a ≡ Spare → a < agents → b ≢ a → b < agents → IsMine (role v b) → Splits (Ruled start history balanced opening) id v (gave a v) (given a v)
  splits id a b v spare near_a apart_b near_b mine_b s r at =
      let w : Known T = gave a v in let u : Known T = given a v in let views : List (Known T) = set s.views id w in let new : ℕ = length views in let who : ℕ → ℕ = put r.who a new in
      let kn = r.seats id v at in let number : HasNumber v = (b, near_b, mine_b) in let sized = kn.sized number in
      let spare_a : Backs history r.nows r.logs r.who id a Spare = subst (Backs history r.nows r.logs r.who id a) spare (kn.numbers a) in
      let role_a : role w a ≡ Absent = get_or-set_same v.roles a Absent Absent (subst (λ (n : ℕ). a < n) (sym sized.2) near_a) in
      let role_w : (c : ℕ) → c ≢ a → role w c ≡ role v c = λ c apart. get_or-set_other v.roles a c Absent Absent apart in
      let role_u : role u a ≡ Has [] = get_or-set_same (replicate agents Absent) a (Has []) Absent (subst (λ (n : ℕ). a < n) (sym (length-replicate agents Absent)) near_a) in
      let role_n : (c : ℕ) → c ≢ a → role u c ≡ Absent = λ c apart. get_or-set_other (replicate agents Absent) a c (Has []) Absent apart ∙ blank agents Absent c in record {
        nows = r.nows;
        owner = r.owner;
        who = who;
        logs = r.logs;
        wide = r.wide;
        deep = r.deep;
        long = r.long;
        many = r.many;
        grown = r.grown;
        counted = r.counted;
        home = r.home;
        out = λ i z at_i odd_i. let t = keep_some (λ (x : Known T). holds x i ≡ Some z) s.views id (r.owner i) v w at (λ h. h) (r.out i z at_i odd_i) in (t.0, at_longer views (u ∷ []) (r.owner i) t.0 t.1, t.2);
        seats = λ j x at_j. ⊎_elim
            (λ (old : get_elem? views j ≡ some x). each_set (Knows history opening r.nows r.logs s.words r.owner who) s.views id w
            record {
              held = λ i z h. let t = kn.held i z h in (t.0, t.1, t.2, (b, near_b, subst IsMine (sym (role_w b apart_b)) mine_b));
              numbers = λ c. dite (ℕ_discrete c a)
                  (λ e. subst (λ (k : ℕ). Backs history r.nows r.logs who id k (role w k)) (sym e) (subst (Backs history r.nows r.logs who id a) (sym role_a) tt))
                  (λ apart. subst (Backs history r.nows r.logs who id c) (sym (role_w c apart)) (backs_move r.nows r.logs r.who who id id c (role v c) (λ t. put_else r.who a new c apart ∙ t) (kn.numbers c)));
              sized = λ _. (sized.0, sized.1, length-set v.roles a Absent ∙ sized.2);
            }
            (λ i y apart_i at_i. let ki = r.seats i y at_i in record {
              held = ki.held;
              numbers = λ c. backs_move r.nows r.logs r.who who i i c (role y c) (λ t. dite (ℕ_discrete c a) (λ e. absurd (apart_i (sym t ∙ (ap r.who e ∙ spare_a.0)))) (λ apart. put_else r.who a new c apart ∙ t)) (ki.numbers c);
              sized = ki.sized;
            })
            j x old)
            (λ (last : (j ≡ length views) × (u ≡ x)). subst (λ (z : ℕ × Known T). Knows history opening r.nows r.logs s.words r.owner who z.0 z.1) (λ i. (sym last.0 i, last.1 i)) record {
              held = λ i z h. let none : None ≡ Some z = sym (blank (length v.opening) None i) ∙ h in absurd (cc);
              numbers = λ c. dite (ℕ_discrete c a)
                  (λ e. subst (λ (k : ℕ). Backs history r.nows r.logs who new k (role u k)) (sym e) (subst (Backs history r.nows r.logs who new a) (sym role_u) (put_here r.who a new a refl, spare_a.1, λ i p none. absurd (some-ne-none p (sym none)))))
                  (λ apart. subst (Backs history r.nows r.logs who new c) (sym (role_n c apart)) tt);
              sized = λ _. (sized.0, length-replicate (length v.opening) None ∙ ap (λ (l : List T). length l) sized.0, length-set (replicate agents Absent) a (Has []) ∙ length-replicate agents Absent);
            })
            (at_snoc_here views u x j at_j);
        numbers = λ c lt. dite (ℕ_discrete c a)
            (λ e. subst (λ (k : ℕ). HasIt (views ++ u ∷ []) (who k) k) (sym e) (u, subst (λ (k : ℕ). get_elem? (views ++ u ∷ []) k ≡ some u) (sym (put_here r.who a new a refl)) (at_last views u new refl), subst IsMine (sym role_u) tt))
            (λ apart. let t = keep_some (λ (x : Known T). IsMine (role x c)) s.views id (r.who c) v w at (λ q. subst IsMine (sym (role_w c apart)) q) (r.numbers c lt) in
            subst (λ (k : ℕ). HasIt (views ++ u ∷ []) k c) (sym (put_else r.who a new c apart)) (t.0, at_longer views (u ∷ []) (r.who c) t.0 t.1, t.2));
        balance = r.balance;
      }

  backs_merge : (nows : List T) (logs : List (List Entry)) (who who' : ℕ → ℕ) (id other b : ℕ) (q p : Role) → (who b ≡ id → who' b ≡ id) → (who b ≡ other → who' b ≡ id) → Backs history nows logs who id b q → Backs history nows logs who other b p → Backs history nows logs who' id b (merged q p)
  backs_merge nows logs who who' id other b Absent p here there t u = backs_move nows logs who who' other id b p there u
  backs_merge nows logs who who' id other b Spare p here there t u = (here t.0, t.1)
  backs_merge nows logs who who' id other b (Has log) p here there t u = (here t.0, t.1, t.2)

  pub joins : (id other : ℕ) (v u : Known T) → HasNumber v → HasNumber u → ((k : ℕ) → holds u k ≡ None) → Joins (Ruled start history balanced opening) id v other u (joined v u) spent
  joins id other v u number_v number_u free s r at apart there' =
      let w : Known T = joined v u in let views : List (Known T) = set s.views id w in let was : get_elem? s.views other ≡ some u = sym (set_else s.views id other w apart) ∙ there' in
      let kn = r.seats id v at in let ku = r.seats other u was in let sized = kn.sized number_v in let sized_u = ku.sized number_u in
      let who : ℕ → ℕ = λ c. cond (eqb (r.who c) other) id (r.who c) in
      let moved : (c : ℕ) → r.who c ≡ other → who c ≡ id = λ c e. ap (λ b. cond b id (r.who c)) (eq-eqb (r.who c) other e) in
      let stayed : (c j : ℕ) → j ≢ other → r.who c ≡ j → who c ≡ j = λ c j n e. ap (λ b. cond b id (r.who c)) (ne_eqb (r.who c) other (λ t. n (sym e ∙ t))) ∙ e in
      let role_w : (c : ℕ) → role w c ≡ merged (role v c) (role u c) = λ c. role_merge v.roles u.roles c in
      let id_apart : id ≢ other = λ e. apart (sym e) in
      let number_w : HasNumber w = (number_v.0, number_v.1, subst IsMine (sym (role_w number_v.0)) (mine_left (role v number_v.0) (role u number_v.0) number_v.2)) in record {
        nows = r.nows;
        owner = r.owner;
        who = who;
        logs = r.logs;
        wide = r.wide;
        deep = r.deep;
        long = r.long;
        many = r.many;
        grown = r.grown;
        counted = r.counted;
        home = r.home;
        out = λ i z at_i odd_i. keep_some (λ (x : Known T). holds x i ≡ Some z) views other (r.owner i) u spent there' (λ h. let none : None ≡ Some z = sym (free i) ∙ h in absurd (cc))
            (keep_some (λ (x : Known T). holds x i ≡ Some z) s.views id (r.owner i) v w at (λ h. h) (r.out i z at_i odd_i));
        seats = each_set (Knows history opening r.nows r.logs s.words r.owner who) views other spent
            record { held = λ i z h. absurd (cc); numbers = λ c. tt; sized = λ n. absurd n.2 }
            (λ j x apart_j at_j. each_set (λ i y. i ≢ other → Knows history opening r.nows r.logs s.words r.owner who i y) s.views id w
            (λ _. record {
              held = λ i z h. let t = kn.held i z h in (t.0, t.1, t.2, number_w);
              numbers = λ c. subst (Backs history r.nows r.logs who id c) (sym (role_w c)) (backs_merge r.nows r.logs r.who who id other c (role v c) (role u c) (stayed c id id_apart) (moved c) (kn.numbers c) (ku.numbers c));
              sized = λ _. (sized.0, sized.1, length-merge v.roles u.roles (sized.2 ∙ sym sized_u.2) ∙ sized_u.2);
            })
            (λ i y apart_i at_i n. let ki = r.seats i y at_i in record {
              held = ki.held;
              numbers = λ c. backs_move r.nows r.logs r.who who i i c (role y c) (stayed c i n) (ki.numbers c);
              sized = ki.sized;
            })
            j x at_j apart_j);
        numbers = λ c lt. let t = r.numbers c lt in dite (ℕ_discrete (r.who c) other)
            (λ e. let same : t.0 ≡ u = same_at s.views other t.0 u (subst (λ (k : ℕ). get_elem? s.views k ≡ some t.0) e t.1) was in
            subst (λ (k : ℕ). HasIt (set views other spent) k c) (sym (moved c e))
            (w, set_else views other id spent id_apart ∙ set_here s.views id w (there s.views id v at), subst IsMine (sym (role_w c)) (mine_right (role v c) (role u c) (subst (λ (x : Known T). IsMine (role x c)) same t.2))))
            (λ n. let k = keep_some (λ (x : Known T). IsMine (role x c)) s.views id (r.who c) v w at (λ q. subst IsMine (sym (role_w c)) (mine_left (role v c) (role u c) q)) t in
            subst (λ (k : ℕ). HasIt (set views other spent) k c) (sym (stayed c (r.who c) n refl)) (k.0, set_else views other (r.who c) spent n ∙ k.1, k.2));
        balance = r.balance;
      }
