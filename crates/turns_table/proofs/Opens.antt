-- The table at the start, and what the last pass finds.
use Rattle.std.proofs.Common.{◌≡◌, ℕ, zero, suc, ◌*◌, ◌%◌, ◌^◌, ◌<◌, List, [], ◌∷◌, length, map, get_or, replicate, sym, refl, ap, ◌∙◌, subst, arith, Option, Some, None, ◌⊎◌, ⊎_elim, inl, inr}
use Rattle.std.proofs.lemmas.List.{length-replicate, append-nil, length-map}
use mathlib.Core.Logic.{dite}
use mathlib.Core.Option.{some, some-ne-none, some-injective}
use native.Mathlib.Decide.{ℕ_discrete, dec_le}
use lib.ListN.{get_elem?}
use Rattle.atomic_table.specs.Table.{State, opening}
use Rattle.atomic_table.proofs.Lists.{at_map}
use Rattle.std.specs.declared.vec.Vec.{Vec}
use Rattle.std.specs.declared.alloc.Global.{Global}
use Rattle.ho_events.specs.declared.entry.Entry.{Entry}
use Rattle.ho_events.specs.declared.entry.Place.TheVariants.{Object}
use Rattle.turns_table.specs.Kept.{items_at, on_objects, object_logs}
use Rattle.turns_table.specs.Logs.{on_object}
use Rattle.turns_table.specs.Views.{IsMine, entries_in, role, holds, HasNumber, agents, first}
use Rattle.turns_table.specs.Rule.{Ruled, Knows, Backs}
use Rattle.turns_table.specs.Plays.{Found, Settled}
use Rattle.turns_table.specs.declared.rule.Known.{Known}
use Rattle.turns_table.specs.declared.rule.Role.{Role}
use Rattle.turns_table.specs.declared.rule.Role.TheVariants.{Absent, Spare, Has}
use Rattle.turns_table.proofs.Lists.{there, found, beyond, same_at, same_list, full_there}
use Rattle.turns_table.proofs.Splits.{blank, owner_of}
use Rattle.turns_table.proofs.Tries.{finds}

pub same_or : {A : Type 0} (n : ℕ) (a d : A) (i : ℕ) → i < n → get_or (replicate n a) i d ≡ a
same_or zero a d i h = absurd (omega arith)
same_or (suc n) a d zero h = refl
same_or (suc n) a d (suc i) h = same_or n a d i (omega arith)

spare_or : (n a : ℕ) → (get_or (replicate n Spare) a Absent ≡ Spare) ⊎ (get_or (replicate n Spare) a Absent ≡ Absent)
spare_or zero a = inr refl
spare_or (suc n) zero = inl refl
spare_or (suc n) (suc a) = spare_or n a

pub agents_is : agents ≡ 256
unfolding agents
agents_is = refl

-- what stands in a list that was made by a function
from_map : {A B : Type 0} (f : A → B) (l : List A) (i : ℕ) (b : B) → get_elem? (map f l) i ≡ some b → (x : A) × (get_elem? l i ≡ some x) × (f x ≡ b)
from_map f [] i b e = absurd (some-ne-none b (sym e))
from_map f (x ∷ xs) zero b e = (x, refl, some-injective (f x) b e)
from_map f (x ∷ xs) (suc i) b e = from_map f xs i b e

-- logs that agree at each agent number are one list
same_by_or : (xs ys : List (List Entry)) → length xs ≡ length ys → ((a : ℕ) → a < length xs → get_or xs a [] ≡ get_or ys a []) → xs ≡ ys
same_by_or [] [] e f = refl
same_by_or [] (y ∷ ys) e f = absurd (omega arith)
same_by_or (x ∷ xs) [] e f = absurd (omega arith)
same_by_or (x ∷ xs) (y ∷ ys) e f = let h : x ≡ y = f zero (omega arith) in λ i. h i ∷ same_by_or xs ys (omega arith) (λ a near. f (suc a) (omega arith)) i

pub object_log : (ls : List (Vec Entry Global)) (a : ℕ) → get_or (object_logs ls) a [] ≡ on_objects (items_at ls a)
object_log [] a = refl
object_log (l ∷ ls) zero = refl
object_log (l ∷ ls) (suc a) = object_log ls a

pub object_logs_long : (ls : List (Vec Entry Global)) → length (object_logs ls) ≡ length ls
object_logs_long [] = refl
object_logs_long (l ∷ ls) = ap suc (object_logs_long ls)

module _ {T S : Type 0} (start : T → S) (history : T → List Entry) (balanced : List S → List (List Entry) → List (List Entry) → Type 0) where
  pub opens : (ws : List ℕ) (xs : List T) → length ws ≡ length xs → ((k : ℕ) (x : T) → get_elem? xs k ≡ some x → get_or ws k 0 ≡ (2 * length (history x)) % 2 ^ 64) → balanced (map start xs) (map history xs) (replicate agents [])
      → Ruled start history balanced xs (opening ws (map (λ (x : T). Some x) xs) (first xs))
  opens ws xs long counted balance =
      let v : Known T = first xs in
      let a_seat : (j : ℕ) (u : Known T) → get_elem? (v ∷ []) j ≡ some u → (j ≡ 0) × (u ≡ v) = elim [
        | zero ↦ λ u e. (refl, sym (some-injective v u e))
        | suc j ↦ λ u e. absurd (some-ne-none u (sym e))
      ] in
      let spare : (a : ℕ) → a < agents → role v a ≡ Spare = λ a lt. same_or agents Spare Absent a lt in
      let held_none : (k : ℕ) → holds v k ≡ None = λ k. blank (length xs) None k in
      let even : (k : ℕ) (x : T) → get_elem? xs k ≡ some x → get_or ws k 0 % 2 ≡ 0 = λ k x at. let c = counted k x at in omega arith in record {
        nows = xs;
        owner = λ _. 0;
        who = λ _. 0;
        logs = replicate agents [];
        wide = long;
        deep = simp length-map;
        long = refl;
        many = length-replicate agents [];
        grown = λ k o x at_o at_x. let same : o ≡ x = same_at xs k o x at_o at_x in record {
          same_start = ap start (sym same);
          since = [];
          grown = ap history (sym same) ∙ sym (append-nil (history o));
          shared = λ a. ap (on_object k) (sym (blank agents [] a));
        };
        counted = λ k x at. let c = counted k x at in let e = even k x at in omega arith;
        home = λ k x at _. at_map (λ (y : Option T). some y) (map (λ (x : T). Some x) xs) k (Some x) (at_map (λ (x : T). Some x) xs k x at);
        out = λ k x at odd. let e = even k x at in absurd (omega arith);
        seats = λ j u at. let t = a_seat j u at in subst (λ (z : ℕ × Known T). Knows history xs xs (replicate agents []) ws (λ _. 0) (λ _. 0) z.0 z.1) (λ i. (sym t.0 i, sym t.1 i)) record {
          held = λ k x h. let none : None ≡ Some x = sym (held_none k) ∙ h in absurd (cc);
          numbers = λ a. ⊎_elim
              (λ (e : role v a ≡ Spare). subst (Backs history xs (replicate agents []) (λ _. 0) 0 a) (sym e) (refl, blank agents [] a))
              (λ (e : role v a ≡ Absent). subst (Backs history xs (replicate agents []) (λ _. 0) 0 a) (sym e) tt)
              (spare_or agents a);
          sized = λ _. (refl, length-replicate (length xs) None, length-replicate agents Spare);
        };
        numbers = λ a lt. (v, refl, subst IsMine (sym (spare a lt)) tt);
        balance = balance;
      }

  -- what the last pass knows of the objects: all are at home
  module _ (opening : List T) where
    pub closes : (s : State (Option T) (Known T)) (r : Ruled start history balanced opening s) (id : ℕ) (v : Known T) → get_elem? s.views id ≡ some v → HasNumber v → ((a : ℕ) → a < agents → IsMine (role v a)) → ((k : ℕ) → holds v k ≡ None)
        → (k : ℕ) (x : T) → get_elem? r.nows k ≡ some x → (get_elem? s.homes k ≡ some (some (Some x))) × Found start history balanced v k x
    closes s r id v at number all free k x is = dite (ℕ_discrete (get_or s.words k 0 % 2) 0)
        (λ even. (r.home k x is even, finds start history balanced opening s r id v at number k x is))
        (λ not. let t = r.out k x is (omega arith) in let ku = r.seats (r.owner k) t.0 t.1 in let n = (ku.held k x t.2).3 in
        let theirs : r.who n.0 ≡ r.owner k = owner_of start history balanced opening r.nows r.logs r.who (r.owner k) n.0 (role t.0 n.0) n.2 (ku.numbers n.0) in
        let mine : r.who n.0 ≡ id = owner_of start history balanced opening r.nows r.logs r.who id n.0 (role v n.0) (all n.0 n.1) ((r.seats id v at).numbers n.0) in
        let same : t.0 ≡ v = same_at s.views id t.0 v (subst (λ (j : ℕ). get_elem? s.views j ≡ some t.0) (sym theirs ∙ mine) t.1) at in
        let none : Some x ≡ None = sym t.2 ∙ (ap (λ (u : Known T). holds u k) same ∙ free k) in absurd (cc))

    -- the log of a number, by its role
    pub log_is : (s : State (Option T) (Known T)) (r : Ruled start history balanced opening s) (id : ℕ) (v : Known T) → get_elem? s.views id ≡ some v → (a : ℕ) → IsMine (role v a) → get_or r.logs a [] ≡ entries_in (role v a)
    log_is s r id v at a mine = logged r.nows r.logs r.who id a (role v a) mine ((r.seats id v at).numbers a)
      where
        logged : (nows : List T) (logs : List (List Entry)) (who : ℕ → ℕ) (j b : ℕ) (q : Role) → IsMine q → Backs history nows logs who j b q → get_or logs b [] ≡ entries_in q
        logged nows logs who j b Absent m t = absurd m
        logged nows logs who j b Spare m t = t.1
        logged nows logs who j b (Has log) m t = t.1

    -- the objects that come back
    pub closed_is : (s : State (Option T) (Known T)) (r : Ruled start history balanced opening s) (id : ℕ) (v : Known T) → get_elem? s.views id ≡ some v → HasNumber v → ((a : ℕ) → a < agents → IsMine (role v a)) → ((k : ℕ) → holds v k ≡ None)
        → (items : List (Option T)) (room : List T) → length s.homes ≡ length items → ((k : ℕ) (y : Option T) → get_elem? s.homes k ≡ some (some y) → get_elem? items k ≡ some y) → map (λ (x : T). Some x) room ≡ items → room ≡ r.nows
    closed_is s r id v at number all free items room same final e = let l1 : length (map (λ (x : T). Some x) room) ≡ length room = simp length-map in let l2 = ap (λ (l : List (Option T)). length l) e in let deep = r.deep in let long = r.long in
        same_list room r.nows (omega arith)
        (λ i x at_i. full_there room i x (subst (λ (l : List (Option T)). get_elem? l i ≡ some (Some x)) (sym e) (final i (Some x) (closes s r id v at number all free i x at_i).0)))

    -- what is known of each
    pub settles : (s : State (Option T) (Known T)) (r : Ruled start history balanced opening s) (id : ℕ) (v : Known T) → get_elem? s.views id ≡ some v → HasNumber v → ((a : ℕ) → a < agents → IsMine (role v a))
        → (k : ℕ) (x : T) → get_elem? r.nows k ≡ some x → Settled start history balanced v k x
    settles s r id v at number all k x is = (
      finds start history balanced opening s r id v at number k x is,
      λ a. (r.grown k (found opening k (let n = there r.nows k x is in let long = r.long in omega arith)).0 x (found opening k (let n = there r.nows k x is in let long = r.long in omega arith)).1 is).shared a
          ∙ ap (on_object k) (dite (dec_lt a)
          (λ near. log_is s r id v at a (all a near))
          (λ far. let many = r.many in let wide = ((r.seats id v at).sized number).2 in beyond r.logs a [] (omega arith) ∙ sym (ap entries_in (beyond v.roles a Absent (omega arith))))),
    )
      where
        dec_lt : (a : ℕ) → Dec (a < agents)
        dec_lt a = dec_le (suc a) agents

    pub comes_back : (s : State (Option T) (Known T)) (r : Ruled start history balanced opening s) (id : ℕ) (v : Known T) → get_elem? s.views id ≡ some v → HasNumber v → ((a : ℕ) → a < agents → IsMine (role v a)) → ((k : ℕ) → holds v k ≡ None)
        → (items : List (Option T)) → ((k : ℕ) (y : Option T) → get_elem? s.homes k ≡ some (some y) → get_elem? items k ≡ some y) → (k : ℕ) → k < length opening → (x : T) × (get_elem? items k ≡ some (Some x))
    comes_back s r id v at number all free items final k near = let long = r.long in let x = found r.nows k (omega arith) in (x.0, final k (Some x.0) (closes s r id v at number all free k x.0 x.1).0)

    -- each entry of a log is of its agent, on one of the objects
    pub placed_at : (s : State (Option T) (Known T)) (r : Ruled start history balanced opening s) (id : ℕ) (v : Known T) → get_elem? s.views id ≡ some v → (a i : ℕ) (e : Entry) → get_elem? (entries_in (role v a)) i ≡ some e
        → (e.agent.0 ≡ a) × ((o : _) × (e.object ≡ Object o) × (o.0 < length opening))
    placed_at s r id v at a i e is = placed (role v a) ((r.seats id v at).numbers a) is
      where
        placed : (q : Role) → Backs history r.nows r.logs r.who id a q → get_elem? (entries_in q) i ≡ some e → (e.agent.0 ≡ a) × ((o : _) × (e.object ≡ Object o) × (o.0 < length opening))
        placed Absent t is = absurd (some-ne-none e (sym is))
        placed Spare t is = absurd (some-ne-none e (sym is))
        placed (Has log) t is = let p = from_map (λ (u : List Entry × Entry). u.1) log i e is in let k = t.2 i p.0 p.1 in let long = r.long in let near = there r.nows k.0.0 k.3.0 k.3.1 in
            subst (λ (u : Entry). (u.agent.0 ≡ a) × ((o : _) × (u.object ≡ Object o) × (o.0 < length opening))) p.2 (k.2, (k.0, k.1, omega arith))

    -- the logs of the rule are those with these entries
    pub logs_are : (s : State (Option T) (Known T)) (r : Ruled start history balanced opening s) (id : ℕ) (v : Known T) → get_elem? s.views id ≡ some v → ((a : ℕ) → a < agents → IsMine (role v a))
        → (logs : List (List Entry)) → length logs ≡ agents → ((a : ℕ) → get_or logs a [] ≡ entries_in (role v a)) → logs ≡ r.logs
    logs_are s r id v at all logs long same = let many = r.many in same_by_or logs r.logs (omega arith) (λ a near. same a ∙ sym (log_is s r id v at a (all a (omega arith))))
