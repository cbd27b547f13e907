-- A try to begin keeps the rule.
use Rattle.std.proofs.Common.{◌≡◌, ◌≢◌, ℕ, ◌+◌, ◌*◌, ◌%◌, ◌^◌, ◌<◌, List, [], ◌∷◌, ◌++◌, length, map, get_or, set, sym, refl, ap, ◌∙◌, subst, arith, Option, Some, None, length-set, get_or-set_same, get_or-set_other, bit_or}
use Rattle.std.proofs.lemmas.List.{set-get_or}
use mathlib.Core.Logic.{dite}
use mathlib.Core.Option.{some, none}
use native.Mathlib.Decide.{ℕ_discrete}
use lib.ListN.{get_elem?}
use Rattle.atomic_table.specs.Table.{State, Me, step, keeps, takes, Allows}
use Rattle.atomic_table.proofs.Lists.{set_here, set_else, at_map}
use Rattle.ho_events.specs.declared.entry.Entry.{Entry}
use Rattle.ho_events.specs.declared.entry.Place.TheVariants.{Object}
use Rattle.turns_table.specs.Logs.{on_object, StartsWith}
use Rattle.turns_table.specs.Views.{IsMine, role, holds, HasNumber, took, missing, missed_one}
use Rattle.turns_table.specs.Rule.{Ruled, Knows, Backs, IsOut}
use Rattle.turns_table.specs.Plays.{Found, tried}
use Rattle.turns_table.specs.declared.rule.Known.{Known}
use Rattle.turns_table.specs.declared.rule.Role.TheVariants.{Has}
use Rattle.turns_table.proofs.Lists.{put, put_here, put_else, there, found, same_at, each_set, keep_some}
use Rattle.turns_table.proofs.Parity.{or_one_even, or_one_odd}

pub same_place : (o place : _) → Object o ≡ Object place → o ≡ place
same_place o place e = cc

module _ {T S : Type 0} (start : T → S) (history : T → List Entry) (balanced : List S → List (List Entry) → List (List Entry) → Type 0) (opening : List T) where
  abbrev St : Type 0
  St = State (Option T) (Known T)

  abbrev M : Type 0
  M = Me (Option T) (Known T)

  abbrev R : St → Type 0
  R s = Ruled start history balanced opening s

  abbrev Kn : (s : St) → R s → ℕ → Known T → Type 0
  Kn s r j v = Knows history opening r.nows r.logs s.words r.owner r.who j v

  -- what the rule tells the seat of an object, as it is
  abbrev pub finds : (s : St) (r : R s) (id : ℕ) (v : Known T) → get_elem? s.views id ≡ some v → HasNumber v → (k : ℕ) (x : T) → get_elem? r.nows k ≡ some x → Found start history balanced v k x
  finds s r id v at number k x is = let kn = r.seats id v at in let near = there r.nows k x is in let long = r.long in let o = found opening k (omega arith) in let g = r.grown k o.0 x o.1 is in
      let backs : (a : ℕ) (log : List (List Entry × Entry)) → role v a ≡ Has log → Backs history r.nows r.logs r.who id a (Has log) = λ a log e. subst (Backs history r.nows r.logs r.who id a) e (kn.numbers a) in record {
        was = o.0;
        was_at = ap (λ (l : List T). get_elem? l k) (kn.sized number).0 ∙ o.1;
        same_start = g.same_start;
        since = g.since;
        grown = g.grown;
        own = λ a log e. g.shared a ∙ ap (on_object k) (backs a log e).1;
        includes = λ a log e i p at_i place on is_k. let t = (backs a log e).2 i p at_i in
            let there_k : get_elem? r.nows k ≡ some t.3.0 = subst (λ (j : ℕ). get_elem? r.nows j ≡ some t.3.0) (ap (λ o. o.0) (same_place t.0 place (sym t.1 ∙ on)) ∙ is_k) t.3.1 in
            subst (λ (z : T). StartsWith (history z) (p.0 ++ p.1 ∷ [])) (same_at r.nows k t.3.0 x there_k is) t.3.2;
        agrees = (
          map start r.nows,
          map history r.nows,
          r.logs,
          r.balance,
          at_map start r.nows k x is,
          at_map history r.nows k x is,
          (λ j y h. let t = (kn.held j y h).2 in (at_map start r.nows j y t, at_map history r.nows j y t)),
          (λ a log e. (backs a log e).1),
        );
      }

  -- what a pass missed changes nothing of what it finds
  pub found_after : (v : Known T) (missed : List ℕ) (k : ℕ) (x : T) → Found start history balanced (missing missed v) k x → Found start history balanced v k x
  found_after v missed k x f = record { was = f.was; was_at = f.was_at; same_start = f.same_start; since = f.since; grown = f.grown; own = f.own; includes = f.includes; agrees = f.agrees }

  -- nobody holds an object that is at home
  idle : (s : St) (r : R s) (id : ℕ) (v : Known T) → get_elem? s.views id ≡ some v → (k : ℕ) → get_or s.words k 0 % 2 ≡ 0 → (h : Option T) → holds v k ≡ h → h ≡ None
  idle s r id v at k even None e = refl
  idle s r id v at k even (Some x) e = let t = ((r.seats id v at).held k x e).0 in absurd (omega arith)

  -- the object has been found at home
  takes_it : (s : St) (r : R s) (id : ℕ) (v : Known T) → get_elem? s.views id ≡ some v → HasNumber v → (k : ℕ) (x : T) (m : ℕ) → get_elem? r.nows k ≡ some x → get_or s.words k 0 % 2 ≡ 0 → get_or s.words k 0 < 2 ^ 64 → m ≡ get_or s.words k 0 + 1
      → R record { words = set s.words k m; homes = set s.homes k none; views = set s.views id (took k x v) }
  takes_it s r id v at number k x m is even small m_is = let n : ℕ = get_or s.words k 0 in let w : Known T = took k x v in let near = there r.nows k x is in let long = r.long in let wide = r.wide in let kn = r.seats id v at in let sized = kn.sized number in
      let here : get_or (set s.words k m) k 0 ≡ m = get_or-set_same s.words k m 0 (omega arith) in
      let else_ : (i : ℕ) → i ≢ k → get_or (set s.words k m) i 0 ≡ get_or s.words i 0 = λ i apart. get_or-set_other s.words k i m 0 apart in
      let owner : ℕ → ℕ = put r.owner k id in let words : List ℕ = set s.words k m in let views : List (Known T) = set s.views id w in
      let here_i : (i : ℕ) → i ≡ k → get_or words i 0 ≡ m = λ i e. ap (λ (j : ℕ). get_or words j 0) e ∙ here in
      let the_x : (i : ℕ) (y : T) → i ≡ k → get_elem? r.nows i ≡ some y → y ≡ x = λ i y e at_i. same_at r.nows k y x (subst (λ (j : ℕ). get_elem? r.nows j ≡ some y) e at_i) is in
      let seen_i : (i b : ℕ) → i ≢ k → get_or words i 0 % 2 ≡ b → get_or s.words i 0 % 2 ≡ b = λ i b apart e. ap (λ (z : ℕ). z % 2) (sym (else_ i apart)) ∙ e in
      let held_k : holds w k ≡ Some x = get_or-set_same v.held k (Some x) None (omega arith) in
      let held_i : (i : ℕ) → i ≢ k → holds w i ≡ holds v i = λ i apart. get_or-set_other v.held k i (Some x) None apart in
      record {
        nows = r.nows;
        owner = owner;
        who = r.who;
        logs = r.logs;
        wide = length-set s.words k m ∙ wide;
        deep = length-set s.homes k none ∙ r.deep;
        long = r.long;
        many = r.many;
        grown = r.grown;
        counted = λ i y at_i. dite (ℕ_discrete i k)
            (λ e. let w_is = here_i i e in let l_is = ap (λ (z : T). length (history z)) (the_x i y e at_i) in let c = r.counted k x is in omega arith)
            (λ apart. subst (λ (z : ℕ). z ≡ (2 * length (history y) + z % 2) % 2 ^ 64) (sym (else_ i apart)) (r.counted i y at_i));
        home = λ i y at_i even_i. dite (ℕ_discrete i k)
            (λ e. let w_is = here_i i e in absurd (omega arith))
            (λ apart. set_else s.homes k i none apart ∙ r.home i y at_i (seen_i i 0 apart even_i));
        out = λ i y at_i odd_i. dite (ℕ_discrete i k)
            (λ e. subst (λ (z : ℕ × T). IsOut views (owner z.0) z.0 z.1) (λ j. (sym e j, sym (the_x i y e at_i) j))
            (w, subst (λ (j : ℕ). get_elem? views j ≡ some w) (sym (put_here r.owner k id k refl)) (set_here s.views id w (there s.views id v at)), held_k))
            (λ apart. subst (λ (j : ℕ). IsOut views j i y) (sym (put_else r.owner k id i apart))
            (keep_some (λ (u : Known T). holds u i ≡ Some y) s.views id (r.owner i) v w at (λ h. held_i i apart ∙ h) (r.out i y at_i (seen_i i 1 apart odd_i))));
        seats = each_set (Knows history opening r.nows r.logs words owner r.who) s.views id w
            record {
              held = λ i y h. dite (ℕ_discrete i k)
                  (λ e. let w_is = here_i i e in let same : Some x ≡ Some y = sym held_k ∙ (ap (λ (j : ℕ). holds w j) (sym e) ∙ h) in let x_is : x ≡ y = cc in
                  (omega arith, put_here r.owner k id i e, subst (λ (z : ℕ × T). get_elem? r.nows z.0 ≡ some z.1) (λ j. (sym e j, x_is j)) is, number))
                  (λ apart. let t = kn.held i y (sym (held_i i apart) ∙ h) in let w_is = else_ i apart in (omega arith, put_else r.owner k id i apart ∙ t.1, t.2, t.3));
              numbers = kn.numbers;
              sized = λ _. (sized.0, length-set v.held k (Some x) ∙ sized.1, sized.2);
            }
            (λ j u apart_j at_j. let kj = r.seats j u at_j in record {
              held = λ i y h. let t = kj.held i y h in dite (ℕ_discrete i k)
                  (λ e. let odd = t.0 in let old = ap (λ (z : ℕ). get_or s.words z 0) e in absurd (omega arith))
                  (λ apart. let w_is = else_ i apart in let odd = t.0 in (omega arith, put_else r.owner k id i apart ∙ t.1, t.2, t.3));
              numbers = kj.numbers;
              sized = kj.sized;
            });
        numbers = λ a lt. keep_some (λ (u : Known T). IsMine (role u a)) s.views id (r.who a) v w at (λ q. q) (r.numbers a lt);
        balance = r.balance;
      }

  -- the object has been found held
  misses_it : (s : St) (r : R s) (id : ℕ) (v : Known T) → get_elem? s.views id ≡ some v → (k : ℕ) → R record { words = s.words; homes = s.homes; views = set s.views id (missed_one k v) }
  misses_it s r id v at k = let w : Known T = missed_one k v in let kn = r.seats id v at in record {
    nows = r.nows;
    owner = r.owner;
    who = r.who;
    logs = r.logs;
    wide = r.wide;
    deep = r.deep;
    long = r.long;
    many = r.many;
    grown = r.grown;
    counted = r.counted;
    home = r.home;
    out = λ i y at_i odd_i. keep_some (λ (u : Known T). holds u i ≡ Some y) s.views id (r.owner i) v w at (λ h. h) (r.out i y at_i odd_i);
    seats = each_set (Knows history opening r.nows r.logs s.words r.owner r.who) s.views id w record { held = kn.held; numbers = kn.numbers; sized = kn.sized } (λ j u _ at_j. r.seats j u at_j);
    numbers = λ a lt. keep_some (λ (u : Known T). IsMine (role u a)) s.views id (r.who a) v w at (λ q. q) (r.numbers a lt);
    balance = r.balance;
  }

  pub tries : (slots id k : ℕ) (me : M) → HasNumber me.0 → k < length opening → Allows (Ruled start history balanced opening) slots id me k (λ n. bit_or n 1) (tried start history balanced (step slots k 1 0 none) me)
  tries slots id k me number near s r _ at small = let n : ℕ = get_or s.words k 0 in let v : Known T = me.0 in let long = r.long in let x = found r.nows k (omega arith) in dite (ℕ_discrete (n % 2) 0)
      (λ even. (
        took k x.0 v,
        takes k (Some x.0),
        r.home k x.0 x.1 even,
        takes_it s r id v at number k x.0 (bit_or n 1) x.1 even small (or_one_even n even),
        ((λ _. (x.0, idle s r id v at k even (holds v k) refl, refl, finds s r id v at number k x.0 x.1)), λ odd. absurd (omega arith)),
      ))
      (λ not. let odd : n % 2 ≡ 1 = omega arith in (
        missed_one k v,
        keeps,
        tt,
        subst (λ (l : List ℕ). R record { words = l; homes = s.homes; views = set s.views id (missed_one k v) }) (sym (ap (λ (m : ℕ). set s.words k m) (or_one_odd n odd) ∙ set-get_or s.words k 0)) (misses_it s r id v at k),
        ((λ even. absurd (omega arith)), λ _. refl),
      ))
