-- Which tasks the entries of one agent that works alone belong to, and where they stand among the others.
use Rattle.std.proofs.Common.{◌≡◌, ℕ, ◌+◌, ◌-◌, ◌<◌, ◌≤◌, Bool, true, false, not, ◌&&◌, ◌||◌, ◌==◌, nat_lt, nat_le, List, [], ◌∷◌, length, refl, sym, ap, ◌∙◌, arith, IsTrue, cond, zero, suc}
use Rattle.std.specs.Prelude.{Option, None, Some, slice_get}
use Rattle.std.specs.List.{list_all}
use Rattle.std.proofs.lemmas.Bool.Decides.{nat_tests}
use Rattle.ho_events.specs.History.{greatest_stamp}
use Rattle.ho_events.specs.declared.command.Command.{Command}
use Rattle.ho_events.specs.declared.entry.Entry.{Entry}
use Rattle.ho_events.specs.declared.script.AgentWork.{AgentWork}
use Rattle.ho_events.specs.declared.script.Block.{Block}
use Rattle.ho_world.specs.Alone.{IsRoundOf, first_at}
use Rattle.ho_world.specs.Entries.{in_kernel, comes_before, all_pairs}
use Rattle.ho_world.specs.Legal.{block_of, block_in, is_below}
use Rattle.ho_world.specs.Readings.{no_earlier, stands_before}
use Rattle.ho_world.specs.Tasks.{Ask, Due, due_of}
use Rattle.ho_world.specs.Through.{HasRisingNumbers, is_at, is_here}
use Rattle.ho_world.proofs.AloneStamps.{is_mine, goes_before}
use Rattle.ho_world.proofs.Fronts.{and_both, and_left, and_right, all_follow, eq_true, eq_test}

-- two tests of all entries
pub all_both : (p q : Entry → Bool) (xs : List Entry) → IsTrue (list_all p xs) → IsTrue (list_all q xs) → IsTrue (list_all (λ x. p x && q x) xs)
all_both p q [] h k = refl
all_both p q (x ∷ xs) h k =
    and_both (p x && q x) _ (and_both (p x) _ (and_left (p x) _ h) (and_left (q x) _ k)) (all_both p q xs (and_right (p x) _ h) (and_right (q x) _ k))

pairs_follow : (p : Entry → Bool) (r q : Entry → Entry → Bool) (xs : List Entry) → ((d e : Entry) → IsTrue (p d) → IsTrue (p e) → IsTrue (r d e) → IsTrue (q d e)) → IsTrue (list_all p xs) → IsTrue (all_pairs r xs) → IsTrue (all_pairs q xs)
unfolding all_pairs
pairs_follow p r q [] f h k = refl
pairs_follow p r q (x ∷ xs) f h k =
    and_both (list_all (q x) xs) _
    (all_follow (λ e. p e && r x e) (q x) xs (λ e t. f x e (and_left (p x) _ h) (and_left (p e) _ t) (and_right (p e) _ t))
    (all_both p (r x) xs (and_right (p x) _ h) (and_left (list_all (r x) xs) _ k)))
    (pairs_follow p r q xs f (and_right (p x) _ h) (and_right (list_all (r x) xs) _ k))

-- no entry of a kernel has a stamp above its greatest one
abbrev is_under : ℕ → ℕ → Entry → Bool
is_under k t d = not (d.kernel == k) || nat_le d.stamp t

all_under : (k t : ℕ) (es : List Entry) → greatest_stamp (in_kernel k es) ≤ t → IsTrue (list_all (is_under k t) es)
unfolding in_kernel greatest_stamp
all_under k t [] h = refl
all_under k t (e ∷ es) h = by_kernel (λ low. all_under k t es low) (e.kernel == k) refl h
  where
    test : (x y : ℕ) → x ≤ y → IsTrue (nat_le x y)
    test x y h = grind (arith, nat_tests)

    by_kernel : (greatest_stamp (in_kernel k es) ≤ t → IsTrue (list_all (is_under k t) es)) → (c : Bool) → (e.kernel == k) ≡ c → greatest_stamp (cond c (e ∷ in_kernel k es) (in_kernel k es)) ≤ t → IsTrue (list_all (is_under k t) (e ∷ es))
    by_kernel more true is h =
        let low : e.stamp ≤ t = omega (arith, h) in
        let rest : greatest_stamp (in_kernel k es) ≤ t = omega (arith, h) in
        and_both (is_under k t e) _ (ap (λ c. not c || nat_le e.stamp t) is ∙ test e.stamp t low) (more rest)
    by_kernel more false is h = and_both (is_under k t e) _ (ap (λ c. not c || nat_le e.stamp t) is) (more h)

there : (cs : List Command) (i : ℕ) → i < length cs → (c : Command) × (slice_get cs i ≡ Some c)
there [] i less = absurd (omega (arith, less))
there (c ∷ cs) zero less = (c, refl)
there (c ∷ cs) (suc i) less = there cs i (omega (arith, less))

module _ (blocks : List Block) (b : ℕ) (work : AgentWork) (r : IsRoundOf blocks b work) where
  pub mine_due : (n : ℕ) → work.first ≤ n → n < work.first + length work.commands → (c : Command) × (due_of blocks work.agent.0 n ≡ Some (record { block = b; task = Ask c }))
  mine_due n low high =
      let at = there work.commands (n - work.first) (omega (arith, low, high)) in
      let same : work.first + (n - work.first) ≡ n = omega (arith, low) in
      (at.0, ap (λ m. due_of blocks work.agent.0 m) (sym same) ∙ r.due (n - work.first) at.0 at.1)

  module _ (k : ℕ) (es : List Entry) where
    abbrev mine : Entry → Bool
    mine e = is_mine (first_at k work es) (length work.commands) e

    mine_kernel : (e : Entry) → IsTrue (mine e) → IsTrue (e.kernel == k)
    mine_kernel e h = and_left (e.kernel == k) _ (and_left (e.kernel == k && e.agent.0 == work.agent.0) _ h)

    pub mine_agent : (e : Entry) → IsTrue (mine e) → IsTrue (e.agent.0 == work.agent.0)
    mine_agent e h = and_right (e.kernel == k) _ (and_left (e.kernel == k && e.agent.0 == work.agent.0) _ h)

    mine_low : (e : Entry) → IsTrue (mine e) → work.first ≤ e.command
    mine_low e h = test work.first e.command (and_left (nat_le work.first e.command) _ (and_right (e.kernel == k && e.agent.0 == work.agent.0) _ h))
      where
        test : (x y : ℕ) → IsTrue (nat_le x y) → x ≤ y
        test x y h = grind (arith, nat_tests)

    mine_high : (e : Entry) → IsTrue (mine e) → e.command < work.first + length work.commands
    mine_high e h = test e.command (work.first + length work.commands) (and_right (nat_le work.first e.command) _ (and_right (e.kernel == k && e.agent.0 == work.agent.0) _ h))
      where
        test : (x y : ℕ) → IsTrue (nat_lt x y) → x < y
        test x y h = grind (arith, nat_tests)

    pub mine_block : (e : Entry) → IsTrue (mine e) → block_of blocks e ≡ Some b
    mine_block e h =
        ap (λ a. block_in (due_of blocks a e.command)) (eq_true e.agent.0 work.agent.0 (mine_agent e h))
        ∙ ap block_in (mine_due e.command (mine_low e h) (mine_high e h)).1

    pub mine_here : (e : Entry) → IsTrue (mine e) → IsTrue (is_here blocks b k e)
    mine_here e h = and_both (e.kernel == k) _ (mine_kernel e h) (ap (is_at b) (mine_block e h) ∙ eq_test b b refl)

    -- entries of the round, in order
    pub round_in_order : (new : List Entry) → IsTrue (list_all mine new) → IsTrue (all_pairs goes_before new) → IsTrue (all_pairs (stands_before blocks) new)
    round_in_order new own goes = pairs_follow mine goes_before (stands_before blocks) new ordered own goes
      where
        comes : (j l s t : ℕ) (c : Bool) → IsTrue (j == k) → IsTrue (l == k) → IsTrue (nat_lt s t) → IsTrue (nat_lt j l || (j == l && (nat_lt s t || c)))
        comes j l s t c h g u = later (nat_lt j l) (j == l) (nat_lt s t) c (same j l h g) u
          where
            same : (j l : ℕ) → IsTrue (j == k) → IsTrue (l == k) → IsTrue (j == l)
            same j l h g = grind (arith, nat_tests)

            later : (w x y z : Bool) → IsTrue x → IsTrue y → IsTrue (w || (x && (y || z)))
            later true x y z h g = refl
            later false true true z h g = refl
            later false true false z h g = absurd cc
            later false false y z h g = absurd cc

        same_block : (c : ℕ) → IsTrue (nat_le c c)
        same_block c = grind (arith, nat_tests)

        either : (p q : Bool) → IsTrue q → IsTrue (not p || q)
        either true q h = h
        either false q h = refl

        ordered : (d e : Entry) → IsTrue (mine d) → IsTrue (mine e) → IsTrue (goes_before d e) → IsTrue (stands_before blocks d e)
        ordered d e own_d own_e goes =
            and_both (comes_before d e && no_earlier (block_of blocks d) (block_of blocks e)) _
            (and_both (comes_before d e) _
            (comes d.kernel e.kernel d.stamp e.stamp _ (mine_kernel d own_d) (mine_kernel e own_e) (and_left (nat_lt d.stamp e.stamp) _ goes))
            (ap (λ o. no_earlier o (block_of blocks e)) (mine_block d own_d) ∙ ap (no_earlier (Some b)) (mine_block e own_e) ∙ same_block b))
            (either (d.agent.0 == e.agent.0) _ (and_right (nat_lt d.stamp e.stamp) _ goes))

    module _ (numbers : HasRisingNumbers blocks) where
      -- a task of an earlier block has a smaller number
      pub earlier_number : (m n : ℕ) (c : Due) → due_of blocks work.agent.0 m ≡ Some c → c.block < b → work.first ≤ n → n < work.first + length work.commands → m < n
      earlier_number m n c due below low high = by_order (nat_lt m n) refl
        where
          own : (d : Command) × (due_of blocks work.agent.0 n ≡ Some (record { block = b; task = Ask d }))
          own = mine_due n low high

          is_less : (x y : ℕ) → nat_lt x y ≡ true → x < y
          is_less x y h = grind (arith, nat_tests)

          not_less : (x y : ℕ) → nat_lt x y ≡ false → y ≤ x
          not_less x y h = grind (arith, nat_tests)

          block_number : Option Due → ℕ
          block_number None = 0
          block_number (Some d) = d.block

          by_same : (t : Bool) → nat_lt n m ≡ t → n ≤ m → ⊥
          by_same true t le =
              let up : b ≤ c.block = numbers work.agent.0 n m (record { block = b; task = Ask own.0 }) c (is_less n m t) own.1 due in
              omega (arith, up, below)
          by_same false t le =
              let high_m : m ≤ n = not_less n m t in
              let same : m ≡ n = omega (arith, high_m, le) in
              let blocks_same : c.block ≡ b = ap block_number (sym due ∙ ap (λ x. due_of blocks work.agent.0 x) same ∙ own.1) in
              omega (arith, blocks_same, below)

          by_order : (t : Bool) → nat_lt m n ≡ t → m < n
          by_order true t = is_less m n t
          by_order false t = absurd (by_same (nat_lt n m) refl (not_less m n t))

      -- an entry of an earlier block
      pub earlier_entry : (d : Entry) (n : ℕ) → IsTrue (is_below b (block_of blocks d)) → d.agent.0 ≡ work.agent.0 → work.first ≤ n → n < work.first + length work.commands → d.command < n
      earlier_entry d n below own low high = at (due_of blocks d.agent.0 d.command) refl below
        where
          is_less : (x y : ℕ) → IsTrue (nat_lt x y) → x < y
          is_less x y h = grind (arith, nat_tests)

          at : (o : Option Due) → due_of blocks d.agent.0 d.command ≡ o → IsTrue (is_below b (block_in o)) → d.command < n
          at None is h = absurd cc
          at (Some c) is h = earlier_number d.command n c (ap (λ a. due_of blocks a d.command) (sym own) ∙ is) (is_less c.block b h) low high

      -- entries of earlier blocks stand before those of the round
      pub round_follows : (new : List Entry) → IsTrue (list_all (λ d. is_below b (block_of blocks d)) es) → IsTrue (list_all (λ d. nat_le d.kernel k) es) → IsTrue (list_all mine new)
          → IsTrue (list_all (λ e. nat_lt (greatest_stamp (in_kernel k es)) e.stamp) new) → IsTrue (list_all (λ d. list_all (stands_before blocks d) new) es)
      round_follows new below kernels own above =
          all_follow (λ d. (is_below b (block_of blocks d) && nat_le d.kernel k) && is_under k (greatest_stamp (in_kernel k es)) d) (λ d. list_all (stands_before blocks d) new) es
          (λ d h. all_follow (λ e. mine e && nat_lt (greatest_stamp (in_kernel k es)) e.stamp) (stands_before blocks d) new
          (λ e g. stands d e (and_left (is_below b (block_of blocks d)) _ (and_left (is_below b (block_of blocks d) && nat_le d.kernel k) _ h))
          (and_right (is_below b (block_of blocks d)) _ (and_left (is_below b (block_of blocks d) && nat_le d.kernel k) _ h))
          (and_right (is_below b (block_of blocks d) && nat_le d.kernel k) _ h)
          (and_left (mine e) _ g) (and_right (mine e) _ g))
          (all_both mine (λ e. nat_lt (greatest_stamp (in_kernel k es)) e.stamp) new own above))
          (all_both (λ d. is_below b (block_of blocks d) && nat_le d.kernel k) (is_under k (greatest_stamp (in_kernel k es))) es
          (all_both (λ d. is_below b (block_of blocks d)) (λ d. nat_le d.kernel k) es below kernels)
          (all_under k (greatest_stamp (in_kernel k es)) es (omega arith)))
        where
          comes : (j l s t g : ℕ) (c : Bool) → IsTrue (nat_le j k) → IsTrue (l == k) → IsTrue (not (j == k) || nat_le s g) → IsTrue (nat_lt g t) → IsTrue (nat_lt j l || (j == l && (nat_lt s t || c)))
          comes j l s t g true h i u v = grind (arith, nat_tests)
          comes j l s t g false h i u v = grind (arith, nat_tests)

          no_later : (o : Option ℕ) → IsTrue (is_below b o) → IsTrue (no_earlier o (Some b))
          no_later None h = refl
          no_later (Some c) h = test c b h
            where
              test : (x y : ℕ) → IsTrue (nat_lt x y) → IsTrue (nat_le x y)
              test x y h = grind (arith, nat_tests)

          in_turn : (d e : Entry) → IsTrue (is_below b (block_of blocks d)) → IsTrue (mine e) → (t : Bool) → (d.agent.0 == e.agent.0) ≡ t → IsTrue (not t || nat_le d.command e.command)
          in_turn d e below own false is = refl
          in_turn d e below own true is =
              test d.command e.command
              (earlier_entry d e.command below (eq_true d.agent.0 e.agent.0 is ∙ eq_true e.agent.0 work.agent.0 (mine_agent e own)) (mine_low e own) (mine_high e own))
            where
              test : (x y : ℕ) → x < y → IsTrue (nat_le x y)
              test x y h = grind (arith, nat_tests)

          stands : (d e : Entry) → IsTrue (is_below b (block_of blocks d)) → IsTrue (nat_le d.kernel k) → IsTrue (is_under k (greatest_stamp (in_kernel k es)) d) → IsTrue (mine e) → IsTrue (nat_lt (greatest_stamp (in_kernel k es)) e.stamp) → IsTrue (stands_before blocks d e)
          stands d e below le under own above =
              and_both (comes_before d e && no_earlier (block_of blocks d) (block_of blocks e)) _
              (and_both (comes_before d e) _
              (comes d.kernel e.kernel d.stamp e.stamp (greatest_stamp (in_kernel k es)) _ le (mine_kernel e own) under above)
              (ap (no_earlier (block_of blocks d)) (mine_block e own) ∙ no_later (block_of blocks d) below))
              (in_turn d e below own (d.agent.0 == e.agent.0) refl)
