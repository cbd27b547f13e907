-- Where the entries of a kexec stand: in its block, in order, and after all entries of the blocks before it.
use Rattle.std.proofs.Common.{◌≡◌, ℕ, ◌<◌, ◌≤◌, Bool, true, false, not, ◌&&◌, ◌||◌, ◌==◌, nat_lt, nat_le, List, [], ◌∷◌, ◌++◌, refl, sym, ap, ◌∙◌, arith, IsTrue, cond}
use Rattle.std.specs.Prelude.{Option, None, Some}
use Rattle.std.specs.List.{list_all}
use Rattle.std.proofs.lemmas.Bool.Decides.{nat_tests}
use Rattle.ho_base.specs.declared.numbers.Blob.{Blob}
use Rattle.ho_events.specs.History.{greatest_stamp}
use Rattle.ho_events.specs.declared.entry.Entry.{Entry}
use Rattle.ho_events.specs.declared.script.Block.{Block}
use Rattle.ho_events.specs.declared.slip.At.{At}
use Rattle.ho_world.specs.Entries.{in_kernel, comes_before, all_pairs, is_of}
use Rattle.ho_world.specs.Legal.{block_of, block_in, is_below}
use Rattle.ho_world.specs.Readings.{no_earlier, stands_before}
use Rattle.ho_world.specs.Tasks.{Reboot, Due, due_of}
use Rattle.ho_world.specs.Through.{HasRisingNumbers, is_at, is_here}
use Rattle.ho_world.proofs.AloneDue.{all_both}
use Rattle.ho_world.proofs.AloneStamps.{Stamps, is_of_at, stamps_above}
use Rattle.ho_world.proofs.Fronts.{and_both, and_left, and_right, all_follow, eq_true, eq_test}
use Rattle.kexec_laws.specs.Kexecs.{IsKexecOf}

-- no entry of a kernel has a stamp above its greatest one
abbrev is_under : ℕ → ℕ → Entry → Bool
is_under k t d = not (d.kernel == k) || nat_le d.stamp t

all_under : (k t : ℕ) (es : List Entry) → greatest_stamp (in_kernel k es) ≤ t → IsTrue (list_all (is_under k t) es)
unfolding in_kernel greatest_stamp
all_under k t [] h = refl
all_under k t (e ∷ es) h = by_kernel (λ low. all_under k t es low) (e.kernel == k) refl h
  where
    test : (x y : ℕ) → x ≤ y → IsTrue (nat_le x y)
    test x y h = grind (arith, nat_tests)

    by_kernel : (greatest_stamp (in_kernel k es) ≤ t → IsTrue (list_all (is_under k t) es)) → (c : Bool) → (e.kernel == k) ≡ c → greatest_stamp (cond c (e ∷ in_kernel k es) (in_kernel k es)) ≤ t → IsTrue (list_all (is_under k t) (e ∷ es))
    by_kernel more true is h =
        let low : e.stamp ≤ t = omega (arith, h) in
        let rest : greatest_stamp (in_kernel k es) ≤ t = omega (arith, h) in
        and_both (is_under k t e) _ (ap (λ c. not c || nat_le e.stamp t) is ∙ test e.stamp t low) (more rest)
    by_kernel more false is h = and_both (is_under k t e) _ (ap (λ c. not c || nat_le e.stamp t) is) (more h)

module _ (blocks : List Block) (b : ℕ) (blob : Blob) (at : At) (r : IsKexecOf blocks b blob at.command) (zeroth : at.agent.0 ≡ 0) where
  pub its_kernel : (e : Entry) → IsTrue (is_of_at at e) → e.kernel ≡ at.kernel
  its_kernel e h = eq_true e.kernel at.kernel (and_left (e.kernel == at.kernel) _ (and_left (e.kernel == at.kernel && e.agent.0 == at.agent.0) _ h))

  pub its_agent : (e : Entry) → IsTrue (is_of_at at e) → e.agent.0 ≡ 0
  its_agent e h = eq_true e.agent.0 at.agent.0 (and_right (e.kernel == at.kernel) _ (and_left (e.kernel == at.kernel && e.agent.0 == at.agent.0) _ h)) ∙ zeroth

  pub its_number : (e : Entry) → IsTrue (is_of_at at e) → e.command ≡ at.command
  its_number e h = eq_true e.command at.command (and_right (e.kernel == at.kernel && e.agent.0 == at.agent.0) _ h)

  pub its_due : (e : Entry) → IsTrue (is_of_at at e) → due_of blocks e.agent.0 e.command ≡ Some (record { block = b; task = Reboot blob })
  its_due e h = ap (λ a. due_of blocks a e.command) (its_agent e h) ∙ ap (due_of blocks 0) (its_number e h) ∙ r.due

  pub its_block : (e : Entry) → IsTrue (is_of_at at e) → block_of blocks e ≡ Some b
  its_block e h = ap block_in (its_due e h)

  pub its_place : (k : ℕ) → at.kernel ≡ k → (e : Entry) → IsTrue (is_of_at at e) → IsTrue (is_here blocks b k e)
  its_place k same e h = and_both (e.kernel == k) _ (eq_test e.kernel k (its_kernel e h ∙ same)) (ap (is_at b) (its_block e h) ∙ eq_test b b refl)

  pub its_own : (e : Entry) → IsTrue (is_of_at at e) → IsTrue (is_of 0 at.command e)
  its_own e h = and_both (e.agent.0 == 0) _ (eq_test e.agent.0 0 (its_agent e h)) (eq_test e.command at.command (its_number e h))

  -- in order
  stands : (d e : Entry) → IsTrue (is_of_at at d) → IsTrue (is_of_at at e) → IsTrue (nat_lt d.stamp e.stamp) → IsTrue (stands_before blocks d e)
  stands d e own_d own_e less =
      and_both (comes_before d e && no_earlier (block_of blocks d) (block_of blocks e)) _
      (and_both (comes_before d e) _
      (comes d.kernel e.kernel d.stamp e.stamp _ (its_kernel d own_d ∙ sym (its_kernel e own_e)) less)
      (ap (λ o. no_earlier o (block_of blocks e)) (its_block d own_d) ∙ ap (no_earlier (Some b)) (its_block e own_e) ∙ same_block b))
      (either (d.agent.0 == e.agent.0) d.command e.command (its_number d own_d ∙ sym (its_number e own_e)))
    where
      same_block : (c : ℕ) → IsTrue (nat_le c c)
      same_block c = grind (arith, nat_tests)

      either : (p : Bool) (m n : ℕ) → m ≡ n → IsTrue (not p || nat_le m n)
      either true m n is = grind (arith, nat_tests)
      either false m n is = refl

      comes : (j l s t : ℕ) (c : Bool) → j ≡ l → IsTrue (nat_lt s t) → IsTrue (nat_lt j l || (j == l && (nat_lt s t || c)))
      comes j l s t c is u = later (nat_lt j l) (j == l) (nat_lt s t) c (eq_test j l is) u
        where
          later : (w x y z : Bool) → IsTrue x → IsTrue y → IsTrue (w || (x && (y || z)))
          later true x y z h g = refl
          later false true true z h g = refl
          later false true false z h g = absurd cc
          later false false y z h g = absurd cc

  pub in_order : (f : ℕ → List Entry) (last last' : ℕ) (seen es : List Entry) → Stamps f last seen es last' → IsTrue (list_all (is_of_at at) es) → IsTrue (all_pairs (stands_before blocks) es)
  unfolding Stamps all_pairs
  in_order f last last' seen [] h own = refl
  in_order f last last' seen (e ∷ es) h own =
      let rest : IsTrue (list_all (is_of_at at) es) = and_right (is_of_at at e) _ own in
      and_both (list_all (stands_before blocks e) es) _
      (all_follow (λ y. is_of_at at y && nat_lt e.stamp y.stamp) (stands_before blocks e) es
      (λ y t. stands e y (and_left (is_of_at at e) _ own) (and_left (is_of_at at y) _ t) (and_right (is_of_at at y) _ t))
      (all_both (is_of_at at) (λ y. nat_lt e.stamp y.stamp) es rest (stamps_above f e.stamp last' (seen ++ e ∷ []) es h.1 e.stamp (omega arith))))
      (in_order f e.stamp last' (seen ++ e ∷ []) es h.1 rest)

  -- tasks and entries of earlier blocks
  module _ (numbers : HasRisingNumbers blocks) where
    pub earlier_number : (m : ℕ) (c : Due) → due_of blocks 0 m ≡ Some c → c.block < b → m < at.command
    earlier_number m c due below = by_order (nat_lt m at.command) refl
      where
        is_less : (x y : ℕ) → nat_lt x y ≡ true → x < y
        is_less x y h = grind (arith, nat_tests)

        not_less : (x y : ℕ) → nat_lt x y ≡ false → y ≤ x
        not_less x y h = grind (arith, nat_tests)

        block_number : Option Due → ℕ
        block_number None = 0
        block_number (Some d) = d.block

        by_same : (t : Bool) → nat_lt at.command m ≡ t → at.command ≤ m → ⊥
        by_same true t le =
            let up : b ≤ c.block = numbers 0 at.command m (record { block = b; task = Reboot blob }) c (is_less at.command m t) r.due due in
            omega (arith, up, below)
        by_same false t le =
            let high : m ≤ at.command = not_less at.command m t in
            let same : m ≡ at.command = omega (arith, high, le) in
            let blocks_same : c.block ≡ b = ap block_number (sym due ∙ ap (λ x. due_of blocks 0 x) same ∙ r.due) in
            omega (arith, blocks_same, below)

        by_order : (t : Bool) → nat_lt m at.command ≡ t → m < at.command
        by_order true t = is_less m at.command t
        by_order false t = absurd (by_same (nat_lt at.command m) refl (not_less m at.command t))

    pub earlier_entry : (d : Entry) → IsTrue (is_below b (block_of blocks d)) → d.agent.0 ≡ 0 → d.command < at.command
    earlier_entry d below own = at_due (due_of blocks d.agent.0 d.command) refl below
      where
        is_less : (x y : ℕ) → IsTrue (nat_lt x y) → x < y
        is_less x y h = grind (arith, nat_tests)

        at_due : (o : Option Due) → due_of blocks d.agent.0 d.command ≡ o → IsTrue (is_below b (block_in o)) → d.command < at.command
        at_due None is h = absurd cc
        at_due (Some c) is h = earlier_number d.command c (ap (λ a. due_of blocks a d.command) (sym own) ∙ is) (is_less c.block b h)

    module _ (k : ℕ) (same_kernel : at.kernel ≡ k) (es : List Entry) where
      abbrev base : ℕ
      base = greatest_stamp (in_kernel k es)

      follows : (d e : Entry) → IsTrue (is_below b (block_of blocks d)) → IsTrue (nat_le d.kernel k) → IsTrue (is_under k base d) → IsTrue (is_of_at at e) → IsTrue (nat_lt base e.stamp) → IsTrue (stands_before blocks d e)
      follows d e below le under own above =
          and_both (comes_before d e && no_earlier (block_of blocks d) (block_of blocks e)) _
          (and_both (comes_before d e) _
          (comes d.kernel e.kernel d.stamp e.stamp base _ le (eq_test e.kernel k (its_kernel e own ∙ same_kernel)) under above)
          (ap (no_earlier (block_of blocks d)) (its_block e own) ∙ no_later (block_of blocks d) below))
          (in_turn (d.agent.0 == e.agent.0) refl)
        where
          comes : (j l s t g : ℕ) (c : Bool) → IsTrue (nat_le j k) → IsTrue (l == k) → IsTrue (not (j == k) || nat_le s g) → IsTrue (nat_lt g t) → IsTrue (nat_lt j l || (j == l && (nat_lt s t || c)))
          comes j l s t g true h i u v = grind (arith, nat_tests)
          comes j l s t g false h i u v = grind (arith, nat_tests)

          no_later : (o : Option ℕ) → IsTrue (is_below b o) → IsTrue (no_earlier o (Some b))
          no_later None h = refl
          no_later (Some c) h = test c b h
            where
              test : (x y : ℕ) → IsTrue (nat_lt x y) → IsTrue (nat_le x y)
              test x y h = grind (arith, nat_tests)

          le_test : (m n c : ℕ) → m < c → n ≡ c → IsTrue (nat_le m n)
          le_test m n c h is = grind (arith, nat_tests)

          in_turn : (t : Bool) → (d.agent.0 == e.agent.0) ≡ t → IsTrue (not t || nat_le d.command e.command)
          in_turn false is = refl
          in_turn true is = le_test d.command e.command at.command (earlier_entry d below (eq_true d.agent.0 e.agent.0 is ∙ its_agent e own)) (its_number e own)

      -- entries of earlier blocks stand before those of the kexec
      pub kexec_follows : (new : List Entry) → IsTrue (list_all (λ d. is_below b (block_of blocks d)) es) → IsTrue (list_all (λ d. nat_le d.kernel k) es) → IsTrue (list_all (is_of_at at) new)
          → IsTrue (list_all (λ e. nat_lt base e.stamp) new) → IsTrue (list_all (λ d. list_all (stands_before blocks d) new) es)
      kexec_follows new below kernels own above =
          all_follow (λ d. (is_below b (block_of blocks d) && nat_le d.kernel k) && is_under k base d) (λ d. list_all (stands_before blocks d) new) es
          (λ d h. all_follow (λ e. is_of_at at e && nat_lt base e.stamp) (stands_before blocks d) new
          (λ e g. follows d e (and_left (is_below b (block_of blocks d)) _ (and_left (is_below b (block_of blocks d) && nat_le d.kernel k) _ h))
          (and_right (is_below b (block_of blocks d)) _ (and_left (is_below b (block_of blocks d) && nat_le d.kernel k) _ h))
          (and_right (is_below b (block_of blocks d) && nat_le d.kernel k) _ h)
          (and_left (is_of_at at e) _ g) (and_right (is_of_at at e) _ g))
          (all_both (is_of_at at) (λ e. nat_lt base e.stamp) new own above))
          (all_both (λ d. is_below b (block_of blocks d) && nat_le d.kernel k) (is_under k base) es
          (all_both (λ d. is_below b (block_of blocks d)) (λ d. nat_le d.kernel k) es below kernels)
          (all_under k base es (omega arith)))
