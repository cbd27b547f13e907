-- One block more.
use Rattle.std.proofs.Common.{◌≡◌, ℕ, ◌+◌, ◌<◌, ◌≤◌, Bool, true, false, not, ◌&&◌, ◌||◌, ◌==◌, nat_lt, nat_le, List, [], ◌∷◌, ◌++◌, length, filter, refl, sym, ap, subst, ◌∙◌, arith, IsTrue, append_assoc, is_some, unwrap_or}
use Rattle.std.specs.Prelude.{Option, None, Some, if◌then◌else◌}
use Rattle.std.specs.List.{list_all}
use Rattle.std.proofs.lemmas.Bool.Decides.{nat_tests}
use Rattle.std.proofs.lemmas.List.{append-nil}
use Rattle.ho_events.specs.declared.entry.Entry.{Entry}
use Rattle.ho_events.specs.declared.script.Block.{Block}
use Rattle.ho_events.specs.History.{run_from, on}
use Rattle.ho_events.specs.declared.command.Command.{Command}
use Rattle.ho_events.specs.declared.script.Block.TheVariants.{Round, Kexec}
use Rattle.ho_world.specs.World.{World, run}
use Rattle.ho_world.specs.Entries.{in_kernel, beginning, all_pairs}
use Rattle.ho_world.specs.Tasks.{Reboot, Due, due_of, due_from, or_else, asked_in, command_among}
use Rattle.ho_world.specs.Legal.{block_of, block_in, is_below, is_stamped}
use Rattle.ho_world.specs.Readings.{are_stamped, stands_before, is_known, IsDoneAt, Readings}
use Rattle.ho_world.specs.Work.{is_following, is_not_below}
use Rattle.ho_world.specs.Through.{IsDoneBy, IsThrough, is_at, is_here, IsNext}
use Rattle.ho_world.proofs.Fronts.{and_both, and_left, and_right, all_append, all_follow, filter_front, filter_parts, filter_in, eq_true}
use Rattle.ho_world.proofs.Grow.{begins_same, done_stays, done_stays_kernel}

-- an order of two lists, one after the other
pub pairs_parts : (r : Entry → Entry → Bool) (xs ys : List Entry) → IsTrue (all_pairs r xs) → IsTrue (all_pairs r ys) → IsTrue (list_all (λ d. list_all (r d) ys) xs) → IsTrue (all_pairs r (xs ++ ys))
unfolding all_pairs
pairs_parts r [] ys h k across = k
pairs_parts r (x ∷ xs) ys h k across =
    and_both (list_all (r x) (xs ++ ys)) _ (all_append (r x) xs ys (and_left (list_all (r x) xs) _ h) (and_left (list_all (r x) ys) _ across))
    (pairs_parts r xs ys (and_right (list_all (r x) xs) _ h) k (and_right (list_all (r x) ys) _ across))

stamped_parts : (blocks : List Block) (seen xs ys : List Entry) → IsTrue (are_stamped blocks seen xs) → IsTrue (are_stamped blocks (seen ++ xs) ys) → IsTrue (are_stamped blocks seen (xs ++ ys))
unfolding are_stamped
stamped_parts blocks seen [] ys h k = subst (λ s. IsTrue (are_stamped blocks s ys)) (append-nil seen) k
stamped_parts blocks seen (x ∷ xs) ys h k =
    and_both (is_stamped blocks seen x) _ (and_left (is_stamped blocks seen x) _ h)
    (stamped_parts blocks (seen ++ x ∷ []) xs ys (and_right (is_stamped blocks seen x) _ h)
    (subst (λ s. IsTrue (are_stamped blocks s ys)) (sym (append_assoc seen (x ∷ []) xs)) k))

not_kernel : (i k m : ℕ) → i < k → IsTrue (m == k) → IsTrue (not (m == i))
not_kernel i k m less h = grind (arith, nat_tests)

above_kernel : (i k m : ℕ) → k < i → IsTrue (nat_le m k) → IsTrue (not (m == i))
above_kernel i k m less h = grind (arith, nat_tests)

same_le : (m k : ℕ) → IsTrue (m == k) → IsTrue (nat_le m k)
same_le m k h = grind (arith, nat_tests)

le_same : (m k i : ℕ) → i ≤ k → IsTrue (m == k) → IsTrue (nat_le i m)
le_same m k i h e = grind (arith, nat_tests)

below_more : (b : ℕ) (o : Option ℕ) → IsTrue (is_below b o) → IsTrue (is_below (b + 1) o)
below_more b None h = absurd cc
below_more b (Some c) h = grind (arith, nat_tests)

none_left : (p : Entry → Bool) (xs : List Entry) → IsTrue (list_all (λ x. not (p x)) xs) → filter p xs ≡ []
none_left p xs h = filter_front p [] xs h

module _ (start : World) (blocks : List Block) (es new : List Entry) (b k : ℕ) (t : IsThrough start blocks es b k) (n : IsNext start blocks es new b k) where
  kernel_here : (e : Entry) → IsTrue (is_here blocks b k e) → IsTrue (e.kernel == k)
  kernel_here e h = and_left (e.kernel == k) _ h

  block_here : (e : Entry) → IsTrue (is_here blocks b k e) → block_of blocks e ≡ Some b
  block_here e h = at (block_of blocks e) (and_right (e.kernel == k) _ h)
    where
      at : (o : Option ℕ) → IsTrue (is_at b o) → o ≡ Some b
      at None h = absurd cc
      at (Some c) h = ap (λ x. Some x) (eq_true c b h)

  kernels_before : (j : ℕ) → j < k → in_kernel j (es ++ new) ≡ in_kernel j es
  unfolding in_kernel
  kernels_before j less = filter_front (λ e. e.kernel == j) es new (all_follow (is_here blocks b k) (λ e. not (e.kernel == j)) new (λ e h. not_kernel j k e.kernel less (kernel_here e h)) n.here)

  beginning_same : (j : ℕ) → j ≤ k → beginning start (es ++ new) j ≡ beginning start es j
  beginning_same j le = begins_same start (es ++ new) es j (λ i less. kernels_before i (omega (arith, le, less)))

  kernel_now : in_kernel k (es ++ new) ≡ in_kernel k es ++ new
  unfolding in_kernel
  kernel_now = filter_parts (λ e. e.kernel == k) es new ∙ ap (λ xs. filter (λ e. e.kernel == k) es ++ xs) (all_in new n.here)
    where
      all_in : (xs : List Entry) → IsTrue (list_all (is_here blocks b k) xs) → filter (λ e. e.kernel == k) xs ≡ xs
      all_in [] h = refl
      all_in (x ∷ xs) h = filter_in (λ e. e.kernel == k) x xs (and_left (x.kernel == k) _ (and_left (is_here blocks b k x) _ h)) ∙ ap (λ ys. x ∷ ys) (all_in xs (and_right (is_here blocks b k x) _ h))

  kernels_all : IsTrue (list_all (λ d. nat_le d.kernel k) (es ++ new))
  kernels_all = all_append (λ d. nat_le d.kernel k) es new t.kernels (all_follow (is_here blocks b k) (λ d. nat_le d.kernel k) new (λ e h. same_le e.kernel k (kernel_here e h)) n.here)

  none_above : (j : ℕ) → k < j → in_kernel j (es ++ new) ≡ []
  unfolding in_kernel
  none_above j less = none_left (λ e. e.kernel == j) (es ++ new) (all_follow (λ d. nat_le d.kernel k) (λ e. not (e.kernel == j)) (es ++ new) (λ e h. above_kernel j k e.kernel less h) kernels_all)

  empty_run : (w : World) (o : ℕ) (xs : List Entry) → xs ≡ [] → IsTrue (is_some (run (w.at o) (on o xs)))
  unfolding on run_from
  empty_run w o [] e = refl
  empty_run w o (x ∷ xs) e = absurd cc

  objects_all : (j o : ℕ) → IsTrue (is_some (run ((beginning start (es ++ new) j).at o) (on o (in_kernel j (es ++ new)))))
  objects_all j o =
      elim (nat_lt j k) as (λ c. nat_lt j k ≡ c → IsTrue (is_some (run ((beginning start (es ++ new) j).at o) (on o (in_kernel j (es ++ new)))))) [
        | true ↦ λ lt.
            let less : j < k = below j k lt in
            subst (λ w. IsTrue (is_some (run (w.at o) (on o (in_kernel j (es ++ new)))))) (sym (beginning_same j (omega (arith, less))))
            (subst (λ xs. IsTrue (is_some (run ((beginning start es j).at o) (on o xs)))) (sym (kernels_before j less)) (t.objects j o))
        | false ↦ λ lt. elim (nat_lt k j) as (λ c. nat_lt k j ≡ c → IsTrue (is_some (run ((beginning start (es ++ new) j).at o) (on o (in_kernel j (es ++ new)))))) [
          | true ↦ λ gt. empty_run (beginning start (es ++ new) j) o (in_kernel j (es ++ new)) (none_above j (below k j gt))
          | false ↦ λ gt.
              let same : k ≡ j = neither j k lt gt in
              subst (λ i. IsTrue (is_some (run ((beginning start (es ++ new) i).at o) (on o (in_kernel i (es ++ new)))))) same
              (subst (λ w. IsTrue (is_some (run (w.at o) (on o (in_kernel k (es ++ new)))))) (sym (beginning_same k (omega arith)))
              (subst (λ xs. IsTrue (is_some (run ((beginning start es k).at o) (on o xs)))) (sym kernel_now) (n.objects o)))
        ] refl
      ] refl
    where
      below : (x y : ℕ) → nat_lt x y ≡ true → x < y
      below x y h = grind (arith, nat_tests)

      neither : (x y : ℕ) → nat_lt x y ≡ false → nat_lt y x ≡ false → y ≡ x
      neither x y h g = grind (arith, nat_tests)

  old_stays : (a m : ℕ) (d : Due) → due_of blocks a m ≡ Some d → d.block < b → IsDoneBy start blocks (es ++ new) a m d k
  old_stays a m d due less =
      let old : IsDoneBy start blocks es a m d k = t.agents a m d due less in
      let following : IsTrue (list_all (is_following blocks old.is_done.kernel a m d.block) new) =
      both old.is_done.kernel new n.here (n.later a m d due less) (λ e h. le_same e.kernel k old.is_done.kernel old.by_then (kernel_here e h)) (λ e h. subst (λ o. IsTrue (is_not_below d.block o)) (sym (block_here e h)) (not_above d.block b less)) in
      let kept : (done_stays start blocks es new a m d old.is_done following).kernel ≡ old.is_done.kernel = done_stays_kernel start blocks es new a m d old.is_done following in
      record { is_done = done_stays start blocks es new a m d old.is_done following; by_then = subst (λ j. j ≤ k) (sym kept) old.by_then }
    where
      not_above : (x y : ℕ) → x < y → IsTrue (nat_le x y)
      not_above x y h = grind (arith, nat_tests)

      both : (j : ℕ) (xs : List Entry) → IsTrue (list_all (is_here blocks b k) xs) → IsTrue (list_all (λ e. not (e.agent.0 == a) || nat_lt m e.command) xs) → ((e : Entry) → IsTrue (is_here blocks b k e) → IsTrue (nat_le j e.kernel))
          → ((e : Entry) → IsTrue (is_here blocks b k e) → IsTrue (is_not_below d.block (block_of blocks e))) → IsTrue (list_all (is_following blocks j a m d.block) xs)
      both j [] h g f q = refl
      both j (x ∷ xs) h g f q =
          and_both (is_following blocks j a m d.block x) _
          (and_both (nat_le j x.kernel && (not (x.agent.0 == a) || nat_lt m x.command)) _
          (and_both (nat_le j x.kernel) _ (f x (and_left (is_here blocks b k x) _ h)) (and_left (not (x.agent.0 == a) || nat_lt m x.command) _ g)) (q x (and_left (is_here blocks b k x) _ h)))
          (both j xs (and_right (is_here blocks b k x) _ h) (and_right (not (x.agent.0 == a) || nat_lt m x.command) _ g) f q)

  pub one_more : IsThrough start blocks (es ++ new) (b + 1) k
  one_more = record {
    below = all_append (λ d. is_below (b + 1) (block_of blocks d)) es new
        (all_follow (λ d. is_below b (block_of blocks d)) (λ d. is_below (b + 1) (block_of blocks d)) es (λ d h. below_more b (block_of blocks d) h) t.below)
        (all_follow (is_here blocks b k) (λ d. is_below (b + 1) (block_of blocks d)) new (λ d h. subst (λ o. IsTrue (is_below (b + 1) o)) (sym (block_here d h)) (next_above b)) n.here);
    kernels = kernels_all;
    stamped = stamped_parts blocks [] es new t.stamped n.stamped;
    in_order = pairs_parts (stands_before blocks) es new t.in_order n.in_order n.following;
    objects = objects_all;
    agents = λ a m d due less. elim (nat_lt d.block b) as (λ c. nat_lt d.block b ≡ c → IsDoneBy start blocks (es ++ new) a m d k) [
      | true ↦ λ lt. old_stays a m d due (is_less d.block b lt)
      | false ↦ λ lt. n.agents a m d due (is_last d.block b lt less)
    ] refl;
  }
    where
      next_above : (x : ℕ) → IsTrue (nat_lt x (x + 1))
      next_above x = grind (arith, nat_tests)

      is_less : (x y : ℕ) → nat_lt x y ≡ true → x < y
      is_less x y h = grind (arith, nat_tests)

      is_last : (x y : ℕ) → nat_lt x y ≡ false → x < y + 1 → x ≡ y
      is_last x y h g = grind (arith, nat_tests)

-- a task's block is one of the blocks
within : (b k : ℕ) (blocks : List Block) (a n : ℕ) (d : Due) → due_from b k blocks a n ≡ Some d → d.block < b + length blocks
unfolding due_from
within b k [] a n d is = absurd (not_some d is)
  where
    not_some : (d : Due) → ◌≡◌ {A = Option Due} None (Some d) → ⊥
    not_some d e = cc
within b k (Round works ∷ blocks) a n d is = round (command_among works a n) (within (b + 1) k blocks a n d) is
  where
    round : (o : Option Command) → (due_from (b + 1) k blocks a n ≡ Some d → d.block < (b + 1) + length blocks) → or_else (asked_in b o) (due_from (b + 1) k blocks a n) ≡ Some d → d.block < b + length (Round works ∷ blocks)
    round None more is = let h : d.block < (b + 1) + length blocks = more is in omega (arith, h)
    round (Some c) more is = let h : b ≡ d.block = ap (λ o. (unwrap_or o d).block) is in omega (arith, h)
within b k (Kexec blob ∷ blocks) a n d is = kexec (a == 0 && n == k) (within (b + 1) (k + 1) blocks a n d) is
  where
    kexec : (t : Bool) → (due_from (b + 1) (k + 1) blocks a n ≡ Some d → d.block < (b + 1) + length blocks) → (if t then Some (record { block = b; task = Reboot blob }) else due_from (b + 1) (k + 1) blocks a n) ≡ Some d → d.block < b + length (Kexec blob ∷ blocks)
    kexec false more is = let h : d.block < (b + 1) + length blocks = more is in omega (arith, h)
    kexec true more is = let h : b ≡ d.block = ap (λ o. (unwrap_or o d).block) is in omega (arith, h)

-- before the first block
pub through_none : (start : World) (blocks : List Block) → IsThrough start blocks [] 0 0
unfolding are_stamped all_pairs on in_kernel run_from
through_none start blocks = record {
  below = refl;
  kernels = refl;
  stamped = none_stamped;
  in_order = none_ordered;
  objects = λ j o. no_run (beginning start [] j) o j;
  agents = λ a n d due less. absurd (not_below d.block less);
}
  where
    none_stamped : IsTrue (are_stamped blocks [] [])
    none_stamped = refl

    none_ordered : IsTrue (all_pairs (stands_before blocks) [])
    none_ordered = refl

    no_run : (w : World) (o j : ℕ) → IsTrue (is_some (run (w.at o) (on o (in_kernel j []))))
    no_run w o j = refl

    not_below : (x : ℕ) → x < 0 → ⊥
    not_below x h = omega (arith, h)

-- through all blocks the list reads well
pub through_all : (start : World) (blocks : List Block) (es : List Entry) (k : ℕ) → IsThrough start blocks es (length blocks) k → Readings start blocks es
through_all start blocks es k t = record {
  stamped = t.stamped;
  in_order = t.in_order;
  known = all_follow (λ d. is_below (length blocks) (block_of blocks d)) (is_known blocks) es (λ d h. is_there (due_of blocks d.agent.0 d.command) h) t.below;
  objects = t.objects;
  agents = λ a n. done_at a n (due_of blocks a n) refl;
}
  where
    is_there : (o : Option Due) → IsTrue (is_below (length blocks) (block_in o)) → IsTrue (is_some o)
    is_there None h = absurd cc
    is_there (Some d) h = refl

    done_at : (a n : ℕ) (o : Option Due) → due_of blocks a n ≡ o → IsDoneAt start blocks es a n o
    done_at a n None is = tt
    done_at a n (Some d) is =
        let first : d.block < 0 + length blocks = within 0 1 blocks a n d is in
        (t.agents a n d is (omega (arith, first))).is_done
