-- The lines of what one agent did alone: each is the act or the end that it was done as, and what was read is true.
use Rattle.std.proofs.Common.{◌≡◌, ℕ, ◌<◌, Bool, true, not, ◌==◌, List, [], ◌∷◌, ◌++◌, length, map, filter, refl, sym, ap, subst, ◌∙◌, arith, IsTrue, append_assoc, unwrap_or, suc}
use Rattle.std.specs.Prelude.{Option, None, Some, option_map}
use Rattle.std.specs.List.{list_all}
use Rattle.std.specs.FinMap as finmap
use Rattle.std.proofs.lemmas.Bool.Decides.{nat_tests}
use Rattle.ho_base.specs.Objects.{session_no, file_no}
use Rattle.ho_base.specs.declared.numbers.FileNo.{FileNo}
use Rattle.ho_base.specs.declared.numbers.Kind.{Kind}
use Rattle.ho_base.specs.declared.numbers.Order.{Order}
use Rattle.ho_base.specs.declared.numbers.SlotNo.{SlotNo}
use Rattle.ho_events.specs.Session.{files_of}
use Rattle.ho_events.specs.declared.entry.Entry.{Entry}
use Rattle.ho_events.specs.declared.slip.At.{At}
use Rattle.ho_events.specs.History.{on}
use Rattle.ho_world.specs.World.{State, Nothing, World, run, file_in, session_in}
use Rattle.ho_world.specs.Entries.{in_kernel, beginning, Line, lines_from}
use Rattle.ho_world.specs.Acts.{Claim, IsFile, BeganAs, HasFiles, HasToken, Reference, sort_of, references, reference_at, IsSort, Holds, AllHold, Act}
use Rattle.ho_world.specs.Legal.{seen_at, begun_at, Fits}
use Rattle.ho_world.specs.Logs.{Known, HoldsOf, IsClaimed, AreClaimed, AreDone, deed_of, end_with, grown, known_all, paired_on}
use Rattle.ho_world.proofs.Fronts.{and_both, and_left, and_right, all_append, all_follow, filter_front, filter_parts, filter_in, eq_test}
use Rattle.ho_world.proofs.Grow.{begins_same}
use Rattle.ho_world.proofs.Rises.{on_parts}

-- all items pass
pub all_pass : {T : Type 0} (p : T → Bool) (xs : List T) → IsTrue (list_all p xs) → filter p xs ≡ xs
all_pass p [] h = refl
all_pass p (x ∷ xs) h = filter_in p x xs (and_left (p x) _ h) ∙ ap (λ ys. x ∷ ys) (all_pass p xs (and_right (p x) _ h))

other_kernel : (j k m : ℕ) → j < k → IsTrue (m == k) → IsTrue (not (m == j))
other_kernel j k m less h = grind (arith, nat_tests)

-- entries of kernel k after others

module _ (start : World) (k : ℕ) (es seen : List Entry) (own : IsTrue (list_all (λ e. e.kernel == k) seen)) where
  pub kernel_here : in_kernel k (es ++ seen) ≡ in_kernel k es ++ seen
  unfolding in_kernel
  kernel_here = filter_parts (λ e. e.kernel == k) es seen ∙ ap (λ xs. filter (λ e. e.kernel == k) es ++ xs) (all_pass (λ e. e.kernel == k) seen own)

  earlier_kernels : (j : ℕ) → j < k → in_kernel j (es ++ seen) ≡ in_kernel j es
  unfolding in_kernel
  earlier_kernels j less = filter_front (λ e. e.kernel == j) es seen (all_follow (λ e. e.kernel == k) (λ e. not (e.kernel == j)) seen (λ e h. other_kernel j k e.kernel less h) own)

  pub same_beginning : beginning start (es ++ seen) k ≡ beginning start es k
  same_beginning = begins_same start (es ++ seen) es k earlier_kernels

module _ (start : World) (k : ℕ) (es : List Entry) where
  abbrev base : World
  base = beginning start es k

  abbrev histories : ℕ → List Entry
  histories o = on o (in_kernel k es)

  abbrev now : List Entry → ℕ → State
  now seen o = unwrap_or (run (base.at o) (grown histories seen o)) (base.at o)

  abbrev line_of : List Entry → Entry → Line
  line_of seen e = record { before = es ++ seen; entry = e }

  begun_is_base : (seen : List Entry) (e : Entry) → IsTrue (list_all (λ x. x.kernel == k) seen) → e.kernel ≡ k → begun_at start (line_of seen e) ≡ base.at
  begun_is_base seen e own kernel =
      ap (λ j. (beginning start (es ++ seen) j).at) kernel ∙ ap (λ (w : World). w.at) (same_beginning start k es seen own)

  seen_is_now : (seen : List Entry) (e : Entry) → IsTrue (list_all (λ x. x.kernel == k) seen) → e.kernel ≡ k → seen_at start (line_of seen e) ≡ now seen
  seen_is_now seen e own kernel = λ i o. point o i
    where
      point : (o : ℕ) → seen_at start (line_of seen e) o ≡ now seen o
      point o =
          ap (λ j. seen_at start (line_of seen (record e { kernel = j })) o) kernel
          ∙ ap (λ (w : World). unwrap_or (run (w.at o) (on o (in_kernel k (es ++ seen)))) (w.at o)) (same_beginning start k es seen own)
          ∙ ap (λ xs. unwrap_or (run (base.at o) xs) (base.at o)) (ap (on o) (kernel_here start k es seen own) ∙ on_parts o (in_kernel k es) seen)

  -- claims
  module _ (begun : ℕ → Option State) (begun_is : (o : ℕ) (s : State) → begun o ≡ Some s → base.at o ≡ s) where
    module _ (seen : List Entry) where
      abbrev known : Option State → ℕ → Option Known
      known s o = option_map (λ x. record { start = x; history = grown histories seen o }) s

      file_claim : (f : FileNo) (kind : Kind) (order : Order) (s : Option State) → begun (file_no f.0) ≡ s → HoldsOf (known s (file_no f.0)) (IsFile f kind order) → Holds base.at (now seen) (IsFile f kind order)
      file_claim f kind order None is h = absurd h
      file_claim f kind order (Some s) is h =
          ap (λ x. sort_of (file_in (unwrap_or (run x (grown histories seen (file_no f.0))) x))) (begun_is (file_no f.0) s is) ∙ h

      files_claim : (slot : SlotNo) (files : List Reference) (s : Option State) → begun (session_no slot.0) ≡ s → HoldsOf (known s (session_no slot.0)) (HasFiles slot files) → Holds base.at (now seen) (HasFiles slot files)
      files_claim slot files None is h = absurd h
      files_claim slot files (Some s) is h =
          ap (λ x. references (session_in (unwrap_or (run x (grown histories seen (session_no slot.0))) x))) (begun_is (session_no slot.0) s is) ∙ h

      token_claim : (slot : SlotNo) (token : ℕ) (r : Reference) (s : Option State) → begun (session_no slot.0) ≡ s → HoldsOf (known s (session_no slot.0)) (HasToken slot token r) → Holds base.at (now seen) (HasToken slot token r)
      token_claim slot token r None is h = absurd h
      token_claim slot token r (Some s) is h =
          ap (λ x. reference_at (finmap.get (files_of (session_in (unwrap_or (run x (grown histories seen (session_no slot.0))) x))) token)) (begun_is (session_no slot.0) s is) ∙ h

      began_claim : (f : FileNo) (kind : Kind) (order : Order) (s : Option State) → begun (file_no f.0) ≡ s → sort_of (file_in (unwrap_or s Nothing)) ≡ Some (record { kind = kind; order = order.0 }) → IsSort base.at f kind order
      began_claim f kind order None is h = absurd cc
      began_claim f kind order (Some s) is h = ap (λ x. sort_of (file_in x)) (begun_is (file_no f.0) s is) ∙ h

      claim_holds : (c : Claim) → IsClaimed begun (known_all begun histories seen) c → Holds base.at (now seen) c
      claim_holds (IsFile f kind order) h = file_claim f kind order (begun (file_no f.0)) refl h
      claim_holds (BeganAs f kind order) h = began_claim f kind order (begun (file_no f.0)) refl h
      claim_holds (HasFiles slot files) h = files_claim slot files (begun (session_no slot.0)) refl h
      claim_holds (HasToken slot token r) h = token_claim slot token r (begun (session_no slot.0)) refl h

      claims_hold : (cs : List Claim) → AreClaimed begun (known_all begun histories seen) cs → AllHold base.at (now seen) cs
      claims_hold [] h = tt
      claims_hold (c ∷ cs) h = (claim_holds c h.0, claims_hold cs h.1)

    claims_at : (seen : List Entry) (e : Entry) → IsTrue (list_all (λ x. x.kernel == k) seen) → e.kernel ≡ k → (cs : List Claim) → AreClaimed begun (known_all begun histories seen) cs → AllHold (begun_at start (line_of seen e)) (seen_at start (line_of seen e)) cs
    claims_at seen e own kernel cs h =
        subst (λ x. AllHold x (seen_at start (line_of seen e)) cs) (sym (begun_is_base seen e own kernel))
        (subst (λ x. AllHold base.at x cs) (sym (seen_is_now seen e own kernel)) (claims_hold seen cs h))

    -- the lines of one command
    pub chunk_fits : (at : At) → at.kernel ≡ k → (last : ℕ) (acts : List Act) (reply : _) (seen new : List Entry) (last' : ℕ) → IsTrue (list_all (λ x. x.kernel == k) seen)
        → AreDone begun at last (map deed_of acts ++ end_with reply ∷ []) (paired_on begun histories seen new) last'
        → Fits start (lines_from (es ++ seen) new) acts reply × (length (lines_from (es ++ seen) new) ≡ suc (length acts))
    unfolding AreDone paired_on lines_from
    chunk_fits at kernel last [] reply seen [] last' own h = absurd h
    chunk_fits at kernel last [] reply seen (e ∷ []) last' own h = (
      (record { object = ap (λ (x : Entry). x.object) h.0; event = ap (λ (x : Entry). x.event) h.0; replied = ap (λ (x : Entry). x.reply) h.0 }, refl),
      refl,
    )
    chunk_fits at kernel last [] reply seen (e ∷ d ∷ new) last' own h = absurd h.4
    chunk_fits at kernel last (act ∷ acts) reply seen [] last' own h = absurd h
    chunk_fits at kernel last (act ∷ acts) reply seen (e ∷ new) last' own h =
        let here : e.kernel ≡ k = ap (λ (x : Entry). x.kernel) h.0 ∙ kernel in
        let more = chunk_fits at kernel e.stamp acts reply (seen ++ e ∷ []) new last' (all_append (λ x. x.kernel == k) seen (e ∷ []) own (and_both (e.kernel == k) true (eq_test e.kernel k here) refl)) h.4 in
        let place : (es ++ seen) ++ e ∷ [] ≡ es ++ (seen ++ e ∷ []) = append_assoc es seen (e ∷ []) in (
          (
            record {
              object = ap (λ (x : Entry). x.object) h.0;
              event = ap (λ (x : Entry). x.event) h.0;
              reply = ap (λ (x : Entry). x.reply) h.0;
              claims = claims_at seen e own here act.claims h.3;
            },
            subst (λ s. Fits start (lines_from s new) acts reply) (sym place) more.0,
          ),
          one_more _ _ (ap (λ s. length (lines_from s new)) place ∙ more.1),
        )
      where
        one_more : (m n : ℕ) → m ≡ suc n → suc m ≡ suc (suc n)
        one_more m n is = omega (arith, is)
