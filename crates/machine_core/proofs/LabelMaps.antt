-- Pairs of labels and files, as maps.
use Rattle.std.proofs.Common.{◌≡◌, ℕ, Bool, true, false, cond, not, List, [], ◌∷◌, ◌++◌, filter, refl, ap, sym, ◌∙◌, Ordering}
use Rattle.std.specs.Prelude.{Option, None, Some}
use Rattle.std.specs.Ordering.{nat_cmp, eq_by_cmp}
use Rattle.std.specs.Cmp.Lexicographic.{slice_cmp, nat_list_cmp_total, nat_list_eq_equiv, texts_ties, same_text}
use Rattle.std.specs.FinMap as finmap
use Rattle.std.specs.FinMap.{find}
use Rattle.ho_base.specs.declared.numbers.FileNo.{FileNo}
use Rattle.ho_events.specs.ByName.{among}
use Rattle.ho_events.specs.Lists.{same_bytes}
use Rattle.ho_world.specs.Sequences.{Labels}
use Rattle.machine_core.specs.LabelsShown.{labels_of}

abbrev Pairs : Type 0
Pairs = List (List ℕ × FileNo)

abbrev cmp : List ℕ → List ℕ → Ordering
cmp = slice_cmp nat_cmp

tied : (q n : List ℕ) → eq_by_cmp cmp q n ≡ same_bytes n q
tied q n = sym (texts_ties q n) ∙ nat_list_eq_equiv.symm q n

same_label : (a b : List ℕ) → same_bytes a b ≡ true → a ≡ b
same_label a b h = same_text a b (sym h)

find_among : (q : List ℕ) (pairs : Pairs) → find cmp q pairs ≡ among q pairs
unfolding among
find_among q [] = refl
find_among q (e ∷ pairs) = (λ i. cond (tied q e.0 i) (Some e.1) (find_among q pairs i))

get_bound : (pairs : Pairs) (q : List ℕ) → finmap.get (labels_of pairs) q ≡ among q pairs
unfolding labels_of
get_bound pairs q = finmap.get-from_entries nat_list_cmp_total pairs q ∙ find_among q pairs

pub file_bound : (label : List ℕ) (pairs : Pairs) → among label pairs ≡ finmap.get (labels_of pairs) label
file_bound label pairs = sym (get_bound pairs label)

pub none_bound : (pairs : Pairs) → pairs ≡ [] → labels_of pairs ≡ finmap.empty
unfolding labels_of
none_bound pairs h = ap labels_of h

-- one label fewer
dropped : (b : Bool) (x y : Option FileNo) → cond b None x ≡ cond b None (cond b y x)
dropped true x y = refl
dropped false x y = refl

swapped : (b c : Bool) (x y : Option FileNo) → (b ≡ true → c ≡ true → ⊥) → cond c y (cond b None x) ≡ cond b None (cond c y x)
swapped true true x y other = absurd (other refl refl)
swapped true false x y other = refl
swapped false c x y other = refl

abbrev without : List ℕ → Pairs → Pairs
without label pairs = filter (λ e. not (same_bytes e.0 label)) pairs

among_without : (label q : List ℕ) (pairs : Pairs) → among q (without label pairs) ≡ cond (same_bytes label q) None (among q pairs)
unfolding among
among_without label q [] = elim (same_bytes label q) as (λ b. ◌≡◌ {A = Option FileNo} None (cond b None None)) [ true ↦ refl | false ↦ refl ]
among_without label q (e ∷ pairs) =
    elim (same_bytes e.0 label) as (λ b. same_bytes e.0 label ≡ b → among q (cond (not b) (e ∷ without label pairs) (without label pairs)) ≡ cond (same_bytes label q) None (among q (e ∷ pairs))) [
      | true ↦ λ t. among_without label q pairs ∙ dropped (same_bytes label q) (among q pairs) (Some e.1)
          ∙ ap (λ n. cond (same_bytes label q) None (cond (same_bytes n q) (Some e.1) (among q pairs))) (sym (same_label e.0 label t))
      | false ↦ λ f. ap (cond (same_bytes e.0 q) (Some e.1)) (among_without label q pairs)
          ∙ swapped (same_bytes label q) (same_bytes e.0 q) (among q pairs) (Some e.1)
          (λ b c. apart (same_bytes e.0 label) f (ap (same_bytes e.0) (same_label label q b) ∙ c))
    ] refl
  where
    apart : (b : Bool) → b ≡ false → b ≡ true → ⊥
    apart b f t = cc

same_pairs : (m n : Labels) → ((q : List ℕ) → finmap.get m q ≡ finmap.get n q) → m ≡ n
same_pairs m n = finmap.same_map nat_list_cmp_total (finmap.slice_cmp-IsAntisymmetric finmap.nat_cmp-IsAntisymmetric) m n

get_without : (label : List ℕ) (pairs : Pairs) (q : List ℕ) → finmap.get (labels_of (without label pairs)) q ≡ cond (eq_by_cmp cmp q label) None (finmap.get (labels_of pairs) q)
get_without label pairs q =
    get_bound (without label pairs) q ∙ among_without label q pairs
    ∙ (λ i. cond (sym (tied q label) i) None (sym (get_bound pairs q) i))

pub unbound : (label : List ℕ) (pairs : Pairs) → labels_of (filter (λ e. not (same_bytes e.0 label)) pairs) ≡ finmap.remove (labels_of pairs) label
unbound label pairs =
    same_pairs _ _ (λ q. get_without label pairs q ∙ sym (finmap.get-remove nat_list_cmp_total (labels_of pairs) label q))

-- a label that isn't bound any more is bound again
gone : (label : List ℕ) (pairs : Pairs) → find cmp label (without label pairs) ≡ None
gone label pairs =
    find_among label (without label pairs) ∙ among_without label label pairs ∙ ap (λ b. cond b None (among label pairs)) (nat_list_eq_equiv.refl label)

covered : (b : Bool) (x y : Option FileNo) → cond b x (cond b None y) ≡ cond b x y
covered true x y = refl
covered false x y = refl

pushed : (label : List ℕ) (file : FileNo) (pairs : Pairs) → find cmp label pairs ≡ None → labels_of (pairs ++ (label, file) ∷ []) ≡ finmap.insert (labels_of pairs) label file
unfolding labels_of
pushed label file pairs none = finmap.from_entries_push nat_list_cmp_total (finmap.slice_cmp-IsAntisymmetric finmap.nat_cmp-IsAntisymmetric) pairs label file none

pub bound_again : (label : List ℕ) (file : FileNo) (pairs : Pairs) → labels_of (filter (λ e. not (same_bytes e.0 label)) pairs ++ (label, file) ∷ []) ≡ finmap.insert (labels_of pairs) label file
bound_again label file pairs =
    pushed label file (without label pairs) (gone label pairs)
    ∙ same_pairs _ _ (λ q. finmap.get-insert nat_list_cmp_total (labels_of (without label pairs)) label file q
    ∙ ap (cond (eq_by_cmp cmp q label) (Some file)) (get_without label pairs q)
    ∙ covered (eq_by_cmp cmp q label) (Some file) (finmap.get (labels_of pairs) q)
    ∙ sym (finmap.get-insert nat_list_cmp_total (labels_of pairs) label file q))
