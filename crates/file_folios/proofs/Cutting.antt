-- Slots from an index on that are taken away.
use Rattle.std.proofs.Common.{◌≡◌, ℕ, zero, suc, ◌+◌, ◌-◌, ◌<◌, ◌≤◌, List, [], ◌∷◌, ◌++◌, length, take, drop, replicate, refl, ap, sym, subst, ◌∙◌, arith, append_assoc, get_or}
use Rattle.std.specs.Prelude.{Option, None, Some, slice_set}
use Rattle.std.specs.Option.{MatchOption}
use Rattle.std.proofs.lemmas.List.{append-nil, drop_more, drop_all, get_or_at, set_at, length-append, length-take, length-drop, length-replicate, replicate-append-replicate, take_at, drop_at, take-take, map-append, take-replicate, get_or-replicate, get_or-drop, drop-take, take_all}
use Rattle.ho_base.specs.declared.numbers.Pfn.{Pfn}
use Rattle.phys_frames.specs.Memory.{FolioValue, first_frames}
use Rattle.file_folios.specs.Slots.{slot_at, folios_in, slot_list}

folios_first : (s : Option FolioValue) (slots : List (Option FolioValue)) → folios_in (s ∷ slots) ≡ slot_list s ++ folios_in slots
unfolding folios_in
folios_first None slots = refl
folios_first (Some f) slots = refl

-- the folios below an index are taken out
pub record Taking (from : ℕ) (old : List (Option FolioValue)) (runs : List Pfn) (given : List FolioValue) (at : ℕ) (now : List (Option FolioValue)) (listed : List Pfn) (have : List FolioValue) : Type 0 where
  pub after : from ≤ at
  pub within : at ≤ length old
  pub places : now ≡ (take from old ++ replicate (at - from) None) ++ drop at old
  pub runs_all : listed ++ first_frames (folios_in (drop at old)) ≡ runs ++ first_frames (folios_in (drop from old))
  pub given_all : have ++ folios_in (drop at old) ≡ given ++ folios_in (drop from old)

module _ (from : ℕ) (old : List (Option FolioValue)) (runs : List Pfn) (given : List FolioValue) where
  pub taking_begins : from ≤ length old → Taking from old runs given from old runs given
  taking_begins le = record {
    after = omega arith;
    within = le;
    places = begun (from - from) (omega arith);
    runs_all = refl;
    given_all = refl;
  }
    where
      parts : (n : ℕ) (xs : List (Option FolioValue)) → take n xs ++ drop n xs ≡ xs
      parts zero xs = refl
      parts (suc n) [] = refl
      parts (suc n) (x ∷ xs) = ap (λ r. x ∷ r) (parts n xs)

      begun : (k : ℕ) → k ≡ 0 → old ≡ (take from old ++ replicate k None) ++ drop from old
      begun k e = rw e (sym (ap (λ t. t ++ drop from old) (append-nil (take from old)) ∙ parts from old))

  module _ (at : ℕ) (now : List (Option FolioValue)) (listed : List Pfn) (have : List FolioValue) (t : Taking from old runs given at now listed have) where
    abbrev front : List (Option FolioValue)
    front = take from old ++ replicate (at - from) None

    front_long : length front ≡ at
    front_long = length-append (take from old) (replicate (at - from) None) ∙ omega (arith, length-take from old, length-replicate {A = Option FolioValue} (at - from) None, t.after, t.within)

    now_long : length now ≡ length old
    now_long = ap length t.places ∙ length-append front (drop at old) ∙ omega (arith, front_long, length-drop at old, t.within)

    module _ (lt : at < length now) where
      inside : at < length old
      inside = omega (arith, now_long)

      split : drop at old ≡ slot_at old at ∷ drop (at + 1) old
      split = drop_more old at None inside

      shape : now ≡ front ++ slot_at old at ∷ drop (at + 1) old
      shape = t.places ∙ ap (λ d. front ++ d) split

      pub slot_same : slot_at now at ≡ slot_at old at
      slot_same = ap (λ xs. slot_at xs at) shape ∙ get_or_at front (slot_at old at) (drop (at + 1) old) None at front_long

      folios_next : folios_in (drop at old) ≡ slot_list (slot_at now at) ++ folios_in (drop (at + 1) old)
      folios_next = ap folios_in split ∙ folios_first (slot_at old at) (drop (at + 1) old) ∙ ap (λ s. slot_list s ++ folios_in (drop (at + 1) old)) (sym slot_same)

      pub taking_more : (next : List (Option FolioValue)) (longer : List Pfn) (got : List FolioValue) →
          next ≡ slice_set now at None → longer ≡ listed ++ first_frames (slot_list (slot_at now at)) → got ≡ have ++ slot_list (slot_at now at) →
          Taking from old runs given (at + 1) next longer got
      taking_more next longer got en et eg = record {
        after = omega (arith, t.after);
        within = omega (arith, inside);
        places = en ∙ ap (λ xs. slice_set xs at None) shape ∙ set_at front (slot_at old at) (drop (at + 1) old) None at front_long
            ∙ sym (append_assoc front (None ∷ []) (drop (at + 1) old))
            ∙ ap (λ f. f ++ drop (at + 1) old) (append_assoc (take from old) (replicate (at - from) None) (None ∷ []) ∙ ap (λ r. take from old ++ r) (replicate-append-replicate (at - from) 1 None))
            ∙ ap (λ k. (take from old ++ replicate k None) ++ drop (at + 1) old) (omega (arith, t.after));
        runs_all = ap (λ x. x ++ first_frames (folios_in (drop (at + 1) old))) et ∙ append_assoc listed (first_frames (slot_list (slot_at now at))) (first_frames (folios_in (drop (at + 1) old)))
            ∙ ap (λ x. listed ++ x) (sym (map-append (λ (f : FolioValue). f.first) (slot_list (slot_at now at)) (folios_in (drop (at + 1) old))))
            ∙ ap (λ x. listed ++ first_frames x) (sym folios_next) ∙ t.runs_all;
        given_all = ap (λ x. x ++ folios_in (drop (at + 1) old)) eg ∙ append_assoc have (slot_list (slot_at now at)) (folios_in (drop (at + 1) old))
            ∙ ap (λ x. have ++ x) (sym folios_next) ∙ t.given_all;
      }

      -- the next folio fits where those that are left do
      first_fits : (xs ys zs : List FolioValue) → zs ≡ xs ++ ys → length xs ≤ length zs
      first_fits xs ys zs e = omega (arith, ap length e, length-append xs ys)

      pub next_fits : length (slot_list (slot_at now at)) ≤ length (folios_in (drop at old))
      next_fits = first_fits (slot_list (slot_at now at)) (folios_in (drop (at + 1) old)) (folios_in (drop at old)) folios_next

      sum_of : (xs ys zs : List FolioValue) → zs ≡ xs ++ ys → length zs ≡ length xs + length ys
      sum_of xs ys zs e = ap length e ∙ length-append xs ys

      pub rest_fits : length (folios_in (drop at old)) ≡ length (slot_list (slot_at now at)) + length (folios_in (drop (at + 1) old))
      rest_fits = sum_of (slot_list (slot_at now at)) (folios_in (drop (at + 1) old)) (folios_in (drop at old)) folios_next

    module _ (done : length now ≤ at) where
      none_left : drop at old ≡ []
      none_left = drop_all at old (omega (arith, now_long))

      no_folios : folios_in (drop at old) ≡ []
      unfolding folios_in
      no_folios = ap folios_in none_left

      pub taken_places : (n : ℕ) → n ≡ length old → now ≡ take from old ++ replicate (n - from) None
      taken_places n e = t.places ∙ ap (λ d. front ++ d) none_left ∙ append-nil front ∙ ap (λ k. take from old ++ replicate (k - from) None) (omega (arith, now_long, t.within, e))

      pub taken_runs : listed ≡ runs ++ first_frames (folios_in (drop from old))
      taken_runs = sym (append-nil listed) ∙ ap (λ x. listed ++ first_frames x) (sym no_folios) ∙ t.runs_all

      pub taken_given : have ≡ given ++ folios_in (drop from old)
      taken_given = sym (append-nil have) ∙ ap (λ x. have ++ x) (sym no_folios) ∙ t.given_all

-- one slot fewer at the end, where those past a number are empty
pub fewer_front : (count n : ℕ) (old now next : List (Option FolioValue)) → count < n → take count now ≡ take count old → next ≡ take (n - 1) now → take count next ≡ take count old
fewer_front count n old now next lt e is = ap (take count) is ∙ take-take count (n - 1) now (omega arith) ∙ e

take_same : {A : Type 0} → (k m : ℕ) (x : A) → m ≤ k → take m (replicate k x) ≡ replicate m x
take_same k m x h = take-replicate m k x h

pub fewer_rest : (count n : ℕ) (now next : List (Option FolioValue)) → count < n → drop count now ≡ replicate (n - count) None → next ≡ take (n - 1) now → drop count next ≡ replicate ((n - 1) - count) None
fewer_rest count n now next lt e is =
    ap (drop count) is ∙ ap (λ m. drop count (take m now)) (omega arith) ∙ drop-take count ((n - 1) - count) now ∙ ap (take ((n - 1) - count)) e
    ∙ take_same (n - count) ((n - 1) - count) None (omega arith)

pub last_none : (count n : ℕ) (now : List (Option FolioValue)) (last : Option (Option FolioValue)) → count < n → drop count now ≡ replicate (n - count) None → last ≡ Some (get_or now (n - 1) None) → MatchOption last (Unit {0}) (λ s. s ≡ None)
last_none count n now last lt e is =
    let there : get_or now (n - 1) None ≡ None =
    ap (λ m. get_or now m None) (omega arith) ∙ sym (get_or-drop count now ((n - 1) - count) None) ∙ ap (λ xs. get_or xs ((n - 1) - count) None) e
    ∙ get_or-replicate (n - count) ((n - 1) - count) None None (omega arith) in
    subst (λ o. MatchOption o (Unit {0}) (λ s. s ≡ None)) (sym is) there

pub all_popped : (count n : ℕ) (old now : List (Option FolioValue)) → take count now ≡ take count old → length now ≡ n → n ≤ count → now ≡ take count old
all_popped count n old now e long le = sym (take_all count now (omega arith)) ∙ e

pub rest_empty : (count n : ℕ) (old now : List (Option FolioValue)) → count ≤ length old → now ≡ take count old ++ replicate n None → drop count now ≡ replicate n None
rest_empty count n old now le e = ap (drop count) e ∙ drop_at (take count old) (replicate n None) count (length-take count old ∙ omega arith)

pub front_same : (count n : ℕ) (old now : List (Option FolioValue)) → count ≤ length old → now ≡ take count old ++ replicate n None → take count now ≡ take count old
front_same count n old now le e = ap (take count) e ∙ take_at (take count old) (replicate n None) count (length-take count old ∙ omega arith)

-- the folios by index, one more
pub folios_at : (slots : List (Option FolioValue)) (at : ℕ) (d : Option FolioValue) → at < length slots → folios_in (drop at slots) ≡ slot_list (get_or slots at d) ++ folios_in (drop (at + 1) slots)
folios_at slots at d lt = ap folios_in (drop_more slots at d lt) ∙ folios_first (get_or slots at d) (drop (at + 1) slots)

-- the runs of the folios below an index are listed
pub record Listing (slots : List (Option FolioValue)) (before : List Pfn) (at : ℕ) (listed : List Pfn) : Type 0 where
  pub runs_all : listed ++ first_frames (folios_in (drop at slots)) ≡ before ++ first_frames (folios_in slots)

pub listing_begins : (slots : List (Option FolioValue)) (before : List Pfn) → Listing slots before 0 before
listing_begins slots before = record { runs_all = refl }

module _ (slots : List (Option FolioValue)) (before : List Pfn) (at : ℕ) (listed : List Pfn) (t : Listing slots before at listed) where
  pub listing_more : (d s : Option FolioValue) (next : List Pfn) → at < length slots → s ≡ get_or slots at d → next ≡ listed ++ first_frames (slot_list s) → Listing slots before (at + 1) next
  listing_more d s next lt is e = record {
    runs_all = ap (λ x. x ++ first_frames (folios_in (drop (at + 1) slots))) e ∙ append_assoc listed (first_frames (slot_list s)) (first_frames (folios_in (drop (at + 1) slots)))
        ∙ ap (λ x. listed ++ x) (sym (map-append (λ (f : FolioValue). f.first) (slot_list s) (folios_in (drop (at + 1) slots))))
        ∙ ap (λ x. listed ++ first_frames x) (ap (λ o. slot_list o ++ folios_in (drop (at + 1) slots)) is ∙ sym (folios_at slots at d lt)) ∙ t.runs_all;
  }

  none_past_end : folios_in (drop at slots) ≡ folios_in [] → folios_in (drop at slots) ≡ []
  unfolding folios_in
  none_past_end e = e

  pub listing_ends : length slots ≤ at → listed ≡ before ++ first_frames (folios_in slots)
  listing_ends h = sym (append-nil listed) ∙ ap (λ x. listed ++ first_frames x) (sym (none_past_end (ap folios_in (drop_all at slots h)))) ∙ t.runs_all

pub listing_room : (slots : List (Option FolioValue)) (at : ℕ) (d s : Option FolioValue) → at < length slots → s ≡ get_or slots at d → length (folios_in (drop at slots)) ≡ length (slot_list s) + length (folios_in (drop (at + 1) slots))
listing_room slots at d s lt is =
    ap length (folios_at slots at d lt) ∙ length-append (slot_list (get_or slots at d)) (folios_in (drop (at + 1) slots))
    ∙ ap (λ o. length (slot_list o) + length (folios_in (drop (at + 1) slots))) (sym is)

no_folios_in : folios_in [] ≡ []
unfolding folios_in
no_folios_in = refl

pub past_folios : (slots : List (Option FolioValue)) (n : ℕ) → length slots ≤ n → folios_in (drop n slots) ≡ []
past_folios slots n le = ap folios_in (drop_all n slots le) ∙ no_folios_in
