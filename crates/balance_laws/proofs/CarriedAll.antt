-- All sessions and files that a kexec of a sound world carries.
use Rattle.std.proofs.Common.{◌≡◌, ◌⊎◌, inl, inr, ℕ, suc, ◌<◌, ◌≤◌, Bool, true, false, T, List, [], ◌∷◌, ◌++◌, map, length, refl, sym, ap, subst, ◌∙◌, arith, Less}
use Rattle.std.specs.Prelude.{Option, None, Some, option_map, flat_map}
use Rattle.std.specs.Ordering.{nat_cmp}
use Rattle.std.specs.Cmp.Lexicographic.{slice_cmp}
use Rattle.std.specs.FinMap as finmap
use Rattle.std.specs.FinMap.{is_sorted}
use Rattle.std.specs.FinMap.Entries.{below_all}
use Rattle.std.specs.List.{AllByRecursion}
use Rattle.std.proofs.lemmas.Bool.{and_parts, cases_lt}
use Rattle.std.proofs.lemmas.Cmp.{nat_cmp_total, nat_list_cmp_total}
use Rattle.ho_base.specs.declared.limits.TheConstants.{OUT_SLOTS, FILES, SESSION_FILES}
use Rattle.ho_events.specs.File.{FileState}
use Rattle.ho_events.specs.Session.{SessionState, Listed, Free, Out, In as InSession, files_of}
use Rattle.ho_world.specs.Frozen.{CarriedFile, CarriedSession, carried_files, carried_sessions, frozen, file_carried, listed_carried, session_carried}
use Rattle.ho_world.specs.Sequences.{Labels}
use Rattle.ho_world.specs.World.{World, pool_at, registry_at, session_at, file_at}
use Rattle.balance_laws.specs.Carrying.{Rise, CarriedFits, In, Distinct, NoneShared, CanCarry, SoundCanCarry}
use Rattle.balance_laws.specs.Sound.{Sound, run_in, listed_out, number_of, name_out}
use Rattle.balance_laws.proofs.Base.{same_value, not_some}
use Rattle.balance_laws.proofs.Carried.{Member, not_less, less_member, found_of, rise_keys, has_file, carried_fits, runs_owned, one_file}
use Rattle.balance_laws.proofs.Counting.{all_below, at_most, in_both, distinct_both, distinct_from, head_out}
use Rattle.balance_laws.proofs.Giving.{is_owned_at}
use Rattle.balance_laws.proofs.Members.{sorted_true}

sorted_names : (m : finmap.FinMap (slice_cmp nat_cmp) ℕ) → is_sorted (slice_cmp nat_cmp) (finmap.entries m) ≡ true
sorted_names m = truth _ (finmap.entries_sorted m)
  where
    truth : (b : Bool) → T b → b ≡ true
    truth true t = refl
    truth false t = absurd t

-- the numbers of listed files
abbrev nums : List (ℕ × Listed) → List ℕ
nums ds = map (λ (d : ℕ × Listed). d.1.file) ds

map_both : {A B : Type 0} (f : A → B) (xs ys : List A) → map f (xs ++ ys) ≡ map f xs ++ map f ys
map_both f [] ys = refl
map_both f (x ∷ xs) ys = ap (λ zs. f x ∷ zs) (map_both f xs ys)

map_length : {A B : Type 0} (f : A → B) (xs : List A) → length (map f xs) ≡ length xs
map_length f [] = refl
map_length f (x ∷ xs) = ap suc (map_length f xs)

all_both : {A : Type 0} (P : A → Type 0) (xs ys : List A) → AllByRecursion P xs → AllByRecursion P ys → AllByRecursion P (xs ++ ys)
all_both P [] ys a b = b
all_both P (x ∷ xs) ys a b = (a.0, all_both P xs ys a.1 b)

num_in : (ds : List (ℕ × Listed)) (v : ℕ) → In v (nums ds) → (d : ℕ × Listed) × Member d ds × (d.1.file ≡ v)
num_in [] v i = absurd i
num_in (d ∷ ds) v (inl e) = (d, inl refl, sym e)
num_in (d ∷ ds) v (inr i) = let m = num_in ds v i in (m.0, inr m.1, m.2)

num_of : (ds : List (ℕ × Listed)) (d : ℕ × Listed) → Member d ds → In d.1.file (nums ds)
num_of [] d i = absurd i
num_of (e ∷ ds) d (inl s) = inl (ap (λ (y : ℕ × Listed). y.1.file) s)
num_of (e ∷ ds) d (inr i) = inr (num_of ds d i)

each_member : {A : Type 0} (P : A → Type 0) (xs : List A) → ((x : A) → Member x xs → P x) → AllByRecursion P xs
each_member P [] h = tt
each_member P (x ∷ xs) h = (h x (inl refl), each_member P xs (λ y i. h y (inr i)))

all_mapped : {A B : Type 0} (P : B → Type 0) (f : A → B) (xs : List A) → AllByRecursion (λ x. P (f x)) xs → AllByRecursion P (map f xs)
all_mapped P f [] h = tt
all_mapped P f (x ∷ xs) h = (h.0, all_mapped P f xs h.1)

module _ (labels : ℕ → Labels) (w : World) (sound : Sound w labels) where
  abbrev names : List (List ℕ × ℕ)
  names = finmap.entries (registry_at w).outgoing

  abbrev listings : List ℕ × ℕ → List (ℕ × Listed)
  listings e = finmap.entries (files_of (session_at w e.1))

  -- an outgoing name has the session of its slot
  name_there : (e : List ℕ × ℕ) → Member e names → name_out (session_at w e.1) ≡ Some e.0
  name_there e i =
      sound.parts.outgoing.there e.0 e.1
      (finmap.get-entries (registry_at w).outgoing e.0
      ∙ found_of (slice_cmp nat_cmp) nat_list_cmp_total (finmap.slice_cmp-IsAntisymmetric finmap.nat_cmp-IsAntisymmetric) names e (sorted_names (registry_at w).outgoing) i)

  -- what stands in its files is listed
  listed_there : (e : List ℕ × ℕ) → Member e names → (d : ℕ × Listed) → Member d (listings e) → listed_out (session_at w e.1) d.0 ≡ Some d.1
  listed_there e i d j = at_state (session_at w e.1) refl (name_there e i)
    where
      got : finmap.get (files_of (session_at w e.1)) d.0 ≡ Some d.1
      got =
          finmap.get-entries (files_of (session_at w e.1)) d.0
          ∙ found_of nat_cmp nat_cmp_total finmap.nat_cmp-IsAntisymmetric (listings e) d (sorted_true (files_of (session_at w e.1))) j

      at_state : (s : SessionState) → session_at w e.1 ≡ s → name_out (session_at w e.1) ≡ Some e.0 → listed_out (session_at w e.1) d.0 ≡ Some d.1
      at_state Free is h = absurd (not_some e.0 (sym (ap name_out is) ∙ h))
      at_state (InSession own opened files) is h = absurd (not_some e.0 (sym (ap name_out is) ∙ h))
      at_state (Out own files) is h = ap (λ s. listed_out s d.0) is ∙ ap (λ s. finmap.get (files_of s) d.0) (sym is) ∙ got

  -- each listed file is there and pinned
  abbrev IsHere : ℕ × Listed → Type 0
  IsHere d = (g : FileState) × (file_at w d.1.file ≡ Some g) × (g.pin ≡ true)

  listings_here : (e : List ℕ × ℕ) → Member e names → AllByRecursion IsHere (listings e)
  listings_here e i = each_member IsHere (listings e) (λ d j. has_file labels w sound e.1 d.0 d.1 (listed_there e i d j))

  -- two entries of names have two slots
  slots_apart : (e d : List ℕ × ℕ) → Member e names → Member d names → e.1 ≡ d.1 → e.0 ≡ d.0
  slots_apart e d i j same = same_value e.0 d.0 (sym (name_there e i) ∙ ap (λ n. name_out (session_at w n)) same ∙ name_there d j)

  below_rest : (e : List ℕ × ℕ) (es : List (List ℕ × ℕ)) → is_sorted (slice_cmp nat_cmp) (e ∷ es) ≡ true → (d : List ℕ × ℕ) → Member d es → e.0 ≡ d.0 → ⊥
  below_rest e es h d i same =
      let hs = and_parts (below_all (slice_cmp nat_cmp) e.0 es) (is_sorted (slice_cmp nat_cmp) es) h in
      not_less (slice_cmp nat_cmp) nat_list_cmp_total e.0 d.0
      (less_member (slice_cmp nat_cmp) nat_list_cmp_total (finmap.slice_cmp-IsAntisymmetric finmap.nat_cmp-IsAntisymmetric) e.0 es d (all_below (slice_cmp nat_cmp) e.0 es hs.0) i) same

  tail_sorted : (e : List ℕ × ℕ) (es : List (List ℕ × ℕ)) → is_sorted (slice_cmp nat_cmp) (e ∷ es) ≡ true → is_sorted (slice_cmp nat_cmp) es ≡ true
  tail_sorted e es h = (and_parts (below_all (slice_cmp nat_cmp) e.0 es) (is_sorted (slice_cmp nat_cmp) es) h).1

  -- ---- slots and names

  slot_in : (es : List (List ℕ × ℕ)) (n : ℕ) → In n (map (λ (e : List ℕ × ℕ). e.1) es) → (e : List ℕ × ℕ) × Member e es × (e.1 ≡ n)
  slot_in [] n i = absurd i
  slot_in (e ∷ es) n (inl s) = (e, inl refl, sym s)
  slot_in (e ∷ es) n (inr i) = let m = slot_in es n i in (m.0, inr m.1, m.2)

  slots_distinct : (es : List (List ℕ × ℕ)) → is_sorted (slice_cmp nat_cmp) es ≡ true → ((e : List ℕ × ℕ) → Member e es → Member e names) → Distinct (map (λ (e : List ℕ × ℕ). e.1) es)
  slots_distinct [] h is = tt
  slots_distinct (e ∷ es) h is =
      distinct_from e.1 (map (λ (d : List ℕ × ℕ). d.1) es)
      (λ i. (let m = slot_in es e.1 i in below_rest e es h m.0 m.1 (slots_apart e m.0 (is e (inl refl)) (is m.0 (inr m.1)) (sym m.2))))
      (slots_distinct es (tail_sorted e es h) (λ d i. is d (inr i)))

  slots_low : (es : List (List ℕ × ℕ)) → ((e : List ℕ × ℕ) → Member e es → Member e names) → AllByRecursion (λ n. n < OUT_SLOTS) (map (λ (e : List ℕ × ℕ). e.1) es)
  slots_low [] is = tt
  slots_low (e ∷ es) is = (sound.parts.slots.outgoing e.1 e.0 (name_there e (is e (inl refl))), slots_low es (λ d i. is d (inr i)))

  few_sessions : length (carried_sessions w) ≤ OUT_SLOTS
  few_sessions =
      let a : length (carried_sessions w) ≡ length names = map_length (session_carried w) names in
      let b : length (map (λ (e : List ℕ × ℕ). e.1) names) ≡ length names = map_length (λ (e : List ℕ × ℕ). e.1) names in
      let c : length (map (λ (e : List ℕ × ℕ). e.1) names) ≤ OUT_SLOTS = at_most OUT_SLOTS (map (λ (e : List ℕ × ℕ). e.1) names) (slots_distinct names (sorted_names (registry_at w).outgoing) (λ e i. i)) (slots_low names (λ e i. i)) in
      omega (arith, a, b, c)

  same_names : (es : List (List ℕ × ℕ)) → map (λ (s : CarriedSession). s.name) (map (session_carried w) es) ≡ map (λ (e : List ℕ × ℕ). e.0) es
  same_names [] = refl
  same_names (e ∷ es) = ap (λ ns. e.0 ∷ ns) (same_names es)

  names_rise : Rise (slice_cmp nat_cmp) (map (λ (s : CarriedSession). s.name) (carried_sessions w))
  names_rise =
      subst (Rise (slice_cmp nat_cmp)) (sym (same_names names))
      (rise_keys (slice_cmp nat_cmp) nat_list_cmp_total (finmap.slice_cmp-IsAntisymmetric finmap.nat_cmp-IsAntisymmetric) names (sorted_names (registry_at w).outgoing))

  few_files : (es : List (List ℕ × ℕ)) → AllByRecursion (λ (s : CarriedSession). length s.files ≤ SESSION_FILES) (map (session_carried w) es)
  few_files [] = tt
  few_files (e ∷ es) =
      let a : length (map (listed_carried w) (listings e)) ≡ length (listings e) = map_length (listed_carried w) (listings e) in
      let b : finmap.len (files_of (session_at w e.1)) ≡ length (listings e) = finmap.len-entries (files_of (session_at w e.1)) in
      let c : finmap.len (files_of (session_at w e.1)) ≤ SESSION_FILES = sound.parts.slots.few e.1 in
      (omega (arith, a, b, c), few_files es)

  token_of : (t h : ℕ) (o : Option FileState) → (file_carried t h o).token ≡ t
  token_of t h None = refl
  token_of t h (Some g) = refl

  same_tokens : (ds : List (ℕ × Listed)) → map (λ (c : CarriedFile). c.token) (map (listed_carried w) ds) ≡ map (λ (d : ℕ × Listed). d.0) ds
  same_tokens [] = refl
  same_tokens (d ∷ ds) = λ j. token_of d.0 d.1.handle (file_at w d.1.file) j ∷ same_tokens ds j

  tokens_rise : (es : List (List ℕ × ℕ)) → AllByRecursion (λ (s : CarriedSession). Rise nat_cmp (map (λ (c : CarriedFile). c.token) s.files)) (map (session_carried w) es)
  tokens_rise [] = tt
  tokens_rise (e ∷ es) =
      (subst (Rise nat_cmp) (sym (same_tokens (listings e))) (rise_keys nat_cmp nat_cmp_total finmap.nat_cmp-IsAntisymmetric (listings e) (sorted_true (files_of (session_at w e.1)))), tokens_rise es)

  -- ---- all files

  abbrev all_listings : List (List ℕ × ℕ) → List (ℕ × Listed)
  all_listings es = flat_map listings es

  same_files : (es : List (List ℕ × ℕ)) → flat_map (λ (s : CarriedSession). s.files) (map (session_carried w) es) ≡ map (listed_carried w) (all_listings es)
  same_files [] = refl
  same_files (e ∷ es) = ap (λ cs. map (listed_carried w) (listings e) ++ cs) (same_files es) ∙ sym (map_both (listed_carried w) (listings e) (all_listings es))

  all_here : (es : List (List ℕ × ℕ)) → ((e : List ℕ × ℕ) → Member e es → Member e names) → AllByRecursion IsHere (all_listings es)
  all_here [] is = tt
  all_here (e ∷ es) is = all_both IsHere (listings e) (all_listings es) (listings_here e (is e (inl refl))) (all_here es (λ d i. is d (inr i)))

  -- where a listed file stands
  listed_in_all : (es : List (List ℕ × ℕ)) (v : ℕ) → In v (nums (all_listings es)) → (e : List ℕ × ℕ) × Member e es × In v (nums (listings e))
  listed_in_all [] v i = absurd i
  listed_in_all (e ∷ es) v i = at_part (in_both v (nums (listings e)) (nums (all_listings es)) (subst (In v) (map_both (λ (d : ℕ × Listed). d.1.file) (listings e) (all_listings es)) i)) (λ j. listed_in_all es v j)
    where
      at_part : In v (nums (listings e)) ⊎ In v (nums (all_listings es)) → (In v (nums (all_listings es)) → (d : List ℕ × ℕ) × Member d es × In v (nums (listings d))) → (d : List ℕ × ℕ) × Member d (e ∷ es) × In v (nums (listings d))
      at_part (inl j) more = (e, inl refl, j)
      at_part (inr j) more = let m = more j in (m.0, inr m.1, m.2)

  stands_at : (e : List ℕ × ℕ) → Member e names → (v : ℕ) → In v (nums (listings e)) → (t : ℕ) × (number_of (listed_out (session_at w e.1) t) ≡ Some v)
  stands_at e i v j = let m = num_in (listings e) v j in (m.0.0, ap number_of (listed_there e i m.0 m.1) ∙ ap Some m.2)

  -- within a session no file is listed twice
  session_distinct : (e : List ℕ × ℕ) → Member e names → (ds : List (ℕ × Listed)) → is_sorted nat_cmp ds ≡ true → ((d : ℕ × Listed) → Member d ds → Member d (listings e)) → Distinct (nums ds)
  session_distinct e i [] h is = tt
  session_distinct e i (d ∷ ds) h is =
      let hs = and_parts (below_all nat_cmp d.0 ds) (is_sorted nat_cmp ds) h in
      distinct_from d.1.file (nums ds) (λ j. twice (all_below nat_cmp d.0 ds hs.0) (num_in ds d.1.file j)) (session_distinct e i ds hs.1 (λ c j. is c (inr j)))
    where
      twice : AllByRecursion (λ (c : ℕ × Listed). nat_cmp d.0 c.0 ≡ Less) ds → (c : ℕ × Listed) × Member c ds × (c.1.file ≡ d.1.file) → ⊥
      twice above m =
          not_less nat_cmp nat_cmp_total d.0 m.0.0 (less_member nat_cmp nat_cmp_total finmap.nat_cmp-IsAntisymmetric d.0 ds m.0 above m.1)
          (sound.parts.listed.once e.1 e.1 d.0 m.0.0 d.1.file (ap number_of (listed_there e i d (is d (inl refl)))) (ap number_of (listed_there e i m.0 (is m.0 (inr m.1))) ∙ ap Some m.2)).1

  all_distinct : (es : List (List ℕ × ℕ)) → is_sorted (slice_cmp nat_cmp) es ≡ true → ((e : List ℕ × ℕ) → Member e es → Member e names) → Distinct (nums (all_listings es))
  all_distinct [] h is = tt
  all_distinct (e ∷ es) h is =
      subst Distinct (sym (map_both (λ (d : ℕ × Listed). d.1.file) (listings e) (all_listings es)))
      (distinct_both (nums (listings e)) (nums (all_listings es)) (session_distinct e (is e (inl refl)) (listings e) (sorted_true (files_of (session_at w e.1))) (λ d i. i)) (all_distinct es (tail_sorted e es h) (λ d i. is d (inr i)))
      (λ v i j. twice v i (listed_in_all es v j)))
    where
      twice : (v : ℕ) → In v (nums (listings e)) → (d : List ℕ × ℕ) × Member d es × In v (nums (listings d)) → ⊥
      twice v i m =
          let a = stands_at e (is e (inl refl)) v i in
          let b = stands_at m.0 (is m.0 (inr m.1)) v m.2 in
          below_rest e es h m.0 m.1 (slots_apart e m.0 (is e (inl refl)) (is m.0 (inr m.1)) (sound.parts.listed.once e.1 m.0.1 a.0 b.0 v a.1 b.1).0)

  number_low : (d : ℕ × Listed) → IsHere d → d.1.file < FILES
  number_low d here = by_order (cases_lt d.1.file FILES)
    where
      by_order : (d.1.file < FILES) ⊎ (FILES ≤ d.1.file) → d.1.file < FILES
      by_order (inl l) = l
      by_order (inr l) = absurd (not_some here.0 (sym (sound.parts.last_file d.1.file l) ∙ here.1))

  numbers_low : (ds : List (ℕ × Listed)) → AllByRecursion IsHere ds → AllByRecursion (λ n. n < FILES) (nums ds)
  numbers_low [] h = tt
  numbers_low (d ∷ ds) h = (number_low d h.0, numbers_low ds h.1)

  files_fit : (ds : List (ℕ × Listed)) → AllByRecursion IsHere ds → AllByRecursion CarriedFits (map (listed_carried w) ds)
  files_fit [] h = tt
  files_fit (d ∷ ds) h = (carried_fits labels w sound d.0 d.1.handle d.1.file h.0.0 h.0.1 h.0.2, files_fit ds h.1)

  files_owned : (ds : List (ℕ × Listed)) → AllByRecursion (λ (c : CarriedFile). AllByRecursion (λ p. finmap.get (pool_at w).owned p ≡ Some c.order) c.runs) (map (listed_carried w) ds)
  files_owned [] = tt
  files_owned (d ∷ ds) = (runs_owned labels w sound d.0 d.1.handle d.1.file, files_owned ds)

  -- the runs of one file are different ones
  runs_distinct : (n : ℕ) (g : FileState) → file_at w n ≡ Some g → (rs : List (ℕ × ℕ)) → is_sorted nat_cmp rs ≡ true → ((r : ℕ × ℕ) → Member r rs → Member r (finmap.entries g.runs)) → Distinct (map (λ (r : ℕ × ℕ). r.1) rs)
  runs_distinct n g at [] h is = tt
  runs_distinct n g at (r ∷ rs) h is =
      let hs = and_parts (below_all nat_cmp r.0 rs) (is_sorted nat_cmp rs) h in
      distinct_from r.1 (map (λ (q : ℕ × ℕ). q.1) rs) (λ i. twice (all_below nat_cmp r.0 rs hs.0) (run_entry rs r.1 i)) (runs_distinct n g at rs hs.1 (λ q i. is q (inr i)))
    where
      run_entry : (qs : List (ℕ × ℕ)) (v : ℕ) → In v (map (λ (q : ℕ × ℕ). q.1) qs) → (q : ℕ × ℕ) × Member q qs × (q.1 ≡ v)
      run_entry [] v i = absurd i
      run_entry (q ∷ qs) v (inl s) = (q, inl refl, sym s)
      run_entry (q ∷ qs) v (inr i) = let m = run_entry qs v i in (m.0, inr m.1, m.2)

      there : (q : ℕ × ℕ) → Member q (finmap.entries g.runs) → run_in (file_at w n) q.0 ≡ Some (q.1, g.order)
      there q i =
          ap (λ o. run_in o q.0) at
          ∙ ap (option_map (λ p. (p, g.order))) (finmap.get-entries g.runs q.0 ∙ found_of nat_cmp nat_cmp_total finmap.nat_cmp-IsAntisymmetric (finmap.entries g.runs) q (sorted_true g.runs) i)

      twice : AllByRecursion (λ (q : ℕ × ℕ). nat_cmp r.0 q.0 ≡ Less) rs → (q : ℕ × ℕ) × Member q rs × (q.1 ≡ r.1) → ⊥
      twice above m =
          not_less nat_cmp nat_cmp_total r.0 m.0.0 (less_member nat_cmp nat_cmp_total finmap.nat_cmp-IsAntisymmetric r.0 rs m.0 above m.1)
          (sound.parts.owned.once n n r.0 m.0.0 (r.1, g.order) (there r (is r (inl refl))) (there m.0 (is m.0 (inr m.1)) ∙ ap (λ p. Some (p, g.order)) m.2)).1

  own_distinct : (d : ℕ × Listed) → IsHere d → Distinct (listed_carried w d).runs
  own_distinct d here =
      subst (λ o. Distinct (file_carried d.0 d.1.handle o).runs) (sym here.1) (runs_distinct d.1.file here.0 here.1 (finmap.entries here.0.runs) (sorted_true here.0.runs) (λ r i. i))

  none_shared : (ds : List (ℕ × Listed)) → AllByRecursion IsHere ds → Distinct (nums ds) → NoneShared (map (listed_carried w) ds)
  none_shared [] here distinct = tt
  none_shared (d ∷ ds) here distinct = (
    own_distinct d here.0,
    all_mapped (λ (c : CarriedFile). (p : ℕ) → In p (listed_carried w d).runs → In p c.runs → ⊥) (listed_carried w) ds
        (each_member (λ c. (p : ℕ) → In p (listed_carried w d).runs → In p (listed_carried w c).runs → ⊥) ds
        (λ c i p j k. head_out d.1.file (nums ds) distinct (subst (λ n. In n (nums ds)) (sym (one_file labels w sound d.0 d.1.handle d.1.file c.0 c.1.handle c.1.file p j k)) (num_of ds c i)))),
    none_shared ds here.1 distinct.1,
  )

  here_all : AllByRecursion IsHere (all_listings names)
  here_all = all_here names (λ e i. i)

  distinct_all : Distinct (nums (all_listings names))
  distinct_all = all_distinct names (sorted_names (registry_at w).outgoing) (λ e i. i)

  few_in_all : length (carried_files (frozen w)) ≤ FILES
  few_in_all =
      let a : length (carried_files (frozen w)) ≡ length (map (listed_carried w) (all_listings names)) = ap length (same_files names) in
      let b : length (map (listed_carried w) (all_listings names)) ≡ length (all_listings names) = map_length (listed_carried w) (all_listings names) in
      let c : length (nums (all_listings names)) ≡ length (all_listings names) = map_length (λ (d : ℕ × Listed). d.1.file) (all_listings names) in
      let d : length (nums (all_listings names)) ≤ FILES = at_most FILES (nums (all_listings names)) distinct_all (numbers_low (all_listings names) here_all) in
      omega (arith, a, b, c, d)

  can : CanCarry w
  can = record {
    sessions = few_sessions;
    names = names_rise;
    few = few_files names;
    tokens = tokens_rise names;
    files = few_in_all;
    fit = subst (AllByRecursion CarriedFits) (sym (same_files names)) (files_fit (all_listings names) here_all);
    owned = subst (AllByRecursion (λ (c : CarriedFile). AllByRecursion (λ p. finmap.get (pool_at w).owned p ≡ Some c.order) c.runs)) (sym (same_files names)) (files_owned (all_listings names));
    apart = subst NoneShared (sym (same_files names)) (none_shared (all_listings names) here_all distinct_all);
    runs = sound.parts.runs;
    of_files = λ p o e. sound.parts.owned.found (p, o) (is_owned_at (pool_at w) (p, o) e);
  }

pub sound_can_carry : SoundCanCarry
sound_can_carry labels w sound = can labels w sound
