-- What a take says of the state.
use Rattle.std.proofs.Common.{◌≡◌, ◌≢◌, ℕ, ◌+◌, ◌^◌, ◌<◌, ◌≤◌, ◌==◌, ◌||◌, not, Bool, true, false, List, [], ◌∷◌, ◌++◌, length, get_or, refl, ap, sym, ◌∙◌, arith, subst, suc, ⊎_elim}
use Rattle.std.specs.Prelude.{nat_le}
use Rattle.std.specs.List.{All, AllPairs, list_any, list_all}
use Rattle.std.proofs.lemmas.Bool.{and_from, leb-true, le-leb, eq-eqb, ne_eqb}
use Rattle.std.proofs.lemmas.Nat.{pow_pos}
use Rattle.std.proofs.lemmas.List.{length-map, length-set}
use Rattle.ho_base.specs.declared.numbers.Pfn.{Pfn}
use Rattle.ho_events.specs.Lists.{are_distinct, firsts}
use Rattle.ho_events.specs.Pool.{PoolState, is_free, is_free_run, free_runs, can_take, own}
use Rattle.buddy_pages.specs.FreeFrames as buddy
use Rattle.buddy_pages.proofs.Frames.{same_bool}
use Rattle.folio_bitmaps.specs.Runs.{Runs, Marks}
use Rattle.pool_core.specs.PoolTags.{TableValue, with_tag, with_tags, owned_of, EachCanLend}
use Rattle.pool_core.specs.PoolFramesValues.{PoolFramesValue, state_of, pinned_of, KeepsPoolFrames, with_owned, with_disowned}
use Rattle.pool_core.proofs.PoolOwned.{owned_set, owned_clear}
use Rattle.pool_core.proofs.PoolFree.{run_alike, runs_alike}

-- the pool that a table and marks show
abbrev pub pool_of : TableValue → Runs → PoolFramesValue
pool_of t marks = record { state = state_of t marks; home = t.home; marks = marks }

-- the answer
pub enough : (t : TableValue) (free : List Bool) (m : Marks) (o count : ℕ) (result : Bool) → KeepsPoolFrames t free m → (result ≡ true → count ≤ buddy.free_runs free o) → (count ≤ buddy.free_runs free o → result ≡ true) → result ≡ nat_le count (free_runs (state_of t m.runs) o)
enough t free m o count result k to from =
    let same : buddy.free_runs free o ≡ free_runs (state_of t m.runs) o = runs_alike (state_of t m.runs) free k.free k.set_len o in
    same_bool result (nat_le count (free_runs (state_of t m.runs) o))
    (λ h. le-leb count (free_runs (state_of t m.runs) o) (omega (arith, to h, same)))
    (λ h. from (omega (arith, leb-true count (free_runs (state_of t m.runs) o) h, same)))

-- the runs that were taken are different and free
none_same : (o : ℕ) (p : Pfn) (runs : List Pfn) → ((i : ℕ) (d : Pfn) → i < length runs → buddy.AreApart o p (get_or runs i d)) → list_any (λ y. y == p.0) (firsts runs) ≡ false
none_same o p [] h = refl
none_same o p (q ∷ runs) h =
    let ne : q.0 ≢ p.0 = λ e. ⊎_elim (λ (l : p.0 + 2 ^ o ≤ q.0). absurd (omega (arith, pow_pos o))) (λ (l : q.0 + 2 ^ o ≤ p.0). absurd (omega (arith, pow_pos o))) (h 0 q (omega arith)) in
    ap (λ b. b || list_any (λ y. y == p.0) (firsts runs)) (ne_eqb q.0 p.0 ne)
    ∙ none_same o p runs (λ i d l. h (suc i) d (omega arith))

apart_distinct : (o : ℕ) (runs : List Pfn) → AllPairs (buddy.AreApart o) runs → are_distinct (firsts runs) ≡ true
apart_distinct o [] h = refl
apart_distinct o (p ∷ runs) h =
    and_from _ _ (ap not (none_same o p runs (λ i d l. h 0 (suc i) d (omega arith) (omega arith))))
    (apart_distinct o runs (λ i j d a b. h (suc i) (suc j) d (omega arith) (omega arith)))

each_free : (s : PoolState) (free : List Bool) (o : ℕ) → ((p : ℕ) → buddy.is_free free p ≡ is_free s p) → (runs : List Pfn) → All (λ p. buddy.is_free_run free o p.0 ≡ true) runs → list_all (is_free_run s o) (firsts runs) ≡ true
each_free s free o same [] h = refl
each_free s free o same (p ∷ runs) h =
    and_from _ _ (sym (run_alike s free same o p.0) ∙ h 0 p (omega arith)) (each_free s free o same runs (λ i d l. h (suc i) d (omega arith)))

pub taken_legal : (t : TableValue) (free : List Bool) (m : Marks) (o count : ℕ) (runs : List Pfn) → KeepsPoolFrames t free m → length runs ≡ count → All (λ p. buddy.is_free_run free o p.0 ≡ true) runs → AllPairs (buddy.AreApart o) runs → can_take (state_of t m.runs) o count (firsts runs) ≡ true
taken_legal t free m o count runs k len all apart =
    and_from _ _ (and_from _ _ (eq-eqb (length (firsts runs)) count (length-map runs (λ r. r.0) ∙ len)) (apart_distinct o runs apart))
    (each_free (state_of t m.runs) free o k.free runs all)

-- the owned runs afterwards
pub taken_owned : (t : TableValue) (o : ℕ) (runs : List Pfn) → length t.tags ≡ t.shape.frames → EachCanLend t o runs → owned_of (with_tags (o + 1) runs t).tags ≡ own o (firsts runs) (owned_of t.tags)
unfolding with_tags EachCanLend
taken_owned t o [] len h = refl
taken_owned t o (p ∷ runs) len h =
    taken_owned (with_tag t p.0 (o + 1)) o runs (length-set t.tags p.0 (o + 1) ∙ len) h.1
    ∙ ap (own o (firsts runs)) (owned_set t.tags p.0 o (omega (arith, h.0.within, len, pow_pos o)))

same_shape : (n : ℕ) (runs : List Pfn) (t : TableValue) → (with_tags n runs t).shape ≡ t.shape
unfolding with_tags
same_shape n [] t = refl
same_shape n (p ∷ runs) t = same_shape n runs (with_tag t p.0 n)

same_home : (n : ℕ) (runs : List Pfn) (t : TableValue) → (with_tags n runs t).home ≡ t.home
unfolding with_tags
same_home n [] t = refl
same_home n (p ∷ runs) t = same_home n runs (with_tag t p.0 n)

pub taken_value : (t u : TableValue) (marks : Runs) (o : ℕ) (runs : List Pfn) → length t.tags ≡ t.shape.frames → EachCanLend t o runs → u ≡ with_tags (o + 1) runs t → pool_of u marks ≡ with_owned o runs (pool_of t marks)
taken_value t u marks o runs len h e =
    ap (λ x. pool_of x marks) e
    ∙ (λ i. record {
      state = record { shape = same_shape (o + 1) runs t i; owned = taken_owned t o runs len h i; pinned = pinned_of (same_shape (o + 1) runs t i).frames marks };
      home = same_home (o + 1) runs t i;
      marks = marks;
    })

pub given_value : (t u : TableValue) (marks : Runs) (p : Pfn) → p.0 < length t.tags → u ≡ with_tag t p.0 0 → pool_of u marks ≡ with_disowned (p ∷ []) (pool_of t marks)
given_value t u marks p below e =
    ap (λ x. pool_of x marks) e
    ∙ (λ i. record { state = record { shape = t.shape; owned = owned_clear t.tags p.0 below i; pinned = pinned_of t.shape.frames marks }; home = t.home; marks = marks })

-- the runs that are appended to an empty list are the list
pub all_appended : (old items : List Pfn) → items ≡ old ++ buddy.appended old items → old ≡ [] → buddy.appended old items ≡ items
all_appended old items kept none = sym (kept ∙ ap (λ l. l ++ buddy.appended old items) none)

-- what is known of runs that were taken together
pub record WereTaken (before after : List Bool) (o count : ℕ) (runs : List Pfn) : Type 0 where
  pub len : length runs ≡ count
  pub free : All (λ p. buddy.is_free_run before o p.0 ≡ true) runs
  pub apart : AllPairs (buddy.AreApart o) runs
  pub left : after ≡ buddy.without_runs o before runs

pub were_taken : (before after : List Bool) (o count : ℕ) (old items : List Pfn) → items ≡ old ++ buddy.appended old items → old ≡ [] → length (buddy.appended old items) ≡ count → All (λ p. buddy.is_free_run before o p.0 ≡ true) (buddy.appended old items) → AllPairs (buddy.AreApart o) (buddy.appended old items) → after ≡ buddy.without_runs o before (buddy.appended old items) → WereTaken before after o count items
were_taken before after o count old items kept none len all apart left =
    subst (WereTaken before after o count) (all_appended old items kept none) (record { len = len; free = all; apart = apart; left = left })
