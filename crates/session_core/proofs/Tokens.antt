-- Where a token stands among a session's files.
use Rattle.std.proofs.Common.{◌≡◌, ℕ, ◌<◌, ◌≤◌, ◌+◌, ◌||◌, ◌==◌, Bool, true, false, List, [], ◌∷◌, map, length, drop, refl, ap, sym, ◌∙◌, arith, nat_lt, zero, suc, slice_index_or, add-one}
use Rattle.std.specs.List.{list_any, insert}
use Rattle.std.specs.Ordering.{nat_cmp, eq_by_cmp}
use Rattle.std.specs.FinMap.{put}
use Rattle.std.proofs.lemmas.Bool.Decides.{nat_tests}
use Rattle.ho_base.specs.declared.numbers.Token.{Token}
use Rattle.ho_base.specs.declared.numbers.FileNo.{FileNo}
use Rattle.ho_events.proofs.Ties.{tied_is}
use Rattle.ho_events.specs.Session.{Listed}
use Rattle.session_core.specs.SessionShown.{listed, has_token, smaller}

-- a token is among the keys where a file has it
pub token_among : (token : ℕ) → (files : List (Token × FileNo × ℕ)) → list_any (eq_by_cmp nat_cmp token) (map (λ e. e.0) (map listed files)) ≡ has_token token files
token_among token [] = refl
token_among token (f ∷ files) = rw (tied_is token f.0.0, token_among token files) refl

is_less : (a b : ℕ) → a < b → nat_lt a b ≡ true
is_less a b h = grind (arith, nat_tests)

is_not_less : (a b : ℕ) → b ≤ a → nat_lt a b ≡ false
is_not_less a b h = grind (arith, nat_tests)

-- the front of files with smaller tokens, step by step
pub smaller_none : (token : ℕ) → smaller token [] ≡ 0
unfolding smaller
smaller_none token = refl

pub smaller_less : (token : ℕ) → (f : Token × FileNo × ℕ) → (files : List (Token × FileNo × ℕ)) → nat_lt f.0.0 token ≡ true → smaller token (f ∷ files) ≡ suc (smaller token files)
unfolding smaller
smaller_less token f files h = rw h refl

pub smaller_not : (token : ℕ) → (f : Token × FileNo × ℕ) → (files : List (Token × FileNo × ℕ)) → nat_lt f.0.0 token ≡ false → smaller token (f ∷ files) ≡ 0
unfolding smaller
smaller_not token f files h = rw h refl

pub smaller_step_suc : (token i : ℕ) → (files : List (Token × FileNo × ℕ)) → (d : Token × FileNo × ℕ) → i < length files → (slice_index_or files i d).0.0 < token → smaller token (drop i files) ≡ suc (smaller token (drop (suc i) files))
smaller_step_suc token i [] d within less = absurd (omega arith)
smaller_step_suc token zero (f ∷ files) d within less = smaller_less token f files (is_less f.0.0 token less)
smaller_step_suc token (suc i) (f ∷ files) d within less = smaller_step_suc token i files d (omega arith) less

-- one more file at the front has a smaller token;  the next one has none;  there is no next one
pub smaller_step : (token i : ℕ) → (files : List (Token × FileNo × ℕ)) → (d : Token × FileNo × ℕ) → i < length files → (slice_index_or files i d).0.0 < token → smaller token (drop i files) ≡ smaller token (drop (i + 1) files) + 1
smaller_step token i files d within less = rw (add-one, add-one) (smaller_step_suc token i files d within less)

pub smaller_stop : (token i : ℕ) → (files : List (Token × FileNo × ℕ)) → (d : Token × FileNo × ℕ) → i < length files → token ≤ (slice_index_or files i d).0.0 → smaller token (drop i files) ≡ 0
smaller_stop token i [] d within not_less = absurd (omega arith)
smaller_stop token zero (f ∷ files) d within not_less = smaller_not token f files (is_not_less f.0.0 token not_less)
smaller_stop token (suc i) (f ∷ files) d within not_less = smaller_stop token i files d (omega arith) not_less

pub smaller_end : (token i : ℕ) → (files : List (Token × FileNo × ℕ)) → length files ≤ i → smaller token (drop i files) ≡ 0
smaller_end token zero [] within = smaller_none token
smaller_end token (suc i) [] within = smaller_none token
smaller_end token zero (f ∷ files) within = absurd (omega arith)
smaller_end token (suc i) (f ∷ files) within = smaller_end token i files (omega arith)

left_of : (a b : Bool) → (a || b) ≡ false → a ≡ false
left_of false b h = refl
left_of true b h = h

right_of : (a b : Bool) → (a || b) ≡ false → b ≡ false
right_of false b h = h
right_of true b h = cc

is_greater : (x k : ℕ) → nat_lt x k ≡ false → (x == k) ≡ false → nat_lt k x ≡ true
is_greater x k less same = grind (arith, nat_tests)

not_greater : (x k : ℕ) → nat_lt x k ≡ true → nat_lt k x ≡ false
not_greater x k less = grind (arith, nat_tests)

not_same : (x k : ℕ) → nat_lt x k ≡ true → (k == x) ≡ false
not_same x k less = grind (arith, nat_tests)

put_before : (k : ℕ) → (v : Listed) → (e : ℕ × Listed) → (es : List (ℕ × Listed)) → nat_lt k e.0 ≡ true → put nat_cmp k v (e ∷ es) ≡ (k, v) ∷ e ∷ es
put_before k v e es less = rw less refl

put_behind : (k : ℕ) → (v : Listed) → (e : ℕ × Listed) → (es : List (ℕ × Listed)) → nat_lt k e.0 ≡ false → (k == e.0) ≡ false → put nat_cmp k v (e ∷ es) ≡ e ∷ put nat_cmp k v es
put_behind k v e es less same = rw (less, same) refl

-- a file with a new token goes behind those with smaller ones
pub put_at : (f : Token × FileNo × ℕ) → (files : List (Token × FileNo × ℕ)) → has_token f.0.0 files ≡ false → put nat_cmp f.0.0 (listed f).1 (map listed files) ≡ map listed (insert files (smaller f.0.0 files) f)
put_at f [] h = ap (λ n. map listed (insert [] n f)) (sym (smaller_none f.0.0))
put_at f (g ∷ files) h =
    elim (nat_lt g.0.0 f.0.0) as (λ b. nat_lt g.0.0 f.0.0 ≡ b → put nat_cmp f.0.0 (listed f).1 (map listed (g ∷ files)) ≡ map listed (insert (g ∷ files) (smaller f.0.0 (g ∷ files)) f)) [
      | true ↦ λ less. put_behind f.0.0 (listed f).1 (listed g) (map listed files) (not_greater g.0.0 f.0.0 less) (not_same g.0.0 f.0.0 less)
          ∙ ap (λ rest. listed g ∷ rest) (put_at f files (right_of _ _ h))
          ∙ ap (λ n. map listed (insert (g ∷ files) n f)) (sym (smaller_less f.0.0 g files less))
      | false ↦ λ not_less. put_before f.0.0 (listed f).1 (listed g) (map listed files) (is_greater g.0.0 f.0.0 not_less (left_of _ _ h))
          ∙ ap (λ n. map listed (insert (g ∷ files) n f)) (sym (smaller_not f.0.0 g files not_less))
    ] refl
