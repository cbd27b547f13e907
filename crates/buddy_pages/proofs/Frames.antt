-- Sets of free frames, frame by frame.
use Rattle.std.proofs.Common.{◌≡◌, ◌⊎◌, ℕ, zero, suc, ◌+◌, ◌-◌, ◌^◌, ◌%◌, ◌<◌, ◌≤◌, Bool, true, false, not, eqb, List, ◌++◌, length, get_or, take, drop, replicate, refl, sym, ◌∙◌, ap, subst, inl, inr, ⊎_elim, arith}
use Rattle.std.specs.List.{range_with_len, list_all}
use Rattle.std.proofs.lemmas.Bool.{and_parts, and_from, not-true, false≢true, eqb-true, eq-eqb}
use Rattle.std.proofs.lemmas.List.{places, ext_get_or, get_or_past, get_or-drop, get_or-append_right, length-take-le, length-replicate}
use Rattle.std.proofs.lemmas.Bool.{cases_lt}
use Rattle.buddy_pages.specs.FreeFrames.{is_free, all_free, none_free, is_free_run, with_frames}

-- a test of each number from f on
all_each : (t : ℕ → Bool) (f c : ℕ) → list_all t (range_with_len f c) ≡ true → (p : ℕ) → f ≤ p → p < f + c → t p ≡ true
all_each t f zero h p a b = absurd (omega arith)
all_each t f (suc c) h p a b =
    let both = and_parts (t f) (list_all t (range_with_len (f + 1) c)) h in
    ⊎_elim (λ (l : f < p). all_each t (f + 1) c both.1 p (omega arith) (omega arith))
    (λ (l : p ≤ f). let e : f ≡ p = omega arith in subst (λ (z : ℕ). t z ≡ true) e both.0)
    (cases_lt f p)

all_from : (t : ℕ → Bool) (f c : ℕ) → ((p : ℕ) → f ≤ p → p < f + c → t p ≡ true) → list_all t (range_with_len f c) ≡ true
all_from t f zero h = refl
all_from t f (suc c) h =
    and_from (t f) (list_all t (range_with_len (f + 1) c)) (h f (omega arith) (omega arith))
    (all_from t (f + 1) c (λ p a b. h p (omega arith) (omega arith)))

-- each of the frames is free
pub record AreFree (free : List Bool) (f c : ℕ) : Type 0 where
  pub each : (p : ℕ) → f ≤ p → p < f + c → is_free free p ≡ true

-- none of the frames is free
pub record AreTaken (free : List Bool) (f c : ℕ) : Type 0 where
  pub each : (p : ℕ) → f ≤ p → p < f + c → is_free free p ≡ false

pub AreFree-from : (free : List Bool) (f c : ℕ) → all_free free f c ≡ true → AreFree free f c
unfolding all_free
AreFree-from free f c h = record { each = all_each (is_free free) f c h }

pub all_free-from : (free : List Bool) (f c : ℕ) → AreFree free f c → all_free free f c ≡ true
unfolding all_free
all_free-from free f c h = all_from (is_free free) f c h.each

pub AreTaken-from : (free : List Bool) (f c : ℕ) → none_free free f c ≡ true → AreTaken free f c
unfolding none_free
AreTaken-from free f c h =
    record { each = λ p a b. not-true (is_free free p) (all_each (λ q. not (is_free free q)) f c h p a b) }

pub none_free-from : (free : List Bool) (f c : ℕ) → AreTaken free f c → none_free free f c ≡ true
unfolding none_free
none_free-from free f c h = all_from (λ q. not (is_free free q)) f c (λ p a b. ap not (h.each p a b))

-- a run of order o that is wholly free
pub record IsRun (free : List Bool) (o p : ℕ) : Type 0 where
  pub aligned : p % 2 ^ o ≡ 0
  pub frames : AreFree free p (2 ^ o)

pub IsRun-from : (free : List Bool) (o p : ℕ) → is_free_run free o p ≡ true → IsRun free o p
unfolding is_free_run
IsRun-from free o p h =
    let both = and_parts (eqb (p % 2 ^ o) 0) (all_free free p (2 ^ o)) h in
    record { aligned = eqb-true (p % 2 ^ o) 0 both.0; frames = AreFree-from free p (2 ^ o) both.1 }

pub is_free_run-from : (free : List Bool) (o p : ℕ) → IsRun free o p → is_free_run free o p ≡ true
unfolding is_free_run
is_free_run-from free o p h =
    and_from (eqb (p % 2 ^ o) 0) (all_free free p (2 ^ o)) (eq-eqb (p % 2 ^ o) 0 h.aligned) (all_free-from free p (2 ^ o) h.frames)

-- a free frame is one of the machine's
pub free_below : (free : List Bool) (p : ℕ) → is_free free p ≡ true → p < length free
unfolding is_free
free_below free p h =
    ⊎_elim (λ (l : p < length free). l)
    (λ (l : length free ≤ p). absurd (false≢true (sym (get_or_past free p false l) ∙ h)))
    (cases_lt p (length free))

pub same_set : (a b : List Bool) → length a ≡ length b → ((p : ℕ) → p < length a → is_free a p ≡ is_free b p) → a ≡ b
unfolding is_free
same_set a b e h = ext_get_or false a b e h

pub length-with_frames : (free : List Bool) (f c : ℕ) (b : Bool) → f + c ≤ length free → length (with_frames free f c b) ≡ length free
unfolding with_frames
length-with_frames free f c b h = grind (arith, places)

pub with_frames_in : (free : List Bool) (f c : ℕ) (b : Bool) (p : ℕ) → f + c ≤ length free → f ≤ p → p < f + c → is_free (with_frames free f c b) p ≡ b
unfolding with_frames is_free
with_frames_in free f c b p h from to = grind (arith, places)

pub with_frames_below : (free : List Bool) (f c : ℕ) (b : Bool) (p : ℕ) → f + c ≤ length free → p < f → is_free (with_frames free f c b) p ≡ is_free free p
unfolding with_frames is_free
with_frames_below free f c b p h out = grind (arith, places)

pub with_frames_above : (free : List Bool) (f c : ℕ) (b : Bool) (p : ℕ) → f + c ≤ length free → f + c ≤ p → is_free (with_frames free f c b) p ≡ is_free free p
unfolding with_frames is_free
with_frames_above free f c b p h out =
    let here : length (take f free) ≡ f = length-take-le f free (omega arith) in
    let run : length (replicate c b) ≡ c = length-replicate c b in
    get_or-append_right (take f free) (replicate c b ++ drop (f + c) free) f p false here (omega arith)
    ∙ get_or-append_right (replicate c b) (drop (f + c) free) c (p - f) false run (omega arith)
    ∙ get_or-drop (f + c) free (p - f - c) false
    ∙ ap (λ i. get_or free i false) (omega arith)

-- a frame lies in the changed run, or the change doesn't touch it
pub data Place (f c p : ℕ) : Type 0 where
  inside : f ≤ p → p < f + c → Place f c p
  outside : (p < f) ⊎ (f + c ≤ p) → Place f c p

pub place : (f c p : ℕ) → Place f c p
place f c p =
    ⊎_elim (λ (l : p < f). outside (inl l))
    (λ (l : f ≤ p). ⊎_elim (λ (m : p < f + c). inside l m) (λ (m : f + c ≤ p). outside (inr m)) (cases_lt p (f + c)))
    (cases_lt p f)

pub with_frames_out : (free : List Bool) (f c : ℕ) (b : Bool) (p : ℕ) → f + c ≤ length free → (p < f) ⊎ (f + c ≤ p) → is_free (with_frames free f c b) p ≡ is_free free p
with_frames_out free f c b p h out =
    ⊎_elim (λ (l : p < f). with_frames_below free f c b p h l)
    (λ (l : f + c ≤ p). with_frames_above free f c b p h l)
    out

pub same_bool : (a b : Bool) → (a ≡ true → b ≡ true) → (b ≡ true → a ≡ true) → a ≡ b
same_bool true true f g = refl
same_bool true false f g = sym (f refl)
same_bool false true f g = g refl
same_bool false false f g = refl
