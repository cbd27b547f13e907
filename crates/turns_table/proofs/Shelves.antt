-- Logs in a row, of which one changes.
use Rattle.std.proofs.Common.{◌≡◌, ◌≢◌, ℕ, zero, suc, ◌-◌, ◌<◌, ◌≤◌, List, [], ◌∷◌, ◌++◌, length, get_or, set, sym, refl, ap, ◌∙◌, arith, Bool, true, false, cond}
use Rattle.std.specs.Vec.{vec_len, vec_capacity}
use Rattle.std.specs.declared.vec.Vec.{Vec}
use Rattle.std.specs.declared.alloc.Global.{Global}
use Rattle.ho_events.specs.declared.entry.Entry.{Entry}
use Rattle.turns_table.specs.Kept.{items_at, room_at, has_at}

abbrev Log : Type 0
Log = Vec Entry Global

pub items_set : (ls : List Log) (i : ℕ) (l : Log) → i < length ls → items_at (set ls i l) i ≡ l.items
items_set [] i l h = absurd (omega arith)
items_set (x ∷ xs) zero l h = refl
items_set (x ∷ xs) (suc i) l h = items_set xs i l (omega arith)

pub items_else : (ls : List Log) (i j : ℕ) (l : Log) → j ≢ i → items_at (set ls i l) j ≡ items_at ls j
items_else [] i j l n = refl
items_else (x ∷ xs) zero zero l n = absurd (n refl)
items_else (x ∷ xs) zero (suc j) l n = refl
items_else (x ∷ xs) (suc i) zero l n = refl
items_else (x ∷ xs) (suc i) (suc j) l n = items_else xs i j l (λ e. n (ap suc e))

pub room_set : (ls : List Log) (i : ℕ) (l : Log) → i < length ls → room_at (set ls i l) i ≡ vec_capacity l - vec_len l
room_set [] i l h = absurd (omega arith)
room_set (x ∷ xs) zero l h = refl
room_set (x ∷ xs) (suc i) l h = room_set xs i l (omega arith)

pub items_is : (ls : List Log) (i : ℕ) (l d : Log) → i < length ls → l ≡ get_or ls i d → items_at ls i ≡ l.items
items_is [] i l d h e = absurd (omega arith)
items_is (x ∷ xs) zero l d h e = ap (λ (y : Log). y.items) (sym e)
items_is (x ∷ xs) (suc i) l d h e = items_is xs i l d (omega arith) e

pub room_is : (ls : List Log) (i : ℕ) (l d : Log) → i < length ls → l ≡ get_or ls i d → room_at ls i ≡ vec_capacity l - vec_len l
room_is [] i l d h e = absurd (omega arith)
room_is (x ∷ xs) zero l d h e = ap (λ (y : Log). vec_capacity y - vec_len y) (sym e)
room_is (x ∷ xs) (suc i) l d h e = room_is xs i l d (omega arith) e

pub items_snoc : (ls : List Log) (l : Log) (a : ℕ) → ((b : ℕ) → items_at ls b ≡ []) → l.items ≡ [] → items_at (ls ++ l ∷ []) a ≡ []
items_snoc [] l zero none e = e
items_snoc [] l (suc a) none e = refl
items_snoc (x ∷ xs) l zero none e = none zero
items_snoc (x ∷ xs) l (suc a) none e = items_snoc xs l a (λ b. none (suc b)) e

pub items_front : (ls ms : List Log) (a : ℕ) → a < length ls → items_at (ls ++ ms) a ≡ items_at ls a
items_front [] ms a h = absurd (omega arith)
items_front (x ∷ xs) ms zero h = refl
items_front (x ∷ xs) ms (suc a) h = items_front xs ms a (omega arith)

pub items_last : (ls : List Log) (l : Log) (a : ℕ) → a ≡ length ls → items_at (ls ++ l ∷ []) a ≡ l.items
items_last [] l zero e = refl
items_last [] l (suc a) e = absurd (omega arith)
items_last (x ∷ xs) l zero e = absurd (omega arith)
items_last (x ∷ xs) l (suc a) e = items_last xs l a (omega arith)

pub items_beyond : (ls : List Log) (a : ℕ) → length ls ≤ a → items_at ls a ≡ []
items_beyond [] a h = refl
items_beyond (x ∷ xs) zero h = absurd (omega arith)
items_beyond (x ∷ xs) (suc a) h = items_beyond xs a (omega arith)

-- nothing is kept, so either choice is the same
pub either_none : (b : Bool) (x y z : List Entry) → x ≡ [] → y ≡ [] → z ≡ [] → x ≡ cond b y z
either_none true x y z ex ey ez = ex ∙ sym ey
either_none false x y z ex ey ez = ex ∙ sym ez

pub has_beyond : (bs : List Bool) (a : ℕ) → length bs ≤ a → has_at bs a ≡ false
has_beyond [] a h = refl
has_beyond (b ∷ bs) zero h = absurd (omega arith)
has_beyond (b ∷ bs) (suc a) h = has_beyond bs a (omega arith)

pub or_no : (a b : Bool) → a ≡ false → b ≡ false → a ≡ cond a true b
or_no true b ea eb = absurd (cc)
or_no false b ea eb = sym eb

-- the flag at a, as an index finds it
pub has_is : (bs : List Bool) (a : ℕ) (b : Bool) → a < length bs → b ≡ get_or bs a b → has_at bs a ≡ b
has_is [] a b h e = absurd (omega arith)
has_is (x ∷ xs) zero b h e = sym e
has_is (x ∷ xs) (suc a) b h e = has_is xs a b (omega arith) e

pub has_front : (bs : List Bool) (b : Bool) (a : ℕ) → a < length bs → has_at (bs ++ b ∷ []) a ≡ has_at bs a
has_front [] b a h = absurd (omega arith)
has_front (x ∷ xs) b zero h = refl
has_front (x ∷ xs) b (suc a) h = has_front xs b a (omega arith)

pub has_last : (bs : List Bool) (b : Bool) (a : ℕ) → a ≡ length bs → has_at (bs ++ b ∷ []) a ≡ b
has_last [] b zero e = refl
has_last [] b (suc a) e = absurd (omega arith)
has_last (x ∷ xs) b zero e = absurd (omega arith)
has_last (x ∷ xs) b (suc a) e = has_last xs b a (omega arith)

pub at_true : {A : Type 0} (b : Bool) (x y : A) → b ≡ true → cond b x y ≡ x
at_true b x y e = ap (λ (c : Bool). cond c x y) e

pub at_false : {A : Type 0} (b : Bool) (x y : A) → b ≡ false → cond b x y ≡ y
at_false b x y e = ap (λ (c : Bool). cond c x y) e
