-- Folios that are written one after another.
use Rattle.std.proofs.Common.{◌≡◌, ℕ, zero, suc, ◌+◌, ◌≤◌, ◌<◌, List, [], ◌∷◌, ◌++◌, length, take, drop, get_or, set, min, refl, sym, ap, ◌∙◌, arith}
use Rattle.std.proofs.lemmas.List.{take-append-drop, length-take, length-drop, get_or-take, get_or-drop}
use borrow.Rule.Slice.PartMut.{put_mid}
use Rattle.std.specs.List.{All}
use Rattle.phys_frames.specs.Memory.{FolioValue}
use Rattle.ho_base.specs.declared.numbers.Order.{Order}
use Rattle.record_frames.specs.Ram.{Page}
use Rattle.record_frames.specs.Writing.{holding, with_pages, frames_of}

-- the folios stay as many, at the same frames
pub length_with_pages : (fs : List FolioValue) (ps : List Page) → length (with_pages fs ps) ≡ length fs
length_with_pages [] ps = refl
length_with_pages (f ∷ fs) [] = refl
length_with_pages (f ∷ fs) (p ∷ ps) = ap suc (length_with_pages fs ps)

pub frames_with_pages : (fs : List FolioValue) (ps : List Page) → frames_of (with_pages fs ps) ≡ frames_of fs
frames_with_pages [] ps = refl
frames_with_pages (f ∷ fs) [] = refl
frames_with_pages (f ∷ fs) (p ∷ ps) = ap (λ (r : List ℕ). f.first.0 ∷ r) (frames_with_pages fs ps)

-- without pages nothing is written
pub no_pages : (fs : List FolioValue) → with_pages fs [] ≡ fs
no_pages [] = refl
no_pages (f ∷ fs) = refl

-- those behind the pages stay as they are
pub behind_pages : (fs : List FolioValue) (ps : List Page) (n : ℕ) → length ps ≤ n → drop n (with_pages fs ps) ≡ drop n fs
behind_pages [] ps n le = refl
behind_pages (f ∷ fs) [] n le = refl
behind_pages (f ∷ fs) (p ∷ ps) zero le = absurd (omega (arith, le))
behind_pages (f ∷ fs) (p ∷ ps) (suc n) le = behind_pages fs ps n (omega (arith, le))

pub at_behind_pages : (fs : List FolioValue) (ps : List Page) (n : ℕ) (d : FolioValue) → length ps ≤ n → get_or (with_pages fs ps) n d ≡ get_or fs n d
at_behind_pages [] ps n d le = refl
at_behind_pages (f ∷ fs) [] n d le = refl
at_behind_pages (f ∷ fs) (p ∷ ps) zero d le = absurd (omega (arith, le))
at_behind_pages (f ∷ fs) (p ∷ ps) (suc n) d le = at_behind_pages fs ps n d (omega (arith, le))

-- one more page
pub one_page_more : (fs : List FolioValue) (ps : List Page) (p : Page) (d : FolioValue) → length ps < length fs
    → with_pages fs (ps ++ p ∷ []) ≡ set (with_pages fs ps) (length ps) (holding (get_or fs (length ps) d) p.bytes)
one_page_more [] ps p d lt = absurd (omega (arith, lt))
one_page_more (f ∷ fs) [] p d lt = ap (λ (r : List FolioValue). holding f p.bytes ∷ r) (no_pages fs)
one_page_more (f ∷ fs) (q ∷ ps) p d lt = ap (λ (r : List FolioValue). holding f q.bytes ∷ r) (one_page_more fs ps p d (omega (arith, lt)))

-- more pages in the folios behind
pub pages_more : (fs : List FolioValue) (ps qs : List Page) → length ps ≤ length fs
    → take (length ps) (with_pages fs ps) ++ with_pages (drop (length ps) fs) qs ≡ with_pages fs (ps ++ qs)
pages_more fs [] qs le = refl
pages_more [] (p ∷ ps) qs le = absurd (omega (arith, le))
pages_more (f ∷ fs) (p ∷ ps) qs le = ap (λ (r : List FolioValue). holding f p.bytes ∷ r) (pages_more fs ps qs (omega (arith, le)))

-- each has the order that it had
pub same_order : (fs : List FolioValue) (ps : List Page) (k : ℕ) (d : FolioValue) → (get_or (with_pages fs ps) k d).order ≡ (get_or fs k d).order
same_order [] ps k d = refl
same_order (f ∷ fs) [] k d = refl
same_order (f ∷ fs) (p ∷ ps) zero d = refl
same_order (f ∷ fs) (p ∷ ps) (suc k) d = same_order fs ps k d

pub same_orders : (fs : List FolioValue) (ps : List Page) → All (λ f. f.order.0 ≡ 0) fs → All (λ f. f.order.0 ≡ 0) (with_pages fs ps)
same_orders fs ps h k d lt = ap (λ (o : Order). o.0) (same_order fs ps k d) ∙ h k d (omega (arith, lt, length_with_pages fs ps))

-- pages in a part of the folios
part_pages : (fs : List FolioValue) (qs : List Page) (k : ℕ) → length qs ≤ k → with_pages (take k fs) qs ++ drop k fs ≡ with_pages fs qs
part_pages fs [] k le = ap (λ (l : List FolioValue). l ++ drop k fs) (no_pages (take k fs)) ∙ take-append-drop k fs ∙ sym (no_pages fs)
part_pages fs (q ∷ qs) zero le = absurd (omega (arith, le))
part_pages [] (q ∷ qs) (suc k) le = refl
part_pages (f ∷ fs) (q ∷ qs) (suc k) le = ap (λ (l : List FolioValue). holding f q.bytes ∷ l) (part_pages fs qs k (omega (arith, le)))

pub put_more : (fs gs ys : List FolioValue) (ps qs : List Page) (a k : ℕ) → gs ≡ with_pages fs ps → length ps ≡ a → a ≤ length fs → length qs ≤ k
    → ys ≡ with_pages (take k (drop a gs)) qs → put_mid a k gs ys ≡ with_pages fs (ps ++ qs)
put_more fs gs ys ps qs a k before count room few written =
    let d : drop a gs ≡ drop a fs = ap (drop a) before ∙ behind_pages fs ps a (omega (arith, count)) in
    (λ j. take a (before j) ++ ((written ∙ ap (λ (l : List FolioValue). with_pages (take k l) qs) d) j ++ drop k (d j)))
    ∙ ap (λ (l : List FolioValue). take a (with_pages fs ps) ++ l) (part_pages (drop a fs) qs k few)
    ∙ ap (λ (n : ℕ). take n (with_pages fs ps) ++ with_pages (drop n fs) qs) (sym count)
    ∙ pages_more fs ps qs (omega (arith, count, room))

pub orders_of_part : (fs gs : List FolioValue) (ps : List Page) (a n : ℕ) → gs ≡ with_pages fs ps → All (λ f. f.order.0 ≡ 0) fs
    → All (λ f. f.order.0 ≡ 0) (take n (drop a gs))
orders_of_part fs gs ps a n before orders k d lt =
    let in_part : k < min n (length (drop a gs)) = omega (arith, lt, length-take n (drop a gs)) in
    let small : k < n = omega (arith, in_part) in
    let within : a + k < length fs = omega (arith, in_part, length-drop a gs, ap length before, length_with_pages fs ps) in
    ap (λ (f : FolioValue). f.order.0)
    (get_or-take n (drop a gs) k d small ∙ get_or-drop a gs k d ∙ ap (λ (l : List FolioValue). get_or l (a + k) d) before)
    ∙ ap (λ (o : Order). o.0) (same_order fs ps (a + k) d) ∙ orders (a + k) d within
