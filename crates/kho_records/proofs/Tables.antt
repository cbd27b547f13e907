-- The table of who uses each frame, as it is filled.
use Rattle.std.proofs.Common.{◌≡◌, ℕ, suc, ◌+◌, ◌<◌, ◌≤◌, Bool, true, false, cond, List, length, get_or, set, drop, min, max, refl, sym, ap, ◌∙◌, ⊎_elim, add-one, arith}
use Rattle.std.specs.Prelude.{◌&&◌, nat_le, nat_lt}
use Rattle.std.proofs.Math.Seq.{drop-cons}
use Rattle.std.proofs.lemmas.List.{length-set, get_or-set_same, get_or-set_other, get_or_default, drop_all}
use Rattle.std.proofs.lemmas.Bool.Decides.{nat_tests, leb_tells, eqb_tells}
use Rattle.kho_records.specs.declared.chain.sheet.ChunkSheet.{ChunkSheet}
use Rattle.kho_records.specs.declared.owners.owner.Owner.{Owner}
use Rattle.kho_records.specs.declared.owners.owner.Owner.TheVariants.{Nobody, Unmarked}
use Rattle.kho_records.specs.Owner.{joined, owner_in, with_range, with_chunk, with_each}

inside : (first end p : ℕ) → first ≤ p → p < end → (nat_le first p && nat_lt p end) ≡ true
inside first end p a b = grind (arith, nat_tests)

before : (first end p : ℕ) → p < first → (nat_le first p && nat_lt p end) ≡ false
before first end p a = grind (arith, nat_tests)

behind : (first end p : ℕ) → end ≤ p → (nat_le first p && nat_lt p end) ≡ false
behind first end p a = grind (arith, nat_tests)

with_test : (first end : ℕ) (more : Owner) (p : ℕ) (now : Owner) (b : Bool) → (nat_le first p && nat_lt p end) ≡ b → with_range first end more p now ≡ cond b (joined now more) now
unfolding with_range
with_test first end more p now b h = ap (λ (t : Bool). cond t (joined now more) now) h

-- the frames from `first` up to `end` have one user more
pub record Filled (first end : ℕ) (more : Owner) (old now : List Owner) : Type 0 where
  pub long : length now ≡ length old
  pub each : (p : ℕ) → p < length old → owner_in now p ≡ with_range first end more p (owner_in old p)

pub fill_none : (first end : ℕ) (more : Owner) (old : List Owner) → end ≤ first → Filled first end more old old
fill_none first end more old h = record {
  long = refl;
  each = λ p lt.
      ⊎_elim (λ y. sym (with_test first end more p (owner_in old p) false (behind first end p (omega (arith, y.1)))))
      (λ n. sym (with_test first end more p (owner_in old p) false (before first end p n.1))) (leb_tells first p);
}

same_less : (p a b : ℕ) → (p < a → p < b) → (p < b → p < a) → nat_lt p a ≡ nat_lt p b
same_less p a b to from =
    ⊎_elim (λ y. ⊎_elim (λ z. y.0 ∙ sym z.0) (λ z. absurd (omega (arith, to y.1, z.1))) (leb_tells (suc p) b))
    (λ y. ⊎_elim (λ z. absurd (omega (arith, from z.1, y.1))) (λ z. y.0 ∙ sym z.0) (leb_tells (suc p) b)) (leb_tells (suc p) a)

same_test : (first end end' p : ℕ) → (p < end → p < end') → (p < end' → p < end) → (nat_le first p && nat_lt p end) ≡ (nat_le first p && nat_lt p end')
same_test first end end' p to from = ap (λ (t : Bool). nat_le first p && t) (same_less p end end' to from)

same_range : (first end end' : ℕ) (more : Owner) (p : ℕ) (now : Owner) → (p < end → p < end') → (p < end' → p < end)
    → with_range first end more p now ≡ with_range first end' more p now
same_range first end end' more p now to from =
    with_test first end more p now (nat_le first p && nat_lt p end') (same_test first end end' p to from) ∙ sym (with_test first end' more p now (nat_le first p && nat_lt p end') refl)

pub fill_more : (first i : ℕ) (more : Owner) (old now new : List Owner) → Filled first i more old now → first ≤ i → i < length old → new ≡ set now i (joined (get_or now i Nobody) more)
    → Filled first (i + 1) more old new
fill_more first i more old now new h from lt e =
    let here : i < length now = omega (arith, h.long) in
    let was : owner_in now i ≡ owner_in old i = h.each i lt ∙ with_test first i more i (owner_in old i) false (behind first i i (omega arith)) in
    record {
      long = ap length e ∙ length-set now i (joined (get_or now i Nobody) more) ∙ h.long;
      each = λ p below.
          ap (λ (l : List Owner). owner_in l p) e
          ∙ ⊎_elim (λ y.
          ap (λ (q : ℕ). get_or (set now i (joined (get_or now i Nobody) more)) q Nobody) y.1 ∙ get_or-set_same now i (joined (get_or now i Nobody) more) Nobody here
          ∙ ap (λ (o : Owner). joined o more) was ∙ ap (λ (q : ℕ). joined (owner_in old q) more) (sym y.1)
          ∙ sym (with_test first (i + 1) more p (owner_in old p) true (inside first (i + 1) p (omega (arith, y.1)) (omega (arith, y.1)))))
          (λ n.
          get_or-set_other now i p (joined (get_or now i Nobody) more) Nobody n.1 ∙ h.each p below
          ∙ same_range first i (i + 1) more p (owner_in old p) (λ a. omega (arith, a)) (λ a. omega (arith, a, n.1)))
          (eqb_tells p i);
    }

pub fill_all : (first end i : ℕ) (more : Owner) (old now : List Owner) → Filled first i more old now → i ≡ max (min end (length old)) (min first (length old)) → (p : ℕ) → p < length old
    → owner_in now p ≡ with_range first end more p (owner_in old p)
fill_all first end i more old now h e p lt =
    ⊎_elim (λ y. h.each p lt ∙ same_range first i end more p (owner_in old p) (λ a. omega (arith, a, e, y.1)) (λ a. omega (arith, a, e, y.1)))
    (λ n. h.each p lt ∙ with_test first i more p (owner_in old p) false (before first i p n.1) ∙ sym (with_test first end more p (owner_in old p) false (before first end p n.1)))
    (leb_tells first p)

-- what is read of the table
pub read_is : (owners : List Owner) (p : ℕ) (x o : Owner) → p < length owners → x ≡ get_or owners p x → owner_in owners p ≡ o → x ≡ o
read_is owners p x o lt is_x is_o = is_x ∙ get_or_default owners p x Nobody lt ∙ is_o

-- one chunk frame
pub chunk_in : (chunk : ChunkSheet) (old new : List Owner) → chunk.at < length old → new ≡ set old chunk.at (joined (get_or old chunk.at Nobody) Unmarked) → (p : ℕ)
    → owner_in new p ≡ with_chunk chunk p (owner_in old p)
chunk_in chunk old new lt e p =
    let at = chunk.at in
    ap (λ (l : List Owner). owner_in l p) e
    ∙ ⊎_elim (λ y.
    ap (λ (q : ℕ). get_or (set old at (joined (get_or old at Nobody) Unmarked)) q Nobody) y.1 ∙ get_or-set_same old at (joined (get_or old at Nobody) Unmarked) Nobody lt
    ∙ ap (λ (q : ℕ). joined (owner_in old q) Unmarked) (sym y.1) ∙ ap (λ (b : Bool). cond b (joined (owner_in old p) Unmarked) (owner_in old p)) (sym y.0))
    (λ n.
    get_or-set_other old at p (joined (get_or old at Nobody) Unmarked) Nobody n.1 ∙ ap (λ (b : Bool). cond b (joined (owner_in old p) Unmarked) (owner_in old p)) (sym n.0))
    (eqb_tells p at)

pub chunk_out : (chunk : ChunkSheet) (old : List Owner) → length old ≤ chunk.at → (p : ℕ) → p < length old → owner_in old p ≡ with_chunk chunk p (owner_in old p)
chunk_out chunk old h p lt =
    ⊎_elim (λ y. absurd (omega (arith, y.1))) (λ n. ap (λ (b : Bool). cond b (joined (owner_in old p) Unmarked) (owner_in old p)) (sym n.0)) (eqb_tells p chunk.at)

-- The table when the first i of a list are added: with the others it is as with all.
pub record Added {A : Type 0} (more : A → ℕ → Owner → Owner) (xs : List A) (i : ℕ) (old now : List Owner) : Type 0 where
  pub long : length now ≡ length old
  pub each : (p : ℕ) → p < length old → with_each more (drop i xs) p (owner_in now p) ≡ with_each more xs p (owner_in old p)

pub add_none : {A : Type 0} (more : A → ℕ → Owner → Owner) (xs : List A) (old : List Owner) → Added more xs 0 old old
add_none more xs old = record { long = refl; each = λ p lt. refl }

pub add_more : {A : Type 0} (more : A → ℕ → Owner → Owner) (xs : List A) (i : ℕ) (d : A) (old now new : List Owner) → Added more xs i old now → i < length xs → length new ≡ length now
    → ((p : ℕ) → p < length now → owner_in new p ≡ more (get_or xs i d) p (owner_in now p)) → Added more xs (i + 1) old new
add_more more xs i d old now new h lt long step = record {
  long = long ∙ h.long;
  each = λ p below.
      ap (λ (o : Owner). with_each more (drop (i + 1) xs) p o) (step p (omega (arith, h.long)))
      ∙ ap (λ (n : ℕ). with_each more (drop n xs) p (more (get_or xs i d) p (owner_in now p))) (add-one i)
      ∙ sym (ap (λ (l : List _). with_each more l p (owner_in now p)) (drop-cons xs i d lt)) ∙ h.each p below;
}

pub add_all : {A : Type 0} (more : A → ℕ → Owner → Owner) (xs : List A) (i : ℕ) (old now : List Owner) → Added more xs i old now → length xs ≤ i → (p : ℕ) → p < length old
    → owner_in now p ≡ with_each more xs p (owner_in old p)
add_all more xs i old now h all p lt = sym (ap (λ (l : List _). with_each more l p (owner_in now p)) (drop_all i xs all)) ∙ h.each p lt
