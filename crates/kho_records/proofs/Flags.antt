-- The flags of the orders at which the run that may hold a frame is marked.
use Rattle.std.proofs.Common.{◌≡◌, ◌≢◌, ℕ, ◌+◌, ◌-◌, ◌/◌, ◌%◌, ◌^◌, ◌<◌, ◌≤◌, Bool, true, false, List, length, get_or, set, drop, replicate, refl, sym, ap, ◌∙◌, ⊎_elim, add-one, arith}
use Rattle.std.specs.Prelude.{◌&&◌, ◌||◌, ◌==◌, nat_le, nat_lt}
use Rattle.std.specs.List.{list_any}
use Rattle.std.proofs.Math.Seq.{drop-cons}
use Rattle.std.proofs.lemmas.List.{get_or-set_same, get_or-set_other, get_or-replicate, drop_all}
use Rattle.std.proofs.lemmas.Bool.Decides.{eqb_tells}
use Rattle.ho_base.specs.BitmapCount.{cover}
use Rattle.folio_bitmaps.specs.Bitmaps.{is_set}
use Rattle.folio_bitmaps.specs.Chunks.{Element}
use Rattle.folio_bitmaps.specs.Runs.{Run}
use Rattle.record_frames.specs.Rules.{is_marked, marks}
use Rattle.record_frames.specs.Sheets.{items_of}
use Rattle.kho_records.specs.declared.chain.sheet.ChunkSheet.{ChunkSheet}
use Rattle.kho_records.specs.Chunks.{element_view, chunk_views}
use Rattle.kho_records.specs.Owner.{holder, flag_in}
use Rattle.kho_records.proofs.Marks.{any_in_sheets}

or_false : (b : Bool) → (b || false) ≡ b
or_false true = refl
or_false false = refl

or_true : (b : Bool) → (b || true) ≡ true
or_true true = refl
or_true false = refl

or_assoc : (a b c : Bool) → ((a || b) || c) ≡ (a || (b || c))
or_assoc true b c = refl
or_assoc false b c = refl

-- an element of another order doesn't mark a run
other_order : (r : Run) (e : Element) → e.order ≢ r.order → marks r e ≡ false
other_order r e h =
    ⊎_elim (λ y. absurd (h y.1))
    (λ n.
    ap (λ (b : Bool). b && nat_le e.base r.first && nat_lt r.first (e.base + cover r.order) && (r.first - e.base) % 2 ^ r.order == 0 && is_set e.bits ((r.first - e.base) / 2 ^ r.order)) n.0)
    (eqb_tells e.order r.order)

unmarked : (flags : List Bool) (p o : ℕ) (e : Element) → marks (holder p o) e ≡ false → flag_in flags o ≡ (flag_in flags o || marks (holder p o) e)
unmarked flags p o e h = sym (ap (λ (b : Bool). flag_in flags o || b) h ∙ or_false (flag_in flags o))

pub no_order : (flags : List Bool) (p : ℕ) (e : Element) → length flags ≡ 10 → 10 ≤ e.order → (o : ℕ) → o < length flags → flag_in flags o ≡ (flag_in flags o || marks (holder p o) e)
no_order flags p e long high o lt = unmarked flags p o e (other_order (holder p o) e (λ same. absurd (omega (arith, same, long))))

holder_is : (p first order : ℕ) (e : Element) (b : Bool) → first ≡ p - p % 2 ^ order → b ≡ marks (record { first = first; order = order }) e → marks (holder p order) e ≡ b
holder_is p first order e b is_first is_b = ap (λ (q : ℕ). marks (record { first = q; order = order }) e) (sym is_first) ∙ sym is_b

pub not_marked : (flags : List Bool) (p first : ℕ) (e : Element) (b : Bool) → first ≡ p - p % 2 ^ e.order → b ≡ marks (record { first = first; order = e.order }) e → b ≡ false
    → (o : ℕ) → o < length flags → flag_in flags o ≡ (flag_in flags o || marks (holder p o) e)
not_marked flags p first e b is_first is_b no_b o lt =
    ⊎_elim (λ y. unmarked flags p o e (ap (λ (n : ℕ). marks (holder p n) e) y.1 ∙ holder_is p first e.order e b is_first is_b ∙ no_b))
    (λ n. unmarked flags p o e (other_order (holder p o) e (λ same. n.1 (sym same)))) (eqb_tells o e.order)

pub now_marked : (flags new : List Bool) (p first : ℕ) (e : Element) (b : Bool) → first ≡ p - p % 2 ^ e.order → b ≡ marks (record { first = first; order = e.order }) e → b ≡ true
    → e.order < length flags → new ≡ set flags e.order true → (o : ℕ) → o < length flags → flag_in new o ≡ (flag_in flags o || marks (holder p o) e)
now_marked flags new p first e b is_first is_b yes_b here is_new o lt =
    ap (λ (l : List Bool). flag_in l o) is_new
    ∙ ⊎_elim (λ y.
    ap (λ (n : ℕ). get_or (set flags e.order true) n false) y.1 ∙ get_or-set_same flags e.order true false here
    ∙ sym (ap (λ (t : Bool). flag_in flags o || t) (ap (λ (n : ℕ). marks (holder p n) e) y.1 ∙ holder_is p first e.order e b is_first is_b ∙ yes_b) ∙ or_true (flag_in flags o)))
    (λ n. get_or-set_other flags e.order o true false n.1 ∙ unmarked flags p o e (other_order (holder p o) e (λ same. n.1 (sym same)))) (eqb_tells o e.order)

-- The flags when the first i of a list were looked at: with the others they are as with all.
pub record Looked {A : Type 0} (test : A → ℕ → Bool) (xs : List A) (i : ℕ) (old now : List Bool) : Type 0 where
  pub long : length now ≡ length old
  pub each : (o : ℕ) → o < length old → (flag_in now o || list_any (λ x. test x o) (drop i xs)) ≡ (flag_in old o || list_any (λ x. test x o) xs)

pub look_none : {A : Type 0} (test : A → ℕ → Bool) (xs : List A) (old : List Bool) → Looked test xs 0 old old
look_none test xs old = record { long = refl; each = λ o lt. refl }

pub look_more : {A : Type 0} (test : A → ℕ → Bool) (xs : List A) (i : ℕ) (d : A) (old now new : List Bool) → Looked test xs i old now → i < length xs → length new ≡ length now
    → ((o : ℕ) → o < length now → flag_in new o ≡ (flag_in now o || test (get_or xs i d) o)) → Looked test xs (i + 1) old new
look_more test xs i d old now new h lt long step = record {
  long = long ∙ h.long;
  each = λ o below.
      ap (λ (b : Bool). b || list_any (λ x. test x o) (drop (i + 1) xs)) (step o (omega (arith, h.long)))
      ∙ or_assoc (flag_in now o) (test (get_or xs i d) o) (list_any (λ x. test x o) (drop (i + 1) xs))
      ∙ ap (λ (n : ℕ). flag_in now o || (test (get_or xs i d) o || list_any (λ x. test x o) (drop n xs))) (add-one i)
      ∙ sym (ap (λ (l : List _). flag_in now o || list_any (λ x. test x o) l) (drop-cons xs i d lt)) ∙ h.each o below;
}

pub look_all : {A : Type 0} (test : A → ℕ → Bool) (xs : List A) (i : ℕ) (old now : List Bool) → Looked test xs i old now → length xs ≤ i → (o : ℕ) → o < length old
    → flag_in now o ≡ (flag_in old o || list_any (λ x. test x o) xs)
look_all test xs i old now h all o lt =
    sym (ap (λ (l : List _). flag_in now o || list_any (λ x. test x o) l) (drop_all i xs all) ∙ or_false (flag_in now o)) ∙ h.each o lt

-- the flags when all elements were looked at
pub flags_are : (chunks : List ChunkSheet) (p o first : ℕ) (old now : List Bool) → old ≡ replicate 10 false → o < 10 → first ≡ p - p % 2 ^ o
    → flag_in now o ≡ (flag_in old o || list_any (λ s. list_any (λ e. marks (holder p o) (element_view e)) s.items.items) chunks)
    → flag_in now o ≡ is_marked (items_of (chunk_views chunks)) (record { first = first; order = o })
flags_are chunks p o first old now none lt is_first h =
    h
    ∙ ap (λ (b : Bool). b || list_any (λ s. list_any (λ e. marks (holder p o) (element_view e)) s.items.items) chunks)
    (ap (λ (l : List Bool). flag_in l o) none ∙ get_or-replicate 10 o false false lt)
    ∙ sym (any_in_sheets (marks (holder p o)) chunks) ∙ sym (ap (λ (q : ℕ). is_marked (items_of (chunk_views chunks)) (record { first = q; order = o })) is_first)
