-- The folios of a chain while it is written.
use Rattle.std.proofs.Common.{◌≡◌, ℕ, ◌+◌, ◌/◌, ◌<◌, ◌≤◌, true, List, [], ◌∷◌, ◌++◌, length, map, take, get_or, set, refl, sym, ap, subst, ◌∙◌, ⊎_elim, arith}
use Rattle.std.specs.FinSet as sets
use Rattle.std.proofs.lemmas.Bool.{cases_eq}
use Rattle.std.proofs.lemmas.List.{append-nil, take_all, drop_all, get_or-set_same, get_or-set_other, get_or_default, length-set, get_or-map, get_or_past, length-map}
use Rattle.ho_base.specs.declared.numbers.Pfn.{Pfn}
use Rattle.phys_frames.specs.Memory.{FolioValue as Folio, with_bytes, over}
use Rattle.std.specs.List.{All}
use Rattle.std.proofs.lemmas.List.Elements.{All-head, All-tail}
use Rattle.std.proofs.lemmas.Bool.{or_cases}
use Rattle.std.proofs.Math.Nat.{mod-one}
use Rattle.folio_bitmaps.specs.Runs.{Run, Runs, IsRun}
use Rattle.folio_bitmaps.proofs.Sets.{run_total, tied_same}
use Rattle.folio_bitmaps.specs.Written.{IsWritten, with_frames, next_first}
use Rattle.folio_bitmaps.proofs.Extra.{one, other_page}

pub over_all : (old new : List ℕ) → length new ≡ length old → over old new ≡ new
over_all old new e =
    ap (λ (l : List ℕ). take (length old) (new ++ l)) (drop_all (length new) old (omega arith)) ∙ ap (take (length old)) (append-nil new) ∙ take_all (length old) new (omega arith)

pub with_frames_push : (runs : Runs) (ps : List Pfn) (p : Pfn) → with_frames runs (ps ++ p ∷ []) ≡ sets.insert (with_frames runs ps) (one p.0)
unfolding with_frames
with_frames_push runs [] p = refl
with_frames_push runs (q ∷ ps) p = with_frames_push (sets.insert runs (one q.0)) ps p

pub with_frames_none : (runs : Runs) → with_frames runs [] ≡ runs
unfolding with_frames
with_frames_none runs = refl

one_run : (n p : ℕ) → p < n → IsRun n (one p)
one_run n p lt = (omega arith, mod-one p, omega arith)

-- the frames are runs, beside those that were there
pub with_frames_members : (n : ℕ) (runs : Runs) (ps : List Pfn) → ((r : Run) → sets.contains runs r ≡ true → IsRun n r) → All (λ (p : Pfn). p.0 < n) ps → (r : Run) → sets.contains (with_frames runs ps) r ≡ true → IsRun n r
unfolding with_frames
with_frames_members n runs [] h all r t = h r t
with_frames_members n runs (p ∷ ps) h all r t =
    with_frames_members n (sets.insert runs (one p.0)) ps
    (λ q m. ⊎_elim (λ e. subst (IsRun n) (sym (tied_same q (one p.0) e)) (one_run n p.0 (All-head (λ (x : Pfn). x.0 < n) p ps all))) (λ o. h q o) (or_cases _ _ (sym (sets.contains-insert run_total runs (one p.0) q) ∙ m)))
    (All-tail (λ (x : Pfn). x.0 < n) p ps all) r t

-- the folios differ from the old ones in their bytes alone, and the first k are written
pub record AreWritten (n : ℕ) (runs : Runs) (old : List Folio) (k : ℕ) (now : List Folio) : Type 0 where
  pub size : length now ≡ length old
  pub same : (j : ℕ) (d : Folio) → j < length old → get_or now j d ≡ with_bytes (get_or old j d) (get_or now j d).bytes
  pub done : (j : ℕ) (d : Folio) → j < k → IsWritten n runs j (next_first old j) (get_or now j d).bytes

pub written_begins : (n : ℕ) (runs : Runs) (old : List Folio) → AreWritten n runs old 0 old
written_begins n runs old = record { size = refl; same = λ j d lt. refl; done = λ j d lt. absurd (omega arith) }

-- the first frames stay
pub first_same : (n : ℕ) (runs : Runs) (old : List Folio) (k : ℕ) (now : List Folio) (j : ℕ) (d : Folio) → AreWritten n runs old k now → j < length old → (get_or now j d).first.0 ≡ get_or (map (λ (f : Folio). f.first.0) old) j 0
first_same n runs old k now j d h lt = ap (λ (f : Folio). f.first.0) (h.same j d lt) ∙ sym (get_or-map (λ (f : Folio). f.first.0) old j d 0 lt)

pub next_none : (old : List Folio) (i : ℕ) → length old ≤ i + 1 → 0 ≡ next_first old i
next_none old i le = sym (get_or_past (map (λ (f : Folio). f.first.0) old) (i + 1) 0 (omega (arith, length-map old (λ (f : Folio). f.first.0))))

module _ (n : ℕ) (runs : Runs) (old : List Folio) (now : List Folio) (i : ℕ) (was f : Folio) (lt : i < length old)
    (read : was ≡ get_or now i was) (is : f ≡ with_bytes was f.bytes) where
  replaced_same : length now ≡ length old → ((j : ℕ) (d : Folio) → j < length old → get_or now j d ≡ with_bytes (get_or old j d) (get_or now j d).bytes)
      → (j : ℕ) (d : Folio) → j < length old → get_or (set now i f) j d ≡ with_bytes (get_or old j d) (get_or (set now i f) j d).bytes
  replaced_same size same j d few =
      ⊎_elim (λ (e : j ≡ i).
      let at : get_or (set now i f) j d ≡ f = ap (λ (x : ℕ). get_or (set now i f) x d) e ∙ get_or-set_same now i f d (omega arith) in
      let before : was ≡ get_or now j d = read ∙ get_or_default now i was d (omega arith) ∙ ap (λ (x : ℕ). get_or now x d) (sym e) in
      at ∙ is ∙ ap (λ (g : Folio). with_bytes g f.bytes) (before ∙ same j d few) ∙ ap (λ (g : Folio). with_bytes (get_or old j d) g.bytes) (sym at))
      (λ (ne : j ≡ i → ⊥).
      let at : get_or (set now i f) j d ≡ get_or now j d = get_or-set_other now i j f d ne in
      at ∙ same j d few ∙ ap (λ (g : Folio). with_bytes (get_or old j d) g.bytes) (sym at))
      (cases_eq j i)

  pub written_more : AreWritten n runs old i now → IsWritten n runs i (next_first old i) f.bytes → AreWritten n runs old (i + 1) (set now i f)
  written_more h w = record {
    size = length-set now i f ∙ h.size;
    same = replaced_same h.size h.same;
    done = λ j d few. ⊎_elim
        (λ (e : j ≡ i). let at : get_or (set now i f) j d ≡ f = ap (λ (x : ℕ). get_or (set now i f) x d) e ∙ get_or-set_same now i f d (omega (arith, h.size)) in
        subst (λ (x : ℕ). IsWritten n runs x (next_first old x) (get_or (set now i f) j d).bytes) (sym e) (subst (λ (g : Folio). IsWritten n runs i (next_first old i) g.bytes) (sym at) w))
        (λ (ne : j ≡ i → ⊥). subst (λ (g : Folio). IsWritten n runs j (next_first old j) g.bytes) (sym (get_or-set_other now i j f d ne)) (h.done j d (omega arith)))
        (cases_eq j i);
  }

  -- the bit of frame p is set in folio i
  pub written_marked : (p : ℕ) → i ≡ p / 4096 / 7 → AreWritten n runs old (length old) now → IsWritten n (sets.insert runs (one p)) i (next_first old i) f.bytes → AreWritten n (sets.insert runs (one p)) old (length old) (set now i f)
  written_marked p ie h w = record {
    size = length-set now i f ∙ h.size;
    same = replaced_same h.size h.same;
    done = λ j d few. ⊎_elim
        (λ (e : j ≡ i). let at : get_or (set now i f) j d ≡ f = ap (λ (x : ℕ). get_or (set now i f) x d) e ∙ get_or-set_same now i f d (omega (arith, h.size)) in
        subst (λ (x : ℕ). IsWritten n (sets.insert runs (one p)) x (next_first old x) (get_or (set now i f) j d).bytes) (sym e) (subst (λ (g : Folio). IsWritten n (sets.insert runs (one p)) i (next_first old i) g.bytes) (sym at) w))
        (λ (ne : j ≡ i → ⊥). subst (λ (g : Folio). IsWritten n (sets.insert runs (one p)) j (next_first old j) g.bytes) (sym (get_or-set_other now i j f d ne))
        (other_page n p runs j (next_first old j) (get_or now j d).bytes (λ e. ne (e ∙ sym ie)) (h.done j d few)))
        (cases_eq j i);
  }
