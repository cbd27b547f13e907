-- What several writes in turn come to.
use Rattle.std.proofs.Common.{◌≡◌, ℕ, ◌+◌, ◌<◌, List, ◌++◌, [], length, take, drop, get_or, Option, Some, None, Result, Ok, Err, refl, sym, ap, subst, ◌∙◌, arith, append_assoc}
use Rattle.std.proofs.lemmas.List.{append-nil, length-append, take-append-le, take-append-drop}
use Rattle.std.proofs.Math.Seq.{take-add, take-append-add}
use Rattle.std.proofs.lemmas.Grind.{flat_map-append}
use Rattle.std.specs.Prelude.{OnOk, OnErr, IfErr}
use Rattle.std.specs.List.{flat_map}
use Rattle.ho_io.specs.Told.{behind}
use Rattle.image_file.specs.Image.{Pages, page_bytes, header, image}
use Rattle.image_file.specs.Written.{WrotePart}

-- two pieces in turn are one piece
pub behind_both : (told : Option (List ℕ)) (a b : List ℕ) → behind (behind told a) b ≡ behind told (a ++ b)
unfolding behind
behind_both None a b = refl
behind_both (Some told) a b = ap Some (append_assoc told a b)

-- all of one piece, and then all of another
pub all_both : (first before now : Option (List ℕ)) (a b : List ℕ) → before ≡ behind first a → now ≡ behind before b → now ≡ behind first (a ++ b)
all_both first before now a b e h = h ∙ ap (λ (o : Option (List ℕ)). behind o b) e ∙ behind_both first a b

-- a part of one piece is a part of this piece and another
pub part_front : (first now : Option (List ℕ)) (a b : List ℕ) → WrotePart first now a → WrotePart first now (a ++ b)
part_front first now a b part =
    let within : part.0 < length a = part.1.0 in
    let same : take part.0 (a ++ b) ≡ take part.0 a = take-append-le part.0 a b (omega arith) in
    (part.0, (omega (arith, length-append a b), part.1.1 ∙ ap (behind first) (sym same)))

-- all of one piece, and then a part of another
pub part_back : (first before now : Option (List ℕ)) (a b : List ℕ) → before ≡ behind first a → WrotePart before now b → WrotePart first now (a ++ b)
part_back first before now a b e part =
    let within : part.0 < length b = part.1.0 in
    let same : take (length a + part.0) (a ++ b) ≡ a ++ take part.0 b = take-append-add a b part.0 in
    (length a + part.0, (omega (arith, length-append a b), all_both first before now a (take part.0 b) e part.1.1 ∙ ap (behind first) (sym same)))

-- nothing was written yet
pub nothing_yet : (told : Option (List ℕ)) → told ≡ behind told []
unfolding behind
nothing_yet None = refl
nothing_yet (Some told) = ap Some (sym (append-nil told))

-- the bytes of the frames so far, and all of a run of frames more
pub all_more : (first before now : Option (List ℕ)) (pages : Pages) (i n : ℕ)
    → before ≡ behind first (flat_map page_bytes (take i pages)) → now ≡ behind before (flat_map page_bytes (take n (drop i pages))) → now ≡ behind first (flat_map page_bytes (take (i + n) pages))
all_more first before now pages i n f h =
    all_both first before now (flat_map page_bytes (take i pages)) (flat_map page_bytes (take n (drop i pages))) f h
    ∙ ap (behind first) (sym (ap (flat_map page_bytes) (take-add i n pages) ∙ flat_map-append page_bytes (take i pages) (take n (drop i pages))))

-- the bytes of the frames so far, and a part of a run of frames more
pub part_more : (first before now : Option (List ℕ)) (pages : Pages) (i n : ℕ)
    → before ≡ behind first (flat_map page_bytes (take i pages)) → WrotePart before now (flat_map page_bytes (take n (drop i pages))) → WrotePart first now (flat_map page_bytes pages)
part_more first before now pages i n f part =
    let run = flat_map page_bytes (take n (drop i pages)) in
    let rest = flat_map page_bytes (drop n (drop i pages)) in
    let around : flat_map page_bytes pages ≡ flat_map page_bytes (take i pages) ++ (run ++ rest) =
    ap (flat_map page_bytes) (sym (take-append-drop i pages)) ∙ flat_map-append page_bytes (take i pages) (drop i pages)
    ∙ ap (λ (l : List ℕ). flat_map page_bytes (take i pages) ++ l) (ap (flat_map page_bytes) (sym (take-append-drop n (drop i pages))) ∙ flat_map-append page_bytes (take n (drop i pages)) (drop n (drop i pages))) in
    subst (λ (l : List ℕ). WrotePart first now l) (sym around)
    (part_back first before now (flat_map page_bytes (take i pages)) (run ++ rest) f (part_front before now run rest part))

-- the header alone, a part of it, and all or a part of the frames after it
module _ (first now : Option (List ℕ)) (pages : Pages) (count entry : ℕ) (head : List ℕ) (is : head ≡ header count entry) (same : count ≡ length pages) where
  whole : head ≡ header (length pages) entry
  whole = is ∙ ap (λ (k : ℕ). header k entry) same

  pub image_front : WrotePart first now head → WrotePart first now (image pages entry)
  unfolding image
  image_front part =
      part_front first now (header (length pages) entry) (flat_map page_bytes pages) (subst (λ (l : List ℕ). WrotePart first now l) whole part)

  pub image_all : (before : Option (List ℕ)) → before ≡ behind first head → now ≡ behind before (flat_map page_bytes pages) → now ≡ behind first (image pages entry)
  unfolding image
  image_all before e h = all_both first before now (header (length pages) entry) (flat_map page_bytes pages) (e ∙ ap (behind first) whole) h

  pub image_back : (before : Option (List ℕ)) → before ≡ behind first head → WrotePart before now (flat_map page_bytes pages) → WrotePart first now (image pages entry)
  unfolding image
  image_back before e part = part_back first before now (header (length pages) entry) (flat_map page_bytes pages) (e ∙ ap (behind first) whole) part

-- what holds of an answer, by what follows from it
pub on_ok : {T E P Q : Type 0} (r : Result T E) → (P → Q) → OnOk r P → OnOk r Q
on_ok (Ok x) f p = f p
on_ok (Err e) f p = p

pub on_err : {T E P Q : Type 0} (r : Result T E) → (P → Q) → OnErr r P → OnErr r Q
on_err (Ok x) f p = p
on_err (Err e) f p = f p

-- what holds holds of an answer that is an error
pub of_err : {T E P : Type 0} (r : Result T E) → P → OnErr r P
of_err (Ok x) p = tt
of_err (Err e) p = p

pub if_err : {T E : Type 0} (P Q : E → Type 0) → ((e : E) → P e → Q e) → (r : Result T E) → IfErr r P → IfErr r Q
if_err P Q f (Ok x) p = p
if_err P Q f (Err e) p = f e p
