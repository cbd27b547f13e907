-- An element of a chunk frame from what was read of its bytes.
use Rattle.std.proofs.Common.{◌≡◌, ℕ, Bool, cond, List, drop, Option, Some, None, refl, sym, ap, ◌∙◌}
use Rattle.ho_base.specs.Bytes.{u64_at}
use Rattle.folio_bitmaps.specs.Chunks.{Element}
use Rattle.record_frames.specs.Rules.{is_element}
use Rattle.kho_records.specs.Fronts.{element_kept}

abbrev pub element_of : ℕ → ℕ → List ℕ → Element
element_of base order bits = record { base = base; order = order; bits = bits }

abbrev tested : ℕ → Element → Option Element
tested n e = cond (is_element n e) (Some e) None

steps : (n : ℕ) (bytes : List ℕ) → element_kept n bytes ≡ tested n (element_of (u64_at bytes 0) (u64_at bytes 8) (drop 16 bytes))
unfolding element_kept
steps n bytes = refl

pub element_is : (n base order : ℕ) (bytes bits : List ℕ) (b : Bool) → base ≡ u64_at bytes 0 → order ≡ u64_at bytes 8 → bits ≡ drop 16 bytes
    → b ≡ is_element n (element_of base order bits) → element_kept n bytes ≡ cond b (Some (element_of base order bits)) None
element_is n base order bytes bits b is_base is_order is_bits e =
    steps n bytes
    ∙ ap (λ (x : ℕ). tested n (element_of x (u64_at bytes 8) (drop 16 bytes))) (sym is_base)
    ∙ ap (λ (x : ℕ). tested n (element_of base x (drop 16 bytes))) (sym is_order)
    ∙ ap (λ (l : List ℕ). tested n (element_of base order l)) (sym is_bits)
    ∙ ap (λ (t : Bool). cond t (Some (element_of base order bits)) None) (sym e)
