-- A page of a program as it is written, and frames with one more page of it.
use Rattle.std.proofs.Common.{◌≡◌, ◌≢◌, ℕ, ◌+◌, ◌-◌, ◌<◌, List, ◌++◌, length, take, drop, replicate, Some, None, refl, sym, ap, ◌∙◌, append_assoc, get_or-set_other, get_or-set_same}
use Rattle.std.proofs.Math.Seq.{take-append_seam, drop-append-add}
use Rattle.std.proofs.lemmas.List.{drop-replicate}
use Rattle.std.specs.Int.{w64, to_le_bytes}
use Rattle.ho_base.specs.Bytes.{with_u64_at}
use Rattle.ho_base.specs.declared.numbers.Pfn.{Pfn}
use Rattle.phys_frames.specs.Memory.{Memory, page_at, with_page}

-- 8 bytes put after the first 8
seam : (a b rest : List ℕ) → length a ≡ 8 → (take 8 (a ++ rest) ++ b) ++ drop 16 (a ++ rest) ≡ a ++ (b ++ drop 8 rest)
seam a b rest e =
    let front : take 8 (a ++ rest) ≡ a = ap (λ (k : ℕ). take k (a ++ rest)) (sym e) ∙ take-append_seam a rest in
    let back : drop 16 (a ++ rest) ≡ drop 8 rest = ap (λ (k : ℕ). drop (k + 8) (a ++ rest)) (sym e) ∙ drop-append-add a rest 8 in
    ap (λ (x : List ℕ). (x ++ b) ++ drop 16 (a ++ rest)) front ∙ ap (λ (y : List ℕ). (a ++ b) ++ y) back ∙ append_assoc a b (drop 8 rest)

-- two numbers put into n zeros
pub two_numbers : (n v i : ℕ) → with_u64_at (with_u64_at (replicate n 0) 0 v) 8 i ≡ to_le_bytes w64 v ++ (to_le_bytes w64 i ++ replicate (n - 8 - 8) 0)
two_numbers n v i =
    let zeros : drop 8 (replicate n 0) ≡ replicate (n - 8) 0 = drop-replicate 8 n 0 in
    let fewer : drop 8 (replicate (n - 8) 0) ≡ replicate (n - 8 - 8) 0 = drop-replicate 8 (n - 8) 0 in
    ap (λ (l : List ℕ). with_u64_at (to_le_bytes w64 v ++ l) 8 i) zeros
    ∙ seam (to_le_bytes w64 v) (to_le_bytes w64 i) (replicate (n - 8) 0) refl
    ∙ ap (λ (l : List ℕ). to_le_bytes w64 v ++ (to_le_bytes w64 i ++ l)) fewer

-- the frame that was written, and one that wasn't
pub written_page : (m : Memory) (p : Pfn) (bytes : List ℕ) → p.0 < length m.pages → page_at (with_page m p bytes) p ≡ Some bytes
written_page m p bytes lt = get_or-set_same m.pages p.0 (Some bytes) None lt

pub other_page : (m : Memory) (p q : Pfn) (bytes : List ℕ) → q.0 ≢ p.0 → page_at (with_page m p bytes) q ≡ page_at m q
other_page m p q bytes ne = get_or-set_other m.pages p.0 q.0 (Some bytes) None ne
