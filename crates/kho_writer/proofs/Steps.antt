-- Bytes that are put one after another.
use Rattle.std.proofs.Common.{◌≡◌, ℕ, ◌+◌, ◌≤◌, List, [], ◌++◌, length, replicate, refl, sym, ap, subst, ◌∙◌, arith}
use Rattle.std.proofs.lemmas.List.{length-append}
use Rattle.phys_frames.specs.Memory.{FolioValue, with_bytes, written}
use Rattle.record_frames.specs.Writing.{holding}
use Rattle.record_frames.proofs.WrittenBytes.{behind, length_written, written_none, framed_more, framed_none}
use Rattle.kho_writer.specs.Layout.{patched, Puts}

-- what one write of the folio does
pub put_is : (f g : FolioValue) (at end : ℕ) (bytes : List ℕ) → length f.bytes ≡ 4096 → at + length bytes ≤ 4096 → end ≡ at + length bytes
    → g ≡ with_bytes f (written f.bytes at bytes) → Puts f at bytes g end
unfolding patched
put_is f g at end bytes size fits e put = record {
  is = put;
  size = ap (λ (x : FolioValue). length x.bytes) put ∙ length_written f.bytes bytes at (omega (arith, size, fits)) ∙ size;
  end_is = e;
  room = omega (arith, e, fits);
}

-- bytes behind bytes
pub then_puts : (f g h : FolioValue) (at m n : ℕ) (a b : List ℕ) → length f.bytes ≡ 4096 → Puts f at a g m → Puts g m b h n → Puts f at (a ++ b) h n
unfolding patched
then_puts f g h at m n a b size p q = record {
  is = q.is
      ∙ ap (λ (x : FolioValue). with_bytes x (written x.bytes m b)) p.is
      ∙ ap (with_bytes f) (behind f.bytes a b at m (omega (arith, size, p.end_is, q.end_is, q.room)) p.end_is);
  size = q.size;
  end_is = omega (arith, p.end_is, q.end_is, length-append a b);
  room = q.room;
}

-- nothing is put
pub puts_none : (f : FolioValue) (at : ℕ) → length f.bytes ≡ 4096 → at ≤ 4096 → Puts f at [] f at
unfolding patched
puts_none f at size fits = record {
  is = ap (with_bytes f) (sym (written_none f.bytes at));
  size = size;
  end_is = omega arith;
  room = fits;
}

-- other bytes that are the same
pub puts_same : (f g : FolioValue) (at n : ℕ) (a b : List ℕ) → Puts f at a g n → a ≡ b → Puts f at b g n
puts_same f g at n a b p e = subst (λ (x : List ℕ). Puts f at x g n) e p

pub puts_at : (f g : FolioValue) (at m n : ℕ) (bytes : List ℕ) → m ≡ at → Puts f at bytes g n → Puts f m bytes g n
puts_at f g at m n bytes e p = subst (λ (x : ℕ). Puts f x bytes g n) (sym e) p

-- bytes put into a folio of zeros, from its beginning on
pub puts_all : (f g h : FolioValue) (bytes : List ℕ) (n : ℕ) → g ≡ holding f [] → Puts g 0 bytes h n → h ≡ holding f bytes
unfolding patched
puts_all f g h bytes n zeros p =
    p.is
    ∙ ap (λ (x : FolioValue). with_bytes x (written x.bytes 0 bytes)) zeros
    ∙ ap (with_bytes f) (framed_more [] bytes 0 refl (omega (arith, p.end_is, p.room)))

-- a frame whose bytes are all zeros
pub zeros_held : (f g : FolioValue) → length f.bytes ≡ 4096 → g ≡ with_bytes f (replicate (length f.bytes) 0) → g ≡ holding f []
zeros_held f g size e = e ∙ ap (with_bytes f) (framed_none (length f.bytes) size)
