-- Finding by a name, place by place.
use Rattle.std.proofs.Common.{◌≡◌, ℕ, ◌<◌, ◌≤◌, ◌+◌, true, false, List, [], ◌∷◌, length, drop, slice_index_or, zero, suc, add-one, refl, arith}
use Rattle.std.specs.Prelude.{None, Some}
use Rattle.ho_events.specs.Lists.{same_bytes}
use Rattle.ho_events.specs.ByName.{among}

module _ {V : Type 0} (name : List ℕ) where
  among_here : (e : List ℕ × V) → (es : List (List ℕ × V)) → same_bytes e.0 name ≡ true → among name (e ∷ es) ≡ Some e.1
  unfolding among
  among_here e es h = rw h refl

  among_later : (e : List ℕ × V) → (es : List (List ℕ × V)) → same_bytes e.0 name ≡ false → among name (e ∷ es) ≡ among name es
  unfolding among
  among_later e es h = rw h refl

  among_none : among {V = V} name [] ≡ None
  unfolding among
  among_none = refl

  -- the first of the rest has the name;  it hasn't;  there is no rest
  pub among_at : (i : ℕ) → (es : List (List ℕ × V)) → (d : List ℕ × V) → i < length es → same_bytes (slice_index_or es i d).0 name ≡ true → among name (drop i es) ≡ Some (slice_index_or es i d).1
  among_at i [] d within h = absurd (omega arith)
  among_at zero (e ∷ es) d within h = among_here e es h
  among_at (suc i) (e ∷ es) d within h = among_at i es d (omega arith) h

  skip_suc : (i : ℕ) → (es : List (List ℕ × V)) → (d : List ℕ × V) → i < length es → same_bytes (slice_index_or es i d).0 name ≡ false → among name (drop i es) ≡ among name (drop (suc i) es)
  skip_suc i [] d within h = absurd (omega arith)
  skip_suc zero (e ∷ es) d within h = among_later e es h
  skip_suc (suc i) (e ∷ es) d within h = skip_suc i es d (omega arith) h

  pub among_skip : (i : ℕ) → (es : List (List ℕ × V)) → (d : List ℕ × V) → i < length es → same_bytes (slice_index_or es i d).0 name ≡ false → among name (drop i es) ≡ among name (drop (i + 1) es)
  among_skip i es d within h = rw add-one (skip_suc i es d within h)

  pub among_end : (i : ℕ) → (es : List (List ℕ × V)) → length es ≤ i → among name (drop i es) ≡ None
  among_end zero [] within = among_none
  among_end (suc i) [] within = among_none
  among_end zero (e ∷ es) within = absurd (omega arith)
  among_end (suc i) (e ∷ es) within = among_end i es (omega arith)
