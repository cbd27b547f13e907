-- Elements rise over a chain: of those before, only the last one counts.
use Rattle.std.proofs.Common.{◌≡◌, Bool, true, false, List, [], ◌∷◌, ◌++◌, Option, Some, None, refl, sym, ap, ◌∙◌}
use Rattle.std.specs.Prelude.{◌&&◌}
use Rattle.folio_bitmaps.specs.Chunks.{Element}
use Rattle.record_frames.specs.Rules.{all_rise, element_before}
use Rattle.kho_records.specs.Fronts.{place_of, stands_behind, rise_behind, last_place}
use Rattle.kho_records.specs.declared.chain.order.ElementPlace.{ElementPlace}

and_assoc : (a b c : Bool) → (a && (b && c)) ≡ ((a && b) && c)
and_assoc true b c = refl
and_assoc false b c = refl

from_first : (e : Element) (xs : List Element) → all_rise element_before (e ∷ xs) ≡ rise_behind (Some (place_of e)) xs
from_first e [] = refl
from_first e (x ∷ xs) = ap (λ (b : Bool). element_before e x && b) (from_first x xs)

from_none : (xs : List Element) → all_rise element_before xs ≡ rise_behind None xs
from_none [] = refl
from_none (x ∷ xs) = from_first x xs

pub rise_append : (last : Option ElementPlace) (xs ys : List Element) → rise_behind last (xs ++ ys) ≡ (rise_behind last xs && rise_behind (last_place last xs) ys)
rise_append last [] ys = refl
rise_append last (x ∷ xs) ys =
    ap (λ (b : Bool). stands_behind last x && b) (rise_append (Some (place_of x)) xs ys)
    ∙ and_assoc (stands_behind last x) (rise_behind (Some (place_of x)) xs) (rise_behind (last_place (Some (place_of x)) xs) ys)

pub last_append : (last : Option ElementPlace) (xs ys : List Element) → last_place last (xs ++ ys) ≡ last_place (last_place last xs) ys
last_append last [] ys = refl
last_append last (x ∷ xs) ys = last_append (Some (place_of x)) xs ys

-- behind elements that rise, elements rise where they rise behind the last one
pub rise_behind_all : (last : Option ElementPlace) (earlier xs : List Element) → last ≡ last_place None earlier → rise_behind None earlier ≡ true
    → all_rise element_before (earlier ++ xs) ≡ rise_behind last xs
rise_behind_all last earlier xs e h =
    from_none (earlier ++ xs) ∙ rise_append None earlier xs
    ∙ ap (λ (b : Bool). b && rise_behind (last_place None earlier) xs) h
    ∙ ap (λ (p : Option ElementPlace). rise_behind p xs) (sym e)

-- more elements that rise behind the last one
pub rise_on : (last : Option ElementPlace) (earlier xs : List Element) → last ≡ last_place None earlier → rise_behind None earlier ≡ true → rise_behind last xs ≡ true
    → rise_behind None (earlier ++ xs) ≡ true
rise_on last earlier xs e h r =
    rise_append None earlier xs ∙ ap (λ (b : Bool). b && rise_behind (last_place None earlier) xs) h
    ∙ ap (λ (p : Option ElementPlace). rise_behind p xs) (sym e) ∙ r
