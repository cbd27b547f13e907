-- The token that is read at the front stands there, and a token that stands there is read.
use Rattle.std.proofs.Common.{◌≡◌, ℕ, ◌+◌, ◌^◌, ◌<◌, Bool, true, false, cond, eqb, List, [], ◌∷◌, ◌++◌, length, drop, replicate, Option, Some, None, refl, sym, ap, subst, ◌∙◌, append_assoc, inl, inr, ◌⊎◌, lit<}
use Rattle.std.proofs.lemmas.Bool.{eqb-true}
use Rattle.std.proofs.lemmas.List.{take_at, drop_at, take-append-drop, length-append}
use Rattle.fdt_blob.specs.Tokens.{Token, begin_node, property, end_node, nop, word, padding, padded, token_bytes, is_text, IsToken, IsProperty}
use Rattle.fdt_blob.specs.Reading.{◌>>=◌, number_at, part_at, behind_zeros, text_at, begun_at, property_at, of_kind, token_at}
use Rattle.fdt_blob.proofs.Bytes.{IsBytes, IsBytes-behind, bind_some, number_takes, number_again, part_takes, part_again, zeros_take, zeros_again, text_takes, text_again}

-- A token stands at the front of some bytes.
pub record Takes (strings bytes : List ℕ) (t : Token) (rest : List ℕ) : Type 0 where
  pub parts : bytes ≡ token_bytes t ++ rest
  pub token : IsToken strings t
  pub rest_fits : IsBytes rest

some_is : {A : Type 0} (x y : A) → Some x ≡ Some y → x ≡ y
some_is x y e = cc

abbrev pub found : Token → List ℕ → Option (Token × List ℕ)
found t rest = Some (t, rest)

pub token_is : (t u : Token) (a b : List ℕ) → found t a ≡ found u b → t ≡ u
token_is t u a b e = ap (λ (p : Token × List ℕ). p.0) (some_is (t, a) (u, b) e)

pub rest_is : (t u : Token) (a b : List ℕ) → found t a ≡ found u b → a ≡ b
rest_is t u a b e = ap (λ (p : Token × List ℕ). p.1) (some_is (t, a) (u, b) e)

pub none_found : (t : Token) (rest : List ℕ) → None ≡ found t rest → ⊥
none_found t rest e = cc

-- which way a test went
chosen : {A : Type 0} (b : Bool) (x y z : A) → cond b x y ≡ z → ((b ≡ true) × (x ≡ z)) ⊎ ((b ≡ false) × (y ≡ z))
chosen true x y z e = inl (refl, e)
chosen false x y z e = inr (refl, e)

-- ---- a name behind BEGIN_NODE

-- a name with its zero and its padding, in three parts
name_parts : (name rest : List ℕ) → padded (name ++ 0 ∷ []) ++ rest ≡ (name ++ 0 ∷ []) ++ (replicate (padding (length name + 1)) 0 ++ rest)
name_parts name rest =
    append_assoc (name ++ 0 ∷ []) (replicate (padding (length (name ++ 0 ∷ []))) 0) rest
    ∙ ap (λ (k : ℕ). (name ++ 0 ∷ []) ++ (replicate (padding k) 0 ++ rest)) (length-append name (0 ∷ []))

begun_takes : (bytes : List ℕ) (t : Token) (rest : List ℕ) → begun_at bytes ≡ Some (t, rest) → (name : List ℕ) × (t ≡ begin_node name) × (is_text name ≡ true) × (bytes ≡ padded (name ++ 0 ∷ []) ++ rest)
unfolding begun_at
begun_takes bytes t rest e =
    let b = bind_some (text_at bytes) (λ (name : List ℕ). behind_zeros (padding (length name + 1)) (drop (length name + 1) bytes) >>= λ (r : List ℕ). Some (begin_node name, r)) (t, rest) e in
    let name = b.0 in
    let z = bind_some (behind_zeros (padding (length name + 1)) (drop (length name + 1) bytes)) (λ (r : List ℕ). Some (begin_node name, r)) (t, rest) b.2 in
    let x = text_takes bytes name b.1 in
    let zeros = zeros_take (padding (length name + 1)) (drop (length name + 1) bytes) z.0 z.1 in
    let same : z.0 ≡ rest = rest_is (begin_node name) t z.0 rest z.2 in (
      name,
      sym (token_is (begin_node name) t z.0 rest z.2),
      x.0,
      sym (take-append-drop (length name + 1) bytes) ∙ ap (λ (y : List ℕ). y ++ drop (length name + 1) bytes) x.1 ∙ ap (λ (y : List ℕ). (name ++ 0 ∷ []) ++ y) (zeros ∙ ap (λ (y : List ℕ). replicate (padding (length name + 1)) 0 ++ y) same)
          ∙ sym (name_parts name rest),
    )

begun_again : (name rest : List ℕ) → is_text name ≡ true → begun_at (padded (name ++ 0 ∷ []) ++ rest) ≡ Some (begin_node name, rest)
unfolding begun_at
begun_again name rest is =
    let zeros = replicate (padding (length name + 1)) 0 ++ rest in
    let bytes = (name ++ 0 ∷ []) ++ zeros in
    let len : length (name ++ 0 ∷ []) ≡ length name + 1 = length-append name (0 ∷ []) in
    let text : text_at bytes ≡ Some name = text_again bytes name is (take_at (name ++ 0 ∷ []) zeros (length name + 1) len) in
    let gone : drop (length name + 1) bytes ≡ zeros = drop_at (name ++ 0 ∷ []) zeros (length name + 1) len in
    ap begun_at (name_parts name rest)
    ∙ ap (λ (o : Option (List ℕ)). o >>= λ (n : List ℕ). behind_zeros (padding (length n + 1)) (drop (length n + 1) bytes) >>= λ (r : List ℕ). Some (begin_node n, r)) text
    ∙ ap (λ (y : List ℕ). behind_zeros (padding (length name + 1)) y >>= λ (r : List ℕ). Some (begin_node name, r)) gone
    ∙ ap (λ (o : Option (List ℕ)). o >>= λ (r : List ℕ). Some (begin_node name, r)) (zeros_again (padding (length name + 1)) rest)

-- ---- what stands behind PROP

-- a property's bytes, in four parts
property_parts : (place : ℕ) (value rest : List ℕ) → (word (length value) ++ (word place ++ padded value)) ++ rest ≡ word (length value) ++ (word place ++ (value ++ (replicate (padding (length value)) 0 ++ rest)))
property_parts place value rest =
    append_assoc (word (length value)) (word place ++ padded value) rest
    ∙ ap (λ (y : List ℕ). word (length value) ++ y) (append_assoc (word place) (padded value) rest ∙ ap (λ (y : List ℕ). word place ++ y) (append_assoc value (replicate (padding (length value)) 0) rest))

-- what is read behind each field
abbrev after_value : ℕ → List ℕ → ℕ → List ℕ × List ℕ → Option (Token × List ℕ)
after_value size name place v = behind_zeros (padding size) v.1 >>= λ (r : List ℕ). found (property name place v.0) r

abbrev after_name : ℕ → ℕ → List ℕ → List ℕ → Option (Token × List ℕ)
after_name size place rest name = part_at size rest >>= after_value size name place

abbrev after_place : List ℕ → ℕ → ℕ × List ℕ → Option (Token × List ℕ)
after_place strings size p = text_at (drop p.0 strings) >>= after_name size p.0 p.1

abbrev after_size : List ℕ → ℕ × List ℕ → Option (Token × List ℕ)
after_size strings p = number_at p.1 >>= after_place strings p.0

property_takes : (strings bytes : List ℕ) (t : Token) (rest : List ℕ) → IsBytes bytes → property_at strings bytes ≡ Some (t, rest)
    → (name : List ℕ) × (place : ℕ) × (value : List ℕ) × (t ≡ property name place value) × IsProperty strings name place value × (bytes ≡ (word (length value) ++ (word place ++ padded value)) ++ rest)
unfolding property_at
property_takes strings bytes t rest fits e =
    let b1 = bind_some (number_at bytes) (after_size strings) (t, rest) e in
    let size = b1.0.0 in
    let r1 = b1.0.1 in
    let n1 = number_takes bytes size r1 fits b1.1 in
    let b2 = bind_some (number_at r1) (after_place strings size) (t, rest) b1.2 in
    let place = b2.0.0 in
    let r2 = b2.0.1 in
    let n2 = number_takes r1 place r2 (IsBytes-behind (word size) r1 (subst IsBytes n1.0 fits)) b2.1 in
    let b3 = bind_some (text_at (drop place strings)) (after_name size place r2) (t, rest) b2.2 in
    let name = b3.0 in
    let x = text_takes (drop place strings) name b3.1 in
    let b4 = bind_some (part_at size r2) (after_value size name place) (t, rest) b3.2 in
    let value = b4.0.0 in
    let r3 = b4.0.1 in
    let p = part_takes size r2 value r3 b4.1 in
    let b5 = bind_some (behind_zeros (padding size) r3) (λ (r : List ℕ). found (property name place value) r) (t, rest) b4.2 in
    let r4 = b5.0 in
    let z = zeros_take (padding size) r3 r4 b5.1 in
    let behind : r2 ≡ value ++ (replicate (padding size) 0 ++ rest) = p.0 ∙ ap (λ (y : List ℕ). value ++ y) (z ∙ ap (λ (y : List ℕ). replicate (padding size) 0 ++ y) (rest_is (property name place value) t r4 rest b5.2)) in
    let size_fits : length value < 2 ^ 32 = subst (λ (k : ℕ). k < 2 ^ 32) (sym p.1) n1.1 in (
      name,
      place,
      value,
      sym (token_is (property name place value) t r4 rest b5.2),
      record { text = x.0; named = x.1; place_fits = n2.1; value_fits = size_fits },
      n1.0 ∙ ap (λ (y : List ℕ). word size ++ y) (n2.0 ∙ ap (λ (y : List ℕ). word place ++ y) behind)
          ∙ ap (λ (k : ℕ). word k ++ (word place ++ (value ++ (replicate (padding k) 0 ++ rest)))) (sym p.1) ∙ sym (property_parts place value rest),
    )

property_again : (strings name : List ℕ) (place : ℕ) (value rest : List ℕ) → IsProperty strings name place value → property_at strings ((word (length value) ++ (word place ++ padded value)) ++ rest) ≡ Some (property name place value, rest)
unfolding property_at
property_again strings name place value rest is =
    let size = length value in
    let r3 = replicate (padding size) 0 ++ rest in
    let r2 = value ++ r3 in
    let r1 = word place ++ r2 in
    ap (property_at strings) (property_parts place value rest)
    ∙ ap (λ (o : Option (ℕ × List ℕ)). o >>= after_size strings) (number_again size r1 is.value_fits)
    ∙ ap (λ (o : Option (ℕ × List ℕ)). o >>= after_place strings size) (number_again place r2 is.place_fits)
    ∙ ap (λ (o : Option (List ℕ)). o >>= after_name size place r2) (text_again (drop place strings) name is.text is.named)
    ∙ ap (λ (o : Option (List ℕ × List ℕ)). o >>= after_value size name place) (part_again value r3 size refl)
    ∙ ap (λ (o : Option (List ℕ)). o >>= λ (r : List ℕ). found (property name place value) r) (zeros_again (padding size) rest)

-- ---- tokens

-- a token's number and the rest of its bytes
finished : (strings bytes r text rest : List ℕ) (k : ℕ) (t : Token) → bytes ≡ word k ++ r → IsBytes r → r ≡ text ++ rest → token_bytes t ≡ word k ++ text → IsToken strings t → Takes strings bytes t rest
finished strings bytes r text rest k t whole fits behind is token = record {
  parts = whole ∙ ap (λ (y : List ℕ). word k ++ y) behind ∙ sym (append_assoc (word k) text rest) ∙ ap (λ (y : List ℕ). y ++ rest) (sym is);
  token = token;
  rest_fits = IsBytes-behind text rest (subst IsBytes behind fits);
}

by_kind : (strings bytes r rest : List ℕ) (k : ℕ) (t : Token) → bytes ≡ word k ++ r → IsBytes r → of_kind strings k r ≡ found t rest → Takes strings bytes t rest
unfolding of_kind
by_kind strings bytes r rest k t whole fits e =
    let other4 = cond (eqb k 4) (found nop r) None in
    let other3 = cond (eqb k 3) (property_at strings r) other4 in
    let other2 = cond (eqb k 2) (found end_node r) other3 in
    elim (chosen (eqb k 1) (begun_at r) other2 (found t rest) e) [
      | inl p ↦
          let w = begun_takes r t rest p.1 in
          subst (λ (u : Token). Takes strings bytes u rest) (sym w.1)
          (finished strings bytes r (padded (w.0 ++ 0 ∷ [])) rest 1 (begin_node w.0) (whole ∙ ap (λ (j : ℕ). word j ++ r) (eqb-true k 1 p.0)) fits w.3 refl w.2)
      | inr p ↦ elim (chosen (eqb k 2) (found end_node r) other3 (found t rest) p.1) [
        | inl q ↦
            subst (λ (u : Token). Takes strings bytes u rest) (token_is end_node t r rest q.1)
            (finished strings bytes r [] rest 2 end_node (whole ∙ ap (λ (j : ℕ). word j ++ r) (eqb-true k 2 q.0)) fits (rest_is end_node t r rest q.1) refl tt)
        | inr q ↦ elim (chosen (eqb k 3) (property_at strings r) other4 (found t rest) q.1) [
          | inl v ↦
              let w = property_takes strings r t rest fits v.1 in
              subst (λ (u : Token). Takes strings bytes u rest) (sym w.3)
              (finished strings bytes r (word (length w.2) ++ (word w.1 ++ padded w.2)) rest 3 (property w.0 w.1 w.2) (whole ∙ ap (λ (j : ℕ). word j ++ r) (eqb-true k 3 v.0)) fits w.5 refl w.4)
          | inr v ↦ elim (chosen (eqb k 4) (found nop r) None (found t rest) v.1) [
            | inl w ↦
                subst (λ (u : Token). Takes strings bytes u rest) (token_is nop t r rest w.1)
                (finished strings bytes r [] rest 4 nop (whole ∙ ap (λ (j : ℕ). word j ++ r) (eqb-true k 4 w.0)) fits (rest_is nop t r rest w.1) refl tt)
            | inr w ↦ absurd (none_found t rest w.1)
          ]
        ]
      ]
    ]

pub token_takes : (strings bytes : List ℕ) (t : Token) (rest : List ℕ) → IsBytes bytes → token_at strings bytes ≡ Some (t, rest) → Takes strings bytes t rest
unfolding token_at
token_takes strings bytes t rest fits e =
    let b = bind_some (number_at bytes) (λ (p : ℕ × List ℕ). of_kind strings p.0 p.1) (t, rest) e in
    let n = number_takes bytes b.0.0 b.0.1 fits b.1 in
    by_kind strings bytes b.0.1 rest b.0.0 t n.0 (IsBytes-behind (word b.0.0) b.0.1 (subst IsBytes n.0 fits)) b.2

token_front : (strings rest : List ℕ) (k : ℕ) → k < 2 ^ 32 → token_at strings (word k ++ rest) ≡ of_kind strings k rest
unfolding token_at
token_front strings rest k lt = ap (λ (o : Option (ℕ × List ℕ)). o >>= λ (p : ℕ × List ℕ). of_kind strings p.0 p.1) (number_again k rest lt)

pub token_again : (strings : List ℕ) (t : Token) (rest : List ℕ) → IsToken strings t → token_at strings (token_bytes t ++ rest) ≡ Some (t, rest)
unfolding of_kind
token_again strings (begin_node name) rest is =
    ap (token_at strings) (append_assoc (word 1) (padded (name ++ 0 ∷ [])) rest) ∙ token_front strings (padded (name ++ 0 ∷ []) ++ rest) 1 (lit< tt) ∙ begun_again name rest is
token_again strings (property name place value) rest is =
    let text = word (length value) ++ (word place ++ padded value) in
    ap (token_at strings) (append_assoc (word 3) text rest) ∙ token_front strings (text ++ rest) 3 (lit< tt) ∙ property_again strings name place value rest is
token_again strings end_node rest is = token_front strings rest 2 (lit< tt)
token_again strings nop rest is = token_front strings rest 4 (lit< tt)
