-- A structure block is cut into tokens in one way.
use Rattle.std.proofs.Common.{◌≡◌, ℕ, ◌+◌, ◌≤◌, true, false, List, [], ◌∷◌, ◌++◌, length, Option, Some, None, refl, sym, ap, subst, ◌∙◌, append_assoc, arith}
use Rattle.std.specs.Option.{option_to_list}
use Rattle.std.specs.List.{flat_map, cons_option, AllByRecursion}
use Rattle.std.proofs.lemmas.List.{length-append, append-nil}
use Rattle.std.proofs.lemmas.Grind.{flat_map-append}
use Rattle.std.proofs.lemmas.List.Elements.{filter_map-append}
use Rattle.std.proofs.lemmas.Slice.Eq.{bytes_eq-Decides}
use Rattle.std.proofs.lemmas.Bool.{true≢false}
use Rattle.fdt_blob.specs.Trees.{Tree, same_name, is_valid}
use Rattle.fdt_blob.specs.Tokens.{Token, begin_node, property, end_node, nop, word, padded, token_bytes, end_bytes, IsToken, Item, item_of, items_of, tree_items}
use Rattle.fdt_blob.specs.Blob.{StructureSpells}
use Rattle.fdt_blob.specs.Reading.{token_at, of_kind, as_item}
use Rattle.fdt_blob.specs.Cut.{HasRead}
use Rattle.fdt_blob.proofs.Bytes.{IsBytes, IsBytes-behind}
use Rattle.fdt_blob.proofs.TokenBytes.{token_takes, token_again, found, token_is, rest_is, none_found}

abbrev bytes_of_tokens : List Token → List ℕ
bytes_of_tokens ts = flat_map token_bytes ts

no_token_at_end : (strings : List ℕ) → token_at strings end_bytes ≡ None
unfolding token_at of_kind
no_token_at_end strings = refl

-- ---- reading on

pub read_nothing : (strings block : List ℕ) → HasRead strings block [] block
read_nothing strings block = record { tokens = []; each = tt; parts = refl; say = refl }

-- the token behind an item
pub record ReadsItem (strings bytes : List ℕ) (item : Option Item) (rest : List ℕ) : Type 0 where
  pub token : Token
  pub read : token_at strings bytes ≡ Some (token, rest)
  pub says : item_of token ≡ item

abbrev as_pair : Option Item → List ℕ → Option (Option Item × List ℕ)
as_pair item rest = Some (item, rest)

pub reads_item : (strings bytes : List ℕ) (item : Option Item) (rest : List ℕ) → as_item (token_at strings bytes) ≡ Some (item, rest) → ReadsItem strings bytes item rest
reads_item strings bytes item rest e = by_cases (token_at strings bytes) refl e
  where
    some_is : {A : Type 0} (x y : A) → Some x ≡ Some y → x ≡ y
    some_is x y h = cc

    by_cases : (o : Option (Token × List ℕ)) → token_at strings bytes ≡ o → as_item o ≡ Some (item, rest) → ReadsItem strings bytes item rest
    by_cases None is h = absurd cc
    by_cases (Some x) is h =
        let p = some_is (item_of x.0, x.1) (item, rest) h in
        record {
          token = x.0;
          read = is ∙ ap (λ (r : List ℕ). Some (x.0, r)) (ap (λ (q : Option Item × List ℕ). q.1) p);
          says = ap (λ (q : Option Item × List ℕ). q.0) p;
        }

pub no_token : (strings bytes : List ℕ) → as_item (token_at strings bytes) ≡ None → token_at strings bytes ≡ None
no_token strings bytes e = by_cases (token_at strings bytes) refl e
  where
    by_cases : (o : Option (Token × List ℕ)) → token_at strings bytes ≡ o → as_item o ≡ None → token_at strings bytes ≡ None
    by_cases None is h = is
    by_cases (Some x) is h = absurd cc

all_append : (strings : List ℕ) (ts us : List Token) → AllByRecursion (IsToken strings) ts → AllByRecursion (IsToken strings) us → AllByRecursion (IsToken strings) (ts ++ us)
all_append strings [] us h g = g
all_append strings (t ∷ ts) us h g = (h.0, all_append strings ts us h.1 g)

items_append : (ts : List Token) (t : Token) → items_of (ts ++ t ∷ []) ≡ items_of ts ++ option_to_list (item_of t)
items_append ts t = filter_map-append item_of ts (t ∷ []) ∙ ap (λ (is : List Item). items_of ts ++ is) (one (item_of t))
  where
    one : (o : Option Item) → cons_option o [] ≡ option_to_list o
    one None = refl
    one (Some x) = refl

pub read_on : (strings block : List ℕ) (items : List Item) (rest : List ℕ) (item : Option Item) (behind : List ℕ) → IsBytes block → HasRead strings block items rest → ReadsItem strings rest item behind → HasRead strings block (items ++ option_to_list item) behind
read_on strings block items rest item behind fits r i =
    let takes = token_takes strings rest i.token behind (IsBytes-behind (bytes_of_tokens r.tokens) rest (subst IsBytes r.parts fits)) i.read in
    record {
      tokens = r.tokens ++ i.token ∷ [];
      each = all_append strings r.tokens (i.token ∷ []) r.each (takes.token, tt);
      parts = r.parts ∙ ap (λ (bs : List ℕ). bytes_of_tokens r.tokens ++ bs) takes.parts ∙ sym (append_assoc (bytes_of_tokens r.tokens) (token_bytes i.token) behind)
          ∙ ap (λ (bs : List ℕ). bs ++ behind) (ap (λ (bs : List ℕ). bytes_of_tokens r.tokens ++ bs) (sym (append-nil (token_bytes i.token))) ∙ sym (flat_map-append token_bytes r.tokens (i.token ∷ [])));
      say = items_append r.tokens i.token ∙ ap (λ (is : List Item). is ++ option_to_list (item_of i.token)) r.say ∙ ap (λ (o : Option Item). items ++ option_to_list o) i.says;
    }

-- a token has four bytes at least
four_bytes : (t : Token) → 4 ≤ length (token_bytes t)
four_bytes (begin_node name) = omega (arith, length-append (word 1) (padded (name ++ 0 ∷ [])))
four_bytes (property name place value) = omega (arith, length-append (word 3) (word (length value) ++ (word place ++ padded value)))
four_bytes end_node = omega arith
four_bytes nop = omega arith

pub token_takes_four : (strings block : List ℕ) (items : List Item) (rest : List ℕ) (item : Option Item) (behind : List ℕ) → IsBytes block → HasRead strings block items rest → ReadsItem strings rest item behind → length behind + 4 ≤ length rest
token_takes_four strings block items rest item behind fits r i =
    let takes = token_takes strings rest i.token behind (IsBytes-behind (bytes_of_tokens r.tokens) rest (subst IsBytes r.parts fits)) i.read in
    omega (arith, ap length takes.parts, length-append (token_bytes i.token) behind, four_bytes i.token)

-- ---- one way to cut

-- the first tokens of a block that ends are some of its tokens
pub record Begins (first all : List Token) (rest : List ℕ) : Type 0 where
  pub more : List Token
  pub tokens : all ≡ first ++ more
  pub bytes : rest ≡ bytes_of_tokens more ++ end_bytes

pub first_tokens : (strings : List ℕ) (ts us : List Token) (rest : List ℕ) → AllByRecursion (IsToken strings) ts → AllByRecursion (IsToken strings) us → bytes_of_tokens ts ++ rest ≡ bytes_of_tokens us ++ end_bytes → Begins ts us rest
first_tokens strings [] us rest h g e = record { more = us; tokens = refl; bytes = e }
first_tokens strings (t ∷ ts) [] rest h g e =
    let behind = bytes_of_tokens ts ++ rest in
    let same : token_bytes t ++ behind ≡ end_bytes = sym (append_assoc (token_bytes t) (bytes_of_tokens ts) rest) ∙ e in
    absurd (none_found t behind (sym (no_token_at_end strings) ∙ ap (token_at strings) (sym same) ∙ token_again strings t behind h.0))
first_tokens strings (t ∷ ts) (u ∷ us) rest h g e =
    let a = bytes_of_tokens ts ++ rest in
    let b = bytes_of_tokens us ++ end_bytes in
    let same : token_bytes t ++ a ≡ token_bytes u ++ b = sym (append_assoc (token_bytes t) (bytes_of_tokens ts) rest) ∙ e ∙ append_assoc (token_bytes u) (bytes_of_tokens us) end_bytes in
    let both : found t a ≡ found u b = sym (token_again strings t a h.0) ∙ ap (token_at strings) same ∙ token_again strings u b g.0 in
    let r = first_tokens strings ts us rest h.1 g.1 (rest_is t u a b both) in
    record { more = r.more; tokens = ap (λ (v : Token). v ∷ us) (sym (token_is t u a b both)) ∙ ap (λ (vs : List Token). t ∷ vs) r.tokens; bytes = r.bytes }

all_behind : (strings : List ℕ) (ts us : List Token) → AllByRecursion (IsToken strings) (ts ++ us) → AllByRecursion (IsToken strings) us
all_behind strings [] us h = h
all_behind strings (t ∷ ts) us h = all_behind strings ts us h.1

-- where no token stands and the block doesn't end, nothing more follows
none_follow : (strings : List ℕ) (more : List Token) (rest : List ℕ) → AllByRecursion (IsToken strings) more → rest ≡ bytes_of_tokens more ++ end_bytes → token_at strings rest ≡ None → rest ≡ end_bytes
none_follow strings [] rest h e none = e
none_follow strings (t ∷ ts) rest h e none =
    let behind = bytes_of_tokens ts ++ end_bytes in
    absurd (none_found t behind (sym none ∙ ap (token_at strings) (e ∙ append_assoc (token_bytes t) (bytes_of_tokens ts) end_bytes) ∙ token_again strings t behind h.0))

pub is_stuck : (strings block : List ℕ) (items : List Item) (rest : List ℕ) → HasRead strings block items rest → token_at strings rest ≡ None → same_name rest end_bytes ≡ false → (t : Tree) → StructureSpells strings block t → ⊥
is_stuck strings block items rest r none not_end t s =
    let f = first_tokens strings r.tokens s.tokens rest r.each s.each (sym r.parts ∙ s.bytes) in
    let more = all_behind strings r.tokens f.more (subst (AllByRecursion (IsToken strings)) f.tokens s.each) in
    let end = none_follow strings f.more rest more f.bytes none in
    true≢false (sym ((bytes_eq-Decides rest end_bytes).1 end) ∙ not_end)

-- at the end no more tokens follow
no_more : (strings : List ℕ) (more : List Token) → AllByRecursion (IsToken strings) more → end_bytes ≡ bytes_of_tokens more ++ end_bytes → more ≡ []
no_more strings [] h e = refl
no_more strings (t ∷ ts) h e =
    let behind = bytes_of_tokens ts ++ end_bytes in
    absurd (none_found t behind (sym (no_token_at_end strings) ∙ ap (token_at strings) (e ∙ append_assoc (token_bytes t) (bytes_of_tokens ts) end_bytes) ∙ token_again strings t behind h.0))

-- two lists of tokens with the same bytes are one
pub same_tokens : (strings : List ℕ) (ts us : List Token) → AllByRecursion (IsToken strings) ts → AllByRecursion (IsToken strings) us → bytes_of_tokens ts ++ end_bytes ≡ bytes_of_tokens us ++ end_bytes → ts ≡ us
same_tokens strings ts us h g e =
    let f = first_tokens strings ts us end_bytes h g e in
    let more = all_behind strings ts f.more (subst (AllByRecursion (IsToken strings)) f.tokens g) in
    sym (f.tokens ∙ ap (λ (vs : List Token). ts ++ vs) (no_more strings f.more more f.bytes) ∙ append-nil ts)

-- the items of a whole block are those of the tree that it spells
pub items_of_block : (strings block : List ℕ) (items : List Item) (t : Tree) → HasRead strings block items end_bytes → StructureSpells strings block t → items ≡ tree_items t
items_of_block strings block items t r s =
    sym r.say ∙ ap items_of (same_tokens strings r.tokens s.tokens r.each s.each (sym r.parts ∙ s.bytes)) ∙ s.items

-- a whole block spells the valid tree that has its items
pub spells_items : (strings block : List ℕ) (items : List Item) (t : Tree) → HasRead strings block items end_bytes → items ≡ tree_items t → is_valid t ≡ true → StructureSpells strings block t
spells_items strings block items t r same valid = record { tokens = r.tokens; each = r.each; bytes = r.parts; items = r.say ∙ same; valid = valid }
