-- Slots as the program reads them.
use Rattle.std.proofs.Common.{◌≡◌, ℕ, ◌+◌, ◌<◌, ◌≤◌, Bool, true, false, cond, List, [], ◌∷◌, ◌++◌, length, take, drop, get_or, Option, Some, None, refl, sym, ap, ◌∙◌, arith, append_assoc}
use Rattle.std.specs.Prelude.{◌&&◌, nat_le}
use Rattle.std.proofs.lemmas.List.{length-take-le, take_more, drop_more}
use Rattle.std.proofs.lemmas.Bool.{ne_eqb, le-leb, and_from}
use Rattle.std.proofs.lemmas.Bool.Decides.{nat_tests}
use Rattle.ho_base.specs.declared.numbers.Kind.{Kind}
use Rattle.ho_base.specs.Bytes.{u64_at}
use Rattle.ho_base.specs.NameRule.{is_name}
use Rattle.ho_base.specs.declared.limits.TheConstants.{SESSION_FILES}
use Rattle.record_frames.specs.Sheets.{SessionSlot, FileSlot}
use Rattle.record_frames.specs.Rules.{version_1, is_session_slot, is_file_slot, has_first}
use Rattle.record_frames.specs.Reading.{also, are_zero, text_of, kind_of, session_slot_at, file_slot_at}
use Rattle.record_frames.specs.Slots.{kept_if, name_in, session_kept, file_kept}

-- a slot of its name, of whether its rest is zero, and of whether its numbers keep their rules
abbrev pub slot_with : Option (List ℕ) → Bool → Bool → ℕ → ℕ → Option SessionSlot
slot_with None zeros kept files first = None
slot_with (Some name) zeros kept files first = cond zeros (cond kept (Some (record { name = name; files = files; first = first })) None) None

tests : (a n z r s : Bool) (x : SessionSlot) (test : SessionSlot → Bool) → test x ≡ (n && r && s)
    → kept_if test (cond (a && z) (Some x) None) ≡ slot_with (cond (a && n) (Some x.name) None) z (r && s) x.files x.first
tests false n z r s x test h = refl
tests true true false r s x test h = refl
tests true false false r s x test h = refl
tests true true true r s x test h = ap (λ (b : Bool). cond b (Some x) None) h
tests true false true r s x test h = ap (λ (b : Bool). cond b (Some x) None) h

abbrev said : List ℕ → SessionSlot
said bytes = record { name = text_of (take 64 bytes); files = u64_at bytes 64; first = u64_at bytes 72 }

slot_steps : (bytes : List ℕ)
    → session_slot_at bytes ≡ cond (are_zero (drop (length (text_of (take 64 bytes))) (take 64 bytes)) && are_zero (drop 80 bytes)) (Some (said bytes)) None
unfolding session_slot_at
slot_steps bytes = refl

kept_steps : (bytes : List ℕ) → session_kept bytes ≡ kept_if (is_session_slot version_1) (session_slot_at bytes)
unfolding session_kept
kept_steps bytes = refl

-- ---- the bytes before the first zero

text_cons : (b : ℕ) (bytes : List ℕ) → (b ≡ 0 → ⊥) → text_of (b ∷ bytes) ≡ b ∷ text_of bytes
text_cons b bytes h = ap (λ (t : Bool). cond t [] (b ∷ text_of bytes)) (ne_eqb b 0 h)

pub text_more : (bytes : List ℕ) (i : ℕ) → i < length bytes → (get_or bytes i 0 ≡ 0 → ⊥)
    → take (i + 1) bytes ++ text_of (drop (i + 1) bytes) ≡ take i bytes ++ text_of (drop i bytes)
text_more bytes i lt h =
    let b = get_or bytes i 0 in
    ap (λ (l : List ℕ). l ++ text_of (drop (i + 1) bytes)) (take_more bytes i 0 lt)
    ∙ append_assoc (take i bytes) (b ∷ []) (text_of (drop (i + 1) bytes))
    ∙ ap (λ (l : List ℕ). take i bytes ++ l) (sym (ap text_of (drop_more bytes i 0 lt) ∙ text_cons b (drop (i + 1) bytes) h))

pub text_stops : (bytes : List ℕ) (i : ℕ) → i < length bytes → get_or bytes i 0 ≡ 0 → text_of (drop i bytes) ≡ []
text_stops bytes i lt h =
    ap text_of (drop_more bytes i 0 lt) ∙ ap (λ (n : ℕ). text_of (n ∷ drop (i + 1) bytes)) h

name_steps : (bytes : List ℕ) → name_in bytes ≡ cond (are_zero (drop (length (text_of bytes)) bytes) && is_name (text_of bytes)) (Some (text_of bytes)) None
unfolding name_in
name_steps bytes = refl

pub name_is : (bytes : List ℕ) (len : ℕ) → len ≤ length bytes → take len bytes ≡ text_of bytes
    → name_in bytes ≡ cond (are_zero (drop len bytes) && is_name (take len bytes)) (Some (take len bytes)) None
name_is bytes len le e =
    let long : length (text_of bytes) ≡ len = sym (ap length e) ∙ length-take-le len bytes le in
    name_steps bytes
    ∙ ap (λ (n : ℕ). cond (are_zero (drop n bytes) && is_name (text_of bytes)) (Some (text_of bytes)) None) long
    ∙ ap (λ (l : List ℕ). cond (are_zero (drop len bytes) && is_name l) (Some l) None) (sym e)

pub session_is : (bytes : List ℕ) (name : Option (List ℕ)) (z : Bool) (files first : ℕ) → name_in (take 64 bytes) ≡ name → are_zero (drop 80 bytes) ≡ z → u64_at bytes 64 ≡ files → u64_at bytes 72 ≡ first
    → session_kept bytes ≡ slot_with name z (nat_le files SESSION_FILES && has_first files first) files first
session_is bytes name z files first en ez ef eg =
    let text = text_of (take 64 bytes) in
    let a = are_zero (drop (length text) (take 64 bytes)) in
    let r : ℕ → Bool = λ f. nat_le f SESSION_FILES in
    kept_steps bytes ∙ ap (kept_if (is_session_slot version_1)) (slot_steps bytes)
    ∙ tests a (is_name text) (are_zero (drop 80 bytes)) (r (u64_at bytes 64)) (has_first (u64_at bytes 64) (u64_at bytes 72)) (said bytes) (is_session_slot version_1) refl
    ∙ ap (λ (o : Option (List ℕ)). slot_with o (are_zero (drop 80 bytes)) (r (u64_at bytes 64) && has_first (u64_at bytes 64) (u64_at bytes 72)) (u64_at bytes 64) (u64_at bytes 72)) (sym (name_steps (take 64 bytes)) ∙ en)
    ∙ ap (λ (b : Bool). slot_with name b (r (u64_at bytes 64) && has_first (u64_at bytes 64) (u64_at bytes 72)) (u64_at bytes 64) (u64_at bytes 72)) ez
    ∙ ap (λ (f : ℕ). slot_with name z (r f && has_first f (u64_at bytes 72)) f (u64_at bytes 72)) ef
    ∙ ap (λ (g : ℕ). slot_with name z (r files && has_first files g) files g) eg

pub rules_break : (files first : ℕ) → SESSION_FILES < files → (nat_le files SESSION_FILES && has_first files first) ≡ false
rules_break files first h =
    let many : nat_le files SESSION_FILES ≡ false = grind (arith, nat_tests) in
    ap (λ (b : Bool). b && has_first files first) many

pub first_breaks : (files first : ℕ) → has_first files first ≡ false → (nat_le files SESSION_FILES && has_first files first) ≡ false
first_breaks files first h = at_test (nat_le files SESSION_FILES) h
  where
    at_test : (b : Bool) {c : Bool} → c ≡ false → (b && c) ≡ false
    at_test true e = e
    at_test false e = refl

pub slot_none : (name : List ℕ) (k : Bool) (files first : ℕ) → k ≡ false → slot_with (Some name) true k files first ≡ None
slot_none name k files first h = ap (λ (b : Bool). slot_with (Some name) true b files first) h

pub slot_some : (name : List ℕ) (files first : ℕ) → files ≤ SESSION_FILES → has_first files first ≡ true
    → slot_with (Some name) true (nat_le files SESSION_FILES && has_first files first) files first ≡ Some (record { name = name; files = files; first = first })
slot_some name files first le h = ap (λ (b : Bool). slot_with (Some name) true b files first) (and_from (nat_le files SESSION_FILES) (has_first files first) (le-leb files SESSION_FILES le) h)

-- ---- a slot of a file frame

abbrev pub file_said : List ℕ → Kind → FileSlot
file_said bytes kind = record {
  token = u64_at bytes 0;
  kind = kind;
  order = u64_at bytes 16;
  size = u64_at bytes 24;
  position = u64_at bytes 32;
  handle = u64_at bytes 40;
  first = u64_at bytes 48;
  folios = u64_at bytes 56;
}

file_steps : (bytes : List ℕ) → file_slot_at bytes ≡ also (kind_of (u64_at bytes 8)) (λ kind. cond (are_zero (drop 64 bytes)) (Some (file_said bytes kind)) None)
unfolding file_slot_at
file_steps bytes = refl

file_kept_steps : (bytes : List ℕ) → file_kept bytes ≡ kept_if is_file_slot (file_slot_at bytes)
unfolding file_kept
file_kept_steps bytes = refl

pub file_is : (bytes : List ℕ) (kind : Kind) (z : Bool) (f : FileSlot) → kind_of (u64_at bytes 8) ≡ Some kind → are_zero (drop 64 bytes) ≡ z → f ≡ file_said bytes kind
    → file_kept bytes ≡ kept_if is_file_slot (cond z (Some f) None)
file_is bytes kind z f ek ez ef =
    file_kept_steps bytes ∙ ap (kept_if is_file_slot) (file_steps bytes
    ∙ ap (λ (o : Option Kind). also o (λ k. cond (are_zero (drop 64 bytes)) (Some (file_said bytes k)) None)) ek
    ∙ ap (λ (b : Bool). cond b (Some (file_said bytes kind)) None) ez
    ∙ ap (λ (g : FileSlot). cond z (Some g) None) (sym ef))

abbrev pub file_from : Kind → ℕ → ℕ → ℕ → ℕ → ℕ → ℕ → ℕ → FileSlot
file_from kind token order size position handle first folios = record {
  token = token;
  kind = kind;
  order = order;
  size = size;
  position = position;
  handle = handle;
  first = first;
  folios = folios;
}

pub said_is : (bytes : List ℕ) (kind : Kind) (token order size position handle first folios : ℕ) → token ≡ u64_at bytes 0 → order ≡ u64_at bytes 16 → size ≡ u64_at bytes 24
    → position ≡ u64_at bytes 32 → handle ≡ u64_at bytes 40 → first ≡ u64_at bytes 48 → folios ≡ u64_at bytes 56
    → file_from kind token order size position handle first folios ≡ file_from kind (u64_at bytes 0) (u64_at bytes 16) (u64_at bytes 24) (u64_at bytes 32) (u64_at bytes 40) (u64_at bytes 48) (u64_at bytes 56)
said_is bytes kind token order size position handle first folios e0 e1 e2 e3 e4 e5 e6 = cc

pub file_test : (f : FileSlot) (b : Bool) → is_file_slot f ≡ b → kept_if is_file_slot (Some f) ≡ cond b (Some f) None
file_test f b h = ap (λ (t : Bool). cond t (Some f) None) h
