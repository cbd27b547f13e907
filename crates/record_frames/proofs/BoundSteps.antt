-- Bound records kind by kind, and whether a kind has a file.
use Rattle.std.proofs.Common.{◌≡◌, ℕ, ◌<◌, Bool, true, false, cond, List, [], ◌∷◌, ◌++◌, length, get_or, take, drop, map, Option, Some, None, Result, Ok, Err, refl, sym, ap, ◌∙◌, arith}
use Rattle.std.specs.Prelude.{◌&&◌, ◌||◌, nat_le}
use Rattle.std.specs.List.{flat_map}
use Rattle.std.proofs.lemmas.List.{append-nil}
use Rattle.std.proofs.lemmas.List.Folds.{list_any-append}
use Rattle.std.proofs.lemmas.Bool.Decides.{nat_tests}
use Rattle.ho_base.specs.Bytes.{u64_at}
use Rattle.ho_base.specs.declared.limits.TheConstants.{BOUND_BYTES}
use Rattle.ho_base.specs.declared.numbers.Kind.{Kind}
use Rattle.ho_base.specs.declared.numbers.Kind.TheVariants.{Dev0, Dev1, Dev2, Dev3}
use Rattle.ho_events.specs.Handler.{BoundState}
use Rattle.record_frames.specs.Ram.{Ram, is_frame}
use Rattle.record_frames.specs.Sheets.{FileRecord, SessionRecord, items_of}
use Rattle.record_frames.specs.Kept.{devices, files_of, has_kind, same_kind}
use Rattle.record_frames.specs.Reading.{◌>>=◌, or_else, bound_at, bounds_at}
use Rattle.record_frames.specs.Files.{file_record}
use Rattle.record_frames.specs.Sessions.{session_record, file_frames}
use Rattle.record_frames.specs.declared.sessions.SessionRead.{SessionRead}

-- ---- whether a kind has a file

frames_have : (at : ℕ) (files : List FileRecord) → items_of (file_frames at files) ≡ files
frames_have at [] = refl
frames_have at (f ∷ files) = append-nil (f ∷ files)

pub kind_more : (s : SessionRead) (rest : List SessionRecord) (kind : Kind)
    → has_kind (flat_map files_of (session_record s ∷ rest)) kind ≡ (has_kind (map file_record s.files.items) kind || has_kind (flat_map files_of rest) kind)
kind_more s rest kind =
    list_any-append (λ f. same_kind f.kind kind) (files_of (session_record s)) (flat_map files_of rest)
    ∙ ap (λ (l : List FileRecord). has_kind l kind || has_kind (flat_map files_of rest) kind) (frames_have s.at (map file_record s.files.items))

-- ---- a bound record

abbrev bound_got : Ram → ℕ → BoundState
bound_got ram p = record { bytes = take (u64_at (ram.page p) 0) (drop 8 (ram.page p)); frame = p }

abbrev bound_when : Ram → ℕ → Bool → Bool → Bool → Option (Option BoundState)
bound_when ram p has frame short = cond (has && frame && short) (Some (Some (bound_got ram p))) None

no_and : (b : Bool) → (b && false) ≡ false
no_and true = refl
no_and false = refl

pub bound_refused : (ram : Ram) (has : Bool) (p : ℕ) → (has && is_frame ram.count p) ≡ false → bound_at ram has (Some p) ≡ None
bound_refused ram has p h = ap (λ (b : Bool). cond (b && nat_le (u64_at (ram.page p) 0) BOUND_BYTES) (Some (Some (bound_got ram p))) None) h

pub bound_long : (ram : Ram) (has : Bool) (p : ℕ) → BOUND_BYTES < u64_at (ram.page p) 0 → bound_at ram has (Some p) ≡ None
bound_long ram has p h =
    let long : nat_le (u64_at (ram.page p) 0) BOUND_BYTES ≡ false = past (u64_at (ram.page p) 0) h in
    ap (λ (b : Bool). bound_when ram p has (is_frame ram.count p) b) long
    ∙ ap (λ (b : Bool). cond b (Some (Some (bound_got ram p))) None) (no_and (has && is_frame ram.count p))
  where
    past : (n : ℕ) → BOUND_BYTES < n → nat_le n BOUND_BYTES ≡ false
    past n h = grind (arith, nat_tests)

pub bound_read : (ram : Ram) (p : ℕ) (has short : Bool) → has ≡ true → is_frame ram.count p ≡ true → nat_le (u64_at (ram.page p) 0) BOUND_BYTES ≡ short
    → bound_at ram has (Some p) ≡ cond short (Some (Some (bound_got ram p))) None
bound_read ram p has short h f e =
    ap (λ (b : Bool). bound_when ram p b (is_frame ram.count p) (nat_le (u64_at (ram.page p) 0) BOUND_BYTES)) h
    ∙ ap (λ (b : Bool). bound_when ram p true b (nat_le (u64_at (ram.page p) 0) BOUND_BYTES)) f
    ∙ ap (λ (b : Bool). bound_when ram p true true b) e

-- what was told of a kind among the sessions
pub told_bound : (ram : Ram) (sessions slice : List SessionRead) (kind : Kind) (p : Option ℕ) (b : Bool) (o : Option (Option BoundState)) → slice ≡ sessions
    → b ≡ has_kind (flat_map files_of (map session_record slice)) kind → bound_at ram b p ≡ o
    → bound_at ram (has_kind (flat_map files_of (map session_record sessions ++ [])) kind) p ≡ o
told_bound ram sessions slice kind p b o same has e =
    ap (λ (l : List SessionRecord). bound_at ram (has_kind (flat_map files_of l) kind) p) (append-nil (map session_record sessions))
    ∙ ap (λ (l : List SessionRead). bound_at ram (has_kind (flat_map files_of (map session_record l)) kind) p) (sym same)
    ∙ ap (λ (x : Bool). bound_at ram x p) (sym has) ∙ e

-- ---- the four kinds

four_are : (xs : List (Option ℕ)) (d : Option ℕ) → length xs ≡ 4 → xs ≡ get_or xs 0 d ∷ get_or xs 1 d ∷ get_or xs 2 d ∷ get_or xs 3 d ∷ []
four_are [] d h = absurd (omega (arith, h))
four_are (a ∷ []) d h = absurd (omega (arith, h))
four_are (a ∷ b ∷ []) d h = absurd (omega (arith, h))
four_are (a ∷ b ∷ c ∷ []) d h = absurd (omega (arith, h))
four_are (a ∷ b ∷ c ∷ e ∷ []) d h = refl
four_are (a ∷ b ∷ c ∷ e ∷ f ∷ xs) d h = absurd (omega (arith, h))

module _ (ram : Ram) (files : List FileRecord) where
  abbrev then_rest : Kind → List Kind → List (Option ℕ) → Option (Option BoundState) → Result (List (Option BoundState)) Kind
  then_rest kind kinds frames o = or_else kind o >>= λ bound. bounds_at ram files kinds frames >>= λ bounds. Ok (bound ∷ bounds)

  abbrev joined : Option BoundState → Result (List (Option BoundState)) Kind → Result (List (Option BoundState)) Kind
  joined bound r = r >>= λ bounds. Ok (bound ∷ bounds)

  step : (kind : Kind) (kinds : List Kind) (p : Option ℕ) (frames : List (Option ℕ)) (o : Option (Option BoundState)) → bound_at ram (has_kind files kind) p ≡ o
      → bounds_at ram files (kind ∷ kinds) (p ∷ frames) ≡ then_rest kind kinds frames o
  step kind kinds p frames o e = ap (then_rest kind kinds frames) e

  module _ (given : List (Option ℕ)) (d : Option ℕ) (four : length given ≡ 4) where
    abbrev at_ : ℕ → Option ℕ
    at_ i = get_or given i d

    abbrev all : Result (List (Option BoundState)) Kind
    all = bounds_at ram files devices given

    split : all ≡ bounds_at ram files devices (at_ 0 ∷ at_ 1 ∷ at_ 2 ∷ at_ 3 ∷ [])
    split = ap (bounds_at ram files devices) (four_are given d four)

    first : (o : Option (Option BoundState)) → bound_at ram (has_kind files Dev0) (at_ 0) ≡ o → all ≡ then_rest Dev0 (Dev1 ∷ Dev2 ∷ Dev3 ∷ []) (at_ 1 ∷ at_ 2 ∷ at_ 3 ∷ []) o
    first o e = split ∙ step Dev0 (Dev1 ∷ Dev2 ∷ Dev3 ∷ []) (at_ 0) (at_ 1 ∷ at_ 2 ∷ at_ 3 ∷ []) o e

    second : (a : Option BoundState) (o : Option (Option BoundState)) → bound_at ram (has_kind files Dev0) (at_ 0) ≡ Some a → bound_at ram (has_kind files Dev1) (at_ 1) ≡ o
        → all ≡ joined a (then_rest Dev1 (Dev2 ∷ Dev3 ∷ []) (at_ 2 ∷ at_ 3 ∷ []) o)
    second a o e f = first (Some a) e ∙ ap (joined a) (step Dev1 (Dev2 ∷ Dev3 ∷ []) (at_ 1) (at_ 2 ∷ at_ 3 ∷ []) o f)

    third : (a b : Option BoundState) (o : Option (Option BoundState)) → bound_at ram (has_kind files Dev0) (at_ 0) ≡ Some a → bound_at ram (has_kind files Dev1) (at_ 1) ≡ Some b
        → bound_at ram (has_kind files Dev2) (at_ 2) ≡ o → all ≡ joined a (joined b (then_rest Dev2 (Dev3 ∷ []) (at_ 3 ∷ []) o))
    third a b o e f g = second a (Some b) e f ∙ ap (λ (r : Result (List (Option BoundState)) Kind). joined a (joined b r)) (step Dev2 (Dev3 ∷ []) (at_ 2) (at_ 3 ∷ []) o g)

    fourth : (a b c : Option BoundState) (o : Option (Option BoundState)) → bound_at ram (has_kind files Dev0) (at_ 0) ≡ Some a → bound_at ram (has_kind files Dev1) (at_ 1) ≡ Some b
        → bound_at ram (has_kind files Dev2) (at_ 2) ≡ Some c → bound_at ram (has_kind files Dev3) (at_ 3) ≡ o → all ≡ joined a (joined b (joined c (then_rest Dev3 [] [] o)))
    fourth a b c o e f g h =
        third a b (Some c) e f g ∙ ap (λ (r : Result (List (Option BoundState)) Kind). joined a (joined b (joined c r))) (step Dev3 [] (at_ 3) [] o h)

    pub no_0 : bound_at ram (has_kind files Dev0) (at_ 0) ≡ None → all ≡ Err Dev0
    no_0 e = first None e

    pub no_1 : (a : Option BoundState) → bound_at ram (has_kind files Dev0) (at_ 0) ≡ Some a → bound_at ram (has_kind files Dev1) (at_ 1) ≡ None → all ≡ Err Dev1
    no_1 a e f = second a None e f

    pub no_2 : (a b : Option BoundState) → bound_at ram (has_kind files Dev0) (at_ 0) ≡ Some a → bound_at ram (has_kind files Dev1) (at_ 1) ≡ Some b
        → bound_at ram (has_kind files Dev2) (at_ 2) ≡ None → all ≡ Err Dev2
    no_2 a b e f g = third a b None e f g

    pub no_3 : (a b c : Option BoundState) → bound_at ram (has_kind files Dev0) (at_ 0) ≡ Some a → bound_at ram (has_kind files Dev1) (at_ 1) ≡ Some b
        → bound_at ram (has_kind files Dev2) (at_ 2) ≡ Some c → bound_at ram (has_kind files Dev3) (at_ 3) ≡ None → all ≡ Err Dev3
    no_3 a b c e f g h = fourth a b c None e f g h

    pub all_four : (a b c x : Option BoundState) → bound_at ram (has_kind files Dev0) (at_ 0) ≡ Some a → bound_at ram (has_kind files Dev1) (at_ 1) ≡ Some b
        → bound_at ram (has_kind files Dev2) (at_ 2) ≡ Some c → bound_at ram (has_kind files Dev3) (at_ 3) ≡ Some x → all ≡ Ok (a ∷ b ∷ c ∷ x ∷ [])
    all_four a b c x e f g h = fourth a b c (Some x) e f g h
