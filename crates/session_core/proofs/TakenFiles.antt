-- How a file of an incoming session is found and taken.
use Rattle.std.proofs.Common.{◌≡◌, ℕ, ◌<◌, ◌≤◌, ◌+◌, ◌==◌, ◌&&◌, Bool, true, false, cond, not, List, [], ◌∷◌, ◌++◌, length, drop, refl, ap, sym, ◌∙◌, arith, if◌then◌else◌, nat_lt, subst, zero, suc, add-one, slice_index_or, slice_set, Result, Ok, Err, IsOk}
use Rattle.std.specs.Prelude.{Option, None, Some}
use Rattle.std.specs.Option.{MatchOption, IfSome, option_or}
use Rattle.std.specs.Result.{result_err}
use Rattle.std.specs.Ordering.{nat_cmp}
use Rattle.std.specs.Cmp.{nat_cmp_total}
use Rattle.std.specs.FinMap as finmap
use Rattle.std.specs.FinMap.{find}
use Rattle.std.proofs.lemmas.List.{length-set}
use Rattle.std.proofs.lemmas.Bool.Decides.{nat_tests}
use Rattle.ho_base.specs.declared.numbers.Token.{Token}
use Rattle.ho_base.specs.declared.numbers.FileNo.{FileNo}
use Rattle.ho_events.proofs.Ties.{tied_is}
use Rattle.ho_events.specs.History.{session_from}
use Rattle.ho_events.specs.Lists.{only, same_bytes}
use Rattle.ho_events.specs.PlainTurns.{ReplyIsPlain}
use Rattle.ho_events.specs.Session.{SessionState, Free, Out, In, Listed, is_in, files_of, take_step, take_listed, with_taken, session_step}
use Rattle.ho_events.specs.declared.entry.Entry.{Entry}
use Rattle.ho_events.specs.declared.event.Event.TheVariants.{SessionTake}
use Rattle.ho_events.specs.declared.reply.Reply.{Reply}
use Rattle.ho_events.specs.declared.reply.Reply.TheVariants.{OkFile, NoToken, AlreadyTaken, HandlerFailed}
use Rattle.session_core.proofs.OpenedSlots.{in_shown, plain_loss}
use Rattle.session_core.proofs.SessionAdds.{no_loss}
use Rattle.session_core.proofs.Sessions.{turn_keeps, at_shown, in_order_by, some_same}
use Rattle.session_core.specs.Taking.{found_by, found_of, take_answer}
use Rattle.session_core.specs.declared.opening.Incoming.{Incoming}
use Rattle.session_core.specs.SessionShown.{listed, listed_by, listed_under, before, found_in, Becomes, TokensRise, shown, KeepsSession}

abbrev Files : Type 0
Files = List (Token × FileNo × ℕ)

-- the front of files with other tokens, step by step
before_none : (token : ℕ) → before token [] ≡ 0
unfolding before
before_none token = refl

before_hit : (token : ℕ) → (f : Token × FileNo × ℕ) → (files : Files) → (f.0.0 == token) ≡ true → before token (f ∷ files) ≡ 0
unfolding before
before_hit token f files h = rw h refl

before_miss : (token : ℕ) → (f : Token × FileNo × ℕ) → (files : Files) → (f.0.0 == token) ≡ false → before token (f ∷ files) ≡ suc (before token files)
unfolding before
before_miss token f files h = rw h refl

is_same : (a b : ℕ) → a ≡ b → (a == b) ≡ true
is_same a b h = grind (arith, nat_tests)

is_other : (a b : ℕ) → (a ≡ b → ⊥) → (a == b) ≡ false
is_other a b h = grind (arith, nat_tests)

step_suc : (token i : ℕ) → (files : Files) → (d : Token × FileNo × ℕ) → i < length files → ((slice_index_or files i d).0.0 ≡ token → ⊥) → before token (drop i files) ≡ suc (before token (drop (suc i) files))
step_suc token i [] d within other = absurd (omega arith)
step_suc token zero (f ∷ files) d within other = before_miss token f files (is_other f.0.0 token other)
step_suc token (suc i) (f ∷ files) d within other = step_suc token i files d (omega arith) other

pub before_step : (token i : ℕ) → (files : Files) → (d : Token × FileNo × ℕ) → i < length files → ((slice_index_or files i d).0.0 ≡ token → ⊥) → before token (drop i files) ≡ before token (drop (i + 1) files) + 1
before_step token i files d within other = rw (add-one, add-one) (step_suc token i files d within other)

pub before_stop : (token i : ℕ) → (files : Files) → (d : Token × FileNo × ℕ) → i < length files → (slice_index_or files i d).0.0 ≡ token → before token (drop i files) ≡ 0
before_stop token i [] d within same = absurd (omega arith)
before_stop token zero (f ∷ files) d within same = before_hit token f files (is_same f.0.0 token same)
before_stop token (suc i) (f ∷ files) d within same = before_stop token i files d (omega arith) same

pub before_end : (token i : ℕ) → (files : Files) → length files ≤ i → before token (drop i files) ≡ 0
before_end token zero [] within = before_none token
before_end token (suc i) [] within = before_none token
before_end token zero (f ∷ files) within = absurd (omega arith)
before_end token (suc i) (f ∷ files) within = before_end token i files (omega arith)

pub before_within : (token : ℕ) → (files : Files) → before token files ≤ length files
unfolding before
before_within token [] = omega arith
before_within token (f ∷ files) =
    elim (f.0.0 == token) as (λ b. (if b then 0 else suc (before token files)) ≤ suc (length files)) [ true ↦ omega arith | false ↦ omega (arith, before_within token files) ]

-- what is listed under a token
under_cons : (token : ℕ) → (f : Token × FileNo × ℕ) → (files : Files) → (b : Bool) → (taken : List Bool) → listed_under token (f ∷ files) (b ∷ taken) ≡ cond (f.0.0 == token) (Some (record (listed f).1 { taken = b })) (listed_under token files taken)
unfolding listed_under listed_by
under_cons token f files b taken = ap (λ t. cond t (Some (record (listed f).1 { taken = b })) (find nat_cmp token (listed_by files taken))) (tied_is token f.0.0)

under_empty : (token : ℕ) → (taken : List Bool) → listed_under token [] taken ≡ None
unfolding listed_under listed_by
under_empty token taken = refl

no_length : (n : ℕ) → 0 ≡ suc n → ⊥
no_length n h = omega (arith, h)

same_length : (a b : ℕ) → suc a ≡ suc b → a ≡ b
same_length a b h = omega (arith, h)

pub nothing_under : (token : ℕ) → (files : Files) → (taken : List Bool) → length taken ≡ length files → before token files ≡ length files → listed_under token files taken ≡ None
nothing_under token [] taken marked h = under_empty token taken
nothing_under token (f ∷ files) [] marked h = absurd (no_length (length files) marked)
nothing_under token (f ∷ files) (b ∷ taken) marked h =
    elim (f.0.0 == token) as (λ t. (f.0.0 == token) ≡ t → listed_under token (f ∷ files) (b ∷ taken) ≡ None) [
      | true ↦ λ t. absurd (no_length (length files) (sym (before_hit token f files t) ∙ h))
      | false ↦ λ t. under_cons token f files b taken ∙ ap (λ x. cond x (Some (record (listed f).1 { taken = b })) (listed_under token files taken)) t
          ∙ nothing_under token files taken (same_length _ _ marked) (same_length _ _ (sym (before_miss token f files t) ∙ h))
    ] refl

-- what an index past the end stands for
abbrev pub no_file : Token × FileNo × ℕ
no_file = (record { 0 = 0 }, record { 0 = 0 }, 0)

-- the file at a place, and whether it was taken
abbrev at_place : Files → List Bool → ℕ → Token × FileNo × ℕ → Listed
at_place files taken i d = record { file = (slice_index_or files i d).1.0; handle = (slice_index_or files i d).2; taken = slice_index_or taken i false }

pub there_under : (token : ℕ) → (files : Files) → (taken : List Bool) → (d : Token × FileNo × ℕ) → length taken ≡ length files → before token files < length files → listed_under token files taken ≡ Some (at_place files taken (before token files) d)
there_under token [] taken d marked h = absurd (omega (arith, h))
there_under token (f ∷ files) [] d marked h = absurd (no_length (length files) marked)
there_under token (f ∷ files) (b ∷ taken) d marked h =
    elim (f.0.0 == token) as (λ t. (f.0.0 == token) ≡ t → listed_under token (f ∷ files) (b ∷ taken) ≡ Some (at_place (f ∷ files) (b ∷ taken) (before token (f ∷ files)) d)) [
      | true ↦ λ t. under_cons token f files b taken ∙ ap (λ x. cond x (Some (record (listed f).1 { taken = b })) (listed_under token files taken)) t
          ∙ ap (λ n. Some (at_place (f ∷ files) (b ∷ taken) n d)) (sym (before_hit token f files t))
      | false ↦ λ t. under_cons token f files b taken ∙ ap (λ x. cond x (Some (record (listed f).1 { taken = b })) (listed_under token files taken)) t
          ∙ there_under token files taken d (same_length _ _ marked) (less (subst (λ n. n < suc (length files)) (before_miss token f files t) h))
          ∙ ap (λ n. Some (at_place (f ∷ files) (b ∷ taken) n d)) (sym (before_miss token f files t))
    ] refl
  where
    less : {a b : ℕ} → suc a < suc b → a < b
    less h = omega (arith, h)

-- what is found at the place
pub under_none : (is_open : Bool) → (token at : ℕ) → (files : Files) → (taken : List Bool) → is_open ≡ true → length taken ≡ length files → at ≡ before token files → at ≡ length files → Err NoToken ≡ found_by is_open (listed_under token files taken)
under_none is_open token at files taken opened marked is h =
    sym (ap (λ b. found_by b (listed_under token files taken)) opened ∙ ap (found_by true) (nothing_under token files taken marked (sym is ∙ h)))

beyond : (n m : ℕ) → n ≤ m → (n ≡ m → ⊥) → n < m
beyond n m h g = grind (arith, h, g)

found_there : (token at : ℕ) → (files : Files) → (taken : List Bool) → (d : Token × FileNo × ℕ) → length taken ≡ length files → at ≡ before token files → at ≤ length files → (at ≡ length files → ⊥) → (b : Bool) → slice_index_or taken at false ≡ b → listed_under token files taken ≡ Some (record (at_place files taken at d) { taken = b })
found_there token at files taken d marked is within h b t =
    there_under token files taken d marked (subst (λ n. n < length files) is (beyond at (length files) within h))
    ∙ ap (λ n. Some (at_place files taken n d)) (sym is)
    ∙ ap (λ x. Some (record (at_place files taken at d) { taken = x })) t

pub under_taken : (is_open : Bool) → (token at : ℕ) → (files : Files) → (taken : List Bool) → (d : Token × FileNo × ℕ) → is_open ≡ true → length taken ≡ length files → at ≡ before token files → at ≤ length files → (at ≡ length files → ⊥) → slice_index_or taken at false ≡ true → Err AlreadyTaken ≡ found_by is_open (listed_under token files taken)
under_taken is_open token at files taken d opened marked is within h t =
    sym (ap (λ b. found_by b (listed_under token files taken)) opened ∙ ap (found_by true) (found_there token at files taken d marked is within h true t))

pub under_free : (is_open : Bool) → (token at : ℕ) → (files : Files) → (taken : List Bool) → (d : Token × FileNo × ℕ) → is_open ≡ true → length taken ≡ length files → at ≡ before token files → at ≤ length files → (at ≡ length files → ⊥) → slice_index_or taken at false ≡ false → Ok ((slice_index_or files at d).1, (slice_index_or files at d).2) ≡ found_by is_open (listed_under token files taken)
under_free is_open token at files taken d opened marked is within h t =
    sym (ap (λ b. found_by b (listed_under token files taken)) opened ∙ ap (found_by true) (found_there token at files taken d marked is within h false t))

-- what the state answers, by the parts
pub found_shown : (i : Option Incoming) → (n : Option (List ℕ)) → (files : Files) → (name : List ℕ) → (token : ℕ) → TokensRise files → found_of (shown i n files) name token ≡ found_in i files name token
unfolding shown listed_under
found_shown (Some i) n files name token rise =
    ap (found_by (i.opened && same_bytes i.name name)) (finmap.get-from_sorted nat_cmp (listed_by files i.taken.items) token (in_order_by files i.taken.items rise))
found_shown None None files name token rise = refl
found_shown None (Some own) files name token rise = refl

refused : (r : Result (FileNo × ℕ) Reply) → (x : Reply) → r ≡ Err x → IsOk r → ⊥
refused (Ok f) x is h = cc
refused (Err y) x is h = cc

-- a file that is found stands among the files
found_within : (is_open : Bool) → (token : ℕ) → (files : Files) → (taken : List Bool) → length taken ≡ length files → IsOk (found_by is_open (listed_under token files taken)) → before token files < length files
found_within false token files taken marked h = cc
found_within true token files taken marked h =
    elim (nat_lt (before token files) (length files)) as (λ b. nat_lt (before token files) (length files) ≡ b → before token files < length files) [
      | true ↦ λ t. less (before token files) (length files) t
      | false ↦ λ f. absurd (refused _ _ (ap (found_by true) (nothing_under token files taken marked (all (before token files) (length files) f (before_within token files)))) h)
    ] refl
  where
    less : (a b : ℕ) → nat_lt a b ≡ true → a < b
    less a b h = grind (arith, nat_tests)

    all : (a b : ℕ) → nat_lt a b ≡ false → a ≤ b → a ≡ b
    all a b f h = grind (arith, nat_tests, h)

-- what the step of taking asks, of each state
step_of_take : (s : SessionState) → (name : List ℕ) → (token : Token) → (reply : Reply) → session_step s (SessionTake name token) reply ≡ take_step s name token.0 reply
step_of_take Free name token reply = refl
step_of_take (Out own files) name token reply = refl
step_of_take (In own opened files) name token reply = refl

-- a refusal leaves it as it is
refuse_listed : (s : SessionState) → (name : List ℕ) → (token : ℕ) → (l : Listed) → is_in s name ≡ true → finmap.get (files_of s) token ≡ Some l → (t : Bool) → l.taken ≡ t → (lost : Option Reply) → (reply : Reply) → option_or (result_err {T = FileNo × ℕ} (if t then Err AlreadyTaken else Ok (record { 0 = l.file }, l.handle))) lost ≡ Some reply → IfSome lost (λ r. r ≡ HandlerFailed) → take_step s name token reply ≡ Some s
refuse_listed s name token l opened here true is lost reply h loss =
    subst (λ r. take_step s name token r ≡ Some s) (some_same h)
    (ap (λ b. if b then take_listed s token (finmap.get (files_of s) token) AlreadyTaken else None) opened ∙ ap (λ g. take_listed s token g AlreadyTaken) here ∙ ap (λ b. only b s) is)
refuse_listed s name token l opened here false is None reply h loss = cc
refuse_listed s name token l opened here false is (Some x) reply h loss =
    subst (λ r. take_step s name token r ≡ Some s) (sym loss ∙ some_same h)
    (ap (λ b. if b then take_listed s token (finmap.get (files_of s) token) HandlerFailed else None) opened ∙ ap (λ g. take_listed s token g HandlerFailed) here ∙ ap (λ b. only (not b) s) is)

refuse_by : (s : SessionState) → (name : List ℕ) → (token : ℕ) → (b : Bool) → (g : Option Listed) → is_in s name ≡ b → finmap.get (files_of s) token ≡ g → (lost : Option Reply) → (reply : Reply) → option_or (result_err (found_by b g)) lost ≡ Some reply → IfSome lost (λ r. r ≡ HandlerFailed) → take_step s name token reply ≡ Some s
refuse_by s name token false g opened here lost reply h loss = subst (λ r. take_step s name token r ≡ Some s) (some_same h) (ap (λ b. only (not b) s) opened)
refuse_by s name token true None opened here lost reply h loss =
    subst (λ r. take_step s name token r ≡ Some s) (some_same h)
    (ap (λ b. if b then take_listed s token (finmap.get (files_of s) token) NoToken else None) opened ∙ ap (λ g. take_listed s token g NoToken) here)
refuse_by s name token true (Some l) opened here lost reply h loss = refuse_listed s name token l opened here l.taken refl lost reply h loss

pub take_stays : (o : Option SessionState) → (name : List ℕ) → (token : Token) → (r : Result (FileNo × ℕ) Reply) → (against lost : Option Reply) → (reply : Reply) → MatchOption o ⊥ (λ s. r ≡ found_of s name token.0) → against ≡ result_err r → option_or against lost ≡ Some reply → IfSome lost (λ x. x ≡ HandlerFailed) → MatchOption o ⊥ (λ s. session_step s (SessionTake name token) reply ≡ Some s)
take_stays None name token r against lost reply is a h loss = is
take_stays (Some s) name token r against lost reply is a h loss =
    step_of_take s name token reply
    ∙ refuse_by s name token.0 (is_in s name) (finmap.get (files_of s) token.0) refl refl lost reply (ap (λ x. option_or (result_err x) lost) (sym is) ∙ ap (λ x. option_or x lost) (sym a) ∙ h) loss

plain_by : (b : Bool) → (g : Option Listed) → (lost : Option Reply) → (reply : Reply) → option_or (result_err (found_by b g)) lost ≡ Some reply → IfSome lost (λ r. r ≡ HandlerFailed) → ReplyIsPlain reply
plain_by false g lost reply h loss = subst ReplyIsPlain (some_same h) (record { runs = refl; bytes = refl })
plain_by true None lost reply h loss = subst ReplyIsPlain (some_same h) (record { runs = refl; bytes = refl })
plain_by true (Some l) lost reply h loss = plain_listed l.taken h
  where
    plain_listed : (t : Bool) → option_or (result_err {T = FileNo × ℕ} (if t then Err AlreadyTaken else Ok (record { 0 = l.file }, l.handle))) lost ≡ Some reply → ReplyIsPlain reply
    plain_listed true h = subst ReplyIsPlain (some_same h) (record { runs = refl; bytes = refl })
    plain_listed false h = plain_loss lost reply loss h

pub take_plain : (o : Option SessionState) → (name : List ℕ) → (token : ℕ) → (r : Result (FileNo × ℕ) Reply) → (against lost : Option Reply) → (reply : Reply) → MatchOption o ⊥ (λ s. r ≡ found_of s name token) → against ≡ result_err r → option_or against lost ≡ Some reply → IfSome lost (λ x. x ≡ HandlerFailed) → ReplyIsPlain reply
take_plain None name token r against lost reply is a h loss = absurd is
take_plain (Some s) name token r against lost reply is a h loss =
    plain_by (is_in s name) (finmap.get (files_of s) token) lost reply (ap (λ x. option_or (result_err x) lost) (sym is) ∙ ap (λ x. option_or x lost) (sym a) ∙ h) loss

-- what is answered
answer_by : (r : Result (FileNo × ℕ) Reply) → (lost : Option Reply) → (reply : Reply) → option_or (result_err r) lost ≡ Some reply → reply ≡ take_answer r lost
answer_by (Err refusal) lost reply h = sym (some_same h)
answer_by (Ok f) (Some loss) reply h = sym (some_same h)
answer_by (Ok f) None reply h = cc

pub take_refuses : (o : Option SessionState) → (name : List ℕ) → (token : ℕ) → (r : Result (FileNo × ℕ) Reply) → (against lost : Option Reply) → (reply : Reply) → MatchOption o ⊥ (λ s. r ≡ found_of s name token) → against ≡ result_err r → option_or against lost ≡ Some reply → MatchOption o ⊥ (λ s. reply ≡ take_answer (found_of s name token) lost)
take_refuses None name token r against lost reply is a h = is
take_refuses (Some s) name token r against lost reply is a h = answer_by r lost reply (ap (λ x. option_or x lost) (sym a) ∙ h) ∙ ap (λ x. take_answer x lost) is

ok_by : (r : Result (FileNo × ℕ) Reply) → (lost : Option Reply) → option_or (result_err r) lost ≡ None → IsOk r
ok_by (Ok f) lost h = refl
ok_by (Err refusal) lost h = cc

pub take_found : (o : Option SessionState) → (name : List ℕ) → (token : ℕ) → (r : Result (FileNo × ℕ) Reply) → (against lost : Option Reply) → MatchOption o ⊥ (λ s. r ≡ found_of s name token) → against ≡ result_err r → option_or against lost ≡ None → MatchOption o ⊥ (λ s. IsOk (found_of s name token))
take_found None name token r against lost is a h = is
take_found (Some s) name token r against lost is a h = subst IsOk is (ok_by r lost (ap (λ x. option_or x lost) (sym a) ∙ h))

pub take_gives : (o : Option SessionState) → (name : List ℕ) → (token : ℕ) → (against lost : Option Reply) → (reply : Reply) → option_or against lost ≡ None → MatchOption o ⊥ (λ s. reply ≡ take_answer (found_of s name token) None) → MatchOption o ⊥ (λ s. reply ≡ take_answer (found_of s name token) lost)
take_gives o name token against lost reply h is = subst (λ x. MatchOption o ⊥ (λ s. reply ≡ take_answer (found_of s name token) x)) (sym (no_loss against lost h)) is

-- a file that is taken
same_number : (a b : ℕ) → (a == b) ≡ true → a ≡ b
same_number a b h = grind (arith, nat_tests)

one_number : (x a b : ℕ) → (a == x) ≡ true → (b == x) ≡ true → (a == b) ≡ true
one_number x a b h g = grind (arith, nat_tests)

swap : {X : Type 0} → (x y : Bool) → (a b c : X) → (x ≡ true → y ≡ true → ⊥) → cond x b (cond y a c) ≡ cond y a (cond x b c)
swap true true a b c apart = absurd (apart refl refl)
swap true false a b c apart = refl
swap false y a b c apart = refl

over : {X : Type 0} → (x : Bool) → (a b c : X) → cond x a c ≡ cond x a (cond x b c)
over true a b c = refl
over false a b c = refl

not_both : (b : Bool) → b ≡ true → b ≡ false → ⊥
not_both b t f = cc

pub under_taken_now : (token q : ℕ) → (files : Files) → (taken : List Bool) → (d : Token × FileNo × ℕ) → length taken ≡ length files → before token files < length files → listed_under q files (slice_set taken (before token files) true) ≡ cond (token == q) (Some (record (at_place files taken (before token files) d) { taken = true })) (listed_under q files taken)
under_taken_now token q [] taken d marked h = absurd (omega (arith, h))
under_taken_now token q (f ∷ files) [] d marked h = absurd (no_length (length files) marked)
under_taken_now token q (f ∷ files) (b ∷ taken) d marked h =
    elim (f.0.0 == token) as (λ t. (f.0.0 == token) ≡ t → listed_under q (f ∷ files) (slice_set (b ∷ taken) (before token (f ∷ files)) true) ≡ cond (token == q) (Some (record (at_place (f ∷ files) (b ∷ taken) (before token (f ∷ files)) d) { taken = true })) (listed_under q (f ∷ files) (b ∷ taken))) [
      | true ↦ λ t.
          rw (before_hit token f files t)
          (under_cons q f files true taken
          ∙ over (f.0.0 == q) (Some (record (listed f).1 { taken = true })) (Some (record (listed f).1 { taken = b })) (listed_under q files taken)
          ∙ ap (cond (f.0.0 == q) (Some (record (listed f).1 { taken = true }))) (sym (under_cons q f files b taken))
          ∙ ap (λ n. cond (n == q) (Some (record (listed f).1 { taken = true })) (listed_under q (f ∷ files) (b ∷ taken))) (same_number f.0.0 token t))
      | false ↦ λ t.
          rw (before_miss token f files t)
          (under_cons q f files b (slice_set taken (before token files) true)
          ∙ ap (cond (f.0.0 == q) (Some (record (listed f).1 { taken = b }))) (under_taken_now token q files taken d (same_length _ _ marked) (less (subst (λ n. n < suc (length files)) (before_miss token f files t) h)))
          ∙ swap (f.0.0 == q) (token == q) _ _ _ (λ x y. not_both (f.0.0 == token) (one_number q f.0.0 token x y) t)
          ∙ ap (cond (token == q) (Some (record (at_place files taken (before token files) d) { taken = true }))) (sym (under_cons q f files b taken)))
    ] refl
  where
    less : {a b : ℕ} → suc a < suc b → a < b
    less h = omega (arith, h)

get_shown : (i : Incoming) → (n : Option (List ℕ)) → (files : Files) → (token : ℕ) → TokensRise files → finmap.get (files_of (shown (Some i) n files)) token ≡ listed_under token files i.taken.items
unfolding shown listed_under
get_shown i n files token rise = finmap.get-from_sorted nat_cmp (listed_by files i.taken.items) token (in_order_by files i.taken.items rise)

map_taken : (token : ℕ) → (files : Files) → (taken : List Bool) → (d : Token × FileNo × ℕ) → TokensRise files → length taken ≡ length files → before token files < length files → finmap.insert (finmap.from_sorted {R = nat_cmp} (listed_by files taken)) token (record (at_place files taken (before token files) d) { taken = true }) ≡ finmap.from_sorted (listed_by files (slice_set taken (before token files) true))
unfolding listed_under
map_taken token files taken d rise marked h =
    finmap.same_map nat_cmp_total finmap.nat_cmp-IsAntisymmetric _ _
    (λ q. finmap.get-insert nat_cmp_total (finmap.from_sorted (listed_by files taken)) token _ q
    ∙ ap (λ b. cond b (Some (record (at_place files taken (before token files) d) { taken = true })) (finmap.get (finmap.from_sorted {R = nat_cmp} (listed_by files taken)) q)) (tied_is q token)
    ∙ ap (cond (token == q) (Some (record (at_place files taken (before token files) d) { taken = true }))) (finmap.get-from_sorted nat_cmp (listed_by files taken) q (in_order_by files taken rise))
    ∙ sym (under_taken_now token q files taken d marked h)
    ∙ sym (finmap.get-from_sorted nat_cmp (listed_by files (slice_set taken (before token files) true)) q (in_order_by files (slice_set taken (before token files) true) rise)))

shown_taken : (i j : Incoming) → (n : Option (List ℕ)) → (files : Files) → (token : ℕ) → (d : Token × FileNo × ℕ) → TokensRise files → length i.taken.items ≡ length files → before token files < length files → Becomes i.opened (slice_set i.taken.items (before token files) true) i (Some j) → with_taken (shown (Some i) n files) token (at_place files i.taken.items (before token files) d) ≡ shown (Some j) n files
unfolding shown
shown_taken i j n files token d rise marked h b =
    ap (In i.name i.opened) (map_taken token files i.taken.items d rise marked h)
    ∙ ap (λ own. In own i.opened (finmap.from_sorted (listed_by files (slice_set i.taken.items (before token files) true)))) (sym b.0)
    ∙ ap (λ opened. In j.name opened (finmap.from_sorted (listed_by files (slice_set i.taken.items (before token files) true)))) (sym b.1)
    ∙ ap (λ taken. In j.name j.opened (finmap.from_sorted (listed_by files taken))) (sym b.2)

-- the step that gives it
give_step : (s : SessionState) → (name : List ℕ) → (token : Token) → (l : Listed) → (f : FileNo) → is_in s name ≡ true → finmap.get (files_of s) token.0 ≡ Some l → l.taken ≡ false → l.file ≡ f.0 → session_step s (SessionTake name token) (OkFile f) ≡ Some (with_taken s token.0 l)
give_step s name token l f opened here left is =
    step_of_take s name token (OkFile f)
    ∙ ap (λ b. if b then take_listed s token.0 (finmap.get (files_of s) token.0) (OkFile f) else None) opened
    ∙ ap (λ g. take_listed s token.0 g (OkFile f)) here
    ∙ ap (λ b. only (not b && l.file == f.0) (with_taken s token.0 l)) left
    ∙ ap (λ b. only b (with_taken s token.0 l)) (is_same l.file f.0 is)

ok_parts : (b : Bool) → (l : Listed) → IsOk (found_by b (Some l)) → (b ≡ true) × (l.taken ≡ false)
ok_parts false l h = cc
ok_parts true l h = (refl, left l.taken refl h)
  where
    left : (t : Bool) → l.taken ≡ t → IsOk {T = FileNo × ℕ} {E = Reply} (if t then Err AlreadyTaken else Ok (record { 0 = l.file }, l.handle)) → l.taken ≡ false
    left true is h = cc
    left false is h = is

nothing_found : (n : Option (List ℕ)) → (files : Files) → (name : List ℕ) → (token : ℕ) → TokensRise files → IsOk (found_of (shown None n files) name token) → ⊥
nothing_found n files name token rise h = refused _ _ (found_shown None n files name token rise) h

module _ (start : SessionState) (h : List Entry) (n : Option (List ℕ)) (files : Files) (name : List ℕ) (token : Token) where
  -- where an incoming session lists it
  found_among : (i : Incoming) → KeepsSession start h (Some i) n files → MatchOption (session_from start h) ⊥ (λ s. IsOk (found_of s name token.0)) → IsOk (found_by (i.opened && same_bytes i.name name) (listed_under token.0 files i.taken.items))
  found_among i k ok = subst IsOk (found_shown (Some i) n files name token.0 k.rising) (at_shown start h (Some i) n files (λ s. IsOk (found_of s name token.0)) k ok)

  pub give_within : (i : Option Incoming) → KeepsSession start h i n files → MatchOption (session_from start h) ⊥ (λ s. IsOk (found_of s name token.0)) → before token.0 files < length files
  give_within None k ok = absurd (nothing_found n files name token.0 k.rising (at_shown start h None n files (λ s. IsOk (found_of s name token.0)) k ok))
  give_within (Some i) k ok = found_within (i.opened && same_bytes i.name name) token.0 files i.taken.items k.marked (found_among i k ok)

  pub mark_within : (i : Option Incoming) → KeepsSession start h i n files → MatchOption (session_from start h) ⊥ (λ s. IsOk (found_of s name token.0)) → IfSome i (λ x. before token.0 files < length x.taken.items)
  mark_within None k ok = tt
  mark_within (Some i) k ok = subst (λ m. before token.0 files < m) (sym k.marked) (give_within (Some i) k ok)

  pub give_keeps : (e : Entry) → (i j : Option Incoming) → (d : Token × FileNo × ℕ) → (f : FileNo) → KeepsSession start h i n files → MatchOption (session_from start h) ⊥ (λ s. IsOk (found_of s name token.0)) → IfSome i (λ x. Becomes x.opened (slice_set x.taken.items (before token.0 files) true) x j) → f ≡ (slice_index_or files (before token.0 files) d).1 → e.event ≡ SessionTake name token → e.reply ≡ OkFile f → KeepsSession start (h ++ e ∷ []) j n files
  give_keeps e None j d f k ok b is event reply = absurd (nothing_found n files name token.0 k.rising (at_shown start h None n files (λ s. IsOk (found_of s name token.0)) k ok))
  give_keeps e (Some i) None d f k ok b is event reply = absurd b
  give_keeps e (Some i) (Some j) d f k ok b is event reply =
      let within : before token.0 files < length files = give_within (Some i) k ok in
      let there : listed_under token.0 files i.taken.items ≡ Some (at_place files i.taken.items (before token.0 files) d) = there_under token.0 files i.taken.items d k.marked within in
      let parts : ((i.opened && same_bytes i.name name) ≡ true) × (slice_index_or i.taken.items (before token.0 files) false ≡ false) =
      ok_parts (i.opened && same_bytes i.name name) (at_place files i.taken.items (before token.0 files) d) (subst (λ g. IsOk (found_by (i.opened && same_bytes i.name name) g)) there (found_among i k ok)) in
      turn_keeps start h e (Some i) (Some j) n n files files k
      (rw (event, reply)
      (give_step (shown (Some i) n files) name token (at_place files i.taken.items (before token.0 files) d) f (in_shown (Some i) n files name ∙ parts.0) (get_shown i n files token.0 k.rising ∙ there) parts.1 (ap (λ (x : FileNo). x.0) (sym is))
      ∙ ap Some (shown_taken i j n files token.0 d k.rising k.marked within b)))
      k.rising k.within k.side (ap length b.2 ∙ length-set i.taken.items (before token.0 files) true ∙ k.marked)

  pub give_told : (i : Option Incoming) → (d : Token × FileNo × ℕ) → (f : FileNo) → KeepsSession start h i n files → MatchOption (session_from start h) ⊥ (λ s. IsOk (found_of s name token.0)) → f ≡ (slice_index_or files (before token.0 files) d).1 → MatchOption (session_from start h) ⊥ (λ s. OkFile f ≡ take_answer (found_of s name token.0) None)
  give_told None d f k ok is = absurd (nothing_found n files name token.0 k.rising (at_shown start h None n files (λ s. IsOk (found_of s name token.0)) k ok))
  give_told (Some i) d f k ok is =
      let within : before token.0 files < length files = give_within (Some i) k ok in
      let there : listed_under token.0 files i.taken.items ≡ Some (at_place files i.taken.items (before token.0 files) d) = there_under token.0 files i.taken.items d k.marked within in
      let parts : ((i.opened && same_bytes i.name name) ≡ true) × (slice_index_or i.taken.items (before token.0 files) false ≡ false) =
      ok_parts (i.opened && same_bytes i.name name) (at_place files i.taken.items (before token.0 files) d) (subst (λ g. IsOk (found_by (i.opened && same_bytes i.name name) g)) there (found_among i k ok)) in
      subst (λ o. MatchOption o ⊥ (λ s. OkFile f ≡ take_answer (found_of s name token.0) None)) (sym k.replayed)
      (ap OkFile is
      ∙ sym (ap (λ r. take_answer r None) (found_shown (Some i) n files name token.0 k.rising ∙ ap (found_by (i.opened && same_bytes i.name name)) there ∙ ap (λ b. found_by b (Some (at_place files i.taken.items (before token.0 files) d))) parts.0
      ∙ ap (λ t. if t then Err AlreadyTaken else Ok (record { 0 = (slice_index_or files (before token.0 files) d).1.0 }, (slice_index_or files (before token.0 files) d).2)) parts.1)))

  -- by the place where the file was found
  pub given_keeps : (e : Entry) → (i j : Option Incoming) → (at : ℕ) → (d : Token × FileNo × ℕ) → (f : FileNo) → KeepsSession start h i n files → MatchOption (session_from start h) ⊥ (λ s. IsOk (found_of s name token.0)) → at ≡ before token.0 files → IfSome i (λ x. Becomes x.opened (slice_set x.taken.items at true) x j) → f ≡ (slice_index_or files at d).1 → e.event ≡ SessionTake name token → e.reply ≡ OkFile f → KeepsSession start (h ++ e ∷ []) j n files
  given_keeps e i j at d f k ok place b is event reply =
      give_keeps e i j d f k ok (subst (λ m. IfSome i (λ x. Becomes x.opened (slice_set x.taken.items m true) x j)) place b) (is ∙ ap (λ m. (slice_index_or files m d).1) place) event reply

  pub given_told : (i : Option Incoming) → (at : ℕ) → (d : Token × FileNo × ℕ) → (f : FileNo) → KeepsSession start h i n files → MatchOption (session_from start h) ⊥ (λ s. IsOk (found_of s name token.0)) → at ≡ before token.0 files → f ≡ (slice_index_or files at d).1 → MatchOption (session_from start h) ⊥ (λ s. OkFile f ≡ take_answer (found_of s name token.0) None)
  given_told i at d f k ok place is = give_told i d f k ok (is ∙ ap (λ m. (slice_index_or files m d).1) place)
