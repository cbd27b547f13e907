-- How adding a file comes out.
use Rattle.std.proofs.Common.{◌≡◌, ℕ, ◌<◌, ◌&&◌, Bool, true, false, List, [], ◌∷◌, ◌++◌, map, refl, ap, sym, ◌∙◌, arith, IsTrue, nat_lt, nat_le, subst, not, T}
use Rattle.std.specs.Prelude.{Option, None, Some, ◌↔◌}
use Rattle.std.specs.List.{insert}
use Rattle.std.specs.Option.{MatchOption, IfSome, option_or}
use Rattle.std.specs.Ordering.{nat_cmp}
use Rattle.std.specs.Cmp.{nat_cmp_total}
use Rattle.std.specs.FinMap as finmap
use Rattle.std.specs.FinMap.Entries.{is_sorted-put}
use Rattle.std.proofs.lemmas.Bool.Decides.{nat_tests}
use Rattle.std.proofs.lemmas.List.Elements.{All-append, All-cons, All-drop, All-take}
use Rattle.ho_base.specs.declared.limits.TheConstants.{FILES, SESSION_FILES}
use Rattle.ho_base.specs.declared.numbers.Token.{Token}
use Rattle.ho_base.specs.declared.numbers.FileNo.{FileNo}
use Rattle.ho_events.specs.Session.{SessionState, Free, Out, In, Listed, is_out, files_of, admits, with_file, add_step, session_step}
use Rattle.ho_events.specs.History.{session_from}
use Rattle.ho_events.specs.declared.entry.Entry.{Entry}
use Rattle.ho_events.specs.declared.event.Event.TheVariants.{SessionAdd}
use Rattle.ho_events.specs.declared.reply.Reply.{Reply}
use Rattle.ho_events.specs.declared.reply.Reply.TheVariants.{Ok, NotFinished, AlreadyPinned, NoFrames, HandlerFailed}
use Rattle.session_core.proofs.Sessions.{turn_keeps, at_shown, taken_shown, in_order, only_true, some_same}
use Rattle.session_core.proofs.Tokens.{put_at}
use Rattle.ho_events.specs.PlainTurns.{ReplyIsPlain}
use Rattle.session_core.specs.Sessions.{refusal_by, refusal_of, is_loss, add_answer}
use Rattle.session_core.specs.declared.opening.Incoming.{Incoming}
use Rattle.session_core.specs.SessionShown.{listed, AreFiles, TokensRise, has_token, smaller, shown, KeepsSession}

step_of_add : (s : SessionState) → (name : List ℕ) → (token : Token) → (file : FileNo) → (handle : ℕ) → (reply : Reply) → session_step s (SessionAdd name token file handle) reply ≡ add_step s name token.0 (record { file = file.0; handle = handle; taken = false }) reply
step_of_add Free name token file handle reply = refl
step_of_add (Out own files) name token file handle reply = refl
step_of_add (In own opened files) name token file handle reply = refl

room_left : (n : ℕ) → nat_le SESSION_FILES n ≡ false → nat_lt n SESSION_FILES ≡ true
room_left n h = grind (arith, nat_tests)

-- a refusal of the session leaves it as it is
refused : (s : SessionState) → (name : List ℕ) → (token : ℕ) → (l : Listed) → (a full taken : Bool) → is_out s name ≡ a → nat_le SESSION_FILES (finmap.len (files_of s)) ≡ full → finmap.contains_key (files_of s) token ≡ taken → (reply : Reply) → refusal_by a full taken ≡ Some reply → add_step s name token l reply ≡ Some s
refused s name token l false full taken ea ef et reply h = subst (λ r. add_step s name token l r ≡ Some s) (some_same h) (rw ea refl)
refused s name token l true true taken ea ef et reply h = subst (λ r. add_step s name token l r ≡ Some s) (some_same h) (rw (ea, ef) refl)
refused s name token l true false true ea ef et reply h =
    subst (λ r. add_step s name token l r ≡ Some s) (some_same h) (rw (ea, room_left (finmap.len (files_of s)) ef, et) refl)
refused s name token l true false false ea ef et reply h = cc

-- a loss of the caller leaves it as it is
lost_step : (s : SessionState) → (name : List ℕ) → (token : ℕ) → (l : Listed) → (reply : Reply) → IsTrue (is_loss reply) → IsTrue (admits s name token) → add_step s name token l reply ≡ Some s
lost_step s name token l NotFinished h a = only_true _ _ a
lost_step s name token l AlreadyPinned h a = only_true _ _ a
lost_step s name token l NoFrames h a = only_true _ _ a
lost_step s name token l HandlerFailed h a = only_true _ _ a
lost_step s name token l reply h a = cc

loss_plain : (reply : Reply) → IsTrue (is_loss reply) → ReplyIsPlain reply
loss_plain NotFinished h = record { runs = refl; bytes = refl }
loss_plain AlreadyPinned h = record { runs = refl; bytes = refl }
loss_plain NoFrames h = record { runs = refl; bytes = refl }
loss_plain HandlerFailed h = record { runs = refl; bytes = refl }
loss_plain reply h = cc

refusal_plain : (a full taken : Bool) → (reply : Reply) → refusal_by a full taken ≡ Some reply → ReplyIsPlain reply
refusal_plain false full taken reply h = subst ReplyIsPlain (some_same h) (record { runs = refl; bytes = refl })
refusal_plain true true taken reply h = subst ReplyIsPlain (some_same h) (record { runs = refl; bytes = refl })
refusal_plain true false true reply h = subst ReplyIsPlain (some_same h) (record { runs = refl; bytes = refl })
refusal_plain true false false reply h = cc

-- where the session or the caller refuses
pub add_stays : (o : Option SessionState) → (name : List ℕ) → (token : Token) → (file : FileNo) → (handle : ℕ) → (refusal lost : Option Reply) → (reply : Reply) → MatchOption o ⊥ (λ s. refusal ≡ refusal_of s name token.0) → MatchOption o ⊥ (λ s. (refusal ≡ None) ↔ IsTrue (admits s name token.0)) → option_or refusal lost ≡ Some reply → IfSome lost (λ r. IsTrue (is_loss r)) → MatchOption o ⊥ (λ s. session_step s (SessionAdd name token file handle) reply ≡ Some s)
add_stays None name token file handle refusal lost reply r a h l = r
add_stays (Some s) name token file handle None None reply r a h l = cc
add_stays (Some s) name token file handle None (Some loss) reply r a h l =
    step_of_add s name token file handle reply ∙ subst (λ x. add_step s name token.0 (record { file = file.0; handle = handle; taken = false }) x ≡ Some s) (some_same h) (lost_step s name token.0 _ loss l (a.0 refl))
add_stays (Some s) name token file handle (Some refusal) lost reply r a h l =
    step_of_add s name token file handle reply ∙ refused s name token.0 _ _ _ _ refl refl refl reply (sym r ∙ h)

pub add_plain : (o : Option SessionState) → (name : List ℕ) → (token : ℕ) → (refusal lost : Option Reply) → (reply : Reply) → MatchOption o ⊥ (λ s. refusal ≡ refusal_of s name token) → option_or refusal lost ≡ Some reply → IfSome lost (λ r. IsTrue (is_loss r)) → ReplyIsPlain reply
add_plain None name token refusal lost reply r h l = absurd r
add_plain (Some s) name token None None reply r h l = cc
add_plain (Some s) name token None (Some loss) reply r h l = subst ReplyIsPlain (some_same h) (loss_plain loss l)
add_plain (Some s) name token (Some refusal) lost reply r h l = refusal_plain _ _ _ reply (sym r ∙ h)

pub add_refuses : (o : Option SessionState) → (name : List ℕ) → (token : ℕ) → (refusal lost : Option Reply) → (reply : Reply) → MatchOption o ⊥ (λ s. refusal ≡ refusal_of s name token) → option_or refusal lost ≡ Some reply → MatchOption o ⊥ (λ s. reply ≡ add_answer (refusal_of s name token) lost)
add_refuses None name token refusal lost reply r h = r
add_refuses (Some s) name token None None reply r h = cc
add_refuses (Some s) name token None (Some loss) reply r h = sym (some_same h) ∙ ap (λ x. add_answer x (Some loss)) r
add_refuses (Some s) name token (Some refusal) lost reply r h = sym (some_same h) ∙ ap (λ x. add_answer x lost) r

-- where neither does
pub no_loss : (refusal lost : Option Reply) → option_or refusal lost ≡ None → lost ≡ None
no_loss None lost h = h
no_loss (Some refusal) lost h = cc

pub add_admitted : (o : Option SessionState) → (name : List ℕ) → (token : ℕ) → (refusal lost : Option Reply) → MatchOption o ⊥ (λ s. (refusal ≡ None) ↔ IsTrue (admits s name token)) → option_or refusal lost ≡ None → MatchOption o ⊥ (λ s. IsTrue (admits s name token))
add_admitted None name token refusal lost a h = a
add_admitted (Some s) name token None lost a h = a.0 refl
add_admitted (Some s) name token (Some refusal) lost a h = cc

pub add_adds : (o : Option SessionState) → (name : List ℕ) → (token : ℕ) → (refusal lost : Option Reply) → MatchOption o ⊥ (λ s. refusal ≡ refusal_of s name token) → option_or refusal lost ≡ None → MatchOption o ⊥ (λ s. Ok ≡ add_answer (refusal_of s name token) lost)
add_adds None name token refusal lost r h = r
add_adds (Some s) name token None None r h = ap (λ x. add_answer x None) r
add_adds (Some s) name token None (Some loss) r h = cc
add_adds (Some s) name token (Some refusal) lost r h = cc

-- the state with one more file
not_taken : (a b c : Bool) → IsTrue (a && b && not c) → c ≡ false
not_taken a b false h = refl
not_taken true true true h = cc
not_taken true false true h = cc
not_taken false b true h = cc

taken_at : (own : List ℕ) → (files : List (Token × FileNo × ℕ)) → (name : List ℕ) → (token : ℕ) → IsTrue (admits (shown None (Some own) files) name token) → TokensRise files → has_token token files ≡ false
taken_at own files name token a rise = sym (taken_shown None (Some own) files token rise tt) ∙ not_taken (is_out (shown None (Some own) files) name) (nat_lt (finmap.len (files_of (shown None (Some own) files))) SESSION_FILES) (finmap.contains_key (files_of (shown None (Some own) files)) token) a

true_of : (b : Bool) → T b → b ≡ true
true_of true h = refl
true_of false h = absurd h

still_rising : (files : List (Token × FileNo × ℕ)) → (f : Token × FileNo × ℕ) → TokensRise files → has_token f.0.0 files ≡ false → TokensRise (insert files (smaller f.0.0 files) f)
still_rising files f rise new =
    subst (λ es. IsTrue (finmap.is_sorted nat_cmp es)) (put_at f files new)
    (true_of _ (is_sorted-put nat_cmp nat_cmp_total f.0.0 (listed f).1 (map listed files) (in_order files rise)))

with_shown : (own : List ℕ) → (files : List (Token × FileNo × ℕ)) → (f : Token × FileNo × ℕ) → TokensRise files → has_token f.0.0 files ≡ false → with_file (shown None (Some own) files) f.0.0 (listed f).1 ≡ shown None (Some own) (insert files (smaller f.0.0 files) f)
unfolding shown
with_shown own files f rise new =
    ap (Out own) (finmap.same_entries_map _ _
    (finmap.entries-insert nat_cmp_total (finmap.from_sorted (map listed files)) f.0.0 (listed f).1
    ∙ ap (finmap.put nat_cmp f.0.0 (listed f).1) (finmap.entries-from_sorted nat_cmp (map listed files) (in_order files rise))
    ∙ put_at f files new
    ∙ sym (finmap.entries-from_sorted nat_cmp (map listed (insert files (smaller f.0.0 files) f)) (in_order (insert files (smaller f.0.0 files) f) (still_rising files f rise new)))))

nothing_admitted : (files : List (Token × FileNo × ℕ)) → (name : List ℕ) → (token : ℕ) → IsTrue (admits (shown None None files) name token) → ⊥
unfolding shown
nothing_admitted files name token h = cc

incoming_admits_none : (i : Incoming) → (n : Option (List ℕ)) → (files : List (Token × FileNo × ℕ)) → (name : List ℕ) → (token : ℕ) → IsTrue (admits (shown (Some i) n files) name token) → ⊥
unfolding shown
incoming_admits_none i n files name token h = cc

-- one more file number among them
files_insert : (n : ℕ) → (f : Token × FileNo × ℕ) → (files : List (Token × FileNo × ℕ)) → f.1.0 < FILES → AreFiles files → AreFiles (insert files n f)
files_insert n f files less h =
    All-append (λ g. g.1.0 < FILES) _ _ (All-take (λ g. g.1.0 < FILES) n files h)
    (All-cons (λ g. g.1.0 < FILES) f _ less (All-drop (λ g. g.1.0 < FILES) n files h))

pub list_keeps : (start : SessionState) → (h : List Entry) → (e : Entry) → (i : Option Incoming) → (n : Option (List ℕ)) → (files : List (Token × FileNo × ℕ)) → (name : List ℕ) → (token : Token) → (file : FileNo) → (handle : ℕ) → KeepsSession start h i n files → MatchOption (session_from start h) ⊥ (λ s. IsTrue (admits s name token.0)) → e.event ≡ SessionAdd name token file handle → e.reply ≡ Ok → file.0 < FILES → KeepsSession start (h ++ e ∷ []) i n (insert files (smaller token.0 files) (token, file, handle))
list_keeps start h e (Some i) n files name token file handle k is event reply less =
    absurd (incoming_admits_none i n files name token.0 (at_shown start h (Some i) n files (λ s. IsTrue (admits s name token.0)) k is))
list_keeps start h e None None files name token file handle k is event reply less =
    absurd (nothing_admitted files name token.0 (at_shown start h None None files (λ s. IsTrue (admits s name token.0)) k is))
list_keeps start h e None (Some own) files name token file handle k is event reply less =
    let a : IsTrue (admits (shown None (Some own) files) name token.0) = at_shown start h None (Some own) files (λ s. IsTrue (admits s name token.0)) k is in
    let new : has_token token.0 files ≡ false = taken_at own files name token.0 a k.rising in
    turn_keeps start h e None None (Some own) (Some own) files _ k
    (rw (event, reply) (step_of_add _ name token file handle Ok ∙ only_true _ _ a ∙ ap Some (with_shown own files (token, file, handle) k.rising new)))
    (still_rising files (token, file, handle) k.rising new) (files_insert _ (token, file, handle) files less k.within) tt tt
