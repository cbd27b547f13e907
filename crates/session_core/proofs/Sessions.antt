-- How a session slot's parts follow its steps.
use Rattle.std.proofs.Common.{◌≡◌, ℕ, ◌<◌, ◌&&◌, Bool, true, false, List, [], ◌∷◌, ◌++◌, map, length, refl, ap, sym, ◌∙◌, arith, IsTrue, is_some, nat_lt, nat_le, subst, ◌↔◌, not, T}
use Rattle.std.specs.Prelude.{Option, None, Some}
use Rattle.std.specs.List.{list_any, list_all}
use Rattle.std.specs.Option.{MatchOption}
use Rattle.std.specs.Ordering.{nat_cmp, eq_by_cmp, is_lt}
use Rattle.std.specs.FinMap as finmap
use Rattle.std.specs.FinMap.Entries.{below_all}
use Rattle.std.proofs.lemmas.Grind.{common_steps}
use Rattle.std.proofs.lemmas.List.{length-map}
use Rattle.std.proofs.lemmas.List.Elements.{All-nil}
use Rattle.std.proofs.lemmas.Bool.Decides.{nat_tests}
use Rattle.ho_base.specs.declared.limits.TheConstants.{FILES, SESSION_FILES}
use Rattle.ho_base.specs.declared.numbers.Token.{Token}
use Rattle.ho_base.specs.declared.numbers.FileNo.{FileNo}
use Rattle.ho_events.specs.Lists.{only}
use Rattle.ho_events.specs.Session.{SessionState, Free, Out, In, Listed, is_out, files_of, admits, session_step}
use Rattle.ho_events.specs.Contents.{reference_of, session_content, OfFiles}
use Rattle.ho_events.specs.History.{run_from, then_entry, session_from}
use Rattle.ho_events.specs.declared.entry.Entry.{Entry}
use Rattle.ho_events.specs.declared.event.Event.TheVariants.{SessionBegin, SessionClose}
use Rattle.ho_events.specs.declared.reply.Reply.{Reply}
use Rattle.ho_events.specs.declared.reply.Reply.TheVariants.{Ok, NoSession}
use Rattle.session_core.proofs.Tokens.{token_among}
use Rattle.ho_events.proofs.Runs.{run_push}
use Rattle.session_core.specs.Sessions.{IsFree, name_of, refusal_by, refusal_of, close_answer}
use Rattle.session_core.specs.declared.opening.Incoming.{Incoming}
use Rattle.session_core.specs.SessionShown.{listed, listed_by, reference, AreFiles, TokensRise, has_token, is_named, has_none, shown, AreMarked, HasOneSide, KeepsSession}

-- a slot without entries that begins free is free
pub free_keeps : KeepsSession Free [] None None []
unfolding run_from shown
free_keeps = record { replayed = refl; rising = refl; within = All-nil (λ f. f.1.0 < FILES); side = refl; marked = tt }

pub keeps_run : (start : SessionState) → (h : List Entry) → (i : Option Incoming) → (n : Option (List ℕ)) → (files : List (Token × FileNo × ℕ)) → KeepsSession start h i n files → IsTrue (is_some (session_from start h))
keeps_run start h i n files k = rw k.replayed refl

-- what a shown state is
pub name_shown : (i : Option Incoming) → (n : Option (List ℕ)) → (files : List (Token × FileNo × ℕ)) → HasOneSide i n files → name_of (shown i n files) ≡ n
unfolding shown
name_shown (Some i) n files side = sym side
name_shown None None files side = refl
name_shown None (Some name) files side = refl

pub out_shown : (i : Option Incoming) → (n : Option (List ℕ)) → (files : List (Token × FileNo × ℕ)) → (name : List ℕ) → HasOneSide i n files → is_out (shown i n files) name ≡ is_named n name
unfolding shown
out_shown (Some i) n files name side = ap (λ m. is_named m name) (sym side)
out_shown None None files name side = refl
out_shown None (Some own) files name side = refl

-- a slot is free where it has no session
pub free_shown : (i : Option Incoming) → (n : Option (List ℕ)) → (files : List (Token × FileNo × ℕ)) → IsTrue (has_none i n) ↔ (shown i n files ≡ Free)
unfolding shown
free_shown (Some i) n files = (λ h. absurd cc, λ h. absurd cc)
free_shown None (Some name) files = (λ h. absurd cc, λ h. absurd cc)
free_shown None None files = (λ h. refl, λ h. refl)

some_is_none : {A : Type 0} → {x : A} → Some x ≡ None → ⊥
some_is_none h = cc

pub some_same : {A : Type 0} → {x y : A} → Some x ≡ Some y → x ≡ y
some_same h = cc

pub only_true : {A : Type 0} → (b : Bool) → (x : A) → IsTrue b → only b x ≡ Some x
only_true true x h = refl
only_true false x h = cc

no_entries : {A : Type 0} → (xs : List A) → length xs ≡ 0 → xs ≡ []
no_entries [] h = refl
no_entries (x ∷ xs) h = absurd (omega arith)

entries_none : finmap.entries (finmap.empty {X = Listed} {R = nat_cmp}) ≡ []
entries_none = no_entries _ (sym (finmap.len-entries _) ∙ finmap.len-empty nat_cmp Listed)

pub in_order : (files : List (Token × FileNo × ℕ)) → TokensRise files → T (finmap.is_sorted nat_cmp (map listed files))
in_order files rise = subst T (sym rise) tt

-- the files as a sequence reads them
references : (files : List (Token × FileNo × ℕ)) → map reference_of (map listed files) ≡ map reference files
references [] = refl
references (f ∷ files) = ap (λ rest. reference f ∷ rest) (references files)

-- what tells whether files were taken changes no token and no handle
keys_by : (files : List (Token × FileNo × ℕ)) → (taken : List Bool) → map (λ e. e.0) (listed_by files taken) ≡ map (λ e. e.0) (map listed files)
unfolding listed_by
keys_by [] taken = refl
keys_by (f ∷ files) [] = ap (λ ks. f.0.0 ∷ ks) (keys_by files [])
keys_by (f ∷ files) (b ∷ taken) = ap (λ ks. f.0.0 ∷ ks) (keys_by files taken)

references_by : (files : List (Token × FileNo × ℕ)) → (taken : List Bool) → map reference_of (listed_by files taken) ≡ map reference files
unfolding listed_by
references_by [] taken = refl
references_by (f ∷ files) [] = ap (λ rest. reference f ∷ rest) (references_by files [])
references_by (f ∷ files) (b ∷ taken) = ap (λ rest. reference f ∷ rest) (references_by files taken)

abbrev keys_rise : List ℕ → Bool
keys_rise [] = true
keys_rise (k ∷ ks) = list_all (λ q. is_lt (nat_cmp k q)) ks && keys_rise ks

below_keys : (k : ℕ) → (es : List (ℕ × Listed)) → below_all nat_cmp k es ≡ list_all (λ q. is_lt (nat_cmp k q)) (map (λ e. e.0) es)
below_keys k [] = refl
below_keys k (e ∷ es) = ap (λ b. is_lt (nat_cmp k e.0) && b) (below_keys k es)

sorted_keys : (es : List (ℕ × Listed)) → finmap.is_sorted nat_cmp es ≡ keys_rise (map (λ e. e.0) es)
sorted_keys [] = refl
sorted_keys (e ∷ es) =
    ap (λ b. b && finmap.is_sorted nat_cmp es) (below_keys e.0 es)
    ∙ ap (λ b. list_all (λ q. is_lt (nat_cmp e.0 q)) (map (λ x. x.0) es) && b) (sorted_keys es)

pub in_order_by : (files : List (Token × FileNo × ℕ)) → (taken : List Bool) → TokensRise files → T (finmap.is_sorted nat_cmp (listed_by files taken))
in_order_by files taken rise =
    subst T (sym (sorted_keys (listed_by files taken) ∙ ap keys_rise (keys_by files taken) ∙ sym (sorted_keys (map listed files)))) (in_order files rise)

-- the tokens of the files, and what a sequence reads of them
pub keys_shown : (i : Option Incoming) → (n : Option (List ℕ)) → (files : List (Token × FileNo × ℕ)) → TokensRise files → HasOneSide i n files → map (λ e. e.0) (finmap.entries (files_of (shown i n files))) ≡ map (λ e. e.0) (map listed files)
unfolding shown
keys_shown (Some i) n files rise side =
    ap (λ es. map (λ e. e.0) es) (finmap.entries-from_sorted nat_cmp (listed_by files i.taken.items) (in_order_by files i.taken.items rise)) ∙ keys_by files i.taken.items
keys_shown None None files rise free = rw (free, entries_none) refl
keys_shown None (Some name) files rise side = ap (λ es. map (λ e. e.0) es) (finmap.entries-from_sorted nat_cmp (map listed files) (in_order files rise))

pub references_shown : (i : Option Incoming) → (n : Option (List ℕ)) → (files : List (Token × FileNo × ℕ)) → TokensRise files → HasOneSide i n files → session_content (Some (shown i n files)) ≡ OfFiles (map reference files)
unfolding shown
references_shown (Some i) n files rise side =
    ap (λ es. OfFiles (map reference_of es)) (finmap.entries-from_sorted nat_cmp (listed_by files i.taken.items) (in_order_by files i.taken.items rise)) ∙ ap OfFiles (references_by files i.taken.items)
references_shown None None files rise free = rw (free, entries_none) refl
references_shown None (Some name) files rise side =
    ap (λ es. OfFiles (map reference_of es)) (finmap.entries-from_sorted nat_cmp (map listed files) (in_order files rise)) ∙ ap OfFiles (references files)

len_shown : (i : Option Incoming) → (n : Option (List ℕ)) → (files : List (Token × FileNo × ℕ)) → TokensRise files → HasOneSide i n files → finmap.len (files_of (shown i n files)) ≡ length files
len_shown i n files rise side =
    finmap.len-entries _ ∙ sym (length-map (finmap.entries (files_of (shown i n files))) (λ e. e.0)) ∙ ap length (keys_shown i n files rise side) ∙ grind (arith, common_steps)

pub taken_shown : (i : Option Incoming) → (n : Option (List ℕ)) → (files : List (Token × FileNo × ℕ)) → (token : ℕ) → TokensRise files → HasOneSide i n files → finmap.contains_key (files_of (shown i n files)) token ≡ has_token token files
taken_shown i n files token rise side =
    finmap.contains_key-keys (files_of (shown i n files)) token
    ∙ ap (λ ks. list_any (eq_by_cmp nat_cmp token) ks) (keys_shown i n files rise side)
    ∙ token_among token files

-- what stands against adding, by the slot's parts
pub refusal_kept : (i : Option Incoming) → (n : Option (List ℕ)) → (files : List (Token × FileNo × ℕ)) → (name : List ℕ) → (token : ℕ) → TokensRise files → HasOneSide i n files → refusal_of (shown i n files) name token ≡ refusal_by (is_named n name) (nat_le SESSION_FILES (length files)) (has_token token files)
refusal_kept i n files name token rise side = cc (out_shown i n files name side, len_shown i n files rise side, taken_shown i n files token rise side)

not_full : (n : ℕ) → nat_lt n SESSION_FILES ≡ not (nat_le SESSION_FILES n)
not_full n = grind (arith, nat_tests)

admits_parts : (a full taken : Bool) → (refusal_by a full taken ≡ None) ↔ IsTrue (a && not full && not taken)
admits_parts false full taken = (λ h. cc, λ h. cc)
admits_parts true true taken = (λ h. cc, λ h. cc)
admits_parts true false true = (λ h. cc, λ h. cc)
admits_parts true false false = (λ h. refl, λ h. refl)

admits_by : (a : Bool) → (n : ℕ) → (taken : Bool) → (refusal_by a (nat_le SESSION_FILES n) taken ≡ None) ↔ IsTrue (a && nat_lt n SESSION_FILES && not taken)
admits_by a n taken = subst (λ b. (refusal_by a (nat_le SESSION_FILES n) taken ≡ None) ↔ IsTrue (a && b && not taken)) (sym (not_full n)) (admits_parts a (nat_le SESSION_FILES n) taken)

admits_iff : (s : SessionState) → (name : List ℕ) → (token : ℕ) → (refusal_of s name token ≡ None) ↔ IsTrue (admits s name token)
admits_iff s name token = admits_by (is_out s name) (finmap.len (files_of s)) (finmap.contains_key (files_of s) token)

pub admits_told : (start : SessionState) → (h : List Entry) → (i : Option Incoming) → (n : Option (List ℕ)) → (files : List (Token × FileNo × ℕ)) → (name : List ℕ) → (token : ℕ) → (told : Option Reply) → KeepsSession start h i n files → told ≡ refusal_by (is_named n name) (nat_le SESSION_FILES (length files)) (has_token token files) → MatchOption (session_from start h) ⊥ (λ s. (told ≡ None) ↔ IsTrue (admits s name token))
admits_told start h i n files name token told k is =
    subst (λ o. MatchOption o ⊥ (λ s. (told ≡ None) ↔ IsTrue (admits s name token))) (sym k.replayed)
    (subst (λ r. (r ≡ None) ↔ IsTrue (admits (shown i n files) name token)) (refusal_kept i n files name token k.rising k.side ∙ sym is)
    (admits_iff (shown i n files) name token))

pub content_kept : (start : SessionState) → (h : List Entry) → (i : Option Incoming) → (n : Option (List ℕ)) → (files : List (Token × FileNo × ℕ)) → KeepsSession start h i n files → session_content (session_from start h) ≡ OfFiles (map reference files)
content_kept start h i n files k = ap session_content k.replayed ∙ references_shown i n files k.rising k.side

-- a turn, by the step that it takes
pub turn_keeps : (start : SessionState) → (h : List Entry) → (e : Entry) → (i i2 : Option Incoming) → (n n2 : Option (List ℕ)) → (files files2 : List (Token × FileNo × ℕ)) → KeepsSession start h i n files → session_step (shown i n files) e.event e.reply ≡ Some (shown i2 n2 files2) → TokensRise files2 → AreFiles files2 → HasOneSide i2 n2 files2 → AreMarked i2 files2 → KeepsSession start (h ++ e ∷ []) i2 n2 files2
turn_keeps start h e i i2 n n2 files files2 k step rise within side marked = record {
  replayed = run_push session_step (Some start) h e ∙ ap (λ s. then_entry session_step s e) k.replayed ∙ step;
  rising = rise;
  within = within;
  side = side;
  marked = marked;
}

-- a fact of the state that the history leads to, at the parts
pub at_shown : (start : SessionState) → (h : List Entry) → (i : Option Incoming) → (n : Option (List ℕ)) → (files : List (Token × FileNo × ℕ)) → (P : SessionState → Type 0) → KeepsSession start h i n files → MatchOption (session_from start h) ⊥ P → P (shown i n files)
at_shown start h i n files P k is = subst (λ s. MatchOption s ⊥ P) k.replayed is

pub stay_keeps : (start : SessionState) → (h : List Entry) → (e : Entry) → (i : Option Incoming) → (n : Option (List ℕ)) → (files : List (Token × FileNo × ℕ)) → KeepsSession start h i n files → MatchOption (session_from start h) ⊥ (λ s. session_step s e.event e.reply ≡ Some s) → KeepsSession start (h ++ e ∷ []) i n files
stay_keeps start h e i n files k stays = turn_keeps start h e i i n n files files k (at_shown start h i n files (λ s. session_step s e.event e.reply ≡ Some s) k stays) k.rising k.within k.side k.marked

nothing_listed : finmap.from_sorted {R = nat_cmp} (map listed []) ≡ finmap.empty
nothing_listed = finmap.same_entries_map _ _ (finmap.entries-from_sorted nat_cmp [] tt ∙ sym entries_none)

begin_step : (i : Option Incoming) → (n : Option (List ℕ)) → (files : List (Token × FileNo × ℕ)) → (name : List ℕ) → shown i n files ≡ Free → HasOneSide i n files → session_step (shown i n files) (SessionBegin name) Ok ≡ Some (shown None (Some name) files)
unfolding shown
begin_step (Some i) n files name h side = absurd cc
begin_step None None files name h free = rw (free, nothing_listed)
begin_step None (Some own) files name h side = absurd cc

none_incoming : (i : Option Incoming) → (n : Option (List ℕ)) → (files : List (Token × FileNo × ℕ)) → shown i n files ≡ Free → i ≡ None
unfolding shown
none_incoming None n files h = refl
none_incoming (Some i) n files h = absurd cc

-- an outgoing session's slot has no incoming one
pub out_incoming : (i : Option Incoming) → (n : Option (List ℕ)) → (files : List (Token × FileNo × ℕ)) → (name : List ℕ) → IsTrue (is_out (shown i n files) name) → i ≡ None
unfolding shown
out_incoming None n files name h = refl
out_incoming (Some i) n files name h = absurd cc

pub begin_keeps : (start : SessionState) → (h : List Entry) → (e : Entry) → (i : Option Incoming) → (n : Option (List ℕ)) → (files : List (Token × FileNo × ℕ)) → (name : List ℕ) → KeepsSession start h i n files → MatchOption (session_from start h) ⊥ IsFree → e.event ≡ SessionBegin name → e.reply ≡ Ok → KeepsSession start (h ++ e ∷ []) i (Some name) files
begin_keeps start h e i n files name k is event reply =
    let free : shown i n files ≡ Free = at_shown start h i n files IsFree k is in
    subst (λ j. KeepsSession start (h ++ e ∷ []) j (Some name) files) (sym (none_incoming i n files free))
    (turn_keeps start h e i None n (Some name) files files k (rw (event, reply) (begin_step i n files name free k.side)) k.rising k.within tt tt)

pub begin_run : (start : SessionState) → (h : List Entry) → (e : Entry) → (i : Option Incoming) → (n : Option (List ℕ)) → (files : List (Token × FileNo × ℕ)) → (name : List ℕ) → KeepsSession start h i n files → MatchOption (session_from start h) ⊥ IsFree → e.event ≡ SessionBegin name → e.reply ≡ Ok → IsTrue (is_some (session_from start (h ++ e ∷ [])))
begin_run start h e i n files name k is event reply = keeps_run _ _ _ _ _ (begin_keeps start h e i n files name k is event reply)

close_ok : (s : SessionState) → (name : List ℕ) → IsTrue (is_out s name) → session_step s (SessionClose name) Ok ≡ Some Free
close_ok Free name h = cc
close_ok (Out own files) name h = only_true _ _ h
close_ok (In own opened files) name h = cc

pub close_refused : (s : SessionState) → (name : List ℕ) → is_out s name ≡ false → session_step s (SessionClose name) NoSession ≡ Some s
close_refused Free name h = refl
close_refused (Out own files) name h = rw h refl
close_refused (In own opened files) name h = refl

pub free_none : (files : List (Token × FileNo × ℕ)) → shown None None files ≡ Free
unfolding shown
free_none files = refl

pub end_keeps : (start : SessionState) → (h : List Entry) → (e : Entry) → (i : Option Incoming) → (n : Option (List ℕ)) → (files : List (Token × FileNo × ℕ)) → (name : List ℕ) → KeepsSession start h i n files → MatchOption (session_from start h) ⊥ (λ s. IsTrue (is_out s name)) → e.event ≡ SessionClose name → e.reply ≡ Ok → KeepsSession start (h ++ e ∷ []) i None []
end_keeps start h e i n files name k is event reply =
    let out : IsTrue (is_out (shown i n files) name) = at_shown start h i n files (λ s. IsTrue (is_out s name)) k is in
    subst (λ j. KeepsSession start (h ++ e ∷ []) j None []) (sym (out_incoming i n files name out))
    (turn_keeps start h e i None n None files [] k (rw (event, reply) (close_ok (shown i n files) name out ∙ ap Some (sym (free_none [])))) refl (All-nil (λ f. f.1.0 < FILES)) refl tt)

pub end_run : (start : SessionState) → (h : List Entry) → (e : Entry) → (i : Option Incoming) → (n : Option (List ℕ)) → (files : List (Token × FileNo × ℕ)) → (name : List ℕ) → KeepsSession start h i n files → MatchOption (session_from start h) ⊥ (λ s. IsTrue (is_out s name)) → e.event ≡ SessionClose name → e.reply ≡ Ok → IsTrue (is_some (session_from start (h ++ e ∷ [])))
end_run start h e i n files name k is event reply = keeps_run _ _ _ _ _ (end_keeps start h e i n files name k is event reply)

-- ending where it isn't the session of the name;  what is answered
pub close_stays : (o : Option SessionState) → (name : List ℕ) → (out : Bool) → MatchOption o ⊥ (λ s. out ≡ is_out s name) → out ≡ false → MatchOption o ⊥ (λ s. session_step s (SessionClose name) NoSession ≡ Some s)
close_stays None name out is h = is
close_stays (Some s) name out is h = close_refused s name (sym is ∙ h)

pub close_told : (o : Option SessionState) → (name : List ℕ) → (out : Bool) → MatchOption o ⊥ (λ s. out ≡ is_out s name) → MatchOption o ⊥ (λ s. close_answer out ≡ close_answer (is_out s name))
close_told None name out is = is
close_told (Some s) name out is = ap close_answer is
