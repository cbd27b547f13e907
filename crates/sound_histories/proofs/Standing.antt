-- Through all blocks of a script that binds each label of an agent once, the running kernel's world is sound.
use Rattle.std.proofs.Common.{◌≡◌, ◌⊎◌, inl, inr, ℕ, ◌+◌, Bool, true, false, ◌&&◌, ◌||◌, List, [], ◌∷◌, ◌++◌, length, take, drop, zero, suc, refl, sym, ap, subst, ◌∙◌, arith, append-nil, IsTrue}
use Rattle.std.specs.Prelude.{Option, None, Some, slice_get}
use Rattle.std.specs.List.{list_all}
use Rattle.std.specs.Ordering.{nat_cmp}
use Rattle.std.specs.Cmp.Lexicographic.{slice_cmp}
use Rattle.std.specs.FinMap as finmap
use Rattle.std.proofs.lemmas.Bool.{cases_eq}
use Rattle.ho_base.specs.declared.numbers.Blob.{Blob}
use Rattle.ho_events.specs.History.{on, run_from}
use Rattle.ho_events.specs.Script.Rules.{sections_of, is_said, is_built, is_built_block, word_of}
use Rattle.ho_events.specs.Script.SoFar.{label_of, same_label, with_label}
use Rattle.ho_events.specs.declared.command.Command.{Command}
use Rattle.ho_events.specs.declared.command.Command.TheVariants as command
use Rattle.ho_events.specs.declared.entry.Entry.{Entry}
use Rattle.ho_events.specs.declared.line.Line.TheVariants as line
use Rattle.ho_events.specs.declared.script.AgentWork.{AgentWork}
use Rattle.ho_events.specs.declared.script.Block.{Block}
use Rattle.ho_events.specs.declared.script.Block.TheVariants as block
use Rattle.ho_events.specs.declared.slip.At.{At}
use Rattle.ho_world.specs.Alone.{GivesRound, first_at}
use Rattle.ho_world.specs.Entries.{in_kernel, beginning, world_of}
use Rattle.ho_world.specs.Legal.{labels_now, labeling_from}
use Rattle.ho_world.specs.Logs.{labels_after}
use Rattle.ho_world.specs.Sequences.{Labels}
use Rattle.ho_world.specs.World.{State, World, cold}
use Rattle.ho_world.proofs.AloneNext.{alone_is_next}
use Rattle.ho_world.proofs.Fronts.{and_left, and_right}
use Rattle.ho_world.proofs.Went.{Went, went}
use Rattle.kexec_laws.specs.Kexecs.{GivesKexec, BeginsNext}
use Rattle.kexec_laws.proofs.KexecAfter.{kexec_begins_next}
use Rattle.kexec_laws.proofs.KexecNext.{gives_kexec}
use Rattle.script_text.proofs.Kept.{built_script}
use Rattle.script_text.proofs.Numbered.{sections-append}
use Rattle.balance_laws.specs.Keeps.{no_labels}
use Rattle.balance_laws.specs.Sound.{Sound}
use Rattle.balance_laws.proofs.Base.{clash}
use Rattle.balance_laws.proofs.Cold.{cold_is_sound}
use Rattle.sound_histories.specs.Binding.{makes_memfds, bound_with, bind_once, bound_in, sections_bind_once, HasOnly}
use Rattle.sound_histories.specs.Kept.{AllMayCome}
use Rattle.sound_histories.specs.Scripts.{memfds_in, AreSoundBlocks, ReadIsSound, BegunStands, ColdStands, RoundStands, RefusedStands, EndedStands}
use Rattle.sound_histories.proofs.Bindings.{any_parts, after_only, once_may_come}
use Rattle.sound_histories.proofs.BlocksKept.{round_keeps, refused_block_keeps, ended_block_keeps}
use Rattle.sound_histories.proofs.ReadOnce.{each_one, bound_parts, section_parts, with_parts, read_binds_once}

abbrev Bound : Type 0
Bound = List (ℕ × List ℕ)

-- a list up to one of its items, and that item with the others
front_one : {T : Type 0} (xs : List T) (m : ℕ) (x : T) → slice_get xs m ≡ Some x → take (suc m) xs ≡ take m xs ++ x ∷ []
front_one [] m x is = absurd cc
front_one (y ∷ ys) zero x is = let same : y ≡ x = cc in ap (λ z. z ∷ []) same
front_one (y ∷ ys) (suc m) x is = ap (λ zs. y ∷ zs) (front_one ys m x is)

in_parts : {T : Type 0} (xs : List T) (m : ℕ) (x : T) → slice_get xs m ≡ Some x → xs ≡ take m xs ++ (x ∷ drop (suc m) xs)
in_parts [] m x is = absurd cc
in_parts (y ∷ ys) zero x is = let same : y ≡ x = cc in ap (λ z. z ∷ ys) same
in_parts (y ∷ ys) (suc m) x is = ap (λ zs. y ∷ zs) (in_parts ys m x is)

take_whole : {T : Type 0} (xs : List T) → take (length xs) xs ≡ xs
take_whole [] = refl
take_whole (x ∷ xs) = ap (λ ys. x ∷ ys) (take_whole xs)

all_two : {T : Type 0} (p : T → Bool) (xs ys : List T) → IsTrue (list_all p (xs ++ ys)) → IsTrue (list_all p ys)
all_two p [] ys h = h
all_two p (x ∷ xs) ys h = all_two p xs ys (and_right (p x) _ h)

-- the sections of the blocks before one, and of that one
module _ (blocks : List Block) (b : ℕ) (here : Block) (is : slice_get blocks b ≡ Some here) where
  sections_next : sections_of (take (b + 1) blocks) ≡ sections_of (take b blocks) ++ sections_of (here ∷ [])
  sections_next =
      let same : b + 1 ≡ suc b = omega arith in
      ap (λ n. sections_of (take n blocks)) same ∙ ap sections_of (front_one blocks b here is) ∙ sections-append (take b blocks) (here ∷ [])

  sections_split : sections_of blocks ≡ sections_of (take b blocks) ++ sections_of (here ∷ drop (suc b) blocks)
  sections_split = ap sections_of (in_parts blocks b here is) ∙ sections-append (take b blocks) (here ∷ drop (suc b) blocks)

module _ (blocks : List Block) (b : ℕ) (work : AgentWork) (is : slice_get blocks b ≡ Some (block.Round (work ∷ []))) (script : AreSoundBlocks blocks) where
  pub work_once : IsTrue (bind_once (bound_in [] (sections_of (take b blocks))) work.agent.0 work.commands)
  work_once =
      let parts = each_one (sections_bind_once [] (sections_of (take b blocks))) _
      (sym (section_parts [] (sections_of (take b blocks)) (sections_of (block.Round (work ∷ []) ∷ drop (suc b) blocks))) ∙ ap (sections_bind_once []) (sym (sections_split blocks b (block.Round (work ∷ [])) is)) ∙ script.once) in
      (each_one (bind_once (bound_in [] (sections_of (take b blocks))) work.agent.0 work.commands) _ parts.1).0

  pub work_memfds : IsTrue (list_all makes_memfds work.commands)
  work_memfds =
      and_left (memfds_in work) _
      (all_two memfds_in (sections_of (take b blocks)) (sections_of (block.Round (work ∷ []) ∷ drop (suc b) blocks)) (ap (list_all memfds_in) (sym (sections_split blocks b (block.Round (work ∷ [])) is)) ∙ script.memfds))

-- labels stay those that commands bind, where more of them are bound
more_only : (labels : Labels) (bound : Bound) (a agent : ℕ) (cs : List Command) → HasOnly labels bound a → HasOnly labels (bound_with bound agent cs) a
more_only labels bound a agent [] only = only
more_only labels bound a agent (c ∷ cs) only = more_only labels (with_label bound agent (label_of c)) a agent cs (one (label_of c))
  where
    unused : (p q : Bool) → (p || q) ≡ false → p ≡ false
    unused true q h = absurd (clash h)
    unused false q h = refl

    one : (label : Option (List ℕ)) → HasOnly labels (with_label bound agent label) a
    one None = only
    one (Some label) = λ q free. only q (unused _ _ (sym (any_parts (same_label (a, q)) bound ((agent, label) ∷ [])) ∙ free))

-- the labels after some commands
module _ (begun : ℕ → Option State) (f : ℕ → List Entry) (commands : List Command) (labels : Labels) (first : At) (bound : Bound) (a : ℕ) (only : HasOnly labels bound a) where
  pub went_only : (m : ℕ) (later : Labels) (es : List Entry) (at : At) → Went begun f commands labels first m later es at → HasOnly later (bound_with bound a (take m commands)) a
  unfolding Went
  went_only zero later es at h = subst (λ l. HasOnly l bound a) (sym h.0) only
  went_only (suc m) later es at h =
      let old : HasOnly h.labels_before (bound_with bound a (take m commands)) a = went_only m h.labels_before h.front h.at_before h.before in
      let new : HasOnly (labels_after h.labels_before h.command h.acts) (with_label (bound_with bound a (take m commands)) a (label_of h.command)) a = after_only h.labels_before (bound_with bound a (take m commands)) a h.command h.acts old in
      let more : with_label (bound_with bound a (take m commands)) a (label_of h.command) ≡ bound_with bound a (take (suc m) commands) =
      sym (with_parts bound a (take m commands) (h.command ∷ [])) ∙ ap (bound_with bound a) (sym (front_one commands m h.command h.command_is)) in
      subst (λ l. HasOnly l (bound_with bound a (take (suc m) commands)) a) (sym h.labels_are) (subst (λ x. HasOnly (labels_after h.labels_before h.command h.acts) x a) more new)

pub round_stands : RoundStands
round_stands start blocks es new b k work begun labels later script numbers r t alone stands = record {
  sound = round_keeps start blocks es new b k work begun labels later numbers r t alone may stands.sound;
  bound = λ a. subst (λ x. HasOnly (labels_now blocks k a (es ++ new)) x a) (sym bound_next) (of_agent a (cases_eq a work.agent.0));
}
  where
    before : Bound
    before = bound_in [] (sections_of (take b blocks))

    own : HasOnly labels before work.agent.0
    own = subst (λ l. HasOnly l before work.agent.0) (sym alone.labels_are) (stands.bound work.agent.0)

    may : AllMayCome labels work.commands
    may = once_may_come labels before work.agent.0 work.commands own (work_memfds blocks b work r.is_there script) (work_once blocks b work r.is_there script)

    gives : GivesRound start blocks es new b k work later alone.last.last
    gives = alone_is_next start blocks es new b k work begun labels later numbers r t alone

    bound_next : bound_in [] (sections_of (take (b + 1) blocks)) ≡ bound_with before work.agent.0 work.commands
    bound_next = ap (bound_in []) (sections_next blocks b (block.Round (work ∷ [])) r.is_there) ∙ bound_parts [] (sections_of (take b blocks)) (work ∷ [])

    worked : HasOnly later (bound_with before work.agent.0 work.commands) work.agent.0
    worked =
        subst (λ cs. HasOnly later (bound_with before work.agent.0 cs) work.agent.0) (take_whole work.commands)
        (went_only begun (λ o. on o (in_kernel k es)) work.commands labels (first_at k work es) before work.agent.0 own (length work.commands) later new alone.last
        (went begun (λ o. on o (in_kernel k es)) work.commands labels (first_at k work es) (length work.commands) later new alone.last alone.done))

    of_agent : (a : ℕ) → (a ≡ work.agent.0) ⊎ (a ≡ work.agent.0 → ⊥) → HasOnly (labels_now blocks k a (es ++ new)) (bound_with before work.agent.0 work.commands) a
    of_agent a (inl e) =
        subst (λ x. HasOnly (labels_now blocks k x (es ++ new)) (bound_with before work.agent.0 work.commands) x) (sym e)
        (subst (λ l. HasOnly l (bound_with before work.agent.0 work.commands) work.agent.0) gives.labels worked)
    of_agent a (inr e) =
        subst (λ l. HasOnly l (bound_with before work.agent.0 work.commands) a) (sym (gives.others a e)) (more_only (labels_now blocks k a es) before a work.agent.0 work.commands (stands.bound a))

-- a kexec binds no label
kexec_bound : (blocks : List Block) (b : ℕ) (blob : Blob) → slice_get blocks b ≡ Some (block.Kexec blob) → bound_in [] (sections_of (take (b + 1) blocks)) ≡ bound_in [] (sections_of (take b blocks))
kexec_bound blocks b blob is = ap (bound_in []) (sections_next blocks b (block.Kexec blob) is ∙ append-nil (sections_of (take b blocks)))

pub refused_stands : RefusedStands
refused_stands start blocks es new b k blob at begun numbers r t did refused stands = record {
  sound = refused_block_keeps start blocks es new b k blob at begun numbers r t did refused stands.sound;
  bound = λ a. subst (λ x. HasOnly (labels_now blocks k a (es ++ new)) x a) (sym (kexec_bound blocks b blob r.is_there))
      (subst (λ l. HasOnly l (bound_in [] (sections_of (take b blocks))) a) (sym (gives.labels a)) (stands.bound a));
}
  where
    gives : GivesKexec start blocks es new b k did.last
    gives = gives_kexec start blocks es new b k blob at begun numbers r t did

none_only : (bound : Bound) (a : ℕ) → HasOnly finmap.empty bound a
none_only bound a q free = finmap.get-empty (slice_cmp nat_cmp) q

pub ended_stands : EndedStands
ended_stands start blocks es new b k blob at begun numbers r t did ok stands = record {
  sound = ended_block_keeps start blocks es new b k blob at begun numbers r t did ok stands.sound;
  bound = λ a. subst (λ l. HasOnly l (bound_in [] (sections_of (take (b + 1) blocks))) a) (sym (gives.labels a)) (none_only (bound_in [] (sections_of (take (b + 1) blocks))) a);
}
  where
    gives : BeginsNext start blocks es new b k
    gives = kexec_begins_next start blocks es new b k blob at begun numbers r t did ok

-- before the first block
first_world : (start : World) → world_of start [] 0 ≡ start
unfolding on run_from in_kernel beginning
first_world start = refl

first_labels : (blocks : List Block) (a : ℕ) → labels_now blocks 0 a [] ≡ finmap.empty
unfolding labels_now labeling_from
first_labels blocks a = refl

pub begun_stands : BegunStands
begun_stands start blocks sound = record {
  sound =
      let none : no_labels ≡ (λ a. labels_now blocks 0 a []) = λ i a. sym (first_labels blocks a) i in
      subst (λ (w : World). Sound w (λ a. labels_now blocks 0 a [])) (sym (first_world start)) (subst (λ l. Sound start l) none sound);
  bound = λ a. subst (λ l. HasOnly l [] a) (sym (first_labels blocks a)) (none_only [] a);
}

pub cold_stands : ColdStands
cold_stands shape blocks = begun_stands (cold shape) blocks (cold_is_sound shape)

-- the commands that are built make memfds alone
built_memfds : (c : Command) → IsTrue (is_built c) → IsTrue (makes_memfds c)
built_memfds (command.Memfd label o) h = and_left _ _ h
built_memfds (command.Device label kind size) h = and_right (is_said (word_of (command.Device label kind size)) (line.Command (command.Device label kind size))) false h
built_memfds (command.Write label off bytes) h = refl
built_memfds (command.Fill label off len byte) h = refl
built_memfds (command.Read label off len) h = refl
built_memfds (command.Truncate label size) h = refl
built_memfds (command.Seek label to) h = refl
built_memfds (command.Tell label) h = refl
built_memfds (command.CloseFd label) h = refl
built_memfds (command.Create name) h = refl
built_memfds (command.Preserve name t label) h = refl
built_memfds (command.Close name) h = refl
built_memfds (command.Open name) h = refl
built_memfds (command.Retrieve name t label) h = refl
built_memfds (command.Finish name) h = refl

and_two : (a b : Bool) → IsTrue a → IsTrue b → IsTrue (a && b)
and_two true b h g = g
and_two false b h g = absurd (clash (sym h))

all_two_parts : {T : Type 0} (p : T → Bool) (xs ys : List T) → IsTrue (list_all p xs) → IsTrue (list_all p ys) → IsTrue (list_all p (xs ++ ys))
all_two_parts p [] ys h g = g
all_two_parts p (x ∷ xs) ys h g = and_two (p x) _ (and_left (p x) _ h) (all_two_parts p xs ys (and_right (p x) _ h) g)

work_built : (cs : List Command) → IsTrue (list_all is_built cs) → IsTrue (list_all makes_memfds cs)
work_built [] h = refl
work_built (c ∷ cs) h = and_two (makes_memfds c) _ (built_memfds c (and_left (is_built c) _ h)) (work_built cs (and_right (is_built c) _ h))

works_built : (works : List AgentWork) → IsTrue (is_built_block (block.Round works)) → IsTrue (list_all memfds_in works)
works_built [] h = refl
works_built (w ∷ works) h = and_two (memfds_in w) _ (work_built w.commands (and_left (list_all is_built w.commands) _ h)) (works_built works (and_right (list_all is_built w.commands) _ h))

blocks_built : (blocks : List Block) → IsTrue (list_all is_built_block blocks) → IsTrue (list_all memfds_in (sections_of blocks))
blocks_built [] h = refl
blocks_built (block.Round works ∷ blocks) h =
    all_two_parts memfds_in works (sections_of blocks) (works_built works (and_left (is_built_block (block.Round works)) _ h)) (blocks_built blocks (and_right (is_built_block (block.Round works)) _ h))
blocks_built (block.Kexec blob ∷ blocks) h = blocks_built blocks (and_right (is_built_block (block.Kexec blob)) _ h)

pub read_is_sound : ReadIsSound
read_is_sound fresh bytes script read = record {
  once = read_binds_once fresh bytes script read;
  memfds = blocks_built script.blocks (built_script fresh bytes script read);
}
