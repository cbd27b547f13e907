-- What was written of the blocks of a script: all of it, whole blocks, or whole lines and a front part of one.
use Rattle.std.proofs.Common.{◌≡◌, ◌⊎◌, inl, inr, ℕ, ◌+◌, ◌-◌, ◌<◌, ◌≤◌, Bool, true, false, List, [], ◌∷◌, ◌++◌, ◌==◌, length, length-append, take, refl, sym, ap, subst, ◌∙◌, arith, append_assoc, IsTrue}
use Rattle.std.specs.List.{list_all}
use Rattle.std.specs.Prelude.{Option, None, Some, slice_get}
use Rattle.std.proofs.lemmas.List.{append-nil}
use Rattle.ho_events.specs.Text.{line_of, text_of}
use Rattle.ho_events.specs.declared.entry.Entry.{Entry}
use Rattle.ho_base.specs.declared.numbers.Blob.{Blob}
use Rattle.ho_events.specs.declared.script.Block.{Block}
use Rattle.ho_events.specs.declared.script.Block.TheVariants.{Round, Kexec}
use Rattle.ho_world.specs.Entries.{world_of}
use Rattle.ho_world.specs.Frozen.{frozen}
use Rattle.ho_io.specs.Told.{behind}
use Rattle.ho_world.specs.World.{World}
use Rattle.ho_world.specs.Legal.{IsLegalSoFar, MayCome, AllMayCome}
use Rattle.ho_world.specs.Through.{IsThrough}
use Rattle.ho_world.proofs.Law.{readings_are_legal}
use Rattle.ho_world.proofs.SoFar.{through_is_legal}
use Rattle.ho_world.proofs.Step.{through_none, through_all}
use Rattle.machine_core.specs.Kernels.{KernelValue}
use Rattle.handover_cli.specs.Due.{WroteFront}
use Rattle.handover_cli.specs.Rounds.{IsAfter}
use Rattle.handover_cli.specs.Run.{WroteAll, WroteBlocks, WroteSoFar}
use Rattle.handover_cli.specs.Works.{CanDo, CanRun, DidBlock, due_after}
use Rattle.handover_cli.specs.Ends.{EndedAs, LeftAs, DidAndLeft, CanGoOn, RunsAs, has_ended}
use Rattle.handover_cli.specs.Images.{Seen, IsUnasked, IsImageOf, AreImages, Made, MadeLess, image_name, with_file, with_images}
use Rattle.handover_cli.specs.Kept.{FileSome, KeptAll, KeptSome, WroteBlock, WroteShort, WroteLess, image_left}
use Rattle.handover_cli.specs.declared.rebooting.BlockDone.{BlockDone}
use Rattle.handover_cli.specs.declared.rebooting.Ended.{Ended}
use Rattle.handover_cli.specs.declared.rebooting.Next.{Next}
use Rattle.handover_cli.specs.declared.rebooting.Next.TheVariants as next
use Rattle.machine_core.specs.Worlds.{IsWorldOf}
use Rattle.freeze_path.specs.Ready.{IsSoundKernel}
use Rattle.ho_world.specs.Legal.{labels_now}
use Rattle.handover_cli.proofs.Blocks.{block_through, block_done, block_sound, block_world, block_here, block_number, ended_some, ended_world}
use Rattle.sound_histories.specs.Scripts.{StandsSound}
use Rattle.handover_cli.proofs.Ends.{follows, can_go_on}
use Rattle.handover_cli.proofs.ImageWorlds.{images_stay}
use Rattle.handover_cli.proofs.ImagesMade.{unasked, unasked_twice, made_none, made_still, made_more, made_less}
use Rattle.handover_cli.proofs.KexecBlocks.{GoesOn, world_before}
use Rattle.kexec_laws.specs.Kexecs.{kexec_number}
use Rattle.kexec_laws.proofs.KexecNumbers.{kexecs_counted}
use Rattle.ho_base.specs.declared.limits.TheConstants.{KEXECS}
use Rattle.ho_events.specs.Script.Rules.{kexecs_in}
use Rattle.handover_cli.proofs.TextParts.{Cut, behind_nothing, behind_twice, cut, line_is_long, text_parts}

-- the first b blocks are done and written, and the kernel is as their entries say; there are no more kernels before it
-- than kexecs, and the images of these were made
pub record Stands (start : World) (blocks : List Block) (b : ℕ) (kernel : KernelValue) (images : Option (List ℕ)) (before now : Seen) : Type 0 where
  pub entries : List Entry
  pub through : IsThrough start blocks entries b kernel.number
  pub after : IsAfter start blocks entries kernel.number kernel
  pub few : kernel.number ≤ kexecs_in (take b blocks)
  pub sound : StandsSound start blocks entries b kernel.number
  pub written : now.out ≡ behind before.out (text_of entries)
  pub made : Made start entries kernel.number images before now

-- nothing is done at first
pub stands_first : (start : World) (blocks : List Block) (kernel : KernelValue) (images : Option (List ℕ)) (s : Seen) → IsAfter start blocks [] 0 kernel → StandsSound start blocks [] 0 0 → Stands start blocks 0 kernel images s s
stands_first start blocks kernel images s after sound =
    let first : kernel.number ≡ 0 = after.number in
    record {
      entries = [];
      through = subst (λ k. IsThrough start blocks [] 0 k) (sym first) (through_none start blocks);
      after = subst (λ k. IsAfter start blocks [] k kernel) (sym first) after;
      few = omega (arith, first);
      sound = subst (λ k. StandsSound start blocks [] 0 k) (sym first) sound;
      written = behind_nothing s.out;
      made = subst (λ k. Made start [] k images s s) (sym first) (made_none start images s);
    }

more_written : (out mid now : Option (List ℕ)) (es new : List Entry) → mid ≡ behind out (text_of es) → now ≡ behind mid (text_of new) → now ≡ behind out (text_of (es ++ new))
more_written out mid now es new before wrote =
    wrote ∙ ap (λ o. behind o (text_of new)) before ∙ behind_twice out (text_of es) (text_of new) ∙ ap (behind out) (sym (text_parts es new))

-- a kexec that comes next is one of those that a script may have, and so is the number of the kernel after it
kexec_is_few : (start : World) (blocks : List Block) (b : ℕ) (blob : Blob) (kernel : KernelValue) (images : Option (List ℕ)) (before now : Seen) → CanRun blocks → slice_get blocks b ≡ Some (Kexec blob) → Stands start blocks b kernel images before now
    → (kexec_number blocks b ≤ KEXECS) × (kernel.number < KEXECS)
kexec_is_few start blocks b blob kernel images before now runs is s =
    let counted = kexecs_counted blocks b (Kexec blob) is in
    let next : kexecs_in (take (b + 1) blocks) ≡ kexecs_in (take b blocks) + 1 = counted.0 in
    let most : kexecs_in (take (b + 1) blocks) ≤ kexecs_in blocks = counted.1 in
    (omega (arith, next, most, runs.few), omega (arith, next, most, runs.few, s.few))

-- a kernel that ended in a block has a number below the greatest one
ended_is_few : (ended : Bool) (start : World) (blocks : List Block) (b : ℕ) (block : Block) (kernel old : KernelValue) (images : Option (List ℕ)) (before mid : Seen) (new : List Entry)
    → CanRun blocks → slice_get blocks b ≡ Some block → DidBlock (kexec_number blocks b) block kernel old new ended → Stands start blocks b kernel images before mid
    → ended ≡ true → old.number < KEXECS
ended_is_few ended start blocks b (Round works) kernel old images before mid new runs is did s ending = absurd (not_both ended did.1 ending)
  where
    not_both : (c : Bool) → c ≡ false → c ≡ true → ⊥
    not_both c e f = cc
ended_is_few ended start blocks b (Kexec blob) kernel old images before mid new runs is did s ending =
    let few = kexec_is_few start blocks b blob kernel images before mid runs is s in
    let same : old.number ≡ kernel.number = did.still.number in
    omega (arith, few.1, same)

-- memory was wanted after these blocks
stands_short : (start : World) (blocks : List Block) (b : ℕ) (kernel : KernelValue) (images : Option (List ℕ)) (before mid now : Seen) → now.out ≡ mid.out → IsUnasked mid now → Stands start blocks b kernel images before mid → WroteBlocks start blocks images before now
stands_short start blocks b kernel images before mid now silent none s = record {
  entries = s.entries;
  done = b;
  kernel = kernel.number;
  through = s.through;
  written = silent ∙ s.written;
  unwritten = [];
  reached = b;
  soon = omega arith;
  ended = kernel.number;
  through_all = subst (λ xs. IsThrough start blocks xs b kernel.number) (sym (append-nil s.entries)) s.through;
  made = subst (λ xs. Made start xs kernel.number images before now) (sym (append-nil s.entries)) (at images s.made);
}
  where
    at : (i : Option (List ℕ)) → Made start s.entries kernel.number i before mid → Made start s.entries kernel.number i before now
    at None made = unasked_twice before mid now made none
    at (Some file) made = record { images = made.images; are = made.are; only = unasked_twice (with_images before file 1 made.images) mid now made.only none }

pub stands_memory : (start : World) (blocks : List Block) (b : ℕ) (kernel : KernelValue) (images : Option (List ℕ)) (before now : Seen) → Stands start blocks b kernel images before now → WroteBlocks start blocks images before now
stands_memory start blocks b kernel images before now s = stands_short start blocks b kernel images before now now refl (unasked now) s

-- a block was done after others, and left its kernel so
module _ (start : World) (blocks : List Block) (b : ℕ) (block : Block) (kernel : KernelValue) (n : Next) (images : Option (List ℕ)) (before mid : Seen) (new : List Entry)
    (runs : CanRun blocks) (is : slice_get blocks b ≡ Some block) (d : DidAndLeft (kexec_number blocks b) block kernel new n) (s : Stands start blocks b kernel images before mid) where
  abbrev k : ℕ
  k = kernel.number

  abbrev es : List Entry
  es = s.entries

  can : CanDo block
  can = runs.each b block is

  abbrev due : ℕ
  due = due_after (has_ended n) d.old.number

  pub through_block : IsThrough start blocks (es ++ new) (b + 1) due
  through_block = block_through start blocks es new b kernel d.old block (has_ended n) runs is can s.through s.after d.did

  all_here : IsTrue (list_all (λ e. e.kernel == k) new)
  all_here = block_here start blocks es new b kernel d.old block (has_ended n) runs is can s.through s.after d.did

  stays : (xs : List (List ℕ)) → AreImages start es k xs → AreImages start (es ++ new) k xs
  stays xs are = images_stay start es new k all_here xs are

  same_number : d.old.number ≡ k
  same_number = block_number (kexec_number blocks b) kernel d.old new block (has_ended n) can d.did

  -- the image that an ended kernel left is that of its world
  image_is : (m : Next) (e : Ended) → n ≡ m → m ≡ next.Ended e → IsImageOf (frozen (world_of start (es ++ new) k)) (image_left e)
  image_is m e same ended =
      let left : EndedAs d.old e = subst (LeftAs d.old) (same ∙ ended) d.left in
      let ending : has_ended n ≡ true = ap has_ended (same ∙ ended) in
      record {
        frames = e.handoff.frames;
        entry = e.handoff.entry.0;
        is = refl;
        back = left.back;
        carries = left.carries (world_of start (es ++ new) k) (ended_world start blocks es new b kernel d.old block (has_ended n) runs is can s.through s.after d.did ending);
      }

  kernel_is : (e : Ended) → n ≡ next.Ended e → e.kernel ≡ k
  kernel_is e same = (let left : EndedAs d.old e = subst (LeftAs d.old) same d.left in left.kernel) ∙ same_number

  -- the images that were made before stay
  kept_before : (now : Seen) → IsUnasked mid now → Made start (es ++ new) k images before now
  kept_before now h = at images s.made
    where
      at : (i : Option (List ℕ)) → Made start es k i before mid → Made start (es ++ new) k i before now
      at None made = unasked_twice before mid now made h
      at (Some file) made = made_still start es new k file before mid now (text_of es) s.written stays made h

  -- and with that of the kernel that the block ended
  pub kept_all : (now : Seen) → KeptAll n images mid now → Made start (es ++ new) due images before now
  kept_all now h = at n images refl refl h
    where
      unended : (i : Option (List ℕ)) → images ≡ i → (m : Next) → n ≡ m → has_ended m ≡ false → IsUnasked mid now → Made start (es ++ new) due i before now
      unended i same_images m same going h =
          subst (λ j. Made start (es ++ new) due j before now) same_images
          (subst (λ x. Made start (es ++ new) x images before now) (sym (ap (λ c. due_after c d.old.number) (ap has_ended same ∙ going) ∙ same_number)) (kept_before now h))

      at : (m : Next) (i : Option (List ℕ)) → n ≡ m → images ≡ i → KeptAll m i mid now → Made start (es ++ new) due i before now
      at (next.Same other) i same same_images h = unended i same_images (next.Same other) same refl h
      at (next.Ended e) None same same_images h = unasked_twice before mid now (subst (λ j. Made start es k j before mid) same_images s.made) h
      at (next.Ended e) (Some file) same same_images h =
          let number : k + 1 ≡ due = ap (λ x. x + 1) (sym same_number) ∙ ap (λ c. due_after c d.old.number) (sym (ap has_ended same)) in
          subst (λ x. Made start (es ++ new) x (Some file) before now) number
          (made_more start es new k file before mid now (text_of es) s.written stays (subst (λ j. Made start es k j before mid) same_images s.made) (image_left e)
          (image_is (next.Ended e) e same refl)
          (subst (λ x. IsUnasked (with_file mid (image_name file (x + 1)) (image_left e)) now) (kernel_is e same) h))

  -- or that one not whole
  pub kept_some : (now : Seen) → KeptSome n images mid now → (m : ℕ) × (due ≡ m + 1) × MadeLess start (es ++ new) m images before now
  kept_some now h = at n images refl refl h
    where
      at : (m : Next) (i : Option (List ℕ)) → n ≡ m → images ≡ i → KeptSome m i mid now → (x : ℕ) × (due ≡ x + 1) × MadeLess start (es ++ new) x i before now
      at (next.Same other) i same same_images h = absurd h
      at (next.Ended e) None same same_images h = absurd h
      at (next.Ended e) (Some file) same same_images h = (
        k,
        ap (λ c. due_after c d.old.number) (ap has_ended same) ∙ ap (λ x. x + 1) same_number,
        made_less start es new k file before mid now (text_of es) s.written stays (subst (λ j. Made start es k j before mid) same_images s.made) (image_left e)
            (image_is (next.Ended e) e same refl)
            (subst (λ x. FileSome mid (image_name file (x + 1)) (image_left e) now) (kernel_is e same) h),
      )

  -- the kernel that follows stands
  pub stands_more : (done : BlockDone) (kernel' : KernelValue) (now : Seen) → done.entries.items ≡ new → done.next ≡ n → RunsAs n kernel' → WroteBlock done images mid now → Stands start blocks (b + 1) kernel' images before now
  stands_more done kernel' now new_is next_is runs_as wrote =
      let went : GoesOn start blocks es new b block kernel kernel' = block_done start blocks es new b kernel d.old kernel' block (has_ended n) runs is can s.through s.after d.did (follows d.old n kernel' d.left runs_as) in
      record {
        entries = es ++ new;
        through = went.through;
        after = went.after;
        few = (let counted = (kexecs_counted blocks b block is).0 in omega (arith, went.few, s.few, counted));
        sound = subst (λ x. StandsSound start blocks (es ++ new) (b + 1) x) (due_is kernel' runs_as)
            (block_sound start blocks es new b kernel d.old block (has_ended n) runs is can s.through s.after d.did s.sound);
        written = more_written before.out mid.out now.out es new s.written (wrote.written ∙ ap (λ xs. behind mid.out (text_of xs)) new_is);
        made = subst (λ x. Made start (es ++ new) x images before now) (due_is kernel' runs_as) (kept_all now (subst (λ m. KeptAll m images mid now) next_is wrote.kept));
      }
    where
      due_is : (k' : KernelValue) → RunsAs n k' → due ≡ k'.number
      due_is k' r = at n refl r
        where
          at : (m : Next) → n ≡ m → RunsAs m k' → due ≡ k'.number
          at (next.Same other) same r2 =
              let left : LeftAs d.old (next.Same other) = subst (LeftAs d.old) same d.left in
              ap (λ c. due_after c d.old.number) (ap has_ended same) ∙ ap (λ (x : KernelValue). x.number) (sym (r2 ∙ left))
          at (next.Ended e) same boots =
              let left : EndedAs d.old e = subst (LeftAs d.old) same d.left in
              let ending : has_ended n ≡ true = ap has_ended same in
              let w : World = world_of start (es ++ new) k in
              let of_old : IsWorldOf d.old w = ended_world start blocks es new b kernel d.old block (has_ended n) runs is can s.through s.after d.did ending in
              ap (λ c. due_after c d.old.number) ending ∙ ap (λ x. x + 1) (sym left.kernel) ∙ sym (boots (frozen w) (left.carries w of_old)).number

  -- memory was wanted for the next kernel
  pub written_short : (done : BlockDone) (now : Seen) → done.entries.items ≡ new → done.next ≡ n → WroteBlock done images mid now → WroteBlocks start blocks images before now
  written_short done now new_is next_is wrote = record {
    entries = es ++ new;
    done = b + 1;
    kernel = due;
    through = through_block;
    written = more_written before.out mid.out now.out es new s.written (wrote.written ∙ ap (λ xs. behind mid.out (text_of xs)) new_is);
    unwritten = [];
    reached = b + 1;
    soon = omega arith;
    ended = due;
    through_all = subst (λ xs. IsThrough start blocks xs (b + 1) due) (sym (append-nil (es ++ new))) through_block;
    made = subst (λ xs. Made start xs due images before now) (sym (append-nil (es ++ new))) (kept_all now (subst (λ m. KeptAll m images mid now) next_is wrote.kept));
  }

  -- memory was wanted before the entries or the image were written
  pub unwritten_short : (done : BlockDone) (now : Seen) → done.next ≡ n → WroteShort done images mid now → WroteBlocks start blocks images before now
  unwritten_short done now next_is short = at short.kept
    where
      at : (IsUnasked mid now ⊎ KeptAll done.next images mid now) → WroteBlocks start blocks images before now
      at (inl none) = stands_short start blocks b kernel images before mid now short.silent none s
      at (inr kept) = record {
        entries = es;
        done = b;
        kernel = k;
        through = s.through;
        written = short.silent ∙ s.written;
        unwritten = new;
        reached = b + 1;
        soon = omega arith;
        ended = due;
        through_all = through_block;
        made = kept_all now (subst (λ m. KeptAll m images mid now) next_is kept);
      }

  -- the kernel that was left can go on
  pub goes_on : CanGoOn n
  goes_on =
      can_go_on d.old n d.left (block_world start blocks es new b kernel d.old block (has_ended n) runs is can s.through s.after d.did)
      (λ ending. ended_is_few (has_ended n) start blocks b block kernel d.old images before mid new runs is d.did s ending)

-- the kernel that stands has a sound world
pub stands_sound : (start : World) (blocks : List Block) (b : ℕ) (kernel : KernelValue) (images : Option (List ℕ)) (before now : Seen) → Stands start blocks b kernel images before now → IsSoundKernel kernel
stands_sound start blocks b kernel images before now s = record {
  world = world_of start s.entries kernel.number;
  is_world = world_before start blocks s.entries kernel.number kernel s.after;
  labels = λ a. labels_now blocks kernel.number a s.entries;
  sound = s.sound.sound;
}

-- all blocks are done
pub stands_all : (start : World) (blocks : List Block) (b : ℕ) (kernel : KernelValue) (images : Option (List ℕ)) (before now : Seen) → b ≡ length blocks → Stands start blocks b kernel images before now → WroteAll start blocks images before now
stands_all start blocks b kernel images before now all s = record {
  entries = s.entries;
  legal = readings_are_legal start blocks s.entries (through_all start blocks s.entries kernel.number (subst (λ n. IsThrough start blocks s.entries n kernel.number) all s.through));
  written = s.written;
  made = subst (λ x. Made start s.entries x images before now) (sym s.after.due) s.made;
}

-- memory was wanted before the first block
pub none_written : (start : World) (blocks : List Block) (images : Option (List ℕ)) (s : Seen) → WroteBlocks start blocks images s s
none_written start blocks images s = record {
  entries = [];
  done = 0;
  kernel = 0;
  through = through_none start blocks;
  written = behind_nothing s.out;
  unwritten = [];
  reached = 0;
  soon = omega arith;
  ended = 0;
  through_all = through_none start blocks;
  made = made_none start images s;
}

module _ (start : World) (blocks : List Block) where
  may_cut : (seen xs : List Entry) (e : Entry) (ys : List Entry) → AllMayCome start blocks seen (xs ++ e ∷ ys) → AllMayCome start blocks seen xs × MayCome start blocks (seen ++ xs) e
  unfolding AllMayCome
  may_cut seen [] e ys h = (tt, subst (λ s. MayCome start blocks s e) (sym (append-nil seen)) h.0)
  may_cut seen (x ∷ xs) e ys h =
      let more : AllMayCome start blocks (seen ++ x ∷ []) xs × MayCome start blocks ((seen ++ x ∷ []) ++ xs) e = may_cut (seen ++ x ∷ []) xs e ys h.1 in
      ((h.0, more.0), subst (λ s. MayCome start blocks s e) (append_assoc seen (x ∷ []) xs) more.1)

  -- a front part of the text of a block was written, or nothing of it, and its images were made, or the last one not whole
  stands_cut : (b : ℕ) (block : Block) (kernel : KernelValue) (n : Next) (images : Option (List ℕ)) (before mid now : Seen) (new : List Entry)
      → CanRun blocks → slice_get blocks b ≡ Some block → (d : DidAndLeft (kexec_number blocks b) block kernel new n) → (s : Stands start blocks b kernel images before mid)
      → WroteFront (λ text. text ≡ text_of new) mid.out now.out
      → Made start (s.entries ++ new) (due_after (has_ended n) d.old.number) images before now ⊎ ((m : ℕ) × (due_after (has_ended n) d.old.number ≡ m + 1) × MadeLess start (s.entries ++ new) m images before now)
      → WroteSoFar start blocks images before now
  stands_cut b block kernel n images before mid now new runs is d s part made =
      let more : IsThrough start blocks (s.entries ++ new) (b + 1) (due_after (has_ended n) d.old.number) = through_block start blocks b block kernel n images before mid new runs is d s in
      let c : Cut new part.count = cut new part.count (subst (λ text. part.count < length text) part.due part.less) in
      let whole : s.entries ++ new ≡ (s.entries ++ c.front) ++ c.next ∷ c.rest = ap (λ xs. s.entries ++ xs) c.parts ∙ sym (append_assoc s.entries c.front (c.next ∷ c.rest)) in
      let legal : IsLegalSoFar start blocks (s.entries ++ new) = through_is_legal start blocks (s.entries ++ new) (b + 1) (due_after (has_ended n) d.old.number) runs.rising more in
      let both : AllMayCome start blocks [] (s.entries ++ c.front) × MayCome start blocks (s.entries ++ c.front) c.next = may_cut [] (s.entries ++ c.front) c.next c.rest (subst (λ xs. AllMayCome start blocks [] xs) whole legal) in
      record {
        entries = s.entries ++ c.front;
        legal = both.0;
        next = c.next;
        may_come = both.1;
        count = c.count;
        less = c.less;
        written = part.written ∙ ap (λ text. behind mid.out (take part.count text)) part.due ∙ ap (behind mid.out) c.taken
            ∙ ap (λ o. behind o (text_of c.front ++ take c.count (line_of c.next))) s.written
            ∙ behind_twice before.out (text_of s.entries) (text_of c.front ++ take c.count (line_of c.next))
            ∙ ap (behind before.out) (sym (append_assoc (text_of s.entries) (text_of c.front) (take c.count (line_of c.next))) ∙ ap (λ xs. xs ++ take c.count (line_of c.next)) (sym (text_parts s.entries c.front)));
        rest = c.rest;
        reached = b + 1;
        ended = due_after (has_ended n) d.old.number;
        through = subst (λ xs. IsThrough start blocks xs (b + 1) (due_after (has_ended n) d.old.number)) whole more;
        made = subst (λ xs. Made start xs (due_after (has_ended n) d.old.number) images before now ⊎ ((m : ℕ) × (due_after (has_ended n) d.old.number ≡ m + 1) × MadeLess start xs m images before now)) whole made;
      }

  -- a write failed in the text of a block, or in its image
  pub stands_part : (b : ℕ) (block : Block) (kernel : KernelValue) (n : Next) (images : Option (List ℕ)) (before mid now : Seen) (new : List Entry) (done : BlockDone)
      → CanRun blocks → slice_get blocks b ≡ Some block → (d : DidAndLeft (kexec_number blocks b) block kernel new n) → (s : Stands start blocks b kernel images before mid)
      → done.entries.items ≡ new → done.next ≡ n → WroteLess done images mid now → WroteSoFar start blocks images before now
  stands_part b block kernel n images before mid now new done runs is d s new_is next_is (inl w) =
      stands_cut b block kernel n images before mid now new runs is d s (subst (λ xs. WroteFront (λ text. text ≡ text_of xs) mid.out now.out) new_is w.0)
      (inl (kept_all start blocks b block kernel n images before mid new runs is d s now (subst (λ m. KeptAll m images mid now) next_is w.1)))
  stands_part b block kernel n images before mid now new done runs is d s new_is next_is (inr w) =
      let some : (m : ℕ) × (due_after (has_ended n) d.old.number ≡ m + 1) × MadeLess start (s.entries ++ new) m images before now =
      kept_some start blocks b block kernel n images before mid new runs is d s now (subst (λ m. KeptSome m images mid now) next_is w.1)
      in
      stands_cut b block kernel n images before mid now new runs is d s
      (record {
        text = text_of new;
        due = refl;
        count = 0;
        less = some_text new (ended_some start blocks s.entries new b kernel d.old block (has_ended n) runs is s.through s.after d.did (has_image n images mid now (subst (λ m. KeptSome m images mid now) next_is w.1)));
        written = w.0 ∙ nothing_behind mid.out (text_of new);
      })
      (inr some)
    where
      nothing_behind : (o : Option (List ℕ)) (text : List ℕ) → o ≡ behind o (take 0 text)
      nothing_behind o text = behind_nothing o

      some_text : (xs : List Entry) → 0 < length xs → 0 < length (text_of xs)
      some_text [] h = absurd omega (arith, h)
      some_text (x ∷ xs) h = let long = line_is_long x in omega (arith, long, length-append (line_of x) (text_of xs))

      has_image : (m : Next) (i : Option (List ℕ)) (x y : Seen) → KeptSome m i x y → has_ended m ≡ true
      has_image (next.Same other) i x y h = absurd h
      has_image (next.Ended e) i x y h = refl

-- the number of the next kexec, where the block isn't one and where it is
pub next_number : (blocks : List Block) (b : ℕ) (block : Block) → slice_get blocks b ≡ Some block → kexec_number blocks (b + 1) ≡ kexec_number blocks b + kexecs_in (block ∷ [])
next_number blocks b block is = let counted = (kexecs_counted blocks b block is).0 in omega (arith, counted)
