-- How freezing a kernel came out.
use Rattle.std.proofs.Common.{◌≡◌, ◌≢◌, ℕ, ◌+◌, ◌<◌, ◌≤◌, Bool, true, false, cond, nat_lt, List, [], ◌∷◌, map, length, refl, ap, sym, ◌∙◌, subst, arith, inl, inr}
use Rattle.std.specs.Prelude.{Option, None, Some, ◌==◌, ◌⊎◌, slice_index_or}
use Rattle.std.specs.List.{All, list_any}
use Rattle.std.proofs.lemmas.Bool.Decides.{nat_tests}
use Rattle.std.proofs.lemmas.Bool.{eqb-true}
use Rattle.std.proofs.lemmas.List.{get_or_default}
use Rattle.std.proofs.lemmas.List.Elements.{All-nil, All-cons, All-head, All-tail}
use Rattle.ho_base.specs.BitmapCount.{chunk_frames}
use Rattle.ho_base.specs.Objects.{pool_no}
use Rattle.ho_base.specs.declared.numbers.Blob.{Blob}
use Rattle.ho_base.specs.declared.numbers.Kind.TheVariants.{Memfd}
use Rattle.ho_base.specs.declared.numbers.Pfn.{Pfn}
use Rattle.ho_events.specs.declared.entry.Entry.{Entry}
use Rattle.ho_events.specs.declared.event.Event.TheVariants.{PoolTake}
use Rattle.ho_events.specs.declared.reply.Reply.TheVariants.{Ok, Got, ScratchSmall}
use Rattle.ho_events.specs.declared.slip.At.{At}
use Rattle.ho_events.specs.File.{FileState}
use Rattle.ho_events.specs.Lists.{firsts}
use Rattle.ho_events.specs.Pool.{PoolState, is_owned}
use Rattle.ho_world.specs.Acts.{single}
use Rattle.ho_world.specs.Frozen.{carried_files, frozen, need, preserved_devices, scratch_need, scratch_have}
use Rattle.ho_world.specs.Logs.{end_with}
use Rattle.ho_world.specs.Sequences.Kexecs.{NoRoom, KernelEnds, fitting_acts}
use Rattle.ho_world.specs.World.{State, World, PoolIn, FileIn, pool_in, pool_at}
use Rattle.phys_frames.specs.Homes.{HomeId}
use Rattle.phys_frames.specs.Memory.{FolioValue, AreOf, zeroed, with_bytes}
use Rattle.machine_core.specs.Gathered.{BeginsAt, IsFrameOfFile, IsAccounted}
use Rattle.machine_core.specs.Kernels.{KernelValue, begun_in, histories_in}
use Rattle.machine_core.specs.Worlds.{states_in, IsWorldOf}
use Rattle.record_frames.specs.Ram.{Ram}
use Rattle.record_frames.specs.State.{state_in}
use Rattle.record_frames.specs.declared.carried.Carried.{Carried}
use Rattle.kho_writer.specs.Folios.{CarryIt, HasRoom, OtherBytes, front_count}
use Rattle.kho_writer.proofs.Counts.{left_over}
use Rattle.kernel_carried.specs.Gathered.{Agrees, HoldsFilesIn}
use Rattle.kernel_carried.proofs.Laws.{all_memfds, carried_is, needs_same}
use Rattle.sound_carried.specs.Fitting.{CarriedHasRoom}
use Rattle.freeze_path.specs.Freezes.{IsStill, DidKexec, IsOfKernel, FrozeAll, FoundSmall, FoundFew}
use Rattle.freeze_path.specs.Ready.{HasPool, IsReady, DidDeeds, got_deeds, few_deeds}
use Rattle.freeze_path.specs.declared.freezing.Frozen.{Frozen}
use Rattle.freeze_path.specs.declared.ready.Ready.{Ready}
use Rattle.freeze_path.proofs.Entries.{AreTwo, are_two, on_others, same_state, pool_state, pool_same, Took, took_legally}
use Rattle.freeze_path.proofs.Owned.{Place, place_of, owned_after}
use Rattle.freeze_path.proofs.Room.{room, singles_taken}
use Rattle.freeze_path.proofs.SoundKernel.{lists_whole}

-- ---- a kexec in the kernel's world

agrees : (kernel : KernelValue) (w : World) → IsWorldOf kernel w → Agrees w kernel.objects
agrees kernel w of = λ n s other is. of.objects n s is

pool_shape : (kernel : KernelValue) (w : World) → HasPool kernel → IsWorldOf kernel w → (pool_at w).shape ≡ kernel.shape
pool_shape kernel w h of = ap (λ s. (pool_in s).shape) (of.objects pool_no (PoolIn h.state) (pool_state kernel h)) ∙ h.shape

no_ram : Ram
no_ram = record { count = 0; page = λ p. [] }

not_less : (a b : ℕ) → b ≤ a → nat_lt a b ≡ false
not_less a b h = grind (arith, nat_tests)

less : (a b : ℕ) → a < b → nat_lt a b ≡ true
less a b h = grind (arith, nat_tests)

module _ (kernel : KernelValue) (blob : Blob) (r : Ready) (ready : IsReady kernel r) (fits : scratch_need kernel.shape blob ≤ scratch_have kernel.shape) where
  need_in : (w : World) → IsWorldOf kernel w → need (frozen w) ≡ r.need
  need_in w of = sym (ready.need_is no_ram ∙ needs_same kernel r.carried w no_ram ready.gathered (agrees kernel w of) (pool_shape kernel w ready.pool of))

  fitting : (w : World) (of : IsWorldOf kernel w) (outcome : _) → cond (nat_lt (scratch_have (pool_at w).shape) (scratch_need (pool_at w).shape blob)) None (fitting_acts (need (frozen w)) (preserved_devices w) outcome) ≡ fitting_acts r.need [] outcome
  fitting w of outcome = λ i.
      cond ((ap (λ shape. nat_lt (scratch_have shape) (scratch_need shape blob)) (pool_shape kernel w ready.pool of) ∙ not_less (scratch_have kernel.shape) (scratch_need kernel.shape blob) fits) i) None
      (fitting_acts (need_in w of i) (ready.devices w (agrees kernel w of) i) outcome)

  pub did_got : (at : At) (es : List Entry) (runs : List Pfn) → DidDeeds kernel at (got_deeds r.need runs) es → DidKexec kernel at blob (KernelEnds runs) es
  did_got at es runs h = record { sequence = _; is_one = λ w of. fitting w of (KernelEnds runs); last = h.last; done = h.done }

  pub did_few : (at : At) (es : List Entry) → DidDeeds kernel at (few_deeds r.need) es → FoundFew kernel at blob es r.need
  did_few at es h = record { did = record { sequence = _; is_one = λ w of. fitting w of NoRoom; last = h.last; done = h.done }; needed_is = λ w of. sym (need_in w of) }

-- the scratch area is too small
pub did_small : (kernel : KernelValue) (at : At) (blob : Blob) (es : List Entry) (needed have : ℕ) → HasPool kernel → needed ≡ scratch_need kernel.shape blob → have ≡ scratch_have kernel.shape → scratch_have kernel.shape < scratch_need kernel.shape blob
    → DidDeeds kernel at (end_with (ScratchSmall needed have) ∷ []) es → FoundSmall kernel at blob es needed have
did_small kernel at blob es needed have pool n h small done = record {
  did = record {
    sequence = record { acts = []; reply = ScratchSmall needed have };
    is_one = λ w of.
        ap (λ shape. cond (nat_lt (scratch_have shape) (scratch_need shape blob)) (Some (record { acts = []; reply = ScratchSmall (scratch_need shape blob) (scratch_have shape) })) None) (pool_shape kernel w pool of)
        ∙ ap (λ b. cond b (Some (record { acts = []; reply = ScratchSmall (scratch_need kernel.shape blob) (scratch_have kernel.shape) })) None) (less (scratch_have kernel.shape) (scratch_need kernel.shape blob) small)
        ∙ (λ i. Some (record { acts = []; reply = ScratchSmall (sym n i) (sym h i) }));
    last = done.last;
    done = done.done;
  };
  needed_is = n;
  have_is = h;
}

-- ---- folios with other bytes

kept : (P : FolioValue → Type 0) → ((f : FolioValue) (bytes : List ℕ) → P f → P (with_bytes f bytes)) → (old new : List FolioValue) → OtherBytes old new → length new ≡ length old → All P old → All P new
kept P step old new other len all = λ k d lt.
    let there : k < length old = omega (arith, lt, len) in
    subst P (sym (other k there d)) (step (slice_index_or old k d) (slice_index_or new k d).bytes (all k d there))

pub are_of : (home : HomeId) (folios : List FolioValue) → All (λ (f : FolioValue). f.home ≡ home) folios → AreOf home folios
are_of home [] h = tt
are_of home (f ∷ fs) h = (All-head (λ (f : FolioValue). f.home ≡ home) f fs h, are_of home fs (All-tail (λ (f : FolioValue). f.home ≡ home) f fs h))

home_taken : (home : HomeId) (runs : List Pfn) → All (λ (f : FolioValue). f.home ≡ home) (map (zeroed home) runs)
home_taken home [] = All-nil (λ (f : FolioValue). f.home ≡ home)
home_taken home (r ∷ runs) = All-cons (λ (f : FolioValue). f.home ≡ home) (zeroed home r) (map (zeroed home) runs) refl (home_taken home runs)

begins_at : (old new : List FolioValue) (p : ℕ) → OtherBytes old new → length new ≡ length old → Place old p → BeginsAt new p
begins_at old new p other len place = go new refl
  where
    go : (l : List FolioValue) → l ≡ new → BeginsAt new p
    go [] is = absurd (omega (arith, place.below, len, ap length is))
    go (g ∷ gs) is =
        let within : place.at < length new = omega (arith, place.below, len) in
        let f : FolioValue = slice_index_or new place.at g in
        record {
          folio = f;
          there = (place.at, within, get_or_default new place.at f g within);
          first = ap (λ (x : FolioValue). x.first.0) (other place.at place.below g) ∙ place.first g;
        }

-- ---- what was frozen is the kernel's

no_file_pool : (s : PoolState) (f : Option FileState) → ◌≡◌ {A = Option State} (Some (PoolIn s)) (Some (FileIn f)) → ⊥
no_file_pool s f e = absurd cc

at_least_one : (a b : ℕ) → 2 ≤ a → 1 ≤ a + b
at_least_one a b h = omega (arith, h)

module _ (kernel kernel' : KernelValue) (at : At) (blob : Blob) (r : Ready) (es : List Entry) (runs : List Pfn) (ready : IsReady kernel r) (still : IsStill kernel kernel' es) (pool' : HasPool kernel') (did : DidDeeds kernel at (got_deeds r.need runs) es) where
  two : AreTwo at pool_no (PoolTake single r.need) (Got runs) Ok es
  two = are_two (begun_in kernel.objects) (histories_in kernel.objects) at at.last pool_no (PoolTake single r.need) (Got runs) Ok es did.last did.done

  legal : Took kernel kernel' ready.pool.state r.need runs
  legal = took_legally kernel kernel' es at r.need runs Ok ready.pool still two

  -- the folios have room
  pub has_room : CarriedHasRoom → HasRoom r.carried (map (zeroed kernel.home) runs)
  has_room law =
      room kernel ready.sound ready.pool r.carried ready.gathered runs r.need legal.can (left_over no_ram r.carried r.need (chunk_frames r.carried.shape.frames) (ready.need_is no_ram) refl) law ready.can

  -- every other object stays as it is
  others : (n : ℕ) → n ≢ pool_no → states_in kernel'.objects n ≡ states_in kernel.objects n
  others n other = same_state kernel kernel' es n still (on_others at pool_no (PoolTake single r.need) (Got runs) Ok es n two (differs (pool_no == n) refl))
    where
      differs : (b : Bool) → (pool_no == n) ≡ b → (pool_no == n) ≡ false
      differs true e = absurd (other (sym (eqb-true pool_no n e)))
      differs false e = e

  -- a file is none of the pool
  file_other : (n : ℕ) (f : Option FileState) → states_in kernel.objects n ≡ Some (FileIn f) → n ≢ pool_no
  file_other n f is e = no_file_pool ready.pool.state f (sym (pool_state kernel ready.pool) ∙ ap (states_in kernel.objects) (sym e) ∙ is)

  file_stays : (n : ℕ) (f : Option FileState) → states_in kernel.objects n ≡ Some (FileIn f) → states_in kernel'.objects n ≡ Some (FileIn f)
  file_stays n f is = others n (file_other n f is) ∙ is

  agrees_before : (w : World) → IsWorldOf kernel' w → Agrees w kernel.objects
  agrees_before w of = λ n s other is. of.objects n s (others n other ∙ is)

  carried_before : (w : World) → IsWorldOf kernel' w → (ram : Ram) → HoldsFilesIn ram kernel'.objects → state_in ram r.carried ≡ frozen w
  carried_before w of ram holds =
      carried_is kernel r.carried w ram ready.gathered (agrees_before w of) (of.number ∙ still.updates) (pool_shape kernel' w pool' of ∙ still.shape) of.handlers
      (lists_whole kernel ready.sound r.carried ready.gathered ready.sessions w (agrees_before w of)) (λ n s is. holds n s (file_stays n s is))

  frame_after : (p : ℕ) → IsFrameOfFile kernel.objects p → IsFrameOfFile kernel'.objects p
  frame_after p f = record {
    number = f.number;
    file = f.file;
    there = file_stays f.number (Some f.file) f.there;
    index = f.index;
    first = f.first;
    run = f.run;
    from = f.from;
    to = f.to;
  }

  module _ (f : Frozen) (c_is : f.carried ≡ r.carried) (b_is : f.blob ≡ blob) (other : OtherBytes (map (zeroed kernel.home) runs) f.folios.items) (len : length f.folios.items ≡ length (map (zeroed kernel.home) runs)) (carry : CarryIt r.carried f.folios.items) (law : CarriedHasRoom)
      (fits : scratch_need kernel.shape blob ≤ scratch_have kernel.shape) where
    accounted : IsAccounted kernel.shape.frames kernel'.objects f.folios.items
    accounted s p is lt o = pick (owned_after (firsts runs) ready.pool.state p (subst (λ x. is_owned x p ≡ true) (pool_same s _ (sym is ∙ legal.after)) o))
      where
        pick : (list_any (λ y. y == p) (firsts runs) ≡ true) ⊎ (is_owned ready.pool.state p ≡ true) → BeginsAt f.folios.items p ⊎ IsFrameOfFile kernel'.objects p
        pick (inl taken) = inl (begins_at (map (zeroed kernel.home) runs) f.folios.items p other len (place_of kernel.home runs p taken))
        pick (inr before) = inr (frame_after p (ready.accounted ready.pool.state p (pool_state kernel ready.pool) before))

    pub is_of : IsOfKernel kernel' f
    is_of = record {
      carried = λ w of ram count holds. ap (state_in ram) c_is ∙ carried_before w of ram holds;
      memfds = λ ram. subst (λ (c : Carried). All (λ x. x.kind ≡ Memfd) (carried_files (state_in ram c))) (sym c_is) (λ k d lt. (all_memfds kernel r.carried ram ready.gathered k d lt).0);
      carry = subst (λ (c : Carried). CarryIt c f.folios.items) (sym c_is) carry;
      some = subst (λ n. 1 ≤ n) (sym (len ∙ (has_room law).count)) (at_least_one (front_count r.carried) (chunk_frames r.carried.shape.frames) (some_front r.carried));
      bounds = ap (λ (c : Carried). c.bounds) c_is ∙ ready.gathered.bounds;
      home =
          are_of kernel'.home f.folios.items
          (subst (λ h. All (λ (g : FolioValue). g.home ≡ h) f.folios.items) (sym still.home)
          (kept (λ (g : FolioValue). g.home ≡ kernel.home) (λ g bytes h. h) (map (zeroed kernel.home) runs) f.folios.items other len (home_taken kernel.home runs)));
      single = kept (λ (g : FolioValue). g.order.0 ≡ 0) (λ g bytes h. h) (map (zeroed kernel.home) runs) f.folios.items other len (singles_taken kernel.home runs);
      shape = ap (λ (c : Carried). c.shape) c_is ∙ ready.gathered.shape ∙ sym still.shape;
      accounted = subst (λ n. IsAccounted n kernel'.objects f.folios.items) (ap (λ s. s.frames) (sym still.shape)) accounted;
      fits = subst (λ s. scratch_need s f.blob ≤ scratch_have s) (sym still.shape) (subst (λ b. scratch_need kernel.shape b ≤ scratch_have kernel.shape) (sym b_is) fits);
    }
      where
        some_front : (c : Carried) → 2 ≤ front_count c
        some_front c = omega arith

    pub froze : FrozeAll kernel at blob kernel' es f
    froze = record { runs = runs; did = did_got kernel blob r ready fits at es runs did; is_of = is_of; blob_is = b_is }

pub need_some : (kernel : KernelValue) (r : Ready) → IsReady kernel r → 1 ≤ r.need
need_some kernel r ready =
    let left : r.need ≡ front_count r.carried + chunk_frames r.carried.shape.frames = left_over no_ram r.carried r.need (chunk_frames r.carried.shape.frames) (ready.need_is no_ram) refl in
    omega (arith, left)
