-- A kexec as it was frozen and booted: where it begins, what was done, and which kernel follows.
use Rattle.std.proofs.Common.{◌≡◌, ℕ, ◌+◌, ◌≤◌, Bool, List, [], ◌∷◌, refl, sym, ap, subst, ◌∙◌, arith, IsTrue, take, zero, suc}
use Rattle.std.specs.Prelude.{Some, slice_get}
use Rattle.std.specs.List.{All, list_all}
use Rattle.ho_base.specs.declared.limits.TheConstants.{KEXECS}
use Rattle.ho_base.specs.declared.numbers.Blob.{Blob}
use Rattle.ho_events.specs.Script.Rules.{kexecs_in}
use Rattle.ho_events.specs.declared.entry.Entry.{Entry}
use Rattle.ho_events.specs.declared.script.Block.{Block}
use Rattle.ho_events.specs.declared.script.Block.TheVariants.{Kexec}
use Rattle.ho_events.specs.declared.slip.At.{At}
use Rattle.ho_base.specs.declared.numbers.Kind.TheVariants.{Memfd}
use Rattle.ho_world.specs.Frozen.{CarriedFile, Frozen, carried_files}
use Rattle.ho_world.specs.Sequences.Kexecs.{KexecOutcome}
use Rattle.ho_world.proofs.Fronts.{and_both}
use Rattle.next_laws.specs.Begins.{is_memfd, are_memfds}
use Rattle.kexec_laws.specs.Kexecs.{ends, kexec_number}
use Rattle.kexec_laws.proofs.KexecNumbers.{kexecs_counted}
use Rattle.machine_core.specs.Kernels.{KernelValue}
use Rattle.freeze_path.specs.Freezes.{IsStill, DidKexec}
use Rattle.handover_cli.specs.Ends.{DidAndLeft}
use Rattle.handover_cli.specs.Works.{CanRun, DidBlock, kexec_at}
use Rattle.handover_cli.specs.declared.rebooting.Next.{Next}

-- where a kexec begins
at_is : (kernel : KernelValue) (number n last : ℕ) → n ≡ kernel.number → last ≡ kernel.base → record { kernel = n; agent = record { 0 = 0 }; command = number; last = last } ≡ kexec_at kernel number
at_is kernel number n last same base =
    let with_kernel : ℕ → At = λ x. record { kernel = x; agent = record { 0 = 0 }; command = number; last = last } in
    let with_last : ℕ → At = λ x. record { kernel = kernel.number; agent = record { 0 = 0 }; command = number; last = x } in
    ap with_kernel same ∙ ap with_last base

-- a kexec that was done from there on is a block that was done
pub kexec_block : (kernel old : KernelValue) (number n last : ℕ) (blob : Blob) (outcome : KexecOutcome) (entries : List Entry) (ended : Bool) → n ≡ kernel.number → last ≡ kernel.base → IsStill kernel old entries
    → DidKexec kernel (record { kernel = n; agent = record { 0 = 0 }; command = number; last = last }) blob outcome entries → ends outcome ≡ ended → DidBlock number (Kexec blob) kernel old entries ended
kexec_block kernel old number n last blob outcome entries ended same base still did ending = record {
  still = still;
  outcome = outcome;
  did = subst (λ (at : At). DidKexec kernel at blob outcome entries) (at_is kernel number n last same base) did;
  ending = ending;
}

-- what is carried has memfds alone, as a test
all_memfds : (cs : List CarriedFile) → All (λ c. c.kind ≡ Memfd) cs → IsTrue (list_all (λ c. is_memfd c.kind) cs)
all_memfds [] h = refl
all_memfds (c ∷ cs) h =
    and_both (is_memfd c.kind) _ (subst (λ k. IsTrue (is_memfd k)) (sym (h zero c (omega arith))) refl)
    (all_memfds cs (λ k d less. h (suc k) d (omega (arith, less))))

pub memfd_test : (f : Frozen) → All (λ c. c.kind ≡ Memfd) (carried_files f) → IsTrue (are_memfds f)
memfd_test f h = all_memfds (carried_files f) h

-- what was done with a number that is the next one
pub did_at : (m n : ℕ) (block : Block) (kernel : KernelValue) (entries : List Entry) (left : Next) → m ≡ n → DidAndLeft m block kernel entries left → DidAndLeft n block kernel entries left
did_at m n block kernel entries left same did = subst (λ x. DidAndLeft x block kernel entries left) same did

-- the numbers of kexecs are small
pub numbers_fit : (blocks : List Block) (b : ℕ) (block : Block) → CanRun blocks → slice_get blocks b ≡ Some block → kexec_number blocks b + kexecs_in (block ∷ []) ≤ 1 + KEXECS
numbers_fit blocks b block runs is =
    let counted = kexecs_counted blocks b block is in
    let next : kexecs_in (take (b + 1) blocks) ≡ kexecs_in (take b blocks) + kexecs_in (block ∷ []) = counted.0 in
    let most : kexecs_in (take (b + 1) blocks) ≤ kexecs_in blocks = counted.1 in
    omega (arith, next, most, runs.few)
