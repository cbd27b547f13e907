-- What frames carry has all that a sound world begins with.
use Rattle.std.proofs.Common.{◌≡◌, ℕ, ◌+◌, ◌≤◌, true, List, [], ◌∷◌, map, length, refl, sym, ap, subst, ◌∙◌, arith}
use Rattle.std.specs.List.{AllByRecursion, list_all}
use Rattle.std.specs.Ordering.{nat_cmp}
use Rattle.std.specs.FinMap as finmap
use Rattle.std.proofs.lemmas.Bool.{and_parts, eqb-true}
use Rattle.std.proofs.lemmas.Cmp.{nat_cmp_total}
use Rattle.ho_base.specs.declared.limits.TheConstants.{SESSION_FILES}
use Rattle.ho_base.specs.declared.numbers.Kind.{Kind}
use Rattle.ho_base.specs.declared.numbers.Kind.TheVariants.{Memfd, Dev0, Dev1, Dev2, Dev3}
use Rattle.ho_events.specs.Session.{Listed}
use Rattle.ho_world.specs.Frozen.{CarriedFile, CarriedSession, Frozen, carried_files}
use Rattle.record_frames.specs.Ram.{Ram}
use Rattle.record_frames.specs.Sheets.{FileRecord, SessionRecord, FileSlot, file_slot}
use Rattle.record_frames.specs.Rules.{is_of_kind, has_first}
use Rattle.record_frames.specs.Kept.{Kept, sessions_of, files_of, all_files, carried, carried_file, carried_session}
use Rattle.record_frames.specs.Carries.{Keep}
use Rattle.session_core.specs.SessionShown.{TokensRise, listed}
use Rattle.next_laws.specs.Begins.{is_memfd, numbered}
use Rattle.next_laws.specs.Follows.{CanBegin, FitsFile}
use Rattle.next_laws.proofs.Following.{many_files, files_are, facts, kept_slots, carried_can_begin}
use Rattle.next_laws.proofs.KeptRules.{SessionFacts, has_slot}
use Rattle.balance_laws.specs.Carrying.{Rise, CarriedFits, CanFollow}
use Rattle.balance_laws.proofs.Carried.{rise_keys}
use Rattle.balance_laws.proofs.NextWhole.{following_is_sound}
use Rattle.next_sound.specs.Follows.{CarriedBeginsSound}
use Rattle.next_sound.proofs.RunsApart.{none_shared, runs_fit}

-- ---- tokens

tokens_listed : (n : ℕ) (cs : List CarriedFile) → map (λ (e : ℕ × Listed). e.0) (map listed (numbered n cs)) ≡ map (λ (c : CarriedFile). c.token) cs
tokens_listed n [] = refl
tokens_listed n (c ∷ cs) = ap (λ l. c.token ∷ l) (tokens_listed (n + 1) cs)

tokens_rise : (ss : List CarriedSession) → AllByRecursion (λ (s : CarriedSession). (n : ℕ) → TokensRise (numbered n s.files)) ss
    → AllByRecursion (λ (s : CarriedSession). Rise nat_cmp (map (λ (c : CarriedFile). c.token) s.files)) ss
tokens_rise [] h = tt
tokens_rise (s ∷ ss) h = (
  subst (Rise nat_cmp) (tokens_listed 0 s.files) (rise_keys nat_cmp nat_cmp_total finmap.nat_cmp-IsAntisymmetric (map listed (numbered 0 s.files)) (h.0 0)),
  tokens_rise ss h.1,
)

-- ---- how many files a session has

few_files : (ram : Ram) (n : ℕ) (ss : List SessionRecord) → AllByRecursion (SessionFacts n) ss → AllByRecursion (λ (s : CarriedSession). length s.files ≤ SESSION_FILES) (map (carried_session ram) ss)
few_files ram n [] h = tt
few_files ram n (s ∷ ss) h = ((let few = h.0.few in let count = many_files ram (files_of s) in omega (arith, few, count)), few_files ram n ss h.1)

-- ---- files

memfd_is : (kind : Kind) → is_memfd kind ≡ true → kind ≡ Memfd
memfd_is Memfd h = refl
memfd_is Dev0 h = absurd cc
memfd_is Dev1 h = absurd cc
memfd_is Dev2 h = absurd cc
memfd_is Dev3 h = absurd cc

-- the slot of a memfd has no handle
no_handle : (f : FileRecord) → f.kind ≡ Memfd → has_slot f ≡ true → f.handle ≡ 0
no_handle f kind h =
    let s : FileSlot = file_slot f in
    let a = and_parts _ (has_first s.folios s.first) h in
    let b = and_parts _ (is_of_kind s s.kind) a.0 in
    eqb-true f.handle 0 (ap (is_of_kind s) (sym kind) ∙ b.1)

fit_all : (ram : Ram) (fs : List FileRecord) → list_all (λ (c : CarriedFile). is_memfd c.kind) (map (carried_file ram) fs) ≡ true → list_all has_slot fs ≡ true → AllByRecursion FitsFile (map (carried_file ram) fs)
    → AllByRecursion CarriedFits (map (carried_file ram) fs)
fit_all ram [] memfds slots fits = tt
fit_all ram (f ∷ fs) memfds slots fits =
    let ms = and_parts (is_memfd f.kind) (list_all (λ (c : CarriedFile). is_memfd c.kind) (map (carried_file ram) fs)) memfds in
    let ss = and_parts (has_slot f) (list_all has_slot fs) slots in
    let kind = memfd_is f.kind ms.0 in (
      record {
        kind = kind;
        order = fits.0.small;
        size = fits.0.within;
        position = fits.0.position;
        handle = no_handle f kind ss.0;
        runs = fits.0.count;
      },
      fit_all ram fs ms.1 ss.1 fits.1,
    )

-- ---- all of it

can_follow : (ram : Ram) (entry : ℕ) (k : Kept) → Keep ram entry k → list_all (λ (c : CarriedFile). is_memfd c.kind) (carried_files (carried ram k)) ≡ true → CanBegin (carried ram k) → CanFollow (carried ram k)
can_follow ram entry k keep memfds can =
    let files : carried_files (carried ram k) ≡ map (carried_file ram) (all_files k) = files_are ram (sessions_of k) in
    record {
      sessions = can.few;
      names = can.distinct;
      few = few_files ram ram.count (sessions_of k) (facts ram entry k keep).each;
      tokens = tokens_rise (carried ram k).sessions can.tokens;
      files = can.files;
      fit = subst (AllByRecursion CarriedFits) (sym files)
          (fit_all ram (all_files k) (ap (list_all (λ (c : CarriedFile). is_memfd c.kind)) (sym files) ∙ memfds) (kept_slots ram entry k keep) (subst (AllByRecursion FitsFile) files can.fits));
      apart = none_shared (carried_files (carried ram k)) can.free.apart;
      bounds = can.bounds;
      runs = runs_fit (carried ram k) can.bounds can.free;
    }

pub carried_begins_sound : CarriedBeginsSound
carried_begins_sound ram entry f frames holds memfds c =
    following_is_sound f
    (subst CanFollow c.is
    (can_follow ram entry c.kept c.keep (subst (λ (x : Frozen). list_all (λ (d : CarriedFile). is_memfd d.kind) (carried_files x) ≡ true) (sym c.is) memfds) (subst CanBegin (sym c.is) (carried_can_begin ram entry f frames holds memfds c))))
