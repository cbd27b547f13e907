-- What is true of a script's blocks, from the world on in which it begins.
use Rattle.std.proofs.Common.{◌≡◌, ◌⊎◌, ℕ, false, List, inl, inr, subst, sym}
use Rattle.std.specs.Prelude.{Option, Some}
use Rattle.ho_events.specs.declared.script.Block.{Block}
use Rattle.ho_events.specs.declared.script.Script.{Script}
use Rattle.ho_world.specs.World.{World}
use Rattle.handover_cli.specs.Due.{WroteFront, WritesPart}
use Rattle.handover_cli.specs.ImageRefusals.{IsImageRefusal}
use Rattle.handover_cli.specs.Images.{Seen}
use Rattle.handover_cli.specs.Run.{Origin, BeginsIn, OnStart, WroteSoFar, origin_of, with_all_opened, with_opened}
use Rattle.handover_cli.specs.Stops.{IsReady}
use Rattle.handover_cli.specs.Words.{run_asked}

pub on_start : (from : Origin) (Holds : World → List Block → Type 0) (script : Script) (start : World) (blocks : List Block) → BeginsIn from script start → blocks ≡ script.blocks → Holds start blocks → OnStart from Holds script
on_start from Holds script start blocks begins same h = record { start = start; begins = begins; holds = subst (Holds start) same h }

-- What was written of a script that was to go on from an image, where a write failed.
module _ (holds later : List ℕ → Option (List ℕ)) (name file : List ℕ) (image images : Option (List ℕ)) (before mid now : Seen) (script : Script) (is : image ≡ Some file) (kept : later ≡ holds) (opened : mid ≡ with_opened before name) (ready : IsReady false (holds name) script) where
  abbrev Wrote : (List ℕ → Option (List ℕ)) → Seen → Type 0
  Wrote hs s = WroteFront (IsImageRefusal (hs file)) s.out now.out ⊎ OnStart (Some (hs file)) (λ start blocks. WroteSoFar start blocks images (with_opened s file) now) script

  abbrev Writes : Option (List ℕ) → Type 0
  Writes i = WritesPart (origin_of holds (run_asked name i images)) (holds name) images (with_all_opened before (run_asked name i images)) now

  at_file : Wrote holds (with_opened before name) → Writes (Some file)
  at_file (inl front) = inr (inl (ready.accepted, front))
  at_file (inr history) = inr (inr (record { accepted = ready.accepted; wrote = record { script = script; read = ready.read; holds = history } }))

  pub resumed_part : Wrote later mid → Writes image
  resumed_part h = subst Writes (sym is) (at_file (subst (λ (hs : List ℕ → Option (List ℕ)). Wrote hs (with_opened before name)) kept (subst (Wrote later) opened h)))
