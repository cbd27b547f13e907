-- How a run ends before its first block, by the line that was due.
use Rattle.std.proofs.Common.{◌≡◌, ℕ, Bool, List, refl, ap, sym, ◌∙◌, subst, inl, inr}
use Rattle.std.specs.Prelude.{Option, Result, Err, IfOk, IfErr}
use Rattle.std.specs.Prelude as result
use Rattle.std.specs.Global.{Vec}
use Rattle.ho_io.specs.Told.{behind, with_item, IsOneOf}
use Rattle.ho_io.specs.Outcome.{IfTooLong}
use Rattle.ho_io.specs.declared.host.Way.{Way}
use Rattle.ho_io.specs.declared.host.Way.TheVariants.{Open}
use Rattle.ho_io.specs.declared.source.ReadError.{ReadError}
use Rattle.ho_io.specs.declared.source.ReadError.TheVariants.{TooLong}
use Rattle.handover_cli.specs.Due.{WroteFront}
use Rattle.handover_cli.specs.ImageRefusals.{IsImageRefusal}
use Rattle.handover_cli.specs.Images.{Seen, seen}
use Rattle.handover_cli.specs.Refusals.{IsRefusal}
use Rattle.handover_cli.specs.Run.{with_opened}
use Rattle.handover_cli.specs.Stops.{StopsAtScript, StopsAtImage}
use Rattle.handover_cli.specs.declared.status.Status.{Status}
use Rattle.handover_cli.specs.declared.status.Status.TheVariants as status
use Rattle.handover_cli.proofs.DueTexts.{front_by, told_due}

-- what is true of an answer, by what is true of it otherwise
pub ok_by : {T E : Type 0} (P Q : T → Type 0) → ((t : T) → P t → Q t) → (r : Result T E) → IfOk r P → IfOk r Q
ok_by P Q by (result.Ok t) h = by t h
ok_by P Q by (result.Err e) h = tt

pub err_by : {T E : Type 0} (P Q : E → Type 0) → ((e : E) → P e → Q e) → (r : Result T E) → IfErr r P → IfErr r Q
err_by P Q by (result.Ok t) h = tt
err_by P Q by (result.Err e) h = by e h

-- what is true of the bytes where too many were read
pub too_many : (P : List ℕ → Type 0) (r : Result (Vec ℕ) ReadError) (error : ReadError) (bytes : Vec ℕ) → r ≡ Err error → error ≡ TooLong bytes → IfTooLong r P → P bytes.items
too_many P r error bytes is long h = subst (λ x. IfTooLong x P) (is ∙ ap Err long) h

-- what is seen, part by part
pub opened_is : (out out' : Option (List ℕ)) (made made' : Option (List (List ℕ × List ℕ))) (asked asked' : Option (List (Way × List ℕ))) (name : List ℕ) → out' ≡ out → made' ≡ made → asked' ≡ with_item asked (Open, name) → seen out' made' asked' ≡ with_opened (seen out made asked) name
opened_is out out' made made' asked asked' name is_out is_made is_asked = λ i. seen (is_out i) (is_made i) (is_asked i)

-- how a run ends at its script, or at its image, by what a host and a status are
module _ {H : Type 0} (told : Option (List ℕ)) (name : List ℕ) (before : Seen) (out : H → Option (List ℕ)) (made : H → Option (List (List ℕ × List ℕ))) (asked : H → Option (List (Way × List ℕ))) (host host' : H) (s s' : Status) (is_host : host ≡ host') (is_status : s ≡ s') where
  pub stops_by : (fresh : Bool) → StopsAtScript fresh told name before (seen (out host') (made host') (asked host')) s' → StopsAtScript fresh told name before (seen (out host) (made host) (asked host)) s
  stops_by fresh h =
      subst (λ (x : Status). StopsAtScript fresh told name before (seen (out host) (made host) (asked host)) x) (sym is_status)
      (subst (λ (x : H). StopsAtScript fresh told name before (seen (out x) (made x) (asked x)) s') (sym is_host) h)

  pub image_stops_by : StopsAtImage told name before (seen (out host') (made host') (asked host')) s' → StopsAtImage told name before (seen (out host) (made host) (asked host)) s
  image_stops_by h =
      subst (λ (x : Status). StopsAtImage told name before (seen (out host) (made host) (asked host)) x) (sym is_status)
      (subst (λ (x : H). StopsAtImage told name before (seen (out x) (made x) (asked x)) s') (sym is_host) h)

module _ (told : Option (List ℕ)) (name : List ℕ) (before now : Seen) (line : List ℕ) where
  pub script_stops : (fresh : Bool) → IsRefusal fresh told line → (s : Status) → (s ≡ status.Script → now.out ≡ behind before.out line) → (s ≡ status.WriteFault → WroteFront (λ text. text ≡ line) before.out now.out)
      → (s ≡ status.Memory → now ≡ with_opened before name) → (s ≡ status.Done → ⊥) → (s ≡ status.Usage → ⊥) → (s ≡ status.ReadFault → ⊥) → (s ≡ status.Image → ⊥) → StopsAtScript fresh told name before now s
  script_stops fresh due status.Script whole part silent done usage unread image = record { line = line; due = due; written = whole refl }
  script_stops fresh due status.WriteFault whole part silent done usage unread image =
      front_by (λ text. text ≡ line) (IsRefusal fresh told) before.out now.out (λ text is. told_due fresh told line text is due) (part refl)
  script_stops fresh due status.Memory whole part silent done usage unread image = silent refl
  script_stops fresh due status.Done whole part silent done usage unread image = done refl
  script_stops fresh due status.Usage whole part silent done usage unread image = usage refl
  script_stops fresh due status.ReadFault whole part silent done usage unread image = absurd (unread refl)
  script_stops fresh due status.Image whole part silent done usage unread image = image refl

  -- a line that is written without memory
  pub length_stops : (fresh : Bool) → IsRefusal fresh told line → (s : Status) → (s ≡ status.Script → now.out ≡ behind before.out line) → (s ≡ status.WriteFault → WroteFront (λ text. text ≡ line) before.out now.out)
      → IsOneOf status.Script status.WriteFault s → StopsAtScript fresh told name before now s
  length_stops fresh due s whole part either = script_stops fresh due s whole part (λ h. absurd (memory s h either)) (done s either) (usage s either) (unread s either) (image s either)
    where
      memory : (s : Status) → s ≡ status.Memory → IsOneOf status.Script status.WriteFault s → ⊥
      memory s h (inl e) = cc
      memory s h (inr e) = cc

      done : (s : Status) → IsOneOf status.Script status.WriteFault s → s ≡ status.Done → ⊥
      done s (inl e) h = cc
      done s (inr e) h = cc

      usage : (s : Status) → IsOneOf status.Script status.WriteFault s → s ≡ status.Usage → ⊥
      usage s (inl e) h = cc
      usage s (inr e) h = cc

      unread : (s : Status) → IsOneOf status.Script status.WriteFault s → s ≡ status.ReadFault → ⊥
      unread s (inl e) h = cc
      unread s (inr e) h = cc

      image : (s : Status) → IsOneOf status.Script status.WriteFault s → s ≡ status.Image → ⊥
      image s (inl e) h = cc
      image s (inr e) h = cc

  pub image_stops : IsImageRefusal told line → (s : Status) → (s ≡ status.Image → now.out ≡ behind before.out line) → (s ≡ status.WriteFault → WroteFront (λ text. text ≡ line) before.out now.out)
      → (s ≡ status.Memory → now ≡ with_opened before name) → (s ≡ status.Done → ⊥) → (s ≡ status.Usage → ⊥) → (s ≡ status.ReadFault → ⊥) → (s ≡ status.Script → ⊥) → StopsAtImage told name before now s
  image_stops due status.Image whole part silent done usage unread script = record { line = line; due = due; written = whole refl }
  image_stops due status.WriteFault whole part silent done usage unread script =
      front_by (λ text. text ≡ line) (IsImageRefusal told) before.out now.out (λ text is. subst (IsImageRefusal told) (sym is) due) (part refl)
  image_stops due status.Memory whole part silent done usage unread script = silent refl
  image_stops due status.Done whole part silent done usage unread script = done refl
  image_stops due status.Usage whole part silent done usage unread script = usage refl
  image_stops due status.ReadFault whole part silent done usage unread script = absurd (unread refl)
  image_stops due status.Script whole part silent done usage unread script = script refl
