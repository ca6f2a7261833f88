-- What is mounted by headers that were found and judged, once the slots of the dies were read: one for both ways of reading.
use Rattle.std.proofs.Common.{◌≡◌, ◌⊎◌, ℕ, Bool, true, List, None, Result, refl, inl, inr}
use Rattle.std.specs.Result.{IfOk, MatchResult}
use Rattle.fa_image.specs.Image.{ImageCall, ImageAnswer, ImageState}
use Rattle.fa_machine.specs.State.{MapState}
use Rattle.fa_mount_headers.specs.declared.fault.MountFault.TheVariants.{NoMemory}
use Rattle.fa_mount_headers.specs.declared.fault.MountRefused.{MountRefused}
use Rattle.fa_mount_headers.specs.declared.judging.Judged.{Judged}
use Rattle.fa_mount_headers.specs.declared.judging.Standing.{Standing}
use Rattle.fa_mount_headers.specs.Rules.{refused}
use Rattle.fa_mount_scan.specs.ContentReading.{AreOutcomes}
use Rattle.fa_mount_scan.specs.Mounting.{MountsBy, RefusesMount, SayArray}
use Rattle.fa_mount_headers.specs.Recovering.{recovery_refusal}
use Rattle.fa_mount_scan.specs.Recovering.{AreSlotsRefused, RecoversBy, RefusesRecovery, slots_refusal}
use Rattle.fa_mount_scan.specs.Scanned.{IsScan, IsScanRefused, Outcome}
use Rattle.fa_mount_scan.proofs.SlotsScanned.{joined}

module _ {I A T : Type 0} (view : I → ImageState) (made : I → ImageCall → ImageAnswer → I → Type 0) (copies : ℕ) (unclean : Bool)
    (before between after : List I) (judged : Judged A) (say : SayArray A view made copies unclean before between judged)
    (array : T → List ℕ) (epoch : T → ℕ) (clean : T → Bool) (dies : T → List Standing) (m : T → MapState) where
  pub mounted_by : (r : Result T MountRefused)
      → MatchResult r
      (λ x. (outcomes : List Outcome) × AreOutcomes made judged.geometry between after judged.dies.items outcomes
      × IsScan judged.geometry judged.dies.items unclean outcomes (dies x) (m x))
      (λ refusal. (refusal ≡ refused NoMemory)
      ⊎ ((outcomes : List Outcome) × AreOutcomes made judged.geometry between after judged.dies.items outcomes
      × IsScanRefused judged.dies.items unclean outcomes refusal))
      → IfOk r (λ x. (array x ≡ judged.array) × (epoch x ≡ judged.epoch) × (clean x ≡ judged.clean))
      → MatchResult r
      (λ x. MountsBy A view made copies unclean before after say.founds (array x) (epoch x) (clean x) (dies x) (m x))
      (RefusesMount A view made copies unclean before after)
  mounted_by r scanned identity =
      joined r scanned identity
      (λ x p e. (
        record { between = between; judged = judged; headers = say; outcomes = p.0; read = p.1; scan = p.2; identity = e },
        refl,
      ))
      (λ y q. elim q [
        | inl n ↦ inl n
        | inr s ↦ inr (inr (between, judged, say, s.0, s.1, s.2))
      ])

module _ {I A T : Type 0} (view : I → ImageState) (made : I → ImageCall → ImageAnswer → I → Type 0) (copies : ℕ)
    (before between after : List I) (judged : Judged A) (say : SayArray A view made copies true before between judged)
    (whole : recovery_refusal copies say.founds ≡ None)
    (array : T → List ℕ) (epoch : T → ℕ) (clean : T → Bool) (dies : T → List Standing) (m : T → MapState) where
  pub recovered_by : (r : Result T MountRefused)
      → MatchResult r
      (λ x. (outcomes : List Outcome) × AreOutcomes made judged.geometry between after judged.dies.items outcomes
      × IsScan judged.geometry judged.dies.items true outcomes (dies x) (m x)
      × (slots_refusal copies judged.mask judged.dies.items outcomes ≡ None))
      (λ refusal. (refusal ≡ refused NoMemory)
      ⊎ ((outcomes : List Outcome) × AreOutcomes made judged.geometry between after judged.dies.items outcomes
      × AreSlotsRefused copies judged.mask judged.dies.items outcomes refusal))
      → IfOk r (λ x. (array x ≡ judged.array) × (epoch x ≡ judged.epoch) × (clean x ≡ judged.clean))
      → MatchResult r
      (λ x. RecoversBy A view made copies before after say.founds (array x) (epoch x) (clean x) (dies x) (m x))
      (RefusesRecovery A view made copies before after)
  recovered_by r scanned identity =
      joined r scanned identity
      (λ x p e. (
        record {
          mounts = record { between = between; judged = judged; headers = say; outcomes = p.0; read = p.1; scan = p.2; identity = e };
          headers = whole;
          slots = p.3;
        },
        refl,
      ))
      (λ y q. elim q [
        | inl n ↦ inl n
        | inr s ↦ inr (inr (between, judged, say, s.0, s.1, s.2))
      ])
