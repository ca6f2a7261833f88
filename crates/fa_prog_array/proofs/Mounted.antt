-- What mounting the images of the settings' array comes to, from its parts.
use Rattle.std.proofs.Common.{◌≡◌, ◌≢◌, ℕ, List, MatchResult, OnOk, Result, Ok, Err, inl, inr, subst, sym, ◌∙◌}
use Rattle.std.specs.declared.alloc.Global.{Global}
use Rattle.fa_image.specs.Image.{ImageAnswer, ImageCall, ImageState}
use Rattle.fa_machine.specs.State.{Core}
use Rattle.fa_mount.specs.MountsArray.{MountsArrayBy, RefusesArray}
use Rattle.fa_mount.specs.RecoversArray.{RecoversArrayBy, RefusesRecovered}
use Rattle.fa_mount_headers.specs.Expected.{IsExpected}
use Rattle.fa_mount_headers.specs.Found.{IsReadOf}
use Rattle.fa_mount_headers.specs.declared.fault.MountRefused.{MountRefused}
use Rattle.fa_mount_headers.specs.declared.found.Found.{Found}
use Rattle.fa_mount_headers.specs.declared.judging.Standing.{Standing}
use Rattle.fa_prog_array.specs.Mounting.{MountsSettings, RefusesSettingsArray}
use Rattle.fa_settings.specs.Terms.{leaves_aside}
use Rattle.fa_settings.specs.declared.settings.Settings.{Settings}
use Rattle.fa_settings.specs.declared.terms.Terms.{Terms}
use Rattle.fa_settings.specs.declared.terms.Terms.TheVariants.{Whole}

-- the headers were read and are those of the settings' array, and by them the images were mounted, or not
module _ {I A R : Type 0} (view : I → ImageState) (made : I → ImageCall → ImageAnswer → I → Type 0) (settings : Settings A) (terms : Terms)
    (number : R → List ℕ) (dies : R → List Standing) (core : R → Core) (before between after : List I) (founds : List Found)
    (read : IsReadOf view made before between founds)
    (expected : IsExpected settings.geometry settings.array (leaves_aside terms) founds (Ok tt)) (t : Terms) (is : terms ≡ t) where
  expected_at : IsExpected settings.geometry settings.array (leaves_aside t) founds (Ok tt)
  expected_at = subst (λ (s : Terms). IsExpected settings.geometry settings.array (leaves_aside s) founds (Ok tt)) is expected

  abbrev Comes : Terms → Result R MountRefused → Type 0
  Comes s result =
      MatchResult result (λ m. MountsSettings view made settings s before after (number m) (dies m) (core m))
      (RefusesSettingsArray view made settings s before after)

  pub plain : t ≢ Whole → (result : Result R MountRefused)
      → MatchResult result
      (λ m. MountsArrayBy Global view made settings.copies.number (leaves_aside t) before after founds (number m) (dies m) (core m))
      (RefusesArray Global view made settings.copies.number (leaves_aside t) before after)
      → Comes terms result
  plain other (Ok m) mounts =
      subst (λ (s : Terms). MountsSettings view made settings s before after (number m) (dies m) (core m)) (sym is)
      (record { founds = founds; expected = expected_at; mounts = mounts.0; by_these = mounts.1; whole = λ same. absurd (other same) })
  plain other (Err refusal) refuses =
      subst (λ (s : Terms). RefusesSettingsArray view made settings s before after refusal) (sym is)
      (inr (founds, between, read, expected_at, inl refuses))

  pub whole : t ≡ Whole → (result : Result R MountRefused)
      → MatchResult result
      (λ m. RecoversArrayBy Global view made settings.copies.number before after founds (number m) (dies m) (core m))
      (RefusesRecovered Global view made settings.copies.number before after)
      → Comes terms result
  whole same (Ok m) recovers =
      subst (λ (s : Terms). MountsSettings view made settings s before after (number m) (dies m) (core m)) (sym same ∙ sym is)
      (record {
        founds = founds;
        expected = subst (λ (s : Terms). IsExpected settings.geometry settings.array (leaves_aside s) founds (Ok tt)) same expected_at;
        mounts = recovers.0.mounts;
        by_these = recovers.1;
        whole = λ again. (recovers.0.headers, recovers.0.slots);
      })
  whole same (Err refusal) refuses = inr (founds, between, read, expected, inr (is ∙ same, refuses))

-- what is told of a call however it ends is told where it is accepted
pub however : {T E : Type 0} {P : Type 0} (result : Result T E) → P → OnOk result P
however (Ok done) told = told
however (Err fault) told = tt
