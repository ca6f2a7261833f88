-- What is mounted on some terms, by what is mounted without them.
use Rattle.std.proofs.Common.{◌≡◌, ◌≢◌, List, Ok, inl, inr, subst, sym}
use Rattle.std.specs.declared.alloc.Global.{Global}
use Rattle.fa_image.specs.Image.{ImageState, ImageCall, ImageAnswer}
use Rattle.fa_map.specs.PageView.{page_view}
use Rattle.fa_mount_headers.specs.Expected.{IsExpected}
use Rattle.fa_mount_headers.specs.declared.fault.MountRefused.{MountRefused}
use Rattle.fa_mount_headers.specs.declared.found.Found.{Found}
use Rattle.fa_mount_scan.specs.Mounting.{MountsBy, RefusesMount}
use Rattle.fa_mount_scan.specs.Recovering.{RecoversBy, RefusesRecovery}
use Rattle.fa_prog_images.specs.Mount.{Array, MountsArray, RefusesByTerms}
use Rattle.fa_settings.specs.Terms.{leaves_aside}
use Rattle.fa_settings.specs.declared.settings.Settings.{Settings}
use Rattle.fa_settings.specs.declared.terms.Terms.{Terms}
use Rattle.fa_settings.specs.declared.terms.Terms.TheVariants.{Whole}

module _ {I A : Type 0} (view : I → ImageState) (made : I → ImageCall → ImageAnswer → I → Type 0) (settings : Settings A) (terms : Terms)
    (before after : List I) where
  -- these are the terms
  module _ (t : Terms) (is : terms ≡ t) where
    module _ (founds : List Found) (mounted : Array)
        (expected : IsExpected settings.geometry settings.array (leaves_aside terms) founds (Ok tt)) where
      expected_at : IsExpected settings.geometry settings.array (leaves_aside t) founds (Ok tt)
      expected_at = subst (λ (s : Terms). IsExpected settings.geometry settings.array (leaves_aside s) founds (Ok tt)) is expected

      pub plain : t ≢ Whole → MountsBy Global view made settings.copies.number (leaves_aside t) before after founds
          mounted.array mounted.epoch mounted.clean mounted.dies.items (page_view mounted.map)
          → MountsArray view made settings terms before after founds mounted
      plain other by =
          subst (λ (s : Terms). MountsArray view made settings s before after founds mounted) (sym is)
          (record { expected = expected_at; mounts = by.0; by_these = by.1; whole = λ same. absurd (other same) })

    pub plain_refused : (refusal : MountRefused) → RefusesMount Global view made settings.copies.number (leaves_aside t) before after refusal
        → RefusesByTerms view made settings terms before after refusal
    plain_refused refusal why =
        inl (subst (λ (s : Terms). RefusesMount Global view made settings.copies.number (leaves_aside s) before after refusal) (sym is) why)

  pub whole : terms ≡ Whole → (founds : List Found) (mounted : Array)
      → IsExpected settings.geometry settings.array (leaves_aside terms) founds (Ok tt)
      → RecoversBy Global view made settings.copies.number before after founds
      mounted.array mounted.epoch mounted.clean mounted.dies.items (page_view mounted.map)
      → MountsArray view made settings terms before after founds mounted
  whole is founds mounted expected by =
      subst (λ (s : Terms). MountsArray view made settings s before after founds mounted) (sym is)
      (record {
        expected = expected_at Whole is founds mounted expected;
        mounts = by.0.mounts;
        by_these = by.1;
        whole = λ same. (by.0.headers, by.0.slots);
      })

  pub whole_refused : terms ≡ Whole → (refusal : MountRefused) → RefusesRecovery Global view made settings.copies.number before after refusal
      → RefusesByTerms view made settings terms before after refusal
  whole_refused is refusal why = inr (is, why)
