-- What is told of an array whose images were opened, and why nothing is.
use Rattle.std.proofs.Common.{◌≡◌, ℕ, Bool, true, false, List, map, length, refl, sym, subst, inl, inr}
use Rattle.fa_image.specs.FileMade.{file_view, FileMade}
use Rattle.fa_image.specs.declared.file_image.FileImage.{FileImage}
use Rattle.fa_map.specs.PageView.{page_view}
use Rattle.fa_mount_headers.specs.declared.fault.MountRefused.{MountRefused}
use Rattle.fa_mount_headers.specs.declared.found.Found.{Found}
use Rattle.fa_settings.specs.Terms.{is_whole}
use Rattle.fa_settings.specs.declared.settings.Settings.{Settings}
use Rattle.fa_settings.specs.declared.terms.Terms.{Terms}
use Rattle.fa_prog_images.specs.Array.{IsTold, IsText, IsLines, IsDocument, IsNotTold, not_told_of}
use Rattle.fa_prog_images.specs.Mount.{Array, MountsArray, RefusesArray}
use Rattle.fa_prog_host.specs.Opened.{AreOpened, IsNotOpened}
use Rattle.fa_prog_host.specs.declared.images.NotOpened.{NotOpened}
use Rattle.fa_prog_host.specs.declared.images.NotOpened.TheVariants.{Image, NoMemory, PagesLost}
use Rattle.fa_prog_images.specs.declared.look.Asked.{Asked}
use Rattle.fa_prog_images.specs.declared.look.NotTold.{NotTold}
use Rattle.fa_prog_images.specs.declared.look.NotTold.TheVariants as told

module _ {A W : Type 0} (f : W → FileImage) (settings : Settings A) (terms : Terms) where
  -- images that were not opened
  pub opening_told : (refused : NotOpened) (t : NotTold) → t ≡ not_told_of refused → IsNotOpened terms refused → IsNotTold settings terms t
  opening_told NoMemory t is why = subst (IsNotTold settings terms) (sym is) tt
  opening_told Image t is why = subst (IsNotTold settings terms) (sym is) (inl (Image, why, refl))
  opening_told PagesLost t is why = subst (IsNotTold settings terms) (sym is) (inl (PagesLost, why, refl))

  -- images that were synced where all dies have to be there, by whoever decided on that
  pub synced_if : (syncs : Bool) → syncs ≡ is_whole terms → (places : List ℕ) (images : List W)
      → AreOpened settings.geometry (length settings.images.items) terms syncs places (map f images)
      → AreOpened settings.geometry (length settings.images.items) terms (is_whole terms) places (map f images)
  synced_if syncs is places images are =
      subst (λ (b : Bool). AreOpened settings.geometry (length settings.images.items) terms b places (map f images)) is are

  module _ (places : List ℕ) (opened now new : List W) (is : now ≡ opened)
      (are : AreOpened settings.geometry (length settings.images.items) terms (is_whole terms) places (map f opened)) where
    are_now : AreOpened settings.geometry (length settings.images.items) terms (is_whole terms) places (map f now)
    are_now =
        subst (λ images. AreOpened settings.geometry (length settings.images.items) terms (is_whole terms) places (map f images)) (sym is) are

    -- images that were not mounted
    pub mounting_told : (refusal : MountRefused) (t : NotTold) → t ≡ told.Mount refusal.fault
        → RefusesArray file_view FileMade settings terms (map f now) (map f new) refusal → IsNotTold settings terms t
    mounting_told refusal t same refuses =
        subst (IsNotTold settings terms) (sym same) (inr (places, map f now, map f new, refusal, are_now, refuses, refl))

    module _ (founds : List Found) (mounted : Array)
        (mounts : MountsArray file_view FileMade settings terms (map f now) (map f new) founds mounted) (asked : Asked) (json : Bool)
        (text : List ℕ) where
      told_so : IsText settings asked json places founds mounted text → IsTold settings asked terms json text
      told_so says = record {
        places = places;
        before = map f now;
        after = map f new;
        founds = founds;
        mounted = mounted;
        opened = are_now;
        mounts = mounts;
        says = says;
      }

      pub lines_told : json ≡ false → IsLines page_view settings.copies.number asked mounted text → IsTold settings asked terms json text
      lines_told plain lines = told_so (subst (λ b. IsText settings asked b places founds mounted text) (sym plain) lines)

      pub document_told : json ≡ true → (seen : List ℕ) → seen ≡ places → (found : List Found) → found ≡ founds
          → IsDocument page_view settings asked seen found mounted text → IsTold settings asked terms json text
      document_told wanted seen same found same_found document =
          told_so (subst (λ b. IsText settings asked b places founds mounted text) (sym wanted)
          (subst (λ p. IsDocument page_view settings asked p founds mounted text) same
          (subst (λ fs. IsDocument page_view settings asked seen fs mounted text) same_found document)))
