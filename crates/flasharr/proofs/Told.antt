-- From the parts of `talk --array` to what it prints.
use Rattle.std.proofs.Common.{◌≡◌, ◌∙◌, ◌++◌, ℕ, suc, true, List, [], ◌∷◌, Option, Result, ap, length, map, refl, subst, sym, take, inl, inr, string_bytes}
use Rattle.std.proofs.Math.Seq.{take-append_seam}
use Rattle.std.proofs.lemmas.List.{length-map}
use Rattle.fa_image.specs.FileMade.{FileMade, file_is_honest, file_view}
use Rattle.fa_image.specs.Image.{ImageState}
use Rattle.fa_image.specs.declared.file_image.FileImage.{FileImage}
use Rattle.fa_machine.specs.State.{Core}
use Rattle.fa_mount_headers.specs.Found.{AreOnlyRead}
use Rattle.fa_mount_headers.specs.declared.judging.Standing.{Standing}
use Rattle.fa_prog_array.specs.Mounting.{MountsSettings}
use Rattle.fa_prog_host.specs.Opened.{AreOpened}
use Rattle.fa_mount.specs.declared.closing.CloseFault.{CloseFault}
use Rattle.flasharr.specs.Conversation.{Converses}
use Rattle.flasharr.specs.Right.{IsRight}
use Rattle.flasharr.specs.TalkArray.{TellsClient, TellsMounted}
use Rattle.fa_prog_text.specs.Talk.{known}
use Rattle.fa_session.specs.declared.session_end.SessionEnd.{SessionEnd}
use Rattle.fa_settings.specs.declared.settings.Settings.{Settings}
use Rattle.fa_settings.specs.declared.terms.Terms.{Terms}
use Rattle.fa_faults.specs.declared.faults.Fault.{Fault}

-- what was only read is as long as it was
only_long : (xs ys : List ImageState) → AreOnlyRead xs ys → length xs ≡ length ys
only_long [] [] read = refl
only_long [] (y ∷ ys) read = absurd read
only_long (x ∷ xs) [] read = absurd read
only_long (x ∷ xs) (y ∷ ys) read = ap suc (only_long xs ys read.1)

-- images that were lent and only read are all there
pub lent_back : {I : Type 0} (view : I → ImageState) (count : ℕ) (old new rest : List I) → length old ≡ count → AreOnlyRead (map view old) (map view new)
    → take count (new ++ rest) ≡ new
lent_back view count old new rest many read =
    let long : count ≡ length new = sym many ∙ sym (length-map old view) ∙ only_long (map view old) (map view new) read ∙ length-map new view in
    ap (λ n. take n (new ++ rest)) long ∙ take-append_seam new rest

module _ (L M : Type 0) {A : Type 0} (settings : Settings A) (terms : Terms) where
  -- what is told of an array that was mounted is told of the settings' array
  pub mounted_told : (places : List ℕ) (opened lent mounted : List FileImage) (array : List ℕ) (dies : List Standing) (core : Core) (bytes : List ℕ)
      (old new : Option (List ℕ)) (status : ℕ) → AreOpened settings.geometry (length settings.images.items) terms true places opened
      → MountsSettings file_view FileMade settings terms opened mounted array dies core
      → AreOnlyRead (map file_view opened) (map file_view mounted) → length dies ≡ core.page_map.geometry.dies → lent ≡ mounted
      → ((written : List ℕ) (end : SessionEnd) (faults : List Fault) (closed : Result ℕ CloseFault)
      → (c : Converses file_view file_is_honest FileMade L M (string_bytes settings.export) bytes array dies core mounted written end faults closed)
      → IsRight file_view file_is_honest FileMade (string_bytes settings.export) (known bytes c.left [] written) end dies core mounted c.first c.last
      c.session)
      → TellsMounted file_view file_is_honest FileMade L M (string_bytes settings.export) bytes array dies core lent old new status
      → TellsClient L M settings terms bytes old new status
  mounted_told places opened lent mounted array dies core bytes old new status opens mounts only_read many back right
      (inl (written, end, faults, closed, converses, tells)) =
      let its = subst (λ (images : List FileImage). Converses file_view file_is_honest FileMade L M (string_bytes settings.export) bytes array dies core
      images written end faults closed) back converses in
      inr (inl (
        written,
        end,
        faults,
        closed,
        record {
          places = places;
          opened = opened;
          mounted = mounted;
          array = array;
          dies = dies;
          core = core;
          opens = opens;
          mounts = mounts;
          only_read = only_read;
          many = many;
          converses = its;
          right = right written end faults closed its;
        },
        tells,
      ))
  mounted_told places opened lent mounted array dies core bytes old new status opens mounts only_read many back right (inr memory) = inr (inr memory)
