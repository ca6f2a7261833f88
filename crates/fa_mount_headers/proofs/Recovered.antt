-- Why an array is not recovered, by the images that have a header.
use Rattle.std.proofs.Common.{◌≡◌, ◌∙◌, ℕ, true, List, [], ◌∷◌, ap, refl, sym}
use Rattle.std.specs.Prelude.{Option, Some, None, option_and_then}
use Rattle.fa_mount_headers.specs.Judged.{first_seen}
use Rattle.fa_mount_headers.specs.Recovering.{missed, missed_of, whole_refusal}
use Rattle.fa_mount_headers.specs.Rules.{first_of, greatest_epoch, mask_in, seen_refusal}
use Rattle.fa_mount_headers.specs.declared.fault.MountRefused.{MountRefused}
use Rattle.fa_mount_headers.specs.declared.seen.Seen.{Seen}

alone : (o : Option MountRefused) → first_of (o ∷ []) ≡ o
alone None = refl
alone (Some refused) = refl

module _ (copies : ℕ) (seen : List Seen) where
  pub by_dies : (first : Seen) (epoch mask : ℕ) → seen_refusal copies true seen ≡ None → first_seen seen ≡ Some first
      → epoch ≡ greatest_epoch seen → mask ≡ mask_in epoch seen → missed_of first.header.geometry.dies mask seen ≡ whole_refusal copies seen
  by_dies first epoch mask fine begins is_epoch is_mask =
      sym (
      ap (λ (x : Option MountRefused). first_of (x ∷ missed seen ∷ [])) fine
      ∙ alone (missed seen)
      ∙ ap (option_and_then (λ x. missed_of x.header.geometry.dies (mask_in (greatest_epoch seen) seen) seen)) begins
      ∙ ap (λ (m : ℕ). missed_of first.header.geometry.dies m seen) (sym (is_mask ∙ ap (λ (e : ℕ). mask_in e seen) is_epoch))
      )
