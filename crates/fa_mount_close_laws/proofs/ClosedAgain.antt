-- An array that was closed behind a drive is one that was closed in the world to which the drive leads.
use Rattle.fa_mount_close_laws.specs.Closed.{WasClosed}
use Rattle.fa_mount_headers.specs.declared.judging.Standing.{Standing}
use Rattle.fa_image.specs.Image.{ImageAnswer, ImageCall, ImageState}
use Rattle.fa_machine.specs.State.{Core, is_live}
use Rattle.fa_machine.specs.World.{World}
use Rattle.fa_mount.specs.Closing.{Closes}
use Rattle.fa_mount.specs.Standings.{HaveImages}
use Rattle.fa_mount_close_laws.specs.DrivenClosed.{ClosesDriven}
use Rattle.fa_mount_close_laws.specs.Drives.{AreImages, Driven}
use Rattle.std.proofs.Common.{List, Ok, ap, length, subst, sym, ℕ, ◌+◌, ◌^◌, ◌∙◌, ◌≡◌, ◌≤◌}
use Rattle.std.specs.FinMap.{len}

module _ {I : Type 0} (view : I → ImageState) (made : I → ImageCall → ImageAnswer → I → Type 0) where
  pub was_closed : (w : World) (last : Driven I) (array : List ℕ) (dies : List Standing) (before after : List I) (mask : ℕ)
      → w.core ≡ last.core → AreImages view w last.images → ClosesDriven made last array dies before after mask
      → WasClosed view made w array dies before after mask
  was_closed w last array dies before after mask same are closes =
      let back = sym same in
      record {
        closes = subst (λ (c : Core). Closes made c array dies before after (Ok mask)) back closes.closes;
        have = subst (λ (c : Core). HaveImages dies (is_live c.page_map) (length before)) back closes.have;
        images = λ die index image live place at.
            let is = are die image (closes.images die image (sym (ap (λ (c : Core). is_live c.page_map die) same) ∙ live) (index, place, at)) in
            (is.shape, is.cells);
        number = closes.number;
        first = subst (λ (c : Core). 1 ≤ c.epoch) back closes.first;
        room = subst (λ (c : Core). c.epoch + len c.page_map.live ≤ 2 ^ 62) back closes.room;
      }
