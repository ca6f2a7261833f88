-- A live die whose header no job wrote in the life before was live in that one too.
use Rattle.fa_crash.specs.Flushed.{is_of_array}
use Rattle.fa_crash.specs.Behind.{AreImagesLeft, IsLiveSeen}
use Rattle.fa_machine.specs.Cells.{Cell}
use Rattle.fa_machine.specs.State.{is_live}
use Rattle.fa_machine.specs.World.{HeaderTells, World}
use Rattle.fa_mount_headers.specs.declared.seen.Seen.{Seen}
use Rattle.fa_mount_scan.specs.MountedWorld.{SlotBytes}
use Rattle.std.proofs.Common.{List, None, Option, ap, inl, inr, sym, true, ℕ, ◌∙◌, ◌≡◌}
use Rattle.std.proofs.lemmas.Bool.{or_cases, true≢false}
use Rattle.std.specs.FinMap.{contains_key}

pub unheard : (first : World) (told : ℕ → HeaderTells) (cells : ℕ → ℕ → Cell) (heads : ℕ → Option HeaderTells) (seen : List Seen) (bytes : SlotBytes)
    → AreImagesLeft first told cells heads seen bytes → (die : ℕ) → IsLiveSeen seen die → is_of_array first die ≡ true → heads die ≡ None
    → is_live first.core.page_map die ≡ true
unheard first told cells heads seen bytes left die d there none =
    elim (or_cases (is_live first.core.page_map die) (contains_key first.core.spares die) there) [
      | inl alive ↦ alive
      | inr spare ↦ absurd (true≢false (sym (left.marked d.x d.among (ap heads d.die_is ∙ none) (ap (contains_key first.core.spares) d.die_is ∙ spare))
          ∙ d.plain))
    ]
