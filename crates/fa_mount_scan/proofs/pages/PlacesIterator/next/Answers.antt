use Rattle.std.proofs.Common.{rules, ◌+◌, List, ◌∷◌, ◌∙◌, sym, ap}
use Rattle.fa_types.specs.declared.numbers.Die.{Die}
use Rattle.fa_types.specs.declared.numbers.Slot.{Slot}
use Rattle.fa_mount_scan.specs.Pages.{places_left}
use Rattle.fa_mount_scan.proofs.PagesLeft.{left_from}
use Rattle.fa_mount_scan.proofs.pages.PlacesIterator.next.Goals as goal

pub returns-clause-steps : goal.returns-clause-steps
returns-clause-steps g c =
    let at = c.self.inside in
    let m = g.M.Map.view at.map.now in
    let place : Die × Slot = (c.in_ok-die.die, c.in_ok-die.slot) in
    let next = c.next_copy-self-inside in
    sym c.self.view_is ∙ ap (places_left m at.page.0) c.in_ok-die.was
    ∙ ap (λ (l : List (Die × Slot)). place ∷ l) (sym (left_from m at.page.0 (place.0.0 + 1) next.result next.ensures.die next.ensures.slot))

pub returns-clause-goes : goal.returns-clause-goes
returns-clause-goes g c =
    let at = c.self.inside in
    let m = g.M.Map.view at.map.now in
    let place : Die × Slot = (c.in_ok-die.die, c.in_ok-die.slot) in
    let next = c.next_copy-self-inside in
    let steps =
    sym c.self.view_is ∙ ap (places_left m at.page.0) c.in_ok-die.was
    ∙ ap (λ (l : List (Die × Slot)). place ∷ l) (sym (left_from m at.page.0 (place.0.0 + 1) next.result next.ensures.die next.ensures.slot)) in
    search rules
