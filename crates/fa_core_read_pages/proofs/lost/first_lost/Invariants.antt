use Rattle.fa_machine.specs.Copies.{is_lost}
use Rattle.fa_core_read_pages.proofs.lost.first_lost.Given as goal
use Rattle.fa_types.specs.declared.numbers.Page.{Page}
use Rattle.std.proofs.Common.{None, ◌≡◌}
use Rattle.std.specs.Prelude.{find, take}

abbrev pub invariant-loop-page : goal.invariant-loop-page
invariant-loop-page g l = find (λ (page : Page). is_lost (g.M.Map.view l.page_map) page.0) (take l.page-index l.pages) ≡ None
