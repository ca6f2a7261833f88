use Rattle.fa_machine.specs.Reading.{entries_for, to_read}
use Rattle.fa_core_read_pages.proofs.asking.list_written.Given as goal
use Rattle.fa_types.specs.declared.numbers.Page.{Page}
use Rattle.std.proofs.Common.{map, ◌≡◌}
use Rattle.std.specs.Prelude.{take}

abbrev pub invariant-loop-page : goal.invariant-loop-page
invariant-loop-page g l =
    l.batch ≡ entries_for (g.M.Map.view l.page_map) (to_read (g.M.Map.view l.page_map) (map (λ (page : Page). page.0)
    (take l.page-index l.pages)))
