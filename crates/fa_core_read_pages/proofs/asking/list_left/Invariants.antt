use Rattle.fa_core_batches.specs.Batches.{state_of}
use Rattle.fa_machine.specs.Reading.{entries_for}
use Rattle.fa_core_read_pages.proofs.asking.list_left.Given as goal
use Rattle.fa_core_read_pages.specs.Left.{left_among}
use Rattle.fa_types.specs.declared.numbers.Page.{Page}
use Rattle.std.proofs.Common.{map, ◌≡◌}
use Rattle.std.specs.Prelude.{take}

abbrev pub invariant-loop-page : goal.invariant-loop-page
invariant-loop-page g l =
    l.entries ≡ entries_for (g.M.Map.view l.page_map)
    (left_among (state_of l.batches l.batch.0) (map (λ (page : Page). page.0) (take l.page-index l.pages)))
