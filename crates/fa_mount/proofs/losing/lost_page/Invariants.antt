use Rattle.std.proofs.Common.{◌≡◌, ◌<◌, ℕ, false}
use Rattle.fa_core.specs.Array.{state_of}
use Rattle.fa_mount.specs.Closing.{is_lost_in}
use Rattle.fa_mount.proofs.losing.lost_page.Given as goal

abbrev pub invariant-loop-page : goal.invariant-loop-page
invariant-loop-page g l = (k : ℕ) → k < l.page → is_lost_in (state_of g.M.Map.view l.array).page_map l.mask k ≡ false
