use Rattle.std.proofs.Common.{◌≡◌, ◌<◌, ◌&&◌, ℕ, false}
use Rattle.fa_core.specs.Array.{state_of}
use Rattle.fa_mount_headers.specs.Rules.{is_in}
use Rattle.fa_machine.specs.Copies.{holds_page}
use Rattle.fa_mount.proofs.losing.is_held.Given as goal

abbrev pub invariant-loop-die : goal.invariant-loop-die
invariant-loop-die g l =
    (k : ℕ) → k < l.die → (is_in l.mask k && holds_page (state_of g.M.Map.view l.array).page_map l.page.0 k) ≡ false
