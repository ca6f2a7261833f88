use Rattle.std.proofs.Common.{◌≡◌, ◌<◌, ℕ, true, Some}
use Rattle.fa_core.specs.Array.{state_of}
use Rattle.fa_machine.specs.State.{is_live}
use Rattle.fa_mount.specs.Standings.{place_on}
use Rattle.fa_mount.proofs.fitting.have_images.Given as goal

abbrev pub invariant-loop-die : goal.invariant-loop-die
invariant-loop-die g l =
    (k : ℕ) → k < l.die → is_live (state_of g.M.Map.view l.array).page_map k ≡ true
    → (index : ℕ) × (place_on l.dies k ≡ Some index) × (index < l.images)
