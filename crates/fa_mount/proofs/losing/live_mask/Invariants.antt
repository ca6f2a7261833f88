use Rattle.std.proofs.Common.{◌≡◌, ◌&&◌, ℕ, nat_lt}
use Rattle.fa_core.specs.Array.{state_of}
use Rattle.fa_mount_headers.specs.Rules.{is_in}
use Rattle.fa_machine.specs.State.{is_live}
use Rattle.fa_mount.proofs.losing.live_mask.Given as goal

abbrev pub invariant-loop-die : goal.invariant-loop-die
invariant-loop-die g l =
    (k : ℕ) → is_in l.mask k ≡ (nat_lt k l.die && is_live (state_of g.M.Map.view l.array).page_map k)
