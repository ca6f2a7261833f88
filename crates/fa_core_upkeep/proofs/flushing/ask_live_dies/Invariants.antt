use Rattle.fa_core_upkeep.proofs.flushing.ask_live_dies.Given as goal
use Rattle.fa_machine.specs.State.{is_live}
use Rattle.fa_core_tables.specs.Dies.{bound_of, by_die}
use Rattle.std.proofs.Common.{◌≡◌, ℕ, ◌<◌, ◌≤◌, Some, cond, false, get_or, length}
use Rattle.std.specs.FinMap.{get}

abbrev pub invariant-loop-die : goal.invariant-loop-die
invariant-loop-die g l = record {
  long : length l.live ≡ 64;
  marked : (k : ℕ) → k < l.die → get_or l.live k false ≡ is_live (g.M.Map.view l.page_map) k;
  unmarked : (k : ℕ) → l.die ≤ k → get_or l.live k false ≡ false;
  bound : bound_of l.asked ≡ bound_of l.fn.asked;
  asked : (k : ℕ) → k < l.die → get (by_die l.asked) k
      ≡ cond (is_live (g.M.Map.view l.page_map) k) (Some l.number) (get (by_die l.fn.asked) k);
  kept : (k : ℕ) → l.die ≤ k → get (by_die l.asked) k ≡ get (by_die l.fn.asked) k;
}
