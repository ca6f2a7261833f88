use Rattle.std.proofs.Common.{◌≡◌, ℕ, ◌≤◌, [], get_or}
use Rattle.std.specs.Prelude.{vec_capacity, vec_len}
use Rattle.fa_core_tables.specs.Queues.{queues_in}
use Rattle.fa_core_tables.proofs.waiting.Waiting.new.Given as goal

abbrev pub ghost-begin : goal.ghost-begin
ghost-begin g a = λ dies. []

-- there is room for all queues, and those made so far are empty
abbrev pub invariant-loop : goal.invariant-loop
invariant-loop g l = record {
  long : vec_len l.queues ≡ l.counter;
  room : l.dies ≤ vec_capacity l.queues;
  empty : (d : ℕ) → get_or (queues_in l.queues.items) d [] ≡ [];
}
