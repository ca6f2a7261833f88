use Rattle.std.proofs.Common.{◌≡◌, ◌≤◌, count_by}
use Rattle.fa_machine.specs.Copies.{holds_page}
use Rattle.fa_machine.specs.Maps.{below}
use Rattle.fa_plain_map.proofs.plain_map.PlainMapMap.copies_of.Given as goal

abbrev pub invariant-loop-die : goal.invariant-loop-die
invariant-loop-die g l = record {
  few : l.copies ≤ l.die;
  counted : l.copies ≡ count_by (holds_page l.self.history.shown l.page.0) (below l.die);
}
