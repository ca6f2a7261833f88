use Rattle.std.proofs.Common.{◌≡◌, ◌+◌, ◌≤◌}
use Rattle.std.specs.List.{sum_by}
use Rattle.fa_shared_request.proofs.Tiles.{IsEdge}
use Rattle.fa_shared_request.specs.PartCounts.{left_in, pages_between, refusals_in}
use Rattle.fa_shared_request.proofs.parts.parts_of.Given as goal

-- the parts so far have the pages before the offset that was reached
abbrev pub invariant-loop : goal.invariant-loop
invariant-loop g l = record {
  within : l.from ≤ l.end;
  edge : IsEdge l.page_bytes l.end l.edge;
  left : sum_by left_in l.parts.items + pages_between l.page_bytes l.request l.from l.end
      ≡ pages_between l.page_bytes l.request l.offset l.end;
  begun : sum_by refusals_in l.parts.items ≡ 0;
}
