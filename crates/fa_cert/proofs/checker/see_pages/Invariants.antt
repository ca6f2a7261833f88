use Rattle.std.proofs.Common.{◌≡◌, ◌==◌, true, take, length, IsTrue, ◌↔◌}
use Rattle.std.specs.List.{list_any}
use Rattle.fa_cert.specs.Marks.{AreMarks}
use Rattle.fa_batch_terms.specs.Plan.{ArePlacedOnce, AreHeld}
use Rattle.fa_cert.proofs.checker.see_pages.Given as goal

abbrev pub invariant-loop-index : goal.invariant-loop-index
invariant-loop-index g l = record {
  long : length l.placed ≡ 1024;
  placed : AreMarks l.batch (λ page. list_any (λ x. x.page.0 == page) (take l.index l.places)) l.placed;
  once : l.once ≡ true → ArePlacedOnce (take l.index l.places);
  held : IsTrue l.held ↔ AreHeld l.batch (take l.index l.places);
}
