use Rattle.std.proofs.Common.{List, subst, sym, ◌∙◌}
use Rattle.std.specs.Prelude.{IsTrue, ◌↔◌}
use Rattle.std.proofs.lemmas.Bool.{false≢true}
use Rattle.fa_core.specs.Array.{state_of}
use Rattle.fa_mount_headers.specs.declared.judging.Standing.{Standing}
use Rattle.fa_machine.specs.State.{is_live}
use Rattle.fa_mount.specs.Standings.{AreApart, HaveImages}
use Rattle.fa_mount.proofs.array.MountedArray.has_images.Goals as goal

pub returns-then-are_apart : goal.returns-then-are_apart
returns-then-are_apart g c =
    let live = is_live (state_of g.M.Map.view c.args.self.now.array).page_map in
    let same = c.as_slice-dies.ensures.value in
    let apart = subst (λ (l : List Standing). AreApart l) same (c.are_apart.ensures.0 c.if-are_apart.true) in
    let have = subst (λ (l : List Standing). IsTrue c.have_images.result ↔ HaveImages l live c.args.images) same c.have_images.ensures in (
      (λ is. (apart, have.0 is)),
      (λ both. have.1 both.1),
    )

pub returns-else-are_apart : goal.returns-else-are_apart
returns-else-are_apart g c = (
  (λ is. absurd (false≢true (sym c.if-are_apart.false ∙ is))),
  (λ both. c.are_apart.ensures.1 (subst (λ (l : List Standing). AreApart l) (sym c.as_slice-dies.ensures.value) both.0)),
)
