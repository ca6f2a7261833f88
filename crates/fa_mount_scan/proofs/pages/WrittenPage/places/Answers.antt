use Rattle.std.proofs.Common.{◌≤◌, ◌∙◌, length, sym, ap, subst}
use Rattle.fa_mount_scan.specs.Pages.{Written}
use Rattle.fa_mount_scan.proofs.PagesGiven.{few_places}
use Rattle.fa_mount_scan.proofs.PagesLeft.{left_from, left_of_all}
use Rattle.fa_mount_scan.proofs.pages.WrittenPage.places.Goals as goal

pub returns-clause-current : goal.returns-clause-current
returns-clause-current g c =
    left_of_all (g.M.Map.view c.self.inside.map.now) c.self.inside.page.0 c.first_copy.result c.first_copy.ensures.die c.first_copy.ensures.slot
    ∙ ap (λ (w : Written). w.places) c.self.view_is

pub returns-clause-few : goal.returns-clause-few
returns-clause-few g c =
    let m = g.M.Map.view c.self.inside.map.now in
    subst (λ l. length l ≤ 64) (sym (left_from m c.self.inside.page.0 0 c.first_copy.result c.first_copy.ensures.die c.first_copy.ensures.slot))
    (few_places m c.self.inside.page.0)
