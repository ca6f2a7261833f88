use Rattle.fa_core.specs.Array.{state_of}
use Rattle.fa_machine.specs.Step.{is_page as rule_page}
use Rattle.fa_types.specs.declared.geometry.Geometry.{Geometry}
use Rattle.fa_types.specs.declared.numbers.Page.{Page}
use Rattle.std.proofs.Common.{ap, sym, ◌∙◌}
use Rattle.std.proofs.lemmas.List.Folds.{list_all-map}
use Rattle.std.specs.List.{list_all}
use Rattle.std.specs.Prelude.{nat_lt}
use Rattle.fa_core.proofs.array.Array.are_pages.Goals as goal

pub returns : goal.returns
returns g c =
    c.are_below.ensures
    ∙ ap (λ (k : Geometry). list_all (λ (page : Page). nat_lt page.0 k.pages) c.args.pages.now) c.geometry-all.ensures
    ∙ sym (list_all-map (rule_page (state_of g.M.Map.view c.args.self.now)) (λ (page : Page). page.0) c.args.pages.now)
