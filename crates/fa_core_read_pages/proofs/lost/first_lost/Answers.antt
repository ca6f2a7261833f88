use Rattle.fa_machine.specs.Copies.{is_lost}
use Rattle.fa_core_read_pages.proofs.Finds.{find_mapped, next_fails, next_passes, none_at_end}
use Rattle.fa_core_read_pages.proofs.lost.first_lost.Goals as goal
use Rattle.fa_types.specs.declared.numbers.Page.{Page}
use Rattle.std.proofs.Common.{ap, arith, rules, suc, sym, ℕ, ◌+◌, ◌∙◌, ◌≡◌}
use Rattle.std.specs.Prelude.{find, option_map, take}

plus_one : (n : ℕ) → n + 1 ≡ suc n
plus_one n = omega arith

pub returns-then-is_lost : goal.returns-then-is_lost
returns-then-is_lost g c =
    sym (ap (option_map (λ (page : Page). page.0))
    (next_passes (λ (page : Page). is_lost (g.M.Map.view c.args.page_map.now) page.0) c.args.pages.now c.loop-page.page-index
    (record { 0 = 0 }) (search rules)
    c.loop-page.invariant (search rules)))
    ∙ find_mapped (λ (page : Page). page.0) (is_lost (g.M.Map.view c.args.page_map.now)) c.args.pages.now

pub loop-page-preserved : goal.loop-page-preserved
loop-page-preserved g c =
    ap (λ n. find (λ (page : Page). is_lost (g.M.Map.view c.args.page_map.now) page.0) (take n c.args.pages.now)) (plus_one
    c.loop-page.page-index)
    ∙ next_fails (λ (page : Page). is_lost (g.M.Map.view c.args.page_map.now) page.0) c.args.pages.now c.loop-page.page-index
    (record { 0 = 0 }) (search rules)
    c.loop-page.invariant (search rules)

pub returns : goal.returns
returns g c =
    ap (option_map (λ (page : Page). page.0)) (sym (none_at_end (λ (page : Page). is_lost (g.M.Map.view c.args.page_map.now) page.0)
    c.args.pages.now c.loop-page.page-index (search rules) c.loop-page.invariant))
    ∙ find_mapped (λ (page : Page). page.0) (is_lost (g.M.Map.view c.args.page_map.now)) c.args.pages.now
