use Rattle.fa_machine.specs.Copies.{holders, holds_page}
use Rattle.fa_machine.specs.State.{dies_of}
use Rattle.fa_core_read_pages.proofs.Finds.{none_filtered}
use Rattle.fa_core_read_pages.proofs.lost.is_lost.Goals as goal
use Rattle.fa_types.specs.declared.numbers.Die.{Die}
use Rattle.fa_types.specs.declared.numbers.Slot.{Slot}
use Rattle.std.proofs.Common.{None, Option, Some, ap, arith, length, refl, rules, sym, true, ◌∙◌, ◌≡◌}
use Rattle.std.specs.FinMap.{get}
use Rattle.std.specs.List.{range_with_len}
use Rattle.std.specs.Prelude.{find, is_none, is_some, option_map, ◌&&◌, ◌-◌, ◌==◌}

none_mapped : (o : Option (Die × Slot)) → is_none o ≡ is_none (option_map (λ (copy : Die × Slot). copy.0.0) o)
none_mapped None = refl
none_mapped (Some copy) = refl

pub returns-then-is_some : goal.returns-then-is_some
returns-then-is_some g c =
    let m = g.M.Map.view c.args.page_map.now in
    let written : is_some (get m.versions c.args.page.0) ≡ true = search rules in
    let all : m.geometry.dies - 0 ≡ m.geometry.dies = omega arith in
    let none : c.is_none.result ≡ is_none c.first_copy.result = search rules in
    none ∙ none_mapped c.first_copy.result ∙ ap is_none c.first_copy.ensures.die
    ∙ ap (λ n. is_none (find (holds_page m c.args.page.0) (range_with_len 0 n))) all
    ∙ sym (none_filtered (holds_page m c.args.page.0) (dies_of m))
    ∙ sym (ap (λ b. b && length (holders m c.args.page.0) == 0) written)
