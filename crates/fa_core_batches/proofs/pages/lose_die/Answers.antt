use Rattle.fa_core_batches.specs.Pages.{page_at, with_die_out}
use Rattle.std.proofs.Common.{ap, rules, ◌∙◌}
use Rattle.std.proofs.lemmas.Map.Made.{lookup-map_values, map_same_pairs}
use Rattle.std.specs.Prelude.{◌==◌, ◌&&◌}
use Rattle.fa_core_batches.proofs.pages.lose_die.Goals as goal

pub returns : goal.returns
returns g c b p =
    ap (λ es. page_at es b p)
    (map_same_pairs _ (with_die_out c.args.die.0) _ (λ k v b w f' t. search rules) _ _ c.retain.ensures.filtered)
    ∙ lookup-map_values (with_die_out c.args.die.0) (λ place. b == place.0 && p == place.1) c.args.pages.now.entries
