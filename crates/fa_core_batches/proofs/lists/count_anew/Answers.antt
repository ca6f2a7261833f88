use Rattle.fa_core_batches.proofs.Recounted.{each_written}
use Rattle.fa_core_batches.specs.Counted.{counted_anew}
use Rattle.std.proofs.Common.{rules, ◌≡◌}
use Rattle.fa_core_batches.proofs.lists.count_anew.Goals as goal

pub returns : goal.returns
returns g c b =
    each_written _ (counted_anew c.args.pages.now.entries) _ (λ k v b w f' t.
    let value : t.left.now ≡ w = search (t.leaves, rules) in
    let key : t.key.now ≡ k = search (t.leaves, t.shows, rules) in
    let old : t.value.now ≡ v = search (t.shows, rules) in
    let counted : t.left.now ≡ counted_anew c.args.pages.now.entries t.key.now t.value.now = search (t.called, rules) in
    let same : f'.0 ≡ c.args.pages = search (t.called, rules) in
    (search rules, search (value, key, old, counted, rules), search (same, rules))) _ _ c.retain.ensures.filtered b
