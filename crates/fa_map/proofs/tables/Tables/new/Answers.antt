use Rattle.std.proofs.Common.{◌≡◌, ℕ, ◌*◌, List, ap, get_or, refl, ◌∙◌}
use Rattle.std.specs.FinMap.{contains_key}
use Rattle.fa_map.specs.Chains.{entry_at}
use Rattle.fa_map.specs.Entries.{no_counts}
use Rattle.fa_map_calls.specs.Plain.{die_slots}
use Rattle.fa_map.specs.declared.entries.Entry.{Entry}
use Rattle.fa_map.specs.declared.entries.Entry.TheVariants.{Erased}
use Rattle.fa_map_calls.specs.declared.slots.BlockCounts.{BlockCounts}
use Rattle.fa_map.proofs.Few.{few_new}
use Rattle.fa_map.proofs.Found.{found_whole, new_found, none_stale}
use Rattle.fa_map.proofs.Rewritten.{new_written}
use Rattle.fa_map.proofs.Seconds.{new_inside, new_seconds}
use Rattle.fa_map.proofs.Tabled.{fresh, new_tables, tables_told}
use Rattle.fa_map_calls.proofs.Written.{repeated}
use Rattle.fa_map.proofs.tables.Tables.new.Goals as goal

pub invariant_of-result : goal.invariant_of-result
invariant_of-result g c =
    let slots = c.in_ok-slots.slots in
    let pages = c.in_ok-pages.pages in
    let counts = c.in_ok-counts.ensures.items_if_clones_equal (λ y same. same) in
    let erased = c.in_ok-erased.ensures.items_if_clones_equal (λ y same. same) in
    let each : (k : ℕ) → entry_at slots.entries k ≡ Erased = λ k. ap (λ (l : List Entry). entry_at l k) c.in_ok-slots.ensures.entries ∙ repeated (c.args.geometry.dies * die_slots c.args.geometry) k Erased in
    record {
      sound = tables_told c.args.geometry _ _ _ _ _ _ _ _ _ _ c.in_ok-slots.ensures.entries c.in_ok-slots.ensures.links c.in_ok-pages.ensures.heads counts erased (new_tables c.args.geometry);
      inside = new_inside slots.links c.args.geometry.dies (die_slots c.args.geometry) _ c.in_ok-slots.ensures.links;
      seconds = new_seconds slots.links pages.heads pages.seconds (die_slots c.args.geometry) c.args.geometry.pages c.in_ok-pages.ensures.heads c.in_ok-pages.ensures.seconds;
      written = new_written slots.entries slots.links slots.written pages.seconds (die_slots c.args.geometry) _ c.in_ok-slots.ensures.links c.in_ok-slots.ensures.written;
      counted = few_new c.args.geometry slots.entries c.in_ok-few.few each c.in_ok-few.ensures;
      found = found_whole c.args.geometry slots.entries c.in_ok-counts.counts.items c.in_ok-finder.finder c.in_ok-finder.ensures.slots c.in_ok-finder.ensures.blocks
          (new_found c.args.geometry slots.entries c.in_ok-counts.counts.items (contains_key c.in_ok-finder.finder.slots) (contains_key c.in_ok-finder.finder.blocks)
          each c.in_ok-finder.ensures.all c.in_ok-finder.ensures.none
          (λ k. ap (λ (l : List BlockCounts). (get_or l k no_counts).stale) counts
          ∙ none_stale (c.args.geometry.dies * c.args.geometry.blocks) k (fresh c.args.geometry) refl));
    }

pub returns-clause-entries : goal.returns-clause-entries
returns-clause-entries g c = λ k.
    ap (λ (l : List Entry). entry_at l k) c.in_ok-slots.ensures.entries ∙ repeated (c.args.geometry.dies * die_slots c.args.geometry) k Erased
