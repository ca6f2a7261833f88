use Rattle.std.proofs.Common.{◌≡◌, ◌+◌, ◌*◌, ◌<◌, ap, length, refl, sym, subst, ◌∙◌, arith, set}
use Rattle.fa_map.specs.Chains.{AreInside, AreSeconds, entry_of}
use Rattle.fa_map.specs.Entries.{AreTallied}
use Rattle.fa_map_calls.specs.Plain.{die_slots}
use Rattle.fa_map.specs.Few.{IsCounted}
use Rattle.fa_map.proofs.Few.{few_plain}
use Rattle.fa_map.proofs.Found.{found_told}
use Rattle.fa_map_calls.proofs.Indices.{index_fits}
use Rattle.fa_map.proofs.Rewritten.{stood, written_alike}
use Rattle.fa_map.proofs.Tabled.{plain_set, tables_told}
use Rattle.fa_map_calls.proofs.Written.{whole_part}
use Rattle.fa_map.proofs.tables.Tables.set_plain.Goals as goal

pub invariant_of-self : goal.invariant_of-self
invariant_of-self g c =
    let s = c.args.self.now in
    let index = c.args.die.0 * die_slots s.geometry + c.args.slot.0 in
    let entries = c.write_entry.ensures.entries in
    let tallied = subst (λ k. AreTallied s.geometry k c.write_entry.new.counts c.write_entry.new.erased) entries c.write_entry.ensures.tallied in
    let fits : index < length s.slots.entries =
    subst (λ k. index < k) (sym s.sound.tallied.slots) (index_fits c.args.die.0 c.args.slot.0 s.geometry.dies (die_slots s.geometry) c.requires.die c.requires.slot) in
    let many : length c.write_entry.new.counts ≡ s.counts.len = omega (arith, s.counts.ok.0) in
    let few : length c.write_entry.new.erased ≡ s.erased.len = omega (arith, s.erased.ok.0) in
    record {
      sound = tables_told s.geometry (set s.slots.entries index c.args.entry) _ s.slots.links _ s.pages.heads _ c.write_entry.new.counts _ c.write_entry.new.erased _
          entries c.write_entry.ensures.links refl
          (whole_part s.counts.len c.write_entry.new.counts s.counts.items many) (whole_part s.erased.len c.write_entry.new.erased s.erased.items few)
          (plain_set s.geometry s.slots.entries s.slots.links s.pages.heads s.counts.items s.erased.items s.sound c.args.die.0 c.args.slot.0 c.requires.die c.requires.slot c.write_entry.new.counts c.write_entry.new.erased c.args.entry c.requires.old c.requires.new tallied);
      inside = subst (AreInside s.geometry.dies (die_slots s.geometry)) (sym c.write_entry.ensures.links) s.inside;
      seconds = subst (λ l. AreSeconds l s.pages.heads s.pages.seconds (die_slots s.geometry) s.geometry.pages) (sym c.write_entry.ensures.links) s.seconds;
      written =
          written_alike s.slots.entries c.write_entry.new.slots.entries s.slots.links _ s.slots.written _ s.pages.seconds (die_slots s.geometry)
          (λ page d k within is.
          stood s.slots.entries (die_slots s.geometry) c.args.die.0 c.args.slot.0 c.args.entry fits c.requires.slot c.requires.new page d k within
          (sym (ap (λ l. entry_of l (die_slots s.geometry) d k) entries) ∙ is))
          c.write_entry.ensures.links c.write_entry.ensures.written s.written;
      counted =
          subst (λ l. IsCounted s.geometry l s.few) (sym entries)
          (few_plain s.geometry s.slots.entries c.args.die.0 c.args.slot.0 c.requires.die c.requires.slot fits c.args.entry s.few s.counted c.requires.old c.requires.new);
      found = found_told s.geometry c.write_entry.new.slots.entries c.write_entry.new.counts c.write_entry.new.finder _ _
          refl (whole_part s.counts.len c.write_entry.new.counts s.counts.items many)
          c.write_entry.ensures.found;
    }
