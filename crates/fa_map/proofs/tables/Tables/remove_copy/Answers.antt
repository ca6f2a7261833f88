use Rattle.std.proofs.Common.{◌≡◌, ◌+◌, ◌*◌, ◌<◌, length, refl, sym, ap, subst, ◌∙◌, arith, set}
use Rattle.std.specs.Prelude.{is_some}
use Rattle.fa_map.specs.Chains.{AreInside, AreSeconds, entry_of, link_at, target}
use Rattle.fa_map.specs.Entries.{AreTallied, with_head, with_link}
use Rattle.fa_map_calls.specs.Plain.{die_slots}
use Rattle.fa_map.specs.Few.{IsCounted}
use Rattle.fa_map.proofs.Few.{few_bound, few_removed, some_copies}
use Rattle.fa_map.proofs.Found.{found_told}
use Rattle.fa_map_calls.proofs.Indices.{index_fits}
use Rattle.fa_map.proofs.Renewed.{IsHolder, follower_above, leads, next_holder}
use Rattle.fa_map.proofs.Rewritten.{stood, written_alike, written_kept}
use Rattle.fa_map.proofs.Tabled.{copy_removed, seconds_removed, tables_told}
use Rattle.fa_map_calls.proofs.Written.{whole_part}
use Rattle.fa_map.proofs.tables.Tables.remove_copy.Goals as goal

pub relink-requires-clause-first : goal.relink-requires-clause-first
relink-requires-clause-first g c = λ d slot e.
    let s = c.args.self.now in
    let known = (s.sound.chained.fits c.args.die.0 c.args.slot.0 c.args.page c.requires.slot c.requires.old).1 in
    let old = (s.sound.chained.heads c.args.page known).found d slot e in
    (old.1, old.2)

pub relink-requires-clause-last : goal.relink-requires-clause-last
relink-requires-clause-last g c = λ d slot e. let old = c.seam.ensures.found d slot e in (old.1, old.2)

pub relink-requires-clause-link : goal.relink-requires-clause-link
relink-requires-clause-link g c = λ d slot e. let old = (c.next-next.ensures.next c.requires.old).found d slot e in (old.1, old.2)

pub next_of-following-requires-clause-place : goal.next_of-following-requires-clause-place
next_of-following-requires-clause-place g c = λ d slot e. let old = (c.next-next.ensures.next c.requires.old).found d slot e in (old.1, old.2)

pub next_of-requires-clause-holds : goal.next_of-requires-clause-holds
next_of-requires-clause-holds g c = λ d slot e.
    let s = c.args.self.now in
    let n = die_slots s.geometry in
    (next_holder (entry_of s.slots.entries n) n s.geometry.dies s.geometry.pages c.args.page (c.args.die.0 + 1) (link_at s.pages.heads) s.slots.links
    (target c.next-next.result) s.sound.chained (c.next-next.ensures.next c.requires.old).found d slot (sym c.next_of-following.ensures ∙ e)).3

pub relink-requires-clause-following : goal.relink-requires-clause-following
relink-requires-clause-following g c =
    let s = c.args.self.now in
    let n = die_slots s.geometry in
    let next = c.next-next.result in
    c.next_of-following.ensures
    ∙ sym (follower_above (entry_of s.slots.entries n) n s.geometry.dies c.args.page c.args.die.0 (target c.seam.result.last) (target next) next s.slots.links
    c.seam.ensures.found (λ d slot e. let old = (c.next-next.ensures.next c.requires.old).found d slot e in (omega (arith, old.0), old.2)))

pub relink-requires-clause-followed : goal.relink-requires-clause-followed
relink-requires-clause-followed g c =
    let s = c.args.self.now in
    let n = die_slots s.geometry in
    let die = c.args.die.0 in
    let next = c.next-next.result in
    let following = c.next_of-following.result in
    let st = entry_of s.slots.entries n in
    let above : IsHolder st n s.geometry.dies c.args.page (die + 1) (target following) =
    subst (IsHolder st n s.geometry.dies c.args.page (die + 1)) (sym c.next_of-following.ensures)
    (next_holder st n s.geometry.dies s.geometry.pages c.args.page (die + 1) (link_at s.pages.heads) s.slots.links (target next) s.sound.chained
    (c.next-next.ensures.next c.requires.old).found) in
    c.is_some-is_followed.ensures ∙ leads c.next_of.result.die c.next_of.result.slot
    ∙ ap is_some (c.next_of.ensures
    ∙ sym (follower_above st n s.geometry.dies c.args.page die (target c.seam.result.last) (target following) next s.slots.links
    c.seam.ensures.found (λ d slot e. let old = above d slot e in (omega (arith, old.0), old.2))))

pub overflow_sub-copies : goal.overflow_sub-copies
overflow_sub-copies g c =
    let s = c.args.self.now in
    let fits = index_fits c.args.die.0 c.args.slot.0 s.geometry.dies (die_slots s.geometry) c.requires.die c.requires.slot in
    let some = some_copies s.geometry s.slots.entries c.args.die.0 c.args.slot.0 c.requires.die c.requires.slot (subst (λ k. c.args.die.0 * die_slots s.geometry + c.args.slot.0 < k) (sym s.sound.tallied.slots) fits) c.args.entry c.args.page c.requires.old in
    omega (arith, some, c.copies_up_to-copies.ensures)

pub put-requires : goal.put-requires
put-requires g c =
    let s = c.args.self.now in
    let bound = few_bound s.geometry s.slots.entries s.few s.counted in
    omega (arith, bound, (s.sound.chained.fits c.args.die.0 c.args.slot.0 c.args.page c.requires.slot c.requires.old).1)

pub invariant_of-self : goal.invariant_of-self
invariant_of-self g c =
    let s = c.args.self.now in
    let index = c.args.die.0 * die_slots s.geometry + c.args.slot.0 in
    let entries : c.write_entry.new.slots.entries ≡ set s.slots.entries index c.args.entry = c.write_entry.ensures.entries ∙ ap (λ l. set l index c.args.entry) c.relink.ensures.entries in
    let tallied = subst (λ k. AreTallied s.geometry k c.write_entry.new.counts c.write_entry.new.erased) entries c.write_entry.ensures.tallied in
    let many : length c.write_entry.new.counts ≡ s.counts.len = omega (arith, s.counts.ok.0) in
    let few : length c.write_entry.new.erased ≡ s.erased.len = omega (arith, s.erased.ok.0) in
    let last = target c.seam.result.last in
    let link = c.next-next.result in
    let known = (s.sound.chained.fits c.args.die.0 c.args.slot.0 c.args.page c.requires.slot c.requires.old).1 in
    let fits = index_fits c.args.die.0 c.args.slot.0 s.geometry.dies (die_slots s.geometry) c.requires.die c.requires.slot in
    let inside : index < length s.slots.entries = subst (λ k. index < k) (sym s.sound.tallied.slots) fits in
    record {
      sound = tables_told s.geometry (set s.slots.entries index c.args.entry) _ (with_link last (die_slots s.geometry) link s.slots.links) _ (with_head last c.args.page link s.pages.heads) _
          c.write_entry.new.counts _ c.write_entry.new.erased _
          entries (c.write_entry.ensures.links ∙ c.relink.ensures.links) c.relink.ensures.heads
          (whole_part s.counts.len c.write_entry.new.counts s.counts.items many) (whole_part s.erased.len c.write_entry.new.erased s.erased.items few)
          (copy_removed s.geometry s.slots.entries s.slots.links s.pages.heads s.counts.items s.erased.items s.sound c.args.die.0 c.args.slot.0 c.requires.die c.requires.slot c.write_entry.new.counts c.write_entry.new.erased c.args.entry c.args.page last (target c.seam.result.next) link c.requires.old c.requires.new c.seam.ensures c.next-next.ensures.link tallied);
      inside = subst (AreInside s.geometry.dies (die_slots s.geometry)) (sym c.write_entry.ensures.links) c.relink.ensures.inside;
      seconds =
          subst (λ l. AreSeconds l c.relink.new.pages.heads c.relink.new.pages.seconds (die_slots s.geometry) s.geometry.pages) (sym c.write_entry.ensures.links)
          (seconds_removed s.geometry s.slots.entries s.slots.links s.pages.heads s.counts.items s.erased.items s.sound c.args.die.0 c.args.slot.0 c.requires.die c.requires.slot c.write_entry.new.counts c.write_entry.new.erased
          c.args.page last (target c.seam.result.next) link c.relink.new.slots.links c.relink.new.pages.heads s.pages.seconds c.relink.new.pages.seconds
          c.seam.ensures c.relink.ensures.links c.relink.ensures.heads s.seconds c.relink.ensures.seconds);
      written =
          written_alike s.slots.entries c.write_entry.new.slots.entries _ _ _ _ c.relink.new.pages.seconds (die_slots s.geometry)
          (λ page d k within is.
          stood s.slots.entries (die_slots s.geometry) c.args.die.0 c.args.slot.0 c.args.entry inside c.requires.slot c.requires.new page d k within
          (sym (ap (λ l. entry_of l (die_slots s.geometry) d k) entries) ∙ is))
          (c.write_entry.ensures.links ∙ c.relink.ensures.links) (c.write_entry.ensures.written ∙ c.relink.ensures.written)
          (written_kept s.slots.entries (die_slots s.geometry) s.geometry.dies s.geometry.pages c.args.page s.slots.links s.slots.links s.pages.heads
          s.pages.seconds c.relink.new.pages.seconds s.sound.chained known s.seconds (s.seconds.behind c.args.page known) s.sound.linked last link
          (λ d k at. let old = c.seam.ensures.found d k at in (old.1, old.2, old.3)) c.relink.ensures.seconds.others s.slots.written s.written);
      counted =
          subst (λ l. IsCounted s.geometry l c.put.new.self) (sym entries)
          (few_removed s.geometry s.slots.entries c.args.die.0 c.args.slot.0 c.requires.die c.requires.slot inside c.args.entry s.few s.counted
          c.args.page c.copies_up_to-copies.result c.copies_up_to-copies.ensures c.put.new.self
          c.requires.old c.requires.new (λ k within is. s.sound.chained.once c.args.die.0 k c.args.slot.0 c.args.page within c.requires.slot is c.requires.old)
          c.put.ensures);
      found = found_told s.geometry c.write_entry.new.slots.entries c.write_entry.new.counts c.write_entry.new.finder _ _
          refl (whole_part s.counts.len c.write_entry.new.counts s.counts.items many)
          c.write_entry.ensures.found;
    }
