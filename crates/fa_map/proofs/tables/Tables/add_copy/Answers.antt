use Rattle.std.proofs.Common.{◌≡◌, ◌+◌, ◌*◌, ◌<◌, Some, List, length, refl, sym, ap, subst, ◌∙◌, arith, set}
use Rattle.std.specs.Prelude.{is_some}
use Rattle.std.proofs.lemmas.List.{length-set}
use Rattle.fa_map.specs.Chains.{AreInside, AreSeconds, AreWritten, IsSecond, behind, entry_of, follower, link_at, second_at, target}
use Rattle.fa_map.specs.Entries.{AreTallied, rewritten, with_head, with_link}
use Rattle.fa_map_calls.specs.Plain.{die_slots}
use Rattle.fa_map.specs.declared.entries.Entry.TheVariants.{Current}
use Rattle.fa_map.specs.declared.entries.Link.{Link}
use Rattle.fa_map.specs.Few.{IsCounted}
use Rattle.fa_map.proofs.Chained.{same_place}
use Rattle.fa_map.proofs.Few.{few_added, few_bound}
use Rattle.fa_map.proofs.Found.{found_told}
use Rattle.fa_map_calls.proofs.Indices.{index_fits}
use Rattle.fa_map.proofs.Renewed.{IsHolder, follower_above, follower_free, follower_written, leads, second_free}
use Rattle.fa_map.proofs.Rewritten.{written_added, written_free}
use Rattle.fa_map.proofs.Seconds.{inside_set}
use Rattle.fa_map.proofs.Tabled.{bare_entry, copy_added, seconds_added, tables_told}
use Rattle.fa_map_calls.proofs.Written.{whole_part}
use Rattle.fa_map.proofs.tables.Tables.add_copy.Goals as goal

pub relink-requires-clause-first : goal.relink-requires-clause-first
relink-requires-clause-first g c = λ d slot e. let old = (c.args.self.now.sound.chained.heads c.args.page c.requires.page).found d slot e in (old.1, old.2)

pub relink-requires-clause-link : goal.relink-requires-clause-link
relink-requires-clause-link g c = λ d slot e.
    let s = c.args.self.now in
    let at = same_place c.args.die.0 c.args.slot.0 d slot e in
    (subst (λ k. k < s.geometry.dies) at.0 c.requires.die, subst (λ k. k < die_slots s.geometry) at.1 c.requires.slot)

pub relink-requires-clause-last : goal.relink-requires-clause-last
relink-requires-clause-last g c = λ d slot e. let old = c.seam-seam.ensures.found d slot e in (old.1, old.2)

pub relink-requires-clause-inside : goal.relink-requires-clause-inside
relink-requires-clause-inside g c =
    let s = c.args.self.now in
    let n = die_slots s.geometry in
    let follow = c.seam-seam.result.next in
    let fits = index_fits c.args.die.0 c.args.slot.0 s.geometry.dies n c.requires.die c.requires.slot in
    subst (AreInside s.geometry.dies n) (sym (c.set_link.ensures.links ∙ ap (λ k. set s.slots.links k follow) c.index_of-index.ensures.index))
    (inside_set s.geometry.dies n s.slots.links (c.args.die.0 * n + c.args.slot.0) follow (subst (λ k. c.args.die.0 * n + c.args.slot.0 < k) (sym s.sound.linked) fits)
    s.inside (λ d slot e. let old = c.seam-seam.ensures.follows.found d slot e in (old.1, old.2)))

pub next_of-requires-clause-place : goal.next_of-requires-clause-place
next_of-requires-clause-place g c = λ d slot e. let old = c.seam-seam.ensures.follows.found d slot e in (old.1, old.2)

pub relink-requires-clause-kept : goal.relink-requires-clause-kept
relink-requires-clause-kept g c =
    let s = c.args.self.now in
    let n = die_slots s.geometry in
    let page = c.args.page in
    let follow = c.seam-seam.result.next in
    subst (λ (l : List Link). IsSecond l n (link_at s.pages.heads page) (second_at s.pages.seconds page))
    (sym (c.set_link.ensures.links ∙ ap (λ k. set s.slots.links k follow) c.index_of-index.ensures.index))
    (second_free (entry_of s.slots.entries n) n s.geometry.dies s.geometry.pages page c.args.die.0 c.args.slot.0 follow s.slots.links s.pages.heads
    (second_at s.pages.seconds page) s.sound.chained c.requires.page c.requires.slot (c.requires.once c.args.slot.0 c.requires.slot)
    (s.seconds.behind page c.requires.page))

pub relink-requires-clause-following : goal.relink-requires-clause-following
relink-requires-clause-following g c =
    let s = c.args.self.now in
    let n = die_slots s.geometry in
    let die = c.args.die.0 in
    let slot = c.args.slot.0 in
    let last = target c.seam-seam.result.last in
    let follow = c.seam-seam.result.next in
    let link : Link = record { die = Some die; slot = slot } in
    let own : List Link = set s.slots.links (die * n + slot) follow in
    let new : target follow ≡ follower (with_link last n link own) n (target link) =
    sym (follower_above (entry_of s.slots.entries n) n s.geometry.dies c.args.page die last (target link) link own c.seam-seam.ensures.found
    (λ d k e. let at = same_place die slot d k e in (omega (arith, at.0), subst (λ m. m < n) at.1 c.requires.slot))
    ∙ follower_written s.geometry.dies n die slot follow s.slots.links s.sound.linked c.requires.die c.requires.slot) in
    subst (λ (l : List Link). target follow ≡ follower (with_link last n link l) n (target link))
    (sym (c.set_link.ensures.links ∙ ap (λ k. set s.slots.links k follow) c.index_of-index.ensures.index)) new

pub relink-requires-clause-followed : goal.relink-requires-clause-followed
relink-requires-clause-followed g c =
    let s = c.args.self.now in
    let n = die_slots s.geometry in
    let die = c.args.die.0 in
    let slot = c.args.slot.0 in
    let page = c.args.page in
    let last = target c.seam-seam.result.last in
    let follow = c.seam-seam.result.next in
    let link : Link = record { die = Some die; slot = slot } in
    let own : List Link = set s.slots.links (die * n + slot) follow in
    let st = entry_of s.slots.entries n in
    let holds : IsHolder st n s.geometry.dies page (behind last) (target follow) = c.seam-seam.ensures.follows.found in
    let new : c.is_some-is_followed.result ≡ is_some (follower (with_link last n link own) n (target follow)) =
    c.is_some-is_followed.ensures ∙ leads c.next_of.result.die c.next_of.result.slot
    ∙ ap is_some (c.next_of.ensures
    ∙ sym (follower_above st n s.geometry.dies page die last (target follow) link own c.seam-seam.ensures.found
    (λ d k e. (c.seam-seam.ensures.late d k e, (holds d k e).2))
    ∙ follower_free st n s.geometry.dies page (behind last) die slot (target follow) follow s.slots.links c.requires.slot
    (c.requires.once slot c.requires.slot) holds)) in
    subst (λ (l : List Link). c.is_some-is_followed.result ≡ is_some (follower (with_link last n link l) n (target follow)))
    (sym (c.set_link.ensures.links ∙ ap (λ k. set s.slots.links k follow) c.index_of-index.ensures.index)) new

pub put-requires : goal.put-requires
put-requires g c =
    let s = c.args.self.now in
    let bound = few_bound s.geometry s.slots.entries s.few s.counted in
    omega (arith, bound, c.requires.page)

pub invariant_of-self : goal.invariant_of-self
invariant_of-self g c =
    let s = c.args.self.now in
    let index = c.args.die.0 * die_slots s.geometry + c.args.slot.0 in
    let entries : c.write_entry.new.slots.entries ≡ set s.slots.entries index (Current c.args.page) =
    c.write_entry.ensures.entries ∙ ap (λ l. set l index (Current c.args.page)) (c.relink.ensures.entries ∙ c.set_link.ensures.entries) in
    let tallied = subst (λ k. AreTallied s.geometry k c.write_entry.new.counts c.write_entry.new.erased) entries c.write_entry.ensures.tallied in
    let inside : index < length s.slots.entries =
    subst (λ k. index < k) (sym s.sound.tallied.slots) (index_fits c.args.die.0 c.args.slot.0 s.geometry.dies (die_slots s.geometry) c.requires.die c.requires.slot) in
    let many : length c.write_entry.new.counts ≡ s.counts.len = omega (arith, s.counts.ok.0) in
    let few : length c.write_entry.new.erased ≡ s.erased.len = omega (arith, s.erased.ok.0) in
    let last = target c.seam-seam.result.last in
    let follow = c.seam-seam.result.next in
    let link : Link = record { die = Some c.args.die.0; slot = c.args.slot.0 } in
    let before : c.set_link.new.self.links ≡ set s.slots.links index follow = c.set_link.ensures.links ∙ ap (λ k. set s.slots.links k follow) c.index_of-index.ensures.index in
    let links : c.write_entry.new.slots.links ≡ with_link last (die_slots s.geometry) link (set s.slots.links index follow) =
    c.write_entry.ensures.links ∙ c.relink.ensures.links ∙ ap (λ (l : List Link). with_link last (die_slots s.geometry) link l) before in
    let n = die_slots s.geometry in
    let page = c.args.page in
    let own : List Link = set s.slots.links index follow in
    let written : c.write_entry.new.slots.written ≡ rewritten (link_at s.pages.heads page) last n link (second_at s.pages.seconds page)
    (second_at c.relink.new.pages.seconds page).more (set s.slots.written index follow) =
    c.write_entry.ensures.written ∙ c.relink.ensures.written
    ∙ ap (λ (l : List Link). rewritten (link_at s.pages.heads page) last n link (second_at s.pages.seconds page) (second_at c.relink.new.pages.seconds page).more l)
    (c.set_link.ensures.written ∙ ap (λ k. set s.slots.written k follow) c.index_of-index.ensures.index) in
    record {
      sound = tables_told s.geometry (set s.slots.entries index (Current c.args.page)) _ (with_link last (die_slots s.geometry) link (set s.slots.links index follow)) _ (with_head last c.args.page link s.pages.heads) _
          c.write_entry.new.counts _ c.write_entry.new.erased _
          entries links c.relink.ensures.heads
          (whole_part s.counts.len c.write_entry.new.counts s.counts.items many) (whole_part s.erased.len c.write_entry.new.erased s.erased.items few)
          (copy_added s.geometry s.slots.entries s.slots.links s.pages.heads s.counts.items s.erased.items s.sound c.args.die.0 c.args.slot.0 c.requires.die c.requires.slot c.write_entry.new.counts c.write_entry.new.erased c.args.page last (target follow) follow link c.requires.page c.requires.free c.requires.once c.seam-seam.ensures refl refl tallied);
      inside = subst (AreInside s.geometry.dies (die_slots s.geometry)) (sym c.write_entry.ensures.links) c.relink.ensures.inside;
      seconds =
          subst (λ l. AreSeconds l c.relink.new.pages.heads c.relink.new.pages.seconds (die_slots s.geometry) s.geometry.pages) (sym c.write_entry.ensures.links)
          (seconds_added s.geometry s.slots.entries s.slots.links s.pages.heads s.counts.items s.erased.items s.sound c.args.die.0 c.args.slot.0 c.requires.die c.requires.slot c.write_entry.new.counts c.write_entry.new.erased
          c.args.page last (target follow) follow link c.relink.new.slots.links c.relink.new.pages.heads s.pages.seconds c.relink.new.pages.seconds
          c.seam-seam.ensures c.requires.free (c.relink.ensures.links ∙ ap (λ (l : List Link). with_link last (die_slots s.geometry) link l) before) c.relink.ensures.heads s.seconds c.relink.ensures.seconds);
      written =
          subst (λ l. AreWritten l c.write_entry.new.slots.links c.write_entry.new.slots.written c.relink.new.pages.seconds n) (sym entries)
          (subst (λ l. AreWritten (set s.slots.entries index (Current page)) l c.write_entry.new.slots.written c.relink.new.pages.seconds n) (sym links)
          (subst (λ l. AreWritten (set s.slots.entries index (Current page)) (with_link last n link own) l c.relink.new.pages.seconds n) (sym written)
          (written_added s.slots.entries n s.geometry.dies s.geometry.pages page s.slots.links own s.pages.heads
          s.pages.seconds c.relink.new.pages.seconds s.sound.chained c.requires.page s.seconds
          (second_free (entry_of s.slots.entries n) n s.geometry.dies s.geometry.pages page c.args.die.0 c.args.slot.0 follow s.slots.links s.pages.heads
          (second_at s.pages.seconds page) s.sound.chained c.requires.page c.requires.slot (c.requires.once c.args.slot.0 c.requires.slot)
          (s.seconds.behind page c.requires.page))
          (length-set s.slots.links index follow ∙ s.sound.linked) last link
          (λ d k at. let old = c.seam-seam.ensures.found d k at in (old.1, old.2, old.3)) c.relink.ensures.seconds.others (set s.slots.written index follow)
          (written_free s.slots.entries s.slots.links s.slots.written s.pages.seconds n c.args.die.0 c.args.slot.0 follow c.requires.slot
          (λ p. bare_entry (entry_of s.slots.entries n c.args.die.0 c.args.slot.0) p c.requires.free) s.written)
          c.args.die.0 c.args.slot.0 c.requires.die c.requires.slot inside
          (follower_written s.geometry.dies n c.args.die.0 c.args.slot.0 follow s.slots.written (s.written.long ∙ s.sound.linked) c.requires.die c.requires.slot
          ∙ sym (follower_written s.geometry.dies n c.args.die.0 c.args.slot.0 follow s.slots.links s.sound.linked c.requires.die c.requires.slot)))));
      counted =
          subst (λ l. IsCounted s.geometry l c.put.new.self) (sym entries)
          (few_added s.geometry s.slots.entries c.args.die.0 c.args.slot.0 c.requires.die c.requires.slot inside (Current c.args.page) s.few s.counted
          c.args.page c.copies_up_to-copies.result c.copies_up_to-copies.ensures c.put.new.self
          c.requires.free refl c.requires.once c.put.ensures);
      found = found_told s.geometry c.write_entry.new.slots.entries c.write_entry.new.counts c.write_entry.new.finder _ _
          refl (whole_part s.counts.len c.write_entry.new.counts s.counts.items many)
          c.write_entry.ensures.found;
    }
