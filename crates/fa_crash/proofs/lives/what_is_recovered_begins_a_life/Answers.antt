use Rattle.fa_crash.specs.Headers.{AreMountedAgain, NameOurs, names, tells}
use Rattle.fa_crash.proofs.Left.{inside_named, is_newest, ours, top, top_mask}
use Rattle.fa_crash.proofs.Unheard.{unheard}
use Rattle.fa_crash.proofs.lives.what_is_recovered_begins_a_life.Goals as goal
use Rattle.fa_mount_headers.specs.Rules.{seen_from}
use Rattle.fa_mount_headers.specs.declared.seen.Seen.{Seen}
use Rattle.fa_mount_scan.specs.MountedWorld.{SlotBytes, bytes_of}
use Rattle.std.proofs.Common.{List, [], ap, map, refl, ◌∙◌}

pub returns : goal.returns
returns g c first w told u cells heads copies before after array dies core life cut recovers many honest left holders =
    let bytes : SlotBytes = bytes_of (map g.I.Image.view after) dies in
    let seen : List Seen = seen_from 0 recovers.mounts.mounts.headers.founds in
    let named_ours : NameOurs first (tells told heads) =
    λ top die newest named. c.the_newest_headers_name_dies_of_the_array.ensures.ours first w told life.happenings u cells heads top die life.beginning
    life.headers life.ours life.run cut newest named in
    let b = c.what_is_there_begins_again.ensures first w (tells told heads) life.happenings u cells heads copies before after array dies core life.beginning
    life.cells life.run cut recovers many honest left.there named_ours
    (λ page x among holds.
    let named = c.the_mask_has_the_holders.ensures.mask first w told life.happenings u cells heads seen x page life.beginning life.headers life.run cut
    left.headers among holds in
    let live = c.the_mask_has_the_holders.ensures.live first w told life.happenings u cells heads seen x page life.beginning life.headers life.run cut
    left.headers among holds in
    (named, live.0, live.1))
    holders in
    let again : AreMountedAgain first b.next told heads = record {
      unwritten = b.unwritten;
      older = b.older;
      top = top g.row.A.Denot g.I.Image.view g.I.Image.made copies before after array dies core recovers many first w (tells told heads) cells bytes life.beginning left.there named_ours;
      greatest = is_newest g.row.A.Denot g.I.Image.view g.I.Image.made copies before after array dies core recovers many first w (tells told heads) cells bytes life.beginning left.there named_ours;
      ours = λ die alive. inside_named g.row.A.Denot g.I.Image.view g.I.Image.made copies before after array dies core recovers many first w (tells told heads) cells bytes life.beginning left.there named_ours die (b.live die alive).named;
      unheard = λ die alive none. unheard first told cells heads seen bytes left die (b.live die alive) (ours g.row.A.Denot g.I.Image.view g.I.Image.made copies before after array dies core recovers many first w (tells told heads) cells bytes life.beginning left.there named_ours die (b.live die alive).named) none;
    } in
    record {
      begins = b;
      life = record {
        beginning = b.beginning;
        cells = b.cells;
        headers = c.what_a_cut_leaves_are_first_headers_again.ensures.first first w b.next told life.happenings u cells heads life.beginning life.headers
            life.run cut again;
        alike = c.what_a_cut_leaves_are_first_headers_again.ensures.alike first w told life.happenings u cells heads life.beginning life.headers life.alike
            life.run cut;
        ours = c.the_newest_headers_name_dies_of_the_array.ensures.again first w b.next told life.happenings u cells heads life.beginning life.headers
            life.alike life.run cut again (λ die named. b.there die (ap (λ live. names live die) (top_mask g.row.A.Denot g.I.Image.view g.I.Image.made copies before after array dies core recovers many first w (tells told heads) cells bytes life.beginning left.there named_ours) ∙ named));
        happenings = [];
        run = (refl, refl);
      };
    }
