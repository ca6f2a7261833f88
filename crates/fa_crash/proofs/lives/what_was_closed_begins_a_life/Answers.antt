use Rattle.fa_crash.proofs.Closed.{first_again, holders_stand, ours_before, ours_then}
use Rattle.fa_crash.proofs.lives.what_was_closed_begins_a_life.Goals as goal
use Rattle.fa_mount_headers.specs.Rules.{seen_from}
use Rattle.fa_mount_headers.specs.declared.seen.Seen.{Seen}
use Rattle.fa_mount_scan.specs.MountedWorld.{SlotBytes, bytes_of}
use Rattle.std.proofs.Common.{List, [], inl, map, refl}

pub returns : goal.returns
returns g c first w before_told told u copies before after array dies core life recovers many honest closed holders =
    let bytes : SlotBytes = bytes_of (map g.I.Image.view after) dies in
    let seen : List Seen = seen_from 0 recovers.mounts.mounts.headers.founds in
    let b = c.what_is_there_begins_again.ensures first w told life.happenings u (λ die slot. (w.images die).seen slot) (λ die. (w.images die).header) copies before
    after array dies core life.beginning life.cells life.run (record { slots = λ die slot. inl refl; headers = λ die. inl refl }) recovers many honest
    closed.there
    (ours_before first w told seen bytes closed (λ die alive.
    c.the_newest_headers_name_dies_of_the_array.ensures.live first w before_told life.happenings u die life.beginning life.headers life.run alive))
    (holders_stand first w told seen bytes closed (λ page die holds.
    c.the_newest_headers_name_dies_of_the_array.ensures.holders first w before_told life.happenings u page die life.beginning life.headers life.run holds))
    holders in
    record {
      begins = b;
      life = record {
        beginning = b.beginning;
        cells = b.cells;
        headers = first_again first w told seen bytes closed b.next b.unwritten b.older b.live;
        alike = closed.alike;
        ours = ours_then first w told seen bytes closed b.next b.there;
        happenings = [];
        run = (refl, refl);
      };
    }
