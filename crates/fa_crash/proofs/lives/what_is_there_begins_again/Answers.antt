use Rattle.fa_crash.proofs.Fresh.{begins_still, mounted_still, unwritten}
use Rattle.fa_crash.proofs.Geometry.{geometry_kept}
use Rattle.fa_crash.proofs.Left.{are_left, epoch_low, live_again, live_die, live_now, map_is, there_again}
use Rattle.fa_crash.proofs.lives.what_is_there_begins_again.Goals as goal
use Rattle.fa_crash.specs.Left.{AreHoldersLive, AreLeft, HasOutlasted, IsMountedLeft}
use Rattle.fa_machine.specs.Among.{Among}
use Rattle.fa_machine.specs.Copies.{holds_page}
use Rattle.fa_machine.specs.State.{Core, MapState, is_live}
use Rattle.fa_machine.specs.World.{World}
use Rattle.fa_mount_headers.specs.Rules.{seen_from}
use Rattle.fa_mount_headers.specs.declared.seen.Seen.{Seen}
use Rattle.fa_mount_scan.specs.MountedWorld.{CopiesAgree, SlotBytes, bytes_of, is_spare_of}
use Rattle.std.proofs.Common.{Bool, List, ap, map, refl, subst, sym, true, ℕ, ◌<◌, ◌∙◌, ◌≡◌}

pub returns : goal.returns
returns g c first w told happenings u cells heads copies before after array dies core begins last run cut recovers many honest there ours stand holders =
    let bytes : SlotBytes = bytes_of (map g.I.Image.view after) dies in
    let is_spare : ℕ → Bool = is_spare_of dies in
    let seen : List Seen = seen_from 0 recovers.mounts.mounts.headers.founds in
    let m : MapState = recovers.mounts.m in
    let same = geometry_kept c.the_geometry_is_kept.ensures first happenings w u run in
    let its : core.page_map ≡ m = map_is g.row.A.Denot g.I.Image.view g.I.Image.made copies before after array dies core recovers many first w told cells bytes begins there ours in
    let map_left : AreLeft first w cells bytes m = are_left g.row.A.Denot g.I.Image.view g.I.Image.made copies before after array dies core recovers many first w told cells bytes begins there ours same in
    let live_then : (page : ℕ) (x : Seen) → Among x seen → holds_page w.core.page_map page x.header.die.0 ≡ true → is_live m x.header.die.0 ≡ true =
    λ page x among holds. let s = stand page x among holds in live_again g.row.A.Denot g.I.Image.view g.I.Image.made copies before after array dies core recovers many first w told cells bytes begins there ours x.header.die.0 s.1 s.0 s.2 in
    let holders_live : AreHoldersLive first w m =
    λ page version e. let h = holders page version e in (h.0.header.die.0, h.2, live_then page h.0 h.1 h.2) in
    let map_mounted : IsMountedLeft first w cells bytes is_spare m = record {
      holds = c.what_is_mounted_stands_there.ensures copies true before after array recovers.mounts.epoch recovers.mounts.clean dies m recovers.mounts.mounts
          (many ∙ ap (λ (x : MapState). x.geometry.dies) its) honest;
      are_left = map_left;
    } in
    let agree : CopiesAgree bytes m =
    c.what_is_mounted_is_such_a_beginning_again.ensures.agree first w happenings u cells heads bytes is_spare m begins last run cut map_mounted holders_live in
    let found = c.what_is_mounted_is_a_beginning.ensures copies true before after array dies core recovers.mounts many honest
    (subst (CopiesAgree bytes) (sym its) agree) in
    let next : World = unwritten found.0 in
    let its_map : next.core.page_map ≡ m = ap (λ (x : Core). x.page_map) found.1 ∙ its in
    let mounted = mounted_still bytes is_spare found.0 found.2 in
    let next_begins = begins_still found.0 found.3 in
    let next_left : AreLeft first w cells bytes next.core.page_map = subst (AreLeft first w cells bytes) (sym its_map) map_left in
    let next_live : AreHoldersLive first w next.core.page_map = subst (AreHoldersLive first w) (sym its_map) holders_live in
    record {
      next = next;
      state = found.1;
      unwritten = λ die. refl;
      mounted = mounted;
      beginning = next_begins;
      cells = c.what_is_mounted_is_such_a_beginning_again.ensures.last first w next happenings u cells heads bytes is_spare begins last run cut mounted next_left
          next_live;
      live = λ die alive.
          let d = live_die g.row.A.Denot g.I.Image.view g.I.Image.made copies before after array dies core recovers many first w told cells bytes begins there ours die (live_now g.row.A.Denot g.I.Image.view g.I.Image.made copies before after array dies core recovers many first w told cells bytes begins there ours next found.1 die alive) in
          record { x = d.x; among = d.among; die_is = d.die_is; named = d.inside; plain = d.plain };
      there = λ die named. there_again g.row.A.Denot g.I.Image.view g.I.Image.made copies before after array dies core recovers many first w told cells bytes begins there ours next found.1 die named;
      older = λ die. subst (λ (x : Core). (told die).epoch < x.epoch) (sym found.1) (epoch_low g.row.A.Denot g.I.Image.view g.I.Image.made copies before after array dies core recovers many first w told cells bytes begins there ours die);
      outlasts = λ page number x promised among holds.
          subst (λ (x : MapState). HasOutlasted w bytes x page number) (sym its)
          (c.a_promised_page_outlasts_a_crash.ensures first w u page number x.header.die.0 cells heads bytes is_spare m promised cut map_mounted holds
          (live_then page x among holds));
      again = λ page number x later last v promised among holds goes.
          c.a_promised_page_is_promised_again.ensures first w next last u v page number x.header.die.0 cells heads bytes is_spare later promised cut mounted
          next_begins next_left next_live holds (ap (λ (y : MapState). is_live y x.header.die.0) its_map ∙ live_then page x among holds) goes;
    }
