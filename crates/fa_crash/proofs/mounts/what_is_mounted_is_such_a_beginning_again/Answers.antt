use Rattle.fa_crash.proofs.Standing.{number_is}
use Rattle.fa_crash.specs.Outlasts.{IsLeftOn}
use Rattle.fa_crash.proofs.Again.{copies_agree, of_last}
use Rattle.fa_crash.proofs.mounts.what_is_mounted_is_such_a_beginning_again.Goals as goal
use Rattle.std.proofs.Common.{subst, sym}

pub returns-clause-agree : goal.returns-clause-agree
returns-clause-agree c first w happenings u cells heads bytes is_spare m b last run cut left holders =
    copies_agree c.bytes_are_one_cell.ensures c.what_was_found_is_what_is_seen.ensures.copy first w cells bytes is_spare m left
    (λ page inside. c.each_good_cell_of_a_cut_is_reserved.ensures first w happenings u page cells heads b last run inside cut)
    (λ page version e.
    let held = holders page version e in
    let promised = c.what_is_mounted_is_promised.ensures first w happenings u page version b last e run in
    record {
      die = held.0;
      left = subst (λ n. IsLeftOn w cells page n held.0) (sym (number_is first.core page version e))
          (c.a_promised_page_is_left_on_its_holders.ensures.left first w u page version.seq.0 held.0 cells heads promised cut held.1);
      alive = held.2;
    })

pub returns-clause-last : goal.returns-clause-last
returns-clause-last c first w next happenings u cells heads bytes is_spare b last run cut is left holders =
    of_last c.bytes_are_one_cell.ensures c.what_was_found_is_what_is_seen.ensures.copy first w next cells bytes is_spare is
    (record { holds = is.holds; are_left = left })
    (λ page inside. c.each_good_cell_of_a_cut_is_reserved.ensures first w happenings u page cells heads b last run inside cut)
    (λ page version e.
    let held = holders page version e in
    let promised = c.what_is_mounted_is_promised.ensures first w happenings u page version b last e run in
    record {
      die = held.0;
      left = subst (λ n. IsLeftOn w cells page n held.0) (sym (number_is first.core page version e))
          (c.a_promised_page_is_left_on_its_holders.ensures.left first w u page version.seq.0 held.0 cells heads promised cut held.1);
      alive = held.2;
    })
