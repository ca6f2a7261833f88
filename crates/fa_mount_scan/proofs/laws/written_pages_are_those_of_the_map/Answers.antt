use Rattle.fa_mount_scan.proofs.PagesGiven.{all_counted, current_is_place, dies_rise, given_is_written, pages_rise, place_is_current, written_is_given}
use Rattle.fa_mount_scan.proofs.laws.written_pages_are_those_of_the_map.Goals as goal

pub returns-clause-written : goal.returns-clause-written
returns-clause-written c = λ m page whole. (given_is_written m page, λ is. written_is_given m whole page is.0 is.1)

pub returns-clause-places : goal.returns-clause-places
returns-clause-places c = λ m page die slot whole. (place_is_current m whole page die slot, current_is_place m whole page die slot)

pub returns-clause-pages_rise : goal.returns-clause-pages_rise
returns-clause-pages_rise c = pages_rise

pub returns-clause-dies_rise : goal.returns-clause-dies_rise
returns-clause-dies_rise c = dies_rise

pub returns-clause-counted : goal.returns-clause-counted
returns-clause-counted c = all_counted
