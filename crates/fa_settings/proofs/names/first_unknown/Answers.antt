use Rattle.std.proofs.Common.{sym}
use Rattle.fa_settings.specs.Keys.{is_known}
use Rattle.fa_settings.proofs.Unknown.{names_of-members, none_found, is_found}
use Rattle.fa_settings.proofs.names.first_unknown.Goals as goal

pub returns-in-Some : goal.returns-in-Some
returns-in-Some c =
    let found = is_found is_known _ c.in-Some.name.now (sym (rw c.in-Some.is at c.found_unknown.ensures.found)) c.found_unknown.ensures.ordered in
    let names = names_of-members c.args.table.now.entries in
    rw c.as_str.ensures.value (record {
      there = rw names found.there;
      unknown = found.unknown;
      first = rw names found.first;
    })

pub returns-in-None : goal.returns-in-None
returns-in-None c =
    rw names_of-members (none_found is_known _ (sym (rw c.in-None.is at c.found_unknown.ensures.found)))
