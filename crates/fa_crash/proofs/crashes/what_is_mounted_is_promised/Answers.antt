use Rattle.fa_crash.proofs.Standing.{number_is}
use Rattle.fa_machine.specs.Beginning.{IsPlainOf}
use Rattle.std.proofs.Common.{ap, inr, subst}
use Rattle.std.specs.Prelude.{is_some}
use Rattle.fa_crash.proofs.crashes.what_is_mounted_is_promised.Goals as goal

pub returns : goal.returns
returns c first w happenings u page version b cells e run = record {
  beginning = b;
  cells = cells;
  written = (subst (IsPlainOf first page) e (b.plain page (b.written page (ap is_some e)))).2;
  kept = inr (record { happenings = happenings; run = run; numbered = number_is first.core page version e });
}
