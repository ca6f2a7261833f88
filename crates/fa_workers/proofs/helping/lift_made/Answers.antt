use Rattle.std.proofs.Common.{ap, inl, map, ◌∙◌}
use Rattle.fa_types.specs.declared.numbers.Die.{Die}
use Rattle.fa_workers.proofs.Held.{one_made}
use Rattle.fa_workers.specs.Held.{told_of}
use Rattle.fa_workers.proofs.helping.lift_made.Goals as goal

pub returns-in-Some : goal.returns-in-Some
returns-in-Some g c =
    inl (
      told_of c.in-Some.job,
      ap (λ (d : Die). d.0) c.in-Some.ensures,
      ap (λ jobs. map told_of jobs) c.add.ensures ∙ one_made c.args.made.now.items c.in-Some.job,
    )
