use Rattle.std.proofs.lemmas.Result.{IfErr-weaker}
use Rattle.fa_settings.proofs.Faulty.{of_text}
use Rattle.fa_settings.proofs.settings.Settings.read.Goals as goal

pub returns-clause-fault : goal.returns-clause-fault
returns-clause-fault g c =
    IfErr-weaker c.settings_of.result _ _ (λ fault of. of_text _ c.args.text.now _ fault c.in_ok-table.ensures.table of) c.settings_of.ensures.fault
