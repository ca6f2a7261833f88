use Rattle.std.proofs.Common.{subst, ◌∙◌, ap, ◌++◌, sym}
use Rattle.fa_texts.specs.CertificateText.{IsPrinted}
use Rattle.fa_texts.proofs.certificate_print.print.Goals as goal

pub returns : goal.returns
returns g c =
    let told = c.in_ok-print_certificate.ensures in
    subst (λ v. IsPrinted c.args.plan.now.rounds c.args.plan.now.places c.args.shortage.now v)
    (sym (told.behind ∙ ap (λ v. v ++ told.text) c.new-out.ensures.bytes)) told.printed
