use Rattle.std.proofs.Common.{◌++◌, string_bytes, ap, ◌∙◌, append_assoc, refl}
use Rattle.fa_texts.proofs.batch_print.print_logged_plan.Goals as goal

pub returns : goal.returns
returns g c =
    let batch = c.in_ok-print_batch.ensures in
    let certificate = c.in_ok-print_certificate.ensures in
    record {
      text = batch.text ++ certificate.text;
      behind = certificate.behind ∙ ap (λ v. v ++ certificate.text) batch.behind ∙ append_assoc (string_bytes c.args.out.now) batch.text certificate.text;
      printed = record {
        first = batch.text;
        second = certificate.text;
        parts = refl;
        batch = batch.spelled;
        certificate = certificate.printed;
      };
    }
