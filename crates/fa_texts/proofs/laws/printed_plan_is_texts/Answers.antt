use Rattle.std.proofs.Common.{refl, ap, ◌∙◌}
use Rattle.fa_texts.specs.BatchText.{batch_lines}
use Rattle.fa_texts.specs.Text.{words_by_line}
use Rattle.fa_texts.proofs.PrintedCertificate.{certificate_printed}
use Rattle.fa_texts.proofs.laws.printed_plan_is_texts.Goals as goal

pub returns : goal.returns
returns c = λ entries runs rounds places pages out has claims printed.
    let behind = certificate_printed rounds places pages printed.second claims printed.certificate in (
      behind.0,
      behind.1,
      behind.2,
      behind.3,
      record {
        first = batch_lines entries runs;
        second = words_by_line printed.second;
        parts = ap (λ v. words_by_line v) printed.parts ∙ printed.batch printed.second;
        batch = record { spelled = refl; few = has.few; few_runs = has.few_runs; pages = has.pages; closed = has.closed };
        certificate = behind.4;
      },
    )
