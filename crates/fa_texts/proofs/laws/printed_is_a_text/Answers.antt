use Rattle.fa_texts.proofs.PrintedCertificate.{certificate_printed}
use Rattle.fa_texts.proofs.laws.printed_is_a_text.Goals as goal

pub returns : goal.returns
returns c = certificate_printed
