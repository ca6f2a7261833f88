use Rattle.fa_cert.proofs.Shortages.{no_fewer}
use Rattle.fa_cert.proofs.laws.certificate_is_least.Goals as goal

pub returns : goal.returns
returns c = λ batch current closed rounds places pages certificate. record {
  some = (places, certificate.plan, certificate.length_is);
  fewest = no_fewer batch current closed rounds pages certificate.least;
}
