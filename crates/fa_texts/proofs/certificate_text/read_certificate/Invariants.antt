use Rattle.std.proofs.Common.{◌+◌, ◌≤◌, length}
use Rattle.fa_texts.proofs.CertificateTexts.{IsSoFar}
use Rattle.fa_texts.proofs.Reading.{HasRead}
use Rattle.fa_texts.proofs.certificate_text.read_certificate.Given as goal

abbrev pub invariant-loop-text : goal.invariant-loop-text
invariant-loop-text g l =
    (l.line + length l.rest ≤ l.fn.line + 1 + length l.fn.input) × HasRead l.fn.line l.fn.input l.rest l.line (IsSoFar l.rounds l.places l.shortage)

abbrev pub decreases-loop-text : goal.decreases-loop-text
decreases-loop-text g l = length l.rest
