-- the payload
use Rattle.fa_tag.proofs.payload_digest.PayloadDigest.among.Given as goal

abbrev pub ghost-begin : goal.ghost-begin
ghost-begin a = λ payload. payload.now
