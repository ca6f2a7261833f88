use Rattle.std.proofs.Common.{◌≡◌, rules}
use Rattle.std.specs.Prelude.{None, true}
use Rattle.fa_mount_headers.specs.Judged.{IsJudged}
use Rattle.fa_mount_headers.specs.Rules.{header_refusal, seen_from}
use Rattle.fa_mount_headers.proofs.Images.{images_of}
use Rattle.fa_mount_headers.proofs.recovering.judge_whole.Goals as goal

pub returns-in-Ok-judgement-clause-images : goal.returns-in-Ok-judgement-clause-images
returns-in-Ok-judgement-clause-images g c =
    let founds = c.args.founds.now in
    let judged = c.in-Ok-judgement.judged in
    let none : header_refusal c.args.copies.number true founds ≡ None = search rules in
    let is : IsJudged (seen_from 0 founds) judged = search rules in
    images_of c.args.copies.number true founds judged none is
