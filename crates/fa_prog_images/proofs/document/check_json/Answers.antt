use Rattle.std.proofs.Common.{string_bytes}
use Rattle.std.proofs.lemmas.Result.{IfOk-weaker}
use Rattle.fa_prog_images.proofs.Sends.{check_line}
use Rattle.fa_prog_images.proofs.document.check_json.Goals as goal

pub returns : goal.returns
returns c =
    IfOk-weaker c.line_of.result _ _ (λ line sent. check_line c.args.report.now c.args.table.now (string_bytes line) sent) c.line_of.ensures
