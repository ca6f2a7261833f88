use Rattle.std.proofs.Common.{string_bytes, map, ap, ◌∙◌}
use Rattle.std.proofs.lemmas.Result.{IfOk-weaker}
use Rattle.fa_prog_images.specs.Documents.{document_line, dump_data, written_of}
use Rattle.fa_prog_images.proofs.Sends.{dump_line}
use Rattle.fa_prog_images.proofs.document.dump_json.Goals as goal

pub returns : goal.returns
returns g c =
    let pages = ap (λ rows. map written_of rows) c.deref.ensures.value ∙ c.in_ok-pages.ensures in
    IfOk-weaker c.line_of.result _ _ (λ line sent. dump_line (map written_of c.deref.result.now) c.args.table.now (string_bytes line) sent
    ∙ ap (λ written. document_line (dump_data written c.args.table.now)) pages) c.line_of.ensures
