use Rattle.std.proofs.lemmas.Result.{on_ok_weaker}
use Rattle.fa_prog_images.specs.Documents.{page_data, row_data, written_of}
use Rattle.fa_prog_images.proofs.Sends.{sends_list, sends_mapped}
use Rattle.fa_prog_images.proofs.document.DumpDocumentSerialize.serialize.Goals as goal

pub returns : goal.returns
returns g c =
    let w = g.S.Serializer.written in
    on_ok_weaker c.end_map.result (λ ended. (
      w c.begin_map.new.self,
      c.in_ok-begin_map.ensures,
      (
        c.in_ok-write_member.ensures.0,
        w c.write_member.new.out,
        c.in_ok-write_member.ensures.1,
        sends_mapped page_data written_of c.args.self.now.pages.now _ _ c.in_ok-write_member.ensures.2,
        (
          c.in_ok-write_member-2.ensures.0,
          w c.write_member-2.new.out,
          c.in_ok-write_member-2.ensures.1,
          sends_list row_data c.args.self.now.table.now _ _ c.in_ok-write_member-2.ensures.2,
          ended,
        ),
      ),
    )) c.end_map.ensures
