use Rattle.std.proofs.Common.{map, string_bytes, arith}
use Rattle.fa_prog_host.proofs.Opened.{one_longer}
use Rattle.fa_prog_images.proofs.Rows.{rows_more}
use Rattle.fa_prog_images.proofs.table.rows_of.Goals as goal

pub loop-die-preserved : goal.loop-die-preserved
loop-die-preserved g c =
    let longer = one_longer c.loop-die.rows.items c.push.new.self.items c.row_of-row.result c.in_ok-push.ensures.items in record {
      end = c.loop-die.invariant.end;
      order = omega arith;
      long = omega (arith, longer, c.loop-die.invariant.long);
      each = rows_more (map string_bytes c.args.paths.now) c.args.places.now c.args.founds.now c.args.mounted.now.dies.items
          (g.M.Map.view c.args.mounted.now.map) c.loop-die.die c.loop-die.rows.items c.push.new.self.items c.row_of-row.result
          c.loop-die.invariant.long c.in_ok-push.ensures.items c.loop-die.invariant.each c.row_of-row.ensures;
    }
