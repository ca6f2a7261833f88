use Rattle.std.proofs.Common.{arith, length-append}
use Rattle.fa_nego.proofs.Replies.{is_reply}
use Rattle.fa_nego.proofs.reply.push_reply.Goals as goal

pub returns : goal.returns
returns g c = rw (c.in_ok-extend_from_slice-3.ensures.items, c.in_ok-extend_from_slice-2.ensures.items, c.in_ok-extend_from_slice.ensures.items)
    (is_reply c.args.said.now.items c.reply_head.result c.args.front.now c.args.back.now c.args.option c.args.reply_type _ c.reply_head.ensures (omega (arith, length-append c.args.front.now c.args.back.now)))
