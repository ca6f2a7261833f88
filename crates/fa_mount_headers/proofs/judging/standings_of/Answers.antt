use Rattle.fa_mount_headers.specs.Judged.{standing_of, standings_of}
use Rattle.fa_mount_headers.proofs.Numbers.{mapped_more}
use Rattle.fa_mount_headers.proofs.judging.standings_of.Goals as goal

pub loop-die-preserved : goal.loop-die-preserved
loop-die-preserved g c =
    let mask = c.args.mask in
    let seen = c.args.seen.now in
    mapped_more (standing_of mask seen) c.loop-die.standings.items c.push.new.self.items (standings_of mask seen c.args.dies) c.standing_of.result
    c.loop-die.die c.args.dies c.loop-die-test.true c.in_ok-push.ensures.items c.standing_of.ensures c.loop-die.invariant
