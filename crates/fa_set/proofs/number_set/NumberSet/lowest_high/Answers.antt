use Rattle.std.proofs.Common.{None, Some, subst, arith}
use Rattle.fa_set.specs.Words.{IsLowestInWord}
use Rattle.fa_set.proofs.Lowest.{bare_all, bare_past, lowest_later}
use Rattle.fa_set.proofs.number_set.NumberSet.lowest_high.Goals as goal

pub returns-in-Some : goal.returns-in-Some
returns-in-Some g c =
    let s = c.args.self.now in
    lowest_later s.high.items c.args.from c.loop-word.first c.in-Some.number c.loop-word.invariant.first c.loop-word.invariant.bare
    (subst (λ l. IsLowestInWord l c.loop-word.first (Some c.in-Some.number)) c.deref.ensures.value c.in-Some.ensures)

pub loop-word-preserved : goal.loop-word-preserved
loop-word-preserved g c =
    let s = c.args.self.now in
    let i = c.loop-word.invariant in
    record {
      first = omega (arith, i.first, i.word);
      word = omega arith;
      bare = bare_past s.high.items c.args.from c.loop-word.first c.loop-word.word i.word i.bare
          (subst (λ l. IsLowestInWord l c.loop-word.first None) c.deref.ensures.value c.in_default.ensures);
    }

pub returns : goal.returns
returns g c =
    let s = c.args.self.now in
    let i = c.loop-word.invariant in
    bare_all s.high.items c.args.from c.loop-word.first (omega (arith, i.word)) i.bare
