use Rattle.std.proofs.Common.{arith}
use Rattle.fa_batch.proofs.Held.{located, same_length}
use Rattle.fa_batch.proofs.batch.Batch.holders_at.Goals as goal

pub begin_of-begin-requires : goal.begin_of-begin-requires
begin_of-begin-requires g c =
    let size = same_length c.args.self.now c.self.inside.entries.items c.self.inside.holders.items c.self.view_is in
    omega arith

pub index-requires : goal.index-requires
index-requires g c =
    let size = same_length c.args.self.now c.self.inside.entries.items c.self.inside.holders.items c.self.view_is in
    omega arith

pub slice_bounds-result-count : goal.slice_bounds-result-count
slice_bounds-result-count g c =
    let at = located c.args.self.now c.self.inside.entries.items c.deref.result.now c.self.inside.holders.items c.deref-2.result.now c.args.index c.begin_of-begin.result
    c.index.result.now c.self.view_is c.self.invariant.ends c.requires c.index.ensures c.deref.ensures.value c.begin_of-begin.ensures c.deref-2.ensures.value in
    omega (arith, at.0)

pub slice_bounds-result-start : goal.slice_bounds-result-start
slice_bounds-result-start g c =
    let at = located c.args.self.now c.self.inside.entries.items c.deref.result.now c.self.inside.holders.items c.deref-2.result.now c.args.index c.begin_of-begin.result
    c.index.result.now c.self.view_is c.self.invariant.ends c.requires c.index.ensures c.deref.ensures.value c.begin_of-begin.ensures c.deref-2.ensures.value in
    at.0

pub slice_bounds-result-end : goal.slice_bounds-result-end
slice_bounds-result-end g c =
    let at = located c.args.self.now c.self.inside.entries.items c.deref.result.now c.self.inside.holders.items c.deref-2.result.now c.args.index c.begin_of-begin.result
    c.index.result.now c.self.view_is c.self.invariant.ends c.requires c.index.ensures c.deref.ensures.value c.begin_of-begin.ensures c.deref-2.ensures.value in
    at.1

pub returns : goal.returns
returns g c =
    let at = located c.args.self.now c.self.inside.entries.items c.deref.result.now c.self.inside.holders.items c.deref-2.result.now c.args.index c.begin_of-begin.result
    c.index.result.now c.self.view_is c.self.invariant.ends c.requires c.index.ensures c.deref.ensures.value c.begin_of-begin.ensures c.deref-2.ensures.value in
    at.2
