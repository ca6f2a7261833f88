use Rattle.fa_mount.proofs.Few.{few_below}
use Rattle.fa_mount.proofs.Greatest.{last_fits}
use Rattle.fa_mount.proofs.Spares.{spare_within}
use Rattle.fa_types.specs.declared.geometry.Geometry.{Geometry}
use Rattle.fa_mount_headers.specs.declared.judging.Standing.{Standing}
use Rattle.fa_mount.specs.Begins.{AreSpares}
use Rattle.fa_set.specs.Members.{members}
use Rattle.std.proofs.Common.{List, ap, arith, length, subst, sym, ◌∙◌}
use Rattle.fa_mount.proofs.beginning.array_over.Goals as goal

pub new-requires-clause-last : goal.new-requires-clause-last
new-requires-clause-last g c =
    last_fits c.args.copies.number c.args.scanned.dies.items (g.M.Map.view c.args.scanned.map) c.last_number-last.result.0 c.requires.may
    c.last_number-last.ensures

pub new-requires-clause-epoch : goal.new-requires-clause-epoch
new-requires-clause-epoch g c =
    let m = g.M.Map.view c.args.scanned.map in
    let most = c.if-prove.false in
    let shape = ap (λ (x : Geometry). x.dies) c.geometry-geometry.ensures in
    let all = c.requires.may.all in
    let are = subst (λ (l : List Standing). AreSpares l (members c.in_ok-spares.spares)) c.as_slice.ensures.value c.in_ok-spares.ensures.spares in
    let live = few_below m.geometry.dies m.live (g.met.M.Map.whole c.args.scanned.map).live in
    let spares = few_below (length c.args.scanned.dies.items) (members c.in_ok-spares.spares)
    (λ die is. spare_within c.args.scanned.dies.items die (sym (are die) ∙ is)) in
    let low = c.requires.low in
    omega (arith, most, shape, all, live, spares, low)

pub new-requires-clause-numbers : goal.new-requires-clause-numbers
new-requires-clause-numbers g c page version is =
    ((c.requires.may.numbers page version is).0, c.last_number-last.ensures.above page version is)

pub returns-clause-begun : goal.returns-clause-begun
returns-clause-begun g c =
    let are = subst (λ (l : List Standing). AreSpares l (members c.in_ok-spares.spares)) c.as_slice.ensures.value c.in_ok-spares.ensures.spares in
    record {
      spares = members c.in_ok-spares.spares;
      are_spares = are;
      last = c.last_number-last.result.0;
      is_last = c.last_number-last.ensures;
      is = c.in_ok-array.ensures.begun;
    }
