use Rattle.std.proofs.Common.{true, false, ◌≡◌, ◌<◌, ◌≤◌, inl, inr, length, sym, ap, arith}
use Rattle.std.proofs.lemmas.Bool.{cases_lt}
use Rattle.std.proofs.lemmas.List.{get_or_default}
use Rattle.fa_closed.specs.declared.spans.Span.{Span}
use Rattle.fa_closed.specs.Runs.{is_covered}
use Rattle.fa_calendar.proofs.Merged.{covered_here, merged_here, none_begun, passes_none, passes_drop}
use Rattle.fa_calendar.proofs.merging.pass.Goals as goal
use Rattle.fa_calendar.proofs.merging.pass.Given.{Over}
use Rattle.fa_calendar.proofs.merging.pass.Goals.{After-index, Joined-else-len-gt0, else-len-gt0-via-then-len-gt0+else-index-round, else-len-gt0-via-else-len-gt0}

-- the first span begins in the round, or later
first_begins : (g : Over) (c : After-index g) → c.args.round ≤ c.index.result.now.first
first_begins g c =
    let s : Span = c.index.result.now in
    let size = c.args.spans.now.ok in
    let some : 0 < length c.args.spans.now.items = omega (arith, size.0, c.len.ensures, c.if-len-gt0.true) in
    let proper = (merged_here c.args.spans.now.items 0 s c.requires.merged some c.index.ensures).0 in
    elim (cases_lt s.first c.args.round) [
      | inl early ↦
          (let has = covered_here c.args.spans.now.items 0 s c.requires.merged some c.index.ensures s.first (omega arith) proper in
          let lacks = c.requires.first s.first early in
          let none : ⊥ = cc in absurd none)
      | inr late ↦ late
    ]

pub trim-requires-clause-begins : goal.trim-requires-clause-begins
trim-requires-clause-begins g c = λ d.
    let s : Span = c.index.result.now in
    let size = c.args.spans.now.ok in
    let some : 0 < length c.args.spans.now.items = omega (arith, size.0, c.len.ensures, c.if-len-gt0.true) in
    let late = first_begins g (goal.at.trim-requires-clause-begins g c).After-index in
    let same = ap (λ (t : Span). t.first) (get_or_default c.args.spans.now.items 0 d s some) in
    let here = ap (λ (t : Span). t.first) c.index.ensures in
    omega (arith, same, here, late, c.if-index-round.true)

-- where nothing is taken, the round is in no span
lacks_round : (g : Over) (c : Joined-else-len-gt0 g) → is_covered c.args.spans.now.items c.args.round ≡ false
lacks_round g c =
    let size = c.args.spans.now.ok in
    elim c.else-len-gt0.branch [
      | else-len-gt0-via-then-len-gt0+else-index-round w ↦
          none_begun c.args.spans.now.items c.args.round w.index.result.now c.requires.merged (λ some. let here = ap (λ (t : Span). t.first) w.index.ensures in omega (arith, here, w.if-index-round.false))
      | else-len-gt0-via-else-len-gt0 w ↦
          none_begun c.args.spans.now.items c.args.round (record { first = 0; last = 0 }) c.requires.merged (λ some. absurd (omega (arith, size.0, c.len.ensures, w.if-len-gt0.false)))
    ]

-- and where something is, it is in the first
has_round : (g : Over) (c : After-index g) → c.index.result.now.first ≤ c.args.round → is_covered c.args.spans.now.items c.args.round ≡ true
has_round g c begun =
    let s : Span = c.index.result.now in
    let size = c.args.spans.now.ok in
    let some : 0 < length c.args.spans.now.items = omega (arith, size.0, c.len.ensures, c.if-len-gt0.true) in
    let late = first_begins g c in
    let proper = (merged_here c.args.spans.now.items 0 s c.requires.merged some c.index.ensures).0 in
    covered_here c.args.spans.now.items 0 s c.requires.merged some c.index.ensures c.args.round begun (omega (arith, late, proper, begun))

pub returns-clause-gone : goal.returns-clause-gone
returns-clause-gone g c = passes_none c.args.spans.now.items c.args.round c.requires.merged (lacks_round g c)

pub returns-clause-covered : goal.returns-clause-covered
returns-clause-covered g c = sym (lacks_round g c)

pub returns-then-index-round-clause-gone : goal.returns-then-index-round-clause-gone
returns-then-index-round-clause-gone g c =
    passes_drop c.args.spans.now.items c.trim.new.spans.items c.args.round
    (has_round g (goal.at.returns-then-index-round-clause-gone g c).After-index c.if-index-round.true) c.trim.ensures.gone

pub returns-then-index-round-clause-covered : goal.returns-then-index-round-clause-covered
returns-then-index-round-clause-covered g c = sym (has_round g (goal.at.returns-then-index-round-clause-covered g c).After-index c.if-index-round.true)
