use Rattle.std.proofs.Common.{◌<◌, ◌≤◌, ap, length, map, sym, ◌∙◌, arith}
use Rattle.std.specs.Prelude.{◌==◌, not, filter}
use Rattle.fa_core_tables.specs.Queues.{program_of}
use Rattle.fa_core_tables.proofs.Queues.{dropped_here, dropped_other, queue_past, queues_kept, queues_set, room_more}
use Rattle.fa_core_tables.proofs.waiting.Waiting.drop_die.Goals as goal

pub invariant_of-self : goal.invariant_of-self
invariant_of-self g c =
    let s = c.args.self.now in
    let w = s.programs.shown in
    let fits : c.args.die.0 < length s.queues.items = omega (arith, s.queues.ok.0) in
    record {
      sorted = queues_set w s.queues.items s.sorted c.note.new.self.shown
          (filter (λ p. not (p.die == c.args.die.0)) w) c.note.ensures c.args.die.0 c.clear.new.self fits
          (ap (map program_of) c.clear.ensures.items ∙ sym (dropped_here w c.args.die.0))
          (dropped_other w c.args.die.0);
    }

pub invariant_of-self-else-index-len : goal.invariant_of-self-else-index-len
invariant_of-self-else-index-len g c =
    let s = c.args.self.now in
    let w = s.programs.shown in
    let past : length s.queues.items ≤ c.args.die.0 = omega (arith, s.queues.ok.0) in
    let none = queue_past w s.queues.items s.sorted c.args.die.0 past in
    record {
      sorted = queues_kept w s.queues.items s.sorted c.note.new.self.shown
          (filter (λ p. not (p.die == c.args.die.0)) w) c.note.ensures c.args.die.0
          (dropped_here w c.args.die.0 ∙ sym none) (dropped_other w c.args.die.0);
    }

pub returns-then-index-len-clause-kept : goal.returns-then-index-len-clause-kept
returns-then-index-len-clause-kept g c =
    let s = c.args.self.now in
    let fits : c.args.die.0 < length s.queues.items = omega (arith, s.queues.ok.0) in
    room_more s.queues.items c.args.die.0 c.index_mut.result.now c.clear.new.self c.index_mut.ensures.value fits
    (omega (arith, c.clear.ensures.len, c.clear.ensures.capacity))
