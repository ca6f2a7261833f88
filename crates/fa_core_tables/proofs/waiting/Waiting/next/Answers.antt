use Rattle.std.proofs.Common.{◌<◌, ◌≤◌, ap, length, sym, ◌∙◌, arith}
use Rattle.fa_core_tables.specs.Queues.{program_of}
use Rattle.fa_machine.specs.Taking.{is_for}
use Rattle.fa_core_tables.proofs.Filters.{find_head, head_of, popped, tail_of}
use Rattle.fa_core_tables.proofs.Queues.{queue_past, queue_read, queues_kept, queues_set, room_more, taken_here, taken_other, without_oldest}
use Rattle.fa_core_tables.proofs.waiting.Waiting.next.Goals as goal

pub invariant_of-self : goal.invariant_of-self
invariant_of-self g c =
    let s = c.args.self.now in
    let w = s.programs.shown in
    let q = c.index_mut.result.now in
    let fits : c.args.die.0 < length s.queues.items = omega (arith, s.queues.ok.0) in
    let same = queue_read w s.queues.items s.sorted c.args.die.0 q c.index_mut.ensures.value fits in
    let parts = popped program_of c.pop_front.result q.items c.pop_front.new.self.items q.len c.pop_front.ensures.items q.ok.0
    c.pop_front.ensures.variant.1 in
    record {
      sorted = queues_set w s.queues.items s.sorted c.note.new.self.shown
          (without_oldest c.args.die.0 w) c.note.ensures c.args.die.0 c.pop_front.new.self fits
          (parts.1 ∙ ap tail_of same ∙ sym (taken_here w c.args.die.0))
          (taken_other w c.args.die.0);
    }

pub invariant_of-self-else-index-len : goal.invariant_of-self-else-index-len
invariant_of-self-else-index-len g c =
    let s = c.args.self.now in
    let w = s.programs.shown in
    let past : length s.queues.items ≤ c.args.die.0 = omega (arith, s.queues.ok.0) in
    let none = queue_past w s.queues.items s.sorted c.args.die.0 past in
    record {
      sorted = queues_kept w s.queues.items s.sorted c.note.new.self.shown
          (without_oldest c.args.die.0 w) c.note.ensures c.args.die.0
          (taken_here w c.args.die.0 ∙ ap tail_of none ∙ sym none) (taken_other w c.args.die.0);
    }

pub returns-then-index-len-clause-oldest : goal.returns-then-index-len-clause-oldest
returns-then-index-len-clause-oldest g c =
    let s = c.args.self.now in
    let w = s.programs.shown in
    let q = c.index_mut.result.now in
    let fits : c.args.die.0 < length s.queues.items = omega (arith, s.queues.ok.0) in
    let same = queue_read w s.queues.items s.sorted c.args.die.0 q c.index_mut.ensures.value fits in
    let parts = popped program_of c.pop_front.result q.items c.pop_front.new.self.items q.len c.pop_front.ensures.items q.ok.0
    c.pop_front.ensures.variant.1 in
    parts.0 ∙ ap head_of same ∙ sym (find_head (is_for c.args.die.0) w)

pub returns-then-index-len-clause-kept : goal.returns-then-index-len-clause-kept
returns-then-index-len-clause-kept g c =
    let s = c.args.self.now in
    let fits : c.args.die.0 < length s.queues.items = omega (arith, s.queues.ok.0) in
    room_more s.queues.items c.args.die.0 c.index_mut.result.now c.pop_front.new.self c.index_mut.ensures.value fits
    (omega (arith, c.pop_front.ensures.len, c.pop_front.ensures.capacity))

pub returns-else-index-len-clause-oldest : goal.returns-else-index-len-clause-oldest
returns-else-index-len-clause-oldest g c =
    let s = c.args.self.now in
    let w = s.programs.shown in
    let past : length s.queues.items ≤ c.args.die.0 = omega (arith, s.queues.ok.0) in
    sym (find_head (is_for c.args.die.0) w ∙ ap head_of (queue_past w s.queues.items s.sorted c.args.die.0 past))
