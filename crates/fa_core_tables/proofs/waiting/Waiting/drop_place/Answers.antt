use Rattle.std.proofs.Common.{rules, ◌<◌, ◌≤◌, ap, length, map, refl, sym, ◌∙◌, arith}
use Rattle.std.specs.Prelude.{◌==◌, ◌&&◌, not, filter}
use Rattle.fa_core_tables.specs.Queues.{program_of}
use Rattle.std.proofs.lemmas.Fn.{filter_same}
use Rattle.fa_core_tables.specs.declared.queued.QueuedProgram.{QueuedProgram}
use Rattle.fa_core_tables.proofs.Filters.{filter_mapped}
use Rattle.fa_core_tables.proofs.Queues.{cleared_here, cleared_other, queue_past, queue_read, queues_kept, queues_set, room_more}
use Rattle.fa_core_tables.proofs.waiting.Waiting.drop_place.Goals as goal

pub invariant_of-self : goal.invariant_of-self
invariant_of-self g c =
    let s = c.args.self.now in
    let w = s.programs.shown in
    let q = c.index_mut.result.now in
    let fits : c.args.die.0 < length s.queues.items = omega (arith, s.queues.ok.0) in
    let same = queue_read w s.queues.items s.sorted c.args.die.0 q c.index_mut.ensures.value fits in
    let test = λ (e : QueuedProgram g.row.A.Denot). not (c.args.slot.0 == e.slot.0) in
    let kept = filter_same _ test _ (λ x b f h. search rules) q.items c.retain.new.self.items c.retain.ensures.filtered in
    record {
      sorted = queues_set w s.queues.items s.sorted c.note.new.self.shown
          (filter (λ p. not (c.args.die.0 == p.die && c.args.slot.0 == p.slot)) w) c.note.ensures c.args.die.0 c.retain.new.self fits
          (ap (map program_of) kept
          ∙ filter_mapped program_of test (λ p. not (c.args.slot.0 == p.slot)) (λ e. refl) q.items
          ∙ ap (filter (λ p. not (c.args.slot.0 == p.slot))) same ∙ sym (cleared_here w c.args.die.0 c.args.slot.0))
          (cleared_other w c.args.die.0 c.args.slot.0);
    }

pub invariant_of-self-else-index-len : goal.invariant_of-self-else-index-len
invariant_of-self-else-index-len g c =
    let s = c.args.self.now in
    let w = s.programs.shown in
    let past : length s.queues.items ≤ c.args.die.0 = omega (arith, s.queues.ok.0) in
    let none = queue_past w s.queues.items s.sorted c.args.die.0 past in
    record {
      sorted = queues_kept w s.queues.items s.sorted c.note.new.self.shown
          (filter (λ p. not (c.args.die.0 == p.die && c.args.slot.0 == p.slot)) w) c.note.ensures c.args.die.0
          (cleared_here w c.args.die.0 c.args.slot.0 ∙ ap (filter (λ p. not (c.args.slot.0 == p.slot))) none ∙ sym none)
          (cleared_other w c.args.die.0 c.args.slot.0);
    }

pub returns-then-index-len-clause-kept : goal.returns-then-index-len-clause-kept
returns-then-index-len-clause-kept g c =
    let s = c.args.self.now in
    let fits : c.args.die.0 < length s.queues.items = omega (arith, s.queues.ok.0) in
    room_more s.queues.items c.args.die.0 c.index_mut.result.now c.retain.new.self c.index_mut.ensures.value fits
    (omega (arith, c.retain.ensures.bound, c.retain.ensures.capacity))
