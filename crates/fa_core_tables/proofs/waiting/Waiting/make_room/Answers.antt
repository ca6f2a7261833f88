use Rattle.std.proofs.Common.{ap, map, refl, ◌∙◌, arith}
use Rattle.fa_core_tables.specs.Queues.{program_of}
use Rattle.std.proofs.lemmas.Result.{on_ok_weaker}
use Rattle.fa_core_tables.proofs.Queues.{queue_read, queues_set, room_here, room_more}
use Rattle.fa_core_tables.proofs.waiting.Waiting.make_room.Goals as goal

pub invariant_of-self : goal.invariant_of-self
invariant_of-self g c =
    let s = c.args.self.now in
    let same = queue_read s.programs.shown s.queues.items s.sorted c.args.die.0 c.index_mut.result.now
    c.index_mut.ensures.value c.requires in
    record {
      sorted = queues_set s.programs.shown s.queues.items s.sorted s.programs.shown
          s.programs.shown refl c.args.die.0 c.reserve.new.self c.requires
          (ap (map program_of) c.reserve.ensures.items ∙ same) (λ d off. refl);
    }

pub returns-clause-room : goal.returns-clause-room
returns-clause-room g c =
    let s = c.args.self.now in
    let room = room_here s.queues.items c.args.die.0 c.reserve.new.self c.requires in
    on_ok_weaker c.reserve.result (λ more. omega (arith, room, more)) c.reserve.ensures.ok

pub returns-clause-kept : goal.returns-clause-kept
returns-clause-kept g c =
    let s = c.args.self.now in
    room_more s.queues.items c.args.die.0 c.index_mut.result.now c.reserve.new.self c.index_mut.ensures.value c.requires
    (omega (arith, c.reserve.ensures.len, c.reserve.ensures.capacity))
