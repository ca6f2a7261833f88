use contract.BorrowLft.{⊑_meet, ⊑_static}
use Rattle.std.proofs.Common.{◌∷◌, [], ◌++◌, ap, map, sym, ◌∙◌, arith}
use Rattle.std.proofs.lemmas.List.{map-append}
use Rattle.fa_core_tables.specs.Queues.{program_of}
use Rattle.fa_core_tables.proofs.Queues.{pushed_here, pushed_other, queue_read, queues_set, room_less, room_read, room_within}
use Rattle.fa_core_tables.proofs.waiting.Waiting.push.Goals as goal

pub note-requires : goal.note-requires
note-requires g c κs within =
    let one = ⊑_meet _ _ _ within (⊑_static _) in
    let hashed = ⊑_meet _ _ _ (⊑_meet _ _ _ one one) (⊑_static _) in
    let all = ⊑_meet _ _ _ (⊑_meet _ _ _ one hashed) one in
    let payload = ⊑_meet _ _ _ (⊑_meet _ _ _ all (⊑_static _)) (⊑_static _) in
    (⊑_static _, ⊑_meet _ _ _ one (⊑_meet _ _ _ (⊑_meet _ _ _ one payload) (⊑_static _)))

pub invariant_of-self : goal.invariant_of-self
invariant_of-self g c =
    let s = c.args.self.now in
    let p = program_of c.args.program in
    let fits = room_within s.queues.items c.args.program.die.0 c.requires in
    let same = queue_read s.programs.shown s.queues.items s.sorted c.args.program.die.0 c.index_mut.result.now
    c.index_mut.ensures.value fits in
    record {
      sorted = queues_set s.programs.shown s.queues.items s.sorted c.note.new.self.shown
          (s.programs.shown ++ p ∷ []) c.note.ensures c.args.program.die.0 c.push_back_reserved.new.self fits
          (ap (map program_of) c.push_back_reserved.ensures.items ∙ map-append program_of c.index_mut.result.now.items (c.args.program ∷ [])
          ∙ ap (λ l. l ++ p ∷ []) same ∙ sym (pushed_here s.programs.shown p))
          (pushed_other s.programs.shown p);
    }

pub returns-clause-room : goal.returns-clause-room
returns-clause-room g c =
    let s = c.args.self.now in
    let fits = room_within s.queues.items c.args.program.die.0 c.requires in
    let some = room_read s.queues.items c.args.program.die.0 c.index_mut.result.now
    c.index_mut.ensures.value fits in
    room_less s.queues.items c.args.program.die.0 c.index_mut.result.now c.push_back_reserved.new.self c.index_mut.ensures.value fits
    (omega (arith, some, c.requires, c.push_back_reserved.ensures.len, c.push_back_reserved.ensures.capacity))
