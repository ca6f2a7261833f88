use Rattle.fa_machine.specs.Writing.{program_at}
use Rattle.std.proofs.Common.{ap, drop, map, take, ◌++◌, ◌∙◌}
use Rattle.fa_core_tables.specs.Waits.{waiting_of}
use Rattle.fa_core_write.proofs.Queued.{queued_each}
use Rattle.fa_core_write.proofs.queueing.queue.Goals as goal

pub returns-clause-queued : goal.returns-clause-queued
returns-clause-queued g c =
    let slots = c.args.slots.now in
    queued_each (program_at c.args.page.0 c.args.version c.args.payload.now) (waiting_of c.args.waiting.now) (waiting_of c.make_rooms.new.waiting)
    (waiting_of c.queue_one.new.waiting) (waiting_of c.queue_one-2.new.waiting) (waiting_of c.queue_one-3.new.waiting) slots c.requires.few
    c.make_rooms.ensures.waiting
    (c.queue_one.ensures.waiting ∙ ap (λ p. waiting_of c.make_rooms.new.waiting ++ map (program_at c.args.page.0 c.args.version p) (take 1 (drop 0 slots))) c.in_ok-first.ensures)
    (c.queue_one-2.ensures.waiting ∙ ap (λ p. waiting_of c.queue_one.new.waiting ++ map (program_at c.args.page.0 c.args.version p) (take 1 (drop 1 slots))) c.in_ok-second.ensures)
    (c.queue_one-3.ensures.waiting ∙ ap (λ p. waiting_of c.queue_one-2.new.waiting ++ map (program_at c.args.page.0 c.args.version p) (take 1 (drop 2 slots))) c.in_ok-third.ensures)
