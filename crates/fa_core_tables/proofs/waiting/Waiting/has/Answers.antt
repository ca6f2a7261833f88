use Rattle.std.proofs.Common.{ap, arith, length, sym, ◌<◌, ◌≤◌, ◌∙◌}
use Rattle.std.proofs.lemmas.Bool.{le-ltb}
use Rattle.std.specs.Prelude.{◌==◌, is_some}
use Rattle.fa_core_tables.proofs.Filters.{find_head, head_of, is_there}
use Rattle.fa_core_tables.proofs.Queues.{queue_past, queue_read}
use Rattle.fa_core_tables.specs.Queues.{program_of}
use Rattle.fa_machine.specs.Taking.{is_for}
use Rattle.fa_core_tables.proofs.waiting.Waiting.has.Goals as goal

pub returns-then-index-len : goal.returns-then-index-len
returns-then-index-len g c =
    let s = c.args.self.now in
    let w = s.programs.shown in
    let q = c.index.result.now in
    let fits : c.args.die.0 < length s.queues.items = omega (arith, s.queues.ok.0) in
    let same = queue_read w s.queues.items s.sorted c.args.die.0 q c.index.ensures fits in
    is_there program_of q.items c.is_empty.result (c.is_empty.ensures ∙ ap (λ n. n == 0) q.ok.0)
    ∙ ap (λ ps. is_some (head_of ps)) same ∙ sym (ap is_some (find_head (is_for c.args.die.0) w))

pub returns-else-index-len : goal.returns-else-index-len
returns-else-index-len g c =
    let s = c.args.self.now in
    let w = s.programs.shown in
    let past : length s.queues.items ≤ c.args.die.0 = omega (arith, s.queues.ok.0) in
    le-ltb c.args.die.0 c.len.result c.if-index-len.false ∙ sym (ap is_some (find_head (is_for c.args.die.0) w
    ∙ ap head_of (queue_past w s.queues.items s.sorted c.args.die.0 past)))
