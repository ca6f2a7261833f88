use Rattle.std.proofs.Common.{◌+◌, [], ◌∷◌, ap, get_or, map, sym, ◌∙◌, arith}
use Rattle.std.proofs.lemmas.List.{map-append}
use Rattle.std.specs.Prelude.{filter}
use Rattle.fa_machine.specs.Taking.{is_for}
use Rattle.fa_core_tables.specs.Queues.{program_of, programs_in, queues_in}
use Rattle.fa_core_tables.proofs.Queues.{all_empty_push}
use Rattle.fa_core_tables.proofs.waiting.Waiting.new.Goals as goal

pub push_reserved-requires : goal.push_reserved-requires
push_reserved-requires g c = let i = c.loop.invariant in omega (arith, i.long, i.room)

pub loop-init : goal.loop-init
loop-init g c =
    let made = c.in_ok-queues.ensures in
    record {
      long = made.len;
      room = made.capacity;
      empty = λ d. ap (λ qs. get_or (queues_in qs) d []) made.items;
    }

pub loop-preserved : goal.loop-preserved
loop-preserved g c =
    let i = c.loop.invariant in
    let pushed = c.push_reserved.ensures in
    record {
      long = pushed.len ∙ ap (λ n. n + 1) i.long;
      room = omega (arith, i.room, pushed.capacity);
      empty = λ d.
          ap (λ qs. get_or (queues_in qs) d []) pushed.items
          ∙ ap (λ qs. get_or qs d []) (map-append programs_in c.loop.queues.items (c.new.result ∷ []))
          ∙ all_empty_push (queues_in c.loop.queues.items) (programs_in c.new.result) (ap (map program_of) c.new.ensures.items) i.empty d;
    }

pub invariant_of-result : goal.invariant_of-result
invariant_of-result g c =
    let i = c.loop.invariant in
    record { sorted = record { each = λ d. i.empty d ∙ sym (ap (filter (is_for d)) c.begin.ensures) } }

pub returns-clause-dies : goal.returns-clause-dies
returns-clause-dies g c = let i = c.loop.invariant in omega (arith, i.long, c.loop.queues.ok.0)
