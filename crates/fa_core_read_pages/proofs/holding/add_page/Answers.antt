use Rattle.fa_batch.proofs.Batches.{with_holder-push}
use Rattle.fa_batch_terms.specs.Batch.{with_holder}
use Rattle.fa_machine.specs.Copies.{holders, holds_page}
use Rattle.fa_core_read_pages.proofs.Chain.{dies_left, fewer_left, left_from, one_taken}
use Rattle.fa_core_read_pages.proofs.Entries.{dies_again}
use Rattle.fa_core_read_pages.proofs.holding.add_page.Goals as goal
use Rattle.fa_types.specs.declared.numbers.Die.{Die}
use Rattle.std.proofs.Common.{List, None, [], ap, arith, length, map, refl, subst, sym, ℕ, ◌-◌, ◌<◌, ◌∙◌, ◌∷◌, ◌≡◌, ◌++◌}
use Rattle.std.proofs.lemmas.List.{append-nil}
use Rattle.std.specs.List.{range_with_len}
use Rattle.std.specs.Prelude.{filter}

less_none : (n : ℕ) → n - 0 ≡ n
less_none n = omega arith

pub loop-copy-init : goal.loop-copy-init
loop-copy-init g c = (
  c.first_copy-copy.ensures.slot,
  [],
  c.in_ok-push.ensures.ok,
  left_from (g.M.Map.view c.args.page_map.now) c.args.page.0 0 c.first_copy-copy.result c.first_copy-copy.ensures.die
      ∙ ap (λ n. filter (holds_page (g.M.Map.view c.args.page_map.now) c.args.page.0) (range_with_len 0 n)) (less_none (g.M.Map.view
      c.args.page_map.now).geometry.dies),
)

pub loop-copy-smaller : goal.loop-copy-smaller
loop-copy-smaller g c =
    let less = fewer_left (g.M.Map.view c.args.page_map.now) c.args.page.0 c.in-Some.die c.in-Some.slot c.next_copy-copy.result
    c.next_copy-copy.ensures.die in
    subst (λ copy. length (dies_left (g.M.Map.view c.args.page_map.now) c.args.page.0 c.next_copy-copy.result)
    < length (dies_left (g.M.Map.view c.args.page_map.now) c.args.page.0 copy)) (sym c.in-Some.is) less

pub loop-copy-preserved : goal.loop-copy-preserved
loop-copy-preserved g c =
    let m = g.M.Map.view c.args.page_map.now in
    let held : List Die = c.loop-copy.invariant.1 in (
      c.next_copy-copy.ensures.slot,
      held ++ c.in-Some.die ∷ [],
      c.in_ok-hold.ensures.ok ∙ ap (λ batch. with_holder batch c.in-Some.die) c.loop-copy.invariant.2
          ∙ with_holder-push c.args.batch.now (record { page = c.args.page; holders = held }) c.in-Some.die,
      one_taken m c.args.page.0 c.in-Some.die c.in-Some.slot c.next_copy-copy.result c.next_copy-copy.ensures.die held (holders m c.args.page.0)
          (subst (λ copy. map (λ (die : Die). die.0) held ++ dies_left m c.args.page.0 copy ≡ holders m c.args.page.0) c.in-Some.is c.loop-copy.invariant.3),
    )

pub returns : goal.returns
returns g c =
    let m = g.M.Map.view c.args.page_map.now in
    let held : List Die = c.loop-copy.invariant.1 in
    let all : map (λ (die : Die). die.0) held ≡ holders m c.args.page.0 =
    sym (append-nil (map (λ (die : Die). die.0) held))
    ∙ subst (λ copy. map (λ (die : Die). die.0) held ++ dies_left m c.args.page.0 copy ≡ holders m c.args.page.0) c.in_default.is
    c.loop-copy.invariant.3 in
    c.loop-copy.invariant.2
    ∙ ap (λ dies. c.args.batch.now ++ record { page = c.args.page; holders = dies } ∷ [])
    (sym (dies_again held) ∙ ap (map (λ (n : ℕ). record { 0 = n })) all)
