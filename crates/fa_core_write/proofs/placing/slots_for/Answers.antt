use Rattle.std.proofs.Common.{ap, length, map, subst, sym, ◌∙◌, ◌++◌, ◌∷◌, [], ◌+◌}
use Rattle.fa_machine.specs.Writing.{target_on}
use Rattle.fa_types.specs.declared.numbers.Die.{Die}
use Rattle.fa_core_write.proofs.Placed.{map_more, of_numbers, one_longer}
use Rattle.fa_mirror.specs.Chosen.{MayReserve}
use Rattle.std.proofs.lemmas.List.{take_all}
use Rattle.std.proofs.lemmas.List.Elements.{All-push}
use Rattle.std.specs.List.{All}
use Rattle.fa_core_write.proofs.placing.slots_for.Goals as goal

pub loop-index-preserved : goal.loop-index-preserved
loop-index-preserved g c =
    let m = g.M.Map.view c.args.page_map.now in
    let dies = c.as_slice-dies.result.now in (
      c.push.ensures ∙ (λ i. c.loop-index.invariant.0 i ++ c.slot_on.ensures.slot i ∷ [])
          ∙ sym (map_more (λ (die : Die). target_on m die.0) dies c.loop-index.index _ c.loop-index-test.true),
      ap length c.push.ensures ∙ one_longer _ _ ∙ ap (λ n. n + 1) c.loop-index.invariant.1,
      subst (All (MayReserve m)) (sym c.push.ensures) (All-push (MayReserve m) _ _ c.loop-index.invariant.2 c.slot_on.ensures.free),
    )

pub returns-clause-slots : goal.returns-clause-slots
returns-clause-slots g c =
    let m = g.M.Map.view c.args.page_map.now in
    let dies = c.as_slice-dies.result.now in
    c.loop-index.invariant.0 ∙ ap (map (λ (die : Die). target_on m die.0)) (take_all c.loop-index.index dies c.loop-index-test.false)
    ∙ of_numbers (target_on m) dies
    ∙ ap (λ ds. map (target_on m) (map (λ (die : Die). die.0) ds)) c.as_slice-dies.ensures.dies
    ∙ ap (map (target_on m)) c.targets-placing.ensures.dies
