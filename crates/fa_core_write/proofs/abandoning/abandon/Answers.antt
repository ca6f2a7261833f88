use Rattle.std.proofs.Common.{ap, subst, sym, ◌∙◌, Ok, None}
use Rattle.fa_core_tables.specs.Claims.{reservation_of, targets_of}
use Rattle.fa_machine.specs.Writing.{Abandons, abandon_refusal, live_targets, with_reserved, with_targets}
use Rattle.fa_machine.specs.declared.places.Used.TheVariants.{Stale}
use Rattle.fa_core_state.specs.Core.{core_of}
use Rattle.fa_core_write.proofs.Abandoned.{others_of}
use Rattle.fa_core_write.proofs.Kept.{reserved_fit}
use Rattle.fa_core_commit.specs.Holding.{FitsLive}
use Rattle.std.specs.List.{All}
use Rattle.std.specs.Prelude.{option_map}
use Rattle.fa_core_write.proofs.abandoning.abandon.Goals as goal

pub give_up-requires-clause-fits : goal.give_up-requires-clause-fits
give_up-requires-clause-fits g c =
    let core = core_of g.M.Map.view c.args.state.now in
    subst (All (FitsLive core.page_map)) (sym c.items-slots.ensures)
    (reserved_fit core c.requires.sound c.args.claim.0 (reservation_of c.in-Some.reservation)
    (sym c.reserved.ensures ∙ ap (option_map reservation_of) c.in-Some.is))

pub returns-in-None-refusal-clause-abandons : goal.returns-in-None-refusal-clause-abandons
returns-in-None-refusal-clause-abandons g c =
    let core = core_of g.M.Map.view c.args.state.now in
    let new = core_of g.M.Map.view c.give_up.new.state in
    let places = targets_of c.in-Some.reservation.targets in
    subst (λ o. Abandons core c.args.claim.0 o (Ok tt) new) (sym (ap (option_map reservation_of) c.in-Some.is) ∙ c.reserved.ensures) (
      ap (abandon_refusal core) (sym c.items-slots.ensures) ∙ sym c.refusal.ensures ∙ c.in-None-refusal.is,
      c.give_up.ensures.given_up ∙ ap (λ ts. with_reserved c.args.claim.0 None (record core {
        page_map = with_targets Stale (live_targets core ts) core.page_map;
        waiting = others_of ts core.waiting;
      })) c.items-slots.ensures,
    )
