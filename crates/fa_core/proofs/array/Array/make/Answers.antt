use Rattle.fa_core.proofs.Allowed.{admitted_pages}
use Rattle.fa_core.specs.Array.{state_of}
use Rattle.fa_core_calls.specs.Calls.{may_make}
use Rattle.fa_core_calls.specs.declared.call.Call.{Call}
use Rattle.fa_core_outcome.specs.Outcomes.{outcome_of}
use Rattle.fa_machine.specs.Cells.{is_of_kind}
use Rattle.fa_machine.specs.Conditions.{claim_open, history_full, is_reserved}
use Rattle.fa_machine.specs.State.{Core}
use Rattle.fa_machine.specs.Step.{is_die, is_sized}
use Rattle.std.proofs.Common.{false, length, subst, true, ℕ, ◌≡◌}
use Rattle.std.proofs.lemmas.Bool.{and_parts, eqb-true, leb-true, not-true}
use Rattle.std.specs.FinMap.{get}
use Rattle.std.specs.Option.{option_map_or}
use Rattle.std.specs.Prelude.{nat_le, not, ◌&&◌}
use Rattle.fa_core.proofs.array.Array.make.Goals as goal

-- the condition of the call that was found to be this one
found : {A : Type 0} (old : Core) (seat : ℕ) (call this : Call A) → call ≡ this → may_make old seat call ≡ true → may_make old seat this ≡ true
found old seat call this is may = subst (λ k. may_make old seat k ≡ true) is may

pub reserve-requires-clause-sized : goal.reserve-requires-clause-sized
reserve-requires-clause-sized g c =
    let old = state_of g.M.Map.view c.args.self.now in let r = c.in-Reserve in
    (and_parts (claim_open old r.claim.0 && not (is_reserved old r.claim.0)) (is_sized old r.payload.now)
    (found old c.args.seat c.args.call _ r.is c.requires.may)).1

pub reserve_fewer-requires-clause-sized : goal.reserve_fewer-requires-clause-sized
reserve_fewer-requires-clause-sized g c =
    let old = state_of g.M.Map.view c.args.self.now in let r = c.in-ReserveFewer in
    (and_parts (claim_open old r.claim.0 && not (is_reserved old r.claim.0)) (is_sized old r.payload.now)
    (found old c.args.seat c.args.call _ r.is c.requires.may)).1

pub commit-requires-clause-room : goal.commit-requires-clause-room
commit-requires-clause-room g c =
    let old = state_of g.M.Map.view c.args.self.now in
    not-true (history_full old) (and_parts (is_reserved old c.in-Commit.claim.0) (not (history_full old))
    (found old c.args.seat c.args.call _ c.in-Commit.is c.requires.may)).1

pub admit-requires-clause-inside : goal.admit-requires-clause-inside
admit-requires-clause-inside g c =
    let old = state_of g.M.Map.view c.args.self.now in
    (admitted_pages old c.in-Admit.pages.now (found old c.args.seat c.args.call _ c.in-Admit.is c.requires.may)).0

pub admit-requires-clause-few : goal.admit-requires-clause-few
admit-requires-clause-few g c =
    let old = state_of g.M.Map.view c.args.self.now in
    (admitted_pages old c.in-Admit.pages.now (found old c.args.seat c.args.call _ c.in-Admit.is c.requires.may)).1

pub done-requires-clause-kind : goal.done-requires-clause-kind
done-requires-clause-kind g c =
    let old = state_of g.M.Map.view c.args.self.now in let d = c.in-Done in
    (and_parts (option_map_or (λ job. is_of_kind job (outcome_of d.outcome d.buffer.items)) (get old.jobs d.die.0) false)
    (is_sized old d.buffer.items) (found old c.args.seat c.args.call _ d.is c.requires.may)).0

pub done-requires-clause-sized : goal.done-requires-clause-sized
done-requires-clause-sized g c =
    let old = state_of g.M.Map.view c.args.self.now in let d = c.in-Done in
    eqb-true (length d.buffer.items) old.page_map.geometry.page_bytes
    (and_parts (option_map_or (λ job. is_of_kind job (outcome_of d.outcome d.buffer.items)) (get old.jobs d.die.0) false)
    (is_sized old d.buffer.items) (found old c.args.seat c.args.call _ d.is c.requires.may)).1

pub window-requires-clause-some : goal.window-requires-clause-some
window-requires-clause-some g c =
    let old = state_of g.M.Map.view c.args.self.now in let w = c.in-Window in
    leb-true 1 w.rounds (and_parts (is_die old w.die.0) (nat_le 1 w.rounds) (and_parts (is_die old w.die.0 && nat_le 1 w.rounds)
    (nat_le w.rounds 64) (found old c.args.seat c.args.call _ w.is c.requires.may)).0).1

pub window-requires-clause-few : goal.window-requires-clause-few
window-requires-clause-few g c =
    let old = state_of g.M.Map.view c.args.self.now in let w = c.in-Window in
    leb-true w.rounds 64 (and_parts (is_die old w.die.0 && nat_le 1 w.rounds) (nat_le w.rounds 64)
    (found old c.args.seat c.args.call _ w.is c.requires.may)).1
