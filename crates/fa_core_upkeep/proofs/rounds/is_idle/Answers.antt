use Rattle.fa_core_bookings.specs.Bookings.{calendar_of}
use Rattle.std.proofs.Common.{Bool, ap, eq-eqb, false, refl, sym, true, ◌∙◌, ◌≡◌, ◌==◌}
use Rattle.std.specs.FinMap.{len}
use Rattle.std.specs.Prelude.{not, ◌&&◌}
use Rattle.fa_core_upkeep.proofs.rounds.is_idle.Goals as goal

twice : (b : Bool) → not (not b) ≡ b
twice true = refl
twice false = refl

pub returns-then-is_empty : goal.returns-then-is_empty
returns-then-is_empty g c =
    let calendar = calendar_of c.args.bookings.now in
    ap not c.has_window.ensures ∙ twice (len calendar.windows == 0)
    ∙ sym (ap (λ b. b && (len calendar.windows == 0)) (eq-eqb (len calendar.bookings) 0 (c.is_empty.ensures.0 c.if-is_empty.true)))
