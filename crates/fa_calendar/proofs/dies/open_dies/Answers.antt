use Rattle.std.proofs.Common.{◌≡◌, [], ◌++◌, ◌∷◌, None, inl, inr, length, get_or, refl, sym, ap, subst, arith}
use Rattle.std.proofs.lemmas.Bool.{cases_lt}
use Rattle.std.proofs.lemmas.List.{get_or_append_left, get_or_push, get_or_past, length_push}
use Rattle.fa_calendar.specs.DieState.{DieState}
use Rattle.fa_calendar.specs.Dies.{no_rounds, state_of}
use Rattle.fa_calendar.proofs.Totals.{empty_room}
use Rattle.fa_calendar.proofs.dies.open_dies.Goals as goal

pub loop-preserved : goal.loop-preserved
loop-preserved g c =
    let pushed = c.in_ok-push.ensures.items in
    let long = length_push c.loop.dies.items c.new.result in
    let size = c.loop.invariant.long in
    let now = ap length pushed in
    record {
      long = omega (arith, now, long, size);
      empty = λ die.
          let Empty : DieState → Type 0 = λ d. (d.spans ≡ []) × (d.window ≡ None) in
          subst Empty (sym (ap (λ v. get_or v die no_rounds) pushed))
          (elim (cases_lt die (length c.loop.dies.items)) [
            | inl before ↦ subst Empty (sym (get_or_append_left c.loop.dies.items (c.new.result ∷ []) no_rounds die before)) (c.loop.invariant.empty die)
            | inr on ↦ elim (cases_lt (length c.loop.dies.items) die) [
              | inl past ↦ subst Empty (sym (get_or_past (c.loop.dies.items ++ c.new.result ∷ []) die no_rounds (omega (arith, long, past)))) (refl, refl)
              | inr at ↦ subst Empty (sym (get_or_push c.loop.dies.items c.new.result no_rounds die (omega (arith, on, at)))) (c.new.ensures.spans, c.new.ensures.window)
            ]
          ]);
    }

pub returns-clause-roomy : goal.returns-clause-roomy
returns-clause-roomy g c = λ die. empty_room (state_of c.loop.dies.items die) (c.loop.invariant.empty die).0
