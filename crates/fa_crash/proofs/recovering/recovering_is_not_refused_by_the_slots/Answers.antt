use Rattle.fa_crash.proofs.Slots.{slots_fine, some_live}
use Rattle.fa_crash.proofs.recovering.recovering_is_not_refused_by_the_slots.Goals as goal
use Rattle.std.proofs.Common.{inl, inr, sym, ◌∙◌}
use Rattle.std.proofs.lemmas.Option.{none-some}

pub returns : goal.returns
returns c first w told happenings u cells heads seen x page dies copies outcomes refusal b t run cut left marked read among low holds few refused =
    let fine = slots_fine c.what_was_found_is_what_is_seen.ensures.erased first b told heads cells
    (λ die slot none. c.what_has_its_mark_is_as_it_was_mounted.ensures first w told happenings u cells heads die slot b t run cut none)
    seen left marked dies outcomes read copies few in
    let mask = c.the_mask_has_the_holders.ensures.mask first w told happenings u cells heads seen x page b t run cut left among holds in
    let live = c.the_mask_has_the_holders.ensures.live first w told happenings u cells heads seen x page b t run cut left among holds in
    let r = read x.header.die.0 mask in
    elim refused [
      | inl told ↦ none-some refusal (sym fine ∙ told)
      | inr scan ↦ some_live seen dies x.header.die.0 live.0 outcomes r.slots low live.1 r.is refusal scan
    ]
