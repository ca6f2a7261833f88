use Rattle.fa_core.proofs.Calls.{counts_made, stranger_fits, stranger_hands_out}
use Rattle.fa_core.specs.Array.{number_of, state_of}
use Rattle.std.proofs.Common.{refl, sym, ◌∙◌}
use Rattle.fa_core.proofs.array.Array.step.Goals as goal

pub returns-then-not-may_make-clause-event : goal.returns-then-not-may_make-clause-event
returns-then-not-may_make-clause-event g c = (sym (c.may_make.ensures c.args.seat) ∙ c.if-not-may_make.true, refl)

pub returns-then-not-may_make-clause-fits : goal.returns-then-not-may_make-clause-fits
returns-then-not-may_make-clause-fits g c =
    stranger_fits (state_of g.M.Map.view c.args.self.now).page_map.geometry (number_of c.args.self.now) c.args.call c.buffer_of.result

pub returns-then-not-may_make-clause-handed : goal.returns-then-not-may_make-clause-handed
returns-then-not-may_make-clause-handed g c = stranger_hands_out (state_of g.M.Map.view c.args.self.now) c.args.call c.buffer_of.result

pub make-requires-clause-may : goal.make-requires-clause-may
make-requires-clause-may g c = sym (c.may_make.ensures c.args.seat) ∙ c.if-not-may_make.false

pub returns-clause-commits : goal.returns-clause-commits
returns-clause-commits g c =
    counts_made (state_of g.M.Map.view c.args.self.now) (state_of g.M.Map.view c.make.new.self) c.args.seat c.args.call c.make.result
    c.an_event_counts.ensures c.make.ensures.event
