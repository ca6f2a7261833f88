use Rattle.std.proofs.Common.{◌&&◌, nat_lt, ◌∙◌, ap, sym, arith}
use Rattle.std.proofs.lemmas.Bool.{and_left, lt-ltb, le-ltb}
use Rattle.fa_set.specs.Words.{has}
use Rattle.fa_set.proofs.Membership.{in_below}
use Rattle.fa_set.proofs.number_set.NumberSet.contains.Goals as goal

pub returns-then-number-self : goal.returns-then-number-self
returns-then-number-self g c =
    let s = c.args.self.now in
    c.is_member.ensures ∙ ap (λ l. has l c.args.number) c.deref.ensures.value
    ∙ sym (in_below s.bound s.low.items c.args.number ∙ ap (λ b. b && has s.low.items c.args.number) (lt-ltb c.args.number s.bound (omega arith)))

pub returns-else-number-self : goal.returns-else-number-self
returns-else-number-self g c =
    let s = c.args.self.now in
    let off = le-ltb c.args.number s.bound (omega arith) in
    off ∙ sym (in_below s.bound s.low.items c.args.number ∙ and_left (nat_lt c.args.number s.bound) (has s.low.items c.args.number) off)
