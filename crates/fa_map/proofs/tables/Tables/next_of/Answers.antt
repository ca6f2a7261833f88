use Rattle.std.proofs.Common.{ℕ, Option, ap}
use Rattle.fa_map.specs.Chains.{place_of}
use Rattle.fa_map.proofs.tables.Tables.next_of.Goals as goal

pub next-requires-clause-die : goal.next-requires-clause-die
next-requires-clause-die g c =
    (c.requires.place c.in-Some.die c.args.place.slot (ap (λ (o : Option ℕ). place_of o c.args.place.slot) c.in-Some.is)).0

pub next-requires-clause-slot : goal.next-requires-clause-slot
next-requires-clause-slot g c =
    (c.requires.place c.in-Some.die c.args.place.slot (ap (λ (o : Option ℕ). place_of o c.args.place.slot) c.in-Some.is)).1
