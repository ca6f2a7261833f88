use Rattle.std.proofs.Common.{ℕ, Option, ap}
use Rattle.fa_map.specs.Chains.{place_of}
use Rattle.fa_map.proofs.links.write_behind.Goals as goal

pub index_of-requires-clause-die : goal.index_of-requires-clause-die
index_of-requires-clause-die g c = (c.requires.place c.in-Some.die c.args.place.slot (ap (λ (o : Option ℕ). place_of o c.args.place.slot) c.in-Some.is)).0

pub index_of-requires-clause-slot : goal.index_of-requires-clause-slot
index_of-requires-clause-slot g c = (c.requires.place c.in-Some.die c.args.place.slot (ap (λ (o : Option ℕ). place_of o c.args.place.slot) c.in-Some.is)).1
