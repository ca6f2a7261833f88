use Rattle.fa_solo_laws.proofs.Given.{answers_give}
use Rattle.fa_solo_laws.proofs.Listed.{ready_gives}
use Rattle.fa_solo_laws.proofs.ReadBack.{of_all}
use Rattle.fa_solo_laws.specs.Unwritten.{GivesPlainPage}
use Rattle.fa_machine.proofs.Lists.{among-contains}
use Rattle.fa_machine.specs.World.{plain_page}
use Rattle.std.proofs.Common.{List, [], arith, length, map, subst, suc, sym, zero, ap, ℕ, ◌<◌, ◌∷◌, ◌≡◌}
use Rattle.std.specs.Prelude.{Contains, slice_index_or}
use Rattle.fa_solo_laws.proofs.batches.wrong_answers_are_none.Goals as goal

contains_mapped : {X Y : Type 0} (f : X → Y) (x : X) (xs : List X) (k : ℕ) → k < length xs → slice_index_or xs k x ≡ x → Contains (map f xs) (f x)
contains_mapped f x [] k h e = absurd (omega arith)
contains_mapped f x (y ∷ ys) zero h e = (zero, omega arith, ap f e)
contains_mapped f x (y ∷ ys) (suc k) h e =
    let rest = contains_mapped f x ys k (omega arith) e in
    let low = rest.1 in (suc rest.0, omega (arith, low), rest.2)

pub returns : goal.returns
returns c = record {
  bytes = λ w opened last after pages admitted happenings answer page bytes reached opens run none has other ends.
      other (of_all (GivesPlainPage w) answer
      (answers_give w opened last after pages admitted happenings answer reached opens run none ends) (page, bytes)
      (among-contains (page, bytes) answer has.0 has.1 has.2));
  left_out = λ w opened last after pages admitted happenings answer page reached opens run none unended ready has lacks ends.
      lacks (plain_page w page)
      (subst (λ (given : List (ℕ × List ℕ)). Contains given (page, plain_page w page))
      (sym (ready_gives w opened last after pages admitted happenings answer reached opens run none unended ready ends))
      (contains_mapped (λ p. (p, plain_page w p)) page pages has.0 has.1 has.2));
}
