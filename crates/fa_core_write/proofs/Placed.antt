-- Slots that are looked up, and reserved one after the other.
use Rattle.fa_machine.specs.Maps.{insert_all}
use Rattle.fa_machine.specs.State.{MapState}
use Rattle.fa_machine.specs.Writing.{with_targets}
use Rattle.fa_machine.specs.declared.places.Target.{Target}
use Rattle.fa_machine.specs.declared.places.Used.{Used}
use Rattle.fa_map_calls.specs.Changes.{with_used}
use Rattle.fa_mirror.specs.Order.{numbers_of}
use Rattle.fa_types.specs.declared.numbers.Die.{Die}
use Rattle.std.proofs.Common.{List, [], ap, arith, get_or, length, map, refl, suc, subst}
use Rattle.std.proofs.Common.{sym, take, ℕ, ◌*◌, ◌+◌, ◌<◌}
use Rattle.std.proofs.Common.{◌++◌, ◌∙◌, ◌∷◌, ◌≡◌}
use Rattle.std.proofs.Math.Seq.{take-suc}
use Rattle.std.proofs.lemmas.List.{length-append, map-append}
use Rattle.std.proofs.lemmas.List.Sums.{fold-append}
use Rattle.std.specs.FinMap.{insert}

-- one slot more is reserved
pub reserved_next : (used : Used) (ts : List Target) (t : Target) (m : MapState)
    → with_targets used (ts ++ t ∷ []) m ≡ with_used t.die.0 t.slot.0 used (with_targets used ts m)
reserved_next used ts t m i = record m {
  used = (ap (λ ks. insert_all ks used m.used) (map-append (λ (x : Target). (x.die.0, x.slot.0)) ts (t ∷ []))
      ∙ fold-append (λ built k. insert built k used) m.used (map (λ (x : Target). (x.die.0, x.slot.0)) ts) ((t.die.0, t.slot.0) ∷ [])) i;
}

-- one element more
pub take_more : {X : Type 0} (xs : List X) (n : ℕ) (d : X) → n < length xs → take (n + 1) xs ≡ take n xs ++ get_or xs n d ∷ []
take_more xs n d low = ap (λ k. take k xs) (suc_is n) ∙ take-suc xs n d low
  where
    suc_is : (n : ℕ) → n + 1 ≡ suc n
    suc_is n = omega arith

pub map_more : {X Y : Type 0} (f : X → Y) (xs : List X) (n : ℕ) (d : X) → n < length xs
    → map f (take (n + 1) xs) ≡ map f (take n xs) ++ f (get_or xs n d) ∷ []
map_more f xs n d low = ap (map f) (take_more xs n d low) ∙ map-append f (take n xs) (get_or xs n d ∷ [])

-- what is made of each die's number
pub of_numbers : {Y : Type 0} (g : ℕ → Y) (dies : List Die) → map (λ (die : Die). g die.0) dies ≡ map g (numbers_of dies)
of_numbers g [] = refl
of_numbers g (die ∷ dies) = ap (λ ys. g die.0 ∷ ys) (of_numbers g dies)

pub one_longer : {X : Type 0} (xs : List X) (x : X) → length (xs ++ x ∷ []) ≡ length xs + 1
one_longer xs x = length-append xs (x ∷ [])

-- reserved slots change no geometry
pub still_fits : (used : Used) (ts : List Target) (m n : MapState) (slot : ℕ) → n ≡ with_targets used ts m
    → slot < m.geometry.blocks * m.geometry.slots → slot < n.geometry.blocks * n.geometry.slots
still_fits used ts m n slot is fits = subst (λ (k : MapState). slot < k.geometry.blocks * k.geometry.slots) (sym is) fits
