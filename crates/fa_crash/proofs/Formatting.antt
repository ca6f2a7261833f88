-- The headers and cells of an array that was formatted.
use Rattle.fa_crash.specs.Headers.{names}
use Rattle.fa_machine.proofs.Maps.{get-insert_cases, get-insert_other, get-insert_same, has_some}
use Rattle.fa_machine.specs.Cells.{Empty, Sealed}
use Rattle.fa_machine.specs.Maps.{Numbers}
use Rattle.fa_machine.specs.declared.places.Version.{Version}
use Rattle.std.proofs.Common.{Bool, List, ap, arith, inl, inr, suc, sym, true, zero, ℕ, ◌<◌, ◌∙◌, ◌≡◌}
use Rattle.std.proofs.lemmas.Bool.{cases_lt, false≢true}
use Rattle.std.proofs.lemmas.Nat.Bits.{bit_at_above}
use Rattle.std.proofs.lemmas.Option.{none-some}
use Rattle.std.specs.FinMap.{contains_key, empty, get, get-empty, insert}
use Rattle.std.specs.Int.{bit_at}
use Rattle.std.specs.Ordering.{nat_cmp}
use Rattle.std.specs.Prelude.{is_some, ◌==◌, ◌||◌}

pub empty_not : (page : ℕ) (version : Version) (die slot : ℕ) (payload : List ℕ) → Empty ≡ Sealed page version die slot payload → ⊥
empty_not page version die slot payload e = cc

abbrev pub both : Numbers
both = insert (insert empty 0 tt) 1 tt

-- both dies are named
pub named_both : (die : ℕ) → contains_key both die ≡ true → names 3 die ≡ true
named_both die e =
    let some = has_some (get both die) e in
    elim (get-insert_cases (insert empty 0 tt) 1 tt die some.0 some.1) [
      | inl second ↦ ap (names 3) second.0
      | inr before ↦ elim (get-insert_cases {X = Unit {0}} empty 0 tt die some.0 before.0) [
        | inl first ↦ ap (names 3) first.0
        | inr none ↦ absurd (none-some some.0 (sym (get-empty nat_cmp die) ∙ none.0))
      ]
    ]

-- and no others
pub named_ours : (die : ℕ) → names 3 die ≡ true → contains_key both die ≡ true
named_ours die named =
    elim (cases_lt die 2) [
      | inl low ↦ one_of die low
      | inr high ↦
          let none : bit_at 3 die ≡ 0 = bit_at_above 3 2 die (omega arith) high in
          absurd (false≢true (ap (λ b. b == 1) (sym none) ∙ named))
    ]
  where
    one_of : (d : ℕ) → d < 2 → contains_key both d ≡ true
    one_of zero low =
        ap is_some (get-insert_other (insert empty 0 tt) 1 tt 0 (omega arith) ∙ get-insert_same {X = Unit {0}} empty 0 tt)
    one_of (suc zero) low = ap is_some (get-insert_same (insert empty 0 tt) 1 tt)
    one_of (suc (suc d)) low = absurd (omega (arith, low))

pub or_left : (a b : Bool) → a ≡ true → (a || b) ≡ true
or_left a b e = ap (λ x. x || b) e
