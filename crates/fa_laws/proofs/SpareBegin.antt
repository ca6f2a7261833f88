-- The array of four dies and a spare, as it is formatted, is a beginning.
use Rattle.fa_laws.proofs.EightBegin.{missing}
use Rattle.fa_laws.proofs.ZeroPages.{has_zero_pages, zeros_at}
use Rattle.fa_laws.specs.SpareComesIn.{four_live, with_a_spare}
use Rattle.fa_machine.specs.Beginning.{IsBeginning, IsPlainOf, StandsAt}
use Rattle.fa_machine.specs.Cells.{Empty}
use Rattle.fa_machine.specs.Copies.{holds_last, is_current}
use Rattle.fa_machine.specs.Maps.{place_cmp}
use Rattle.fa_machine.specs.Reading.{zeros}
use Rattle.fa_machine.specs.State.{is_live, used_at}
use Rattle.fa_machine.specs.World.{World, plain_page}
use Rattle.fa_machine.specs.declared.places.Used.{Used}
use Rattle.fa_machine.specs.declared.places.Version.{Version}
use Rattle.fa_types.specs.Geometry.{IsGeometry}
use Rattle.fa_types.specs.declared.geometry.Geometry.{Geometry}
use Rattle.std.proofs.Common.{List, None, Option, Some, [], ap, arith, cond, inl, inr, refl, sym, true, ℕ, ◌<◌, ◌∙◌, ◌∷◌, ◌≡◌}
use Rattle.std.proofs.lemmas.Bool.{and_parts, cases_eq, cases_lt, false≢true, ne_eqb}
use Rattle.std.proofs.lemmas.List.{length-replicate}
use Rattle.std.proofs.lemmas.Option.{none-some}
use Rattle.std.specs.Cmp.{unsigned_tied}
use Rattle.std.specs.FinMap.{contains_key, empty, get, get-empty, get-from_sorted}
use Rattle.std.specs.Ordering.{nat_cmp}
use Rattle.std.specs.Prelude.{is_some, option_map, replicate}

none_number : (page : ℕ) → get (empty {X = Version} {R = nat_cmp}) page ≡ None
none_number page = get-empty nat_cmp page

stands_new : (w : World) (die slot : ℕ) (o : Option Used) → o ≡ None → (w.images die).seen slot ≡ Empty → StandsAt w die slot o
stands_new w die slot None e is = is
stands_new w die slot (Some u) e is = absurd (none-some u (sym e))

plain_new : (w : World) (page : ℕ) (o : Option Version) → o ≡ None → plain_page w page ≡ zeros w.core.page_map → IsPlainOf w page o
plain_new w page None e is = is
plain_new w page (Some v) e is = absurd (none-some v (sym e))

module _ (size : ℕ) (within : IsGeometry 5 1 4 4 size 8) where
  abbrev g : Geometry
  g = record { dies = 5; spares = 1; blocks = 4; slots = 4; page_bytes = size; pages = 8; within = within }

  abbrev w : World
  w = with_a_spare g

  abbrev live_dies : List (ℕ × Unit {0})
  live_dies = (0, tt) ∷ (1, tt) ∷ (2, tt) ∷ (3, tt) ∷ []

  live_low : (die : ℕ) → is_live w.core.page_map die ≡ true → die < 4
  live_low die e =
      elim (cases_lt die 4) [
        | inl low ↦ low
        | inr high ↦ absurd (false≢true (sym (ap is_some (get-from_sorted nat_cmp live_dies die tt ∙ missing 4 die live_dies refl high)) ∙ e))
      ]

  spare_is : (die : ℕ) → contains_key w.core.spares die ≡ true → die ≡ 4
  spare_is die e =
      elim (cases_eq die 4) [
        | inl same ↦ same
        | inr apart ↦ absurd (false≢true (sym (ap is_some (get-from_sorted nat_cmp ((4, tt) ∷ []) die tt)
            ∙ ap (λ b. is_some (cond b (Some tt) None)) (unsigned_tied die 4 ∙ ne_eqb die 4 apart)) ∙ e))
      ]

  no_current : (page die slot : ℕ) → is_current (four_live g) page die slot ≡ true → ⊥
  no_current page die slot e =
      false≢true (sym (ap (λ o. holds_last page o (used_at (four_live g) die slot)) (none_number page)) ∙ (and_parts (is_live (four_live g) die) _ e).1)

  pub begins : IsBeginning w
  begins = record {
    fresh = refl;
    copies = inr refl;
    enough = omega arith;
    based = λ page. get-empty nat_cmp page ∙ sym (ap (option_map {T = Version} (λ version. version.seq.0)) (none_number page));
    last = omega arith;
    live = λ die e. let n = live_low die e in omega (arith, n);
    spares = λ die e. let n = spare_is die e in (
      omega (arith, n),
      ap (is_live w.core.page_map) n ∙ ap is_some (get-from_sorted nat_cmp live_dies 4 tt),
    );
    used = λ die slot e. absurd (false≢true (sym (ap is_some (get-empty place_cmp (die, slot))) ∙ e));
    stands = λ die slot alive low. stands_new w die slot (used_at (four_live g) die slot) (get-empty place_cmp (die, slot)) refl;
    once = λ page die slot other a b. absurd (no_current page die slot a);
    written = λ page e. absurd (false≢true (sym (ap is_some (none_number page)) ∙ e));
    plain = λ page low. plain_new w page (get (four_live g).versions page) (none_number page) (zeros_at 8 (replicate size 0) page low);
    pages = (refl, has_zero_pages 8 _ size (length-replicate size 0));
    idle = λ die. refl;
    told = refl;
  }
