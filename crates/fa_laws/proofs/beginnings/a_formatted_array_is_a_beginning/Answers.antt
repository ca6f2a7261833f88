use Rattle.fa_machine.proofs.Maps.{get-insert_other}
use Rattle.fa_laws.proofs.ZeroPages.{has_zero_pages, zeros_at}
use Rattle.fa_laws.specs.Formatted.{formatted, new_map}
use Rattle.fa_machine.specs.Beginning.{IsPlainOf, StandsAt}
use Rattle.fa_machine.specs.Cells.{Empty}
use Rattle.fa_machine.specs.Copies.{holds_last, is_current}
use Rattle.fa_machine.specs.Maps.{place_cmp}
use Rattle.fa_machine.specs.Reading.{zeros}
use Rattle.fa_machine.specs.State.{is_live, used_at}
use Rattle.fa_machine.specs.World.{World, plain_page}
use Rattle.fa_machine.specs.declared.places.Used.{Used}
use Rattle.fa_machine.specs.declared.places.Version.{Version}
use Rattle.fa_types.specs.declared.geometry.Geometry.{Geometry}
use Rattle.std.proofs.Common.{None, Option, Some, ap, arith, inl, inr, refl, sym, true, ℕ, ◌<◌, ◌∙◌, ◌≡◌}
use Rattle.std.proofs.lemmas.Bool.{and_parts, cases_lt, false≢true}
use Rattle.std.proofs.lemmas.List.{length-replicate}
use Rattle.std.proofs.lemmas.Option.{none-some}
use Rattle.std.specs.FinMap.{contains_key, empty, get, get-empty, insert}
use Rattle.std.specs.Ordering.{nat_cmp}
use Rattle.std.specs.Prelude.{is_some, option_map, replicate}
use Rattle.fa_laws.proofs.beginnings.a_formatted_array_is_a_beginning.Goals as goal

none_number : (page : ℕ) → get (empty {X = Version} {R = nat_cmp}) page ≡ None
none_number page = get-empty nat_cmp page

two_live : (die : ℕ) → contains_key (insert (insert (empty {X = Unit {0}} {R = nat_cmp}) 0 tt) 1 tt) die ≡ true → die < 2
two_live die e =
    elim (cases_lt die 2) [
      | inl low ↦ low
      | inr high ↦ absurd (false≢true (sym (ap is_some (
          get-insert_other (insert (empty {X = Unit {0}} {R = nat_cmp}) 0 tt) 1 tt die (λ s. absurd (omega (arith, s, high)))
          ∙ get-insert_other (empty {X = Unit {0}} {R = nat_cmp}) 0 tt die (λ s. absurd (omega (arith, s, high))) ∙ get-empty nat_cmp die)) ∙ e))
    ]

stands_new : (w : World) (die slot : ℕ) (o : Option Used) → o ≡ None → (w.images die).seen slot ≡ Empty → StandsAt w die slot o
stands_new w die slot None e is = is
stands_new w die slot (Some u) e is = absurd (none-some u (sym e))

plain_new : (w : World) (page : ℕ) (o : Option Version) → o ≡ None → plain_page w page ≡ zeros w.core.page_map → IsPlainOf w page o
plain_new w page None e is = is
plain_new w page (Some v) e is = absurd (none-some v (sym e))

no_current : (geometry : Geometry) (page die slot : ℕ) → is_current (new_map geometry) page die slot ≡ true → ⊥
no_current geometry page die slot e =
    false≢true (sym (ap (λ o. holds_last page o (used_at (new_map geometry) die slot)) (none_number page))
    ∙ (and_parts (is_live (new_map geometry) die) _ e).1)

pub returns : goal.returns
returns c geometry two none = record {
  fresh = refl;
  copies = inl refl;
  enough = omega (arith, two, none);
  based = λ page. get-empty nat_cmp page ∙ sym (ap (option_map {T = Version} (λ version. version.seq.0)) (none_number page));
  last = omega arith;
  live = λ die e. let n = two_live die e in omega (arith, n, two);
  spares = λ die e. absurd (false≢true (sym (ap is_some (get-empty nat_cmp die)) ∙ e));
  used = λ die slot e. absurd (false≢true (sym (ap is_some (get-empty place_cmp (die, slot))) ∙ e));
  stands = λ die slot alive low. stands_new (formatted geometry) die slot (used_at (new_map geometry) die slot) (get-empty place_cmp (die, slot)) refl;
  once = λ page die slot other a b. absurd (no_current geometry page die slot a);
  written = λ page e. absurd (false≢true (sym (ap is_some (none_number page)) ∙ e));
  plain = λ page low. plain_new (formatted geometry) page (get (new_map geometry).versions page) (none_number page)
      (zeros_at geometry.pages (replicate geometry.page_bytes 0) page low);
  pages = (length-replicate geometry.pages _, has_zero_pages geometry.pages _ geometry.page_bytes (length-replicate geometry.page_bytes 0));
  idle = λ die. refl;
  told = refl;
}
