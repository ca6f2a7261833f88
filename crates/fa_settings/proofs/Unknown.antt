-- The first of some names, which ascend, that does not pass a test.
use Rattle.std.proofs.Common.{◌≡◌, ◌≢◌, ℕ, Bool, true, false, not, List, [], ◌∷◌, map, find, Some, None, String, Global, string_bytes, nat_cmp, Contains, Less, refl, ap, ◌∙◌, subst, inl, inr, arith}
use Rattle.std.proofs.lemmas.Bool.{cases_Bool}
use Rattle.std.proofs.lemmas.Cmp.{nat_list_cmp_total}
use Rattle.std.proofs.lemmas.List.Elements.{Contains-append_right}
use Rattle.std.specs.Cmp.{tied_itself}
use Rattle.std.specs.Cmp.Lexicographic.{slice_cmp}
use Rattle.std.specs.List.{AllByRecursion}
use Rattle.std.specs.List.Sorted.{IsStrictlySortedBy}
use Rattle.std.specs.Ordering.{ordering_reverse}
use Rattle.std.specs.String.{string_cmp}
use Rattle.toml.specs.View.{members_view}
use Rattle.toml.specs.declared.value.Value.{Value}
use Rattle.fa_settings.specs.Faults.{names_of}

abbrev pub Text : Type 0
Text = String Global

-- the names in a document are the keys of its table
pub names_of-members : (entries : List (Text × Value)) → names_of (members_view entries) ≡ map string_bytes (map (λ e. e.0) entries)
names_of-members [] = refl
names_of-members (e ∷ entries) = ap (λ names. string_bytes e.0 ∷ names) (names_of-members entries)

module _ (known : List ℕ → Bool) where
  -- other names that do not pass are not below this one
  abbrev pub IsLeast : List ℕ → List ℕ → Type 0
  IsLeast name other = known other ≡ false → slice_cmp nat_cmp other name ≢ Less

  pub none_found : (keys : List Text) → find (λ name. not (known (string_bytes name))) keys ≡ None → AllByRecursion (λ name. known name ≡ true) (map string_bytes keys)
  none_found [] none = tt
  none_found (key ∷ keys) none =
      elim (cases_Bool (known (string_bytes key))) [
        | inl passes ↦ (passes, none_found keys (rw passes at none))
        | inr fails ↦ let found : Some key ≡ None = rw fails at none in absurd (cc)
      ]

  -- what is above a name is not below it
  above : (key : Text) (keys : List Text) → AllByRecursion (λ other. string_cmp key other ≡ Less) keys → AllByRecursion (IsLeast (string_bytes key)) (map string_bytes keys)
  above key [] less = tt
  above key (other ∷ keys) less = (
    λ unknown below.
        let turned = nat_list_cmp_total.antisymm (string_bytes other) (string_bytes key) ∙ ap ordering_reverse less.0 in
        cc,
    above key keys less.1,
  )

  pub record IsFound (keys : List Text) (key : Text) : Type 0 where
    pub there : Contains (map string_bytes keys) (string_bytes key)
    pub unknown : known (string_bytes key) ≡ false
    pub first : AllByRecursion (IsLeast (string_bytes key)) (map string_bytes keys)

  here : (key : Text) (keys : List Text) → known (string_bytes key) ≡ false → AllByRecursion (λ other. string_cmp key other ≡ Less) keys → IsFound (key ∷ keys) key
  here key keys fails less =
      record {
        there = (0, omega arith, refl);
        unknown = fails;
        first = (λ unknown below. let tied = tied_itself nat_list_cmp_total (string_bytes key) in cc, above key keys less);
      }

  later : (first : Text) (keys : List Text) (key : Text) → known (string_bytes first) ≡ true → IsFound keys key → IsFound (first ∷ keys) key
  later first keys key passes found =
      record {
        there = Contains-append_right (string_bytes first ∷ []) (map string_bytes keys) (string_bytes key) found.there;
        unknown = found.unknown;
        first = (λ unknown below. cc, found.first);
      }

  pub is_found : (keys : List Text) (key : Text) → find (λ name. not (known (string_bytes name))) keys ≡ Some key → IsStrictlySortedBy string_cmp keys → IsFound keys key
  unfolding IsStrictlySortedBy
  is_found [] key found sorted = absurd (cc)
  is_found (first ∷ keys) key found sorted =
      elim (cases_Bool (known (string_bytes first))) [
        | inl passes ↦ later first keys key passes (is_found keys key (rw passes at found) sorted.1)
        | inr fails ↦
            let same : first ≡ key = (let e : Some first ≡ Some key = rw fails at found in cc) in
            subst (λ (k : Text). IsFound (first ∷ keys) k) same (here first keys fails sorted.0)
      ]
