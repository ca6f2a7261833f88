-- The texts of an array of strings, by the values that it has.
use Rattle.std.proofs.Common.{◌≡◌, ℕ, ◌≤◌, Bool, true, false, ◌&&◌, List, [], ◌∷◌, length, Option, Some, None, is_some, option_map, refl, sym, ap, ◌∙◌, arith}
use Rattle.std.specs.List.{list_all, filter_map, cons_option}
use Rattle.toml.specs.Data.{Data, Items, item, as_str, as_array, string, integer, float, boolean, datetime, array, table}
use Rattle.toml.specs.View.{view, items_view}
use Rattle.toml.specs.declared.value.Value.{Value}
use Rattle.fa_settings.specs.Meanings.{texts_of, as_texts, IsWithin, Paths}

-- whether each value is a string, and the strings
abbrev pub are_strings : List Value → Bool
are_strings values = list_all (λ value. is_some (as_str (view value))) values

abbrev pub strings : List Value → List (List ℕ)
strings values = filter_map (λ value. as_str (view value)) values

some_mapped : {X Y : Type 0} (f : X → Y) (o : Option X) → is_some (option_map f o) ≡ is_some o
some_mapped f None = refl
some_mapped f (Some x) = refl

one_more : (value : Data) (rest : Items) → is_some (texts_of (item value rest)) ≡ (is_some (as_str value) && is_some (texts_of rest))
one_more (string text) rest = some_mapped _ (texts_of rest)
one_more (integer z) rest = refl
one_more (float x) rest = refl
one_more (boolean b) rest = refl
one_more (datetime d) rest = refl
one_more (array items) rest = refl
one_more (table inner) rest = refl

pub are_texts : (values : List Value) → is_some (texts_of (items_view values)) ≡ are_strings values
are_texts [] = refl
are_texts (value ∷ values) = one_more (view value) (items_view values) ∙ ap (λ b. is_some (as_str (view value)) && b) (are_texts values)

-- the texts of one item more, where it is a string
record IsMore (value : Data) (rest : Items) (texts : List (List ℕ)) : Type 0 where
  text : List ℕ
  is : as_str value ≡ Some text
  more : texts_of (item value rest) ≡ Some (text ∷ texts)

more : (value : Data) (rest : Items) (texts : List (List ℕ)) → is_some (as_str value) ≡ true → texts_of rest ≡ Some texts → IsMore value rest texts
more (string text) rest texts some are = record { text = text; is = refl; more = rw are }
more (integer z) rest texts some are = absurd (cc)
more (float x) rest texts some are = absurd (cc)
more (boolean b) rest texts some are = absurd (cc)
more (datetime d) rest texts some are = absurd (cc)
more (array items) rest texts some are = absurd (cc)
more (table inner) rest texts some are = absurd (cc)

both : (a b : Bool) → (a && b) ≡ true → (a ≡ true) × (b ≡ true)
both true b e = (refl, e)
both false b e = absurd (cc)

pub texts_are : (values : List Value) → are_strings values ≡ true → texts_of (items_view values) ≡ Some (strings values)
texts_are [] all = refl
texts_are (value ∷ values) all =
    let parts = both (is_some (as_str (view value))) (are_strings values) all in
    let one = more (view value) (items_view values) (strings values) parts.0 (texts_are values parts.1) in
    one.more ∙ sym (ap (λ o. Some (cons_option o (strings values))) one.is)

pub length-strings : (values : List Value) → are_strings values ≡ true → length (strings values) ≡ length values
length-strings [] all = refl
length-strings (value ∷ values) all =
    let parts = both (is_some (as_str (view value))) (are_strings values) all in
    let one = more (view value) (items_view values) (strings values) parts.0 (texts_are values parts.1) in
    let e : strings (value ∷ values) ≡ one.text ∷ strings values = ap (λ o. cons_option o (strings values)) one.is in
    omega (arith, ap length e, length-strings values parts.1)

module _ (value : Data) (values : List Value) (is : Some (items_view values) ≡ as_array value) where
  pub as_texts_is : as_texts value ≡ texts_of (items_view values)
  as_texts_is = rw (← is)

  pub no_texts : are_strings values ≡ false → is_some (as_texts value) ≡ false
  no_texts none = ap is_some as_texts_is ∙ are_texts values ∙ none

  pub has_texts : are_strings values ≡ true → is_some (as_texts value) ≡ true
  has_texts all = ap is_some as_texts_is ∙ are_texts values ∙ all

  pub the_texts : are_strings values ≡ true → as_texts value ≡ Some (strings values)
  the_texts all = as_texts_is ∙ texts_are values all

  pub within : are_strings values ≡ true → (1 ≤ length values) × (length values ≤ 64) → IsWithin Paths value
  within all few = (strings values, the_texts all, omega (arith, length-strings values all), omega (arith, length-strings values all))

  pub not_within : are_strings values ≡ true → ¬ ((1 ≤ length values) × (length values ≤ 64)) → ¬ (IsWithin Paths value)
  not_within all many found =
      let same : found.0 ≡ strings values = (let a = found.1 in let b = the_texts all in cc) in
      let long : length found.0 ≡ length values = ap length same ∙ length-strings values all in
      many (omega (arith, found.2), omega (arith, found.3))
