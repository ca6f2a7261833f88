-- The settings that a text says are within the limits of what is served.
use Rattle.std.proofs.Common.{◌≡◌, ◌≤◌, ℕ, ℤ, pos, false, true, List, Option, Some, None, MatchOption, length, string_bytes, arith, ap, subst, sym}
use Rattle.std.proofs.lemmas.Option.{none-some, same_Some}
use Rattle.toml.specs.Data.{Data, array, as_integer, as_str, boolean, datetime, float, integer, string, table}
use Rattle.fa_settings.specs.Faults.{held}
use Rattle.fa_settings.specs.Meanings.{IsWithin, Name, Number}
use Rattle.fa_settings.specs.Settings.{IsSettingsText, number_in, text_in}
use Rattle.fa_settings.specs.declared.key.Key.TheVariants.{Export, WindowRounds}
use Rattle.fa_settings.specs.declared.settings.Settings.{Settings}

number_of : (value : Data) (n : ℕ) → as_integer value ≡ Some (pos n) → number_in (Some value) ≡ n
number_of (integer z) n is = ap (λ (x : ℤ). number_in (Some (integer x))) (same_Some z (pos n) is)
number_of (string text) n is = absurd (none-some (pos n) is)
number_of (float x) n is = absurd (none-some (pos n) is)
number_of (boolean b) n is = absurd (none-some (pos n) is)
number_of (datetime d) n is = absurd (none-some (pos n) is)
number_of (array items) n is = absurd (none-some (pos n) is)
number_of (table rows) n is = absurd (none-some (pos n) is)

text_of : (value : Data) (text : List ℕ) → as_str value ≡ Some text → text_in (Some value) ≡ text
text_of (string t) text is = same_Some t text is
text_of (integer z) text is = absurd (none-some text is)
text_of (float x) text is = absurd (none-some text is)
text_of (boolean b) text is = absurd (none-some text is)
text_of (datetime d) text is = absurd (none-some text is)
text_of (array items) text is = absurd (none-some text is)
text_of (table rows) text is = absurd (none-some text is)

number_within : (there : Option Data) (least most : ℕ) → MatchOption there (true ≡ false) (IsWithin (Number least most))
    → (least ≤ number_in there) × (number_in there ≤ most)
number_within None least most fine = absurd (let no : true ≡ false = fine in cc)
number_within (Some value) least most (n, is, low, high) =
    let same : number_in (Some value) ≡ n = number_of value n is in (subst (λ (k : ℕ). least ≤ k) (sym same) low, subst (λ (k : ℕ). k ≤ most) (sym same) high)

name_short : (there : Option Data) → MatchOption there (true ≡ false) (IsWithin Name) → length (text_in there) ≤ 64
name_short None fine = absurd (let no : true ≡ false = fine in cc)
name_short (Some value) (text, is, fits) = subst (λ (t : List ℕ). length t ≤ 64) (sym (text_of value text is)) fits.1

pub may_be_served : {A : Type 0} (text : List ℕ) (settings : Settings A) → IsSettingsText text settings
    → (1 ≤ settings.window_rounds) × (settings.window_rounds ≤ 64) × (length (string_bytes settings.export) ≤ 4096)
may_be_served text settings (document, is, are) =
    let fine = are.all_fine.fine in
    let window = number_within (held document WindowRounds) 1 64 fine.1.1.1.1.1.1.1.1.0 in
    let name = name_short (held document Export) fine.1.1.1.1.1.1.1.1.1.1.0 in
    let short : length (string_bytes settings.export) ≤ 64 = subst (λ (t : List ℕ). length t ≤ 64) (sym are.export) name in (
      subst (λ (n : ℕ). 1 ≤ n) (sym are.window_rounds) window.0,
      subst (λ (n : ℕ). n ≤ 64) (sym are.window_rounds) window.1,
      omega (arith, short),
    )
