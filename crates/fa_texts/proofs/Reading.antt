-- What a reader of lines knows, and the first wrong line, for any grammar.
use Rattle.std.proofs.Common.{◌≡◌, ℕ, ◌+◌, List, [], ◌∷◌, ◌++◌, length, map, refl, sym, ap, ◌∙◌, subst, arith, append_assoc, length-append}
use Rattle.std.proofs.lemmas.List.{map-append, length-map}
use Rattle.fa_io.specs.Lines.{lines_of}
use Rattle.fa_texts.specs.Text.{words_of, words_by_line, Begins, GoesWrong, IsFirstWrongLine}

-- the lines before what is left of an input, what they are, and the number of the next one
pub record HasRead (first : ℕ) (input rest : List ℕ) (line : ℕ) (IsFine : List (List (List ℕ)) → Type 0) : Type 0 where
  pub before : List (List ℕ)
  pub parts : lines_of input ≡ before ++ lines_of rest
  pub fine : IsFine (map words_of before)
  pub number : line ≡ first + length before

abbrev pub nothing_read : (first : ℕ) (input : List ℕ) → HasRead first input input first (λ lines. lines ≡ [])
nothing_read first input = record { before = []; parts = refl; fine = refl; number = sym (plus_none first) }
  where
    plus_none : (n : ℕ) → n + 0 ≡ n
    plus_none n = omega arith

-- one line more
pub read_more : {first line : ℕ} {input rest text after : List ℕ} {IsFine IsMore : List (List (List ℕ)) → Type 0} (read : HasRead first input rest line IsFine)
    → lines_of rest ≡ text ∷ lines_of after → IsMore (map words_of read.before ++ words_of text ∷ []) → HasRead first input after (line + 1) IsMore
read_more {text = text} {after = after} {IsMore = IsMore} read next more =
    let size = length-append read.before (text ∷ []) in
    let number = read.number in
    record {
      before = read.before ++ text ∷ [];
      parts = read.parts ∙ ap (λ v. read.before ++ v) next ∙ sym (append_assoc read.before (text ∷ []) (lines_of after));
      fine = subst IsMore (sym (map-append words_of read.before (text ∷ []))) more;
      number = omega (arith, size, number);
    }

-- The next line is wrong where some text begins with the lines so far and none with this line behind them.
module _ (IsText : List (List (List ℕ)) → Type 0) {first line : ℕ} {input rest : List ℕ} {IsFine : List (List (List ℕ)) → Type 0} (read : HasRead first input rest line IsFine)
    (begins : Begins IsText (map words_of read.before)) where
  wrong : GoesWrong IsText (map words_of read.before) (words_by_line rest) → IsFirstWrongLine IsText first (words_by_line input) line
  wrong is =
      let size = length-map read.before words_of in
      let number = read.number in
      record {
        before = map words_of read.before;
        after = words_by_line rest;
        whole = ap (λ v. map words_of v) read.parts ∙ map-append words_of read.before (lines_of rest);
        begins = begins;
        wrong = is;
        number_is = omega (arith, number, size);
      }

  pub wrong_end : lines_of rest ≡ [] → ¬ (IsText (map words_of read.before)) → IsFirstWrongLine IsText first (words_by_line input) line
  wrong_end none no_text = wrong (subst (λ v. GoesWrong IsText (map words_of read.before) (map words_of v)) (sym none) no_text)

  pub wrong_next : {text : List ℕ} {after : List (List ℕ)} → lines_of rest ≡ text ∷ after → ¬ (Begins IsText (map words_of read.before ++ words_of text ∷ []))
      → IsFirstWrongLine IsText first (words_by_line input) line
  wrong_next next no_text = wrong (subst (λ v. GoesWrong IsText (map words_of read.before) (map words_of v)) (sym next) no_text)
