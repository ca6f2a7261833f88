-- A batch text with nothing behind it: its first wrong line, and the plan of what it says.
use Rattle.std.proofs.Common.{◌≡◌, ◌≢◌, ℕ, ◌+◌, inl, inr, List, [], ◌∷◌, ◌++◌, length, map, refl, sym, ap, ◌∙◌, subst, arith, append_assoc}
use Rattle.std.proofs.Math.Path.{fun_ext}
use Rattle.std.proofs.lemmas.List.{append-nil, length-map, map-append}
use Rattle.fa_types.specs.declared.numbers.Page.{Page}
use Rattle.fa_batch_terms.specs.declared.place.Place.{Place}
use Rattle.fa_texts.specs.declared.batch_text.BatchText.{BatchText}
use Rattle.fa_batch_terms.specs.Batch.{AreFine}
use Rattle.fa_texts.specs.BatchText.{IsBatchText, IsRead, StartsWithBatch}
use Rattle.fa_batch_terms.specs.Certificate.{IsCertificate}
use Rattle.fa_texts.specs.CertificateText.{IsPrinted}
use Rattle.fa_closed.specs.Closed.{current_of, is_closed}
use Rattle.fa_batch_terms.specs.Plan.{AreFirstRounds}
use Rattle.fa_closed.specs.Runs.{any_closes}
use Rattle.fa_texts.specs.Text.{Begins, GoesWrong, IsFirstWrongLine, words_by_line, words_of}
use Rattle.fa_io.specs.Lines.{lines_of}
use Rattle.fa_io.proofs.LineLemmas.{some_line}
use Rattle.fa_prog_text.specs.Plan.{IsPlanText, IsSomeBatch}
use Rattle.fa_prog_text.proofs.VerifyLemmas.{behind_batch, fronts, none_before}

-- a batch text begins an input that is one
begins_input : (lines : List (List (List ℕ))) → IsSomeBatch lines → StartsWithBatch lines
begins_input lines (entries, runs, is) = (lines, [], entries, runs, sym (append-nil lines), is)

-- lines that a batch text begins with, and that hold none, begin one
begins_text : (before : List (List (List ℕ))) → ¬ (StartsWithBatch before) → Begins StartsWithBatch before → Begins IsSomeBatch before
begins_text before none (more, (text, rest, entries, runs, parts, is)) =
    elim (fronts before more text rest parts) [
      | inl longer ↦ absurd (none (text, longer.0, entries, runs, longer.1, is))
      | inr shorter ↦ (shorter.0, (entries, runs, subst (λ lines. IsBatchText lines entries runs) shorter.1 is))
    ]

goes_wrong : (before after : List (List (List ℕ))) → GoesWrong StartsWithBatch before after → GoesWrong IsSomeBatch before after
goes_wrong before [] wrong = λ is. wrong (begins_input before is)
goes_wrong before (line ∷ after) wrong = λ is. wrong (is.0, begins_input ((before ++ line ∷ []) ++ is.0) is.1)

-- the first wrong line of what begins with no batch text
pub input_fault : (lines : List (List (List ℕ))) (number : ℕ) → IsFirstWrongLine StartsWithBatch 1 lines number → IsFirstWrongLine IsSomeBatch 1 lines number
input_fault lines number is = record {
  before = is.before;
  after = is.after;
  whole = is.whole;
  begins = begins_text is.before (none_before is.before is.after is.wrong) is.begins;
  wrong = goes_wrong is.before is.after is.wrong;
  number_is = is.number_is;
}

-- nothing goes on behind a batch text
ends_there : (text : List (List (List ℕ))) (line : List (List ℕ)) → IsSomeBatch text → Begins IsSomeBatch (text ++ line ∷ []) → ⊥
ends_there text line (es, rs, is) (more, (es', rs', is')) =
    let same = behind_batch text ((text ++ line ∷ []) ++ more) (line ∷ more) [] es es' rs rs' is is'
    (sym (append_assoc text (line ∷ []) more) ∙ sym (append-nil ((text ++ line ∷ []) ++ more))) in
    let wrong : ⊥ = cc in wrong

module _ {A : Type 0} (input : List ℕ) (found : BatchText A) (read : IsRead input found) where
  lines : words_by_line input ≡ map words_of read.text ++ words_by_line found.rest.now
  lines = ap (map words_of) read.parts ∙ map-append words_of read.text (lines_of found.rest.now)

  number : found.line ≡ 1 + length (map words_of read.text)
  number = let size = length-map read.text words_of in let at = read.number in omega (arith, at, size)

  -- what stands behind a batch text is wrong
  pub rest_is_wrong : length found.rest.now ≢ 0 → IsFirstWrongLine IsSomeBatch 1 (words_by_line input) found.line
  rest_is_wrong some =
      let next = some_line found.rest.now some in
      record {
        before = map words_of read.text;
        after = words_of next.0 ∷ map words_of next.1;
        whole = lines ∙ ap (λ v. map words_of read.text ++ map words_of v) next.2;
        begins = ([], (found.batch, read.runs, subst (λ v. IsBatchText v found.batch read.runs) (sym (append-nil (map words_of read.text))) read.is));
        wrong = ends_there (map words_of read.text) (words_of next.0) (found.batch, read.runs, read.is);
        number_is = number;
      }

  -- an input with nothing behind
  pub whole_is : found.rest.now ≡ [] → IsBatchText (words_by_line input) found.batch read.runs
  whole_is none = subst (λ v. IsBatchText v found.batch read.runs) (sym (lines ∙ ap (λ v. map words_of read.text ++ words_by_line v) none ∙ append-nil (map words_of read.text))) read.is

  pub planned : found.rest.now ≡ [] → AreFine found.batch → (rounds : ℕ) (places : List Place) (pages : List Page) (out : List ℕ)
      → IsCertificate found.batch (current_of found.closed) (is_closed found.closed) rounds places pages → AreFirstRounds (current_of found.closed) (is_closed found.closed) places
      → IsPrinted rounds places pages out → IsPlanText input out
  planned none fine rounds places pages out certificate first printed =
      let closes : is_closed found.closed ≡ any_closes read.runs = fun_ext (λ die. fun_ext (λ round. read.closes die round)) in
      record {
        entries = found.batch;
        runs = read.runs;
        rounds = rounds;
        places = places;
        pages = pages;
        batch = whole_is none;
        sound = record { few = read.is.few; fine = fine };
        certificate = subst (λ closed. IsCertificate found.batch 1 closed rounds places pages) closes
            (subst (λ current. IsCertificate found.batch current (is_closed found.closed) rounds places pages) read.current certificate);
        first = subst (λ closed. AreFirstRounds 1 closed places) closes (subst (λ current. AreFirstRounds current (is_closed found.closed) places) read.current first);
        printed = printed;
      }

pub nothing_left : {X : Type 0} (xs : List X) → length xs ≡ 0 → xs ≡ []
nothing_left [] none = refl
nothing_left (x ∷ xs) none = absurd (omega (arith, none))
