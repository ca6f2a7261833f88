-- A batch text with a certificate text behind it: their first wrong line, and what they come to.
use Rattle.std.proofs.Common.{◌≡◌, ◌≢◌, ◌⊎◌, ℕ, ◌+◌, ◌≤◌, inl, inr, List, [], ◌∷◌, ◌++◌, length, map, codes, All, refl, sym, ap, ◌∙◌, subst, arith, append_assoc, length-append}
use Rattle.std.proofs.Math.Path.{fun_ext}
use Rattle.std.proofs.lemmas.List.{length-map, map-append}
use Rattle.std.proofs.lemmas.List.Elements.{All-nil, All-cons, All-head, All-tail, All-append, All-map}
use Rattle.fa_types.specs.declared.numbers.Page.{Page}
use Rattle.fa_closed.specs.declared.closed.Run.{Run}
use Rattle.fa_batch_terms.specs.declared.place.Place.{Place}
use Rattle.fa_texts.specs.declared.text_error.TextError.{TextError}
use Rattle.fa_texts.specs.declared.text_error.TextError.TheVariants.{Line, NoMemory}
use Rattle.fa_texts.specs.declared.batch_text.BatchText.{BatchText}
use Rattle.fa_cert.specs.declared.verdict.Verdict.{Verdict as CheckVerdict}
use Rattle.fa_batch_terms.specs.Batch.{Entry, AreFine}
use Rattle.fa_closed.specs.Closed.{current_of, is_closed}
use Rattle.fa_closed.specs.Runs.{any_closes}
use Rattle.fa_cert.specs.Verdict.{IsVerdict}
use Rattle.fa_texts.specs.BatchText.{IsBatchText, IsRead, StartsWithBatch, closed_line, end_line, page_line}
use Rattle.fa_texts.specs.CertificateText.{HasPlaceLine, IsCertificateText, IsSomeCertificate, certificate_lines}
use Rattle.fa_texts.specs.Text.{Begins, GoesWrong, IsFirstWrongLine, IsTextError, words_by_line, words_of}
use Rattle.fa_io.specs.Lines.{lines_of}
use Rattle.fa_texts.specs.LoggedPlan.{AreTexts}
use Rattle.fa_prog_text.specs.Verify.{AreSomeTexts, IsJudged}
use Rattle.fa_prog_text.specs.declared.verify.Judged.TheVariants.{Verdict}

-- Of two fronts of one list, the first goes on behind the second, or ends within it.
pub fronts : {X : Type 0} (xs ys us vs : List X) → xs ++ ys ≡ us ++ vs → ((w : List X) × (xs ≡ us ++ w)) ⊎ ((w : List X) × (us ≡ xs ++ w))
fronts xs ys [] vs is = inl (xs, refl)
fronts [] ys (u ∷ us) vs is = inr (u ∷ us, refl)
fronts (x ∷ xs) ys (u ∷ us) vs is =
    let head : x ≡ u = cc in
    let tail : xs ++ ys ≡ us ++ vs = cc in
    elim (fronts xs ys us vs tail) [
      | inl longer ↦ inl (longer.0, (let more = longer.1 in cc))
      | inr shorter ↦ inr (shorter.0, (let more = shorter.1 in cc))
    ]

-- Behind a mark that stands nowhere before, equal lists are equal.
behind_mark : {X : Type 0} (mark : X) (xs us ys vs : List X) → All (λ x. x ≢ mark) xs → All (λ u. u ≢ mark) us → xs ++ mark ∷ ys ≡ us ++ mark ∷ vs → ys ≡ vs
behind_mark mark [] [] ys vs none none' is = cc
behind_mark mark [] (u ∷ us) ys vs none none' is = absurd (All-head (λ v. v ≢ mark) u us none' cc)
behind_mark mark (x ∷ xs) [] ys vs none none' is = absurd (All-head (λ v. v ≢ mark) x xs none cc)
behind_mark mark (x ∷ xs) (u ∷ us) ys vs none none' is =
    behind_mark mark xs us ys vs (All-tail (λ v. v ≢ mark) x xs none) (All-tail (λ v. v ≢ mark) u us none') cc

-- the lines of a batch text before its last
abbrev lines_before : List Entry → List Run → List (List (List ℕ))
lines_before entries runs = (codes "batch" ∷ []) ∷ map page_line entries ++ map closed_line runs

-- none of them is as the last
none_ends : (entries : List Entry) (runs : List Run) → All (λ line. line ≢ end_line) (lines_before entries runs)
none_ends entries runs =
    All-append (λ line. line ≢ end_line) ((codes "batch" ∷ []) ∷ map page_line entries) (map closed_line runs)
    (All-cons (λ line. line ≢ end_line) (codes "batch" ∷ []) (map page_line entries)
    (λ is. let word : codes "batch" ≡ codes "end" = cc in let no = ap (λ w. length w) word in omega (arith, no))
    (All-map (λ line. line ≢ end_line) page_line entries (λ k d below is. let no = ap (λ l. length l) is in omega (arith, no))))
    (All-map (λ line. line ≢ end_line) closed_line runs (λ k d below is. let no = ap (λ l. length l) is in omega (arith, no)))

-- What stands behind the batch text with which an input begins is one thing.
pub behind_batch : (text text' rest rest' : List (List (List ℕ))) (entries entries' : List Entry) (runs runs' : List Run) → IsBatchText text entries runs → IsBatchText text' entries' runs'
    → text ++ rest ≡ text' ++ rest' → rest ≡ rest'
behind_batch text text' rest rest' entries entries' runs runs' is is' same =
    behind_mark end_line (lines_before entries runs) (lines_before entries' runs') rest rest' (none_ends entries runs) (none_ends entries' runs')
    (sym (whole text rest entries runs is) ∙ same ∙ whole text' rest' entries' runs' is')
  where
    whole : (lines more : List (List (List ℕ))) (es : List Entry) (rs : List Run) → IsBatchText lines es rs → lines ++ more ≡ lines_before es rs ++ end_line ∷ more
    whole lines more es rs text_is = ap (λ l. l ++ more) text_is.spelled ∙ append_assoc (lines_before es rs) (end_line ∷ []) more

-- the certificate of a plan with no place
nothing_claimed : IsCertificateText (certificate_lines 0 [] []) 0 [] []
nothing_claimed = record {
  spelled = refl;
  few = omega arith;
  placed = All-nil HasPlaceLine;
  short = record { known = All-nil (λ p. p.0 ≤ 1048575); rising = λ k below. absurd (omega (arith, below)) };
}

-- An input that begins with a batch text still does with more behind it.
still_begins : (lines more : List (List (List ℕ))) → StartsWithBatch lines → StartsWithBatch (lines ++ more)
still_begins lines more (text, rest, entries, runs, parts, is) =
    (text, rest ++ more, entries, runs, ap (λ l. l ++ more) parts ∙ append_assoc text rest more, is)

-- and so does an input that is both texts
begins_both : (lines : List (List (List ℕ))) → AreSomeTexts lines → StartsWithBatch lines
begins_both lines (entries, runs, rounds, places, pages, are) = (are.first, are.second, entries, runs, are.parts, are.batch)

-- Lines before a wrong line do not hold a batch text.
pub none_before : (before after : List (List (List ℕ))) → GoesWrong StartsWithBatch before after → ¬ (StartsWithBatch before)
none_before before [] wrong = wrong
none_before before (line ∷ after) wrong = λ yes.
    wrong ([], still_begins (before ++ line ∷ []) [] (still_begins before (line ∷ []) yes))

-- A batch text that is not whole may have a certificate behind it.
begins_on : (before : List (List (List ℕ))) → ¬ (StartsWithBatch before) → Begins StartsWithBatch before → Begins AreSomeTexts before
begins_on before none (more, (text, rest, entries, runs, parts, is)) =
    elim (fronts before more text rest parts) [
      | inl longer ↦ absurd (none (text, longer.0, entries, runs, longer.1, is))
      | inr shorter ↦ (
        shorter.0 ++ certificate_lines 0 [] [],
        (
          entries,
          runs,
          0,
          [],
          [],
          record {
            first = text;
            second = certificate_lines 0 [] [];
            parts = sym (append_assoc before shorter.0 (certificate_lines 0 [] [])) ∙ ap (λ l. l ++ certificate_lines 0 [] []) (sym shorter.1);
            batch = is;
            certificate = nothing_claimed;
          },
        ),
      )
    ]

-- where no batch text goes on, both texts do not
wrong_of_both : (before after : List (List (List ℕ))) → GoesWrong StartsWithBatch before after → GoesWrong AreSomeTexts before after
wrong_of_both before [] wrong = λ are. wrong (begins_both before are)
wrong_of_both before (line ∷ after) wrong = λ are. wrong (are.0, begins_both ((before ++ line ∷ []) ++ are.0) are.1)

-- The first wrong line of a batch text is that of both.
pub batch_fault : (lines : List (List (List ℕ))) (fault : TextError) → IsTextError StartsWithBatch 1 lines fault → IsTextError AreSomeTexts 1 lines fault
batch_fault lines (Line number) is = record {
  before = is.before;
  after = is.after;
  whole = is.whole;
  begins = begins_on is.before (none_before is.before is.after is.wrong) is.begins;
  wrong = wrong_of_both is.before is.after is.wrong;
  number_is = is.number_is;
}
batch_fault lines NoMemory is = tt

-- Behind the batch text of an input that is both texts stands a certificate.
certificate_behind : (text rest : List (List (List ℕ))) (entries : List Entry) (runs : List Run) → IsBatchText text entries runs → AreSomeTexts (text ++ rest) → IsSomeCertificate rest
certificate_behind text rest entries runs is (entries', runs', rounds, places, pages, are) =
    let same = behind_batch text are.first rest are.second entries entries' runs runs' is are.batch are.parts in
    (rounds, places, pages, subst (λ lines. IsCertificateText lines rounds places pages) (sym same) are.certificate)

-- where no certificate goes on, both texts do not
wrong_behind : (text before after : List (List (List ℕ))) (entries : List Entry) (runs : List Run) → IsBatchText text entries runs → GoesWrong IsSomeCertificate before after → GoesWrong AreSomeTexts (text ++ before) after
wrong_behind text before [] entries runs is wrong = λ are. wrong (certificate_behind text before entries runs is are)
wrong_behind text before (line ∷ after) entries runs is wrong = λ are.
    let parts = ap (λ lines. lines ++ are.0) (append_assoc text before (line ∷ [])) ∙ append_assoc text (before ++ line ∷ []) are.0 in
    wrong (are.0, certificate_behind text ((before ++ line ∷ []) ++ are.0) entries runs is (subst AreSomeTexts parts are.1))

-- The first wrong line of a certificate behind a batch text is that of both.
wrong_line_behind : (text rest : List (List (List ℕ))) (entries : List Entry) (runs : List Run) (number : ℕ) → IsBatchText text entries runs
    → IsFirstWrongLine IsSomeCertificate (1 + length text) rest number → IsFirstWrongLine AreSomeTexts 1 (text ++ rest) number
wrong_line_behind text rest entries runs number is wrong = record {
  before = text ++ wrong.before;
  after = wrong.after;
  whole = ap (λ lines. text ++ lines) wrong.whole ∙ sym (append_assoc text wrong.before wrong.after);
  begins = begins_behind wrong.begins;
  wrong = wrong_behind text wrong.before wrong.after entries runs is wrong.wrong;
  number_is = (let size = length-append text wrong.before in omega (arith, wrong.number_is, size));
}
  where
    begins_behind : Begins IsSomeCertificate wrong.before → Begins AreSomeTexts (text ++ wrong.before)
    begins_behind (more, (rounds, places, pages, certificate)) = (
      more,
      (
        entries,
        runs,
        rounds,
        places,
        pages,
        record {
          first = text;
          second = wrong.before ++ more;
          parts = append_assoc text wrong.before more;
          batch = is;
          certificate = certificate;
        },
      ),
    )

-- the lines of an input that begins with a batch text
lines_read : {A : Type 0} (input : List ℕ) (found : BatchText A) (read : IsRead input found) → words_by_line input ≡ map words_of read.text ++ words_by_line found.rest.now
lines_read input found read = ap (map words_of) read.parts ∙ map-append words_of read.text (lines_of found.rest.now)

-- The first wrong line of the certificate text behind what is read of a batch is that of both.
pub certificate_fault : {A : Type 0} (input : List ℕ) (found : BatchText A) (fault : TextError) → IsRead input found → IsTextError IsSomeCertificate found.line (words_by_line found.rest.now) fault
    → IsTextError AreSomeTexts 1 (words_by_line input) fault
certificate_fault input found (Line number) read is =
    let from : found.line ≡ 1 + length (map words_of read.text) = (let size = length-map read.text words_of in omega (arith, read.number, size)) in
    subst (λ lines. IsFirstWrongLine AreSomeTexts 1 lines number) (sym (lines_read input found read))
    (wrong_line_behind (map words_of read.text) (words_by_line found.rest.now) found.batch read.runs number read.is
    (subst (λ first. IsFirstWrongLine IsSomeCertificate first (words_by_line found.rest.now) number) from is))
certificate_fault input found NoMemory read is = tt

-- What is read of both texts.
both_read : {A : Type 0} (input : List ℕ) (found : BatchText A) (rounds : ℕ) (places : List Place) (pages : List Page) (read : IsRead input found)
    → IsCertificateText (words_by_line found.rest.now) rounds places pages → AreTexts (words_by_line input) found.batch read.runs rounds places pages
both_read input found rounds places pages read is = record {
  first = map words_of read.text;
  second = words_by_line found.rest.now;
  parts = lines_read input found read;
  batch = read.is;
  certificate = is;
}

-- Where the batch is sound, that is the verdict of the check.
pub comes_to_verdict : {A : Type 0} (input : List ℕ) (found : BatchText A) (rounds : ℕ) (places : List Place) (pages : List Page) (verdict : CheckVerdict) → IsRead input found
    → IsCertificateText (words_by_line found.rest.now) rounds places pages → AreFine found.batch
    → IsVerdict found.batch (current_of found.closed) (is_closed found.closed) rounds places pages verdict → IsJudged input (Verdict verdict)
comes_to_verdict input found rounds places pages verdict read is fine checked =
    let closes : is_closed found.closed ≡ any_closes read.runs = fun_ext (λ die. fun_ext (λ round. read.closes die round)) in (
      found.batch,
      read.runs,
      rounds,
      places,
      pages,
      both_read input found rounds places pages read is,
      record { few = read.is.few; fine = fine },
      subst (λ closed. IsVerdict found.batch 1 closed rounds places pages verdict) closes
          (subst (λ current. IsVerdict found.batch current (is_closed found.closed) rounds places pages verdict) read.current checked),
    )
