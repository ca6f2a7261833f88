use Rattle.std.proofs.Common.{◌+◌, ◌∙◌, subst, sym, arith}
use Rattle.std.proofs.lemmas.Bool.{eqb-false, false≢true}
use Rattle.fa_io.proofs.LineLemmas.{some_line}
use Rattle.fa_texts.specs.CertificateText.{SaysOfCertificate, IsCertificateText, IsSomeCertificate}
use Rattle.fa_texts.specs.Text.{words_of}
use Rattle.fa_texts.proofs.CertificateTexts.{begins, ends, none_begins, not_behind, not_first, not_next, not_none, not_whole, place_more, place_no_next, short_more, short_no_next, starts, whole_begins}
use Rattle.fa_texts.proofs.Reading.{HasRead, nothing_read, read_more, wrong_end, wrong_next}
use Rattle.fa_texts.proofs.certificate_text.read_certificate.Goals as goal
use Rattle.fa_texts.proofs.certificate_text.read_certificate.Goals.{in-Place+else-not-is_empty+in_ok-push-in-Place, in-Short+else-not-is_empty-2}

pub returns-in_default-clause-fault : goal.returns-in_default-clause-fault
returns-in_default-clause-fault g c = wrong_end IsSomeCertificate (nothing_read c.args.line c.args.input.now) none_begins c.in_default.ensures.lines not_none

pub returns-in_default-rounds_of-clause-fault : goal.returns-in_default-rounds_of-clause-fault
returns-in_default-rounds_of-clause-fault g c =
    wrong_next IsSomeCertificate (nothing_read c.args.line c.args.input.now) none_begins c.in-Some.ensures.lines (not_first c.in_default-rounds_of.ensures)

pub loop-text-init : goal.loop-text-init
loop-text-init g c =
    let less = c.in-Some.ensures.less in (
      omega (arith, less),
      read_more (nothing_read c.args.line c.args.input.now) c.in-Some.ensures.lines (starts c.in-Some-rounds_of.ensures.0 c.new-places.ensures c.new-shortage.ensures c.in-Some-rounds_of.ensures.1),
    )

pub returns-then-not-is_empty-clause-fault : goal.returns-then-not-is_empty-clause-fault
returns-then-not-is_empty-clause-fault g c =
    let read = c.loop-text.invariant.1 in
    let says = subst (λ v. SaysOfCertificate (words_of c.in-Some-cut_line.text.now) v) c.in-Place.is c.in_ok-place.ensures in
    wrong_next IsSomeCertificate read (begins read.fine) c.in-Some-cut_line.ensures.lines
    (not_next read.fine (place_no_next _ says.0 (λ none. false≢true (c.if-not-is_empty.ensures.1 none))))

pub returns-then-not-is_empty-2-clause-fault : goal.returns-then-not-is_empty-2-clause-fault
returns-then-not-is_empty-2-clause-fault g c =
    let read = c.loop-text.invariant.1 in
    let says = subst (λ v. SaysOfCertificate (words_of c.in-Some-cut_line.text.now) v) c.in-Short.is c.in_ok-place.ensures in
    wrong_next IsSomeCertificate read (begins read.fine) c.in-Some-cut_line.ensures.lines
    (not_next read.fine (short_no_next _ says.0 (λ none. false≢true (c.if-not-is_empty-2.ensures.1 none))))

pub returns-then-not-is_empty-3-clause-fault : goal.returns-then-not-is_empty-3-clause-fault
returns-then-not-is_empty-3-clause-fault g c =
    let says = subst (λ v. SaysOfCertificate (words_of c.in-Some-cut_line.text.now) v) c.in-End.is c.in_ok-place.ensures in
    let read : HasRead c.args.line c.args.input.now c.in-Some-cut_line.after.now (c.loop-text.line + 1) (λ lines. IsCertificateText lines c.in-Some-rounds_of.rounds c.loop-text.places c.loop-text.shortage) =
    read_more c.loop-text.invariant.1 c.in-Some-cut_line.ensures.lines (ends c.loop-text.invariant.1.fine says) in
    let behind = some_line c.in-Some-cut_line.after.now (eqb-false _ 0 (sym c.is_empty-in-End.ensures ∙ c.if-not-is_empty-3.true)) in
    wrong_next IsSomeCertificate read (whole_begins read.fine) behind.2 (not_behind _ read.fine)

pub returns-in-Other-clause-fault : goal.returns-in-Other-clause-fault
returns-in-Other-clause-fault g c =
    let read = c.loop-text.invariant.1 in
    let says = subst (λ v. SaysOfCertificate (words_of c.in-Some-cut_line.text.now) v) c.in-Other.is c.in_ok-place.ensures in
    wrong_next IsSomeCertificate read (begins read.fine) c.in-Some-cut_line.ensures.lines
    (not_next read.fine (record { no_place = λ x fine is none. says.0 x fine is; no_short = λ short fine some is none. says.1 short fine some is; no_end = says.2 }))

pub loop-text-preserved : goal.loop-text-preserved
loop-text-preserved g c =
    let read = c.loop-text.invariant.1 in
    let early = c.loop-text.invariant.0 in
    let less = c.in-Some-cut_line.ensures.less in (
      omega (arith, early, less),
      read_more read c.in-Some-cut_line.ensures.lines (elim c.match-branch-2.branch [
        | in-Place+else-not-is_empty+in_ok-push-in-Place w ↦
            (let says = subst (λ v. SaysOfCertificate (words_of c.in-Some-cut_line.text.now) v) w.in-Place.is c.in_ok-place.ensures in
            place_more read.fine (w.is_empty.ensures.0 w.if-not-is_empty.false) says.0 says.1 (w.places-is ∙ w.in_ok-push-in-Place.ensures.ok) w.shortage-is)
        | in-Short+else-not-is_empty-2 w ↦
            (let says = subst (λ v. SaysOfCertificate (words_of c.in-Some-cut_line.text.now) v) w.in-Short.is c.in_ok-place.ensures in
            short_more read.fine (w.is_empty-in-Short.ensures.0 w.if-not-is_empty-2.false) says.0 says.1 says.2 w.places-is w.shortage-is)
      ]),
    )

pub returns-clause-fault : goal.returns-clause-fault
returns-clause-fault g c =
    let read = c.loop-text.invariant.1 in
    wrong_end IsSomeCertificate read (begins read.fine) c.in_default-cut_line.ensures.lines (not_whole read.fine)
