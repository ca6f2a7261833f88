use Rattle.std.proofs.Common.{◌≡◌, ℕ, zero, suc, Bool, List, subst, sym, arith}
use Rattle.fa_types.specs.declared.numbers.Page.{Page}
use Rattle.fa_batch_terms.specs.declared.place.Place.{Place}
use Rattle.fa_cert.specs.declared.verdict.Refusal.{Refusal}
use Rattle.fa_cert.specs.declared.verdict.Refusal.TheVariants.{PageMissing, PageTwice, NotAHolder, RoundClosed, PlaceTwice, LastRound, ShortagePage, NotShort}
use Rattle.fa_batch_terms.specs.Batch.{Entry}
use Rattle.fa_batch_terms.specs.Plan.{IsPlan, rounds_of}
use Rattle.fa_batch_terms.specs.Certificate.{IsCertificate, ShowsNoFewer, AreNamed}
use Rattle.fa_cert.specs.Verdict.{IsRefused}
use Rattle.fa_batch_terms.proofs.Parts.{where_some}
use Rattle.fa_cert.proofs.checker.check.Goals as goal

-- what shows that no plan has fewer rounds names pages of the batch: with no round there is no page to name
module _ (batch : List Entry) (current : ℕ) (closed : ℕ → ℕ → Bool) (places : List Place) where
  are_named : (rounds : ℕ) (pages : List Page) → ShowsNoFewer batch current closed rounds pages → AreNamed batch pages
  are_named zero pages none = subst (λ ps. AreNamed batch ps) (sym none) (record { known = λ k d below. absurd (omega arith); once = λ page. omega arith })
  are_named (suc n) pages shortage = shortage.named

  -- what is refused has no certificate
  refuted : (rounds : ℕ) (pages : List Page) (refusal : Refusal) → IsRefused batch current closed rounds places pages refusal → IsCertificate batch current closed rounds places pages → ⊥
  refuted rounds pages PageMissing is certificate = is certificate.plan.each
  refuted rounds pages PageTwice is certificate = is.1 certificate.plan.once
  refuted rounds pages NotAHolder is certificate = is.2 certificate.plan.held
  refuted rounds pages RoundClosed is certificate = is.3 certificate.plan.opens
  refuted rounds pages PlaceTwice is certificate = is.4 certificate.plan.apart
  refuted rounds pages LastRound is certificate = is.1 certificate.length_is
  refuted rounds pages ShortagePage is certificate = is.2 (are_named rounds pages certificate.least)
  refuted rounds pages NotShort is certificate = is.3 certificate.least

pub returns-in-Some : goal.returns-in-Some
returns-in-Some g c =
    let found =
    where_some (IsPlan c.args.batch.now (g.R.Rounds.current c.args.calendar.now) (g.R.Rounds.closed c.args.calendar.now) c.as_slice-places.result.now × (rounds_of (g.R.Rounds.current c.args.calendar.now) c.as_slice-places.result.now ≡ c.args.plan.now.rounds))
    (λ r. (pages : List Page) → IsRefused c.args.batch.now (g.R.Rounds.current c.args.calendar.now) (g.R.Rounds.closed c.args.calendar.now) c.args.plan.now.rounds c.as_slice-places.result.now pages r)
    c.in-Some.refusal c.in-Some.is c.in_ok-refusal.ensures.found in
    let is = subst (λ xs. IsRefused c.args.batch.now (g.R.Rounds.current c.args.calendar.now) (g.R.Rounds.closed c.args.calendar.now) c.args.plan.now.rounds xs c.args.shortage.now c.in-Some.refusal)
    c.as_slice-places.ensures (found c.args.shortage.now) in
    record {
      verdict = is;
      least = (
        λ no. cc,
        λ certificate. absurd (refuted c.args.batch.now (g.R.Rounds.current c.args.calendar.now) (g.R.Rounds.closed c.args.calendar.now) c.args.plan.now.places c.args.plan.now.rounds c.args.shortage.now c.in-Some.refusal is certificate),
      );
    }
