-- What an event leaves of numbers, of live dies and of who is trusted with a page.
use Rattle.fa_crash.proofs.Standing.{number_is, number_none}
use Rattle.fa_crash.proofs.Trusted.{IsCurrentOwner}
use Rattle.fa_crash.specs.Unsynced.{number_of}
use Rattle.fa_laws.specs.Erased.{RaisesNumber}
use Rattle.fa_laws.specs.Kept.{KeepsLive, KeepsNumbers}
use Rattle.fa_machine.proofs.Maps.{get-insert_other, get-remove_some, has_some}
use Rattle.fa_machine.specs.Cells.{DidErase, DidMove, DidProgram, DidRead, DidSync, DidWriteHeader, Fault, Outcome, Wrong, payload_of}
use Rattle.fa_machine.specs.Conditions.{reserved_under}
use Rattle.fa_machine.specs.State.{Core, OpenBatch, Reservation, is_live}
use Rattle.fa_machine.specs.Step.{Act, Commit, Done}
use Rattle.fa_machine.specs.Step.{SpareIn, Step}
use Rattle.fa_machine.specs.Taking.{EndsJob, finished, read_ends, with_answer}
use Rattle.fa_machine.specs.Turning.{BringsIn, has_number}
use Rattle.fa_machine.specs.Maps.{Numbers}
use Rattle.fa_machine.specs.Writing.{Commits, claimed_page}
use Rattle.fa_machine.specs.declared.jobs.Flight.{Flight}
use Rattle.fa_machine.specs.declared.jobs.Flight.TheVariants.{Erase, Header, Move, Program, Read, Sync}
use Rattle.fa_machine.specs.declared.places.Version.{Version}
use Rattle.fa_machine.specs.declared.refusals.CommitRefused.{CommitRefused}
use Rattle.fa_machine.specs.declared.refusals.SpareRefused.{SpareRefused}
use Rattle.fa_machine.specs.declared.refusals.SpareRefused.TheVariants.{NotSpare}
use Rattle.fa_sound.specs.Owners.{Owned, owned_of}
use Rattle.fa_sound.specs.Sound.{IsSound}
use Rattle.fa_types.specs.declared.numbers.Seq.{Seq}
use Rattle.std.proofs.Common.{Bool, List, None, Option, Some, ap, arith, eqb-true, false, inl, inr, refl, subst, sym, true, ℕ, ◌∙◌, ◌≡◌, ◌≤◌, ◌⊎◌}
use Rattle.std.proofs.lemmas.Bool.{cases_eq, false≢true}
use Rattle.std.proofs.lemmas.Option.{none-some, same_Some}
use Rattle.std.specs.FinMap.{FinMap, contains_key, get, remove}
use Rattle.std.specs.Option.{option_map_or}
use Rattle.std.specs.Ordering.{nat_cmp}
use Rattle.std.specs.Prelude.{Err, Ok, Result, if◌then◌else◌, is_some, option_map, ◌==◌}

abbrev pub LiveLaw : Type 0
LiveLaw = (old new : Core) (act : Act) → Step old act new → KeepsLive old act new

abbrev pub NumbersLaw : Type 0
NumbersLaw = (old new : Core) (act : Act) → Step old act new → KeepsNumbers old act new

abbrev pub RaisesLaw : Type 0
RaisesLaw = (old new : Core) (claim seat : ℕ) (seq : Seq) → IsSound old → Step old (Commit claim seat (Ok seq)) new
    → RaisesNumber old (claimed_page old claim) seq new

-- a page's number is as it was, or was raised by a commit under its claim
pub record IsRaised (old : Core) (act : Act) (new : Core) (page : ℕ) : Type 0 where
  pub claim : ℕ
  pub seat : ℕ
  pub seq : Seq
  pub act_is : act ≡ Commit claim seat (Ok seq)
  pub page_is : claimed_page old claim ≡ page
  pub raises : RaisesNumber old page seq new

module _ (numbers : NumbersLaw) (raises : RaisesLaw) (old new : Core) (s : IsSound old) where
  commit_number : (claim seat : ℕ) (seq : Seq) → Step old (Commit claim seat (Ok seq)) new → (page : ℕ)
      → (get new.page_map.versions page ≡ get old.page_map.versions page) ⊎ IsRaised old (Commit claim seat (Ok seq)) new page
  commit_number claim seat seq step page =
      let r = raises old new claim seat seq s step in
      elim (cases_eq page (claimed_page old claim)) [
        | inr apart ↦ inl (r.others page apart)
        | inl same ↦ inr (record {
          claim = claim;
          seat = seat;
          seq = seq;
          act_is = refl;
          page_is = sym same;
          raises = subst (λ (n : ℕ). RaisesNumber old n seq new) (sym same) r;
        })
      ]

  refused_same : (o : Option Reservation) (claim seat : ℕ) (refused : CommitRefused) → Commits old claim seat o (Err refused) new
      → new ≡ old
  refused_same None claim seat refused d = absurd d
  refused_same (Some r) claim seat refused d = d.1

  pub number_cases : (act : Act) → Step old act new → (page : ℕ)
      → (get new.page_map.versions page ≡ get old.page_map.versions page) ⊎ IsRaised old act new page
  number_cases (Commit claim seat (Ok seq)) step page = commit_number claim seat seq step page
  number_cases (Commit claim seat (Err refused)) step page =
      inl (ap (λ (c : Core). get c.page_map.versions page) (refused_same (reserved_under old claim) claim seat refused step.does))
  number_cases act step page = inl (ap (λ (m : FinMap nat_cmp Version). get m page) (same act step))
    where
      same : (act : Act) → Step old act new → KeepsNumbers old act new
      same act step = numbers old new act step

  raised_number : (act : Act) (page : ℕ) (r : IsRaised old act new page) → number_of new page ≡ r.seq.0
  raised_number act page r = at (get new.page_map.versions page) refl r.raises.given
    where
      at : (o : Option Version) → get new.page_map.versions page ≡ o → option_map {T = Version} (λ v. v.seq) o ≡ Some r.seq → number_of new page ≡ r.seq.0
      at None e given = absurd (none-some r.seq given)
      at (Some v) e given = number_is new page v e ∙ ap (λ (q : Seq). q.0) (same_Some v.seq r.seq given)

  raised_above : (act : Act) (page : ℕ) (r : IsRaised old act new page) → number_of old page ≤ r.seq.0
  raised_above act page r = at (get old.page_map.versions page) refl
    where
      at : (o : Option Version) → get old.page_map.versions page ≡ o → number_of old page ≤ r.seq.0
      at None e = let n = number_none old page e in omega (arith, n)
      at (Some v) e = let n = number_is old page v e in let m = r.raises.above v e in omega (arith, n, m)

  -- no page's number falls
  pub numbers_rise : (act : Act) → Step old act new → (page : ℕ) → number_of old page ≤ number_of new page
  numbers_rise act step page =
      elim (number_cases act step page) [
        | inl same ↦ let e : number_of new page ≡ number_of old page = ap (λ (o : Option Version). option_map_or (λ (v : Version). v.seq.0) o 0) same in omega (arith, e)
        | inr r ↦ let e = raised_number act page r in let m = raised_above act page r in omega (arith, e, m)
      ]

  -- a copy whose write is the page's last one then is of no page that was raised
  pub raised_not_copied : (act : Act) (x : Owned) → owned_of old.copying old.claims None ≡ Some x
      → has_number x.version.seq.0 (get new.page_map.versions x.page) ≡ true → IsRaised old act new x.page → ⊥
  raised_not_copied act x owns has r =
      let e = raised_number act x.page r in
      let n = has_is (get new.page_map.versions x.page) refl has in
      let written = has_some (get old.page_map.versions x.page) (s.old x owns).written in
      let m = r.raises.above written.0 written.1 in
      let o = (s.old x owns).older written.0 written.1 in
      absurd (omega (arith, e, n, m, o))
    where
      has_is : (o : Option Version) → get new.page_map.versions x.page ≡ o → has_number x.version.seq.0 o ≡ true
          → number_of new x.page ≡ x.version.seq.0
      has_is None e has = absurd (false≢true has)
      has_is (Some v) e has = number_is new x.page v e ∙ eqb-true v.seq.0 x.version.seq.0 has

  -- and it was the page's last one before
  copy_current : (act : Act) → Step old act new → (x : Owned) → owned_of old.copying old.claims None ≡ Some x
      → has_number x.version.seq.0 (get new.page_map.versions x.page) ≡ true
      → has_number x.version.seq.0 (get old.page_map.versions x.page) ≡ true
  copy_current act step x owns has =
      elim (number_cases act step x.page) [
        | inl same ↦ sym (ap (has_number x.version.seq.0) same) ∙ has
        | inr r ↦ absurd (raised_not_copied act x owns has r)
      ]

  pub current_back : (act : Act) → Step old act new → (q : Option ℕ) (x y : Owned) → owned_of old.copying old.claims q ≡ Some y
      → y.page ≡ x.page → y.version ≡ x.version
      → IsCurrentOwner new.page_map.versions q x → IsCurrentOwner old.page_map.versions q y
  current_back act step (Some id) x y owns page version current = tt
  current_back act step None x y owns page version current =
      copy_current act step y owns ((λ i. has_number (version i).seq.0 (get new.page_map.versions (page i))) ∙ current)

-- the outcomes that leave all dies in, or take one out
left_live : (core : Core) (die d : ℕ) → contains_key (remove core.page_map.live die) d ≡ true → is_live core.page_map d ≡ true
left_live core die d e =
    let some = has_some (get (remove core.page_map.live die) d) e in ap is_some (get-remove_some core.page_map.live die d some.0 some.1).0

answer_live : (batch page : ℕ) (bytes : List ℕ) (b : Option OpenBatch) (core : Core) (d : ℕ)
    → is_live (with_answer batch page bytes b core).page_map d ≡ true → is_live core.page_map d ≡ true
answer_live batch page bytes None core d e = e
answer_live batch page bytes (Some b) core d e = e

read_live : (core : Core) (die batch page : ℕ) (o : Option (List ℕ)) (d : ℕ) → is_live (read_ends die batch page o core).page_map d ≡ true
    → is_live core.page_map d ≡ true
read_live core die batch page None d e = left_live core die d e
read_live core die batch page (Some bytes) d e = answer_live batch page bytes (get core.batches batch) core d e

header_live : (b : Bool) (core : Core) (die d : ℕ) → is_live (if b then record core { behind = remove core.behind die } else core).page_map d ≡ true → is_live core.page_map d ≡ true
header_live true core die d e = e
header_live false core die d e = e

finished_live : (core : Core) (die : ℕ) (flight : Flight) (outcome : Outcome) (d : ℕ)
    → is_live (finished die flight outcome core).page_map d ≡ true → is_live core.page_map d ≡ true
finished_live core die (Read batch page version slot) (DidRead cell) d e = read_live core die batch.0 page.0 (payload_of page.0 version die slot.0 cell) d e
finished_live core die (Program page version slot) DidProgram d e = e
finished_live core die (Move page version from to) DidMove d e = e
finished_live core die (Erase block) DidErase d e = e
finished_live core die (Header epoch live) DidWriteHeader d e = header_live (epoch == core.epoch) core die d e
finished_live core die (Sync flushes) DidSync d e = e
finished_live core die flight (Fault call) d e = left_live core die d e
finished_live core die flight Wrong d e = left_live core die d e
finished_live core die flight outcome d e = e

ended_live : (old new : Core) (die : ℕ) (flight : Option Flight) (outcome : Outcome) (d : ℕ) → EndsJob old die flight outcome new
    → is_live new.page_map d ≡ true → is_live old.page_map d ≡ true
ended_live old new die None outcome d e alive = absurd e
ended_live old new die (Some flight) outcome d e alive =
    finished_live (record old { jobs = remove old.jobs die }) die flight outcome d (sym (ap (λ (c : Core). is_live c.page_map d) e) ∙ alive)

spare_live : (old new : Core) (die : ℕ) (answer : Result (Unit {0}) SpareRefused) → BringsIn old die answer new → (d : ℕ)
    → is_live new.page_map d ≡ true
    → (is_live old.page_map d ≡ true) ⊎ (contains_key old.spares d ≡ true)
spare_live old new die (Err NotSpare) b d e = inl (sym (ap (λ (c : Core). is_live c.page_map d) b.1) ∙ e)
spare_live old new die (Ok done) b d e =
    elim (cases_eq d die) [
      | inl same ↦ inr (ap (contains_key old.spares) same ∙ b.0)
      | inr apart ↦ inl (sym (ap is_some (get-insert_other old.page_map.live die tt d apart)) ∙ sym (ap (λ (c : Core). is_live c.page_map d) b.1) ∙ e)
    ]

-- a live die was live, or was a spare
pub live_was : LiveLaw → (old new : Core) (act : Act) → Step old act new → (d : ℕ) → is_live new.page_map d ≡ true
    → (is_live old.page_map d ≡ true) ⊎ (contains_key old.spares d ≡ true)
live_was live old new (Done die outcome) step d e = inl (ended_live old new die (get old.jobs die) outcome d step.does e)
live_was live old new (SpareIn die answer) step d e = spare_live old new die answer step.does d e
live_was live old new act step d e = inl (sym (ap (λ (m : Numbers). contains_key m d) (same act step)) ∙ e)
  where
    same : (act : Act) → Step old act new → KeepsLive old act new
    same act step = live old new act step
