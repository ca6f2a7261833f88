-- In every run, what is reserved under an open claim is told by what happened: the page was claimed, and then these bytes were reserved.
use Rattle.fa_headline.proofs.Claims.{IsClaimedBy, IsReservedBy, Stays, claim_was}
use Rattle.fa_headline.proofs.Lists.{behind_one}
use Rattle.fa_headline.proofs.Reading.{keeps_behind}
use Rattle.fa_headline.specs.Writes.{ChangesAtCommit, IsReserve, WasReserved}
use Rattle.fa_laws.proofs.Answering.{plain_changes, reached_holds}
use Rattle.fa_laws.proofs.Claiming.{value_other, value_same}
use Rattle.fa_laws.proofs.Endings.{HappensCall, with_done}
use Rattle.fa_laws.proofs.Invariant.{Holds, owned_claim}
use Rattle.fa_laws.proofs.Scene.{Owned}
use Rattle.fa_machine.specs.Beginning.{IsBeginning}
use Rattle.fa_machine.specs.Cells.{DidRead, Outcome}
use Rattle.fa_machine.specs.Conditions.{reserved_under}
use Rattle.fa_machine.specs.Reading.{zeros}
use Rattle.fa_machine.specs.Run.{CallsNext, Event, Happening, Happens, HappensEvent, ImageCall, Run}
use Rattle.fa_machine.specs.State.{Core, OpenClaim, Reservation}
use Rattle.fa_machine.specs.Step.{Act, Admit, Claim, Commit, Does, Done, Reserve, ReserveFewer, ReserveHole, Step, Take}
use Rattle.fa_machine.specs.World.{Gave, JobCall, Work, World, followed, next_call, with_due, with_end, with_told, with_value_at}
use Rattle.fa_machine.specs.Writing.{Commits, claimed_page}
use Rattle.fa_machine.specs.declared.ids.ClaimId.{ClaimId}
use Rattle.fa_machine.specs.declared.jobs.Flight.{Flight}
use Rattle.fa_machine.specs.declared.jobs.Flight.TheVariants.{Read}
use Rattle.fa_types.specs.declared.geometry.Geometry.{Geometry}
use Rattle.fa_types.specs.declared.numbers.Seq.{Seq}
use Rattle.fa_types.specs.Plain.{put}
use Rattle.std.proofs.Common.{List, None, Option, Some, [], ap, arith, inl, inr, refl, subst, sym, ℕ, ◌+◌, ◌∙◌, ◌∷◌, ◌≡◌, ◌≤◌}
use Rattle.std.proofs.lemmas.Option.{none-some}
use Rattle.std.specs.FinMap.{get, get-empty}
use Rattle.std.specs.Ordering.{nat_cmp}
use Rattle.std.specs.Prelude.{Err, Ok, option_and_then, option_map, replicate, unwrap_or, ◌++◌}

abbrev pub GeometryLaw : Type 0
GeometryLaw = (old new : Core) (act : Act) → Step old act new → new.page_map.geometry ≡ old.page_map.geometry

-- a claim that is open
pub record WasClaimed (happenings : List Happening) (claim page : ℕ) : Type 0 where
  pub before : List Happening
  pub id : ClaimId
  pub rest : List Happening
  pub order : happenings ≡ before ++ Event (Claim page (Ok id)) ∷ rest
  pub claim_is : id.0 ≡ claim

pub record AreTold (zero_page : List ℕ) (happenings : List Happening) (last : World) : Type 0 where
  pub geometry : zeros last.core.page_map ≡ zero_page
  pub claims : (id : ℕ) (c : OpenClaim) → get last.core.claims id ≡ Some c → WasClaimed happenings id c.page
  pub reserved : (id : ℕ) (c : OpenClaim) (r : Reservation) → get last.core.claims id ≡ Some c → c.reserved ≡ Some r
      → WasReserved zero_page happenings id c.page r.version.seq.0 (last.payloads c.page r.version.seq.0)

claimed_on : (happenings : List Happening) (happening : Happening) (claim page : ℕ) → WasClaimed happenings claim page
    → WasClaimed (happenings ++ happening ∷ []) claim page
claimed_on happenings happening claim page w = record {
  before = w.before;
  id = w.id;
  rest = w.rest ++ happening ∷ [];
  order = ap (λ l. l ++ happening ∷ []) w.order ∙ behind_one w.before (Event (Claim page (Ok w.id))) w.rest happening;
  claim_is = w.claim_is;
}

reserved_on : (zero_page : List ℕ) (happenings : List Happening) (happening : Happening) (claim page seq : ℕ) (bytes : List ℕ)
    → WasReserved zero_page happenings claim page seq bytes → WasReserved zero_page (happenings ++ happening ∷ []) claim page seq bytes
reserved_on zero_page happenings happening claim page seq bytes w = record {
  before = w.before;
  id = w.id;
  between = w.between;
  act = w.act;
  behind = w.behind ++ happening ∷ [];
  order = ap (λ l. l ++ happening ∷ []) w.order
      ∙ behind_one (w.before ++ Event (Claim page (Ok w.id)) ∷ w.between) (Event w.act) w.behind happening;
  claim_is = w.claim_is;
  reserves = w.reserves;
}

with_due_payloads : (die : ℕ) (flight : Flight) (w : World) → (with_due die flight w).payloads ≡ w.payloads
with_due_payloads die (Read batch page version slot) w = refl
with_due_payloads die flight w = refl

with_told_payloads : (die batch page seq : ℕ) (o : Option (List ℕ)) (w : World) → (with_told die batch page seq o w).payloads ≡ w.payloads
with_told_payloads die batch page seq None w = refl
with_told_payloads die batch page seq (Some bytes) w = refl

with_end_payloads : (die : ℕ) (flight : Flight) (outcome : Outcome) (w : World) → (with_end die (Some flight) outcome w).payloads ≡ w.payloads
with_end_payloads die (Read batch page version slot) (DidRead cell) w = with_told_payloads die batch.0 page.0 version.seq.0 _ w
with_end_payloads die flight outcome w = refl

with_done_payloads : (die : ℕ) (flight : Option Flight) (outcome : Outcome) (w : World) → (with_done die flight outcome w).payloads ≡ w.payloads
with_done_payloads die None outcome w = refl
with_done_payloads die (Some flight) outcome w = with_end_payloads die flight outcome w

-- what was reserved with a number that was given before stays
kept_below : (last n page seq : ℕ) (bytes : List ℕ) (p : ℕ) (payloads : ℕ → ℕ → List ℕ) → n ≡ last + 1 → seq ≤ last
    → with_value_at p n bytes payloads page seq ≡ payloads page seq
kept_below last n page seq bytes p payloads is below = value_other p n bytes payloads page seq (λ e f. omega (arith, is, below, f))

payload_kept : (w after : World) (act : Act) → Does w.core act after.core → after.payloads ≡ (followed act w).payloads → (page seq : ℕ) → seq ≤ w.core.last
    → after.payloads page seq ≡ w.payloads page seq
payload_kept w after (Reserve claim payload (Ok s)) d e page seq below =
    ap (λ f. f page seq) e ∙ kept_below w.core.last s.0 page seq payload (claimed_page w.core claim) w.payloads d.1 below
payload_kept w after (ReserveHole claim (Ok s)) d e page seq below =
    ap (λ f. f page seq) e ∙ kept_below w.core.last s.0 page seq (zeros w.core.page_map) (claimed_page w.core claim) w.payloads d.1 below
payload_kept w after (ReserveFewer claim payload (Ok s)) d e page seq below =
    ap (λ f. f page seq) e ∙ kept_below w.core.last s.0 page seq payload (claimed_page w.core claim) w.payloads d.1 below
payload_kept w after (Reserve claim payload (Err refused)) d e page seq below = ap (λ f. f page seq) e
payload_kept w after (ReserveHole claim (Err refused)) d e page seq below = ap (λ f. f page seq) e
payload_kept w after (ReserveFewer claim payload (Err refused)) d e page seq below = ap (λ f. f page seq) e
payload_kept w after (Commit claim seat (Ok s)) d e page seq below = ap (λ f. f page seq) e
payload_kept w after (Commit claim seat (Err refused)) d e page seq below = ap (λ f. f page seq) e
payload_kept w after (Admit pages (Ok admitted)) d e page seq below = ap (λ f. f page seq) e
payload_kept w after (Admit pages (Err refused)) d e page seq below = ap (λ f. f page seq) e
payload_kept w after (Take die seat (Some job)) d e page seq below = ap (λ f. f page seq) (e ∙ with_due_payloads die job.flight w)
payload_kept w after (Take die seat None) d e page seq below = ap (λ f. f page seq) e
payload_kept w after (Done die outcome) d e page seq below = ap (λ f. f page seq) (e ∙ with_done_payloads die (get w.core.jobs die) outcome w)
payload_kept w after act d e page seq below = ap (λ f. f page seq) e

-- what was reserved by this event
payload_now : (w after : World) (id : ℕ) (bytes : List ℕ) (act : Act) → IsReserve id (w.core.last + 1) (zeros w.core.page_map) bytes act
    → after.payloads ≡ (followed act w).payloads → after.payloads (claimed_page w.core id) (w.core.last + 1) ≡ bytes
payload_now w after id bytes (Reserve claim payload (Ok s)) r e =
    ap (λ f. f (claimed_page w.core id) (w.core.last + 1)) e
    ∙ (λ i. with_value_at (claimed_page w.core (r.0 i)) (r.1 i) (r.2 i) w.payloads (claimed_page w.core id) (w.core.last + 1))
    ∙ value_same (claimed_page w.core id) (w.core.last + 1) bytes w.payloads
payload_now w after id bytes (ReserveHole claim (Ok s)) r e =
    ap (λ f. f (claimed_page w.core id) (w.core.last + 1)) e
    ∙ (λ i. with_value_at (claimed_page w.core (r.0 i)) (r.1 i) (r.2 i) w.payloads (claimed_page w.core id) (w.core.last + 1))
    ∙ value_same (claimed_page w.core id) (w.core.last + 1) bytes w.payloads
payload_now w after id bytes (ReserveFewer claim payload (Ok s)) r e =
    ap (λ f. f (claimed_page w.core id) (w.core.last + 1)) e
    ∙ (λ i. with_value_at (claimed_page w.core (r.0 i)) (r.1 i) (r.2 i) w.payloads (claimed_page w.core id) (w.core.last + 1))
    ∙ value_same (claimed_page w.core id) (w.core.last + 1) bytes w.payloads
payload_now w after id bytes act r e = absurd r

module _ (law : GeometryLaw) (first : World) (beginning : IsBeginning first) where
  abbrev zero_page : List ℕ
  zero_page = zeros first.core.page_map

  module _ (happenings : List Happening) (last : World) (run : Run first happenings last) (told : AreTold zero_page happenings last) where
    h : Holds last
    h = reached_holds last (record { first = first; happenings = happenings; beginning = beginning; run = run })

    -- the number of what is reserved was given
    below : (id : ℕ) (c : OpenClaim) (r : Reservation) → get last.core.claims id ≡ Some c → c.reserved ≡ Some r → r.version.seq.0 ≤ last.core.last
    below id c r opened some =
        (h.sound.owned (Some id) (record { page = c.page; version = r.version; targets = r.targets })
        (ap (λ o. option_and_then owned_claim o) opened
        ∙ ap (option_map {T = Reservation} {U = Owned} (λ r. record { page = c.page; version = r.version; targets = r.targets })) some)).right.below

    module _ (act : Act) (after : World) (event : HappensEvent last act after) where
      abbrev then : List Happening
      then = happenings ++ Event act ∷ []

      follows : after.payloads ≡ (followed act last).payloads
      follows = ap (λ (v : World). v.payloads) event.follows

      geometry_then : zeros after.core.page_map ≡ zero_page
      geometry_then = ap (λ (g : Geometry). replicate g.page_bytes 0) (law last.core after.core act event.step) ∙ told.geometry

      to_zero_page : (claim seq : ℕ) (bytes : List ℕ) → IsReserve claim seq (zeros last.core.page_map) bytes act → IsReserve claim seq zero_page bytes act
      to_zero_page claim seq bytes r = subst (λ z. IsReserve claim seq z bytes act) told.geometry r

      claimed_now : (id : ℕ) (c : OpenClaim) → IsClaimedBy act id c → WasClaimed then id c.page
      claimed_now id c by = record {
        before = happenings;
        id = by.given;
        rest = [];
        order = ap (λ a. happenings ++ Event a ∷ []) by.act_is;
        claim_is = by.given_is;
      }

      claim_then : (id : ℕ) (c : OpenClaim) → get after.core.claims id ≡ Some c → WasClaimed then id c.page
      claim_then id c is =
          elim (claim_was last.core id c act after.core event.step.allows event.step.does is) [
            | inl stays ↦ subst (WasClaimed then id) (sym stays.stays.page) (claimed_on happenings (Event act) id stays.was.page (told.claims id stays.was stays.opened))
            | inr (inl by) ↦ claimed_now id c by
            | inr (inr by) ↦ subst (WasClaimed then id) (sym by.page) (claimed_on happenings (Event act) id by.was.page (told.claims id by.was by.opened))
          ]

      reserved_now : (id : ℕ) (c : OpenClaim) (r : Reservation) → IsReservedBy last.core act id c → c.reserved ≡ Some r
          → WasReserved zero_page then id c.page r.version.seq.0 (after.payloads c.page r.version.seq.0)
      reserved_now id c r by some =
          let claimed = told.claims id by.was by.opened in
          let number = by.number r some in
          let page_is : claimed_page last.core id ≡ c.page =
          ap (λ o. unwrap_or (option_map {T = OpenClaim} (λ c. c.page) o) 0) by.opened ∙ sym by.page in
          subst (λ (x : ℕ × ℕ × List ℕ). WasReserved zero_page then id x.0 x.1 x.2)
          {x = (by.was.page, last.core.last + 1, by.bytes)} {y = (c.page, r.version.seq.0, after.payloads c.page r.version.seq.0)}
          (λ i. (
            sym by.page i,
            sym number i,
            (sym (payload_now last after id by.bytes act by.reserves follows) ∙ (λ j. after.payloads (page_is j) (sym number j))) i,
          ))
          (record {
            before = claimed.before;
            id = claimed.id;
            between = claimed.rest;
            act = act;
            behind = [];
            order = ap (λ l. l ++ Event act ∷ []) claimed.order;
            claim_is = claimed.claim_is;
            reserves = to_zero_page id (last.core.last + 1) by.bytes by.reserves;
          })

      reserved_then : (id : ℕ) (c : OpenClaim) (r : Reservation) → get after.core.claims id ≡ Some c → c.reserved ≡ Some r
          → WasReserved zero_page then id c.page r.version.seq.0 (after.payloads c.page r.version.seq.0)
      reserved_then id c r is some =
          elim (claim_was last.core id c act after.core event.step.allows event.step.does is) [
            | inl stays ↦ stayed stays.was stays.opened stays.stays
            | inr (inl by) ↦ absurd (none-some r (sym by.nothing ∙ some))
            | inr (inr by) ↦ reserved_now id c r by some
          ]
        where
          stayed : (was : OpenClaim) → get last.core.claims id ≡ Some was → Stays was c
              → WasReserved zero_page then id c.page r.version.seq.0 (after.payloads c.page r.version.seq.0)
          stayed was opened stays =
              let before = stays.reserved r some in
              let n : r.version.seq.0 ≡ before.0.version.seq.0 = ap (λ v. v.seq.0) before.2 in
              let kept = payload_kept last after act event.step.does follows was.page before.0.version.seq.0 (below id was before.0 opened before.1) in
              subst (λ (x : ℕ × ℕ × List ℕ). WasReserved zero_page then id x.0 x.1 x.2)
              {x = (was.page, before.0.version.seq.0, last.payloads was.page before.0.version.seq.0)}
              {y = (c.page, r.version.seq.0, after.payloads c.page r.version.seq.0)}
              (λ i. (sym stays.page i, sym n i, (sym kept ∙ (λ j. after.payloads (sym stays.page j) (sym n j))) i))
              (reserved_on zero_page happenings (Event act) id was.page before.0.version.seq.0 _ (told.reserved id was before.0 opened before.1))

      event_told : AreTold zero_page then after
      event_told = record { geometry = geometry_then; claims = claim_then; reserved = reserved_then }

    module _ (die : ℕ) (gave : Gave) (after : World) (happens : Happens last (ImageCall die gave) after) where
      abbrev SameOf : World → Type 0
      SameOf v = (v.core ≡ last.core) × (v.payloads ≡ last.payloads)

      same : SameOf after
      same = of_work (last.works die) happens
        where
          of_call : (work : Option Work) (call : Option JobCall) → CallsNext last die work call gave after → SameOf after
          of_call work None c = absurd c
          of_call work (Some call) c = (ap (λ (v : World). v.core) c.2, ap (λ (v : World). v.payloads) c.2)

          of_work : (work : Option Work) → HappensCall last die work gave after → SameOf after
          of_work work c = of_call work (option_and_then (λ k. next_call die k.job k.gave) work) c

      call_told : AreTold zero_page (happenings ++ ImageCall die gave ∷ []) after
      call_told =
          subst (λ (x : Core × (ℕ → ℕ → List ℕ)). AreTold zero_page (happenings ++ ImageCall die gave ∷ []) (record after { core = x.0; payloads = x.1 }))
          {x = (last.core, last.payloads)} {y = (after.core, after.payloads)} (λ i. (sym same.0 i, sym same.1 i))
          (record {
            geometry = told.geometry;
            claims = λ id c is. claimed_on happenings (ImageCall die gave) id c.page (told.claims id c is);
            reserved = λ id c r is some. reserved_on zero_page happenings (ImageCall die gave) id c.page r.version.seq.0 _ (told.reserved id c r is some);
          })

    happens_told : (happening : Happening) (after : World) → Happens last happening after → AreTold zero_page (happenings ++ happening ∷ []) after
    happens_told (Event act) after happens = event_told act after happens
    happens_told (ImageCall die gave) after happens = call_told die gave after happens

  pub run_told : (happenings : List Happening) (last : World) → Run first happenings last → AreTold zero_page happenings last
  run_told happenings last run =
      keeps_behind (λ l w. AreTold zero_page l w) first
      (λ before at happening after led happens told. happens_told before at led told happening after happens)
      [] first refl
      (record {
        geometry = refl;
        claims = λ id c is. absurd (none-some c (sym (nothing id) ∙ is));
        reserved = λ id c r is some. absurd (none-some c (sym (nothing id) ∙ is));
      })
      happenings last run
    where
      nothing : (id : ℕ) → get first.core.claims id ≡ None
      nothing id = ap (λ (c : Core). get c.claims id) beginning.fresh ∙ get-empty nat_cmp id

  committed : (happenings : List Happening) (at after : World) → AreTold zero_page happenings at → (claim seat : ℕ) (seq : Seq)
      → Commits at.core claim seat (reserved_under at.core claim) (Ok seq) after.core
      → after.plain ≡ put (claimed_page at.core claim) (at.payloads (claimed_page at.core claim) seq.0) at.plain
      → ChangesAtCommit first happenings at (Event (Commit claim seat (Ok seq))) after
  committed happenings at after told claim seat seq d plain = of_claim (get at.core.claims claim) refl
    where
      of_reserved : (c : OpenClaim) → get at.core.claims claim ≡ Some c → (o : Option Reservation) → c.reserved ≡ o
          → Commits at.core claim seat o (Ok seq) after.core → ChangesAtCommit first happenings at (Event (Commit claim seat (Ok seq))) after
      of_reserved c opened None some does = absurd does
      of_reserved c opened (Some r) some does =
          let page_is : claimed_page at.core claim ≡ c.page = ap (λ o. unwrap_or (option_map {T = OpenClaim} (λ c. c.page) o) 0) opened in
          let n : seq.0 ≡ r.version.seq.0 = ap (λ (s : Seq). s.0) does.1 in (
            c.page,
            at.payloads c.page seq.0,
            subst (λ (k : ℕ). WasReserved zero_page happenings claim c.page k (at.payloads c.page k)) (sym n) (told.reserved claim c r opened some),
            subst (λ (p : ℕ). after.plain ≡ put p (at.payloads p seq.0) at.plain) page_is plain,
          )

      of_claim : (o : Option OpenClaim) → get at.core.claims claim ≡ o → ChangesAtCommit first happenings at (Event (Commit claim seat (Ok seq))) after
      of_claim None opened =
          absurd (subst (λ (o : Option Reservation). Commits at.core claim seat o (Ok seq) after.core) (ap (λ o. option_and_then (λ (c : OpenClaim). c.reserved) o) opened) d)
      of_claim (Some c) opened =
          of_reserved c opened c.reserved refl
          (subst (λ (o : Option Reservation). Commits at.core claim seat o (Ok seq) after.core) (ap (λ o. option_and_then (λ (c : OpenClaim). c.reserved) o) opened) d)

  pub changes_at_commit : (happenings : List Happening) (at : World) (happening : Happening) (after : World) → Run first happenings at
      → Happens at happening after → ChangesAtCommit first happenings at happening after
  changes_at_commit happenings at (Event (Commit claim seat (Ok seq))) after run happens =
      committed happenings at after (run_told happenings at run) claim seat seq happens.step.does (plain_changes at after (Event (Commit claim seat (Ok seq))) happens)
  changes_at_commit happenings at happening after run happens = plain_changes at after happening happens
