-- Each page of the plain array has as many bytes as the array's pages have, in each world that runs lead to.
use Rattle.fa_solo_job.proofs.Changes.{claims_after, claims_are, reservation_for, with_marked}
use Rattle.fa_solo_laws.proofs.Due.{happens_plain}
use Rattle.fa_solo_laws.proofs.Reserved.{kept_payload}
use Rattle.fa_solo_laws.proofs.PutBytes.{put_sized}
use Rattle.fa_laws.proofs.Answering.{plain_changes}
use Rattle.fa_laws.proofs.Claiming.{value_same}
use Rattle.fa_laws.proofs.Committing.{reserved_owned}
use Rattle.fa_laws.proofs.Endings.{HappensCall}
use Rattle.fa_laws.proofs.Events.{happens_holds}
use Rattle.fa_laws.proofs.Invariant.{Holds}
use Rattle.fa_laws.proofs.Runs.{run_keeps}
use Rattle.fa_laws.proofs.Starts.{beginning_holds}
use Rattle.fa_laws.proofs.Within.{GeometryLaw}
use Rattle.fa_laws.specs.Reached.{IsReached}
use Rattle.fa_machine.proofs.Maps.{get-change, get-insert_cases, get-remove_some, nat_same}
use Rattle.fa_machine.specs.Cells.{DidProgram, Outcome}
use Rattle.fa_machine.specs.Conditions.{claim_open, is_reserved, reserved_under}
use Rattle.fa_machine.specs.Reading.{zeros}
use Rattle.fa_machine.specs.Run.{CallsNext, Event, Happening, Happens, HappensEvent, ImageCall}
use Rattle.fa_machine.specs.State.{Core, OpenClaim, Reservation}
use Rattle.fa_machine.specs.Step.{Abandon, Act, Claim, Commit, Done, Release, Reserve, ReserveFewer, ReserveHole, is_sized}
use Rattle.fa_machine.specs.Taking.{mark, mark_claim}
use Rattle.fa_machine.specs.World.{Gave, JobCall, Work, World, next_call}
use Rattle.fa_machine.specs.Writing.{Commits, claimed_page}
use Rattle.fa_machine.specs.declared.jobs.Flight.{Flight}
use Rattle.fa_machine.specs.declared.jobs.Flight.TheVariants.{Program}
use Rattle.fa_types.specs.Plain.{HasPages}
use Rattle.fa_types.specs.declared.geometry.Geometry.{Geometry}
use Rattle.fa_types.specs.declared.kind.Kind.TheVariants.{Data as DataKind, Hole as HoleKind}
use Rattle.fa_types.specs.declared.numbers.Seq.{Seq}
use Rattle.std.proofs.Common.{Bool, List, None, Option, Some, ap, arith, eqb-true, false, inl, inr, length, map, not, refl, subst, sym, true, ℕ, ◌+◌, ◌∙◌, ◌≡◌, ◌≤◌}
use Rattle.std.proofs.lemmas.Bool.{and_parts, or_cases}
use Rattle.std.proofs.lemmas.List.{length-replicate}
use Rattle.std.proofs.lemmas.Option.{none-some, same_Some}
use Rattle.std.specs.Cmp.{nat_cmp_total}
use Rattle.std.specs.FinMap.{get, get-empty, insert}
use Rattle.std.specs.Ordering.{nat_cmp}
use Rattle.std.specs.Prelude.{Err, Ok, if◌then◌else◌, option_and_then, option_map, unwrap_or, ◌&&◌, ◌==◌, ◌||◌}

abbrev size_of : World → ℕ
size_of w = w.core.page_map.geometry.page_bytes

pub record AreSized (w : World) : Type 0 where
  pub holds : Holds w
  pub pages : HasPages w.core.page_map.geometry.page_bytes w.plain
  pub reserved : (claim : ℕ) (entry : OpenClaim) (r : Reservation) → get w.core.claims claim ≡ Some entry → entry.reserved ≡ Some r
      → length (w.payloads entry.page r.version.seq.0) ≡ w.core.page_map.geometry.page_bytes

-- the reservation of an entry
reserved_by : (claims : Option OpenClaim) (entry : OpenClaim) (r : Reservation) → claims ≡ Some entry → entry.reserved ≡ Some r
    → option_and_then {T = OpenClaim} (λ c. c.reserved) claims ≡ Some r
reserved_by claims entry r found is = ap (option_and_then {T = OpenClaim} (λ c. c.reserved)) found ∙ is

page_by : (core : Core) (claim : ℕ) (entry : OpenClaim) → get core.claims claim ≡ Some entry → claimed_page core claim ≡ entry.page
page_by core claim entry found = ap (λ (o : Option OpenClaim). unwrap_or (option_map {T = OpenClaim} (λ c. c.page) o) 0) found

module _ (same : GeometryLaw) (w : World) (k : AreSized w) (act : Act) (after : World) (e : HappensEvent w act after) where
  abbrev Fits : OpenClaim → Reservation → Type 0
  Fits entry r = length (after.payloads entry.page r.version.seq.0) ≡ size_of w

  -- what was reserved before
  was : (claim : ℕ) (entry : OpenClaim) (r : Reservation) → get w.core.claims claim ≡ Some entry → entry.reserved ≡ Some r → Fits entry r
  was claim entry r found is =
      let owned = reserved_owned (get w.core.claims claim) r (reserved_by (get w.core.claims claim) entry r found is) in
      let low = (k.holds.sound.owned (Some claim) _ owned).right.below in
      ap length (ap (λ (v : World). v.payloads entry.page r.version.seq.0) e.follows ∙ kept_payload w act after.core e.step.does entry.page r.version.seq.0 low)
      ∙ k.reserved claim entry r found is

  -- a claim under which nothing is reserved, or this
  put_in : (c page : ℕ) (reserved : Option Reservation) → ((r : Reservation) → reserved ≡ Some r → length (after.payloads page r.version.seq.0) ≡ size_of w)
      → (claim : ℕ) (entry : OpenClaim) (r : Reservation) → get (insert w.core.claims c (record { page = page; reserved = reserved })) claim ≡ Some entry
      → entry.reserved ≡ Some r → Fits entry r
  put_in c page reserved fits claim entry r found is =
      let now : OpenClaim = record { page = page; reserved = reserved } in
      elim (get-insert_cases w.core.claims c now claim entry found) [
        | inr before ↦ was claim entry r before.0 is
        | inl made ↦
            subst (λ (x : OpenClaim). length (after.payloads x.page r.version.seq.0) ≡ size_of w) made.1
            (fits r (ap (λ (x : OpenClaim). x.reserved) made.1 ∙ is))
      ]

  none_put : (page : ℕ) (r : Reservation) → None ≡ Some r → length (after.payloads page r.version.seq.0) ≡ size_of w
  none_put page r e = absurd (none-some r e)

  -- what was reserved just now
  just_now : (c : ℕ) (payload : List ℕ) (seq : Seq) (s : Reservation) → seq.0 ≡ w.core.last + 1 → s.version.seq.0 ≡ w.core.last + 1
      → after.payloads (claimed_page w.core c) seq.0 ≡ payload → length payload ≡ size_of w
      → (r : Reservation) → Some s ≡ Some r → length (after.payloads (claimed_page w.core c) r.version.seq.0) ≡ size_of w
  just_now c payload seq s number numbered bytes long r is =
      subst (λ (x : Reservation). length (after.payloads (claimed_page w.core c) x.version.seq.0) ≡ size_of w) (same_Some s r is)
      (ap (λ n. length (after.payloads (claimed_page w.core c) n)) (numbered ∙ sym number) ∙ ap length bytes ∙ long)

  marked : (die slot : ℕ) (b : Bool) (entry : OpenClaim) (r : Reservation) → (if b then mark_claim die slot entry else entry).reserved ≡ Some r
      → (s : Reservation) × (entry.reserved ≡ Some s) × (s.version.seq.0 ≡ r.version.seq.0)
      × ((if b then mark_claim die slot entry else entry).page ≡ entry.page)
  marked die slot false entry r is = (r, is, refl, refl)
  marked die slot true entry r is = of_reserved entry.reserved refl is
    where
      of_reserved : (o : Option Reservation) → entry.reserved ≡ o
          → option_map {T = Reservation} (λ r. record r { targets = map (mark die slot) r.targets }) o ≡ Some r
          → (s : Reservation) × (entry.reserved ≡ Some s) × (s.version.seq.0 ≡ r.version.seq.0) × (entry.page ≡ entry.page)
      of_reserved None was is = absurd (none-some r is)
      of_reserved (Some s) was is = (s, was, ap (λ (x : Reservation). x.version.seq.0) (same_Some _ r is), refl)

  ended : (die : ℕ) (flight : Option Flight) (outcome : Outcome) (claim : ℕ) (entry : OpenClaim) (r : Reservation)
      → get (with_marked die flight outcome w.core.claims) claim ≡ Some entry → entry.reserved ≡ Some r → Fits entry r
  ended die (Some (Program p version slot)) DidProgram claim entry r found is = by_entry (get w.core.claims claim) refl
      (sym (get-change nat_cmp_total nat_same (λ id c. if c.page == p.0 then mark_claim die slot.0 c else c) w.core.claims claim) ∙ found)
    where
      by_entry : (o : Option OpenClaim) → get w.core.claims claim ≡ o
          → option_map (λ (c : OpenClaim). if c.page == p.0 then mark_claim die slot.0 c else c) o ≡ Some entry → Fits entry r
      by_entry None before now = absurd (none-some entry now)
      by_entry (Some c) before now =
          let here = same_Some (if c.page == p.0 then mark_claim die slot.0 c else c) entry now in
          let m = marked die slot.0 (c.page == p.0) c r (ap (λ (x : OpenClaim). x.reserved) here ∙ is) in
          ap (λ page. length (after.payloads page r.version.seq.0)) (sym (ap (λ (x : OpenClaim). x.page) here) ∙ m.3)
          ∙ ap (λ n. length (after.payloads c.page n)) (sym m.2) ∙ was claim c m.0 before m.1
  ended die flight outcome claim entry r found is = was claim entry r found is

payload_sized : (w : World) (claim : ℕ) (payload : List ℕ) → (claim_open w.core claim && not (is_reserved w.core claim) && is_sized w.core payload) ≡ true
    → length payload ≡ size_of w
payload_sized w claim payload may =
    eqb-true (length payload) w.core.page_map.geometry.page_bytes
    (and_parts (claim_open w.core claim && not (is_reserved w.core claim)) (is_sized w.core payload) may).1

after_sized : (same : GeometryLaw) (w : World) → AreSized w → (act : Act) (after : World) → HappensEvent w act after → (claim : ℕ) (entry : OpenClaim)
    (r : Reservation) → get (claims_after w.core act) claim ≡ Some entry → entry.reserved ≡ Some r
    → length (after.payloads entry.page r.version.seq.0) ≡ size_of w
after_sized same w k (Claim page (Ok id)) after e = put_in same w k (Claim page (Ok id)) after e id.0 page None (none_put same w k (Claim page (Ok id)) after e page)
after_sized same w k (Release c) after e = λ claim entry r found is.
    was same w k (Release c) after e claim entry r (get-remove_some w.core.claims c claim entry found).0 is
after_sized same w k (Reserve c payload (Ok seq)) after e =
    put_in same w k (Reserve c payload (Ok seq)) after e c (claimed_page w.core c) (Some (reservation_for w.core c DataKind))
    (just_now same w k (Reserve c payload (Ok seq)) after e c payload seq (reservation_for w.core c DataKind) e.step.does.1 refl
    (ap (λ (v : World). v.payloads (claimed_page w.core c) seq.0) e.follows ∙ value_same (claimed_page w.core c) seq.0 payload w.payloads)
    (payload_sized w c payload e.step.allows))
after_sized same w k (ReserveFewer c payload (Ok seq)) after e =
    put_in same w k (ReserveFewer c payload (Ok seq)) after e c (claimed_page w.core c) (Some (reservation_for w.core c DataKind))
    (just_now same w k (ReserveFewer c payload (Ok seq)) after e c payload seq (reservation_for w.core c DataKind) e.step.does.1 refl
    (ap (λ (v : World). v.payloads (claimed_page w.core c) seq.0) e.follows ∙ value_same (claimed_page w.core c) seq.0 payload w.payloads)
    (payload_sized w c payload e.step.allows))
after_sized same w k (ReserveHole c (Ok seq)) after e =
    put_in same w k (ReserveHole c (Ok seq)) after e c (claimed_page w.core c) (Some (reservation_for w.core c HoleKind))
    (just_now same w k (ReserveHole c (Ok seq)) after e c (zeros w.core.page_map) seq (reservation_for w.core c HoleKind) e.step.does.1 refl
    (ap (λ (v : World). v.payloads (claimed_page w.core c) seq.0) e.follows ∙ value_same (claimed_page w.core c) seq.0 (zeros w.core.page_map) w.payloads)
    (length-replicate w.core.page_map.geometry.page_bytes 0))
after_sized same w k (Commit c seat (Ok seq)) after e =
    put_in same w k (Commit c seat (Ok seq)) after e c (claimed_page w.core c) None (none_put same w k (Commit c seat (Ok seq)) after e (claimed_page w.core c))
after_sized same w k (Abandon c (Ok made)) after e =
    put_in same w k (Abandon c (Ok made)) after e c (claimed_page w.core c) None (none_put same w k (Abandon c (Ok made)) after e (claimed_page w.core c))
after_sized same w k (Done die outcome) after e = ended same w k (Done die outcome) after e die (get w.core.jobs die) outcome
after_sized same w k act after e = was same w k act after e

-- the bytes of a Commit are those that were reserved
committed_long : (w : World) → AreSized w → (claim seat : ℕ) (seq : Seq) (new : Core) (o : Option OpenClaim) → get w.core.claims claim ≡ o
    → (r : Option Reservation) → option_and_then {T = OpenClaim} (λ c. c.reserved) o ≡ r → Commits w.core claim seat r (Ok seq) new
    → length (w.payloads (claimed_page w.core claim) seq.0) ≡ size_of w
committed_long w k claim seat seq new o found None is d = absurd d
committed_long w k claim seat seq new None found (Some r) is d = absurd (none-some r is)
committed_long w k claim seat seq new (Some entry) found (Some r) is d =
    (λ i. length (w.payloads (page_by w.core claim entry found i) (d.1 i).0)) ∙ k.reserved claim entry r found is

plain_sized : (w : World) → AreSized w → (act : Act) (after : World) → HappensEvent w act after → HasPages (size_of w) after.plain
plain_sized w k (Commit claim seat (Ok seq)) after e =
    subst (HasPages (size_of w)) (sym (plain_changes w after (Event (Commit claim seat (Ok seq))) e))
    (put_sized (size_of w) w.plain k.pages (claimed_page w.core claim) (w.payloads (claimed_page w.core claim) seq.0)
    (committed_long w k claim seat seq after.core (get w.core.claims claim) refl (reserved_under w.core claim) refl e.step.does))
plain_sized w k (Commit claim seat (Err refused)) after e =
    subst (HasPages (size_of w)) (sym (happens_plain w after (Event (Commit claim seat (Err refused))) tt e)) k.pages
plain_sized w k act after e = subst (HasPages (size_of w)) (sym (happens_plain w after (Event act) tt e)) k.pages

event_sized : GeometryLaw → (w : World) → AreSized w → (act : Act) (after : World) → HappensEvent w act after → AreSized after
event_sized same w k act after e =
    let geometry = ap (λ (g : Geometry). g.page_bytes) (sym (same w.core after.core act e.step)) in
    record {
      holds = happens_holds w (Event act) after k.holds e;
      pages = subst (λ n. HasPages n after.plain) geometry (plain_sized w k act after e);
      reserved = λ claim entry r found is.
          after_sized same w k act after e claim entry r (ap (λ claims. get claims claim) (sym (claims_are w.core act after.core e.step.does)) ∙ found) is ∙ geometry;
    }

call_sized : (w after : World) (die : ℕ) (work : Option Work) (gave : Gave) → HappensCall w die work gave after → Holds after → AreSized w → AreSized after
call_sized w after die None gave c h k = absurd c
call_sized w after die (Some work) gave c h k = next_sized (next_call die work.job work.gave) c
  where
    next_sized : (call : Option JobCall) → CallsNext w die (Some work) call gave after → AreSized after
    next_sized None c = absurd c
    next_sized (Some call) c = record {
      holds = h;
      pages = subst (λ (v : World). HasPages v.core.page_map.geometry.page_bytes v.plain) (sym c.2) k.pages;
      reserved = subst (λ (v : World). (claim : ℕ) (entry : OpenClaim) (r : Reservation) → get v.core.claims claim ≡ Some entry → entry.reserved ≡ Some r
          → length (v.payloads entry.page r.version.seq.0) ≡ v.core.page_map.geometry.page_bytes) (sym c.2) k.reserved;
    }

happens_sized : GeometryLaw → (before : World) (happening : Happening) (after : World) → AreSized before → Happens before happening after → AreSized after
happens_sized same before (Event act) after k happens = event_sized same before k act after happens
happens_sized same before (ImageCall die gave) after k happens =
    call_sized before after die (before.works die) gave happens (happens_holds before (ImageCall die gave) after k.holds happens) k

pub reached_sized : GeometryLaw → (w : World) → IsReached w → HasPages w.core.page_map.geometry.page_bytes w.plain
reached_sized same w r =
    (run_keeps AreSized (happens_sized same) r.first r.happenings w (record {
      holds = beginning_holds r.first r.beginning;
      pages = r.beginning.pages.1;
      reserved = λ claim entry reservation found is.
          absurd (none-some entry (sym (ap (λ (core : Core). get core.claims claim) r.beginning.fresh ∙ get-empty nat_cmp claim) ∙ found));
    }) r.run).pages

-- a page has a byte or more
pub page_some : (g : Geometry) → 1 ≤ g.page_bytes
page_some g =
    elim (or_cases (g.page_bytes == 512 || g.page_bytes == 1024 || g.page_bytes == 2048) (g.page_bytes == 4096) g.within.page_fits) [
      | inr last ↦ let n = eqb-true g.page_bytes 4096 last in omega (arith, n)
      | inl three ↦ elim (or_cases (g.page_bytes == 512 || g.page_bytes == 1024) (g.page_bytes == 2048) three) [
        | inr third ↦ let n = eqb-true g.page_bytes 2048 third in omega (arith, n)
        | inl two ↦ elim (or_cases (g.page_bytes == 512) (g.page_bytes == 1024) two) [
          | inr second ↦ let n = eqb-true g.page_bytes 1024 second in omega (arith, n)
          | inl one ↦ let n = eqb-true g.page_bytes 512 one in omega (arith, n)
        ]
      ]
    ]
