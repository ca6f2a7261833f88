-- What is reserved under a claim stays so until it is committed or given up, and is what is written then.
use Rattle.fa_solo_job.proofs.Changes.{Claims, claims_after, claims_are, with_marked, with_reservation}
use Rattle.fa_solo_laws.specs.Claimed.{KeepsClaim}
use Rattle.fa_laws.proofs.Claiming.{value_other, value_same}
use Rattle.fa_laws.proofs.Endings.{HappensCall}
use Rattle.fa_machine.proofs.Maps.{get-change, get-insert_other, get-insert_same, get-remove_other, nat_same}
use Rattle.fa_machine.specs.Cells.{DidProgram, DidRead, Outcome}
use Rattle.fa_machine.specs.Conditions.{claim_open, is_reserved, reserved_under}
use Rattle.fa_machine.specs.Run.{CallsNext, Event, Happening, HappensEvent, ImageCall, Run}
use Rattle.fa_machine.specs.State.{Core, OpenClaim, Reservation}
use Rattle.fa_machine.specs.Step.{Abandon, Act, Admit, Claim, Commit, Does, Done, Release, Reserve, ReserveFewer, ReserveHole, Step, Take}
use Rattle.fa_machine.specs.Step.{allowed, is_sized}
use Rattle.fa_machine.specs.Taking.{mark, mark_claim}
use Rattle.fa_machine.specs.World.{Gave, JobCall, Work, World, followed, next_call, with_due, with_end, with_payload, with_told, with_value_at}
use Rattle.fa_machine.specs.Writing.{Commits, claimed_page}
use Rattle.fa_machine.specs.declared.jobs.Flight.{Flight}
use Rattle.fa_machine.specs.declared.jobs.Flight.TheVariants.{Erase, Header, Move, Program, Read, Sync}
use Rattle.fa_types.specs.Plain.{put}
use Rattle.fa_types.specs.declared.numbers.Seq.{Seq}
use Rattle.std.proofs.Common.{Bool, List, None, Option, Some, [], ap, arith, false, map, not, refl, subst, sym, true, ℕ, ◌+◌, ◌∙◌, ◌∷◌, ◌≡◌, ◌≤◌}
use Rattle.std.proofs.lemmas.Bool.{and_parts, false≢true, not-true}
use Rattle.std.proofs.lemmas.Option.{same_Some}
use Rattle.std.specs.Cmp.{nat_cmp_total}
use Rattle.std.specs.FinMap.{contains_key, get, insert}
use Rattle.std.specs.List.{AllByRecursion}
use Rattle.std.specs.Prelude.{Err, Ok, if◌then◌else◌, is_some, option_and_then, option_map, unwrap_or, ◌&&◌, ◌==◌}

-- a claim of this page, under which this number is reserved
pub record IsFor (page : ℕ) (seq : Seq) (entry : OpenClaim) : Type 0 where
  pub reservation : Reservation
  pub on_page : entry.page ≡ page
  pub reserved : entry.reserved ≡ Some reservation
  pub numbered : reservation.version.seq ≡ seq

pub record IsUnder (claim page : ℕ) (seq : Seq) (claims : Claims) : Type 0 where
  pub entry : OpenClaim
  pub found : get claims claim ≡ Some entry
  pub is_for : IsFor page seq entry

with_due_payloads : (die : ℕ) (flight : Flight) (w : World) → (with_due die flight w).payloads ≡ w.payloads
with_due_payloads die (Read batch page version slot) w = refl
with_due_payloads die (Header epoch live) w = refl
with_due_payloads die (Move page version from to) w = refl
with_due_payloads die (Erase block) w = refl
with_due_payloads die (Program page version slot) w = refl
with_due_payloads die (Sync flushes) w = refl

ended_payloads : (die : ℕ) (flight : Option Flight) (outcome : Outcome) (w : World) → (with_end die flight outcome w).payloads ≡ w.payloads
ended_payloads die None outcome w = refl
ended_payloads die (Some flight) outcome w = end_payloads flight outcome
  where
    told_payloads : (batch page seq : ℕ) (o : Option (List ℕ)) → (with_told die batch page seq o w).payloads ≡ w.payloads
    told_payloads batch page seq None = refl
    told_payloads batch page seq (Some bytes) = refl

    end_payloads : (flight : Flight) (outcome : Outcome) → (with_end die (Some flight) outcome w).payloads ≡ w.payloads
    end_payloads (Read batch page version slot) (DidRead cell) = told_payloads batch.0 page.0 version.seq.0 _
    end_payloads flight outcome = refl

-- a later number is given to other bytes
given_payload : (w : World) (claim given : ℕ) (payload : List ℕ) (page seq : ℕ) → given ≡ w.core.last + 1 → seq ≤ w.core.last
    → (with_payload claim given payload w).payloads page seq ≡ w.payloads page seq
given_payload w claim given payload page seq is low =
    value_other (claimed_page w.core claim) given payload w.payloads page seq (λ e f. absurd (omega (arith, f, is, low)))

pub kept_payload : (w : World) (act : Act) (new : Core) → Does w.core act new → (page seq : ℕ) → seq ≤ w.core.last
    → (followed act w).payloads page seq ≡ w.payloads page seq
kept_payload w (Reserve claim payload (Ok given)) new d page seq low = given_payload w claim given.0 payload page seq d.1 low
kept_payload w (Reserve claim payload (Err refused)) new d page seq low = refl
kept_payload w (ReserveHole claim (Ok given)) new d page seq low = given_payload w claim given.0 _ page seq d.1 low
kept_payload w (ReserveHole claim (Err refused)) new d page seq low = refl
kept_payload w (ReserveFewer claim payload (Ok given)) new d page seq low = given_payload w claim given.0 payload page seq d.1 low
kept_payload w (ReserveFewer claim payload (Err refused)) new d page seq low = refl
kept_payload w (Commit claim seat (Ok given)) new d page seq low = refl
kept_payload w (Commit claim seat (Err refused)) new d page seq low = refl
kept_payload w (Admit pages (Ok admitted)) new d page seq low = refl
kept_payload w (Admit pages (Err refused)) new d page seq low = refl
kept_payload w (Take die seat None) new d page seq low = refl
kept_payload w (Take die seat (Some job)) new d page seq low =
    ap (λ (f : ℕ → ℕ → List ℕ). f page seq) (with_due_payloads die job.flight w)
kept_payload w (Done die outcome) new d page seq low =
    ap (λ (f : ℕ → ℕ → List ℕ). f page seq) (ended_payloads die (get w.core.jobs die) outcome w)
kept_payload w act new d page seq low = refl

marked_for : (page : ℕ) (seq : Seq) (entry : OpenClaim) → IsFor page seq entry → (die slot : ℕ) (b : Bool)
    → IsFor page seq (if b then mark_claim die slot entry else entry)
marked_for page seq entry k die slot false = k
marked_for page seq entry k die slot true = record {
  reservation = record (k.reservation) { targets = map (mark die slot) k.reservation.targets };
  on_page = k.on_page;
  reserved = ap (option_map {T = Reservation} (λ r. record r { targets = map (mark die slot) r.targets })) k.reserved;
  numbered = k.numbered;
}

module _ (claim page : ℕ) (seq : Seq) where
  abbrev Under : Claims → Type 0
  Under claims = IsUnder claim page seq claims

  other_under : (claims : Claims) → Under claims → (c : ℕ) (entry : OpenClaim) → (c ≡ claim → ⊥) → Under (insert claims c entry)
  other_under claims k c entry apart = record {
    entry = k.entry;
    found = get-insert_other claims c entry claim (λ same. apart (sym same)) ∙ k.found;
    is_for = k.is_for;
  }

  -- a claim under which nothing is reserved is another
  not_free : (core : Core) → Under core.claims → (c : ℕ) → not (is_reserved core c) ≡ true → c ≡ claim → ⊥
  not_free core k c free same =
      false≢true (sym (not-true (is_reserved core c) free)
      ∙ ap is_some (ap (λ (n : ℕ). reserved_under core n) same
      ∙ ap (option_and_then {T = OpenClaim} (λ e. e.reserved)) k.found
      ∙ k.is_for.reserved))

  not_new : (core : Core) → Under core.claims → (c : ℕ) → contains_key core.claims c ≡ false → c ≡ claim → ⊥
  not_new core k c fresh same = false≢true (sym fresh ∙ ap is_some (ap (get core.claims) same ∙ k.found))

  ended_under : (claims : Claims) → Under claims → (die : ℕ) (flight : Option Flight) (outcome : Outcome) → Under (with_marked die flight outcome claims)
  ended_under claims k die (Some (Program p version slot)) DidProgram =
      let change_of : ℕ → OpenClaim → OpenClaim = λ id c. if c.page == p.0 then mark_claim die slot.0 c else c in
      record {
        entry = change_of claim k.entry;
        found = get-change nat_cmp_total nat_same change_of claims claim ∙ ap (option_map (change_of claim)) k.found;
        is_for = marked_for page seq k.entry k.is_for die slot.0 (k.entry.page == p.0);
      }
  ended_under claims k die flight outcome = k

  after_under : (core : Core) → Under core.claims → (act : Act) (new : Core) → allowed core act ≡ true → Does core act new
      → KeepsClaim claim (Event act) → Under (claims_after core act)
  after_under core k (Claim p (Ok id)) new may d keeps = other_under core.claims k id.0 _ (not_new core k id.0 d.1)
  after_under core k (Claim p (Err refused)) new may d keeps = k
  after_under core k (Release c) new may d keeps = record {
    entry = k.entry;
    found = get-remove_other core.claims c claim (λ same. keeps (sym same)) ∙ k.found;
    is_for = k.is_for;
  }
  after_under core k (Reserve c payload (Ok given)) new may d keeps =
      other_under core.claims k c _
      (not_free core k c (and_parts (claim_open core c) _ (and_parts (claim_open core c && not (is_reserved core c)) (is_sized core payload) may).0).1)
  after_under core k (Reserve c payload (Err refused)) new may d keeps = k
  after_under core k (ReserveHole c (Ok given)) new may d keeps =
      other_under core.claims k c _ (not_free core k c (and_parts (claim_open core c) (not (is_reserved core c)) may).1)
  after_under core k (ReserveHole c (Err refused)) new may d keeps = k
  after_under core k (ReserveFewer c payload (Ok given)) new may d keeps =
      other_under core.claims k c _
      (not_free core k c (and_parts (claim_open core c) _ (and_parts (claim_open core c && not (is_reserved core c)) (is_sized core payload) may).0).1)
  after_under core k (ReserveFewer c payload (Err refused)) new may d keeps = k
  after_under core k (Commit c seat (Ok given)) new may d keeps = other_under core.claims k c _ keeps
  after_under core k (Commit c seat (Err refused)) new may d keeps = k
  after_under core k (Abandon c (Ok made)) new may d keeps = other_under core.claims k c _ keeps
  after_under core k (Abandon c (Err refused)) new may d keeps = k
  after_under core k (Done die outcome) new may d keeps = ended_under core.claims k die (get core.jobs die) outcome
  after_under core k act new may d keeps = k

-- these bytes were reserved under the claim for this page, with this number
pub record IsReservedFor (claim page : ℕ) (seq : Seq) (payload : List ℕ) (w : World) : Type 0 where
  pub low : seq.0 ≤ w.core.last
  pub bytes : w.payloads page seq.0 ≡ payload
  pub under : IsUnder claim page seq w.core.claims

module _ (falls : (old new : Core) (act : Act) → Step old act new → old.last ≤ new.last) (claim page : ℕ) (seq : Seq) (payload : List ℕ) where
  event_reserved : (w : World) (act : Act) (after : World) → IsReservedFor claim page seq payload w → HappensEvent w act after
      → KeepsClaim claim (Event act) → IsReservedFor claim page seq payload after
  event_reserved w act after k happens keeps = record {
    low = let rise = falls w.core after.core act happens.step in let n = k.low in omega (arith, rise, n);
    bytes = ap (λ (v : World). v.payloads page seq.0) happens.follows ∙ kept_payload w act after.core happens.step.does page seq.0 k.low ∙ k.bytes;
    under = subst (IsUnder claim page seq) (sym (claims_are w.core act after.core happens.step.does))
        (after_under claim page seq w.core k.under act after.core happens.step.allows happens.step.does keeps);
  }

  call_reserved : (w after : World) (die : ℕ) (work : Option Work) (gave : Gave) → HappensCall w die work gave after
      → IsReservedFor claim page seq payload w → IsReservedFor claim page seq payload after
  call_reserved w after die None gave c k = absurd c
  call_reserved w after die (Some work) gave c k = next_reserved (next_call die work.job work.gave) c
    where
      next_reserved : (call : Option JobCall) → CallsNext w die (Some work) call gave after → IsReservedFor claim page seq payload after
      next_reserved None c = absurd c
      next_reserved (Some call) c =
          subst (IsReservedFor claim page seq payload) (sym c.2) (record { low = k.low; bytes = k.bytes; under = k.under })

  pub run_reserved : (w : World) (happenings : List Happening) (last : World) → IsReservedFor claim page seq payload w → Run w happenings last
      → AllByRecursion (KeepsClaim claim) happenings → IsReservedFor claim page seq payload last
  run_reserved w [] last k run keeps = subst (IsReservedFor claim page seq payload) (sym run) k
  run_reserved w (Event act ∷ happenings) last k run keeps =
      run_reserved run.0 happenings last (event_reserved w act run.0 k run.1 keeps.0) run.2 keeps.1
  run_reserved w (ImageCall die gave ∷ happenings) last k run keeps =
      run_reserved run.0 happenings last (call_reserved w run.0 die (w.works die) gave run.1 k) run.2 keeps.1

  committed_number : (core new : Core) (seat : ℕ) (given : Seq) (r : Option Reservation) (s : Reservation) → r ≡ Some s
      → Commits core claim seat r (Ok given) new → given ≡ s.version.seq
  committed_number core new seat given None s is d = absurd d
  committed_number core new seat given (Some r) s is d = d.1 ∙ ap (λ (x : Reservation). x.version.seq) (same_Some r s is)

  pub commit_writes : (last after : World) (seat : ℕ) (given : Seq) → IsReservedFor claim page seq payload last
      → HappensEvent last (Commit claim seat (Ok given)) after → (given ≡ seq) × (after.plain ≡ put page payload last.plain)
  commit_writes last after seat given k commits =
      let under = k.under in
      let reserved : reserved_under last.core claim ≡ Some under.is_for.reservation =
      ap (option_and_then {T = OpenClaim} (λ e. e.reserved)) under.found ∙ under.is_for.reserved in
      let number = committed_number last.core after.core seat given (reserved_under last.core claim) under.is_for.reservation reserved commits.step.does
      ∙ under.is_for.numbered in
      let here : claimed_page last.core claim ≡ page =
      ap (λ (o : Option OpenClaim). unwrap_or (option_map {T = OpenClaim} (λ c. c.page) o) 0) under.found ∙ under.is_for.on_page in (
        number,
        ap (λ (v : World). v.plain) commits.follows
            ∙ (λ i. put (here i) (last.payloads (here i) (number i).0) last.plain)
            ∙ ap (λ (bytes : List ℕ). put page bytes last.plain) k.bytes,
      )

-- the number and the bytes of a write as it was reserved
pub reserved_now : (w after : World) (claim : ℕ) (seq : Seq) (payload : List ℕ) (r : Reservation) → seq.0 ≡ w.core.last + 1
    → r.version.seq.0 ≡ w.core.last + 1 → after.core.last ≡ w.core.last + 1
    → after.core.claims ≡ with_reservation w.core claim (Some r)
    → after.payloads ≡ with_value_at (claimed_page w.core claim) seq.0 payload w.payloads
    → IsReservedFor claim (claimed_page w.core claim) seq payload after
reserved_now w after claim seq payload r is numbered last claims payloads = record {
  low = omega (arith, is, last);
  bytes = ap (λ (f : ℕ → ℕ → List ℕ). f (claimed_page w.core claim) seq.0) payloads ∙ value_same (claimed_page w.core claim) seq.0 payload w.payloads;
  under = subst (IsUnder claim (claimed_page w.core claim) seq) (sym claims) (record {
    entry = record { page = claimed_page w.core claim; reserved = Some r };
    found = get-insert_same w.core.claims claim (record { page = claimed_page w.core claim; reserved = Some r });
    is_for = record { reservation = r; on_page = refl; reserved = refl; numbered = λ i. record { 0 = (numbered ∙ sym is) i } };
  });
}
