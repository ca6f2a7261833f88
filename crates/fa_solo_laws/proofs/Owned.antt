-- A claim that is the request's, with nothing reserved under it, while others leave it alone.
use Rattle.fa_solo_job.proofs.Changes.{Claims, claims_after, claims_are, with_marked}
use Rattle.fa_solo_laws.specs.Claimed.{KeepsClaim}
use Rattle.fa_solo_laws.specs.Asked.{LeavesClaim}
use Rattle.fa_laws.proofs.Ranged.{calls_core}
use Rattle.fa_machine.proofs.Maps.{get-change, get-insert_other, get-insert_same, get-remove_other, nat_same}
use Rattle.fa_machine.specs.Cells.{DidProgram, Outcome}
use Rattle.fa_machine.specs.Run.{Event, Happening, Happens, ImageCall}
use Rattle.fa_machine.specs.State.{Core, OpenClaim, Reservation}
use Rattle.fa_machine.specs.Step.{Abandon, Act, Claim, Commit, Does, Done, Release, Reserve, ReserveFewer, ReserveHole}
use Rattle.fa_machine.specs.Taking.{mark, mark_claim}
use Rattle.fa_machine.specs.World.{World}
use Rattle.fa_machine.specs.Writing.{claimed_page}
use Rattle.fa_machine.specs.declared.jobs.Flight.{Flight}
use Rattle.fa_machine.specs.declared.jobs.Flight.TheVariants.{Program}
use Rattle.std.proofs.Common.{Bool, None, Option, Some, ap, false, map, refl, subst, sym, true, ℕ, ◌∙◌, ◌≡◌}
use Rattle.std.proofs.lemmas.Bool.{false≢true}
use Rattle.std.specs.Cmp.{nat_cmp_total}
use Rattle.std.specs.FinMap.{contains_key, get, insert}
use Rattle.std.specs.Prelude.{Err, Ok, if◌then◌else◌, is_some, option_map, unwrap_or, ◌==◌}

pub record IsOwned (claim page : ℕ) (claims : Claims) : Type 0 where
  pub entry : OpenClaim
  pub found : get claims claim ≡ Some entry
  pub on_page : entry.page ≡ page
  pub free : entry.reserved ≡ None

pub owned_page : (claim page : ℕ) (core : Core) → IsOwned claim page core.claims → claimed_page core claim ≡ page
owned_page claim page core k = ap (λ (o : Option OpenClaim). unwrap_or (option_map {T = OpenClaim} (λ c. c.page) o) 0) k.found ∙ k.on_page

pub keeps_claim : (claim : ℕ) (happening : Happening) → LeavesClaim claim happening → KeepsClaim claim happening
keeps_claim claim (Event (Release c)) leaves = leaves
keeps_claim claim (Event (Commit c seat (Ok seq))) leaves = leaves
keeps_claim claim (Event (Commit c seat (Err refused))) leaves = tt
keeps_claim claim (Event (Abandon c (Ok made))) leaves = leaves
keeps_claim claim (Event (Abandon c (Err refused))) leaves = tt
keeps_claim claim happening leaves = tt

module _ (claim page : ℕ) where
  abbrev Own : Claims → Type 0
  Own claims = IsOwned claim page claims

  other_own : (claims : Claims) → Own claims → (c : ℕ) (entry : OpenClaim) → (c ≡ claim → ⊥) → Own (insert claims c entry)
  other_own claims k c entry apart = record {
    entry = k.entry;
    found = get-insert_other claims c entry claim (λ same. apart (sym same)) ∙ k.found;
    on_page = k.on_page;
    free = k.free;
  }

  not_new : (core : Core) → Own core.claims → (c : ℕ) → contains_key core.claims c ≡ false → c ≡ claim → ⊥
  not_new core k c fresh same = false≢true (sym fresh ∙ ap is_some (ap (get core.claims) same ∙ k.found))

  marked_own : (entry : OpenClaim) → entry.page ≡ page → entry.reserved ≡ None → (die slot : ℕ) (b : Bool)
      → ((if b then mark_claim die slot entry else entry).page ≡ page) × ((if b then mark_claim die slot entry else entry).reserved ≡ None)
  marked_own entry on free die slot true =
      (on, ap (option_map {T = Reservation} (λ r. record r { targets = map (mark die slot) r.targets })) free)
  marked_own entry on free die slot false = (on, free)

  ended_own : (claims : Claims) → Own claims → (die : ℕ) (flight : Option Flight) (outcome : Outcome) → Own (with_marked die flight outcome claims)
  ended_own claims k die (Some (Program p version slot)) DidProgram =
      let change_of : ℕ → OpenClaim → OpenClaim = λ id c. if c.page == p.0 then mark_claim die slot.0 c else c in
      let now = marked_own k.entry k.on_page k.free die slot.0 (k.entry.page == p.0) in
      record {
        entry = change_of claim k.entry;
        found = get-change nat_cmp_total nat_same change_of claims claim ∙ ap (option_map (change_of claim)) k.found;
        on_page = now.0;
        free = now.1;
      }
  ended_own claims k die flight outcome = k

  after_own : (core : Core) → Own core.claims → (act : Act) (new : Core) → Does core act new → LeavesClaim claim (Event act) → Own (claims_after core act)
  after_own core k (Claim p (Ok id)) new d leaves = other_own core.claims k id.0 _ (not_new core k id.0 d.1)
  after_own core k (Claim p (Err refused)) new d leaves = k
  after_own core k (Release c) new d leaves = record {
    entry = k.entry;
    found = get-remove_other core.claims c claim (λ same. leaves (sym same)) ∙ k.found;
    on_page = k.on_page;
    free = k.free;
  }
  after_own core k (Reserve c payload (Ok seq)) new d leaves = other_own core.claims k c _ leaves
  after_own core k (Reserve c payload (Err refused)) new d leaves = k
  after_own core k (ReserveHole c (Ok seq)) new d leaves = other_own core.claims k c _ leaves
  after_own core k (ReserveHole c (Err refused)) new d leaves = k
  after_own core k (ReserveFewer c payload (Ok seq)) new d leaves = other_own core.claims k c _ leaves
  after_own core k (ReserveFewer c payload (Err refused)) new d leaves = k
  after_own core k (Commit c seat (Ok seq)) new d leaves = other_own core.claims k c _ leaves
  after_own core k (Commit c seat (Err refused)) new d leaves = k
  after_own core k (Abandon c (Ok made)) new d leaves = other_own core.claims k c _ leaves
  after_own core k (Abandon c (Err refused)) new d leaves = k
  after_own core k (Done die outcome) new d leaves = ended_own core.claims k die (get core.jobs die) outcome
  after_own core k act new d leaves = k

  pub owned_on : (w after : World) (happening : Happening) → Own w.core.claims → Happens w happening after → LeavesClaim claim happening
      → Own after.core.claims
  owned_on w after (Event act) k happens leaves =
      subst Own (sym (claims_are w.core act after.core happens.step.does)) (after_own w.core k act after.core happens.step.does leaves)
  owned_on w after (ImageCall die gave) k happens leaves =
      subst (λ (c : Core). Own c.claims) (sym (calls_core w after die (w.works die) gave happens)) k

  -- events of the request that leave the claims as they are
  pub owned_same : (w after : World) (act : Act) → Own w.core.claims → Does w.core act after.core → claims_after w.core act ≡ w.core.claims
      → Own after.core.claims
  owned_same w after act k d same = subst Own (sym (claims_are w.core act after.core d ∙ same)) k

-- a claim that was just made
pub claimed_now : (core new : Core) (page : ℕ) (id : ℕ) → new.claims ≡ insert core.claims id (record { page = page; reserved = None })
    → IsOwned id page new.claims
claimed_now core new page id is = subst (IsOwned id page) (sym is) (record {
  entry = record { page = page; reserved = None };
  found = get-insert_same core.claims id (record { page = page; reserved = None });
  on_page = refl;
  free = refl;
})
