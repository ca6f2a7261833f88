-- What Take, Done and SpareIn leave of what is reserved, held and to be programmed; and so each event.
use Rattle.fa_crash.proofs.Following.{abandon_follows, claim_follows, copied_follows, copying_follows, commit_follows, kept_held, release_follows, reserve_follows, tag_of}
use Rattle.fa_crash.proofs.Trusted.{Follows, Trusted, WasOwned, WasTarget, held_same, quiet, was_same}
use Rattle.fa_laws.proofs.Handing.{holds_held}
use Rattle.fa_machine.proofs.Lists.{among-filter, among-map, among-without, cut_first}
use Rattle.fa_machine.proofs.Maps.{get-change, get-place_other, get-place_same, nat_same}
use Rattle.fa_machine.proofs.Takes.{IsOther, IsUrgent, take_cases}
use Rattle.fa_machine.specs.Among.{Among}
use Rattle.fa_machine.specs.Cells.{DidErase, DidMove, DidProgram, DidRead, DidSync, DidWriteHeader, Fault, Outcome, Wrong, payload_of}
use Rattle.fa_machine.specs.Conditions.{drop_die, reserved_under}
use Rattle.fa_machine.specs.Copies.{holds_last, is_current}
use Rattle.fa_machine.specs.Maps.{change, place_cmp}
use Rattle.fa_machine.specs.Placement.{copy_place}
use Rattle.fa_machine.specs.State.{Core, OpenBatch, OpenClaim, Reservation, WaitingProgram, is_live, used_at}
use Rattle.fa_machine.specs.Step.{Abandon, Act, Admit, Advance, Claim, Commit, CommitCopy, Does, Done, EndBatch, FlushBegin}
use Rattle.fa_machine.specs.Step.{FlushState, Fold, Release, Replan, Reserve, ReserveCopy, ReserveFewer, ReserveHole, SpareIn, Take}
use Rattle.fa_machine.specs.Step.{Window}
use Rattle.fa_machine.specs.Taking.{EndsJob, Handed, Takes, begins, begun, erase_ends, finished, is_for, mark, mark_claim, move_ends, program_ends}
use Rattle.fa_machine.specs.Taking.{read_ends, stays, with_answer, without_stale_booking}
use Rattle.fa_machine.specs.declared.jobs.Flight.{Flight}
use Rattle.fa_machine.specs.declared.jobs.Flight.TheVariants.{Erase, Header, Move, Program, Read, Sync}
use Rattle.fa_machine.specs.declared.places.Copying.{Copying}
use Rattle.fa_machine.specs.declared.places.Target.{Target}
use Rattle.fa_machine.specs.declared.places.Used.{Used}
use Rattle.fa_machine.specs.declared.places.Used.TheVariants.{Held, Reserved, Stale}
use Rattle.fa_machine.specs.declared.places.Version.{Version}
use Rattle.fa_machine.specs.declared.refusals.ClaimRefused.TheVariants.{Claimed, NoMemory as ClaimNoMemory}
use Rattle.fa_machine.specs.declared.refusals.FlushRefused.TheVariants.{Spent}
use Rattle.fa_machine.specs.declared.refusals.SpareRefused.TheVariants.{NotSpare}
use Rattle.fa_machine.specs.declared.refusals.WindowRefused.TheVariants.{Busy as WindowBusy, HasOne, NoMemory as WindowNoMemory}
use Rattle.fa_sound.proofs.Changing.{held≢stale, reserved≢held}
use Rattle.fa_sound.specs.Owners.{Owned, owned_claim, owned_of}
use Rattle.fa_types.specs.declared.numbers.Page.{Page}
use Rattle.fa_types.specs.declared.numbers.Slot.{Slot}
use Rattle.std.proofs.Common.{Bool, List, None, Option, Some, [], ap, eqb-true, false, inl, inr, map, not, refl, subst, sym, true, ℕ, ◌∙◌, ◌∷◌, ◌≡◌, ◌⊎◌}
use Rattle.std.proofs.lemmas.Bool.{and_parts, cases_eq, false≢true}
use Rattle.std.proofs.lemmas.Option.{none-some, same_Some}
use Rattle.std.specs.Cmp.{nat_cmp_total}
use Rattle.std.specs.FinMap.{FinMap, get, insert, remove}
use Rattle.std.specs.Prelude.{Err, Ok, if◌then◌else◌, option_and_then, option_map, ◌&&◌, ◌==◌}

module _ (core : Core) (act : Act) (die : ℕ) where
  -- a die takes a job
  urgent_follows : (seat : ℕ) (flight : Flight) → IsUrgent core die flight → Follows core act (begun die seat flight core)
  urgent_follows seat (Header epoch live) u = quiet core act
  urgent_follows seat (Erase block) u = quiet core act
  urgent_follows seat (Read batch page version slot) u = quiet core act
  urgent_follows seat (Program page version slot) u = absurd u
  urgent_follows seat (Sync flushes) u = absurd u
  urgent_follows seat (Move page version from to) u = record {
    owned = λ q x e. inl (was_same core act q x e);
    held = λ d k p v e. held_same core act d k p v (was_held d k p v e);
    waits = λ p i. inl i;
  }
    where
      was_held : (d k : ℕ) (p : Page) (v : Version) → get (insert core.page_map.used (die, to.0) Reserved) (d, k) ≡ Some (Held p v)
          → get core.page_map.used (d, k) ≡ Some (Held p v)
      was_held d k p v e =
          elim (cases_eq d die) [
            | inr apart ↦ sym (get-place_other core.page_map.used die to.0 Reserved d k (λ a b. apart a)) ∙ e
            | inl same ↦ elim (cases_eq k to.0) [
              | inr apart ↦ sym (get-place_other core.page_map.used die to.0 Reserved d k (λ a b. apart b)) ∙ e
              | inl here ↦ absurd (reserved≢held _ p v (get-place_same core.page_map.used die to.0 Reserved)
                  ((λ i. get (insert core.page_map.used (die, to.0) Reserved) (sym same i, sym here i)) ∙ e))
            ]
          ]

  other_follows : (seat : ℕ) (job : Option Handed) → IsOther (without_stale_booking die core) die job
      → Follows core act (begins die seat (without_stale_booking die core) job).1
  other_follows seat None u = quiet core act
  other_follows seat (Some job) u =
      elim u [
        | inl p ↦ subst (λ (j : Handed). Follows core act (begins die seat (without_stale_booking die core) (Some j)).1) (sym p.2) (record {
          owned = λ q x e. inl (was_same core act q x e);
          held = held_same core act;
          waits = λ w among. inl (among-without (is_for die) w core.waiting (subst (Among w) (cut_first (is_for die) core.waiting) among));
        })
        | inr f ↦ subst (λ (j : Handed). Follows core act (begins die seat (without_stale_booking die core) (Some j)).1) (sym f.1) (quiet core act)
      ]

  take_follows : (seat : ℕ) (answer : Option Handed) (new : Core) → Takes core die seat answer new → Follows core act new
  take_follows seat answer new e =
      subst (λ (t : Option Handed × Core). Follows core act t.1) (sym e)
      (take_cases core die seat (λ (t : Option Handed × Core). Follows core act t.1) (quiet core act)
      (λ flight idle u. urgent_follows seat flight u) (λ job idle u. other_follows seat job u))

  -- a die goes out
  drop_follows : Follows core act (drop_die die (record core { jobs = remove core.jobs die }))
  drop_follows = record {
    owned = λ q x e. inl (was_same core act q x e);
    held = λ d k p v e. held_same core act d k p v (kept_held (λ place used. not (place.0 == die)) core.page_map.used d k (Held p v) e);
    waits = λ w among. inl (among-filter (λ (p : WaitingProgram). not (p.die == die)) w core.waiting among).0;
  }

  erase_follows : (block : ℕ) → Follows core act (erase_ends die block (record core { jobs = remove core.jobs die }))
  erase_follows block = record {
    owned = λ q x e. inl (was_same core act q x e);
    held = λ d k p v e. held_same core act d k p v (kept_held (stays core.page_map die block) core.page_map.used d k (Held p v) e);
    waits = λ p i. inl i;
  }

  module _ (page : Page) (version : Version) (from to : Slot) where
    moved_if : (b : Bool) → is_current core.page_map page.0 die from.0 ≡ b → (p : Page) (v : Version)
        → ◌≡◌ {A = Option Used} (Some (if b then Held page version else Stale)) (Some (Held p v)) → Trusted core die p.0
    moved_if false e p v f = absurd (held≢stale _ p v f refl)
    moved_if true e p v f = at (get core.page_map.versions page.0) (and_parts (is_live core.page_map die) _ e).1
      where
        at : (n : Option Version) → holds_last page.0 n (used_at core.page_map die from.0) ≡ true → Trusted core die p.0
        at None h = absurd (false≢true h)
        at (Some n) h =
            let found = holds_held page.0 n (used_at core.page_map die from.0) h in
            inl (record { slot = from.0; tag = found.0; version = found.1; held = found.2; page_is = found.3 ∙ tag_of page p version v f })

    abbrev moved : Used
    moved = if is_current core.page_map page.0 die from.0 then Held page version else Stale

    abbrev stale : FinMap place_cmp Used
    stale = insert core.page_map.used (die, from.0) Stale

    stale_held : (d k : ℕ) (p : Page) (v : Version) → get stale (d, k) ≡ Some (Held p v) → Trusted core d p.0
    stale_held d k p v e =
        elim (cases_eq d die) [
          | inr apart ↦ held_same core act d k p v (sym (get-place_other core.page_map.used die from.0 Stale d k (λ a b. apart a)) ∙ e)
          | inl same ↦ elim (cases_eq k from.0) [
            | inr apart ↦ held_same core act d k p v (sym (get-place_other core.page_map.used die from.0 Stale d k (λ a b. apart b)) ∙ e)
            | inl here ↦ absurd (held≢stale _ p v e ((λ i. get stale (same i, here i)) ∙ get-place_same core.page_map.used die from.0 Stale))
          ]
        ]

    moved_held : (d k : ℕ) (p : Page) (v : Version) → get (insert stale (die, to.0) moved) (d, k) ≡ Some (Held p v) → Trusted core d p.0
    moved_held d k p v e =
        elim (cases_eq d die) [
          | inr apart ↦ stale_held d k p v (sym (get-place_other stale die to.0 moved d k (λ a b. apart a)) ∙ e)
          | inl same ↦ elim (cases_eq k to.0) [
            | inr apart ↦ stale_held d k p v (sym (get-place_other stale die to.0 moved d k (λ a b. apart b)) ∙ e)
            | inl here ↦ subst (λ (n : ℕ). Trusted core n p.0) (sym same) (moved_if (is_current core.page_map page.0 die from.0) refl p v
                (sym (get-place_same stale die to.0 moved) ∙ (λ i. get (insert stale (die, to.0) moved) (sym same i, sym here i)) ∙ e))
          ]
        ]

    move_follows : Follows core act (move_ends die page.0 version from.0 to.0 (record core { jobs = remove core.jobs die }))
    move_follows = record { owned = λ q x e. inl (was_same core act q x e); held = moved_held; waits = λ p i. inl i }

  answer_follows : (batch page : ℕ) (bytes : List ℕ) (b : Option OpenBatch) → Follows core act (with_answer batch page bytes b (record core { jobs = remove core.jobs die }))
  answer_follows batch page bytes None = quiet core act
  answer_follows batch page bytes (Some b) = quiet core act

  read_follows : (batch page : ℕ) (o : Option (List ℕ)) → Follows core act (read_ends die batch page o (record core { jobs = remove core.jobs die }))
  read_follows batch page None = drop_follows
  read_follows batch page (Some bytes) = answer_follows batch page bytes (get core.batches batch)

  header_follows : (b : Bool) → Follows core act (if b then record core { jobs = remove core.jobs die; behind = remove core.behind die } else record core { jobs = remove core.jobs die })
  header_follows true = quiet core act
  header_follows false = quiet core act

-- a program ends: its slot is marked in what its page has reserved
module _ (core : Core) (die : ℕ) (page : Page) (version : Version) (slot : Slot) (job : get core.jobs die ≡ Some (Program page version slot)) where
  abbrev act : Act
  act = Done die DidProgram

  mark_if : (b : Bool) (t : Target) → let m = if b then record t { programmed = true } else t in
      (t.die.0 ≡ m.die.0) × (t.slot.0 ≡ m.slot.0) × (m.programmed ≡ true → (t.programmed ≡ true) ⊎ (b ≡ true))
  mark_if true t = (refl, refl, λ p. inr refl)
  mark_if false t = (refl, refl, λ p. inl p)

  mark_was : (x : Owned) (u : Target) → Among u x.targets → WasTarget core act x (mark die slot.0 u)
  mark_was x u among =
      let m = mark_if (u.die.0 == die && u.slot.0 == slot.0) u in
      record {
        was = u;
        among = among;
        on_die = m.0;
        at_slot = m.1;
        done = λ p. elim (m.2 p) [
          | inl before ↦ inl before
          | inr here ↦
              let parts = and_parts (u.die.0 == die) (u.slot.0 == slot.0) here in
              inr (page, version, slot, job, sym m.0 ∙ eqb-true u.die.0 die parts.0, sym m.1 ∙ eqb-true u.slot.0 slot.0 parts.1)
        ];
      }

  mark_targets : (x : Owned) (t : Target) → Among t (map (mark die slot.0) x.targets) → WasTarget core act x t
  mark_targets x t among =
      let found = among-map (mark die slot.0) t x.targets among in
      subst (WasTarget core act x) found.2 (mark_was x found.0 found.1)

  abbrev marks : ℕ → OpenClaim → OpenClaim
  marks id c = if c.page == page.0 then mark_claim die slot.0 c else c

  claim_marked : (id : ℕ) (b : Bool) (p : ℕ) (r : Option Reservation) (x : Owned) → owned_of core.copying core.claims (Some id) ≡ owned_claim (record { page = p; reserved = r })
      → owned_claim (if b then mark_claim die slot.0 (record { page = p; reserved = r }) else record { page = p; reserved = r }) ≡ Some x
      → WasOwned core act (Some id) x
  claim_marked id false p r x is e = was_same core act (Some id) x (is ∙ e)
  claim_marked id true p None x is e = absurd (none-some x e)
  claim_marked id true p (Some r) x is e = subst (WasOwned core act (Some id)) (same_Some _ x e) (record {
    before = record { page = p; version = r.version; targets = r.targets };
    owns = is;
    page_is = refl;
    version_is = refl;
    targets = mark_targets (record { page = p; version = r.version; targets = r.targets });
  })

  claim_was : (id : ℕ) (o : Option OpenClaim) (x : Owned) → get core.claims id ≡ o
      → option_and_then owned_claim (option_map (marks id) o) ≡ Some x → WasOwned core act (Some id) x
  claim_was id None x is e = absurd (none-some x e)
  claim_was id (Some c) x is e = claim_marked id (c.page == page.0) c.page c.reserved x (ap (option_and_then owned_claim) is) e

  copy_was : (o : Option Copying) (x : Owned) → core.copying ≡ o
      → owned_of (option_map {T = Copying} (λ c. record c { target = mark die slot.0 c.target }) o) core.claims None ≡ Some x
      → WasOwned core act None x
  copy_was None x is e = absurd (none-some x e)
  copy_was (Some c) x is e = subst (WasOwned core act None) (same_Some _ x e) (record {
    before = record { page = c.page.0; version = c.version; targets = c.target ∷ [] };
    owns = ap (λ (o : Option Copying). owned_of o core.claims None) is;
    page_is = refl;
    version_is = refl;
    targets = mark_targets (record { page = c.page.0; version = c.version; targets = c.target ∷ [] });
  })

  owned_was : (q : Option ℕ) (x : Owned)
      → owned_of (option_map {T = Copying} (λ c. record c { target = mark die slot.0 c.target }) core.copying) (change marks core.claims) q ≡ Some x → WasOwned core act q x
  owned_was None x e = copy_was core.copying x refl e
  owned_was (Some id) x e = claim_was id (get core.claims id) x refl (sym (ap (option_and_then owned_claim) (get-change nat_cmp_total nat_same marks core.claims id)) ∙ e)

  program_follows : Follows core act (program_ends page.0 die slot.0 (record core { jobs = remove core.jobs die }))
  program_follows = record { owned = λ q x e. inl (owned_was q x e); held = held_same core act; waits = λ p i. inl i }

-- the job of a die ends
done_follows : (core : Core) (die : ℕ) (flight : Flight) (outcome : Outcome) → get core.jobs die ≡ Some flight
    → Follows core (Done die outcome) (finished die flight outcome (record core { jobs = remove core.jobs die }))
done_follows core die (Read batch page version slot) (DidRead cell) job =
    read_follows core (Done die (DidRead cell)) die batch.0 page.0 (payload_of page.0 version die slot.0 cell)
done_follows core die (Program page version slot) DidProgram job = program_follows core die page version slot job
done_follows core die (Move page version from to) DidMove job = move_follows core (Done die DidMove) die page version from to
done_follows core die (Erase block) DidErase job = erase_follows core (Done die DidErase) die block.0
done_follows core die (Header epoch live) DidWriteHeader job = header_follows core (Done die DidWriteHeader) die (epoch == core.epoch)
done_follows core die (Sync flushes) DidSync job = quiet core (Done die DidSync)
done_follows core die flight (Fault call) job = drop_follows core (Done die (Fault call)) die
done_follows core die flight Wrong job = drop_follows core (Done die Wrong) die
done_follows core die flight outcome job = quiet core (Done die outcome)

ends_follows : (core : Core) (die : ℕ) (flight : Option Flight) (outcome : Outcome) (new : Core) → get core.jobs die ≡ flight
    → EndsJob core die flight outcome new → Follows core (Done die outcome) new
ends_follows core die None outcome new job d = absurd d
ends_follows core die (Some flight) outcome new job d = subst (Follows core (Done die outcome)) (sym d) (done_follows core die flight outcome job)

module _ (core new : Core) where
  same_follows : (act : Act) (x : Core) → new ≡ x → Follows core act x → Follows core act new
  same_follows act x e f = subst (Follows core act) (sym e) f

  pub event_follows : (act : Act) → Does core act new → Follows core act new
  event_follows (Claim page (Ok id)) d = same_follows (Claim page (Ok id)) _ d.2 (claim_follows core (Claim page (Ok id)) page id.0)
  event_follows (Claim page (Err Claimed)) d = same_follows _ core d.1 (quiet core (Claim page (Err Claimed)))
  event_follows (Claim page (Err ClaimNoMemory)) d = same_follows _ core d.1 (quiet core (Claim page (Err ClaimNoMemory)))
  event_follows (Release claim) d = same_follows _ _ d (release_follows core (Release claim) claim)
  event_follows (Reserve claim payload answer) d = reserve_follows core (Reserve claim payload answer) claim _ _ payload answer new d
  event_follows (ReserveHole claim answer) d = reserve_follows core (ReserveHole claim answer) claim _ _ _ answer new d
  event_follows (ReserveFewer claim payload answer) d = reserve_follows core (ReserveFewer claim payload answer) claim _ _ payload answer new d
  event_follows (Commit claim seat answer) d = commit_follows core (Commit claim seat answer) claim seat (reserved_under core claim) refl answer new d
  event_follows (Abandon claim answer) d = abandon_follows core (Abandon claim answer) claim (reserved_under core claim) answer new d
  event_follows (Admit pages (Ok admitted)) d = same_follows _ _ d.2 (quiet core (Admit pages (Ok admitted)))
  event_follows (Admit pages (Err refused)) d = same_follows _ core d.1 (quiet core (Admit pages (Err refused)))
  event_follows (Replan batch (Ok planned)) d = same_follows _ _ d.1 (quiet core (Replan batch (Ok planned)))
  event_follows (Replan batch (Err refused)) d = same_follows _ core d.1 (quiet core (Replan batch (Err refused)))
  event_follows (EndBatch batch answer) d = same_follows _ _ d.1 (quiet core (EndBatch batch answer))
  event_follows (Take die seat answer) d = take_follows core (Take die seat answer) die seat answer new d
  event_follows (Done die outcome) d = ends_follows core die (get core.jobs die) outcome new refl d
  event_follows (Window die count (Ok first)) d = same_follows _ _ d.3 (quiet core (Window die count (Ok first)))
  event_follows (Window die count (Err WindowBusy)) d = same_follows _ core d.1 (quiet core (Window die count (Err WindowBusy)))
  event_follows (Window die count (Err HasOne)) d = same_follows _ core d.2 (quiet core (Window die count (Err HasOne)))
  event_follows (Window die count (Err WindowNoMemory)) d = same_follows _ core d.2 (quiet core (Window die count (Err WindowNoMemory)))
  event_follows (Advance (Ok round)) d = same_follows _ _ d.2 (quiet core (Advance (Ok round)))
  event_follows (Advance (Err refused)) d = same_follows _ core d.1 (quiet core (Advance (Err refused)))
  event_follows (SpareIn die (Ok made)) d = same_follows _ _ d.1 (quiet core (SpareIn die (Ok made)))
  event_follows (SpareIn die (Err NotSpare)) d = same_follows _ core d.1 (quiet core (SpareIn die (Err NotSpare)))
  event_follows (ReserveCopy page seq payload (Ok made)) d = same_follows _ _ d.1
      (copying_follows core (ReserveCopy page seq payload (Ok made)) page payload (get core.page_map.versions page) (copy_place core.copies core.page_map page) refl)
  event_follows (ReserveCopy page seq payload (Err refused)) d = same_follows _ core d.1 (quiet core (ReserveCopy page seq payload (Err refused)))
  event_follows (CommitCopy answer) d = copied_follows core (CommitCopy answer) core.copying refl answer new d
  event_follows (FlushBegin (Ok flush)) d = same_follows _ _ d.3 (quiet core (FlushBegin (Ok flush)))
  event_follows (FlushBegin (Err Spent)) d = same_follows _ core d.1 (quiet core (FlushBegin (Err Spent)))
  event_follows (FlushState flush answer) d = same_follows _ core d.1 (quiet core (FlushState flush answer))
  event_follows Fold d = same_follows _ _ d (quiet core Fold)
