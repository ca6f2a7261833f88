-- Each event keeps what waits such that it can be made.
use Rattle.fa_machine.proofs.Lists.{among-filter, among-map, among-without, cut_first, found_passes}
use Rattle.fa_machine.proofs.Takes.{IsOther, IsUrgent, take_cases}
use Rattle.fa_machine.specs.Among.{Among}
use Rattle.fa_machine.specs.Beginning.{IsBeginning}
use Rattle.fa_machine.specs.Cells.{DidErase, DidMove, DidProgram, DidRead, DidSync, DidWriteHeader, Fault, Outcome, Wrong, payload_of}
use Rattle.fa_machine.specs.Conditions.{drop_die, reserved_under}
use Rattle.fa_machine.specs.Placement.{copy_place, has_room, order_of}
use Rattle.fa_machine.specs.Copies.{holds_page}
use Rattle.fa_machine.specs.State.{Core, OpenBatch, OpenClaim, Reservation, WaitingProgram}
use Rattle.fa_machine.specs.Step.{Abandon, Act, Admit, Advance, Claim, Commit, CommitCopy, Does, Done, EndBatch, FlushBegin, Step, allowed}
use Rattle.fa_machine.specs.Step.{FlushState, Fold, Release, Replan, Reserve, ReserveCopy, ReserveFewer, ReserveHole, SpareIn, Take, Window}
use Rattle.fa_machine.specs.Taking.{EndsJob, Handed, Takes, begins, begun, finished, handed, is_for, read_ends, with_answer}
use Rattle.fa_machine.specs.Taking.{without_stale_booking}
use Rattle.fa_machine.specs.Turning.{CommitsCopy, copied_payload, copying_to}
use Rattle.fa_machine.specs.World.{World}
use Rattle.fa_machine.specs.Writing.{Abandons, Commits, Reserves, claimed_page, program_at, target_on}
use Rattle.fa_machine.specs.declared.answers.Copied.{Copied}
use Rattle.fa_machine.specs.declared.answers.Copied.TheVariants.{Current, Late}
use Rattle.fa_machine.specs.declared.jobs.Flight.{Flight}
use Rattle.fa_machine.specs.declared.jobs.Flight.TheVariants.{Erase, Header, Move, Program, Read, Sync}
use Rattle.fa_machine.specs.declared.places.Copying.{Copying}
use Rattle.fa_machine.specs.declared.places.Target.{Target}
use Rattle.fa_machine.specs.declared.places.Version.{Version}
use Rattle.fa_machine.specs.declared.refusals.AbandonRefused.{AbandonRefused}
use Rattle.fa_machine.specs.declared.refusals.ClaimRefused.TheVariants.{Claimed, NoMemory as ClaimNoMemory}
use Rattle.fa_machine.specs.declared.refusals.CommitCopyRefused.{CommitCopyRefused}
use Rattle.fa_machine.specs.declared.refusals.CommitCopyRefused.TheVariants.{Failed as CopyFailed, Pending as CopyPending}
use Rattle.fa_machine.specs.declared.refusals.CommitRefused.{CommitRefused}
use Rattle.fa_machine.specs.declared.refusals.FlushRefused.TheVariants.{Spent}
use Rattle.fa_machine.specs.declared.refusals.ReserveRefused.{ReserveRefused}
use Rattle.fa_machine.specs.declared.refusals.SpareRefused.TheVariants.{NotSpare}
use Rattle.fa_machine.specs.declared.refusals.WindowRefused.TheVariants.{Busy as WindowBusy, HasOne, NoMemory as WindowNoMemory}
use Rattle.fa_sound.proofs.Reserving.{room_slot, roomy}
use Rattle.fa_sound.specs.Ready.{AreReady, AreReadyOf, IsProgram}
use Rattle.fa_sound.specs.Sound.{IsSound, IsSoundView, view_of}
use Rattle.fa_types.specs.declared.geometry.Geometry.{Geometry}
use Rattle.fa_types.specs.declared.kind.Kind.{Kind}
use Rattle.fa_types.specs.declared.kind.Kind.TheVariants.{Data, Hole}
use Rattle.fa_types.specs.declared.numbers.Seq.{Seq}
use Rattle.std.proofs.Common.{Bool, List, None, Option, Some, [], ap, arith, eqb-true, false, inl, inr, length, map, refl, subst, sym, true, ℕ}
use Rattle.std.proofs.Common.{◌*◌, ◌++◌, ◌+◌, ◌<◌, ◌≤◌, ◌∷◌, ◌≡◌, ◌⊎◌}
use Rattle.std.proofs.lemmas.Bool.{and_parts, false≢true, true≢false}
use Rattle.std.proofs.lemmas.List.{length-replicate}
use Rattle.std.specs.FinMap.{get, remove}
use Rattle.std.specs.Prelude.{Err, Ok, Result, if◌then◌else◌, is_some, not, option_map, replicate, unwrap_or, ◌&&◌, ◌==◌}

-- what the next jobs are told by
abbrev Parts : Type 0
Parts = Geometry × ℕ × ℕ × List WaitingProgram

abbrev parts : Core → Parts
parts core = (core.page_map.geometry, core.last, core.epoch, core.waiting)

-- No program waits that did not, the array's shape and the last number stay, and the epoch does not fall.
pub record Fewer (a b : Parts) : Type 0 where
  pub shape : b.0 ≡ a.0
  pub last : b.1 ≡ a.1
  pub up : a.2 ≤ b.2
  pub left : (p : WaitingProgram) → Among p b.3 → Among p a.3

fewer_same : (a : Parts) → Fewer a a
fewer_same a = record { shape = refl; last = refl; up = omega arith; left = λ p among. among }

still_ready : (a b : Parts) → Fewer a b → AreReadyOf a.0 a.1 a.2 a.3 → AreReadyOf b.0 b.1 b.2 b.3
still_ready a b f ready = record {
  programs = λ p among. subst (λ g. IsProgram g b.1 p.page p.version p.slot p.payload) (sym f.shape)
      (subst (λ n. IsProgram a.0 n p.page p.version p.slot p.payload) (sym f.last) (ready.programs p (f.left p among)));
  epoch = let up = f.up in let first = ready.epoch in omega arith;
}

-- an event after which fewer wait, or the same
leaves : (old new x : Core) → new ≡ x → Fewer (parts old) (parts x) → AreReady old → AreReady new
leaves old new x e f ready = subst AreReady (sym e) (still_ready (parts old) (parts x) f ready)

same : (old new x : Core) → new ≡ x → parts x ≡ parts old → AreReady old → AreReady new
same old new x e is ready = leaves old new x e (subst (Fewer (parts old)) (sym is) (fewer_same (parts old))) ready

among-append : {X : Type 0} (x : X) (xs ys : List X) → Among x (xs ++ ys) → Among x xs ⊎ Among x ys
among-append x [] ys among = inr among
among-append x (y ∷ xs) ys (inl is) = inl (inl is)
among-append x (y ∷ xs) ys (inr rest) = elim (among-append x xs ys rest) [
  | inl front ↦ inl (inr front)
  | inr back ↦ inr back
]

-- a program is one still where more numbers were given
given_more : (g : Geometry) (last more : ℕ) (p : WaitingProgram) → last ≤ more → IsProgram g last p.page p.version p.slot p.payload
    → IsProgram g more p.page p.version p.slot p.payload
given_more g last more p up is = record {
  inside = is.inside;
  given = is.given;
  below = let below = is.below in omega arith;
  on_die = is.on_die;
  sized = is.sized;
  zeros = is.zeros;
}

-- programs of one write for slots of dies that have room
pub record IsWrite (core : Core) (last page : ℕ) (version : Version) (payload : List ℕ) : Type 0 where
  pub inside : page < core.page_map.geometry.pages
  pub given : 1 ≤ version.seq.0
  pub below : version.seq.0 ≤ last
  pub sized : length payload ≡ core.page_map.geometry.page_bytes
  pub zeros : version.kind ≡ Hole → payload ≡ replicate core.page_map.geometry.page_bytes 0

module _ (core : Core) (ready : AreReady core) (last page : ℕ) (up : core.last ≤ last) (version : Version) (payload : List ℕ)
    (write : IsWrite core last page version payload) (ts : List Target)
    (room : (t : Target) → Among t ts → (die : ℕ) × (target_on core.page_map die ≡ t) × (has_room core.page_map die ≡ true)) where
  new_program : (p : WaitingProgram) → Among p (map (program_at page version payload) ts)
      → IsProgram core.page_map.geometry last p.page p.version p.slot p.payload
  new_program p among =
      let t = among-map (program_at page version payload) p ts among in
      let from = room t.0 t.1 in
      subst (λ (q : WaitingProgram). IsProgram core.page_map.geometry last q.page q.version q.slot q.payload) t.2
      (record {
        inside = write.inside;
        given = write.given;
        below = write.below;
        on_die = subst (λ (u : Target). u.slot.0 < core.page_map.geometry.blocks * core.page_map.geometry.slots) from.1
            (room_slot core from.0 from.2).1;
        sized = write.sized;
        zeros = write.zeros;
      })

  more_programs : (p : WaitingProgram) → Among p (core.waiting ++ map (program_at page version payload) ts)
      → IsProgram core.page_map.geometry last p.page p.version p.slot p.payload
  more_programs p among = elim (among-append p core.waiting (map (program_at page version payload) ts) among) [
    | inl was ↦ given_more core.page_map.geometry core.last last p up (ready.programs p was)
    | inr new ↦ new_program p new
  ]

  pub more_ready : AreReadyOf core.page_map.geometry last core.epoch (core.waiting ++ map (program_at page version payload) ts)
  more_ready = record { programs = more_programs; epoch = ready.epoch }

claim_page : (core : Core) (h : IsSoundView (view_of core)) (claim : ℕ) (o : Option OpenClaim) → get core.claims claim ≡ o
    → is_some o ≡ true → unwrap_or (option_map (λ (c : OpenClaim). c.page) o) 0 < core.page_map.geometry.pages
claim_page core h claim (Some c) is some = h.claims.inside claim c.page (ap (option_map (λ (c : OpenClaim). c.page)) is)
claim_page core h claim None is some = absurd (false≢true some)

abbrev is_data : Kind → Bool
is_data Data = true
is_data Hole = false

data≢hole : Data ≡ Hole → ⊥
data≢hole e = true≢false (ap is_data e)

answer_fewer : (batch page : ℕ) (payload : List ℕ) (b : Option OpenBatch) (core : Core)
    → Fewer (parts core) (parts (with_answer batch page payload b core))
answer_fewer batch page payload None core = fewer_same (parts core)
answer_fewer batch page payload (Some b) core = fewer_same (parts core)

drop_fewer : (die : ℕ) (core : Core) → Fewer (parts core) (parts (drop_die die core))
drop_fewer die core = record { shape = refl; last = refl; up = omega arith; left = λ p among. (among-filter _ p core.waiting among).0 }

read_fewer : (die batch page : ℕ) (o : Option (List ℕ)) (core : Core) → Fewer (parts core) (parts (read_ends die batch page o core))
read_fewer die batch page None core = drop_fewer die core
read_fewer die batch page (Some payload) core = answer_fewer batch page payload (get core.batches batch) core

header_fewer : (b : Bool) (x core : Core) → parts x ≡ parts core → Fewer (parts core) (parts (if b then x else core))
header_fewer true x core is = subst (Fewer (parts core)) (sym is) (fewer_same (parts core))
header_fewer false x core is = fewer_same (parts core)

finished_fewer : (die : ℕ) (flight : Flight) (outcome : Outcome) (core : Core) → Fewer (parts core) (parts (finished die flight outcome core))
finished_fewer die (Read batch page version slot) (DidRead cell) core =
    read_fewer die batch.0 page.0 (payload_of page.0 version die slot.0 cell) core
finished_fewer die (Header epoch live) DidWriteHeader core = header_fewer (epoch == core.epoch) _ core refl
finished_fewer die (Program page version slot) DidProgram core = fewer_same (parts core)
finished_fewer die (Move page version from to) DidMove core = fewer_same (parts core)
finished_fewer die (Erase block) DidErase core = fewer_same (parts core)
finished_fewer die (Sync flushes) DidSync core = fewer_same (parts core)
finished_fewer die flight (Fault call) core = drop_fewer die core
finished_fewer die flight Wrong core = drop_fewer die core
finished_fewer die flight outcome core = fewer_same (parts core)

module _ (core : Core) (h : IsSoundView (view_of core)) (ready : AreReady core) where
  reserves : (claim least : ℕ) (kind : Kind) (payload : List ℕ) (answer : Result Seq ReserveRefused) (new : Core)
      → is_some (get core.claims claim) ≡ true → length payload ≡ core.page_map.geometry.page_bytes
      → (kind ≡ Hole → payload ≡ replicate core.page_map.geometry.page_bytes 0)
      → Reserves core claim least kind payload answer new → AreReady new
  reserves claim least kind payload (Ok seq) new is_open sized zeros d =
      subst AreReady (sym d.2)
      (more_ready core ready (core.last + 1) (claimed_page core claim) (omega arith)
      (record { seq = record { 0 = core.last + 1 }; kind = kind }) payload
      (record {
        inside = claim_page core h claim (get core.claims claim) refl is_open;
        given = omega arith;
        below = omega arith;
        sized = sized;
        zeros = zeros;
      }) _ (roomy core h claim kind is_open))
  reserves claim least kind payload (Err refused) new is_open sized zeros d = same core new core d.1 refl ready

  commits : (claim seat : ℕ) (r : Option Reservation) (answer : Result Seq CommitRefused) (new : Core)
      → Commits core claim seat r answer new → AreReady new
  commits claim seat None answer new d = absurd d
  commits claim seat (Some r) (Ok seq) new d = same core new _ d.2 refl ready
  commits claim seat (Some r) (Err refused) new d = same core new core d.1 refl ready

  abandons : (claim : ℕ) (r : Option Reservation) (answer : Result (Unit {0}) AbandonRefused) (new : Core)
      → Abandons core claim r answer new → AreReady new
  abandons claim None answer new d = absurd d
  abandons claim (Some r) (Ok done) new d =
      leaves core new _ d.1 (record { shape = refl; last = refl; up = omega arith; left = λ p among. (among-filter _ p core.waiting among).0 }) ready
  abandons claim (Some r) (Err refused) new d = same core new core d.1 refl ready

  -- a Take hands out what waits, or leaves it
  abbrev TakeReady : Option Handed × Core → Type 0
  TakeReady pair = AreReady pair.1

  begun_urgent : (die seat : ℕ) (flight : Flight) → IsUrgent core die flight → TakeReady (Some (handed flight), begun die seat flight core)
  begun_urgent die seat (Header epoch live) u = ready
  begun_urgent die seat (Move page version from to) u = ready
  begun_urgent die seat (Erase block) u = ready
  begun_urgent die seat (Read batch page version slot) u = ready
  begun_urgent die seat (Program page version slot) u = absurd u
  begun_urgent die seat (Sync flushes) u = absurd u

  begun_other : (die seat : ℕ) (job : Option Handed) → IsOther (without_stale_booking die core) die job
      → TakeReady (begins die seat (without_stale_booking die core) job)
  begun_other die seat None u = ready
  begun_other die seat (Some job) u =
      elim u [
        | inl p ↦ subst (λ j. TakeReady (begins die seat (without_stale_booking die core) (Some j))) (sym p.2)
            (record {
              programs = λ q among. ready.programs q
                  (among-without (is_for die) q core.waiting (subst (Among q) (cut_first (is_for die) core.waiting) among));
              epoch = ready.epoch;
            })
        | inr f ↦ subst (λ j. TakeReady (begins die seat (without_stale_booking die core) (Some j))) (sym f.1) ready
      ]

  takes : (die seat : ℕ) (answer : Option Handed) (new : Core) → Takes core die seat answer new → AreReady new
  takes die seat answer new e =
      subst TakeReady (sym e)
      (take_cases core die seat TakeReady ready (λ flight idle u. begun_urgent die seat flight u) (λ job idle u. begun_other die seat job u))

  copies : (page : ℕ) (payload : List ℕ) (v : Option Version) (o : Option ℕ) → length payload ≡ core.page_map.geometry.page_bytes
      → get core.page_map.versions page ≡ v → copy_place core.copies core.page_map page ≡ o → AreReady (copying_to core page payload v o)
  copies page payload None o sized is place = ready
  copies page payload (Some version) None sized is place = ready
  copies page payload (Some version) (Some die) sized is place =
      let n = h.numbers page version is in
      let both = and_parts (has_room core.page_map die) _
      (found_passes (λ d. has_room core.page_map d && not (holds_page core.page_map page d)) (order_of core.copies core.page_map page) die place).0 in
      more_ready core ready core.last page (omega arith) version (copied_payload core.page_map version.kind payload)
      (record {
        inside = n.inside;
        given = n.given;
        below = n.below;
        sized = copied_sized version.kind;
        zeros = copied_zeros version.kind;
      }) (target_on core.page_map die ∷ []) (λ t among. one t die both.0 among)
    where
      copied_sized : (kind : Kind) → length (copied_payload core.page_map kind payload) ≡ core.page_map.geometry.page_bytes
      copied_sized Data = sized
      copied_sized Hole = length-replicate core.page_map.geometry.page_bytes 0

      copied_zeros : (kind : Kind) → kind ≡ Hole → copied_payload core.page_map kind payload ≡ replicate core.page_map.geometry.page_bytes 0
      copied_zeros Data e = absurd (data≢hole e)
      copied_zeros Hole e = refl

      one : (t : Target) (d : ℕ) → has_room core.page_map d ≡ true → Among t (target_on core.page_map d ∷ [])
          → (k : ℕ) × (target_on core.page_map k ≡ t) × (has_room core.page_map k ≡ true)
      one t d room (inl is) = (d, is, room)
      one t d room (inr none) = absurd none

  copy_ends : (c : Option Copying) (answer : Result Copied CommitCopyRefused) (new : Core) → CommitsCopy core c answer new → AreReady new
  copy_ends None answer new d = absurd d
  copy_ends (Some c) (Ok Current) new d = same core new _ d.2 refl ready
  copy_ends (Some c) (Ok Late) new d = same core new _ d.2 refl ready
  copy_ends (Some c) (Err CopyPending) new d = same core new core d.1 refl ready
  copy_ends (Some c) (Err CopyFailed) new d = same core new _ d.1 refl ready

  ends : (die : ℕ) (flight : Option Flight) (outcome : Outcome) (new : Core) → EndsJob core die flight outcome new → AreReady new
  ends die None outcome new d = absurd d
  ends die (Some flight) outcome new d =
      leaves core new _ d (finished_fewer die flight outcome (record core { jobs = remove core.jobs die })) ready

  event : (act : Act) (new : Core) → allowed core act ≡ true → Does core act new → AreReady new
  event (Claim page (Ok id)) new a d = same core new _ d.2 refl ready
  event (Claim page (Err Claimed)) new a d = same core new core d.1 refl ready
  event (Claim page (Err ClaimNoMemory)) new a d = same core new core d.1 refl ready
  event (Release claim) new a d = same core new _ d refl ready
  event (Reserve claim payload answer) new a d =
      let open_and_sized = and_parts _ _ a in
      reserves claim _ Data payload answer new (and_parts _ _ open_and_sized.0).0
      (eqb-true (length payload) core.page_map.geometry.page_bytes open_and_sized.1) (λ e. absurd (data≢hole e)) d
  event (ReserveHole claim answer) new a d =
      reserves claim _ Hole _ answer new (and_parts _ _ a).0 (length-replicate core.page_map.geometry.page_bytes 0) (λ e. refl) d
  event (ReserveFewer claim payload answer) new a d =
      let open_and_sized = and_parts _ _ a in
      reserves claim _ Data payload answer new (and_parts _ _ open_and_sized.0).0
      (eqb-true (length payload) core.page_map.geometry.page_bytes open_and_sized.1) (λ e. absurd (data≢hole e)) d
  event (Commit claim seat answer) new a d = commits claim seat (reserved_under core claim) answer new d
  event (Abandon claim answer) new a d = abandons claim (reserved_under core claim) answer new d
  event (Admit pages (Ok admitted)) new a d = same core new _ d.2 refl ready
  event (Admit pages (Err refused)) new a d = same core new core d.1 refl ready
  event (Replan batch (Ok planned)) new a d = same core new _ d.1 refl ready
  event (Replan batch (Err refused)) new a d = same core new core d.1 refl ready
  event (EndBatch batch answer) new a d = same core new _ d.1 refl ready
  event (Take die seat answer) new a d = takes die seat answer new d
  event (Done die outcome) new a d = ends die (get core.jobs die) outcome new d
  event (Window die count (Ok first)) new a d = same core new _ d.3 refl ready
  event (Window die count (Err WindowBusy)) new a d = same core new core d.1 refl ready
  event (Window die count (Err HasOne)) new a d = same core new core d.2 refl ready
  event (Window die count (Err WindowNoMemory)) new a d = same core new core d.2 refl ready
  event (Advance (Ok round)) new a d = same core new _ d.2 refl ready
  event (Advance (Err refused)) new a d = same core new core d.1 refl ready
  event (SpareIn die (Ok made)) new a d =
      leaves core new _ d.1 (record { shape = refl; last = refl; up = omega arith; left = λ p among. among }) ready
  event (SpareIn die (Err NotSpare)) new a d = same core new core d.1 refl ready
  event (ReserveCopy page seq payload (Ok made)) new a d =
      subst AreReady (sym d.1)
      (copies page payload (get core.page_map.versions page) (copy_place core.copies core.page_map page)
      (eqb-true (length payload) core.page_map.geometry.page_bytes (and_parts _ _ a).1) refl refl)
  event (ReserveCopy page seq payload (Err refused)) new a d = same core new core d.1 refl ready
  event (CommitCopy answer) new a d = copy_ends core.copying answer new d
  event (FlushBegin (Ok flush)) new a d = same core new _ d.3 refl ready
  event (FlushBegin (Err Spent)) new a d = same core new core d.1 refl ready
  event (FlushState flush answer) new a d = same core new core d.1 refl ready
  event Fold new a d = same core new _ d refl ready

-- each event keeps it
pub step_ready : (old new : Core) (act : Act) → Step old act new → IsSound old → AreReady old → AreReady new
step_ready old new act step sound ready = event old sound ready act new step.allows step.does

-- nothing waits as an array is mounted
pub begins_ready : (w : World) → IsBeginning w → 1 ≤ w.core.epoch → AreReady w.core
begins_ready w beginning first = record {
  programs = λ p among. absurd (subst (Among p) (ap (λ (c : Core). c.waiting) beginning.fresh) among);
  epoch = first;
}
