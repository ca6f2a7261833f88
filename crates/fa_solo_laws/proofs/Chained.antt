-- The calls of a connection, one after the other.
use Rattle.fa_session_asking.specs.Asking.{call_of as wanted_call}
use Rattle.fa_solo_laws.specs.Calls.{HasBytes, call_of as asked_call}
use Rattle.fa_solo_laws.specs.Shown.{store_of}
use Rattle.fa_shared_request.specs.Counts.{request_of}
use Rattle.fa_cmds.specs.Requests.{body_length, decision, first_of, has_unknown_flag, is_disconnect, is_past_end, is_too_long, row_of}
use Rattle.fa_cmds.specs.declared.decision.Decision.TheVariants.{Disconnect as Leave, Do, Refuse}
use Rattle.fa_cmds.specs.declared.reply.ReplyCode.{ReplyCode}
use Rattle.fa_cmds.specs.declared.reply.ReplyCode.TheVariants.{Invalid, Success}
use Rattle.fa_cmds.specs.declared.request.Command.{Command}
use Rattle.fa_cmds.specs.declared.request.Command.TheVariants.{Disconnect, Flush as FlushIt, Other, Read as ReadIt, Trim as TrimIt, Write as WriteIt, WriteZeroes}
use Rattle.fa_cmds.specs.declared.request.Request.{Request as SentRequest}
use Rattle.fa_solo_laws.proofs.Behind.{StepLaws}
use Rattle.fa_solo_laws.proofs.Between.{call_idle}
use Rattle.fa_solo_laws.proofs.Served.{RequestLaws}
use Rattle.fa_solo_laws.proofs.Whole.{call_dies, call_leads, call_meets, whole_fair}
use Rattle.fa_solo_laws.specs.Driving.{image_on}
use Rattle.fa_solo_laws.specs.Rest.{IsIdle}
use Rattle.fa_solo_laws.specs.Sessions.{IsSessionGivenUp, IsStoreOf, OneGivenUp, was_given_up}
use Rattle.fa_solo_laws.specs.Standing.{IsGivenUp, IsWorldOf}
use Rattle.fa_mount_headers.specs.declared.judging.Standing.{Standing}
use Rattle.fa_image.specs.Image.{ImageAnswer, ImageCall, ImageMeets, ImageState, IsImage}
use Rattle.fa_io.specs.Streams.{Streams}
use Rattle.fa_machine.specs.World.{World}
use Rattle.fa_mount.specs.Standings.{AreApart}
use Rattle.fa_shared_steps.specs.Tasks.{end_of, task_of}
use Rattle.fa_mount_close_laws.specs.Drives.{AreHonest}
use Rattle.fa_session.specs.Exchanges.{Asked, Chain, Exchange, IsExchange, Makes, MayCome, NoneForData, NotAsked, Outcome}
use Rattle.fa_session.specs.Session.{Session}
use Rattle.fa_session.specs.declared.session_end.SessionEnd.{SessionEnd}
use Rattle.fa_solo.specs.Calls.{MakesWhole, bytes_of}
use Rattle.fa_solo.specs.Stores.{StoreMakes, StoreState}
use Rattle.fa_types.specs.Store.{Answer, Call, Flushing, IsAnswer, Meets, Reading, Store, Trimming, Writing, Zeroing}
use Rattle.std.proofs.Common.{Bool, List, Some, [], ap, arith, false, inl, inr, length, not, refl, subst, sym, true, ℕ}
use Rattle.std.proofs.Common.{◌+◌, ◌∙◌, ◌∷◌, ◌≡◌, ◌≤◌, ◌⊎◌}
use Rattle.std.proofs.lemmas.Bool.{ltb-false}
use Rattle.std.proofs.lemmas.Option.{none-some, same_Some}
use Rattle.std.specs.List.{AllByRecursion}
use Rattle.std.specs.Prelude.{◌==◌}

-- a call as a request with its bytes is that call
call_back : (call : Call) → asked_call (request_of call) (bytes_of call) ≡ call
call_back (Reading offset count) = refl
call_back (Writing offset bytes fua) = refl
call_back (Zeroing offset count fua hole) = refl
call_back (Trimming offset count fua) = refl
call_back Flushing = refl

has_bytes : (call : Call) → HasBytes (request_of call) (bytes_of call)
has_bytes (Reading offset count) = tt
has_bytes (Writing offset bytes fua) = refl
has_bytes (Zeroing offset count fua hole) = tt
has_bytes (Trimming offset count fua) = tt
has_bytes Flushing = tt

-- a request with a range that is to be done does not go past the end
not_past : (a b c d e f g : Bool) (code : ReplyCode)
    → first_of ((a, Leave) ∷ (b, Refuse Invalid) ∷ (c, Refuse Invalid) ∷ (d, Do) ∷ (e, Refuse Success) ∷ (f, Refuse Invalid) ∷ (g, Refuse code) ∷ []) Do
    ≡ Do → d ≡ false → g ≡ false
not_past true b c d e f g code is ranged = absurd (let no : Leave ≡ Do = is in cc)
not_past false true c d e f g code is ranged = absurd (let no : Refuse Invalid ≡ Do = is in cc)
not_past false false true d e f g code is ranged = absurd (let no : Refuse Invalid ≡ Do = is in cc)
not_past false false false true e f g code is ranged = absurd (let no : true ≡ false = ranged in cc)
not_past false false false false true f g code is ranged = absurd (let no : Refuse Success ≡ Do = is in cc)
not_past false false false false false true g code is ranged = absurd (let no : Refuse Invalid ≡ Do = is in cc)
not_past false false false false false false true code is ranged = absurd (let no : Refuse code ≡ Do = is in cc)
not_past false false false false false false false code is ranged = refl

within : (r : SentRequest) (size : ℕ) → (row_of r.command).has_range ≡ true → decision r size ≡ Do → r.offset + r.length ≤ size
unfolding decision
within r size ranged does =
    ltb-false size (r.offset + r.length)
    (not_past (is_disconnect r.command) (not (row_of r.command).is_served) (has_unknown_flag r) (not (row_of r.command).has_range) (r.length == 0)
    (is_too_long r) (is_past_end r size) (row_of r.command).past_end does (ap not ranged))

ends_inside : (r : SentRequest) (body : List ℕ) (size : ℕ) (call : Call) (command : Command) → r.command ≡ command
    → length body ≡ body_length r → decision r size ≡ Do → wanted_call command r body ≡ Some call → end_of (request_of call) ≤ size
ends_inside r body size call ReadIt is whole does asked =
    subst (λ (c : Call). end_of (request_of c) ≤ size) (same_Some (Reading r.offset r.length) call asked)
    (within r size (ap (λ (c : Command). (row_of c).has_range) is) does)
ends_inside r body size call WriteIt is whole does asked =
    subst (λ (c : Call). end_of (request_of c) ≤ size) (same_Some _ call asked)
    (let low = within r size (ap (λ (c : Command). (row_of c).has_range) is) does in
    let long : body_length r ≡ r.length = ap (λ (c : Command). body_length (record r { command = c })) is in omega (arith, low, whole, long))
ends_inside r body size call FlushIt is whole does asked =
    subst (λ (c : Call). end_of (request_of c) ≤ size) (same_Some Flushing call asked) (omega arith)
ends_inside r body size call TrimIt is whole does asked =
    subst (λ (c : Call). end_of (request_of c) ≤ size) (same_Some _ call asked)
    (within r size (ap (λ (c : Command). (row_of c).has_range) is) does)
ends_inside r body size call WriteZeroes is whole does asked =
    subst (λ (c : Call). end_of (request_of c) ≤ size) (same_Some _ call asked)
    (within r size (ap (λ (c : Command). (row_of c).has_range) is) does)
ends_inside r body size call Disconnect is whole does asked = absurd (none-some call asked)
ends_inside r body size call (Other number) is whole does asked = absurd (none-some call asked)

abbrev MeetsStore : Store → Call → Answer → Store → Type 0
MeetsStore before call answer after = Meets before call answer after

module _ {L M I A : Type 0} (view : I → ImageState) (honest : I → Bool) (made : I → ImageCall → ImageAnswer → I → Type 0)
    (whole : (image : I) → IsImage (view image))
    (meets : (before after : I) (call : ImageCall) (answer : ImageAnswer) → made before call answer after
    → ImageMeets (view before) (honest before) call answer (view after) (honest after)) (laws : StepLaws) (its : RequestLaws A) where
  abbrev Fair : StoreState L M I A → Type 0
  Fair store = AreHonest honest (image_on store.inner.dies.items store.inner.images.items)

  -- one exchange
  step_fair : (old : StoreState L M I A) (outcome : Outcome) (new : StoreState L M I A) → Makes (StoreMakes made) old outcome new → AreApart old.inner.dies.items → Fair new
      → Fair old
  step_fair old (Asked call answer) new makes apart fair =
      whole_fair view honest made whole meets laws.asks (task_of old.page_bytes (request_of call)) (bytes_of call) answer old.inner new.inner makes.4 apart
      fair
  step_fair old (NotAsked code) new same apart fair = subst Fair same fair
  step_fair old NoneForData new same apart fair = subst Fair same fair

  step_apart : (old : StoreState L M I A) (outcome : Outcome) (new : StoreState L M I A) → Makes (StoreMakes made) old outcome new → AreApart old.inner.dies.items
      → AreApart new.inner.dies.items
  step_apart old (Asked call answer) new makes apart =
      subst (λ (d : List Standing). AreApart d)
      (sym (call_dies made (task_of old.page_bytes (request_of call)) (bytes_of call) answer old.inner new.inner makes.4)) apart
  step_apart old (NotAsked code) new same apart = subst (λ (s : StoreState L M I A). AreApart s.inner.dies.items) (sym same) apart
  step_apart old NoneForData new same apart = subst (λ (s : StoreState L M I A). AreApart s.inner.dies.items) (sym same) apart

  chain_fair : (old : StoreState L M I A) (es : List Exchange) (new : StoreState L M I A) → Chain (StoreMakes made) old es new → AreApart old.inner.dies.items → Fair new
      → Fair old
  chain_fair old [] new same apart fair = subst Fair same fair
  chain_fair old (e ∷ es) new (middle, makes, chain) apart fair =
      step_fair old e.outcome middle makes apart
      (chain_fair middle es new chain (step_apart old e.outcome middle makes apart) fair)

  -- a world that runs lead to, behind one exchange, whatever became of it
  step_leads : (old : StoreState L M I A) (outcome : Outcome) (new : StoreState L M I A) → Makes (StoreMakes made) old outcome new → AreApart old.inner.dies.items
      → Fair new → (w : World) → IsWorldOf view old.inner w → (v : World) × IsWorldOf view new.inner v
  step_leads old (Asked call answer) new makes apart fair w of_old =
      call_leads view honest made whole meets laws.asks its (task_of old.page_bytes (request_of call)) (bytes_of call) answer old.inner new.inner makes.4 w
      of_old apart fair
  step_leads old (NotAsked code) new same apart fair w of_old = (w, subst (λ (s : StoreState L M I A). IsWorldOf view s.inner w) (sym same) of_old)
  step_leads old NoneForData new same apart fair w of_old = (w, subst (λ (s : StoreState L M I A). IsWorldOf view s.inner w) (sym same) of_old)

  pub chain_leads : (old : StoreState L M I A) (es : List Exchange) (new : StoreState L M I A) → Chain (StoreMakes made) old es new → AreApart old.inner.dies.items
      → Fair new → (w : World) → IsWorldOf view old.inner w → (v : World) × IsWorldOf view new.inner v
  chain_leads old [] new same apart fair w of_old = (w, subst (λ (s : StoreState L M I A). IsWorldOf view s.inner w) (sym same) of_old)
  chain_leads old (e ∷ es) new (middle, makes, chain) apart fair w of_old =
      let near = step_apart old e.outcome middle makes apart in
      let one = step_leads old e.outcome middle makes apart (chain_fair middle es new chain near fair) w of_old in
      chain_leads middle es new chain near fair one.0 one.1

  -- the world behind one exchange
  record Behind (w : World) (outcome : Outcome) (new : StoreState L M I A) : Type 0 where
    pub last : World
    pub store : IsStoreOf view new last
    pub asked : Makes MeetsStore (store_of w) outcome (store_of last)

  step_meets : (size : ℕ) (old : StoreState L M I A) (w : World) → IsStoreOf view old w → old.bytes ≡ size → (e : Exchange) → IsExchange size e
      → (outcome : Outcome) → MayCome size e.request e.body outcome → (new : StoreState L M I A) → (makes : Makes (StoreMakes made) old outcome new)
      → Fair new → Behind w outcome new ⊎ was_given_up made old outcome new makes
  step_meets size old w store long e right (Asked call answer) may new makes fair =
      let page : old.page_bytes ≡ w.core.page_map.geometry.page_bytes = store.page in
      let whole_call = subst (λ (n : ℕ). (c : MakesWhole made (task_of n (request_of call)) (bytes_of call) answer old.inner new.inner)
      × (IsGivenUp made (task_of n (request_of call)) (bytes_of call) answer old.inner new.inner c → was_given_up made old (Asked call answer) new makes)) page
      (makes.4, λ given_up. given_up) in
      let inside = ends_inside e.request e.body size call e.request.command refl right.whole_body may.0 may.1 in
      let met = call_meets view honest made whole meets laws its old.inner (request_of call) (bytes_of call) answer w store.owns store.idle.copying store.apart
      (let all = store.bytes in omega (arith, inside, long, all)) (has_bytes call)
      (subst (λ (c : Call). IsAnswer c answer) (sym (call_back call)) makes.2) new.inner whole_call.0 fair in
      elim met.meets_it [
        | inl meets_it ↦ elim (call_idle made (task_of old.page_bytes (request_of call)) (bytes_of call) answer old.inner new.inner makes.4 store.idle) [
          | inl idle ↦ inl (record {
            last = met.last;
            store = record {
              owns = met.of_new;
              bytes = makes.0 ∙ store.bytes ∙ sym meets_it.size;
              page = makes.1 ∙ store.page ∙ sym meets_it.page_bytes;
              idle = idle;
              apart = step_apart old (Asked call answer) new makes store.apart;
            };
            asked = subst (λ (c : Call). Meets (store_of w) c answer (store_of met.last)) (call_back call) meets_it;
          })
          | inr given_up ↦ inr given_up
        ]
        | inr given_up ↦ inr (whole_call.1 (inl given_up))
      ]
  step_meets size old w store long e right (NotAsked code) may new same fair =
      inl (record { last = w; store = subst (λ (s : StoreState L M I A). IsStoreOf view s w) (sym same) store; asked = refl })
  step_meets size old w store long e right NoneForData may new same fair =
      inl (record { last = w; store = subst (λ (s : StoreState L M I A). IsStoreOf view s w) (sym same) store; asked = refl })

  step_bytes : (old : StoreState L M I A) (outcome : Outcome) (new : StoreState L M I A) → Makes (StoreMakes made) old outcome new → new.bytes ≡ old.bytes
  step_bytes old (Asked call answer) new makes = makes.0
  step_bytes old (NotAsked code) new same = ap (λ (s : StoreState L M I A). s.bytes) same
  step_bytes old NoneForData new same = ap (λ (s : StoreState L M I A). s.bytes) same

  chain_meets : (size : ℕ) (old : StoreState L M I A) (w : World) → IsStoreOf view old w → old.bytes ≡ size → (es : List Exchange)
      → AllByRecursion (IsExchange size) es → (new : StoreState L M I A) → (chain : Chain (StoreMakes made) old es new) → Fair new
      → (last : World) × IsWorldOf view new.inner last × ((IsStoreOf view new last × Chain MeetsStore (store_of w) es (store_of last))
      ⊎ OneGivenUp made old es new chain)
  chain_meets size old w store long [] right new same fair =
      let now = subst (λ (s : StoreState L M I A). IsStoreOf view s w) (sym same) store in (w, now.owns, inl (now, refl))
  chain_meets size old w store long (e ∷ es) right new (middle, makes, chain) fair =
      let apart = step_apart old e.outcome middle makes store.apart in
      elim (step_meets size old w store long e right.0 e.outcome right.0.right middle makes (chain_fair middle es new chain apart fair)) [
        | inl one ↦
            let rest = chain_meets size middle one.last one.store (step_bytes old e.outcome middle makes ∙ long) es right.1 new chain fair in (
              rest.0,
              rest.1,
              elim rest.2 [
                | inl met ↦ inl (met.0, (store_of one.last, one.asked, met.1))
                | inr later ↦ inr (inr later)
              ],
            )
        | inr given_up ↦
            let led = chain_leads old (e ∷ es) new (middle, makes, chain) store.apart fair w store.owns in (led.0, led.1, inr (inl given_up))
      ]

  pub session_meets : (export : List ℕ) (streams : Streams) (old new : StoreState L M I A) (end : SessionEnd) (w : World) → IsStoreOf view old w
      → (session : Session (StoreMakes made) export old.bytes streams old new end) → Fair new
      → (last : World) × IsWorldOf view new.inner last × ((IsStoreOf view new last
      × Session MeetsStore export old.bytes streams (store_of w) (store_of last) end)
      ⊎ IsSessionGivenUp made export old.bytes streams old new end session)
  session_meets export streams old new end w store (inl (early, same)) fair =
      let now = subst (λ (s : StoreState L M I A). IsStoreOf view s w) (sym same) store in (w, now.owns, inl (now, inl (early, refl)))
  session_meets export streams old new end w store (inr t) fair =
      let all = chain_meets old.bytes old w store refl t.exchanges t.right new t.asked fair in (
        all.0,
        all.1,
        elim all.2 [
          | inl met ↦ inl (
            met.0,
            inr (record {
              heard = t.heard;
              said = t.said;
              exchanges = t.exchanges;
              last = t.last;
              written = t.written;
              missing = t.missing;
              negotiates = t.negotiates;
              was_read = t.was_read;
              was_written = t.was_written;
              output = t.output;
              right = t.right;
              asked = met.1;
              ends = t.ends;
            }),
          )
          | inr given_up ↦ inr given_up
        ],
      )

-- nothing is open behind calls, or one was given up
module _ {L M I A : Type 0} (made : I → ImageCall → ImageAnswer → I → Type 0) where
  step_idle : (old : StoreState L M I A) (outcome : Outcome) (new : StoreState L M I A) → (makes : Makes (StoreMakes made) old outcome new)
      → IsIdle old.inner.locked.core → IsIdle new.inner.locked.core ⊎ was_given_up made old outcome new makes
  step_idle old (Asked call answer) new makes idle =
      call_idle made (task_of old.page_bytes (request_of call)) (bytes_of call) answer old.inner new.inner makes.4 idle
  step_idle old (NotAsked code) new same idle = inl (subst (λ (s : StoreState L M I A). IsIdle s.inner.locked.core) (sym same) idle)
  step_idle old NoneForData new same idle = inl (subst (λ (s : StoreState L M I A). IsIdle s.inner.locked.core) (sym same) idle)

  pub chain_idle : (old : StoreState L M I A) → IsIdle old.inner.locked.core → (es : List Exchange) (new : StoreState L M I A)
      → (chain : Chain (StoreMakes made) old es new) → IsIdle new.inner.locked.core ⊎ OneGivenUp made old es new chain
  chain_idle old idle [] new same = inl (subst (λ (s : StoreState L M I A). IsIdle s.inner.locked.core) (sym same) idle)
  chain_idle old idle (e ∷ es) new (middle, makes, chain) =
      elim (step_idle old e.outcome middle makes idle) [
        | inr given_up ↦ inr (inl given_up)
        | inl then ↦ elim (chain_idle middle then es new chain) [
          | inl last ↦ inl last
          | inr later ↦ inr (inr later)
        ]
      ]

-- a connection to a store whose calls are these
module _ {L M I A : Type 0} (S : Type 0) (makes : S → Call → Answer → S → Type 0) (seen : S → StoreState L M I A)
    (made : I → ImageCall → ImageAnswer → I → Type 0)
    (is : (before after : S) (call : Call) (answer : Answer) → makes before call answer after
    → StoreMakes made (seen before) call answer (seen after)) where
  step_seen : (old : S) (outcome : Outcome) (new : S) → Makes makes old outcome new → Makes (StoreMakes made) (seen old) outcome (seen new)
  step_seen old (Asked call answer) new it = is old new call answer it
  step_seen old (NotAsked code) new same = ap seen same
  step_seen old NoneForData new same = ap seen same

  chain_seen : (old : S) (es : List Exchange) (new : S) → Chain makes old es new → Chain (StoreMakes made) (seen old) es (seen new)
  chain_seen old [] new same = ap seen same
  chain_seen old (e ∷ es) new (middle, it, chain) = (seen middle, step_seen old e.outcome middle it, chain_seen middle es new chain)

  pub session_seen : (export : List ℕ) (size : ℕ) (streams : Streams) (old new : S) (end : SessionEnd) → Session makes export size streams old new end
      → Session (StoreMakes made) export size streams (seen old) (seen new) end
  session_seen export size streams old new end (inl (early, same)) = inl (early, ap seen same)
  session_seen export size streams old new end (inr t) = inr (record {
    heard = t.heard;
    said = t.said;
    exchanges = t.exchanges;
    last = t.last;
    written = t.written;
    missing = t.missing;
    negotiates = t.negotiates;
    was_read = t.was_read;
    was_written = t.was_written;
    output = t.output;
    right = t.right;
    asked = chain_seen old t.exchanges new t.asked;
    ends = t.ends;
  })
