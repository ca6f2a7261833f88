-- What the deeds of the store leave of that on which a refusal rests: no die comes in where none is live, and no counter falls.
use Rattle.fa_solo_laws.proofs.Causes.{none_counted, none_of}
use Rattle.fa_solo_laws.proofs.Going.{Laws}
use Rattle.fa_solo_laws.proofs.Gone.{done_live}
use Rattle.fa_solo_laws.proofs.RestKept.{BeginsNoCopy, GivesNoNumber, event_keeps}
use Rattle.fa_solo_laws.specs.Shown.{is_spent, store_of}
use Rattle.fa_solo_laws.proofs.Around.{IsKept}
use Rattle.fa_solo_laws.proofs.DrivenDeeds.{reads_goes, settles_goes}
use Rattle.fa_solo_laws.specs.Driving.{IsForCopy, IsForRead}
use Rattle.fa_mount_headers.specs.declared.judging.Standing.{Standing}
use Rattle.fa_image.specs.Image.{ImageAnswer, ImageCall}
use Rattle.fa_laws.specs.Kept.{KeepsRound}
use Rattle.fa_laws.specs.Syncing.{KeepsFlushes}
use Rattle.fa_machine.specs.Maps.{Numbers}
use Rattle.fa_machine.specs.State.{Core, is_live}
use Rattle.fa_machine.specs.Step.{Act, Admit, Advance, CommitCopy, Done, EndBatch, Fold, ReserveCopy, SpareIn, Step, Take, Window}
use Rattle.fa_machine.specs.Turning.{CommitsCopy}
use Rattle.fa_machine.specs.declared.answers.Copied.{Copied}
use Rattle.fa_machine.specs.declared.answers.Copied.TheVariants.{Current, Late}
use Rattle.fa_machine.specs.declared.places.Copying.{Copying}
use Rattle.fa_machine.specs.declared.refusals.CommitCopyRefused.{CommitCopyRefused}
use Rattle.fa_machine.specs.declared.refusals.CommitCopyRefused.TheVariants.{Failed, Pending}
use Rattle.fa_machine.specs.declared.refusals.SpareRefused.TheVariants.{NotSpare}
use Rattle.fa_solo_job.specs.Deeds.{Goes, IsDue, IsForDies, IsForOrder, Makes, MakesJob, Runs, Stays}
use Rattle.fa_solo_job.specs.House.{House}
use Rattle.fa_solo_job.specs.Orders.{Commits, Copies, CopiesPage, Deals, Endless, IsOver, Orders, Reads, Rests, Settles, looks_in, looks_of}
use Rattle.fa_machine.specs.World.{World}
use Rattle.fa_types.specs.Store.{HasCause, IsMet}
use Rattle.fa_types.specs.declared.blocks.BlockFault.{BlockFault}
use Rattle.fa_types.specs.declared.blocks.BlockFault.TheVariants.{Lost, NoMemory as OutOfMemory, NoRoom, Spent}
use Rattle.fa_shared.specs.Spares.{live_below, wants_spare}
use Rattle.std.proofs.Common.{List, None, Ok, Err, Option, Result, Some, [], ap, arith, eq-eqb, eqb-true, inl, inr, refl, subst, sym, true, ℕ}
use Rattle.std.proofs.Common.{◌++◌, ◌-◌, ◌^◌, ◌∙◌, ◌∷◌, ◌≡◌, ◌≤◌, ◌⊎◌}
use Rattle.std.proofs.lemmas.Bool.{and_parts, cases_Bool, false≢true, leb-true, lt-ltb, ltb-true, or_cases, or_left, or_right}
use Rattle.std.specs.List.{list_any}
use Rattle.std.specs.FinMap.{contains_key, get, contains_key-keys, entries, keys, len, len-entries}
use Rattle.std.specs.Prelude.{length, ◌==◌}
use Rattle.std.proofs.lemmas.List.{length-map}

-- no die is live
abbrev pub HasNoDie : Core → Type 0
HasNoDie core = (die : ℕ) → is_live core.page_map die ≡ true → ⊥

pub record IsBehind (old new : Core) : Type 0 where
  pub geometry : new.page_map.geometry ≡ old.page_map.geometry
  pub last : new.last ≡ old.last
  pub flushes : new.flushes ≡ old.flushes
  pub round : old.calendar.round ≤ new.calendar.round
  pub none : HasNoDie old → HasNoDie new

-- the events that the store makes besides those of its requests
abbrev pub IsBeside : Act → Type 0
IsBeside (Admit pages answer) = Unit {0}
IsBeside (EndBatch batch answers) = Unit {0}
IsBeside (Take die seat answer) = Unit {0}
IsBeside (Done die outcome) = Unit {0}
IsBeside (Window die rounds answer) = Unit {0}
IsBeside (Advance answer) = Unit {0}
IsBeside (SpareIn die answer) = Unit {0}
IsBeside (ReserveCopy page seq payload answer) = Unit {0}
IsBeside (CommitCopy answer) = Unit {0}
IsBeside Fold = Unit {0}
IsBeside act = ⊥

behind_itself : (core : Core) → IsBehind core core
behind_itself core = record { geometry = refl; last = refl; flushes = refl; round = omega arith; none = λ none. none }

behind_more : (a b c : Core) → IsBehind a b → IsBehind b c → IsBehind a c
behind_more a b c one two = record {
  geometry = two.geometry ∙ one.geometry;
  last = two.last ∙ one.last;
  flushes = two.flushes ∙ one.flushes;
  round = omega (arith, one.round, two.round);
  none = λ none. two.none (one.none none);
}

no_key : (m : Numbers) (k : ℕ) → len m ≡ 0 → contains_key m k ≡ true → ⊥
no_key m k none here = by_keys (keys m) refl
  where
    by_keys : (ks : List ℕ) → keys m ≡ ks → ⊥
    by_keys [] e = false≢true (sym (contains_key-keys m k ∙ ap (list_any _) e) ∙ here)
    by_keys (x ∷ xs) e = let long = len-entries m ∙ sym (length-map (entries m) (λ e. e.0)) ∙ ap length e in omega (arith, none, long)

same_live : (old new : Core) → new.page_map.live ≡ old.page_map.live → HasNoDie old → HasNoDie new
same_live old new same none die live = none die (sym (ap (λ (m : Numbers). contains_key m die) same) ∙ live)

-- a spare is wanted only while a die is live
none_wanted : (core : Core) → wants_spare core.page_map ≡ true → HasNoDie core → ⊥
none_wanted core wants none =
    let some = leb-true 1 (live_below core.page_map core.page_map.geometry.dies) (and_parts _ _ wants).0 in
    let zero = none_counted (is_live core.page_map) 0 core.page_map.geometry.dies
    (λ die from low. elim (cases_Bool (is_live core.page_map die)) [ inl live ↦ absurd (none die live) | inr dead ↦ dead ]) in
    omega (arith, some, zero)

begins_none : (act : Act) → IsBeside act → GivesNoNumber act
begins_none (Admit pages answer) is = tt
begins_none (EndBatch batch answers) is = tt
begins_none (Take die seat answer) is = tt
begins_none (Done die outcome) is = tt
begins_none (Window die rounds answer) is = tt
begins_none (Advance answer) is = tt
begins_none (SpareIn die answer) is = tt
begins_none (ReserveCopy page seq payload answer) is = tt
begins_none (CommitCopy answer) is = tt
begins_none Fold is = tt
begins_none act is = absurd is

flushes_by : (old new : Core) (act : Act) → IsBeside act → KeepsFlushes old act new → new.flushes ≡ old.flushes
flushes_by old new (Admit pages answer) is same = same
flushes_by old new (EndBatch batch answers) is same = same
flushes_by old new (Take die seat answer) is same = same
flushes_by old new (Done die outcome) is same = same
flushes_by old new (Window die rounds answer) is same = same
flushes_by old new (Advance answer) is same = same
flushes_by old new (SpareIn die answer) is same = same
flushes_by old new (ReserveCopy page seq payload answer) is same = same
flushes_by old new (CommitCopy answer) is same = same
flushes_by old new Fold is same = same
flushes_by old new act is same = absurd is

round_by : (old new : Core) (act : Act) → KeepsRound old act new → old.calendar.round ≤ new.calendar.round
round_by old new (Advance (Ok round)) kept = omega (arith, kept.0, kept.1)
round_by old new (Advance (Err refused)) same = omega (arith, same)
round_by old new act same = omega (arith, same)

pub dies_beside : (act : Act) → IsForDies act → IsBeside act
dies_beside (Take die seat None) may = tt
dies_beside (Window die rounds answer) may = tt
dies_beside (Advance answer) may = tt
dies_beside Fold may = tt
dies_beside act may = absurd may

order_beside : (act : Act) → IsForOrder act → IsBeside act
order_beside (Admit (page ∷ []) (Err refused)) may = tt
order_beside (ReserveCopy page seq payload (Err refused)) may = tt
order_beside (Take die seat None) may = tt
order_beside (Window die rounds answer) may = tt
order_beside (Advance answer) may = tt
order_beside (SpareIn die answer) may = tt
order_beside Fold may = tt
order_beside act may = absurd may

read_beside : (act : Act) → IsForRead act → IsBeside act
read_beside (Admit (page ∷ []) answer) may = tt
read_beside (EndBatch batch answers) may = tt
read_beside (Take die seat None) may = tt
read_beside (Window die rounds answer) may = tt
read_beside (Advance answer) may = tt
read_beside Fold may = tt
read_beside act may = absurd may

copy_beside : (act : Act) → IsForCopy act → IsBeside act
copy_beside (CommitCopy answer) may = tt
copy_beside (Take die seat None) may = tt
copy_beside (Window die rounds answer) may = tt
copy_beside (Advance answer) may = tt
copy_beside Fold may = tt
copy_beside act may = absurd may

-- the laws of single events
pub record StepLaws : Type 0 where
  pub asks : Laws
  pub flushes : (old new : Core) (act : Act) → Step old act new → KeepsFlushes old act new
  pub rounds : (old new : Core) (act : Act) → Step old act new → KeepsRound old act new

module _ (laws : StepLaws) where
  live_by : (old new : Core) (act : Act) → IsDue old act → Step old act new → HasNoDie old → HasNoDie new
  live_by old new (Done out outcome) due step none =
      λ die live. none die (done_live laws.asks.lives laws.asks.spares old new out (get old.jobs out) outcome step.does die live)
  live_by old new (SpareIn d (Ok made)) due step none = absurd (none_wanted old due none)
  live_by old new (SpareIn d (Err NotSpare)) due step none = same_live old new (ap (λ (c : Core). c.page_map.live) step.does.1) none
  live_by old new act due step none = same_live old new (laws.asks.lives old new act step) none

  pub step_behind : (old new : Core) (act : Act) → IsBeside act → IsDue old act → Step old act new → IsBehind old new
  step_behind old new act beside due step = record {
    geometry = laws.asks.geometry old new act step;
    last = (event_keeps old act new step.does).2 (begins_none act beside);
    flushes = flushes_by old new act beside (laws.flushes old new act step);
    round = round_by old new act (laws.rounds old new act step);
    none = live_by old new act due step;
  }

  module _ {I : Type 0} (made : I → ImageCall → ImageAnswer → I → Type 0) (array : List ℕ) (dies : List Standing) (seat : ℕ) where
    job_behind : (die : ℕ) (old new : House I) → MakesJob made array dies seat die old new → IsBehind old.core new.core
    job_behind die old new job =
        behind_more old.core job.taken new.core (step_behind old.core job.taken (Take die seat (Some job.job)) tt tt job.takes)
        (step_behind job.taken new.core (Done die job.outcome) tt tt job.ends)

    pub goes_behind : (P : Act → Type 0) → ((act : Act) → P act → IsBeside act) → (old new : House I) → Goes made array dies seat P old new
        → IsBehind old.core new.core
    goes_behind P beside old new Stays = behind_itself old.core
    goes_behind P beside old new (Makes middle here act before may due step images) =
        behind_more old.core middle.core new.core (goes_behind P beside old middle before)
        (step_behind middle.core new.core act (beside act may) due step)
    goes_behind P beside old new (Runs middle here die before job) =
        behind_more old.core middle.core new.core (goes_behind P beside old middle before) (job_behind die middle new job)

    copies_behind : (old new : House I) → CopiesPage made array dies seat old new → IsBehind old.core new.core
    copies_behind old new c =
        behind_more old.core c.asked.core new.core
        (step_behind old.core c.asked.core (Admit (c.page ∷ []) (Ok c.admitted)) tt c.due c.asks)
        (behind_more c.asked.core c.waited.core new.core (goes_behind IsForDies dies_beside c.asked c.waited c.waits)
        (behind_more c.waited.core c.ended.core new.core
        (step_behind c.waited.core c.ended.core (EndBatch c.admitted.batch.0 (c.others ++ (c.given, c.bytes) ∷ [])) tt tt c.ends)
        (step_behind c.ended.core new.core (ReserveCopy c.page c.version.seq.0 c.bytes (Ok tt)) tt tt c.reserves)))

    pub order_behind : (old new : House I) → Orders made array dies seat old new → IsBehind old.core new.core
    order_behind old new Rests = behind_itself old.core
    order_behind old new (Deals middle here before goes) =
        behind_more old.core middle.core new.core (order_behind old middle before)
        (goes_behind IsForOrder order_beside middle new goes)
    order_behind old new (Reads middle here before reads) =
        behind_more old.core middle.core new.core (order_behind old middle before)
        (goes_behind IsForRead read_beside middle new (reads_goes made array dies seat middle new reads))
    order_behind old new (Copies middle copied here before copy settles) =
        behind_more old.core middle.core new.core (order_behind old middle before)
        (behind_more middle.core copied.core new.core (copies_behind middle copied copy)
        (goes_behind IsForCopy copy_beside copied new (settles_goes made array dies seat copied new settles)))

-- a copy that was begun has ended, unless it was looked at in vain too often
ends_copy : (old new : Core) (c : Option Copying) (answer : Result Copied CommitCopyRefused) → (answer ≡ Err Pending → ⊥)
    → CommitsCopy old c answer new → new.copying ≡ None
ends_copy old new None answer ends d = absurd d
ends_copy old new (Some c) (Ok Current) ends d = ap (λ (k : Core). k.copying) d.2
ends_copy old new (Some c) (Ok Late) ends d = ap (λ (k : Core). k.copying) d.2
ends_copy old new (Some c) (Err Pending) ends d = absurd (ends refl)
ends_copy old new (Some c) (Err Failed) ends d = ap (λ (k : Core). k.copying) d.1

read_free : (act : Act) → IsForRead act → BeginsNoCopy act
read_free (ReserveCopy page seq payload (Ok done)) may = may
read_free act may = tt

pub order_free : (act : Act) → IsForOrder act → BeginsNoCopy act
order_free (ReserveCopy page seq payload (Ok done)) may = may
order_free act may = tt

module _ {I : Type 0} (made : I → ImageCall → ImageAnswer → I → Type 0) (array : List ℕ) (dies : List Standing) (seat : ℕ) where
  pub goes_free : (P : Act → Type 0) → ((act : Act) → P act → BeginsNoCopy act) → (old new : House I) → Goes made array dies seat P old new
      → old.core.copying ≡ None → new.core.copying ≡ None
  goes_free P begins old new Stays free = free
  goes_free P begins old new (Makes middle here act before may due step images) free =
      (event_keeps middle.core act new.core step.does).1 (begins act may) (goes_free P begins old middle before free)
  goes_free P begins old new (Runs middle here die before job) free =
      (event_keeps job.taken (Done die job.outcome) new.core job.ends.does).1 tt
      ((event_keeps middle.core (Take die seat (Some job.job)) job.taken job.takes.does).1 tt (goes_free P begins old middle before free))

  settles_free : (old new : House I) → (settles : Settles made array dies seat old new)
      → (new.core.copying ≡ None) ⊎ (2 ^ 64 - 1 ≤ looks_of made array dies seat old new settles)
  settles_free old new (Commits looks middle here answer looked ends step images) =
      inl (ends_copy middle.core new.core middle.core.copying answer ends step.does)
  settles_free old new (IsOver looks here looked none) = inl none
  settles_free old new (Endless looks here looked many) = inr many

  -- no copy is under way, or one was looked at in vain too often
  pub orders_free : (old new : House I) → (orders : Orders made array dies seat old new) → old.core.copying ≡ None
      → (new.core.copying ≡ None) ⊎ (2 ^ 64 - 1 ≤ looks_in made array dies seat old new orders)
  orders_free old new Rests free = inl free
  orders_free old new (Deals middle here before goes) free =
      elim (orders_free old middle before free) [
        | inl none ↦ inl (goes_free IsForOrder order_free middle new goes none)
        | inr many ↦ inr many
      ]
  orders_free old new (Reads middle here before reads) free =
      elim (orders_free old middle before free) [
        | inl none ↦ inl (goes_free IsForRead read_free middle new (reads_goes made array dies seat middle new reads) none)
        | inr many ↦ inr many
      ]
  orders_free old new (Copies middle copied here before copy settles) free =
      elim (settles_free copied new settles) [
        | inl none ↦ inl none
        | inr many ↦ inr (omega (arith, many))
      ]

-- a cause is one still behind it, but that there was no room
spent_still : (old new : Core) → IsBehind old new → is_spent old ≡ true → is_spent new ≡ true
spent_still old new behind is =
    elim (or_cases _ _ is) [
      | inl before ↦ elim (or_cases _ _ before) [
        | inl number ↦ or_left _ _ (or_left _ _ (ap (λ (n : ℕ). n == 2 ^ 62 - 1) behind.last ∙ number))
        | inr late ↦ or_left _ _ (or_right _ _
            (lt-ltb (2 ^ 56 - 2 ^ 24) new.calendar.round
            (let was = ltb-true (2 ^ 56 - 2 ^ 24) old.calendar.round late in omega (arith, was, behind.round))))
      ]
      | inr flushes ↦ or_right _ _ (ap (λ (n : ℕ). n == 2 ^ 62) behind.flushes ∙ flushes)
    ]

pub cause_behind : (w v : World) → IsKept (store_of w) (store_of v) → IsBehind w.core v.core → (fault : BlockFault) → (fault ≡ NoRoom → ⊥)
    → (offset len : ℕ) → HasCause (store_of w) offset len fault → HasCause (store_of v) offset len fault
cause_behind w v kept behind Lost room offset count (inl none) =
    inl (eq-eqb (len v.core.page_map.live) 0
    (none_of v.core.page_map.live (behind.none (λ die live. no_key w.core.page_map.live die (eqb-true (len w.core.page_map.live) 0 none) live))))
cause_behind w v kept behind Lost room offset count (inr (page, lost, met)) =
    inr (page, kept.lost page lost, subst (λ (n : ℕ). IsMet n offset count page) (sym kept.page_bytes) met)
cause_behind w v kept behind NoRoom room offset count none = absurd (room refl)
cause_behind w v kept behind OutOfMemory room offset count none = tt
cause_behind w v kept behind Spent room offset count spent = spent_still w.core v.core behind spent
