-- Small steps for scenes.
use Rattle.fa_laws.proofs.Scene.{Bytes, IsTargetAt, IsToCome, JobFits, Owned, Places, Scene, Sound, Stands, flight_writes}
use Rattle.fa_machine.specs.Among.{Among}
use Rattle.fa_laws.proofs.Scene.{is_settled, program_is_at, programs_at, writes}
use Rattle.fa_machine.specs.Among.{tally}
use Rattle.fa_machine.specs.State.{WaitingProgram, is_live}
use Rattle.fa_machine.specs.declared.jobs.Flight.{Flight}
use Rattle.fa_machine.specs.declared.jobs.Flight.TheVariants.{Erase, Header, Move, Program, Read, Sync}
use Rattle.fa_machine.specs.declared.places.Target.{Target}
use Rattle.fa_machine.specs.declared.places.Used.{Used}
use Rattle.fa_machine.specs.declared.places.Used.TheVariants.{Held, Reserved, Stale}
use Rattle.fa_machine.specs.declared.places.Version.{Version}
use Rattle.fa_types.specs.declared.numbers.Page.{Page}
use Rattle.std.proofs.Common.{Bool, List, None, Option, Some, [], ap, arith, eq-eqb, eqb-true, false, inl, inr, refl, subst, sym, true}
use Rattle.std.proofs.Common.{ℕ, ◌+◌, ◌∙◌, ◌∷◌, ◌≡◌, ◌≤◌, ◌⊎◌}
use Rattle.std.proofs.lemmas.Bool.{and_from, and_parts, cases_lt, false≢true, true≢false}
use Rattle.std.specs.Prelude.{if◌then◌else◌, ◌==◌}

pub moved_stands : (b : Bytes) (page page' : ℕ) (v v' : Version) (die die' slot slot' : ℕ) → page ≡ page' → v ≡ v' → die ≡ die' → slot ≡ slot'
    → Stands b page v die slot → Stands b page' v' die' slot'
moved_stands b page page' v v' die die' slot slot' e f g k h =
    let path : ◌≡◌ {A = ℕ × Version × ℕ × ℕ} (page, v, die, slot) (page', v', die', slot') = λ i. (e i, f i, g i, k i) in
    subst (λ t. Stands b t.0 t.1 t.2 t.3) path h

-- a held slot holds one page with one number
abbrev held_page : Option Used → ℕ
held_page (Some (Held page version)) = page.0
held_page used = 0

abbrev held_version : Version → Option Used → Version
held_version v (Some (Held page version)) = version
held_version v used = v

pub same_held : (page page' : Page) (v v' : Version) → Some (Held page v) ≡ Some (Held page' v') → (page.0 ≡ page'.0) × (v ≡ v')
same_held page page' v v' e = (ap held_page e, ap (held_version v) e)

abbrev is_kept : Option Used → Bool
is_kept (Some Reserved) = true
is_kept used = false

abbrev is_held_here : Option Used → Bool
is_held_here (Some (Held page version)) = true
is_held_here used = false

pub kept≢held : (o : Option Used) (page : Page) (v : Version) → o ≡ Some Reserved → o ≡ Some (Held page v) → ⊥
kept≢held o page v a b = true≢false (ap is_kept (sym a ∙ b))

pub kept≢none : (o : Option Used) → o ≡ Some Reserved → o ≡ None → ⊥
kept≢none o a b = true≢false (ap is_kept (sym a ∙ b))

pub held≢stale : (page : Page) (v : Version) → Some (Held page v) ≡ Some Stale → ⊥
held≢stale page v e = true≢false (ap is_held_here e)

pub kept≢settled : (o : Option Used) → o ≡ Some Reserved → is_settled o ≡ true → ⊥
kept≢settled o a b = false≢true (sym (ap is_settled a) ∙ b)

pub none≢settled : (o : Option Used) → o ≡ None → is_settled o ≡ true → ⊥
none≢settled o a b = false≢true (sym (ap is_settled a) ∙ b)

-- a target at a place, seen from other numbers of the same place
pub target_at : (own : Option ℕ → Option Owned) (die die' slot slot' : ℕ) (q : Option ℕ) (x : Owned) (t : Target) → die ≡ die' → slot ≡ slot'
    → IsTargetAt own die slot q x t → IsTargetAt own die' slot' q x t
target_at own die die' slot slot' q x t e f at =
    record { owns = at.owns; among = at.among; on_die = at.on_die ∙ e; at_slot = at.at_slot ∙ f }

-- a slot of a live die in which a target lies is kept
pub target_kept : (s : Scene) → Sound s → (die slot : ℕ) (q : Option ℕ) (x : Owned) (t : Target) → IsTargetAt s.places.own die slot q x t
    → s.places.live die ≡ true → s.places.used die slot ≡ Some Reserved
target_kept s h die slot q x t at is_live =
    let kept = ((h.owned q x at.owns).targets t at.among).kept (ap s.places.live at.on_die ∙ is_live) in
    sym (λ i. s.places.used (at.on_die i) (at.at_slot i)) ∙ kept

one_or_none : (b : Bool) (n : ℕ) → 1 ≤ (if b then 1 else 0) + n → (b ≡ true) ⊎ (1 ≤ n)
one_or_none true n h = inl refl
one_or_none false n h = inr (omega arith)

pub some_waits : (die slot : ℕ) (ws : List WaitingProgram) → 1 ≤ tally (program_is_at die slot) ws
    → (w : WaitingProgram) × Among w ws × (w.die ≡ die) × (w.slot ≡ slot)
some_waits die slot [] h = absurd (omega arith)
some_waits die slot (w ∷ ws) h =
    elim (one_or_none (program_is_at die slot w) (tally (program_is_at die slot) ws) h) [
      | inl here ↦
          let parts = and_parts (w.die == die) (w.slot == slot) here in
          (w, inl refl, eqb-true w.die die parts.0, eqb-true w.slot slot parts.1)
      | inr more ↦ let rest = some_waits die slot ws more in (rest.0, inr rest.1, rest.2, rest.3)
    ]

is_here : (die slot : ℕ) (w : WaitingProgram) → w.die ≡ die → w.slot ≡ slot → program_is_at die slot w ≡ true
is_here die slot w e f = and_from (w.die == die) (w.slot == slot) (eq-eqb w.die die e) (eq-eqb w.slot slot f)

one_more : (b : Bool) (n : ℕ) → b ≡ true → 1 ≤ (if b then 1 else 0) + n
one_more true n e = omega arith
one_more false n e = absurd (false≢true e)

at_least : (b : Bool) (n : ℕ) → 1 ≤ n → 1 ≤ (if b then 1 else 0) + n
at_least true n h = omega arith
at_least false n h = omega arith

-- a program that waits for a slot is counted there
pub waits_once : (die slot : ℕ) (ws : List WaitingProgram) (w : WaitingProgram) → Among w ws → w.die ≡ die → w.slot ≡ slot
    → 1 ≤ tally (program_is_at die slot) ws
waits_once die slot [] w i e f = absurd i
waits_once die slot (v ∷ ws) w (inl same) e f = one_more (program_is_at die slot v) _ (is_here die slot v (ap (λ (u : WaitingProgram). u.die) same ∙ e) (ap (λ (u : WaitingProgram). u.slot) same ∙ f))
waits_once die slot (v ∷ ws) w (inr more) e f = at_least (program_is_at die slot v) _ (waits_once die slot ws w more e f)

if_here : (a slot : ℕ) → 1 ≤ (if a == slot then 1 else 0) → a ≡ slot
if_here a slot h =
    elim (a == slot) as (λ b. (a == slot) ≡ b → 1 ≤ (if b then 1 else 0) → a ≡ slot) [
      | true ↦ λ e h. eqb-true a slot e
      | false ↦ λ e h. absurd (omega arith)
    ] refl h

pub written_here : (a slot : ℕ) → a ≡ slot → ◌≡◌ {A = ℕ} (if a == slot then 1 else 0) 1
written_here a slot e = ap {B = ℕ} (λ b. if b then 1 else 0) (eq-eqb a slot e)

flight_kept : (b : Bytes) (p : Places) (in_block : ℕ → ℕ → Bool) (due : List ℕ) (die : ℕ) (flight : Flight) (payload : List ℕ) (slot : ℕ)
    → JobFits b p in_block due die flight payload → 1 ≤ flight_writes flight slot → p.used die slot ≡ Some Reserved
flight_kept b p in_block due die (Program page version s) payload slot fits h = ap (p.used die) (sym (if_here s.0 slot h)) ∙ fits.place.kept
flight_kept b p in_block due die (Move page version from to) payload slot fits h = ap (p.used die) (sym (if_here to.0 slot h)) ∙ fits.kept
flight_kept b p in_block due die (Read batch page version s) payload slot fits h = absurd (omega arith)
flight_kept b p in_block due die (Header epoch live) payload slot fits h = absurd (omega arith)
flight_kept b p in_block due die (Erase block) payload slot fits h = absurd (omega arith)
flight_kept b p in_block due die (Sync flushes) payload slot fits h = absurd (omega arith)

-- a slot to which a program is to come is kept
pub to_come_kept : (s : Scene) → Sound s → (die slot : ℕ) → 1 ≤ programs_at s.waiting s.works die slot → s.places.used die slot ≡ Some Reserved
to_come_kept s h die slot n =
    elim (s.works die) as (λ o. s.works die ≡ o → 1 ≤ tally (program_is_at die slot) s.waiting + writes o slot → s.places.used die slot ≡ Some Reserved) [
      | None ↦ λ is n. waiting (omega arith)
      | Some work ↦ λ is n. elim (cases_lt 0 (tally (program_is_at die slot) s.waiting)) [
        | inl some ↦ waiting some
        | inr none ↦ flight_kept s.bytes s.places s.in_block (s.due die) die work.job.flight work.job.payload slot (h.works die work is).job (omega arith)
      ]
    ] refl n
  where
    waiting : 1 ≤ tally (program_is_at die slot) s.waiting → s.places.used die slot ≡ Some Reserved
    waiting n =
        let w = some_waits die slot s.waiting n in
        sym (λ i. s.places.used (w.2 i) (w.3 i)) ∙ (h.waits w.0 w.1).place.kept

pub moved_to_come : (p : Places) (die die' slot slot' page page' : ℕ) (v v' : Version) → die ≡ die' → slot ≡ slot' → page ≡ page' → v ≡ v'
    → IsToCome p die slot page v → IsToCome p die' slot' page' v'
moved_to_come p die die' slot slot' page page' v v' e f g k h =
    let path : ◌≡◌ {A = ℕ × ℕ × ℕ × Version} (die, slot, page, v) (die', slot', page', v') = λ i. (e i, f i, g i, k i) in
    subst (λ t. IsToCome p t.0 t.1 t.2 t.3) path h
