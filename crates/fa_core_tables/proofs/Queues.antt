-- The queues of dies as the programs that wait change.
use Rattle.std.proofs.Common.{◌≡◌, ℕ, ◌+◌, ◌<◌, ◌≤◌, ◌==◌, ◌&&◌, not, zero, suc, Bool, true, false, List, [], ◌∷◌, ◌++◌, ap, cond}
use Rattle.std.proofs.Common.{inl, inr, length, map, refl, set, get_or, sym, ◌∙◌, arith}
use Rattle.std.proofs.lemmas.Bool.{cases_eq, cases_lt, eq-eqb, eqb-true, ne_eqb}
use Rattle.std.proofs.lemmas.List.{append-nil, get_or-map, get_or_past, get_or-set_other, get_or-set_same, length-map, map-set}
use Rattle.std.proofs.lemmas.List.Elements.{filter-append}
use Rattle.std.specs.List.{after_first, before_first}
use Rattle.std.specs.Prelude.{filter, if◌then◌else◌}
use Rattle.std.specs.declared.collections.VecDeque.{VecDeque}
use Rattle.fa_machine.proofs.Lists.{cut_first}
use Rattle.fa_machine.specs.State.{WaitingProgram}
use Rattle.fa_machine.specs.Taking.{is_for}
use Rattle.fa_core_tables.specs.Queues.{AreQueues, programs_in, queues_in, room_in}
use Rattle.fa_core_tables.specs.declared.queued.QueuedProgram.{QueuedProgram}
use Rattle.fa_core_tables.proofs.Filters.{filter_agree, filter_all, filter_nothing, filter_others, filter_rest, tail_of}

-- ## One list of all that waits

for_one : (die d : ℕ) → (d ≡ die → ⊥) → (p : WaitingProgram) → is_for die p ≡ true → is_for d p ≡ false
for_one die d off p is = ne_eqb p.die d (λ same. off (sym same ∙ eqb-true p.die die is))

for_other : (die d : ℕ) → (d ≡ die → ⊥) → (p : WaitingProgram) → is_for d p ≡ true → (p.die == die) ≡ false
for_other die d off p is = ne_eqb p.die die (λ same. off (sym (eqb-true p.die d is) ∙ same))

-- one more program waits
pub pushed_here : (waiting : List WaitingProgram) (p : WaitingProgram)
    → filter (is_for p.die) (waiting ++ p ∷ []) ≡ filter (is_for p.die) waiting ++ p ∷ []
pushed_here waiting p =
    filter-append (is_for p.die) waiting (p ∷ [])
    ∙ ap (λ (b : Bool). filter (is_for p.die) waiting ++ cond b (p ∷ []) []) (eq-eqb p.die p.die refl)

pub pushed_other : (waiting : List WaitingProgram) (p : WaitingProgram) (d : ℕ) → (d ≡ p.die → ⊥)
    → filter (is_for d) (waiting ++ p ∷ []) ≡ filter (is_for d) waiting
pushed_other waiting p d off =
    filter-append (is_for d) waiting (p ∷ [])
    ∙ ap (λ (b : Bool). filter (is_for d) waiting ++ cond b (p ∷ []) []) (ne_eqb p.die d (λ same. off (sym same)))
    ∙ append-nil (filter (is_for d) waiting)

-- the oldest of a die waits no more
abbrev pub without_oldest : ℕ → List WaitingProgram → List WaitingProgram
without_oldest die waiting = before_first (is_for die) waiting ++ after_first (is_for die) waiting

pub taken_here : (waiting : List WaitingProgram) (die : ℕ)
    → filter (is_for die) (without_oldest die waiting) ≡ tail_of (filter (is_for die) waiting)
taken_here waiting die = ap (filter (is_for die)) (cut_first (is_for die) waiting) ∙ filter_rest (is_for die) waiting

pub taken_other : (waiting : List WaitingProgram) (die d : ℕ) → (d ≡ die → ⊥)
    → filter (is_for d) (without_oldest die waiting) ≡ filter (is_for d) waiting
taken_other waiting die d off =
    ap (filter (is_for d)) (cut_first (is_for die) waiting)
    ∙ filter_others (is_for die) (is_for d) (for_one die d off) waiting

-- the programs of a die wait no more
pub dropped_here : (waiting : List WaitingProgram) (die : ℕ) → filter (is_for die) (filter (λ p. not (p.die == die)) waiting) ≡ []
dropped_here waiting die =
    filter_agree (is_for die) (λ p. not (p.die == die)) (λ p. false) (λ p is. ap not is) waiting
    ∙ filter_nothing (filter (is_for die) waiting)

pub dropped_other : (waiting : List WaitingProgram) (die d : ℕ) → (d ≡ die → ⊥)
    → filter (is_for d) (filter (λ p. not (p.die == die)) waiting) ≡ filter (is_for d) waiting
dropped_other waiting die d off =
    filter_agree (is_for d) (λ p. not (p.die == die)) (λ p. true) (λ p is. ap not (for_other die d off p is)) waiting
    ∙ filter_all (filter (is_for d) waiting)

-- the programs of a slot wait no more
pub cleared_here : (waiting : List WaitingProgram) (die slot : ℕ)
    → filter (is_for die) (filter (λ p. not (die == p.die && slot == p.slot)) waiting)
    ≡ filter (λ p. not (slot == p.slot)) (filter (is_for die) waiting)
cleared_here waiting die slot =
    filter_agree (is_for die) (λ p. not (die == p.die && slot == p.slot)) (λ p. not (slot == p.slot))
    (λ p is. ap (λ (b : Bool). not (b && slot == p.slot)) (eq-eqb die p.die (sym (eqb-true p.die die is)))) waiting

pub cleared_other : (waiting : List WaitingProgram) (die slot d : ℕ) → (d ≡ die → ⊥)
    → filter (is_for d) (filter (λ p. not (die == p.die && slot == p.slot)) waiting) ≡ filter (is_for d) waiting
cleared_other waiting die slot d off =
    filter_agree (is_for d) (λ p. not (die == p.die && slot == p.slot)) (λ p. true)
    (λ p is. ap (λ (b : Bool). not (b && slot == p.slot)) (ne_eqb die p.die (λ same. off (sym (eqb-true p.die d is) ∙ sym same)))) waiting
    ∙ filter_all (filter (is_for d) waiting)

-- ## The queues

-- no queue has a program
pub all_empty_push : (queues : List (List WaitingProgram)) (queue : List WaitingProgram) → queue ≡ []
    → ((d : ℕ) → get_or queues d [] ≡ []) → (d : ℕ) → get_or (queues ++ queue ∷ []) d [] ≡ []
all_empty_push [] queue e empty zero = e
all_empty_push [] queue e empty (suc d) = refl
all_empty_push (q ∷ queues) queue e empty zero = empty zero
all_empty_push (q ∷ queues) queue e empty (suc d) = all_empty_push queues queue e (λ k. empty (suc k)) d

module _ {A : Type 0} (waiting : List WaitingProgram) (queues : List (VecDeque (QueuedProgram A) A))
    (are : AreQueues waiting (queues_in queues)) where
  -- the queue of a die, which has programs of its own alone
  pub queue_read : (die : ℕ) (queue : VecDeque (QueuedProgram A) A) → queue ≡ get_or queues die queue → die < length queues
      → programs_in queue ≡ filter (is_for die) waiting
  queue_read die queue is fits =
      ap programs_in is ∙ sym (get_or-map programs_in queues die queue [] fits) ∙ are.each die

  -- nothing waits for a die without a queue
  pub queue_past : (die : ℕ) → length queues ≤ die → filter (is_for die) waiting ≡ []
  queue_past die past =
      sym (are.each die)
      ∙ get_or_past (queues_in queues) die [] (let long = length-map queues programs_in in omega (arith, long, past))

  -- one queue is written
  pub queues_set : (shown left : List WaitingProgram) → shown ≡ left → (die : ℕ) (queue : VecDeque (QueuedProgram A) A)
      → die < length queues → programs_in queue ≡ filter (is_for die) left
      → ((d : ℕ) → (d ≡ die → ⊥) → filter (is_for d) left ≡ filter (is_for d) waiting)
      → AreQueues shown (queues_in (set queues die queue))
  queues_set shown left are_left die queue fits here others = record {
    each = λ d.
        ap (λ qs. get_or qs d []) (map-set programs_in queues die queue)
        ∙ elim (cases_eq d die) [
          | inl same ↦
              ap (λ k. get_or (set (queues_in queues) die (programs_in queue)) k []) same
              ∙ get_or-set_same (queues_in queues) die (programs_in queue) []
              (let long = length-map queues programs_in in omega (arith, long, fits))
              ∙ here ∙ ap (λ k. filter (is_for k) left) (sym same)
          | inr off ↦ get_or-set_other (queues_in queues) die d (programs_in queue) [] off ∙ are.each d ∙ sym (others d off)
        ]
        ∙ ap (filter (is_for d)) (sym are_left);
  }

  -- none is written, since nothing waits for the die
  pub queues_kept : (shown left : List WaitingProgram) → shown ≡ left → (die : ℕ) → filter (is_for die) left ≡ filter (is_for die) waiting
      → ((d : ℕ) → (d ≡ die → ⊥) → filter (is_for d) left ≡ filter (is_for d) waiting)
      → AreQueues shown (queues_in queues)
  queues_kept shown left are_left die here others = record {
    each = λ d. are.each d ∙ elim (cases_eq d die) [
      | inl same ↦ ap (λ k. filter (is_for k) waiting) same ∙ sym here ∙ ap (λ k. filter (is_for k) left) (sym same)
      | inr off ↦ sym (others d off)
    ] ∙ ap (filter (is_for d)) (sym are_left);
  }

-- ## Room

module _ {A : Type 0} (queues : List (VecDeque (QueuedProgram A) A)) where
  abbrev room_at : List (VecDeque (QueuedProgram A) A) → ℕ → ℕ
  room_at queues die = get_or (map room_in queues) die 0

  pub room_read : (die : ℕ) (queue : VecDeque (QueuedProgram A) A) → queue ≡ get_or queues die queue → die < length queues
      → room_at queues die ≡ room_in queue
  room_read die queue is fits = get_or-map room_in queues die queue 0 fits ∙ ap room_in (sym is)

  -- a die that has room has a queue
  pub room_within : (die : ℕ) → 0 < room_at queues die → die < length queues
  room_within die some =
      elim (cases_lt die (length queues)) [
        | inl less ↦ less
        | inr past ↦
            let long = length-map queues room_in in
            let none = get_or_past (map room_in queues) die 0 (omega (arith, long, past)) in
            absurd (omega (arith, some, none))
      ]

  pub room_here : (die : ℕ) (queue : VecDeque (QueuedProgram A) A) → die < length queues
      → room_at (set queues die queue) die ≡ room_in queue
  room_here die queue fits =
      ap (λ rooms. get_or rooms die 0) (map-set room_in queues die queue)
      ∙ get_or-set_same (map room_in queues) die (room_in queue) 0 (let long = length-map queues room_in in omega (arith, long, fits))

  pub room_other : (die d : ℕ) (queue : VecDeque (QueuedProgram A) A) → (d ≡ die → ⊥) → room_at (set queues die queue) d ≡ room_at queues d
  room_other die d queue off =
      ap (λ rooms. get_or rooms d 0) (map-set room_in queues die queue) ∙ get_or-set_other (map room_in queues) die d (room_in queue) 0 off

  -- a queue has no less room, or one less
  pub room_more : (die : ℕ) (old new : VecDeque (QueuedProgram A) A) → old ≡ get_or queues die old → die < length queues
      → room_in old ≤ room_in new → (d : ℕ) → room_at queues d ≤ room_at (set queues die new) d
  room_more die old new is fits more d =
      elim (cases_eq d die) [
        | inl same ↦
            let before = ap (room_at queues) same ∙ room_read die old is fits in
            let after = ap (room_at (set queues die new)) same ∙ room_here die new fits in
            omega (arith, before, after, more)
        | inr off ↦ let kept = room_other die d new off in omega (arith, kept)
      ]

  pub room_less : (die : ℕ) (old new : VecDeque (QueuedProgram A) A) → old ≡ get_or queues die old → die < length queues
      → room_in old ≡ room_in new + 1 → (d : ℕ) → room_at queues d ≡ room_at (set queues die new) d + (if d == die then 1 else 0)
  room_less die old new is fits less d =
      elim (cases_eq d die) [
        | inl same ↦
            let before = ap (room_at queues) same ∙ room_read die old is fits in
            let after = ap (room_at (set queues die new)) same ∙ room_here die new fits in
            let one : ◌≡◌ {A = ℕ} (if d == die then 1 else 0) 1 = ap {B = ℕ} (λ (b : Bool). if b then 1 else 0) (eq-eqb d die same) in
            omega (arith, before, after, less, one)
        | inr off ↦
            let kept = room_other die d new off in
            let none : ◌≡◌ {A = ℕ} (if d == die then 1 else 0) 0 = ap {B = ℕ} (λ (b : Bool). if b then 1 else 0) (ne_eqb d die off) in
            omega (arith, kept, none)
      ]
