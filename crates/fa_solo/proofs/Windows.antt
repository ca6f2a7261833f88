-- What came of giving windows to one die after the other.
use Rattle.std.proofs.Common.{◌≡◌, ◌∙◌, ◌+◌, ◌<◌, ◌≤◌, ℕ, Bool, true, false, Result, Ok, Err, arith, refl, subst, sym}
use Rattle.std.proofs.lemmas.Bool.{and_from, false≢true, le-leb, lt-ltb}
use Rattle.std.specs.Prelude.{nat_le, ◌&&◌}
use borrow.Author.Count.{below_more}
use Rattle.fa_image.specs.Image.{ImageAnswer, ImageCall}
use Rattle.fa_machine.specs.Looks.{wants_window}
use Rattle.fa_machine.specs.State.{Core}
use Rattle.fa_machine.specs.Step.{Window, is_die}
use Rattle.fa_machine.specs.declared.refusals.WindowRefused.{WindowRefused}
use Rattle.fa_machine.specs.declared.refusals.WindowRefused.TheVariants.{Busy, HasOne, NoMemory}
use Rattle.fa_solo.proofs.Orders.{by_behind, by_then, halts_at, halts_behind, halts_then, tidies_for_dies, window_tried}
use Rattle.fa_solo.specs.Collecting.{Collects, Gives, Steps, WantNone, WantsNone, both_of, of_window}
use Rattle.fa_solo.specs.declared.collecting.Windows.{Windows}
use Rattle.fa_solo.specs.declared.collecting.Windows.TheVariants.{Given, Refused, Unwanted}
use Rattle.fa_solo_job.specs.Deeds.{IsForDies}
use Rattle.fa_solo_job.specs.Inner.{Does, DoesOne}
use Rattle.fa_solo_job.specs.Orders.{WantsNoWindow}
use Rattle.fa_solo_job.specs.declared.inner.Inner.{Inner}
use Rattle.fa_types.specs.declared.numbers.Round.{Round}

-- a window of 1 to 64 rounds may be asked for, for a die of the array
pub may_ask : (d : Bool) (rounds : ℕ) → d ≡ true → 1 ≤ rounds → rounds ≤ 64 → (d && nat_le 1 rounds && nat_le rounds 64) ≡ false → ⊥
may_ask d rounds is some most not =
    false≢true (sym not ∙ and_from (d && nat_le 1 rounds) (nat_le rounds 64) (and_from d (nat_le 1 rounds) is (le-leb 1 rounds some))
    (le-leb rounds 64 most))

pub none_more : (core : Core) (n : ℕ) → n < core.page_map.geometry.dies → ((die : ℕ) → die < n → wants_window core.page_map die ≡ false)
    → (is_die core n ≡ true → wants_window core.page_map n ≡ false) → (die : ℕ) → die < n + 1 → wants_window core.page_map die ≡ false
none_more core n low before here =
    below_more (λ (die : ℕ). wants_window core.page_map die ≡ false) n before (here (lt-ltb n core.page_map.geometry.dies low))

-- no die below this wants one
abbrev pub NoneBelow : Bool → ℕ → Core → Type 0
NoneBelow for_room n core = for_room ≡ false → (die : ℕ) → die < n → wants_window core.page_map die ≡ false

module _ {L M I A : Type 0} (made : I → ImageCall → ImageAnswer → I → Type 0) where
  -- a die that wants one is asked
  pub gives_window : (a b : Inner L M I A) (die rounds : ℕ) (answer : Result Round WindowRefused) (came : Windows)
      → wants_window a.locked.core.page_map die ≡ true → DoesOne (Window die rounds answer) a b → came ≡ of_window answer
      → Gives made (λ core. ⊥) came a b
  gives_window a b die rounds answer came wants one is = subst (λ (w : Windows). Gives made (λ core. ⊥) w a b) (sym is) (by answer one)
    where
      by : (answer : Result Round WindowRefused) → DoesOne (Window die rounds answer) a b → Gives made (λ core. ⊥) (of_window answer) a b
      by (Ok first) one = window_tried made a b die rounds (Ok first) wants one
      by (Err HasOne) one = window_tried made a b die rounds (Err HasOne) wants one
      by (Err Busy) one = halts_at made a b (Window die rounds (Err Busy)) tt tt wants one
      by (Err NoMemory) one = halts_at made a b (Window die rounds (Err NoMemory)) tt tt wants one

  pub gives_any : (P : Core → Type 0) (a b : Inner L M I A) (came : Windows) → Gives made (λ core. ⊥) came a b → Gives made P came a b
  gives_any P a b Unwanted gives = absurd gives.1
  gives_any P a b Given gives = gives
  gives_any P a b (Refused refused) gives = gives

  -- one die more
  pub gives_more : (for_room : Bool) (n : ℕ) (a b c : Inner L M I A) (one other : Windows) → n < a.locked.core.page_map.geometry.dies
      → Does made IsForDies a b → Does made IsForDies b c → Gives made (NoneBelow for_room n) one a b → Gives made (WantsNone for_room n) other b c
      → Gives made (NoneBelow for_room (n + 1)) (both_of one other) a c
  gives_more for_room n a b c Unwanted Unwanted low before does first next = (
    next.0 ∙ first.0,
    λ is. none_more a.locked.core n low (first.1 is)
        (λ one_of. let P : Core → Type 0 = λ k. is_die k n ≡ true → wants_window k.page_map n ≡ false in
        subst P first.0 (next.1 is) one_of),
  )
  gives_more for_room n a b c Unwanted Given low before does first next = by_behind made 1 a b c (tidies_for_dies made a b before) next
  gives_more for_room n a b c Unwanted (Refused refused) low before does first next = halts_behind made a b c (tidies_for_dies made a b before) next
  gives_more for_room n a b c Given Unwanted low before does first next = by_then made 1 a b c first (tidies_for_dies made b c does)
  gives_more for_room n a b c Given Given low before does first next = by_then made 1 a b c first (tidies_for_dies made b c does)
  gives_more for_room n a b c Given (Refused refused) low before does first next = halts_behind made a b c (tidies_for_dies made a b before) next
  gives_more for_room n a b c (Refused refused) other low before does first next = halts_then made a b c first does

  -- all dies
  pub gives_all : (for_room : Bool) (n : ℕ) (a b : Inner L M I A) (came : Windows) → a.locked.core.page_map.geometry.dies ≤ n
      → Gives made (NoneBelow for_room n) came a b → Gives made (WantNone for_room) came a b
  gives_all for_room n a b Unwanted high gives = (gives.0, λ is die low. gives.1 is die (omega (arith, high, low)))
  gives_all for_room n a b Given high gives = gives
  gives_all for_room n a b (Refused refused) high gives = gives

  -- jobs behind them
  pub steps_behind : (a b c : Inner L M I A) (came : Windows) → Gives made (WantNone false) came a b → Does made IsForDies b c → Steps made came a c
  steps_behind a b c Unwanted gives does = gives.1 refl
  steps_behind a b c Given gives does = by_then made 1 a b c gives (tidies_for_dies made b c does)
  steps_behind a b c (Refused refused) gives does = halts_then made a b c gives does

  -- where one was wanted at first
  pub collects_first : (a b : Inner L M I A) (came : Windows) → (came ≡ Unwanted → ⊥) → Steps made came a b → Collects made came a b
  collects_first a b Unwanted some steps = absurd (some refl)
  collects_first a b Given some steps = steps
  collects_first a b (Refused refused) some steps = steps

  -- where one was wanted then
  pub collects_then : (a b c : Inner L M I A) (came : Windows) → Does made IsForDies a b → (WantsNoWindow b.locked.core → ⊥) → Steps made came b c
      → Collects made came a c
  collects_then a b c Unwanted does some steps = absurd (some steps)
  collects_then a b c Given does some steps = by_behind made 1 a b c (tidies_for_dies made a b does) steps
  collects_then a b c (Refused refused) does some steps = halts_behind made a b c (tidies_for_dies made a b does) steps
