-- What is free in the answers of events that take memory: whether memory is refused, the id, and which least plan.
use Rattle.std.specs.Prelude.{◌≡◌, ◌⊎◌, Bool, true, false, Result, Ok, Err}
use Rattle.fa_machine.specs.declared.refusals.AdmitRefused.{AdmitRefused}
use Rattle.fa_machine.specs.declared.refusals.AdmitRefused.TheVariants.{CalendarFull, NoMemory as AdmitNoMemory}
use Rattle.fa_machine.specs.declared.refusals.ClaimRefused.{ClaimRefused}
use Rattle.fa_machine.specs.declared.refusals.ClaimRefused.TheVariants.{NoMemory as ClaimNoMemory}
use Rattle.fa_machine.specs.declared.refusals.ReserveCopyRefused.{ReserveCopyRefused}
use Rattle.fa_machine.specs.declared.refusals.ReserveCopyRefused.TheVariants.{NoMemory as CopyNoMemory}
use Rattle.fa_machine.specs.declared.refusals.ReserveRefused.{ReserveRefused}
use Rattle.fa_machine.specs.declared.refusals.ReserveRefused.TheVariants.{NoMemory as ReserveNoMemory}
use Rattle.fa_machine.specs.declared.refusals.WindowRefused.{WindowRefused}
use Rattle.fa_machine.specs.declared.refusals.WindowRefused.TheVariants.{NoMemory as WindowNoMemory}
use Rattle.fa_machine.specs.Reading.{Admitted, Planned}

-- Two answers of one event in one state: accepted ones agree as said, one may be refused freely where the other is not, and
-- other refusals are the same.
abbrev pub AreAlike : {A R : Type 0} → (R → Bool) → (A → A → Type 0) → Result A R → Result A R → Type 0
AreAlike free agree (Ok a) (Ok b) = agree a b
AreAlike free agree (Ok a) (Err s) = free s ≡ true
AreAlike free agree (Err r) (Ok b) = free r ≡ true
AreAlike free agree (Err r) (Err s) = (r ≡ s) ⊎ ((free r ≡ true) × (free s ≡ true))

abbrev pub is_free_claim : ClaimRefused → Bool
is_free_claim ClaimNoMemory = true
is_free_claim refused = false

abbrev pub is_free_reserve : ReserveRefused → Bool
is_free_reserve ReserveNoMemory = true
is_free_reserve refused = false

abbrev pub is_free_window : WindowRefused → Bool
is_free_window WindowNoMemory = true
is_free_window refused = false

abbrev pub is_free_copy : ReserveCopyRefused → Bool
is_free_copy CopyNoMemory = true
is_free_copy refused = false

-- a full calendar depends on which least plan was found
abbrev pub is_free_admit : AdmitRefused → Bool
is_free_admit AdmitNoMemory = true
is_free_admit CalendarFull = true
is_free_admit refused = false

-- the number of rounds is not free
abbrev pub HasSameRounds : Planned → Planned → Type 0
HasSameRounds a b = a.rounds ≡ b.rounds

abbrev pub HasSamePlan : Admitted → Admitted → Type 0
HasSamePlan a b = HasSameRounds a.planned b.planned
