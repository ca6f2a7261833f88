-- Events of some kind behind others.
use Rattle.fa_core_calls.specs.Calls.{Makes}
use Rattle.fa_core_calls.specs.declared.call.Answer.{Answer}
use Rattle.fa_core_calls.specs.declared.call.Answer.TheVariants.{Advance as GaveAdvance, Stranger}
use Rattle.fa_core_calls.specs.declared.call.Call.TheVariants.{Advance}
use Rattle.fa_machine.specs.State.{Core}
use Rattle.fa_machine.specs.Step.{Act, Advance as ActAdvance}
use Rattle.fa_shared_lock.specs.Only.{IsAdvance, MakesOnly, MayNotAdvance, NoMore, OneMore, has_passed}
use Rattle.std.proofs.Common.{ap, false, subst, sym, true, ℕ, ◌+◌, ◌≡◌}
use Rattle.std.proofs.lemmas.Bool.{true≢false}
use Rattle.std.specs.Prelude.{Err, Ok, is_some}

pub only_behind : (kind : Act → Type 0) (first middle last : Core) → MakesOnly kind first middle → MakesOnly kind middle last → MakesOnly kind first last
only_behind kind first middle last before (NoMore) = before
only_behind kind first middle last before (OneMore between act new made is step) =
    OneMore between act last (only_behind kind first middle between before made) is step

-- what is asked as an Advance is one
pub one_advance : {A : Type 0} (old new : Core) (seat : ℕ) (answer : Answer A) → Makes old seat Advance answer new → MakesOnly IsAdvance old new
one_advance old new seat (GaveAdvance answer) makes = OneMore old (ActAdvance answer) new NoMore tt makes
one_advance old new seat (Stranger buffer) makes = absurd (true≢false makes.0)
one_advance old new seat answer makes = absurd makes

-- a round that passed is the next
pub next_round : {A : Type 0} (old new : Core) (seat : ℕ) (answer : Answer A) → Makes old seat Advance answer new → has_passed answer ≡ true
    → new.calendar.round ≡ old.calendar.round + 1
next_round old new seat (GaveAdvance (Ok round)) makes is = ap (λ (core : Core). core.calendar.round) makes.does.2
next_round old new seat (GaveAdvance (Err refused)) makes is = absurd (true≢false (sym is))
next_round old new seat (Stranger buffer) makes is = absurd (true≢false makes.0)
next_round old new seat answer makes is = absurd makes

-- where none passed, none may
pub none_passes : {A : Type 0} (old new : Core) (seat : ℕ) (answer : Answer A) → Makes old seat Advance answer new → has_passed answer ≡ false
    → MayNotAdvance new
none_passes old new seat (GaveAdvance (Ok round)) makes is = absurd (true≢false is)
none_passes old new seat (GaveAdvance (Err refused)) makes is = subst MayNotAdvance (sym makes.does.1) (ap is_some makes.does.0)
none_passes old new seat (Stranger buffer) makes is = absurd (true≢false makes.0)
none_passes old new seat answer makes is = absurd makes
