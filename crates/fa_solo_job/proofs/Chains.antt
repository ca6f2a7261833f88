-- Deeds one after the other.
use Rattle.std.proofs.Common.{◌≡◌, ◌∙◌, ℕ, Bool, true, false, List, Option, Some, None, Ok, Result, IfNone, IfSome, ap, refl, sym, subst}
use Rattle.fa_mount_headers.specs.declared.judging.Standing.{Standing}
use Rattle.fa_image.specs.Image.{ImageAnswer, ImageCall}
use Rattle.fa_machine.specs.Looks.{wants_window}
use Rattle.fa_machine.specs.State.{Core}
use Rattle.fa_machine.specs.Step.{Act, Advance, Fold, SpareIn, Step, Take, Window}
use Rattle.fa_machine.specs.declared.refusals.SpareRefused.{SpareRefused}
use Rattle.fa_machine.specs.declared.refusals.WindowRefused.{WindowRefused}
use Rattle.fa_shared_lock.specs.Locked.{LockedState}
use Rattle.fa_shared_lock.specs.Seats.{number_of}
use Rattle.fa_solo_job.specs.Deeds.{Goes, IsDue, IsForDies, IsForOrder, IsForRequests, IsMeanwhile, Makes, Runs, Stays}
use Rattle.fa_solo_job.specs.House.{House}
use Rattle.fa_solo_job.specs.Orders.{Awaits, NoWait, WaitsOn}
use Rattle.fa_solo_job.specs.Inner.{Does, house_of}
use Rattle.fa_solo_job.specs.declared.inner.Inner.{Inner}
use Rattle.fa_types.specs.declared.numbers.Round.{Round}
use Rattle.fa_shared_lock.proofs.Holds.{join_rest, rest_same}
use Rattle.fa_shared_lock.specs.Rest.{Folded, Folds, HadRoom, LeavesRest}
use Rattle.fa_shared.specs.Spares.{BringsIn, HasNone, Lowest, WantsNone}

module _ {I : Type 0} (made : I → ImageCall → ImageAnswer → I → Type 0) (array : List ℕ) (dies : List Standing) (seat : ℕ) where
  pub goes_more : (P : Act → Type 0) (a b c : House I) → Goes made array dies seat P a b → Goes made array dies seat P b c
      → Goes made array dies seat P a c
  goes_more P a b c one Stays = one
  goes_more P a b c one (Makes middle new act before may due step images) =
      Makes middle new act (goes_more P a b middle one before) may due step images
  goes_more P a b c one (Runs middle new die before job) = Runs middle new die (goes_more P a b middle one before) job

  pub goes_wider : (P Q : Act → Type 0) → ((act : Act) → P act → Q act) → (a b : House I) → Goes made array dies seat P a b
      → Goes made array dies seat Q a b
  goes_wider P Q wider a b Stays = Stays
  goes_wider P Q wider a b (Makes middle new act before may due step images) =
      Makes middle new act (goes_wider P Q wider a middle before) (wider act may) due step images
  goes_wider P Q wider a b (Runs middle new die before job) = Runs middle new die (goes_wider P Q wider a middle before) job

  -- what is done while a batch is waited for
  pub awaits_goes : (batch : ℕ) (a : House I) (looks : ℕ) (b : House I) → Awaits made array dies seat batch a looks b
      → Goes made array dies seat IsForDies a b
  awaits_goes batch a looks b NoWait = Stays
  awaits_goes batch a looks b (WaitsOn fewer middle new before waiting goes) =
      goes_more IsForDies a middle b (awaits_goes batch a fewer middle before) goes

-- the same by other numbers that are equal
pub goes_by : {I : Type 0} (made : I → ImageCall → ImageAnswer → I → Type 0) (array other : List ℕ) (dies those : List Standing) (seat same : ℕ)
    (P : Act → Type 0) (a b : House I) → other ≡ array → those ≡ dies → same ≡ seat → Goes made other those same P a b
    → Goes made array dies seat P a b
goes_by made array other dies those seat same P a b number standing by goes =
    subst (λ (n : ℕ). Goes made array dies n P a b) by (subst (λ (d : List Standing). Goes made array d same P a b) standing
    (subst (λ (x : List ℕ). Goes made x those same P a b) number goes))

module _ {L M I A : Type 0} (made : I → ImageCall → ImageAnswer → I → Type 0) where
  pub does_none : (P : Act → Type 0) (a : Inner L M I A) → Does made P a a
  does_none P a = record { goes = Stays; left = rest_same _ _; dies = refl }

  pub does_more : (P : Act → Type 0) (a b c : Inner L M I A) → Does made P a b → Does made P b c → Does made P a c
  does_more P a b c one two = record {
    goes = goes_more made a.locked.number a.dies.items (number_of a.seat) P (house_of a) (house_of b) (house_of c) one.goes
        (goes_by made a.locked.number b.locked.number a.dies.items b.dies.items (number_of a.seat) (number_of b.seat) P (house_of b) (house_of c)
        (ap (λ (l : LockedState). l.number) one.left.rest) one.dies one.left.number two.goes);
    left = join_rest one.left two.left;
    dies = two.dies ∙ one.dies;
  }

  pub does_wider : (P Q : Act → Type 0) → ((act : Act) → P act → Q act) → (a b : Inner L M I A) → Does made P a b → Does made Q a b
  does_wider P Q wider a b does = record {
    goes = goes_wider made a.locked.number a.dies.items (number_of a.seat) P Q wider (house_of a) (house_of b) does.goes;
    left = does.left;
    dies = does.dies;
  }

  -- an event, which leaves the images
  pub does_event : (P : Act → Type 0) (a b : Inner L M I A) (act : Act) → P act → IsDue a.locked.core act → Step a.locked.core act b.locked.core
      → LeavesRest a.locked a.seat b.locked b.seat → b.images.items ≡ a.images.items → b.dies.items ≡ a.dies.items → Does made P a b
  does_event P a b act may due step left images dies = record {
    goes = Makes (house_of a) (house_of b) act Stays may due step images;
    left = left;
    dies = dies;
  }

  -- no event
  pub does_same : (P : Act → Type 0) (a b : Inner L M I A) → b.locked.core ≡ a.locked.core
      → LeavesRest a.locked a.seat b.locked b.seat → b.images.items ≡ a.images.items → b.dies.items ≡ a.dies.items → Does made P a b
  does_same P a b same left images dies = record {
    goes = let house : House I → Type 0 = λ h. Goes made a.locked.number a.dies.items (number_of a.seat) P (house_of a) h in
        subst house (λ i. record { core = sym same i; images = sym images i }) Stays;
    left = left;
    dies = dies;
  }

  -- an event, if its condition held
  pub does_option : {X : Type 0} (C : Type 0) (P : Act → Type 0) (a b : Inner L M I A) (result : Option X) (act : X → Act) → ((x : X) → P (act x))
      → ((x : X) → IsDue a.locked.core (act x)) → IfSome result (λ x. Step a.locked.core (act x) b.locked.core)
      → IfNone result (C × (b.locked.core ≡ a.locked.core))
      → LeavesRest a.locked a.seat b.locked b.seat → b.images.items ≡ a.images.items → b.dies.items ≡ a.dies.items → Does made P a b
  does_option C P a b (Some x) act may due some none left images dies = does_event P a b (act x) (may x) (due x) some left images dies
  does_option C P a b None act may due some none left images dies = does_same P a b none.1 left images dies

  -- a window is asked for, for a die that wants one
  pub does_window : (C : Type 0) (a b : Inner L M I A) (die rounds : ℕ) (result : Option (Result Round WindowRefused))
      → IfSome result (λ answer. Step a.locked.core (Window die rounds answer) b.locked.core)
      → IfNone result (C × (b.locked.core ≡ a.locked.core))
      → LeavesRest a.locked a.seat b.locked b.seat → b.images.items ≡ a.images.items → b.dies.items ≡ a.dies.items
      → wants_window a.locked.core.page_map die ≡ true → Does made IsForDies a b
  does_window C a b die rounds result some none left images dies wants =
      does_option C IsForDies a b result (λ answer. Window die rounds answer) (λ _. tt) (λ _. wants) some none left images dies

  -- the history is folded, if it is full
  pub does_fold : (P : Act → Type 0) (a b : Inner L M I A) → P Fold → Folds a.locked.core b.locked.core
      → LeavesRest a.locked a.seat b.locked b.seat → b.images.items ≡ a.images.items → b.dies.items ≡ a.dies.items → Does made P a b
  does_fold P a b may (Folded full step) left images dies = does_event P a b Fold may tt step left images dies
  does_fold P a b may (HadRoom same) left images dies = does_same P a b same left images dies

  -- a spare is brought in, or none
  pub does_spare : (P : Act → Type 0) (a b : Inner L M I A) (brought : Bool)
      → ((die : ℕ) (answer : Result (Unit {0}) SpareRefused) → P (SpareIn die answer)) → BringsIn a.locked.core brought b.locked.core
      → LeavesRest a.locked a.seat b.locked b.seat → b.images.items ≡ a.images.items → b.dies.items ≡ a.dies.items → Does made P a b
  does_spare P a b brought may (Lowest die is wants lower step) left images dies =
      does_event P a b (SpareIn die (Ok tt)) (may die (Ok tt)) wants step left images dies
  does_spare P a b brought may (WantsNone is wants same) left images dies = does_same P a b same left images dies
  does_spare P a b brought may (HasNone is none same) left images dies = does_same P a b same left images dies

-- what is for dies is for requests, and what is for these is for the array's order
pub for_requests : (act : Act) → IsForDies act → IsForRequests act
for_requests (Take die seat None) may = may
for_requests (Window die rounds answer) may = may
for_requests (Advance answer) may = may
for_requests Fold may = may
for_requests act may = absurd may

pub requests_for_order : (act : Act) → IsForRequests act → IsForOrder act
requests_for_order (Take die seat None) may = may
requests_for_order (Window die rounds answer) may = may
requests_for_order (Advance answer) may = may
requests_for_order (SpareIn die answer) may = may
requests_for_order Fold may = may
requests_for_order act may = absurd may

pub for_order : (act : Act) → IsForDies act → IsForOrder act
for_order act may = requests_for_order act (for_requests act may)

-- what is for dies is made at any time
pub for_meanwhile : (flush : Bool) (act : Act) → IsForDies act → IsMeanwhile flush act
for_meanwhile true act may = may
for_meanwhile false act may = for_requests act may

-- a Fold leaves the geometry
pub fold_geometry : (old new : Core) → Folds old new → new.page_map.geometry ≡ old.page_map.geometry
fold_geometry old new (Folded full step) = ap (λ (c : Core). c.page_map.geometry) step.does
fold_geometry old new (HadRoom same) = ap (λ (c : Core). c.page_map.geometry) same
