-- The pages that few dies hold, as sets.
use Rattle.std.specs.Prelude.{◌≡◌, ℕ, ◌<◌, ◌==◌, Bool, if◌then◌else◌, List, refl}
use Rattle.std.specs.Coded.{Coded, Coded-set, code_by, coded×, coded_bool, coded_ℕ}
use Rattle.std.specs.FinMap.{code, contains_key, insert, remove}
use base.Stored.{coded_unit}
use Rattle.fa_machine.specs.Maps.{Numbers}
use Rattle.fa_types.specs.declared.geometry.Geometry.{Geometry}
use Rattle.fa_map.specs.Entries.{copies_in}
use Rattle.fa_map.specs.declared.entries.Entry.{Entry}

-- of the pages below a bound, some that have one copy and some that have two
pub record Few : Type 0 where
  pub bound : ℕ
  pub one : Numbers
  pub two : Numbers

abbrev parts_code : Coded (ℕ × (Numbers × Numbers))
parts_code = coded× coded_ℕ (coded× (code coded_ℕ coded_unit) (code coded_ℕ coded_unit))

-- they are stored as their parts
abbrev pub few_code : Coded Few
few_code = code_by (ℕ × (Numbers × Numbers)) parts_code (λ few. (few.bound, (few.one, few.two)))
    (λ p. record { bound = p.0; one = p.1.0; two = p.1.1 }) (λ _. refl)

-- a set with a number, or without it
abbrev pub with_member : ℕ → Bool → Numbers → Numbers
with_member number wanted numbers = if wanted then insert numbers number tt else remove numbers number

-- Of the pages below a bound, each of which has this many copies, those that have one and those that have two.
pub record AreFew (pages : ℕ) (copies : ℕ → ℕ) (few : Few) : Type 0 where
  pub bound : few.bound ≡ pages
  pub ones : (page : ℕ) → page < pages → contains_key few.one page ≡ (copies page == 1)
  pub twos : (page : ℕ) → page < pages → contains_key few.two page ≡ (copies page == 2)

-- what the sets are after one page came to have this many copies
pub record IsPut (old : Few) (page copies : ℕ) (new : Few) : Type 0 where
  pub bound : new.bound ≡ old.bound
  pub one : new.one ≡ with_member page (copies == 1) old.one
  pub two : new.two ≡ with_member page (copies == 2) old.two

-- The sets are those of the pages that this many dies hold.
unfoldable pub IsCounted : Geometry → List Entry → Few → Type 0
IsCounted g entries few = AreFew g.pages (copies_in entries g) few

pub IsCounted-prop : (g : Geometry) (entries : List Entry) (few : Few) → IsProp (IsCounted g entries few)
unfolding IsCounted
IsCounted-prop g entries few = hlevel (Coded-set coded_ℕ, Coded-set coded_bool)
