-- The codes of a base and of waiting programs, by which a proof tells two of them apart.
use Rattle.std.specs.Prelude.{ℕ, List, refl}
use Rattle.std.specs.Coded.{Coded, code_by, coded×, coded_ℕ, coded_list}
use Rattle.std.specs.FinMap.{FinMap, code}
use Rattle.std.specs.Ordering.{nat_cmp}
use Rattle.fa_machine.specs.State.{Base, WaitingProgram}
use Rattle.fa_machine.specs.declared.places.Version.{Version}
use Rattle.fa_machine.specs.contracts.places.Version as VersionContract

abbrev BaseParts : Type 0
BaseParts = FinMap nat_cmp ℕ × (ℕ × ℕ)

-- a base is stored as its parts
abbrev pub base_code : Coded Base
base_code = code_by BaseParts (coded× (code coded_ℕ coded_ℕ) (coded× coded_ℕ coded_ℕ)) (λ b. (b.numbers, (b.commits, b.starts)))
    (λ p. record { numbers = p.0; commits = p.1.0; starts = p.1.1 }) (λ _. refl)

abbrev ProgramParts : Type 0
ProgramParts = ℕ × (ℕ × (ℕ × (Version × List ℕ)))

abbrev program_parts_code : Coded ProgramParts
program_parts_code = coded× coded_ℕ (coded× coded_ℕ (coded× coded_ℕ (coded× (VersionContract.the_row).coded (coded_list coded_ℕ))))

-- a waiting program is stored as its parts, and a list of them as a list
abbrev program_code : Coded WaitingProgram
program_code = code_by ProgramParts program_parts_code (λ p. (p.die, (p.slot, (p.page, (p.version, p.payload)))))
    (λ p. record { die = p.0; slot = p.1.0; page = p.1.1.0; version = p.1.1.1.0; payload = p.1.1.1.1 }) (λ _. refl)

abbrev pub waiting_code : Coded (List WaitingProgram)
waiting_code = coded_list program_code
