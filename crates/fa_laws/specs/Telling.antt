-- Words for what happens in the chains of events.
use Rattle.std.specs.Prelude.{ℕ, List, [], ◌∷◌, map, Ok, Some, true, false}
use Rattle.fa_types.specs.declared.numbers.Page.{Page}
use Rattle.fa_batch_terms.specs.declared.place.Place.{Place}
use Rattle.fa_machine.specs.declared.jobs.Flight.TheVariants.{Header, Program, Read, Sync}
use Rattle.fa_machine.specs.declared.places.Version.{Version}
use Rattle.fa_machine.specs.Cells.{Sealed, DidProgram, DidRead, DidSync, DidWriteHeader}
use Rattle.fa_machine.specs.Run.{Happening, Event, ImageCall}
use Rattle.fa_machine.specs.Step.{Advance, Done, Take}
use Rattle.fa_machine.specs.Taking.{Handed, handed}
use Rattle.fa_machine.specs.World.{Accepted, GaveCell}
use Rattle.fa_laws.specs.EightPages.{write_of}

-- a die writes its header
abbrev pub writes_header : (die epoch live : ℕ) → List Happening
writes_header die epoch live =
    Event (Take die 0 (Some (handed (Header epoch live)))) ∷ ImageCall die Accepted ∷ Event (Done die DidWriteHeader) ∷ []

-- the read of a page for the batch, from a slot
abbrev pub read_of_page : (page slot : ℕ) → Handed
read_of_page page slot =
    handed (Read (record { 0 = 0 }) (record { 0 = page }) (write_of page) (record { 0 = slot }))

-- a die is handed the read of a page
abbrev pub starts : (die page slot : ℕ) → Happening
starts die page slot = Event (Take die 0 (Some (read_of_page page slot)))

-- its image gives the page, and the read ends with that
abbrev pub gives : (bytes : ℕ → List ℕ) (die page slot : ℕ) → List Happening
gives bytes die page slot =
    let cell = Sealed page (write_of page) die slot (bytes page) in ImageCall die (GaveCell cell) ∷ Event (Done die (DidRead cell)) ∷ []

abbrev pub next_round : ℕ → Happening
next_round round = Event (Advance (Ok (record { 0 = round })))

abbrev pub place_of : (page die round : ℕ) → Place
place_of page die round = record { page = record { 0 = page }; die = record { 0 = die }; round = record { 0 = round } }

abbrev pub pages_of : List ℕ → List Page
pages_of pages = map (λ page. record { 0 = page }) pages

-- a slot is to be programmed with a page
abbrev pub program_of_page : (page slot : ℕ) → Version → List ℕ → Handed
program_of_page page slot version payload =
    record { flight = Program (record { 0 = page }) version (record { 0 = slot }); payload = payload; lasting = false }

-- a die programs a slot with a page
abbrev pub programs : (die page slot : ℕ) → Version → List ℕ → List Happening
programs die page slot version payload =
    Event (Take die 0 (Some (program_of_page page slot version payload))) ∷ ImageCall die Accepted ∷ Event (Done die DidProgram) ∷ []

-- a slot is to be programmed with a page that others hold, and the die comes to hold it
abbrev pub lasting_program_of_page : (page slot : ℕ) → Version → List ℕ → Handed
lasting_program_of_page page slot version payload = record (program_of_page page slot version payload) { lasting = true }

-- a die programs a slot with such a page, and syncs it
abbrev pub programs_and_syncs : (die page slot : ℕ) → Version → List ℕ → List Happening
programs_and_syncs die page slot version payload =
    Event (Take die 0 (Some (lasting_program_of_page page slot version payload))) ∷ ImageCall die Accepted ∷ ImageCall die Accepted
    ∷ Event (Done die DidProgram) ∷ []

-- a die syncs, for the flushes begun so far
abbrev pub syncs : (die flushes : ℕ) → List Happening
syncs die flushes = Event (Take die 0 (Some (handed (Sync flushes)))) ∷ ImageCall die Accepted ∷ Event (Done die DidSync) ∷ []
