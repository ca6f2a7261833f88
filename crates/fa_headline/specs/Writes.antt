-- How the plain array changes: at a Commit, by the bytes that were reserved for the page of its claim.
use Rattle.std.specs.Prelude.{◌≡◌, ℕ, List, ◌∷◌, ◌++◌, Ok}
use Rattle.fa_types.specs.Plain.{put}
use Rattle.fa_machine.specs.declared.ids.ClaimId.{ClaimId}
use Rattle.fa_machine.specs.Reading.{zeros}
use Rattle.fa_machine.specs.Run.{Event, Happening}
use Rattle.fa_machine.specs.Step.{Act, Claim, Commit, Reserve, ReserveFewer, ReserveHole}
use Rattle.fa_machine.specs.World.{World}

-- a Reserve, of whichever kind, under a claim, that was given this number for these bytes
abbrev pub IsReserve : (claim seq : ℕ) (zero_page bytes : List ℕ) → Act → Type 0
IsReserve claim seq zero_page bytes (Reserve c payload (Ok s)) = (c ≡ claim) × (s.0 ≡ seq) × (payload ≡ bytes)
IsReserve claim seq zero_page bytes (ReserveFewer c payload (Ok s)) = (c ≡ claim) × (s.0 ≡ seq) × (payload ≡ bytes)
IsReserve claim seq zero_page bytes (ReserveHole c (Ok s)) = (c ≡ claim) × (s.0 ≡ seq) × (zero_page ≡ bytes)
IsReserve claim seq zero_page bytes act = ⊥

-- A page was claimed, and behind that these bytes were reserved for it under the claim.
pub record WasReserved (zero_page : List ℕ) (happenings : List Happening) (claim page seq : ℕ) (bytes : List ℕ) : Type 0 where
  pub before : List Happening
  pub id : ClaimId
  pub between : List Happening
  pub act : Act
  pub behind : List Happening
  pub order : happenings ≡ before ++ Event (Claim page (Ok id)) ∷ between ++ Event act ∷ behind
  pub claim_is : id.0 ≡ claim
  pub reserves : IsReserve claim seq zero_page bytes act

-- An accepted Commit puts what was reserved into its page. Nothing else changes the plain array.
abbrev pub ChangesAtCommit : (first : World) (happenings : List Happening) (at : World) → Happening → World → Type 0
ChangesAtCommit first happenings at (Event (Commit claim seat (Ok seq))) after =
    (page : ℕ) × (bytes : List ℕ) × WasReserved (zeros first.core.page_map) happenings claim page seq.0 bytes
    × (after.plain ≡ put page bytes at.plain)
ChangesAtCommit first happenings at happening after = after.plain ≡ at.plain
