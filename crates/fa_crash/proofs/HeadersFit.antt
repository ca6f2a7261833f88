-- What holds of the headers that dies have, and of those that a crash may bring back.
use Rattle.fa_crash.proofs.Epochs.{is_header}
use Rattle.fa_crash.proofs.Trusted.{Trusted}
use Rattle.fa_crash.specs.Flushed.{is_of_array}
use Rattle.fa_crash.specs.Headers.{names}
use Rattle.fa_crash.specs.Unsynced.{Unsynced}
use Rattle.fa_machine.specs.Among.{Among}
use Rattle.fa_machine.specs.State.{is_live}
use Rattle.fa_machine.specs.Taking.{mask_of}
use Rattle.fa_machine.specs.World.{Accepted, HeaderTells, Work, World}
use Rattle.fa_machine.specs.declared.jobs.Flight.TheVariants.{Header}
use Rattle.std.proofs.Common.{None, Option, Some, [], false, true, ℕ, ◌∷◌, ◌≡◌, ◌≤◌, ◌⊎◌}
use Rattle.std.specs.FinMap.{contains_key}

-- a header that a die has or may have behind a crash
abbrev pub IsHead : World → Unsynced → ℕ → Option HeaderTells → Type 0
IsHead w u die x = (x ≡ (w.images die).header) ⊎ Among x (u.heads die)

-- a job that writes a header is in flight
pub record IsWriting (w : World) (h : HeaderTells) : Type 0 where
  pub die : ℕ
  pub work : Work
  pub is : w.works die ≡ Some work
  pub flight : work.job.flight ≡ Header h.epoch h.live

-- a header that was written in this life, or is being written
abbrev pub IsAround : World → Unsynced → HeaderTells → Type 0
IsAround w u h = ((die : ℕ) × IsHead w u die (Some h)) ⊎ IsWriting w h

-- a die is at a job that is no header
pub record IsAtOther (w : World) (die : ℕ) : Type 0 where
  pub work : Work
  pub is : w.works die ≡ Some work
  pub plain : is_header work.job.flight ≡ false

-- Each header that the die has or may have was written in this life, and names the die.
abbrev pub IsNamed : World → Unsynced → ℕ → Type 0
IsNamed w u die = (x : Option HeaderTells) → IsHead w u die x → (h : HeaderTells) × (x ≡ Some h) × (names h.live die ≡ true)

pub record HeadersFit (first w : World) (u : Unsynced) : Type 0 where
  pub grown : first.core.epoch ≤ w.core.epoch
  pub from : (h : HeaderTells) → IsAround w u h → first.core.epoch ≤ h.epoch
  pub below : (h : HeaderTells) → IsAround w u h → h.epoch ≤ w.core.epoch
  -- a header of this epoch names the live dies
  pub now : (h : HeaderTells) → IsAround w u h → h.epoch ≡ w.core.epoch → h.live ≡ mask_of w.core.page_map
  -- headers of one epoch name the same dies
  pub alike : (h l : HeaderTells) → IsAround w u h → IsAround w u l → h.epoch ≡ l.epoch → h.live ≡ l.live
  -- a die that was live from the beginning on is named, and no spare is
  pub kept : (h : HeaderTells) → IsAround w u h → (die : ℕ) → is_live w.core.page_map die ≡ true → is_live first.core.page_map die ≡ true
      → names h.live die ≡ true
  pub unused : (h : HeaderTells) → IsAround w u h → (die : ℕ) → contains_key w.core.spares die ≡ true → names h.live die ≡ false
  pub spares : (die : ℕ) → contains_key w.core.spares die ≡ true → is_live first.core.page_map die ≡ false
  -- live dies and spares are dies of the array, and a header names no others
  pub there : (die : ℕ) → is_live w.core.page_map die ≡ true → is_of_array first die ≡ true
  pub unused_yet : (die : ℕ) → contains_key w.core.spares die ≡ true → contains_key first.core.spares die ≡ true
  pub ours : (h : HeaderTells) → IsAround w u h → (die : ℕ) → names h.live die ≡ true → is_of_array first die ≡ true
  -- a live die that a header names is named by each later one
  pub rising : (h l : HeaderTells) → IsAround w u h → IsAround w u l → h.epoch ≤ l.epoch → (die : ℕ) → is_live w.core.page_map die ≡ true
      → names h.live die ≡ true → names l.live die ≡ true
  -- one that is named in two epochs was live between them, and so was one that was live at the beginning up to an epoch that names it
  pub between : (h l t : HeaderTells) → IsAround w u h → IsAround w u l → IsAround w u t → h.epoch ≤ l.epoch → l.epoch ≤ t.epoch → (die : ℕ)
      → names h.live die ≡ true → names t.live die ≡ true → names l.live die ≡ true
  pub until : (l t : HeaderTells) → IsAround w u l → IsAround w u t → l.epoch ≤ t.epoch → (die : ℕ) → is_live first.core.page_map die ≡ true
      → names t.live die ≡ true → names l.live die ≡ true
  -- a die writes headers that name it
  pub own : (die : ℕ) (h : HeaderTells) → IsHead w u die (Some h) → names h.live die ≡ true
  pub writing : (die epoch live : ℕ) (work : Work) → w.works die ≡ Some work → work.job.flight ≡ Header epoch live → names live die ≡ true
  pub written : (die epoch live : ℕ) (work : Work) → w.works die ≡ Some work → work.job.flight ≡ Header epoch live
      → work.gave ≡ Accepted ∷ [] → IsNamed w u die
  -- a live die whose header is not behind, or that is at another job, has written its header
  pub fresh : (die : ℕ) → is_live w.core.page_map die ≡ true → contains_key w.core.behind die ≡ false → IsNamed w u die
  pub busy : (die : ℕ) → IsAtOther w die → IsNamed w u die
  -- so has one that came in and is trusted with a page
  pub trusted : (die page : ℕ) → is_live first.core.page_map die ≡ false → Trusted w.core die page → IsNamed w u die
  -- a die that has not written its header has written nothing
  pub unchanged : (die : ℕ) → IsHead w u die None → (slot : ℕ)
      → ((w.images die).seen slot ≡ (first.images die).seen slot) × (u.since die slot ≡ [])
