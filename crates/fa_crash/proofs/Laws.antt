-- The laws of single events that the proofs here rest on.
use Rattle.fa_crash.proofs.Spared.{StaysLaw}
use Rattle.fa_crash.proofs.Steps.{LiveLaw, NumbersLaw, RaisesLaw}
use Rattle.fa_laws.specs.Erased.{IsErased}
use Rattle.fa_laws.specs.Kept.{KeepsSpares}
use Rattle.fa_machine.specs.State.{Core, is_live, used_at}
use Rattle.fa_machine.specs.Step.{Act, Step}
use Rattle.fa_sound.specs.Sound.{IsSound}
use Rattle.std.proofs.Common.{None, true, ℕ, ◌≡◌}
use Rattle.std.specs.Prelude.{is_some}

abbrev pub SparesLaw : Type 0
SparesLaw = (old new : Core) (act : Act) → Step old act new → KeepsSpares old act new

abbrev pub SoundLaw : Type 0
SoundLaw = (old new : Core) (act : Act) → Step old act new → IsSound old → IsSound new

abbrev pub GeometryLaw : Type 0
GeometryLaw = (old new : Core) (act : Act) → Step old act new → new.page_map.geometry ≡ old.page_map.geometry

abbrev pub ErasesLaw : Type 0
ErasesLaw = (old new : Core) (act : Act) (die slot : ℕ) → Step old act new → is_live new.page_map die ≡ true
    → is_some (used_at old.page_map die slot) ≡ true → used_at new.page_map die slot ≡ None → IsErased old act die slot

pub record Laws : Type 0 where
  pub live : LiveLaw
  pub spares : SparesLaw
  pub numbers : NumbersLaw
  pub raises : RaisesLaw
  pub sound : SoundLaw
  pub geometry : GeometryLaw
  pub erases : ErasesLaw
  pub stays : StaysLaw
