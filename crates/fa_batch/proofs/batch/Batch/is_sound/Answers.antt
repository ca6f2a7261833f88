use Rattle.std.proofs.Common.{◌≡◌, ◌≤◌, List, IsTrue, MatchOption, Option, Some, None, is_some, length, Bool, true, false, not, refl, arith}
use Rattle.fa_batch_terms.specs.declared.unsound.Unsound.{Unsound}
use Rattle.fa_batch_terms.specs.Batch.{Entry, AreFine, IsFirstWrong, IsSound}
use Rattle.fa_batch.proofs.Batches.{not_fine}
use Rattle.fa_batch.proofs.batch.Batch.is_sound.Goals as goal

-- sound, with so few pages, exactly where nothing is wrong
sound_iff : (batch : List Entry) (o : Option Unsound) (none : Bool) → length batch ≤ 1024 → is_some o ≡ not none → MatchOption o (AreFine batch) (λ u. IsFirstWrong batch u)
    → (IsTrue none → IsSound batch) × (IsSound batch → IsTrue none)
sound_iff batch None true few same fine = (λ _. record { few = few; fine = fine }, λ _. refl)
sound_iff batch None false few same fine = cc
sound_iff batch (Some u) true few same first = cc
sound_iff batch (Some u) false few same first = (λ no. cc, λ sound. absurd (not_fine batch u first sound.fine))

pub returns-then-len-le-MAX_PAGES : goal.returns-then-len-le-MAX_PAGES
returns-then-len-le-MAX_PAGES g c =
    sound_iff c.args.self.now c.unsound.result c.is_none.result (omega arith) c.is_none.ensures c.unsound.ensures
