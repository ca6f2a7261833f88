-- The store that an array is to one of those who share it: its size and the length of its answers are known, and nothing of its content.
use Rattle.std.specs.Prelude.{◌≡◌, ℕ, ◌≤◌, false, []}
use Rattle.std.proofs.Common.{refl}
use Rattle.std.proofs.lemmas.Bool.{false≢true}
use Rattle.fa_types.specs.Store.{Store, Call, Answer, IsAnswer, IsWhole, Meets}

abbrev pub shared_view : ℕ → ℕ → Store
shared_view size page_bytes = record {
  size = size;
  page_bytes = page_bytes;
  alone = false;
  lost = λ page. false;
  content = [];
  no_die_live = false;
  no_room = false;
  spent = false;
}

-- each of its calls is a call of such a store
pub shared_meets : (size page_bytes size' page_bytes' : ℕ) (call : Call) (answer : Answer) → size' ≡ size → page_bytes' ≡ page_bytes
    → IsAnswer call answer → Meets (shared_view size page_bytes) call answer (shared_view size' page_bytes')
shared_meets size page_bytes size' page_bytes' call answer same_size same_pages gives =
    record { size = same_size; page_bytes = same_pages; alone = refl; gives = gives; served = λ alone. absurd (false≢true alone) }

pub shared_whole : (size page_bytes : ℕ) → 1 ≤ page_bytes → IsWhole (shared_view size page_bytes)
shared_whole size page_bytes some = record { some_bytes = some; sized = λ alone. absurd (false≢true alone) }
