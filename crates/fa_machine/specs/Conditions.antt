-- The tests of what is open, by which a caller keeps the conditions of the events, and the first refusal that
-- applies. Also how a die goes out.
use Rattle.std.specs.Prelude.{◌≡◌, ℕ, ◌+◌, Bool, cond, not, ◌==◌, List}
use Rattle.std.specs.Prelude.{[], ◌∷◌, length, nat_le, filter, Option, Some, None, is_some, unwrap_or, option_and_then}
use Rattle.std.specs.FinMap.{remove, contains_key, get}
use Rattle.fa_machine.specs.Maps.{keep}
use Rattle.fa_machine.specs.State.{Core, Reservation}

-- A die goes out: what it held, its bookings, its window, its job and its waiting programs are dropped, the epoch
-- rises by 1, and the header of each die that is left is behind.
abbrev pub drop_die : ℕ → Core → Core
drop_die die core =
    let left = remove core.page_map.live die in record core {
      page_map = record (core.page_map) { live = left; used = keep (λ place used. not (place.0 == die)) core.page_map.used };
      calendar = record (core.calendar) {
        bookings = keep (λ place booking. not (place.0 == die)) core.calendar.bookings;
        windows = remove core.calendar.windows die;
      };
      epoch = core.epoch + 1;
      behind = left;
      stepped = remove core.stepped die;
      waiting = filter (λ program. not (program.die == die)) core.waiting;
      jobs = remove core.jobs die;
      asked = remove core.asked die;
      synced = remove core.synced die;
    }

-- what is reserved under a claim
abbrev pub reserved_under : Core → ℕ → Option Reservation
reserved_under core claim = option_and_then (λ c. c.reserved) (get core.claims claim)

abbrev pub claim_open : Core → ℕ → Bool
claim_open core claim = contains_key core.claims claim

abbrev pub is_reserved : Core → ℕ → Bool
is_reserved core claim = is_some (reserved_under core claim)

abbrev pub batch_open : Core → ℕ → Bool
batch_open core batch = contains_key core.batches batch

abbrev pub copy_open : Core → Bool
copy_open core = is_some core.copying

-- 65,536 entries are the most between two folds
abbrev pub history_full : Core → Bool
history_full core = nat_le 65536 (length core.history)

-- of some refusals with their conditions the first whose condition holds
abbrev pub first_that : {R : Type 0} → List (Bool × R) → Option R
first_that [] = None
first_that (refusal ∷ refusals) = cond refusal.0 (Some refusal.1) (first_that refusals)

-- The refusal of a call that takes memory: the first that applies, and where none does it is the one for want of memory.
abbrev pub Refuses : {R : Type 0} → Option R → R → R → Type 0
Refuses why no_memory refused = refused ≡ unwrap_or why no_memory
