-- The store of one thread over a world, and the calls that a connection makes of it.
use Rattle.std.proofs.Common.{inl, inr}
use Rattle.std.specs.Prelude.{◌≡◌, ◌⊎◌, ℕ, ◌*◌, List, [], ◌∷◌}
use Rattle.fa_shared_request.specs.Counts.{request_of}
use Rattle.fa_solo_laws.specs.Rest.{IsIdle}
use Rattle.fa_solo_laws.specs.Standing.{IsGivenUp, IsWorldOf}
use Rattle.fa_image.specs.Image.{ImageAnswer, ImageCall, ImageState}
use Rattle.fa_io.specs.Streams.{Streams}
use Rattle.fa_machine.specs.World.{World}
use Rattle.fa_mount.specs.Standings.{AreApart}
use Rattle.fa_shared_steps.specs.Tasks.{task_of}
use Rattle.fa_session.specs.Exchanges.{Asked, Chain, Exchange, Makes, Outcome}
use Rattle.fa_session.specs.Session.{Session}
use Rattle.fa_session.specs.declared.session_end.SessionEnd.{SessionEnd}
use Rattle.fa_solo.specs.Calls.{bytes_of}
use Rattle.fa_solo.specs.Stores.{StoreMakes, StoreState}

module _ {L M I A : Type 0} where
  -- The world is of what the store owns, the store is as large as the array, nothing is open at the array, and no two dies have one image.
  pub record IsStoreOf (view : I → ImageState) (store : StoreState L M I A) (w : World) : Type 0 where
    pub owns : IsWorldOf view store.inner w
    pub bytes : store.bytes ≡ w.core.page_map.geometry.pages * w.core.page_map.geometry.page_bytes
    pub page : store.page_bytes ≡ w.core.page_map.geometry.page_bytes
    pub idle : IsIdle store.inner.locked.core
    pub apart : AreApart store.inner.dies.items

  module _ (made : I → ImageCall → ImageAnswer → I → Type 0) where
    -- The exchange has a call, and that was given up.
    abbrev pub was_given_up : (before : StoreState L M I A) (outcome : Outcome) (after : StoreState L M I A)
        → Makes (StoreMakes made) before outcome after → Type 0
    was_given_up before (Asked call answer) after makes =
        IsGivenUp made (task_of before.page_bytes (request_of call)) (bytes_of call) answer before.inner after.inner makes.4
    was_given_up before outcome after makes = ⊥

    -- One of the calls was given up.
    abbrev pub OneGivenUp : (before : StoreState L M I A) (exchanges : List Exchange) (after : StoreState L M I A)
        → Chain (StoreMakes made) before exchanges after → Type 0
    OneGivenUp before [] after chain = ⊥
    OneGivenUp before (e ∷ es) after chain = was_given_up before e.outcome chain.0 chain.1 ⊎ OneGivenUp chain.0 es after chain.2

    abbrev pub IsSessionGivenUp : (export : List ℕ) (size : ℕ) (streams : Streams) (before after : StoreState L M I A) (end : SessionEnd)
        → Session (StoreMakes made) export size streams before after end → Type 0
    IsSessionGivenUp export size streams before after end (inl early) = ⊥
    IsSessionGivenUp export size streams before after end (inr transmits) = OneGivenUp before transmits.exchanges after transmits.asked
