-- What is true of the slots that are reserved under a claim.
use Rattle.fa_machine.specs.Among.{Among}
use Rattle.fa_machine.specs.Conditions.{reserved_under}
use Rattle.fa_machine.specs.State.{Core, OpenClaim, Reservation, is_live, used_at}
use Rattle.fa_machine.specs.Writing.{claimed_page}
use Rattle.fa_machine.specs.declared.places.Target.{Target}
use Rattle.fa_machine.specs.declared.places.Used.TheVariants.{Reserved}
use Rattle.fa_sound.proofs.Owning.{reserved_owned}
use Rattle.fa_sound.specs.Owners.{owned_of}
use Rattle.fa_sound.specs.Sound.{IsSound}
use Rattle.std.specs.Prelude.{option_map, unwrap_or}
use Rattle.fa_core_commit.specs.Holding.{FitsLive}
use Rattle.std.proofs.Common.{List, Some, [], arith, get_or, inl, inr, length, refl, suc, true, zero, ℕ, ◌<◌, ◌∷◌, ◌≡◌}
use Rattle.std.specs.FinMap.{get}
use Rattle.std.specs.List.{All}

-- what stands at an index is among the elements
among_at : {X : Type 0} (xs : List X) (k : ℕ) (d : X) → k < length xs → Among (get_or xs k d) xs
among_at [] k d low = absurd (omega (arith, low))
among_at (x ∷ xs) zero d low = inl refl
among_at (x ∷ xs) (suc k) d low = inr (among_at xs k d (omega (arith, low)))

-- who owns what is reserved under a claim
pub owner_of : (core : Core) (id : ℕ) (r : Reservation) → reserved_under core id ≡ Some r
    → owned_of core.copying core.claims (Some id) ≡ Some (record {
      page = unwrap_or (option_map {T = OpenClaim} (λ c. c.page) (get core.claims id)) 0;
      version = r.version;
      targets = r.targets;
    })
owner_of core id r is = reserved_owned (get core.claims id) r is

-- a reserved slot of a live die is reserved
pub reserved_kept : (core : Core) → IsSound core → (id : ℕ) (r : Reservation) → reserved_under core id ≡ Some r
    → (k : ℕ) (d : Target) → k < length r.targets → is_live core.page_map (get_or r.targets k d).die.0 ≡ true
    → used_at core.page_map (get_or r.targets k d).die.0 (get_or r.targets k d).slot.0 ≡ Some Reserved
reserved_kept core sound id r is k d low live =
    let t = get_or r.targets k d in
    (sound.targets t.die.0 t.slot.0 (record {
      owner = Some id;
      owned = _;
      target = t;
      owns = owner_of core id r is;
      among = among_at r.targets k d low;
      on_die = refl;
      at_slot = refl;
    })).kept live

-- and one of the die's
pub reserved_fit : (core : Core) → IsSound core → (id : ℕ) (r : Reservation) → reserved_under core id ≡ Some r
    → All (FitsLive core.page_map) r.targets
reserved_fit core sound id r is k d low live =
    let t = get_or r.targets k d in
    (sound.slots t.die.0 t.slot.0 Reserved (reserved_kept core sound id r is k d low live)).inside

-- a claimed page is one of the array's
pub page_inside : (core : Core) → IsSound core → (id : ℕ) (r : Reservation) → reserved_under core id ≡ Some r
    → claimed_page core id < core.page_map.geometry.pages
page_inside core sound id r is = sound.claims.inside id (claimed_page core id) (sound.new id _ (owner_of core id r is)).claimed
