-- A world that was just mounted, of which no header has been written, is one from which runs begin as well.
use Rattle.fa_machine.specs.Beginning.{IsBeginning, IsPlainOf, StandsAt}
use Rattle.fa_machine.specs.State.{used_at}
use Rattle.fa_machine.specs.World.{World}
use Rattle.fa_machine.specs.declared.places.Used.{Used}
use Rattle.fa_machine.specs.declared.places.Used.TheVariants.{Held, Reserved, Stale}
use Rattle.fa_machine.specs.declared.places.Version.{Version}
use Rattle.fa_mount_scan.specs.MountedWorld.{IsMountedWorld, SlotBytes}
use Rattle.std.proofs.Common.{Bool, None, Option, Some, ℕ}
use Rattle.std.specs.FinMap.{get}

-- no header of its images was written
abbrev pub unwritten : World → World
unwritten w = record w { images = λ die. record { seen = (w.images die).seen; header = None } }

stands_still : (w : World) (die slot : ℕ) (o : Option Used) → StandsAt w die slot o → StandsAt (unwritten w) die slot o
stands_still w die slot None s = s
stands_still w die slot (Some Reserved) s = s
stands_still w die slot (Some (Held page version)) s = s
stands_still w die slot (Some Stale) s = s

plain_still : (w : World) (page : ℕ) (o : Option Version) → IsPlainOf w page o → IsPlainOf (unwritten w) page o
plain_still w page None p = p
plain_still w page (Some version) p = p

pub begins_still : (w : World) → IsBeginning w → IsBeginning (unwritten w)
begins_still w b = record {
  fresh = b.fresh;
  copies = b.copies;
  enough = b.enough;
  based = b.based;
  last = b.last;
  live = b.live;
  spares = b.spares;
  used = b.used;
  stands = λ die slot there inside. stands_still w die slot (used_at w.core.page_map die slot) (b.stands die slot there inside);
  once = b.once;
  written = b.written;
  plain = λ page inside. plain_still w page (get w.core.page_map.versions page) (b.plain page inside);
  pages = b.pages;
  idle = b.idle;
  told = b.told;
}

pub mounted_still : (bytes : SlotBytes) (is_spare : ℕ → Bool) (w : World) → IsMountedWorld bytes is_spare w
    → IsMountedWorld bytes is_spare (unwritten w)
mounted_still bytes is_spare w m = record {
  fresh = m.fresh;
  copies = m.copies;
  holds = m.holds;
  spares = m.spares;
  based = m.based;
  last = m.last;
  given = m.given;
  cells = m.cells;
  agree = m.agree;
  plain = m.plain;
  payloads = m.payloads;
  pages = m.pages;
  idle = m.idle;
  told = m.told;
}
