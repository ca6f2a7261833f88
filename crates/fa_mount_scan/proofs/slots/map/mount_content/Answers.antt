use Rattle.std.proofs.Common.{◌≡◌, ◌∙◌, ◌+◌, ◌*◌, ℕ, List, Option, Some, None, length, sym, subst, ap, arith}
use Rattle.fa_types.specs.declared.geometry.Geometry.{Geometry}
use Rattle.fa_machine.specs.State.{MapState}
use Rattle.fa_machine.specs.declared.places.Version.{Version}
use Rattle.fa_map_calls.specs.Changes.{brought_in}
use Rattle.fa_mount_scan.specs.Content.{Contents, NamePages, slots_on}
use Rattle.fa_mount_scan.specs.ContentMerging.{ChangesDie, IsMountedBefore}
use Rattle.fa_mount_scan.specs.declared.slots.content.SlotContent.{SlotContent}
use Rattle.fa_mount_scan.proofs.Filling.{AreMounted, all_mounted, die_begun, die_mounted, die_skipped, none_mounted}
use Rattle.fa_mount_scan.proofs.LastWrites.{die_read, found_on}
use Rattle.fa_mount_scan.proofs.slots.map.mount_content.Goals.{in-Some, in_default}
use Rattle.fa_mount_scan.proofs.slots.map.mount_content.Goals as goal

pub last_writes-requires : goal.last_writes-requires
last_writes-requires g c = subst (λ (geometry : Geometry). NamePages c.args.contents.now geometry.pages) (sym c.geometry.ensures) c.requires.contents.pages

pub loop-die-init : goal.loop-die-init
loop-die-init g c =
    none_mounted (g.M.Map.view c.args.map.now).geometry c.args.contents.now c.in_ok-last.last.items (g.M.Map.view c.args.map.now) c.requires.empty

pub mount_die-requires-clause-slots : goal.mount_die-requires-clause-slots
mount_die-requires-clause-slots g c =
    let slots : List SlotContent = c.slots.result.now in
    let on : slots_on c.args.contents.now c.loop-die.die ≡ Some slots =
    die_read c.args.contents.now c.loop-die.die c.index-contents-die.result c.loop-die-test.true c.index-contents-die.is ∙ c.in-Some.is
    ∙ ap (λ (l : List SlotContent). Some l) (sym c.slots.ensures) in
    let shape = ap (λ (m : MapState). m.geometry) c.bring_in.ensures ∙ c.loop-die.invariant.shape in
    subst (λ (geometry : Geometry). length slots ≡ geometry.blocks * geometry.slots) (sym shape) (c.requires.contents.slots c.loop-die.die slots on)

pub mount_die-requires-clause-pages : goal.mount_die-requires-clause-pages
mount_die-requires-clause-pages g c = λ slot page version found.
    let slots : List SlotContent = c.slots.result.now in
    let on : slots_on c.args.contents.now c.loop-die.die ≡ Some slots =
    die_read c.args.contents.now c.loop-die.die c.index-contents-die.result c.loop-die-test.true c.index-contents-die.is ∙ c.in-Some.is
    ∙ ap (λ (l : List SlotContent). Some l) (sym c.slots.ensures) in
    let below = c.requires.contents.pages c.loop-die.die slot page version (found_on c.args.contents.now c.loop-die.die slot slots on ∙ found) in
    let pages = ap (λ (geometry : Geometry). geometry.pages) c.geometry.ensures in
    let long = c.in_ok-last.ensures.length in
    let same = c.as_slice.ensures.len in
    omega (arith, below, pages, long, same)

pub mount_die-requires-clause-before : goal.mount_die-requires-clause-before
mount_die-requires-clause-before g c =
    let begun = die_begun (g.M.Map.view c.args.map.now).geometry c.args.contents.now c.in_ok-last.last.items c.loop-die.die (g.M.Map.view c.loop-die.map)
    c.loop-die.invariant c.slots.result.now in
    subst (λ (l : _). IsMountedBefore l c.slots.result.now c.loop-die.die 0 (g.M.Map.view c.bring_in.new.self)) (sym c.as_slice.ensures.value)
    (subst (IsMountedBefore c.in_ok-last.last.items c.slots.result.now c.loop-die.die 0) (sym c.bring_in.ensures) begun)

pub loop-die-preserved : goal.loop-die-preserved
loop-die-preserved g c =
    let G : Geometry = (g.M.Map.view c.args.map.now).geometry in
    let contents : Contents = c.args.contents.now in
    let last : List (Option Version) = c.in_ok-last.last.items in
    let die : ℕ = c.loop-die.die in
    let m : MapState = g.M.Map.view c.loop-die.map in
    elim c.match-contents-die.branch [
      | in-Some w ↦
          let slots : List SlotContent = w.slots.result.now in
          let on : slots_on contents die ≡ Some slots =
          die_read contents die c.index-contents-die.result c.loop-die-test.true c.index-contents-die.is ∙ w.in-Some.is
          ∙ ap (λ (l : List SlotContent). Some l) (sym w.slots.ensures) in
          let n : MapState = g.M.Map.view w.mount_die.new.map in
          let mounted : IsMountedBefore last slots die (length slots) n =
          subst (λ (l : List (Option Version)). IsMountedBefore l slots die (length slots) n) w.as_slice.ensures.value w.mount_die.ensures.mounted in
          let others : ChangesDie die (brought_in die m) n = subst (λ (k : MapState). ChangesDie die k n) w.bring_in.ensures w.mount_die.ensures.others in
          let all : AreMounted G contents last (die + 1) n = die_mounted G contents last die m c.loop-die.invariant slots on n mounted others in
          subst (λ (map : g.row.M.Denot). AreMounted G contents last (die + 1) (g.M.Map.view map)) (sym w.map-is) all
      | in_default w ↦
          let on : slots_on contents die ≡ None =
          die_read contents die c.index-contents-die.result c.loop-die-test.true c.index-contents-die.is ∙ w.in_default.is in
          let all : AreMounted G contents last (die + 1) m = die_skipped G contents last die m c.loop-die.invariant on in
          subst (λ (map : g.row.M.Denot). AreMounted G contents last (die + 1) (g.M.Map.view map)) (sym w.map-is) all
    ]

pub returns-clause-mounted : goal.returns-clause-mounted
returns-clause-mounted g c =
    let G : Geometry = (g.M.Map.view c.args.map.now).geometry in
    let end : c.loop-die.die ≡ length c.args.contents.now = omega arith in
    let all = subst (λ (die : ℕ). AreMounted G c.args.contents.now c.in_ok-last.last.items die (g.M.Map.view c.loop-die.map)) end c.loop-die.invariant in
    all_mounted G c.args.contents.now c.in_ok-last.last.items (g.M.Map.view c.loop-die.map) c.in_ok-last.ensures.last all (g.met.M.Map.whole c.loop-die.map)
