use Rattle.std.proofs.Common.{◌≡◌, ℕ, Bool, true, false, not, Option, Some, None, sym, ◌∙◌, ap}
use Rattle.std.proofs.lemmas.Bool.{false≢true}
use Rattle.std.specs.Prelude.{is_some, option_map}
use Rattle.fa_types.specs.declared.numbers.Slot.{Slot}
use Rattle.fa_mount_scan.proofs.Merging.{none_held, some_held}
use Rattle.fa_mount_scan.proofs.slots.map.is_first.Goals as goal

none_found : (found : Option Slot) (b : Bool) (k : Option ℕ) → is_some found ≡ not b → option_map (λ slot. slot.0) found ≡ k → b ≡ true → k ≡ None
none_found None b k some is none = sym is
none_found (Some slot) b k some is none = absurd (false≢true (sym (some ∙ ap not none)))

some_found : (found : Option Slot) (b : Bool) (k : Option ℕ) → is_some found ≡ not b → option_map (λ slot. slot.0) found ≡ k → b ≡ false
    → (s : ℕ) × (k ≡ Some s)
some_found None b k some is not_none = absurd (false≢true (some ∙ ap not not_none))
some_found (Some slot) b k some is not_none = (slot.0, sym is)

pub returns-clause-first : goal.returns-clause-first
returns-clause-first g c = λ none.
    none_held (g.M.Map.view c.args.map.now) (g.met.M.Map.whole c.args.map.now) c.args.page c.args.die.0
    (none_found c.copy_on.result c.is_none.result _ c.is_none.ensures c.copy_on.ensures none)

pub returns-clause-other : goal.returns-clause-other
returns-clause-other g c = λ not_none last.
    let found = some_found c.copy_on.result c.is_none.result _ c.is_none.ensures c.copy_on.ensures not_none in (
      found.0,
      some_held (g.M.Map.view c.args.map.now) (g.met.M.Map.whole c.args.map.now) c.args.page c.args.die.0 found.0 _ c.args.version
          found.1 c.requires.numbers last,
    )
