use Rattle.std.proofs.Common.{◌+◌, ◌<◌, true, refl, subst, set}
use Rattle.fa_types.specs.declared.geometry.Geometry.{Geometry}
use Rattle.std.specs.Prelude.{map}
use Rattle.fa_map.specs.Shown.{used_of}
use Rattle.fa_map_calls.proofs.Plain.{plain_in, told}
use Rattle.fa_map.proofs.page_map.PageMapMap.bring_in.Goals as goal

pub invariant_of-self : goal.invariant_of-self
invariant_of-self g c =
    let s = c.args.self.now in
    let fits = subst (λ (k : Geometry). c.args.die.0 < k.dies) s.sound.plain.geometry c.requires.die in
    let after = plain_in s.history.shown s.geometry s.live.items s.live_dies s.tables.pages.versions (map (used_of s.tables.pages.versions) s.tables.slots.entries) s.sound.plain c.args.die.0 fits c.requires.out in
    record {
      sound = record {
        plain = told s.geometry (set s.live.items c.args.die.0 true) s.tables.pages.versions _ c.note.new.history.shown _ (s.live_dies + 1) _ (map (used_of s.tables.pages.versions) s.tables.slots.entries) c.note.ensures refl refl after;
        known = s.sound.known;
      };
      same = s.same;
      few = s.few;
    }
