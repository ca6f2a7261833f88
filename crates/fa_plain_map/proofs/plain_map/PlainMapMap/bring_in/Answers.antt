use Rattle.std.proofs.Common.{◌+◌, ◌<◌, refl, true, subst, set}
use Rattle.fa_types.specs.declared.geometry.Geometry.{Geometry}
use Rattle.fa_map_calls.proofs.Plain.{plain_in, told}
use Rattle.fa_plain_map.proofs.plain_map.PlainMapMap.bring_in.Goals as goal

pub invariant_of-self : goal.invariant_of-self
invariant_of-self g c =
    let s = c.args.self.now in
    let fits = subst (λ (k : Geometry). c.args.die.0 < k.dies) s.sound.geometry c.requires.die in
    let after = plain_in s.history.shown s.geometry s.live.items s.live_dies s.versions.items s.used.items s.sound c.args.die.0 fits c.requires.out in
    record { sound = told s.geometry (set s.live.items c.args.die.0 true) s.versions.items _ c.note.new.history.shown _ (s.live_dies + 1) _ s.used.items c.note.ensures refl refl after }
