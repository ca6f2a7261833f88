use Rattle.std.proofs.Common.{◌+◌, arith, sym, subst, ◌∙◌, ℕ}
use Rattle.fa_image.specs.Image.{ImageCall, Syncing}
use Rattle.fa_mount.proofs.Bits.{in_below}
use Rattle.fa_mount.proofs.Called.{made_all, made_more, made_past, made_refused}
use Rattle.fa_mount.specs.Phases.{AreMade, called_below}
use Rattle.fa_mount.proofs.telling.sync_all.Goals as goal
use Rattle.fa_mount.proofs.telling.sync_all.Goals.{then-is_in+in-Ok, else-is_in}

pub returns-in-Err-clause-made : goal.returns-in-Err-clause-made
returns-in-Err-clause-made g c =
    made_refused g.I.Image.made c.args.dies.now (λ die. Syncing) c.args.told.now.mask c.args.images.now c.loop-die.images c.loop-die.die
    c.loop-die.invariant c.sync_one.new.images c.requires.apart c.in-Err.field-0 c.in-Err.ensures

pub loop-die-preserved : goal.loop-die-preserved
loop-die-preserved g c =
    let made = g.I.Image.made in
    let dies = c.args.dies.now in
    let call : ℕ → ImageCall = λ die. Syncing in
    let mask = c.args.told.now.mask in
    let images = c.args.images.now in
    let die = c.loop-die.die in
    elim c.if-is_in.branch [
      | then-is_in+in-Ok w ↦
          subst (λ l. AreMade made dies call (called_below mask (die + 1)) images l) (sym w.images-is)
          (made_more made dies call mask images c.loop-die.images die c.loop-die.invariant w.sync_one.new.images c.requires.apart
          (sym c.is_in.ensures ∙ w.if-is_in.true) w.in-Ok.ensures)
      | else-is_in w ↦
          subst (λ l. AreMade made dies call (called_below mask (die + 1)) images l) (sym w.images-is)
          (made_past made dies call mask images c.loop-die.images die c.loop-die.invariant (sym c.is_in.ensures ∙ w.if-is_in.false))
    ]

pub returns-clause-made : goal.returns-clause-made
returns-clause-made g c =
    let told = c.args.told.now in
    made_all g.I.Image.made c.args.dies.now (λ die. Syncing) told.mask c.args.images.now c.loop-die.images c.loop-die.die c.loop-die.invariant
    (λ die is. let low = in_below told.mask told.geometry.dies die c.requires.told.inside is in omega (arith, low, c.loop-die-test.false))
