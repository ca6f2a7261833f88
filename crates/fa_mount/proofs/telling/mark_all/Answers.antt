use Rattle.std.proofs.Common.{◌+◌, ap, arith, sym, subst, true, ◌∙◌, ℕ}
use Rattle.fa_mount_headers.specs.Rules.{is_in}
use Rattle.fa_image.specs.Image.{ImageCall}
use Rattle.fa_mount.proofs.Bits.{in_below}
use Rattle.fa_mount.proofs.Called.{made_all, made_more, made_past, made_refused, marks_all, marks_more, marks_past}
use Rattle.fa_mount.specs.Phases.{AreMade, called_below}
use Rattle.fa_mount.specs.Told.{writing}
use Rattle.fa_mount.proofs.telling.mark_all.Goals as goal
use Rattle.fa_mount.proofs.telling.mark_all.Goals.{then-is_in+in-Ok, else-is_in}

pub returns-in-Err-clause-made : goal.returns-in-Err-clause-made
returns-in-Err-clause-made g c =
    made_refused g.I.Image.made c.args.dies.now (writing c.args.told.now true) c.args.told.now.mask c.args.images.now c.loop-die.images
    c.loop-die.die c.loop-die.invariant.calls c.tell_one.new.images c.requires.apart c.in-Err.field-0 c.in-Err.ensures

pub loop-die-preserved : goal.loop-die-preserved
loop-die-preserved g c =
    let made = g.I.Image.made in
    let dies = c.args.dies.now in
    let call : ℕ → ImageCall = writing c.args.told.now true in
    let mask = c.args.told.now.mask in
    let images = c.args.images.now in
    let die = c.loop-die.die in
    let was = λ (d : ℕ). is_in c.args.marked.now d in
    let old = λ (d : ℕ). is_in c.loop-die.marked d in
    elim c.if-is_in.branch [
      | then-is_in+in-Ok w ↦
          let is = sym c.is_in.ensures ∙ w.if-is_in.true in record {
            calls = subst (λ l. AreMade made dies call (called_below mask (die + 1)) images l) (sym w.images-is)
                (made_more made dies call mask images c.loop-die.images die c.loop-die.invariant.calls w.tell_one.new.images c.requires.apart
                is w.in-Ok.ensures);
            marks = λ d. marks_more mask die d (was d) (old d) (c.loop-die.invariant.marks d) (is_in c.if-is_in.marked d) is
                (ap (λ n. is_in n d) w.marked-is ∙ w.with.ensures d);
          }
      | else-is_in w ↦
          let not_in = sym c.is_in.ensures ∙ w.if-is_in.false in record {
            calls = subst (λ l. AreMade made dies call (called_below mask (die + 1)) images l) (sym w.images-is)
                (made_past made dies call mask images c.loop-die.images die c.loop-die.invariant.calls not_in);
            marks = λ d. ap (λ n. is_in n d) w.marked-is ∙ marks_past mask die d (was d) (old d) (c.loop-die.invariant.marks d) not_in;
          }
    ]

pub returns-clause-made : goal.returns-clause-made
returns-clause-made g c =
    let told = c.args.told.now in
    made_all g.I.Image.made c.args.dies.now (writing told true) told.mask c.args.images.now c.loop-die.images c.loop-die.die
    c.loop-die.invariant.calls
    (λ die is. let low = in_below told.mask told.geometry.dies die c.requires.told.inside is in omega (arith, low, c.loop-die-test.false))

pub returns-clause-marked : goal.returns-clause-marked
returns-clause-marked g c = λ d.
    let told = c.args.told.now in
    marks_all told.mask c.loop-die.die d (is_in c.args.marked.now d) (is_in c.loop-die.marked d) (c.loop-die.invariant.marks d)
    (λ is. let low = in_below told.mask told.geometry.dies d c.requires.told.inside is in omega (arith, low, c.loop-die-test.false))
