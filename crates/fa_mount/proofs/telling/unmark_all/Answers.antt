use Rattle.std.proofs.Common.{◌&&◌, ◌+◌, ◌≡◌, arith, false, subst, sym, ◌∙◌, ℕ, Bool}
use Rattle.std.proofs.lemmas.Bool.{and_from, and_left, and_parts, and_right}
use Rattle.fa_mount_headers.specs.Rules.{is_in}
use Rattle.fa_image.specs.Image.{ImageCall}
use Rattle.fa_mount.proofs.Bits.{in_below}
use Rattle.fa_mount.proofs.Tried.{Tried, tried_all, tried_below, tried_more, tried_past}
use Rattle.fa_mount.specs.Phases.{ByDie, answer_of}
use Rattle.fa_mount.specs.Told.{writing}
use Rattle.fa_mount.proofs.telling.unmark_all.Goals as goal
use Rattle.fa_mount.proofs.telling.unmark_all.Goals.{then-is_in+then-is_in-2, else-is_in, else-is_in-via-then-is_in+else-is_in-2, else-is_in-via-else-is_in}

pub loop-die-preserved : goal.loop-die-preserved
loop-die-preserved g c =
    let made = g.I.Image.made in
    let dies = c.args.dies.now in
    let call : ℕ → ImageCall = writing c.args.told.now false in
    let left = λ (d : ℕ). is_in c.args.told.now.mask d in
    let marked = λ (d : ℕ). is_in c.args.marked d in
    let these : ℕ → Bool = λ d. left d && marked d in
    let images = c.args.images.now in
    let die = c.loop-die.die in
    let past = tried_past made call dies these images c.loop-die.images die c.loop-die.invariant in
    elim c.if-is_in.branch [
      | then-is_in+then-is_in-2 w ↦
          let both = and_from (left die) (marked die) (sym c.is_in.ensures ∙ w.if-is_in.true) (sym w.is_in-then-is_in.ensures ∙ w.if-is_in-2.true) in
          subst (λ l. ByDie dies (Tried made call (tried_below made call these (die + 1))) images l) (sym w.images-is)
          (tried_more made call dies these images c.loop-die.images die c.loop-die.invariant w.tell_one.new.images
          (answer_of w.tell_one.result) c.requires.apart both w.tell_one.ensures)
      | else-is_in w ↦
          let one_not : these die ≡ false = elim w.else-is_in.branch [
            | else-is_in-via-then-is_in+else-is_in-2 v ↦
                and_right (left die) (marked die) (sym v.is_in-then-is_in.ensures ∙ v.if-is_in-2.false)
            | else-is_in-via-else-is_in v ↦ and_left (left die) (marked die) (sym c.is_in.ensures ∙ v.if-is_in.false)
          ] in
          subst (λ l. ByDie dies (Tried made call (tried_below made call these (die + 1))) images l) (sym w.images-is) (past one_not)
    ]

pub returns : goal.returns
returns g c =
    let told = c.args.told.now in
    let these : ℕ → Bool = λ d. is_in told.mask d && is_in c.args.marked d in
    tried_all g.I.Image.made (writing told false) c.args.dies.now these c.args.images.now c.loop-die.images c.loop-die.die c.loop-die.invariant
    (λ d is.
    let low = in_below told.mask told.geometry.dies d c.requires.told.inside (and_parts (is_in told.mask d) (is_in c.args.marked d) is).0 in
    omega (arith, low, c.loop-die-test.false))
