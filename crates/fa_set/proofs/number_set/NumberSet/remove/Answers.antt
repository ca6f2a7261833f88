use Rattle.std.proofs.Common.{◌/◌, ◌∙◌, true}
use Rattle.fa_set.proofs.Leveled.{above_out, inside_out}
use Rattle.fa_set.proofs.Membership.{out_below}
use Rattle.fa_set.proofs.number_set.NumberSet.remove.Goals as goal

pub invariant_of-self : goal.invariant_of-self
invariant_of-self g c =
    let s = c.args.self.now in
    let low = c.take_out-low_empty in
    let middle = c.take_out-middle_empty in
    record {
      sound = record {
        low_words = low.ensures.long ∙ s.sound.low_words;
        middle_words = middle.ensures.long ∙ s.sound.middle_words;
        high_words = c.take_out.ensures.long ∙ s.sound.high_words;
        inside = inside_out s.low.items low.new.words.items c.args.number s.bound s.sound.inside low.ensures.has;
        middle_above = above_out s.low.items s.middle.items low.new.words.items middle.new.words.items c.args.number true low.result s.sound.middle_above low.ensures.has low.ensures.emptied low.ensures.left middle.ensures.has;
        high_above = above_out s.middle.items s.high.items middle.new.words.items c.take_out.new.words.items (c.args.number / 64) low.result middle.result s.sound.high_above middle.ensures.has middle.ensures.emptied middle.ensures.left c.take_out.ensures.has;
      };
    }

pub returns-clause-members : goal.returns-clause-members
returns-clause-members g c =
    let s = c.args.self.now in
    out_below s.bound s.low.items c.take_out-low_empty.new.words.items c.args.number c.take_out-low_empty.ensures.has
