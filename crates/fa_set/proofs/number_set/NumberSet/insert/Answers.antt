use Rattle.std.proofs.Common.{◌/◌, ◌∙◌}
use Rattle.fa_set.proofs.Leveled.{above_put, inside_put}
use Rattle.fa_set.proofs.Membership.{put_below}
use Rattle.fa_set.proofs.number_set.NumberSet.insert.Goals as goal

pub invariant_of-self : goal.invariant_of-self
invariant_of-self g c =
    let s = c.args.self.now in
    record {
      sound = record {
        low_words = c.put.ensures.long ∙ s.sound.low_words;
        middle_words = c.put-2.ensures.long ∙ s.sound.middle_words;
        high_words = c.put-3.ensures.long ∙ s.sound.high_words;
        inside = inside_put s.low.items c.put.new.words.items c.args.number s.bound c.requires s.sound.inside c.put.ensures.has;
        middle_above = above_put s.low.items s.middle.items c.put.new.words.items c.put-2.new.words.items c.args.number s.sound.middle_above c.put.ensures.has c.put-2.ensures.has;
        high_above = above_put s.middle.items s.high.items c.put-2.new.words.items c.put-3.new.words.items (c.args.number / 64) s.sound.high_above c.put-2.ensures.has c.put-3.ensures.has;
      };
    }

pub returns-clause-members : goal.returns-clause-members
returns-clause-members g c =
    let s = c.args.self.now in
    put_below s.bound s.low.items c.put.new.words.items c.args.number c.requires c.put.ensures.has
