use Rattle.fa_crash.proofs.Recovered.{plain_holder, recovers}
use Rattle.fa_crash.proofs.recovering.recovering_is_not_refused_by_the_headers.Goals as goal

pub returns : goal.returns
returns c first w told happenings u cells heads seen x page copies b t alike run cut left one all among holds =
    recovers first told t alike heads
    (λ die other h l e g same. c.headers_of_one_epoch_are_alike.ensures.alike first w told happenings u cells heads die other h l b t run cut e g same)
    (λ die h e. c.headers_of_one_epoch_are_alike.ensures.later first w told happenings u cells heads die h b t run cut e)
    seen left x among (c.the_mask_has_the_holders.ensures.mask first w told happenings u cells heads seen x page b t run cut left among holds)
    (plain_holder first told heads seen left x among
    (c.a_header_names_the_holders.ensures.mounted first w told happenings u cells heads page x.header.die.0 b t run cut holds)) all copies one
