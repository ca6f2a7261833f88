use Rattle.fa_crash.proofs.Masked.{holder_in, holder_live}
use Rattle.fa_crash.proofs.headers.the_mask_has_the_holders.Goals as goal

pub returns-clause-mask : goal.returns-clause-mask
returns-clause-mask c first w told happenings u cells heads seen x page b t run cut left among holds =
    holder_in first told heads seen left x among
    (λ other less. c.a_header_names_the_holders.ensures.names first w told happenings u cells heads page x.header.die.0 other b t run cut holds less)

pub returns-clause-live : goal.returns-clause-live
returns-clause-live c first w told happenings u cells heads seen x page b t run cut left among holds =
    holder_live first told heads seen left x among
    (holder_in first told heads seen left x among
    (λ other less. c.a_header_names_the_holders.ensures.names first w told happenings u cells heads page x.header.die.0 other b t run cut holds less))
    (c.a_header_names_the_holders.ensures.mounted first w told happenings u cells heads page x.header.die.0 b t run cut holds)
