use Rattle.fa_crash.proofs.Outlasting.{promised_run}
use Rattle.fa_crash.proofs.Live.{mounted_live}
use Rattle.fa_crash.proofs.mounts.a_promised_page_is_mounted_from_a_holder.Goals as goal
use Rattle.fa_mount_headers.specs.Rules.{seen_from}

pub returns : goal.returns
returns g c first w told u page number cells heads copies unclean before after array epoch clean dies m x slots promised t cut mounts long honest left headers
    among low read holds =
    let run = promised_run first page number w u promised in
    let live = c.the_mask_has_the_holders.ensures.live first w told run.0 u cells heads (seen_from 0 mounts.headers.founds) x page promised.beginning t
    run.1 cut headers among holds in
    c.a_promised_page_is_mounted_again.ensures first w u page number x.header.die.0 cells heads copies unclean before after array epoch clean dies m promised cut
    mounts long honest left holds
    (mounted_live g.row.A.Denot g.I.Image.view g.I.Image.made copies unclean before after array epoch clean dies m mounts x.header.die.0 live.0 slots low live.1 read)
