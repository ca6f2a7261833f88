use Rattle.std.proofs.Common.{map}
use Rattle.fa_mount_headers.proofs.Reading.{as_they_were}
use Rattle.fa_map.specs.PageView.{page_view}
use Rattle.fa_mount_scan.proofs.FoundMounted.{recovered_by}
use Rattle.fa_mount_scan.proofs.Readable.{are_readable}
use Rattle.fa_mount_scan.proofs.recovering.recover_found.Goals as goal

pub returns-in_err-judged-clause-only_read : goal.returns-in_err-judged-clause-only_read
returns-in_err-judged-clause-only_read g c = as_they_were (map g.I.Image.view c.args.images.now)

pub recover_slots-requires-clause-images : goal.recover_slots-requires-clause-images
recover_slots-requires-clause-images g c =
    are_readable g.I.Image.view g.I.Image.honest g.I.Image.made g.met.I.Image.meets c.requires.found.0 c.args.images.now c.args.founds.now _
    c.in_ok-judged.judged c.requires.found.1.0 c.in_ok-judged.ensures.judged c.in_ok-judged.ensures.images

pub returns-in-Ok-clause-recovers : goal.returns-in-Ok-clause-recovers
returns-in-Ok-clause-recovers g c = λ before read.
    recovered_by g.I.Image.view g.I.Image.made c.args.copies.number before c.args.images.now _ c.in_ok-judged.judged
    (record {
      founds = c.args.founds.now;
      read = read.0;
      each = read.1;
      fine = c.in_ok-judged.ensures.unclean;
      judges = c.in_ok-judged.ensures.judged;
    })
    c.in_ok-judged.ensures.ok
    (λ x. x.array) (λ x. x.epoch) (λ x. x.clean) (λ x. x.dies.items) (λ x. page_view x.map)
    c.recover_slots.result c.recover_slots.ensures.scanned c.recover_slots.ensures.array

pub returns-in-Err-clause-only_read : goal.returns-in-Err-clause-only_read
returns-in-Err-clause-only_read g c = as_they_were (map g.I.Image.view c.args.images.now)
