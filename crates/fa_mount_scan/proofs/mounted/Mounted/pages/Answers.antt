use Rattle.fa_mount_scan.proofs.PagesGiven.{few_pages}
use Rattle.fa_mount_scan.proofs.mounted.Mounted.pages.Goals as goal

pub returns-clause-few : goal.returns-clause-few
returns-clause-few g c = few_pages (g.M.Map.view c.args.self.now.map)
