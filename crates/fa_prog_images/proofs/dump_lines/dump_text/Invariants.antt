use Rattle.std.proofs.Common.{◌≡◌, ◌++◌, string_bytes}
use Rattle.std.specs.List.{flat_map}
use Rattle.fa_prog_images.specs.Lines.{dump_text, line_text}
use Rattle.fa_prog_images.proofs.dump_lines.dump_text.Given as goal

-- what was told, and the lines of the pages that are left, are the whole text
abbrev pub invariant-loop-page : goal.invariant-loop-page
invariant-loop-page g l = string_bytes l.out ++ flat_map line_text l.page-iterator ≡ dump_text (g.M.Map.view l.mounted.map)
