use Rattle.fa_map_calls.specs.Changes.{new_map}
use Rattle.fa_plain_map.proofs.plain_map.PlainMap.new.Given as goal

abbrev pub ghost-begin : goal.ghost-begin
ghost-begin g a = new_map
