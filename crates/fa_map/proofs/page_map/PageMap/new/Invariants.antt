use Rattle.fa_map_calls.specs.Changes.{new_map}
use Rattle.fa_map.proofs.page_map.PageMap.new.Given as goal

abbrev pub ghost-begin : goal.ghost-begin
ghost-begin g a = new_map
