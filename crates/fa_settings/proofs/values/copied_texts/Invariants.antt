use Rattle.std.proofs.Common.{◌≡◌, map, ◌++◌, drop, string_bytes}
use Rattle.std.specs.List.{filter_map}
use Rattle.toml.specs.Data.{as_str}
use Rattle.toml.specs.View.{view}
use Rattle.fa_settings.proofs.values.copied_texts.Given as goal

-- the texts so far and those of what is left are those of all
abbrev pub invariant-loop-value : goal.invariant-loop-value
invariant-loop-value g l =
    map string_bytes l.texts.items ++ filter_map (λ value. as_str (view value)) (drop l.value-index l.values)
    ≡ filter_map (λ value. as_str (view value)) l.values
