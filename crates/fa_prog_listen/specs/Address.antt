-- What a server prints of where it listens.
use Rattle.std.specs.Prelude.{ℕ, List, [], ◌∷◌, ◌++◌, codes}

-- where clients can connect
abbrev pub address_line : List ℕ → List ℕ
address_line address = codes "listening " ++ address ++ 10 ∷ []
