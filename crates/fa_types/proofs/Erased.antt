-- Whether all bytes are `ff`, looked at part by part.
use Rattle.std.proofs.Common.{All, Bool, IsTrue, List, ap, arith, drop, false, get_or, length, sym, take, true, ℕ, ◌&&◌, ◌+◌, ◌-◌, ◌==◌, ◌↔◌, ◌∙◌, ◌≡◌, ◌≤◌}
use Rattle.std.proofs.lemmas.Bool.Decides.{Decides-eqb}
use Rattle.std.proofs.lemmas.List.Folds.{list_all-append}
use Rattle.std.proofs.lemmas.List.Sums.{AllPass-from_list_all, list_all-from_AllPass}
use Rattle.std.proofs.lemmas.List.{drop-drop, length-drop, take-append-drop, take_all}
use Rattle.std.specs.List.{list_all}

abbrev is_ff : ℕ → Bool
is_ff byte = byte == 0xff

all_split : (n : ℕ) (bytes : List ℕ) → list_all is_ff bytes ≡ (list_all is_ff (take n bytes) && list_all is_ff (drop n bytes))
all_split n bytes = sym (ap (list_all is_ff) (take-append-drop n bytes)) ∙ list_all-append is_ff (take n bytes) (drop n bytes)

-- where those of a part are, those behind it tell
pub part_passes : (at n : ℕ) (bytes : List ℕ) → list_all is_ff (take n (drop at bytes)) ≡ true
    → list_all is_ff (drop at bytes) ≡ list_all is_ff (drop (at + n) bytes)
part_passes at n bytes all = all_split n (drop at bytes) ∙ ap (λ first. first && list_all is_ff (drop n (drop at bytes))) all ∙ ap (list_all is_ff) (drop-drop n at bytes)

-- a part that reaches the end is all that is left
pub last_tells : (at n : ℕ) (bytes : List ℕ) → length bytes - at ≤ n → list_all is_ff (take n (drop at bytes)) ≡ list_all is_ff (drop at bytes)
last_tells at n bytes long = ap (list_all is_ff) (take_all n (drop at bytes) (let rest = length-drop at bytes in omega (arith, rest, long)))

-- where one of a part is not, that tells
pub part_fails : (at n : ℕ) (bytes : List ℕ) → list_all is_ff (take n (drop at bytes)) ≡ false → list_all is_ff (drop at bytes) ≡ false
part_fails at n bytes some = all_split n (drop at bytes) ∙ ap (λ first. first && list_all is_ff (drop n (drop at bytes))) some

-- what the test of all bytes says of each
pub all_means : (bytes : List ℕ) → IsTrue (list_all is_ff bytes) ↔ All (λ byte. byte ≡ 0xff) bytes
all_means bytes = (
  (λ all i d within. (Decides-eqb (get_or bytes i d) 0xff).0 (AllPass-from_list_all is_ff bytes all i d within)),
  (λ each. list_all-from_AllPass is_ff bytes (λ i d within. (Decides-eqb (get_or bytes i d) 0xff).1 (each i d within))),
)
