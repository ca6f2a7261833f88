-- Reading a text line by line.
use Rattle.std.proofs.Common.{◌≡◌, ℕ, suc, ◌+◌, List, [], ◌∷◌, ◌++◌, Result, Ok, Err, refl, sym, ap, ◌∙◌, subst, append_assoc, append-nil, add-one, inl, inr, ◌⊎◌}
use Rattle.std.specs.Result.{IsErr}
use Rattle.hex.specs.declared.error.FromHexError.{FromHexError}
use Rattle.hex.specs.Hex.{decode_of}
use Rattle.fa_io.specs.Lines.{lines_of}
use Rattle.fa_prog_text.specs.HexLines.{without_spaces, line_and, bytes_from, IsFault}
use Rattle.fa_prog_text.specs.declared.hex_lines.TextFault.{TextFault}
use Rattle.fa_prog_text.specs.declared.hex_lines.TextFault.TheVariants.{Line, NoMemory}

-- bytes in front of those that are read
abbrev pub onto : List ℕ → Result (List ℕ) ℕ → Result (List ℕ) ℕ
onto bytes (Ok more) = Ok (bytes ++ more)
onto bytes (Err line) = Err line

-- what stands in front may be joined in two steps
onto-onto : (front bytes : List ℕ) (more : Result (List ℕ) ℕ) → onto (front ++ bytes) more ≡ onto front (onto bytes more)
onto-onto front bytes (Ok more) = ap Ok (append_assoc front bytes more)
onto-onto front bytes (Err line) = refl

-- a line that spells bytes, and the rest
bytes_from-good : (number : ℕ) (line bytes : List ℕ) (lines : List (List ℕ)) → decode_of (without_spaces line) ≡ Ok bytes → bytes_from number (line ∷ lines) ≡ onto bytes (bytes_from (suc number) lines)
unfolding bytes_from
bytes_from-good number line bytes lines good = ap (λ r. line_and r number (bytes_from (suc number) lines)) good ∙ Joined (bytes_from (suc number) lines)
  where
    Joined : (more : Result (List ℕ) ℕ) → line_and (Ok bytes) number more ≡ onto bytes more
    Joined (Ok more) = refl
    Joined (Err line) = refl

-- a line that spells none
bytes_from-faulty : (number : ℕ) (line : List ℕ) (lines : List (List ℕ)) → IsErr (decode_of (without_spaces line)) → bytes_from number (line ∷ lines) ≡ Err number
unfolding bytes_from
bytes_from-faulty number line lines faulty = Faulty (decode_of (without_spaces line)) faulty
  where
    Faulty : (r : Result (List ℕ) FromHexError) → IsErr r → line_and r number (bytes_from (suc number) lines) ≡ Err number
    Faulty (Ok bytes) faulty = cc
    Faulty (Err fault) faulty = refl

-- one more line is read
pub lines-step : (number : ℕ) (front new rest behind line bytes : List ℕ) (text : Result (List ℕ) ℕ) → new ≡ front ++ bytes → lines_of rest ≡ line ∷ lines_of behind → decode_of (without_spaces line) ≡ Ok bytes
    → onto front (bytes_from number (lines_of rest)) ≡ text → onto new (bytes_from (number + 1) (lines_of behind)) ≡ text
lines-step number front new rest behind line bytes text appended cut good so_far =
    ap (λ b. onto b (bytes_from (number + 1) (lines_of behind))) appended
    ∙ onto-onto front bytes (bytes_from (number + 1) (lines_of behind))
    ∙ ap (onto front) (sym (
    ap (bytes_from number) cut
    ∙ bytes_from-good number line bytes (lines_of behind) good
    ∙ ap (λ n. onto bytes (bytes_from n (lines_of behind))) (sym (add-one number))))
    ∙ so_far

-- no line is left
pub lines-end : (number : ℕ) (front rest : List ℕ) (text : Result (List ℕ) ℕ) → lines_of rest ≡ [] → onto front (bytes_from number (lines_of rest)) ≡ text → text ≡ Ok front
unfolding bytes_from
lines-end number front rest text none so_far =
    sym so_far ∙ ap (λ lines. onto front (bytes_from number lines)) none ∙ ap Ok (append-nil front)

-- why a text is not read, where appending a line was refused
pub fault-of_line : (number : ℕ) (front rest behind line : List ℕ) (text : Result (List ℕ) ℕ) (fault : TextFault) → lines_of rest ≡ line ∷ lines_of behind → onto front (bytes_from number (lines_of rest)) ≡ text
    → (fault ≡ NoMemory) ⊎ ((fault ≡ Line number) × IsErr (decode_of (without_spaces line))) → IsFault text fault
fault-of_line number front rest behind line text fault cut so_far (inl none) = subst (IsFault text) (sym none) tt
fault-of_line number front rest behind line text fault cut so_far (inr (is, faulty)) =
    subst (IsFault text) (sym is)
    (sym so_far ∙ ap (λ lines. onto front (bytes_from number lines)) cut ∙ ap (onto front) (bytes_from-faulty number line (lines_of behind) faulty))
