use Rattle.std.proofs.Common.{◌≡◌, IfOk, string_bytes, [], ◌∷◌, ◌++◌, append_assoc, codes, sym, subst}
use Rattle.std.specs.Fmt.{decimal}
use Rattle.fa_prog_text.specs.Verify.{judged_text}
use Rattle.fa_prog_text.proofs.verify.unsound_told.Goals as goal

pub returns-in-NoHolder : goal.returns-in-NoHolder
unfolding judged_text
returns-in-NoHolder g c =
    rw c.in-NoHolder.is
    (subst (λ t. IfOk c.format.result (λ line. string_bytes line ≡ t)) (sym (append_assoc (codes "unsound: page " ++ decimal c.in-NoHolder.page.0) (codes " has no holder") (10 ∷ []))) c.format.ensures.ok)

pub returns-in-Twice : goal.returns-in-Twice
unfolding judged_text
returns-in-Twice g c =
    rw c.in-Twice.is
    (subst (λ t. IfOk c.format-in-Twice.result (λ line. string_bytes line ≡ t)) (sym (append_assoc (codes "unsound: page " ++ decimal c.in-Twice.page.0) (codes " stands twice") (10 ∷ []))) c.format-in-Twice.ensures.ok)
