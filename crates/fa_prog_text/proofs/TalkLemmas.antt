-- From the parts of `talk` to what it prints.
use Rattle.std.proofs.Common.{◌≡◌, ◌⊎◌, inl, inr, ℕ, List, [], length, replicate, Ok, Option, ap, ◌∙◌, subst}
use Rattle.std.proofs.lemmas.List.{length-replicate}
use Rattle.fa_plain_store.specs.Memory.{MemoryMade}
use Rattle.fa_session.specs.Session.{Session}
use Rattle.fa_session.specs.declared.session_end.SessionEnd.{SessionEnd}
use Rattle.fa_prog_text.specs.HexLines.{bytes_of_text}
use Rattle.fa_prog_host.specs.Printing.{TellsNoMemory}
use Rattle.fa_prog_text.specs.Talk.{RefusesText, TellsTalk, known, talk_text, Talks}

pub Talks-of : (size : ℕ) (export text out bytes read left held written shown store after : List ℕ) (end : SessionEnd) → bytes_of_text text ≡ Ok bytes
    → store ≡ replicate size 0 → read ≡ bytes → held ≡ [] → shown ≡ written
    → Session MemoryMade export (length store) (known read left held written) store after end
    → out ≡ talk_text shown end → Talks size export text out
Talks-of size export text out bytes read left held written shown store after end spelled zeros same none whole session printed =
    let long : length store ≡ size = ap length zeros ∙ length-replicate size 0 in
    record {
      bytes = bytes;
      left = left;
      written = written;
      after = after;
      end = end;
      spelled = spelled;
      session =
          subst (λ s. Session MemoryMade export size (known bytes left [] written) s after end) zeros
          (subst (λ h. Session MemoryMade export size (known bytes left h written) store after end) none
          (subst (λ r. Session MemoryMade export size (known r left held written) store after end) same
          (subst (λ n. Session MemoryMade export n (known read left held written) store after end) long session)));
      printed = printed ∙ ap (λ w. talk_text w end) whole;
    }

-- what is printed of a text that is refused is one of the texts of `talk`
pub refused_talk : (size : ℕ) (export text : List ℕ) (old new : Option (List ℕ)) (status : ℕ) → RefusesText text old new status
    → TellsTalk size export text old new status ⊎ TellsNoMemory old new status
refused_talk size export text old new status (inl line) = inl (inr line)
refused_talk size export text old new status (inr memory) = inr memory
