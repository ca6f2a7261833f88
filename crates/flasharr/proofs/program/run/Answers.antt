use Rattle.std.proofs.Common.{ℕ, List, [], map, string_bytes, subst, inl, inr, ◌⊎◌}
use Rattle.std.proofs.KnownBytes.{Consumes-nil}
use Rattle.clap.specs.Kinds.{HasKind}
use Rattle.clap.specs.Values.{kind_of}
use Rattle.clap.specs.declared.error.Error.{Error}
use Rattle.fa_io.specs.Streams.{Streams, Reads}
use Rattle.fa_settings.specs.CommandLine.{IsWanted, found_instead, wanted_in}
use Rattle.fa_prog_host.specs.Printing.{TellsNoMemory}
use Rattle.flasharr.specs.Output.{ShowsText}
use Rattle.flasharr.specs.Program.{Runs}
use Rattle.flasharr.proofs.program.run.Goals as goal

-- arguments that are no command, and what was shown for them
shown : (A : Type 0) (arguments : List (List ℕ)) (s : Streams) (status : ℕ) (e : Error) → HasKind (found_instead arguments) e → Reads s []
    → ShowsText (kind_of e) s.held_before s.held_after status ⊎ TellsNoMemory s.held_before s.held_after status → Runs A arguments s status
shown A arguments s status e (inl none) reads (inl text) = inr (reads, inr (subst (λ k. ShowsText k s.held_before s.held_after status) none text))
shown A arguments s status e (inr among) reads (inl text) = inr (reads, inl (kind_of e, among, text))
shown A arguments s status e kinds reads (inr told) = inr (reads, inr told)

pub returns-in-Err : goal.returns-in-Err
returns-in-Err g c = shown _ _ _ _ c.in-Err.error c.in-Err.ensures.instead (Consumes-nil _) c.show_text.ensures

pub returns-in-Ok-Some : goal.returns-in-Ok-Some
returns-in-Ok-Some g c =
    let k = c.in-Ok-Some in
    inl (
      k.ensures.no_other,
      c.obey.ensures (wanted_in (map string_bytes c.args.arguments.now))
          (subst (λ o. IsWanted o (wanted_in (map string_bytes c.args.arguments.now))) k.field-0-is k.ensures.command),
    )
