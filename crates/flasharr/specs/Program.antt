-- What the program does with its arguments, its input and its output.
use Rattle.std.specs.Prelude.{◌≡◌, ◌⊎◌, ℕ, List, [], codes, Option, None, Some}
use Rattle.clap.specs.Kinds.{IsAmong}
use Rattle.clap.specs.declared.error.kind.ErrorKind.{ErrorKind}
use Rattle.fa_io.specs.Streams.{Streams, Reads}
use Rattle.fa_types.specs.declared.numbers.Die.{Die}
use Rattle.fa_settings.specs.CommandLine.{Wanted, Formats, Checks, Dumps, Serves, Asks, Plans, Talks, TalksOver, Verifies, VerifiesLog}
use Rattle.fa_settings.specs.CommandLine.{IsDie, found_instead, wanted_in}
use Rattle.fa_prog_images.specs.Array.{TellsLook}
use Rattle.fa_prog_images.specs.Formatting.{TellsFormat}
use Rattle.fa_prog_host.specs.Printing.{TellsNoMemory}
use Rattle.fa_prog_images.specs.declared.look.Asked.TheVariants.{Check, Dump}
use Rattle.flasharr.specs.Serving.{TellsServe}
use Rattle.fa_prog_looks.specs.Asking.{TellsStatus}
use Rattle.flasharr.specs.TalkArray.{RunsTalkArray}
use Rattle.flasharr.specs.Output.{ShowsUsage, ShowsText}
use Rattle.fa_prog_text.specs.Plan.{RunsPlan}
use Rattle.fa_prog_text.specs.Talk.{RunsTalk}
use Rattle.fa_prog_text.specs.Verify.{RunsVerify}
use Rattle.fa_prog_text.specs.VerifyLog.{TellsLog}

-- What a command does, whose settings are held in memory of a kind. `talk` has a plain store of 64 pages of 512 bytes, and with `--array`
-- the store of the settings' array. The commands `format`, `check`, `dump`, `status` and `verify --log`, and what is no command, read
-- nothing of the input; `serve` reads it until it is to stop.
abbrev pub RunsCommand : Type 0 → Option Wanted → Streams → ℕ → Type 0
RunsCommand A (Some (Formats settings text)) s status =
    Reads s [] × ((die : Option Die) × IsDie text die × TellsFormat A die s.held_before s.held_after status)
RunsCommand A (Some (Checks settings terms json)) s status = Reads s [] × TellsLook A Check terms json s.held_before s.held_after status
RunsCommand A (Some (Dumps settings terms json)) s status = Reads s [] × TellsLook A Dump terms json s.held_before s.held_after status
RunsCommand A (Some (Serves settings terms verbose address plans)) s status = TellsServe A s.held_before s.held_after status
RunsCommand A (Some (Asks address watch)) s status = Reads s [] × TellsStatus watch s.held_before s.held_after status
RunsCommand A (Some Talks) s status = RunsTalk 32768 (codes "disk") s status
RunsCommand A (Some (TalksOver settings terms)) s status = RunsTalkArray A terms s status
RunsCommand A (Some Plans) s status = RunsPlan s status
RunsCommand A (Some Verifies) s status = RunsVerify s status
RunsCommand A (Some (VerifiesLog file)) s status = Reads s [] × TellsLog s.held_before s.held_after status
RunsCommand A None s status = Reads s [] × ShowsUsage s.held_before s.held_after status

-- What the program does with these arguments, those behind its name: what their command does; or, where they are
-- none, nothing is read, and help, the version or what the mistake is are shown. There may be no memory for the
-- arguments; then nothing is read either.
abbrev pub Runs : Type 0 → List (List ℕ) → Streams → ℕ → Type 0
Runs A arguments s status =
    ((found_instead arguments ≡ []) × RunsCommand A (wanted_in arguments) s status)
    ⊎ (Reads s []
    × (((kind : ErrorKind) × IsAmong kind (found_instead arguments) × ShowsText kind s.held_before s.held_after status)
    ⊎ TellsNoMemory s.held_before s.held_after status))
