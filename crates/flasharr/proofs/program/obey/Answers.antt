use Rattle.std.proofs.Common.{ℕ, Bool, List, [], Option, Some, None, subst}
use Rattle.std.proofs.KnownBytes.{Consumes-nil}
use Rattle.fa_io.specs.Streams.{Streams, Reads}
use Rattle.std.specs.Borrow.{Bor}
use Rattle.fa_types.specs.declared.numbers.Die.{Die}
use Rattle.fa_settings.specs.CommandLine.{Wanted, Formats, Checks, Dumps, Serves, Asks, Plans, Talks, TalksOver, Verifies, VerifiesLog, IsWanted}
use Rattle.fa_settings.specs.declared.command_line.Subcommand.TheVariants.{Format, Check, Dump, Serve, Status, TalkArray, VerifyLog}
use Rattle.fa_settings.specs.declared.command_line.PlansFile.{PlansFile}
use Rattle.fa_settings.specs.declared.terms.Terms.{Terms}
use Rattle.fa_prog_images.specs.Array.{TellsLook}
use Rattle.fa_prog_images.specs.Formatting.{TellsFormat}
use Rattle.fa_prog_images.specs.declared.look.Asked.TheVariants.{Check as CheckAsked, Dump as DumpAsked}
use Rattle.fa_prog_looks.specs.Asking.{TellsStatus}
use Rattle.flasharr.specs.Serving.{TellsServe}
use Rattle.flasharr.specs.TalkArray.{RunsTalkArray}
use Rattle.fa_prog_text.specs.VerifyLog.{TellsLog}
use Rattle.flasharr.specs.Program.{RunsCommand}
use Rattle.flasharr.proofs.program.obey.Goals as goal

-- a command on an array is the one that was wanted
ran_format : (A : Type 0) (settings : Bor (List ℕ)) (die : Option Die) (wanted : Option Wanted) (s : Streams) (status : ℕ) → IsWanted (Some (Format settings die)) wanted
    → Reads s [] → TellsFormat A die s.held_before s.held_after status → RunsCommand A wanted s status
ran_format A settings die (Some (Formats path text)) s status is reads tells = (reads, (die, is.1, tells))
ran_format A settings die None s status is reads tells = absurd is
ran_format A settings die (Some (Checks path u j)) s status is reads tells = absurd is
ran_format A settings die (Some (Dumps path u j)) s status is reads tells = absurd is
ran_format A settings die (Some (Serves path u v w x)) s status is reads tells = absurd is
ran_format A settings die (Some (Asks a w)) s status is reads tells = absurd is
ran_format A settings die (Some Plans) s status is reads tells = absurd is
ran_format A settings die (Some Talks) s status is reads tells = absurd is
ran_format A settings die (Some (TalksOver path u)) s status is reads tells = absurd is
ran_format A settings die (Some Verifies) s status is reads tells = absurd is
ran_format A settings die (Some (VerifiesLog f)) s status is reads tells = absurd is

ran_check : (A : Type 0) (settings : Bor (List ℕ)) (terms : Terms) (json : Bool) (wanted : Option Wanted) (s : Streams) (status : ℕ) → IsWanted (Some (Check settings terms json)) wanted
    → Reads s [] → TellsLook A CheckAsked terms json s.held_before s.held_after status → RunsCommand A wanted s status
ran_check A settings terms json (Some (Checks path u j)) s status is reads tells =
    (reads, subst (λ b. TellsLook A CheckAsked b j s.held_before s.held_after status) is.1 (subst (λ b. TellsLook A CheckAsked terms b s.held_before s.held_after status) is.2 tells))
ran_check A settings terms json None s status is reads tells = absurd is
ran_check A settings terms json (Some (Formats path text)) s status is reads tells = absurd is
ran_check A settings terms json (Some (Dumps path u j)) s status is reads tells = absurd is
ran_check A settings terms json (Some (Serves path u v w x)) s status is reads tells = absurd is
ran_check A settings terms json (Some (Asks a w)) s status is reads tells = absurd is
ran_check A settings terms json (Some Plans) s status is reads tells = absurd is
ran_check A settings terms json (Some Talks) s status is reads tells = absurd is
ran_check A settings terms json (Some (TalksOver path u)) s status is reads tells = absurd is
ran_check A settings terms json (Some Verifies) s status is reads tells = absurd is
ran_check A settings terms json (Some (VerifiesLog f)) s status is reads tells = absurd is

ran_dump : (A : Type 0) (settings : Bor (List ℕ)) (terms : Terms) (json : Bool) (wanted : Option Wanted) (s : Streams) (status : ℕ) → IsWanted (Some (Dump settings terms json)) wanted
    → Reads s [] → TellsLook A DumpAsked terms json s.held_before s.held_after status → RunsCommand A wanted s status
ran_dump A settings terms json (Some (Dumps path u j)) s status is reads tells =
    (reads, subst (λ b. TellsLook A DumpAsked b j s.held_before s.held_after status) is.1 (subst (λ b. TellsLook A DumpAsked terms b s.held_before s.held_after status) is.2 tells))
ran_dump A settings terms json None s status is reads tells = absurd is
ran_dump A settings terms json (Some (Formats path text)) s status is reads tells = absurd is
ran_dump A settings terms json (Some (Checks path u j)) s status is reads tells = absurd is
ran_dump A settings terms json (Some (Serves path u v w x)) s status is reads tells = absurd is
ran_dump A settings terms json (Some (Asks a w)) s status is reads tells = absurd is
ran_dump A settings terms json (Some Plans) s status is reads tells = absurd is
ran_dump A settings terms json (Some Talks) s status is reads tells = absurd is
ran_dump A settings terms json (Some (TalksOver path u)) s status is reads tells = absurd is
ran_dump A settings terms json (Some Verifies) s status is reads tells = absurd is
ran_dump A settings terms json (Some (VerifiesLog f)) s status is reads tells = absurd is

ran_serve : (A : Type 0) (settings : Bor (List ℕ)) (terms : Terms) (verbose : Bool) (address : Option (Bor (List ℕ))) (plans : Option PlansFile) (wanted : Option Wanted) (s : Streams) (status : ℕ)
    → IsWanted (Some (Serve settings terms verbose address plans)) wanted
    → TellsServe A s.held_before s.held_after status → RunsCommand A wanted s status
ran_serve A settings terms verbose address plans (Some (Serves path u v w x)) s status is tells = tells
ran_serve A settings terms verbose address plans None s status is tells = absurd is
ran_serve A settings terms verbose address plans (Some (Formats path text)) s status is tells = absurd is
ran_serve A settings terms verbose address plans (Some (Checks path u j)) s status is tells = absurd is
ran_serve A settings terms verbose address plans (Some (Dumps path u j)) s status is tells = absurd is
ran_serve A settings terms verbose address plans (Some (Asks a w)) s status is tells = absurd is
ran_serve A settings terms verbose address plans (Some Plans) s status is tells = absurd is
ran_serve A settings terms verbose address plans (Some Talks) s status is tells = absurd is
ran_serve A settings terms verbose address plans (Some (TalksOver path u)) s status is tells = absurd is
ran_serve A settings terms verbose address plans (Some Verifies) s status is tells = absurd is
ran_serve A settings terms verbose address plans (Some (VerifiesLog f)) s status is tells = absurd is

ran_status : (A : Type 0) (address : Bor (List ℕ)) (watch : Bool) (wanted : Option Wanted) (s : Streams) (status : ℕ) → IsWanted (Some (Status address watch)) wanted
    → Reads s [] → TellsStatus watch s.held_before s.held_after status → RunsCommand A wanted s status
ran_status A address watch (Some (Asks a w)) s status is reads tells =
    (reads, subst (λ b. TellsStatus b s.held_before s.held_after status) is.1 tells)
ran_status A address watch None s status is reads tells = absurd is
ran_status A address watch (Some (Formats path text)) s status is reads tells = absurd is
ran_status A address watch (Some (Checks path u j)) s status is reads tells = absurd is
ran_status A address watch (Some (Dumps path u j)) s status is reads tells = absurd is
ran_status A address watch (Some (Serves path u v w x)) s status is reads tells = absurd is
ran_status A address watch (Some Plans) s status is reads tells = absurd is
ran_status A address watch (Some Talks) s status is reads tells = absurd is
ran_status A address watch (Some (TalksOver path u)) s status is reads tells = absurd is
ran_status A address watch (Some Verifies) s status is reads tells = absurd is
ran_status A address watch (Some (VerifiesLog f)) s status is reads tells = absurd is

ran_talk_array : (A : Type 0) (settings : Bor (List ℕ)) (terms : Terms) (wanted : Option Wanted) (s : Streams) (status : ℕ)
    → IsWanted (Some (TalkArray settings terms)) wanted → RunsTalkArray A terms s status → RunsCommand A wanted s status
ran_talk_array A settings terms (Some (TalksOver path u)) s status is runs = subst (λ b. RunsTalkArray A b s status) is.1 runs
ran_talk_array A settings terms None s status is runs = absurd is
ran_talk_array A settings terms (Some (Formats path text)) s status is runs = absurd is
ran_talk_array A settings terms (Some (Checks path u j)) s status is runs = absurd is
ran_talk_array A settings terms (Some (Dumps path u j)) s status is runs = absurd is
ran_talk_array A settings terms (Some (Serves path u v w x)) s status is runs = absurd is
ran_talk_array A settings terms (Some (Asks a w)) s status is runs = absurd is
ran_talk_array A settings terms (Some Plans) s status is runs = absurd is
ran_talk_array A settings terms (Some Talks) s status is runs = absurd is
ran_talk_array A settings terms (Some Verifies) s status is runs = absurd is
ran_talk_array A settings terms (Some (VerifiesLog f)) s status is runs = absurd is

ran_verify_log : (A : Type 0) (file : Bor (List ℕ)) (wanted : Option Wanted) (s : Streams) (status : ℕ) → IsWanted (Some (VerifyLog file)) wanted
    → Reads s [] → TellsLog s.held_before s.held_after status → RunsCommand A wanted s status
ran_verify_log A file (Some (VerifiesLog f)) s status is reads tells = (reads, tells)
ran_verify_log A file None s status is reads tells = absurd is
ran_verify_log A file (Some (Formats path text)) s status is reads tells = absurd is
ran_verify_log A file (Some (Checks path u j)) s status is reads tells = absurd is
ran_verify_log A file (Some (Dumps path u j)) s status is reads tells = absurd is
ran_verify_log A file (Some (Serves path u v w x)) s status is reads tells = absurd is
ran_verify_log A file (Some (Asks a w)) s status is reads tells = absurd is
ran_verify_log A file (Some Plans) s status is reads tells = absurd is
ran_verify_log A file (Some Talks) s status is reads tells = absurd is
ran_verify_log A file (Some (TalksOver path u)) s status is reads tells = absurd is
ran_verify_log A file (Some Verifies) s status is reads tells = absurd is

pub returns-in-Format : goal.returns-in-Format
returns-in-Format g c wanted is =
    let k = c.in-Format in
    ran_format _ k.settings k.die wanted _ c.run_format.result (subst (λ s. IsWanted (Some s) wanted) k.is is) (Consumes-nil _) c.run_format.ensures

pub returns-in-Check : goal.returns-in-Check
returns-in-Check g c wanted is =
    let k = c.in-Check in
    ran_check _ k.settings k.terms k.json wanted _ c.run_look.result (subst (λ s. IsWanted (Some s) wanted) k.is is) (Consumes-nil _) c.run_look.ensures

pub returns-in-Dump : goal.returns-in-Dump
returns-in-Dump g c wanted is =
    let k = c.in-Dump in
    ran_dump _ k.settings k.terms k.json wanted _ c.run_look-in-Dump.result (subst (λ s. IsWanted (Some s) wanted) k.is is) (Consumes-nil _) c.run_look-in-Dump.ensures

pub returns-in-Serve : goal.returns-in-Serve
returns-in-Serve g c wanted is =
    let k = c.in-Serve in
    ran_serve _ k.settings k.terms k.verbose k.status k.plans wanted _ c.run_serve.result (subst (λ s. IsWanted (Some s) wanted) k.is is) c.run_serve.ensures

pub returns-in-Status : goal.returns-in-Status
returns-in-Status g c wanted is =
    let k = c.in-Status in
    ran_status _ k.address k.watch wanted _ c.run_status.result (subst (λ s. IsWanted (Some s) wanted) k.is is) (Consumes-nil _) c.run_status.ensures

pub returns-in-TalkArray : goal.returns-in-TalkArray
returns-in-TalkArray g c wanted is =
    let k = c.in-TalkArray in
    ran_talk_array _ k.settings k.terms wanted _ c.run_talk_array.result (subst (λ s. IsWanted (Some s) wanted) k.is is) c.run_talk_array.ensures

pub returns-in-VerifyLog : goal.returns-in-VerifyLog
returns-in-VerifyLog g c wanted is =
    let k = c.in-VerifyLog in
    ran_verify_log _ k.file wanted _ c.run_verify_log.result (subst (λ s. IsWanted (Some s) wanted) k.is is) (Consumes-nil _) c.run_verify_log.ensures
