use Rattle.std.proofs.Common.{refl}
use Rattle.clap.proofs.OnLiterals.{clap_on_literals}
use Rattle.fa_settings.specs.CommandLine.{found_instead, wanted_in}
use Rattle.fa_settings.proofs.laws.words_of_the_command_line.Goals as goal

pub returns : goal.returns
unfolding found_instead wanted_in clap_on_literals
returns c = record {
  format = (refl, refl);
  format_one = (refl, refl);
  check = (refl, refl);
  check_unclean = (refl, refl);
  check_recover = (refl, refl);
  dump_json = (refl, refl);
  serve = (refl, refl);
  serve_verbose = (refl, refl);
  serve_both = (refl, refl);
  serve_recover = (refl, refl);
  serve_status = (refl, refl);
  serve_plans = (refl, refl);
  serve_some_plans = (refl, refl);
  plans_with_no_file = (refl, refl);
  every_too_small = refl;
  every_too_great = refl;
  status = (refl, refl);
  status_watch = (refl, refl);
  terms_of_two_kinds = (refl, refl);
  no_settings = refl;
  die_too_great = refl;
  plan = (refl, refl);
  talk = (refl, refl);
  talk_array = (refl, refl);
  talk_unclean = (refl, refl);
  talk_recover = (refl, refl);
  talk_recover_without = (refl, refl);
  talk_without = (refl, refl);
  verify = (refl, refl);
  verify_log = (refl, refl);
  help = (refl, refl);
  help_of_check = refl;
  help_of_serve = refl;
  help_of_status = refl;
  help_of_plan = refl;
  help_of_talk = refl;
  help_of_verify = refl;
  version = (refl, refl);
  none = refl;
  too_many = refl;
}
