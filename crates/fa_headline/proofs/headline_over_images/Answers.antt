use Rattle.fa_headline.proofs.headline_over_images.Goals as goal

pub returns : goal.returns
returns g c copies unclean before after array dies core drives last mounts many agree honest drive kept =
    let made = c.what_is_mounted_and_driven_is_a_run.ensures copies unclean before after array dies core drives last mounts many agree honest drive kept in record {
      first = made.0;
      happenings = made.1;
      end = made.2;
      begins = made.3;
      mounted = made.4;
      beginning = made.5;
      run = made.6;
      events = made.7;
      ends = made.8;
      sees = made.9;
      headline = c.headline.ensures made.0 made.2 made.1 made.5 made.6;
    }
