use Rattle.std.proofs.Common.{◌∙◌}
use Rattle.flasharr.proofs.laws.a_conversation_is_right.Goals as goal

pub returns : goal.returns
returns g c copies unclean before mounted array dies core export bytes written end faults closed mounts only_read many it agree fair honest =
    let begins = it.begins in
    let store = c.a_mounted_store_is_of_a_world.ensures copies unclean before mounted array dies core it.first mounts only_read many agree fair
    begins.core_is begins.dies_are begins.images_are begins.bytes begins.page_bytes in
    let met = c.a_session_of_the_store_meets.ensures.meets it.first it.last export _ end store.0 store.1 it.session honest in
    record {
      before = store.0;
      after = met.0;
      core_is = store.1.owns.core ∙ begins.core_is;
      beginning = store.2;
      mounted_is = store.3;
      of_last = met.1;
      answers = met.2;
    }
