use Rattle.fa_crash.proofs.lives.a_formatted_array_begins_a_life.Goals as goal
use Rattle.std.proofs.Common.{[], refl}

pub returns : goal.returns
returns c geometry dies spares = record {
  beginning = c.a_formatted_array_is_a_beginning.ensures geometry dies spares;
  cells = c.a_formatted_array_is_such_a_beginning.ensures.cells geometry;
  headers = c.a_formatted_array_is_such_a_beginning.ensures.headers geometry;
  alike = c.a_formatted_array_is_such_a_beginning.ensures.alike;
  ours = c.a_formatted_array_is_such_a_beginning.ensures.ours geometry;
  happenings = [];
  run = (refl, refl);
}
