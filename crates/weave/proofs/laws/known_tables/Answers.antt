use Rattle.std.proofs.Common.{refl}
use Rattle.weave.specs.Marks.{with_mark, closed, inserter, deleted_above, visible, shown}
use Rattle.weave.specs.Rules.{is_open, is_deleting, may_open, may_close, breach}
use Rattle.weave.specs.Versions.{members}
use Rattle.weave.proofs.laws.known_tables.Goals as goal

pub returns : goal.returns
unfolding with_mark closed inserter deleted_above visible shown is_open is_deleting may_open may_close breach members
returns c = record {
  recorded_valid = refl;
  first = refl;
  second = refl;
  all = refl;
  fourth = refl;
  fourth_set = refl;
  base_set = refl;
  fourth_left_out = refl;
  inside_shown = refl;
  crossing_shown = refl;
  both_valid = (refl, refl);
  outer_ended = refl;
  never_opened = refl;
  opened_twice = refl;
  too_low = refl;
  text_outside = refl;
  left_open = refl;
}
