use Rattle.gx_laws.proofs.ReservedPlaces_enough.{enough_is_more, matches_want_no_more, others_want_no_more, so_many_are_enough, so_many_record_places_are_enough}
use Rattle.gx_laws.proofs.reserved.other_records_need_few_reserved.Goals as goal

pub returns : goal.returns
returns c = record {
  enough = so_many_are_enough;
  others = others_want_no_more;
  matches = matches_want_no_more;
  more = enough_is_more;
  records = so_many_record_places_are_enough;
}
