use Rattle.std.proofs.Common.{◌∙◌, arith}
use Rattle.rules.specs.Bytes.{to_little}
use Rattle.records.proofs.Lists.{four_bytes, list-head-fits, count_fits, args_fit, listed}
use Rattle.records.proofs.write.Writer.write_list.Goals as goal

pub put_head-requires : goal.put_head-requires
put_head-requires c = let S = c.args in omega (arith, list-head-fits S.self.now.at S.kind S.row S.rows c.requires)

pub copy-requires : goal.copy-requires
unfolding to_little
copy-requires c = let S = c.args in rw (c.to_le_bytes.ensures ∙ four_bytes S.rows) (count_fits S.self.now.at S.kind S.row S.rows c.requires _ c.put_head.ensures)

pub write_arguments-requires : goal.write_arguments-requires
write_arguments-requires c =
    let S = c.args in
    args_fit S.self.now.at S.kind S.row S.rows c.requires _ c.put_head.ensures _ (rw (c.to_le_bytes.ensures ∙ four_bytes S.rows) at c.copy.ensures)

pub returns : goal.returns
returns c =
    let S = c.args in
    let W = c.write_arguments.ensures in
    record {
      same_places = W.same_places;
      same_stack = W.same_stack;
      same_out = W.same_out;
      columns = W.columns;
      places_long = W.places_long;
      stack_long = W.stack_long;
      written = listed S.self.now.at S.kind S.row S.rows c.requires _ c.put_head.ensures _ (rw (c.to_le_bytes.ensures ∙ four_bytes S.rows) at c.copy.ensures) W.written;
    }
