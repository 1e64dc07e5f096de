use Rattle.std.proofs.Common.{refl, arith}
use Rattle.records.proofs.Lists.{value-fits, head-fits-still, size-small, recorded}
use Rattle.records.proofs.write.Writer.write_record.Goals as goal

pub write_value-end-requires : goal.write_value-end-requires
write_value-end-requires c = let S = c.args in value-fits S.self.now.at S.kind S.from S.to c.requires

pub put_head-requires : goal.put_head-requires
put_head-requires c = let S = c.args in head-fits-still S.self.now.at S.kind S.from S.to c.requires c.write_value-end.ensures

pub returns : goal.returns
returns c =
    let S = c.args in
    record {
      same_places = refl;
      same_stack = refl;
      same_out = refl;
      columns = refl;
      places_long = omega arith;
      stack_long = omega arith;
      written = recorded S.self.now.at S.kind S.from S.to c.requires c.write_value-end.ensures _ refl _ c.put_head.ensures;
    }

pub overflow_cast-end : goal.overflow_cast-end
overflow_cast-end c = let S = c.args in omega (arith, size-small S.self.now.at S.kind S.from S.to c.requires c.write_value-end.ensures)
