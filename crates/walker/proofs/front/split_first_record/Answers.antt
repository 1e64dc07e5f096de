-- `walker::front::split_first_record` meets its contract where a record stands whole; the laws of the other cases are named on the function. Assumes nothing.
use Rattle.std.proofs.Common.{sym, ◌∙◌, arith}
use Rattle.std.proofs.lemmas.List.{take_rest}
use Rattle.rules.specs.Variables.{limit}
use Rattle.walker.proofs.Heads.{size_in, kind_in, front-whole}
use Rattle.walker.proofs.front.split_first_record.Goals as goal

pub returns : goal.returns
unfolding limit
returns c =
    let p = c in let b = p.args.bytes.now in let k = p.in_ok-payload.ensures.cases in let e = take_rest b 6 in
    let h = p.in-len6-up.len_at_least in
    front-whole b _ _ _ _ h (size_in b h ∙ sym p.from_le_bytes-size.ensures) (kind_in b h ∙ sym c.from_le_bytes-kind.ensures) (rw e at k.0) (omega arith) (rw e at k.1) (rw e at k.2)
