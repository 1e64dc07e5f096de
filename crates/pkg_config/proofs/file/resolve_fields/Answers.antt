-- `pkg_config::file::resolve_fields` meets its contract. Assumes nothing.
use Rattle.std.proofs.Common.{List, subst}
use Rattle.rules.specs.Tokens.{Token}
use Rattle.answers.specs.Refusals.{Refuses}
use Rattle.pkg_config.specs.Stages.{stopped}
use Rattle.pkg_config.proofs.Stages.{need-measures, field-stops}
use Rattle.pkg_config.proofs.file.resolve_fields.Goals as goal

pub write_records-requires : goal.write_records-requires
write_records-requires c = need-measures _ _ _ _ _ _ _ c.requires c.measure.ensures c.in-Ok.is

pub returns-in-Err : goal.returns-in-Err
returns-in-Err c = field-stops _ _ _ _ _ _ _ c.in-Err.why _ c.requires c.measure.ensures c.in-Err.is
    (subst (λ (ts : List Token). (key : Token) → Refuses c.field_refusal.result (stopped ts key c.in-Err.why)) c.new.ensures c.field_refusal.ensures)
