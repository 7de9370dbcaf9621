use Rattle.rules.specs.Compacted.{compact_as}
use Rattle.checks.proofs.Sound.{answer-sheeted}
use Rattle.twigmantle.proofs.Laws.{by_written}
use Rattle.std.proofs.Common.{rules}
use Rattle.twigmantle.proofs.twigmantle_compact.Goals as goal

pub compact-requires : goal.compact-requires
compact-requires c =
    search (rules, answer-sheeted)

pub returns-in-Ok : goal.returns-in-Ok
returns-in-Ok c =
    let all = by_written c.args.sheet.now _ _ _ _ _ c.check.ensures c.in-Ok.is c.compact.ensures.value c.compact.ensures.out_after in record { value = all.0; out_after = all.1.0; compacts = all.1.1.0; stored = all.1.1.1 }

pub returns-in-Err : goal.returns-in-Err
unfolding compact_as
returns-in-Err c =
    let all = by_written c.args.sheet.now _ _ _ _ _ c.check.ensures c.in-Err.is (rw (← c.number.ensures, ← c.place.ensures) c.not_written.ensures.value) (rw (← c.number.ensures, ← c.place.ensures) c.not_written.ensures.out_after) in record { value = all.0; out_after = all.1.0; compacts = all.1.1.0; stored = all.1.1.1 }
