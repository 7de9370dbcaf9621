use Rattle.std.proofs.Common.{rules}
use Rattle.marks.specs.Marks.{bit_of}
use Rattle.marks.proofs.CountLaws.{count-le}
use Rattle.compact.proofs.new_start.Goals as goal

pub overflow_cast-result : goal.overflow_cast-result
overflow_cast-result c =
    let m = count-le (bit_of c.args.bits.now) c.to_usize.result in search rules
