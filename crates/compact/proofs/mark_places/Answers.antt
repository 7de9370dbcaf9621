use mathlib.Core.Path.{refl}
use Rattle.compact.proofs.CoverLaws.{cover_begins, cover_on}
use Rattle.std.proofs.Common.{rules}
use Rattle.compact.proofs.mark_places.Goals as goal

pub loop-k-init : goal.loop-k-init
loop-k-init c =
    cover_begins c.args.sheet.now c.args.c c.args.bits.now c.args.far.now 1024 refl c.requires.bits_value.0 c.requires.bits_value.1

pub loop-k-preserved : goal.loop-k-preserved
loop-k-preserved c =
    cover_on c.args.sheet.now c.args.c c.loop-k.bits c.loop-k.far c.loop-k.k c.loop-k.invariant _ _ (search rules) c.mark_place.ensures.long_2 c.mark_place.ensures.by_index
