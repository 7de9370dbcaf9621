use mathlib.Core.Path.{◌≡◌}
use Rattle.rules.specs.Compacted.{moved_words}
use Rattle.text.specs.Put.{put}
use Rattle.compact.proofs.move_words.Given as goal

abbrev pub invariant-loop-k : goal.invariant-loop-k
invariant-loop-k l =
    l.out ≡ put l.initial.out 0 (moved_words l.sheet l.c l.k)
