use mathlib.Core.Path.{◌∙◌}
use Rattle.ascii.specs.Part.{part}
use Rattle.columns.proofs.MeasureLaws.{by_plain}
use Rattle.lines.proofs.MarkLaws.{no_mark}
use Rattle.std.proofs.Common.{rules}
use Rattle.lines.proofs.stretch.Goals as goal

pub returns-then-k-eq0 : goal.returns-then-k-eq0
returns-then-k-eq0 c =
    c.passed.ensures ∙ by_plain c.args.text.now c.args.start c.args.n c.args.m (search rules) (search rules) (no_mark (part c.args.text.now c.args.start c.args.n) c.args.k (search rules) (search rules) (search rules))
