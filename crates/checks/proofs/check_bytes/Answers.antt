use Rattle.std.proofs.Common.{rules, refl}
use Rattle.rules.specs.Checks.{body_byte}
use Rattle.checks.proofs.FirstLaws.{first-from_find_map}
use Rattle.checks.proofs.check_bytes.Goals as goal

pub returns : goal.returns
returns c =
    first-from_find_map (body_byte c.args.s.now) 1 c.args.from c.args.n _ refl _ (λ x o q' m. search rules) c.find_map.ensures.runs
