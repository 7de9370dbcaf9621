use Rattle.std.proofs.Common.{rules, refl, ◌+◌, ◌*◌}
use Rattle.rules.specs.Checks.{token_words, param_words}
use Rattle.checks.proofs.FirstLaws.{first-from_find_map, in_turn}
use Rattle.checks.proofs.check_words.Goals as goal

pub returns : goal.returns
returns c =
    let s = c.args.s.now in
    let k = c.args.c in
    in_turn _ _ _ _ _ _ _ _
    c.head_words-head.ensures
    (first-from_find_map (token_words s) 20 48 k.tokens _ refl _ (λ x o q' m. search rules) c.find_map-tokens.ensures.runs)
    (first-from_find_map (param_words s) 16 (48 + 20 * k.tokens) k.params _ refl _ (λ x o q' m. search rules) c.find_map-params.ensures.runs)
    c.or.ensures
    c.or-2.ensures
