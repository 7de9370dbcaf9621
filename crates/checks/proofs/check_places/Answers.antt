use Rattle.std.proofs.Common.{rules, refl, ◌+◌, ◌*◌}
use Rattle.rules.specs.Checks.{token_places, param_places, keep_places}
use Rattle.checks.proofs.FirstLaws.{first-from_find_map, in_turn}
use Rattle.checks.proofs.check_places.Goals as goal

pub returns : goal.returns
returns c =
    let s = c.args.s.now in
    let k = c.args.c in
    in_turn _ _ _ _ _ _ _ _
    (first-from_find_map (token_places s k.bytes) 20 48 k.tokens _ refl _ (λ x o q' m. search rules) c.find_map-tokens.ensures.runs)
    (first-from_find_map (param_places s k.bytes) 16 (48 + 20 * k.tokens) k.params _ refl _ (λ x o q' m. search rules) c.find_map-params.ensures.runs)
    (first-from_find_map (keep_places s k.bytes) 8 (48 + 20 * k.tokens + 16 * k.params) k.keeps _ refl _ (λ x o q' m. search rules) c.find_map-keeps.ensures.runs)
    c.or.ensures
    c.or-2.ensures
