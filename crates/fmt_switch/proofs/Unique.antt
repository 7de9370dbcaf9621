-- Two results that fit the promise are one: of the reading of a comment, and of the switch. Assumes nothing.
use Rattle.std.proofs.Common.{◌≡◌, sym, ap, ◌∙◌, Bool, Option, List, ℕ}
use Rattle.rules.specs.Switch.{Switch, check_fmt_off}
use Rattle.fmt_switch.specs.declared.Switch.{Switch as Code}
use Rattle.fmt_switch.specs.Of.{switch_of}

pub said-one : (v : List ℕ) (r q : Option Bool) → r ≡ check_fmt_off v → q ≡ check_fmt_off v → r ≡ q
said-one v r q e f = e ∙ sym f

pub switch-one : (r q : Code) → switch_of r ≡ switch_of q → r ≡ q
unfolding switch_of
switch-one r q e = ap (λ (w : Switch). record { enabled = w.enabled; drop_next = w.drop_next }) e
