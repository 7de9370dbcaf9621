-- The facts of a block that the layout asks for: its level and its start are not among them.
use Rattle.std.specs.Prelude.{◌≡◌}
use Rattle.rules.specs.declared.BlockInfo.{BlockInfo}

pub record SameFacts (a b : BlockInfo) : Type 0 where
  pub length : a.length ≡ b.length
  pub span : a.top_level_token_span ≡ b.top_level_token_span
  pub forbidden : a.has_forbidden_tokens ≡ b.has_forbidden_tokens
  pub reserved : a.has_reserved_tokens ≡ b.has_reserved_tokens
