-- Wish 11: why no sheet has a 129th open inline block, for which document 01 had refusal 7.
-- An inline block holds no comment and no `;`, so nothing clears the indent stack while it is open, and each open one has its entry there.
use Rattle.std.specs.Prelude.{if◌then◌else◌, ◌≡◌, Bool, true, false, not, ◌&&◌, ◌||◌, List, [], ◌∷◌, ℕ, suc, ◌≤◌, eqb, length}
use Rattle.rules.specs.declared.TokenKind.TheVariants as kind
use Rattle.rules.specs.declared.Turn.{Turn}
use Rattle.rules.specs.declared.Turn.TheVariants as turn
use Rattle.rules.specs.declared.IndentType.{IndentType}
use Rattle.rules.specs.declared.IndentType.TheVariants.{Top, Block, FoldedBlock}
use Rattle.rules.specs.Base.{full}
use Rattle.rules.specs.Tokens.{Token, Here, is}
use Rattle.rules.specs.Sheet.{Env}
use Rattle.rules.specs.InlineBlock.{part_of, level_after, closes_at, is_forbidden_token, is_active, build_info, begins_inline}
use Rattle.rules.specs.Switch.{Switch, turn_of, switch_after, switched_on}
use Rattle.rules.specs.State.{State, start}
use Rattle.rules.specs.Answer.{Answer, refusal, finish, unless_refused, taken}

-- ---- the invariant

-- the blocks on the indent stack, folded or not
unfoldable pub blocks_in : List IndentType → ℕ
blocks_in [] = 0
blocks_in (Top ∷ ts) = blocks_in ts
blocks_in (Block ∷ ts) = suc (blocks_in ts)
blocks_in (FoldedBlock ∷ ts) = suc (blocks_in ts)

-- no comment and no `;` until so many blocks are closed; the close that ends the outermost is not tested, and one that is missing is not waited for
unfoldable pub quiet : ℕ → List Token → Bool
quiet d [] = true
quiet d (t ∷ ts) =
    let level = level_after (part_of t.kind) d in
    eqb d 0 || (closes_at (part_of t.kind) level || not (is_forbidden_token t)) && quiet level ts

-- between two tokens, w being the switch and after the tokens to come: each open inline block has an entry; and while one is open, the switch is on and what follows is quiet
pub record Nested (w : Switch) (after : List Token) (s : State) : Type 0 where
  pub under : length s.inline_block ≤ blocks_in s.indentation.indent_types
  pub on : is_active s.inline_block ≡ true → w ≡ switched_on
  pub calm : quiet (length s.inline_block) after ≡ true

-- ---- refusal 7 as document 01 had it

-- a token meets it: an opening bracket that is laid out, 6 is not given, and an inline block would begin where 128 are open
unfoldable pub meets_seven : Turn → Env → Here → State → Bool
meets_seven turn.Dropped e h s = false
meets_seven (turn.Switches off) e h s = false
meets_seven turn.LaidOut e h s =
    is h.token.kind kind.OpenParen
    && (not (full s.indentation.indent_types)
    && (begins_inline e.options (build_info (h.token ∷ h.after)) s.inline_block && full s.inline_block))
meets_seven turn.Copied e h s = false

-- the run of `format_from`, with it
unfoldable pub seven_from : Env → List Token → List Token → Switch → State → Answer
seven_from e before [] w s = finish (length before) s.text
seven_from e before (t ∷ after) w s =
    let turn = turn_of w t.kind t.value in
    let here : Here = record { before = before; token = t; after = after } in
    let s' = taken turn e here s in
    let rest = seven_from e (t ∷ before) after (switch_after turn w) s' in
    if meets_seven turn e here s then refusal 7 (length before) else unless_refused s'.text (length before) rest

unfoldable pub with_seven : Env → List Token → Answer
with_seven e ts = seven_from e [] ts switched_on start
