-- Wish 3 for its reader: after any list of operations from the empty record, the count that is kept is the recount.
use Rattle.std.specs.Prelude.{if◌then◌else◌, ◌≡◌, Bool, ◌&&◌, not, List, [], ◌∷◌, map, ℕ, ◌+◌, ◌-◌}
use Rattle.rules.specs.declared.IndentType.{IndentType}
use Rattle.rules.specs.declared.IndentType.TheVariants.{Top, Block, FoldedBlock}
use Rattle.rules.specs.declared.SpanInfo.{SpanInfo}
use Rattle.rules.specs.Base.{when, full}
use Rattle.rules.specs.Indentation.{Indentation, no_indentation, increase_top_level, increase_block_level, decrease_top_level, decrease_block_level, set_previous_reserved, set_previous_top_level, unfolded}
use Rattle.indentation.specs.declared.Indentation.{Indentation as Code}
use Rattle.indentation.specs.Of.{types_of, indentation_of, ends_top, Clean, Stands}

-- ---- lists of operations, by the rules

-- a top-level entry is pushed or dropped where its flag holds; a block is folded where its flag holds
pub data Operation (W : Type 0) : Type 0 where
  reset : Operation W
  push_top : Bool → SpanInfo → Operation W
  push_block : Bool → Operation W
  drop_top : Bool → Operation W
  close_block : Operation W
  note_reserved : W → Operation W
  note_top_level : W → SpanInfo → Operation W

unfoldable pub after : {W : Type 0} → Operation W → Indentation W → Indentation W
after reset i = no_indentation
after (push_top b sp) i = when b (increase_top_level sp) i
after (push_block folded) i = increase_block_level folded i
after (drop_top b) i = when b decrease_top_level i
after close_block i = (decrease_block_level i).left
after (note_reserved v) i = set_previous_reserved v i
after (note_top_level v sp) i = set_previous_top_level v sp i

-- the first operation first
unfoldable pub run : {W : Type 0} → List (Operation W) → Indentation W → Indentation W
run [] i = i
run (o ∷ os) i = run os (after o i)

-- ---- the count: a number that each operation moves, never a recount

-- each top-level entry that goes lowers it, and so does the block, unless it is folded
unfoldable pub closing : List IndentType → ℕ → ℕ
closing [] n = n
closing (Top ∷ ts) n = closing ts (n - 1)
closing (Block ∷ ts) n = n - 1
closing (FoldedBlock ∷ ts) n = n

-- from the count n and the entries ts before the operation
unfoldable pub moved : {W : Type 0} → Operation W → List IndentType → ℕ → ℕ
moved reset ts n = 0
moved (push_top b sp) ts n = if b && not (full ts) then n + 1 else n
moved (push_block folded) ts n = if not folded && not (full ts) then n + 1 else n
moved (drop_top b) ts n = if b && ends_top ts then n - 1 else n
moved close_block ts n = closing ts n
moved (note_reserved v) ts n = n
moved (note_top_level v sp) ts n = n

unfoldable pub kept : {W : Type 0} → List (Operation W) → Indentation W → ℕ → ℕ
kept [] i n = n
kept (o ∷ os) i n = kept os (after o i) (moved o i.indent_types n)

-- ---- the code's record

-- a call of one of its operations, and the record that came of it; of `decrease_block_level`, what is left
pub record Call : Type 0 where
  pub operation : Operation ℕ
  pub result : Code

abbrev pub operations : List Call → List (Operation ℕ)
operations cs = map (λ (c : Call). c.operation) cs

-- each call, the first on the record i and each other on the result before it, kept its contract: on a clean record it gives the one that stands for the rules' result
abbrev pub Promised : Code → List Call → Type 0
Promised i [] = Unit {0}
Promised i (c ∷ cs) = (Clean i → Stands (after c.operation (indentation_of i)) c.result) × Promised c.result cs

-- the record after the last call
abbrev pub reached : Code → List Call → Code
reached i [] = i
reached i (c ∷ cs) = reached c.result cs

-- ---- what is claimed

-- of the rules: the count, from 0 at the empty record, is the recount
abbrev pub KeptRight : Type 1
KeptRight = (W : Type 0) (os : List (Operation W)) → kept os no_indentation 0 ≡ unfolded (run os no_indentation).indent_types

-- of a record r after the operations os: its level is the recount of its own entries and of the rules' entries, and the count that was kept
pub record Counted (os : List (Operation ℕ)) (r : Code) : Type 0 where
  pub stands : Stands (run os no_indentation) r
  pub own : r.level ≡ unfolded (types_of r)
  pub rules : r.level ≡ unfolded (run os no_indentation).indent_types
  pub kept_so : r.level ≡ kept os no_indentation 0

-- of the code: so it is after any calls on what `new` gives
abbrev pub LevelRight : Type 0
LevelRight = (i : Code) (cs : List Call) → Stands no_indentation i → Promised i cs → Counted (operations cs) (reached i cs)
