-- Tokens as the rules see them: the declared kinds and numbers, with the bytes of values and names.
use Rattle.std.specs.Prelude.{if◌then◌else◌, Bool, List, ℕ, ◌-◌, eqb, None, Option, Some}
use Rattle.rules.specs.declared.TokenKind.{TokenKind}
use Rattle.rules.specs.declared.TokenKind.TheVariants as kind
use Rattle.rules.specs.declared.ZeroIndexed.{ZeroIndexed}
use Rattle.rules.specs.declared.OneIndexed.{OneIndexed}
use Rattle.rules.specs.Base.{any_of}

pub data Key : Type 0 where
  absent : Key
  named : List ℕ → Key
  zero_indexed : ZeroIndexed → Key
  one_indexed : OneIndexed → Key

-- create: its alias is `CREATE`
pub record Token : Type 0 where
  pub kind : TokenKind
  pub value : List ℕ
  pub key : Key
  pub create : Bool

-- a token with those before it, the nearest first, and those after it
pub record Here : Type 0 where
  pub before : List Token
  pub token : Token
  pub after : List Token

-- a kind's number in the sheet
abbrev pub kind_no : TokenKind → ℕ
kind_no kind.TypeSpecifier = 0
kind_no kind.Whitespace = 1
kind_no kind.String = 2
kind_no kind.Reserved = 3
kind_no kind.ReservedTopLevel = 4
kind_no kind.ReservedTopLevelNoIndent = 5
kind_no kind.ReservedNewline = 6
kind_no kind.ReservedNewlineAfter = 7
kind_no kind.Operator = 8
kind_no kind.OpenParen = 9
kind_no kind.CloseParen = 10
kind_no kind.LineComment = 11
kind_no kind.BlockComment = 12
kind_no kind.Number = 13
kind_no kind.Placeholder = 14
kind_no kind.Word = 15
kind_no kind.Join = 16

-- the two kinds are the same
abbrev pub is : TokenKind → TokenKind → Bool
is a b = eqb (kind_no a) (kind_no b)

abbrev pub one_of : List TokenKind → TokenKind → Bool
one_of ks k = any_of (is k) ks

-- the one conversion: a number that counts from one, as one that counts from nought
abbrev pub from_one : OneIndexed → Option ZeroIndexed
from_one n = if eqb n.0 0 then None else Some (record { 0 = n.0 - 1 })
