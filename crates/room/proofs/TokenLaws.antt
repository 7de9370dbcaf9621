-- Laws of what a token shows, and of what is counted for it. Assumes nothing.
use mathlib.Core.Path.{◌≡◌, refl, sym, ap, ◌∙◌}
use mathlib.Core.Bool.{Bool, true, false}
use mathlib.Core.List.{List}
use Prim.Native.Nat.{ℕ}
use native.Mathlib.Numerals.{add-one}
use Rattle.rules.specs.declared.Counts.{Counts}
use Rattle.rules.specs.declared.Token.{Token}
use Rattle.rules.specs.declared.TokenKind.{TokenKind}
use Rattle.rules.specs.declared.TokenKind.TheVariants as kind
use Rattle.rules.specs.declared.Turn.TheVariants as turn
use Rattle.rules.specs.Base.{when}
use Rattle.std.specs.Prelude.{if◌then◌else◌}
use Rattle.rules.specs.Tokens.{is}
use Rattle.rules.specs.Words.{body_at}
use Rattle.rules.specs.Sheet.{key_read, params_of}
use Rattle.rules.specs.Params.{advances}
use Rattle.rules.specs.Rows.{lays_out}
use Rattle.rules.specs.Room.{shown_by, counter_after}
use Rattle.params.specs.declared.Shown.{Shown}
use Rattle.params.specs.Entries.{TokenIn, shown_of}
use Rattle.params.proofs.Shows.{shown-bytes, shown-inside, shown-index}
use Rattle.room.specs.Tallied.{Showing}

-- ---- kinds

pub not_white : (k : TokenKind) → (k ≡ kind.Whitespace → ⊥) → is k kind.Whitespace ≡ false
not_white kind.TypeSpecifier n = refl
not_white kind.Whitespace n = absurd (n refl)
not_white kind.String n = refl
not_white kind.Reserved n = refl
not_white kind.ReservedTopLevel n = refl
not_white kind.ReservedTopLevelNoIndent n = refl
not_white kind.ReservedNewline n = refl
not_white kind.ReservedNewlineAfter n = refl
not_white kind.Operator n = refl
not_white kind.OpenParen n = refl
not_white kind.CloseParen n = refl
not_white kind.LineComment n = refl
not_white kind.BlockComment n = refl
not_white kind.Number n = refl
not_white kind.Placeholder n = refl
not_white kind.Word n = refl
not_white kind.Join n = refl

module _ (s : List ℕ) (c : Counts) (t : Token) (i : ℕ) (within : TokenIn s c t) (b : Bool) (h : b ≡ lays_out turn.LaidOut t.kind) where
  pub shows_entry : b ≡ true → (r : Shown) → r ≡ shown_of s c t i → Showing s c t i r
  unfolding lays_out shown_by counter_after when
  shows_entry e r hr =
      let p : is t.kind kind.Placeholder ≡ true = sym h ∙ e in
      record {
        bytes = rw p (shown-bytes s c t i r hr within.key_in);
        place_in = shown-inside s c t i r hr within.sheeted within.value_in;
        counter = rw p (shown-index s c t i r hr ∙ ap (λ (n : ℕ). if advances (params_of s c) (key_read s (body_at c) t.key) then n else i) (add-one i));
      }
