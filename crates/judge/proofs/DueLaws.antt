-- Laws of what is due of a token. Assumes nothing.
use mathlib.Core.Path.{◌≡◌, refl, sym, ap, ◌∙◌}
use mathlib.Core.Bool.{Bool, true, false}
use mathlib.Core.List.{List, [], ◌∷◌}
use Prim.Native.Nat.{ℕ}
use native.Mathlib.Numerals.{add-one}
use native.Mathlib.Omega.{arith}
use Rattle.rules.specs.declared.Place.{Place}
use Rattle.rules.specs.declared.Counts.{Counts}
use Rattle.rules.specs.declared.Case.{Case}
use Rattle.rules.specs.declared.Case.TheVariants as case
use Rattle.rules.specs.declared.Token as declared
use Rattle.rules.specs.declared.TokenKind.{TokenKind}
use Rattle.rules.specs.declared.TokenKind.TheVariants as kind
use Rattle.rules.specs.declared.Turn.{Turn}
use Rattle.rules.specs.declared.Turn.TheVariants as turn
use Rattle.rules.specs.Base.{when}
use Rattle.std.specs.Prelude.{if◌then◌else◌}
use Rattle.rules.specs.Tokens.{Token, is}
use Rattle.rules.specs.Text.{in_case}
use Rattle.rules.specs.Words.{body_at}
use Rattle.rules.specs.Sheet.{body_part, key_read, token_read, options_of, params_of, Env, env_of}
use Rattle.rules.specs.Params.{get, advances}
use Rattle.rules.specs.Rows.{lays_out}
use Rattle.rules.specs.Room.{counter_after}
use Rattle.rules.specs.Formatter.{format_reserved_word}
use Rattle.rules.specs.Due.{Role, blank, comment, placeholder, reserved, other, role_of}
use Rattle.records.specs.Sheeted.{Sheeted}
use Rattle.params.specs.declared.Shown.{Shown}
use Rattle.params.specs.Entries.{TokenIn, shown_of}
use Rattle.params.proofs.Shows.{shown-bytes, shown-inside, shown-index}
use Rattle.keeps.specs.CaseOf.{case_of}
use Rattle.keeps.proofs.CaseOf.{rules-case}
use Rattle.foreign.specs.Walk.{shown_on, shown_as}
use Rattle.judge.specs.declared.Form.{Form}
use Rattle.judge.specs.declared.Due.{Due}
use Rattle.judge.specs.Asked.{form_of, DueIn}

pub as_is : (v : List ℕ) → in_case case.AsIs v ≡ v
as_is [] = refl
as_is (x ∷ v) = ap (λ (w : List ℕ). x ∷ w) (as_is v)

-- ---- how a token is shown, by its kind's form

abbrev fills : Form → Bool
fills Form.Nothing = false
fills Form.Own = false
fills Form.Cased = false
fills Form.Filled = true

fills-is : (k : TokenKind) → is k kind.Placeholder ≡ fills (form_of (role_of k))
fills-is kind.TypeSpecifier = refl
fills-is kind.Whitespace = refl
fills-is kind.String = refl
fills-is kind.Reserved = refl
fills-is kind.ReservedTopLevel = refl
fills-is kind.ReservedTopLevelNoIndent = refl
fills-is kind.ReservedNewline = refl
fills-is kind.ReservedNewlineAfter = refl
fills-is kind.Operator = refl
fills-is kind.OpenParen = refl
fills-is kind.CloseParen = refl
fills-is kind.LineComment = refl
fills-is kind.BlockComment = refl
fills-is kind.Number = refl
fills-is kind.Placeholder = refl
fills-is kind.Word = refl
fills-is kind.Join = refl

shown_in : Env → ℕ → Form → Token → List ℕ
shown_in e i Form.Nothing t = []
shown_in e i Form.Own t = t.value
shown_in e i Form.Cased t = format_reserved_word e t.value
shown_in e i Form.Filled t = get e.params t.key i t.value

shown-in : (e : Env) (i : ℕ) (r : Role) (t : Token) → shown_on e i r t ≡ shown_in e i (form_of r) t
unfolding shown_on shown_in
shown-in e i blank t = refl
shown-in e i comment t = refl
shown-in e i placeholder t = refl
shown-in e i reserved t = refl
shown-in e i other t = refl

module _ (s : List ℕ) (c : Counts) (t : declared.Token) (i : ℕ) where
  -- nothing
  none-due : (u : Turn) → shown_as (env_of s c 0) i u (token_read s (body_at c) t) ≡ [] → counter_after (params_of s c) u (token_read s (body_at c) t) i ≡ i → Sheeted s c
      → DueIn s c u t i (record { place = record { start = 0; len = 0 }; casing = case.AsIs; index = i })
  unfolding body_part
  none-due u shown count h = record { bytes = sym shown; place_in = record { inside = let l = h.long in omega arith }; counter = sym count }

  -- the token's own value, in a case
  own-due : (u : Turn) (k : Case) → in_case k (body_part s (body_at c) t.value) ≡ shown_as (env_of s c 0) i u (token_read s (body_at c) t) → counter_after (params_of s c) u (token_read s (body_at c) t) i ≡ i → TokenIn s c t
      → DueIn s c u t i (record { place = t.value; casing = k; index = i })
  own-due u k shown count within = record { bytes = shown; place_in = within.value_in; counter = sym count }

  -- ---- laid out

  module _ (within : TokenIn s c t) (f : Form) (h : f ≡ form_of (role_of t.kind)) where
    -- what is shown by the form
    by_form : shown_as (env_of s c 0) i turn.LaidOut (token_read s (body_at c) t) ≡ shown_in (env_of s c 0) i f (token_read s (body_at c) t)
    unfolding shown_as
    by_form = shown-in (env_of s c 0) i (role_of t.kind) (token_read s (body_at c) t) ∙ rw (← h)

    unmoved : fills f ≡ false → counter_after (params_of s c) turn.LaidOut (token_read s (body_at c) t) i ≡ i
    unfolding counter_after lays_out when
    unmoved e = rw (fills-is t.kind, ← h, e)

    pub due-nothing : f ≡ Form.Nothing → (r : Due) → r ≡ record { place = record { start = 0; len = 0 }; casing = case.AsIs; index = i } → DueIn s c turn.LaidOut t i r
    unfolding shown_in
    due-nothing e r g = rw g (none-due turn.LaidOut (by_form ∙ rw e) (unmoved (rw e)) within.sheeted)

    pub due-own : f ≡ Form.Own → (v : Place) → v ≡ t.value → DueIn s c turn.LaidOut t i (record { place = v; casing = case.AsIs; index = i })
    unfolding shown_in
    due-own e v g = rw g (own-due turn.LaidOut case.AsIs (as_is (body_part s (body_at c) t.value) ∙ sym (by_form ∙ rw e)) (unmoved (rw e)) within)

    pub due-cased : f ≡ Form.Cased → (v : Place) → v ≡ t.value → (casing k : Case) → casing ≡ (options_of s).casing → k ≡ case_of s c casing (body_part s (body_at c) v) → DueIn s c turn.LaidOut t i (record { place = v; casing = k; index = i })
    unfolding shown_in format_reserved_word
    due-cased e v g casing k a b = rw g (own-due turn.LaidOut k (sym (by_form ∙ rw (e, ← rules-case s c 0 casing k (body_part s (body_at c) t.value) a (rw g at b)))) (unmoved (rw e)) within)

    pub due-filled : f ≡ Form.Filled → (r : Shown) → r ≡ shown_of s c t i → DueIn s c turn.LaidOut t i (record { place = r.place; casing = case.AsIs; index = r.index })
    unfolding shown_in counter_after lays_out when env_of
    due-filled e r g =
        let p : is t.kind kind.Placeholder ≡ true = fills-is t.kind ∙ rw (← h, e) in
        record {
          bytes = as_is (body_part s (body_at c) r.place) ∙ shown-bytes s c t i r g within.key_in ∙ sym (by_form ∙ rw e);
          place_in = shown-inside s c t i r g within.sheeted within.value_in;
          counter = rw p (shown-index s c t i r g ∙ ap (λ (n : ℕ). if advances (params_of s c) (key_read s (body_at c) t.key) then n else i) (add-one i));
        }
