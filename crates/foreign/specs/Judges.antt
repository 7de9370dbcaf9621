-- Wish 13 for its reader: what the call's numbers say of a sheet and a text.
use Rattle.std.specs.Prelude.{◌≡◌, true, false, List, [], ◌∷◌, ◌++◌, ℕ, suc, ◌<◌, eqb, take, Ok}
use Rattle.rules.specs.declared.Counts.{Counts}
use Rattle.rules.specs.Base.{any_of}
use Rattle.rules.specs.Words.{counts_of}
use Rattle.rules.specs.Checks.{checked}
use Rattle.rules.specs.Sheet.{options_of, params_of, keeps_of, tokens_of}
use Rattle.rules.specs.Due.{strip, Piece, kept_tokens, due, due_of}
use Rattle.foreign.specs.declared.Judged.{Judged}

-- text begins with v
pub record Begins (v text : List ℕ) : Type 0 where
  pub rest : List ℕ
  pub whole : text ≡ v ++ rest

module _ (s : List ℕ) (c : Counts) where
  -- the kept ones of the first i tokens, and what is due of them
  abbrev pub kept_first : ℕ → List Piece
  kept_first i = kept_tokens true false (take i (tokens_of s c))

  abbrev pub due_first : ℕ → List ℕ
  due_first i = due (params_of s c) (keeps_of s c) (options_of s).casing (take i (tokens_of s c))

  -- token i is kept; the text has all that is due before it, and not what is due with it
  pub record LacksAt (text : List ℕ) (i : ℕ) : Type 0 where
    pub within : i < c.tokens
    pub piece : Piece
    pub kept : kept_first (suc i) ≡ kept_first i ++ (piece ∷ [])
    pub before : Begins (due_first i) (strip text)
    pub lacks : Begins (due_first (suc i)) (strip text) → ⊥

  -- the text has all that is due, and more; i is the token count
  pub record MoreAt (text : List ℕ) (i : ℕ) : Type 0 where
    pub past : i ≡ c.tokens
    pub byte : ℕ
    pub rest : List ℕ
    pub more : strip text ≡ due_of s ++ (byte ∷ rest)

  pub data NoAt (text : List ℕ) (i : ℕ) : Type 0 where
    lacking : LacksAt text i → NoAt text i
    exceeding : MoreAt text i → NoAt text i

-- the call on sheet s and a text: its numbers
pub record Judges (s text : List ℕ) (r : Judged) : Type 0 where
  -- where nothing is refused the sheet passes checks 1 to 4
  pub sound : r.refusal ≡ 0 → checked s ≡ Ok (counts_of s)
  -- it says yes exactly if the text, white bytes taken out, is what is due
  pub yes_due : r.refusal ≡ 0 → r.matches ≡ 1 → strip text ≡ due_of s
  pub due_yes : r.refusal ≡ 0 → strip text ≡ due_of s → r.matches ≡ 1
  -- else the token is the first kept one whose bytes aren't matched, or the token count
  pub no_at : r.refusal ≡ 0 → (r.matches ≡ 1 → ⊥) → NoAt s (counts_of s) text r.token
  -- no other refusal is given, and a refusal says nothing of the text
  pub given : any_of (eqb r.refusal) (0 ∷ 1 ∷ 2 ∷ 3 ∷ 4 ∷ 5 ∷ 15 ∷ []) ≡ true
  pub refused : (r.refusal ≡ 0 → ⊥) → (r.matches ≡ 0) × (r.token ≡ 0)
