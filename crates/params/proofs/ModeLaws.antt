-- Laws of the counter and of refusal 5: both only under Indexed. Assumes nothing.
use mathlib.Core.Path.{◌≡◌, refl, sym}
use mathlib.Core.Bool.{Bool, true, false}
use mathlib.Core.List.{List, [], ◌∷◌}
use Prim.Native.Nat.{ℕ}
use native.Mathlib.Omega.{arith}
use lib.Dec.{eqb}
use lib.ListN.{length}
use borrow.Author.Tests.{ne_eqb}
use Rattle.rules.specs.declared.PlaceholderKind.{PlaceholderKind}
use Rattle.rules.specs.declared.PlaceholderKind.TheVariants as key
use Rattle.rules.specs.declared.Counts.{Counts}
use Rattle.std.specs.Prelude.{if◌then◌else◌, Option, None, Some}
use Rattle.rules.specs.Tokens.{named}
use Rattle.rules.specs.Words.{word_at, body_at}
use Rattle.rules.specs.Sheet.{body_part, list_of, key_read, Param, QueryParams, NoParams, Indexed, Named, value_of, param_of, params_of}
use Rattle.rules.specs.Params.{advances, offends}
use Rattle.places.proofs.Laws.{length_part}
use Rattle.params.specs.declared.Mode.{Mode}
use Rattle.params.specs.Entries.{mode_from, KeyIn, takes_next, key_refused}

name-advances : (ps : List (List ℕ)) (v : List ℕ) (n : ℕ) → length v ≡ n → advances (Indexed ps) (named v) ≡ eqb n 0
unfolding advances
name-advances ps [] n h = rw (← h)
name-advances ps (x ∷ v) n h = rw (ne_eqb n 0 (λ z. omega arith))

key-advances : (ps : List (List ℕ)) (s : List ℕ) (base : ℕ) (k : Option PlaceholderKind) → KeyIn s base k → advances (Indexed ps) (key_read s base k) ≡ takes_next k
unfolding advances key_read takes_next
key-advances ps s base None h = refl
key-advances ps s base (Some (key.Named p)) h = name-advances ps (body_part s base p) p.len (length_part s base p (h.name_in p refl))
key-advances ps s base (Some (key.Zero n)) h = refl
key-advances ps s base (Some (key.One n)) h = refl

key-offends : (ps : List (List ℕ)) (s : List ℕ) (base : ℕ) (k : Option PlaceholderKind) → key_refused k ≡ offends (Indexed ps) (key_read s base k)
unfolding offends key_read key_refused
key-offends ps s base None = refl
key-offends ps s base (Some (key.Named p)) = refl
key-offends ps s base (Some (key.Zero n)) = refl
key-offends ps s base (Some (key.One n)) = refl

module _ (s : List ℕ) (c : Counts) where
  indexed : mode_from (word_at s 16) ≡ Mode.Indexed → params_of s c ≡ Indexed (list_of (value_of s c) 0 c.params)
  unfolding mode_from params_of
  indexed = go (eqb (word_at s 16) 0) (eqb (word_at s 16) 1)
    where
      go : (z o : Bool) → (if z then Mode.NoParams else if o then Mode.Indexed else Mode.Named) ≡ Mode.Indexed
          → (if z then NoParams else if o then Indexed (list_of (value_of s c) 0 c.params) else Named (list_of (param_of s c) 0 c.params)) ≡ Indexed (list_of (value_of s c) 0 c.params)
      go true o e = cc
      go false true e = refl
      go false false e = cc

  -- a test of the parameters that holds in no other mode
  elsewhere : (f : QueryParams → Bool) → f NoParams ≡ false → ((ps : List Param) → f (Named ps) ≡ false) → (mode_from (word_at s 16) ≡ Mode.Indexed → ⊥) → f (params_of s c) ≡ false
  unfolding mode_from params_of
  elsewhere f p q = go (eqb (word_at s 16) 0) (eqb (word_at s 16) 1)
    where
      go : (z o : Bool) → ((if z then Mode.NoParams else if o then Mode.Indexed else Mode.Named) ≡ Mode.Indexed → ⊥) → f (if z then NoParams else if o then Indexed (list_of (value_of s c) 0 c.params) else Named (list_of (param_of s c) 0 c.params)) ≡ false
      go true o n = p
      go false true n = absurd (n refl)
      go false false n = q (list_of (param_of s c) 0 c.params)

  module _ (k : Option PlaceholderKind) where
    pub moves : mode_from (word_at s 16) ≡ Mode.Indexed → KeyIn s (body_at c) k → advances (params_of s c) (key_read s (body_at c) k) ≡ takes_next k
    moves e h = rw (indexed e) (key-advances _ s (body_at c) k h)

    pub stays : (mode_from (word_at s 16) ≡ Mode.Indexed → ⊥) → advances (params_of s c) (key_read s (body_at c) k) ≡ false
    unfolding advances
    stays = elsewhere (λ ps. advances ps (key_read s (body_at c) k)) refl (λ ps. refl)

    pub offence : mode_from (word_at s 16) ≡ Mode.Indexed → offends (params_of s c) (key_read s (body_at c) k) ≡ key_refused k
    offence e = rw (indexed e) (sym (key-offends _ s (body_at c) k))

    pub no_offence : (mode_from (word_at s 16) ≡ Mode.Indexed → ⊥) → offends (params_of s c) (key_read s (body_at c) k) ≡ false
    unfolding offends
    no_offence = elsewhere (λ ps. offends ps (key_read s (body_at c) k)) refl (λ ps. refl)
