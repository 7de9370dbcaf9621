-- What callers of `get` may say of its result r: the bytes and the entry are those of the rules, the place lies in the bodies, the entry is one of the list, the counter is the rules'.
-- Assumes nothing.
use mathlib.Core.Path.{◌≡◌, refl}
use mathlib.Core.Bool.{Bool, true, false}
use mathlib.Core.List.{List}
use Prim.Native.Nat.{ℕ, ◌+◌, ◌≤◌, ◌<◌}
use native.Mathlib.Omega.{arith}
use Rattle.rules.specs.declared.Token.{Token}
use Rattle.rules.specs.declared.Counts.{Counts}
use Rattle.std.specs.Prelude.{if◌then◌else◌, Option, None, Some, unwrap_or}
use Rattle.rules.specs.Words.{token_at, body_at}
use Rattle.rules.specs.Sheet.{body_part, key_read, value_of, params_of}
use Rattle.rules.specs.Params.{source, get, advances}
use Rattle.tokens.specs.Placed.{Inside}
use Rattle.records.specs.Sheeted.{Sheeted}
use Rattle.params.specs.declared.Found.{Found}
use Rattle.params.specs.declared.Shown.{Shown}
use Rattle.params.specs.Entries.{KeyIn, entry_for, place_in, found_of, shown_of}
use Rattle.params.specs.Found.{Below}
use Rattle.params.proofs.FoundLaws.{bytes_of, entry-is, entry-bytes, entry_below}

-- a token of a checked sheet has its places in the bodies
module _ (s : List ℕ) (c : Counts) (t : Token) (k : ℕ) (sheeted : Sheeted s c) (h : k < c.tokens) (e : t ≡ token_at s k) where
  pub key_in : KeyIn s (body_at c) t.key
  key_in = rw e (record { name_in = (sheeted.tokens.within k h).name_in })

  pub value_in : Inside s (body_at c) t.value
  value_in = rw e (sheeted.tokens.within k h).value_in

step : (b : Bool) (i : ℕ) → (if b then i + 1 else i) ≤ i + 1
step true i = omega arith
step false i = omega arith

module _ (s : List ℕ) (c : Counts) (t : Token) (i : ℕ) (r : Shown) (h : r ≡ shown_of s c t i) where
  pub shown-bytes : KeyIn s (body_at c) t.key → body_part s (body_at c) r.place ≡ get (params_of s c) (key_read s (body_at c) t.key) i (body_part s (body_at c) t.value)
  unfolding shown_of get found_of place_in value_of
  shown-bytes kin = rw (h, ← entry-bytes s c t.key i kin) (go (entry_for s c t.key i))
    where
      go : (e : Option ℕ) → body_part s (body_at c) (place_in s c t.value e) ≡ unwrap_or (bytes_of s c e) (body_part s (body_at c) t.value)
      go (Some j) = refl
      go None = refl

  pub shown-inside : Sheeted s c → Inside s (body_at c) t.value → Inside s (body_at c) r.place
  unfolding shown_of found_of place_in
  shown-inside sheeted own = rw h (go (entry_for s c t.key i) (entry_below s c t.key i))
    where
      go : (e : Option ℕ) → Below c.params e → Inside s (body_at c) (place_in s c t.value e)
      go (Some j) b = (sheeted.params.within j (b j refl)).value_in
      go None b = own

  pub shown-source : KeyIn s (body_at c) t.key → r.entry ≡ source (params_of s c) (key_read s (body_at c) t.key) i
  unfolding shown_of found_of
  shown-source kin = rw h (entry-is s c i t.key kin)

  pub shown-below : Below c.params r.entry
  unfolding shown_of found_of
  shown-below = rw h (entry_below s c t.key i)

  -- without the counter, it is what is found
  pub shown-found : record { place = r.place; entry = r.entry } ≡ found_of s c t i
  unfolding shown_of
  shown-found = rw h

  pub shown-index : r.index ≡ (if advances (params_of s c) (key_read s (body_at c) t.key) then i + 1 else i)
  unfolding shown_of
  shown-index = rw h

  -- at most one step a token: after n tokens it is at most n
  pub shown-step : (n : ℕ) → i ≤ n → r.index ≤ n + 1
  shown-step n l = rw shown-index (let m = step (advances (params_of s c) (key_read s (body_at c) t.key)) i in omega arith)

-- with the counter, what is found is what is shown
pub found-shown : (s : List ℕ) (c : Counts) (t : Token) (i : ℕ) (f : Found) (m : ℕ) → f ≡ found_of s c t i → m ≡ (shown_of s c t i).index → record { place = f.place; entry = f.entry; index = m } ≡ shown_of s c t i
unfolding shown_of
found-shown s c t i f m e g = rw (e, g)
