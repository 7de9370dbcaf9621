-- The new sheet says the same: options, parameters, keep words and tokens.
use mathlib.Core.Path.{◌≡◌, refl, ap}
use mathlib.Core.List.{List}
use Prim.Native.Nat.{ℕ, zero, suc, ◌+◌, ◌*◌, ◌%◌, ◌<◌}
use native.Mathlib.Omega.{arith}
use Rattle.rules.specs.declared.Counts.{Counts}
use Rattle.rules.specs.Tokens.{Key, named}
use Rattle.rules.specs.Words.{word_at, place_at, class_bits, key_of, token_from, tokens_at, params_at, keeps_at, body_at}
use Rattle.rules.specs.Sheet.{body_part, list_of, key_read, token_of, options_of, name_of, value_of, param_of, params_of, keep_of, keeps_of, env_of, tokens_of}
use Rattle.rules.specs.Compacted.{compacted}
use Rattle.records.specs.Sheeted.{Sheeted}
use Rattle.compacted.proofs.Places.{of-value, of-name, of-record}
use Rattle.compacted.proofs.Moved.{new_counts, head-stays, packed_stays, key-stays, part-moves}

same-list : {A : Type 0} (f g : ℕ → A) (i k n : ℕ) → i + k ≡ n → ((j : ℕ) → j < n → f j ≡ g j) → list_of f i k ≡ list_of g i k
unfolding list_of
same-list f g i zero n e h = refl
same-list f g i (suc k) n e h = rw (h i (omega arith), same-list f g (suc i) k n (omega arith) h)

same_key : (s t : List ℕ) (base class a b a' b' : ℕ) → (class ≡ 1 → body_part t base (record { start = a'; len = b' }) ≡ body_part s base (record { start = a; len = b })) → ((class ≡ 1 → ⊥) → a' ≡ a) → key_read t base (key_of class a' b') ≡ key_read s base (key_of class a b)
unfolding key_of key_read
same_key s t base zero a b a' b' p q = refl
same_key s t base (suc zero) a b a' b' p q = ap named (p refl)
same_key s t base (suc (suc zero)) a b a' b' p q = rw (q (λ e. omega arith))
same_key s t base (suc (suc (suc n))) a b a' b' p q = rw (q (λ e. omega arith))

-- the key of the token record at a byte offset
abbrev key_at : List ℕ → ℕ → ℕ → ℕ → Key
key_at s base class at = key_read s base (key_of class (word_at s (at + 12)) (word_at s (at + 16)))

module _ (s : List ℕ) (c : Counts) (h : Sheeted s c) where
  key-same : (i : ℕ) → i < c.tokens → key_at (compacted s c) (body_at c) (class_bits (word_at s (tokens_at + 20 * i))) (tokens_at + 20 * i) ≡ key_at s (body_at c) (class_bits (word_at s (tokens_at + 20 * i))) (tokens_at + 20 * i)
  unfolding place_at
  key-same i l =
      let at = tokens_at + 20 * i in
      let o : at + 12 + 4 ≡ at + 16 = omega arith in
      same_key s (compacted s c) (body_at c) (class_bits (word_at s at)) (word_at s (at + 12)) (word_at s (at + 16)) (word_at (compacted s c) (at + 12)) (word_at (compacted s c) (at + 16))
      (λ e. rw o at (part-moves s c h (at + 12) (of-name i l refl e)))
      (key-stays s c h i l)

  token-same : (i : ℕ) → i < c.tokens → token_of (compacted s c) (body_at c) i ≡ token_of s (body_at c) i
  unfolding token_from
  token-same i l = rw (packed_stays s c h i l, part-moves s c h (tokens_at + 20 * i + 4) (of-value i l refl), key-same i l)

  pub tokens-same : tokens_of (compacted s c) (new_counts s c) ≡ tokens_of s c
  unfolding tokens_of
  tokens-same = same-list (token_of (compacted s c) (body_at c)) (token_of s (body_at c)) 0 c.tokens c.tokens (omega arith) token-same

  -- place m of the parameters and keep words
  record_same : (m at : ℕ) → m < 2 * c.params + c.keeps → at ≡ params_at c + 8 * m → body_part (compacted s c) (body_at c) (place_at (compacted s c) at) ≡ body_part s (body_at c) (place_at s at)
  record_same m at l e = part-moves s c h at (of-record m l e)

  name-same : (i : ℕ) → i < c.params → name_of (compacted s c) (new_counts s c) i ≡ name_of s c i
  unfolding name_of
  name-same i l = record_same (2 * i) (params_at c + 16 * i) (omega arith) (omega arith)

  value_same : (i : ℕ) → i < c.params → value_of (compacted s c) (new_counts s c) i ≡ value_of s c i
  unfolding value_of
  value_same i l = record_same (2 * i + 1) (params_at c + 16 * i + 8) (omega arith) (omega arith)

  keep_same : (i : ℕ) → i < c.keeps → keep_of (compacted s c) (new_counts s c) i ≡ keep_of s c i
  unfolding keep_of
  keep_same i l = record_same (2 * c.params + i) (keeps_at c + 8 * i) (omega arith) (omega arith)

  params_same : params_of (compacted s c) (new_counts s c) ≡ params_of s c
  unfolding params_of
  params_same =
      let t = compacted s c in
      let n = new_counts s c in
      rw (
        head-stays s c h 16 refl (omega arith) (λ o. omega arith),
        same-list (value_of t n) (value_of s c) 0 c.params c.params (omega arith) value_same,
        same-list (param_of t n) (param_of s c) 0 c.params c.params (omega arith) (λ i l. rw (name-same i l, value_same i l)),
      )

  keeps_same : keeps_of (compacted s c) (new_counts s c) ≡ keeps_of s c
  unfolding keeps_of
  keeps_same = same-list (keep_of (compacted s c) (new_counts s c)) (keep_of s c) 0 c.keeps c.keeps (omega arith) keep_same

  options-same : options_of (compacted s c) ≡ options_of s
  unfolding options_of
  options-same =
      let stays : (at : ℕ) → at % 4 ≡ 0 → 12 < at → at < 48 → word_at (compacted s c) at ≡ word_at s at = λ at m u l. head-stays s c h at m l (λ o. omega arith) in
      rw (stays 20 refl (omega arith) (omega arith), stays 24 refl (omega arith) (omega arith), stays 28 refl (omega arith) (omega arith), stays 32 refl (omega arith) (omega arith), stays 36 refl (omega arith) (omega arith), stays 40 refl (omega arith) (omega arith), stays 44 refl (omega arith) (omega arith))

  -- word 7, whatever it is
  pub inline-same : word_at (compacted s c) 28 ≡ word_at s 28
  inline-same = head-stays s c h 28 refl (omega arith) (λ o. omega arith)

  pub env_same : (room : ℕ) → env_of (compacted s c) (new_counts s c) room ≡ env_of s c room
  unfolding env_of
  env_same room = rw (options-same, params_same, keeps_same)
