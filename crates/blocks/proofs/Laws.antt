-- The length of a block, a token at a time.
use mathlib.Core.Bool.{Bool, true, false, ◌||◌, or-false, or-true}
use mathlib.Core.Path.{◌≡◌, ap, sym, ◌∙◌}
use mathlib.Core.List.{List, [], ◌∷◌}
use Prim.Native.Nat.{ℕ, ◌+◌, ◌-◌, ◌*◌, ◌≤◌, ◌<◌}
use native.Mathlib.Omega.{arith}
use lib.ListN.{length}
use borrow.Author.Tests.{eq-eqb}
use Rattle.rules.specs.declared.Part.{Part}
use Rattle.rules.specs.declared.Part.TheVariants as part
use Rattle.rules.specs.declared.BlockInfo.{BlockInfo}
use Rattle.rules.specs.declared.Start.{Start}
use Rattle.std.specs.Prelude.{Option}
use Rattle.rules.specs.Base.{same}
use Rattle.rules.specs.Sheet.{token_of, tokens_from, here_at}
use Rattle.rules.specs.InlineBlock.{part_of, is_comment, closes_at, level_after, start_after, span_after, measured_in, measured, forbid, build_from, unbuilt, build_info}
use Rattle.around.specs.Readable.{Readable}
use Rattle.around.proofs.Lists.{tokens-step, tokens_none, readable_length}
use Rattle.blocks.proofs.Built.{build_none, build_stop, build_go}

-- ---- the bounds

-- after k tokens
pub record Small (k : ℕ) (b : BlockInfo) : Type 0 where
  pub len : b.length ≤ 65536 * k
  pub level : b.level ≤ k

grows : (k n : ℕ) (p : Part) (f : Bool) (b : BlockInfo) → Small k b → n ≤ 65536 → Small (k + 1) (forbid f (measured_in p n b))
grows k n part.Top f b h l = record { len = omega arith; level = omega arith }
grows k n part.Newline f b h l = record { len = omega arith; level = omega arith }
grows k n part.Open f b h l = record { len = omega arith; level = omega arith }
grows k n part.Close f b h l = record { len = omega arith; level = omega arith }
grows k n part.Comment f b h l = record { len = omega arith; level = omega arith }
grows k n part.Rest f b h l = record { len = omega arith; level = omega arith }

-- ---- one token of the block

-- the whole block, from token i of n on
abbrev pub block_at : List ℕ → ℕ → ℕ → ℕ → BlockInfo
block_at s base n i = build_info ((here_at s base n i).token ∷ (here_at s base n i).after)

-- token j of n is next, and b is measured up to it: what is left of it gives the same
pub record Measuring (s : List ℕ) (base n i : ℕ) (b : BlockInfo) (j : ℕ) : Type 0 where
  pub past : i ≤ j
  pub up_to : j ≤ n
  pub small : Small (j - i) b
  pub same_end : build_from (tokens_from s base j (n - j)) b ≡ block_at s base n i

pub measuring_starts : (s : List ℕ) (base n i : ℕ) → i < n → Measuring s base n i unbuilt i
unfolding build_info
measuring_starts s base n i h =
    record { past = omega arith; up_to = omega arith; small = record { len = omega arith; level = omega arith }; same_end = rw (tokens-step s base i n h) }

pub measuring_ends : (s : List ℕ) (base n i : ℕ) (b : BlockInfo) (j : ℕ) → Measuring s base n i b j → n ≤ j → b ≡ block_at s base n i
measuring_ends s base n i b j r l = sym (build_none b) ∙ (rw (tokens_none s base j n l) at r.same_end)

pub measuring_small : (s : List ℕ) (base n i : ℕ) (b : BlockInfo) (j : ℕ) → Readable s base n → Measuring s base n i b j → Small 1024 b
measuring_small s base n i b j q r =
    let f = q.placed.few in
    let u = r.up_to in
    let m = r.small in
    record { len = omega arith; level = omega arith }

-- what the code makes of a token of the part, its value being l bytes long, before it looks at the value
abbrev pub taken : Part → ℕ → BlockInfo → BlockInfo
taken part.Top l b =
    record b { length = b.length + l; start = start_after b.start b.level (b.length + l); top_level_token_span = span_after b.start b.level (b.length + l) b.top_level_token_span }
taken part.Newline l b = record b { length = b.length + l; has_reserved_tokens = true }
taken part.Open l b = record b { length = b.length + l; level = b.level + 1 }
taken part.Close l b = record b { length = b.length + l; level = b.level - 1 }
taken part.Comment l b = record b { length = b.length + l; has_forbidden_tokens = true }
taken part.Rest l b = record b { length = b.length + l }

-- that is what the rules make of it, f being whether the value is `;`
taken_is : (p : Part) (l : ℕ) (b : BlockInfo) (f : Bool) → forbid f (taken p l b) ≡ forbid (is_comment p || f) (measured_in p l b)
taken_is part.Top l b f = rw (or-false b.has_reserved_tokens)
taken_is part.Newline l b f = rw (or-true b.has_reserved_tokens)
taken_is part.Open l b f = rw (or-false b.has_reserved_tokens)
taken_is part.Close l b f = rw (or-false b.has_reserved_tokens)
taken_is part.Comment l b f = rw (or-false b.has_reserved_tokens, or-true b.has_forbidden_tokens)
taken_is part.Rest l b f = rw (or-false b.has_reserved_tokens)

-- a block by its facts
abbrev pub info : ℕ → ℕ → Option Start → ℕ → Bool → Bool → BlockInfo
info l v st sp f z = record { length = l; level = v; start = st; top_level_token_span = sp; has_forbidden_tokens = f; has_reserved_tokens = z }

module _ (s : List ℕ) (base n i : ℕ) (b : BlockInfo) (j : ℕ) (r : Measuring s base n i b j) (q : Readable s base n) (h : j < n) (l : ℕ) (len_is : l ≡ length (token_of s base j).value) where
  left : build_from (token_of s base j ∷ tokens_from s base (j + 1) (n - (j + 1))) b ≡ block_at s base n i
  left = rw (tokens-step s base j n h) at r.same_end

  pub length-room : b.length + l < 4294967296
  length-room =
      let m = measuring_small s base n i b j q r in
      let k = readable_length s base n j l q h len_is in
      omega arith

  module _ (p : Part) (part_is : p ≡ part_of (token_of s base j).kind) where
    measured_is : measured_in p l b ≡ measured (token_of s base j) b
    measured_is = rw (len_is, part_is)

    closes_as : (x : Bool) → closes_at p (level_after p b.level) ≡ x → closes_at (part_of (token_of s base j).kind) (measured (token_of s base j) b).level ≡ x
    closes_as x e = sym (ap (λ (q : Part). closes_at q (level_after q b.level)) part_is) ∙ e

    pub measuring_turns : (u : BlockInfo) (f : Bool) → u ≡ taken p l b → f ≡ same (token_of s base j).value (59 ∷ []) → closes_at p (level_after p b.level) ≡ false → Measuring s base n i (forbid f u) (j + 1)
    measuring_turns u f is forbids d =
        let o = r.past in
        let k : j + 1 - i ≡ j - i + 1 = omega arith in
        let e : forbid f u ≡ forbid (is_comment p || f) (measured_in p l b) = rw is (taken_is p l b f) in
        record {
          past = omega arith;
          up_to = omega arith;
          small = rw (k, e) (grows (j - i) l p (is_comment p || f) b r.small (readable_length s base n j l q h len_is));
          same_end =
              ap (build_from (tokens_from s base (j + 1) (n - (j + 1)))) (e ∙ rw (forbids, len_is, part_is))
              ∙ sym (build_go (token_of s base j) (tokens_from s base (j + 1) (n - (j + 1))) b (closes_as false d)) ∙ left;
        }

  pub measuring_closes : (v : ℕ) → part.Close ≡ part_of (token_of s base j).kind → v ≡ b.level - 1 → v ≡ 0 → record b { length = b.length + l; level = v } ≡ block_at s base n i
  measuring_closes v is e z =
      let d : closes_at part.Close (b.level - 1) ≡ true = eq-eqb (b.level - 1) 0 (sym e ∙ z) in
      let m : record b { length = b.length + l; level = v } ≡ measured_in part.Close l b = rw (e, or-false b.has_reserved_tokens) in
      m ∙ measured_is part.Close is
      ∙ sym (build_stop (token_of s base j) (tokens_from s base (j + 1) (n - (j + 1))) b (closes_as part.Close is true d)) ∙ left
