-- The reading ahead, a token at a time.
use mathlib.Core.Bool.{Bool, true, false}
use mathlib.Core.Path.{◌≡◌, refl, ap, sym, ◌∙◌}
use mathlib.Core.List.{List, [], ◌∷◌}
use Prim.Native.Nat.{ℕ, ◌+◌, ◌-◌, ◌≤◌, ◌<◌}
use native.Mathlib.Omega.{arith}
use lib.ListN.{length}
use Rattle.rules.specs.declared.TokenKind.{TokenKind}
use Rattle.rules.specs.declared.Sort.{Sort}
use Rattle.rules.specs.declared.Scan.{Scan}
use Rattle.rules.specs.Bytes.{bytes}
use Rattle.rules.specs.Base.{same}
use Rattle.rules.specs.Tokens.{Token}
use Rattle.rules.specs.Sheet.{token_of, tokens_from, here_at}
use Rattle.rules.specs.Span.{sort_of, sort_in, stops_at, counted_in, scan, unread}
use Rattle.around.specs.Readable.{Readable}
use Rattle.around.proofs.Lists.{tokens-step, tokens_none, readable_length}
use Rattle.ahead.specs.Small.{Small}
use Rattle.ahead.proofs.Small.{grows}

-- ---- the sort of a token, of kind k

module _ (t : Token) (k : TokenKind) (is : k ≡ t.kind) where
  pub by-sort : (v : TokenKind) → k ≡ v → sort_of v (same t.value (bytes ";")) (same t.value (bytes ",")) ≡ sort_in t
  unfolding sort_in
  by-sort v e = ap (λ (x : TokenKind). sort_of x (same t.value (bytes ";")) (same t.value (bytes ","))) (sym e ∙ is)

-- ---- one token of the reading

scan-go : (o : ℕ) (t : Token) (ts : List Token) (a : Scan) → stops_at o (sort_in t) a.level ≡ false → scan o (t ∷ ts) a ≡ scan o ts (counted_in o (sort_in t) (length t.value) a)
unfolding scan
scan-go o t ts a h = rw h

scan-stop : (o : ℕ) (t : Token) (ts : List Token) (a : Scan) → stops_at o (sort_in t) a.level ≡ true → scan o (t ∷ ts) a ≡ a
unfolding scan
scan-stop o t ts a h = rw h

scan-none : (o : ℕ) (a : Scan) → scan o [] a ≡ a
unfolding scan
scan-none o a = refl

-- token j of n is next, and a is the reading up to it: what is left of it gives the same
pub record Reading (s : List ℕ) (base n i o : ℕ) (a : Scan) (j : ℕ) : Type 0 where
  pub past : i < j
  pub up_to : j ≤ n
  pub small : Small o (j - (i + 1)) a
  pub same_end : scan o (tokens_from s base j (n - j)) a ≡ scan o (here_at s base n i).after (unread o)

pub reading_ends : (s : List ℕ) (base n i o : ℕ) (a : Scan) (j : ℕ) → Reading s base n i o a j → n ≤ j → a ≡ scan o (here_at s base n i).after (unread o)
reading_ends s base n i o a j r l = sym (scan-none o a) ∙ (rw (tokens_none s base j n l) at r.same_end)

module _ (s : List ℕ) (base n i o : ℕ) (a : Scan) (j : ℕ) (r : Reading s base n i o a j) (h : j < n) (x : Sort) (b : Bool) (is : x ≡ sort_in (token_of s base j)) (at-stop : b ≡ stops_at o x a.level) where
  left : scan o (token_of s base j ∷ tokens_from s base (j + 1) (n - (j + 1))) a ≡ scan o (here_at s base n i).after (unread o)
  left = rw (tokens-step s base j n h) at r.same_end

  stop_as : stops_at o (sort_in (token_of s base j)) a.level ≡ b
  stop_as = rw (← is) (sym at-stop)

  pub reading_stops : b ≡ true → a ≡ scan o (here_at s base n i).after (unread o)
  reading_stops t = sym (scan-stop o (token_of s base j) (tokens_from s base (j + 1) (n - (j + 1))) a (stop_as ∙ t)) ∙ left

  pub reading_turns : (l : ℕ) (v : Scan) → Readable s base n → b ≡ false → l ≡ length (token_of s base j).value → v ≡ counted_in o x l a → Reading s base n i o v (j + 1)
  reading_turns l v q t m c =
      let p = r.past in
      let k : j + 1 - (i + 1) ≡ j - (i + 1) + 1 = omega arith in
      let w : v ≡ counted_in o (sort_in (token_of s base j)) (length (token_of s base j).value) a = c ∙ rw (is, m) in
      record {
        past = omega arith;
        up_to = omega arith;
        small = rw (k, c) (grows o (j - (i + 1)) l x a r.small (readable_length s base n j l q h m));
        same_end = rw w (sym (scan-go o (token_of s base j) (tokens_from s base (j + 1) (n - (j + 1))) a (stop_as ∙ t)) ∙ left);
      }
