-- Wish 6: what a compacted sheet is to the sheet that it was made of.
use Rattle.std.specs.Prelude.{Ok}
use mathlib.Core.Path.{◌≡◌}
use mathlib.Core.List.{List}
use Prim.Native.Nat.{ℕ}
use native.Mathlib.Omega.{arith}
use Rattle.rules.specs.declared.Counts.{Counts}
use Rattle.rules.specs.Checks.{checked}
use Rattle.rules.specs.Sheet.{env_of, tokens_of}
use Rattle.rules.specs.Words.{word_at}
use Rattle.rules.specs.Answer.{is_withdrawn, answer, answer_as}
use Rattle.rules.specs.Rows.{to_lay_out, is_short, listed_as, listed, list_as, list_after}
use Rattle.rules.specs.Compacted.{compacted, SameSheet}
use Rattle.checks.proofs.Sound.{sound-sheeted}
use Rattle.compacted.proofs.Bytes.{length-compacted}
use Rattle.compacted.proofs.Kept.{kept-le}
use Rattle.compacted.proofs.Moved.{new_counts, long, counts-so}
use Rattle.compacted.proofs.Same.{tokens-same, env_same, inline-same}
use Rattle.compacted.proofs.Sound.{new-sound}
use Rattle.compacted.proofs.Again.{all-covered, compacted-again}

-- two sound sheets that say the same
module _ (s t : List ℕ) (c k : Counts) (hs : checked s ≡ Ok c) (ht : checked t ≡ Ok k) (ts : tokens_of t k ≡ tokens_of s c) (es : (room : ℕ) → env_of t k room ≡ env_of s c room) (ws : word_at t 28 ≡ word_at s 28) where
  same_answer : (room : ℕ) → answer t room ≡ answer s room
  unfolding answer answer_as is_withdrawn
  same_answer room = rw (hs, ht, ts, es room, ws)

  same-listed : (room n : ℕ) → listed t room n ≡ listed s room n
  unfolding listed listed_as is_short to_lay_out answer_as is_withdrawn
  same-listed room n = rw (hs, ht, ts, es room, ws)

  same-list : (room n : ℕ) → list_after t room n ≡ list_after s room n
  unfolding list_after list_as listed_as is_short to_lay_out answer_as is_withdrawn
  same-list room n = rw (hs, ht, ts, es room, ws)

pub same-sheet : (s : List ℕ) (c : Counts) → checked s ≡ Ok c → SameSheet s (compacted s c)
same-sheet s c e =
    let h = sound-sheeted s c e in
    let t = compacted s c in
    let k = new_counts s c in
    let n = counts-so s c h in
    let ht = new-sound s c h in
    let ts = tokens-same s c h in
    let es = env_same s c h in
    let ws = inline-same s c h in
    record {
      sound = rw n ht;
      answers = same_answer s t c k e ht ts es ws;
      listed_so = same-listed s t c k e ht ts es ws;
      lists = same-list s t c k e ht ts es ws;
      again = rw n (compacted-again s c h);
      covered = rw n (all-covered s c h);
      no_longer = omega (arith, h.long, length-compacted s c (long s c h), kept-le s c c.bytes);
    }
